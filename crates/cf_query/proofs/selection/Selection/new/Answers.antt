use Rattle.std.proofs.Common.{◌≡◌, ◌∙◌, List, ap, sym, subst}
use Rattle.std.specs.List.{list_all}
use Rattle.cf_row.specs.declared.schema.Attr.{Attr}
use Rattle.cf_row.specs.declared.expr.Atom.{Atom}
use Rattle.cf_row.specs.Expr.{atom_count, atom_suits}
use Rattle.cf_row.proofs.Bytes.{both}
use Rattle.std.specs.Prelude.{nat_le}
use Rattle.cf_shape.specs.Lanes.{ShapeValue}
use Rattle.cf_query.specs.Selecting.{ArePlaces, is_plain}
use Rattle.cf_query.proofs.Selecting.{plain_expr}
use Rattle.cf_query.proofs.selection.Selection.new.Goals as goal

pub invariant_of-result : goal.invariant_of-result
invariant_of-result c =
    let attrs = c.args.log.now.shape.schema in
    let expr = c.args.expr.now in
    let schema : c.schema.result.now ≡ attrs = c.schema.ensures ∙ ap (λ (s : ShapeValue). s.schema) c.shape.ensures.shape in
    let suit = (both (nat_le (atom_count expr) 32) (list_all (list_all (atom_suits attrs)) expr) c.requires.suits).1 in (
      c.requires.suits,
      subst (λ (xs : List Attr). ArePlaces xs c.places_of.result) schema c.places_of.ensures.places,
      c.places_of.ensures.long,
      λ plain. plain_expr attrs expr suit
          (ap (list_all (list_all (λ (atom : Atom). is_plain atom.low))) (sym c.conjunctions.ensures) ∙ (sym c.each_is_plain.ensures ∙ plain)),
    )
