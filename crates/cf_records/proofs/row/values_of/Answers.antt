use Rattle.std.proofs.Common.{◌≡◌, ◌⊎◌, ◌∙◌, sym, subst, length, slice_get, Some, inr, List, ℕ, refl, ◌++◌, ◌∷◌, [], take, ◌+◌}
use Rattle.std.proofs.lemmas.Option.{slice_get_read}
use Rattle.csv.specs.Records.{fields_of}
use Rattle.cf_row.specs.declared.row.Value.{Value}
use Rattle.cf_row.specs.declared.schema.Attr.{Attr}
use Rattle.cf_filter.specs.Grammar.{ValueText}
use Rattle.cf_records.specs.Records.{HaveValues}
use Rattle.cf_records.proofs.Values.{one_value}
use Rattle.cf_records.proofs.row.values_of.Goals as goal

pub returns-in-None : goal.returns-in-None
returns-in-None c =
    let attrs = c.args.attrs.now in
    let column = c.loop-column.column in
    let attr = c.index-attrs-column.result in
    let attr_is : slice_get attrs column ≡ Some attr = slice_get_read attrs (length attrs) column attr refl c.loop-column-test.true c.index-attrs-column.is in
    let none = c.in-None.ensures.none in
    inr (
      refl,
      c.requires.counted,
      record {
        values = c.loop-column.values.items;
        before = c.loop-column.invariant;
        attr = attr;
        attr_is = attr_is;
        field = none.0;
        field_is = none.1;
        none = subst (λ (a : Attr). (value : Value) → ValueText a.kind none.0 value → ⊥) (sym c.index-attrs-column.is) none.2;
      },
    )

pub loop-column-preserved : goal.loop-column-preserved
loop-column-preserved c =
    let attrs = c.args.attrs.now in
    let fields = fields_of c.args.line.now in
    let column = c.loop-column.column in
    let attr = c.index-attrs-column.result in
    let attr_is : slice_get attrs column ≡ Some attr = slice_get_read attrs (length attrs) column attr refl c.loop-column-test.true c.index-attrs-column.is in
    let found = c.in-Some.ensures.found in
    let more = one_value attrs fields c.loop-column.values.items column attr found.0 c.in-Some.value c.loop-column.invariant attr_is found.1
    (subst (λ (a : Attr). ValueText a.kind found.0 c.in-Some.value) (sym c.index-attrs-column.is) found.2) in
    subst (λ (vs : List Value). HaveValues (take (column + 1) attrs) (take (column + 1) fields) vs) (sym c.in_ok-push-in-Some.ensures.items) more
