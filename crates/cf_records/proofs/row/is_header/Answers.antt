use Rattle.std.proofs.Common.{◌≡◌, ◌∙◌, List, ℕ, length, slice_get, Some, refl, sym, ap}
use Rattle.std.proofs.lemmas.Bool.{false≢true}
use Rattle.std.proofs.lemmas.Option.{slice_get_read}
use Rattle.csv.specs.Records.{fields_of}
use Rattle.cf_row.specs.declared.schema.Attr.{Attr}
use Rattle.cf_records.proofs.Values.{one_name, other_name}
use Rattle.cf_records.proofs.row.is_header.Goals as goal

pub returns-then-not-is_field : goal.returns-then-not-is_field
returns-then-not-is_field c =
    let attrs = c.args.attrs.now in
    let fields = fields_of c.args.line.now in
    let column = c.loop-column.column in
    let attr = c.index-attrs-column.result in
    let attr_is : slice_get attrs column ≡ Some attr = slice_get_read attrs (length attrs) column attr refl c.loop-column-test.true c.index-attrs-column.is in
    let name_is : c.as_str.result.now ≡ attr.name = c.as_str.ensures ∙ ap (λ (a : Attr). a.name) (sym c.index-attrs-column.is) in
    let not : slice_get fields column ≡ Some attr.name → ⊥ = λ at. let is = c.is_field.ensures.1 (at ∙ ap (λ (xs : List ℕ). Some xs) (sym name_is)) in
    cc (is, c.if-not-is_field.true) in
    (λ e. absurd (false≢true e), λ same. absurd (other_name attrs fields column attr attr_is not same))

pub loop-column-preserved : goal.loop-column-preserved
loop-column-preserved c =
    let attrs = c.args.attrs.now in
    let fields = fields_of c.args.line.now in
    let column = c.loop-column.column in
    let attr = c.index-attrs-column.result in
    let attr_is : slice_get attrs column ≡ Some attr = slice_get_read attrs (length attrs) column attr refl c.loop-column-test.true c.index-attrs-column.is in
    let name_is : c.as_str.result.now ≡ attr.name = c.as_str.ensures ∙ ap (λ (a : Attr). a.name) (sym c.index-attrs-column.is) in
    one_name attrs fields column attr c.loop-column.invariant attr_is (c.is_field.ensures.0 c.if-not-is_field.false ∙ ap (λ (xs : List ℕ). Some xs) name_is)
