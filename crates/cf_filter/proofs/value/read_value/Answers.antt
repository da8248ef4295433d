use Rattle.std.proofs.Common.{◌≡◌, Option, Some, None, IfSome, IfNone, List, ℕ, sym}
use Rattle.cf_row.specs.declared.schema.Kind.{Kind}
use Rattle.cf_row.specs.declared.row.Value.{Value}
use Rattle.cf_filter.specs.Values.{value_at}
use Rattle.cf_filter.specs.Grammar.{ValueText}
use Rattle.cf_filter.proofs.ValueLaws.{value_only, value_found}
use Rattle.cf_filter.proofs.value.read_value.Goals as goal

if_some : (kind : Kind) (text : List ℕ) (o : Option Value) → o ≡ value_at kind text → IfSome o (ValueText kind text)
if_some kind text (Some value) e = value_found kind text value (sym e)
if_some kind text None e = _

if_none : (kind : Kind) (text : List ℕ) (o : Option Value) → o ≡ value_at kind text → IfNone o ((value : Value) → ValueText kind text value → ⊥)
if_none kind text (Some value) e = _
if_none kind text None e = λ value h. let some = value_only kind text value h in cc

pub returns-clause-found : goal.returns-clause-found
returns-clause-found c = if_some c.args.kind c.args.text.now c.value_of.result c.value_of.ensures

pub returns-clause-none : goal.returns-clause-none
returns-clause-none c = if_none c.args.kind c.args.text.now c.value_of.result c.value_of.ensures
