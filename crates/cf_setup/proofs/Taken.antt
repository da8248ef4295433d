-- Values and expressions of a line.
use Rattle.std.proofs.Common.{◌≡◌, ℕ, List, Option, Some, None, IfSome, IfNone, Result, Ok, Err, refl, sym, ap, ◌∙◌}
use Rattle.cf_row.specs.declared.schema.Kind.{Kind}
use Rattle.cf_row.specs.declared.row.Value.{Value}
use Rattle.cf_row.specs.declared.expr.Atom.{Atom}
use Rattle.cf_filter.specs.declared.fault.Offence.{Offence}
use Rattle.cf_filter.specs.declared.fault.Offence.TheVariants.{Syntax, UnknownName, BadOperator, ValueRange, TooLong}
use Rattle.cf_filter.specs.declared.fault.OffenceAt.{OffenceAt}
use Rattle.cf_filter.specs.Values.{value_at}
use Rattle.cf_filter.specs.Exprs.{expr_at}
use Rattle.cf_filter.specs.Grammar.{ValueText}
use Rattle.cf_filter.proofs.ValueLaws.{value_only}
use Rattle.cf_setup.specs.declared.fault.LineFault.{LineFault}
use Rattle.cf_setup.specs.declared.fault.LineFault.TheVariants.{Breaks, Memory}
use Rattle.cf_setup.specs.Codes.{code_number}
use Rattle.cf_setup.specs.Drafts.{DraftValue, attrs_of}
use Rattle.cf_setup.specs.Rules.{expr_rules}
use Rattle.cf_setup.specs.Reading.{code_of, first_broken, ExprCoded, ExprTaken}

pub value_is : (kind : Kind) (text : List ℕ) (o : Option Value) → IfSome o (ValueText kind text) → IfNone o ((value : Value) → ValueText kind text value → ⊥)
    → ((value : Value) → value_at kind text ≡ Some value → ValueText kind text value) → o ≡ value_at kind text
value_is kind text (Some value) h n found = sym (value_only kind text value h)
value_is kind text None h n found = by (value_at kind text) refl
  where
    by : (o : Option Value) → value_at kind text ≡ o → None ≡ value_at kind text
    by None e = sym e
    by (Some value) e = absurd (n value (found value e))

offence_found : (before : DraftValue) (text : List ℕ) (stop : OffenceAt) (offence : Offence) → stop.offence ≡ offence
    → expr_at (attrs_of before) text ≡ Err stop → first_broken before (expr_rules text) ≡ Some (code_number (code_of offence))
offence_found before text stop Syntax o e = rw (e, o) refl
offence_found before text stop UnknownName o e = rw (e, o) refl
offence_found before text stop BadOperator o e = rw (e, o) refl
offence_found before text stop ValueRange o e = rw (e, o) refl
offence_found before text stop TooLong o e = rw (e, o) refl

pub taken_is : (before : DraftValue) (text : List ℕ) (read : Result (List (List Atom)) LineFault) → ExprCoded (expr_at (attrs_of before) text) read
    → ExprTaken before text read
taken_is before text (Ok expr) h = (rw h refl, rw h refl)
taken_is before text (Err (Breaks code)) h = let stop = h.0 in offence_found before text stop stop.offence refl h.1 ∙ ap (λ c. Some (code_number c)) (sym h.2)
taken_is before text (Err Memory) h = tt
