-- Expressions are read just as the grammar says.
use Rattle.std.proofs.Common.{◌≡◌, ℕ, zero, suc, List, [], ◌∷◌, ◌++◌, length, Bool, true, false, cond, Option, Some, None, Result, Ok, Err, refl, sym, ap, ◌∙◌, subst, codes, ◌==◌}
use Rattle.std.proofs.lemmas.Bool.{false≢true}
use Rattle.cf_row.specs.declared.schema.Attr.{Attr}
use Rattle.cf_row.specs.declared.schema.Kind.{Kind}
use Rattle.cf_row.specs.declared.row.Value.{Value}
use Rattle.cf_row.specs.declared.expr.Atom.{Atom}
use Rattle.cf_row.specs.declared.expr.Op.{Op}
use Rattle.cf_filter.specs.declared.bytes.Class.TheVariants as classes
use Rattle.cf_filter.specs.declared.fault.Offence.{Offence}
use Rattle.cf_filter.specs.declared.fault.Offence.TheVariants.{Syntax, TooLong}
use Rattle.cf_filter.specs.declared.fault.OffenceAt.{OffenceAt}
use Rattle.cf_filter.specs.declared.atom.Joint.{Joint}
use Rattle.cf_filter.specs.declared.atom.Joint.TheVariants.{End, And, Or}
use Rattle.cf_filter.specs.Tokens.{run, past, unspaced, strip_at, IsAfterSpaces}
use Rattle.cf_filter.specs.Ranges.{bounds_at}
use Rattle.cf_filter.specs.Reading.{seen_by, stop_at, name_at, op_at, ends_or, bounds_from, atom_at, joint_at}
use Rattle.cf_filter.specs.Exprs.{with_atom, joined_by, conjunctions_at, star_in, star_at, expr_in, expr_at}
use Rattle.cf_filter.specs.Grammar.{Only, BoundsRead, NameRead, OpRead, EndsRead, AtomRead, JointRead, JoinedRead, ConjunctionsRead, StarRead, ExprRead}
use Rattle.cf_filter.specs.Grammar.ExprRead.{star, conjunctions}
use Rattle.cf_filter.proofs.Runs.{run_is, run_only, spaces_is, spaces_only, strip_front, strip_found, strip_none}
use Rattle.cf_filter.proofs.Parts.{then_only, name_only, op_only, joint_only, stop_same, some_len, empty_is}
use Rattle.cf_filter.proofs.RangeLaws.{bounds_only}

-- the ends of a range

ends_hold : (kind : Kind) (op : Op) (text here : List ℕ) → IsAfterSpaces text here → (r : Result (Value × Value) Offence)
    → BoundsRead kind op (run classes.Value here) r → EndsRead kind op text (ends_or here r)
ends_hold kind op text here sp (Ok x) h = (here, run classes.Value here, sp, run_is classes.Value here, h)
ends_hold kind op text here sp (Err offence) h = (here, run classes.Value here, past classes.Value here, sp, run_is classes.Value here, refl, h)

abbrev ends_in : Kind → Op → List ℕ → Result ((Value × Value) × List ℕ) OffenceAt
ends_in kind op here = ends_or here (bounds_at kind op (run classes.Value here))

ends_same : (kind : Kind) (op : Op) (text : List ℕ) (r : Result ((Value × Value) × List ℕ) OffenceAt) → EndsRead kind op text r → r ≡ bounds_from kind op text
ends_same kind op text (Ok found) h =
    let same = run_only classes.Value h.0 h.1 found.1 h.3 in
    let law = bounds_only kind op h.1 in
    let read : bounds_at kind op (run classes.Value h.0) ≡ Ok found.0 = ap (bounds_at kind op) (sym same.0) ∙ sym (law.only (Ok found.0) h.4) in
    ap (λ rest. Ok (found.0, rest)) same.1 ∙ ap (ends_or h.0) (sym read) ∙ ap (ends_in kind op) (spaces_only text h.0 h.2)
ends_same kind op text (Err stop) h =
    let same = run_only classes.Value h.0 h.1 h.2 h.4 in
    let law = bounds_only kind op h.1 in
    let read : bounds_at kind op (run classes.Value h.0) ≡ Err stop.offence = ap (bounds_at kind op) (sym same.0) ∙ sym (law.only (Err stop.offence) h.6) in
    ap Err (stop_same stop h.0 h.5) ∙ ap (ends_or h.0) (sym read) ∙ ap (ends_in kind op) (spaces_only text h.0 h.3)

ends_only : (kind : Kind) (op : Op) (text : List ℕ) → Only (EndsRead kind op text) (bounds_from kind op text)
ends_only kind op text =
    let law = bounds_only kind op (run classes.Value (unspaced text)) in
    record {
      holds = ends_hold kind op text (unspaced text) (spaces_is text) (bounds_at kind op (run classes.Value (unspaced text))) law.holds;
      only = ends_same kind op text;
    }

-- atoms

pub atom_only : (attrs : List Attr) (text : List ℕ) → Only (AtomRead attrs text) (atom_at attrs text)
unfolding atom_at
atom_only attrs text =
    then_only (NameRead attrs text) _ (name_at attrs text) _ (name_only attrs text) (λ name.
    then_only (OpRead name.0.1 name.1) _ (op_at name.0.1 name.1) _ (op_only name.0.1 name.1) (λ op.
    then_only (EndsRead name.0.1 op.0 op.1) _ (bounds_from name.0.1 op.0 op.1) _ (ends_only name.0.1 op.0 op.1) (λ ends.
    record { holds = refl; only = λ r e. e })))

-- conjunctions

joined_only : (atom : Atom) (joint : Joint) (Later : Result (List (List Atom)) OffenceAt → Type 0) (later : Result (List (List Atom)) OffenceAt)
    → Only Later later → Only (JoinedRead atom joint Later) (joined_by atom joint later)
joined_only atom End Later later h = record { holds = refl; only = λ r e. e }
joined_only atom And Later later h = record { holds = (later, h.holds, refl); only = λ r k. k.2 ∙ ap (seen_by (with_atom atom)) (h.only k.0 k.1) }
joined_only atom Or Later later h =
    record { holds = (later, h.holds, refl); only = λ r k. k.2 ∙ ap (seen_by (λ others. (atom ∷ []) ∷ others)) (h.only k.0 k.1) }

pub conjunctions_only : (attrs : List Attr) (n : ℕ) (text : List ℕ) → Only (ConjunctionsRead attrs n text) (conjunctions_at attrs n text)
unfolding conjunctions_at
conjunctions_only attrs zero text =
    record { holds = (unspaced text, spaces_is text, refl); only = λ r h. h.2 ∙ ap (λ here. Err (stop_at TooLong here)) (spaces_only text h.0 h.1) }
conjunctions_only attrs (suc n) text =
    then_only (AtomRead attrs text) _ (atom_at attrs text) _ (atom_only attrs text) (λ atom.
    then_only (JointRead atom.1) _ (joint_at atom.1) _ (joint_only atom.1) (λ joint.
    joined_only atom.0 joint.0 (ConjunctionsRead attrs n joint.1) (conjunctions_at attrs n joint.1) (conjunctions_only attrs n joint.1)))

-- a star alone

star_holds : (text here : List ℕ) → IsAfterSpaces text here → (b : Bool) → (length here == 0) ≡ b
    → StarRead text (cond b (Ok ([] ∷ [])) (Err (stop_at Syntax here)))
star_holds text here sp true b = (subst (λ (t : List ℕ). IsAfterSpaces text t) (empty_is here b) sp, refl)
star_holds text here sp false b = (here, sp, λ e. false≢true (sym b ∙ ap (λ t. length t == 0) e), refl)

star_err : (here : List ℕ) → (here ≡ [] → ⊥) → star_in here ≡ Err (stop_at Syntax here)
star_err [] h = absurd (h refl)
star_err (x ∷ xs) h = rw (some_len x xs) refl

star_same : (text : List ℕ) (r : Result (List (List Atom)) OffenceAt) → StarRead text r → r ≡ star_at text
star_same text (Ok expr) h = ap Ok h.1 ∙ ap star_in (spaces_only text [] h.0)
star_same text (Err stop) h = ap Err h.3 ∙ sym (star_err h.0 h.2) ∙ ap star_in (spaces_only text h.0 h.1)

-- expressions

expr_holds : (attrs : List Attr) (text : List ℕ) (o : Option (List ℕ)) → strip_at (codes "*") (unspaced text) ≡ o → ExprRead attrs text (expr_in attrs text o)
expr_holds attrs text (Some rest) e =
    star rest (subst (λ (t : List ℕ). IsAfterSpaces text t) (strip_found (codes "*") (unspaced text) rest e) (spaces_is text))
    (star_holds rest (unspaced rest) (spaces_is rest) (length (unspaced rest) == 0) refl)
expr_holds attrs text None e = let law = conjunctions_only attrs 32 text in
    conjunctions (unspaced text) (spaces_is text) (λ rest f. strip_none (codes "*") (unspaced text) rest e f) law.holds

no_star : (here : List ℕ) → ((rest : List ℕ) → here ≡ codes "*" ++ rest → ⊥) → strip_at (codes "*") here ≡ None
no_star here h = by (strip_at (codes "*") here) refl
  where
    by : (o : Option (List ℕ)) → strip_at (codes "*") here ≡ o → strip_at (codes "*") here ≡ None
    by None e = e
    by (Some rest) e = absurd (h rest (strip_found (codes "*") here rest e))

expr_same : (attrs : List Attr) (text : List ℕ) (r : Result (List (List Atom)) OffenceAt) → ExprRead attrs text r → r ≡ expr_at attrs text
expr_same attrs text r (star rest sp h) =
    let found : strip_at (codes "*") (unspaced text) ≡ Some rest = ap (strip_at (codes "*")) (sym (spaces_only text (codes "*" ++ rest) sp))
    ∙ strip_front (codes "*") rest in
    star_same rest r h ∙ ap (expr_in attrs text) (sym found)
expr_same attrs text r (conjunctions here sp none h) =
    let missed : strip_at (codes "*") (unspaced text) ≡ None = ap (strip_at (codes "*")) (sym (spaces_only text here sp)) ∙ no_star here none in
    let law = conjunctions_only attrs 32 text in
    law.only r h ∙ ap (expr_in attrs text) (sym missed)

-- each text has one outcome
pub expr_only : (attrs : List Attr) (text : List ℕ) → Only (ExprRead attrs text) (expr_at attrs text)
expr_only attrs text = record { holds = expr_holds attrs text (strip_at (codes "*") (unspaced text)) refl; only = expr_same attrs text }
