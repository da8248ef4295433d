-- What the words name, by whether they are refused.
use Rattle.std.proofs.Common.{◌≡◌, ◌⊎◌, List, [], ◌∷◌, Option, None, true, refl, ◌∙◌, inl, inr, sym, ap, suc, length, arith}
use Rattle.std.proofs.lemmas.Bool.{ne_eqb, and_parts}
use Rattle.clap.specs.Words.{App, Kinds, IsAmong, Row, Text, fault_of, is_simple, is_simple_and_free, subcommand_of}
use Rattle.clap.specs.declared.error.kind.ErrorKind.{ErrorKind}
use Rattle.clap.specs.declared.error.kind.ErrorKind.TheVariants as kind
use Rattle.clap.proofs.OnLiterals.{clap_on_literals}
use Rattle.cf_command.specs.Table.{confluo_app, long_app, none_of, taken}
use Rattle.std.specs.Prelude.{if◌then◌else◌}

confluo-simple-free : is_simple_and_free confluo_app ≡ true
unfolding clap_on_literals confluo_app
confluo-simple-free = refl

long-simple-free : is_simple_and_free long_app ≡ true
unfolding clap_on_literals long_app
long-simple-free = refl

-- a command that is one of the two is simple
pub is-confluo : (a : App) → a ≡ confluo_app → is_simple_and_free a ≡ true
is-confluo a e = ap (λ (x : App). is_simple_and_free x) e ∙ confluo-simple-free

pub is-long : (a : App) → a ≡ long_app → is_simple_and_free a ≡ true
is-long a e = ap (λ (x : App). is_simple_and_free x) e ∙ long-simple-free

simple : (a : App) → is_simple_and_free a ≡ true → is_simple a ≡ true
simple a h = (and_parts (is_simple a) _ h).0

if-none : {X : Type 0} (k : Kinds) (x : Option X) → k ≡ [] → (if none_of k then x else None) ≡ x
if-none k x e = rw e refl

if-some : {X : Type 0} (k : Kinds) (x : Option X) (e : ErrorKind) → IsAmong e k → (if none_of k then x else None) ≡ None
if-some [] x e h = absurd h
if-some (k ∷ ks) x e h = rw (ne_eqb (suc (length ks)) 0 (λ e. absurd (omega (arith, e)))) refl

taken-free : (a : App) (words : List Text) → fault_of a words ≡ [] → taken a words ≡ subcommand_of a words
unfolding taken
taken-free a words e = if-none (fault_of a words) (subcommand_of a words) e

taken-refused : (a : App) (words : List Text) (e : ErrorKind) → IsAmong e (fault_of a words) → taken a words ≡ None
unfolding taken
taken-refused a words e h = if-some (fault_of a words) (subcommand_of a words) e h

pub taken-ok : (a : App) (words : List Text) (r : Option (Text × List Row)) → is_simple_and_free a ≡ true
    → (is_simple_and_free a ≡ true → fault_of a words ≡ []) → (is_simple a ≡ true → r ≡ subcommand_of a words) → r ≡ taken a words
taken-ok a words r h f g = g (simple a h) ∙ sym (taken-free a words (f h))

pub taken-err : (a : App) (words : List Text) (k : ErrorKind) → is_simple_and_free a ≡ true → ¬ (k ≡ kind.OutOfMemory)
    → (is_simple_and_free a ≡ true → (k ≡ kind.OutOfMemory) ⊎ IsAmong k (fault_of a words)) → None ≡ taken a words
taken-err a words k h other f = elim (f h) [ inl m ↦ absurd (other m) | inr among ↦ sym (taken-refused a words k among) ]
