-- What is known after a join and the load that follows it.
use Rattle.std.proofs.Common.{◌≡◌, ℕ, ◌≤◌, inl, inr, List, length, take, Bool, true, false, refl, sym, ap, ◌∙◌, arith}
use Rattle.std.specs.Bool.{nat_lt}
use Rattle.std.proofs.Math.Seq.{take-length}
use Rattle.std.proofs.lemmas.Bool.{cases_lt, cases_Bool}
use Rattle.std.proofs.lemmas.Bool.Decides.{nat_tests}
use Rattle.cf_row.specs.declared.row.Entry.{Entry}
use Rattle.cf_shape.specs.Lanes.{ShapeValue}
use Rattle.cf_shape.specs.Places.Slot.{tail}
use Rattle.cf_law.specs.Passes.{Pass}
use Rattle.cf_law.specs.Steps.{pass_that_sees, joined_pass}
use Rattle.cf_law.specs.Shapes.{layout}
use Rattle.cf_law.specs.Readers.{StepTells, AtHome}
use Rattle.cf_table.specs.Values.{PassValue}
use Rattle.cf_table.specs.Effects.{HasStepped, tail_effect}
use Rattle.cf_table.specs.Moves.{HasFolded, HoldsAllBooks, HasAll}
use Rattle.cf_table.proofs.Seen.{grown}
use Rattle.cf_law.proofs.Steps.{sees_books}

same_told : (n : ℕ) (es : List Entry) (p : Pass) (b : Bool) → ((grown n es p b).told ≡ p.told) × ((grown n es p b).tails ≡ p.tails)
same_told n es p b = elim (cases_Bool b) [
  | inl e ↦ (ap (λ (c : Bool). (grown n es p c).told) e, ap (λ (c : Bool). (grown n es p c).tails) e)
  | inr e ↦ (ap (λ (c : Bool). (grown n es p c).told) e, ap (λ (c : Bool). (grown n es p c).tails) e)
]

pub sees_told : (n : ℕ) (es : List Entry) (p : Pass) → ((pass_that_sees n es p).told ≡ p.told) × ((pass_that_sees n es p).tails ≡ p.tails)
sees_told n es p = same_told n es p (nat_lt (length p.seen) n)

pub all_of : (es : List Entry) (n : ℕ) → length es ≡ n → take n es ≡ es
all_of es n e = ap (λ (k : ℕ). take k es) (sym e) ∙ take-length es

pub sees_seen : (n : ℕ) (es : List Entry) (p : Pass) → length es ≡ n → length p.seen ≤ n → take (length p.seen) es ≡ p.seen → (pass_that_sees n es p).seen ≡ es
sees_seen n es p long le goes = elim (cases_lt (length p.seen) n) [
  | inl lt ↦
      let t : nat_lt (length p.seen) n ≡ true = grind (arith, nat_tests) in
      ap (λ (b : Bool). (grown n es p b).seen) t ∙ all_of es n long
  | inr ge ↦
      let t : nat_lt (length p.seen) n ≡ false = grind (arith, nat_tests) in
      ap (λ (b : Bool). (grown n es p b).seen) t ∙ (sym goes ∙ all_of es (length p.seen) (omega arith))
]

-- after a load of the read tail just the entries below it are seen
pub tail_entries : (shape : ShapeValue) (p q : Pass) (asked : Bool) (found : ℕ)
    (told : StepTells (layout shape) p (tail 1) (tail_effect p asked).after found found q) → q.seen ≡ told.entries
tail_entries shape p q asked found told =
    ap (λ (r : Pass). r.seen) told.is ∙ sees_seen found told.entries p (told.long refl) (told.tells.ahead 1 (omega arith) refl) told.goes_on.seen

pub folded : (shape : ShapeValue) (m : PassValue) (q : Pass) (n : PassValue) (found : ℕ)
    → HasStepped shape (tail_effect (joined_pass m.view q) false) (record m { view = joined_pass m.view q }) found n → HasFolded shape m q n
folded shape m q n found made =
    let p = m.view in
    let j : Pass = joined_pass p q in
    let told = made.told in
    let es : List Entry = told.entries in
    let seen : (n.view).seen ≡ es = tail_entries shape j n.view false found told in
    let later = sees_told found es j in
    let first = sees_told (length q.seen) q.seen p in record {
      found = found;
      made = made;
      own = ap (take (length p.seen)) seen ∙ told.goes_on.olds 0 p.seen refl;
      other = ap (take (length q.seen)) seen ∙ told.goes_on.olds 1 q.seen refl;
      books = ap (λ (r : Pass). r.books) told.is ∙ sees_books found es j;
      tails = ap (λ (r : Pass). r.tails) told.is ∙ first.1;
      told = ap (λ (r : Pass). r.told) told.is ∙ later.0;
    }

-- while all books are home the read tail stays where it is
pub home_stays : (shape : ShapeValue) (m n : PassValue) (asked : Bool) (found : ℕ) → HasStepped shape (tail_effect m.view asked) m found n
    → AtHome (layout shape) m.view → HasAll m.view → (n.view).seen ≡ (m.view).seen
home_stays shape m n asked found made home all =
    let told = made.told in
    let p = m.view in
    let low = told.tells.stays refl home all in
    let ahead = told.tells.ahead 1 (omega arith) refl in
    let long = told.long refl in
    tail_entries shape p n.view asked found told ∙ (sym (all_of told.entries (length p.seen) (omega arith)) ∙ told.goes_on.seen)

pub settled_stays : (shape : ShapeValue) (m n : PassValue) (asked : Bool) (found : ℕ) → HasStepped shape (tail_effect m.view asked) m found n
    → HoldsAllBooks shape m.view → (n.view).seen ≡ (m.view).seen
settled_stays shape m n asked found made settled = home_stays shape m n asked found made settled.home settled.all
