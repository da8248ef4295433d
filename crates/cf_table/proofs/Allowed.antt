-- Each lawful step is allowed on the table.
use Rattle.std.proofs.Common.{◌≡◌, ℕ, ◌+◌, ◌==◌, ◌<◌, ◌≤◌, ◌%◌, ◌^◌, mod-eq_of_lt, inl, inr, cond, zero, suc, List, [], ◌∷◌, set, Option, Some, slice_get, slice_index, Bool, false, refl, sym, ap, subst, ◌∙◌, arith}
use mathlib.Core.Option.{some, some-injective, some-ne-none}
use lib.ListN.{get_elem?}
use prog.Atomic.{either}
use Rattle.cf_row.proofs.Truths.{eq_false}
use Rattle.atomic_table.specs.Table.{State, Allows, Act, keeps, stepped}
use Rattle.atomic_table.proofs.Lists.{set_else}
use Rattle.std.proofs.lemmas.Bool.{cases_Bool}
use Rattle.cf_row.specs.declared.row.Entry.{Entry}
use Rattle.cf_shape.specs.Lanes.{ShapeValue, IsShape}
use Rattle.cf_shape.specs.Places.{Slot, Sizes, place, sizes_of, word_total, IsReal}
use Rattle.cf_shape.specs.Places.Slot.{tail}
use Rattle.cf_shape.proofs.Slots.{place_within}
use Rattle.cf_law.specs.Passes.{Pass}
use Rattle.cf_law.specs.Steps.{Step, child_word, joined_pass, spent_pass, pass_that_sees}
use Rattle.cf_law.specs.Steps.Step.{takes, stores, finishes, advances, loads_tail, looks_done, loads_word, labels, links, heads, loads_child, loads_head, loads_cell}
use Rattle.cf_law.specs.Events.{word_at}
use Rattle.cf_law.specs.Shapes.{layout}
use Rattle.cf_law.proofs.Shapes.{layout_law}
use Rattle.cf_law.proofs.Readers.{step_lawful, write_tail_most, entries_after}
use Rattle.cf_law.proofs.Moves.{split_lawful, join_lawful}
use Rattle.cf_table.specs.Effects.{IsLawfulStep, advance_effect}
use Rattle.cf_table.specs.Rule.{SeatView, IsLawfulState, StepGiven, TellsAll, TellsSome, AsksLawfully, AsksOnWord, value_after_exchange, given_tail, given_advance}

pub get_same : {A : Type 0} (xs : List A) (i : ℕ) (x : A) → get_elem? xs i ≡ some x → slice_get xs i ≡ Some x
get_same [] i x h = absurd (some-ne-none x (sym h))
get_same (y ∷ xs) zero x h = ap (λ z. Some z) (some-injective y x h)
get_same (y ∷ xs) (suc i) x h = get_same xs i x h

-- A step ends no pass.
sees_live : (n : ℕ) (es : List Entry) (p : Pass) → (pass_that_sees n es p).spent ≡ p.spent
sees_live n es p = elim (cases_Bool (Rattle.std.specs.Bool.nat_lt (Rattle.std.proofs.Common.length p.seen) n)) [
  | inl e ↦ ap (λ (b : Bool). (cond b (record p { seen = Rattle.std.proofs.Common.take n es; cursor = Rattle.std.proofs.Common.None }) p).spent) e
  | inr e ↦ ap (λ (b : Bool). (cond b (record p { seen = Rattle.std.proofs.Common.take n es; cursor = Rattle.std.proofs.Common.None }) p).spent) e
]

lives : (sh : Rattle.cf_law.specs.Words.Layout) (p : Pass) (a : Rattle.cf_law.specs.Steps.Act) (t : Slot) (f : ℕ → ℕ) (g : ℕ → List Entry → Pass)
    → Step sh p a t f g → (n : ℕ) (es : List Entry) → (g n es).spent ≡ p.spent
lives sh p a t f g (takes r b fits one over rests) n es = refl
lives sh p a t f g (stores k i b fl flies next) n es = refl
lives sh p a t f g (finishes k i b fl flies last whole linked) n es = refl
lives sh p a t f g (advances u i le lt last word value) n es = sees_live (suc u) es p
lives sh p a t f g (loads_tail asked) n es = sees_live n es p
lives sh p a t f g (looks_done o i lt last) n es = refl
lives sh p a t f g (loads_word o i lt within) n es = refl
lives sh p a t f g (labels k b s u holds room child) n es = refl
lives sh p a t f g (links k b s u holds room child label) zero es = refl
lives sh p a t f g (links k b s u holds room child label) (suc n) es = refl
lives sh p a t f g (heads k l d node q b fl flies whole fresh path knows) n es = refl
lives sh p a t f g (loads_child s u child) zero es = refl
lives sh p a t f g (loads_child s u child) (suc n) es = refl
lives sh p a t f g (loads_head node d w l q knows last nibble writer) n es = refl
lives sh p a t f g (loads_cell o l i k lt is within may) n es = refl

-- f is what the table's step makes of the word
pub step_allowed : (g : StepGiven) (slots id : ℕ) (me : SeatView) (word : ℕ) (f : ℕ → ℕ) → IsShape g.shape → me.1 ≡ []
    → word ≡ place (sizes_of g.shape) g.effect.slot → AsksLawfully g me.0
    → ((s : State (Unit {0}) Pass) → IsLawfulState g.shape s
    → f (word_at (layout g.shape) s.words g.effect.slot) ≡ g.effect.change (word_at (layout g.shape) s.words g.effect.slot))
    → Allows (IsLawfulState g.shape) slots id me word f (λ found n. TellsAll g me found n)
step_allowed g slots id me word f is empty at can agree =
    subst (λ (w : ℕ). Allows (IsLawfulState g.shape) slots id me w f (λ found n. TellsAll g me found n)) (sym at)
    (λ s lawful homes here fits.
    let sh = layout g.shape in
    let w = g.effect in
    let k = step_lawful sh s.words s.views id me.0 can.act w.slot w.change w.after (layout_law g.shape is) lawful (get_same s.views id me.0 here) can.lawful in
    let es : List Entry = entries_after sh (set s.words (place (sizes_of g.shape) w.slot) (w.change (word_at sh s.words w.slot))) in
    let p' : Pass = w.after (word_at sh s.words w.slot) es in (
      p',
      keeps,
      tt,
      subst (λ (v : ℕ). IsLawfulState g.shape (stepped s (place (sizes_of g.shape) w.slot) v id me.1 p' keeps)) (sym (agree s lawful)) k.lawful,
      record { told = k.told; bare = empty; lives = lives sh me.0 can.act w.slot w.change w.after can.lawful (word_at sh s.words w.slot) es },
    ))

-- the same, as a call asks for it
pub asked : (key shape : ShapeValue) (g : StepGiven) (slots id : ℕ) (me : SeatView) (p : Pass) (word : ℕ) (f : ℕ → ℕ) → key ≡ shape → me.0 ≡ p → IsShape key
    → me.1 ≡ [] → AsksOnWord shape g p word f
    → Allows (IsLawfulState key) slots id me word f (λ found n. TellsAll g me found n)
asked key shape g slots id me p word f is_key is_pass is bare ask =
    let same : g.shape ≡ key = ask.shape_is ∙ sym is_key in
    subst (λ (k : ShapeValue). Allows (IsLawfulState k) slots id me word f (λ found n. TellsAll g me found n)) same
    (step_allowed g slots id me word f (subst IsShape (sym same) is) bare
    (ask.word_is ∙ ap (λ (k : ShapeValue). place (sizes_of k) g.effect.slot) (sym ask.shape_is)) (subst (AsksLawfully g) (sym is_pass) ask.asks)
    (λ s lawful. ask.change_is (word_at (layout g.shape) s.words g.effect.slot)))

-- a store, which doesn't tell what it found
pub stored : (key shape : ShapeValue) (g : StepGiven) (slots id : ℕ) (me : SeatView) (p : Pass) (word : ℕ) (f : ℕ → ℕ) → key ≡ shape → me.0 ≡ p → IsShape key
    → me.1 ≡ [] → AsksOnWord shape g p word f
    → Allows (IsLawfulState key) slots id me word f (λ found n. TellsSome g me n)
stored key shape g slots id me p word f is_key is_pass is bare ask s lawful homes here fits =
    let k = asked key shape g slots id me p word f is_key is_pass is bare ask s lawful homes here fits in
    (k.0, k.1, k.2, k.3, record { found = slice_index s.words word; all = k.4 })

-- the same with another function that is equal at each number
pub alike : (shape : ShapeValue) (g : StepGiven) (p : Pass) (word : ℕ) (e f : ℕ → ℕ) → AsksOnWord shape g p word f → ((n : ℕ) → e n ≡ f n)
    → AsksOnWord shape g p word e
alike shape g p word e f ask same =
    record { shape_is = ask.shape_is; asks = ask.asks; word_is = ask.word_is; change_is = λ n. same n ∙ ask.change_is n; keeps = ask.keeps }

pub exchanged_is : (new n : ℕ) → either (n == 0) new n ≡ value_after_exchange new n
exchanged_is new zero = refl
exchanged_is new (suc n) = ap (λ (b : Bool). either b new (suc n)) (eq_false (suc n) 0 (λ e. absurd (omega arith)))

pub child_exchanged : (node n : ℕ) → value_after_exchange (suc node) n ≡ child_word node n
child_exchanged node zero = refl
child_exchanged node (suc n) = refl

pub advanced_is : (t n : ℕ) → either (n == t) (t + 1) n ≡ cond (n == t) (suc t) n
advanced_is t n = elim (cases_Bool (n == t)) [
  | inl e ↦ ap (λ (b : Bool). either b (t + 1) n) e ∙ ((let f : t + 1 ≡ suc t = omega arith in f) ∙ sym (ap (λ (b : Bool). cond b (suc t) n) e))
  | inr e ↦ ap (λ (b : Bool). either b (t + 1) n) e ∙ sym (ap (λ (b : Bool). cond b (suc t) n) e)
]

pub place_zero : (g : Sizes) → place g (tail 0) ≡ 0
unfolding place
place_zero g = refl

pub place_one : (g : Sizes) → place g (tail 1) ≡ 1
unfolding place
place_one g = refl

-- A ticket: the word doesn't wrap.
pub added : (key shape : ShapeValue) (g : StepGiven) (slots id : ℕ) (me : SeatView) (p : Pass) (word : ℕ) → key ≡ shape → me.0 ≡ p → IsShape key → me.1 ≡ []
    → AsksOnWord shape g p word (λ n. suc n) → g.effect.slot ≡ tail 0
    → Allows (IsLawfulState key) slots id me word (λ n. (n + 1) % 2 ^ 64) (λ found n. TellsAll g me found n)
added key shape g slots id me p word is_key is_pass is bare ask slot =
    let same : g.shape ≡ key = ask.shape_is ∙ sym is_key in
    let shaped : IsShape g.shape = subst IsShape (sym same) is in
    subst (λ (k : ShapeValue). Allows (IsLawfulState k) slots id me word (λ n. (n + 1) % 2 ^ 64) (λ found n. TellsAll g me found n)) same
    (step_allowed g slots id me word (λ n. (n + 1) % 2 ^ 64) shaped bare
    (ask.word_is ∙ ap (λ (k : ShapeValue). place (sizes_of k) g.effect.slot) (sym ask.shape_is)) (subst (AsksLawfully g) (sym is_pass) ask.asks)
    (λ s lawful.
    let n : ℕ = word_at (layout g.shape) s.words g.effect.slot in
    let most : n ≤ (sizes_of g.shape).tickets + (sizes_of g.shape).writers =
    subst (λ (t : Slot). word_at (layout g.shape) s.words t ≤ (sizes_of g.shape).tickets + (sizes_of g.shape).writers) (sym slot)
    (write_tail_most (layout g.shape) s.words s.views lawful) in
    let c = shaped.capacity in let w = shaped.writers in
    let no_wrap : (n + 1) % 2 ^ 64 ≡ n + 1 = mod-eq_of_lt (omega arith) in
    no_wrap ∙ ((let e : n + 1 ≡ suc n = omega arith in e) ∙ ask.change_is n)))

-- the word is one of the table's
pub word_there : (shape : ShapeValue) (g : StepGiven) (p : Pass) (word : ℕ) (f : ℕ → ℕ) → AsksOnWord shape g p word f → word < word_total (sizes_of shape)
word_there shape g p word f ask =
    subst (λ (w : ℕ). w < word_total (sizes_of shape)) (sym ask.word_is)
    (place_within (sizes_of shape) g.effect.slot (subst (λ (s : ShapeValue). IsReal (sizes_of s) g.effect.slot) ask.shape_is ask.asks.real))

-- Moves.
pub split_allowed : (shape : ShapeValue) (id : ℕ) (p left right : Pass) (w : Option ℕ) → Rattle.cf_law.specs.Steps.Splits p w left right
    → Rattle.atomic_table.specs.Table.Splits (IsLawfulState shape) id p left right
split_allowed shape id p left right w split s lawful at = split_lawful (layout shape) s.words s.views id p left right w lawful (get_same s.views id p at) split

pub join_allowed : (shape : ShapeValue) (id other : ℕ) (p q : Pass) → p.spent ≡ false
    → Rattle.atomic_table.specs.Table.Joins (IsLawfulState shape) id p other q (joined_pass p q) spent_pass
join_allowed shape id other p q live s lawful at ne there =
    join_lawful (layout shape) s.words s.views id other p q lawful (get_same s.views id p at)
    (get_same s.views other q (sym (set_else s.views id other (joined_pass p q) ne) ∙ there)) ne live

-- The read tail: what is seen may grow.
pub tail_allowed : (key shape : ShapeValue) (slots id : ℕ) (me : SeatView) (p : Pass) (asked : Bool) → key ≡ shape → me.0 ≡ p → IsShape key → me.1 ≡ []
    → Allows (IsLawfulState key) slots id me 1 (λ n. n) (λ found n. TellsAll (given_tail shape p asked) me found n)
tail_allowed key shape slots id me p asked is_key is_pass is bare =
    subst (λ (k : ShapeValue). Allows (IsLawfulState k) slots id me 1 (λ n. n) (λ found n. TellsAll (given_tail shape p asked) me found n)) (sym is_key)
    (step_allowed (given_tail shape p asked) slots id me 1 (λ n. n) (subst IsShape is_key is) bare (sym (place_one (sizes_of shape)))
    (subst (AsksLawfully (given_tail shape p asked)) (sym is_pass)
    (record { act = Rattle.cf_law.specs.Steps.Act.load_tail asked; lawful = loads_tail asked; real = omega arith }))
    (λ s lawful. refl))

pub advance_allowed : (key shape : ShapeValue) (slots id : ℕ) (me : SeatView) (p : Pass) (t : ℕ) → key ≡ shape → me.0 ≡ p → IsShape key → me.1 ≡ []
    → IsLawfulStep shape p (Rattle.cf_law.specs.Steps.Act.advance t) (advance_effect p t)
    → Allows (IsLawfulState key) slots id me 1 (λ n. either (n == t) (t + 1) n) (λ found n. TellsSome (given_advance shape p t) me n)
advance_allowed key shape slots id me p t is_key is_pass is bare may s lawful homes here fits =
    let k = subst
    (λ (k : ShapeValue). Allows (IsLawfulState k) slots id me 1 (λ n. either (n == t) (t + 1) n)
    (λ found n. TellsAll (given_advance shape p t) me found n)) (sym is_key)
    (step_allowed (given_advance shape p t) slots id me 1 (λ n. either (n == t) (t + 1) n) (subst IsShape is_key is) bare (sym (place_one (sizes_of shape)))
    (subst (AsksLawfully (given_advance shape p t)) (sym is_pass) (record { act = Rattle.cf_law.specs.Steps.Act.advance t; lawful = may; real = omega arith }))
    (λ s lawful. advanced_is t (word_at (layout shape) s.words (tail 1)))) s lawful homes here fits in
    (k.0, k.1, k.2, k.3, record { found = slice_index s.words 1; all = k.4 })
