-- What a step call loads, its steps count.
use Rattle.std.proofs.Common.{◌≡◌, ◌∙◌, ◌+◌, ℕ, zero, suc, List, Bool, true, false, cond, None, length, take, nat_lt, refl, ap, arith}
use Rattle.cf_row.specs.declared.row.Entry.{Entry}
use Rattle.cf_shape.specs.Lanes.{ShapeValue}
use Rattle.cf_shape.specs.Places.{Slot, place, sizes_of}
use Rattle.cf_law.specs.Words.{Spot}
use Rattle.cf_law.specs.Passes.{Pass}
use Rattle.cf_law.specs.Steps.{pass_with_child}
use Rattle.cf_table.specs.Values.{PassValue}
use Rattle.cf_table.specs.Effects.{HasStepped, tail_effect, done_effect, word_effect, child_effect, walk_effect, cell_effect}
use Rattle.cf_table.specs.Loads.{CountsLoads}

-- one more load, and one more step
one_load : (m n : PassValue) (before after : ℕ) → ((n.view).look).count ≡ ((m.view).look).count + 1 → after ≡ before + 1 → CountsLoads m n before after
one_load m n before after one steps = omega (arith, one, steps)

sees_or_not : (p : Pass) (n : ℕ) (es : List Entry) (b : Bool) → ((cond b (record p { seen = take n es; cursor = None }) p).look).count ≡ (p.look).count
sees_or_not p n es true = refl
sees_or_not p n es false = refl

child_count : (word : ℕ) (s : Spot) (p : Pass) (n : ℕ) → ((pass_with_child word s p n).look).count ≡ (p.look).count + 1
child_count word s p zero = refl
child_count word s p (suc n) = refl

pub tail_loads : (shape : ShapeValue) (m n : PassValue) (asked : Bool) (found before after : ℕ) → HasStepped shape (tail_effect m.view asked) m found n
    → after ≡ before + 1 → CountsLoads m n before after
tail_loads shape m n asked found before after made steps =
    let p = m.view in
    let es = made.told.entries in
    one_load m n before after
    (ap (λ (q : Pass). (q.look).count) made.told.is ∙ ap (λ (k : ℕ). k + 1) (sees_or_not p found es (nat_lt (length p.seen) found))) steps

pub word_loads : (shape : ShapeValue) (m n : PassValue) (offset i found before after : ℕ) → HasStepped shape (word_effect shape m.view offset i) m found n
    → after ≡ before + 1 → CountsLoads m n before after
word_loads shape m n offset i found before after made steps = one_load m n before after (ap (λ (q : Pass). (q.look).count) made.told.is) steps

pub done_loads : (shape : ShapeValue) (m n : PassValue) (offset found before after : ℕ) → HasStepped shape (done_effect shape m.view offset) m found n
    → after ≡ before + 1 → CountsLoads m n before after
done_loads shape m n offset found before after made steps = one_load m n before after (ap (λ (q : Pass). (q.look).count) made.told.is) steps

pub child_loads : (shape : ShapeValue) (m n : PassValue) (s : Spot) (t : Slot) (found before after : ℕ)
    → HasStepped shape (child_effect shape m.view s t) m found n → after ≡ before + 1 → CountsLoads m n before after
child_loads shape m n s t found before after made steps =
    one_load m n before after (ap (λ (q : Pass). (q.look).count) made.told.is ∙ child_count (place (sizes_of shape) t) s m.view found) steps

pub head_loads : (shape : ShapeValue) (m n : PassValue) (s : Spot) (node d writer found before after : ℕ)
    → HasStepped shape (walk_effect shape m.view s node d writer) m found n → after ≡ before + 1 → CountsLoads m n before after
head_loads shape m n s node d writer found before after made steps = one_load m n before after (ap (λ (q : Pass). (q.look).count) made.told.is) steps

pub cell_loads : (shape : ShapeValue) (m n : PassValue) (offset lane i found before after : ℕ)
    → HasStepped shape (cell_effect shape m.view offset lane i) m found n → after ≡ before + 1 → CountsLoads m n before after
cell_loads shape m n offset lane i found before after made steps = one_load m n before after (ap (λ (q : Pass). (q.look).count) made.told.is) steps
