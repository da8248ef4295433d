-- Different slots have different places, and so have different
use Rattle.std.proofs.Common.{◌≡◌, ℕ, ◌+◌, ◌*◌, ◌/◌, ◌%◌, ◌<◌, ◌==◌, zero, suc, cond, Bool, refl, arith, ap, ap₂, sym, ◌∙◌, ne_eqb, eq-eqb}
use Rattle.std.proofs.lemmas.Nat.{same_from_place, mul-add-lt, div-mul-add, mod-mul-add}
use Rattle.cf_row.specs.Words.{word_count}
use Rattle.cf_shape.specs.Lanes.{ShapeValue}
use Rattle.cf_shape.specs.Uses.{Use, use_at, cell_count, cells_before, ticket_words}
use Rattle.cf_shape.specs.Uses.Use.{plain as plain_use, version as version_use}
use Rattle.cf_shape.specs.Places.{Sizes, Slot, place, IsReal, node_words, word_total, sizes_of, WordName, Exists, slot_of}
use Rattle.cf_shape.specs.Places.Slot.{tail, cell, root, body}
use Rattle.cf_shape.specs.Places.WordName.{write_tail, read_tail, word, version, done, root_child, label, child, head}
use Rattle.cf_shape.specs.Laws.{PlacesDiffer}
use Rattle.cf_shape.proofs.Used.{plain_at, version_at, before_fits}

pub same_slot : (g : Sizes) (s t : Slot) → IsReal g s → IsReal g t → place g s ≡ place g t → s ≡ t
unfolding place
same_slot g (tail k) (tail i) r q e = ap tail e
same_slot g (tail k) (cell o i) r q e = absurd (omega arith)
same_slot g (tail k) (root l d) r q e = absurd (omega arith)
same_slot g (tail k) (body n j) r q e = absurd (omega arith)
same_slot g (cell o i) (tail k) r q e = absurd (omega arith)
same_slot g (cell o i) (cell a b) r q e = let h = same_from_place o i a b g.ticket_words r.1 q.1 (omega arith) in cc
same_slot g (cell o i) (root l d) r q e = absurd (omega (arith, mul-add-lt o g.ticket_words i g.tickets r.0 r.1))
same_slot g (cell o i) (body n j) r q e = absurd (omega (arith, mul-add-lt o g.ticket_words i g.tickets r.0 r.1))
same_slot g (root l d) (tail k) r q e = absurd (omega arith)
same_slot g (root l d) (cell a b) r q e = absurd (omega (arith, mul-add-lt a g.ticket_words b g.tickets q.0 q.1))
same_slot g (root l d) (root a b) r q e = let h = same_from_place l d a b 16 r.1 q.1 (omega arith) in cc
same_slot g (root l d) (body n j) r q e = absurd (omega (arith, mul-add-lt l 16 d g.lanes r.0 r.1))
same_slot g (body n j) (tail k) r q e = absurd (omega arith)
same_slot g (body n j) (cell a b) r q e = absurd (omega (arith, mul-add-lt a g.ticket_words b g.tickets q.0 q.1))
same_slot g (body n j) (root a b) r q e = absurd (omega (arith, mul-add-lt a 16 b g.lanes q.0 q.1))
same_slot g (body n j) (body a b) r q e = let h = same_from_place n j a b (node_words g) r.1 q.1 (omega arith) in cc

pub place_within : (g : Sizes) (s : Slot) → IsReal g s → place g s < word_total g
unfolding place
place_within g (tail k) r = omega arith
place_within g (cell o i) r = omega (arith, mul-add-lt o g.ticket_words i g.tickets r.0 r.1)
place_within g (root l d) r = omega (arith, mul-add-lt l 16 d g.lanes r.0 r.1)
place_within g (body n j) r = omega (arith, mul-add-lt n (node_words g) j (g.writers * g.nodes) r.0 r.1)

abbrev by_use : ℕ → Use → WordName
by_use o (plain_use i) = word o i
by_use o (version_use l i) = version o l i

-- the word that has a slot
abbrev named : ShapeValue → (ℕ → Bool) → Slot → WordName
named s f (tail zero) = write_tail
named s f (tail (suc k)) = read_tail
named s f (cell o i) = cond (suc i == ticket_words s) (done o) (by_use o (use_at s i))
named s f (root l d) = root_child l d
named s f (body n zero) = label n
named s f (body n (suc j)) = cond (f n) (child n j) (head n (j / s.writers) (j % s.writers))

named_back : (s : ShapeValue) (f : ℕ → Bool) (w : WordName) → Exists s f w → named s f (slot_of s w) ≡ w
named_back s f write_tail e = refl
named_back s f read_tail e = refl
named_back s f (word o i) e =
    let ne : suc i ≡ ticket_words s → ⊥ = λ h. (let lt = e.1 in omega arith) in
    ap (λ (b : Bool). cond b (done o) (by_use o (use_at s i))) (ne_eqb (suc i) (ticket_words s) ne)
    ∙ ap (by_use o) (plain_at s i e.1)
named_back s f (version o l i) e =
    let k : ℕ = word_count s.schema + 1 + cells_before s l + i in
    let fits = before_fits s.lanes l e.1 in
    let low = e.2 in
    let ne : suc k ≡ ticket_words s → ⊥ = λ h. omega arith in
    ap (λ (b : Bool). cond b (done o) (by_use o (use_at s k))) (ne_eqb (suc k) (ticket_words s) ne)
    ∙ ap (by_use o) (version_at s l i e.1 e.2)
named_back s f (done o) e =
    let k : ℕ = word_count s.schema + 1 + cell_count s.lanes in
    ap (λ (b : Bool). cond b (done o) (by_use o (use_at s k))) (eq-eqb (suc k) (ticket_words s) (omega arith))
named_back s f (root_child l d) e = refl
named_back s f (label n) e = refl
named_back s f (child n d) e = ap (λ (b : Bool). cond b (child n d) (head n (d / s.writers) (d % s.writers))) e.2
named_back s f (head n d w) e =
    let j : ℕ = d * s.writers + w in
    ap (λ (b : Bool). cond b (child n j) (head n (j / s.writers) (j % s.writers))) e.3
    ∙ ap₂ (λ (a b : ℕ). head n a b) (div-mul-add d s.writers w e.2) (mod-mul-add d s.writers w e.2)

some_writers : (n w m : ℕ) → n < w * m → 0 < w
some_writers n zero m lt = absurd (omega arith)
some_writers n (suc w) m lt = omega arith

slot_real : (s : ShapeValue) (f : ℕ → Bool) (w : WordName) → Exists s f w → IsReal (sizes_of s) (slot_of s w)
slot_real s f write_tail e = omega arith
slot_real s f read_tail e = omega arith
slot_real s f (word o i) e = (e.0, (let lt = e.1 in omega arith))
slot_real s f (version o l i) e = (e.0, (let fits = before_fits s.lanes l e.1 in let low = e.2 in omega arith))
slot_real s f (done o) e = (e, omega arith)
slot_real s f (root_child l d) e = e
slot_real s f (label n) e = (e, omega arith)
slot_real s f (child n d) e = (e.0, (let lt = e.1 in let h = some_writers n s.writers s.nodes e.0 in omega arith))
slot_real s f (head n d w) e = (e.0, (let h = mul-add-lt d s.writers w 16 e.1 e.2 in omega arith))

pub places_differ : PlacesDiffer
places_differ = record {
  differ = λ s f v w ev ew e.
      let same = same_slot (sizes_of s) (slot_of s v) (slot_of s w) (slot_real s f v ev) (slot_real s f w ew) e in
      sym (named_back s f v ev) ∙ (ap (named s f) same ∙ named_back s f w ew);
  within = λ s f w e. place_within (sizes_of s) (slot_of s w) (slot_real s f w e);
}
