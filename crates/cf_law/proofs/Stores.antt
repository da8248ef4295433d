-- A store keeps the words' meaning where it changes what one slot means.
use Rattle.std.proofs.Common.{◌≡◌, ℕ, ◌<◌, List, length, get_or, set, inl, inr, arith, ap, sym, ◌∙◌, subst}
use Rattle.std.proofs.lemmas.List.{get_or-set_same, get_or-set_other}
use Rattle.std.proofs.lemmas.Bool.{cases_eq}
use Rattle.cf_shape.specs.Places.{Slot, place, IsReal, word_total}
use Rattle.cf_law.specs.Words.{Layout, Ticket, NodeStock, IsWordOf, Spells}
use Rattle.cf_shape.proofs.Slots.{same_slot, place_within}

pub store_keeps : (sh : Layout) (ts ts' : ℕ × ℕ) (log log' : List Ticket) (bs bs' : List NodeStock) (words : List ℕ) (s : Slot) (v : ℕ)
    → length words ≡ word_total sh.sizes → IsReal sh.sizes s
    → Spells sh ts log bs words
    → ((t : Slot) → IsReal sh.sizes t → (t ≡ s → ⊥) → (x : ℕ) → IsWordOf sh ts log bs t x → IsWordOf sh ts' log' bs' t x)
    → IsWordOf sh ts' log' bs' s v
    → Spells sh ts' log' bs' (set words (place sh.sizes s) v)
store_keeps sh ts ts' log log' bs bs' words s v len real spells others here t r = elim (cases_eq (place sh.sizes t) (place sh.sizes s)) [
  | inl e ↦
      let same : s ≡ t = sym (same_slot sh.sizes t s r real e) in
      let within : place sh.sizes s < length words = omega (arith, place_within sh.sizes s real) in
      let at : v ≡ get_or (set words (place sh.sizes s) v) (place sh.sizes t) 0 =
      sym (ap (λ (p : ℕ). get_or (set words (place sh.sizes s) v) p 0) e ∙ get_or-set_same words (place sh.sizes s) v 0 within) in
      subst (λ (x : ℕ). IsWordOf sh ts' log' bs' t x) at (subst (λ (u : Slot). IsWordOf sh ts' log' bs' u v) same here)
  | inr ne ↦
      let at : get_or words (place sh.sizes t) 0 ≡ get_or (set words (place sh.sizes s) v) (place sh.sizes t) 0 =
      sym (get_or-set_other words (place sh.sizes s) (place sh.sizes t) v 0 ne) in
      subst (λ (x : ℕ). IsWordOf sh ts' log' bs' t x) at (others t r (λ e. ne (ap (place sh.sizes) e)) _ (spells t r))
]
