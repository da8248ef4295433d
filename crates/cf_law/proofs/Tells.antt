-- What the law says in plain words of child words, labels, heads and entries.
use Rattle.std.proofs.Common.{◌≡◌, ℕ, ◌+◌, ◌*◌, ◌<◌, suc, List, [], ◌∷◌, length, Option, Some, None, arith, ap, sym, ◌∙◌, subst}
use Rattle.cf_shape.specs.Places.{Slot, place, IsReal}
use Rattle.cf_shape.specs.Places.Slot.{body}
use Rattle.cf_law.specs.Words.{Spot, Layout, stock_of, node_at, IsNamedBy, BodyWord, free_of}
use Rattle.cf_law.specs.Lawful.{Base, BaseLaw}
use Rattle.cf_law.specs.Events.{word_at}
use Rattle.cf_law.specs.Plainly.{IsChildWord}
use Rattle.cf_law.proofs.Nodes.{node_within, free_is_free, spare_free}
use Rattle.cf_law.proofs.Links.{node_from_word, known_word}

-- A used node's label is the place of the word that names it, and its level.
pub label_tells : (sh : Layout) (x : Base) (n : ℕ) (s : Spot) → BaseLaw sh x → node_at sh.sizes.nodes x.stocks n ≡ Some s
    → (t : Slot) × IsChildWord sh x.stocks s t × (word_at sh x.words (body n 0) ≡ 32 * place sh.sizes t + length s.path) × (word_at sh x.words t ≡ suc n)
label_tells sh x n s law at =
    let real : IsReal sh.sizes (body n 0) = (node_within sh.sizes.nodes sh.sizes.writers x.stocks n s law.nodes.writers law.nodes.room at, omega arith) in
    let r : BodyWord sh x.log x.stocks n 0 (word_at sh x.words (body n 0)) (Some s) =
    subst (λ (o : Option Spot). BodyWord sh x.log x.stocks n 0 (word_at sh x.words (body n 0)) o) at (law.spells (body n 0) real) in
    let inner = (law.nodes.shaped n s at).2 in
    (r.0, record { named = r.1; real = r.2; inner = inner }, r.3, known_word sh x.tails x.log x.stocks x.words s r.0 n law.nodes inner r.2 r.1 law.spells at)

-- A nonzero child word names a used node of its own lane and prefix.
pub child_tells : (sh : Layout) (x : Base) (n : ℕ) (s : Spot) (t : Slot) → BaseLaw sh x → IsChildWord sh x.stocks s t → word_at sh x.words t ≡ suc n
    → node_at sh.sizes.nodes x.stocks n ≡ Some s
child_tells sh x n s t law child found = node_from_word sh x.tails x.log x.stocks x.words s t n child.inner child.real child.named law.spells found

-- Each used node is named once.
pub named_once : (sh : Layout) (x : Base) (n : ℕ) (s r : Spot) (t u : Slot) → BaseLaw sh x → IsChildWord sh x.stocks s t → IsChildWord sh x.stocks r u
    → word_at sh x.words t ≡ suc n → word_at sh x.words u ≡ suc n → t ≡ u
named_once sh x n s r t u law a b e f =
    let p = child_tells sh x n s t law a e in
    let q = child_tells sh x n r u law b f in
    let same : r ≡ s = cc (p, q) in
    one s.path t u a.named (subst (λ (z : Spot). IsNamedBy sh.sizes.nodes x.stocks z.lane z.path u) same b.named)
  where
    one : (p : List ℕ) (t u : Slot) → IsNamedBy sh.sizes.nodes x.stocks s.lane p t → IsNamedBy sh.sizes.nodes x.stocks s.lane p u → t ≡ u
    one [] t u h k = absurd h
    one (d ∷ []) t u h k = h ∙ sym k
    one (d ∷ (e ∷ p)) t u h k = h.3 ∙ (ap (λ (q : ℕ). body q (suc d)) (law.nodes.unique h.0 k.0 _ h.1 k.1) ∙ sym k.3)

-- A node that is not used has no word but its label, and the least one's label is its book's.
pub unused_tells : (sh : Layout) (x : Base) (n j : ℕ) → BaseLaw sh x → IsReal sh.sizes (body n (suc j)) → node_at sh.sizes.nodes x.stocks n ≡ None
    → word_at sh x.words (body n (suc j)) ≡ 0
unused_tells sh x n j law real at =
    subst (λ (o : Option Spot). BodyWord sh x.log x.stocks n (suc j) (word_at sh x.words (body n (suc j))) o) at (law.spells (body n (suc j)) real)

pub spare_tells : (sh : Layout) (x : Base) (w : ℕ) → BaseLaw sh x → length (stock_of x.stocks w).used < sh.sizes.nodes
    → IsReal sh.sizes (body (free_of sh.sizes.nodes x.stocks w) 0)
    → word_at sh x.words (body (free_of sh.sizes.nodes x.stocks w) 0) ≡ (stock_of x.stocks w).label
spare_tells sh x w law room real =
    let n = free_of sh.sizes.nodes x.stocks w in
    let r : BodyWord sh x.log x.stocks n 0 (word_at sh x.words (body n 0)) None =
    subst (λ (o : Option Spot). BodyWord sh x.log x.stocks n 0 (word_at sh x.words (body n 0)) o) (free_is_free sh.sizes.nodes x.stocks w room)
    (law.spells (body n 0) real) in
    r ∙ spare_free sh.sizes.nodes x.stocks w room
