-- Every lawful step keeps the law.
use Rattle.std.proofs.Common.{◌≡◌, ℕ, ◌+◌, ◌*◌, ◌%◌, ◌^◌, ◌<◌, ◌≤◌, ◌⊎◌, ◌==◌, zero, suc, List, [], ◌∷◌, ◌++◌, length, set, get_or, take, Some, None, slice_get, cond, Bool, true, false, inl, inr, refl, arith, ap, sym, ◌∙◌, subst}
use Rattle.cf_row.proofs.Truths.{eq_false, eq_true, lt_false}
use Rattle.cf_row.specs.declared.row.Entry.{Entry}
use Rattle.cf_shape.specs.Places.{head_slot}
use Rattle.std.proofs.lemmas.Bool.{cases_eq}
use Rattle.std.proofs.lemmas.Nat.{mul-add-lt}
use Rattle.std.proofs.lemmas.List.{set-get_or}
use Rattle.cf_shape.specs.Places.{Slot, place, IsReal}
use Rattle.cf_shape.specs.Places.Slot.{tail, cell}
use Rattle.cf_law.specs.Words.{Spot, spot, Layout}
use Rattle.cf_law.specs.Law.{LayoutLaw}
use Rattle.cf_law.specs.Passes.{Book, Pass}
use Rattle.cf_law.specs.Steps.{Act, Step, pass_with_look, pass_that_sees, pass_with_tail, pass_with_child, pass_with_head, pass_with_cell, pass_with_node, met_of, cursor_after_cell, IsChild, Knows}
use Rattle.cf_law.specs.Steps.Step.{takes, stores, finishes, advances, loads_tail, looks_done, loads_word, labels, links, heads, loads_child, loads_head, loads_cell}
use Rattle.cf_law.specs.Lawful.{Base, BaseLaw, PassLaw, Stands}
use Rattle.cf_law.specs.Events.{word_at, entries_spelled}
use Rattle.cf_law.proofs.Nodes.{node_within}
use Rattle.cf_law.proofs.Bases.{moved, advance_base, evolves_self, grows_self}
use Rattle.cf_law.proofs.Acting.{acted, knows_more}
use Rattle.cf_law.proofs.Keeps.{Next, take_keeps, store_keeps, finish_keeps, head_keeps}
use Rattle.cf_law.proofs.Linking.{label_step, link_step, child_node}
use Rattle.cf_law.proofs.Loads.{place_tail, tail_is, spelt_is, looked_law, tails_law, cursor_law, learn_law, sees_law, head_walk, cell_walk}

-- a load leaves the words
load_step : (sh : Layout) (m : Base) (passes : List Pass) (kk : ℕ) (p q : Pass) (t : Slot) → Stands sh m passes → slice_get passes kk ≡ Some p
    → q.books ≡ p.books → PassLaw sh m q
    → Next sh m t (word_at sh m.words t) (set passes kk q)
load_step sh m passes kk p q t S at same new =
    (m, sym (set-get_or m.words (place sh.sizes t) 0), knows_more sh m passes kk p q S at same new, (evolves_self m.log, omega arith))

pub sees_books : (n : ℕ) (es : List Entry) (p : Pass) → (pass_that_sees n es p).books ≡ p.books
sees_books n es p = go (Rattle.std.specs.Bool.nat_lt (length p.seen) n)
  where
    go : (b : Bool) → (cond b (record p { seen = take n es; cursor = Rattle.std.proofs.Common.None }) p).books ≡ p.books
    go true = refl
    go false = refl

pub sees_known : (n : ℕ) (es : List Entry) (p : Pass) → (pass_that_sees n es p).known ≡ p.known
sees_known n es p = go (Rattle.std.specs.Bool.nat_lt (length p.seen) n)
  where
    go : (b : Bool) → (cond b (record p { seen = take n es; cursor = Rattle.std.proofs.Common.None }) p).known ≡ p.known
    go true = refl
    go false = refl

-- Loads of the read tail.
tail_step : (sh : Layout) (m : Base) (passes : List Pass) (kk : ℕ) (p : Pass) (asked : Bool) → LayoutLaw sh → Stands sh m passes → slice_get passes kk ≡ Some p
    → (words : List ℕ) → m.words ≡ words
    → Next sh m (tail 1) (word_at sh m.words (tail 1))
    (set passes kk (pass_with_tail asked (word_at sh m.words (tail 1)) (entries_spelled sh words (word_at sh words (tail 1))) p))
tail_step sh m passes kk p asked shaped S at words same =
    let n : ℕ = word_at sh m.words (tail 1) in
    let es : List Entry = entries_spelled sh words (word_at sh words (tail 1)) in
    let fronts = spelt_is sh m words shaped S.law same in
    let n_is : n ≡ m.tails.1 = tail_is sh m 1 S.law (omega arith) in
    let seen = sees_law sh m p n es S.law (omega (arith, n_is)) fronts (S.knows kk p at) in
    load_step sh m passes kk p (pass_with_tail asked n es p) (tail 1) S at (sees_books n es p)
    (looked_law sh m (record (pass_that_sees n es p) { tails = cond asked (p.tails ++ n ∷ []) p.tails }) 1 n S.law
    (ap (λ (k : ℕ). get_or m.words k 0) (sym (place_tail sh.sizes 1)))
    (tails_law sh m (pass_that_sees n es p) (cond asked (p.tails ++ n ∷ []) p.tails) seen))

-- An advance.
advance_step : (sh : Layout) (m : Base) (passes : List Pass) (kk : ℕ) (p : Pass) (t i : ℕ) → LayoutLaw sh → Stands sh m passes → slice_get passes kk ≡ Some p
    → t ≤ length p.seen → t < sh.sizes.tickets → suc i ≡ sh.sizes.ticket_words → p.look.word ≡ place sh.sizes (cell t i) → p.look.value ≡ 1
    → (words : List ℕ) → words ≡ set m.words (place sh.sizes (tail 1)) (cond (word_at sh m.words (tail 1) == t) (suc t) (word_at sh m.words (tail 1)))
    → Next sh m (tail 1) (cond (word_at sh m.words (tail 1) == t) (suc t) (word_at sh m.words (tail 1)))
    (set passes kk (pass_that_sees (suc t) (entries_spelled sh words (word_at sh words (tail 1))) p))
advance_step sh m passes kk p t i shaped S at le lt last word one words is =
    let knows = S.knows kk p at in
    let n : ℕ = word_at sh m.words (tail 1) in
    let n_is : n ≡ m.tails.1 = tail_is sh m 1 S.law (omega arith) in
    let es : List Entry = entries_spelled sh words (word_at sh words (tail 1)) in
    let done = knows.look t i lt last word one in
    elim (cases_eq n t) [
      | inl e ↦
          let c : cond (n == t) (suc t) n ≡ suc t = ap (λ (b : Bool). cond b (suc t) n) (eq_true n t e) in
          let read : m.tails.1 ≡ t = omega (arith, n_is) in
          let m' = moved sh m in
          let law : BaseLaw sh m' = advance_base sh m done.0 S.law (ap (Rattle.std.proofs.Common.slice_get m.log) read ∙ done.1) done.2 in
          let same : m'.words ≡ words = ap (λ (k : ℕ). set m.words (place sh.sizes (tail 1)) (suc k)) read
          ∙ (ap (set m.words (place sh.sizes (tail 1))) (sym c) ∙ sym is) in
          let fronts = spelt_is sh m' words shaped law same in
          let old = Rattle.cf_law.proofs.Acting.rebooked sh m m' p p.books (evolves_self m.log) (grows_self sh.sizes.nodes m.stocks) S.law.covered
          (omega arith) knows.books knows.ends knows in (
            m',
            same ∙ is,
            acted sh m m' passes kk p (pass_that_sees (suc t) es p) S at law (evolves_self m.log) (grows_self sh.sizes.nodes m.stocks) (omega arith)
                (λ w none. refl)
                (λ j b held. (b, ap (λ (bs : List Book). slice_get bs j) (sym (sees_books (suc t) es p)) ∙ held, refl))
                (λ j b held. (b, ap (λ (bs : List Book). slice_get bs j) (sees_books (suc t) es p) ∙ held, refl))
                (sees_law sh m' p (suc t) es law (omega (arith, read)) fronts old),
            (evolves_self m.log, omega arith),
          )
      | inr ne ↦
          let c : cond (n == t) (suc t) n ≡ n = ap (λ (b : Bool). cond b (suc t) n) (eq_false n t ne) in
          let within = knows.within in
          let same : m.words ≡ words = sym (is ∙ (ap (set m.words (place sh.sizes (tail 1))) c ∙ set-get_or m.words (place sh.sizes (tail 1)) 0)) in
          let fronts = spelt_is sh m words shaped S.law same in (
            m,
            same ∙ is,
            knows_more sh m passes kk p (pass_that_sees (suc t) es p) S at (sees_books (suc t) es p)
                (sees_law sh m p (suc t) es S.law (omega (arith, n_is)) fronts knows),
            (evolves_self m.log, omega arith),
          )
    ]

-- A load of a child, a head or a cell.
child_step : (sh : Layout) (m : Base) (passes : List Pass) (kk : ℕ) (p : Pass) (s : Spot) (t : Slot) → Stands sh m passes → slice_get passes kk ≡ Some p
    → IsChild sh p s t → (v : ℕ) → word_at sh m.words t ≡ v
    → Next sh m t v (set passes kk (pass_with_child (place sh.sizes t) s p v))
child_step sh m passes kk p s t S at child zero found =
    subst (λ (v : ℕ). Next sh m t v (set passes kk (pass_with_look (place sh.sizes t) 0 p))) found
    (load_step sh m passes kk p (pass_with_look (place sh.sizes t) 0 p) t S at refl (looked_law sh m p (place sh.sizes t) 0 S.law found (S.knows kk p at)))
child_step sh m passes kk p s t S at child (suc n) found =
    let q : Pass = pass_with_look (place sh.sizes t) (suc n) (pass_with_node s n p) in
    subst (λ (v : ℕ). Next sh m t v (set passes kk q)) found
    (load_step sh m passes kk p q t S at refl
    (looked_law sh m (pass_with_node s n p) (place sh.sizes t) (suc n) S.law found
    (learn_law sh m p s n (child_node sh m p s t n S.law (S.knows kk p at) child found) (S.knows kk p at))))

head_step : (sh : Layout) (m : Base) (passes : List Pass) (kk : ℕ) (p : Pass) (node d w l : ℕ) (q : List ℕ) → Stands sh m passes → slice_get passes kk ≡ Some p
    → Knows p (spot l q) node → suc (length q) ≡ sh.levels l → d < 16 → w < sh.sizes.writers
    → Next sh m (head_slot sh.sizes node d w) (word_at sh m.words (head_slot sh.sizes node d w))
    (set passes kk (pass_with_head (place sh.sizes (head_slot sh.sizes node d w)) w (spot l (d ∷ q)) p (word_at sh m.words (head_slot sh.sizes node d w))))
head_step sh m passes kk p node d w l q S at known leaf dl wl =
    let knows = S.knows kk p at in
    let t = head_slot sh.sizes node d w in
    let v : ℕ = word_at sh m.words t in
    let node_is = knows.known known.0 (spot l q, node) known.1 in
    let real : IsReal sh.sizes t = (
      node_within sh.sizes.nodes sh.sizes.writers m.stocks node (spot l q) S.law.nodes.writers S.law.nodes.room node_is,
      omega (arith, mul-add-lt d sh.sizes.writers w 16 dl wl),
    ) in
    let walk = head_walk sh m p node d w l q S.law knows real wl node_is (lt_false (suc (length q)) (sh.levels l) (λ h. omega (arith, leaf))) in
    load_step sh m passes kk p (pass_with_head (place sh.sizes t) w (spot l (d ∷ q)) p v) t S at refl
    (looked_law sh m (record p { cursor = Some record { writer = w; spot = spot l (d ∷ q); link = v; gone = []; met = met_of p.cursor } })
    (place sh.sizes t) v S.law refl
    (cursor_law sh m p (Some record { writer = w; spot = spot l (d ∷ q); link = v; gone = []; met = met_of p.cursor }) walk knows))

-- the base after a lawful step
pub step_keeps : (sh : Layout) (m : Base) (passes : List Pass) (kk : ℕ) (p : Pass) (a : Act) (t : Slot) (f : ℕ → ℕ) (g : ℕ → List Entry → Pass)
    → LayoutLaw sh → Stands sh m passes → slice_get passes kk ≡ Some p → Step sh p a t f g
    → (words : List ℕ) → words ≡ set m.words (place sh.sizes t) (f (word_at sh m.words t))
    → Next sh m t (f (word_at sh m.words t)) (set passes kk (g (word_at sh m.words t) (entries_spelled sh words (word_at sh words (tail 1)))))
step_keeps sh m passes kk p a t f g shaped S at (takes r b fits one fresh none) words is = take_keeps sh m passes kk p r b S at one fits fresh none
step_keeps sh m passes kk p a t f g shaped S at (stores k i b fl flies next) words is = store_keeps sh m passes kk p k i b fl S at flies next
step_keeps sh m passes kk p a t f g shaped S at (finishes k i b fl flies last ready everywhere) words is =
    finish_keeps sh m passes kk p k i b fl S at flies last ready everywhere
step_keeps sh m passes kk p a t f g shaped S at (advances n i le lt last word one) words is =
    advance_step sh m passes kk p n i shaped S at le lt last word one words is
step_keeps sh m passes kk p a t f g shaped S at (loads_tail asked) words is =
    tail_step sh m passes kk p asked shaped S at words (sym (is ∙ set-get_or m.words (place sh.sizes (tail 1)) 0))
step_keeps sh m passes kk p a t f g shaped S at (looks_done o i lt last) words is =
    load_step sh m passes kk p (pass_with_look (place sh.sizes (cell o i)) (word_at sh m.words (cell o i)) p) (cell o i) S at refl
    (looked_law sh m p (place sh.sizes (cell o i)) (word_at sh m.words (cell o i)) S.law refl (S.knows kk p at))
step_keeps sh m passes kk p a t f g shaped S at (loads_word o i lt within) words is =
    load_step sh m passes kk p (pass_with_look (place sh.sizes (cell o i)) (word_at sh m.words (cell o i)) p) (cell o i) S at refl
    (looked_law sh m p (place sh.sizes (cell o i)) (word_at sh m.words (cell o i)) S.law refl (S.knows kk p at))
step_keeps sh m passes kk p a t f g shaped S at (labels k b s u held room child) words is = label_step sh m passes kk p k b s u S at held room child
step_keeps sh m passes kk p a t f g shaped S at (links k b s u held room child label) words is =
    link_step sh m passes kk p k b s u S at held room child label (word_at sh m.words u) refl
step_keeps sh m passes kk p a t f g shaped S at (heads k l d node q b fl flies ready fresh leads leaf) words is =
    head_keeps sh m passes kk p k l d node q b fl shaped S at flies ready fresh leads leaf
step_keeps sh m passes kk p a t f g shaped S at (loads_child s u child) words is = child_step sh m passes kk p s u S at child (word_at sh m.words u) refl
step_keeps sh m passes kk p a t f g shaped S at (loads_head node d w l q known leaf dl wl) words is =
    head_step sh m passes kk p node d w l q S at known leaf dl wl
step_keeps sh m passes kk p a t f g shaped S at (loads_cell o l i k lt is_version within may) words is =
    let knows = S.knows kk p at in
    let v : ℕ = word_at sh m.words (cell o k) in
    load_step sh m passes kk p (pass_with_cell (place sh.sizes (cell o k)) o l i p v) (cell o k) S at refl
    (looked_law sh m (record p { cursor = cursor_after_cell o l i v p.cursor }) (place sh.sizes (cell o k)) v S.law refl
    (cursor_law sh m p (cursor_after_cell o l i v p.cursor)
    (cell_walk sh m p o l i k p.cursor S.law knows.within is_version within shaped.few_tickets knows.walk) knows))
