-- Labels and links keep the law.
use Rattle.std.proofs.Common.{◌≡◌, ℕ, ◌+◌, ◌*◌, ◌<◌, zero, suc, List, [], ◌∷◌, ◌++◌, length, set, Some, slice_get, refl, arith, ap, sym, ◌∙◌, subst}
use Rattle.std.proofs.lemmas.List.{set-get_or}
use Rattle.cf_shape.specs.Places.{Slot, place}
use Rattle.cf_shape.specs.Places.Slot.{body}
use Rattle.cf_law.proofs.Forms.{stocks_with_node, CanLink}
use Rattle.cf_law.specs.Words.{Spot, Layout, stock_of, node_at, free_of}
use Rattle.cf_law.specs.Passes.{Book, Pass}
use Rattle.cf_law.specs.Steps.{Holds, book_with_label, book_with_node, pass_with_book, pass_with_node, IsChild, label_of, free_node, pass_with_link, child_word}
use Rattle.cf_law.specs.Lawful.{Base, BaseLaw, mine_in, flight_in, book_at, PassLaw, Stands}
use Rattle.cf_law.specs.Events.{word_at}
use Rattle.cf_law.proofs.Nodes.{label_node_at, use_book_same, use_book_other, use_node_at_here}
use Rattle.cf_law.proofs.Links.{link_grows, node_from_word}
use Rattle.cf_law.proofs.Heads.{get_set_same}
use Rattle.cf_law.proofs.Bases.{new_label, new_link, evolves_self, label_base, link_base}
use Rattle.cf_law.proofs.Acting.{booked, knows_more, set_set}
use Rattle.cf_law.proofs.Keeps.{Next, made_book, stock_label_same, stock_label_other}
use Rattle.cf_law.proofs.Loads.{reached, child_lane, learn_law}

used_is : (m : Base) (b : Book) → b ≡ book_at m b.writer → length b.used ≡ length (stock_of m.stocks b.writer).used
used_is m b is = ap (λ (c : Book). length c.used) is

free_is : (sh : Layout) (m : Base) (b : Book) → b ≡ book_at m b.writer → free_of sh.sizes.nodes m.stocks b.writer ≡ free_node sh b
free_is sh m b is = ap (λ (n : ℕ). b.writer * sh.sizes.nodes + n) (sym (used_is m b is))

-- A label.
pub label_step : (sh : Layout) (m : Base) (passes : List Pass) (kk : ℕ) (p : Pass) (k : ℕ) (b : Book) (s : Spot) (t : Slot) → Stands sh m passes
    → slice_get passes kk ≡ Some p → Holds p k b
    → length b.used < sh.sizes.nodes → IsChild sh p s t
    → Next sh m (body (free_node sh b) 0) (label_of sh s t) (set passes kk (pass_with_book k (book_with_label (label_of sh s t) b) p))
label_step sh m passes kk p k b s t S at held room child =
    let own = (S.knows kk p at).books k b held in
    let w : ℕ = b.writer in
    let v : ℕ = label_of sh s t in
    let m' = new_label sh w v m in
    let lt : w < length m.stocks = omega (arith, S.law.nodes.writers, own.0) in
    let free = free_is sh m b own.1 in (
      m',
      ap (λ (n : ℕ). set m.words (place sh.sizes (body n 0)) v) free,
      booked sh m m' passes kk p k b (book_with_label v b) S at held (label_base sh m w v S.law lt (omega (arith, used_is m b own.1)))
          (evolves_self m.log) (λ n r e. label_node_at sh.sizes.nodes m.stocks w v n lt ∙ e) (omega arith)
          (ap (book_with_label v) own.1
          ∙ made_book m' w (mine_in w 0 m.log) (flight_in w 0 m.log)
          (record { used = (stock_of m.stocks w).used; label = v; over = (stock_of m.stocks w).over }) refl refl (sym (stock_label_same m.stocks w v lt)))
          (λ u ne. sym (made_book m' u (mine_in u 0 m.log) (flight_in u 0 m.log) (stock_of m.stocks u) refl refl (sym (stock_label_other m.stocks w v u ne)))),
      (evolves_self m.log, omega arith),
    )

-- A link where the word was 0.
pub link_won : (sh : Layout) (m : Base) (passes : List Pass) (kk : ℕ) (p : Pass) (k : ℕ) (b : Book) (s : Spot) (t : Slot) → Stands sh m passes
    → slice_get passes kk ≡ Some p → Holds p k b
    → length b.used < sh.sizes.nodes → IsChild sh p s t → b.label ≡ label_of sh s t → word_at sh m.words t ≡ 0
    → Next sh m t (suc (free_node sh b)) (set passes kk (pass_with_book k (book_with_node s b) (pass_with_node s (free_node sh b) p)))
link_won sh m passes kk p k b s t S at held room child label zero_word =
    let knows = S.knows kk p at in
    let own = knows.books k b held in
    let w : ℕ = b.writer in
    let m' = new_link sh w s t m in
    let lt : w < length m.stocks = omega (arith, S.law.nodes.writers, own.0) in
    let low : length (stock_of m.stocks w).used < sh.sizes.nodes = omega (arith, used_is m b own.1) in
    let can : CanLink sh m.stocks w s t = record {
      writer = lt;
      room = low;
      named = reached sh.sizes.nodes m.stocks p s.lane s.path t knows.known child.reaches;
      real = child.real;
      lane = child_lane sh m p s.lane s.path t S.law knows child.real child.reaches;
      inner = child.inner;
      label = sym (ap (λ (c : Book). c.label) own.1) ∙ label;
    } in
    let free = free_is sh m b own.1 in
    let c : Book = book_with_node s b in
    let p1 : Pass = pass_with_book k c p in
    let S1 : Stands sh m' (set passes kk p1) = booked sh m m' passes kk p k b c S at held (link_base sh m w s t S.law can zero_word)
    (evolves_self m.log) (link_grows sh.sizes.nodes m.stocks w s lt low) (omega arith)
    (ap (book_with_node s) own.1
    ∙ made_book m' w (mine_in w 0 m.log) (flight_in w 0 m.log)
    (record { used = (stock_of m.stocks w).used ++ s ∷ []; label = 0; over = (stock_of m.stocks w).over }) refl refl (sym (use_book_same w s m.stocks lt)))
    (λ u ne. sym (made_book m' u (mine_in u 0 m.log) (flight_in u 0 m.log) (stock_of m.stocks u) refl refl (sym (use_book_other w s m.stocks u ne)))) in
    let at1 : slice_get (set passes kk p1) kk ≡ Some p1 = get_set_same passes kk p1 p at in
    let node : node_at sh.sizes.nodes (stocks_with_node w s m.stocks) (free_node sh b) ≡ Some s =
    ap (node_at sh.sizes.nodes (stocks_with_node w s m.stocks)) (sym free) ∙ use_node_at_here sh.sizes.nodes m.stocks w s lt low in
    let p2 : Pass = pass_with_node s (free_node sh b) p1 in
    let S2 : Stands sh m' (set (set passes kk p1) kk p2) =
    knows_more sh m' (set passes kk p1) kk p1 p2 S1 at1 refl (learn_law sh m' p1 s (free_node sh b) node (S1.knows kk p1 at1)) in (
      m',
      ap (λ (n : ℕ). set m.words (place sh.sizes t) (suc n)) free,
      subst (Stands sh m') (set_set passes kk p1 p2) S2,
      (evolves_self m.log, omega arith),
    )

-- a child word found nonzero names a node of its lane and prefix
pub child_node : (sh : Layout) (m : Base) (p : Pass) (s : Spot) (t : Slot) (n : ℕ) → BaseLaw sh m → PassLaw sh m p → IsChild sh p s t
    → word_at sh m.words t ≡ suc n → node_at sh.sizes.nodes m.stocks n ≡ Some s
child_node sh m p s t n law knows child found =
    node_from_word sh m.tails m.log m.stocks m.words s t n child.inner child.real
    (reached sh.sizes.nodes m.stocks p s.lane s.path t knows.known child.reaches) law.spells found

link_lost : (sh : Layout) (m : Base) (passes : List Pass) (kk : ℕ) (p : Pass) (s : Spot) (t : Slot) (n : ℕ) → Stands sh m passes → slice_get passes kk ≡ Some p
    → IsChild sh p s t → word_at sh m.words t ≡ suc n
    → Next sh m t (suc n) (set passes kk (pass_with_node s n p))
link_lost sh m passes kk p s t n S at child found =
    let knows = S.knows kk p at in (
      m,
      sym (ap (set m.words (place sh.sizes t)) (sym found) ∙ set-get_or m.words (place sh.sizes t) 0),
      knows_more sh m passes kk p (pass_with_node s n p) S at refl (learn_law sh m p s n (child_node sh m p s t n S.law knows child found) knows),
      (evolves_self m.log, omega arith),
    )

pub link_step : (sh : Layout) (m : Base) (passes : List Pass) (kk : ℕ) (p : Pass) (k : ℕ) (b : Book) (s : Spot) (t : Slot) → Stands sh m passes
    → slice_get passes kk ≡ Some p → Holds p k b
    → length b.used < sh.sizes.nodes → IsChild sh p s t → b.label ≡ label_of sh s t → (v : ℕ) → word_at sh m.words t ≡ v
    → Next sh m t (child_word (free_node sh b) v) (set passes kk (pass_with_link k b s (free_node sh b) p v))
link_step sh m passes kk p k b s t S at held room child label zero found = link_won sh m passes kk p k b s t S at held room child label found
link_step sh m passes kk p k b s t S at held room child label (suc n) found = link_lost sh m passes kk p s t n S at child found
