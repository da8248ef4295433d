-- A writer's chains are made by what it has finished.
use Rattle.std.proofs.Common.{◌≡◌, ℕ, ◌+◌, ◌<◌, ◌≤◌, ◌⊎◌, ◌==◌, zero, suc, cond, Bool, true, false, List, [], ◌∷◌, ◌++◌, Option, Some, None, slice_get, inl, inr, refl, arith, ap, ap₂, sym, ◌∙◌, subst, append_assoc, length, length-append}
use Rattle.cf_row.proofs.Truths.{eq_from, eq_true, lt_false, lt_true}
use Rattle.cf_row.specs.Row.{RowValue}
use Rattle.cf_shape.specs.Uses.{Use}
use Rattle.std.proofs.lemmas.List.{append-nil}
use Rattle.std.specs.Bool.{nat_lt}
use Rattle.std.proofs.lemmas.Bool.{cases_Bool, cases_eq, cases_lt}
use Rattle.cf_law.specs.Words.{Spot, spot, Layout, Ticket, has, same_path, links, entry_at, chain, used_word, lane_word, version_word}
use Rattle.cf_shape.specs.Uses.Use.{plain, version}
use Rattle.cf_law.specs.Passes.{Own, Flight, Book}
use Rattle.cf_law.specs.Steps.{ticket_of, mine_chain, own_word, own_lane_word}
use Rattle.cf_law.specs.Lawful.{Base, BaseLaw, mine_in, book_at}
use Rattle.cf_law.proofs.Chains.{links_true, links_intro, entry_linked, entry_unlinked, entry_none, same_bool, same_path_true, same_path_intro}
use Rattle.cf_law.proofs.Heads.{none_after}
use Rattle.cf_law.proofs.Books.{own_of, other_cons, done_cons, open_cons}

-- over all tickets, from offset k on
pub walk : Layout → ℕ → Spot → ℕ → List Ticket → ℕ → List (ℕ × RowValue)
walk sh w s k [] o = []
walk sh w s k (t ∷ ts) o = walk sh w s (suc k) ts o ++ cond (nat_lt k o) (entry_at sh w s k (Some t)) []

-- nothing stands before the first
walk_none : (sh : Layout) (w : ℕ) (s : Spot) (k : ℕ) (log : List Ticket) (o : ℕ) → o ≤ k → walk sh w s k log o ≡ []
unfolding walk
walk_none sh w s k [] o h = refl
walk_none sh w s k (t ∷ ts) o h =
    ap₂ (λ (c : List (ℕ × RowValue)) (b : Bool). c ++ cond b (entry_at sh w s k (Some t)) []) (walk_none sh w s (suc k) ts o (omega arith))
    (lt_false k o (λ g. omega arith))

-- one offset more
walk_more : (sh : Layout) (w : ℕ) (s : Spot) (k : ℕ) (log : List Ticket) (j o : ℕ) → o ≡ k + j
    → walk sh w s k log (suc o) ≡ entry_at sh w s o (slice_get log j) ++ walk sh w s k log o
unfolding walk
walk_more sh w s k [] j o h = ap (λ (e : List (ℕ × RowValue)). e ++ []) (sym (entry_none sh w s o))
walk_more sh w s k (t ∷ ts) zero o h =
    let e : k ≡ o = omega arith in
    ap₂ (λ (c : List (ℕ × RowValue)) (b : Bool). c ++ cond b (entry_at sh w s k (Some t)) []) (walk_none sh w s (suc k) ts (suc o) (omega arith))
    (lt_true k (suc o) (omega arith))
    ∙ (ap (λ (n : ℕ). entry_at sh w s n (Some t)) e
    ∙ (sym (append-nil (entry_at sh w s o (Some t)))
    ∙ ap (λ (c : List (ℕ × RowValue)). entry_at sh w s o (Some t) ++ c) (sym (walk_none sh w s k (t ∷ ts) o (omega arith)))))
walk_more sh w s k (t ∷ ts) (suc j) o h =
    let E = entry_at sh w s k (Some t) in
    ap₂ (λ (c : List (ℕ × RowValue)) (b : Bool). c ++ cond b E []) (walk_more sh w s (suc k) ts j o (omega arith)) (lt_true k (suc o) (omega arith))
    ∙ (append_assoc (entry_at sh w s o (slice_get ts j)) (walk sh w s (suc k) ts o) E
    ∙ ap (λ (b : Bool). entry_at sh w s o (slice_get ts j) ++ (walk sh w s (suc k) ts o ++ cond b E [])) (sym (lt_true k o (omega arith))))

pub chain_walk : (sh : Layout) (log : List Ticket) (w : ℕ) (s : Spot) (o : ℕ) → chain sh log w s o ≡ walk sh w s 0 log o
unfolding chain
chain_walk sh log w s zero = sym (walk_none sh w s 0 log 0 (omega arith))
chain_walk sh log w s (suc o) = ap (λ (c : List (ℕ × RowValue)). entry_at sh w s o (slice_get log o) ++ c) (chain_walk sh log w s o)
    ∙ sym (walk_more sh w s 0 log o o (omega arith))

-- what a ticket of the writer must be for its book to make the chain before o
abbrev pub Settled : Layout → ℕ → ℕ → ℕ → Ticket → Type 0
Settled sh l o k t = ((t.is_done ≡ true) × (k < o) × ((p : List ℕ) → sh.path t.row l ≡ Some p → has t.linked l ≡ true)) ⊎ ((t.is_done ≡ false) × (o ≤ k))

-- a writer's chain in a leaf: of nothing finished, of one record more, and how long it is
pub chain_nil : (sh : Layout) (s : Spot) → mine_chain sh s [] ≡ []
unfolding mine_chain
chain_nil sh s = refl

pub chain_cons : (sh : Layout) (s : Spot) (x : Own) (xs : List Own)
    → mine_chain sh s (x ∷ xs) ≡ mine_chain sh s xs ++ cond (same_path (sh.path x.row s.lane) s.path) ((x.offset, x.row) ∷ []) []
unfolding mine_chain
chain_cons sh s x xs = refl

at_most_one : (x : Own) (b : Bool) → length (cond {A = List (ℕ × RowValue)} b ((x.offset, x.row) ∷ []) []) ≤ 1
at_most_one x true = omega arith
at_most_one x false = omega arith

pub chain_few : (sh : Layout) (s : Spot) (mine : List Own) → length (mine_chain sh s mine) ≤ length mine
chain_few sh s [] = (let e = ap (λ (c : List (ℕ × RowValue)). length c) (chain_nil sh s) in omega (arith, e))
chain_few sh s (x ∷ xs) =
    let here = same_path (sh.path x.row s.lane) s.path in
    let tail : List (ℕ × RowValue) = cond here ((x.offset, x.row) ∷ []) [] in
    let e = ap (λ (c : List (ℕ × RowValue)). length c) (chain_cons sh s x xs) in
    omega (arith, e, length-append (mine_chain sh s xs) tail, at_most_one x here, chain_few sh s xs)

mine_none : (sh : Layout) (s : Spot) (w k : ℕ) → mine_chain sh s (mine_in w k []) ≡ []
unfolding mine_chain mine_in
mine_none sh s w k = refl

walk_cons : (sh : Layout) (w : ℕ) (s : Spot) (k : ℕ) (t : Ticket) (ts : List Ticket) (o : ℕ) (b : Bool) → nat_lt k o ≡ b
    → walk sh w s k (t ∷ ts) o ≡ walk sh w s (suc k) ts o ++ cond b (entry_at sh w s k (Some t)) []
unfolding walk
walk_cons sh w s k t ts o b e = ap (λ (c : Bool). walk sh w s (suc k) ts o ++ cond c (entry_at sh w s k (Some t)) []) e

walk_nil : (sh : Layout) (w : ℕ) (s : Spot) (k o : ℕ) → walk sh w s k [] o ≡ []
unfolding walk
walk_nil sh w s k o = refl

nil_cond : (b : Bool) (xs : List (ℕ × RowValue)) → xs ≡ [] → cond b xs [] ≡ []
nil_cond true xs h = h
nil_cond false xs h = refl

-- a finished ticket is an entry of the leaf that its row says
entry_done : (sh : Layout) (w : ℕ) (s : Spot) (k : ℕ) (t : Ticket) → t.writer ≡ w → ((p : List ℕ) → sh.path t.row s.lane ≡ Some p → has t.linked s.lane ≡ true)
    → cond (same_path (sh.path t.row s.lane) s.path) ((k, t.row) ∷ []) [] ≡ entry_at sh w s k (Some t)
entry_done sh w s k t e linked =
    let same : links sh w s t ≡ same_path (sh.path t.row s.lane) s.path = same_bool _ _
    (λ h. let x = links_true sh w s t h in ap (λ (q : Option (List ℕ)). same_path q s.path) x.2 ∙ same_path_intro s.path)
    (λ h. let p = same_path_true (sh.path t.row s.lane) s.path h in links_intro sh w s t e (linked s.path p) p) in
    elim (cases_Bool (links sh w s t)) [
      | inl l ↦ ap (λ (b : Bool). cond b ((k, t.row) ∷ []) []) (sym same ∙ l) ∙ sym (entry_linked sh w s k t l)
      | inr l ↦ ap (λ (b : Bool). cond b ((k, t.row) ∷ []) []) (sym same ∙ l) ∙ sym (entry_unlinked sh w s k t l)
    ]

pub mine_walk : (sh : Layout) (w : ℕ) (s : Spot) (k : ℕ) (log : List Ticket) (o : ℕ)
    → ((j : ℕ) (t : Ticket) → slice_get log j ≡ Some t → t.writer ≡ w → Settled sh s.lane o (k + j) t)
    → mine_chain sh s (mine_in w k log) ≡ walk sh w s k log o
mine_walk sh w s k [] o h = mine_none sh s w k ∙ sym (walk_nil sh w s k o)
mine_walk sh w s k (t ∷ ts) o h =
    let rest : mine_chain sh s (mine_in w (suc k) ts) ≡ walk sh w s (suc k) ts o =
    mine_walk sh w s (suc k) ts o
    (λ j u at e. subst (λ (n : ℕ). Settled sh s.lane o n u) (let f : k + suc j ≡ suc k + j = omega arith in f) (h (suc j) u at e)) in
    let here : t.writer ≡ w → Settled sh s.lane o k t = λ e. subst (λ (n : ℕ). Settled sh s.lane o n t) (let f : k + 0 ≡ k = omega arith in f) (h 0 t refl e) in
    elim (cases_Bool (t.writer == w)) [
      | inr e ↦
          let none : links sh w s t ≡ false = elim (cases_Bool (links sh w s t)) [
            | inr f ↦ f
            | inl l ↦ absurd (cc (e, eq_true t.writer w (links_true sh w s t l).0))
          ] in
          ap (mine_chain sh s) (other_cons w k t ts e).0 ∙ (rest ∙ (sym (append-nil (walk sh w s (suc k) ts o))
          ∙ (ap (λ (c : List (ℕ × RowValue)). walk sh w s (suc k) ts o ++ c) (sym (nil_cond (nat_lt k o) _ (entry_unlinked sh w s k t none)))
          ∙ sym (walk_cons sh w s k t ts o (nat_lt k o) refl))))
      | inl e ↦ elim (here (eq_from t.writer w e)) [
        | inl g ↦
            ap (mine_chain sh s) (done_cons w k t ts e g.0).0 ∙ (chain_cons sh s (own_of k t) (mine_in w (suc k) ts)
            ∙ (ap₂ (λ (a c : List (ℕ × RowValue)). a ++ c) rest (entry_done sh w s k t (eq_from t.writer w e) g.2)
            ∙ sym (walk_cons sh w s k t ts o true (lt_true k o g.1))))
        | inr g ↦
            ap (mine_chain sh s) (open_cons w k t ts e g.0).0
            ∙ (rest ∙ (sym (append-nil (walk sh w s (suc k) ts o))
            ∙ sym (walk_cons sh w s k t ts o false (lt_false k o (λ q. let r = g.1 in omega arith)))))
      ]
    ]

-- Before its ticket in flight, a writer's chain is made by what it has finished.
pub chain_mine : (sh : Layout) (m : Base) (w o : ℕ) (s : Spot) (t : Ticket) → BaseLaw sh m → slice_get m.log o ≡ Some t → t.writer ≡ w → t.is_done ≡ false
    → mine_chain sh s (mine_in w 0 m.log) ≡ chain sh m.log w s o
chain_mine sh m w o s t law at e flies =
    mine_walk sh w s 0 m.log o (λ j u there f. subst (λ (n : ℕ). Settled sh s.lane o n u) (let z : j ≡ 0 + j = omega arith in z) (settled j u there f))
    ∙ sym (chain_walk sh m.log w s o)
  where
    settled : (j : ℕ) (u : Ticket) → slice_get m.log j ≡ Some u → u.writer ≡ w → Settled sh s.lane o j u
    settled j u there f = elim (cases_lt j o) [
      | inl lt ↦ let d = law.flight j o u t there at (f ∙ sym e) lt in inl (d, lt, λ p leads. law.linked j s.lane u p there d leads)
      | inr ge ↦ elim (cases_eq o j) [
        | inl same ↦ let z : t ≡ u = cc (at, ap (slice_get m.log) same, there) in inr (ap (λ (q : Ticket). q.is_done) (sym z) ∙ flies, ge)
        | inr ne ↦ absurd (none_after m.log o j t u law.flight at flies there (f ∙ sym e) (omega arith))
      ]
    ]

-- a word of the ticket in flight is a function of the book
pub own_word_is : (sh : Layout) (m : Base) (w o : ℕ) (b : Book) (f : Flight) (u : Use) → BaseLaw sh m → b ≡ book_at m w
    → slice_get m.log o ≡ Some (ticket_of w f)
    → own_word sh b f.row u ≡ used_word sh m.log o (ticket_of w f) u
own_word_is sh m w o b f (plain i) law is at = ap (λ (c : Book). Rattle.std.proofs.Common.get_or (sh.spelled f.row c.writer) i 0) is
own_word_is sh m w o b f (version l j) law is at = go (sh.path f.row l)
  where
    go : (p : Option (List ℕ)) → own_lane_word sh b f.row l j p ≡ lane_word sh m.log o l j (ticket_of w f) p
    go None = refl
    go (Some q) =
        ap (λ (c : List (ℕ × RowValue)). version_word sh l j c f.row)
        (ap (λ (c : Book). mine_chain sh (spot l q) c.mine) is ∙ chain_mine sh m w o (spot l q) (ticket_of w f) law at refl refl)
