-- A step of one pass keeps what the others know and hold.
use Rattle.std.proofs.Common.{true, ◌≡◌, ◌≢◌, ℕ, ◌<◌, ◌≤◌, zero, suc, List, [], ◌∷◌, length, set, Some, slice_get, inl, inr, refl, arith, ap, sym, ◌∙◌, subst}
use Rattle.std.proofs.lemmas.Bool.{cases_eq}
use Rattle.cf_law.specs.Words.{Layout}
use Rattle.cf_law.specs.Passes.{Book, Pass}
use Rattle.cf_law.specs.Steps.{Holds, pass_with_book}
use Rattle.cf_law.specs.Lawful.{Base, BaseLaw, book_at, PassLaw, HoldsAt, Stands}
use Rattle.cf_law.proofs.Links.{Grows}
use Rattle.cf_law.proofs.Heads.{get_set_same, get_set_other}
use Rattle.cf_law.proofs.Passes.{Evolves, known_grows, cursor_evolves, done_evolves}
use Rattle.cf_law.proofs.Bases.{get_from_set, grows_self, evolves_self}
use Rattle.cf_law.proofs.Fronts.{front_evolves}

pub set_set : {A : Type 0} (xs : List A) (k : ℕ) (x y : A) → set (set xs k x) k y ≡ set xs k y
set_set [] k x y = refl
set_set (z ∷ zs) zero x y = refl
set_set {A} (z ∷ zs) (suc k) x y = ap (λ (ws : List A). z ∷ ws) (set_set zs k x y)

-- what a pass knows stays so, with the books that it holds then
pub rebooked : (sh : Layout) (m m' : Base) (p : Pass) (bs : List Book) → Evolves m.log m'.log → Grows sh.sizes.nodes m.stocks m'.stocks
    → m.tails.1 ≤ length m.log → m.tails.1 ≤ m'.tails.1
    → ((k : ℕ) (b : Book) → slice_get bs k ≡ Some b → (b.writer < sh.sizes.writers) × (b ≡ book_at m' b.writer)) → (p.spent ≡ true → bs ≡ []) → PassLaw sh m p
    → PassLaw sh m' (record p { books = bs })
rebooked sh m m' p bs ev grows le more books ends law = record {
  within = omega (arith, law.within);
  seen = law.seen ∙ front_evolves m.log m'.log (length p.seen) (omega (arith, law.within)) ev;
  olds = λ k old at. let h = law.olds k old at in (h.0, h.1 ∙ front_evolves m.log m'.log (length old) (let q = h.0 in omega (arith, law.within)) ev);
  known = λ i x at. known_grows sh m.stocks m'.stocks x grows (law.known i x at);
  walk = cursor_evolves sh m.log m'.log (length p.seen) p.cursor ev (omega (arith, law.within)) law.walk;
  look = λ o i lt last word value. done_evolves m.log m'.log o ev (law.look o i lt last word value);
  books = books;
  ends = ends;
}

held_back : (passes : List Pass) (k : ℕ) (p p' : Pass) → slice_get passes k ≡ Some p
    → ((i : ℕ) (c : Book) → Holds p' i c → (b : Book) × Holds p i b × (b.writer ≡ c.writer))
    → (j i w : ℕ) → HoldsAt (set passes k p') j i w → HoldsAt passes j i w
held_back passes k p p' at back j i w h = elim (cases_eq j k) [
  | inl e ↦
      let same : p' ≡ h.pass = cc (get_set_same passes k p' p at, ap (slice_get (set passes k p')) (sym e), h.at) in
      let b = back i h.book (ap (λ (q : Pass). slice_get q.books i) same ∙ h.held) in
      record { pass = p; book = b.0; at = ap (slice_get passes) e ∙ at; held = b.1; writer = b.2 ∙ h.writer }
  | inr ne ↦ record { pass = h.pass; book = h.book; at = sym (get_set_other passes k j p' ne) ∙ h.at; held = h.held; writer = h.writer }
]

held_on : (passes : List Pass) (k : ℕ) (p p' : Pass) → slice_get passes k ≡ Some p
    → ((i : ℕ) (b : Book) → Holds p i b → (c : Book) × Holds p' i c × (c.writer ≡ b.writer))
    → (j i w : ℕ) → HoldsAt passes j i w → HoldsAt (set passes k p') j i w
held_on passes k p p' at forth j i w h = elim (cases_eq j k) [
  | inl e ↦
      let same : p ≡ h.pass = cc (at, ap (slice_get passes) (sym e), h.at) in
      let c = forth i h.book (ap (λ (q : Pass). slice_get q.books i) same ∙ h.held) in
      record { pass = p'; book = c.0; at = ap (slice_get (set passes k p')) e ∙ get_set_same passes k p' p at; held = c.1; writer = c.2 ∙ h.writer }
  | inr ne ↦ record { pass = h.pass; book = h.book; at = get_set_other passes k j p' ne ∙ h.at; held = h.held; writer = h.writer }
]

-- the books of the acting pass alone change
pub acted : (sh : Layout) (m m' : Base) (passes : List Pass) (k : ℕ) (p p' : Pass) → Stands sh m passes → slice_get passes k ≡ Some p
    → BaseLaw sh m' → Evolves m.log m'.log → Grows sh.sizes.nodes m.stocks m'.stocks → m.tails.1 ≤ m'.tails.1
    → ((w : ℕ) → ((i : ℕ) (b : Book) → Holds p i b → b.writer ≡ w → ⊥) → book_at m' w ≡ book_at m w)
    → ((i : ℕ) (c : Book) → Holds p' i c → (b : Book) × Holds p i b × (b.writer ≡ c.writer))
    → ((i : ℕ) (b : Book) → Holds p i b → (c : Book) × Holds p' i c × (c.writer ≡ b.writer))
    → PassLaw sh m' p' → Stands sh m' (set passes k p')
acted sh m m' passes k p p' S at law ev grows more others back forth new = record {
  law = law;
  knows = λ j q e. elim (cases_eq j k) [
    | inl f ↦ subst (PassLaw sh m') (let same : p' ≡ q = cc (get_set_same passes k p' p at, ap (slice_get (set passes k p')) (sym f), e) in same) new
    | inr ne ↦
        let there : slice_get passes j ≡ Some q = sym (get_set_other passes k j p' ne) ∙ e in
        let old = S.knows j q there in
        rebooked sh m m' q q.books ev grows S.law.covered more
        (λ i b held. let h = old.books i b held in (
          h.0,
          h.1 ∙ sym
              (others b.writer
              (λ h c own e. ne
              (S.once j k i h b.writer (record { pass = q; book = b; at = there; held = held; writer = refl })
              (record { pass = p; book = c; at = at; held = own; writer = e })).0)),
        ))
        old.ends
        old
  ];
  held = λ w lt. let h = S.held w lt in (h.0, h.1, held_on passes k p p' at forth h.0 h.1 w h.2);
  once = λ j i a b w x y. S.once j i a b w (held_back passes k p p' at back j a w x) (held_back passes k p p' at back i b w y);
}

-- what a pass knows alone changes
pub knows_more : (sh : Layout) (m : Base) (passes : List Pass) (k : ℕ) (p p' : Pass) → Stands sh m passes → slice_get passes k ≡ Some p → p'.books ≡ p.books
    → PassLaw sh m p' → Stands sh m (set passes k p')
knows_more sh m passes k p p' S at same new =
    acted sh m m passes k p p' S at S.law (evolves_self m.log) (grows_self sh.sizes.nodes m.stocks) (omega arith) (λ w none. refl)
    (λ i c held. (c, ap (λ (bs : List Book). slice_get bs i) (sym same) ∙ held, refl))
    (λ i b held. (b, ap (λ (bs : List Book). slice_get bs i) same ∙ held, refl)) new

-- one book changes
pub booked : (sh : Layout) (m m' : Base) (passes : List Pass) (k : ℕ) (p : Pass) (j : ℕ) (b c : Book) → Stands sh m passes → slice_get passes k ≡ Some p
    → Holds p j b
    → BaseLaw sh m' → Evolves m.log m'.log → Grows sh.sizes.nodes m.stocks m'.stocks → m.tails.1 ≤ m'.tails.1
    → c ≡ book_at m' b.writer → ((v : ℕ) → v ≢ b.writer → book_at m' v ≡ book_at m v)
    → Stands sh m' (set passes k (pass_with_book j c p))
booked sh m m' passes k p j b c S at held law ev grows more is others =
    let old = S.knows k p at in
    let own = old.books j b held in
    let writer : c.writer ≡ b.writer = ap (λ (d : Book). d.writer) is in
    acted sh m m' passes k p (pass_with_book j c p) S at law ev grows more
    (λ w none. others w (λ e. none j b held (sym e)))
    (λ i d e. elim (get_from_set p.books j i b c d held e) [
      | inl h ↦ (b, ap (slice_get p.books) h.0 ∙ held, sym writer ∙ ap (λ (x : Book). x.writer) (sym h.1))
      | inr h ↦ (d, h, refl)
    ])
    (λ i d e. elim (cases_eq i j) [
      | inl f ↦
          let same : b ≡ d = cc (held, ap (slice_get p.books) (sym f), e) in
          (c, ap (slice_get (set p.books j c)) f ∙ get_set_same p.books j c b held, writer ∙ ap (λ (x : Book). x.writer) same)
      | inr ne ↦ (d, get_set_other p.books j i c ne ∙ e, refl)
    ])
    (rebooked sh m m' p (set p.books j c) ev grows S.law.covered more
    (λ i d e. elim (cases_eq i j) [
      | inl f ↦
          let same : c ≡ d = cc (get_set_same p.books j c b held, ap (slice_get (set p.books j c)) (sym f), e) in
          subst (λ (x : Book). (x.writer < sh.sizes.writers) × (x ≡ book_at m' x.writer)) same
          (subst (λ (n : ℕ). n < sh.sizes.writers) (sym writer) own.0, is ∙ ap (book_at m') (sym writer))
      | inr ne ↦
          let there : slice_get p.books i ≡ Some d = sym (get_set_other p.books j i c ne) ∙ e in
          let h = old.books i d there in (
            h.0,
            h.1 ∙ sym
                (others d.writer
                (λ g. ne (S.once k k i j b.writer (record { pass = p; book = d; at = at; held = there; writer = g })
                (record { pass = p; book = b; at = at; held = held; writer = refl })).1)),
          )
    ]) (λ spent. ap (λ (bs : List Book). set bs j c) (old.ends spent)) old)
