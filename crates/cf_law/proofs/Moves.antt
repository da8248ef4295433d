-- Splits and joins keep the law, the opening has it, and so every list of events does.
use Rattle.std.proofs.Common.{◌≡◌, ◌≢◌, ℕ, ◌+◌, ◌<◌, ◌≤◌, ◌⊎◌, ◌==◌, zero, suc, List, [], ◌∷◌, ◌++◌, length, set, take, Option, Some, None, slice_get, cond, Bool, true, false, inl, inr, refl, arith, ap, sym, ◌∙◌, subst, length-set}
use Rattle.cf_row.proofs.Truths.{lt_false, lt_true}
use Rattle.cf_row.specs.declared.row.Entry.{Entry}
use Rattle.std.proofs.lemmas.Bool.{cases_eq, cases_lt}
use Rattle.cf_law.specs.Words.{Layout}
use Rattle.cf_law.specs.Passes.{Book, Pass}
use Rattle.cf_law.specs.Steps.{Holds, without, new_pass, joined_pass, spent_pass, Splits}
use Rattle.cf_law.specs.Steps.Splits.{bare, hands}
use Rattle.cf_law.specs.Lawful.{Base, front, book_at, PassLaw, HoldsAt, Stands, Lawful}
use Rattle.cf_law.proofs.Heads.{get_set_same, get_set_other}
use Rattle.cf_law.proofs.Bases.{get_from_set, get_from_push}
use Rattle.cf_law.proofs.Fronts.{front_take}
use Rattle.cf_row.proofs.Lists.{has_left}

-- the place in the whole list
abbrev skip : ℕ → ℕ → ℕ
skip zero j = suc j
skip (suc k) zero = zero
skip (suc k) (suc j) = suc (skip k j)

skip_other : (k j : ℕ) → skip k j ≢ k
skip_other zero j e = omega arith
skip_other (suc k) zero e = omega arith
skip_other (suc k) (suc j) e = skip_other k j (omega arith)

skip_one : (k i j : ℕ) → skip k i ≡ skip k j → i ≡ j
skip_one zero i j e = omega arith
skip_one (suc k) zero zero e = refl
skip_one (suc k) zero (suc j) e = absurd (omega arith)
skip_one (suc k) (suc i) zero e = absurd (omega arith)
skip_one (suc k) (suc i) (suc j) e = ap suc (skip_one k i j (omega arith))

but_at : {A : Type 0} (k : ℕ) (l : List A) (j : ℕ) → slice_get (without k l) j ≡ slice_get l (skip k j)
unfolding without
but_at zero [] j = refl
but_at (suc k) [] zero = refl
but_at (suc k) [] (suc j) = refl
but_at zero (x ∷ xs) j = refl
but_at (suc k) (x ∷ xs) zero = refl
but_at (suc k) (x ∷ xs) (suc j) = but_at k xs j

but_none : {A : Type 0} (k : ℕ) → without {A = A} k [] ≡ []
unfolding without
but_none zero = refl
but_none (suc k) = refl

unskip : (k i : ℕ) → i ≢ k → (j : ℕ) × (skip k j ≡ i)
unskip zero zero ne = absurd (ne refl)
unskip zero (suc i) ne = (i, refl)
unskip (suc k) zero ne = (0, refl)
unskip (suc k) (suc i) ne = let h = unskip k i (λ e. ne (ap suc e)) in (suc h.0, ap suc h.1)

at_back : {A : Type 0} (l m : List A) (k : ℕ) → slice_get (l ++ m) (length l + k) ≡ slice_get m k
at_back [] m k = ap (slice_get m) (let e : 0 + k ≡ k = omega arith in e)
at_back (x ∷ xs) m k = ap (slice_get (x ∷ (xs ++ m))) (let e : suc (length xs) + k ≡ suc (length xs + k) = omega arith in e) ∙ at_back xs m k

-- the place in two lists
pub at_either : {A : Type 0} (l m : List A) (k : ℕ) (b : A) → slice_get (l ++ m) k ≡ Some b → ((k < length l) × (slice_get l k ≡ Some b))
    ⊎ ((j : ℕ) × (k ≡ length l + j) × (slice_get m j ≡ Some b))
at_either [] m k b e = inr (k, omega arith, e)
at_either (x ∷ xs) m zero b e = inl (omega arith, e)
at_either (x ∷ xs) m (suc k) b e = elim (at_either xs m k b e) [
  | inl h ↦ inl ((let q = h.0 in omega arith), h.1)
  | inr h ↦ inr (h.0, (let q = h.1 in omega arith), h.2)
]

take_same : {A : Type 0} (xs : List A) → take (length xs) xs ≡ xs
take_same [] = refl
take_same {A} (x ∷ xs) = ap (λ (ys : List A). x ∷ ys) (take_same xs)

newcomer_law : (sh : Layout) (m : Base) (bs : List Book) (seen : List Entry) → length seen ≤ m.tails.1 → seen ≡ front (length seen) m.log
    → ((k : ℕ) (b : Book) → slice_get bs k ≡ Some b → (b.writer < sh.sizes.writers) × (b ≡ book_at m b.writer)) → PassLaw sh m (new_pass bs seen)
newcomer_law sh m bs seen le is books = record {
  within = le;
  seen = is;
  olds = λ k old e. absurd (cc e);
  known = λ i x e. absurd (cc e);
  walk = tt;
  look = λ o i lt last word one. absurd (cc one);
  books = books;
  ends = λ spent. absurd (cc spent);
}

pub spent_law : (sh : Layout) (m : Base) → PassLaw sh m spent_pass
spent_law sh m = record {
  within = omega arith;
  seen = front_zero m;
  olds = λ k old e. absurd (cc e);
  known = λ i x e. absurd (cc e);
  walk = tt;
  look = λ o i lt last word one. absurd (cc one);
  books = λ k b e. absurd (cc e);
  ends = λ spent. refl;
}
  where
    front_zero : (m : Base) → [] ≡ front 0 m.log
    front_zero m = front_take m.log 0 0 (omega arith)

-- where a book at hand after a split was before
abbrev Source : List Pass → ℕ → ℕ → ℕ → ℕ → ℕ → ℕ → Type 0
Source passes kk k u j h v = ((j ≡ length passes) × (h ≡ 0) × (v ≡ u)) ⊎ (((j ≡ kk) × HoldsAt passes kk (skip k h) v) ⊎ ((j ≢ kk) × HoldsAt passes j h v))

source : (passes : List Pass) (kk k : ℕ) (p : Pass) (b : Book) → slice_get passes kk ≡ Some p → (j h v : ℕ)
    → HoldsAt (set passes kk (record p { books = without k p.books }) ++ new_pass (b ∷ []) p.seen ∷ []) j h v → Source passes kk k b.writer j h v
source passes kk k p b at j h v x = elim (get_from_push (set passes kk (record p { books = without k p.books })) j (new_pass (b ∷ []) p.seen) x.pass x.at) [
  | inl g ↦ let f = first h (ap (λ (q : Pass). slice_get q.books h) (sym g.1) ∙ x.held) in
      inl (g.0 ∙ length-set passes kk (record p { books = without k p.books }), f.0, f.1)
  | inr g ↦ inr (elim (cases_eq j kk) [
    | inl e ↦
        let same : record p { books = without k p.books } ≡ x.pass =
        cc (
          get_set_same passes kk (record p { books = without k p.books }) p at,
          ap (slice_get (set passes kk (record p { books = without k p.books }))) (sym e),
          g,
        ) in
        inl (
          e,
          record {
            pass = p;
            book = x.book;
            at = at;
            held = sym (but_at k p.books h) ∙ (ap (λ (q : Pass). slice_get q.books h) same ∙ x.held);
            writer = x.writer;
          },
        )
    | inr ne ↦ inr (
      ne,
      record {
        pass = x.pass;
        book = x.book;
        at = sym (get_set_other passes kk j (record p { books = without k p.books }) ne) ∙ g;
        held = x.held;
        writer = x.writer;
      },
    )
  ])
]
  where
    first : (h : ℕ) → slice_get (b ∷ []) h ≡ Some x.book → (h ≡ 0) × (v ≡ b.writer)
    first zero f = let same : b ≡ x.book = cc f in (refl, sym x.writer ∙ ap (λ (c : Book). c.writer) (sym same))
    first (suc h) f = absurd (cc f)

one_source : (sh : Layout) (m : Base) (passes : List Pass) (kk k : ℕ) (p : Pass) (b : Book) → Stands sh m passes → slice_get passes kk ≡ Some p → Holds p k b
    → (j i h l v : ℕ) → Source passes kk k b.writer j h v → Source passes kk k b.writer i l v → (j ≡ i) × (h ≡ l)
one_source sh m passes kk k p b S at held j i h l v (inl x) (inl y) = (x.0 ∙ sym y.0, x.1 ∙ sym y.1)
one_source sh m passes kk k p b S at held j i h l v (inl x) (inr (inl y)) =
    let s = S.once kk kk k (skip k l) v (record { pass = p; book = b; at = at; held = held; writer = sym x.2 }) y.1 in absurd (skip_other k l (sym s.1))
one_source sh m passes kk k p b S at held j i h l v (inl x) (inr (inr y)) =
    let s = S.once kk i k l v (record { pass = p; book = b; at = at; held = held; writer = sym x.2 }) y.1 in absurd (y.0 (sym s.0))
one_source sh m passes kk k p b S at held j i h l v (inr (inl x)) (inl y) =
    let s = S.once kk kk (skip k h) k v x.1 (record { pass = p; book = b; at = at; held = held; writer = sym y.2 }) in absurd (skip_other k h s.1)
one_source sh m passes kk k p b S at held j i h l v (inr (inr x)) (inl y) =
    let s = S.once j kk h k v x.1 (record { pass = p; book = b; at = at; held = held; writer = sym y.2 }) in absurd (x.0 s.0)
one_source sh m passes kk k p b S at held j i h l v (inr (inl x)) (inr (inl y)) =
    (x.0 ∙ sym y.0, skip_one k h l (S.once kk kk (skip k h) (skip k l) v x.1 y.1).1)
one_source sh m passes kk k p b S at held j i h l v (inr (inl x)) (inr (inr y)) = absurd (y.0 (sym (S.once kk i (skip k h) l v x.1 y.1).0))
one_source sh m passes kk k p b S at held j i h l v (inr (inr x)) (inr (inl y)) = absurd (x.0 (S.once j kk h (skip k l) v x.1 y.1).0)
one_source sh m passes kk k p b S at held j i h l v (inr (inr x)) (inr (inr y)) = S.once j i h l v x.1 y.1

pub split_keeps : (sh : Layout) (m : Base) (passes : List Pass) (kk : ℕ) (p left right : Pass) (w : Option ℕ) → Stands sh m passes
    → slice_get passes kk ≡ Some p → Splits p w left right
    → Stands sh m (set passes kk left ++ right ∷ [])
split_keeps sh m passes kk p left right w S at bare = record {
  law = S.law;
  knows = λ j q e. elim (get_from_push (set passes kk p) j right q e) [
    | inr h ↦ elim (get_from_set passes kk j p p q at h) [ inl g ↦ subst (PassLaw sh m) (sym g.1) knows | inr g ↦ S.knows j q g ]
    | inl h ↦ subst (PassLaw sh m) (sym h.1) (newcomer_law sh m [] p.seen knows.within knows.seen (λ k b e. absurd (cc e)))
  ];
  held = λ v lt.
      (let h = S.held v lt in (
        h.0,
        h.1,
        record {
          pass = h.2.pass;
          book = h.2.book;
          at = has_left (set passes kk p) (new_pass [] p.seen ∷ []) h.0 h.2.pass (kept h.0 h.2.pass h.2.at);
          held = h.2.held;
          writer = h.2.writer;
        },
      ));
  once = λ j k h i v x y. S.once j k h i v (was j h v x) (was k i v y);
}
  where
    knows : PassLaw sh m p
    knows = S.knows kk p at

    kept : (j : ℕ) (q : Pass) → slice_get passes j ≡ Some q → slice_get (set passes kk p) j ≡ Some q
    kept j q e = elim (cases_eq j kk) [
      | inl f ↦ let same : p ≡ q = cc (at, ap (slice_get passes) (sym f), e) in ap (slice_get (set passes kk p)) f
          ∙ (get_set_same passes kk p p at ∙ ap (λ (z : Pass). Some z) same)
      | inr ne ↦ get_set_other passes kk j p ne ∙ e
    ]

    was : (j h v : ℕ) → HoldsAt (set passes kk p ++ new_pass [] p.seen ∷ []) j h v → HoldsAt passes j h v
    was j h v x = elim (get_from_push (set passes kk p) j (new_pass [] p.seen) x.pass x.at) [
      | inr g ↦ elim (get_from_set passes kk j p p x.pass at g) [
        | inl e ↦ record {
          pass = x.pass;
          book = x.book;
          at = ap (slice_get passes) e.0 ∙ (at ∙ ap (λ (q : Pass). Some q) (sym e.1));
          held = x.held;
          writer = x.writer;
        }
        | inr e ↦ record { pass = x.pass; book = x.book; at = e; held = x.held; writer = x.writer }
      ]
      | inl g ↦ absurd (cc (ap (λ (q : Pass). slice_get q.books h) (sym g.1), x.held))
    ]
split_keeps sh m passes kk p left right w S at (hands k b held) = record {
  law = S.law;
  knows = λ j q e. elim (get_from_push (set passes kk (record p { books = without k p.books })) j (new_pass (b ∷ []) p.seen) q e) [
    | inr h ↦ elim (get_from_set passes kk j p (record p { books = without k p.books }) q at h) [
      | inl g ↦ subst (PassLaw sh m) (sym g.1)
          (record {
            within = knows.within;
            seen = knows.seen;
            olds = knows.olds;
            known = knows.known;
            walk = knows.walk;
            look = knows.look;
            books = λ i c f. knows.books (skip k i) c (sym (but_at k p.books i) ∙ f);
            ends = λ spent. ap (without k) (knows.ends spent) ∙ but_none k;
          })
      | inr g ↦ S.knows j q g
    ]
    | inl h ↦ subst (PassLaw sh m) (sym h.1) (newcomer_law sh m (b ∷ []) p.seen knows.within knows.seen (λ i c f. one_book i c f))
  ];
  held = λ v lt. handed v (S.held v lt);
  once = λ j i h l v x y. one_source sh m passes kk k p b S at held j i h l v (source passes kk k p b at j h v x) (source passes kk k p b at i l v y);
}
  where
    knows : PassLaw sh m p
    knows = S.knows kk p at

    one_book : (i : ℕ) (c : Book) → slice_get (b ∷ []) i ≡ Some c → (c.writer < sh.sizes.writers) × (c ≡ book_at m c.writer)
    one_book zero c f = let same : b ≡ c = cc f in
        subst (λ (d : Book). (d.writer < sh.sizes.writers) × (d ≡ book_at m d.writer)) same ((S.knows kk p at).books k b held)
    one_book (suc i) c f = absurd (cc f)

    handed : (v : ℕ) → (a : ℕ) × (i : ℕ) × HoldsAt passes a i v → (a : ℕ) × (i : ℕ)
        × HoldsAt (set passes kk (record p { books = without k p.books }) ++ new_pass (b ∷ []) p.seen ∷ []) a i v
    handed v h = elim (cases_eq h.0 kk) [
      | inr ne ↦ (
        h.0,
        h.1,
        record {
          pass = h.2.pass;
          book = h.2.book;
          at = has_left (set passes kk (record p { books = without k p.books })) (new_pass (b ∷ []) p.seen ∷ []) h.0 h.2.pass
              (get_set_other passes kk h.0 (record p { books = without k p.books }) ne ∙ h.2.at);
          held = h.2.held;
          writer = h.2.writer;
        },
      )
      | inl e ↦
          let same : p ≡ h.2.pass = cc (at, ap (slice_get passes) (sym e), h.2.at) in
          let mine : slice_get p.books h.1 ≡ Some h.2.book = ap (λ (q : Pass). slice_get q.books h.1) same ∙ h.2.held in
          elim (cases_eq h.1 k) [
            | inl f ↦
                let book : b ≡ h.2.book = cc (held, ap (slice_get p.books) (sym f), mine) in
                let last : slice_get (set passes kk (record p { books = without k p.books }) ++ new_pass (b ∷ []) p.seen ∷ [])
                (length (set passes kk (record p { books = without k p.books })) + 0) ≡ Some (new_pass (b ∷ []) p.seen) =
                at_back (set passes kk (record p { books = without k p.books })) (new_pass (b ∷ []) p.seen ∷ []) 0 in (
                  length (set passes kk (record p { books = without k p.books })) + 0,
                  0,
                  record { pass = new_pass (b ∷ []) p.seen; book = b; at = last; held = refl; writer = ap (λ (c : Book). c.writer) book ∙ h.2.writer },
                )
            | inr ne ↦
                let j = unskip k h.1 ne in (
                  kk,
                  j.0,
                  record {
                    pass = record p { books = without k p.books };
                    book = h.2.book;
                    at = has_left (set passes kk (record p { books = without k p.books })) (new_pass (b ∷ []) p.seen ∷ []) kk
                        (record p { books = without k p.books }) (get_set_same passes kk (record p { books = without k p.books }) p at);
                    held = but_at k p.books j.0 ∙ (ap (slice_get p.books) j.1 ∙ mine);
                    writer = h.2.writer;
                  },
                )
          ]
    ]

-- Joins.
sees_books : (n : ℕ) (es : List Entry) (p : Pass) (b : Bool)
    → (cond b (record p { seen = take n es; cursor = Rattle.std.proofs.Common.None }) p).books ≡ p.books
sees_books n es p true = refl
sees_books n es p false = refl

joined_law : (sh : Layout) (m : Base) (p q : Pass) → p.spent ≡ false → PassLaw sh m p → PassLaw sh m q → PassLaw sh m (joined_pass p q)
joined_law sh m p q live P Q =
    let n : ℕ = length q.seen in
    let books : (k : ℕ) (b : Book) → slice_get (p.books ++ q.books) k ≡ Some b → (b.writer < sh.sizes.writers) × (b ≡ book_at m b.writer) =
    λ k b e. elim (at_either p.books q.books k b e) [ inl h ↦ P.books k b h.1 | inr h ↦ Q.books h.0 b h.2 ] in
    go books (cases_lt (length p.seen) n)
  where
    old : (s : List Entry) → length p.seen ≤ length s → length q.seen ≤ length s → (k : ℕ) (o : List Entry) → slice_get (p.seen ∷ (q.seen ∷ [])) k ≡ Some o
        → (length o ≤ length s) × (o ≡ front (length o) m.log)
    old s a b zero o e = let same : p.seen ≡ o = cc e in subst (λ (x : List Entry). (length x ≤ length s) × (x ≡ front (length x) m.log)) same (a, P.seen)
    old s a b (suc zero) o e = let same : q.seen ≡ o = cc e in subst (λ (x : List Entry). (length x ≤ length s) × (x ≡ front (length x) m.log)) same (b, Q.seen)
    old s a b (suc (suc k)) o e = absurd (cc e)

    go : ((k : ℕ) (b : Book) → slice_get (p.books ++ q.books) k ≡ Some b → (b.writer < sh.sizes.writers) × (b ≡ book_at m b.writer))
        → ((length p.seen < length q.seen) ⊎ (length q.seen ≤ length p.seen)) → PassLaw sh m (joined_pass p q)
    go books (inl lt) =
        let all : take (length q.seen) q.seen ≡ q.seen = take_same q.seen in
        let len : length (take (length q.seen) q.seen) ≡ length q.seen = ap (length {A = Entry}) all in
        subst (λ (c : Bool). PassLaw sh m
        (record (cond c (record p { seen = take (length q.seen) q.seen; cursor = Rattle.std.proofs.Common.None }) p) {
          books = p.books ++ q.books;
          olds = p.seen ∷ (q.seen ∷ []);
          told = (p.told ++ q.told) ++ q.tails;
        }))
        (sym (lt_true (length p.seen) (length q.seen) lt)) (record {
          within = omega (arith, len, Q.within);
          seen = all ∙ (Q.seen ∙ ap (λ (k : ℕ). front k m.log) (sym len));
          olds = old (take (length q.seen) q.seen) (omega (arith, len)) (omega (arith, len));
          known = P.known;
          walk = tt;
          look = P.look;
          books = books;
          ends = λ spent. absurd (cc (live, spent));
        })
    go books (inr ge) =
        subst (λ (c : Bool). PassLaw sh m
        (record (cond c (record p { seen = take (length q.seen) q.seen; cursor = Rattle.std.proofs.Common.None }) p) {
          books = p.books ++ q.books;
          olds = p.seen ∷ (q.seen ∷ []);
          told = (p.told ++ q.told) ++ q.tails;
        }))
        (sym (lt_false (length p.seen) (length q.seen) (λ h. omega arith))) (record {
          within = P.within;
          seen = P.seen;
          olds = old p.seen (omega arith) ge;
          known = P.known;
          walk = P.walk;
          look = P.look;
          books = books;
          ends = λ spent. absurd (cc (live, spent));
        })

-- where a book at hand after a join was before
joined_source : (passes : List Pass) (kk jj : ℕ) (p q : Pass) → slice_get passes kk ≡ Some p → slice_get passes jj ≡ Some q → (jj ≡ kk → ⊥) → (j h v : ℕ)
    → HoldsAt (set (set passes kk (joined_pass p q)) jj spent_pass) j h v
    → ((j ≡ kk) × (h < length p.books) × HoldsAt passes kk h v)
    ⊎ (((j ≡ kk) × (i : ℕ) × (h ≡ length p.books + i) × HoldsAt passes jj i v) ⊎ ((j ≢ kk) × (j ≢ jj) × HoldsAt passes j h v))
joined_source passes kk jj p q at there ne j h v x = elim (cases_eq j jj) [
  | inl e ↦
      let back : slice_get (set passes kk (joined_pass p q)) jj ≡ Some q = get_set_other passes kk jj (joined_pass p q) ne ∙ there in
      let same : spent_pass ≡ x.pass =
      cc (
        get_set_same (set passes kk (joined_pass p q)) jj spent_pass q back,
        ap (slice_get (set (set passes kk (joined_pass p q)) jj spent_pass)) (sym e),
        x.at,
      ) in
      absurd (cc (ap (λ (z : Pass). slice_get z.books h) same, x.held))
  | inr far ↦
      let g : slice_get (set passes kk (joined_pass p q)) j ≡ Some x.pass = sym (get_set_other (set passes kk (joined_pass p q)) jj j spent_pass far) ∙ x.at in
      elim (cases_eq j kk) [
        | inl e ↦
            let same : joined_pass p q ≡ x.pass =
            cc (get_set_same passes kk (joined_pass p q) p at, ap (slice_get (set passes kk (joined_pass p q))) (sym e), g) in
            elim (at_either p.books q.books h x.book (ap (λ (z : Pass). slice_get z.books h) same ∙ x.held)) [
              | inl a ↦ inl (e, a.0, record { pass = p; book = x.book; at = at; held = a.1; writer = x.writer })
              | inr a ↦ inr (inl (e, a.0, a.1, record { pass = q; book = x.book; at = there; held = a.2; writer = x.writer }))
            ]
        | inr other ↦ inr
            (inr (
              other,
              far,
              record { pass = x.pass; book = x.book; at = sym (get_set_other passes kk j (joined_pass p q) other) ∙ g; held = x.held; writer = x.writer },
            ))
      ]
]

abbrev Came : List Pass → ℕ → ℕ → ℕ → ℕ → ℕ → ℕ → Type 0
Came passes kk jj n j h v = ((j ≡ kk) × (h < n) × HoldsAt passes kk h v)
    ⊎ (((j ≡ kk) × (i : ℕ) × (h ≡ n + i) × HoldsAt passes jj i v) ⊎ ((j ≢ kk) × (j ≢ jj) × HoldsAt passes j h v))

one_came : (sh : Layout) (m : Base) (passes : List Pass) (kk jj n : ℕ) → Stands sh m passes → (jj ≡ kk → ⊥) → (j i h l v : ℕ) → Came passes kk jj n j h v
    → Came passes kk jj n i l v → (j ≡ i) × (h ≡ l)
one_came sh m passes kk jj n S ne j i h l v (inl x) (inl y) = (x.0 ∙ sym y.0, (S.once kk kk h l v x.2 y.2).1)
one_came sh m passes kk jj n S ne j i h l v (inl x) (inr (inl y)) = absurd (ne (sym (S.once kk jj h y.1 v x.2 y.3).0))
one_came sh m passes kk jj n S ne j i h l v (inl x) (inr (inr y)) = absurd (y.0 (sym (S.once kk i h l v x.2 y.2).0))
one_came sh m passes kk jj n S ne j i h l v (inr (inl x)) (inl y) = absurd (ne (S.once jj kk x.1 l v x.3 y.2).0)
one_came sh m passes kk jj n S ne j i h l v (inr (inl x)) (inr (inl y)) = let s = S.once jj jj x.1 y.1 v x.3 y.3 in
    (x.0 ∙ sym y.0, x.2 ∙ (ap (λ (k : ℕ). n + k) s.1 ∙ sym y.2))
one_came sh m passes kk jj n S ne j i h l v (inr (inl x)) (inr (inr y)) = absurd (y.1 (sym (S.once jj i x.1 l v x.3 y.2).0))
one_came sh m passes kk jj n S ne j i h l v (inr (inr x)) (inl y) = absurd (x.0 (S.once j kk h l v x.2 y.2).0)
one_came sh m passes kk jj n S ne j i h l v (inr (inr x)) (inr (inl y)) = absurd (x.1 (S.once j jj h y.1 v x.2 y.3).0)
one_came sh m passes kk jj n S ne j i h l v (inr (inr x)) (inr (inr y)) = S.once j i h l v x.2 y.2

pub join_keeps : (sh : Layout) (m : Base) (passes : List Pass) (kk jj : ℕ) (p q : Pass) → Stands sh m passes → slice_get passes kk ≡ Some p
    → slice_get passes jj ≡ Some q → (jj ≡ kk → ⊥) → p.spent ≡ false
    → Stands sh m (set (set passes kk (joined_pass p q)) jj spent_pass)
join_keeps sh m passes kk jj p q S at there ne live = record {
  law = S.law;
  knows = λ j r e. elim (cases_eq j jj) [
    | inl f ↦
        let back : slice_get (set passes kk (joined_pass p q)) jj ≡ Some q = get_set_other passes kk jj (joined_pass p q) ne ∙ there in
        subst (PassLaw sh m)
        (let same : spent_pass ≡ r = cc (
          get_set_same (set passes kk (joined_pass p q)) jj spent_pass q back,
          ap (slice_get (set (set passes kk (joined_pass p q)) jj spent_pass)) (sym f),
          e,
        ) in same) (spent_law sh m)
    | inr far ↦ elim (get_from_set passes kk j p (joined_pass p q) r at (sym (get_set_other (set passes kk (joined_pass p q)) jj j spent_pass far) ∙ e)) [
      | inl g ↦ subst (PassLaw sh m) (sym g.1) (joined_law sh m p q live (S.knows kk p at) (S.knows jj q there))
      | inr g ↦ S.knows j r g
    ]
  ];
  held = λ v lt. gathered v (S.held v lt);
  once = λ j i h l v x y. one_came sh m passes kk jj (length p.books) S ne j i h l v (joined_source passes kk jj p q at there ne j h v x)
      (joined_source passes kk jj p q at there ne i l v y);
}
  where
    home : slice_get (set (set passes kk (joined_pass p q)) jj spent_pass) kk ≡ Some (joined_pass p q)
    home = get_set_other (set passes kk (joined_pass p q)) jj kk spent_pass (λ e. ne (sym e)) ∙ get_set_same passes kk (joined_pass p q) p at

    gathered : (v : ℕ) → (a : ℕ) × (i : ℕ) × HoldsAt passes a i v → (a : ℕ) × (i : ℕ) × HoldsAt (set (set passes kk (joined_pass p q)) jj spent_pass) a i v
    gathered v h = elim (cases_eq h.0 kk) [
      | inl e ↦
          let same : p ≡ h.2.pass = cc (at, ap (slice_get passes) (sym e), h.2.at) in (
            kk,
            h.1,
            record {
              pass = joined_pass p q;
              book = h.2.book;
              at = home;
              held = has_left p.books q.books h.1 h.2.book (ap (λ (z : Pass). slice_get z.books h.1) same ∙ h.2.held);
              writer = h.2.writer;
            },
          )
      | inr far ↦ elim (cases_eq h.0 jj) [
        | inl e ↦
            let same : q ≡ h.2.pass = cc (there, ap (slice_get passes) (sym e), h.2.at) in (
              kk,
              length p.books + h.1,
              record {
                pass = joined_pass p q;
                book = h.2.book;
                at = home;
                held = at_back p.books q.books h.1
                    ∙ (ap (λ (z : Pass). slice_get z.books h.1) same ∙ h.2.held);
                writer = h.2.writer;
              },
            )
        | inr away ↦ (
          h.0,
          h.1,
          record {
            pass = h.2.pass;
            book = h.2.book;
            at = get_set_other (set passes kk (joined_pass p q)) jj h.0 spent_pass away
                ∙ (get_set_other passes kk h.0 (joined_pass p q) far ∙ h.2.at);
            held = h.2.held;
            writer = h.2.writer;
          },
        )
      ]
    ]

pub split_lawful : (sh : Layout) (words : List ℕ) (passes : List Pass) (k : ℕ) (p left right : Pass) (w : Option ℕ) → Lawful sh words passes
    → slice_get passes k ≡ Some p → Splits p w left right
    → Lawful sh words (set passes k left ++ right ∷ [])
split_lawful sh words passes k p left right w law at split =
    record { base = law.base; stands = split_keeps sh law.base passes k p left right w law.stands at split; spelled = law.spelled }

pub join_lawful : (sh : Layout) (words : List ℕ) (passes : List Pass) (k j : ℕ) (p q : Pass) → Lawful sh words passes → slice_get passes k ≡ Some p
    → slice_get passes j ≡ Some q → (j ≡ k → ⊥) → p.spent ≡ false
    → Lawful sh words (set (set passes k (joined_pass p q)) j spent_pass)
join_lawful sh words passes k j p q law at there ne live =
    record { base = law.base; stands = join_keeps sh law.base passes k j p q law.stands at there ne live; spelled = law.spelled }
