-- How many entries each writer has, and how many all have.
use Rattle.std.proofs.Common.{◌≡◌, ℕ, ◌+◌, ◌==◌, ◌<◌, ◌≤◌, inl, inr, cond, zero, suc, List, [], ◌∷◌, ◌++◌, append-nil, length, length-take, take, Bool, true, false, Some, slice_get, refl, sym, ap, subst, ◌∙◌, arith}
use Rattle.std.specs.Bool.{nat_lt}
use Rattle.std.proofs.Math.Seq.{take-length}
use Rattle.std.proofs.lemmas.Bool.{cases_lt, cases_Bool}
use Rattle.std.proofs.lemmas.Bool.Decides.{nat_tests}
use Rattle.cf_row.proofs.Sums.{more_at, total, total_more, total_most, total_none, total_same}
use Rattle.cf_row.specs.declared.row.Entry.{Entry}
use Rattle.cf_shape.specs.Lanes.{ShapeValue}
use Rattle.cf_law.specs.Passes.{Own, Book, Pass}
use Rattle.cf_law.specs.Steps.{Holds, without, joined_pass}
use Rattle.cf_law.specs.Shapes.{layout}
use Rattle.cf_law.specs.Readers.{AtHome, mine_from}
use Rattle.cf_table.specs.Values.{PassValue}
use Rattle.cf_table.specs.Moves.{Begins, HasFolded, HoldsAllBooks, HasAll, SeenFirst, tickets_in}
use Rattle.cf_table.proofs.Seen.{grown}
use Rattle.cf_table.proofs.Folds.{all_of, home_stays}

-- Entries by their writers.
abbrev many : ℕ → List Entry → ℕ → ℕ
many k es w = length (mine_from w k es)

many_none : (k w : ℕ) → many k [] w ≡ 0
unfolding mine_from
many_none k w = refl

many_next : (k w : ℕ) (e : Entry) (es : List Entry) → many k (e ∷ es) w ≡ more_at e.writer (many (suc k) es) w
unfolding mine_from
many_next k w e es = elim (cases_Bool (e.writer == w)) [
  | inl t ↦ ap (λ (b : Bool). length (cond b (record { offset = k; row = e.row } ∷ mine_from w (suc k) es) (mine_from w (suc k) es))) t
      ∙ sym (ap (λ (b : Bool). cond b (suc (many (suc k) es w)) (many (suc k) es w)) t)
  | inr t ↦ ap (λ (b : Bool). length (cond b (record { offset = k; row = e.row } ∷ mine_from w (suc k) es) (mine_from w (suc k) es))) t
      ∙ sym (ap (λ (b : Bool). cond b (suc (many (suc k) es w)) (many (suc k) es w)) t)
]

-- each writer is below n
abbrev pub AreBelow : ℕ → List Entry → Type 0
AreBelow n es = (o : ℕ) (e : Entry) → slice_get es o ≡ Some e → e.writer < n

all_counted : (n k : ℕ) (es : List Entry) → AreBelow n es → total n (many k es) ≡ length es
all_counted n k [] below = total_same n (many k []) (λ w. 0) (λ w lt. many_none k w) ∙ total_none n
all_counted n k (e ∷ es) below =
    let r = all_counted n (suc k) es (λ o x at. below (suc o) x at) in
    total_same n (many k (e ∷ es)) (more_at e.writer (many (suc k) es)) (λ w lt. many_next k w e es)
    ∙ (total_more n e.writer (many (suc k) es) (below 0 e refl) ∙ ap suc r)

-- Books by their writers.
abbrev by_writer : (ℕ → ℕ) → List Book → ℕ
by_writer f [] = 0
by_writer f (b ∷ bs) = f b.writer + by_writer f bs

by_writer_but : (f : ℕ → ℕ) (k : ℕ) (bs : List Book) (b : Book) → slice_get bs k ≡ Some b → (by_writer f bs ≡ by_writer f (without k bs) + f b.writer)
    × (length bs ≡ suc (length (without k bs)))
unfolding without
by_writer_but f k [] b at = absurd (cc at)
by_writer_but f zero (x ∷ xs) b at =
    let e : x ≡ b = cc at in
    let same = ap (λ (c : Book). f c.writer) e in
    let sum : f b.writer + by_writer f xs ≡ by_writer f xs + f b.writer = omega arith in (ap (λ (n : ℕ). n + by_writer f xs) same ∙ sum, refl)
by_writer_but f (suc k) (x ∷ xs) b at =
    let r = by_writer_but f k xs b at in
    let first = r.0 in (omega (arith, first), ap suc r.1)

still_held : (k j : ℕ) (bs : List Book) (b c : Book) → slice_get bs k ≡ Some b → slice_get bs j ≡ Some c → (c.writer ≡ b.writer → ⊥) → (i : ℕ)
    × (slice_get (without k bs) i ≡ Some c)
unfolding without
still_held k j [] b c at there ne = absurd (cc at)
still_held zero zero (x ∷ xs) b c at there ne = (let e : b ≡ c = cc (at, there) in absurd (ne (ap (λ (a : Book). a.writer) (sym e))))
still_held zero (suc j) (x ∷ xs) b c at there ne = (j, there)
still_held (suc k) zero (x ∷ xs) b c at there ne = (0, there)
still_held (suc k) (suc j) (x ∷ xs) b c at there ne = (let r = still_held k j xs b c at there ne in (suc r.0, r.1))

-- a book for each writer below n
abbrev AreOf : ℕ → List Book → Type 0
AreOf n bs = (w : ℕ) → w < n → (k : ℕ) × (b : Book) × (slice_get bs k ≡ Some b) × (b.writer ≡ w)

each_once : (f : ℕ → ℕ) (n : ℕ) (bs : List Book) → length bs ≡ n → AreOf n bs → by_writer f bs ≡ total n f
each_once f zero [] long of = refl
each_once f zero (b ∷ bs) long of = absurd (omega (arith, long))
each_once f (suc n) bs long of =
    let last = of n (omega arith) in
    let b : Book = last.1 in
    let less = by_writer_but f last.0 bs b last.2 in
    let short = less.1 in
    let others : AreOf n (without last.0 bs) = λ w lt.
    (let other = of w (omega arith) in
    let i = still_held last.0 other.0 bs b other.1 last.2 other.2 (λ (g : (other.1).writer ≡ b.writer). absurd (omega (arith, g, last.3, other.3, lt))) in
    (i.0, other.1, i.1, other.3)) in
    let r = each_once f n (without last.0 bs) (omega (arith, short, long)) others in
    let same = ap f last.3 in
    let all = less.0 in
    omega (arith, all, r, same)

tickets_by : (es : List Entry) (bs : List Book) → ((k : ℕ) (b : Book) → slice_get bs k ≡ Some b → b.mine ≡ mine_from b.writer 0 es)
    → tickets_in bs ≡ by_writer (many 0 es) bs
unfolding tickets_in
tickets_by es [] all = refl
tickets_by es (b ∷ bs) all =
    let first = ap (λ (xs : List Own). length xs) (all 0 b refl) in
    let r = tickets_by es bs (λ k c at. all (suc k) c at) in
    omega (arith, first, r)

-- what was seen are all tickets
pub all_seen : (shape : ShapeValue) (p : Pass) → AtHome (layout shape) p → length p.books ≡ shape.writers → HasAll p → AreBelow shape.writers p.seen
    → length p.seen ≡ tickets_in p.books
all_seen shape p home count all below =
    let of : AreOf shape.writers p.books = λ w lt. (let h = home w lt in (h.0, h.1, h.2, h.3)) in
    sym (tickets_by p.seen p.books all ∙ (each_once (many 0 p.seen) shape.writers p.books count of ∙ all_counted shape.writers 0 p.seen below))

-- A pass with no book comes home: what it has seen are no more than the tickets of the books there.
joined_seen : (p q : Pass) → length (joined_pass p q).seen ≤ length p.seen → (joined_pass p q).seen ≡ p.seen
joined_seen p q le = elim (cases_lt (length p.seen) (length q.seen)) [
  | inl lt ↦
      let t : nat_lt (length p.seen) (length q.seen) ≡ true = grind (arith, nat_tests) in
      let long : length (joined_pass p q).seen ≡ length q.seen = ap (λ (b : Bool). length (grown (length q.seen) q.seen p b).seen) t
      ∙ ap (λ (es : List Entry). length es) (take-length q.seen) in
      absurd (omega (arith, le, lt, long))
  | inr ge ↦
      let t : nat_lt (length p.seen) (length q.seen) ≡ false = grind (arith, nat_tests) in
      ap (λ (b : Bool). (grown (length q.seen) q.seen p b).seen) t
]

at_most : (n : ℕ) (xs ys : List Own) → take n xs ≡ ys → length ys ≡ n → n ≤ length xs
at_most n xs ys e long = (let f = length-take n xs in let g = ap (λ (l : List Own). length l) e in omega (arith, f, g, long))

begins_at : (xs ys : List Entry) (o : ℕ) (e : Entry) → Begins xs ys → slice_get xs o ≡ Some e → slice_get ys o ≡ Some e
begins_at [] ys o e b at = absurd (cc at)
begins_at (x ∷ xs) [] o e b at = absurd (cc b)
begins_at (x ∷ xs) (y ∷ ys) zero e b at = (let f : y ≡ x = cc b in ap (λ (z : Entry). Some z) f ∙ at)
begins_at (x ∷ xs) (y ∷ ys) (suc o) e b at = begins_at xs ys o e (cc b) at

-- where all tickets of all books were seen, a pass with these books has seen no more
no_more : (shape : ShapeValue) (p q : Pass) → HoldsAllBooks shape p → q.books ≡ p.books → AreBelow shape.writers p.seen → AreBelow shape.writers q.seen
    → SeenFirst q → length q.seen ≤ length p.seen
no_more shape p q settled books own joint first =
    let few : (w : ℕ) → w < shape.writers → many 0 q.seen w ≤ many 0 p.seen w = λ w lt.
    (let h = settled.home w lt in
    let mine = ap (λ (xs : List Own). length xs) (settled.all h.0 h.1 h.2) in
    let most = at_most (many 0 q.seen (h.1).writer) (h.1).mine (mine_from (h.1).writer 0 q.seen)
    (first h.0 h.1 (ap (λ (bs : List Book). slice_get bs h.0) books ∙ h.2)) refl in
    subst (λ (v : ℕ). many 0 q.seen v ≤ many 0 p.seen v) h.3 (omega (arith, mine, most))) in
    let le = total_most shape.writers (many 0 q.seen) (many 0 p.seen) few in
    let more = all_counted shape.writers 0 q.seen joint in
    let less = all_counted shape.writers 0 p.seen own in omega (arith, le, more, less)

pub nothing_new : (shape : ShapeValue) (p q : Pass) → HoldsAllBooks shape p → q.books ≡ p.books → Begins p.seen q.seen → AreBelow shape.writers q.seen
    → SeenFirst q → q.seen ≡ p.seen
nothing_new shape p q settled books begins below first =
    let le = no_more shape p q settled books (λ o e at. below o e (begins_at p.seen q.seen o e begins at)) below first in
    let least = ap (λ (es : List Entry). length es) begins in
    let taken = length-take (length p.seen) q.seen in
    sym (all_of q.seen (length p.seen) (omega (arith, le, least, taken))) ∙ begins

pub folded_stays : (shape : ShapeValue) (m : PassValue) (q : Pass) (n : PassValue) → HasFolded shape m q n → q.books ≡ [] → HoldsAllBooks shape m.view
    → (n.view).seen ≡ (m.view).seen
folded_stays shape m q n f bare settled =
    let p = m.view in
    let j : Pass = joined_pass p q in
    let told = f.made.told in
    let books : j.books ≡ p.books = ap (λ (bs : List Book). p.books ++ bs) bare ∙ append-nil p.books in
    let held : (k : ℕ) (b : Book) → Holds j k b → Holds p k b = λ k b at. ap (λ (bs : List Book). slice_get bs k) (sym books) ∙ at in
    let home : AtHome (layout shape) j = λ w lt. (let h = settled.home w lt in (h.0, h.1, ap (λ (bs : List Book). slice_get bs h.0) books ∙ h.2, h.3, h.4)) in
    let own : AreBelow shape.writers p.seen = λ o e at. (told.fit o e (begins_at p.seen told.entries o e (told.goes_on.olds 0 p.seen refl) at)).1 in
    let joint : AreBelow shape.writers j.seen = λ o e at. (told.tells.fit o e at).1 in
    let same : j.seen ≡ p.seen = joined_seen p q (no_more shape p j settled books own joint told.tells.mine) in
    let all : (k : ℕ) (b : Book) → Holds j k b → b.mine ≡ mine_from b.writer 0 j.seen = λ k b at. settled.all k b (held k b at)
    ∙ ap (mine_from b.writer 0) (sym same) in
    home_stays shape (record m { view = j }) n false f.found f.made home all ∙ same
