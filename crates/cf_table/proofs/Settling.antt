-- The read tail is moved over what is finished.
use Rattle.std.proofs.Common.{◌≡◌, ℕ, ◌+◌, ◌-◌, ◌*◌, ◌==◌, ◌<◌, ◌≤◌, ◌⊎◌, max, inl, inr, cond, zero, suc, List, [], ◌∷◌, length, length-take, length-take-le, take, drop, Bool, true, false, Some, slice_get, refl, sym, ap, subst, ◌∙◌, arith}
use Rattle.std.specs.Bool.{nat_lt}
use Rattle.std.proofs.lemmas.Bool.{cases_lt, cases_Bool}
use Rattle.std.proofs.lemmas.Bool.Decides.{nat_tests}
use Rattle.std.proofs.lemmas.List.{take-append-drop, take-append-le}
use Rattle.cf_row.specs.Words.{word_count}
use Rattle.cf_row.specs.declared.row.Entry.{Entry}
use Rattle.cf_shape.specs.Lanes.{ShapeValue}
use Rattle.cf_shape.specs.Uses.{cell_count}
use Rattle.cf_shape.specs.Places.{place_of, slot_of}
use Rattle.cf_shape.specs.Places.Slot.{tail, cell}
use Rattle.cf_shape.specs.Places.WordName.{done}
use Rattle.cf_law.specs.Passes.{Book, Pass, Look}
use Rattle.cf_law.specs.Steps.{pass_that_sees, pass_with_look}
use Rattle.cf_law.specs.Steps.Act.{advance}
use Rattle.cf_law.specs.Steps.Step.{advances}
use Rattle.cf_law.specs.Shapes.{layout}
use Rattle.cf_law.specs.Readers.{StepTells, AtHome, EndsThere}
use Rattle.cf_table.specs.Values.{PassValue}
use Rattle.cf_table.specs.Effects.{IsLawfulStep, HasStepped, HasSteppedUnseen, done_effect, advance_effect}
use Rattle.cf_table.specs.Moves.{Begins, HasAll, SeenFirst, MarkedIsFull, HasPaths, AreFit, HoldsAllBooks, IsUnfinished, Stops, HasSettled}
use Rattle.cf_table.specs.Loads.{CountsLoads}
use Rattle.cf_table.proofs.Looks.{done_loads}
use Rattle.cf_table.proofs.Seen.{grown, advance_asks, advance_seen}
use Rattle.cf_table.proofs.Counting.{AreBelow, nothing_new}
use Rattle.cf_table.proofs.Folds.{sees_told}
use Rattle.cf_law.proofs.Steps.{sees_books, sees_known}

-- the pass has its books, and has seen no less
pub record Moved (m n : PassValue) : Type 0 where
  pub same : n ≡ record m { view = n.view }
  pub books : (n.view).books ≡ (m.view).books
  pub tails : (n.view).tails ≡ (m.view).tails
  pub told : (n.view).told ≡ (m.view).told
  pub longer : Begins (m.view).seen (n.view).seen

pub moved_none : (m : PassValue) → Moved m m
moved_none m = record { same = refl; books = refl; tails = refl; told = refl; longer = Rattle.std.proofs.Math.Seq.take-length (m.view).seen }

take_in : (k n : ℕ) (es : List Entry) → k ≤ n → n ≤ length es → take k (take n es) ≡ take k es
take_in k n es le within =
    let long : length (take n es) ≡ n = length-take-le n es within in
    sym (ap (take k) (sym (take-append-drop n es)) ∙ take-append-le k (take n es) (drop n es) (omega arith))

pub begins_long : (xs ys : List Entry) → Begins xs ys → length xs ≤ length ys
begins_long xs ys a = (let e = ap (λ (l : List Entry). length l) a in let f = length-take (length xs) ys in omega (arith, e, f))

pub begins_then : (xs ys zs : List Entry) → Begins xs ys → Begins ys zs → Begins xs zs
begins_then xs ys zs a b =
    sym (take_in (length xs) (length ys) zs (begins_long xs ys a) (begins_long ys zs b)) ∙ (ap (take (length xs)) b ∙ a)

pub moved_then : (m n o : PassValue) → Moved m n → Moved n o → Moved m o
moved_then m n o a b = record {
  same = b.same ∙ ap (λ (h : PassValue). record h { view = o.view }) a.same;
  books = b.books ∙ a.books;
  tails = b.tails ∙ a.tails;
  told = b.told ∙ a.told;
  longer = begins_then (m.view).seen (n.view).seen (o.view).seen a.longer b.longer;
}

-- word i of a ticket is its done word
abbrev pub last_word : ShapeValue → ℕ
last_word shape = word_count shape.schema + 1 + cell_count shape.lanes

moved_look : (shape : ShapeValue) (m n : PassValue) (o found : ℕ) → HasStepped shape (done_effect shape m.view o) m found n → Moved m n
moved_look shape m n o found made =
    let is = made.told.is in record {
      same = made.same;
      books = ap (λ (q : Pass). q.books) is;
      tails = ap (λ (q : Pass). q.tails) is;
      told = ap (λ (q : Pass). q.told) is;
      longer = ap (λ (q : Pass). take (length (m.view).seen) q.seen) is ∙ Rattle.std.proofs.Math.Seq.take-length (m.view).seen;
    }

pub may_advance : (shape : ShapeValue) (p : Pass) (t : ℕ) → t ≤ length p.seen → t < shape.capacity → p.look.word ≡ place_of shape (done t) → p.look.value ≡ 1
    → IsLawfulStep shape p (advance t) (advance_effect p t)
may_advance shape p t le lt word one = advances t (last_word shape) le lt (omega arith) word one

sees_begins : (n : ℕ) (es : List Entry) (p : Pass) → n ≤ length es → Begins p.seen es → Begins p.seen (pass_that_sees n es p).seen
sees_begins n es p within begins = elim (cases_lt (length p.seen) n) [
  | inl lt ↦
      let t : nat_lt (length p.seen) n ≡ true = grind (arith, nat_tests) in
      ap (λ (b : Bool). take (length p.seen) (grown n es p b).seen) t ∙ (take_in (length p.seen) n es (omega arith) within ∙ begins)
  | inr ge ↦
      let t : nat_lt (length p.seen) n ≡ false = grind (arith, nat_tests) in
      ap (λ (b : Bool). take (length p.seen) (grown n es p b).seen) t ∙ Rattle.std.proofs.Math.Seq.take-length p.seen
]

pub advance_far : (shape : ShapeValue) (p q : Pass) (t found : ℕ) → t ≤ length p.seen
    → (told : StepTells (layout shape) p (tail 1) (advance_effect p t).after found (cond (found == t) (suc t) found) q) → suc t ≤ length told.entries
advance_far shape p q t found le told =
    let long = told.long refl in
    let ahead = told.tells.ahead 1 (omega arith) refl in
    elim (cases_Bool (found == t)) [
      | inl e ↦ (let f : cond (found == t) (suc t) found ≡ suc t = ap (λ (b : Bool). cond b (suc t) found) e in omega (arith, f, long))
      | inr e ↦ (let f : cond (found == t) (suc t) found ≡ found = ap (λ (b : Bool). cond b (suc t) found) e in let ne : found ≡ t
          → ⊥ = grind (arith, nat_tests) in omega (arith, f, ne, long))
    ]

pub moved_advance : (shape : ShapeValue) (m n : PassValue) (t : ℕ) → t ≤ length (m.view).seen → HasSteppedUnseen shape (advance_effect m.view t) m n → Moved m n
moved_advance shape m n t le stored =
    let told = stored.made.told in
    let is = told.is in
    let p = m.view in
    let es : List Entry = told.entries in
    let more = sees_told (suc t) es p in record {
      same = stored.made.same;
      books = ap (λ (q : Pass). q.books) is ∙ sees_books (suc t) es p;
      tails = ap (λ (q : Pass). q.tails) is ∙ more.1;
      told = ap (λ (q : Pass). q.told) is ∙ more.0;
      longer = ap (λ (q : Pass). take (length p.seen) q.seen) is
          ∙ sees_begins (suc t) es p (advance_far shape p n.view t stored.found le told) told.goes_on.seen;
    }

taken_at : (n : ℕ) (es : List Entry) (o : ℕ) (e : Entry) → slice_get (take n es) o ≡ Some e → slice_get es o ≡ Some e
taken_at zero es o e at = absurd (cc at)
taken_at (suc n) [] o e at = absurd (cc at)
taken_at (suc n) (x ∷ xs) zero e at = at
taken_at (suc n) (x ∷ xs) (suc o) e at = taken_at n xs o e at

-- what is seen was seen before, or is among the entries
sees_at : (n : ℕ) (es : List Entry) (p : Pass) (o : ℕ) (e : Entry) → slice_get (pass_that_sees n es p).seen o ≡ Some e → (slice_get p.seen o ≡ Some e)
    ⊎ (slice_get es o ≡ Some e)
sees_at n es p o e at = elim (cases_Bool (nat_lt (length p.seen) n)) [
  | inl t ↦ inr (taken_at n es o e (sym (ap (λ (b : Bool). slice_get (grown n es p b).seen o) t) ∙ at))
  | inr t ↦ inl (sym (ap (λ (b : Bool). slice_get (grown n es p b).seen o) t) ∙ at)
]

-- while all books are home nothing new is seen
pub advance_stays : (shape : ShapeValue) (m n : PassValue) (t : ℕ) → IsLawfulStep shape m.view (advance t) (advance_effect m.view t)
    → HasSteppedUnseen shape (advance_effect m.view t) m n → HoldsAllBooks shape m.view → (n.view).seen ≡ (m.view).seen
advance_stays shape m n t may stored settled =
    let p = m.view in
    let le = (advance_asks (layout shape) p t (tail 1) (advance_effect p t).change (advance_effect p t).after may).0 in
    let moved = moved_advance shape m n t le stored in
    let told = stored.made.told in
    let below : AreBelow shape.writers (n.view).seen =
    λ o e at. elim (sees_at (suc t) told.entries p o e (sym (ap (λ (q : Pass). slice_get q.seen o) told.is) ∙ at)) [
      | inl old ↦ (told.tells.fit o e old).1
      | inr new ↦ (told.fit o e new).1
    ] in
    nothing_new shape p n.view settled moved.books moved.longer below told.mine

-- The last look ended at the first ticket that isn't finished, or all places are taken.
settled_by : (shape : ShapeValue) (m p n : PassValue) (o found : ℕ) → Moved m p → HasStepped shape (done_effect shape p.view o) p found n
    → EndsThere (layout shape) p.view (slot_of shape (done o)) (last_word shape) found → HasSettled shape m n
settled_by shape m p n o found moved made ends =
    let told = made.told in
    let tells = told.tells in
    let last : suc (last_word shape) ≡ (layout shape).sizes.ticket_words = omega arith in
    let all = moved_then m p n moved (moved_look shape p n o found made) in
    let v = pass_with_look (place_of shape (done o)) found p.view in
    let back : v ≡ n.view = sym told.is in record {
      same = all.same;
      books = all.books;
      tails = all.tails;
      told = all.told;
      longer = all.longer;
      all = subst (λ (q : Pass). AtHome (layout shape) q → HasAll q) back (λ home. tells.home (last_word shape) home last ends);
      full = subst (λ (q : Pass). AtHome (layout shape) q → MarkedIsFull shape q) back (λ home. tells.full (last_word shape) home last ends);
      paths = subst (λ (q : Pass). AtHome (layout shape) q → HasPaths shape q) back (λ home. tells.paths home);
      bounds = told.bounds;
      fit = subst (AreFit shape) back (λ o e at. tells.fit o e at);
    }

pub sees_look : (n : ℕ) (es : List Entry) (p : Pass) → (pass_that_sees n es p).look ≡ p.look
sees_look n es p = elim (cases_Bool (nat_lt (length p.seen) n)) [
  | inl e ↦ ap (λ (b : Bool). (grown n es p b).look) e
  | inr e ↦ ap (λ (b : Bool). (grown n es p b).look) e
]

-- a look counts one more
counts_look : (shape : ShapeValue) (m n : PassValue) (o found : ℕ) → HasStepped shape (done_effect shape m.view o) m found n
    → ((n.view).look).count ≡ ((m.view).look).count + 1
counts_look shape m n o found made = ap (λ (q : Pass). (q.look).count) made.told.is

-- the read tail was moved: the last look stays
keeps_look : (shape : ShapeValue) (m n : PassValue) (t : ℕ) → HasSteppedUnseen shape (advance_effect m.view t) m n → (n.view).look ≡ (m.view).look
keeps_look shape m n t stored =
    let told = stored.made.told in
    ap (λ (q : Pass). q.look) told.is ∙ sees_look (suc t) told.entries m.view

-- a look that didn't find 1 found the record unfinished
unfinished : (shape : ShapeValue) (m n : PassValue) (p : Pass) (b found : ℕ) → HasStepped shape (done_effect shape m.view b) m found n
    → b < shape.capacity → (found ≡ 1 → ⊥) → (p.look).count ≤ ((m.view).look).count → IsUnfinished shape b p n.view
unfinished shape m n p b found made low other le =
    let told = made.told in
    let count = counts_look shape m n b found made in
    let books = ap (λ (q : Pass). q.books) told.is in
    let none : found ≡ 0 = elim (told.tells.done b (last_word shape) refl low (omega arith)) [
      | inl e ↦ e
      | inr e ↦ absurd (other e)
    ] in record {
      word = ap (λ (q : Pass). (q.look).word) told.is;
      value = ap (λ (q : Pass). (q.look).value) told.is ∙ none;
      since = omega (arith, count);
      other = λ k j book x held at same. other
          (told.tells.own_done k j (last_word shape) book x (ap (λ (o : ℕ). cell o (last_word shape)) (sym same))
          (ap (λ (bs : List Book). slice_get bs k) (sym books) ∙ held) at (omega arith));
    }

-- a look leaves what was seen
pub looked_seen : (shape : ShapeValue) (m n : PassValue) (o found : ℕ) → HasStepped shape (done_effect shape m.view o) m found n → (n.view).seen ≡ (m.view).seen
looked_seen shape m n o found made = ap (λ (q : Pass). q.seen) made.told.is

known_look : (shape : ShapeValue) (m n : PassValue) (o found : ℕ) → HasStepped shape (done_effect shape m.view o) m found n
    → (n.view).known ≡ (m.view).known
known_look shape m n o found made = ap (λ (q : Pass). q.known) made.told.is

known_advance : (shape : ShapeValue) (m n : PassValue) (t : ℕ) → HasSteppedUnseen shape (advance_effect m.view t) m n → (n.view).known ≡ (m.view).known
known_advance shape m n t stored =
    let told = stored.made.told in
    ap (λ (q : Pass). q.known) told.is ∙ sees_known (suc t) told.entries m.view

-- a look tells that what was seen of a book's tickets are the first
seen_first : (shape : ShapeValue) (m n : PassValue) (o found : ℕ) → HasStepped shape (done_effect shape m.view o) m found n → SeenFirst n.view
seen_first shape m n o found made =
    let v = pass_with_look (place_of shape (done o)) found m.view in
    let back : v ≡ n.view = sym made.told.is in
    subst SeenFirst back (λ k b held. made.told.tells.mine k b held)

-- an advance covers the record
pub advanced : (shape : ShapeValue) (m n : PassValue) (t : ℕ) → t ≤ length (m.view).seen → HasSteppedUnseen shape (advance_effect m.view t) m n
    → length (n.view).seen ≡ max (length (m.view).seen) (t + 1)
advanced shape m n t le stored = advance_seen shape m.view n.view t stored.found le stored.made.told

-- How far the read tail was moved, by looks and moves: what the steps are now.
pub record HasGone (m p : PassValue) (before now : ℕ) : Type 0 where
  pub moved : Moved m p
  pub known : (p.view).known ≡ (m.view).known
  pub counts : (m.view.look).count ≤ (p.view.look).count
  pub loads : CountsLoads m p before now
  pub steps : now + 2 * length (m.view).seen ≤ before + 2 * length (p.view).seen

pub gone_none : (m : PassValue) (before : ℕ) → HasGone m m before before
gone_none m before = record { moved = moved_none m; known = refl; counts = omega arith; loads = omega arith; steps = omega arith }

-- one ticket more was found finished, and covered
pub gone_on : (shape : ShapeValue) (m p n o : PassValue) (t found before now looked after : ℕ) → HasGone m p before now → t ≡ length (p.view).seen
    → HasStepped shape (done_effect shape p.view t) p found n → looked ≡ now + 1 → HasSteppedUnseen shape (advance_effect n.view t) n o → after ≡ looked + 1
    → HasGone m o before after
gone_on shape m p n o t found before now looked after gone at look one made two =
    let seen = ap (λ (es : List Entry). length es) (looked_seen shape p n t found look) in
    let within : t ≤ length (n.view).seen = omega (arith, seen, at) in
    let more = advanced shape n o t within made in
    let count = counts_look shape p n t found look in
    let same = ap (λ (l : Look). l.count) (keeps_look shape n o t made) in
    let least = gone.loads in
    let counts = gone.counts in
    let so_far = gone.steps in
    let load = done_loads shape p n t found now looked look one in
    record {
      moved = moved_then m n o (moved_then m p n gone.moved (moved_look shape p n t found look)) (moved_advance shape n o t within made);
      known = known_advance shape n o t made ∙ (known_look shape p n t found look ∙ gone.known);
      counts = omega (arith, count, same, counts);
      loads = omega (arith, least, load, same, two);
      steps = omega (arith, seen, at, more, one, two, so_far);
    }

-- What a last look leaves that ends a move of the read tail.
pub record HasStopped (shape : ShapeValue) (m n : PassValue) (before after : ℕ) : Type 0 where
  pub settled : HasSettled shape m n
  pub known : (n.view).known ≡ (m.view).known
  pub stops : Stops shape m.view n.view
  pub begins : SeenFirst n.view
  pub steps : after ≤ before + 2 * (length (n.view).seen - length (m.view).seen) + 1
  pub loads : CountsLoads m n before after

-- all places are covered, or the look was at the ticket after the last covered, and found it unfinished
abbrev pub IsLast : ShapeValue → PassValue → ℕ → ℕ → Type 0
IsLast shape p o found = (shape.capacity ≤ length (p.view).seen) ⊎ ((length (p.view).seen < shape.capacity) × (o ≡ length (p.view).seen) × (found ≡ 1 → ⊥))

ends_there : (shape : ShapeValue) (p : PassValue) (o found : ℕ) → IsLast shape p o found
    → EndsThere (layout shape) p.view (slot_of shape (done o)) (last_word shape) found
ends_there shape p o found (inl all) = inl all
ends_there shape p o found (inr at) = inr (at.0, ap (λ (k : ℕ). slot_of shape (done k)) at.1, at.2)

stops_there : (shape : ShapeValue) (m p n : PassValue) (o found : ℕ) → (m.view.look).count ≤ (p.view.look).count
    → HasStepped shape (done_effect shape p.view o) p found n → IsLast shape p o found → Stops shape m.view n.view
stops_there shape m p n o found le made (inl all) =
    let seen = ap (λ (es : List Entry). length es) (looked_seen shape p n o found made) in inl (omega (arith, all, seen))
stops_there shape m p n o found le made (inr at) =
    let seen = ap (λ (es : List Entry). length es) (looked_seen shape p n o found made) in
    let here : o ≡ length (n.view).seen = at.1 ∙ sym seen in
    let low : o < shape.capacity = (let lt = at.0 in let is = at.1 in omega (arith, lt, is)) in
    inr (subst (λ (k : ℕ). IsUnfinished shape k m.view n.view) here (unfinished shape p n m.view o found made low at.2 le))

pub stopped_by : (shape : ShapeValue) (m p n : PassValue) (o found before now after : ℕ) → HasGone m p before now
    → HasStepped shape (done_effect shape p.view o) p found n → after ≡ now + 1 → IsLast shape p o found → HasStopped shape m n before after
stopped_by shape m p n o found before now after gone made one last =
    let seen = ap (λ (es : List Entry). length es) (looked_seen shape p n o found made) in
    let more = begins_long (m.view).seen (p.view).seen gone.moved.longer in
    let so_far = gone.steps in
    let least = gone.loads in
    let load = done_loads shape p n o found now after made one in
    record {
      settled = settled_by shape m p n o found gone.moved made (ends_there shape p o found last);
      known = known_look shape p n o found made ∙ gone.known;
      stops = stops_there shape m p n o found gone.counts made last;
      begins = seen_first shape p n o found made;
      steps = omega (arith, seen, more, one, so_far);
      loads = omega (arith, least, load);
    }

-- what was settled has moved
pub settled_moved : (shape : ShapeValue) (m n : PassValue) → HasSettled shape m n → Moved m n
settled_moved shape m n settled =
    record { same = settled.same; books = settled.books; tails = settled.tails; told = settled.told; longer = settled.longer }
