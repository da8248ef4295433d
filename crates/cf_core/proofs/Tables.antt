-- Entries that words spell.
use Rattle.std.proofs.Common.{◌≡◌, ℕ, ◌+◌, ◌*◌, ◌<◌, ◌≤◌, ◌==◌, zero, suc, List, [], ◌∷◌, ◌++◌, length, set, get_or, take, drop, cond, Option, Some, None, slice_get, Bool, ◌&&◌, nat_lt, inl, inr, refl, arith, ap, ap₂, sym, ◌∙◌, subst, length-append}
use Rattle.std.proofs.lemmas.List.{ext_get_or, get_or-set_other, get_or_append_left, get_or_push, get_or-take, get_or-drop, set-get_or, take-append-le, take_all}
use Rattle.std.proofs.lemmas.Bool.{cases_eq, ltb-true, eq-eqb, ne_eqb}
use Rattle.cf_row.specs.declared.row.Entry.{Entry}
use Rattle.cf_row.specs.Words.{word_count, spelled, AreSpelled}
use Rattle.cf_row.specs.Row.{values_fit}
use Rattle.cf_row.proofs.Bytes.{both}
use Rattle.cf_shape.specs.Places.{place}
use Rattle.cf_shape.specs.Places.Slot.{tail, cell}
use Rattle.cf_law.specs.Words.{Layout, Ticket, entry}
use Rattle.cf_law.specs.Passes.{Pass}
use Rattle.cf_law.specs.Steps.{pass_that_sees, pass_with_tail}
use Rattle.cf_law.specs.Steps.Act.{load_tail, advance}
use Rattle.cf_law.specs.Steps.Step.{loads_tail, advances}
use Rattle.cf_law.specs.Lawful.{World, DoneAt}
use Rattle.cf_law.specs.Events.{tabulated, IsEvent, word_at, plain_at, entries_spelled}
use Rattle.cf_law.specs.Events.WorldEvent.{acts}
use Rattle.cf_law.specs.Shapes.{layout}
use Rattle.cf_law.proofs.Shapes.{layout_law}
use Rattle.cf_law.proofs.Loads.{place_tail, tail_is}
use Rattle.cf_law.proofs.Fronts.{plain_spells}
use Rattle.cf_law.proofs.Passes.{no_gap}
use Rattle.cf_pass.proofs.Books.{table_none, table_more}
use Rattle.cf_core.specs.Worlds.{WorldValue, IsLawfulWorld, IsLivePass, AreReadable, world_of}
use Rattle.cf_core.proofs.Making.{does_step, word_there, live_one}
use Rattle.cf_core.proofs.Inverse.{acts_of, advances_of}

pub table_long : {A : Type 0} (f : ℕ → A) (n : ℕ) → length (tabulated f n) ≡ n
table_long f zero = ap length (table_none f)
table_long f (suc n) = omega (arith, ap length (table_more f n), length-append (tabulated f n) (f n ∷ []), table_long f n)

pub table_get : {A : Type 0} (f : ℕ → A) (n i : ℕ) (d : A) → i < n → get_or (tabulated f n) i d ≡ f i
table_get f zero i d lt = absurd (omega arith)
table_get {A = A} f (suc n) i d lt = ap (λ (xs : List A). get_or xs i d) (table_more f n) ∙ elim (cases_eq i n) [
  | inl e ↦ get_or_push (tabulated f n) (f n) d i (table_long f n ∙ sym e) ∙ ap f (sym e)
  | inr ne ↦ get_or_append_left (tabulated f n) (f n ∷ []) d i (omega (arith, table_long f n)) ∙ table_get f n i d (omega arith)
]

pub table_same : {A : Type 0} (f g : ℕ → A) (n : ℕ) → ((i : ℕ) → i < n → f i ≡ g i) → tabulated f n ≡ tabulated g n
table_same f g zero h = table_none f ∙ sym (table_none g)
table_same {A = A} f g (suc n) h = table_more f n
    ∙ (ap₂ (λ (xs : List A) (x : A). xs ++ x ∷ []) (table_same f g n (λ i lt. h i (omega arith))) (h n (omega arith)) ∙ sym (table_more g n))

pub table_take : {A : Type 0} (f : ℕ → A) (n m : ℕ) → n ≤ m → take n (tabulated f m) ≡ tabulated f n
table_take f n zero le = take_all n (tabulated f 0) (omega (arith, table_long f 0)) ∙ ap (tabulated f) (let e : zero ≡ n = omega arith in e)
table_take {A = A} f n (suc m) le = elim (cases_eq n (suc m)) [
  | inl e ↦ take_all n (tabulated f (suc m)) (omega (arith, table_long f (suc m))) ∙ ap (tabulated f) (sym e)
  | inr ne ↦ ap (take n) (table_more f m) ∙ (take-append-le n (tabulated f m) (f m ∷ []) (omega (arith, table_long f m)) ∙ table_take f n m (omega arith))
]

-- the words of an entry stand together
place_cell : (sh : Layout) (o i : ℕ) → place sh.sizes (cell o i) ≡ 2 + (o * sh.sizes.ticket_words + i)
unfolding place
place_cell sh o i = refl

pub plain_range : (sh : Layout) (words : List ℕ) (o n : ℕ) → place sh.sizes (cell o 0) + n ≤ length words
    → tabulated (λ i. word_at sh words (cell o i)) n ≡ take n (drop (place sh.sizes (cell o 0)) words)
plain_range sh words o n le =
    let f = λ (i : ℕ). word_at sh words (cell o i) in
    let start = place sh.sizes (cell o 0) in
    let long : length (take n (drop start words)) ≡ n =
    Rattle.std.proofs.lemmas.List.length-take-le n (drop start words) (omega (arith, Rattle.std.proofs.Common.length-drop start words)) in
    ext_get_or 0 (tabulated f n) (take n (drop start words)) (table_long f n ∙ sym long)
    (λ i lt. let small : i < n = omega (arith, table_long f n) in
    table_get f n i 0 small
    ∙ sym (get_or-take n (drop start words) i 0 small
    ∙ (get_or-drop start words i 0
    ∙ ap (λ (k : ℕ). get_or words k 0) (let e : start + i ≡ place sh.sizes (cell o i) = omega (arith, place_cell sh o 0, place_cell sh o i) in e))))

pub plain_room : (h : WorldValue) (o : ℕ) → IsLawfulWorld h → o < h.shape.capacity
    → place (layout h.shape).sizes (cell o 0) + (word_count h.shape.schema + 1) ≤ length h.words
plain_room h o is lt =
    let w = word_there h (cell o (word_count h.shape.schema)) is (lt, omega arith) in
    omega (arith, w, place_cell (layout h.shape) o 0, place_cell (layout h.shape) o (word_count h.shape.schema))

-- another word 1 leaves the entries
plain_kept : (sh : Layout) (words : List ℕ) (v o : ℕ) → plain_at sh (set words 1 v) o ≡ plain_at sh words o
plain_kept sh words v o = table_same (λ i. word_at sh (set words 1 v) (cell o i)) (λ i. word_at sh words (cell o i)) sh.plain_words
    (λ i lt. get_or-set_other words 1 (place sh.sizes (cell o i)) v 0 (λ e. omega (arith, e, place_cell sh o i)))

pub spelt_kept : (sh : Layout) (words : List ℕ) (v n : ℕ) → entries_spelled sh (set words 1 v) n ≡ entries_spelled sh words n
spelt_kept sh words v n =
    table_same (λ o. sh.reads (plain_at sh (set words 1 v) o)) (λ o. sh.reads (plain_at sh words o)) n (λ o lt. ap sh.reads (plain_kept sh words v o))

-- the words of a finished ticket are those of an entry
pub done_spelled : (h : WorldValue) (o : ℕ) → IsLawfulWorld h → (is : IsLawfulWorld h) → DoneAt is.law.base.log o
    → AreSpelled h.shape.schema (plain_at (layout h.shape) h.words o)
done_spelled h o again is done =
    let m = is.law.base in
    let L = is.law.stands.law in
    let t = done.0 in
    let f = both (values_fit h.shape.schema (t.row).values) (nat_lt (t.row).num 4294967296) (L.fits o t done.1) in
    let w = L.writers o t done.1 in
    let few = is.shape.writers in record {
      entry = entry t.writer t.row;
      lawful = record { fits = f.0; num = ltb-true (t.row).num 4294967296 f.1; writer = omega (arith, w, few.1) };
      spells = ap (λ (ws : List ℕ). plain_at (layout h.shape) ws o) (sym is.law.spelled)
          ∙ plain_spells (layout h.shape) m o t (layout_law h.shape is.shape) L done.1 done.2;
    }

tail_of : (h : WorldValue) → (is : IsLawfulWorld h) → get_or h.words 1 0 ≡ is.law.base.tails.1
tail_of h is = ap (λ (k : ℕ). get_or h.words k 0) (sym (place_tail (layout h.shape).sizes 1))
    ∙ (ap (λ (ws : List ℕ). word_at (layout h.shape) ws (tail 1)) (sym is.law.spelled) ∙ tail_is (layout h.shape) is.law.base 1 is.law.stands.law (omega arith))

pub tail_there : (h : WorldValue) → IsLawfulWorld h → 1 < length h.words
tail_there h is = let w = word_there h (tail 1) is (omega arith) in omega (arith, w, place_tail (layout h.shape).sizes 1)

pub tail_within : (h : WorldValue) → IsLawfulWorld h → get_or h.words 1 0 ≤ h.shape.capacity
tail_within h is = let L = is.law.stands.law in let a = L.covered in let b = L.room in omega (arith, a, b, tail_of h is)

done_below : (h : WorldValue) (is : IsLawfulWorld h) (o : ℕ) → o < is.law.base.tails.1 → DoneAt is.law.base.log o
done_below h is o lt = go (slice_get is.law.base.log o) refl
  where
    go : (x : Option Ticket) → slice_get is.law.base.log o ≡ x → DoneAt is.law.base.log o
    go None e = absurd (no_gap is.law.base.log o (let c = is.law.stands.law.covered in omega (arith, c)) e)
    go (Some t) e = (t, e, is.law.stands.law.done o t lt e)

pub tail_readable : (h : WorldValue) → IsLawfulWorld h → AreReadable h (get_or h.words 1 0)
tail_readable h is o lt = done_spelled h o is is (done_below h is o (omega (arith, lt, tail_of h is)))

-- Loads of the read tail.
pub tail_does : (h : WorldValue) (k found : ℕ) (asked : Bool) (p after : Pass) (es : List Entry) → IsLawfulWorld h → IsLivePass h k p
    → found ≡ get_or h.words 1 0 → es ≡ entries_spelled (layout h.shape) h.words found → after ≡ pass_with_tail asked found es p
    → IsEvent (layout h.shape) (world_of h) k (acts (load_tail asked)) (record { words = set h.words 1 found; passes = set h.passes k after })
tail_does h k found asked p after es is live v spelled is_after =
    let sh = layout h.shape in
    let one = place_tail sh.sizes 1 in
    let word : found ≡ word_at sh h.words (tail 1) = v ∙ ap (λ (n : ℕ). get_or h.words n 0) (sym one) in
    let same : set h.words 1 found ≡ h.words = ap (set h.words 1) v ∙ set-get_or h.words 1 0 in
    let entries : entries_spelled sh (set h.words 1 found) (word_at sh (set h.words 1 found) (tail 1)) ≡ es =
    ap (λ (ws : List ℕ). entries_spelled sh ws (word_at sh ws (tail 1))) same ∙ (ap (entries_spelled sh h.words) (sym word) ∙ sym spelled) in
    does_step sh (world_of h) k p (load_tail asked) (tail 1) (λ n. n) (λ n xs. pass_with_tail asked n xs p) 1 found after live (loads_tail asked) (sym one) word
    (is_after ∙ ap₂ (λ (n : ℕ) (xs : List Entry). pass_with_tail asked n xs p) word (sym entries))

-- Advances.
sees_same : (n : ℕ) (xs ys : List Entry) (p : Pass) → take n xs ≡ take n ys → pass_that_sees n xs p ≡ pass_that_sees n ys p
sees_same n xs ys p e = ap (λ (zs : List Entry). cond (nat_lt (length p.seen) n) (record p { seen = zs; cursor = None }) p) e

pub advance_does : (h : WorldValue) (k t at i tail_found left : ℕ) (p after : Pass) (es : List Entry) → IsLawfulWorld h → IsLivePass h k p → t ≤ length p.seen
    → t < h.shape.capacity → suc i ≡ (layout h.shape).sizes.ticket_words → at ≡ place (layout h.shape).sizes (cell t i) → p.look.word ≡ at → p.look.value ≡ 1
    → tail_found ≡ get_or h.words 1 0 → left ≡ cond (tail_found == t) (t + 1) tail_found → es ≡ entries_spelled (layout h.shape) h.words (t + 1)
    → after ≡ pass_that_sees (t + 1) es p
    → IsEvent (layout h.shape) (world_of h) k (acts (advance t)) (record { words = set h.words 1 left; passes = set h.passes k after })
advance_does h k t at i found left p after es is live seen lt last where_is word value v change spelled is_after =
    let sh = layout h.shape in
    let m = is.law.base in
    let one = place_tail sh.sizes 1 in
    let tail_word : found ≡ word_at sh h.words (tail 1) = v ∙ ap (λ (n : ℕ). get_or h.words n 0) (sym one) in
    let next : t + 1 ≡ suc t = omega arith in
    let change' : left ≡ cond (word_at sh h.words (tail 1) == t) (suc t) (word_at sh h.words (tail 1)) = change
    ∙ (ap (λ (n : ℕ). cond (found == t) n found) next ∙ ap (λ (n : ℕ). cond (n == t) (suc t) n) tail_word) in
    let more : suc t ≤ left = reached found left change (let w = (is.law.stands.knows k p live.0).within in omega (arith, w, seen, v, tail_of h is)) in
    let left_word : word_at sh (set h.words 1 left) (tail 1) ≡ left = ap (λ (n : ℕ). get_or (set h.words 1 left) n 0) one
    ∙ Rattle.std.proofs.lemmas.List.get_or-set_same h.words 1 left 0 (tail_there h is) in
    let there : take (suc t) (entries_spelled sh (set h.words 1 left) (word_at sh (set h.words 1 left) (tail 1))) ≡ entries_spelled sh h.words (suc t) =
    ap (λ (n : ℕ). take (suc t) (entries_spelled sh (set h.words 1 left) n)) left_word
    ∙ (ap (take (suc t)) (spelt_kept sh h.words left left) ∙ table_take (λ o. sh.reads (plain_at sh h.words o)) (suc t) left more) in
    let here : take (suc t) es ≡ entries_spelled sh h.words (suc t) =
    ap (take (suc t)) (spelled ∙ ap (entries_spelled sh h.words) next) ∙ table_take (λ o. sh.reads (plain_at sh h.words o)) (suc t) (suc t) (omega arith) in
    does_step sh (world_of h) k p (advance t) (tail 1) (λ n. cond (n == t) (suc t) n) (λ n xs. pass_that_sees (suc t) xs p) 1 left after live
    (advances t i seen lt last (word ∙ where_is) value) (sym one) change'
    (is_after ∙ (ap (λ (n : ℕ). pass_that_sees n es p) next ∙ sees_same (suc t) es _ p (here ∙ sym there)))
  where
    reached : (n l : ℕ) → l ≡ cond (n == t) (t + 1) n → t ≤ n → suc t ≤ l
    reached n l e le = elim (cases_eq n t) [
      | inl same ↦ let f = e ∙ ap (λ (b : Bool). cond b (t + 1) n) (eq-eqb n t same) in omega (arith, f)
      | inr ne ↦ let f = e ∙ ap (λ (b : Bool). cond b (t + 1) n) (ne_eqb n t ne) in omega (arith, f)
    ]

-- the places up to t are readable where the last look found t's done word 1
pub look_readable : (h : WorldValue) (k t at i : ℕ) (p : Pass) → IsLawfulWorld h → IsLivePass h k p → t ≤ length p.seen → t < h.shape.capacity
    → suc i ≡ (layout h.shape).sizes.ticket_words → at ≡ place (layout h.shape).sizes (cell t i) → p.look.word ≡ at → p.look.value ≡ 1 → AreReadable h (t + 1)
look_readable h k t at i p is live seen lt last where_is word value o low = elim (cases_eq o t) [
  | inl e ↦ done_spelled h o is is (subst (DoneAt is.law.base.log) (sym e) ((is.law.stands.knows k p live.0).look t i lt last (word ∙ where_is) value))
  | inr ne ↦ done_spelled h o is is (done_below h is o (let w = (is.law.stands.knows k p live.0).within in omega (arith, w, seen, low)))
]

pub advance_only : (h : WorldValue) (k t : ℕ) (p : Pass) (y : World) → IsLivePass h k p → IsEvent (layout h.shape) (world_of h) k (acts (advance t)) y
    → (t ≤ length p.seen) × (t < h.shape.capacity)
    × ((i : ℕ) → suc i ≡ (layout h.shape).sizes.ticket_words → p.look.word ≡ place (layout h.shape).sizes (cell t i)) × (p.look.value ≡ 1)
advance_only h k t p y live does =
    let A = acts_of (layout h.shape) (world_of h) k (advance t) y does in
    let r = advances_of (layout h.shape) A.pass t A.slot A.change A.after A.step in
    let same = live_one h k A.pass p A.live live in (
      subst (λ (q : Pass). t ≤ length q.seen) same r.seen,
      r.within,
      λ i last. subst (λ (q : Pass). q.look.word ≡ place (layout h.shape).sizes (cell t i)) same
          (r.word ∙ ap (λ (j : ℕ). place (layout h.shape).sizes (cell t j)) (let a = r.is_last in let e : r.last ≡ i = omega (arith, a) in e)),
      subst (λ (q : Pass). q.look.value ≡ 1) same r.value,
    )
