-- What a span has seen, and what its calls do.
use Rattle.std.proofs.Common.{◌≡◌, ◌∙◌, ◌<◌, ◌≤◌, ◌+◌, ◌-◌, ◌*◌, ◌/◌, ◌%◌, ◌^◌, ℕ, zero, suc, true, List, [], ◌∷◌, ◌++◌, length, get_or, slice_get, set, Option, Some, None, inl, inr, Ok, Err, Result, All, refl, sym, ap, ap₂, subst, arith, length-append}
use Rattle.std.specs.Arc.{arc_value}
use Rattle.std.specs.List.{AllZip}
use Rattle.std.proofs.lemmas.List.{length-map, map-append}
use Rattle.std.proofs.lemmas.List.Elements.{All-head, All-push, All-tail, AllZip-get_or, length_all_zip}
use Rattle.std.specs.Option.{option_map}
use Rattle.std.proofs.lemmas.Bool.{cases_lt}
use Rattle.std.proofs.lemmas.Option.{get_or_from_slice_get, slice_get-get_or, slice_get-map, slice_get_within}
use Rattle.std.proofs.Math.Nat.{mod-lt, mul-le-mul_right}
use Rattle.std.proofs.lemmas.Nat.{div-add-mod'}
use Rattle.std.proofs.Math.Seq.{take-length}
use Rattle.cf_row.specs.declared.row.Entry.{Entry}
use Rattle.cf_row.specs.Row.{Fits, RowValue}
use Rattle.cf_shape.specs.Lanes.{ShapeValue}
use Rattle.cf_plain.specs.Asks.{row_at, rows_in}
use Rattle.cf_setup.specs.Reading.{setup_at}
use Rattle.cf_setup.specs.Setups.{SetupValue, shaped}
use Rattle.cf_table.specs.Values.{PassValue}
use Rattle.cf_table.specs.Moves.{IsReading}
use Rattle.cf_query.specs.Asking.{HasAsked}
use Rattle.cf_query.specs.Walks.{OnlyWalked}
use Rattle.cf_query.proofs.Walked.{walked_none}
use Rattle.cf_query.proofs.Walking.{walked_looked}
use Rattle.cf_store.specs.Asks.{AsksTail, IsMeasured, ReadsRow, body_kind, body_words}
use Rattle.cf_store.specs.Spans.{AddsReader, AllLike, AreLike, AsksSpanAt, AsksSpanSeen, DropsFirst, IsLike, AsksTails, MeasuresIn, ReadsSpanRow, HaveWalked, IsSpan, SpanValue, TellsSpanGroups, passes_of, seen_by, seen_each, seen_in, span_of}
use Rattle.cf_store.specs.Ends.{AreBehind, AsksOthers, AsksWith, GroupsWith, TellsGroupsSeen, TellsSeen, Walks}
use Rattle.cf_store.specs.declared.held.Reader.{Reader}
use Rattle.cf_store.specs.declared.held.Shared.{Shared}
use Rattle.cf_store.specs.declared.reader.Told.{Told}
use Rattle.cf_store.specs.declared.shown.Head.{Head}
use Rattle.cf_store.specs.declared.refusals.AskRefusal.{AskRefusal}
use Rattle.cf_store.specs.declared.refusals.AskRefusal.TheVariants.{Memory, NoQuestion}
use Rattle.cf_store.specs.declared.refusals.LaneRefusal.{LaneRefusal}
use Rattle.cf_store.specs.declared.refusals.LaneRefusal.TheVariants as lanes
use Rattle.cf_store.specs.declared.refusals.RowRefusal.{RowRefusal}
use Rattle.cf_store.specs.declared.refusals.RowRefusal.TheVariants as rows
use Rattle.cf_store.proofs.Aware.{walked_aware}
use Rattle.cf_store.proofs.Behind.{IsShort, all_short, all_stay, stays, walked_more}
use Rattle.cf_store.proofs.Ended.{logs, logs_long, long_at}
use Rattle.cf_store.proofs.Spanned.{FrontOf, IsPlaceIn, place_in, seen_longer}

-- a setup that a text is
abbrev read_as : SetupValue → Result SetupValue (ℕ × ℕ)
read_as setup = Ok setup

ok_is : {x y : SetupValue} → read_as x ≡ read_as y → x ≡ y
ok_is e = cc e

some_is : {X : Type 0} {x y : X} → Some x ≡ Some y → x ≡ y
some_is e = cc e

-- two logs with one text of a setup and the same sizes have one setup and one shape
pub are_like : (shared other : Shared) → shared.log.shape.capacity ≡ other.log.shape.capacity → shared.log.shape.writers ≡ other.log.shape.writers
    → shared.log.shape.nodes ≡ other.log.shape.nodes → other.text.items ≡ shared.text.items → AreLike shared other
are_like shared other capacity writers nodes text =
    let setup : other.setup ≡ shared.setup = ok_is (sym other.stated ∙ ap setup_at text ∙ shared.stated) in
    record {
      text = text;
      setup = setup;
      shape = other.shaped ∙ (ap (λ (s : SetupValue). shaped s other.log.shape.capacity other.log.shape.writers other.log.shape.nodes) setup
          ∙ (ap₂ (λ (c w : ℕ). shaped shared.setup c w other.log.shape.nodes) (sym capacity) (sym writers)
          ∙ (ap (λ (n : ℕ). shaped shared.setup shared.log.shape.capacity shared.log.shape.writers n) (sym nodes) ∙ sym shared.shaped)));
    }

-- likeness is the same from each log
pub like_back : (one two : Shared) → AreLike one two → AreLike two one
like_back one two like = record { text = sym like.text; setup = sym like.setup; shape = sym like.shape }

pub like_on : (one two three : Shared) → AreLike one two → AreLike one three → AreLike two three
like_on one two three first second = record {
  text = second.text ∙ sym first.text;
  setup = second.setup ∙ sym first.setup;
  shape = second.shape ∙ sym first.shape;
}

-- readers that only walk stay readers of like logs, and so their passes walk
pub like_still : (shared : Shared) (ms ns : List Reader) → AllLike shared ms → AllZip Walks ms ns → AllLike shared ns
like_still shared ms ns like walked k d low =
    let same = length_all_zip Walks ms ns walked in
    let at = AllZip-get_or Walks ms ns k d d walked (omega (arith, same, low)) in
    subst (AreLike shared) (ap arc_value (sym at.of)) (like k d (omega (arith, same, low)))

pub passes_walked : (ms ns : List Reader) → AllZip Walks ms ns → AllZip OnlyWalked (passes_of ms) (passes_of ns)
passes_walked [] [] walked = tt
passes_walked [] (n ∷ ns) walked = absurd walked
passes_walked (m ∷ ms) [] walked = absurd walked
passes_walked (m ∷ ms) (n ∷ ns) walked = (walked.0.walked, passes_walked ms ns walked.1)

pub passes_stay : (hs : List PassValue) → AllZip OnlyWalked hs hs
passes_stay [] = tt
passes_stay (h ∷ hs) = (walked_none h, passes_stay hs)

-- the passes of a span whose readers only walked
pub span_walked : (first after : Reader) (ms ns : List Reader) → after.of ≡ first.of → OnlyWalked first.pass after.pass → AllZip Walks ms ns
    → HaveWalked (span_of first ms) (span_of after ns) after.words.items
span_walked first after ms ns of walked all = record {
  same = ap (λ (s : Shared). record (span_of after ns) { text = s.text.items; setup = s.setup; shape = s.log.shape }) (ap arc_value of);
  walked = (walked, passes_walked ms ns all);
}

-- no more is seen of each log than it takes
pub logs_short : (first : Reader) (others : List Reader) → IsSpan first others → (k : ℕ) → k < length (logs first.pass others)
    → long_at first.pass others k ≤ (arc_value first.of).log.shape.capacity
logs_short first others is = short_each (arc_value first.of).log.shape.capacity first.pass others first.aware.few
    (all_short (arc_value first.of) others is.like)
  where
    short_each : (capacity : ℕ) (pass : PassValue) (rs : List Reader) → length (pass.view).seen ≤ capacity → All (IsShort capacity) rs → (k : ℕ)
        → k < length (logs pass rs) → long_at pass rs k ≤ capacity
    short_each capacity pass rs short all zero low = short
    short_each capacity pass [] short all (suc k) low = absurd (omega (arith, low))
    short_each capacity pass (r ∷ rs) short all (suc k) low =
        short_each capacity r.pass rs (All-head (IsShort capacity) r rs all) (All-tail (IsShort capacity) r rs all) k (omega (arith, low))

-- what the first reader and those behind it are asked of
pub behind_of : (first : Reader) (others : List Reader) → IsSpan first others → AreBehind (arc_value first.of) first.pass others
behind_of first others is = record { reading = first.aware; like = is.like; few = is.few }

-- a span whose readers only walked stays one
pub span_still : (first after : Reader) (ms ns : List Reader) → IsSpan first ms → after.of ≡ first.of → AllZip Walks ms ns → IsSpan after ns
span_still first after ms ns is of walked =
    let long = length_all_zip Walks ms ns walked in
    let back : arc_value first.of ≡ arc_value after.of = ap arc_value (sym of) in
    record {
      like = subst (λ (s : Shared). AllLike s ns) back (like_still (arc_value first.of) ms ns is.like walked);
      few = subst (λ (s : Shared). (length ns + 1) * s.log.shape.capacity ≤ 2 ^ 20) back
          (subst (λ (n : ℕ). (n + 1) * (arc_value first.of).log.shape.capacity ≤ 2 ^ 20) long is.few);
    }

-- a span whose first reader has the same log, pass and words is the same
span_same : (m n : Reader) (ms ns : List Reader) → n.of ≡ m.of → n.words.items ≡ m.words.items → n.pass ≡ m.pass → ns ≡ ms → span_of n ns ≡ span_of m ms
span_same m n ms ns of words pass others =
    ap (λ (s : Shared). record (span_of n ns) { text = s.text.items; setup = s.setup; shape = s.log.shape }) (ap arc_value of)
    ∙ (ap (λ (ws : List ℕ). record (span_of m ns) { passes = n.pass ∷ passes_of ns; words = ws }) words
    ∙ ap₂ (λ (h : PassValue) (rs : List Reader). record (span_of m ms) { passes = h ∷ passes_of rs }) pass others)

-- what a question of what is seen answers
pub asks_seen : (question : ℕ) (m n : Reader) (ms ns : List Reader) (r : Result Head AskRefusal) → AsksWith question m n ms ns r
    → AsksSpanSeen question (span_of m ms) (span_of n ns) r
asks_seen question m n ms ns (Ok head) asked =
    (span_walked m n ms ns asked.0 asked.1.1.0.0 asked.1.1.0.1, (asked.1.0, asked.1.1.1, asked.1.2))
asks_seen question m n ms ns (Err NoQuestion) asked = (span_same m n ms ns asked.0 asked.1 asked.2.0 asked.2.1, asked.2.2)
asks_seen question m n ms ns (Err Memory) asked =
    subst (HaveWalked (span_of m ms) (span_of n ns)) asked.1 (span_walked m n ms ns asked.0 asked.2.0 asked.2.1)

pub asked_still : (question : ℕ) (m n : Reader) (ms ns : List Reader) (r : Result Head AskRefusal) → IsSpan m ms → AsksWith question m n ms ns r → IsSpan n ns
asked_still question m n ms ns (Ok head) is asked = span_still m n ms ns is asked.0 asked.1.1.0.1
asked_still question m n ms ns (Err NoQuestion) is asked =
    span_still m n ms ns is asked.0 (subst (AllZip Walks ms) (sym asked.2.1) (all_stay ms))
asked_still question m n ms ns (Err Memory) is asked = span_still m n ms ns is asked.0 asked.2.1

-- what telling the groups of a lane in what is seen answers
measures_in : (shared : Shared) (lane : ℕ) → IsMeasured shared lane → MeasuresIn shared.log.shape lane
measures_in shared lane is = record { there = is.there; measured = is.measured; whole = is.whole }

measures_of : (shared : Shared) (lane : ℕ) → MeasuresIn shared.log.shape lane → IsMeasured shared lane
measures_of shared lane is = record { there = is.there; measured = is.measured; whole = is.whole }

pub groups_seen : (lane : ℕ) (m n : Reader) (ms ns : List Reader) (r : Result Head LaneRefusal) → GroupsWith lane m n ms ns r
    → TellsSpanGroups lane (span_of m ms) (span_of n ns) r
groups_seen lane m n ms ns (Ok head) told =
    let t : Told = told.1.0 in
    let tells = told.1.1 in
    let is = told.1.2 in (
      span_walked m n ms ns told.0 tells.0.0 tells.0.1,
      record {
        measures = measures_in (arc_value m.of) lane tells.1;
        words_are = is.words_are ∙ ap body_words tells.3;
        tail = is.tail ∙ tells.2;
        kind = is.kind ∙ ap₂ body_kind tells.4 tells.3;
        count = is.count;
      },
    )
groups_seen lane m n ms ns (Err lanes.NoLane) told =
    (span_same m n ms ns told.0 told.1 told.2.0 told.2.1, λ measures. told.2.2 (measures_of (arc_value m.of) lane measures))
groups_seen lane m n ms ns (Err lanes.Memory) told =
    subst (HaveWalked (span_of m ms) (span_of n ns)) told.1 (span_walked m n ms ns told.0 told.2.0 told.2.1)

pub groups_still : (lane : ℕ) (m n : Reader) (ms ns : List Reader) (r : Result Head LaneRefusal) → IsSpan m ms → GroupsWith lane m n ms ns r → IsSpan n ns
groups_still lane m n ms ns (Ok head) is told = span_still m n ms ns is told.0 told.1.1.0.1
groups_still lane m n ms ns (Err lanes.NoLane) is told = span_still m n ms ns is told.0 (subst (AllZip Walks ms) (sym told.2.1) (all_stay ms))
groups_still lane m n ms ns (Err lanes.Memory) is told = span_still m n ms ns is told.0 told.2.1

-- a span of one log has the reader of that
pub one_reader : (first : Reader) (others : List Reader) → length (span_of first others).passes ≡ 1 → span_of first [] ≡ span_of first others
one_reader first [] one = refl
one_reader first (reader ∷ others) one = absurd (omega (arith, one))

-- at each place of two lists
zip_from : {X : Type 0} (R : X → X → Type 0) (xs ys : List X) → length ys ≡ length xs
    → ((k : ℕ) (x y : X) → slice_get xs k ≡ Some x → slice_get ys k ≡ Some y → R x y) → AllZip R xs ys
zip_from R [] [] long each = tt
zip_from R [] (y ∷ ys) long each = absurd (omega (arith, long))
zip_from R (x ∷ xs) [] long each = absurd (omega (arith, long))
zip_from R (x ∷ xs) (y ∷ ys) long each = (each 0 x y refl refl, zip_from R xs ys (omega (arith, long)) (λ k. each (suc k)))

pass_at : (rs : List Reader) (k : ℕ) (h : PassValue) → slice_get (passes_of rs) k ≡ Some h → (r : Reader) × (slice_get rs k ≡ Some r) × (h ≡ r.pass)
pass_at [] k h at = absurd (cc at)
pass_at (r ∷ rs) zero h at = (r, refl, sym (some_is at))
pass_at (r ∷ rs) (suc k) h at = pass_at rs k h at

-- the tails were asked
module _ (first after : Reader) (tail : ℕ) (ms ns : List Reader) (last : ℕ) (is : IsSpan first ms) (asked : AsksTail first after tail)
    (others : AsksOthers (arc_value first.of).log.shape.capacity after.pass ms ns last) (long : length ns ≡ length ms) where
  abbrev shared : Shared
  shared = arc_value first.of

  like_at : (k : ℕ) (n : Reader) → slice_get ns k ≡ Some n → AreLike shared (arc_value n.of)
  like_at k n at =
      let within = slice_get_within ns k n at in
      let there : k < length ms = omega (arith, within, long) in
      let m = get_or ms k n in
      let was : slice_get ms k ≡ Some m = slice_get-get_or ms k n there in
      elim (cases_lt k last) [
        | inl below ↦ subst (AreLike shared) (ap arc_value (sym (others.asked k m n below was at).of)) (is.like k n there)
        | inr above ↦
            (let same : n ≡ m = some_is (sym at ∙ (others.others k above ∙ was)) in
            subst (λ (r : Reader). AreLike shared (arc_value r.of)) (sym same) (is.like k n there))
      ]

  pub tails_still : IsSpan after ns
  tails_still =
      let back : shared ≡ arc_value after.of = ap arc_value (sym asked.of) in
      record {
        like = subst (λ (s : Shared). AllLike s ns) back (λ k d low. like_at k (get_or ns k d) (slice_get-get_or ns k d low));
        few = subst (λ (s : Shared). (length ns + 1) * s.log.shape.capacity ≤ 2 ^ 20) back
            (subst (λ (n : ℕ). (n + 1) * shared.log.shape.capacity ≤ 2 ^ 20) (sym long) is.few);
      }

  asked_at : (k : ℕ) (m n : PassValue) → k ≤ last → slice_get (first.pass ∷ passes_of ms) k ≡ Some m → slice_get (after.pass ∷ passes_of ns) k ≡ Some n
      → HasAsked shared.log.shape m n
  asked_at zero m n low was at =
      subst (λ (h : PassValue). HasAsked shared.log.shape h n) (some_is was) (subst (HasAsked shared.log.shape first.pass) (some_is at) asked.asked)
  asked_at (suc k) m n low was at =
      let l = pass_at ms k m was in
      let r = pass_at ns k n at in
      let one = (others.asked k l.0 r.0 (omega (arith, low)) l.1 r.1).asked in
      let shape : (arc_value (l.0).of).log.shape ≡ shared.log.shape = (alike k l.0 l.1).shape in
      subst (λ (h : PassValue). HasAsked shared.log.shape h n) (sym l.2)
      (subst (HasAsked shared.log.shape (l.0).pass) (sym r.2) (subst (λ (s : ShapeValue). HasAsked s (l.0).pass (r.0).pass) shape one))
    where
      alike : (k : ℕ) (m : Reader) → slice_get ms k ≡ Some m → AreLike shared (arc_value m.of)
      alike k m at =
          subst (λ (r : Reader). AreLike shared (arc_value r.of)) (get_or_from_slice_get ms k m m at) (is.like k m (slice_get_within ms k m at))

  stays_at : (k : ℕ) → last < k → slice_get (after.pass ∷ passes_of ns) k ≡ slice_get (first.pass ∷ passes_of ms) k
  stays_at zero above = absurd (omega (arith, above))
  stays_at (suc k) above =
      slice_get-map (λ (r : Reader). r.pass) ns k
      ∙ (ap (λ (o : Option Reader). option_map (λ (r : Reader). r.pass) o) (others.others k (omega (arith, above)))
      ∙ sym (slice_get-map (λ (r : Reader). r.pass) ms k))

  abbrev befores : List PassValue
  befores = first.pass ∷ passes_of ms

  abbrev afters : List PassValue
  afters = after.pass ∷ passes_of ns

  as_long : length afters ≡ length befores
  as_long =
      let a = length-map ms (λ (r : Reader). r.pass) in
      let b = length-map ns (λ (r : Reader). r.pass) in
      omega (arith, a, b, long)

  front_at : (k : ℕ) (m n : PassValue) → slice_get befores k ≡ Some m → slice_get afters k ≡ Some n → FrontOf (m.view).seen (n.view).seen
  front_at k m n was at = elim (cases_lt last k) [
    | inl above ↦
        (let same : n ≡ m = some_is (sym at ∙ (stays_at k above ∙ was)) in
        subst (λ (h : PassValue). FrontOf (m.view).seen (h.view).seen) (sym same) (take-length (m.view).seen))
    | inr low ↦ (asked_at k m n low was at).longer
  ]

  fronts : (xs ys : List PassValue) → AllZip (λ x y. FrontOf (x.view).seen (y.view).seen) xs ys → AllZip FrontOf (seen_each xs) (seen_each ys)
  fronts [] [] all = tt
  fronts [] (y ∷ ys) all = absurd all
  fronts (x ∷ xs) [] all = absurd all
  fronts (x ∷ xs) (y ∷ ys) all = (all.0, fronts xs ys all.1)

  pub asks_tails : AsksTails (span_of first ms) (span_of after ns)
  asks_tails = record {
    same = ap₂ (λ (s : Shared) (ws : List ℕ). record (span_of after ns) { text = s.text.items; setup = s.setup; shape = s.log.shape; words = ws })
        (ap arc_value asked.of) asked.words;
    asked = record { last = last; is_last = others.is_last; long = as_long; asked = asked_at; others = stays_at };
    longer = subst (λ (s : Shared). FrontOf (seen_by (span_of first ms)) (seen_in s.log.shape.capacity (seen_each afters))) (ap arc_value (sym asked.of))
        (seen_longer shared.log.shape.capacity (seen_each befores) (seen_each afters)
        (fronts befores afters (zip_from (λ x y. FrontOf (x.view).seen (y.view).seen) befores afters as_long front_at))
        (subst (λ (s : Shared). (k : ℕ) → k < length (seen_each afters) → long_at after.pass ns k ≤ s.log.shape.capacity) (ap arc_value asked.of)
        (logs_short after ns tails_still)));
  }

-- what is seen of a log behind the first
log_at : (first : PassValue) (others : List Reader) (j : ℕ) (d : Reader) → j < length others
    → get_or (logs first others) (suc j) [] ≡ ((get_or others j d).pass.view).seen
log_at first [] j d low = absurd (omega (arith, low))
log_at first (r ∷ others) zero d low = refl
log_at first (r ∷ others) (suc j) d low = log_at r.pass others j d (omega (arith, low))

-- a row of one log is read
row_walked : (place : ℕ) (m n : Reader) (r : Result RowValue RowRefusal) → ReadsRow place m n r → Walks m n
row_walked place m n (Ok row) read = record { of = read.0; walked = walked_looked m.pass n.pass read.2 }
row_walked place m n (Err rows.NoRow) read = subst (Walks m) (sym read.0) (stays m)
row_walked place m n (Err rows.Memory) read = record { of = read.0; walked = walked_looked m.pass n.pass read.2 }

row_words : (place : ℕ) (m n : Reader) (r : Result RowValue RowRefusal) → ReadsRow place m n r → n.words.items ≡ m.words.items
row_words place m n (Ok row) read = read.1
row_words place m n (Err rows.NoRow) read = ap (λ (r : Reader). r.words.items) read.0
row_words place m n (Err rows.Memory) read = read.1

-- the row at an offset is that of a place of one log
module _ (first : Reader) (others : List Reader) (is : IsSpan first others) (offset part place : ℕ) where
  abbrev capacity : ℕ
  capacity = (arc_value first.of).log.shape.capacity

  abbrev all_seen : List Entry
  all_seen = seen_by (span_of first others)

  pub row_place : place < capacity → offset ≡ part * capacity + place → offset < length all_seen → IsPlaceIn capacity (logs first.pass others) part place
  row_place low at within =
      place_in capacity (logs first.pass others) part place (logs_short first others is) low (subst (λ (k : ℕ). k < length all_seen) at within)

  -- of the reader whose log has the place
  pub row_read : (m n after : Reader) (ns : List Reader) (r : Result RowValue RowRefusal) → IsPlaceIn capacity (logs first.pass others) part place
      → offset ≡ part * capacity + place → offset < length all_seen → get_or (logs first.pass others) part [] ≡ (m.pass.view).seen
      → (arc_value m.of).log.shape ≡ (arc_value first.of).log.shape → after.of ≡ first.of → after.words.items ≡ first.words.items
      → OnlyWalked first.pass after.pass → AllZip Walks others ns → ReadsRow place m n r → ReadsSpanRow offset (span_of first others) (span_of after ns) r
  row_read m n after ns (Ok row) there at within log shape of words walked all read = (
    subst (HaveWalked (span_of first others) (span_of after ns)) words (span_walked first after others ns of walked all),
    within,
    read.4 ∙ (ap (λ (es : List Entry). row_at (rows_in es) place) (sym log)
        ∙ (sym there.row ∙ ap (λ (k : ℕ). row_at (rows_in all_seen) k) (sym at))),
    subst (λ (s : ShapeValue). Fits s.schema row) shape read.5,
  )
  row_read m n after ns (Err rows.NoRow) there at within log shape of words walked all read =
      let low = there.place_low in
      let long = ap (λ (es : List Entry). length es) log in
      let past = read.1 in
      absurd (omega (arith, low, long, past))
  row_read m n after ns (Err rows.Memory) there at within log shape of words walked all read =
      subst (HaveWalked (span_of first others) (span_of after ns)) words (span_walked first after others ns of walked all)

  -- of the first log
  pub row_first : part ≡ 0 → (n : Reader) (r : Result RowValue RowRefusal) → place < capacity → offset ≡ part * capacity + place → offset < length all_seen
      → ReadsRow place first n r → ReadsSpanRow offset (span_of first others) (span_of n others) r
  row_first zero_is n r low at within read =
      let one = row_walked place first n r read in
      row_read first n n others r (row_place low at within) at within (ap (λ (k : ℕ). get_or (logs first.pass others) k []) zero_is) refl one.of (row_words place first n r read)
      one.walked (all_stay others) read

  -- of one behind it
  pub row_other : (j : ℕ) (d n : Reader) (r : Result RowValue RowRefusal) → part ≡ suc j → place < capacity → offset ≡ part * capacity + place
      → offset < length all_seen → ReadsRow place (get_or others j d) n r → ReadsSpanRow offset (span_of first others) (span_of first (set others j n)) r
  row_other j d n r part_is low at within read =
      let there = row_place low at within in
      let part_low = there.part_low in
      let long = logs_long first.pass others in
      let below : j < length others = omega (arith, part_low, long, part_is) in
      row_read (get_or others j d) n first (set others j n) r there at within
      (ap (λ (k : ℕ). get_or (logs first.pass others) k []) part_is ∙ log_at first.pass others j d below) (is.like j d below).shape refl refl
      (walked_none first.pass) (walked_more others others j d n (all_stay others) below (row_walked place (get_or others j d) n r read)) read

  pub other_below : (j : ℕ) → part ≡ suc j → place < capacity → offset ≡ part * capacity + place → offset < length all_seen → j < length others
  other_below j part_is low at within =
      let part_low = (row_place low at within).part_low in
      let long = logs_long first.pass others in
      omega (arith, part_low, long, part_is)

-- a reader was added
module _ (first reader : Reader) (others now : List Reader) (is : now ≡ others ++ reader ∷ []) (like : AreLike (arc_value first.of) (arc_value reader.of)) where
  pub adds_ok : AddsReader reader (span_of first others) (span_of first now) (Ok tt)
  adds_ok = (
    record { text = like.text; shape = like.shape },
    ap (λ (rs : List Reader). span_of first rs) is
        ∙ ap (λ (hs : List PassValue). record (span_of first others) { passes = first.pass ∷ hs }) (map-append (λ (r : Reader). r.pass) others (reader ∷ [])),
  )

  pub adds_span : IsSpan first others → (length (first.pass ∷ passes_of others) + 1) * (arc_value first.of).log.shape.capacity ≤ 2 ^ 20 → IsSpan first now
  adds_span old few =
      let passes = length-map others (λ (r : Reader). r.pass) in
      let both = length-append others (reader ∷ []) in
      let all = ap (λ (rs : List Reader). length rs) is in
      let long : length (first.pass ∷ passes_of others) + 1 ≡ length now + 1 = omega (arith, passes, both, all) in
      record {
        like = subst (AllLike (arc_value first.of)) (sym is) (All-push (λ (r : Reader). AreLike (arc_value first.of) (arc_value r.of)) others reader old.like like);
        few = subst (λ (n : ℕ). n * (arc_value first.of).log.shape.capacity ≤ 2 ^ 20) long few;
      }

pub unlike : (first reader : Reader) (others : List Reader) → (AreLike (arc_value first.of) (arc_value reader.of) → ⊥)
    → IsLike (span_of first others) (arc_value reader.of) → ⊥
unlike first reader others other like =
    other (are_like (arc_value first.of) (arc_value reader.of) (ap (λ (s : ShapeValue). s.capacity) (sym like.shape))
    (ap (λ (s : ShapeValue). s.writers) (sym like.shape)) (ap (λ (s : ShapeValue). s.nodes) (sym like.shape)) like.text)

-- the first log was let go
module _ (first next after : Reader) (others rest : List Reader) (split : others ≡ next ∷ rest) (is : IsSpan first others) (of : after.of ≡ next.of)
    (pass : after.pass ≡ next.pass) (words : after.words.items ≡ first.words.items) where
  all_like : AllLike (arc_value first.of) (next ∷ rest)
  all_like = subst (AllLike (arc_value first.of)) split is.like

  next_like : AreLike (arc_value first.of) (arc_value after.of)
  next_like = subst (AreLike (arc_value first.of)) (ap arc_value (sym of)) (all_like 0 next (omega arith))

  pub drops_span : IsSpan after rest
  drops_span =
      let few = is.few in
      let long = ap (λ (rs : List Reader). length rs) split in
      let fewer : (length rest + 1) * (arc_value first.of).log.shape.capacity ≤ (length others + 1) * (arc_value first.of).log.shape.capacity =
      mul-le-mul_right (arc_value first.of).log.shape.capacity (omega (arith, long)) in
      record {
        like = λ k d low. like_on (arc_value first.of) (arc_value after.of) (arc_value (get_or rest k d).of) next_like (all_like (suc k) d (omega (arith, low)));
        few = subst (λ (s : ShapeValue). (length rest + 1) * s.capacity ≤ 2 ^ 20) (sym next_like.shape) (omega (arith, few, fewer));
      }

  pub drops_first : DropsFirst (span_of first others) (span_of after rest) true
  drops_first =
      let passes = length-map others (λ (r : Reader). r.pass) in
      let long = ap (λ (rs : List Reader). length rs) split in
      let last : List PassValue = after.pass ∷ passes_of rest in
      let heads : last ≡ passes_of others = ap (λ (h : PassValue). h ∷ passes_of rest) pass ∙ ap passes_of (sym split) in
      let was : Shared = arc_value first.of in (
        omega (arith, passes, long),
        ap (λ (t : List ℕ). record (span_of after rest) { text = t }) next_like.text
            ∙ (ap (λ (s : SetupValue). record (span_of after rest) { text = was.text.items; setup = s }) next_like.setup
            ∙ (ap (λ (s : ShapeValue). record (span_of after rest) { text = was.text.items; setup = was.setup; shape = s }) next_like.shape
            ∙ (ap (λ (hs : List PassValue). record (span_of first others) { passes = hs; words = after.words.items }) heads
            ∙ ap (λ (ws : List ℕ). record (span_of first others) { passes = passes_of others; words = ws }) words))),
      )

-- a row was read, by the first reader or by another
pub row_still_first : (place : ℕ) (first n : Reader) (others : List Reader) (r : Result RowValue RowRefusal) → IsSpan first others → ReadsRow place first n r
    → IsSpan n others
row_still_first place first n others r is read = span_still first n others others is (row_walked place first n r read).of (all_stay others)

pub row_still_other : (place : ℕ) (first : Reader) (others : List Reader) (j : ℕ) (d n : Reader) (r : Result RowValue RowRefusal) → IsSpan first others
    → j < length others → ReadsRow place (get_or others j d) n r → IsSpan first (set others j n)
row_still_other place first others j d n r is low read =
    span_still first first others (set others j n) is refl
    (walked_more others others j d n (all_stay others) low (row_walked place (get_or others j d) n r read))

-- a pass that was asked what it sees reads on
pub told_reads : (shared : Shared) (question : ℕ) (m n : PassValue) (ms ns : List Reader) (r : Result Told AskRefusal) → IsReading shared.log m
    → TellsSeen shared question m n ms ns r → IsReading shared.log n
told_reads shared question m n ms ns (Ok told) reading tells = walked_aware shared.log m n reading tells.0.0
told_reads shared question m n ms ns (Err NoQuestion) reading tells = subst (IsReading shared.log) (sym tells.0) reading
told_reads shared question m n ms ns (Err Memory) reading tells = walked_aware shared.log m n reading tells.0

pub groups_read : (shared : Shared) (lane : ℕ) (m n : PassValue) (ms ns : List Reader) (r : Result Told LaneRefusal) → IsReading shared.log m
    → TellsGroupsSeen shared lane m n ms ns r → IsReading shared.log n
groups_read shared lane m n ms ns (Ok told) reading tells = walked_aware shared.log m n reading tells.0.0
groups_read shared lane m n ms ns (Err lanes.NoLane) reading tells = subst (IsReading shared.log) (sym tells.0) reading
groups_read shared lane m n ms ns (Err lanes.Memory) reading tells = walked_aware shared.log m n reading tells.0

not_there : {X : Type 0} (xs : List X) (i : ℕ) → i < length xs → slice_get xs i ≡ None → ⊥
not_there [] i low none = omega (arith, low)
not_there (x ∷ xs) zero low none = cc none
not_there (x ∷ xs) (suc i) low none = not_there xs i (omega (arith, low)) none

-- the tails were asked, and then a question that is there
pub asks_at : (question : ℕ) (m k n : SpanValue) (r : Result Head AskRefusal) → question < length m.setup.asks → AsksTails m k → AsksSpanSeen question k n r
    → AsksSpanAt question m n r
asks_at question m k n (Ok head) low tails seen = (k, tails, seen)
asks_at question m k n (Err NoQuestion) low tails seen =
    let setup = ap (λ (s : SpanValue). length s.setup.asks) tails.same in
    absurd (not_there k.setup.asks question (omega (arith, low, setup)) seen.1)
asks_at question m k n (Err Memory) low tails seen = (k, tails, seen)

-- which log an offset is in, and at which place
pub place_low : (offset room takes : ℕ) → room ≡ takes → 1 ≤ takes → offset % room < takes
place_low offset room takes same one = subst (λ (n : ℕ). offset % room < n) same (mod-lt offset (omega (arith, same, one)))

pub place_at : (offset room takes : ℕ) → room ≡ takes → offset ≡ offset / room * takes + offset % room
place_at offset room takes same = sym (div-add-mod' offset room) ∙ ap (λ (n : ℕ). offset / room * n + offset % room) same

pub part_more : (part : ℕ) → (part ≡ 0 → ⊥) → part ≡ suc (part - 1)
part_more zero some = absurd (some refl)
part_more (suc part) some = omega arith
