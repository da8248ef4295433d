-- The passes by which questions are asked of what the segments' roots have seen.
use Rattle.std.proofs.Common.{◌≡◌, ◌<◌, ◌≤◌, ◌+◌, ◌*◌, ◌^◌, ℕ, true, List, [], ◌∷◌, ◌++◌, length, get_or, map, Some, Ok, IfOk, slice_get, refl, sym, ap, ap₂, subst, ◌∙◌, arith, length-append, mul_comm, mul-le-mul_left}
use Rattle.std.proofs.lemmas.List.{ext_get_or, get_or-map, length-map}
use Rattle.std.proofs.lemmas.List.Elements.{All-map}
use Rattle.std.proofs.lemmas.Option.{slice_get-get_or}
use Rattle.std.specs.declared.alloc.AllocError.{AllocError}
use Rattle.std.specs.declared.result.Result.{Result}
use Rattle.std.specs.List.{All, AllZip, flat_map}
use denote.Ref.{Bor}
use Rattle.cf_row.specs.declared.row.Entry.{Entry}
use Rattle.cf_shape.specs.Lanes.{ShapeValue}
use Rattle.cf_plain.specs.Asks.{Suits}
use Rattle.cf_plain.specs.Answered.{answer_on, no_ask}
use Rattle.cf_plain.specs.declared.answer.Answer.{Answer}
use Rattle.cf_fold.specs.declared.trigger.Trigger.{Trigger}
use Rattle.cf_plain.specs.declared.answer.Body.{Body}
use Rattle.cf_plain.specs.declared.answer.Fired.{Fired}
use Rattle.cf_plain.specs.declared.ask.Ask.{Ask}
use Rattle.cf_plain.specs.declared.finding.Finding.{Finding}
use Rattle.cf_plain.specs.declared.ask.Ask.TheVariants as asks_are
use Rattle.cf_table.specs.Values.{PassValue, LogValue}
use Rattle.cf_query.specs.Walks.{OnlyWalked}
use Rattle.cf_query.proofs.Walking.{walked_seen}
use Rattle.cf_load.specs.Planned.{IsMarks, as_marks, body_of, finding_on, marks_on}
use Rattle.cf_load.specs.Readers.{AreReaders, CanBeAsked, IsQuestion, answer_by, finding_by, seen_by}
use Rattle.cf_query.specs.Stretches.{goes_over_all}
use Rattle.cf_table.specs.Moves.{IsReading}
use Rattle.cf_scan.specs.Parts.{IsPart, behind}
use Rattle.cf_scan.specs.declared.parts.Part.{Part}
use Rattle.cf_segments.specs.Readers.{ArePartsOf, Reads, log_in}
use Rattle.cf_segments.specs.Segments.{SegmentsValue, IsSegments, KeepsAll, KeepsSegment, all_of, entries_of, seen_of}
use Rattle.cf_load.specs.declared.finals.Question.{Question}
use Rattle.cf_load.specs.declared.finals.Question.TheVariants as questions
use Rattle.cf_segments.specs.declared.segments.Segment.{Segment}
use Rattle.cf_segments.proofs.Zips.{zip_at, zip_long, zip_get}
use Rattle.cf_segments.proofs.Kept.{kept_each, kept_entries, kept_shape}

-- a pass that walked reads the log as before
pub reader_walked : (log : LogValue) (m n : PassValue) → IsReading log m → OnlyWalked m n → IsReading log n
reader_walked log m n is walked =
    let seen = walked_seen m n walked in record {
      of = record {
        table = ap (λ (h : PassValue). h.table) walked.same ∙ is.of.table;
        nodes = ap (λ (h : PassValue). h.nodes) walked.same ∙ is.of.nodes;
      };
      few = subst (λ (es : List Entry). length es ≤ log.shape.capacity) seen is.few;
      fit = λ o e at. is.fit o e (ap (λ (es : List Entry). slice_get es o) seen ∙ at);
    }

-- what reads a segment read it before too, where the segment keeps what it holds
pub reads_before : (f g : Segment) (r : PassValue) → KeepsSegment f g → Reads g r → Reads f r
reads_before f g r keeps reads = record { is = subst (λ (l : LogValue). IsReading l r) keeps.log reads.is; seen = reads.seen ∙ keeps.root.seen }

pub all_before : (fs gs : List Segment) (rs : List PassValue) → AllZip KeepsSegment fs gs → AllZip Reads gs rs → AllZip Reads fs rs
all_before [] [] rs keeps reads = reads
all_before [] (g ∷ gs) rs keeps reads = absurd keeps
all_before (f ∷ fs) [] rs keeps reads = absurd keeps
all_before (f ∷ fs) (g ∷ gs) [] keeps reads = absurd reads
all_before (f ∷ fs) (g ∷ gs) (r ∷ rs) keeps reads = (reads_before f g r keeps.0 reads.0, all_before fs gs rs keeps.1 reads.1)

-- what all passes have seen are the segments' entries
pub all_seen : (gs : List Segment) (rs : List PassValue) → AllZip Reads gs rs → flat_map seen_by rs ≡ flat_map seen_of gs
all_seen [] [] reads = refl
all_seen [] (r ∷ rs) reads = absurd reads
all_seen (g ∷ gs) [] reads = absurd reads
all_seen (g ∷ gs) (r ∷ rs) reads = ap₂ (λ (es fs : List Entry). es ++ fs) (reads.0).seen (all_seen gs rs reads.1)

module _ (s : SegmentsValue) (is : IsSegments s) (logs : List (Bor LogValue)) (same : map behind logs ≡ map log_in (all_of s)) where
  -- there is a log for each segment
  logs_long : length logs ≡ length s.closed + 1
  logs_long = sym (length-map logs behind) ∙ (ap length same ∙ (length-map (all_of s) log_in ∙ length-append s.closed (s.current ∷ [])))

  -- the log at a place is the segment's
  log_at : (k : ℕ) (l : Bor LogValue) → k < length logs → (get_or logs k l).now ≡ (get_or (all_of s) k s.current).log
  log_at k l lt =
      let long = logs_long in
      let all = length-append s.closed (s.current ∷ []) in
      sym (get_or-map behind logs k l l.now lt)
      ∙ (ap (λ (ls : List LogValue). get_or ls k l.now) same ∙ get_or-map log_in (all_of s) k s.current l.now (omega (arith, lt, long, all)))

  -- passes that read the segments read the logs
  logs_read : (rs : List PassValue) → AllZip Reads (all_of s) rs → AreReaders s.shape logs rs
  logs_read rs reads =
      let n = (s.shape).capacity in
      let long = logs_long in
      let many : length rs ≡ length s.closed + 1 = sym (zip_long Reads (all_of s) rs reads) ∙ length-append s.closed (s.current ∷ []) in
      let few = is.few in
      let room : n * length rs ≤ n * s.most = mul-le-mul_left n (let e : length rs ≤ s.most = omega (arith, many, few) in e) in
      let rows = is.sizes.rows in
      let swap = mul_comm n s.most in
      let within : (k : ℕ) → k < length rs → k < length logs = λ k lt. omega (arith, lt, many, long) in
      let all : (k : ℕ) → k < length rs → k < length (all_of s) =
      λ k lt. let sum = length-append s.closed (s.current ∷ []) in omega (arith, lt, many, sum) in
      record {
        many = omega (arith, many, long);
        few = omega (arith, room, rows, swap);
        shapes = λ k l lt. ap (λ (h : LogValue). h.shape) (log_at k l (within k lt))
            ∙ (is.each k (get_or (all_of s) k s.current) (slice_get-get_or (all_of s) k s.current (all k lt))).shape_is;
        each = λ k l p lt. subst (λ (h : LogValue). IsReading h (get_or rs k p)) (sym (log_at k l (within k lt)))
            (zip_get Reads (all_of s) rs k s.current p reads lt).is;
      }

  -- each question can be asked
  can_one : (ask : Ask) (q : Question) → Suits s.shape ask → IsQuestion s ask q → CanBeAsked s.shape logs q
  can_one ask (questions.Walk own readers) suits is = (subst (Suits s.shape) (sym is.0) suits, logs_read readers.items is.1)
  can_one ask (questions.Scan own parts) suits is =
      let are = is.2 in record {
        all = subst (λ (a : Ask). goes_over_all a ≡ true) (sym is.0) is.1;
        suits = subst (Suits s.shape) (sym is.0) suits;
        each = subst (λ (ls : List LogValue). All (IsPart s.shape ls) parts.items) (sym same) are.each;
        few = subst (λ (es : List Entry). length es ≤ 2 ^ 20) (sym are.entries) are.few;
      }

  pub can_ask : (asks : List Ask) (qs : List Question) → All (Suits s.shape) asks → AllZip (IsQuestion s) asks qs → All (CanBeAsked s.shape logs) qs
  can_ask asks qs suit are k q lt =
      let at = zip_get (IsQuestion s) asks qs k no_ask q are lt in
      let long = zip_long (IsQuestion s) asks qs are in
      can_one (get_or asks k no_ask) (get_or qs k q) (suit k no_ask (omega (arith, lt, long))) at

-- the answer to a question is that on all entries
answers_all : (s : SegmentsValue) (ask : Ask) (q : Question) → IsQuestion s ask q → answer_by s.shape q ≡ answer_on s.shape (entries_of s) ask
answers_all s ask (questions.Walk own readers) is =
    ap₂ (λ (es : List Entry) (a : Ask). answer_on s.shape es a) (all_seen (all_of s) readers.items is.1) is.0
answers_all s ask (questions.Scan own parts) is = ap₂ (λ (es : List Entry) (a : Ask). answer_on s.shape es a) (is.2).entries is.0

-- what a question finds is what its ask does in all entries
findings_all : (s : SegmentsValue) (ask : Ask) (q : Question) → IsQuestion s ask q → finding_by s.shape q ≡ finding_on s.shape (entries_of s) ask
findings_all s ask (questions.Walk own readers) is =
    ap₂ (λ (es : List Entry) (a : Ask). finding_on s.shape es a) (all_seen (all_of s) readers.items is.1) is.0
findings_all s ask (questions.Scan own parts) is = ap₂ (λ (es : List Entry) (a : Ask). finding_on s.shape es a) (is.2).entries is.0

-- what was given for each question is given for all asks
module _ {X : Type 0} (by : Question → X) (on : Ask → X) (s : SegmentsValue) (same : (ask : Ask) (q : Question) → IsQuestion s ask q → by q ≡ on ask) where
  all_made : (asks : List Ask) (qs : List Question) (results : List (Result X AllocError)) (all : List X)
      → AllZip (IsQuestion s) asks qs → length results ≡ length qs
      → ((k : ℕ) (one : Result X AllocError) (q : Question) → k < length qs
      → IfOk (get_or results k one) (λ a. a ≡ by (get_or qs k q))) → results ≡ map (λ (a : X). Ok a) all
      → all ≡ map on asks
  all_made asks qs results all are long each is =
      let d = on no_ask in
      let whole : length results ≡ length all = ap length is ∙ length-map all (λ (a : X). Ok a) in
      let pairs = zip_long (IsQuestion s) asks qs are in
      let size = length-map asks on in
      ext_get_or d all (map on asks) (omega (arith, whole, pairs, long, size))
      (λ k lt.
      let low : k < length asks = omega (arith, lt, whole, long, pairs) in
      let z = zip_at (IsQuestion s) asks qs k (get_or asks k no_ask) are (slice_get-get_or asks k no_ask low) in
      let q : Question = z.0 in
      let there : k < length qs = omega (arith, low, pairs) in
      let at : get_or qs k q ≡ q = (let e : Some (get_or qs k q) ≡ Some q = sym (slice_get-get_or qs k q there) ∙ z.1 in cc e) in
      let made : get_or results k (Ok d) ≡ Ok (get_or all k d) =
      ap (λ (rs : List (Result X AllocError)). get_or rs k (Ok d)) is ∙ get_or-map (λ (a : X). Ok a) all k d (Ok d) lt in
      let one : get_or all k d ≡ by (get_or qs k q) =
      subst (λ (r : Result X AllocError). IfOk r (λ a. a ≡ by (get_or qs k q))) made (each k (Ok d) q there) in
      one
      ∙ (ap by at
      ∙ (same (get_or asks k no_ask) q z.2 ∙ sym (get_or-map on asks k no_ask d low))))

-- the answers are those on all entries
pub all_answers : (s : SegmentsValue) (asks : List Ask) (qs : List Question) (results : List (Result Answer AllocError)) (all : List Answer)
    → AllZip (IsQuestion s) asks qs → length results ≡ length qs
    → ((k : ℕ) (one : Result Answer AllocError) (q : Question) → k < length qs
    → IfOk (get_or results k one) (λ a. a ≡ answer_by s.shape (get_or qs k q))) → results ≡ map (λ (a : Answer). Ok a) all
    → all ≡ map (answer_on s.shape (entries_of s)) asks
all_answers s asks qs results all are long each is =
    all_made (answer_by s.shape) (answer_on s.shape (entries_of s)) s (answers_all s) asks qs results all are long each is

-- what is found is found in all entries
pub all_findings : (s : SegmentsValue) (asks : List Ask) (qs : List Question) (results : List (Result Finding AllocError)) (all : List Finding)
    → AllZip (IsQuestion s) asks qs → length results ≡ length qs
    → ((k : ℕ) (one : Result Finding AllocError) (q : Question) → k < length qs
    → IfOk (get_or results k one) (λ a. a ≡ finding_by s.shape (get_or qs k q))) → results ≡ map (λ (a : Finding). Ok a) all
    → all ≡ map (finding_on s.shape (entries_of s)) asks
all_findings s asks qs results all are long each is =
    all_made (finding_by s.shape) (finding_on s.shape (entries_of s)) s (findings_all s) asks qs results all are long each is

-- what read a segment reads it still, where that keeps what it holds
all_after : (fs gs : List Segment) (rs : List PassValue) → AllZip KeepsSegment fs gs → AllZip Reads fs rs → AllZip Reads gs rs
all_after [] [] rs keeps reads = reads
all_after [] (g ∷ gs) rs keeps reads = absurd keeps
all_after (f ∷ fs) [] rs keeps reads = absurd keeps
all_after (f ∷ fs) (g ∷ gs) [] keeps reads = absurd reads
all_after (f ∷ fs) (g ∷ gs) (r ∷ rs) keeps reads = (
  record { is = subst (λ (l : LogValue). IsReading l r) (sym (keeps.0).log) (reads.0).is; seen = (reads.0).seen ∙ sym (keeps.0).root.seen },
  all_after fs gs rs keeps.1 reads.1,
)

-- the parts of segments are those of others with the same logs and entries
parts_same : (s t : SegmentsValue) (parts : List Part) → t.shape ≡ s.shape → map log_in (all_of t) ≡ map log_in (all_of s) → entries_of t ≡ entries_of s
    → ArePartsOf s parts → ArePartsOf t parts
parts_same s t parts shape logs entries are = record {
  each = subst (λ (h : ShapeValue). All (IsPart h (map log_in (all_of t))) parts) (sym shape)
      (subst (λ (ls : List LogValue). All (IsPart s.shape ls) parts) (sym logs) are.each);
  entries = are.entries ∙ sym entries;
  few = subst (λ (es : List Entry). length es ≤ 2 ^ 20) (sym entries) are.few;
}

logs_kept : (fs gs : List Segment) → AllZip KeepsSegment fs gs → map log_in gs ≡ map log_in fs
logs_kept [] [] keeps = refl
logs_kept [] (g ∷ gs) keeps = absurd keeps
logs_kept (f ∷ fs) [] keeps = absurd keeps
logs_kept (f ∷ fs) (g ∷ gs) keeps = ap₂ (λ (l : LogValue) (ls : List LogValue). l ∷ ls) (keeps.0).log (logs_kept fs gs keeps.1)

-- a question of segments is one of them before and after, where they keep what they hold
module _ (s t : SegmentsValue) (keeps : KeepsAll s t) where
  same_logs : map log_in (all_of t) ≡ map log_in (all_of s)
  same_logs = logs_kept (all_of s) (all_of t) (kept_each s t keeps)

  pub question_before : (ask : Ask) (q : Question) → IsQuestion t ask q → IsQuestion s ask q
  question_before ask (questions.Walk own readers) is = (is.0, all_before (all_of s) (all_of t) readers.items (kept_each s t keeps) is.1)
  question_before ask (questions.Scan own parts) is =
      (is.0, is.1, parts_same t s parts.items (sym (kept_shape s t keeps)) (sym same_logs) (sym (kept_entries s t keeps)) is.2)

  question_after : (ask : Ask) (q : Question) → IsQuestion s ask q → IsQuestion t ask q
  question_after ask (questions.Walk own readers) is = (is.0, all_after (all_of s) (all_of t) readers.items (kept_each s t keeps) is.1)
  question_after ask (questions.Scan own parts) is =
      (is.0, is.1, parts_same s t parts.items (kept_shape s t keeps) same_logs (kept_entries s t keeps) is.2)

  pub questions_after : (asks : List Ask) (qs : List Question) → AllZip (IsQuestion s) asks qs → AllZip (IsQuestion t) asks qs
  questions_after [] [] are = are
  questions_after [] (q ∷ qs) are = absurd are
  questions_after (a ∷ asks) [] are = absurd are
  questions_after (a ∷ asks) (q ∷ qs) are = (question_after a q are.0, questions_after asks qs are.1)

-- each answer about a trigger has marks
pub are_marks : (shape : ShapeValue) (entries : List Entry) (ts : List Trigger)
    → All IsMarks (map (answer_on shape entries) (map (λ (t : Trigger). asks_are.Fired t) ts))
are_marks shape entries ts =
    All-map IsMarks (answer_on shape entries) (map (λ (t : Trigger). asks_are.Fired t) ts)
    (All-map (λ (a : Ask). IsMarks (answer_on shape entries a)) (λ (t : Trigger). asks_are.Fired t) ts
    (λ k d lt. (marks_on shape entries (get_or ts k d), refl)))

-- which are those that the triggers found
pub marks_told : (shape : ShapeValue) (entries : List Entry) (ts : List Trigger)
    → map body_of (map (answer_on shape entries) (map (λ (t : Trigger). asks_are.Fired t) ts)) ≡ map as_marks (map (marks_on shape entries) ts)
marks_told shape entries [] = refl
marks_told shape entries (t ∷ ts) = ap (λ (bs : List Body). as_marks (marks_on shape entries t) ∷ bs) (marks_told shape entries ts)

pub marks_same : (xs ys : List (List Fired)) → map as_marks xs ≡ map as_marks ys → xs ≡ ys
marks_same [] [] same = refl
marks_same [] (y ∷ ys) same = absurd (cc same)
marks_same (x ∷ xs) [] same = absurd (cc same)
marks_same (x ∷ xs) (y ∷ ys) same =
    let head : as_marks x ≡ as_marks y = cc same in
    let one : x ≡ y = cc head in
    let rest : map as_marks xs ≡ map as_marks ys = cc same in
    ap₂ (λ (z : List Fired) (zs : List (List Fired)). z ∷ zs) one (marks_same xs ys rest)
