-- How far a stream has come.
use Rattle.std.proofs.Common.{◌≡◌, ◌∙◌, ℕ, ◌+◌, ◌<◌, ◌≤◌, ◌⊎◌, inl, inr, List, [], ◌∷◌, ◌++◌, length, drop, fold, Bool, true, false, ◌||◌, nat_lt, All, slice_index_or, if◌then◌else◌, refl, sym, ap, subst, arith, length-append, append-nil, append_assoc}
use Rattle.std.proofs.lemmas.Bool.{cases_Bool}
use Rattle.std.proofs.lemmas.Bool.Decides.{nat_tests}
use Rattle.std.proofs.lemmas.List.{drop_at, take_all, take-append-le}
use Rattle.std.proofs.lemmas.List.Elements.{All-push, All-weaker}
use Rattle.std.proofs.lemmas.List.Sums.{fold_push}
use Rattle.cf_row.proofs.Lists.{get_push_same, has_left}
use Rattle.cf_row.specs.Row.{RowValue}
use Rattle.cf_shape.specs.Lanes.{ShapeValue}
use Rattle.cf_window.specs.Courses.{IsCourse}
use Rattle.cf_window.specs.Laws.{IsMoment, IsSeen}
use Rattle.cf_window.specs.Rounds.{Course, Span, came, came_by, span_of, start, was_read, with_round, within}
use Rattle.cf_window.specs.Windows.{after_row, drops, rows_in_all, window}
use Rattle.cf_window.proofs.Rows.{few_after, rows_dropped, rows_first, rows_kept}

moment_more : (shape : ShapeValue) (most : ℕ) (rows more : List RowValue) (span : Span) → IsMoment shape most rows span
    → IsMoment shape most (rows ++ more) span
moment_more shape most rows more span is =
    let same = take-append-le span.to rows more is.come in
    let long = length-append rows more in
    let come = is.come in
    record {
      come = omega (arith, long, come);
      held = ap (λ (rs : List RowValue). drop span.from rs) same ∙ (is.held ∙ ap (λ (rs : List RowValue). rows_in_all (window shape most rs)) (sym same));
    }

seen_more : (spans more : List Span) (number : ℕ) → IsSeen spans number → IsSeen (spans ++ more) number
seen_more spans more number is = record { round = is.round; span = is.span; at = has_left spans more is.round is.span is.at; from = is.from; to = is.to }

module _ (shape : ShapeValue) (most : ℕ) (rows : List RowValue) (course : Course) (is : IsCourse shape most rows course) where
  abbrev pub held : List RowValue
  held = rows_in_all course.segments

  pub long : course.count ≡ length is.front + length held
  long = is.count ∙ (ap (λ (rs : List RowValue). length rs) is.ends ∙ length-append is.front held)

  pub from_is : (span_of course).from ≡ length is.front
  from_is = (let all = long in omega (arith, all))

  -- its span is that of the window now
  pub held_now : within rows (span_of course) ≡ held
  held_now =
      let count = is.count in
      ap (λ (rs : List RowValue). drop (span_of course).from rs) (take_all course.count rows (omega (arith, count)))
      ∙ (ap (λ (rs : List RowValue). drop (span_of course).from rs) is.ends ∙ drop_at is.front held (span_of course).from (sym from_is))

  pub moment_now : IsMoment shape most rows (span_of course)
  moment_now = (let count = is.count in record {
    come = omega (arith, count);
    held = held_now
        ∙ ap rows_in_all (is.segments ∙ ap (λ (rs : List RowValue). window shape most rs) (sym (take_all course.count rows (omega (arith, count)))));
  })

  -- a round now sees each record that no other has seen
  pub seen_now : (number : ℕ) → number < length rows → IsSeen (course.rounds ++ span_of course ∷ []) number
  seen_now number low = elim (is.seen number low) [
    | inl late ↦ (let from = from_is in let count = is.count in
        record {
          round = length course.rounds;
          span = span_of course;
          at = get_push_same course.rounds (span_of course);
          from = omega (arith, from, late);
          to = omega (arith, count, low);
        })
    | inr seen ↦ seen_more course.rounds (span_of course ∷ []) number seen
  ]

  pub course_round : IsCourse shape most rows (with_round course)
  course_round = record {
    count = is.count;
    segments = is.segments;
    front = is.front;
    ends = is.ends;
    rounds = All-push (IsMoment shape most rows) course.rounds (span_of course) is.rounds moment_now;
    seen = λ number low. inr (seen_now number low);
  }

  module _ (row : RowValue) where
    abbrev after : List RowValue
    after = rows ++ row ∷ []

    count_next : course.count + 1 ≡ length after
    count_next = (let all = length-append rows (row ∷ []) in let count = is.count in omega (arith, all, count))

    segments_next : after_row shape most course.segments row ≡ window shape most after
    segments_next = ap (λ (xs : List (List RowValue)). after_row shape most xs row) is.segments ∙ sym (fold_push (after_row shape most) [] rows row)

    rounds_next : (spans : List Span) → All (IsMoment shape most rows) spans → All (IsMoment shape most after) spans
    rounds_next spans all = All-weaker (IsMoment shape most rows) (IsMoment shape most after) (moment_more shape most rows (row ∷ [])) spans all

    abbrev rounds_by : Bool → List Span
    rounds_by b = (if b then with_round course else course).rounds

    -- what has come, after a round more or none
    abbrev then_by : Bool → Course
    then_by b = record { segments = after_row shape most course.segments row; count = course.count + 1; rounds = rounds_by b }

    moments_by : (b : Bool) → All (IsMoment shape most rows) (rounds_by b)
    moments_by true = course_round.rounds
    moments_by false = is.rounds

    seen_by : (b : Bool) (number : ℕ) → number < length rows → (length is.front ≤ number) ⊎ IsSeen (rounds_by b) number
    seen_by true number low = inr (seen_now number low)
    seen_by false number low = is.seen number low

    kept : (b : Bool) → drops shape most course.segments row ≡ false → IsCourse shape most after (then_by b)
    kept b none = record {
      count = count_next;
      segments = segments_next;
      front = is.front;
      ends = ap (λ (rs : List RowValue). rs ++ row ∷ []) is.ends
          ∙ (append_assoc is.front held (row ∷ []) ∙ ap (λ (rs : List RowValue). is.front ++ rs) (sym (rows_kept shape most course.segments row none)));
      rounds = rounds_next (rounds_by b) (moments_by b);
      seen = λ number low. elim (Rattle.std.proofs.lemmas.Bool.cases_lt number (length rows)) [
        | inl old ↦ seen_by b number old
        | inr last ↦ inl (let all = long in let count = is.count in omega (arith, all, count, last))
      ];
    }

    abbrev first : List RowValue
    first = slice_index_or course.segments 0 []

    dropped : drops shape most course.segments row ≡ true → IsCourse shape most after (then_by true)
    dropped one = record {
      count = count_next;
      segments = segments_next;
      front = is.front ++ first;
      ends = ap (λ (rs : List RowValue). rs ++ row ∷ [])
          (is.ends ∙ (ap (λ (rs : List RowValue). is.front ++ rs) (rows_first course.segments)
          ∙ sym (append_assoc is.front first (rows_in_all (drop 1 course.segments)))))
          ∙ (append_assoc (is.front ++ first) (rows_in_all (drop 1 course.segments)) (row ∷ [])
          ∙ ap (λ (rs : List RowValue). (is.front ++ first) ++ rs) (sym (rows_dropped shape most course.segments row one)));
      rounds = rounds_next (with_round course).rounds course_round.rounds;
      seen = λ number low. elim (Rattle.std.proofs.lemmas.Bool.cases_lt number (length rows)) [
        | inl old ↦ inr (seen_now number old)
        | inr last ↦ inl
            (let all = length-append is.front first in let part = count_held in let every = long in let count = is.count in
            omega (arith, all, part, every, count, last))
      ];
    }
      where
        count_held : length held ≡ length first + length (rows_in_all (drop 1 course.segments))
        count_held = ap (λ (rs : List RowValue). length rs) (rows_first course.segments) ∙ length-append first (rows_in_all (drop 1 course.segments))

    or_so : (b c : Bool) → c ≡ true → b || c ≡ true
    or_so true c is = refl
    or_so false c is = is

    pub course_came : (is_forced : Bool) → IsCourse shape most after (came shape most is_forced course row)
    course_came is_forced = elim (cases_Bool (drops shape most course.segments row)) [
      | inl one ↦ subst (λ (b : Bool). IsCourse shape most after (then_by b)) (sym (or_so is_forced (drops shape most course.segments row) one)) (dropped one)
      | inr none ↦ kept (is_forced || drops shape most course.segments row) none
    ]

pub course_start : (shape : ShapeValue) (most : ℕ) → IsCourse shape most [] start
course_start shape most = record {
  count = refl;
  segments = refl;
  front = [];
  ends = refl;
  rounds = λ i d low. absurd (omega (arith, low));
  seen = λ number low. absurd (omega (arith, low));
}

-- more records come
pub course_rows : (shape : ShapeValue) (most : ℕ) (forced : ℕ → Bool) (rows more : List RowValue) (course : Course) → IsCourse shape most rows course
    → IsCourse shape most (rows ++ more) (fold (came_by shape most forced) course more)
course_rows shape most forced rows [] course is = subst (λ (rs : List RowValue). IsCourse shape most rs course) (sym (append-nil rows)) is
course_rows shape most forced rows (row ∷ more) course is =
    let next : Course = came_by shape most forced course row in
    subst (λ (rs : List RowValue). IsCourse shape most rs (fold (came_by shape most forced) next more)) (append_assoc rows (row ∷ []) more)
    (course_rows shape most forced (rows ++ row ∷ []) more next (course_came shape most rows course is row (forced course.count)))

pub some_rows : (row : RowValue) (rows : List RowValue) → nat_lt 0 (length (row ∷ rows)) ≡ true
some_rows row rows = grind (arith, nat_tests)

-- a read has ended some
pub course_read : (shape : ShapeValue) (most : ℕ) (forced : ℕ → Bool) (rows read : List RowValue) (course : Course) → IsCourse shape most rows course
    → IsCourse shape most (rows ++ read) (was_read shape most forced course read)
course_read shape most forced rows [] course is = subst (λ (rs : List RowValue). IsCourse shape most rs course) (sym (append-nil rows)) is
course_read shape most forced rows (row ∷ read) course is =
    let after : Course = fold (came_by shape most forced) course (row ∷ read) in
    subst (λ (b : Bool). IsCourse shape most (rows ++ row ∷ read) (if b then with_round after else course)) (sym (some_rows row read))
    (course_round shape most (rows ++ row ∷ read) after (course_rows shape most forced rows (row ∷ read) course is))

pub course_reads : (shape : ShapeValue) (most : ℕ) (forced : ℕ → Bool) (rows : List RowValue) (reads : List (List RowValue)) (course : Course)
    → IsCourse shape most rows course → IsCourse shape most (rows ++ rows_in_all reads) (fold (was_read shape most forced) course reads)
course_reads shape most forced rows [] course is = subst (λ (rs : List RowValue). IsCourse shape most rs course) (sym (append-nil rows)) is
course_reads shape most forced rows (read ∷ reads) course is =
    let next : Course = was_read shape most forced course read in
    subst (λ (rs : List RowValue). IsCourse shape most rs (fold (was_read shape most forced) next reads))
    (append_assoc rows read (rows_in_all reads))
    (course_reads shape most forced (rows ++ read) reads next (course_read shape most forced rows read course is))

pub course_all : (shape : ShapeValue) (most : ℕ) (forced : ℕ → Bool) (reads : List (List RowValue))
    → IsCourse shape most (rows_in_all reads) (fold (was_read shape most forced) start reads)
course_all shape most forced reads = course_reads shape most forced [] reads start (course_start shape most)

few_from : (shape : ShapeValue) (most : ℕ) (xs : List (List RowValue)) (rows : List RowValue) → 0 < most → length xs ≤ most
    → length (fold (after_row shape most) xs rows) ≤ most
few_from shape most xs [] some few = few
few_from shape most xs (row ∷ rows) some few = few_from shape most (after_row shape most xs row) rows some (few_after shape most xs row some few)

pub few_all : (shape : ShapeValue) (most : ℕ) (rows : List RowValue) → 0 < most → length (window shape most rows) ≤ most
few_all shape most rows some = few_from shape most [] rows some (omega arith)
