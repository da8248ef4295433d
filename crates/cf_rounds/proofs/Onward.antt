-- How streams go on as records come and rounds are made.
use Rattle.std.proofs.Common.{◌≡◌, ◌∙◌, ◌+◌, List, [], ◌∷◌, ◌++◌, length, fold, Bool, true, false, ◌||◌, if◌then◌else◌, nat_lt, refl, sym, ap, subst, inl, inr, append-nil, append_assoc}
use Rattle.std.proofs.lemmas.Bool.{cases_Bool}
use Rattle.cf_row.specs.Row.{RowValue}
use Rattle.cf_window.specs.Courses.{IsCourse}
use Rattle.cf_window.specs.Rounds.{Course, Span, came}
use Rattle.cf_window.specs.Windows.{after_row, drops, rows_in_all}
use Rattle.cf_window.proofs.Courses.{course_came, course_round, course_start}
use Rattle.cf_rounds.specs.Held.{IsAt, RoundsValue}
use Rattle.cf_rounds.specs.Streams.{Standing, Stream, Terms, after_record, after_reads, after_round, begun, comes, course_of, forces, round_text, through, was_read, with_round}

-- the record comes, whatever was made before it
abbrev pub put : Terms → Stream → RowValue → Stream
put terms ready row = record { now = after_record terms ready.now row; rounds = ready.rounds; text = ready.text }

abbrev ready_by : Terms → Stream → Bool → Stream
ready_by terms stream b = if b then with_round terms false stream else stream

pub comes_forced : (terms : Terms) (stream : Stream) (row : RowValue) → forces terms stream.now row ≡ true
    → comes terms stream row ≡ put terms (with_round terms false stream) row
comes_forced terms stream row is = ap (λ (b : Bool). put terms (ready_by terms stream b) row) is

pub comes_unforced : (terms : Terms) (stream : Stream) (row : RowValue) → forces terms stream.now row ≡ false → comes terms stream row ≡ put terms stream row
comes_unforced terms stream row isnt = ap (λ (b : Bool). put terms (ready_by terms stream b) row) isnt

or_none : (a b : Bool) → a || b ≡ false → a ≡ false
or_none true b is = absurd (cc is)
or_none false b is = refl

-- Its window and its rounds go as those of a course.
module _ (terms : Terms) (rows : List RowValue) (stream : Stream) (is : IsCourse terms.shape terms.most rows (course_of stream)) where
  pub course_made : (is_last : Bool) → IsCourse terms.shape terms.most rows (course_of (with_round terms is_last stream))
  course_made is_last = course_round terms.shape terms.most rows (course_of stream) is

  abbrev by_drop : RowValue → Bool → Course
  by_drop row b = record {
    segments = after_row terms.shape terms.most (stream.now).segments row;
    count = (stream.now).count + 1;
    rounds = (if b then Rattle.cf_window.specs.Rounds.with_round (course_of stream) else course_of stream).rounds;
  }

  pub course_comes : (row : RowValue) → IsCourse terms.shape terms.most (rows ++ row ∷ []) (course_of (comes terms stream row))
  course_comes row = elim (cases_Bool (forces terms stream.now row)) [
    | inl forced ↦ subst (λ (s : Stream). IsCourse terms.shape terms.most (rows ++ row ∷ []) (course_of s)) (sym (comes_forced terms stream row forced))
        (course_came terms.shape terms.most rows (course_of stream) is row true)
    | inr free ↦ subst (λ (s : Stream). IsCourse terms.shape terms.most (rows ++ row ∷ []) (course_of s)) (sym (comes_unforced terms stream row free))
        (subst (λ (b : Bool). IsCourse terms.shape terms.most (rows ++ row ∷ []) (by_drop row b)) (or_none (drops terms.shape terms.most (stream.now).segments row) _ free)
        (course_came terms.shape terms.most rows (course_of stream) is row false))
  ]

pub course_through : (terms : Terms) (rows more : List RowValue) (stream : Stream) → IsCourse terms.shape terms.most rows (course_of stream)
    → IsCourse terms.shape terms.most (rows ++ more) (course_of (through terms stream more))
course_through terms rows [] stream is = subst (λ (rs : List RowValue). IsCourse terms.shape terms.most rs (course_of stream)) (sym (append-nil rows)) is
course_through terms rows (row ∷ more) stream is =
    subst (λ (rs : List RowValue). IsCourse terms.shape terms.most rs (course_of (through terms (comes terms stream row) more))) (append_assoc rows (row ∷ []) more)
    (course_through terms (rows ++ row ∷ []) more (comes terms stream row) (course_comes terms rows stream is row))

course_read : (terms : Terms) (rows read : List RowValue) (stream : Stream) → IsCourse terms.shape terms.most rows (course_of stream)
    → IsCourse terms.shape terms.most (rows ++ read) (course_of (was_read terms stream read))
course_read terms rows read stream is = by_some (nat_lt 0 (length read)) refl
  where
    nothing : (xs : List RowValue) → nat_lt 0 (length xs) ≡ false → xs ≡ []
    nothing [] none = refl
    nothing (x ∷ xs) none = absurd (cc (sym (Rattle.cf_window.proofs.Courses.some_rows x xs) ∙ none))

    by_some : (b : Bool) → nat_lt 0 (length read) ≡ b
        → IsCourse terms.shape terms.most (rows ++ read) (course_of (if b then with_round terms false (through terms stream read) else stream))
    by_some true some = course_made terms (rows ++ read) (through terms stream read) (course_through terms rows read stream is) false
    by_some false none =
        subst (λ (rs : List RowValue). IsCourse terms.shape terms.most rs (course_of stream))
        (sym (ap (λ (rs : List RowValue). rows ++ rs) (nothing read none) ∙ append-nil rows)) is

course_reads : (terms : Terms) (rows : List RowValue) (reads : List (List RowValue)) (stream : Stream) → IsCourse terms.shape terms.most rows (course_of stream)
    → IsCourse terms.shape terms.most (rows ++ rows_in_all reads) (course_of (fold (was_read terms) stream reads))
course_reads terms rows [] stream is = subst (λ (rs : List RowValue). IsCourse terms.shape terms.most rs (course_of stream)) (sym (append-nil rows)) is
course_reads terms rows (read ∷ reads) stream is =
    subst (λ (rs : List RowValue). IsCourse terms.shape terms.most rs (course_of (fold (was_read terms) (was_read terms stream read) reads)))
    (append_assoc rows read (rows_in_all reads))
    (course_reads terms (rows ++ read) reads (was_read terms stream read) (course_read terms rows read stream is))

pub course_all : (terms : Terms) (reads : List (List RowValue)) → IsCourse terms.shape terms.most (rows_in_all reads) (course_of (after_reads terms reads))
course_all terms reads = course_reads terms [] reads (begun terms) (course_start terms.shape terms.most)

-- Rounds are there with the stream.
module _ (old : RoundsValue) (rows : List RowValue) (stream : Stream) (is : IsAt old rows stream) where
  pub at_round : (is_last : Bool) → IsAt (record old { now = after_round old.terms is_last old.now }) rows (with_round old.terms is_last stream)
  at_round is_last = record {
    come = course_made old.terms rows stream is.come is_last;
    stands = ap (after_round old.terms is_last) is.stands;
  }

  pub round_says : (is_last : Bool) → (with_round old.terms is_last stream).text ≡ stream.text ++ round_text old.terms is_last old.now
  round_says is_last = ap (λ (now : Standing). stream.text ++ round_text old.terms is_last now) (sym is.stands)

  module _ (row : RowValue) where
    pub at_free : forces old.terms old.now row ≡ false
        → IsAt (record old { now = after_record old.terms old.now row; is_spent = false }) (rows ++ row ∷ []) (comes old.terms stream row)
    at_free free = record {
      come = course_comes old.terms rows stream is.come row;
      stands = ap (λ (now : Standing). after_record old.terms now row) is.stands
          ∙ sym (ap (λ (s : Stream). s.now) (comes_unforced old.terms stream row (ap (λ (now : Standing). forces old.terms now row) (sym is.stands) ∙ free)));
    }

    pub free_says : forces old.terms old.now row ≡ false → (comes old.terms stream row).text ≡ stream.text
    free_says free =
        ap (λ (s : Stream). s.text) (comes_unforced old.terms stream row (ap (λ (now : Standing). forces old.terms now row) (sym is.stands) ∙ free))

    pub at_forced : forces old.terms old.now row ≡ true
        → IsAt (record old { now = after_record old.terms (after_round old.terms false old.now) row; is_spent = false }) (rows ++ row ∷ []) (comes old.terms stream row)
    at_forced forced = record {
      come = course_comes old.terms rows stream is.come row;
      stands = ap (λ (now : Standing). after_record old.terms (after_round old.terms false now) row) is.stands
          ∙ sym (ap (λ (s : Stream). s.now) (comes_forced old.terms stream row (ap (λ (now : Standing). forces old.terms now row) (sym is.stands) ∙ forced)));
    }

    pub forced_says : forces old.terms old.now row ≡ true → (comes old.terms stream row).text ≡ (with_round old.terms false stream).text
    forced_says forced =
        ap (λ (s : Stream). s.text) (comes_forced old.terms stream row (ap (λ (now : Standing). forces old.terms now row) (sym is.stands) ∙ forced))

-- The window's segments go with the records, whatever rounds are made.
ready_segments : (terms : Terms) (stream : Stream) (b : Bool) → ((ready_by terms stream b).now).segments ≡ (stream.now).segments
ready_segments terms stream true = refl
ready_segments terms stream false = refl

pub segments_through : (terms : Terms) (stream : Stream) (rows : List RowValue)
    → ((through terms stream rows).now).segments ≡ fold (after_row terms.shape terms.most) (stream.now).segments rows
segments_through terms stream [] = refl
segments_through terms stream (row ∷ rows) =
    segments_through terms (comes terms stream row) rows
    ∙ ap (λ (ss : List (List RowValue)). fold (after_row terms.shape terms.most) (after_row terms.shape terms.most ss row) rows)
    (ready_segments terms stream (forces terms stream.now row))
