-- How a stream is watched, how far it has come, and what its rounds have said.
use Rattle.std.specs.Prelude.{ℕ, ◌+◌, ◌-◌, Bool, true, false, ◌&&◌, ◌||◌, nat_lt, List, [], ◌∷◌, ◌++◌, length, fold, if◌then◌else◌}
use Rattle.std.specs.List.{flat_map}
use Rattle.cf_row.specs.Row.{RowValue}
use Rattle.cf_row.specs.Times.{time_of}
use Rattle.cf_setup.specs.Setups.{SetupValue}
use Rattle.cf_shape.specs.Lanes.{ShapeValue}
use Rattle.cf_watch.specs.declared.watched.Watched.{Watched}
use Rattle.cf_window.specs.Rounds.{Course, Span}
use Rattle.cf_window.specs.Windows.{after_row, drops, is_small, rows_in_all}
use Rattle.cf_rounds.specs.Lanes.{forgets, keeps, none_kept, told_all}
use Rattle.cf_rounds.specs.Lines.{RoundView, beat_text, end_text, is_beat, is_due, live_line, news_lines}

-- how a stream is watched: the setup; the shape of each segment of the window, and how many there may be; and how many records come
-- between two askings of the live questions, and between two beats
pub record Terms : Type 0 where
  pub setup : SetupValue
  pub shape : ShapeValue
  pub most : ℕ
  pub every : ℕ
  pub beat : ℕ

-- where a stream stands: the window's segments; how many records came; what is kept of each lane; how many had come when the live
-- questions were asked last, and at the last beat; and the time of the last record
pub record Standing : Type 0 where
  pub segments : List (List RowValue)
  pub count : ℕ
  pub kept : List Watched
  pub asked : ℕ
  pub beaten : ℕ
  pub last : ℕ

-- what a round sees of it
abbrev pub view_of : Standing → RoundView
view_of now = record {
  from = now.count - length (rows_in_all now.segments);
  to = now.count;
  rows = rows_in_all now.segments;
  kept = now.kept;
  last = now.last;
}

-- the same by numbers
abbrev pub span_of : Standing → Span
span_of now = record { from = (view_of now).from; to = now.count }

-- where it stands when a round has told what was not told
abbrev pub told : Terms → Standing → Standing
told terms now = record now { kept = told_all (terms.setup).triggers now.kept }

-- what a round writes, which may be the last of all: the crowded buckets and the marks that are not told, the live questions if they are
-- due, and a beat if it is
abbrev pub round_text : Terms → Bool → Standing → List ℕ
round_text terms is_last now =
    let view = view_of (told terms now) in
    news_lines terms.setup now.count now.kept
    ++ (if is_due terms.every now.asked now.count then flat_map (live_line terms.shape terms.setup view) (terms.setup).lives else [])
    ++ (if is_beat is_last terms.beat now.beaten now.count then beat_text terms.shape terms.setup view else [])

-- where it stands after a round
abbrev pub after_round : Terms → Bool → Standing → Standing
after_round terms is_last now = record (told terms now) {
  asked = if is_due terms.every now.asked now.count then now.count else now.asked;
  beaten = if is_beat is_last terms.beat now.beaten now.count then now.count else now.beaten;
}

-- where it stands after one more record
abbrev pub after_record : Terms → Standing → RowValue → Standing
after_record terms now row = record {
  segments = after_row terms.shape terms.most now.segments row;
  count = now.count + 1;
  kept = keeps terms.shape now.kept row;
  asked = now.asked;
  beaten = now.beaten;
  last = time_of (terms.shape).schema row;
}

-- A round comes before the record: a segment has to be dropped for it, or a bucket is forgotten with it that has a mark or is crowded, not
-- yet told. (A record that alone needs more nodes than a segment has is never taken, so none is forgotten with it.)
abbrev pub forces : Terms → Standing → RowValue → Bool
forces terms now row =
    drops terms.shape terms.most now.segments row || (is_small terms.shape row && forgets terms.shape (terms.setup).triggers now.kept row)

-- a stream: where it stands, on which records its rounds were made, and their text
pub record Stream : Type 0 where
  pub now : Standing
  pub rounds : List Span
  pub text : List ℕ

-- before the first record
abbrev pub begun : Terms → Stream
begun terms = record {
  now = record { segments = []; count = 0; kept = none_kept terms.shape; asked = 0; beaten = 0; last = 0 };
  rounds = [];
  text = [];
}

-- its window and its rounds
abbrev pub course_of : Stream → Course
course_of stream = record { segments = (stream.now).segments; count = (stream.now).count; rounds = stream.rounds }

-- a round is made, which may be the last of all
abbrev pub with_round : Terms → Bool → Stream → Stream
with_round terms is_last stream = record {
  now = after_round terms is_last stream.now;
  rounds = stream.rounds ++ span_of stream.now ∷ [];
  text = stream.text ++ round_text terms is_last stream.now;
}

-- if the record forces a round, that is made
abbrev pub ready_for : Terms → Stream → RowValue → Stream
ready_for terms stream row = if forces terms stream.now row then with_round terms false stream else stream

-- a record comes, behind the round that it forces
abbrev pub comes : Terms → Stream → RowValue → Stream
comes terms stream row =
    let ready = ready_for terms stream row in record { now = after_record terms ready.now row; rounds = ready.rounds; text = ready.text }

-- more records come
abbrev pub through : Terms → Stream → List RowValue → Stream
through terms stream rows = fold (comes terms) stream rows

-- a read that ended these records: if there is one, a round comes after the last
abbrev pub was_read : Terms → Stream → List RowValue → Stream
was_read terms stream rows = if nat_lt 0 (length rows) then with_round terms false (through terms stream rows) else stream

-- the stream after these reads, each of which ended such records
abbrev pub after_reads : Terms → List (List RowValue) → Stream
after_reads terms reads = fold (was_read terms) (begun terms) reads

-- the text of a stream that ends without a fault
abbrev pub watch_text : Terms → List (List RowValue) → List ℕ
watch_text terms reads =
    let last = with_round terms true (after_reads terms reads) in last.text ++ end_text terms.shape terms.setup (view_of last.now)

-- the text of one that ends with a fault, whose line this is, in a read that ended no record or behind records of one
abbrev pub halted_text : Terms → Stream → List ℕ → List ℕ
halted_text terms stream fault = (with_round terms true stream).text ++ fault
