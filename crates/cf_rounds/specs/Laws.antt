-- Laws of rounds.
use Rattle.std.specs.Prelude.{◌≡◌, ℕ, ◌<◌, List, length, All, true}
use Rattle.cf_row.specs.Row.{RowValue}
use Rattle.cf_window.specs.Laws.{IsMoment, IsSeen}
use Rattle.cf_window.specs.Windows.{rows_in_all, window}
use Rattle.cf_rounds.specs.Streams.{Terms, after_reads, with_round}

-- Each round is on the window at a moment of the stream, those that records force too.
abbrev pub RoundsAreOnWindows : Type 0
RoundsAreOnWindows =
    (terms : Terms) (reads : List (List RowValue))
    → All (IsMoment terms.shape terms.most (rows_in_all reads)) (with_round terms true (after_reads terms reads)).rounds

-- No record goes unseen: each is in the window of a round, however reads cut the stream.
abbrev pub NoneGoesUnseen : Type 0
NoneGoesUnseen =
    (terms : Terms) (reads : List (List RowValue)) (number : ℕ) → number < length (rows_in_all reads)
    → IsSeen (with_round terms true (after_reads terms reads)).rounds number

-- The window is that of the records, and all of them are counted.
abbrev pub WindowsAreOfRecords : Type 0
WindowsAreOfRecords =
    (terms : Terms) (reads : List (List RowValue))
    → (((after_reads terms reads).now).segments ≡ window terms.shape terms.most (rows_in_all reads))
    × (((after_reads terms reads).now).count ≡ length (rows_in_all reads))
