-- Where all is kept that its terms name, a stream of what is left of its records goes as the whole one.
use Rattle.std.specs.Prelude.{◌≡◌, ℕ, Bool, List}
use Rattle.cf_row.specs.Row.{RowValue}
use Rattle.cf_project.specs.Projected.{row_kept}
use Rattle.cf_rounds.specs.Streams.{Stream, Terms, after_reads, forces, halted_text, through, watch_text}
use Rattle.cf_window.specs.Windows.{is_refused}
use Rattle.cf_follow.specs.LeftStreams.{KeepsTerms, reads_left, rows_left, stream_left, terms_left}

-- It stands at the same place, with the same rounds and the same text, after the same reads and behind the first records of one. The text
-- of its end is the same, and that of a fault.
pub record IsWatchedAlike (marks : List Bool) (terms : Terms) (reads : List (List RowValue)) : Type 0 where
  pub stands : after_reads (terms_left marks terms) (reads_left marks reads) ≡ stream_left marks (after_reads terms reads)
  pub within : (stream : Stream) (front : List RowValue)
      → through (terms_left marks terms) (stream_left marks stream) (rows_left marks front) ≡ stream_left marks (through terms stream front)
  pub ends : watch_text (terms_left marks terms) (reads_left marks reads) ≡ watch_text terms reads
  pub halts : (stream : Stream) (fault : List ℕ) → halted_text (terms_left marks terms) (stream_left marks stream) fault ≡ halted_text terms stream fault

-- The same record forces a round, and the same is refused.
pub record IsTakenAlike (marks : List Bool) (terms : Terms) (stream : Stream) (row : RowValue) : Type 0 where
  pub forced : forces (terms_left marks terms) (stream_left marks stream).now (row_kept marks row) ≡ forces terms stream.now row
  pub refused : is_refused (terms_left marks terms).shape ((stream_left marks stream).now).segments (row_kept marks row)
      ≡ is_refused terms.shape (stream.now).segments row

abbrev pub WatchingMeansTheSame : Type 0
WatchingMeansTheSame =
    (marks : List Bool) (terms : Terms) → KeepsTerms marks terms
    → ((reads : List (List RowValue)) → IsWatchedAlike marks terms reads)
    × ((stream : Stream) (row : RowValue) → IsTakenAlike marks terms stream row)
