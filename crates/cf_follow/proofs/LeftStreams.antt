-- A stream of what is left of records goes as that of the whole ones.
use Rattle.std.proofs.Common.{◌≡◌, ◌∙◌, ℕ, ◌+◌, ◌-◌, Bool, true, false, ◌||◌, ◌&&◌, nat_lt, cond, List, [], ◌∷◌, ◌++◌, length, fold, refl, ap, ap₂}
use Rattle.std.proofs.lemmas.List.{length-map}
use Rattle.cf_row.specs.Row.{RowValue}
use Rattle.cf_watch.specs.declared.watched.Watched.{Watched}
use Rattle.cf_rounds.specs.Lines.{end_text}
use Rattle.cf_rounds.specs.Streams.{Standing, Stream, Terms, after_record, after_reads, after_round, begun, comes, forces, halted_text, ready_for, through, view_of, was_read, watch_text, with_round}
use Rattle.cf_rounds.proofs.Onward.{put}
use Rattle.cf_project.specs.Projected.{row_kept}
use Rattle.cf_project.proofs.Meant.{time_same}
use Rattle.cf_follow.specs.LeftLaws.{IsTakenAlike, IsWatchedAlike}
use Rattle.cf_follow.specs.LeftStreams.{KeepsTerms, reads_left, rows_left, standing_left, stream_left, terms_left}
use Rattle.cf_follow.proofs.LeftLanes.{forgets_same, keeps_same, none_same}
use Rattle.cf_follow.proofs.LeftLines.{ending_same, round_same}
use Rattle.cf_follow.proofs.LeftWindows.{after_same, drops_same, many_same, refused_same, small_same}

abbrev standing_with : Standing → List (List RowValue) → List Watched → ℕ → Standing
standing_with now segments kept last =
    record { segments = segments; count = now.count + 1; kept = kept; asked = now.asked; beaten = now.beaten; last = last }

abbrev begun_of : List Watched → Stream
begun_of kept = record { now = record { segments = []; count = 0; kept = kept; asked = 0; beaten = 0; last = 0 }; rounds = []; text = [] }

abbrev round_with : Stream → Standing → ℕ → List ℕ → Stream
round_with stream now many text = record {
  now = now;
  rounds = stream.rounds ++ record { from = (stream.now).count - many; to = (stream.now).count } ∷ [];
  text = stream.text ++ text;
}

abbrev put_with : Stream → Standing → Stream
put_with ready now = record { now = now; rounds = ready.rounds; text = ready.text }

stream_cond : (marks : List Bool) (b : Bool) (s t : Stream) → cond b (stream_left marks s) (stream_left marks t) ≡ stream_left marks (cond b s t)
stream_cond marks true s t = refl
stream_cond marks false s t = refl

module _ (marks : List Bool) (terms : Terms) (keeps : KeepsTerms marks terms) where
  abbrev lean : Terms
  lean = terms_left marks terms

  pub begun_same : begun lean ≡ stream_left marks (begun terms)
  begun_same = ap begun_of (none_same marks terms.shape)

  pub forces_same : (now : Standing) (row : RowValue) → forces lean (standing_left marks now) (row_kept marks row) ≡ forces terms now row
  forces_same now row =
      ap₂ (λ (a b : Bool). a || b) (drops_same marks terms.shape keeps.shape keeps.lawful terms.most now.segments row)
      (ap₂ (λ (a b : Bool). a && b) (small_same marks terms.shape keeps.shape keeps.lawful row)
      (forgets_same marks terms.shape keeps.shape keeps.lawful row (terms.setup).triggers now.kept))

  pub record_same : (now : Standing) (row : RowValue)
      → after_record lean (standing_left marks now) (row_kept marks row) ≡ standing_left marks (after_record terms now row)
  record_same now row =
      ap₂ (λ (segments : List (List RowValue)) (kept : List Watched). standing_with now segments kept
      (Rattle.cf_row.specs.Times.time_of (lean.shape).schema (row_kept marks row)))
      (after_same marks terms.shape keeps.shape keeps.lawful terms.most now.segments row)
      (keeps_same marks terms.shape keeps.shape keeps.lawful row now.kept)
      ∙ ap (λ (last : ℕ). standing_with now (reads_left marks (after_record terms now row).segments) (after_record terms now row).kept last)
      (time_same marks terms.shape keeps.shape keeps.lawful row)

  pub made_same : (is_last : Bool) (now : Standing) → after_round lean is_last (standing_left marks now) ≡ standing_left marks (after_round terms is_last now)
  made_same is_last now = refl

  pub round_stream : (is_last : Bool) (stream : Stream)
      → with_round lean is_last (stream_left marks stream) ≡ stream_left marks (with_round terms is_last stream)
  round_stream is_last stream =
      ap₂ (λ (many : ℕ) (text : List ℕ). round_with stream (standing_left marks (after_round terms is_last stream.now)) many text)
      (many_same marks (stream.now).segments) (round_same marks terms keeps is_last stream.now)

  ready_same : (stream : Stream) (row : RowValue)
      → ready_for lean (stream_left marks stream) (row_kept marks row) ≡ stream_left marks (ready_for terms stream row)
  ready_same stream row =
      ap₂ (λ (b : Bool) (s : Stream). cond b s (stream_left marks stream)) (forces_same stream.now row) (round_stream false stream)
      ∙ stream_cond marks (forces terms stream.now row) (with_round terms false stream) stream

  pub comes_same : (stream : Stream) (row : RowValue) → comes lean (stream_left marks stream) (row_kept marks row) ≡ stream_left marks (comes terms stream row)
  comes_same stream row =
      ap (λ (ready : Stream). put lean ready (row_kept marks row)) (ready_same stream row)
      ∙ ap (put_with (ready_for terms stream row)) (record_same (ready_for terms stream row).now row)

  pub through_same : (stream : Stream) (rows : List RowValue)
      → through lean (stream_left marks stream) (rows_left marks rows) ≡ stream_left marks (through terms stream rows)
  through_same stream [] = refl
  through_same stream (row ∷ rows) =
      ap (λ (s : Stream). through lean s (rows_left marks rows)) (comes_same stream row) ∙ through_same (comes terms stream row) rows

  read_same : (stream : Stream) (rows : List RowValue)
      → was_read lean (stream_left marks stream) (rows_left marks rows) ≡ stream_left marks (was_read terms stream rows)
  read_same stream rows =
      ap₂ (λ (n : ℕ) (s : Stream). cond (nat_lt 0 n) s (stream_left marks stream)) (length-map rows (row_kept marks))
      (ap (with_round lean false) (through_same stream rows) ∙ round_stream false (through terms stream rows))
      ∙ stream_cond marks (nat_lt 0 (length rows)) (with_round terms false (through terms stream rows)) stream

  reads_from : (stream : Stream) (reads : List (List RowValue))
      → fold (was_read lean) (stream_left marks stream) (reads_left marks reads) ≡ stream_left marks (fold (was_read terms) stream reads)
  reads_from stream [] = refl
  reads_from stream (rows ∷ reads) =
      ap (λ (s : Stream). fold (was_read lean) s (reads_left marks reads)) (read_same stream rows) ∙ reads_from (was_read terms stream rows) reads

  pub reads_same : (reads : List (List RowValue)) → after_reads lean (reads_left marks reads) ≡ stream_left marks (after_reads terms reads)
  reads_same reads = ap (λ (s : Stream). fold (was_read lean) s (reads_left marks reads)) begun_same ∙ reads_from (begun terms) reads

  pub last_says : (stream : Stream) → stream.text ++ end_text lean.shape lean.setup (view_of (standing_left marks stream.now))
      ≡ stream.text ++ end_text terms.shape terms.setup (view_of stream.now)
  last_says stream = ap (λ (xs : List ℕ). stream.text ++ xs) (ending_same marks terms keeps stream.now)

  ends_same : (reads : List (List RowValue)) → watch_text lean (reads_left marks reads) ≡ watch_text terms reads
  ends_same reads =
      ap (λ (s : Stream). s.text ++ end_text lean.shape lean.setup (view_of s.now))
      (ap (with_round lean true) (reads_same reads) ∙ round_stream true (after_reads terms reads))
      ∙ last_says (with_round terms true (after_reads terms reads))

  pub halts_same : (stream : Stream) (fault : List ℕ) → halted_text lean (stream_left marks stream) fault ≡ halted_text terms stream fault
  halts_same stream fault = ap (λ (s : Stream). s.text ++ fault) (round_stream true stream)

  pub watched_alike : (reads : List (List RowValue)) → IsWatchedAlike marks terms reads
  watched_alike reads = record { stands = reads_same reads; within = through_same; ends = ends_same reads; halts = halts_same }

  pub taken_alike : (stream : Stream) (row : RowValue) → IsTakenAlike marks terms stream row
  taken_alike stream row = record {
    forced = forces_same stream.now row;
    refused = refused_same marks terms.shape keeps.shape keeps.lawful (stream.now).segments row;
  }
