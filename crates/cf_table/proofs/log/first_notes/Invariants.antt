use Rattle.std.proofs.Common.{◌≡◌, ◌≤◌, map}
use Rattle.std.specs.Prelude.{vec_len, vec_capacity}
use Rattle.cf_law.specs.Events.{tabulated, no_book}
use Rattle.cf_table.specs.Moves.{note_of}
use Rattle.cf_table.proofs.log.first_notes.Given as goal

abbrev pub invariant-loop-writer : goal.invariant-loop-writer
invariant-loop-writer l =
    record { items : l.notes.items ≡ map note_of (tabulated no_book l.writer); long : vec_len l.notes ≡ l.writer; room : 16 ≤ vec_capacity l.notes }
