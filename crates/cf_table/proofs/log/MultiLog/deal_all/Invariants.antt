use Rattle.std.proofs.Common.{◌≡◌, ◌≤◌, ℕ, length, Some, slice_get}
use Rattle.std.specs.Prelude.{vec_len, vec_capacity}
use Rattle.cf_table.specs.Values.{PassValue}
use Rattle.cf_table.specs.Moves.{IsDealt}
use Rattle.cf_table.proofs.Leaving.{left_with}
use Rattle.cf_table.proofs.log.MultiLog.deal_all.Given as goal

abbrev pub invariant-loop-note : goal.invariant-loop-note
invariant-loop-note l = record {
  token : l.token ≡ left_with l.fn.token l.note-index;
  count : length l.passes.items ≡ l.note-index;
  len : vec_len l.passes ≡ l.note-index;
  room : length l.fn.notes ≤ vec_capacity l.passes;
  each : (k : ℕ) (h : PassValue) → slice_get l.passes.items k ≡ Some h → IsDealt l.fn.self l.fn.token k h;
}
