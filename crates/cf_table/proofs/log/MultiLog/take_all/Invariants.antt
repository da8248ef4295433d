use Rattle.std.proofs.Common.{◌≡◌, ◌+◌, length}
use Rattle.std.specs.Vec.Iter.{into_iter_items, into_iter_len}
use Rattle.cf_table.specs.Values.{PassValue, IsOf}
use Rattle.cf_table.specs.Moves.{Gathers}
use Rattle.cf_table.proofs.Homing.{AreHomeward}
use Rattle.cf_table.proofs.log.MultiLog.take_all.Given as goal

abbrev pub invariant-loop-pass : goal.invariant-loop-pass
invariant-loop-pass l = record {
  of : IsOf l.root l.fn.self;
  homeward : AreHomeward l.fn.self (into_iter_items l.pass-iterator);
  few : length (l.root.view).books + length (into_iter_items l.pass-iterator) ≡ length l.fn.passes.items;
  len : into_iter_len l.pass-iterator ≡ length (into_iter_items l.pass-iterator);
  more : (n : PassValue) → Gathers (l.fn.self).shape l.root (into_iter_items l.pass-iterator) n → Gathers (l.fn.self).shape l.initial.root l.fn.passes.items n;
}
