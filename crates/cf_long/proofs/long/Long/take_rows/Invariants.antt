use Rattle.std.proofs.Common.{All, length}
use Rattle.cf_row.specs.Row.{Fits}
use Rattle.cf_long.specs.Longs.{IsSomeLong, KeepsLong, MayFollow, TakesSome, shape_in}
use Rattle.cf_long.proofs.long.Long.take_rows.Given as goal

abbrev pub invariant-loop-self : goal.invariant-loop-self
invariant-loop-self g l = record {
  some : IsSomeLong l.self;
  fit : All (Fits (shape_in l.self).schema) l.rows.items;
  follow : MayFollow l.self l.rows.items;
  keeps : KeepsLong l.fn.self l.self;
  takes : TakesSome l.fn.self l.self l.fn.rows.items l.rows.items;
}

abbrev pub decreases-loop-self : goal.decreases-loop-self
decreases-loop-self g l = length l.rows.items
