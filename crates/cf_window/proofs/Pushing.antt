-- A row is pushed where the oldest segment was dropped for it.
use Rattle.std.proofs.Common.{◌+◌, [], length, drop, slice_index_or}
use Rattle.cf_window.specs.Held.{WindowValue}

abbrev pub dropped : WindowValue → WindowValue
dropped old = record old { from = old.from + length (slice_index_or old.segments 0 []); segments = drop 1 old.segments }
