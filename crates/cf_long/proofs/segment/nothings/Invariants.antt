use Rattle.std.proofs.Common.{◌≡◌, [], take}
use Rattle.cf_shape.specs.Lanes.{ShapeValue}
use Rattle.cf_long.specs.Found.{found_in}
use Rattle.cf_long.proofs.segment.nothings.Given as goal

abbrev pub invariant-loop-ask : goal.invariant-loop-ask
invariant-loop-ask l = record { found : (shape : ShapeValue) → l.found.items ≡ found_in shape (take l.ask-index l.asks) [] }
