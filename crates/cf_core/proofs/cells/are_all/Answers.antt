use Rattle.std.proofs.Common.{◌≡◌, true, sym, ◌∙◌}
use Rattle.cf_shape.specs.Lanes.{selected_by, key_of}
use Rattle.cf_shape.specs.Nodes.{levels_of}
use Rattle.cf_law.specs.Nibbles.{nibbles}
use Rattle.cf_law.proofs.Paths.{path_some}
use Rattle.cf_core.proofs.cells.are_all.Goals as goal

pub returns-then-not-is_in : goal.returns-then-not-is_in
returns-then-not-is_in c = (
  λ t. absurd (cc t),
  λ all. (let sel : selected_by c.args.shape.now c.loop-lane.lane c.args.row.now ≡ true = sym c.selects.ensures ∙ c.if-selects.true in
      let linked = all c.loop-lane.lane (nibbles (levels_of c.args.shape.now c.loop-lane.lane) (key_of c.args.shape.now c.loop-lane.lane c.args.row.now))
      (path_some c.args.shape.now c.args.row.now c.loop-lane.lane sel) in
      absurd (cc (c.is_in.ensures, linked, c.if-not-is_in.true))),
)
