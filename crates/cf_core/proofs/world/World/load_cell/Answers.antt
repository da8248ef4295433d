use Rattle.std.proofs.Common.{◌≡◌, ◌<◌, true, refl, arith, rules}
use Rattle.cf_law.specs.Events.WorldEvent.{acts}
use Rattle.cf_law.specs.Steps.Act.{load_cell}
use Rattle.cf_law.specs.Steps.{pass_with_cell}
use Rattle.cf_shape.specs.Places.{place_of}
use Rattle.cf_shape.specs.Places.WordName.{version}
use Rattle.cf_core.specs.Worlds.{HasCell}
use Rattle.cf_core.proofs.Making.{made, made_lawful, pass_there}
use Rattle.cf_core.proofs.Walks.{cell_there, cell_load_does, cell_load_only}
use Rattle.cf_core.proofs.world.World.load_cell.Goals as goal
use Rattle.cf_core.proofs.world.World.load_cell.Goals.{then-offset-capacity-via-then-offset-capacity, then-offset-capacity-via-else-offset-capacity+then-not-has_cell}

pub returns-then-offset-capacity : goal.returns-then-offset-capacity
returns-then-offset-capacity c = (
  refl,
  λ y does. (let o = cell_load_only c.args.self.now c.args.number c.args.offset c.args.lane c.args.index c.in-Some.pass.now y c.in-Some.ensures does in
      elim c.then-offset-capacity.branch [
        | then-offset-capacity-via-then-offset-capacity w ↦
            let capacity = rw c.shape-shape.ensures.shape at c.capacity.ensures.capacity in
            absurd (let l = o.0 in omega (arith, l, w.if-offset-capacity.true, capacity))
        | then-offset-capacity-via-else-offset-capacity+then-not-has_cell w ↦
            let has : HasCell c.shape-shape.result.now c.args.lane c.args.index = rw c.shape-shape.ensures.shape o.1 in
            absurd (let found : w.has_cell.result ≡ true = (w.has_cell.ensures).1 has in cc (found, w.if-not-has_cell.true))
      ]),
)

pub returns-then-not-may_read : goal.returns-then-not-may_read
returns-then-not-may_read c = (
  refl,
  λ y does. (let o = cell_load_only c.args.self.now c.args.number c.args.offset c.args.lane c.args.index c.in-Some.pass.now y c.in-Some.ensures does in
      absurd (let found : c.may_read.result ≡ true = (c.may_read.ensures).1 o.2 in cc (found, c.if-not-may_read.true))),
)

pub word-found-requires : goal.word-found-requires
word-found-requires c =
    let at : c.place_cell-place.result ≡ place_of c.args.self.now.shape (version c.args.offset c.args.lane c.args.index) =
    rw c.shape-shape.ensures.shape at c.place_cell-place.ensures in
    let has : HasCell c.args.self.now.shape c.args.lane c.args.index = rw c.shape-shape.ensures.shape at ((c.has_cell.ensures).0 c.if-not-has_cell.false) in
    let low : c.args.offset < c.args.self.now.shape.capacity =
    rw c.shape-shape.ensures.shape at (rw c.capacity.ensures.capacity at c.if-offset-capacity.false) in
    rw at (cell_there c.args.self.now c.args.offset c.args.lane c.args.index c.shape-shape.ensures.lawful low has)

pub put-requires-clause-pass : goal.put-requires-clause-pass
put-requires-clause-pass c = pass_there c.args.self.now c.args.number c.in-Some.pass.now c.in-Some.ensures

pub put-requires-clause-word : goal.put-requires-clause-word
put-requires-clause-word c =
    let at : c.place_cell-place.result ≡ place_of c.args.self.now.shape (version c.args.offset c.args.lane c.args.index) =
    rw c.shape-shape.ensures.shape at c.place_cell-place.ensures in
    let has : HasCell c.args.self.now.shape c.args.lane c.args.index = rw c.shape-shape.ensures.shape at ((c.has_cell.ensures).0 c.if-not-has_cell.false) in
    let low : c.args.offset < c.args.self.now.shape.capacity =
    rw c.shape-shape.ensures.shape at (rw c.capacity.ensures.capacity at c.if-offset-capacity.false) in
    rw at (cell_there c.args.self.now c.args.offset c.args.lane c.args.index c.shape-shape.ensures.lawful low has)

pub put-requires-clause-lawful : goal.put-requires-clause-lawful
put-requires-clause-lawful c =
    let at : c.place_cell-place.result ≡ place_of c.args.self.now.shape (version c.args.offset c.args.lane c.args.index) =
    rw c.shape-shape.ensures.shape at c.place_cell-place.ensures in
    let has : HasCell c.args.self.now.shape c.args.lane c.args.index = rw c.shape-shape.ensures.shape at ((c.has_cell.ensures).0 c.if-not-has_cell.false) in
    let low : c.args.offset < c.args.self.now.shape.capacity =
    rw c.shape-shape.ensures.shape at (rw c.capacity.ensures.capacity at c.if-offset-capacity.false) in
    let after : c.in_ok-after.after ≡ pass_with_cell c.place_cell-place.result c.args.offset c.args.lane c.args.index c.in-Some.pass.now c.word-found.result =
    search (rules, c.in_ok-after.ensures) in
    let does = cell_load_does c.args.self.now c.args.number c.place_cell-place.result c.args.offset c.args.lane c.args.index c.word-found.result
    c.in-Some.pass.now c.in_ok-after.after c.in-Some.ensures low has ((c.may_read.ensures).0 c.if-not-may_read.false) at c.word-found.ensures after in
    made_lawful c.args.self.now c.args.number (acts (load_cell c.args.offset c.args.lane c.args.index)) _ c.shape-shape.ensures.lawful does

pub returns : goal.returns
returns c =
    let at : c.place_cell-place.result ≡ place_of c.args.self.now.shape (version c.args.offset c.args.lane c.args.index) =
    rw c.shape-shape.ensures.shape at c.place_cell-place.ensures in
    let has : HasCell c.args.self.now.shape c.args.lane c.args.index = rw c.shape-shape.ensures.shape at ((c.has_cell.ensures).0 c.if-not-has_cell.false) in
    let low : c.args.offset < c.args.self.now.shape.capacity =
    rw c.shape-shape.ensures.shape at (rw c.capacity.ensures.capacity at c.if-offset-capacity.false) in
    let after : c.in_ok-after.after ≡ pass_with_cell c.place_cell-place.result c.args.offset c.args.lane c.args.index c.in-Some.pass.now c.word-found.result =
    search (rules, c.in_ok-after.ensures) in
    let does = cell_load_does c.args.self.now c.args.number c.place_cell-place.result c.args.offset c.args.lane c.args.index c.word-found.result
    c.in-Some.pass.now c.in_ok-after.after c.in-Some.ensures low has ((c.may_read.ensures).0 c.if-not-may_read.false) at c.word-found.ensures after in
    made c.args.self.now c.put.new.self c.args.number (acts (load_cell c.args.offset c.args.lane c.args.index)) _ _ c.put.ensures does
