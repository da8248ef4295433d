use Rattle.std.proofs.Common.{◌≡◌, ◌∷◌, ◌<◌, true, refl, arith, rules}
use Rattle.cf_law.specs.Events.WorldEvent.{acts}
use Rattle.cf_law.specs.Steps.Act.{load_head}
use Rattle.cf_law.specs.Steps.{pass_with_head}
use Rattle.cf_shape.specs.Places.{place_of}
use Rattle.cf_shape.specs.Places.WordName.{head}
use Rattle.cf_law.specs.Words.{spot}
use Rattle.cf_core.proofs.Making.{made, made_lawful, pass_there}
use Rattle.cf_core.proofs.Walks.{known_is, head_there, head_does, head_only, head_none}
use Rattle.cf_core.proofs.world.World.load_head.Goals as goal
use Rattle.cf_core.proofs.world.World.load_head.Goals.{then-nibble-ge16-via-then-nibble-ge16, then-nibble-ge16-via-else-nibble-ge16+then-writer-writers, then-nibble-ge16-via-else-nibble-ge16+else-writer-writers+then-not-is_leaf}

pub returns-in_default-spot_of : goal.returns-in_default-spot_of
returns-in_default-spot_of c = (
  refl,
  λ y does. head_none c.args.self.now c.args.number c.args.node c.args.nibble c.args.writer c.in-Some.pass.now y c.in-Some.ensures
      c.in_default-spot_of.ensures does,
)

pub is_leaf-requires : goal.is_leaf-requires
is_leaf-requires c =
    (known_is c.args.self.now c.args.number c.args.node c.in-Some.pass.now c.in-Some-spot_of.above.now c.shape-shape.ensures.lawful c.in-Some.ensures
    c.in-Some-spot_of.ensures).1

pub returns-then-nibble-ge16 : goal.returns-then-nibble-ge16
returns-then-nibble-ge16 c = (
  refl,
  λ y does. (let o = head_only c.args.self.now c.args.number c.args.node c.args.nibble c.args.writer c.in-Some.pass.now c.in-Some-spot_of.above.now y
      c.shape-shape.ensures.lawful c.in-Some.ensures c.in-Some-spot_of.ensures does in
      elim c.then-nibble-ge16.branch [
        | then-nibble-ge16-via-then-nibble-ge16 w ↦ absurd (let l = o.1 in omega (arith, l, w.if-nibble-ge16.true))
        | then-nibble-ge16-via-else-nibble-ge16+then-writer-writers w ↦
            let writers = rw c.shape-shape.ensures.shape at w.writers.ensures.writers in
            absurd (let l = o.2 in omega (arith, l, w.if-writer-writers.true, writers))
        | then-nibble-ge16-via-else-nibble-ge16+else-writer-writers+then-not-is_leaf w ↦ absurd
            (let leaf : w.is_leaf.result ≡ true = (w.is_leaf.ensures).1 o.0 in cc (leaf, w.if-not-is_leaf.true))
      ]),
)

pub place_head-place-requires-clause-node : goal.place_head-place-requires-clause-node
place_head-place-requires-clause-node c =
    rw c.shape-shape.ensures.shape
    (known_is c.args.self.now c.args.number c.args.node c.in-Some.pass.now c.in-Some-spot_of.above.now c.shape-shape.ensures.lawful c.in-Some.ensures
    c.in-Some-spot_of.ensures).0

pub word-found-requires : goal.word-found-requires
word-found-requires c =
    let at : c.place_head-place.result ≡ place_of c.args.self.now.shape (head c.args.node c.args.nibble c.args.writer) =
    rw c.shape-shape.ensures.shape at c.place_head-place.ensures in
    let low : c.args.writer < c.args.self.now.shape.writers =
    (let writers = rw c.shape-shape.ensures.shape at c.writers.ensures.writers in omega (arith, writers, c.if-writer-writers.false)) in
    rw at (head_there c.args.self.now c.args.number c.args.node c.args.nibble c.args.writer c.in-Some.pass.now c.in-Some-spot_of.above.now
    c.shape-shape.ensures.lawful c.in-Some.ensures c.in-Some-spot_of.ensures c.if-nibble-ge16.false low)

pub put-requires-clause-pass : goal.put-requires-clause-pass
put-requires-clause-pass c = pass_there c.args.self.now c.args.number c.in-Some.pass.now c.in-Some.ensures

pub put-requires-clause-word : goal.put-requires-clause-word
put-requires-clause-word c =
    let at : c.place_head-place.result ≡ place_of c.args.self.now.shape (head c.args.node c.args.nibble c.args.writer) =
    rw c.shape-shape.ensures.shape at c.place_head-place.ensures in
    let low : c.args.writer < c.args.self.now.shape.writers =
    (let writers = rw c.shape-shape.ensures.shape at c.writers.ensures.writers in omega (arith, writers, c.if-writer-writers.false)) in
    rw at (head_there c.args.self.now c.args.number c.args.node c.args.nibble c.args.writer c.in-Some.pass.now c.in-Some-spot_of.above.now
    c.shape-shape.ensures.lawful c.in-Some.ensures c.in-Some-spot_of.ensures c.if-nibble-ge16.false low)

pub put-requires-clause-lawful : goal.put-requires-clause-lawful
put-requires-clause-lawful c =
    let at : c.place_head-place.result ≡ place_of c.args.self.now.shape (head c.args.node c.args.nibble c.args.writer) =
    rw c.shape-shape.ensures.shape at c.place_head-place.ensures in
    let low : c.args.writer < c.args.self.now.shape.writers =
    (let writers = rw c.shape-shape.ensures.shape at c.writers.ensures.writers in omega (arith, writers, c.if-writer-writers.false)) in
    let leaf : c.in_ok-leaf.leaf ≡ spot c.in-Some-spot_of.above.now.lane (c.args.nibble ∷ c.in-Some-spot_of.above.now.path) =
    search (rules, c.in_ok-leaf.ensures) in
    let after : c.in_ok-after.after ≡ pass_with_head c.place_head-place.result c.args.writer c.in_ok-leaf.leaf c.in-Some.pass.now c.word-found.result =
    search (rules, c.in_ok-after.ensures) in
    let does = head_does c.args.self.now c.args.number c.place_head-place.result c.args.node c.args.nibble c.args.writer c.word-found.result c.in-Some.pass.now
    c.in_ok-after.after c.in-Some-spot_of.above.now c.in_ok-leaf.leaf c.in-Some.ensures c.in-Some-spot_of.ensures
    ((c.is_leaf.ensures).0 c.if-not-is_leaf.false) c.if-nibble-ge16.false low at c.word-found.ensures leaf after in
    made_lawful c.args.self.now c.args.number (acts (load_head c.args.node c.args.nibble c.args.writer)) _ c.shape-shape.ensures.lawful does

pub returns : goal.returns
returns c =
    let at : c.place_head-place.result ≡ place_of c.args.self.now.shape (head c.args.node c.args.nibble c.args.writer) =
    rw c.shape-shape.ensures.shape at c.place_head-place.ensures in
    let low : c.args.writer < c.args.self.now.shape.writers =
    (let writers = rw c.shape-shape.ensures.shape at c.writers.ensures.writers in omega (arith, writers, c.if-writer-writers.false)) in
    let leaf : c.in_ok-leaf.leaf ≡ spot c.in-Some-spot_of.above.now.lane (c.args.nibble ∷ c.in-Some-spot_of.above.now.path) =
    search (rules, c.in_ok-leaf.ensures) in
    let after : c.in_ok-after.after ≡ pass_with_head c.place_head-place.result c.args.writer c.in_ok-leaf.leaf c.in-Some.pass.now c.word-found.result =
    search (rules, c.in_ok-after.ensures) in
    let does = head_does c.args.self.now c.args.number c.place_head-place.result c.args.node c.args.nibble c.args.writer c.word-found.result c.in-Some.pass.now
    c.in_ok-after.after c.in-Some-spot_of.above.now c.in_ok-leaf.leaf c.in-Some.ensures c.in-Some-spot_of.ensures
    ((c.is_leaf.ensures).0 c.if-not-is_leaf.false) c.if-nibble-ge16.false low at c.word-found.ensures leaf after in
    made c.args.self.now c.put.new.self c.args.number (acts (load_head c.args.node c.args.nibble c.args.writer)) _ _ c.put.ensures does
