use Rattle.std.proofs.Common.{◌-◌, ◌/◌, refl, slice_get, ap, sym, subst, ◌∙◌, ℕ, arith, rules}
use Rattle.cf_shape.specs.Lanes.{ShapeValue, key_of}
use Rattle.cf_shape.specs.Nodes.{levels_of}
use Rattle.cf_law.specs.Words.{spot}
use Rattle.cf_law.specs.Nibbles.{nibbles}
use Rattle.cf_law.specs.Passes.{Pass}
use Rattle.cf_append.specs.declared.paths.Prefix.{Prefix}
use Rattle.cf_append.specs.declared.leaves.Leaves.{Leaves}
use Rattle.cf_append.specs.Paths.{IsAlong, IsOnPath, IsNodeOf, IsFiled, Remembers, KeepsLeaf, spot_of}
use Rattle.cf_append.proofs.Walking.{strides_none, used_by, used_same, made_none}
use Rattle.cf_append.proofs.Pathing.{whole_at, on_path, remembers_still, remembers_more, kept_by, kept_now, kept_other, not_kept}
use Rattle.cf_append.proofs.paths.make_path.Goals as goal

pub find-requires : goal.find-requires
find-requires g c =
    let low = c.requires.lane in
    let few = c.shape-shape.ensures.lawful.few in
    let long = c.requires.near.long in
    omega (arith, low, few, long)

pub keep-requires : goal.keep-requires
keep-requires g c =
    let low = c.requires.lane in
    let few = c.shape-shape.ensures.lawful.few in
    let long = c.requires.near.long in
    omega (arith, low, few, long)

-- by the kept leaf
pub returns-in-Some-clause-made : goal.returns-in-Some-clause-made
returns-in-Some-clause-made g c =
    record {
      of = c.requires.ready.of;
      rest = c.requires.ready.rest;
      strides = strides_none c.args.pass.now;
      used = used_same _ c.args.pass.now c.args.pass.now c.requires.ready.rest refl;
      answer = record {
        selects = c.requires.selects;
        key = c.key-key.ensures ∙ ap (λ (h : ShapeValue). key_of h c.args.lane c.args.row.now) c.shape-shape.ensures.shape;
        node = c.requires.near.stands c.args.lane (c.key-key.result / 16) c.in-Some.leaf c.requires.lane c.in-Some.ensures.found;
      };
      begins = search rules;
      loads = omega arith;
    }

-- by no node
pub returns-in_default-make_node-clause-made : goal.returns-in_default-make_node-clause-made
returns-in_default-make_node-clause-made g c =
    let log = c.args.log.now in
    let s = log.shape in
    let row = c.args.row.now in
    let l = c.args.lane in
    let at : Prefix = record { lane = l; level = c.levels.result - 1; front = c.key-key.result / 16 } in
    let w = whole_at s c.shape-shape.result.now row l c.levels.result c.key-key.result c.shape-shape.ensures.shape c.shape-shape.ensures.lawful c.requires.lane
    c.requires.selects c.levels.ensures c.key-key.ensures in
    made_none log (IsAlong at) (IsOnPath s row) (λ (p : Pass). IsNodeOf s p (spot_of at)) (λ (p : Pass). IsFiled s row p l) c.args.pass.now
    c.make_node.new.pass c.args.steps.now c.make_node.new.steps (on_path s row l at w) c.in_default-make_node.ensures.made

pub returns-in_default-make_node-clause-near : goal.returns-in_default-make_node-clause-near
returns-in_default-make_node-clause-near g c =
    remembers_still c.args.log.now.shape c.args.pass.now.view c.make_node.new.pass.view c.args.leaves.now c.make_node.ensures.made.strides.knows c.requires.near

-- by the node that was made
pub returns-clause-made : goal.returns-clause-made
returns-clause-made g c =
    let s = c.args.log.now.shape in
    let row = c.args.row.now in
    let l = c.args.lane in
    let q = c.make_node.new.pass.view in
    let at : Prefix = record { lane = l; level = c.levels.result - 1; front = c.key-key.result / 16 } in
    let w = whole_at s c.shape-shape.result.now row l c.levels.result c.key-key.result c.shape-shape.ensures.shape c.shape-shape.ensures.lawful c.requires.lane
    c.requires.selects c.levels.ensures c.key-key.ensures in
    let level = ap (λ (k : ℕ). k - 1) (c.levels.ensures ∙ ap (λ (h : ShapeValue). levels_of h l) c.shape-shape.ensures.shape) in
    let made = c.in-Some-make_node.ensures.made in
    record {
      of = made.of;
      rest = made.rest;
      strides = made.strides;
      used = used_by (IsAlong at) (IsOnPath s row) c.args.pass.now c.make_node.new.pass (on_path s row l at w) made.used;
      answer = record {
        selects = c.requires.selects;
        key = c.key-key.ensures ∙ ap (λ (h : ShapeValue). key_of h l c.args.row.now) c.shape-shape.ensures.shape;
        node = subst (λ (k : ℕ). IsNodeOf s q (spot l (nibbles k (c.key-key.result / 16))) c.in-Some-make_node.leaf) level made.answer;
      };
      begins = search rules;
      loads = made.loads;
    }

pub returns-clause-near : goal.returns-clause-near
returns-clause-near g c =
    let s = c.args.log.now.shape in
    let l = c.args.lane in
    let q = c.make_node.new.pass.view in
    let level = ap (λ (k : ℕ). k - 1) (c.levels.ensures ∙ ap (λ (h : ShapeValue). levels_of h l) c.shape-shape.ensures.shape) in
    let near = remembers_still s c.args.pass.now.view q c.args.leaves.now c.make_node.ensures.made.strides.knows c.requires.near in
    let there = subst
    (λ (k : ℕ). IsNodeOf s q (spot l (nibbles k (c.key-key.result / 16))) c.in-Some-make_node.leaf) level c.in-Some-make_node.ensures.made.answer in
    subst (Remembers s q) (sym c.keep.ensures)
    (remembers_more s q c.args.leaves.now l (c.key-key.result / 16) c.in-Some-make_node.leaf c.requires.lane c.shape-shape.ensures.lawful.few near there)

-- which leaves are kept
pub returns-in-Some-clause-kept : goal.returns-in-Some-clause-kept
returns-in-Some-clause-kept g c =
    let s = c.args.log.now.shape in
    let same = c.key-key.ensures ∙ ap (λ (h : ShapeValue). key_of h c.args.lane c.args.row.now) c.shape-shape.ensures.shape in
    kept_by s c.args.row.now c.args.leaves.now c.args.lane c.key-key.result c.in-Some.leaf same c.in-Some.ensures.found

pub returns-clause-kept : goal.returns-clause-kept
returns-clause-kept g c =
    let s = c.args.log.now.shape in
    let same = c.key-key.ensures ∙ ap (λ (h : ShapeValue). key_of h c.args.lane c.args.row.now) c.shape-shape.ensures.shape in
    let low = c.requires.lane in
    let few = c.shape-shape.ensures.lawful.few in
    let long = c.requires.near.long in
    subst (λ (l : Leaves). KeepsLeaf s c.args.row.now l c.args.lane) (sym c.keep.ensures)
    (kept_now s c.args.row.now c.args.leaves.now c.args.lane c.key-key.result c.in-Some-make_node.leaf same (omega (arith, low, few, long)))

pub returns-clause-others : goal.returns-clause-others
returns-clause-others g c = λ l other.
    ap (λ (h : Leaves). slice_get h.kept l) c.keep.ensures ∙ kept_other c.args.leaves.now c.args.lane (c.key-key.result / 16) c.in-Some-make_node.leaf l other

pub returns-clause-near_steps : goal.returns-clause-near_steps
returns-clause-near_steps g c = λ kept.
    let s = c.args.log.now.shape in
    let same = c.key-key.ensures ∙ ap (λ (h : ShapeValue). key_of h c.args.lane c.args.row.now) c.shape-shape.ensures.shape in
    absurd (not_kept s c.args.row.now c.args.leaves.now c.args.lane c.key-key.result same c.in_default.ensures.none kept)

pub returns-in_default-make_node-clause-near_steps : goal.returns-in_default-make_node-clause-near_steps
returns-in_default-make_node-clause-near_steps g c = λ kept.
    let s = c.args.log.now.shape in
    let same = c.key-key.ensures ∙ ap (λ (h : ShapeValue). key_of h c.args.lane c.args.row.now) c.shape-shape.ensures.shape in
    absurd (not_kept s c.args.row.now c.args.leaves.now c.args.lane c.key-key.result same c.in_default.ensures.none kept)
