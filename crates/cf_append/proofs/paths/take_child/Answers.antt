use Rattle.std.proofs.Common.{◌≡◌, ◌∙◌, ap, arith, rules}
use Rattle.std.proofs.lemmas.Grind.{common_steps}
use Rattle.cf_shape.proofs.Bounds.{total_small, writers_nodes_small}
use Rattle.cf_shape.proofs.Slots.{place_within}
use Rattle.cf_shape.specs.Places.{sizes_of}
use Rattle.cf_law.specs.Shapes.{layout}
use Rattle.cf_table.specs.Values.{PassValue}
use Rattle.cf_table.proofs.Homing.{still_one}
use Rattle.cf_table.proofs.Looks.{child_loads}
use Rattle.cf_table.proofs.Mays.{may_child, may_label, may_link}
use Rattle.cf_append.proofs.Walking.{strides_then, load_strides, load_books, load_node, load_stuck, label_strides, label_books, link_strides, link_lost, won_node, lost_node, used_same, used_none, used_won, rests_same, rests_used, same_book, node_low, label_room, child_still, writer_low}
use Rattle.cf_append.proofs.paths.take_child.Goals as goal

pub load_child-found-requires : goal.load_child-found-requires
load_child-found-requires g c κs within =
    let r = c.requires.1 in
    (search rules, (within, (r.0.of, may_child c.args.log.now.shape c.args.pass.now.view g.to.0 g.to.1 c.args.place r.1.1.0 r.1.0)))

pub overflow_cast-result : goal.overflow_cast-result
overflow_cast-result g c =
    let s = c.args.log.now.shape in
    let low = (load_node s c.args.pass.now c.load_child-found.new.pass g.to.0 g.to.1 c.load_child-found.result c.load_child-found.ensures.made
    c.if-found-ne0.true).low in
    let few = writers_nodes_small s c.shape-lawful.ensures.lawful in
    omega (arith, low, few)

pub returns-then-found-ne0-clause-made : goal.returns-then-found-ne0-clause-made
returns-then-found-ne0-clause-made g c =
    let s = c.args.log.now.shape in
    let m = c.args.pass.now in
    let n = c.load_child-found.new.pass in
    let made = c.load_child-found.ensures.made in
    let books = load_books s m n g.to.0 g.to.1 c.load_child-found.result made in
    record {
      of = still_one c.args.log.now m n c.requires.1.0.of made.same;
      rest = rests_same m n c.requires.1.0.rest books;
      strides = load_strides s m n g.to.0 g.to.1 c.load_child-found.result made;
      used = used_same _ m n c.requires.1.0.rest books;
      answer = load_node s m n g.to.0 g.to.1 c.load_child-found.result made c.if-found-ne0.true;
      begins = search rules;
      loads = child_loads s m n g.to.0 g.to.1 c.load_child-found.result c.args.steps.now c.load_child-found.new.steps made c.load_child-found.ensures.steps;
    }

pub returns-in_default-clause-made : goal.returns-in_default-clause-made
returns-in_default-clause-made g c =
    let s = c.args.log.now.shape in
    let m = c.args.pass.now in
    let n = c.load_child-found.new.pass in
    let made = c.load_child-found.ensures.made in
    let books = load_books s m n g.to.0 g.to.1 c.load_child-found.result made in
    record {
      of = still_one c.args.log.now m n c.requires.1.0.of made.same;
      rest = rests_same m n c.requires.1.0.rest books;
      strides = load_strides s m n g.to.0 g.to.1 c.load_child-found.result made;
      used = used_same _ m n c.requires.1.0.rest books;
      answer = load_stuck s m n g.to.0 g.to.1 c.load_child-found.result c.if-found-ne0.false made c.requires.1.1.0 c.requires.1.0.rest
          (c.in_default.ensures ∙ (ap (λ (h : PassValue). h.nodes) made.same ∙ c.requires.1.0.of.nodes));
      begins = search rules;
      loads = child_loads s m n g.to.0 g.to.1 c.load_child-found.result c.args.steps.now c.load_child-found.new.steps made c.load_child-found.ensures.steps;
    }

pub overflow_mul-place : goal.overflow_mul-place
overflow_mul-place g c =
    let s = c.args.log.now.shape in
    let at = c.requires.1.1.1.0 in
    let low = place_within (sizes_of s) g.to.1 c.requires.1.1.0.real in
    let few = total_small s c.shape-lawful.ensures.lawful in
    omega (arith, at, low, few)

pub overflow_add-place : goal.overflow_add-place
overflow_add-place g c =
    let s = c.args.log.now.shape in
    let at = c.requires.1.1.1.0 in
    let low = place_within (sizes_of s) g.to.1 c.requires.1.1.0.real in
    let few = total_small s c.shape-lawful.ensures.lawful in
    let is = c.from.ensures in
    let small = c.ranges.level.fits in
    omega (arith, at, low, few, is, small)

pub label-requires-clause-place : goal.label-requires-clause-place
label-requires-clause-place g c =
    let s = c.args.log.now.shape in
    let m = c.args.pass.now in
    let n = c.load_child-found.new.pass in
    let made = c.load_child-found.ensures.made in
    let nodes = ap (λ (h : PassValue). h.nodes) made.same ∙ c.requires.1.0.of.nodes in
    node_low s n c.in-Some.node nodes (writer_low s m n g.to.0 g.to.1 c.load_child-found.result c.requires.1.0.rest made) c.in-Some.ensures

pub label-requires-clause-lawful : goal.label-requires-clause-lawful
label-requires-clause-lawful g c =
    let s = c.args.log.now.shape in
    let m = c.args.pass.now in
    let n = c.load_child-found.new.pass in
    let made = c.load_child-found.ensures.made in
    let nodes = ap (λ (h : PassValue). h.nodes) made.same ∙ c.requires.1.0.of.nodes in
    let rest = rests_same m n c.requires.1.0.rest (load_books s m n g.to.0 g.to.1 c.load_child-found.result made) in
    let room = label_room s n c.in-Some.node nodes c.in-Some.ensures in
    let child = child_still (layout s) m n g.to.0 g.to.1 (load_strides s m n g.to.0 g.to.1 c.load_child-found.result made) c.requires.1.1.0 in
    may_label s n.view _ g.to.0 g.to.1 c.in-Some.node _ rest.one room.0 child room.1
    (let at = c.requires.1.1.1.0 in let long = c.requires.1.1.1.1 in let is = c.from.ensures in omega (arith, at, long, is))

pub link-named-requires : goal.link-named-requires
link-named-requires g c κs within =
    let s = c.args.log.now.shape in
    let m = c.args.pass.now in
    let n = c.load_child-found.new.pass in
    let o = c.label.new.pass in
    let made = c.load_child-found.ensures.made in
    let stored = c.label.ensures.made in
    let nodes = ap (λ (h : PassValue). h.nodes) made.same ∙ c.requires.1.0.of.nodes in
    let rest = rests_same m n c.requires.1.0.rest (load_books s m n g.to.0 g.to.1 c.load_child-found.result made) in
    let room = label_room s n c.in-Some.node nodes c.in-Some.ensures in
    let child = child_still (layout s) m n g.to.0 g.to.1 (load_strides s m n g.to.0 g.to.1 c.load_child-found.result made) c.requires.1.1.0 in
    let still = child_still (layout s) n o g.to.0 g.to.1 (label_strides s n o c.in-Some.node _ stored) child in
    let of = still_one c.args.log.now n o (still_one c.args.log.now m n c.requires.1.0.of made.same) stored.made.same in (
      within,
      (
        of,
        may_link s o.view _ g.to.0 g.to.1 c.args.place c.in-Some.node (label_books s n o c.in-Some.node _ rest stored) room.0 still
            (let at = c.requires.1.1.1.0 in let long = c.requires.1.1.1.1 in let is = c.from.ensures in
            omega (arith, at, long, is)) c.requires.1.1.1.0 room.1,
      ),
    )

pub overflow_cast-result-then-named-ne0 : goal.overflow_cast-result-then-named-ne0
overflow_cast-result-then-named-ne0 g c =
    let s = c.args.log.now.shape in
    let low = (lost_node s c.label.new.pass c.link-named.new.pass g.to.0 g.to.1 c.in-Some.node c.link-named.result c.link-named.ensures.made
    c.if-named-ne0.true).low in
    let few = writers_nodes_small s c.shape-lawful.ensures.lawful in
    omega (arith, low, few)

pub returns-then-named-ne0-clause-made : goal.returns-then-named-ne0-clause-made
returns-then-named-ne0-clause-made g c =
    let s = c.args.log.now.shape in
    let m = c.args.pass.now in
    let n = c.load_child-found.new.pass in
    let o = c.label.new.pass in
    let z = c.link-named.new.pass in
    let rest = c.requires.1.0.rest in
    let books = load_books s m n g.to.0 g.to.1 c.load_child-found.result c.load_child-found.ensures.made in
    let went =
    strides_then m o z
    (strides_then m n o (load_strides s m n g.to.0 g.to.1 c.load_child-found.result c.load_child-found.ensures.made)
    (label_strides s n o c.in-Some.node _ c.label.ensures.made))
    (link_strides s o z g.to.0 g.to.1 c.in-Some.node c.link-named.result c.link-named.ensures.made) in
    let used = used_none (λ r. r ≡ g.to.0) m z _ _
    (link_lost s o z g.to.0 g.to.1 c.in-Some.node c.link-named.result c.link-named.ensures.made c.if-named-ne0.true
    ∙ label_books s n o c.in-Some.node _ (rests_same m n rest books) c.label.ensures.made) (same_book m n books) in
    record {
      of = still_one c.args.log.now m z c.requires.1.0.of went.same;
      rest = rests_used (λ r. r ≡ g.to.0) m z rest used;
      strides = went;
      used = used;
      answer = lost_node s o z g.to.0 g.to.1 c.in-Some.node c.link-named.result c.link-named.ensures.made c.if-named-ne0.true;
      begins = search rules;
      loads = grind (arith, common_steps);
    }

pub returns-clause-made : goal.returns-clause-made
returns-clause-made g c =
    let s = c.args.log.now.shape in
    let m = c.args.pass.now in
    let n = c.load_child-found.new.pass in
    let o = c.label.new.pass in
    let z = c.link-named.new.pass in
    let went =
    strides_then m o z
    (strides_then m n o (load_strides s m n g.to.0 g.to.1 c.load_child-found.result c.load_child-found.ensures.made)
    (label_strides s n o c.in-Some.node _ c.label.ensures.made))
    (link_strides s o z g.to.0 g.to.1 c.in-Some.node c.link-named.result c.link-named.ensures.made) in
    let used = used_won s m n o z g.to.0 g.to.1 c.in-Some.node _ c.link-named.result c.requires.1.0.rest
    (load_books s m n g.to.0 g.to.1 c.load_child-found.result c.load_child-found.ensures.made) c.label.ensures.made c.link-named.ensures.made
    c.if-named-ne0.false in
    record {
      of = still_one c.args.log.now m z c.requires.1.0.of went.same;
      rest = rests_used (λ r. r ≡ g.to.0) m z c.requires.1.0.rest used;
      strides = went;
      used = used;
      answer = won_node s o z g.to.0 g.to.1 c.in-Some.node c.link-named.result c.link-named.ensures.made c.if-named-ne0.false;
      begins = search rules;
      loads = grind (arith, common_steps);
    }
