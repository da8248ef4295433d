use Rattle.std.proofs.Common.{◌≡◌, true, refl, rules}
use Rattle.std.proofs.lemmas.Option.{slice_get_within}
use Rattle.cf_law.specs.Events.WorldEvent.{acts}
use Rattle.cf_law.specs.Steps.Act.{link}
use Rattle.cf_law.specs.Steps.{pass_with_link}
use Rattle.cf_core.specs.Worlds.{IsChildAt, NoChildAt}
use Rattle.cf_pass.specs.Books.{IsFree, NoneFree}
use Rattle.cf_core.proofs.Making.{made, made_lawful, pass_there}
use Rattle.cf_core.proofs.Children.{child_there}
use Rattle.cf_core.proofs.Links.{link_does, link_free, link_child, link_label}
use Rattle.cf_core.proofs.world.World.link.Goals as goal

pub returns-in_default-free : goal.returns-in_default-free
returns-in_default-free c =
    let none : NoneFree c.args.self.now.shape.nodes c.in-Some.pass.now c.args.node =
    rw c.shape-shape.ensures.shape at (rw c.nodes.ensures.nodes at c.in_default-free.ensures) in
    (refl, λ y does. link_free c.args.self.now c.args.number c.args.place c.args.node c.in-Some.pass.now y c.in-Some.ensures none does)

pub returns-in_default-2 : goal.returns-in_default-2
returns-in_default-2 c =
    let none : NoChildAt c.args.self.now c.in-Some.pass.now c.args.place = rw c.in_default-2.is at c.in_ok-spot.ensures in
    (refl, λ y does. link_child c.args.self.now c.args.number c.args.place c.args.node c.in-Some.pass.now y c.in-Some.ensures none does)

pub returns-then-not-is_labelled : goal.returns-then-not-is_labelled
returns-then-not-is_labelled c =
    let child : IsChildAt c.args.self.now c.in-Some.pass.now c.args.place c.in-Some-2.spot = rw c.in-Some-2.is at c.in_ok-spot.ensures in
    let free : IsFree c.args.self.now.shape.nodes c.in-Some.pass.now c.args.node c.in-Some-free.at c.in-Some-free.book.now =
    rw c.shape-shape.ensures.shape at (rw c.nodes.ensures.nodes at c.in-Some-free.ensures) in (
      refl,
      λ y does. (let o = link_label c.args.self.now c.args.number c.args.place c.args.node c.in-Some-free.at c.in-Some.pass.now c.in-Some-free.book.now
          c.in-Some-2.spot y c.shape-shape.ensures.lawful c.in-Some.ensures free child does in
          let found : c.is_labelled.result ≡ true = (c.is_labelled.ensures).1 o in absurd (cc (found, c.if-not-is_labelled.true))),
    )

pub word-found-requires : goal.word-found-requires
word-found-requires c =
    let child : IsChildAt c.args.self.now c.in-Some.pass.now c.args.place c.in-Some-2.spot = rw c.in-Some-2.is at c.in_ok-spot.ensures in
    child_there c.args.self.now c.in-Some.pass.now c.args.place c.in-Some-2.spot c.shape-shape.ensures.lawful child

pub link_tried-requires : goal.link_tried-requires
link_tried-requires c = slice_get_within c.in-Some.pass.now.books c.in-Some-free.at c.in-Some-free.book.now c.in-Some-free.ensures.0

pub put-requires-clause-pass : goal.put-requires-clause-pass
put-requires-clause-pass c = pass_there c.args.self.now c.args.number c.in-Some.pass.now c.in-Some.ensures

pub put-requires-clause-word : goal.put-requires-clause-word
put-requires-clause-word c =
    let child : IsChildAt c.args.self.now c.in-Some.pass.now c.args.place c.in-Some-2.spot = rw c.in-Some-2.is at c.in_ok-spot.ensures in
    child_there c.args.self.now c.in-Some.pass.now c.args.place c.in-Some-2.spot c.shape-shape.ensures.lawful child

pub put-requires-clause-lawful : goal.put-requires-clause-lawful
put-requires-clause-lawful c =
    let child : IsChildAt c.args.self.now c.in-Some.pass.now c.args.place c.in-Some-2.spot = rw c.in-Some-2.is at c.in_ok-spot.ensures in
    let free : IsFree c.args.self.now.shape.nodes c.in-Some.pass.now c.args.node c.in-Some-free.at c.in-Some-free.book.now =
    rw c.shape-shape.ensures.shape at (rw c.nodes.ensures.nodes at c.in-Some-free.ensures) in
    let after : c.in_ok-after.after ≡ pass_with_link c.in-Some-free.at c.in-Some-free.book.now c.in-Some-2.spot c.args.node c.in-Some.pass.now
    c.word-found.result = search (rules, c.in_ok-after.ensures c.in-Some-free.book.now free.0) in
    let does = link_does c.args.self.now c.args.number c.args.place c.args.node c.word-found.result c.linked_word.result c.in-Some-free.at c.in-Some.pass.now
    c.in_ok-after.after c.in-Some-free.book.now c.in-Some-2.spot c.in-Some.ensures free child
    ((c.is_labelled.ensures).0 c.if-not-is_labelled.false) c.word-found.ensures c.linked_word.ensures after in
    made_lawful c.args.self.now c.args.number (acts (link c.args.place c.args.node)) _ c.shape-shape.ensures.lawful does

pub returns : goal.returns
returns c =
    let child : IsChildAt c.args.self.now c.in-Some.pass.now c.args.place c.in-Some-2.spot = rw c.in-Some-2.is at c.in_ok-spot.ensures in
    let free : IsFree c.args.self.now.shape.nodes c.in-Some.pass.now c.args.node c.in-Some-free.at c.in-Some-free.book.now =
    rw c.shape-shape.ensures.shape at (rw c.nodes.ensures.nodes at c.in-Some-free.ensures) in
    let after : c.in_ok-after.after ≡ pass_with_link c.in-Some-free.at c.in-Some-free.book.now c.in-Some-2.spot c.args.node c.in-Some.pass.now
    c.word-found.result = search (rules, c.in_ok-after.ensures c.in-Some-free.book.now free.0) in
    let does = link_does c.args.self.now c.args.number c.args.place c.args.node c.word-found.result c.linked_word.result c.in-Some-free.at c.in-Some.pass.now
    c.in_ok-after.after c.in-Some-free.book.now c.in-Some-2.spot c.in-Some.ensures free child
    ((c.is_labelled.ensures).0 c.if-not-is_labelled.false) c.word-found.ensures c.linked_word.ensures after in
    made c.args.self.now c.put.new.self c.args.number (acts (link c.args.place c.args.node)) _ _ c.put.ensures does
