use Rattle.std.proofs.Common.{◌≡◌, refl, rules}
use Rattle.std.proofs.lemmas.Option.{slice_get_within}
use Rattle.cf_law.specs.Words.{Spot}
use Rattle.cf_law.specs.Events.WorldEvent.{acts}
use Rattle.cf_law.specs.Steps.Act.{label}
use Rattle.cf_law.specs.Steps.{pass_with_book, book_with_label}
use Rattle.cf_shape.specs.Places.{place_of}
use Rattle.cf_shape.specs.Places.WordName.{label as label_word}
use Rattle.cf_core.specs.Worlds.{IsLabelOf, NoLabel}
use Rattle.cf_pass.specs.Books.{IsFree, NoneFree}
use Rattle.cf_core.proofs.Making.{made, made_lawful, pass_there}
use Rattle.cf_core.proofs.Links.{free_within, label_there, label_does, label_free, label_named}
use Rattle.cf_core.proofs.world.World.label.Goals as goal

pub returns-in_default-free : goal.returns-in_default-free
returns-in_default-free c =
    let none : NoneFree c.args.self.now.shape.nodes c.in-Some.pass.now c.args.node =
    rw c.shape-shape.ensures.shape at (rw c.nodes.ensures.nodes at c.in_default-free.ensures) in
    (refl, λ y does. label_free c.args.self.now c.args.number c.args.node c.args.value c.in-Some.pass.now y c.in-Some.ensures none does)

pub returns-then-not-branch : goal.returns-then-not-branch
returns-then-not-branch c =
    let none : NoLabel c.args.self.now c.in-Some.pass.now c.args.value = search (rules, c.in_ok-is_label.ensures.none c.if-not-branch.true) in
    (refl, λ y does. label_named c.args.self.now c.args.number c.args.node c.args.value c.in-Some.pass.now y c.in-Some.ensures none does)

pub place_label-place-requires : goal.place_label-place-requires
place_label-place-requires c =
    let free : IsFree c.args.self.now.shape.nodes c.in-Some.pass.now c.args.node c.in-Some-free.at c.in-Some-free.book.now =
    rw c.shape-shape.ensures.shape at (rw c.nodes.ensures.nodes at c.in-Some-free.ensures) in
    let low = free_within c.args.self.now c.args.number c.args.node c.in-Some-free.at c.in-Some.pass.now c.in-Some-free.book.now c.shape-shape.ensures.lawful
    c.in-Some.ensures free in
    record { node = rw c.shape-shape.ensures.shape low }

pub at_book-requires : goal.at_book-requires
at_book-requires c = slice_get_within c.in-Some.pass.now.books c.in-Some-free.at c.in-Some-free.book.now c.in-Some-free.ensures.0

pub put-requires-clause-pass : goal.put-requires-clause-pass
put-requires-clause-pass c = pass_there c.args.self.now c.args.number c.in-Some.pass.now c.in-Some.ensures

pub put-requires-clause-word : goal.put-requires-clause-word
put-requires-clause-word c =
    let free : IsFree c.args.self.now.shape.nodes c.in-Some.pass.now c.args.node c.in-Some-free.at c.in-Some-free.book.now =
    rw c.shape-shape.ensures.shape at (rw c.nodes.ensures.nodes at c.in-Some-free.ensures) in
    let at : c.place_label-place.result ≡ place_of c.args.self.now.shape (label_word c.args.node) =
    rw c.shape-shape.ensures.shape at c.place_label-place.ensures in
    rw at (label_there c.args.self.now c.args.number c.args.node c.in-Some-free.at c.in-Some.pass.now c.in-Some-free.book.now c.shape-shape.ensures.lawful
    c.in-Some.ensures free)

pub put-requires-clause-lawful : goal.put-requires-clause-lawful
put-requires-clause-lawful c =
    let free : IsFree c.args.self.now.shape.nodes c.in-Some.pass.now c.args.node c.in-Some-free.at c.in-Some-free.book.now =
    rw c.shape-shape.ensures.shape at (rw c.nodes.ensures.nodes at c.in-Some-free.ensures) in
    let at : c.place_label-place.result ≡ place_of c.args.self.now.shape (label_word c.args.node) =
    rw c.shape-shape.ensures.shape at c.place_label-place.ensures in
    let named : (s : Spot) × IsLabelOf c.args.self.now c.in-Some.pass.now c.args.value s =
    search (rules, c.in_ok-is_label.ensures.some c.if-not-branch.false) in
    let after : c.in_ok-after.after ≡ pass_with_book c.in-Some-free.at (book_with_label c.args.value c.in-Some-free.book.now) c.in-Some.pass.now =
    search (rules, c.in_ok-after.ensures, c.in_ok-labelled.ensures) in
    let does = label_does c.args.self.now c.args.number c.place_label-place.result c.args.node c.args.value c.in-Some-free.at c.in-Some.pass.now
    c.in_ok-after.after c.in-Some-free.book.now named.0 c.in-Some.ensures free named.1 at after in
    made_lawful c.args.self.now c.args.number (acts (label c.args.node c.args.value)) _ c.shape-shape.ensures.lawful does

pub returns : goal.returns
returns c =
    let free : IsFree c.args.self.now.shape.nodes c.in-Some.pass.now c.args.node c.in-Some-free.at c.in-Some-free.book.now =
    rw c.shape-shape.ensures.shape at (rw c.nodes.ensures.nodes at c.in-Some-free.ensures) in
    let at : c.place_label-place.result ≡ place_of c.args.self.now.shape (label_word c.args.node) =
    rw c.shape-shape.ensures.shape at c.place_label-place.ensures in
    let named : (s : Spot) × IsLabelOf c.args.self.now c.in-Some.pass.now c.args.value s =
    search (rules, c.in_ok-is_label.ensures.some c.if-not-branch.false) in
    let after : c.in_ok-after.after ≡ pass_with_book c.in-Some-free.at (book_with_label c.args.value c.in-Some-free.book.now) c.in-Some.pass.now =
    search (rules, c.in_ok-after.ensures, c.in_ok-labelled.ensures) in
    let does = label_does c.args.self.now c.args.number c.place_label-place.result c.args.node c.args.value c.in-Some-free.at c.in-Some.pass.now
    c.in_ok-after.after c.in-Some-free.book.now named.0 c.in-Some.ensures free named.1 at after in
    made c.args.self.now c.put.new.self c.args.number (acts (label c.args.node c.args.value)) _ _ c.put.ensures does
