use Rattle.std.proofs.Common.{◌≡◌, ◌++◌, ◌∷◌, [], ℕ, set, Some, None, true, sym, subst, Option, rules}
use Rattle.cf_law.specs.Events.WorldEvent.{splits}
use Rattle.cf_law.specs.Steps.{without, new_pass}
use Rattle.cf_core.specs.Worlds.{Answers}
use Rattle.cf_core.proofs.Making.{made, made_lawful, pass_there}
use Rattle.cf_core.proofs.Handing.{bare_does, hands_does}
use Rattle.cf_core.proofs.world.World.split.Goals as goal

pub part-requires-clause-lawful : goal.part-requires-clause-lawful
part-requires-clause-lawful c =
    let l : c.in_ok-left-in-None.left ≡ c.in-Some.pass.now = search (rules, c.in_ok-left-in-None.ensures) in
    let r : c.in_ok-right-in-None.right ≡ new_pass [] c.in-Some.pass.now.seen = search (rules, c.in_ok-right-in-None.ensures) in
    let does = bare_does c.args.self.now c.args.number c.in-Some.pass.now c.in_ok-left-in-None.left c.in_ok-right-in-None.right c.in-Some.ensures l r in
    made_lawful c.args.self.now c.args.number (splits None) _ c.shape-held.ensures.lawful does

pub returns-in_ok-part-in-None : goal.returns-in_ok-part-in-None
returns-in_ok-part-in-None c =
    let l : c.in_ok-left-in-None.left ≡ c.in-Some.pass.now = search (rules, c.in_ok-left-in-None.ensures) in
    let r : c.in_ok-right-in-None.right ≡ new_pass [] c.in-Some.pass.now.seen = search (rules, c.in_ok-right-in-None.ensures) in
    let does = bare_does c.args.self.now c.args.number c.in-Some.pass.now c.in_ok-left-in-None.left c.in_ok-right-in-None.right c.in-Some.ensures l r in
    subst (λ (w : Option ℕ). Answers c.args.self.now c.args.number (splits w) c.part.new.self true) (sym c.in-None.is)
    (made c.args.self.now c.part.new.self c.args.number (splits None) c.args.self.now.words
    (set c.args.self.now.passes c.args.number c.in_ok-left-in-None.left ++ c.in_ok-right-in-None.right ∷ [])
    (search (rules, c.in_ok-part-in-None.ensures)) does)

pub handed-requires : goal.handed-requires
handed-requires c =
    Rattle.std.proofs.lemmas.Option.slice_get_within c.in-Some.pass.now.books c.in-Some-book_of.place c.in-Some-book_of.ensures.0 c.in-Some-book_of.ensures.1

pub part-requires-in-Some-writer-clause-pass : goal.part-requires-in-Some-writer-clause-pass
part-requires-in-Some-writer-clause-pass c = pass_there c.args.self.now c.args.number c.in-Some.pass.now c.in-Some.ensures

pub part-requires-in-Some-writer-clause-lawful : goal.part-requires-in-Some-writer-clause-lawful
part-requires-in-Some-writer-clause-lawful c =
    let held = c.in-Some-book_of.ensures.1 in
    let own = c.in-Some-book_of.ensures.2 in
    let l : c.in_ok-left-in-Some-writer.left ≡ record c.in-Some.pass.now { books = without c.in-Some-book_of.place c.in-Some.pass.now.books } =
    search (rules, c.in_ok-left-in-Some-writer.ensures.stays) in
    let r : c.in_ok-left-in-Some-writer.right ≡ new_pass (c.in-Some-book_of.ensures.0 ∷ []) c.in-Some.pass.now.seen =
    search (rules, c.in_ok-left-in-Some-writer.ensures.goes c.in-Some-book_of.ensures.0 held) in
    let does = hands_does c.args.self.now c.args.number c.in-Some-book_of.place c.in-Some-writer.writer c.in-Some.pass.now c.in_ok-left-in-Some-writer.left
    c.in_ok-left-in-Some-writer.right c.in-Some-book_of.ensures.0 c.in-Some.ensures held own l r in
    made_lawful c.args.self.now c.args.number (splits (Some c.in-Some-writer.writer)) _ c.shape-held.ensures.lawful does

pub returns-in_ok-part-in-Some-writer : goal.returns-in_ok-part-in-Some-writer
returns-in_ok-part-in-Some-writer c =
    let held = c.in-Some-book_of.ensures.1 in
    let own = c.in-Some-book_of.ensures.2 in
    let l : c.in_ok-left-in-Some-writer.left ≡ record c.in-Some.pass.now { books = without c.in-Some-book_of.place c.in-Some.pass.now.books } =
    search (rules, c.in_ok-left-in-Some-writer.ensures.stays) in
    let r : c.in_ok-left-in-Some-writer.right ≡ new_pass (c.in-Some-book_of.ensures.0 ∷ []) c.in-Some.pass.now.seen =
    search (rules, c.in_ok-left-in-Some-writer.ensures.goes c.in-Some-book_of.ensures.0 held) in
    let does = hands_does c.args.self.now c.args.number c.in-Some-book_of.place c.in-Some-writer.writer c.in-Some.pass.now c.in_ok-left-in-Some-writer.left
    c.in_ok-left-in-Some-writer.right c.in-Some-book_of.ensures.0 c.in-Some.ensures held own l r in
    subst (λ (w : Option ℕ). Answers c.args.self.now c.args.number (splits w) c.part-in-Some-writer.new.self true) (sym c.in-Some-writer.is)
    (made c.args.self.now c.part-in-Some-writer.new.self c.args.number (splits (Some c.in-Some-writer.writer)) c.args.self.now.words
    (set c.args.self.now.passes c.args.number c.in_ok-left-in-Some-writer.left ++ c.in_ok-left-in-Some-writer.right ∷ [])
    (search (rules, c.in_ok-part-in-Some-writer.ensures)) does)
