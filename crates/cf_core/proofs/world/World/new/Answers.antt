use Rattle.std.proofs.Common.{◌≡◌, ◌++◌, ◌∷◌, [], List, ap₂, ◌∙◌, rules}
use Rattle.cf_law.specs.Passes.{Pass}
use Rattle.cf_law.specs.Steps.{new_pass}
use Rattle.cf_law.specs.Events.{opening, tabulated, no_book}
use Rattle.cf_law.specs.Shapes.{layout}
use Rattle.cf_core.proofs.Handing.{opening_held}
use Rattle.cf_core.proofs.world.World.new.Goals as goal

pub invariant_of-result : goal.invariant_of-result
invariant_of-result c =
    let words : c.in_ok-words.words.items ≡ (opening (layout c.args.shape)).words = search (rules, c.in_ok-words.ensures.items, c.word_total.ensures.total) in
    let books : c.in_ok-books.books.items ≡ tabulated no_book c.args.shape.writers = search (rules, c.in_ok-books.ensures, c.writers.ensures.writers) in
    let items : c.push.new.self.items ≡ c.in_ok-passes.passes.items ++ c.newcomer.result ∷ [] = search (rules, c.in_ok-push.ensures.items) in
    let none : c.in_ok-passes.passes.items ≡ [] = search (rules, c.in_ok-passes.ensures.items) in
    let one : c.newcomer.result ≡ new_pass (tabulated no_book c.args.shape.writers) [] = c.newcomer.ensures ∙ ap₂ new_pass books c.new.ensures.items in
    let passes : c.push.new.self.items ≡ (opening (layout c.args.shape)).passes = items ∙ ap₂ (λ (ps : List Pass) (p : Pass). ps ++ p ∷ []) none one in
    opening_held c.args.shape c.in_ok-words.words.items c.push.new.self.items c.lanes-lawful.ensures.lawful words passes

pub returns-clause-lawful : goal.returns-clause-lawful
returns-clause-lawful c =
    let words : c.in_ok-words.words.items ≡ (opening (layout c.args.shape)).words = search (rules, c.in_ok-words.ensures.items, c.word_total.ensures.total) in
    let books : c.in_ok-books.books.items ≡ tabulated no_book c.args.shape.writers = search (rules, c.in_ok-books.ensures, c.writers.ensures.writers) in
    let items : c.push.new.self.items ≡ c.in_ok-passes.passes.items ++ c.newcomer.result ∷ [] = search (rules, c.in_ok-push.ensures.items) in
    let none : c.in_ok-passes.passes.items ≡ [] = search (rules, c.in_ok-passes.ensures.items) in
    let one : c.newcomer.result ≡ new_pass (tabulated no_book c.args.shape.writers) [] = c.newcomer.ensures ∙ ap₂ new_pass books c.new.ensures.items in
    let passes : c.push.new.self.items ≡ (opening (layout c.args.shape)).passes = items ∙ ap₂ (λ (ps : List Pass) (p : Pass). ps ++ p ∷ []) none one in
    opening_held c.args.shape c.in_ok-words.words.items c.push.new.self.items c.lanes-lawful.ensures.lawful words passes
