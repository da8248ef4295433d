use Rattle.std.proofs.Common.{◌≡◌, ◌+◌, ◌++◌, ◌∷◌, [], suc, List, ap, sym, ◌∙◌, arith, rules}
use Rattle.cf_law.specs.Passes.{Book}
use Rattle.cf_law.specs.Events.{tabulated, no_book}
use Rattle.cf_pass.proofs.Books.{table_none, table_more}
use Rattle.cf_pass.proofs.pass.empty_books.Goals as goal

pub loop-writer-init : goal.loop-writer-init
loop-writer-init c = search (rules, sym (table_none no_book))

pub loop-writer-preserved : goal.loop-writer-preserved
loop-writer-preserved c =
    let items : c.push.new.self.items ≡ c.loop-writer.books.items ++ no_book c.loop-writer.writer ∷ [] = search (rules, c.in_ok-push.ensures.items) in
    let next : suc c.loop-writer.writer ≡ c.loop-writer.writer + 1 = omega arith in
    items ∙ (ap (λ (bs : List Book). bs ++ no_book c.loop-writer.writer ∷ []) c.loop-writer.invariant
    ∙ (sym (table_more no_book c.loop-writer.writer) ∙ ap (tabulated no_book) next))
