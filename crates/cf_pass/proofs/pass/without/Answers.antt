use Rattle.std.proofs.Common.{◌≡◌, List, ap, sym, ◌∙◌, rules}
use Rattle.cf_law.specs.Passes.{Book}
use Rattle.cf_pass.proofs.Books.{but_is}
use Rattle.cf_pass.proofs.pass.without.Goals as goal

pub returns : goal.returns
returns c =
    let same : c.in_ok-left.left.items ≡ c.args.books.now = search (rules, c.in_ok-left.ensures) in
    c.remove.ensures.items ∙ (ap (λ (bs : List Book). Rattle.std.specs.List.remove bs c.args.place) same ∙ sym (but_is c.args.place c.args.books.now))
