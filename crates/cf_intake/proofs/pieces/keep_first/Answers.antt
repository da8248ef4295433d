use Rattle.std.proofs.Common.{rules, ◌≡◌, ◌-◌, ◌++◌, ◌∙◌, List, length, take, ap}
use Rattle.cf_row.specs.Row.{RowValue}
use Rattle.cf_intake.proofs.Keeping.{kept_more}
use Rattle.cf_intake.proofs.pieces.keep_first.Goals as goal

pub returns : goal.returns
returns c = λ all first.
    let kept : List RowValue = c.args.kept.now.items in
    let more : List RowValue = c.args.more.items in
    let size : c.saturating_sub.result ≡ c.args.most - length kept = search rules in
    let part : c.truncate.new.self.items ≡ take (c.args.most - length kept) more
    = c.truncate.ensures.items ∙ ap (λ n. take n more) size in
    kept_more c.args.most all kept more c.append.new.self.items first
    (c.in_ok-append.ensures.items ∙ ap (λ (rs : List RowValue). kept ++ rs) part)
