use Rattle.std.proofs.Common.{rules, ◌≡◌, ◌∙◌, ◌++◌, ◌∷◌, [], ap}
use Rattle.std.proofs.lemmas.List.Elements.{All-push}
use Rattle.cf_row.specs.Row.{Fits, RowValue}
use Rattle.confluo_example.specs.Example.{sent}
use Rattle.confluo_example.proofs.Collected.{sent_more}
use Rattle.confluo_example.proofs.rows_of.Goals as goal

pub loop-k-preserved : goal.loop-k-preserved
loop-k-preserved c =
    let before = c.loop-k.rows.items in
    let row : c.new-row.result ≡ sent c.args.source c.loop-k.k = search rules in
    let fit : Fits c.args.schema.now c.new-row.result = search rules in
    record {
      rows = sent_more (sent c.args.source) c.loop-k.k before c.push.new.self.items c.loop-k.invariant.rows
          (c.in_ok-push.ensures.items ∙ ap (λ (r : RowValue). before ++ r ∷ []) row);
      fit = rw c.in_ok-push.ensures.items (All-push (Fits c.args.schema.now) before c.new-row.result c.loop-k.invariant.fit fit);
    }
