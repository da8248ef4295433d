use Rattle.std.proofs.Common.{refl, rules}
use Rattle.confluo_example.proofs.Collected.{both_writers, pushed, written}
use Rattle.confluo_example.proofs.append_and_ask.Goals as goal

pub join_mut-live-requires-after_bounds : goal.join_mut-live-requires-after_bounds
join_mut-live-requires-after_bounds g c κs within =
    let writers =
    both_writers c.args.opened.now.log.shape c.args.opened.now c.take_both-left.result.0 c.take_both-left.result.1 c.requires.opened.0
    c.take_both-left.ensures.both in
    search (rules, writers)

pub returns-clause-done : goal.returns-clause-done
returns-clause-done g c =
    let o = c.args.opened.now in
    let items = pushed _ _ _ _ _ c.take_both-left.ensures.none c.in_ok-push.ensures.items c.in_ok-push-2.ensures.items in
    written o c.args.first.now c.args.second.now c.take_both-left.result.0 c.take_both-left.result.1 _ _
    (record {
      opened = c.requires.opened.0;
      two = c.requires.opened.1;
      were = c.take_both-left.ensures.both;
      left = search rules;
      right = search rules;
    })
    c.args.asks.now c.in_ok-live.field-0.items _ (record { log = o.log; root = c.fold_back.new.root; writers = c.push-2.new.self }) refl items
    (search rules) (search rules) c.fold_back.ensures.folded.other (search rules)
