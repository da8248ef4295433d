use Rattle.std.proofs.Common.{◌∙◌, ap, refl}
use Rattle.cf_setup.specs.Setups.{shaped}
use Rattle.cf_table.specs.Values.{LogValue}
use Rattle.confluo_example.proofs.Collected.{asks_suit, found}
use Rattle.confluo_example.proofs.collect.Goals as goal

pub append_and_ask-requires-clause-suit : goal.append_and_ask-requires-clause-suit
append_and_ask-requires-clause-suit g c =
    asks_suit c.args.setup.now c.in_ok-opened.opened.log.shape c.asks-asks.result.now c.asks-asks.ensures.lawful c.in_ok-opened.ensures.shape_is
    c.asks-asks.ensures.asks

pub ask_all-requires-clause-suit : goal.ask_all-requires-clause-suit
ask_all-requires-clause-suit g c =
    asks_suit c.args.setup.now c.append_and_ask.new.opened.log.shape c.asks-asks.result.now c.asks-asks.ensures.lawful
    (ap (λ (l : LogValue). l.shape) c.append_and_ask.ensures.same ∙ c.in_ok-opened.ensures.shape_is) c.asks-asks.ensures.asks

pub returns : goal.returns
returns g c =
    let joined = c.join_writers.ensures in
    found c.args.setup.now
    (shaped c.args.setup.now 4096 2 256) c.asks-asks.result.now c.args.first.now c.args.second.now c.append_and_ask.new.opened c.in_ok-live.live.items
    c.in_ok-whole.whole.items (record { live = c.in_ok-live.live; whole = c.in_ok-whole.whole }) c.join_writers.new.root c.ask_all.new.pass
    (ap (λ (l : LogValue). l.shape) c.append_and_ask.ensures.same ∙ c.in_ok-opened.ensures.shape_is) refl c.asks-asks.ensures.asks
    c.in_ok-live.ensures.done joined (c.ask_all.ensures.asked.stays joined.gathered.settled) c.in_ok-whole.ensures.answers refl refl
