use Rattle.std.proofs.Common.{refl, ◌≡◌, ◌<◌, true, get_or, length, sym, subst, ◌∙◌, rules}
use Rattle.std.specs.List.{All}
use Rattle.std.proofs.lemmas.List.{take_all, get_or_default}
use Rattle.std.proofs.lemmas.List.Elements.{All-more}
use Rattle.cf_plain.specs.declared.ask.Ask.{Ask}
use Rattle.cf_plain.specs.declared.loaded.Live.{Live}
use Rattle.cf_plain.specs.Answered.{no_ask}
use Rattle.cf_report.specs.Answered.{ask_at, is_body_of}
use Rattle.cf_report.proofs.condition.lives_are_of_kind.Goals as goal

pub loop-live-preserved : goal.loop-live-preserved
loop-live-preserved c =
    let setup = c.args.setup.now in
    let lives = c.args.lives.now in
    let live = c.live-item.result in
    let ask = c.index-asks-live.result in
    let own : is_body_of ask live.answer.body ≡ true = search rules in
    let exists : live.ask < length setup.asks =
    subst (λ (l : Live). l.ask < length setup.asks) (sym c.live-item.is) (c.requires c.loop-live.live-index live c.loop-live-test.true) in
    let ask_is : ask ≡ get_or setup.asks live.ask ask = rw c.asks-asks.ensures.asks at c.index-asks-live.is in
    let same : ask ≡ ask_at setup live.ask = ask_is ∙ get_or_default setup.asks live.ask ask no_ask exists in
    All-more (λ (l : Live). is_body_of (ask_at setup l.ask) l.answer.body ≡ true) lives c.loop-live.live-index live c.loop-live-test.true c.loop-live.invariant
    (subst (λ (l : Live). is_body_of (ask_at setup l.ask) l.answer.body ≡ true) c.live-item.is
    (subst (λ (a : Ask). is_body_of a live.answer.body ≡ true) same own))

pub returns : goal.returns
returns c = (
  λ t. subst (All (λ (live : Live). is_body_of (ask_at c.args.setup.now live.ask) live.answer.body ≡ true))
      (take_all c.loop-live.live-index c.args.lives.now c.loop-live-test.false) c.loop-live.invariant,
  λ all. refl,
)
