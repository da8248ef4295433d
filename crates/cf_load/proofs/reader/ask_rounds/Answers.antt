use Rattle.std.proofs.Common.{◌++◌, subst, sym, List, arith}
use Rattle.cf_row.specs.declared.row.Entry.{Entry}
use Rattle.cf_plain.specs.declared.loaded.Live.{Live}
use Rattle.cf_load.specs.Loading.{AsksSome}
use Rattle.cf_load.specs.Planned.{HasRead}
use Rattle.cf_load.specs.Priors.{entries_before}
use Rattle.cf_load.proofs.Tails.{asks_none}
use Rattle.cf_load.proofs.Reading.{read_none}
use Rattle.cf_load.proofs.reader.ask_rounds.Goals as goal

pub loop-round-init : goal.loop-round-init
loop-round-init g c =
    let log = c.args.log.now in
    let plan = c.args.beside.now.plan.now in
    let m = c.args.reader.now in
    let base = c.args.beside.now.prior.now.base in
    let seen : List Entry = entries_before c.args.beside.now.prior.now ++ (m.view).seen in
    let none = sym c.new-answers.ensures.items in
    record {
      of = c.requires.of;
      loads = omega arith;
      asked = record {
        asks = subst (λ (xs : List Live). AsksSome log.shape plan.asks.items plan.lives.items 0 0 c.args.beside.now.batch seen seen xs) none
            (asks_none log.shape plan.asks.items plan.lives.items c.args.beside.now.batch seen);
        read = subst (HasRead base m m) none (read_none base m);
      };
    }
