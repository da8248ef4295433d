use Rattle.std.proofs.Common.{map, rules}
use Rattle.std.proofs.lemmas.List.Elements.{All-append, All-map}
use Rattle.cf_fold.specs.declared.trigger.Trigger.{Trigger}
use Rattle.cf_plain.specs.Asks.{Suits}
use Rattle.cf_plain.specs.declared.ask.Ask.TheVariants.{Fired}
use Rattle.cf_segments.proofs.Kept.{all_none}
use Rattle.cf_load.proofs.finals.findings_on_all.Goals as goal

pub returns-in_err-asks-clause-keeps : goal.returns-in_err-asks-clause-keeps
returns-in_err-asks-clause-keeps g c = all_none c.args.segments.now

pub findings_of-requires : goal.findings_of-requires
findings_of-requires g c =
    let shape = c.args.segments.now.shape in
    let plan = c.args.plan.now in (
      search rules,
      rw c.in_ok-asks.ensures
          (All-append (Suits shape) plan.asks.items (map (λ (t : Trigger). Fired t) plan.triggers.items) c.requires.plan.asks
          (All-map (Suits shape) (λ (t : Trigger). Fired t) plan.triggers.items c.requires.plan.triggers)),
    )
