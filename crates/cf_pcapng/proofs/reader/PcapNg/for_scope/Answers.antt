use Rattle.std.proofs.Common.{refl}
use Rattle.cf_pcapng.proofs.Feeding.{new_runs, no_interfaces}
use Rattle.cf_pcapng.proofs.reader.PcapNg.for_scope.Goals as goal

pub returns-clause-state : goal.returns-clause-state
returns-clause-state c = new_runs _ refl refl (no_interfaces c.args.scope c.new.result.items c.new.ensures.items) refl c.new-2.ensures.items
