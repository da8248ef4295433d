use Rattle.cf_pcap.proofs.Feeding.{new_runs}
use Rattle.cf_pcap.proofs.reader.Pcap.for_scope.Goals as goal

pub returns-clause-state : goal.returns-clause-state
returns-clause-state c = new_runs c.args.scope c.new.result.items c.new.ensures.items
