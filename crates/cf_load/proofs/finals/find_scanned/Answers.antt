use Rattle.std.specs.List.{flat_map}
use Rattle.cf_scan.specs.Parts.{entries_in}
use Rattle.cf_load.proofs.Findings.{has_found}
use Rattle.cf_load.proofs.finals.find_scanned.Goals as goal

pub returns : goal.returns
returns g c = has_found c.args.shape.now c.args.ask.now (flat_map entries_in c.args.parts.items) c.scan_parts.result c.scan_parts.ensures.count c.scan_parts.ensures.found
