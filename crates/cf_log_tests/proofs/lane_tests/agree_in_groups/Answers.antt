use Rattle.std.proofs.Common.{rules}
use Rattle.cf_query.proofs.Walking.{aggregate_there}
use Rattle.cf_log_tests.proofs.lane_tests.agree_in_groups.Goals as goal

pub groups-requires-clause-lane : goal.groups-requires-clause-lane
groups-requires-clause-lane g c = record { of = c.requires.of; exists = (aggregate_there c.args.log.now.shape 0 (search rules)).0 }

pub groups-requires-clause-measured : goal.groups-requires-clause-measured
groups-requires-clause-measured g c = (aggregate_there c.args.log.now.shape 0 (search rules)).1
