use Rattle.std.proofs.Common.{◌∙◌}
use Rattle.cf_project.proofs.Found.{ask_alike, marks_same, watches_same}
use Rattle.cf_project.proofs.Meant.{holds_same, lane_alike, nodes_same}
use Rattle.cf_project.proofs.laws.kept_mean_the_same.Goals as goal

pub returns-clause-expressions : goal.returns-clause-expressions
returns-clause-expressions c = λ kept expr row is. holds_same kept row expr is

pub returns-clause-lanes : goal.returns-clause-lanes
returns-clause-lanes c = λ kept shape lane row keeps lawful. lane_alike kept shape keeps lawful lane row

pub returns-clause-nodes : goal.returns-clause-nodes
returns-clause-nodes c = λ kept shape rows keeps lawful. nodes_same kept shape keeps lawful rows

pub returns-clause-asks : goal.returns-clause-asks
returns-clause-asks c = λ kept shape ask rows keeps lawful is. ask_alike kept shape keeps lawful rows ask is

pub returns-clause-triggers : goal.returns-clause-triggers
returns-clause-triggers c = λ kept shape trigger rows keeps lawful. (λ suits. watches_same kept shape keeps lawful trigger ∙ suits, marks_same kept shape keeps lawful rows trigger)
