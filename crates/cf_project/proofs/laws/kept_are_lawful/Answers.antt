use Rattle.cf_project.proofs.Meant.{shape_lawful}
use Rattle.cf_project.proofs.Schemas.{fit_kept}
use Rattle.cf_project.proofs.laws.kept_are_lawful.Goals as goal

pub returns-clause-shapes : goal.returns-clause-shapes
returns-clause-shapes c = shape_lawful

pub returns-clause-rows : goal.returns-clause-rows
returns-clause-rows c = λ kept shape row fits. fit_kept kept shape.schema row.values fits
