use Rattle.cf_project.proofs.Whole.{row_whole, shape_whole}
use Rattle.cf_project.proofs.laws.nothing_is_lost.Goals as goal

pub returns : goal.returns
returns c = λ kept shape keeps all. (shape_whole kept all shape keeps, λ row fits. row_whole kept all shape row keeps fits)
