use Rattle.cf_window.proofs.Courses.{few_all}
use Rattle.cf_window.proofs.laws.windows_are_few.Goals as goal

pub returns : goal.returns
returns c = λ shape most rows some. few_all shape most rows some
