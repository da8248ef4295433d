use Rattle.cf_window.proofs.Courses.{course_all}
use Rattle.cf_window.proofs.laws.windows_are_of_records.Goals as goal

pub returns : goal.returns
returns c = λ shape most forced reads. (course_all shape most forced reads).segments
