use Rattle.cf_rounds.proofs.Onward.{course_all}
use Rattle.cf_rounds.proofs.laws.windows_are_of_records.Goals as goal

pub returns : goal.returns
returns c = λ terms reads. ((course_all terms reads).segments, (course_all terms reads).count)
