use Rattle.cf_window.specs.Windows.{rows_in_all}
use Rattle.cf_window.proofs.Courses.{course_round}
use Rattle.cf_rounds.specs.Streams.{after_reads, course_of}
use Rattle.cf_rounds.proofs.Onward.{course_all}
use Rattle.cf_rounds.proofs.laws.rounds_are_on_windows.Goals as goal

pub returns : goal.returns
returns c = λ terms reads.
    (course_round terms.shape terms.most (rows_in_all reads) (course_of (after_reads terms reads)) (course_all terms reads)).rounds
