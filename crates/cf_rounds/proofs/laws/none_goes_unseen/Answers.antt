use Rattle.cf_window.specs.Windows.{rows_in_all}
use Rattle.cf_window.proofs.Courses.{seen_now}
use Rattle.cf_rounds.specs.Streams.{after_reads, course_of}
use Rattle.cf_rounds.proofs.Onward.{course_all}
use Rattle.cf_rounds.proofs.laws.none_goes_unseen.Goals as goal

pub returns : goal.returns
returns c = λ terms reads number low.
    seen_now terms.shape terms.most (rows_in_all reads) (course_of (after_reads terms reads)) (course_all terms reads) number low
