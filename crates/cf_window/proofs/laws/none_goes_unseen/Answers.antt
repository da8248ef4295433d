use Rattle.std.proofs.Common.{fold}
use Rattle.cf_window.specs.Rounds.{start, was_read}
use Rattle.cf_window.specs.Windows.{rows_in_all}
use Rattle.cf_window.proofs.Courses.{course_all, seen_now}
use Rattle.cf_window.proofs.laws.none_goes_unseen.Goals as goal

pub returns : goal.returns
returns c = λ shape most forced reads number low. seen_now shape most (rows_in_all reads) (fold (was_read shape most forced) start reads)
    (course_all shape most forced reads) number low
