use Rattle.std.proofs.Common.{false}
use Rattle.cf_snapshot.proofs.Coursing.{course_kept}
use Rattle.cf_snapshot.proofs.course.Course.thaw.Goals as goal

pub invariant_of-self : goal.invariant_of-self
invariant_of-self c = course_kept c.self.inside.rows.items c.self.inside.host c.thaw.new.self false c.self.invariant c.thaw.ensures.host
