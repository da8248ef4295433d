use Rattle.std.proofs.Common.{true}
use Rattle.cf_snapshot.proofs.Coursing.{course_kept}
use Rattle.cf_snapshot.proofs.course.Course.freeze.Goals as goal

pub invariant_of-self : goal.invariant_of-self
invariant_of-self c = course_kept c.self.inside.rows.items c.self.inside.host c.freeze.new.self true c.self.invariant c.freeze.ensures.host
