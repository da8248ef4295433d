use Rattle.std.proofs.Common.{length}
use Rattle.cf_rounds.proofs.Suited.{told_low}
use Rattle.cf_rounds.proofs.marks.marks_of_all.Goals as goal

pub marks_of-requires : goal.marks_of-requires
marks_of-requires c =
    told_low c.args.setup.now c.triggers-triggers.ensures.lawful c.triggers-triggers.result.now (length c.args.kept.now) c.loop-trigger.trigger-index
    c.triggers-triggers.ensures.triggers c.requires.lanes c.loop-trigger-test.true _
