use Rattle.cf_log_tests.proofs.Writers.{dealt_out}
use Rattle.cf_log_tests.proofs.tests.dealt.Goals as goal

pub returns : goal.returns
returns c = dealt_out c.args.shape c.in_ok-log.log c.in_ok-log.root c.deal.new.root c.in_ok-passes.passes.items c.in_ok-log.ensures.shape
    c.in_ok-log.ensures.root c.in_ok-passes.ensures.dealt
