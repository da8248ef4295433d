use Rattle.std.proofs.Common.{◌∙◌, List, sym, subst}
use Rattle.cf_table.specs.Values.{PassValue}
use Rattle.cf_table.specs.Moves.{AreAll}
use Rattle.cf_log_tests.proofs.Writers.{both_ready, all_two}
use Rattle.cf_log_tests.proofs.tests.at_once.Goals as goal

pub beside-first-requires-clause-ready : goal.beside-first-requires-clause-ready
beside-first-requires-clause-ready g c κs within =
    both_ready c.in_ok-shape.shape c.in_ok-log.log c.in_ok-log.root c.two_of-first.result.0 c.two_of-first.result.1 c.in_ok-log.passes.items
    c.two_of-first.ensures.0 c.in_ok-log.ensures c.two_of-first.ensures.1

pub gather-requires-clause-all : goal.gather-requires-clause-all
gather-requires-clause-all g c =
    let log = c.in_ok-log.log in
    let ready = c.beside-first.ensures in
    let all = all_two log c.beside-first.result.0 c.beside-first.result.1 ((c.in_ok-log.ensures).writers ∙ c.in_ok-shape.ensures) ready.0 ready.1 in
    subst (λ (hs : List PassValue). AreAll log hs) (sym c.in_ok-vec.ensures.items) all
