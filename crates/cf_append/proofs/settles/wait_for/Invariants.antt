use Rattle.std.proofs.Common.{◌≡◌, ◌⊎◌}
use Rattle.cf_append.specs.Appends.{PassGoesOn, Rests}
use Rattle.cf_table.specs.Loads.{CountsLoads}
use Rattle.cf_table.specs.Moves.{HasAll, SeenFirst, Stops}
use Rattle.cf_append.proofs.settles.wait_for.Given as goal

abbrev pub invariant-loop : goal.invariant-loop
invariant-loop g l =
    record {
      next : (goal.iterator-loop g).can_next l.iterator';
      finite : (goal.iterator-loop g).is_finite l.iterator';
      goes_on : PassGoesOn l.fn.pass l.pass;
      loads : CountsLoads l.fn.pass l.pass l.fn.steps l.steps;
      books : (l.pass.view).books ≡ (l.fn.pass.view).books;
      stops : (l.pass ≡ l.fn.pass)
          ⊎ Stops l.log.shape l.fn.pass.view l.pass.view;
      begins : SeenFirst l.fn.pass.view → SeenFirst l.pass.view;
      alone : (l.log.shape).writers ≡ 1
          → Rests l.fn.pass.view → HasAll l.fn.pass.view → HasAll l.pass.view;
    }
