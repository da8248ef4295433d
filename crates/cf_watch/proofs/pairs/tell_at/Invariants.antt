use Rattle.std.proofs.Common.{◌≡◌, map, drop}
use Rattle.cf_watch.specs.Marks.{with_told}
use Rattle.cf_watch.specs.Notes.{AreUntoldAt}
use Rattle.cf_watch.proofs.pairs.tell_at.Given as goal

abbrev pub invariant-loop-at : goal.invariant-loop-at
invariant-loop-at l = record {
  told : map (with_told l.trigger l.place) l.pairs ≡ map (with_told l.trigger l.place) l.initial.pairs;
  untold : AreUntoldAt l.trigger l.place (drop l.at-index l.places) l.pairs;
}
