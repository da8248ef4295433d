use Rattle.std.proofs.Common.{◌≡◌, ◌++◌, false, map, take, drop}
use Rattle.std.specs.List.{list_any}
use Rattle.cf_watch.specs.Marks.{is_untold, with_told}
use Rattle.cf_watch.proofs.pairs.tell_all.Given as goal

abbrev pub invariant-loop-at : goal.invariant-loop-at
invariant-loop-at l = record {
  told : l.pairs ≡ map (with_told l.trigger l.place) (take l.at l.initial.pairs) ++ drop l.at l.initial.pairs;
  quiet : list_any (is_untold l.trigger l.place) (take l.at l.pairs) ≡ false;
}
