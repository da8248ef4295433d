use Rattle.std.proofs.Common.{◌≡◌, ◌+◌, ◌<◌, ℕ, length, get_or}
use Rattle.cf_row.specs.Words.{IsEntry, spelled}
use Rattle.cf_table.specs.Loads.{CountsLoads}
use Rattle.cf_table.specs.Moves.{OnlyLooked}
use Rattle.cf_table.proofs.Reading.{entry_at}
use Rattle.cf_table.proofs.log.MultiLog.load_words.Given as goal

abbrev pub invariant-loop-i : goal.invariant-loop-i
invariant-loop-i g l = record {
  long : length l.words ≡ length l.initial.words;
  read : (k : ℕ) → k < l.i → get_or l.words k 0 ≡ get_or (spelled (entry_at (g.P.Pass.held l.fn.pass).view l.offset)) k 0;
  lawful : 0 < l.i → IsEntry (l.self.shape).schema (entry_at (g.P.Pass.held l.fn.pass).view l.offset);
  looked : OnlyLooked (g.P.Pass.held l.fn.pass) (g.P.Pass.held l.pass);
  steps : l.steps ≡ l.fn.steps + l.i;
  loads : CountsLoads (g.P.Pass.held l.fn.pass) (g.P.Pass.held l.pass) l.fn.steps l.steps;
}
