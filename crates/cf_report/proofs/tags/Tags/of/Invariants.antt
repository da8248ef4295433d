use Rattle.std.proofs.Common.{◌≡◌, map, take}
use Rattle.cf_report.proofs.tags.Tags.of.Given as goal

abbrev pub invariant-loop-entry : goal.invariant-loop-entry
invariant-loop-entry l = record {
  nums : l.nums.items ≡ map (λ entry. entry.row.num) (take l.entry-index l.entries);
  writers : l.writers.items ≡ map (λ entry. entry.writer) (take l.entry-index l.entries);
}
