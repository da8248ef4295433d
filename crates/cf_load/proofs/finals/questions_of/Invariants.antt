use Rattle.std.specs.List.{AllZip}
use Rattle.cf_load.specs.Readers.{IsQuestion}
use Rattle.cf_segments.specs.Segments.{KeepsAll}
use Rattle.cf_load.proofs.finals.questions_of.Given as goal

abbrev pub invariant-loop-ask : goal.invariant-loop-ask
invariant-loop-ask g l = record {
  keeps : KeepsAll l.initial.segments l.segments;
  are : AllZip (IsQuestion l.initial.segments) l.yielded l.questions.items;
}
