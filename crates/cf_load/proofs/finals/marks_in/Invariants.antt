use Rattle.std.proofs.Common.{◌≡◌, map, All}
use Rattle.std.specs.Vec.Iter.{into_iter_items}
use Rattle.cf_load.specs.Planned.{IsMarks, as_marks, body_of}
use Rattle.cf_load.proofs.finals.marks_in.Given as goal

abbrev pub invariant-loop-answer : goal.invariant-loop-answer
invariant-loop-answer l = record {
  rest : All IsMarks (into_iter_items l.answer-iterator);
  marks : map body_of l.yielded ≡ map as_marks l.all.items;
}
