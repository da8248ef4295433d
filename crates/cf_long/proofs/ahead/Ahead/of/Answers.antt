use Rattle.std.proofs.Common.{◌∙◌, List, Option, sym, subst, arith}
use Rattle.cf_outside.specs.Files.{File}
use Rattle.cf_long.specs.Ahead.{IsAhead}
use Rattle.cf_long.proofs.ahead.Ahead.of.Goals as goal

pub returns-then-len-ge-ENOUGH-clause-ahead : goal.returns-then-len-ge-ENOUGH-clause-ahead
returns-then-len-ge-ENOUGH-clause-ahead g c = λ rows at.
    let inv = c.loop-made.invariant in
    subst (λ (told : Option (List File)). IsAhead c.loop-made.series told (g.F.Shelf.rest c.loop-made.shelf) c.args.marks.now rows c.loop-made.ahead)
    inv.files (inv.ahead rows at)

pub read-requires-clause-ahead : goal.read-requires-clause-ahead
read-requires-clause-ahead g c = (c.requires.begun.0, c.loop-made.invariant.ahead c.requires.begun.0 c.requires.begun.1)

pub loop-made-preserved : goal.loop-made-preserved
loop-made-preserved g c =
    let inv = c.loop-made.invariant in
    let kept = c.in_ok-read.ensures.series in
    let files = c.in_ok-read.ensures.files in record {
      series = record { names = kept.names ∙ inv.series.names; schema = kept.schema ∙ inv.series.schema; truncated = kept.truncated ∙ inv.series.truncated };
      files = files ∙ inv.files;
      ahead = λ rows at. subst (λ (told : Option (List File)). IsAhead c.read.new.series told (g.F.Shelf.rest c.read.new.shelf) c.args.marks.now rows c.read.new.self)
          (sym files) (c.in_ok-read.ensures.ahead rows (inv.ahead rows at));
      fit = c.in_ok-read.ensures.fit inv.fit;
      few = (let low = c.if-len-ge-ENOUGH.false in let len = c.len.ensures in let more = c.in_ok-read.ensures.few in omega (arith, low, len, more));
      later = (let first = inv.later in let next = c.in_ok-read.ensures.cause.later in omega (arith, first, next));
    }
