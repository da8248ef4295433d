use Rattle.std.proofs.Common.{ℕ, List, Option, Some, Err, subst}
use Rattle.cf_command.specs.Call.{long_by}
use Rattle.cf_command.specs.Call.Call.{long}
use Rattle.cf_intake.specs.declared.refusal.Halt.{Halt}
use Rattle.cf_outside.specs.Files.{File}
use Rattle.cf_run.specs.Parts.{IsPrepared, LongBegins}
use Rattle.cf_run.proofs.Coming.{refused_prepared}
use Rattle.cf_run.proofs.long_run.prepare_long.Goals as goal

pub returns-in-Ok-clause-prepared : goal.returns-in-Ok-clause-prepared
returns-in-Ok-clause-prepared g c =
    subst (λ (told : Option (List File)). IsPrepared told (Some (long (long_by c.args.command.now))) (g.F.Shelf.rest c.args.shelf.now)
    (g.F.Shelf.rest c.read_long.new.shelf) c.read_long.result) c.begin.ensures.files (c.read_long.ensures.prepared (g.F.Shelf.rest c.args.shelf.now))

pub returns-in-Err-Refused-clause-prepared : goal.returns-in-Err-Refused-clause-prepared
returns-in-Err-Refused-clause-prepared g c =
    refused_prepared (g.F.Shelf.files c.args.shelf.now) (Some (long (long_by c.args.command.now))) (g.F.Shelf.rest c.args.shelf.now)
    (g.F.Shelf.rest c.begin.new.shelf) c.in-Err-Refused.refusal c.refused.result
    (subst (λ (h : Halt). LongBegins (g.F.Shelf.files c.args.shelf.now) (long_by c.args.command.now) (g.F.Shelf.rest c.args.shelf.now)
    (g.F.Shelf.rest c.begin.new.shelf) (Err h)) c.in-Err-Refused.field-0-is c.in-Err-Refused.ensures.begins) c.refused.ensures
