use Rattle.std.proofs.Common.{◌≡◌, Option, Some, None, Err, subst, rules}
use Rattle.cf_command.specs.Call.{Call, call_by, run_by, synth_by, dump_by, snapshot_by}
use Rattle.std.specs.Option.{option_map}
use Rattle.cf_run.specs.Watched.{HasProduct}
use Rattle.cf_command.specs.Call.Call.{run, synth, dump, snapshot}
use Rattle.cf_command.specs.declared.words.Command.{Command}
use Rattle.cf_run.specs.Parts.{EndsWith}
use Rattle.cf_intake.specs.declared.refusal.Halt.TheVariants.{Refused}
use Rattle.cf_intake.specs.declared.refusal.Refusal.TheVariants as refusals
use Rattle.cf_run.proofs.Coming.{words_due}
use Rattle.cf_run.proofs.prepare.product_of.Goals as goal

pub returns-in-Some-Run-clause-ends : goal.returns-in-Some-Run-clause-ends
returns-in-Some-Run-clause-ends g c =
    let is : Some (run (run_by c.in-Some-Run.command)) ≡ option_map call_by c.args.command = search rules in
    subst (λ (call : Option Call). EndsWith (g.F.Shelf.files c.args.shelf.now) call (g.F.Shelf.rest c.args.shelf.now)
    (g.F.Shelf.rest c.run_report.new.shelf) c.run_report.result) is c.run_report.ensures.ends

pub returns-in-Some-Synth-clause-ends : goal.returns-in-Some-Synth-clause-ends
returns-in-Some-Synth-clause-ends g c =
    let is : Some (synth (synth_by c.in-Some-Synth.command)) ≡ option_map call_by c.args.command = search rules in
    subst (λ (call : Option Call). EndsWith (g.F.Shelf.files c.args.shelf.now) call (g.F.Shelf.rest c.args.shelf.now)
    (g.F.Shelf.rest c.synth_answers.new.shelf) c.synth_answers.result) is c.synth_answers.ensures.ends

pub returns-in-Some-Dump-clause-ends : goal.returns-in-Some-Dump-clause-ends
returns-in-Some-Dump-clause-ends g c =
    let is : Some (dump (dump_by c.in-Some-Dump.command)) ≡ option_map call_by c.args.command = search rules in
    subst (λ (call : Option Call). EndsWith (g.F.Shelf.files c.args.shelf.now) call (g.F.Shelf.rest c.args.shelf.now)
    (g.F.Shelf.rest c.dump_listing.new.shelf) c.dump_listing.result) is c.dump_listing.ensures.ends

pub returns-in-Some-Snapshot-clause-ends : goal.returns-in-Some-Snapshot-clause-ends
returns-in-Some-Snapshot-clause-ends g c =
    let is : Some (snapshot (snapshot_by c.in-Some-Snapshot.command)) ≡ option_map call_by c.args.command = search rules in
    subst (λ (call : Option Call). EndsWith (g.F.Shelf.files c.args.shelf.now) call (g.F.Shelf.rest c.args.shelf.now)
    (g.F.Shelf.rest c.snapshot_answers.new.shelf) c.snapshot_answers.result) is c.snapshot_answers.ensures.ends

pub returns-in-None-clause-ends : goal.returns-in-None-clause-ends
returns-in-None-clause-ends g c =
    let is : None ≡ option_map call_by c.args.command = search rules in
    subst (λ (call : Option Call). EndsWith (g.F.Shelf.files c.args.shelf.now) call (g.F.Shelf.rest c.args.shelf.now) (g.F.Shelf.rest c.args.shelf.now)
    (Err (Refused refusals.Words))) is (words_due (g.F.Shelf.files c.args.shelf.now) (g.F.Shelf.rest c.args.shelf.now))

pub unreachable-requires : goal.unreachable-requires
unreachable-requires g c =
    subst (λ (command : Command). HasProduct (Some (call_by command))) c.in-Some-Watch.field-0-is
    (subst (λ (command : Option Command). HasProduct (option_map call_by command)) c.in-Some-Watch.is c.requires.whole)

pub unreachable-requires-in-Some-Long : goal.unreachable-requires-in-Some-Long
unreachable-requires-in-Some-Long g c =
    subst (λ (command : Command). HasProduct (Some (call_by command))) c.in-Some-Long.field-0-is
    (subst (λ (command : Option Command). HasProduct (option_map call_by command)) c.in-Some-Long.is c.requires.whole)
