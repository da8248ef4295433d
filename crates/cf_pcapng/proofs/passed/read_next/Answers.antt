use Rattle.std.proofs.Common.{◌≡◌, ◌++◌, List, [], ℕ, Option, sym, subst, ◌∙◌}
use Rattle.cf_pcapng.specs.declared.passed.Passed.{Passed}
use Rattle.cf_pcapng.specs.Position.{state_of}
use Rattle.cf_pcapng.specs.Reading.{WasPassed, AreReadOn}
use Rattle.cf_pcapng.proofs.Passing.{sound_of}
use Rattle.cf_pcapng.proofs.Nexts.{by_ok}
use Rattle.cf_pcapng.proofs.passed.read_next.Goals as goal

pub returns-in_ok-read-in-None-clause-sound : goal.returns-in_ok-read-in-None-clause-sound
returns-in_ok-read-in-None-clause-sound c =
    let all = c.in_ok-read-in-None.ensures.read in
    by_ok c.drop_passed_block.result _ _
    (λ given on. sound_of c.args.scope (state_of c.args.position) c.args.bytes.now all.more
    (state_of given.position) given.passed given.held.items given.flaw c.requires.few
    (on.1 c.args.scope (state_of c.args.position) c.args.bytes.now all.more all.read)) c.drop_passed_block.ensures.read

pub returns-in_ok-read-in-None-clause-read : goal.returns-in_ok-read-in-None-clause-read
returns-in_ok-read-in-None-clause-read c =
    let all = c.in_ok-read-in-None.ensures.read in
    let s = state_of c.args.position in
    let bytes = c.args.bytes.now in
    by_ok c.drop_passed_block.result _ _
    (λ given on. record {
      more = all.more;
      frames_are = on.0 ∙ all.frames_are;
      read = λ gone was.
          let none : gone ≡ [] = subst (λ (p : Option Passed). WasPassed c.args.position.order p gone) c.in-None.is was in
          subst (λ (xs : List ℕ). AreReadOn c.args.scope s (xs ++ bytes) all.more (state_of given.position) given.passed given.held.items given.flaw)
          (sym none) (on.1 c.args.scope s bytes all.more all.read);
    }) c.drop_passed_block.ensures.read
