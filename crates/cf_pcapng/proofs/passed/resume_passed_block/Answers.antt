use Rattle.std.proofs.Common.{◌≡◌, ℕ, List, [], ◌++◌, length, drop, Some, sym, subst, ◌∙◌, append-nil, rules}
use Rattle.cf_pcapng.specs.Position.{state_of}
use Rattle.cf_pcapng.specs.Reading.{AreRead, IsSoundOn, Begins}
use Rattle.cf_pcapng.proofs.Passing.{goes_within, goes_wrong, goes_over, sound_over, sound_within}
use Rattle.cf_pcapng.proofs.Nexts.{by_ok}
use Rattle.cf_pcapng.proofs.passed.resume_passed_block.Goals as goal

pub returns-in_ok-read-in-Over-clause-read : goal.returns-in_ok-read-in-Over-clause-read
returns-in_ok-read-in-Over-clause-read c =
    let s = state_of c.args.position in
    let bytes = c.args.bytes.now in
    let left = c.in-Over.left in
    let read = c.in_ok-read-in-Over.read in
    let all = c.in_ok-read-in-Over.ensures.read in
    let rest : AreRead c.args.scope s (drop left bytes) all.more (state_of read.position) read.rest.now read.flaw =
    subst (λ (xs : List ℕ). AreRead c.args.scope s xs all.more (state_of read.position) read.rest.now read.flaw) c.split_at.ensures.back all.read in
    by_ok c.drop_passed_block.result _ _
    (λ given on. record {
      more = all.more;
      frames_are = on.0 ∙ all.frames_are;
      read = λ gone was. on.1 c.args.scope s (gone ++ bytes) all.more
          (goes_over c.args.scope s c.args.block gone bytes left all.more (state_of read.position) read.rest.now read.flaw was c.in-Over.ensures.0
          c.in-Over.ensures.1 c.in-Over.ensures.2 rest);
    }) c.drop_passed_block.ensures.read

pub returns-in_ok-held-in-Within-clause-read : goal.returns-in_ok-held-in-Within-clause-read
returns-in_ok-held-in-Within-clause-read c =
    let s = state_of c.args.position in
    let bytes = c.args.bytes.now in
    let passed = c.in-Within.passed in
    let some = c.in-Within.some in
    let held : c.in_ok-held-in-Within.held.items ≡ drop some bytes = search rules in
    record {
      more = [];
      frames_are = sym (append-nil c.args.frames.items);
      read = λ gone was.
          subst (λ (xs : List ℕ). Begins c.args.scope s (gone ++ bytes) [] s (Some passed) xs) (sym held)
          (goes_within c.args.scope s c.args.block passed some gone bytes was c.in-Within.ensures.0 c.in-Within.ensures.1);
    }

pub returns-in-Flawed-clause-read : goal.returns-in-Flawed-clause-read
returns-in-Flawed-clause-read c = record {
  more = [];
  frames_are = sym (append-nil c.args.frames.items);
  read = λ gone was. goes_wrong c.args.scope (state_of c.args.position) c.args.block gone c.args.bytes.now was c.in-Flawed.ensures.0 c.in-Flawed.ensures.1;
}

pub returns-in_ok-read-in-Over-clause-sound : goal.returns-in_ok-read-in-Over-clause-sound
returns-in_ok-read-in-Over-clause-sound c =
    let s = state_of c.args.position in
    let bytes = c.args.bytes.now in
    let left = c.in-Over.left in
    let read = c.in_ok-read-in-Over.read in
    let all = c.in_ok-read-in-Over.ensures.read in
    let rest : AreRead c.args.scope s (drop left bytes) all.more (state_of read.position) read.rest.now read.flaw =
    subst (λ (xs : List ℕ). AreRead c.args.scope s xs all.more (state_of read.position) read.rest.now read.flaw) c.split_at.ensures.back all.read in
    by_ok c.drop_passed_block.result _ _
    (λ given on. sound_over c.args.scope s bytes left all.more (state_of given.position) given.passed given.held.items given.flaw c.requires.few
    (on.1 c.args.scope s (drop left bytes) all.more rest)) c.drop_passed_block.ensures.read

pub returns-in_ok-held-in-Within-clause-sound : goal.returns-in_ok-held-in-Within-clause-sound
returns-in_ok-held-in-Within-clause-sound c =
    let s = state_of c.args.position in
    let bytes = c.args.bytes.now in
    let passed = c.in-Within.passed in
    let some = c.in-Within.some in
    let held : c.in_ok-held-in-Within.held.items ≡ drop some bytes = search rules in
    subst (λ (xs : List ℕ). IsSoundOn c.args.scope.length s (length bytes) s (Some passed) xs) (sym held)
    (sound_within c.args.scope.length s c.args.block passed some bytes c.requires.few c.in-Within.ensures.1)
