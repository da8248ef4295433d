use Rattle.std.proofs.Common.{◌≡◌, ◌++◌, List, ℕ, length, take, ap, subst, ◌∙◌}
use Rattle.std.proofs.lemmas.List.{take-append-drop}
use Rattle.cf_pcapng.specs.Position.{state_of}
use Rattle.cf_pcapng.specs.Reading.{AreReadOn, IsGoneOn}
use Rattle.cf_pcapng.proofs.Passing.{in_parts, first_read, both_lengths}
use Rattle.cf_pcapng.proofs.Nexts.{by_ok}
use Rattle.cf_pcapng.proofs.passed.read_piece.Goals as goal

pub returns-clause-sound : goal.returns-clause-sound
returns-clause-sound c =
    let given = c.in_ok-given.given in
    let s = state_of c.args.position in
    let held = c.args.held.now in
    let more = c.args.more.now in
    let first = c.cut_at.result.0.now in
    let others = c.cut_at.result.1.now in
    let bytes_are : c.deref.result.now ≡ held ++ first = c.deref.ensures.value ∙ c.in_ok-bytes.ensures in
    let whole : first ++ others ≡ more = ap (λ xs. xs ++ others) c.cut_at.ensures.first
    ∙ ap (λ xs. take c.in_ok-count.count more ++ xs) c.cut_at.ensures.others ∙ take-append-drop c.in_ok-count.count more in
    let had : IsGoneOn c.args.scope.length s (length (held ++ first)) (state_of given.position) given.passed given.held.items given.flaw =
    subst (λ (xs : List ℕ). IsGoneOn c.args.scope.length s (length xs) (state_of given.position) given.passed given.held.items given.flaw) bytes_are
    c.in_ok-given.ensures.sound in
    by_ok c.read_on.result _ _
    (λ after on. subst (λ n. IsGoneOn c.args.scope.length s n (state_of after.position) after.passed after.held.items after.flaw)
    (both_lengths held first others more whole) (on s (length (held ++ first)) had)) c.read_on.ensures.sound

pub returns-clause-read : goal.returns-clause-read
returns-clause-read c =
    let given = c.in_ok-given.given in
    let s = state_of c.args.position in
    let held = c.args.held.now in
    let more = c.args.more.now in
    let first = c.cut_at.result.0.now in
    let others = c.cut_at.result.1.now in
    let bytes_are : c.deref.result.now ≡ held ++ first = c.deref.ensures.value ∙ c.in_ok-bytes.ensures in
    let whole : first ++ others ≡ more = ap (λ xs. xs ++ others) c.cut_at.ensures.first
    ∙ ap (λ xs. take c.in_ok-count.count more ++ xs) c.cut_at.ensures.others ∙ take-append-drop c.in_ok-count.count more in
    by_ok c.read_on.result _ _
    (λ after on. λ gone was.
    subst (λ (xs : List ℕ). AreReadOn c.args.scope s xs after.frames.items (state_of after.position) after.passed after.held.items after.flaw)
    (in_parts gone held first others more whole)
    (on s (gone ++ (held ++ first))
    (first_read c.args.scope s c.args.passed c.deref.result.now (held ++ first) c.new.result.items given.frames.items (state_of given.position)
    given.passed given.held.items given.flaw gone bytes_are c.new.ensures.items c.in_ok-given.ensures.read was))) c.read_on.ensures.read
