use Rattle.std.proofs.Common.{◌≡◌, ◌⊎◌, inl, inr, ◌++◌, List, [], ℕ, Option, None, length, true, is_some, sym, ap, subst, ◌∙◌, rules}
use Rattle.std.proofs.lemmas.List.{nil_from_length}
use Rattle.cf_pcapng.specs.declared.fault.Flaw.{Flaw}
use Rattle.cf_pcapng.specs.Position.{state_of}
use Rattle.cf_pcapng.specs.Reading.{AreReadOn, AreReadOnAfter}
use Rattle.cf_pcapng.proofs.Passing.{not_some, then_on, still_read}
use Rattle.cf_pcapng.proofs.Nexts.{by_ok}
use Rattle.cf_pcapng.proofs.passed.read_on.Goals as goal
use Rattle.cf_pcapng.proofs.passed.read_on.Goals.{then-is_some-via-then-is_some, then-is_some-via-else-is_some+then-is_empty}

pub returns-then-is_some-clause-read : goal.returns-then-is_some-clause-read
returns-then-is_some-clause-read c = λ s bytes on.
    let given = c.args.given in
    let more = c.args.more.now in
    let still : (is_some given.flaw ≡ true) ⊎ (more ≡ []) = elim c.then-is_some.branch [
      | then-is_some-via-then-is_some w ↦ inl (search rules)
      | then-is_some-via-else-is_some+then-is_empty w ↦ let none : length more ≡ 0 = search rules in inr (nil_from_length more none)
    ] in
    still_read c.args.scope s bytes more given.frames.items (state_of given.position) given.passed given.held.items given.flaw still on

pub returns-then-is_empty-2-clause-read : goal.returns-then-is_empty-2-clause-read
returns-then-is_empty-2-clause-read c =
    let given = c.args.given in
    let more = c.args.more.now in
    let none : given.flaw ≡ None = not_some given.flaw (search rules) in
    let empty : length given.held.items ≡ 0 = search rules in
    let bytes_are : more ≡ given.held.items ++ more = ap (λ xs. xs ++ more) (sym (nil_from_length given.held.items empty)) in
    by_ok c.read_next.result _ _
    (λ after next. λ s bytes on. then_on c.args.scope s bytes more given.frames.items after.frames.items (state_of given.position) given.passed
    given.held.items (state_of after.position) after.passed after.held.items after.flaw
    (subst (λ (x : Option Flaw). AreReadOn c.args.scope s bytes given.frames.items (state_of given.position) given.passed given.held.items x) none on)
    (subst (λ (xs : List ℕ). AreReadOnAfter c.args.scope (state_of given.position) given.passed xs given.frames.items after.frames.items
    (state_of after.position) after.passed after.held.items after.flaw) bytes_are next)) c.read_next.ensures.read

pub returns-clause-read : goal.returns-clause-read
returns-clause-read c =
    let given = c.args.given in
    let more = c.args.more.now in
    let none : given.flaw ≡ None = not_some given.flaw (search rules) in
    let bytes_are : c.deref-2.result.now ≡ given.held.items ++ more = c.deref-2.ensures.value ∙ c.in_ok-bytes.ensures
    ∙ ap (λ xs. xs ++ more) c.deref.ensures.value in
    by_ok c.read_next-2.result _ _
    (λ after next. λ s bytes on. then_on c.args.scope s bytes more given.frames.items after.frames.items (state_of given.position) given.passed
    given.held.items (state_of after.position) after.passed after.held.items after.flaw
    (subst (λ (x : Option Flaw). AreReadOn c.args.scope s bytes given.frames.items (state_of given.position) given.passed given.held.items x) none on)
    (subst (λ (xs : List ℕ). AreReadOnAfter c.args.scope (state_of given.position) given.passed xs given.frames.items after.frames.items
    (state_of after.position) after.passed after.held.items after.flaw) bytes_are next)) c.read_next-2.ensures.read
