use Rattle.std.proofs.Common.{◌≡◌, ◌≤◌, ℕ, List, drop, Option, Some, None, refl, sym, subst, arith, rules}
use Rattle.cf_pcap.specs.declared.form.Order.{Order}
use Rattle.cf_pcapng.specs.declared.fault.Flaw.{Flaw}
use Rattle.cf_pcapng.specs.Position.{state_of}
use Rattle.cf_pcapng.specs.Reading.{AreRead, AreReadOn, IsPassedAt, Begins}
use Rattle.cf_pcapng.proofs.Passing.{not_some, room_at, begins_whole, begins_passed}
use Rattle.cf_pcapng.proofs.passed.drop_passed_block.Goals as goal

pub within-some-requires-clause-room : goal.within-some-requires-clause-room
within-some-requires-clause-room c =
    let most : 12 ≤ c.in-Some.block.total = room_at c.order.result c.args.read.rest.now c.in-Some.block c.in-Some.ensures in
    let none : c.in-Some.block.gone ≡ 0 = c.in-Some.ensures.1 in
    omega (arith, most, none)

pub returns-in_ok-held-in-None-clause-read : goal.returns-in_ok-held-in-None-clause-read
returns-in_ok-held-in-None-clause-read c = (
  refl,
  λ scope s bytes frames read.
      let all = c.args.read in
      let none : all.flaw ≡ None = not_some all.flaw (search rules) in
      let at : IsPassedAt all.position.order all.rest.now None =
      subst (λ (o : Option Order). IsPassedAt o all.rest.now None) c.order.ensures c.in-None.ensures in
      let now : AreRead scope s bytes frames (state_of all.position) all.rest.now None =
      subst (λ (x : Option Flaw). AreRead scope s bytes frames (state_of all.position) all.rest.now x) none read in
      let held : c.in_ok-held-in-None.held.items ≡ all.rest.now = search rules in
      subst (λ (x : Option Flaw). AreReadOn scope s bytes frames (state_of all.position) None c.in_ok-held-in-None.held.items x) (sym none)
      (subst (λ (xs : List ℕ). Begins scope s bytes frames (state_of all.position) None xs) (sym held)
      (begins_whole scope s bytes frames (state_of all.position) all.rest.now now at)),
)

pub returns-in_ok-held-in-Some-clause-read : goal.returns-in_ok-held-in-Some-clause-read
returns-in_ok-held-in-Some-clause-read c = (
  refl,
  λ scope s bytes frames read.
      let all = c.args.read in
      let block = c.in-Some.block in
      let passed = c.within-some.result.0 in
      let some = c.within-some.result.1 in
      let none : all.flaw ≡ None = not_some all.flaw (search rules) in
      let at : IsPassedAt all.position.order all.rest.now (Some block) =
      subst (λ (o : Option Order). IsPassedAt o all.rest.now (Some block)) c.order.ensures c.in-Some.ensures in
      let held : c.in_ok-held-in-Some.held.items ≡ drop some all.rest.now = search rules in
      let now : AreRead scope s bytes frames (state_of all.position) all.rest.now None =
      subst (λ (x : Option Flaw). AreRead scope s bytes frames (state_of all.position) all.rest.now x) none read in
      let done : Begins scope s bytes frames (state_of all.position) (Some passed) (drop some all.rest.now) =
      begins_passed scope s bytes frames (state_of all.position) all.rest.now block passed some now at c.within-some.ensures in
      subst (λ (x : Option Flaw). AreReadOn scope s bytes frames (state_of all.position) (Some passed) c.in_ok-held-in-Some.held.items x) (sym none)
      (subst (λ (xs : List ℕ). Begins scope s bytes frames (state_of all.position) (Some passed) xs) (sym held) done),
)
