use Rattle.std.proofs.Common.{◌≡◌, ◌++◌, Option, refl, sym, ap, subst, ◌∙◌}
use Rattle.cf_pcapng.specs.declared.fault.Flaw.{Flaw}
use Rattle.cf_pcapng.specs.declared.fault.NgFault.TheVariants.{TooManyBytes}
use Rattle.cf_pcapng.specs.File.{fault_of}
use Rattle.cf_pcapng.specs.Position.{state_of}
use Rattle.cf_pcapng.specs.Reader.{ShowsLate}
use Rattle.cf_pcapng.proofs.Feeding.{limit_stage}
use Rattle.cf_pcapng.proofs.reader.stage_at_limit.Goals as goal

pub returns-in-Some : goal.returns-in-Some
returns-in-Some c =
    let given = c.args.given.now in
    let last = c.in_ok-last.last in
    let bytes : c.deref.result.now ++ c.args.byte.now ≡ given.held.items ++ c.args.byte.now = ap (λ xs. xs ++ c.args.byte.now) c.deref.ensures.value in
    let fault : c.after.result ≡ fault_of last.position.count c.in-Some.flaw = c.after.ensures ∙ ap (λ n. fault_of n c.in-Some.flaw) c.count.ensures in
    let shows : ShowsLate last.flaw (state_of last.position) c.after.result =
    subst (λ (x : Option Flaw). ShowsLate x (state_of last.position) c.after.result) (sym c.in-Some.is) fault in
    limit_stage c.args.scope (state_of given.position)
    (state_of c.in_ok-position.position) given.passed given.held.items c.args.byte.now (c.deref.result.now ++ c.args.byte.now) last.frames.items
    (state_of last.position) last.passed last.held.items last.flaw c.after.result bytes
    (ap state_of c.in_ok-position.ensures) c.in_ok-last.ensures.read shows

pub returns : goal.returns
returns c =
    let given = c.args.given.now in
    let last = c.in_ok-last.last in
    let bytes : c.deref.result.now ++ c.args.byte.now ≡ given.held.items ++ c.args.byte.now = ap (λ xs. xs ++ c.args.byte.now) c.deref.ensures.value in
    let shows : ShowsLate last.flaw (state_of last.position) TooManyBytes =
    subst (λ (x : Option Flaw). ShowsLate x (state_of last.position) TooManyBytes) (sym c.in-None.is) refl in
    limit_stage c.args.scope (state_of given.position)
    (state_of c.in_ok-position.position) given.passed given.held.items c.args.byte.now (c.deref.result.now ++ c.args.byte.now) last.frames.items
    (state_of last.position) last.passed last.held.items last.flaw TooManyBytes bytes (ap state_of c.in_ok-position.ensures) c.in_ok-last.ensures.read shows
