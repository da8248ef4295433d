use Rattle.std.proofs.Common.{◌≡◌, Bool, true, [], sym, subst, append-nil}
use Rattle.cf_pcap.specs.declared.stage.Stage.{Stage}
use Rattle.cf_pcap.specs.declared.stage.Stage.TheVariants.{Running, Stopped}
use Rattle.cf_pcap.specs.Stages.{answer_at}
use Rattle.cf_pcapng.specs.declared.fault.NgFault.{NgFault}
use Rattle.cf_pcapng.specs.Reader.{PcapNgValue, IsRunning, IsFed, IsKept}
use Rattle.cf_pcap.proofs.Stages.{running_of, at_running, answers_stopped, fed_stopped}
use Rattle.cf_pcapng.specs.File.{pcapng}
use Rattle.cf_pcapng.proofs.Steps.{stepper}
use Rattle.cf_pcapng.proofs.Feeding.{not_found}
use Rattle.cf_pcapng.proofs.reader.PcapNg.feed.Goals as goal

pub returns-in-Stopped-clause-fed : goal.returns-in-Stopped-clause-fed
returns-in-Stopped-clause-fed c =
    let is : c.args.self.now.stage ≡ Stopped c.in-Stopped.fault =
    subst (λ (r : PcapNgValue). r.stage ≡ Stopped c.in-Stopped.fault) c.self.view_is c.in-Stopped.is in
    let reader = c.args.self.now in
    λ _. (
      [],
      sym (append-nil c.args.out.now.items),
      λ stream state. fed_stopped (pcapng reader.scope) (stepper reader.scope) c.in-Stopped.fault reader.stage
          (IsRunning reader) stream c.args.piece.now is state,
    )

pub returns-in-Stopped-clause-stopped : goal.returns-in-Stopped-clause-stopped
returns-in-Stopped-clause-stopped c =
    let is : c.args.self.now.stage ≡ Stopped c.in-Stopped.fault =
    subst (λ (r : PcapNgValue). r.stage ≡ Stopped c.in-Stopped.fault) c.self.view_is c.in-Stopped.is in
    let reader = c.args.self.now in answers_stopped (pcapng reader.scope) c.in-Stopped.fault reader.stage (IsRunning reader) is

pub returns-in_err-keep_within-clause-stopped : goal.returns-in_err-keep_within-clause-stopped
returns-in_err-keep_within-clause-stopped c =
    let is : c.args.self.now.stage ≡ Running =
    subst (λ (r : PcapNgValue). r.stage ≡ Running) c.self.view_is (running_of c.self.inside.stage c.in_default.not-Stopped) in
    λ stream fault state found. absurd (not_found c.args.self.now stream fault is state found)

pub returns-then-branch-clause-stopped : goal.returns-then-branch-clause-stopped
returns-then-branch-clause-stopped c =
    let is : c.args.self.now.stage ≡ Running =
    subst (λ (r : PcapNgValue). r.stage ≡ Running) c.self.view_is (running_of c.self.inside.stage c.in_default.not-Stopped) in
    λ stream fault state found. absurd (not_found c.args.self.now stream fault is state found)

pub returns-then-branch-clause-fed : goal.returns-then-branch-clause-fed
returns-then-branch-clause-fed c =
    let reader = c.args.self.now in
    let after = c.keep_within.new.self in
    let is : reader.stage ≡ Running =
    subst (λ (r : PcapNgValue). r.stage ≡ Running) c.self.view_is (running_of c.self.inside.stage c.in_default.not-Stopped) in
    let kept : IsKept true reader c.args.piece.now after =
    subst (λ (b : Bool). IsKept b reader c.args.piece.now after) c.if-branch.true c.in_ok-keep_within.ensures.kept in
    λ _. (
      [],
      sym (append-nil c.args.out.now.items),
      λ stream state. subst (λ (x : Stage NgFault). IsFed stream c.args.piece.now [] (answer_at x) after) kept.1
          (kept.0.1 stream (at_running (pcapng reader.scope) stream reader.stage (IsRunning reader stream) is state)),
    )

pub returns-in_err-stage-clause-stopped : goal.returns-in_err-stage-clause-stopped
returns-in_err-stage-clause-stopped c =
    let is : c.args.self.now.stage ≡ Running =
    subst (λ (r : PcapNgValue). r.stage ≡ Running) c.self.view_is (running_of c.self.inside.stage c.in_default.not-Stopped) in
    λ stream fault state found. absurd (not_found c.args.self.now stream fault is state found)

pub returns-in_err-take_over-clause-stopped : goal.returns-in_err-take_over-clause-stopped
returns-in_err-take_over-clause-stopped c =
    let is : c.args.self.now.stage ≡ Running =
    subst (λ (r : PcapNgValue). r.stage ≡ Running) c.self.view_is (running_of c.self.inside.stage c.in_default.not-Stopped) in
    λ stream fault state found. absurd (not_found c.args.self.now stream fault is state found)

pub returns-clause-stopped : goal.returns-clause-stopped
returns-clause-stopped c =
    let is : c.args.self.now.stage ≡ Running =
    subst (λ (r : PcapNgValue). r.stage ≡ Running) c.self.view_is (running_of c.self.inside.stage c.in_default.not-Stopped) in
    λ stream fault state found. absurd (not_found c.args.self.now stream fault is state found)
