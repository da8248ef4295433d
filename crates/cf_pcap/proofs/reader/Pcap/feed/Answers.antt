use Rattle.std.proofs.Common.{◌≡◌, [], Result, sym, subst, ◌∙◌, append-nil}
use Rattle.cf_pcap.specs.declared.fault.PcapFault.{PcapFault}
use Rattle.cf_pcap.specs.declared.fault.PcapFault.TheVariants.{Memory}
use Rattle.cf_pcap.specs.declared.stage.Stage.{Stage}
use Rattle.cf_pcap.specs.declared.stage.Stage.TheVariants.{Running, Stopped}
use Rattle.cf_pcap.specs.Reading.{state_of}
use Rattle.cf_pcap.specs.Stream.{PcapValue, IsRunning, IsStateOf, IsFed, IsSoundAt, IsSound}
use Rattle.cf_pcap.proofs.Stages.{running_of, at_running, answers_stopped, fed_stopped, no_memory}
use Rattle.cf_pcap.specs.File.{pcap}
use Rattle.cf_pcap.proofs.Steps.{stepper}
use Rattle.cf_pcap.proofs.Feeding.{Later, not_found, fed_call, sound_call}
use Rattle.cf_pcap.proofs.reader.Pcap.feed.Goals as goal

pub returns-in-Stopped-clause-fed : goal.returns-in-Stopped-clause-fed
returns-in-Stopped-clause-fed c =
    let is : c.args.self.now.stage ≡ Stopped c.in-Stopped.fault =
    subst (λ (r : PcapValue). r.stage ≡ Stopped c.in-Stopped.fault) c.self.view_is c.in-Stopped.is in
    let reader = c.args.self.now in
    λ _. (
      [],
      sym (append-nil c.args.out.now.items),
      λ stream state. fed_stopped (pcap reader.scope) (stepper reader.scope) c.in-Stopped.fault reader.stage
          (IsRunning reader) stream c.args.piece.now is state,
    )

pub returns-in-Stopped-clause-stopped : goal.returns-in-Stopped-clause-stopped
returns-in-Stopped-clause-stopped c =
    let is : c.args.self.now.stage ≡ Stopped c.in-Stopped.fault =
    subst (λ (r : PcapValue). r.stage ≡ Stopped c.in-Stopped.fault) c.self.view_is c.in-Stopped.is in
    let reader = c.args.self.now in answers_stopped (pcap reader.scope) c.in-Stopped.fault reader.stage (IsRunning reader) is

pub returns-in_err-given-clause-stopped : goal.returns-in_err-given-clause-stopped
returns-in_err-given-clause-stopped c =
    let is : c.args.self.now.stage ≡ Running =
    subst (λ (r : PcapValue). r.stage ≡ Running) c.self.view_is (running_of c.self.inside.stage c.in_default.not-Stopped) in
    λ stream fault state found. absurd (not_found c.args.self.now stream fault is state found)

pub invariant_of-self-2 : goal.invariant_of-self-2
invariant_of-self-2 c =
    let inside = c.self.inside in
    let reader : PcapValue =
    record {
      scope = inside.scope;
      stage = inside.stage;
      total = inside.total;
      state = record { header = inside.header; count = inside.count };
      held = inside.held.items;
    } in
    let given = c.in_ok-given.ensures.given in
    let sound : IsSoundAt Running reader =
    subst (λ (s : Stage PcapFault). IsSoundAt s reader) (running_of inside.stage c.in_default.not-Stopped) c.self.invariant in
    sound_call reader c.args.piece.now c.front-taken.result.now c.late_of-late.result given.0 _ c.take_piece.new.held.items c.in_ok-given.given.stage
    c.total_after-total.result sound c.front-taken.ensures c.total_after-total.ensures c.late_of-late.ensures given.2

pub returns-clause-fed : goal.returns-clause-fed
returns-clause-fed c =
    let inside = c.self.inside in
    let reader : PcapValue =
    record {
      scope = inside.scope;
      stage = inside.stage;
      total = inside.total;
      state = record { header = inside.header; count = inside.count };
      held = inside.held.items;
    } in
    let given = c.in_ok-given.ensures.given in
    let t = state_of c.in_ok-given.given.header c.in_ok-given.given.count in
    let stage = c.in_ok-given.given.stage in
    let taken = c.front-taken.result.now in
    let after : PcapValue = Later inside.scope stage c.total_after-total.result t c.take_piece.new.held.items in
    let is : inside.stage ≡ Running = running_of inside.stage c.in_default.not-Stopped in
    let sound : IsSoundAt Running reader = subst (λ (s : Stage PcapFault). IsSoundAt s reader) is c.self.invariant in
    λ _. (
      given.0,
      given.1,
      λ stream state.
          let run : IsRunning reader stream =
          at_running (pcap reader.scope) stream inside.stage (IsRunning reader stream) is
          (subst (λ (r : PcapValue). IsStateOf r stream) (sym c.self.view_is) state) in
          subst (λ (answer : Result (Unit {0}) PcapFault). IsFed stream c.args.piece.now given.0 answer after) (sym c.answer.ensures)
          (fed_call reader stream c.args.piece.now taken c.late_of-late.result given.0 t c.take_piece.new.held.items stage c.total_after-total.result run
          sound.0 c.front-taken.ensures c.total_after-total.ensures c.late_of-late.ensures given.2),
    )

pub returns-clause-stopped : goal.returns-clause-stopped
returns-clause-stopped c =
    let is : c.args.self.now.stage ≡ Running =
    subst (λ (r : PcapValue). r.stage ≡ Running) c.self.view_is (running_of c.self.inside.stage c.in_default.not-Stopped) in
    λ stream fault state found. absurd (not_found c.args.self.now stream fault is state found)

pub returns-clause-memory : goal.returns-clause-memory
returns-clause-memory c = λ memory.
    let inside = c.self.inside in
    let reader : PcapValue =
    record {
      scope = inside.scope;
      stage = inside.stage;
      total = inside.total;
      state = record { header = inside.header; count = inside.count };
      held = inside.held.items;
    } in
    let given = c.in_ok-given.ensures.given in
    let t = state_of c.in_ok-given.given.header c.in_ok-given.given.count in
    let stage = c.in_ok-given.given.stage in
    let taken = c.front-taken.result.now in
    let sound : IsSoundAt Running reader =
    subst (λ (s : Stage PcapFault). IsSoundAt s reader) (running_of inside.stage c.in_default.not-Stopped) c.self.invariant in
    let later : IsSound (Later inside.scope stage c.total_after-total.result t c.take_piece.new.held.items) =
    sound_call reader c.args.piece.now taken c.late_of-late.result given.0 t c.take_piece.new.held.items stage c.total_after-total.result sound
    c.front-taken.ensures c.total_after-total.ensures c.late_of-late.ensures given.2 in
    absurd (no_memory Memory c.take_piece.new.held.items stage _ later (sym c.answer.ensures ∙ memory))
