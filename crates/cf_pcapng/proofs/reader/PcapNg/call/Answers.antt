use Rattle.std.proofs.Common.{◌≡◌, ℕ, List, ◌++◌, length, sym, ap, subst, ◌∙◌}
use Rattle.cf_pcap.specs.declared.stage.Stage.{Stage}
use Rattle.cf_pcap.specs.declared.stage.Stage.TheVariants.{Running}
use Rattle.cf_pcapng.specs.declared.fault.NgFault.{NgFault}
use Rattle.cf_pcapng.specs.Position.{state_of}
use Rattle.cf_pcapng.specs.File.{State}
use Rattle.cf_pcapng.specs.Reader.{PcapNgValue, IsSoundAt, IsCalled, state_after}
use Rattle.cf_pcapng.specs.Reading.{IsGoneOn}
use Rattle.cf_pcapng.proofs.Feeding.{called, may_go_on, position_is, reached_is}
use Rattle.cf_pcapng.proofs.reader.PcapNg.call.Goals as goal

pub returns : goal.returns
returns c =
    let inside = c.self.inside in
    let reader : PcapNgValue =
    record {
      scope = inside.scope;
      stage = inside.stage;
      total = inside.total;
      state = record { order = inside.order; interfaces = inside.interfaces.items; count = inside.count };
      passed = inside.passed;
      held =
          inside.held.items;
    } in
    let given = c.in_ok-given.given in
    let early = c.split_late.result.0.now in
    let late = c.split_late.result.1.now in
    let after : PcapNgValue =
    record {
      scope = inside.scope;
      stage = c.in_ok-stage.stage;
      total = c.total_after.result;
      state = state_of given.position;
      passed = given.passed;
      held = c.keep_if_running.result.items;
    } in
    let running : reader.stage ≡ Running = subst (λ (r : PcapNgValue). r.stage ≡ Running) (sym c.self.view_is) c.requires in
    let bytes : c.deref-2.result.now ++ early ≡ inside.held.items ++ early = ap (λ xs. xs ++ early) c.deref-2.ensures.value in
    let had : inside.interfaces.items ≡ given.position.listed.had =
    sym (c.in_ok-given.ensures.had ∙ ap (λ p. p.listed.had) c.new-position.ensures ∙ c.deref.ensures.value) in
    let state : state_of given.position ≡ state_after inside.interfaces.items c.reached.result =
    reached_is inside.interfaces.items c.reached.result given.position had c.reached.ensures.order c.reached.ensures.anew c.reached.ensures.came
    c.reached.ensures.count in
    subst (λ (r : PcapNgValue). IsCalled r c.args.piece.now given.frames.items
    (record {
      scope = r.scope;
      stage = after.stage;
      total = after.total;
      state = state_after r.state.interfaces c.reached.result;
      passed = after.passed;
      held = after.held;
    })) c.self.view_is
    (subst (λ (s : State). IsCalled reader c.args.piece.now given.frames.items
    (record { scope = inside.scope; stage = after.stage; total = after.total; state = s; passed = after.passed; held = after.held })) state
    (called reader c.args.piece.now early late (c.deref-2.result.now ++ early) given.frames.items (state_of c.new-position.result)
    (state_of given.position) given.passed given.held.items c.keep_if_running.result.items given.flaw
    c.total_after.result c.in_ok-stage.stage running c.self.invariant c.split_late.ensures.early c.split_late.ensures.late bytes
    (position_is reader.state c.new-position.result c.deref.result.now c.deref.ensures.value c.new-position.ensures) c.in_ok-given.ensures.read
    c.in_ok-given.ensures.sound c.in_ok-stage.ensures c.total_after.ensures c.keep_if_running.ensures))

pub stage_after-requires : goal.stage_after-requires
stage_after-requires c =
    let inside = c.self.inside in
    let reader : PcapNgValue =
    record {
      scope = inside.scope;
      stage = inside.stage;
      total = inside.total;
      state = record { order = inside.order; interfaces = inside.interfaces.items; count = inside.count };
      passed = inside.passed;
      held =
          inside.held.items;
    } in
    let given = c.in_ok-given.given in
    let early = c.split_late.result.0.now in
    let l = inside.scope.length in
    let running : reader.stage ≡ Running = subst (λ (r : PcapNgValue). r.stage ≡ Running) (sym c.self.view_is) c.requires in
    let sound = subst (λ (x : Stage NgFault). IsSoundAt x reader) running c.self.invariant.0 in
    let on : IsGoneOn l reader.state (length (reader.held ++ early)) (state_of given.position) given.passed given.held.items given.flaw =
    subst (λ (xs : List ℕ). IsGoneOn l reader.state (length (xs ++ early)) (state_of given.position) given.passed given.held.items given.flaw)
    c.deref-2.ensures.value
    (subst (λ (s : State). IsGoneOn l s (length (c.deref-2.result.now ++ early)) (state_of given.position) given.passed given.held.items given.flaw)
    (position_is reader.state c.new-position.result c.deref.result.now c.deref.ensures.value c.new-position.ensures) c.in_ok-given.ensures.sound) in
    may_go_on reader c.args.piece.now early (state_of given.position) given.passed given.held.items given.flaw sound.0 sound.1 c.split_late.ensures.early on
