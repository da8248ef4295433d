use Rattle.std.proofs.Common.{◌≡◌, List, ℕ, [], length, refl, sym, subst, rules}
use Rattle.cf_pcap.specs.declared.stage.Stage.TheVariants.{Running}
use Rattle.cf_pcapng.specs.Reader.{PcapNgValue, IsCalled}
use Rattle.cf_pcapng.specs.Reading.{StaysWithin}
use Rattle.cf_pcapng.proofs.Feeding.{kept_within}
use Rattle.cf_pcapng.proofs.reader.PcapNg.keep_within.Goals as goal

pub invariant_of-self-2 : goal.invariant_of-self-2
invariant_of-self-2 c =
    let inside = c.self.inside in
    let reader : PcapNgValue =
    record {
      scope = inside.scope;
      stage = inside.stage;
      total = inside.total;
      state = record { order = inside.order; interfaces = inside.interfaces.items; count = inside.count };
      passed = inside.passed;
      held =
          inside.held.items;
    } in
    let early = c.split_late.result.0.now in
    let running : reader.stage ≡ Running = subst (λ (r : PcapNgValue). r.stage ≡ Running) (sym c.self.view_is) c.requires in
    let none : length c.split_late.result.1.now ≡ 0 = search rules in
    let within : StaysWithin inside.order inside.passed inside.held.items early =
    subst (λ (xs : List ℕ). StaysWithin inside.order inside.passed xs early) c.deref.ensures.value (search rules) in
    (kept_within reader c.args.piece.now early c.split_late.result.1.now c.extend_from_slice.new.self.items c.total_after-self-inside.result running
    c.self.invariant c.split_late.ensures.early c.split_late.ensures.late none within c.total_after-self-inside.ensures
    c.in_ok-extend_from_slice.ensures.items).0

pub returns-clause-kept : goal.returns-clause-kept
returns-clause-kept c =
    let inside = c.self.inside in
    let reader : PcapNgValue =
    record {
      scope = inside.scope;
      stage = inside.stage;
      total = inside.total;
      state = record { order = inside.order; interfaces = inside.interfaces.items; count = inside.count };
      passed = inside.passed;
      held =
          inside.held.items;
    } in
    let after : PcapNgValue =
    record {
      scope = inside.scope;
      stage = inside.stage;
      total = c.total_after-self-inside.result;
      state = reader.state;
      passed = inside.passed;
      held = c.extend_from_slice.new.self.items;
    } in
    let early = c.split_late.result.0.now in
    let running : reader.stage ≡ Running = subst (λ (r : PcapNgValue). r.stage ≡ Running) (sym c.self.view_is) c.requires in
    let none : length c.split_late.result.1.now ≡ 0 = search rules in
    let within : StaysWithin inside.order inside.passed inside.held.items early =
    subst (λ (xs : List ℕ). StaysWithin inside.order inside.passed xs early) c.deref.ensures.value (search rules) in
    let called : IsCalled reader c.args.piece.now [] after =
    kept_within reader c.args.piece.now early c.split_late.result.1.now c.extend_from_slice.new.self.items c.total_after-self-inside.result running
    c.self.invariant c.split_late.ensures.early c.split_late.ensures.late none within c.total_after-self-inside.ensures
    c.in_ok-extend_from_slice.ensures.items in
    subst (λ (r : PcapNgValue). IsCalled r c.args.piece.now [] after × (after.stage ≡ Running) × (after.scope ≡ r.scope)) c.self.view_is
    (called, running, refl)
