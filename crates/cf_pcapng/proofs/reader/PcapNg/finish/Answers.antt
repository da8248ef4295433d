use Rattle.std.proofs.Common.{◌≡◌, ◌⊎◌, inl, inr, ◌<◌, true, false, length, is_some, Ok, Err, refl, sym, subst, rules}
use Rattle.std.proofs.lemmas.List.{nil_from_length}
use Rattle.cf_pcapng.specs.declared.fault.NgFault.TheVariants.{Cut}
use Rattle.cf_pcapng.specs.Reader.{PcapNgValue, IsStateOf, IsEnded}
use Rattle.cf_pcapng.proofs.Feeding.{ended_within, ended_whole}
use Rattle.cf_pcapng.proofs.reader.PcapNg.finish.Goals as goal
use Rattle.cf_pcapng.proofs.reader.PcapNg.finish.Goals.{then-is_some-via-then-is_some, then-is_some-via-else-is_some+then-not-is_empty}

pub returns-then-is_some-clause-ended : goal.returns-then-is_some-clause-ended
returns-then-is_some-clause-ended c =
    let inside = c.self.inside in
    let reader : PcapNgValue =
    record {
      scope = inside.scope;
      stage = inside.stage;
      total = inside.total;
      state = record { order = inside.order; interfaces = inside.interfaces.items; count = inside.count };
      passed = inside.passed;
      held =
          inside.held.items;
    } in
    let left : (is_some reader.passed ≡ true) ⊎ (0 < length reader.held) = elim c.then-is_some.branch [
      | then-is_some-via-then-is_some w ↦ inl (search rules)
      | then-is_some-via-else-is_some+then-not-is_empty w ↦ inr (search rules)
    ] in
    λ stream state. subst (λ (r : PcapNgValue). IsEnded r.scope stream (Err (Cut inside.count))) c.self.view_is
    (ended_within reader stream inside.count c.in-Running.is left refl (subst (λ (r : PcapNgValue). IsStateOf r stream) (sym c.self.view_is) state))

pub returns-clause-ended : goal.returns-clause-ended
returns-clause-ended c =
    let inside = c.self.inside in
    let reader : PcapNgValue =
    record {
      scope = inside.scope;
      stage = inside.stage;
      total = inside.total;
      state = record { order = inside.order; interfaces = inside.interfaces.items; count = inside.count };
      passed = inside.passed;
      held =
          inside.held.items;
    } in
    let none : is_some reader.passed ≡ false = search rules in
    let empty : length reader.held ≡ 0 = search rules in
    let some : is_some reader.state.order ≡ true = search rules in
    λ stream state. subst (λ (r : PcapNgValue). IsEnded r.scope stream (Ok inside.count)) c.self.view_is
    (ended_whole reader stream inside.count c.in-Running.is none (nil_from_length reader.held empty) some refl
    (subst (λ (r : PcapNgValue). IsStateOf r stream) (sym c.self.view_is) state))
