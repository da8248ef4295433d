use Rattle.std.proofs.Common.{◌≡◌, true, length, is_some, Ok, refl, sym, subst, rules}
use Rattle.std.proofs.lemmas.List.{nil_from_length}
use Rattle.cf_pcap.specs.Stream.{PcapValue, IsStateOf, IsEnded}
use Rattle.cf_pcap.proofs.Feeding.{ended_whole}
use Rattle.cf_pcap.proofs.reader.Pcap.finish.Goals as goal

pub returns-in-Running-clause-ended : goal.returns-in-Running-clause-ended
returns-in-Running-clause-ended c =
    let inside = c.self.inside in
    let reader : PcapValue =
    record {
      scope = inside.scope;
      stage = inside.stage;
      total = inside.total;
      state = record { header = inside.header; count = inside.count };
      held = inside.held.items;
    } in
    let empty : length reader.held ≡ 0 = search rules in
    let some : is_some reader.state.header ≡ true = search rules in
    λ stream state. subst (λ (r : PcapValue). IsEnded r.scope stream (Ok inside.count)) c.self.view_is
    (ended_whole reader stream inside.count c.in-Running.is (nil_from_length reader.held empty) some refl
    (subst (λ (r : PcapValue). IsStateOf r stream) (sym c.self.view_is) state))
