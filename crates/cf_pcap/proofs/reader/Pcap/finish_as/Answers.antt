use Rattle.std.proofs.Common.{◌≡◌, ℕ, Bool, true, false, is_some, Some, Err, sym, ap, subst, ◌∙◌, rules}
use Rattle.cf_pcap.specs.declared.fault.PcapFault.{PcapFault}
use Rattle.cf_pcap.specs.declared.fault.PcapFault.TheVariants.{Cut}
use Rattle.cf_pcap.specs.Stream.{PcapValue, IsEnded}
use Rattle.cf_pcap.specs.Truncated.{Says}
use Rattle.cf_pcap.proofs.Truncating.{end_whole, end_within, end_broken}
use Rattle.cf_pcap.proofs.reader.Pcap.finish_as.Goals as goal

pub returns-in_default-clause-ended : goal.returns-in_default-clause-ended
returns-in_default-clause-ended c =
    λ stream frames state given. end_whole c.args.truncated c.args.self.scope stream frames c.in_default.field-0 (c.in_default.ensures.ended stream state) given

pub returns-in-Cut-clause-ended : goal.returns-in-Cut-clause-ended
returns-in-Cut-clause-ended c =
    let inside : is_some c.self.inside.header ≡ true = search rules in
    let begun : is_some c.args.self.state.header ≡ true = ap (λ (r : PcapValue). is_some r.state.header) (sym c.self.view_is) ∙ inside in
    λ stream frames state given. subst (λ (b : Bool). Says b c.args.self.scope stream frames (Some c.in-Cut.count)) (sym c.if-truncated.true)
    (end_within c.args.self stream frames c.in-Cut.count begun state
    (subst (λ (fault : PcapFault). IsEnded c.args.self.scope stream (Err fault)) c.in-Cut.is (c.in-Err.ensures.ended stream state)) given)

pub returns-in_default-fault-clause-ended : goal.returns-in_default-fault-clause-ended
returns-in_default-fault-clause-ended c =
    let inside : is_some c.self.inside.header ≡ false = search rules in
    let unbegun : is_some c.args.self.state.header ≡ false = ap (λ (r : PcapValue). is_some r.state.header) (sym c.self.view_is) ∙ inside in
    λ stream frames state given. end_broken c.args.truncated c.args.self stream (Cut c.in-Cut.count) (λ k e t. unbegun) state
    (subst (λ (fault : PcapFault). IsEnded c.args.self.scope stream (Err fault)) c.in-Cut.is (c.in-Err.ensures.ended stream state))

pub returns-in_default-fault-2-clause-ended : goal.returns-in_default-fault-2-clause-ended
returns-in_default-fault-2-clause-ended c =
    λ stream frames state given. end_broken c.args.truncated c.args.self stream (Cut c.in-Cut.count)
    (λ k e t. (let no : true ≡ false = sym t ∙ c.if-truncated.false in absurd (cc no))) state
    (subst (λ (fault : PcapFault). IsEnded c.args.self.scope stream (Err fault)) c.in-Cut.is (c.in-Err.ensures.ended stream state))

pub returns-in_default-fault-3-clause-ended : goal.returns-in_default-fault-3-clause-ended
returns-in_default-fault-3-clause-ended c =
    let other : (k : ℕ) → c.in-Err.fault ≡ Cut k → ⊥ = search rules in
    λ stream frames state given. end_broken c.args.truncated c.args.self stream c.in-Err.fault
    (λ k e t. absurd (other k e)) state (c.in-Err.ensures.ended stream state)
