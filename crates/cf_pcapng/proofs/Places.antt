-- How many interfaces a section has.
use Rattle.std.proofs.Common.{◌≡◌, ℕ, ◌+◌, List, [], ◌∷◌, ◌++◌, length, drop, take, Option, Some, None, sym, subst, arith, length-append}
use Rattle.cf_pcap.specs.declared.limit.Length.{Length}
use Rattle.cf_pcap.specs.declared.limit.Length.TheVariants.{Limited, Any}
use Rattle.cf_pcap.specs.declared.links.LinkSet.{LinkSet}
use Rattle.cf_pcap.specs.declared.scope.Scope.{Scope}
use Rattle.cf_pcap.specs.declared.form.Order.{Order}
use Rattle.cf_pcap.specs.Capture.{FrameValue}
use Rattle.cf_pcap.specs.Format.{Part, AreUnitsThen, ReadsTo}
use Rattle.cf_pcapng.specs.declared.head.BlockKind.{BlockKind}
use Rattle.cf_pcapng.specs.declared.head.BlockKind.TheVariants.{SectionHeader, InterfaceDescription, EnhancedPacket, SimplePacket, Other}
use Rattle.cf_pcapng.specs.declared.interfaces.Interface.{Interface}
use Rattle.cf_pcapng.specs.declared.content.Packet.{Packet}
use Rattle.cf_pcapng.specs.declared.content.Content.{Content}
use Rattle.cf_pcapng.specs.File.{State, after, pcapng}
use Rattle.cf_pcapng.specs.Rules.{HasPlace, PacketOfStates, BlockStates, IsBlock}
use Rattle.cf_pcapng.specs.Reading.{AreFew}
use Rattle.cf_pcapng.proofs.Ruling.{steps_by_rules}

no_interfaces_few : (l : Length) → AreFew l []
no_interfaces_few Limited = tt
no_interfaces_few Any = omega arith

one_more_few : (l : Length) (interfaces : List Interface) (interface : Interface) → HasPlace l interfaces → AreFew l (interfaces ++ interface ∷ [])
one_more_few Limited interfaces interface h = tt
one_more_few Any interfaces interface h = let len : length (interfaces ++ interface ∷ []) ≡ length interfaces + 1 = length-append interfaces (interface ∷ []) in
    omega (arith, len, h)

packet_few : (l : Length) (s : State) (links : LinkSet) (found : Option Interface) (room : ℕ) (packet : Interface → Packet) (content : Content)
    → PacketOfStates links found room packet content → AreFew l s.interfaces → AreFew l (after l s content).interfaces
packet_few l s links None room packet content h few = absurd h
packet_few l s links (Some interface) room packet content h few = subst (λ (c : Content). AreFew l (after l s c).interfaces) (sym h.1) few

states_few : (scope : Scope) (s : State) (order : Order) (kind : BlockKind) (block : List ℕ) (content : Content)
    → BlockStates scope s.interfaces order kind block content → AreFew scope.length s.interfaces → AreFew scope.length (after scope.length s content).interfaces
states_few scope s order SectionHeader block content h few =
    subst (λ (c : Content). AreFew scope.length (after scope.length s c).interfaces) (sym h.1) (no_interfaces_few scope.length)
states_few scope s order InterfaceDescription block content h few =
    subst (λ (c : Content). AreFew scope.length (after scope.length s c).interfaces) (sym h.1) (one_more_few scope.length s.interfaces _ h.0)
states_few scope s order EnhancedPacket block content h few = packet_few scope.length s scope.links _ _ _ content h few
states_few scope s order SimplePacket block content h few = packet_few scope.length s scope.links _ _ _ content h few
states_few scope s order Other block content h few = subst (λ (c : Content). AreFew scope.length (after scope.length s c).interfaces) (sym h) few

block_few : (scope : Scope) (s : State) (bytes : List ℕ) (n : ℕ) (frames : List FrameValue) (t : State) → IsBlock scope s bytes n frames t
    → AreFew scope.length s.interfaces → AreFew scope.length t.interfaces
block_few scope s bytes n frames t h few = subst (λ (x : State). AreFew scope.length x.interfaces) (sym h.after_is)
    (states_few scope s h.order h.kind (take n bytes) h.content h.states few)

units_few : (scope : Scope) (s : State) (parts : List (Part State FrameValue)) (bytes : List ℕ) (t : State) (rest : List ℕ)
    → AreUnitsThen (pcapng scope) s parts bytes t rest → AreFew scope.length s.interfaces → AreFew scope.length t.interfaces
units_few scope s [] bytes t rest h few = subst (λ (x : State). AreFew scope.length x.interfaces) h.0 few
units_few scope s (part ∷ parts) bytes t rest h few =
    units_few scope part.after parts (drop part.size bytes) t rest h.1
    (block_few scope s bytes part.size part.items part.after ((steps_by_rules scope s bytes).takes part.size part.items part.after h.0) few)

-- after any blocks a section has few, if it had few before
pub reads_few : (scope : Scope) (s : State) (bytes : List ℕ) (frames : List FrameValue) (t : State) (rest : List ℕ)
    → ReadsTo (pcapng scope) s bytes frames t rest → AreFew scope.length s.interfaces → AreFew scope.length t.interfaces
reads_few scope s bytes frames t rest h few = units_few scope s h.parts bytes t rest h.units few
