-- Where all links are read.
use Rattle.std.proofs.Common.{ℕ, List, [], ◌∷◌, drop, Option, Some, None}
use Rattle.cf_pcap.specs.declared.links.LinkSet.{LinkSet}
use Rattle.cf_pcap.specs.declared.links.LinkSet.TheVariants.{All}
use Rattle.cf_pcap.specs.declared.scope.Scope.{Scope}
use Rattle.cf_pcap.specs.declared.form.Order.{Order}
use Rattle.cf_pcap.specs.Capture.{FrameValue}
use Rattle.cf_pcap.specs.Format.{Part}
use Rattle.cf_pcap.specs.Links.{widened}
use Rattle.cf_pcap.proofs.Widening.{link_of_all}
use Rattle.cf_pcapng.specs.declared.head.BlockKind.{BlockKind}
use Rattle.cf_pcapng.specs.declared.head.BlockKind.TheVariants.{SectionHeader, InterfaceDescription, EnhancedPacket, SimplePacket, Other}
use Rattle.cf_pcapng.specs.declared.interfaces.Interface.{Interface}
use Rattle.cf_pcapng.specs.declared.content.Packet.{Packet}
use Rattle.cf_pcapng.specs.declared.content.Content.{Content}
use Rattle.cf_pcapng.specs.File.{State, pcapng}
use Rattle.cf_pcapng.specs.Rules.{PacketOfStates, BlockStates, IsBlock, AreBlocksThen, IsFileOf}

packet_of_all : (links : LinkSet) (found : Option Interface) (room : ℕ) (packet : Interface → Packet) (content : Content)
    → PacketOfStates links found room packet content → PacketOfStates All found room packet content
packet_of_all links None room packet content h = absurd h
packet_of_all links (Some interface) room packet content h =
    (record { link_is = link_of_all links (packet interface).link h.0.link_is; short = h.0.short; fits = h.0.fits }, h.1)

states_of_all : (scope : Scope) (interfaces : List Interface) (order : Order) (kind : BlockKind) (block : List ℕ) (content : Content)
    → BlockStates scope interfaces order kind block content → BlockStates (widened scope) interfaces order kind block content
states_of_all scope interfaces order SectionHeader block content h = h
states_of_all scope interfaces order InterfaceDescription block content h = h
states_of_all scope interfaces order EnhancedPacket block content h = packet_of_all scope.links _ _ _ content h
states_of_all scope interfaces order SimplePacket block content h = packet_of_all scope.links _ _ _ content h
states_of_all scope interfaces order Other block content h = h

block_of_all : (scope : Scope) (s : State) (bytes : List ℕ) (n : ℕ) (frames : List FrameValue) (t : State) → IsBlock scope s bytes n frames t
    → IsBlock (widened scope) s bytes n frames t
block_of_all scope s bytes n frames t h = record {
  order = h.order;
  kind = h.kind;
  content = h.content;
  block = h.block;
  last = h.last;
  states = states_of_all scope s.interfaces h.order h.kind _ h.content h.states;
  frames_are = h.frames_are;
  after_is = h.after_is;
}

blocks_of_all : (scope : Scope) (s : State) (parts : List (Part State FrameValue)) (bytes : List ℕ) (t : State) (rest : List ℕ)
    → AreBlocksThen scope s parts bytes t rest → AreBlocksThen (widened scope) s parts bytes t rest
blocks_of_all scope s [] bytes t rest h = h
blocks_of_all scope s (part ∷ parts) bytes t rest h = (
  block_of_all scope s bytes part.size part.items part.after h.0,
  blocks_of_all scope part.after parts (drop part.size bytes) t rest h.1,
)

pub file_of_all : (scope : Scope) (file : List ℕ) (frames : List FrameValue) → IsFileOf scope file frames → IsFileOf (widened scope) file frames
file_of_all scope file frames h = record {
  size = h.size;
  last = h.last;
  read = record {
    parts = h.read.parts;
    blocks = blocks_of_all scope (pcapng scope).start h.read.parts file h.last [] h.read.blocks;
    frames_are = h.read.frames_are;
  };
  begun = h.begun;
}
