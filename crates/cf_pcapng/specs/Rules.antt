-- The rules by which blocks are judged, one by one and each in this order, as relations. `step` of File says the same.
use Rattle.std.specs.Prelude.{◌≡◌, ◌⊎◌, ℕ, ◌-◌, ◌%◌, ◌^◌, ◌<◌, ◌≤◌, true, false, List, [], ◌∷◌, length, take, drop, slice_get, Option, Some, None, is_some}
use Rattle.byteorder.specs.Endian.{little_number}
use Rattle.cf_pcap.specs.declared.links.LinkSet.{LinkSet}
use Rattle.cf_pcap.specs.declared.limit.Length.{Length}
use Rattle.cf_pcap.specs.declared.limit.Length.TheVariants.{Limited, Any}
use Rattle.cf_pcap.specs.declared.scope.Scope.{Scope}
use Rattle.cf_pcap.specs.Limits.{IsShort, IsLong, number_of, num_of}
use Rattle.cf_pcap.specs.declared.form.Order.{Order}
use Rattle.cf_pcap.specs.Capture.{FrameValue, number_in}
use Rattle.cf_pcap.specs.Kinds as kinds
use Rattle.cf_pcap.specs.Links.{is_link, longest}
use Rattle.cf_pcap.specs.Format.{Bad, Takes, Part, items_of, seen}
use Rattle.cf_pcapng.specs.declared.fault.Flaw.{Flaw}
use Rattle.cf_pcapng.specs.declared.fault.Flaw.TheVariants.{BadMagic, BadVersion, BadLink, FrameTooLong, BadLength, NoInterface, TooManyInterfaces}
use Rattle.cf_pcapng.specs.declared.fault.NgFault.{NgFault}
use Rattle.cf_pcapng.specs.declared.fault.NgFault.TheVariants as faults
use Rattle.cf_pcapng.specs.declared.head.BlockKind.{BlockKind}
use Rattle.cf_pcapng.specs.declared.head.BlockKind.TheVariants.{SectionHeader, InterfaceDescription, EnhancedPacket, SimplePacket, Other}
use Rattle.cf_pcapng.specs.declared.interfaces.Interface.{Interface}
use Rattle.cf_pcapng.specs.declared.content.Packet.{Packet}
use Rattle.cf_pcapng.specs.declared.content.Content.{Content}
use Rattle.cf_pcapng.specs.declared.content.Content.TheVariants.{NewSection, NewInterface, Captures, Nothing}
use Rattle.cf_pcapng.specs.Blocks.{order_at, least, total_at, last_total, interface_at, enhanced_packet, simple_packet}
use Rattle.cf_pcapng.specs.File.{State, fault_of, frames_of, after, pcapng}

-- a section header's type
abbrev pub IsSectionType : List ℕ → Type 0
IsSectionType bytes = little_number 4 bytes ≡ 0x0a0d0d0a

-- the types of other blocks
abbrev pub IsType : BlockKind → ℕ → Type 0
IsType SectionHeader n = ⊥
IsType InterfaceDescription n = n ≡ 1
IsType EnhancedPacket n = n ≡ 6
IsType SimplePacket n = n ≡ 3
IsType Other n = (n ≡ 1 → ⊥) × (n ≡ 6 → ⊥) × (n ≡ 3 → ⊥)

-- a section header begins here, whose magic states this byte order
pub record BeginsSection (bytes : List ℕ) (order : Order) : Type 0 where
  pub size : 12 ≤ length bytes
  pub type_is : IsSectionType bytes
  pub magic : order_at bytes ≡ Some order

-- another block begins here, in a section of this byte order
pub record BeginsBlock (section : Option Order) (bytes : List ℕ) (order : Order) (kind : BlockKind) : Type 0 where
  pub size : 8 ≤ length bytes
  pub other : IsSectionType bytes → ⊥
  pub within : section ≡ Some order
  pub type_is : IsType kind (number_in order 4 bytes)

-- a block of this byte order and kind begins here, of which enough is there to know its total length
abbrev pub BeginsAs : Option Order → List ℕ → Order → BlockKind → Type 0
BeginsAs section bytes order kind = ((kind ≡ SectionHeader) × BeginsSection bytes order) ⊎ BeginsBlock section bytes order kind

-- a multiple of 4, no less than the kind's fields take, and no more than 2^20 in a block that is read
pub record IsLawfulTotal (kind : BlockKind) (n : ℕ) : Type 0 where
  pub fours : n % 4 ≡ 0
  pub enough : least kind ≤ n
  pub most : (kind ≡ Other → ⊥) → n ≤ 2 ^ 20

-- a block of this byte order, kind and lawful total length begins here
pub record HasHead (section : Option Order) (bytes : List ℕ) (order : Order) (kind : BlockKind) (total : ℕ) : Type 0 where
  pub begins : BeginsAs section bytes order kind
  pub total_is : total ≡ total_at order bytes
  pub lawful : IsLawfulTotal kind total

-- rule 1: the stream's first four bytes aren't a section header's type
pub record BreaksRule1 (section : Option Order) (bytes : List ℕ) : Type 0 where
  pub size : 4 ≤ length bytes
  pub outside : section ≡ None
  pub other : IsSectionType bytes → ⊥

-- rule 2: a section header's magic is in neither byte order
pub record BreaksRule2 (bytes : List ℕ) : Type 0 where
  pub size : 12 ≤ length bytes
  pub type_is : IsSectionType bytes
  pub magic : order_at bytes ≡ None

-- rule 3: the total length is unlawful
pub record BreaksRule3 (section : Option Order) (bytes : List ℕ) : Type 0 where
  pub order : Order
  pub kind : BlockKind
  pub begins : BeginsAs section bytes order kind
  pub total : IsLawfulTotal kind (total_at order bytes) → ⊥

-- rules 1 to 3: the head of the block at the front breaks one of them, in a section of this byte order (None: in no section)
abbrev pub HeadBreaks : Option Order → List ℕ → Flaw → Type 0
HeadBreaks section bytes BadMagic = BreaksRule1 section bytes ⊎ BreaksRule2 bytes
HeadBreaks section bytes BadLength = BreaksRule3 section bytes
HeadBreaks section bytes BadVersion = ⊥
HeadBreaks section bytes BadLink = ⊥
HeadBreaks section bytes FrameTooLong = ⊥
HeadBreaks section bytes NoInterface = ⊥
HeadBreaks section bytes TooManyInterfaces = ⊥

-- one of the links that are read
abbrev pub IsLink : LinkSet → ℕ → Type 0
IsLink links link = is_link links link ≡ true

-- rules 7 to 9, of a packet in a block with room for so many bytes
abbrev pub PacketBreaks : LinkSet → ℕ → Packet → Flaw → Type 0
PacketBreaks links room packet BadLink = IsLink links packet.link → ⊥
PacketBreaks links room packet FrameTooLong = IsLink links packet.link × (longest < packet.caplen)
PacketBreaks links room packet BadLength = IsLink links packet.link × (packet.caplen ≤ longest) × (room < packet.caplen)
PacketBreaks links room packet BadMagic = ⊥
PacketBreaks links room packet BadVersion = ⊥
PacketBreaks links room packet NoInterface = ⊥
PacketBreaks links room packet TooManyInterfaces = ⊥

-- a packet that breaks none of rules 7 to 9, in a block with room for so many bytes
pub record IsLawfulPacket (links : LinkSet) (room : ℕ) (packet : Packet) : Type 0 where
  pub link_is : IsLink links packet.link
  pub short : packet.caplen ≤ longest
  pub fits : packet.caplen ≤ room

-- rule 6, and 7 to 9 of a packet of its interface
abbrev pub PacketOfBreaks : LinkSet → Option Interface → ℕ → (Interface → Packet) → Flaw → Type 0
PacketOfBreaks links None room packet flaw = flaw ≡ NoInterface
PacketOfBreaks links (Some interface) room packet flaw = PacketBreaks links room (packet interface) flaw

-- the block states this packet of its interface, lawful in a block with room for so many bytes; with no interface (None) it states nothing
abbrev pub PacketOfStates : LinkSet → Option Interface → ℕ → (Interface → Packet) → Content → Type 0
PacketOfStates links None room packet content = ⊥
PacketOfStates links (Some interface) room packet content = IsLawfulPacket links room (packet interface) × (content ≡ Captures (packet interface))

-- rule 10: a section with these interfaces has no place for one more. Where any number of bytes may come, it has 65,536 at most.
abbrev pub IsFull : Length → List Interface → Type 0
IsFull Limited interfaces = ⊥
IsFull Any interfaces = 65536 ≤ length interfaces

-- it has a place
abbrev pub HasPlace : Length → List Interface → Type 0
HasPlace Limited interfaces = Unit {0}
HasPlace Any interfaces = length interfaces < 65536

-- rules 5 to 10, of a whole block in a section with these interfaces
abbrev pub BlockBreaks : Scope → List Interface → Order → BlockKind → List ℕ → Flaw → Type 0
BlockBreaks scope interfaces order SectionHeader block flaw = (flaw ≡ BadVersion) × (number_in order 2 (drop 12 block) ≡ 1 → ⊥)
BlockBreaks scope interfaces order InterfaceDescription block flaw = (flaw ≡ TooManyInterfaces) × IsFull scope.length interfaces
BlockBreaks scope interfaces order EnhancedPacket block flaw =
    PacketOfBreaks scope.links (slice_get interfaces (number_in order 4 (drop 8 block))) (length block - 32) (λ i. enhanced_packet i order block) flaw
BlockBreaks scope interfaces order SimplePacket block flaw =
    PacketOfBreaks scope.links (slice_get interfaces 0) (length block - 16) (λ i. simple_packet i order block) flaw
BlockBreaks scope interfaces order Other block flaw = ⊥

-- what a whole block states that breaks no rule
abbrev pub BlockStates : Scope → List Interface → Order → BlockKind → List ℕ → Content → Type 0
BlockStates scope interfaces order SectionHeader block content = (number_in order 2 (drop 12 block) ≡ 1) × (content ≡ NewSection order)
BlockStates scope interfaces order InterfaceDescription block content = HasPlace scope.length interfaces × (content ≡ NewInterface (interface_at order block))
BlockStates scope interfaces order EnhancedPacket block content =
    PacketOfStates scope.links (slice_get interfaces (number_in order 4 (drop 8 block))) (length block - 32) (λ i. enhanced_packet i order block) content
BlockStates scope interfaces order SimplePacket block content =
    PacketOfStates scope.links (slice_get interfaces 0) (length block - 16) (λ i. simple_packet i order block) content
BlockStates scope interfaces order Other block content = content ≡ Nothing

-- a block stands whole at the front: so many bytes
pub record HasBlock (section : Option Order) (bytes : List ℕ) (order : Order) (kind : BlockKind) (total : ℕ) : Type 0 where
  pub head : HasHead section bytes order kind total
  pub whole : total ≤ length bytes

-- rule 4: the second total length differs
pub record BreaksRule4 (section : Option Order) (bytes : List ℕ) : Type 0 where
  pub order : Order
  pub kind : BlockKind
  pub total : ℕ
  pub block : HasBlock section bytes order kind total
  pub last : last_total order (take total bytes) ≡ total → ⊥

-- rules 5 to 10: the block at the front is whole, its two total lengths agree, and what it states has this flaw
pub record BreaksRules5To10 (scope : Scope) (section : Option Order) (interfaces : List Interface) (bytes : List ℕ) (flaw : Flaw) : Type 0 where
  pub order : Order
  pub kind : BlockKind
  pub total : ℕ
  pub block : HasBlock section bytes order kind total
  pub last : last_total order (take total bytes) ≡ total
  pub breaks : BlockBreaks scope interfaces order kind (take total bytes) flaw

-- the first rule that the block at the front breaks
abbrev pub HasFlaw : Scope → State → List ℕ → Flaw → Type 0
HasFlaw scope s bytes flaw = HeadBreaks s.order bytes flaw
    ⊎ (((flaw ≡ BadLength) × BreaksRule4 s.order bytes) ⊎ BreaksRules5To10 scope s.order s.interfaces bytes flaw)

-- a block of n bytes at the front breaks none, and gives these frames and this state
pub record IsBlock (scope : Scope) (s : State) (bytes : List ℕ) (n : ℕ) (frames : List FrameValue) (t : State) : Type 0 where
  pub order : Order
  pub kind : BlockKind
  pub content : Content
  pub block : HasBlock s.order bytes order kind n
  pub last : last_total order (take n bytes) ≡ n
  pub states : BlockStates scope s.interfaces order kind (take n bytes) content
  pub frames_are : frames ≡ frames_of (num_of scope.length s.count) content (take n bytes)
  pub after_is : t ≡ after scope.length s content

-- what the step of a pcapng file finds is what the rules say, both ways
pub record StepsByRules (scope : Scope) (s : State) (bytes : List ℕ) : Type 0 where
  pub bad : (fault : NgFault) → (pcapng scope).step s bytes ≡ Bad fault → (flaw : Flaw) × (fault ≡ fault_of s.count flaw) × HasFlaw scope s bytes flaw
  pub flaw : (flaw : Flaw) → HasFlaw scope s bytes flaw → (pcapng scope).step s bytes ≡ Bad (fault_of s.count flaw)
  pub takes : (n : ℕ) (frames : List FrameValue) (t : State) → (pcapng scope).step s bytes ≡ Takes n frames t → IsBlock scope s bytes n frames t
  pub block : (n : ℕ) (frames : List FrameValue) (t : State) → IsBlock scope s bytes n frames t → (pcapng scope).step s bytes ≡ Takes n frames t

-- Whole files, in these words.

-- from a state the bytes are these blocks end to end, and then the rest
abbrev pub AreBlocksThen : Scope → State → List (Part State FrameValue) → List ℕ → State → List ℕ → Type 0
AreBlocksThen scope s [] bytes t rest = (s ≡ t) × (bytes ≡ rest)
AreBlocksThen scope s (part ∷ parts) bytes t rest = IsBlock scope s bytes part.size part.items part.after
    × AreBlocksThen scope part.after parts (drop part.size bytes) t rest

-- a file begins with blocks of these frames, which lead to a state, and then comes the rest
pub record BeginsWith (scope : Scope) (file : List ℕ) (frames : List FrameValue) (last : State) (rest : List ℕ) : Type 0 where
  pub parts : List (Part State FrameValue)
  pub blocks : AreBlocksThen scope (pcapng scope).start parts file last rest
  pub frames_are : frames ≡ items_of parts

-- a file that is no longer than it may be is blocks end to end, a section header first, and nothing else
pub record IsFileOf (scope : Scope) (file : List ℕ) (frames : List FrameValue) : Type 0 where
  pub size : IsShort scope.length (length file)
  pub last : State
  pub read : BeginsWith scope file frames last []
  pub begun : is_some last.order ≡ true

-- after blocks of k frames comes one with this flaw
pub record ShowsFlaw (scope : Scope) (file : List ℕ) (k : ℕ) (flaw : Flaw) : Type 0 where
  pub frames : List FrameValue
  pub last : State
  pub rest : List ℕ
  pub read : BeginsWith scope file frames last rest
  pub number_is : k ≡ number_of scope.length (length frames)
  pub breaks : HasFlaw scope last rest flaw

-- neither a whole block nor one with a flaw
pub record IsPart (scope : Scope) (s : State) (bytes : List ℕ) : Type 0 where
  pub no_flaw : (flaw : Flaw) → HasFlaw scope s bytes flaw → ⊥
  pub no_block : (n : ℕ) (frames : List FrameValue) (t : State) → IsBlock scope s bytes n frames t → ⊥

-- a file that is no longer than it may be ends within a block after k frames, or before its first section header
pub record EndsWithin (scope : Scope) (file : List ℕ) (k : ℕ) : Type 0 where
  pub size : IsShort scope.length (length file)
  pub frames : List FrameValue
  pub last : State
  pub rest : List ℕ
  pub read : BeginsWith scope file frames last rest
  pub number_is : k ≡ number_of scope.length (length frames)
  pub part : IsPart scope last rest
  pub left : (0 < length rest) ⊎ (is_some last.order ≡ false)

-- too many bytes, 2^32 or more, of which those that count show no flaw
pub record IsTooLong (scope : Scope) (file : List ℕ) : Type 0 where
  pub size : IsLong scope.length (length file)
  pub first : (k : ℕ) (flaw : Flaw) → ShowsFlaw scope (seen scope.length file) k flaw → ⊥

-- why a file is no capture
abbrev pub HasFaultOf : Scope → List ℕ → NgFault → Type 0
HasFaultOf scope file (faults.BadMagic k) = ShowsFlaw scope (seen scope.length file) k BadMagic
HasFaultOf scope file (faults.BadVersion k) = ShowsFlaw scope (seen scope.length file) k BadVersion
HasFaultOf scope file (faults.BadLink k) = ShowsFlaw scope (seen scope.length file) k BadLink
HasFaultOf scope file (faults.FrameTooLong k) = ShowsFlaw scope (seen scope.length file) k FrameTooLong
HasFaultOf scope file (faults.Cut k) = EndsWithin scope file k
HasFaultOf scope file faults.TooManyBytes = IsTooLong scope file
HasFaultOf scope file (faults.BadLength k) = ShowsFlaw scope (seen scope.length file) k BadLength
HasFaultOf scope file (faults.NoInterface k) = ShowsFlaw scope (seen scope.length file) k NoInterface
HasFaultOf scope file (faults.TooManyInterfaces k) = ShowsFlaw scope (seen scope.length file) k TooManyInterfaces
HasFaultOf scope file faults.Memory = ⊥

-- captures of blocks, of this scope
abbrev pub blocks : Scope → kinds.Kind NgFault
blocks scope = record { longest = scope.length; Is = IsFileOf scope; Has = HasFaultOf scope; cut = faults.Cut }

-- the two ways to say what a file is, agree
abbrev pub FileByRules : Scope → List ℕ → Type 0
FileByRules scope file = kinds.JudgedAlike (blocks scope) (pcapng scope) file
