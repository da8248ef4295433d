-- The blocks of the PCAP Next Generation capture file format (draft-ietf-opsawg-pcapng-02): what stands at the front of some
-- bytes, and what a whole block states.
use Rattle.std.specs.Prelude.{ℕ, zero, suc, ◌+◌, ◌-◌, ◌*◌, ◌/◌, ◌%◌, ◌^◌, ◌==◌, ◌&&◌, min, nat_lt, nat_le, if◌then◌else◌, Bool, true, false}
use Rattle.std.specs.Prelude.{List, length, drop, slice_range, slice_index, slice_get, Option, Some, None, Result, Ok, Err}
use Rattle.byteorder.specs.Endian.{little_number, big_number}
use Rattle.cf_pcap.specs.declared.links.LinkSet.{LinkSet}
use Rattle.cf_pcap.specs.declared.limit.Length.{Length}
use Rattle.cf_pcap.specs.declared.limit.Length.TheVariants.{Limited, Any}
use Rattle.cf_pcap.specs.declared.scope.Scope.{Scope}
use Rattle.cf_pcap.specs.declared.form.Order.{Order}
use Rattle.cf_pcap.specs.declared.form.Order.TheVariants.{Little, Big}
use Rattle.cf_pcap.specs.Capture.{number_in}
use Rattle.cf_pcap.specs.Links.{is_link, longest}
use Rattle.cf_pcapng.specs.declared.fault.Flaw.{Flaw}
use Rattle.cf_pcapng.specs.declared.fault.Flaw.TheVariants.{BadMagic, BadVersion, BadLink, FrameTooLong, BadLength, NoInterface, TooManyInterfaces}
use Rattle.cf_pcapng.specs.declared.head.BlockKind.{BlockKind}
use Rattle.cf_pcapng.specs.declared.head.BlockKind.TheVariants.{SectionHeader, InterfaceDescription, EnhancedPacket, SimplePacket, Other}
use Rattle.cf_pcapng.specs.declared.head.BlockHead.{BlockHead}
use Rattle.cf_pcapng.specs.declared.head.BlockHead.TheVariants.{Short, Flawed, Stands}
use Rattle.cf_pcapng.specs.declared.interfaces.Interface.{Interface}
use Rattle.cf_pcapng.specs.declared.content.Packet.{Packet}
use Rattle.cf_pcapng.specs.declared.content.Content.{Content}
use Rattle.cf_pcapng.specs.declared.content.Content.TheVariants.{NewSection, NewInterface, Captures, Nothing}

-- The head of a block: its type and its total length.

-- a section header's type is 0x0a0d0d0a in both byte orders
abbrev pub is_section : List ℕ → Bool
is_section bytes = little_number 4 bytes == 0x0a0d0d0a

-- the types of the other blocks that are read
abbrev pub kind_of : ℕ → BlockKind
kind_of n = if n == 1 then InterfaceDescription else (if n == 6 then EnhancedPacket else (if n == 3 then SimplePacket else Other))

-- the byte order in which a section header's magic is 0x1a2b3c4d
abbrev pub order_at : List ℕ → Option Order
order_at bytes =
    if little_number 4 (drop 8 bytes) == 0x1a2b3c4d then Some Little
    else (if big_number 4 (drop 8 bytes) == 0x1a2b3c4d then Some Big else None)

-- the fewest bytes that a block of a kind has
abbrev pub least : BlockKind → ℕ
least SectionHeader = 28
least InterfaceDescription = 20
least EnhancedPacket = 32
least SimplePacket = 16
least Other = 12

-- the blocks that are read have 2^20 bytes at most, and others any number
abbrev pub is_within : BlockKind → ℕ → Bool
is_within SectionHeader n = nat_le n (2 ^ 20)
is_within InterfaceDescription n = nat_le n (2 ^ 20)
is_within EnhancedPacket n = nat_le n (2 ^ 20)
is_within SimplePacket n = nat_le n (2 ^ 20)
is_within Other n = true

-- a lawful total length
abbrev pub is_total : BlockKind → ℕ → Bool
is_total kind n = (n % 4 == 0) && nat_le (least kind) n && is_within kind n

-- the total length that the second field states
abbrev pub total_at : Order → List ℕ → ℕ
total_at order bytes = number_in order 4 (drop 4 bytes)

-- rule 3, after 8 bytes, of a section header after 12
unfoldable pub sized : Order → BlockKind → List ℕ → BlockHead
sized order kind bytes = if is_total kind (total_at order bytes) then Stands order kind (total_at order bytes) else Flawed BadLength

-- rule 2, after 12 bytes
abbrev pub in_order : Option Order → List ℕ → BlockHead
in_order None bytes = Flawed BadMagic
in_order (Some order) bytes = sized order SectionHeader bytes

-- what the bytes at the front show of a section header, whose type is known: Short while its magic isn't whole
unfoldable pub section_head : List ℕ → BlockHead
section_head bytes = if nat_lt (length bytes) 12 then Short else in_order (order_at bytes) bytes

-- rule 1, after 4 bytes: outside of a section no other block stands
abbrev pub block_head : Option Order → List ℕ → BlockHead
block_head None bytes = Flawed BadMagic
block_head (Some order) bytes = if nat_lt (length bytes) 8 then Short else sized order (kind_of (number_in order 4 bytes)) bytes

-- what the bytes at the front show of a block in a section of this byte order, or outside of any
unfoldable pub head_of : Option Order → List ℕ → BlockHead
head_of order bytes =
    if nat_lt (length bytes) 4 then Short
    else (if is_section bytes then section_head bytes else block_head order bytes)

-- Options.

-- a length with the padding to 32 bits
abbrev pub padded : ℕ → ℕ
padded n = (n + 3) / 4 * 4

-- if_tsresol is the option of code 9 and of one byte
abbrev pub is_resolution : Order → List ℕ → Bool
is_resolution order options = (number_in order 2 options == 9) && (number_in order 2 (drop 2 options) == 1)

-- how many bytes the option at the front takes
abbrev pub option_size : Order → List ℕ → ℕ
option_size order options = 4 + padded (number_in order 2 (drop 2 options))

-- an option stands at the front: neither opt_endofopt, code 0, nor one that doesn't fit
abbrev pub has_option : Order → List ℕ → Bool
has_option order options =
    if nat_lt (length options) 4 then false
    else (if number_in order 2 options == 0 then false else nat_le (option_size order options) (length options))

-- the resolution after the option at the front, where it was `found` before
abbrev pub resolved : Order → ℕ → List ℕ → ℕ
resolved order found options = if is_resolution order options then slice_index options 4 else found

-- the last if_tsresol among the first n options counts
abbrev pub resolution_in : Order → ℕ → ℕ → List ℕ → ℕ
resolution_in order zero found options = found
resolution_in order (suc n) found options =
    if has_option order options then resolution_in order n (resolved order found options) (drop (option_size order options) options)
    else found

-- the resolution that the options state: 10^-6 of a second where none does
abbrev pub resolution_of : Order → List ℕ → ℕ
resolution_of order options = resolution_in order (length options) 6 options

-- Times.

-- how many units of time a second has: a power of 10, or of 2 where the high bit is set
abbrev pub units : ℕ → ℕ
units v = if nat_lt v 128 then 10 ^ v else 2 ^ (v - 128)

-- the whole nanoseconds in so many units, or the largest number of 64 bits
unfoldable pub nanoseconds_of : ℕ → ℕ → ℕ
nanoseconds_of v time = min (time * 10 ^ 9 / units v) (2 ^ 64 - 1)

-- Whole blocks, first to last byte.

-- the interface that an interface description block states: its link, its snapshot length, its options
abbrev pub interface_at : Order → List ℕ → Interface
interface_at order block = record {
  link = number_in order 2 (drop 8 block);
  snaplen = number_in order 4 (drop 12 block);
  resolution = resolution_of order (slice_range block 16 (length block - 4));
}

-- one more interface has a place in a section: in a stream of any length, whose reader keeps them, a section has 65,536 at most
abbrev pub has_place : Length → List Interface → Bool
has_place Limited interfaces = true
has_place Any interfaces = nat_lt (length interfaces) 65536

-- rule 10, of an interface description
abbrev pub interface_of : Length → List Interface → Interface → Result Content Flaw
interface_of limit interfaces interface = if has_place limit interfaces then Ok (NewInterface interface) else Err TooManyInterfaces

-- rules 7 to 9, of a packet in a block with room for so many bytes
unfoldable pub packet_of : LinkSet → ℕ → Packet → Result Content Flaw
packet_of links room packet =
    if is_link links packet.link then
    (if nat_le packet.caplen longest then (if nat_le packet.caplen room then Ok (Captures packet) else Err BadLength) else Err FrameTooLong)
    else Err BadLink

-- the time of an enhanced packet: the high and the low 32 bits
abbrev pub time_at : Order → List ℕ → ℕ
time_at order block = number_in order 4 (drop 12 block) * 2 ^ 32 + number_in order 4 (drop 16 block)

-- the packet of an enhanced packet block: the link of its interface, time, captured length, original length, bytes
abbrev pub enhanced_packet : Interface → Order → List ℕ → Packet
enhanced_packet interface order block = record {
  ts = nanoseconds_of interface.resolution (time_at order block);
  caplen = number_in order 4 (drop 20 block);
  len = number_in order 4 (drop 24 block);
  link = interface.link;
  begin = 28;
}

-- rule 6 is on its interface
abbrev pub enhanced_of : LinkSet → Option Interface → Order → List ℕ → Result Content Flaw
enhanced_of links None order block = Err NoInterface
enhanced_of links (Some interface) order block = packet_of links (length block - 32) (enhanced_packet interface order block)

-- the captured length of a simple packet: its bytes are cut to the snapshot length, where that isn't 0, and end with the
-- block
abbrev pub simple_caplen : ℕ → ℕ → ℕ → ℕ
simple_caplen original snaplen room = min (if snaplen == 0 then original else min original snaplen) room

-- the packet of a simple packet block: the link of its interface, original length, bytes. It has no time.
abbrev pub simple_packet : Interface → Order → List ℕ → Packet
simple_packet interface order block = record {
  ts = 0;
  caplen = simple_caplen (number_in order 4 (drop 8 block)) interface.snaplen (length block - 16);
  len = number_in order 4 (drop 8 block);
  link = interface.link;
  begin = 12;
}

-- it is of the section's first interface
abbrev pub simple_of : LinkSet → Option Interface → Order → List ℕ → Result Content Flaw
simple_of links None order block = Err NoInterface
simple_of links (Some interface) order block = packet_of links (length block - 16) (simple_packet interface order block)

-- rules 5 to 10, by the kind of block, in a section with these interfaces
abbrev pub stated : Scope → List Interface → Order → BlockKind → List ℕ → Result Content Flaw
stated scope interfaces order SectionHeader block = if number_in order 2 (drop 12 block) == 1 then Ok (NewSection order) else Err BadVersion
stated scope interfaces order InterfaceDescription block = interface_of scope.length interfaces (interface_at order block)
stated scope interfaces order EnhancedPacket block = enhanced_of scope.links (slice_get interfaces (number_in order 4 (drop 8 block))) order block
stated scope interfaces order SimplePacket block = simple_of scope.links (slice_get interfaces 0) order block
stated scope interfaces order Other block = Ok Nothing

-- the total length that the last field states
abbrev pub last_total : Order → List ℕ → ℕ
last_total order block = number_in order 4 (drop (length block - 4) block)

-- rules 4 to 10: what a whole block states, or the first rule that it breaks
unfoldable pub content_of : Scope → List Interface → Order → BlockKind → List ℕ → Result Content Flaw
content_of scope interfaces order kind block = if last_total order block == length block then stated scope interfaces order kind block else Err BadLength
