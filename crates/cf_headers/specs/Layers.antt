-- What comes after the link header and the tags of a frame, by the registry of link-layer header types (tcpdump.org/linktypes.html),
-- IEEE 802.3, IEEE 802.1Q and IEEE 802.1ad.
use Rattle.std.specs.Prelude.{ℕ, ◌+◌, ◌/◌, ◌%◌, ◌^◌, Bool, ◌&&◌, ◌||◌, ◌==◌, nat_le, List, length, drop, slice_index, if◌then◌else◌, Option, Some, None}
use Rattle.byteorder.specs.Endian.{big_number, little_number}
use Rattle.cf_row.specs.declared.packet6.PacketSchema.{PacketSchema}
use Rattle.cf_row.specs.declared.packet6.PacketSchema.TheVariants.{Packet, Packet6}
use Rattle.cf_pcap.specs.declared.links.Link.{Link}
use Rattle.cf_pcap.specs.declared.links.Link.TheVariants.{Ethernet, LinuxCooked, LinuxCookedV2, RawIp, Ipv4, Ipv6, Null, Loop}
use Rattle.cf_pcap.specs.Links.{number_of, link_of}
use Rattle.cf_headers.specs.declared.layer.Layer.{Layer}

-- the type of 2 bytes at a place, or 0 where the frame ends before
abbrev pub type_or_0 : List ℕ → ℕ → ℕ
type_or_0 frame place = if nat_le (place + 2) (length frame) then big_number 2 (drop place frame) else 0

-- the type for a version of IP
abbrev pub type_of_version : ℕ → ℕ
type_of_version version = if version == 4 then 0x0800 else if version == 6 then 0x86dd else 0

-- the type by the version of the IP header at the front
abbrev pub version_type : List ℕ → ℕ
version_type frame = if nat_le 1 (length frame) then type_of_version (slice_index frame 0 / 16) else 0

-- AF_INET6 of Linux, NetBSD and OpenBSD, FreeBSD, and Darwin
abbrev pub is_family6 : ℕ → Bool
is_family6 n = (n == 10) || ((n == 24) || ((n == 28) || (n == 30)))

-- the type for a protocol family, read in both byte orders: 2 is AF_INET
abbrev pub type_of_family : ℕ → ℕ → ℕ
type_of_family little big = if (little == 2) || (big == 2) then 0x0800 else if is_family6 little || is_family6 big then 0x86dd else 0

-- the type by the family of 4 bytes at the front
unfoldable pub family_type : List ℕ → ℕ
family_type frame = if nat_le 4 (length frame) then type_of_family (little_number 4 frame) (big_number 4 frame) else 0

-- The link whose header is read, by the link's number. `packet` reads a header of Linux SLL or of Ethernet: of a link that is neither 1
-- nor 113 the type is read where it stands in an Ethernet header. `packet6` reads the header of every link that has a name.
abbrev pub link_by : PacketSchema → ℕ → Option Link
link_by Packet n = if n == number_of LinuxCooked then Some LinuxCooked else Some Ethernet
link_by Packet6 n = link_of n

-- before any tag: the type of what comes next, and where that begins
abbrev pub untagged : ℕ → ℕ → Layer
untagged etype place = record { etype = etype; place = place; vlan = 0 }

-- what comes after the header of a link
abbrev pub layer_of : Option Link → List ℕ → Layer
layer_of None frame = untagged 0 0
layer_of (Some Ethernet) frame = untagged (type_or_0 frame 12) 14
layer_of (Some LinuxCooked) frame = untagged (type_or_0 frame 14) 16
layer_of (Some LinuxCookedV2) frame = untagged (type_or_0 frame 0) 20
layer_of (Some RawIp) frame = untagged (version_type frame) 0
layer_of (Some Ipv4) frame = untagged (version_type frame) 0
layer_of (Some Ipv6) frame = untagged (version_type frame) 0
layer_of (Some Null) frame = untagged (family_type frame) 4
layer_of (Some Loop) frame = untagged (family_type frame) 4

-- the same by the link's number
unfoldable pub link_layer : PacketSchema → ℕ → List ℕ → Layer
link_layer schema link frame = layer_of (link_by schema link) frame

-- the types of tags: `packet` reads that of a customer (8100), and `packet6` that of a service (88a8) too
abbrev pub is_tag : PacketSchema → ℕ → Bool
is_tag Packet etype = etype == 0x8100
is_tag Packet6 etype = (etype == 0x8100) || (etype == 0x88a8)

-- a whole tag comes next: 2 bytes whose low 12 bits are the number of a VLAN, and the type of what follows
unfoldable pub has_tag : PacketSchema → Layer → List ℕ → Bool
has_tag schema layer frame = is_tag schema layer.etype && nat_le (layer.place + 4) (length frame)

-- what comes after the tag
abbrev pub behind_tag : Layer → List ℕ → Layer
behind_tag layer frame = record {
  etype = big_number 2 (drop (layer.place + 2) frame);
  place = layer.place + 4;
  vlan = big_number 2 (drop layer.place frame) % 2 ^ 12;
}

-- what comes after a tag, if one comes next
unfoldable pub past_tag : PacketSchema → Layer → List ℕ → Layer
past_tag schema layer frame = if has_tag schema layer frame then behind_tag layer frame else layer

-- what comes after the tags: `packet` reads one, and `packet6` two, of which the first has the VLAN
abbrev pub past_tags : PacketSchema → Layer → List ℕ → Layer
past_tags Packet layer frame = past_tag Packet layer frame
past_tags Packet6 layer frame =
    let first = past_tag Packet6 layer frame in
    let second = past_tag Packet6 first frame in
    record { etype = second.etype; place = second.place; vlan = first.vlan }

-- what comes after the link header and the tags of a frame
abbrev pub network_layer : PacketSchema → ℕ → List ℕ → Layer
network_layer schema link frame = past_tags schema (link_layer schema link frame) frame
