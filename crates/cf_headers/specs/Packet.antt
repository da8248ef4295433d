-- The row of a captured packet, by the fields of its headers.
use Rattle.std.specs.Prelude.{ℕ, ◌+◌, Bool, true, false, ◌&&◌, ◌==◌, nat_le, min, List, [], ◌∷◌, ◌++◌, length, drop, replicate, slice_index, slice_range, if◌then◌else◌, Option, Some, None}
use Rattle.byteorder.specs.Endian.{big_number}
use Rattle.cf_row.specs.declared.row.Value.{Value}
use Rattle.cf_row.specs.declared.row.Value.TheVariants.{Num, Raw}
use Rattle.cf_row.specs.Row.{RowValue}
use Rattle.cf_row.specs.declared.packet6.PacketSchema.TheVariants.{Packet}
use Rattle.cf_pcap.specs.declared.links.Link.TheVariants.{Ethernet}
use Rattle.cf_pcap.specs.Links.{number_of}
use Rattle.cf_pcap.specs.Capture.{FrameValue}
use Rattle.cf_headers.specs.declared.carried.Carried.{Carried}
use Rattle.cf_headers.specs.declared.layer.Layer.{Layer}
use Rattle.cf_headers.specs.declared.transport.Transport.{Transport}
use Rattle.cf_headers.specs.declared.transport.Transport.TheVariants.{Unread, Tcp, Udp}
use Rattle.cf_headers.specs.Layers.{network_layer}
use Rattle.cf_headers.specs.Ipv6.{traffic_class, payload_length}
use Rattle.cf_headers.specs.Carried.{carried_in, transport_behind, kind_of}

-- the value of a field of one byte, which stands at that place of the frame, from 0
unfoldable pub byte_at : List ℕ → ℕ → Value
byte_at frame place = Num (slice_index frame place)

-- the value of a field of so many bytes, which stands at that place of the frame, from 0
unfoldable pub number_at : ℕ → List ℕ → ℕ → Value
number_at bytes frame place = Num (big_number bytes (drop place frame))

-- an address of 6 bytes (IEEE 802.3) where its header is read, else zero bytes; 10 zero bytes fill the 16 of a byte string
unfoldable pub address_if : Bool → List ℕ → ℕ → Value
address_if read frame place = Raw 6 ((if read then slice_range frame place (place + 6) else replicate 6 0) ++ replicate 10 0)

-- an Ethernet II header (link 1) is there, with two addresses
abbrev pub has_addresses : ℕ → List ℕ → Bool
has_addresses link frame = (link == number_of Ethernet) && nat_le 14 (length frame)

-- dmac, smac
abbrev pub address_values : ℕ → List ℕ → List Value
address_values link frame = address_if (has_addresses link frame) frame 0 ∷ address_if (has_addresses link frame) frame 6 ∷ []

-- tos, iplen, ttl, proto, src and dst of an IPv4 header at a place (RFC 791, section 3.1)
abbrev pub network4_values : ℕ → List ℕ → List Value
network4_values place frame =
    byte_at frame (place + 1)
    ∷ number_at 2 frame (place + 2)
    ∷ byte_at frame (place + 8)
    ∷ byte_at frame (place + 9)
    ∷ number_at 4 frame (place + 12)
    ∷ number_at 4 frame (place + 16)
    ∷ []

-- tos, iplen, ttl and proto of an IPv6 header at a place (RFC 8200, section 3), the last by the headers behind it; no src and dst
abbrev pub network6_values : ℕ → ℕ → List ℕ → List Value
network6_values protocol place frame =
    Num (traffic_class place frame)
    ∷ Num (min (payload_length place frame + 40) 65535)
    ∷ byte_at frame (place + 7)
    ∷ Num protocol
    ∷ Num 0
    ∷ Num 0
    ∷ []

-- the fields of the network header, IPv6 (`ipv6`) or IPv4, if one is read
abbrev pub network_values : Bool → Option Carried → ℕ → List ℕ → List Value
network_values ipv6 None place frame = replicate 6 (Num 0)
network_values true (Some carried) place frame = network6_values carried.protocol place frame
network_values false (Some carried) place frame = network4_values place frame

-- sport, dport (RFC 9293, section 3.1, and RFC 768), and seq, ack, flags, win (RFC 9293, section 3.1)
abbrev pub transport_values : Transport → List ℕ → List Value
transport_values Unread frame = Num 0 ∷ Num 0 ∷ Num 0 ∷ Num 0 ∷ Num 0 ∷ Num 0 ∷ []
transport_values (Tcp place) frame =
    number_at 2 frame place
    ∷ number_at 2 frame (place + 2)
    ∷ number_at 4 frame (place + 4)
    ∷ number_at 4 frame (place + 8)
    ∷ byte_at frame (place + 13)
    ∷ number_at 2 frame (place + 14)
    ∷ []
transport_values (Udp place) frame = number_at 2 frame place ∷ number_at 2 frame (place + 2) ∷ Num 0 ∷ Num 0 ∷ Num 0 ∷ Num 0 ∷ []

-- the values of both schemas: ts, caplen, len, the addresses, etype and kind, the fields of the other headers, and vlan
abbrev pub common_values : Bool → Option Carried → Layer → FrameValue → List Value
common_values ipv6 carried layer packet =
    (Num packet.ts ∷ Num packet.caplen ∷ Num packet.len ∷ [])
    ++ (address_values packet.link packet.bytes
    ++ (Num layer.etype ∷ Num (kind_of carried)
    ∷ (network_values ipv6 carried layer.place packet.bytes
    ++ (transport_values (transport_behind carried) packet.bytes ++ Num layer.vlan ∷ []))))

-- by what comes after the link header and its tag, where IPv6 isn't read
abbrev pub packet_values : Layer → FrameValue → List Value
packet_values layer packet = common_values false (carried_in false layer.etype layer.place packet.len packet.bytes) layer packet

-- the row of a captured packet by the schema `packet`
abbrev pub packet_row_of : FrameValue → RowValue
packet_row_of packet = record { num = packet.num; values = packet_values (network_layer Packet packet.link packet.bytes) packet }
