-- What is asked of a packet beyond the fields of its headers: how much TCP or UDP carries, ICMP (RFC 792, RFC 4443), single flags of
-- TCP, and the number of its conversation.
use Rattle.std.specs.Prelude.{ℕ, ◌+◌, ◌-◌, ◌*◌, ◌/◌, ◌%◌, ◌^◌, Bool, true, false, List, [], ◌∷◌, ◌++◌, drop, replicate, slice_index, slice_range, if◌then◌else◌, Option, Some, None}
use Rattle.byteorder.specs.Endian.{big_number}
use Rattle.cf_row.specs.declared.row.Value.{Value}
use Rattle.cf_row.specs.declared.row.Value.TheVariants.{Num}
use Rattle.cf_headers.specs.declared.carried.Carried.{Carried}
use Rattle.cf_headers.specs.declared.transport.Transport.{Transport}
use Rattle.cf_headers.specs.declared.transport.Transport.TheVariants.{Unread, Tcp, Udp}
use Rattle.cf_headers.specs.Packet.{byte_at}
use Rattle.cf_headers.specs.Flow.{flow_of}

-- how many bytes there are behind the transport header: of TCP up to the packet's end, the header's length in words of 4 bytes being
-- the high half of its byte 12 (RFC 9293, section 3.1); of UDP by its own length, in which its 8 bytes are counted (RFC 768)
unfoldable pub payload_in : Transport → ℕ → List ℕ → ℕ
payload_in Unread stop frame = 0
payload_in (Tcp place) stop frame = stop - place - 4 * (slice_index frame (place + 12) / 16)
payload_in (Udp place) stop frame = big_number 2 (drop (place + 4) frame) - 8

-- the type and the code of an ICMP message, its first two bytes
abbrev pub message_values : Option ℕ → List ℕ → List Value
message_values None frame = Num 0 ∷ Num 0 ∷ []
message_values (Some place) frame = byte_at frame place ∷ byte_at frame (place + 1) ∷ []

-- a flag of TCP (RFC 9293, section 3.1), the last of byte 13 being 0: FIN 0, SYN 1, RST 2, ACK 4
unfoldable pub flag_in : ℕ → Transport → List ℕ → ℕ
flag_in flag Unread frame = 0
flag_in flag (Tcp place) frame = slice_index frame (place + 13) / 2 ^ flag % 2
flag_in flag (Udp place) frame = 0

-- the source and the destination address: that of IPv6, or that of IPv4 in the form of RFC 4291, section 2.5.5.2
unfoldable pub address_of : Bool → ℕ → List ℕ → List ℕ
address_of true place frame = slice_range frame place (place + 16)
address_of false place frame = replicate 10 0 ++ (0xff ∷ 0xff ∷ slice_range frame place (place + 4))

abbrev pub source_at : Bool → ℕ → ℕ
source_at ipv6 place = if ipv6 then place + 8 else place + 12

abbrev pub target_at : Bool → ℕ → ℕ
target_at ipv6 place = if ipv6 then place + 24 else place + 16

-- the two bytes of a port that stands so far behind the begin of its header
unfoldable pub port_of : ℕ → Transport → List ℕ → List ℕ
port_of by Unread frame = 0 ∷ 0 ∷ []
port_of by (Tcp place) frame = slice_index frame (place + by) ∷ slice_index frame (place + by + 1) ∷ []
port_of by (Udp place) frame = slice_index frame (place + by) ∷ slice_index frame (place + by + 1) ∷ []

-- the flow from the source with its port to the destination with its port
abbrev pub flow_in : Bool → ℕ → Carried → List ℕ → ℕ
flow_in ipv6 place carried frame =
    flow_of (address_of ipv6 (source_at ipv6 place) frame ++ port_of 0 carried.transport frame)
    (address_of ipv6 (target_at ipv6 place) frame ++ port_of 2 carried.transport frame)
    carried.protocol

-- payload, icmp_type, icmp_code, is_fin, is_syn, is_rst, is_ack and flow, where a network header is read
abbrev pub more_values : Bool → ℕ → Option Carried → List ℕ → List Value
more_values ipv6 place None frame = replicate 8 (Num 0)
more_values ipv6 place (Some carried) frame =
    (Num (payload_in carried.transport carried.stop frame) ∷ message_values carried.message frame)
    ++ (Num (flag_in 0 carried.transport frame)
    ∷ Num (flag_in 1 carried.transport frame)
    ∷ Num (flag_in 2 carried.transport frame)
    ∷ Num (flag_in 4 carried.transport frame)
    ∷ Num (flow_in ipv6 place carried frame)
    ∷ [])
