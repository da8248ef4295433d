-- The row of a captured packet with its IPv6 addresses and what more is asked of it.
use Rattle.std.specs.Prelude.{◌≡◌, ℕ, ◌+◌, ◌<◌, Bool, true, false, List, [], ◌∷◌, ◌++◌, replicate, take, Option}
use Rattle.cf_row.specs.declared.row.Value.{Value}
use Rattle.cf_row.specs.declared.row.Value.TheVariants.{Num}
use Rattle.cf_row.specs.Row.{RowValue}
use Rattle.cf_row.specs.declared.packet6.PacketSchema.TheVariants.{Packet, Packet6}
use Rattle.cf_pcap.specs.declared.links.LinkSet.TheVariants.{Basic}
use Rattle.cf_pcap.specs.Links.{is_link}
use Rattle.cf_pcap.specs.Capture.{FrameValue}
use Rattle.cf_headers.specs.declared.carried.Carried.{Carried}
use Rattle.cf_headers.specs.declared.layer.Layer.{Layer}
use Rattle.cf_headers.specs.Layers.{network_layer}
use Rattle.cf_headers.specs.Ipv6.{has_ipv6}
use Rattle.cf_headers.specs.Carried.{carried_in, kind_of}
use Rattle.cf_headers.specs.Packet.{number_at, common_values, packet_row_of}
use Rattle.cf_headers.specs.More.{more_values}

-- the high and the low 64 bits of the addresses, where there is an IPv6 header
abbrev pub address6_values : Bool → ℕ → List ℕ → List Value
address6_values true place frame =
    number_at 8 frame (place + 8)
    ∷ number_at 8 frame (place + 16)
    ∷ number_at 8 frame (place + 24)
    ∷ number_at 8 frame (place + 32)
    ∷ []
address6_values false place frame = replicate 4 (Num 0)

-- the values of both schemas, and then the addresses and what more is asked. `ipv6` says whether an IPv6 header stands at the place.
abbrev pub values_by : Bool → Option Carried → Layer → FrameValue → List Value
values_by ipv6 carried layer packet =
    common_values ipv6 carried layer packet ++ (address6_values ipv6 layer.place packet.bytes ++ more_values ipv6 layer.place carried packet.bytes)

-- by what comes after the link header and its tags
abbrev pub packet6_values : Layer → FrameValue → List Value
packet6_values layer packet =
    let ipv6 = has_ipv6 layer.etype layer.place packet.bytes in
    values_by ipv6 (carried_in ipv6 layer.etype layer.place packet.len packet.bytes) layer packet

-- the row of a captured packet by the schema `packet6`
abbrev pub packet6_row_of : FrameValue → RowValue
packet6_row_of packet = record { num = packet.num; values = packet6_values (network_layer Packet6 packet.link packet.bytes) packet }

-- where a packet's row has a kind above 0, it is the begin of its row under `packet6`
abbrev pub Agrees : FrameValue → Type 0
Agrees packet =
    let layer = network_layer Packet packet.link packet.bytes in
    is_link Basic packet.link ≡ true
    → 0 < kind_of (carried_in false layer.etype layer.place packet.len packet.bytes)
    → take 20 (packet6_row_of packet).values ≡ (packet_row_of packet).values
