-- The row of a packet under `packet6` fits its schema.
use Rattle.std.proofs.Common.{◌≡◌, ℕ, ◌+◌, ◌^◌, ◌<◌, Bool, true, false, List, ◌++◌, drop, Option, Some, None, IfSome, refl, arith}
use Rattle.std.proofs.lemmas.Bool.{and_from, lt-ltb}
use Rattle.byteorder.specs.Endian.{big_number}
use Rattle.cf_row.specs.declared.packet6.PacketSchema.TheVariants.{Packet6}
use Rattle.cf_row.specs.declared.schema.Kind.TheVariants.{U64}
use Rattle.cf_row.specs.declared.row.Value.{Value}
use Rattle.cf_row.specs.Row.{Fits, values_fit, is_of_kind}
use Rattle.cf_row.specs.Schema.{packet_attrs}
use Rattle.cf_row.specs.Schema6.{address_attrs, more_attrs, packet6_attrs}
use Rattle.cf_pcap.specs.Capture.{FrameValue}
use Rattle.cf_headers.specs.declared.carried.Carried.{Carried}
use Rattle.cf_headers.specs.declared.transport.Transport.{Transport}
use Rattle.cf_headers.specs.declared.transport.Transport.TheVariants.{Unread, Tcp, Udp}
use Rattle.cf_headers.specs.Layers.{network_layer}
use Rattle.cf_headers.specs.Ipv6.{has_ipv6}
use Rattle.cf_headers.specs.Carried.{carried_in}
use Rattle.cf_headers.specs.Packet.{number_at, common_values}
use Rattle.cf_headers.specs.More.{payload_in, message_values, flag_in, flow_in, more_values}
use Rattle.cf_headers.specs.Packet6.{address6_values, packet6_row_of}
use Rattle.cf_headers.proofs.Fitting.{HoldsBytes, IsHeld, IsLow, IsNear, byte_at_fits, number_low, fits_append, network_near, carried_low, common_fits}
use Rattle.cf_headers.proofs.Flowing.{flow_low}

u64_at_fits : (frame : List ℕ) (place : ℕ) → HoldsBytes frame → is_of_kind U64 (number_at 8 frame place) ≡ true
unfolding number_at
u64_at_fits frame place low = lt-ltb (big_number 8 (drop place frame)) (2 ^ 64) (number_low 8 frame place low)

addresses_fit : (ipv6 : Bool) (place : ℕ) (frame : List ℕ) → HoldsBytes frame → values_fit address_attrs (address6_values ipv6 place frame) ≡ true
addresses_fit true place frame low =
    and_from _ _ (u64_at_fits frame (place + 8) low)
    (and_from _ _ (u64_at_fits frame (place + 16) low)
    (and_from _ _ (u64_at_fits frame (place + 24) low)
    (and_from _ _ (u64_at_fits frame (place + 32) low) refl)))
addresses_fit false place frame low = refl

payload_low : (transport : Transport) (stop : ℕ) (frame : List ℕ) → HoldsBytes frame → stop < 2 ^ 32 → payload_in transport stop frame < 2 ^ 32
unfolding payload_in
payload_low Unread stop frame low s = omega arith
payload_low (Tcp place) stop frame low s = omega (arith, s)
payload_low (Udp place) stop frame low s = omega (arith, number_low 2 frame (place + 4) low)

flag_low : (flag : ℕ) (transport : Transport) (frame : List ℕ) → flag_in flag transport frame < 2 ^ 8
unfolding flag_in
flag_low flag Unread frame = omega arith
flag_low flag (Tcp place) frame = omega arith
flag_low flag (Udp place) frame = omega arith

message_fits : (message : Option ℕ) (frame : List ℕ) (rest : List Value) → HoldsBytes frame → values_fit (drop 3 more_attrs) rest ≡ true
    → values_fit (drop 1 more_attrs) (message_values message frame ++ rest) ≡ true
message_fits None frame rest low more = and_from _ _ refl (and_from _ _ refl more)
message_fits (Some place) frame rest low more = and_from _ _ (byte_at_fits frame place low) (and_from _ _ (byte_at_fits frame (place + 1) low) more)

more_fit : (ipv6 : Bool) (place : ℕ) (carried : Option Carried) (frame : List ℕ) → HoldsBytes frame → IfSome carried IsLow
    → values_fit more_attrs (more_values ipv6 place carried frame) ≡ true
more_fit ipv6 place None frame low is = refl
more_fit ipv6 place (Some carried) frame low is =
    let transport = carried.transport in
    and_from _ _ (lt-ltb (payload_in transport carried.stop frame) (2 ^ 32) (payload_low transport carried.stop frame low is.stop))
    (message_fits carried.message frame _ low
    (and_from _ _ (lt-ltb (flag_in 0 transport frame) (2 ^ 8) (flag_low 0 transport frame))
    (and_from _ _ (lt-ltb (flag_in 1 transport frame) (2 ^ 8) (flag_low 1 transport frame))
    (and_from _ _ (lt-ltb (flag_in 2 transport frame) (2 ^ 8) (flag_low 2 transport frame))
    (and_from _ _ (lt-ltb (flag_in 4 transport frame) (2 ^ 8) (flag_low 4 transport frame))
    (and_from _ _ (lt-ltb (flow_in ipv6 place carried frame) (2 ^ 64) (flow_low _ _ _)) refl))))))

-- every field of a row of a packet is of its kind
pub packet6_fits : (packet : FrameValue) → IsHeld packet → Fits packet6_attrs (packet6_row_of packet)
packet6_fits packet held =
    let frame = packet.bytes in
    let layer = network_layer Packet6 packet.link frame in
    let ipv6 = has_ipv6 layer.etype layer.place frame in
    let carried = carried_in ipv6 layer.etype layer.place packet.len frame in
    let near : IsNear 28 layer = network_near Packet6 packet.link frame held.bytes in
    let is : IfSome carried IsLow = carried_low ipv6 layer.etype layer.place packet.len frame held.bytes held.len near.place in
    fits_append packet_attrs (address_attrs ++ more_attrs) (common_values ipv6 carried layer packet) _ (common_fits ipv6 carried layer packet held near is)
    (fits_append address_attrs more_attrs (address6_values ipv6 layer.place frame) _ (addresses_fit ipv6 layer.place frame held.bytes)
    (more_fit ipv6 layer.place carried frame held.bytes is))
