-- The row of a packet fits the packet schema.
use Rattle.std.proofs.Common.{◌≡◌, ℕ, zero, suc, ◌+◌, ◌-◌, ◌/◌, ◌^◌, ◌<◌, ◌≤◌, Bool, true, false, ◌==◌, nat_lt, nat_le, min, List, [], ◌∷◌, ◌++◌, length, drop, take, replicate, get_or, slice_index, if◌then◌else◌, Option, Some, None, IfSome, refl, sym, ◌∙◌, arith, length-append, length-drop}
use Rattle.std.proofs.lemmas.Bool.{and_from, and_parts, lt-ltb, leb-true}
use Rattle.std.proofs.lemmas.List.{get_or-drop, length-take-le}
use Rattle.std.proofs.Math.Seq.{drop-append_seam}
use Rattle.byteorder.specs.Endian.{big_number, little_number}
use Rattle.byteorder.specs.Numbers.{big_from-lt}
use Rattle.cf_row.specs.declared.packet6.PacketSchema.{PacketSchema}
use Rattle.cf_row.specs.declared.packet6.PacketSchema.TheVariants.{Packet, Packet6}
use Rattle.cf_row.specs.declared.schema.Attr.{Attr}
use Rattle.cf_row.specs.declared.schema.Kind.TheVariants.{U8, U16, U32, Bytes}
use Rattle.cf_row.specs.declared.row.Value.{Value}
use Rattle.cf_row.specs.declared.row.Value.TheVariants.{Num}
use Rattle.cf_row.specs.Row.{Fits, values_fit, is_of_kind, is_byte_string}
use Rattle.cf_row.specs.Schema.{packet_attrs}
use Rattle.cf_row.proofs.Bytes.{AreBytes, bytes_of, bytes_take, bytes_drop, bytes_append, zeros_low}
use Rattle.cf_row.proofs.Fitting.{byte_string}
use Rattle.cf_pcap.specs.declared.links.Link.{Link}
use Rattle.cf_pcap.specs.declared.links.Link.TheVariants.{Ethernet, LinuxCooked, LinuxCookedV2, RawIp, Ipv4, Ipv6, Null, Loop}
use Rattle.cf_pcap.specs.Capture.{FrameValue}
use Rattle.cf_headers.specs.declared.carried.Carried.{Carried}
use Rattle.cf_headers.specs.declared.extension.Upper.{Upper}
use Rattle.cf_headers.specs.declared.layer.Layer.{Layer}
use Rattle.cf_headers.specs.declared.transport.Transport.{Transport}
use Rattle.cf_headers.specs.declared.transport.Transport.TheVariants.{Unread, Tcp, Udp}
use Rattle.cf_headers.specs.Layers.{type_or_0, type_of_version, version_type, type_of_family, family_type, link_by, untagged, layer_of, link_layer, has_tag, behind_tag, past_tag, past_tags, network_layer}
use Rattle.cf_headers.specs.Ipv4.{has_ipv4, total_length}
use Rattle.cf_headers.specs.Ipv6.{traffic_class, payload_length, packet6_end, has_extension, is_later_part, extension_length, upper_after, upper_of}
use Rattle.cf_headers.specs.Carried.{carried4, carried6, carried_in, transport_behind, kind_by, kind_of}
use Rattle.cf_headers.specs.Packet.{byte_at, number_at, address_if, has_addresses, network_values, transport_values, common_values, packet_row_of}

-- Fields.

-- each is a byte
abbrev pub HoldsBytes : List ℕ → Type 0
HoldsBytes bytes = (i : ℕ) → get_or bytes i 0 < 256

pub byte_at_fits : (frame : List ℕ) (place : ℕ) → HoldsBytes frame → is_of_kind U8 (byte_at frame place) ≡ true
unfolding byte_at
byte_at_fits frame place low = lt-ltb (get_or frame place 0) (2 ^ 8) (low place)

pub number_low : (count : ℕ) (frame : List ℕ) (place : ℕ) → HoldsBytes frame → big_number count (drop place frame) < 256 ^ count
number_low count frame place low = big_from-lt 0 count (drop place frame) (λ i. rw (get_or-drop place frame i 0) (low (place + i)))

pub u16_at_fits : (frame : List ℕ) (place : ℕ) → HoldsBytes frame → is_of_kind U16 (number_at 2 frame place) ≡ true
unfolding number_at
u16_at_fits frame place low = lt-ltb (big_number 2 (drop place frame)) (2 ^ 16) (number_low 2 frame place low)

pub u32_at_fits : (frame : List ℕ) (place : ℕ) → HoldsBytes frame → is_of_kind U32 (number_at 4 frame place) ≡ true
unfolding number_at
u32_at_fits frame place low = lt-ltb (big_number 4 (drop place frame)) (2 ^ 32) (number_low 4 frame place low)

pub fits_append : (attrs more : List Attr) (vs ws : List Value) → values_fit attrs vs ≡ true → values_fit more ws ≡ true
    → values_fit (attrs ++ more) (vs ++ ws) ≡ true
fits_append [] more [] ws fits rest = rest
fits_append [] more (v ∷ vs) ws fits rest = absurd (cc fits)
fits_append (a ∷ attrs) more [] ws fits rest = absurd (cc fits)
fits_append (a ∷ attrs) more (v ∷ vs) ws fits rest =
    let parts = and_parts (is_of_kind a.kind v) (values_fit attrs vs) fits in
    and_from _ _ parts.0 (fits_append attrs more vs ws parts.1 rest)

-- What comes after the link header and the tags.

choice_low : (b : Bool) (n m : ℕ) → n < 2 ^ 16 → m < 2 ^ 16 → (if b then n else m) < 2 ^ 16
choice_low true n m p q = p
choice_low false n m p q = q

type_low : (frame : List ℕ) (place : ℕ) → HoldsBytes frame → type_or_0 frame place < 2 ^ 16
type_low frame place low = choice_low (nat_le (place + 2) (length frame)) (big_number 2 (drop place frame)) 0 (number_low 2 frame place low) (omega arith)

version_by : (b c : Bool) → (if b then 0x0800 else if c then 0x86dd else 0) < 2 ^ 16
version_by true c = omega arith
version_by false true = omega arith
version_by false false = omega arith

version_low : (frame : List ℕ) → version_type frame < 2 ^ 16
version_low frame = choice_low (nat_le 1 (length frame)) (type_of_version (slice_index frame 0 / 16)) 0 (version_by _ _) (omega arith)

family_low : (frame : List ℕ) → family_type frame < 2 ^ 16
unfolding family_type
family_low frame = choice_low (nat_le 4 (length frame)) (type_of_family (little_number 4 frame) (big_number 4 frame)) 0 (version_by _ _) (omega arith)

-- its numbers fit their types, and it begins near the front
pub record IsNear (most : ℕ) (layer : Layer) : Type 0 where
  pub etype : layer.etype < 2 ^ 16
  pub place : layer.place ≤ most
  pub vlan : layer.vlan < 2 ^ 16

untagged_near : (etype place : ℕ) → etype < 2 ^ 16 → place ≤ 20 → IsNear 20 (untagged etype place)
untagged_near etype place low near = record { etype = low; place = near; vlan = omega arith }

layer_near : (link : Option Link) (frame : List ℕ) → HoldsBytes frame → IsNear 20 (layer_of link frame)
layer_near None frame low = untagged_near 0 0 (omega arith) (omega arith)
layer_near (Some Ethernet) frame low = untagged_near (type_or_0 frame 12) 14 (type_low frame 12 low) (omega arith)
layer_near (Some LinuxCooked) frame low = untagged_near (type_or_0 frame 14) 16 (type_low frame 14 low) (omega arith)
layer_near (Some LinuxCookedV2) frame low = untagged_near (type_or_0 frame 0) 20 (type_low frame 0 low) (omega arith)
layer_near (Some RawIp) frame low = untagged_near (version_type frame) 0 (version_low frame) (omega arith)
layer_near (Some Ipv4) frame low = untagged_near (version_type frame) 0 (version_low frame) (omega arith)
layer_near (Some Ipv6) frame low = untagged_near (version_type frame) 0 (version_low frame) (omega arith)
layer_near (Some Null) frame low = untagged_near (family_type frame) 4 (family_low frame) (omega arith)
layer_near (Some Loop) frame low = untagged_near (family_type frame) 4 (family_low frame) (omega arith)

link_near : (schema : PacketSchema) (link : ℕ) (frame : List ℕ) → HoldsBytes frame → IsNear 20 (link_layer schema link frame)
unfolding link_layer
link_near schema link frame low = layer_near (link_by schema link) frame low

behind_near : (most : ℕ) (layer : Layer) (frame : List ℕ) → HoldsBytes frame → IsNear most layer → IsNear (most + 4) (behind_tag layer frame)
behind_near most layer frame low is = record {
  etype = number_low 2 frame (layer.place + 2) low;
  place = omega (arith, is.place);
  vlan = omega arith;
}

near_by : (tagged : Bool) (most : ℕ) (x y : Layer) → IsNear (most + 4) x → IsNear most y → IsNear (most + 4) (if tagged then x else y)
near_by true most x y p q = p
near_by false most x y p q = record { etype = q.etype; place = omega (arith, q.place); vlan = q.vlan }

past_near : (schema : PacketSchema) (most : ℕ) (layer : Layer) (frame : List ℕ) → HoldsBytes frame → IsNear most layer
    → IsNear (most + 4) (past_tag schema layer frame)
unfolding past_tag
past_near schema most layer frame low is =
    near_by (has_tag schema layer frame) most (behind_tag layer frame) layer (behind_near most layer frame low is) is

tags_near : (schema : PacketSchema) (layer : Layer) (frame : List ℕ) → HoldsBytes frame → IsNear 20 layer → IsNear 28 (past_tags schema layer frame)
tags_near Packet layer frame low is =
    let first : IsNear 24 (past_tag Packet layer frame) = past_near Packet 20 layer frame low is in
    record { etype = first.etype; place = omega (arith, first.place); vlan = first.vlan }
tags_near Packet6 layer frame low is =
    let first : IsNear 24 (past_tag Packet6 layer frame) = past_near Packet6 20 layer frame low is in
    let second = past_near Packet6 24 (past_tag Packet6 layer frame) frame low first in
    record { etype = second.etype; place = second.place; vlan = first.vlan }

pub network_near : (schema : PacketSchema) (link : ℕ) (frame : List ℕ) → HoldsBytes frame → IsNear 28 (network_layer schema link frame)
network_near schema link frame low = tags_near schema (link_layer schema link frame) frame low (link_near schema link frame low)

-- What the network header carries.

upper_low_by : (b : Bool) (x y : Upper) → x.protocol < 256 → y.protocol < 256 → (if b then x else y).protocol < 256
upper_low_by true x y p q = p
upper_low_by false x y p q = q

upper_low : (k n place end : ℕ) (frame : List ℕ) → HoldsBytes frame → n < 256 → (upper_after k n place end frame).protocol < 256
upper_low zero n place end frame low h = h
upper_low (suc k) n place end frame low h =
    let next : ℕ = slice_index frame place in
    let more : Upper = upper_after k next (place + extension_length n place frame) end frame in
    upper_low_by (has_extension n place end frame)
    (if is_later_part n place frame then record { protocol = next; place = place + 8; begins = false } else more)
    (record { protocol = n; place = place; begins = true })
    (upper_low_by (is_later_part n place frame) (record { protocol = next; place = place + 8; begins = false }) more (low place)
    (upper_low k next (place + extension_length n place frame) end frame low (low place)))
    h

protocol_low : (place : ℕ) (frame : List ℕ) → HoldsBytes frame → (upper_of place frame).protocol < 256
unfolding upper_of
protocol_low place frame low = upper_low 8 (slice_index frame (place + 6)) (place + 40) (packet6_end place frame) frame low (low (place + 6))

-- the protocol and the end fit their types
pub record IsLow (carried : Carried) : Type 0 where
  pub protocol : carried.protocol < 256
  pub stop : carried.stop < 2 ^ 32

stop_low : (none : Bool) (wire place length : ℕ) → wire < 2 ^ 32 → place < 100 → length < 2 ^ 16 → (if none then wire else place + length) < 2 ^ 32
stop_low true wire place length w p l = w
stop_low false wire place length w p l = omega (arith, p, l)

carried4_low : (place wire : ℕ) (frame : List ℕ) → HoldsBytes frame → wire < 2 ^ 32 → place ≤ 28 → IsLow (carried4 place wire frame)
unfolding carried4
carried4_low place wire frame low w p = record {
  protocol = low (place + 9);
  stop = stop_low (total_length place frame == 0) wire place (total_length place frame) w (omega (arith, p)) (number_low 2 frame (place + 2) low);
}

carried6_low : (place wire : ℕ) (frame : List ℕ) → HoldsBytes frame → wire < 2 ^ 32 → place ≤ 28 → IsLow (carried6 place wire frame)
unfolding carried6
carried6_low place wire frame low w p = record {
  protocol = protocol_low place frame low;
  stop =
      stop_low (payload_length place frame == 0) wire (place + 40) (payload_length place frame) w (omega (arith, p)) (number_low 2 frame (place + 4) low);
}

some_low : (b : Bool) (carried : Carried) → IsLow carried → IfSome (if b then Some carried else None) IsLow
some_low true carried low = low
some_low false carried low = tt

pub carried_low : (ipv6 : Bool) (etype place wire : ℕ) (frame : List ℕ) → HoldsBytes frame → wire < 2 ^ 32 → place ≤ 28
    → IfSome (carried_in ipv6 etype place wire frame) IsLow
carried_low true etype place wire frame low w p = carried6_low place wire frame low w p
carried_low false etype place wire frame low w p =
    some_low (has_ipv4 etype place frame) (carried4 place wire frame) (carried4_low place wire frame low w p)

-- Addresses.

-- six bytes and ten zeros
six_fit : (xs : List ℕ) → length xs ≡ 6 → AreBytes xs → is_byte_string 6 (xs ++ replicate 10 0) ≡ true
six_fit xs six low =
    let size : length (xs ++ replicate 10 0) ≡ 16 = omega (arith, length-append xs (replicate 10 0), six) in
    sym (byte_string 6 (xs ++ replicate 10 0) (omega arith) size (bytes_append xs (replicate 10 0) low (zeros_low 10)))
    ∙ rw (rw six at (drop-append_seam xs (replicate 10 0))) refl

pub address_fits : (read : Bool) (frame : List ℕ) (place : ℕ) → HoldsBytes frame → (read ≡ true → place + 6 ≤ length frame)
    → is_of_kind (Bytes 6) (address_if read frame place) ≡ true
unfolding address_if
address_fits true frame place low room =
    let whole : place + 6 ≤ length frame = room refl in
    let count : place + 6 - place ≡ 6 = omega arith in
    let held : 6 ≤ length (drop place frame) = omega (arith, length-drop place frame, whole) in
    rw count (six_fit (take 6 (drop place frame)) (length-take-le 6 (drop place frame) held)
    (bytes_take 6 (drop place frame) (bytes_drop place frame (bytes_of frame (λ i lt. low i)))))
address_fits false frame place low room = refl

-- where addresses are read, their bytes are there
pub addresses_room : (link n : ℕ) (frame : List ℕ) → n ≤ 14 → has_addresses link frame ≡ true → n ≤ length frame
addresses_room link n frame few read = let h : 14 ≤ length frame = leb-true 14 (length frame) (and_parts (link == 1) (nat_le 14 (length frame)) read).1 in
    omega (arith, h, few)

-- The network header.

class_fits : (place : ℕ) (frame : List ℕ) → HoldsBytes frame → nat_lt (traffic_class place frame) (2 ^ 8) ≡ true
class_fits place frame low =
    let second : slice_index frame (place + 1) < 256 = low (place + 1) in
    lt-ltb (traffic_class place frame) (2 ^ 8) (omega (arith, second))

length_fits : (n : ℕ) → nat_lt (min (n + 40) 65535) (2 ^ 16) ≡ true
length_fits n = lt-ltb (min (n + 40) 65535) (2 ^ 16) (omega arith)

network_fits : (ipv6 : Bool) (carried : Option Carried) (place : ℕ) (frame : List ℕ) → HoldsBytes frame → IfSome carried IsLow
    → values_fit (take 6 (drop 7 packet_attrs)) (network_values ipv6 carried place frame) ≡ true
network_fits ipv6 None place frame low is = refl
network_fits true (Some carried) place frame low is =
    and_from _ _ (class_fits place frame low)
    (and_from _ _ (length_fits (payload_length place frame))
    (and_from _ _ (byte_at_fits frame (place + 7) low)
    (and_from _ _ (lt-ltb carried.protocol (2 ^ 8) is.protocol) refl)))
network_fits false (Some carried) place frame low is =
    and_from _ _ (byte_at_fits frame (place + 1) low)
    (and_from _ _ (u16_at_fits frame (place + 2) low)
    (and_from _ _ (byte_at_fits frame (place + 8) low)
    (and_from _ _ (byte_at_fits frame (place + 9) low)
    (and_from _ _ (u32_at_fits frame (place + 12) low)
    (and_from _ _ (u32_at_fits frame (place + 16) low) refl)))))

-- the fields of a transport header, and vlan
transport_fits : (transport : Transport) (frame : List ℕ) (vlan : ℕ) → HoldsBytes frame → nat_lt vlan (2 ^ 16) ≡ true
    → values_fit (drop 13 packet_attrs) (transport_values transport frame ++ Num vlan ∷ []) ≡ true
transport_fits Unread frame vlan low tag = and_from _ _ tag refl
transport_fits (Tcp place) frame vlan low tag =
    and_from _ _ (u16_at_fits frame place low)
    (and_from _ _ (u16_at_fits frame (place + 2) low)
    (and_from _ _ (u32_at_fits frame (place + 4) low)
    (and_from _ _ (u32_at_fits frame (place + 8) low)
    (and_from _ _ (byte_at_fits frame (place + 13) low)
    (and_from _ _ (u16_at_fits frame (place + 14) low)
    (and_from _ _ tag refl))))))
transport_fits (Udp place) frame vlan low tag =
    and_from _ _ (u16_at_fits frame place low)
    (and_from _ _ (u16_at_fits frame (place + 2) low)
    (and_from _ _ tag refl))

kind_low : (transport : Transport) → nat_lt (kind_by transport) (2 ^ 8) ≡ true
kind_low Unread = refl
kind_low (Tcp place) = refl
kind_low (Udp place) = refl

kind_fits : (carried : Option Carried) → nat_lt (kind_of carried) (2 ^ 8) ≡ true
kind_fits None = refl
kind_fits (Some carried) = kind_low carried.transport

-- the numbers of a frame fit their types
pub record IsHeld (packet : FrameValue) : Type 0 where
  pub ts : packet.ts < 2 ^ 64
  pub caplen : packet.caplen < 2 ^ 32
  pub len : packet.len < 2 ^ 32
  pub bytes : HoldsBytes packet.bytes

-- every value that both schemas have is of its kind
pub common_fits : (ipv6 : Bool) (carried : Option Carried) (layer : Layer) (packet : FrameValue) → IsHeld packet → IsNear 28 layer → IfSome carried IsLow
    → values_fit packet_attrs (common_values ipv6 carried layer packet) ≡ true
common_fits ipv6 carried layer packet held near is =
    let frame = packet.bytes in
    let link = packet.link in
    let addresses = has_addresses link frame in
    let low = held.bytes in
    and_from _ _ (lt-ltb packet.ts (2 ^ 64) held.ts)
    (and_from _ _ (lt-ltb packet.caplen (2 ^ 32) held.caplen)
    (and_from _ _ (lt-ltb packet.len (2 ^ 32) held.len)
    (and_from _ _ (address_fits addresses frame 0 low (addresses_room link 6 frame (omega arith)))
    (and_from _ _ (address_fits addresses frame 6 low (addresses_room link 12 frame (omega arith)))
    (and_from _ _ (lt-ltb layer.etype (2 ^ 16) near.etype)
    (and_from _ _ (kind_fits carried)
    (fits_append (take 6 (drop 7 packet_attrs)) (drop 13 packet_attrs) (network_values ipv6 carried layer.place frame) _
    (network_fits ipv6 carried layer.place frame low is)
    (transport_fits (transport_behind carried) frame layer.vlan low (lt-ltb layer.vlan (2 ^ 16) near.vlan)))))))))

-- every field of a row of a packet is of its kind
pub packet_fits : (packet : FrameValue) → IsHeld packet → Fits packet_attrs (packet_row_of packet)
packet_fits packet held =
    let layer = network_layer Packet packet.link packet.bytes in
    let near : IsNear 28 layer = network_near Packet packet.link packet.bytes held.bytes in
    common_fits false (carried_in false layer.etype layer.place packet.len packet.bytes) layer packet held near
    (carried_low false layer.etype layer.place packet.len packet.bytes held.bytes held.len near.place)
