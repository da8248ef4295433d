-- A packet's row is the begin of its row under `packet6`.
use Rattle.std.proofs.Common.{◌≡◌, ℕ, ◌+◌, ◌<◌, Bool, true, false, ◌&&◌, ◌==◌, nat_le, List, [], ◌∷◌, ◌++◌, length, take, if◌then◌else◌, Option, Some, None, refl, sym, ap, subst, ◌∙◌, arith, length-append}
use Rattle.std.proofs.lemmas.Bool.{and_parts, eqb-true}
use Rattle.std.proofs.lemmas.Bool.Decides.{nat_tests}
use Rattle.std.proofs.Math.Seq.{take-append_seam}
use Rattle.cf_row.specs.declared.packet6.PacketSchema.{PacketSchema}
use Rattle.cf_row.specs.declared.packet6.PacketSchema.TheVariants.{Packet, Packet6}
use Rattle.cf_row.specs.declared.row.Value.{Value}
use Rattle.cf_row.specs.declared.row.Value.TheVariants.{Num}
use Rattle.cf_pcap.specs.declared.links.Link.{Link}
use Rattle.cf_pcap.specs.declared.links.LinkSet.TheVariants.{Basic}
use Rattle.cf_pcap.specs.Links.{link_of, is_link}
use Rattle.cf_pcap.specs.Capture.{FrameValue}
use Rattle.cf_headers.specs.declared.carried.Carried.{Carried}
use Rattle.cf_headers.specs.declared.layer.Layer.{Layer}
use Rattle.cf_headers.specs.declared.transport.Transport.{Transport}
use Rattle.cf_headers.specs.declared.transport.Transport.TheVariants.{Unread, Tcp, Udp}
use Rattle.cf_headers.specs.Layers.{link_by, layer_of, link_layer, has_tag, behind_tag, past_tag, past_tags, network_layer}
use Rattle.cf_headers.specs.Ipv4.{has_ipv4}
use Rattle.cf_headers.specs.Ipv6.{has_ipv6}
use Rattle.cf_headers.specs.Carried.{carried4, carried_in, kind_of}
use Rattle.cf_headers.specs.Packet.{transport_values, common_values}
use Rattle.cf_headers.specs.More.{more_values}
use Rattle.cf_headers.specs.Packet6.{address6_values, values_by, packet6_values, Agrees}

-- What comes after the link header and the tags.

links_agree : (link : ℕ) → is_link Basic link ≡ true → link_of link ≡ link_by Packet link
unfolding is_link
links_agree link is = grind (arith, nat_tests)

first_agrees : (link : ℕ) (frame : List ℕ) → is_link Basic link ≡ true → link_layer Packet6 link frame ≡ link_layer Packet link frame
unfolding link_layer
first_agrees link frame is = ap (λ (l : Option Link). layer_of l frame) (links_agree link is)

past_by : (schema : PacketSchema) (layer : Layer) (frame : List ℕ) (b : Bool) → has_tag schema layer frame ≡ b
    → past_tag schema layer frame ≡ (if b then behind_tag layer frame else layer)
unfolding past_tag
past_by schema layer frame b is = rw is refl

tag_of_both : (layer : Layer) (frame : List ℕ) → has_tag Packet layer frame ≡ true → has_tag Packet6 layer frame ≡ true
unfolding has_tag
tag_of_both layer frame is =
    let parts = and_parts (layer.etype == 0x8100) (nat_le (layer.place + 4) (length frame)) is in
    rw (parts.0, parts.1) refl

no_tag : (layer : Layer) (frame : List ℕ) → layer.etype ≡ 0x0800 → has_tag Packet6 layer frame ≡ false
unfolding has_tag
no_tag layer frame type = rw type refl

past_none : (layer : Layer) (frame : List ℕ) → layer.etype ≡ 0x0800 → past_tag Packet6 layer frame ≡ layer
past_none layer frame type = past_by Packet6 layer frame false (no_tag layer frame type)

-- both read the same tag before a packet of IPv4
tag_agrees : (layer : Layer) (frame : List ℕ) (b : Bool) → has_tag Packet layer frame ≡ b → (past_tag Packet layer frame).etype ≡ 0x0800
    → past_tag Packet6 layer frame ≡ past_tag Packet layer frame
tag_agrees layer frame true is type = past_by Packet6 layer frame true (tag_of_both layer frame is) ∙ sym (past_by Packet layer frame true is)
tag_agrees layer frame false is type =
    let none : past_tag Packet layer frame ≡ layer = past_by Packet layer frame false is in
    past_none layer frame (ap (λ (l : Layer). l.etype) (sym none) ∙ type) ∙ sym none

-- and then there is no second one
one_tag : (layer first : Layer) (frame : List ℕ) → past_tag Packet6 layer frame ≡ first → first.etype ≡ 0x0800 → past_tags Packet6 layer frame ≡ first
one_tag layer first frame is type =
    subst (λ (l : Layer). record { etype = (past_tag Packet6 l frame).etype; place = (past_tag Packet6 l frame).place; vlan = l.vlan } ≡ first) (sym is)
    (ap (λ (l : Layer). record { etype = l.etype; place = l.place; vlan = first.vlan }) (past_none first frame type))

layers_agree : (link : ℕ) (frame : List ℕ) → is_link Basic link ≡ true → (network_layer Packet link frame).etype ≡ 0x0800
    → network_layer Packet6 link frame ≡ network_layer Packet link frame
layers_agree link frame is type =
    let layer : Layer = link_layer Packet link frame in
    ap (λ (l : Layer). past_tags Packet6 l frame) (first_agrees link frame is)
    ∙ one_tag layer (past_tag Packet layer frame) frame (tag_agrees layer frame (has_tag Packet layer frame) refl type) type

-- The kind.

kind_says : (ipv4 : Bool) (carried : Carried) → 0 < kind_of (if ipv4 then Some carried else None) → ipv4 ≡ true
kind_says true carried h = refl
kind_says false carried h = absurd (omega (arith, h))

second_of : (a b c d e : Bool) → (a && b && c && d && e) ≡ true → b ≡ true
second_of true true c d e h = refl
second_of true false c d e h = cc
second_of false b c d e h = cc

type_of_ipv4 : (etype place : ℕ) (frame : List ℕ) → has_ipv4 etype place frame ≡ true → etype ≡ 0x0800
unfolding has_ipv4
type_of_ipv4 etype place frame h = eqb-true etype 0x0800 (second_of _ _ _ _ _ h)

never : (a c : Bool) → (a && false && c) ≡ false
never true c = refl
never false c = refl

no_ipv6 : (etype place : ℕ) (frame : List ℕ) → etype ≡ 0x0800 → has_ipv6 etype place frame ≡ false
unfolding has_ipv6
no_ipv6 etype place frame type = rw type (never _ _)

-- The values.

six : (transport : Transport) (frame : List ℕ) → length (transport_values transport frame) ≡ 6
six Unread frame = refl
six (Tcp place) frame = refl
six (Udp place) frame = refl

as_many : (carried : Option Carried) (layer : Layer) (packet : FrameValue) → length (common_values false carried layer packet) ≡ 20
as_many None layer packet = refl
as_many (Some carried) layer packet =
    omega (arith, length-append (transport_values carried.transport packet.bytes) (Num layer.vlan ∷ []), six carried.transport packet.bytes)

front : (carried : Option Carried) (layer : Layer) (packet : FrameValue)
    → take 20 (values_by false carried layer packet) ≡ common_values false carried layer packet
front carried layer packet =
    let common : List Value = common_values false carried layer packet in
    let rest : List Value = address6_values false layer.place packet.bytes ++ more_values false layer.place carried packet.bytes in
    subst (λ n. take n (common ++ rest) ≡ common) (as_many carried layer packet) (take-append_seam common rest)

pub agrees : (packet : FrameValue) → Agrees packet
agrees packet basic kind =
    let frame = packet.bytes in
    let layer = network_layer Packet packet.link frame in
    let ipv4 : has_ipv4 layer.etype layer.place frame ≡ true =
    kind_says (has_ipv4 layer.etype layer.place frame) (carried4 layer.place packet.len frame) kind in
    let type : layer.etype ≡ 0x0800 = type_of_ipv4 layer.etype layer.place frame ipv4 in
    ap (λ (l : Layer). take 20 (packet6_values l packet)) (layers_agree packet.link frame basic type)
    ∙ ap (λ (b : Bool). take 20 (values_by b (carried_in b layer.etype layer.place packet.len frame) layer packet)) (no_ipv6 layer.etype layer.place frame type)
    ∙ front (carried_in false layer.etype layer.place packet.len frame) layer packet
