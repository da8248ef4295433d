-- The attributes of a packet with its IPv6 addresses and what more is asked of it.
use Rattle.std.specs.Prelude.{List, [], ◌∷◌, ◌++◌, codes}
use Rattle.cf_row.specs.declared.schema.Attr.{Attr}
use Rattle.cf_row.specs.declared.schema.Kind.TheVariants.{U8, U32, U64}
use Rattle.cf_row.specs.Schema.{packet_attrs}
use Rattle.cf_row.specs.declared.packet6.PacketSchema.{PacketSchema}
use Rattle.cf_row.specs.declared.packet6.PacketSchema.TheVariants.{Packet, Packet6}

-- the high and the low 64 bits of the source and the destination address (RFC 8200, section 3)
abbrev pub address_attrs : List Attr
address_attrs =
    record { name = codes "src6"; kind = U64 }
    ∷ record { name = codes "src6_low"; kind = U64 }
    ∷ record { name = codes "dst6"; kind = U64 }
    ∷ record { name = codes "dst6_low"; kind = U64 }
    ∷ []

-- how many bytes TCP or UDP carries; the type and the code of an ICMP message; four of the flags of TCP; and the number of the
-- conversation, the same for both directions
abbrev pub more_attrs : List Attr
more_attrs =
    record { name = codes "payload"; kind = U32 }
    ∷ record { name = codes "icmp_type"; kind = U8 }
    ∷ record { name = codes "icmp_code"; kind = U8 }
    ∷ record { name = codes "is_fin"; kind = U8 }
    ∷ record { name = codes "is_syn"; kind = U8 }
    ∷ record { name = codes "is_rst"; kind = U8 }
    ∷ record { name = codes "is_ack"; kind = U8 }
    ∷ record { name = codes "flow"; kind = U64 }
    ∷ []

-- those of a packet, and then these
abbrev pub packet6_attrs : List Attr
packet6_attrs = packet_attrs ++ (address_attrs ++ more_attrs)

-- those of either schema
abbrev pub attrs_by : PacketSchema → List Attr
attrs_by Packet = packet_attrs
attrs_by Packet6 = packet6_attrs
