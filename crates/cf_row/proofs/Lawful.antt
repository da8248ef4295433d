-- The attributes of a packet with its IPv6 addresses are a schema.
use Rattle.std.proofs.Common.{length, refl}
use Rattle.std.proofs.lemmas.Bool.{leb-true}
use Rattle.cf_row.specs.declared.schema.TheConstants.{MOST_ATTRS}
use Rattle.cf_row.specs.Schema.{IsSchema}
use Rattle.cf_row.specs.Schema6.{packet6_attrs}

pub packet6_is : IsSchema packet6_attrs
packet6_is = record { few = leb-true (length packet6_attrs) MOST_ATTRS refl; apart = refl; stamped = refl; sized = refl }
