use Rattle.std.proofs.Common.{ℕ, Bool, List, rules, sym, ap, ◌∙◌}
use Rattle.cf_row.specs.Words.{value_words}
use Rattle.cf_headers.specs.declared.transport.Transport.{Transport}
use Rattle.cf_headers.specs.Packet.{address_if, has_addresses, network_values, transport_values}
use Rattle.cf_headers.specs.Carried.{transport_behind}
use Rattle.cf_headers.proofs.Spelled.{row_spell}
use Rattle.cf_headers.proofs.packet.common_words.Goals as goal

pub returns : goal.returns
returns c =
    let frame : List ℕ = c.args.bytes.now in
    let read : Bool = has_addresses c.args.info.link frame in
    rw (c.from.ensures, c.from-2.ensures, c.from-3.ensures, c.from-4.ensures, c.from-5.ensures, c.kind_of.ensures)
    (row_spell _ _ _ c.address_if.result c.address_if-2.result _ _ _ (address_if read frame 0) (address_if read frame 6)
    c.network_words.result c.transport_words.result
    (network_values c.args.ipv6 c.args.carried c.args.layer.place frame) (transport_values (transport_behind c.args.carried) frame)
    (search rules) (search rules)
    (sym (ap (λ (r : Bool). value_words (address_if r frame 0)) c.has_addresses-read.ensures.value) ∙ c.address_if.ensures)
    (sym (ap (λ (r : Bool). value_words (address_if r frame 6)) c.has_addresses-read.ensures.value) ∙ c.address_if-2.ensures)
    c.network_words.ensures
    (c.transport_words.ensures ∙ ap (λ (t : Transport). transport_values t frame) c.transport_behind.ensures))
