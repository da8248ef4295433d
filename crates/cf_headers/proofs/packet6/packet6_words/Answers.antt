use Rattle.std.proofs.Common.{◌++◌, List, ℕ, ◌∙◌, Bool, Option, ap}
use Rattle.cf_row.specs.Words.{values_words}
use Rattle.cf_pcap.specs.Capture.{FrameValue}
use Rattle.cf_headers.specs.declared.carried.Carried.{Carried}
use Rattle.cf_headers.specs.declared.layer.Layer.{Layer}
use Rattle.cf_headers.specs.Carried.{carried_in}
use Rattle.cf_headers.specs.Frames.{frame_of}
use Rattle.cf_headers.specs.Packet.{common_values}
use Rattle.cf_headers.specs.Packet6.{address6_values, values_by, packet6_values}
use Rattle.cf_headers.specs.More.{more_values}
use Rattle.cf_headers.proofs.Spelled.{rest_spell}
use Rattle.cf_headers.proofs.packet6.packet6_words.Goals as goal

pub returns : goal.returns
returns c =
    let packet : FrameValue = frame_of c.args.info c.args.bytes.now in
    let layer : Layer = c.network_layer-layer.result in
    let ipv6 : Bool = c.has_ipv6-ipv6.result in
    let carried : Option Carried = c.carried_in-carried.result in
    c.words_before.ensures
    ∙ (ap (λ (rest : List ℕ). c.common_words-common.result ++ rest) c.more_before-rest.ensures
    ∙ (rest_spell c.common_words-common.result c.address6_words.result c.more_words.result (common_values ipv6 carried layer packet)
    (address6_values ipv6 layer.place packet.bytes) (more_values ipv6 layer.place carried packet.bytes)
    c.common_words-common.ensures c.address6_words.ensures c.more_words.ensures
    ∙ (ap (λ (o : Option Carried). values_words (values_by ipv6 o layer packet)) c.carried_in-carried.ensures.value
    ∙ (ap (λ (b : Bool). values_words (values_by b (carried_in b layer.etype layer.place packet.len packet.bytes) layer packet)) c.has_ipv6-ipv6.ensures.value
    ∙ ap (λ (l : Layer). values_words (packet6_values l packet)) c.network_layer-layer.ensures.value))))
