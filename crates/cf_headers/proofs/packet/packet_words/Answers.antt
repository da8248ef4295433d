use Rattle.std.proofs.Common.{◌-◌, ◌∙◌, List, ℕ, Option, false, take, replicate, ap, rules}
use Rattle.cf_row.specs.declared.schema.TheConstants.{MOST_ATTRS}
use Rattle.cf_row.specs.Words.{values_words}
use Rattle.cf_pcap.specs.Capture.{FrameValue}
use Rattle.cf_headers.specs.declared.carried.Carried.{Carried}
use Rattle.cf_headers.specs.declared.layer.Layer.{Layer}
use Rattle.cf_headers.specs.Frames.{frame_of}
use Rattle.cf_headers.specs.Packet.{common_values, packet_values}
use Rattle.cf_headers.proofs.Spelled.{first_are}
use Rattle.cf_headers.proofs.packet.packet_words.Goals as goal

pub returns : goal.returns
returns c =
    let packet : FrameValue = frame_of c.args.info c.args.bytes.now in
    ap (λ (words : List ℕ). take 20 words) c.words_before.ensures
    ∙ (first_are 20 c.common_words.result (replicate (MOST_ATTRS - 20) 0) (search rules)
    ∙ (c.common_words.ensures
    ∙ (ap (λ (o : Option Carried). values_words (common_values false o c.network_layer-layer.result packet)) c.carried_in-carried.ensures.value
    ∙ ap (λ (layer : Layer). values_words (packet_values layer packet)) c.network_layer-layer.ensures.value)))
