use Rattle.std.proofs.Common.{◌≡◌, ◌∙◌, List, ℕ, map, take, length, refl, ap, subst, sym, arith, rules}
use Rattle.std.proofs.lemmas.Bool.{leb-true}
use Rattle.cf_row.specs.declared.row.Value.{Value}
use Rattle.cf_row.specs.declared.schema.Attr.{Attr}
use Rattle.cf_row.specs.Kept.{AreKept, len_of, values_kept}
use Rattle.cf_row.specs.Row.{RowValue, Fits}
use Rattle.cf_row.specs.Schema.{packet_attrs}
use Rattle.cf_row.specs.Words.{values_words}
use Rattle.cf_pcap.specs.Capture.{FrameValue}
use Rattle.cf_row.specs.declared.schema.TheConstants.{MOST_ATTRS}
use Rattle.cf_headers.specs.Frames.{frame_of}
use Rattle.cf_headers.specs.Packet.{packet_row_of}
use Rattle.cf_headers.proofs.Fitting.{IsHeld, packet_fits}
use Rattle.cf_headers.proofs.Within.{words_kept}
use Rattle.cf_headers.proofs.packet.packet_row_of_bytes.Goals as goal

abbrev Keeps : FrameValue → List ℕ → List ℕ → Type 0
Keeps packet lens words = AreKept lens words × (values_kept lens words ≡ (packet_row_of packet).values)

keeps : (packet : FrameValue) (lens words : List ℕ) → IsHeld packet → lens ≡ map (λ (attr : Attr). len_of attr.kind) packet_attrs
    → words ≡ values_words (packet_row_of packet).values → Keeps packet lens words
keeps packet lens words held is spell =
    subst (λ (ls : List ℕ). Keeps packet ls words) (sym is)
    (words_kept packet_attrs (packet_row_of packet).values words refl (leb-true (length packet_attrs) MOST_ATTRS refl) (packet_fits packet held) spell)

pub of_words-requires-clause-kept : goal.of_words-requires-clause-kept
of_words-requires-clause-kept c =
    let packet : FrameValue = frame_of c.args.info c.args.bytes.now in
    let held : IsHeld packet = record { ts = search rules; caplen = search rules; len = search rules; bytes = λ i. omega (arith, c.type_inv.bytes i) } in
    (keeps packet (take 20 c.lens.result) (take 20 c.packet_words.result) held (ap (λ (ls : List ℕ). take 20 ls) c.lens.ensures) c.packet_words.ensures).0

pub returns-clause-row : goal.returns-clause-row
returns-clause-row c =
    let packet : FrameValue = frame_of c.args.info c.args.bytes.now in
    let held : IsHeld packet = record { ts = search rules; caplen = search rules; len = search rules; bytes = λ i. omega (arith, c.type_inv.bytes i) } in
    c.of_words.ensures
    ∙ ap (λ (values : List Value). record { num = packet.num; values = values }) (keeps packet (take 20 c.lens.result) (take 20 c.packet_words.result) held (ap (λ (ls : List ℕ). take 20 ls) c.lens.ensures) c.packet_words.ensures).1

pub returns-clause-fits : goal.returns-clause-fits
returns-clause-fits c =
    let packet : FrameValue = frame_of c.args.info c.args.bytes.now in
    let held : IsHeld packet = record { ts = search rules; caplen = search rules; len = search rules; bytes = λ i. omega (arith, c.type_inv.bytes i) } in
    let same : c.of_words.result ≡ packet_row_of packet =
    c.of_words.ensures
    ∙ ap (λ (values : List Value). record { num = packet.num; values = values }) (keeps packet (take 20 c.lens.result) (take 20 c.packet_words.result) held (ap (λ (ls : List ℕ). take 20 ls) c.lens.ensures) c.packet_words.ensures).1 in
    subst (λ (row : RowValue). Fits packet_attrs row) (sym same) (packet_fits packet held)
