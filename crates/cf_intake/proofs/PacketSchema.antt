-- A setup over packets has the attributes of its schema.
use Rattle.std.proofs.Common.{◌≡◌, ℕ, ◌+◌, List, [], ◌∷◌, Some, Result, Ok, sym, ap, ◌∙◌, subst}
use Rattle.cf_row.specs.declared.schema.Attr.{Attr}
use Rattle.cf_row.specs.declared.packet6.PacketSchema.{PacketSchema}
use Rattle.cf_row.specs.Schema6.{attrs_by}
use Rattle.cf_setup.specs.declared.source.Source.TheVariants.{Packets, Records}
use Rattle.cf_setup.specs.Drafts.{DraftValue, nothing_stated}
use Rattle.cf_setup.specs.Forms.{StatementFormValue}
use Rattle.cf_setup.specs.Forms.StatementFormValue.{packet_schema, record_schema, bucket_width, new_index, new_filter, new_aggregate, new_keyed_aggregate, new_tally, new_trigger, ask_list, ask_find, ask_buckets, ask_fired, ask_top, ask_groups, ask_total, ask_live}
use Rattle.cf_setup.specs.Adds.{Adds}
use Rattle.cf_setup.specs.Setups.{SetupValue, settled}
use Rattle.cf_setup.specs.SetupText.{SetupText, LineSaid, AllSaid}
use Rattle.cf_setup.specs.SetupText.SetupText.{whole, faulty, empty, large}
use Rattle.cf_setup.specs.SetupText.LineSaid.{silent, spoken}
use Rattle.cf_intake.proofs.SetupSize.{ok_no_err}

-- where packets are stated, the attributes of their schema are
abbrev KeepsPackets : DraftValue → Type 0
KeepsPackets stated = (which : PacketSchema) → stated.source ≡ Packets which → stated.schema ≡ Some (attrs_by which)

packets_same : (a b : PacketSchema) → Packets a ≡ Packets b → a ≡ b
packets_same a b h = cc

records_none : (which : PacketSchema) → Records ≡ Packets which → ⊥
records_none which h = cc

adds_keep : (line : ℕ) (before new : DraftValue) (form : StatementFormValue) → Adds line before form new → KeepsPackets before → KeepsPackets new
adds_keep line before new (packet_schema which) adds kept =
    subst KeepsPackets (sym adds) (λ other h. ap (λ (s : PacketSchema). Some (attrs_by s)) (packets_same which other h))
adds_keep line before new (record_schema list) adds kept = subst KeepsPackets (sym adds.2) (λ which h. absurd (records_none which h))
adds_keep line before new (bucket_width number) adds kept = subst KeepsPackets (sym adds.4) kept
adds_keep line before new (new_index name attr) adds kept = subst KeepsPackets (sym adds.2) kept
adds_keep line before new (new_filter name expr) adds kept = subst KeepsPackets (sym adds.2) kept
adds_keep line before new (new_aggregate name filter attr) adds kept = subst KeepsPackets (sym adds.4) kept
adds_keep line before new (new_keyed_aggregate name filter attr key) adds kept = subst KeepsPackets (sym adds.6) kept
adds_keep line before new (new_tally name attr measure expr) adds kept = subst KeepsPackets (sym adds.6) kept
adds_keep line before new (new_trigger name aggregate part op number) adds kept = subst KeepsPackets (sym adds.4) kept
adds_keep line before new (ask_list name expr) adds kept = subst KeepsPackets (sym adds.2) kept
adds_keep line before new (ask_find name index low high) adds kept = subst KeepsPackets (sym adds.7) kept
adds_keep line before new (ask_buckets what name lane low high) adds kept = subst KeepsPackets (sym adds.5) kept
adds_keep line before new (ask_fired name trigger) adds kept = subst KeepsPackets (sym adds.2) kept
adds_keep line before new (ask_top name tally part count) adds kept = subst KeepsPackets (sym adds.6) kept
adds_keep line before new (ask_groups name lane) adds kept = subst KeepsPackets (sym adds.2) kept
adds_keep line before new (ask_total name attr expr) adds kept = subst KeepsPackets (sym adds.4) kept
adds_keep line before new (ask_live ask) adds kept = subst KeepsPackets (sym adds.2) kept

stated_same : (a b : DraftValue) → ◌≡◌ {A = Result DraftValue ℕ} (Ok a) (Ok b) → a ≡ b
stated_same a b h = cc

said_keeps : (number : ℕ) (before new : DraftValue) (line : List ℕ) → LineSaid number before line (Ok new) → KeepsPackets before → KeepsPackets new
said_keeps number before new line (silent none is) kept = subst KeepsPackets (sym (stated_same new before is)) kept
said_keeps number before new line (spoken some states) kept = adds_keep number before new states.form states.adds kept

all_keep : (number : ℕ) (before new : DraftValue) (lines : List (List ℕ)) → AllSaid number before lines new → KeepsPackets before → KeepsPackets new
all_keep number before new [] said kept = subst KeepsPackets (sym said) kept
all_keep number before new (line ∷ lines) said kept = all_keep (number + 1) said.0 new lines said.2 (said_keeps number before said.0 line said.1 kept)

attrs_same : (a b : List Attr) → Some a ≡ Some b → a ≡ b
attrs_same a b h = cc

setup_same : (a b : SetupValue) → ◌≡◌ {A = Result SetupValue (ℕ × ℕ)} (Ok a) (Ok b) → a ≡ b
setup_same a b h = cc

packets_of : (setup : SetupValue) (stated : DraftValue) (attrs : List Attr) (which : PacketSchema) → setup ≡ settled stated attrs → KeepsPackets stated
    → stated.schema ≡ Some attrs → setup.source ≡ Packets which → setup.schema ≡ attrs_by which
packets_of setup stated attrs which same kept schema packets =
    ap (λ (s : SetupValue). s.schema) same
    ∙ attrs_same attrs (attrs_by which) (sym schema ∙ kept which (sym (ap (λ (s : SetupValue). s.source) same) ∙ packets))

pub packet_setup_schema : (bytes : List ℕ) (setup : SetupValue) (which : PacketSchema) → SetupText bytes (Ok setup) → setup.source ≡ Packets which
    → setup.schema ≡ attrs_by which
packet_setup_schema bytes setup which (whole stated attrs few said schema is) packets =
    packets_of setup stated attrs which (setup_same setup (settled stated attrs) is)
    (all_keep 1 nothing_stated stated _ said (λ other h. absurd (records_none other h))) schema packets
packet_setup_schema bytes setup which (faulty front rest line before code few lines said bad is) packets = absurd (ok_no_err setup _ is)
packet_setup_schema bytes setup which (empty stated few said schema is) packets = absurd (ok_no_err setup _ is)
packet_setup_schema bytes setup which (large many is) packets = absurd (ok_no_err setup _ is)
