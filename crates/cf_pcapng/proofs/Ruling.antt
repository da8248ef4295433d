-- The step of a pcapng file finds what the rules say.
use Rattle.std.proofs.Common.{◌≡◌, ◌⊎◌, inl, inr, ℕ, ◌<◌, ◌≤◌, ◌-◌, ◌%◌, ◌^◌, ◌==◌, ◌&&◌, eqb, eq-eqb, nat_le, Bool, true, false, List, length, take, drop, slice_get, Option, Some, None, Result, Ok, Err, refl, sym, ap, subst, ◌∙◌, arith}
use Rattle.std.proofs.lemmas.Bool.{cases_lt, cases_eq, true≢false}
use Rattle.std.proofs.lemmas.Bool.Decides.{nat_tests}
use Rattle.byteorder.specs.Endian.{little_number}
use Rattle.cf_row.proofs.Truths.{both}
use Rattle.cf_pcap.specs.declared.links.LinkSet.{LinkSet}
use Rattle.cf_pcap.specs.declared.limit.Length.{Length}
use Rattle.cf_pcap.specs.declared.limit.Length.TheVariants.{Limited, Any}
use Rattle.cf_pcap.specs.declared.scope.Scope.{Scope}
use Rattle.cf_pcap.specs.declared.form.Order.{Order}
use Rattle.cf_pcap.specs.Capture.{FrameValue, number_in}
use Rattle.cf_pcap.specs.Limits.{num_of}
use Rattle.cf_pcap.specs.Links.{is_link, longest}
use Rattle.cf_pcap.specs.Format.{Wants, Bad, Takes}
use Rattle.cf_pcapng.specs.declared.fault.Flaw.{Flaw}
use Rattle.cf_pcapng.specs.declared.fault.Flaw.TheVariants.{BadMagic, BadVersion, BadLink, FrameTooLong, BadLength, NoInterface, TooManyInterfaces}
use Rattle.cf_pcapng.specs.declared.fault.NgFault.{NgFault}
use Rattle.cf_pcapng.specs.declared.head.BlockKind.{BlockKind}
use Rattle.cf_pcapng.specs.declared.head.BlockKind.TheVariants.{SectionHeader, InterfaceDescription, EnhancedPacket, SimplePacket, Other}
use Rattle.cf_pcapng.specs.declared.head.BlockHead.TheVariants.{Short, Flawed, Stands}
use Rattle.cf_pcapng.specs.declared.interfaces.Interface.{Interface}
use Rattle.cf_pcapng.specs.declared.content.Packet.{Packet}
use Rattle.cf_pcapng.specs.declared.content.Content.{Content}
use Rattle.cf_pcapng.specs.declared.content.Content.TheVariants.{NewSection, NewInterface, Captures, Nothing}
use Rattle.cf_pcapng.specs.Blocks.{is_section, kind_of, order_at, least, is_within, is_total, total_at, sized, in_order, block_head, head_of, packet_of, enhanced_packet, enhanced_of, simple_packet, simple_of, stated, last_total, content_of, interface_at, interface_of}
use Rattle.cf_pcapng.specs.File.{State, fault_of, frames_of, after, block_found, step}
use Rattle.cf_pcapng.specs.Rules.{IsSectionType, IsType, BeginsAs, IsLawfulTotal, HasHead, BreaksRule1, BreaksRule2, BreaksRule3, HeadBreaks, IsLink, PacketBreaks, IsLawfulPacket, PacketOfBreaks, PacketOfStates, IsFull, HasPlace, BlockBreaks, BlockStates, HasBlock, HasFlaw, IsBlock, StepsByRules}
use Rattle.cf_pcapng.proofs.Heads.{below, not_below, head_section, head_block, section_long, block_long, head_short, section_short, block_short, at_least, at_most}
use Rattle.cf_pcapng.proofs.Steps.{Shown, step_at, found_short, found_whole, length_front, wants_not_bad, wants_not_takes, bad_not_takes, taken_size, taken_items, taken_state}

err_same : (a b : Flaw) → ◌≡◌ {A = Result Content Flaw} (Err a) (Err b) → a ≡ b
err_same a b h = cc

ok_same : (a b : Content) → ◌≡◌ {A = Result Content Flaw} (Ok a) (Ok b) → a ≡ b
ok_same a b h = cc

-- Rules 7 to 9.

link_case : (links : LinkSet) (link : ℕ) → IsLink links link ⊎ (is_link links link ≡ false)
link_case links link = by_test (is_link links link) refl where
  by_test : (b : Bool) → is_link links link ≡ b → IsLink links link ⊎ (is_link links link ≡ false)
  by_test true is = inl is
  by_test false is = inr is

test_le : (n m : ℕ) → n ≤ m → nat_le n m ≡ true
test_le n m h = grind (arith, nat_tests)

test_gt : (n m : ℕ) → m < n → nat_le n m ≡ false
test_gt n m h = grind (arith, nat_tests)

packet_other : (links : LinkSet) (room : ℕ) (packet : Packet) → is_link links packet.link ≡ false → packet_of links room packet ≡ Err BadLink
unfolding packet_of
packet_other links room packet h = rw h refl

packet_long : (links : LinkSet) (room : ℕ) (packet : Packet) → is_link links packet.link ≡ true → longest < packet.caplen
    → packet_of links room packet ≡ Err FrameTooLong
unfolding packet_of
packet_long links room packet h long = rw (h, test_gt packet.caplen longest long) refl

packet_over : (links : LinkSet) (room : ℕ) (packet : Packet) → is_link links packet.link ≡ true → packet.caplen ≤ longest → room < packet.caplen
    → packet_of links room packet ≡ Err BadLength
unfolding packet_of
packet_over links room packet h short over = rw (h, test_le packet.caplen longest short, test_gt packet.caplen room over) refl

packet_fits : (links : LinkSet) (room : ℕ) (packet : Packet) → is_link links packet.link ≡ true → packet.caplen ≤ longest → packet.caplen ≤ room
    → packet_of links room packet ≡ Ok (Captures packet)
unfolding packet_of
packet_fits links room packet h short fits = rw (h, test_le packet.caplen longest short, test_le packet.caplen room fits) refl

-- what a packet comes to
data PacketCase (links : LinkSet) (room : ℕ) (packet : Packet) : Type 0 where
  Broken : (flaw : Flaw) → packet_of links room packet ≡ Err flaw → PacketBreaks links room packet flaw → PacketCase links room packet
  Lawful : packet_of links room packet ≡ Ok (Captures packet) → IsLawfulPacket links room packet → PacketCase links room packet

packet_case : (links : LinkSet) (room : ℕ) (packet : Packet) → PacketCase links room packet
packet_case links room packet = elim (link_case links packet.link) [
  | inr other ↦ Broken BadLink (packet_other links room packet other) (λ is. true≢false (sym is ∙ other))
  | inl is ↦ elim (cases_lt longest packet.caplen) [
    | inl long ↦ Broken FrameTooLong (packet_long links room packet is long) (is, long)
    | inr short ↦ elim (cases_lt room packet.caplen) [
      | inl over ↦ Broken BadLength (packet_over links room packet is short over) (is, short, over)
      | inr fits ↦ Lawful (packet_fits links room packet is short fits) (record { link_is = is; short = short; fits = fits })
    ]
  ]
]

link_is_false : (links : LinkSet) (link : ℕ) → (IsLink links link → ⊥) → is_link links link ≡ false
link_is_false links link h = elim (link_case links link) [
  | inl is ↦ absurd (h is)
  | inr other ↦ other
]

packet_broken : (links : LinkSet) (room : ℕ) (packet : Packet) (flaw : Flaw) → PacketBreaks links room packet flaw → packet_of links room packet ≡ Err flaw
packet_broken links room packet BadLink h = packet_other links room packet (link_is_false links packet.link h)
packet_broken links room packet FrameTooLong h = packet_long links room packet h.0 h.1
packet_broken links room packet BadLength h = packet_over links room packet h.0 h.1 h.2
packet_broken links room packet BadMagic h = absurd h
packet_broken links room packet BadVersion h = absurd h
packet_broken links room packet NoInterface h = absurd h
packet_broken links room packet TooManyInterfaces h = absurd h

-- Rules 5 to 10.

-- what a whole block comes to
data BlockCase (found : Result Content Flaw) (Breaks : Flaw → Type 0) (States : Content → Type 0) : Type 0 where
  Breaking : (flaw : Flaw) → found ≡ Err flaw → Breaks flaw → BlockCase found Breaks States
  Stating : (content : Content) → found ≡ Ok content → States content → BlockCase found Breaks States

by_packet : (links : LinkSet) (interface : Interface) (room : ℕ) (packet : Interface → Packet) → PacketCase links room (packet interface)
    → BlockCase (packet_of links room (packet interface)) (PacketOfBreaks links (Some interface) room packet)
    (PacketOfStates links (Some interface) room packet)
by_packet links interface room packet (Broken flaw is h) = Breaking flaw is h
by_packet links interface room packet (Lawful is h) = Stating (Captures (packet interface)) is (h, refl)

enhanced_case : (links : LinkSet) (found : Option Interface) (order : Order) (block : List ℕ)
    → BlockCase (enhanced_of links found order block) (PacketOfBreaks links found (length block - 32) (λ i. enhanced_packet i order block))
    (PacketOfStates links found (length block - 32) (λ i. enhanced_packet i order block))
enhanced_case links None order block = Breaking NoInterface refl refl
enhanced_case links (Some interface) order block =
    by_packet links interface (length block - 32) (λ i. enhanced_packet i order block)
    (packet_case links (length block - 32) (enhanced_packet interface order block))

simple_case : (links : LinkSet) (found : Option Interface) (order : Order) (block : List ℕ)
    → BlockCase (simple_of links found order block) (PacketOfBreaks links found (length block - 16) (λ i. simple_packet i order block))
    (PacketOfStates links found (length block - 16) (λ i. simple_packet i order block))
simple_case links None order block = Breaking NoInterface refl refl
simple_case links (Some interface) order block =
    by_packet links interface (length block - 16) (λ i. simple_packet i order block)
    (packet_case links (length block - 16) (simple_packet interface order block))

section_true : (scope : Scope) (interfaces : List Interface) (order : Order) (block : List ℕ) → number_in order 2 (drop 12 block) ≡ 1
    → stated scope interfaces order SectionHeader block ≡ Ok (NewSection order)
section_true scope interfaces order block h = let test : eqb (number_in order 2 (drop 12 block)) 1 ≡ true = eq-eqb (number_in order 2 (drop 12 block)) 1 h in
    rw test refl

section_false : (scope : Scope) (interfaces : List Interface) (order : Order) (block : List ℕ) → (number_in order 2 (drop 12 block) ≡ 1 → ⊥)
    → stated scope interfaces order SectionHeader block ≡ Err BadVersion
section_false scope interfaces order block h = let test : eqb (number_in order 2 (drop 12 block)) 1 ≡ false = grind (arith, nat_tests) in rw test refl

interface_placed : (l : Length) (interfaces : List Interface) (interface : Interface) → HasPlace l interfaces
    → interface_of l interfaces interface ≡ Ok (NewInterface interface)
interface_placed Limited interfaces interface h = refl
interface_placed Any interfaces interface h = rw (below (length interfaces) 65536 h) refl

interface_full : (l : Length) (interfaces : List Interface) (interface : Interface) → IsFull l interfaces
    → interface_of l interfaces interface ≡ Err TooManyInterfaces
interface_full Limited interfaces interface h = absurd h
interface_full Any interfaces interface h = rw (not_below (length interfaces) 65536 h) refl

interface_case : (l : Length) (interfaces : List Interface) (interface : Interface)
    → BlockCase (interface_of l interfaces interface) (λ flaw. (flaw ≡ TooManyInterfaces) × IsFull l interfaces)
    (λ content. HasPlace l interfaces × (content ≡ NewInterface interface))
interface_case Limited interfaces interface = Stating (NewInterface interface) refl (tt, refl)
interface_case Any interfaces interface = elim (cases_lt (length interfaces) 65536) [
  | inl some ↦ Stating (NewInterface interface) (interface_placed Any interfaces interface some) (some, refl)
  | inr full ↦ Breaking TooManyInterfaces (interface_full Any interfaces interface full) (refl, full)
]

stated_case : (scope : Scope) (interfaces : List Interface) (order : Order) (kind : BlockKind) (block : List ℕ)
    → BlockCase (stated scope interfaces order kind block) (BlockBreaks scope interfaces order kind block) (BlockStates scope interfaces order kind block)
stated_case scope interfaces order SectionHeader block = elim (cases_eq (number_in order 2 (drop 12 block)) 1) [
  | inl one ↦ Stating (NewSection order) (section_true scope interfaces order block one) (one, refl)
  | inr other ↦ Breaking BadVersion (section_false scope interfaces order block other) (refl, other)
]
stated_case scope interfaces order InterfaceDescription block = interface_case scope.length interfaces (interface_at order block)
stated_case scope interfaces order EnhancedPacket block = enhanced_case scope.links (slice_get interfaces (number_in order 4 (drop 8 block))) order block
stated_case scope interfaces order SimplePacket block = simple_case scope.links (slice_get interfaces 0) order block
stated_case scope interfaces order Other block = Stating Nothing refl refl

packet_of_broken : (links : LinkSet) (found : Option Interface) (room : ℕ) (packet : Interface → Packet) (flaw : Flaw) (result : Result Content Flaw)
    → ((is : found ≡ None) → result ≡ Err NoInterface) → ((i : Interface) → found ≡ Some i → result ≡ packet_of links room (packet i))
    → PacketOfBreaks links found room packet flaw → result ≡ Err flaw
packet_of_broken links None room packet flaw result none some h = none refl ∙ ap (λ (f : Flaw). Err f) (sym h)
packet_of_broken links (Some interface) room packet flaw result none some h = some interface refl ∙ packet_broken links room (packet interface) flaw h

packet_of_lawful : (links : LinkSet) (found : Option Interface) (room : ℕ) (packet : Interface → Packet) (content : Content) (result : Result Content Flaw)
    → ((i : Interface) → found ≡ Some i → result ≡ packet_of links room (packet i)) → PacketOfStates links found room packet content → result ≡ Ok content
packet_of_lawful links None room packet content result some h = absurd h
packet_of_lawful links (Some interface) room packet content result some h =
    some interface refl ∙ packet_fits links room (packet interface) h.0.link_is h.0.short h.0.fits ∙ ap (λ (c : Content). Ok c) (sym h.1)

stated_broken : (scope : Scope) (interfaces : List Interface) (order : Order) (kind : BlockKind) (block : List ℕ) (flaw : Flaw)
    → BlockBreaks scope interfaces order kind block flaw → stated scope interfaces order kind block ≡ Err flaw
stated_broken scope interfaces order SectionHeader block flaw h = section_false scope interfaces order block h.1 ∙ ap (λ (f : Flaw). Err f) (sym h.0)
stated_broken scope interfaces order InterfaceDescription block flaw h =
    interface_full scope.length interfaces (interface_at order block) h.1 ∙ ap (λ (f : Flaw). Err f) (sym h.0)
stated_broken scope interfaces order EnhancedPacket block flaw h =
    packet_of_broken scope.links (slice_get interfaces (number_in order 4 (drop 8 block))) (length block - 32) (λ i. enhanced_packet i order block) flaw
    (stated scope interfaces order EnhancedPacket block) (λ is. ap (λ (o : Option Interface). enhanced_of scope.links o order block) is)
    (λ i is. ap (λ (o : Option Interface). enhanced_of scope.links o order block) is) h
stated_broken scope interfaces order SimplePacket block flaw h =
    packet_of_broken scope.links (slice_get interfaces 0) (length block - 16) (λ i. simple_packet i order block) flaw
    (stated scope interfaces order SimplePacket block) (λ is. ap (λ (o : Option Interface). simple_of scope.links o order block) is)
    (λ i is. ap (λ (o : Option Interface). simple_of scope.links o order block) is) h
stated_broken scope interfaces order Other block flaw h = absurd h

stated_lawful : (scope : Scope) (interfaces : List Interface) (order : Order) (kind : BlockKind) (block : List ℕ) (content : Content)
    → BlockStates scope interfaces order kind block content → stated scope interfaces order kind block ≡ Ok content
stated_lawful scope interfaces order SectionHeader block content h = section_true scope interfaces order block h.0 ∙ ap (λ (c : Content). Ok c) (sym h.1)
stated_lawful scope interfaces order InterfaceDescription block content h =
    interface_placed scope.length interfaces (interface_at order block) h.0 ∙ ap (λ (c : Content). Ok c) (sym h.1)
stated_lawful scope interfaces order EnhancedPacket block content h =
    packet_of_lawful scope.links (slice_get interfaces (number_in order 4 (drop 8 block))) (length block - 32) (λ i. enhanced_packet i order block) content
    (stated scope interfaces order EnhancedPacket block) (λ i is. ap (λ (o : Option Interface). enhanced_of scope.links o order block) is) h
stated_lawful scope interfaces order SimplePacket block content h =
    packet_of_lawful scope.links (slice_get interfaces 0) (length block - 16) (λ i. simple_packet i order block) content
    (stated scope interfaces order SimplePacket block) (λ i is. ap (λ (o : Option Interface). simple_of scope.links o order block) is) h
stated_lawful scope interfaces order Other block content h = ap (λ (c : Content). Ok c) (sym h)

-- Rule 4.

closed : (scope : Scope) (interfaces : List Interface) (order : Order) (kind : BlockKind) (block : List ℕ) → last_total order block ≡ length block
    → content_of scope interfaces order kind block ≡ stated scope interfaces order kind block
unfolding content_of
closed scope interfaces order kind block h = let same : eqb (last_total order block) (length block) ≡ true =
    eq-eqb (last_total order block) (length block) h in rw same refl

not_closed : (scope : Scope) (interfaces : List Interface) (order : Order) (kind : BlockKind) (block : List ℕ) → (last_total order block ≡ length block → ⊥)
    → content_of scope interfaces order kind block ≡ Err BadLength
unfolding content_of
not_closed scope interfaces order kind block h = let other : eqb (last_total order block) (length block) ≡ false = grind (arith, nat_tests) in rw other refl

-- Rules 1 to 3.

all_true : (a b c : Bool) → a ≡ true → b ≡ true → c ≡ true → (a && b) && c ≡ true
all_true a b c p q r = rw (p, q, r) refl

within_true : (kind : BlockKind) (n : ℕ) → ((kind ≡ Other → ⊥) → n ≤ 2 ^ 20) → is_within kind n ≡ true
within_true SectionHeader n h = test_le n (2 ^ 20) (h (λ e. cc))
within_true InterfaceDescription n h = test_le n (2 ^ 20) (h (λ e. cc))
within_true EnhancedPacket n h = test_le n (2 ^ 20) (h (λ e. cc))
within_true SimplePacket n h = test_le n (2 ^ 20) (h (λ e. cc))
within_true Other n h = refl

total_true : (kind : BlockKind) (n : ℕ) → IsLawfulTotal kind n → is_total kind n ≡ true
total_true kind n h =
    all_true (n % 4 == 0) (nat_le (least kind) n) (is_within kind n) (eq-eqb (n % 4) 0 h.fours) (test_le (least kind) n h.enough) (within_true kind n h.most)

total_lawful : (kind : BlockKind) (n : ℕ) → is_total kind n ≡ true → IsLawfulTotal kind n
total_lawful kind n h =
    let front = both ((n % 4 == 0) && nat_le (least kind) n) (is_within kind n) h in
    let mid = both (n % 4 == 0) (nat_le (least kind) n) front.0 in
    let fours : eqb (n % 4) 0 ≡ true = mid.0 in
    record { fours = eqb_eq (n % 4) 0 fours; enough = at_least kind n h; most = λ other. at_most kind n h other } where
      eqb_eq : (a b : ℕ) → eqb a b ≡ true → a ≡ b
      eqb_eq a b h = grind (arith, nat_tests)

bool_case : (b : Bool) → (b ≡ true) ⊎ (b ≡ false)
bool_case true = inl refl
bool_case false = inr refl

true_false : (b : Bool) → b ≡ true → b ≡ false → ⊥
true_false b p q = cc

sized_true : (order : Order) (kind : BlockKind) (bytes : List ℕ) → is_total kind (total_at order bytes) ≡ true
    → sized order kind bytes ≡ Stands order kind (total_at order bytes)
unfolding sized
sized_true order kind bytes h = rw h refl

sized_false : (order : Order) (kind : BlockKind) (bytes : List ℕ) → is_total kind (total_at order bytes) ≡ false → sized order kind bytes ≡ Flawed BadLength
unfolding sized
sized_false order kind bytes h = rw h refl

section_yes : (bytes : List ℕ) → IsSectionType bytes → is_section bytes ≡ true
section_yes bytes h = eq-eqb (little_number 4 bytes) 0x0a0d0d0a h

section_no : (bytes : List ℕ) → (IsSectionType bytes → ⊥) → is_section bytes ≡ false
section_no bytes h = elim (bool_case (is_section bytes)) [
  | inl is ↦ absurd (h (section_type bytes is))
  | inr other ↦ other
] where
  section_type : (bytes : List ℕ) → eqb (little_number 4 bytes) 0x0a0d0d0a ≡ true → little_number 4 bytes ≡ 0x0a0d0d0a
  section_type bytes is = grind (arith, nat_tests)

kind_true : (kind : BlockKind) (n : ℕ) → IsType kind n → kind_of n ≡ kind
kind_true SectionHeader n h = absurd h
kind_true InterfaceDescription n h = rw h refl
kind_true EnhancedPacket n h = rw h refl
kind_true SimplePacket n h = rw h refl
kind_true Other n h = grind (arith, nat_tests)

kind_is : (n : ℕ) → IsType (kind_of n) n
kind_is n = elim (cases_eq n 1) [
  | inl one ↦ subst (λ (m : ℕ). IsType (kind_of m) m) (sym one) refl
  | inr a ↦ elim (cases_eq n 6) [
    | inl six ↦ subst (λ (m : ℕ). IsType (kind_of m) m) (sym six) refl
    | inr b ↦ elim (cases_eq n 3) [
      | inl three ↦ subst (λ (m : ℕ). IsType (kind_of m) m) (sym three) refl
      | inr c ↦ subst (λ (k : BlockKind). IsType k n) (sym (kind_true Other n (a, b, c))) (a, b, c)
    ]
  ]
]

-- a block that begins is judged by its total length
begins_head : (section : Option Order) (bytes : List ℕ) (order : Order) (kind : BlockKind) → BeginsAs section bytes order kind
    → head_of section bytes ≡ sized order kind bytes
begins_head section bytes order kind (inl (is, h)) =
    let size : 12 ≤ length bytes = h.size in
    head_section section bytes (omega (arith, size)) (section_yes bytes h.type_is)
    ∙ section_long bytes size
    ∙ ap (λ (o : Option Order). in_order o bytes) h.magic
    ∙ ap (λ (k : BlockKind). sized order k bytes) (sym is)
begins_head section bytes order kind (inr h) =
    let size : 8 ≤ length bytes = h.size in
    head_block section bytes (omega (arith, size)) (section_no bytes h.other)
    ∙ ap (λ (o : Option Order). block_head o bytes) h.within
    ∙ block_long order bytes size
    ∙ ap (λ (k : BlockKind). sized order k bytes) (kind_true kind (number_in order 4 bytes) h.type_is)

head_stands : (section : Option Order) (bytes : List ℕ) (order : Order) (kind : BlockKind) (total : ℕ) → HasHead section bytes order kind total
    → head_of section bytes ≡ Stands order kind total
head_stands section bytes order kind total h =
    begins_head section bytes order kind h.begins
    ∙ sized_true order kind bytes (total_true kind (total_at order bytes) (subst (IsLawfulTotal kind) h.total_is h.lawful))
    ∙ ap (λ n. Stands order kind n) (sym h.total_is)

head_flawed : (section : Option Order) (bytes : List ℕ) (flaw : Flaw) → HeadBreaks section bytes flaw → head_of section bytes ≡ Flawed flaw
head_flawed section bytes BadMagic (inl h) =
    head_block section bytes h.size (section_no bytes h.other) ∙ ap (λ (o : Option Order). block_head o bytes) h.outside
head_flawed section bytes BadMagic (inr h) =
    let size : 12 ≤ length bytes = h.size in
    head_section section bytes (omega (arith, size)) (section_yes bytes h.type_is) ∙ section_long bytes size
    ∙ ap (λ (o : Option Order). in_order o bytes) h.magic
head_flawed section bytes BadLength h =
    begins_head section bytes h.order h.kind h.begins ∙ sized_false h.order h.kind bytes (elim (bool_case (is_total h.kind (total_at h.order bytes))) [
      | inl lawful ↦ absurd (h.total (total_lawful h.kind (total_at h.order bytes) lawful))
      | inr other ↦ other
    ])
head_flawed section bytes BadVersion h = absurd h
head_flawed section bytes BadLink h = absurd h
head_flawed section bytes FrameTooLong h = absurd h
head_flawed section bytes NoInterface h = absurd h
head_flawed section bytes TooManyInterfaces h = absurd h

-- what a head comes to
data HeadCase (section : Option Order) (bytes : List ℕ) : Type 0 where
  Unseen : head_of section bytes ≡ Short → HeadCase section bytes
  Breaking : (flaw : Flaw) → head_of section bytes ≡ Flawed flaw → HeadBreaks section bytes flaw → HeadCase section bytes
  Standing : (order : Order) (kind : BlockKind) (total : ℕ) → head_of section bytes ≡ Stands order kind total → HasHead section bytes order kind total
      → HeadCase section bytes

by_size : (section : Option Order) (bytes : List ℕ) (order : Order) (kind : BlockKind) → BeginsAs section bytes order kind → HeadCase section bytes
by_size section bytes order kind h = elim (bool_case (is_total kind (total_at order bytes))) [
  | inl lawful ↦
      let head : HasHead section bytes order kind (total_at order bytes) =
      record { begins = h; total_is = refl; lawful = total_lawful kind (total_at order bytes) lawful } in
      Standing order kind (total_at order bytes) (head_stands section bytes order kind (total_at order bytes) head) head
  | inr other ↦
      let breaks : BreaksRule3 section bytes =
      record {
        order = order;
        kind = kind;
        begins = h;
        total = λ l. true_false (is_total kind (total_at order bytes)) (total_true kind (total_at order bytes) l) other;
      } in
      Breaking BadLength (head_flawed section bytes BadLength breaks) breaks
]

by_magic : (section found : Option Order) (bytes : List ℕ) → 12 ≤ length bytes → IsSectionType bytes → order_at bytes ≡ found → HeadCase section bytes
by_magic section None bytes size is h =
    let breaks : BreaksRule2 bytes = record { size = size; type_is = is; magic = h } in
    Breaking BadMagic (head_flawed section bytes BadMagic (inr breaks)) (inr breaks)
by_magic section (Some order) bytes size is h = by_size section bytes order SectionHeader (inl (refl, record { size = size; type_is = is; magic = h }))

by_section : (section found : Option Order) (bytes : List ℕ) → 4 ≤ length bytes → (IsSectionType bytes → ⊥) → section ≡ found → HeadCase section bytes
by_section section None bytes size other h =
    let breaks : BreaksRule1 section bytes = record { size = size; outside = h; other = other } in
    Breaking BadMagic (head_flawed section bytes BadMagic (inl breaks)) (inl breaks)
by_section section (Some order) bytes size other h = elim (cases_lt (length bytes) 8) [
  | inl short ↦ Unseen
      (head_block section bytes size (section_no bytes other) ∙ ap (λ (o : Option Order). block_head o bytes) h ∙ block_short order bytes short)
  | inr whole ↦ by_size section bytes order (kind_of (number_in order 4 bytes))
      (inr (record { size = whole; other = other; within = h; type_is = kind_is (number_in order 4 bytes) }))
]

head_case : (section : Option Order) (bytes : List ℕ) → HeadCase section bytes
head_case section bytes = elim (cases_lt (length bytes) 4) [
  | inl short ↦ Unseen (head_short section bytes short)
  | inr long ↦ elim (cases_eq (little_number 4 bytes) 0x0a0d0d0a) [
    | inr other ↦ by_section section section bytes long other refl
    | inl is ↦ elim (cases_lt (length bytes) 12) [
      | inl short ↦ Unseen (head_section section bytes long (section_yes bytes is) ∙ section_short bytes short)
      | inr whole ↦ by_magic section (order_at bytes) bytes whole is refl
    ]
  ]
]

-- The step.

-- what the bytes at the front come to
data StepCase (scope : Scope) (s : State) (bytes : List ℕ) : Type 0 where
  Wanting : step scope s bytes ≡ Wants → StepCase scope s bytes
  Flaws : (flaw : Flaw) → step scope s bytes ≡ Bad (fault_of s.count flaw) → HasFlaw scope s bytes flaw → StepCase scope s bytes
  Block : (n : ℕ) (content : Content) → step scope s bytes ≡ Takes n (frames_of (num_of scope.length s.count) content (take n bytes)) (after scope.length s content)
      → IsBlock scope s bytes n (frames_of (num_of scope.length s.count) content (take n bytes)) (after scope.length s content) → StepCase scope s bytes

step_content : (scope : Scope) (s : State) (bytes : List ℕ) (order : Order) (kind : BlockKind) (total : ℕ) (found : Result Content Flaw)
    → HasBlock s.order bytes order kind total → content_of scope s.interfaces order kind (take total bytes) ≡ found
    → step scope s bytes ≡ block_found scope.length s (take total bytes) found
step_content scope s bytes order kind total found h is =
    step_at scope s bytes (Stands order kind total) (head_stands s.order bytes order kind total h.head)
    ∙ found_whole scope s bytes order kind total h.whole
    ∙ ap (λ (x : Result Content Flaw). block_found scope.length s (take total bytes) x) is

step_block : (scope : Scope) (s : State) (bytes : List ℕ) (order : Order) (kind : BlockKind) (total : ℕ) (content : Content)
    → HasBlock s.order bytes order kind total → last_total order (take total bytes) ≡ total
    → BlockStates scope s.interfaces order kind (take total bytes) content
    → step scope s bytes ≡ Takes total (frames_of (num_of scope.length s.count) content (take total bytes)) (after scope.length s content)
step_block scope s bytes order kind total content h last states =
    let size : length (take total bytes) ≡ total = length_front total bytes h.whole in
    step_content scope s bytes order kind total (Ok content) h
    (closed scope s.interfaces order kind (take total bytes) (last ∙ sym size)
    ∙ stated_lawful scope s.interfaces order kind (take total bytes) content states)
    ∙ ap (λ n. Takes n (frames_of (num_of scope.length s.count) content (take total bytes)) (after scope.length s content)) size

step_flawed : (scope : Scope) (s : State) (bytes : List ℕ) (flaw : Flaw) → HasFlaw scope s bytes flaw → step scope s bytes ≡ Bad (fault_of s.count flaw)
step_flawed scope s bytes flaw (inl h) = step_at scope s bytes (Flawed flaw) (head_flawed s.order bytes flaw h)
step_flawed scope s bytes flaw (inr (inl h)) =
    let it = h.1 in
    let size : length (take it.total bytes) ≡ it.total = length_front it.total bytes it.block.whole in
    step_content scope s bytes it.order it.kind it.total (Err BadLength) it.block
    (not_closed scope s.interfaces it.order it.kind (take it.total bytes) (λ e. it.last (e ∙ size)))
    ∙ ap (λ (f : Flaw). Bad (fault_of s.count f)) (sym h.0)
step_flawed scope s bytes flaw (inr (inr it)) =
    let size : length (take it.total bytes) ≡ it.total = length_front it.total bytes it.block.whole in
    step_content scope s bytes it.order it.kind it.total (Err flaw) it.block
    (closed scope s.interfaces it.order it.kind (take it.total bytes) (it.last ∙ sym size)
    ∙ stated_broken scope s.interfaces it.order it.kind (take it.total bytes) flaw it.breaks)

by_content : (scope : Scope) (s : State) (bytes : List ℕ) (order : Order) (kind : BlockKind) (total : ℕ) → HasBlock s.order bytes order kind total
    → last_total order (take total bytes) ≡ total
    → BlockCase (stated scope s.interfaces order kind (take total bytes)) (BlockBreaks scope s.interfaces order kind (take total bytes))
    (BlockStates scope s.interfaces order kind (take total bytes)) → StepCase scope s bytes
by_content scope s bytes order kind total block last (Breaking flaw is h) =
    let breaks : HasFlaw scope s bytes flaw = inr (inr (record { order = order; kind = kind; total = total; block = block; last = last; breaks = h })) in
    Flaws flaw (step_flawed scope s bytes flaw breaks) breaks
by_content scope s bytes order kind total block last (Stating content is h) =
    Block total content (step_block scope s bytes order kind total content block last h)
    (record { order = order; kind = kind; content = content; block = block; last = last; states = h; frames_are = refl; after_is = refl })

by_block : (scope : Scope) (s : State) (bytes : List ℕ) (order : Order) (kind : BlockKind) (total : ℕ) → HasBlock s.order bytes order kind total
    → StepCase scope s bytes
by_block scope s bytes order kind total block = elim (cases_eq (last_total order (take total bytes)) total) [
  | inl last ↦ by_content scope s bytes order kind total block last (stated_case scope s.interfaces order kind (take total bytes))
  | inr other ↦
      let breaks : HasFlaw scope s bytes BadLength =
      inr (inl (refl, record { order = order; kind = kind; total = total; block = block; last = other })) in
      Flaws BadLength (step_flawed scope s bytes BadLength breaks) breaks
]

by_head : (scope : Scope) (s : State) (bytes : List ℕ) → HeadCase s.order bytes → StepCase scope s bytes
by_head scope s bytes (Unseen is) = Wanting (step_at scope s bytes Short is)
by_head scope s bytes (Breaking flaw is h) = Flaws flaw (step_flawed scope s bytes flaw (inl h)) (inl h)
by_head scope s bytes (Standing order kind total is h) = elim (cases_lt (length bytes) total) [
  | inl short ↦ Wanting (step_at scope s bytes (Stands order kind total) is ∙ found_short scope s bytes order kind total short)
  | inr whole ↦ by_block scope s bytes order kind total (record { head = h; whole = whole })
]

bad_same : (a b : NgFault) → ◌≡◌ {A = Shown} (Bad a) (Bad b) → a ≡ b
bad_same a b h = cc

bad_by_rules : (scope : Scope) (s : State) (bytes : List ℕ) (fault : NgFault) → step scope s bytes ≡ Bad fault → StepCase scope s bytes → (flaw : Flaw)
    × (fault ≡ fault_of s.count flaw) × HasFlaw scope s bytes flaw
bad_by_rules scope s bytes fault h (Wanting is) = absurd (wants_not_bad fault (sym is ∙ h))
bad_by_rules scope s bytes fault h (Flaws flaw is breaks) = (flaw, bad_same fault (fault_of s.count flaw) (sym h ∙ is), breaks)
bad_by_rules scope s bytes fault h (Block n content is block) =
    absurd (bad_not_takes fault n (frames_of (num_of scope.length s.count) content (take n bytes)) (after scope.length s content) (sym h ∙ is))

takes_by_rules : (scope : Scope) (s : State) (bytes : List ℕ) (n : ℕ) (frames : List FrameValue) (t : State) → step scope s bytes ≡ Takes n frames t
    → StepCase scope s bytes → IsBlock scope s bytes n frames t
takes_by_rules scope s bytes n frames t h (Wanting is) = absurd (wants_not_takes n frames t (sym is ∙ h))
takes_by_rules scope s bytes n frames t h (Flaws flaw is breaks) = absurd (bad_not_takes (fault_of s.count flaw) n frames t (sym is ∙ h))
takes_by_rules scope s bytes n frames t h (Block m content is block) =
    let given : List FrameValue = frames_of (num_of scope.length s.count) content (take m bytes) in
    let next : State = after scope.length s content in
    subst (λ (k : ℕ). IsBlock scope s bytes k frames t) (taken_size m n given frames next t (sym is ∙ h))
    (subst (λ (x : List FrameValue). IsBlock scope s bytes m x t) (taken_items m n given frames next t (sym is ∙ h))
    (subst (λ (x : State). IsBlock scope s bytes m given x) (taken_state m n given frames next t (sym is ∙ h)) block))

block_taken : (scope : Scope) (s : State) (bytes : List ℕ) (n : ℕ) (frames : List FrameValue) (t : State) → IsBlock scope s bytes n frames t
    → step scope s bytes ≡ Takes n frames t
block_taken scope s bytes n frames t h =
    step_block scope s bytes h.order h.kind n h.content h.block h.last h.states
    ∙ ap (λ (x : List FrameValue). Takes n x (after scope.length s h.content)) (sym h.frames_are)
    ∙ ap (λ (x : State). Takes n frames x) (sym h.after_is)

pub steps_by_rules : (scope : Scope) (s : State) (bytes : List ℕ) → StepsByRules scope s bytes
steps_by_rules scope s bytes = record {
  bad = λ fault h. bad_by_rules scope s bytes fault h (by_head scope s bytes (head_case s.order bytes));
  flaw = step_flawed scope s bytes;
  takes = λ n frames t h. takes_by_rules scope s bytes n frames t h (by_head scope s bytes (head_case s.order bytes));
  block = block_taken scope s bytes;
}
