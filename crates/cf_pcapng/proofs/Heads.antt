-- The heads of blocks.
use Rattle.std.proofs.Common.{◌≡◌, inl, inr, ℕ, ◌<◌, ◌≤◌, ◌%◌, ◌^◌, ◌&&◌, ◌==◌, cond, nat_lt, nat_le, Bool, true, false, List, ◌++◌, length, Option, Some, None, refl, sym, ap, ◌∙◌, arith}
use Rattle.std.proofs.lemmas.Bool.{cases_lt}
use Rattle.std.proofs.lemmas.Bool.Decides.{nat_tests}
use Rattle.cf_row.proofs.Truths.{both}
use Rattle.cf_pcap.specs.declared.form.Order.{Order}
use Rattle.cf_pcap.specs.declared.form.Order.TheVariants.{Little, Big}
use Rattle.cf_pcap.specs.Capture.{number_in}
use Rattle.cf_pcap.proofs.Following.{longer, number_first, number_later}
use Rattle.cf_pcapng.specs.declared.fault.Flaw.TheVariants.{BadLength}
use Rattle.cf_pcapng.specs.declared.head.BlockKind.{BlockKind}
use Rattle.cf_pcapng.specs.declared.head.BlockKind.TheVariants.{SectionHeader, InterfaceDescription, EnhancedPacket, SimplePacket, Other}
use Rattle.cf_pcapng.specs.declared.head.BlockHead.TheVariants.{Short, Flawed, Stands}
use Rattle.cf_pcapng.specs.Blocks.{is_section, kind_of, order_at, least, is_within, is_total, total_at, sized, in_order, section_head, block_head, head_of}

pub below : (n m : ℕ) → n < m → nat_lt n m ≡ true
below n m h = grind (arith, nat_tests)

pub not_below : (n m : ℕ) → m ≤ n → nat_lt n m ≡ false
not_below n m h = grind (arith, nat_tests)

-- The cases of a head.

pub head_short : (order : Option Order) (bytes : List ℕ) → length bytes < 4 → head_of order bytes ≡ Short
unfolding head_of
head_short order bytes h = rw (below (length bytes) 4 h) refl

pub head_section : (order : Option Order) (bytes : List ℕ) → 4 ≤ length bytes → is_section bytes ≡ true → head_of order bytes ≡ section_head bytes
unfolding head_of
head_section order bytes h is = rw (not_below (length bytes) 4 h, is) refl

pub head_block : (order : Option Order) (bytes : List ℕ) → 4 ≤ length bytes → is_section bytes ≡ false → head_of order bytes ≡ block_head order bytes
unfolding head_of
head_block order bytes h is = rw (not_below (length bytes) 4 h, is) refl

pub section_short : (bytes : List ℕ) → length bytes < 12 → section_head bytes ≡ Short
unfolding section_head
section_short bytes h = rw (below (length bytes) 12 h) refl

pub section_long : (bytes : List ℕ) → 12 ≤ length bytes → section_head bytes ≡ in_order (order_at bytes) bytes
unfolding section_head
section_long bytes h = rw (not_below (length bytes) 12 h) refl

pub block_short : (order : Order) (bytes : List ℕ) → length bytes < 8 → block_head (Some order) bytes ≡ Short
block_short order bytes h = rw (below (length bytes) 8 h) refl

pub block_long : (order : Order) (bytes : List ℕ) → 8 ≤ length bytes → block_head (Some order) bytes ≡ sized order (kind_of (number_in order 4 bytes)) bytes
block_long order bytes h = rw (not_below (length bytes) 8 h) refl

-- What comes later changes no head.

pub section_first : (xs ys : List ℕ) → 4 ≤ length xs → is_section (xs ++ ys) ≡ is_section xs
section_first xs ys h = ap (λ n. n == 0x0a0d0d0a) (number_first Little 4 xs ys h)

order_first : (xs ys : List ℕ) → 12 ≤ length xs → order_at (xs ++ ys) ≡ order_at xs
order_first xs ys h = rw (number_later Little 4 8 xs ys (omega (arith, h)), number_later Big 4 8 xs ys (omega (arith, h))) refl

sized_first : (order : Order) (kind : BlockKind) (xs ys : List ℕ) → 8 ≤ length xs → sized order kind (xs ++ ys) ≡ sized order kind xs
unfolding sized
sized_first order kind xs ys h = rw (number_later order 4 4 xs ys (omega (arith, h))) refl

in_order_first : (order : Option Order) (xs ys : List ℕ) → 12 ≤ length xs → in_order order (xs ++ ys) ≡ in_order order xs
in_order_first None xs ys h = refl
in_order_first (Some order) xs ys h = sized_first order SectionHeader xs ys (omega (arith, h))

section_head_first : (xs ys : List ℕ) → 12 ≤ length xs → section_head (xs ++ ys) ≡ section_head xs
section_head_first xs ys h =
    section_long (xs ++ ys) (longer 12 xs ys h)
    ∙ ap (λ (o : Option Order). in_order o (xs ++ ys)) (order_first xs ys h)
    ∙ in_order_first (order_at xs) xs ys h
    ∙ sym (section_long xs h)

block_head_first : (order : Option Order) (xs ys : List ℕ) → 8 ≤ length xs → block_head order (xs ++ ys) ≡ block_head order xs
block_head_first None xs ys h = refl
block_head_first (Some order) xs ys h =
    block_long order (xs ++ ys) (longer 8 xs ys h)
    ∙ ap (λ n. sized order (kind_of n) (xs ++ ys)) (number_first order 4 xs ys (omega (arith, h)))
    ∙ sized_first order (kind_of (number_in order 4 xs)) xs ys h
    ∙ sym (block_long order xs h)

-- a head of a block that is no section header is found in 8 bytes
pub head_by_8 : (order : Option Order) (xs ys : List ℕ) → 8 ≤ length xs → is_section xs ≡ false → head_of order (xs ++ ys) ≡ head_of order xs
head_by_8 order xs ys h is =
    head_block order (xs ++ ys) (longer 4 xs ys (omega (arith, h))) (section_first xs ys (omega (arith, h)) ∙ is)
    ∙ block_head_first order xs ys h
    ∙ sym (head_block order xs (omega (arith, h)) is)

block_stays : (order : Option Order) (xs ys : List ℕ) → 4 ≤ length xs → is_section xs ≡ false → (block_head order xs ≡ Short → ⊥)
    → block_head order (xs ++ ys) ≡ block_head order xs
block_stays None xs ys long is seen = refl
block_stays (Some order) xs ys long is seen = elim (cases_lt (length xs) 8) [
  | inl short ↦ absurd (seen (block_short order xs short))
  | inr whole ↦ block_head_first (Some order) xs ys whole
]

section_stays : (xs ys : List ℕ) → (section_head xs ≡ Short → ⊥) → section_head (xs ++ ys) ≡ section_head xs
section_stays xs ys seen = elim (cases_lt (length xs) 12) [
  | inl short ↦ absurd (seen (section_short xs short))
  | inr whole ↦ section_head_first xs ys whole
]

pub head_stays : (order : Option Order) (xs ys : List ℕ) → (head_of order xs ≡ Short → ⊥) → head_of order (xs ++ ys) ≡ head_of order xs
head_stays order xs ys seen = elim (cases_lt (length xs) 4) [
  | inl short ↦ absurd (seen (head_short order xs short))
  | inr long ↦ by_section (is_section xs) refl long
] where
  by_section : (b : Bool) → is_section xs ≡ b → 4 ≤ length xs → head_of order (xs ++ ys) ≡ head_of order xs
  by_section true is long =
      head_section order (xs ++ ys) (longer 4 xs ys long) (section_first xs ys long ∙ is)
      ∙ section_stays xs ys (λ h. seen (head_section order xs long is ∙ h))
      ∙ sym (head_section order xs long is)
  by_section false is long =
      head_block order (xs ++ ys) (longer 4 xs ys long) (section_first xs ys long ∙ is)
      ∙ block_stays order xs ys long is (λ h. seen (head_block order xs long is ∙ h))
      ∙ sym (head_block order xs long is)

-- what a head that stands says

-- a lawful block of a kind: one that is passed over is no section header, and is in a section's byte order
pub record Standing (order : Option Order) (bytes : List ℕ) (o : Order) (kind : BlockKind) (total : ℕ) : Type 0 where
  pub lawful : is_total kind total ≡ true
  pub total_is : total ≡ total_at o bytes
  pub size : 8 ≤ length bytes
  pub other : kind ≡ Other → (is_section bytes ≡ false) × (order ≡ Some o)

stands_order : (a b : Order) (j k : BlockKind) (n m : ℕ) → Stands a j n ≡ Stands b k m → a ≡ b
stands_order a b j k n m h = cc

stands_kind : (a b : Order) (j k : BlockKind) (n m : ℕ) → Stands a j n ≡ Stands b k m → j ≡ k
stands_kind a b j k n m h = cc

stands_total : (a b : Order) (j k : BlockKind) (n m : ℕ) → Stands a j n ≡ Stands b k m → n ≡ m
stands_total a b j k n m h = cc

sized_standing : (order : Option Order) (p o : Order) (j kind : BlockKind) (bytes : List ℕ) (total : ℕ) → 8 ≤ length bytes
    → (j ≡ Other → (is_section bytes ≡ false) × (order ≡ Some p)) → sized p j bytes ≡ Stands o kind total → Standing order bytes o kind total
unfolding sized
sized_standing order p o j kind bytes total size other h = by_test (is_total j (total_at p bytes)) refl h where
  by_test : (b : Bool) → is_total j (total_at p bytes) ≡ b → cond b (Stands p j (total_at p bytes)) (Flawed BadLength) ≡ Stands o kind total
      → Standing order bytes o kind total
  by_test true is e =
      let order_is : p ≡ o = stands_order p o j kind (total_at p bytes) total e in
      let kind_is : j ≡ kind = stands_kind p o j kind (total_at p bytes) total e in
      let total_is : total_at p bytes ≡ total = stands_total p o j kind (total_at p bytes) total e in record {
        lawful = ap (λ (k : BlockKind). is_total k total) (sym kind_is) ∙ ap (λ n. is_total j n) (sym total_is) ∙ is;
        total_is = sym total_is ∙ ap (λ (x : Order). total_at x bytes) order_is;
        size = size;
        other = λ k. let both = other (kind_is ∙ k) in (both.0, both.1 ∙ ap (λ (x : Order). Some x) order_is);
      }
  by_test false is e = cc

in_order_standing : (order found : Option Order) (bytes : List ℕ) (o : Order) (kind : BlockKind) (total : ℕ) → 8 ≤ length bytes
    → in_order found bytes ≡ Stands o kind total → Standing order bytes o kind total
in_order_standing order None bytes o kind total size h = cc
in_order_standing order (Some p) bytes o kind total size h = sized_standing order p o SectionHeader kind bytes total size (λ e. cc) h

block_standing : (order : Option Order) (bytes : List ℕ) (o : Order) (kind : BlockKind) (total : ℕ) → is_section bytes ≡ false
    → block_head order bytes ≡ Stands o kind total → Standing order bytes o kind total
block_standing None bytes o kind total is h = cc
block_standing (Some p) bytes o kind total is h = elim (cases_lt (length bytes) 8) [
  | inl short ↦ let none : Short ≡ Stands o kind total = sym (block_short p bytes short) ∙ h in cc
  | inr size ↦ sized_standing (Some p) p o (kind_of (number_in p 4 bytes)) kind bytes total size (λ _. (is, refl)) (sym (block_long p bytes size) ∙ h)
]

section_standing : (order : Option Order) (bytes : List ℕ) (o : Order) (kind : BlockKind) (total : ℕ) → section_head bytes ≡ Stands o kind total
    → Standing order bytes o kind total
section_standing order bytes o kind total h = elim (cases_lt (length bytes) 12) [
  | inl short ↦ let none : Short ≡ Stands o kind total = sym (section_short bytes short) ∙ h in cc
  | inr size ↦ in_order_standing order (order_at bytes) bytes o kind total (omega (arith, size)) (sym (section_long bytes size) ∙ h)
]

pub standing : (order : Option Order) (bytes : List ℕ) (o : Order) (kind : BlockKind) (total : ℕ) → head_of order bytes ≡ Stands o kind total
    → Standing order bytes o kind total
standing order bytes o kind total h = elim (cases_lt (length bytes) 4) [
  | inl short ↦ let none : Short ≡ Stands o kind total = sym (head_short order bytes short) ∙ h in cc
  | inr long ↦ by_section (is_section bytes) refl long
] where
  by_section : (b : Bool) → is_section bytes ≡ b → 4 ≤ length bytes → Standing order bytes o kind total
  by_section true is long = section_standing order bytes o kind total (sym (head_section order bytes long is) ∙ h)
  by_section false is long = block_standing order bytes o kind total is (sym (head_block order bytes long is) ∙ h)

pub at_least : (kind : BlockKind) (n : ℕ) → is_total kind n ≡ true → least kind ≤ n
at_least kind n h =
    let front = both ((n % 4 == 0) && nat_le (least kind) n) (is_within kind n) h in
    let mid = both (n % 4 == 0) (nat_le (least kind) n) front.0 in
    let is : nat_le (least kind) n ≡ true = mid.1 in
    grind (arith, nat_tests)

pub least_12 : (kind : BlockKind) → 12 ≤ least kind
least_12 SectionHeader = omega arith
least_12 InterfaceDescription = omega arith
least_12 EnhancedPacket = omega arith
least_12 SimplePacket = omega arith
least_12 Other = omega arith

pub at_most : (kind : BlockKind) (n : ℕ) → is_total kind n ≡ true → (kind ≡ Other → ⊥) → n ≤ 2 ^ 20
at_most kind n h other = by_kind kind ((both ((n % 4 == 0) && nat_le (least kind) n) (is_within kind n) h).1) other where
  within : (n : ℕ) → nat_le n (2 ^ 20) ≡ true → n ≤ 2 ^ 20
  within n h = grind (arith, nat_tests)

  by_kind : (kind : BlockKind) → is_within kind n ≡ true → (kind ≡ Other → ⊥) → n ≤ 2 ^ 20
  by_kind SectionHeader h other = within n h
  by_kind InterfaceDescription h other = within n h
  by_kind EnhancedPacket h other = within n h
  by_kind SimplePacket h other = within n h
  by_kind Other h other = absurd (other refl)

-- a head that isn't seen yet has few bytes
sized_seen : (order : Order) (kind : BlockKind) (bytes : List ℕ) → sized order kind bytes ≡ Short → ⊥
unfolding sized
sized_seen order kind bytes h = by_test (is_total kind (total_at order bytes)) h where
  by_test : (b : Bool) → cond b (Stands order kind (total_at order bytes)) (Flawed BadLength) ≡ Short → ⊥
  by_test true e = cc
  by_test false e = cc

in_order_seen : (order : Option Order) (bytes : List ℕ) → in_order order bytes ≡ Short → ⊥
in_order_seen None bytes h = cc
in_order_seen (Some order) bytes h = sized_seen order SectionHeader bytes h

block_seen : (order : Option Order) (bytes : List ℕ) → block_head order bytes ≡ Short → length bytes < 8
block_seen None bytes h = cc
block_seen (Some order) bytes h = elim (cases_lt (length bytes) 8) [
  | inl short ↦ short
  | inr whole ↦ absurd (sized_seen order (kind_of (number_in order 4 bytes)) bytes (sym (block_long order bytes whole) ∙ h))
]

section_seen : (bytes : List ℕ) → section_head bytes ≡ Short → length bytes < 12
section_seen bytes h = elim (cases_lt (length bytes) 12) [
  | inl short ↦ short
  | inr whole ↦ absurd (in_order_seen (order_at bytes) bytes (sym (section_long bytes whole) ∙ h))
]

pub seen_size : (order : Option Order) (bytes : List ℕ) → head_of order bytes ≡ Short → length bytes < 12
seen_size order bytes h = elim (cases_lt (length bytes) 4) [
  | inl short ↦ omega (arith, short)
  | inr long ↦ by_section (is_section bytes) refl long
] where
  by_section : (b : Bool) → is_section bytes ≡ b → 4 ≤ length bytes → length bytes < 12
  by_section true is long = section_seen bytes (sym (head_section order bytes long is) ∙ h)
  by_section false is long = let few : length bytes < 8 = block_seen order bytes (sym (head_block order bytes long is) ∙ h) in omega (arith, few)
