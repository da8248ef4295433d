-- The file header.
use Rattle.std.proofs.Common.{◌≡◌, ◌⊎◌, inl, inr, ℕ, ◌==◌, ◌<◌, ◌≤◌, ◌%◌, ◌^◌, nat_lt, Bool, true, false, List, ◌++◌, length, drop, Option, Some, None, refl, sym, ap, subst, ◌∙◌, arith}
use Rattle.std.proofs.lemmas.Bool.{cases_lt, cases_eq, true≢false}
use Rattle.std.proofs.lemmas.Bool.Decides.{nat_tests}
use Rattle.cf_row.proofs.Truths.{lt_true, lt_false}
use Rattle.cf_pcap.specs.declared.links.LinkSet.{LinkSet}
use Rattle.cf_pcap.specs.declared.scope.Scope.{Scope}
use Rattle.cf_pcap.specs.declared.form.Order.TheVariants.{Little, Big}
use Rattle.cf_pcap.specs.declared.form.Layout.{Layout}
use Rattle.cf_pcap.specs.declared.form.FileHeader.{FileHeader}
use Rattle.cf_pcap.specs.declared.fault.PcapFault.{PcapFault}
use Rattle.cf_pcap.specs.declared.fault.PcapFault.TheVariants.{BadMagic, BadVersion, BadLink, FrameTooLong, Cut, TooManyBytes, Memory}
use Rattle.cf_pcap.specs.Capture.{number_in, layout_of, link_at, IsVersion, IsFileHeader, HasBadMagic, HasBadVersion, HasBadLink, HasLongFrame, Shows}
use Rattle.cf_pcap.specs.Links.{is_link}
use Rattle.cf_pcap.specs.declared.head.HeaderShown.TheVariants.{Short, Faulty, Stands}
use Rattle.cf_pcap.specs.File.{is_version, by_link, by_layout, head_of}
use Rattle.cf_pcap.proofs.Following.{longer, number_first, number_later}

-- a fault of the file header
abbrev pub HasHeaderFault : LinkSet → List ℕ → PcapFault → Type 0
HasHeaderFault links bytes BadMagic = HasBadMagic bytes
HasHeaderFault links bytes BadVersion = HasBadVersion bytes
HasHeaderFault links bytes BadLink = HasBadLink links bytes
HasHeaderFault links bytes (FrameTooLong k) = ⊥
HasHeaderFault links bytes (Cut k) = ⊥
HasHeaderFault links bytes TooManyBytes = ⊥
HasHeaderFault links bytes Memory = ⊥

-- what comes later doesn't change the magic, the version or the link
pub layout_first : (xs ys : List ℕ) → 4 ≤ length xs → layout_of (xs ++ ys) ≡ layout_of xs
unfolding layout_of
layout_first xs ys h = rw (number_first Little 4 xs ys h, number_first Big 4 xs ys h)

version_first : (layout : Layout) (xs ys : List ℕ) → 8 ≤ length xs → IsVersion layout xs → IsVersion layout (xs ++ ys)
version_first layout xs ys h v =
    record {
      major = number_later layout.order 2 4 xs ys (omega (arith, h)) ∙ v.major;
      minor = number_later layout.order 2 6 xs ys (omega (arith, h))
          ∙ v.minor;
    }

version_back : (layout : Layout) (xs ys : List ℕ) → 8 ≤ length xs → IsVersion layout (xs ++ ys) → IsVersion layout xs
version_back layout xs ys h v =
    record {
      major = sym (number_later layout.order 2 4 xs ys (omega (arith, h))) ∙ v.major;
      minor = sym (number_later layout.order 2 6 xs ys (omega (arith, h))) ∙ v.minor;
    }

link_first : (layout : Layout) (xs ys : List ℕ) → 24 ≤ length xs → link_at layout (xs ++ ys) ≡ link_at layout xs
link_first layout xs ys h = ap (λ n. n % 2 ^ 16) (number_later layout.order 4 20 xs ys (omega (arith, h)))

pub header_first : (links : LinkSet) (header : FileHeader) (xs ys : List ℕ) → IsFileHeader links header xs → IsFileHeader links header (xs ++ ys)
header_first links header xs ys h =
    let size : 24 ≤ length xs = h.size in record {
      size = longer 24 xs ys size;
      magic = layout_first xs ys (omega (arith, size)) ∙ h.magic;
      version = version_first header.layout xs ys (omega (arith, size)) h.version;
      link = h.link ∙ sym (link_first header.layout xs ys size);
      lawful = h.lawful;
    }

some_same : (a b : Layout) → ◌≡◌ {A = Option Layout} (Some a) (Some b) → a ≡ b
some_same a b h = cc

some_none : (a : Layout) → ◌≡◌ {A = Option Layout} (Some a) None → ⊥
some_none a h = cc

one_layout : (a b : Layout) (bytes : List ℕ) → layout_of bytes ≡ Some a → layout_of bytes ≡ Some b → a ≡ b
one_layout a b bytes p q = some_same a b (sym p ∙ q)

same_header : (layout layout' : Layout) (link link' : ℕ) → layout ≡ layout' → link ≡ link'
    → ◌≡◌ {A = FileHeader} (record { layout = layout; link = link }) (record { layout = layout'; link = link' })
same_header layout layout' link link' p q = cc

-- a file has one header at most
pub one_header : (links : LinkSet) (a b : FileHeader) (bytes : List ℕ) → IsFileHeader links a bytes → IsFileHeader links b bytes → a ≡ b
one_header links a b bytes p q =
    let same : a.layout ≡ b.layout = one_layout a.layout b.layout bytes p.magic q.magic in
    same_header a.layout b.layout a.link b.link same (p.link ∙ ap (λ layout. link_at layout bytes) same ∙ sym q.link)

-- a fault of the header stays
pub header_fault_first : (links : LinkSet) (xs ys : List ℕ) (fault : PcapFault) → HasHeaderFault links xs fault → HasHeaderFault links (xs ++ ys) fault
header_fault_first links xs ys BadMagic h = let size : 4 ≤ length xs = h.size in
    record { size = longer 4 xs ys size; magic = layout_first xs ys size ∙ h.magic }
header_fault_first links xs ys BadVersion h =
    let size : 8 ≤ length xs = h.size in record {
      size = longer 8 xs ys size;
      layout = h.layout;
      magic = layout_first xs ys (omega (arith, size)) ∙ h.magic;
      version = λ v. h.version (version_back h.layout xs ys size v);
    }
header_fault_first links xs ys BadLink h =
    let size : 24 ≤ length xs = h.size in record {
      size = longer 24 xs ys size;
      layout = h.layout;
      magic = layout_first xs ys (omega (arith, size)) ∙ h.magic;
      version = version_first h.layout xs ys (omega (arith, size)) h.version;
      link = ap (is_link links) (link_first h.layout xs ys size) ∙ h.link;
    }
header_fault_first links xs ys (FrameTooLong k) h = absurd h
header_fault_first links xs ys (Cut k) h = absurd h
header_fault_first links xs ys TooManyBytes h = absurd h
header_fault_first links xs ys Memory h = absurd h

-- no header with a fault is a header
pub no_header : (links : LinkSet) (header : FileHeader) (bytes : List ℕ) (fault : PcapFault) → HasHeaderFault links bytes fault
    → IsFileHeader links header bytes → ⊥
no_header links header bytes BadMagic h is = some_none header.layout (sym is.magic ∙ h.magic)
no_header links header bytes BadVersion h is =
    h.version (subst (λ (l : Layout). IsVersion l bytes) (one_layout header.layout h.layout bytes is.magic h.magic) is.version)
no_header links header bytes BadLink h is =
    true≢false (sym is.lawful ∙ ap (is_link links) (is.link ∙ ap (λ layout. link_at layout bytes) (one_layout header.layout h.layout bytes is.magic h.magic))
    ∙ h.link)
no_header links header bytes (FrameTooLong k) h is = h
no_header links header bytes (Cut k) h is = h
no_header links header bytes TooManyBytes h is = h
no_header links header bytes Memory h is = h

-- a header has one fault at most
pub one_header_fault : (links : LinkSet) (bytes : List ℕ) (a b : PcapFault) → HasHeaderFault links bytes a → HasHeaderFault links bytes b → a ≡ b
one_header_fault links bytes BadMagic BadMagic p q = refl
one_header_fault links bytes BadMagic BadVersion p q = absurd (some_none q.layout (sym q.magic ∙ p.magic))
one_header_fault links bytes BadMagic BadLink p q = absurd (some_none q.layout (sym q.magic ∙ p.magic))
one_header_fault links bytes BadVersion BadMagic p q = absurd (some_none p.layout (sym p.magic ∙ q.magic))
one_header_fault links bytes BadVersion BadVersion p q = refl
one_header_fault links bytes BadVersion BadLink p q =
    absurd (p.version (subst (λ (l : Layout). IsVersion l bytes) (one_layout q.layout p.layout bytes q.magic p.magic) q.version))
one_header_fault links bytes BadLink BadMagic p q = absurd (some_none p.layout (sym p.magic ∙ q.magic))
one_header_fault links bytes BadLink BadVersion p q =
    absurd (q.version (subst (λ (l : Layout). IsVersion l bytes) (one_layout p.layout q.layout bytes p.magic q.magic) p.version))
one_header_fault links bytes BadLink BadLink p q = refl
one_header_fault links bytes (FrameTooLong k) b p q = absurd p
one_header_fault links bytes (Cut k) b p q = absurd p
one_header_fault links bytes TooManyBytes b p q = absurd p
one_header_fault links bytes Memory b p q = absurd p
one_header_fault links bytes BadMagic (FrameTooLong k) p q = absurd q
one_header_fault links bytes BadMagic (Cut k) p q = absurd q
one_header_fault links bytes BadMagic TooManyBytes p q = absurd q
one_header_fault links bytes BadMagic Memory p q = absurd q
one_header_fault links bytes BadVersion (FrameTooLong k) p q = absurd q
one_header_fault links bytes BadVersion (Cut k) p q = absurd q
one_header_fault links bytes BadVersion TooManyBytes p q = absurd q
one_header_fault links bytes BadVersion Memory p q = absurd q
one_header_fault links bytes BadLink (FrameTooLong k) p q = absurd q
one_header_fault links bytes BadLink (Cut k) p q = absurd q
one_header_fault links bytes BadLink TooManyBytes p q = absurd q
one_header_fault links bytes BadLink Memory p q = absurd q

-- a fault that bytes show is one of their header, or a record that is too long
pub shown_by_header : (scope : Scope) (bytes : List ℕ) (fault : PcapFault) → HasHeaderFault scope.links bytes fault → Shows scope bytes fault
shown_by_header scope bytes BadMagic h = h
shown_by_header scope bytes BadVersion h = h
shown_by_header scope bytes BadLink h = h
shown_by_header scope bytes (FrameTooLong k) h = absurd h
shown_by_header scope bytes (Cut k) h = absurd h
shown_by_header scope bytes TooManyBytes h = absurd h
shown_by_header scope bytes Memory h = absurd h

pub shown : (scope : Scope) (bytes : List ℕ) (fault : PcapFault) → Shows scope bytes fault → HasHeaderFault scope.links bytes fault
    ⊎ ((k : ℕ) × (fault ≡ FrameTooLong k) × HasLongFrame scope k bytes)
shown scope bytes BadMagic h = inl h
shown scope bytes BadVersion h = inl h
shown scope bytes BadLink h = inl h
shown scope bytes (FrameTooLong k) h = inr (k, refl, h)
shown scope bytes (Cut k) h = absurd h
shown scope bytes TooManyBytes h = absurd h
shown scope bytes Memory h = absurd h

-- how far a header goes
pub data Header (links : LinkSet) (bytes : List ℕ) : Type 0 where
  Whole : (header : FileHeader) → head_of links bytes ≡ Stands header → IsFileHeader links header bytes → Header links bytes
  False : (fault : PcapFault) → head_of links bytes ≡ Faulty fault → HasHeaderFault links bytes fault → Header links bytes
  Begun : head_of links bytes ≡ Short → length bytes < 24 → ((fault : PcapFault) → HasHeaderFault links bytes fault → ⊥) → Header links bytes

pub not_below : (n m : ℕ) → m ≤ n → nat_lt n m ≡ false
not_below n m h = lt_false n m (λ less. omega (arith, less, h))

not_same : (n m : ℕ) → (n ≡ m → ⊥) → (n == m) ≡ false
not_same n m h = grind (arith, nat_tests)

-- what is shown of a header, by its length and its magic
pub head_few : (links : LinkSet) (bytes : List ℕ) → length bytes < 4 → head_of links bytes ≡ Short
unfolding head_of
head_few links bytes h = rw (lt_true (length bytes) 4 h) refl

head_by : (links : LinkSet) (bytes : List ℕ) (layout : Option Layout) → 4 ≤ length bytes → layout_of bytes ≡ layout
    → head_of links bytes ≡ by_layout links layout bytes
unfolding head_of
head_by links bytes layout h magic = rw (not_below (length bytes) 4 h) (ap (λ (l : Option Layout). by_layout links l bytes) magic)

-- while fewer bytes than a header's are there
begun : (links : LinkSet) (bytes : List ℕ) → head_of links bytes ≡ Short → length bytes < 24 → (4 ≤ length bytes → layout_of bytes ≡ None → ⊥)
    → (8 ≤ length bytes → (layout : Layout) → layout_of bytes ≡ Some layout → IsVersion layout bytes) → Header links bytes
begun links bytes is short magic version = Begun is short (λ fault h. none fault h) where
  none : (fault : PcapFault) → HasHeaderFault links bytes fault → ⊥
  none BadMagic h = magic h.size h.magic
  none BadVersion h = h.version (version h.size h.layout h.magic)
  none BadLink h = let size : 24 ≤ length bytes = h.size in omega (arith, size, short)
  none (FrameTooLong k) h = h
  none (Cut k) h = h
  none TooManyBytes h = h
  none Memory h = h

version_case : (layout : Layout) (bytes : List ℕ) → (IsVersion layout bytes × (is_version layout bytes ≡ true))
    ⊎ ((IsVersion layout bytes → ⊥) × (is_version layout bytes ≡ false))
version_case layout bytes = elim (cases_eq (number_in layout.order 2 (drop 4 bytes)) 2) [
  | inl major ↦ elim (cases_eq (number_in layout.order 2 (drop 6 bytes)) 4) [
    | inl minor ↦ inl (record { major = major; minor = minor }, rw (major, minor) refl)
    | inr minor ↦ inr ((λ v. minor v.minor), rw (major, not_same (number_in layout.order 2 (drop 6 bytes)) 4 minor) refl)
  ]
  | inr major ↦ inr ((λ v. major v.major), rw (not_same (number_in layout.order 2 (drop 4 bytes)) 2 major) refl)
]

by_lawful : (links : LinkSet) (layout : Layout) (bytes : List ℕ) (lawful : Bool) → head_of links bytes ≡ by_link links layout bytes → 24 ≤ length bytes
    → layout_of bytes ≡ Some layout → IsVersion layout bytes → is_link links (link_at layout bytes) ≡ lawful → Header links bytes
by_lawful links layout bytes true is size magic version link =
    Whole (record { layout = layout; link = link_at layout bytes }) (is ∙ rw (not_below (length bytes) 24 size, link) refl)
    (record { size = size; magic = magic; version = version; link = refl; lawful = link })
by_lawful links layout bytes false is size magic version link =
    False BadLink (is ∙ rw (not_below (length bytes) 24 size, link) refl)
    (record { size = size; layout = layout; magic = magic; version = version; link = link })

with_version : (links : LinkSet) (layout : Layout) (bytes : List ℕ) → head_of links bytes ≡ by_link links layout bytes → 8 ≤ length bytes
    → layout_of bytes ≡ Some layout → IsVersion layout bytes → Header links bytes
with_version links layout bytes is size magic version = elim (cases_lt (length bytes) 24) [
  | inl short ↦ begun links bytes (is ∙ rw (lt_true (length bytes) 24 short) refl) short (λ _ none. some_none layout (sym magic ∙ none))
      (λ _ other same. subst (λ (l : Layout). IsVersion l bytes) (one_layout layout other bytes magic same) version)
  | inr whole ↦ by_lawful links layout bytes (is_link links (link_at layout bytes)) is whole magic version refl
]

with_magic : (links : LinkSet) (layout : Layout) (bytes : List ℕ) → 4 ≤ length bytes → layout_of bytes ≡ Some layout → Header links bytes
with_magic links layout bytes size magic = elim (cases_lt (length bytes) 8) [
  | inl short ↦ begun links bytes (head_by links bytes (Some layout) size magic ∙ rw (lt_true (length bytes) 8 short) refl) (omega (arith, short))
      (λ _ none. some_none layout (sym magic ∙ none)) (λ large other is. absurd (omega (arith, short, large)))
  | inr large ↦ elim (version_case layout bytes) [
    | inl version ↦ with_version links layout bytes
        (head_by links bytes (Some layout) size magic ∙ rw (not_below (length bytes) 8 large, version.1) refl) large magic version.0
    | inr version ↦ False BadVersion (head_by links bytes (Some layout) size magic ∙ rw (not_below (length bytes) 8 large, version.1) refl)
        (record { size = large; layout = layout; magic = magic; version = version.0 })
  ]
]

by_magic : (links : LinkSet) (bytes : List ℕ) (found : Option Layout) → 4 ≤ length bytes → layout_of bytes ≡ found → Header links bytes
by_magic links bytes None size magic = False BadMagic (head_by links bytes None size magic) (record { size = size; magic = magic })
by_magic links bytes (Some layout) size magic = with_magic links layout bytes size magic

pub header_of : (links : LinkSet) (bytes : List ℕ) → Header links bytes
header_of links bytes = elim (cases_lt (length bytes) 4) [
  | inl short ↦ begun links bytes (head_few links bytes short) (omega (arith, short)) (λ large. absurd (omega (arith, short, large)))
      (λ large. absurd (omega (arith, short, large)))
  | inr size ↦ by_magic links bytes (layout_of bytes) size refl
]
