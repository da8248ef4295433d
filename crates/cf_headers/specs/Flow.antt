-- The number of a conversation: a hash of its endpoints and its protocol, the same for both directions.
use Rattle.std.specs.Prelude.{◌≡◌, ℕ, ◌*◌, ◌%◌, ◌^◌, Bool, List, [], ◌∷◌, ◌++◌, if◌then◌else◌, bit_xor, fold}
use Rattle.std.specs.Ordering.{nat_cmp, is_gt}
use Rattle.std.specs.Cmp.Lexicographic.{slice_cmp}

-- FNV-1a of 64 bits (draft-eastlake-fnv, section 2): for each byte, first the exclusive or with it and then the product with the prime
abbrev pub fnv_step : ℕ → ℕ → ℕ
fnv_step hash byte = bit_xor hash byte * 0x100000001b3 % 2 ^ 64

-- from the offset basis
unfoldable pub fnv : List ℕ → ℕ
fnv bytes = fold fnv_step 0xcbf29ce484222325 bytes

-- the first byte string is the greater one: it has the greater byte where they first differ
abbrev pub is_above : List ℕ → List ℕ → Bool
is_above a b = is_gt (slice_cmp nat_cmp a b)

-- of two byte strings the lesser and the greater one
abbrev pub lesser : List ℕ → List ℕ → List ℕ
lesser a b = if is_above a b then b else a

abbrev pub greater : List ℕ → List ℕ → List ℕ
greater a b = if is_above a b then a else b

-- the flow between two endpoints, each the 16 bytes of an address and the two of a port, of packets with a protocol
unfoldable pub flow_of : List ℕ → List ℕ → ℕ → ℕ
flow_of a b protocol = fnv (lesser a b ++ (greater a b ++ (protocol ∷ [])))

-- it is the same for both directions
abbrev pub HasOneFlow : Type 0
HasOneFlow = (a b : List ℕ) (protocol : ℕ) → flow_of a b protocol ≡ flow_of b a protocol
