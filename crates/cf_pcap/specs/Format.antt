-- Formats whose files are units end to end, as whole files.
use Rattle.std.specs.Prelude.{◌≡◌, ◌⊎◌, ℕ, ◌^◌, ◌<◌, Bool, true, false, List, [], ◌∷◌, ◌++◌, length, take, drop}
use Rattle.cf_pcap.specs.declared.limit.Length.{Length}
use Rattle.cf_pcap.specs.declared.limit.Length.TheVariants.{Limited, Any}
use Rattle.cf_pcap.specs.Limits.{IsShort, IsLong}

-- what the bytes at the front show: no whole unit yet, a fault, or a unit of so many bytes, with its items and the state
-- after it
pub data Found (S I F : Type 0) : Type 0 where
  Wants : Found S I F
  Bad : F → Found S I F
  Takes : ℕ → List I → S → Found S I F

-- a format: how long a file may be, the state at its begin, what bytes show in a state, the number of the next item in a state, whether a
-- file may end there, and the faults of a file that ends elsewhere and of one that is too long
pub record Format (S I F : Type 0) : Type 0 where
  pub length : Length
  pub start : S
  pub step : S → List ℕ → Found S I F
  pub count : S → ℕ
  pub may_end : S → Bool
  pub cut : S → F
  pub too_many : F

-- a unit that was read
pub record Part (S I : Type 0) : Type 0 where
  pub size : ℕ
  pub items : List I
  pub after : S

-- the items of all these units, in order
abbrev pub items_of : {S I : Type 0} → List (Part S I) → List I
items_of [] = []
items_of (part ∷ parts) = part.items ++ items_of parts

-- from a state the bytes are these units end to end, which lead to a state, and then the rest
abbrev pub AreUnitsThen : {S I F : Type 0} → Format S I F → S → List (Part S I) → List ℕ → S → List ℕ → Type 0
AreUnitsThen f s [] bytes t rest = (s ≡ t) × (bytes ≡ rest)
AreUnitsThen f s (part ∷ parts) bytes t rest =
    (f.step s bytes ≡ Takes part.size part.items part.after)
    × AreUnitsThen f part.after parts (drop part.size bytes) t rest

-- from a state the units of these items were read, up to a state and the rest
pub record ReadsTo {S I F : Type 0} (f : Format S I F) (s : S) (bytes : List ℕ) (items : List I) (t : S) (rest : List ℕ) : Type 0 where
  pub parts : List (Part S I)
  pub units : AreUnitsThen f s parts bytes t rest
  pub items_are : items ≡ items_of parts

-- a file that is no longer than it may be is units end to end, and nothing else
pub record IsWhole {S I F : Type 0} (f : Format S I F) (file : List ℕ) (items : List I) : Type 0 where
  pub size : IsShort f.length (length file)
  pub last : S
  pub read : ReadsTo f f.start file items last []
  pub ends : f.may_end last ≡ true

-- after some units comes a fault, whatever follows these bytes
pub record Shows {S I F : Type 0} (f : Format S I F) (bytes : List ℕ) (fault : F) : Type 0 where
  pub items : List I
  pub last : S
  pub rest : List ℕ
  pub read : ReadsTo f f.start bytes items last rest
  pub bad : f.step last rest ≡ Bad fault

-- what counts of a file: its first 2^32 bytes, or all where any number may come
unfoldable pub seen : Length → List ℕ → List ℕ
seen Limited file = take (2 ^ 32) file
seen Any file = file

-- too many bytes, 2^32 or more, and those that count show no fault
pub record HasTooManyBytes {S I F : Type 0} (f : Format S I F) (file : List ℕ) : Type 0 where
  pub size : IsLong f.length (length file)
  pub first : (fault : F) → Shows f (seen f.length file) fault → ⊥

-- a file that is no longer than it may be ends after some units where none may end, or within a unit that shows no fault
pub record IsCut {S I F : Type 0} (f : Format S I F) (file : List ℕ) (last : S) : Type 0 where
  pub size : IsShort f.length (length file)
  pub items : List I
  pub rest : List ℕ
  pub read : ReadsTo f f.start file items last rest
  pub part : f.step last rest ≡ Wants
  pub left : (0 < length rest) ⊎ (f.may_end last ≡ false)

-- a fault that is found by its place, before the end is known
abbrev pub IsFound : {S I F : Type 0} → Format S I F → List ℕ → F → Type 0
IsFound f stream fault = Shows f (seen f.length stream) fault ⊎ ((fault ≡ f.too_many) × HasTooManyBytes f stream)

-- why a file is not of the format. Each file is of it or has one fault (`OneCase`).
abbrev pub HasFault : {S I F : Type 0} → Format S I F → List ℕ → F → Type 0
HasFault {S} f file fault = IsFound f file fault ⊎ ((last : S) × (fault ≡ f.cut last) × IsCut f file last)

-- a file is whole or has a fault, never both, and of one list of items or by one fault alone
pub record OneCase {S I F : Type 0} (f : Format S I F) (file : List ℕ) : Type 0 where
  pub some : ((items : List I) × IsWhole f file items) ⊎ ((fault : F) × HasFault f file fault)
  pub either : (items : List I) (fault : F) → IsWhole f file items → HasFault f file fault → ⊥
  pub one_whole : (a b : List I) → IsWhole f file a → IsWhole f file b → a ≡ b
  pub one_fault : (a b : F) → HasFault f file a → HasFault f file b → a ≡ b
