-- How long a file may be, and how what comes in it is counted.
use Rattle.std.specs.Prelude.{◌≡◌, ℕ, ◌+◌, ◌-◌, ◌^◌, ◌<◌, ◌≤◌, max, min, List, [], take, drop}
use Rattle.cf_pcap.specs.declared.limit.Length.{Length}
use Rattle.cf_pcap.specs.declared.limit.Length.TheVariants.{Limited, Any}

-- so many bytes are few enough: below 2^32, or any number
abbrev pub IsShort : Length → ℕ → Type 0
IsShort Limited n = n < 2 ^ 32
IsShort Any n = Unit {0}

-- so many bytes are too many: 2^32 or more, or no number
abbrev pub IsLong : Length → ℕ → Type 0
IsLong Limited n = 2 ^ 32 ≤ n
IsLong Any n = ⊥

-- so many bytes are just one too many
abbrev pub IsAtLimit : Length → ℕ → Type 0
IsAtLimit Limited n = n ≡ 2 ^ 32
IsAtLimit Any n = ⊥

-- so many bytes may be taken: 2^32, the last of which comes too late for an item, or any number
abbrev pub HasRoom : Length → ℕ → Type 0
HasRoom Limited n = n ≤ 2 ^ 32
HasRoom Any n = Unit {0}

-- the first bytes of a piece: so many at most where a stream's bytes are limited, and all where any number may come
abbrev pub first_of : Length → ℕ → List ℕ → List ℕ
first_of Limited most piece = take most piece
first_of Any most piece = piece

-- and the others
abbrev pub others_of : Length → ℕ → List ℕ → List ℕ
others_of Limited most piece = drop most piece
others_of Any most piece = []

-- the count of a stream's bytes, after so many and n more. Where any number may come, they are not counted.
abbrev pub total_on : Length → ℕ → ℕ → ℕ
total_on Limited total n = total + n
total_on Any total n = total

-- this is the count of so many bytes
abbrev pub IsTotal : Length → ℕ → ℕ → Type 0
IsTotal Limited total n = total ≡ n
IsTotal Any total n = Unit {0}

-- the number that stands n after k. Where any number of bytes may come, none stands after 2^53 - 1.
abbrev pub count_on : Length → ℕ → ℕ → ℕ
count_on Limited k n = k + n
count_on Any k n = max k (min (k + n) (2 ^ 53 - 1))

-- the number by which so many items are told: the lesser of their count and 2^53 - 1, where any number of bytes may come
abbrev pub number_of : Length → ℕ → ℕ
number_of Limited n = n
number_of Any n = min n (2 ^ 53 - 1)

-- the number, of 32 bits, that a frame has after so many others: the lesser of their count and 2^32 - 1, where any number of bytes may come
abbrev pub num_of : Length → ℕ → ℕ
num_of Limited k = k
num_of Any k = min k (2 ^ 32 - 1)
