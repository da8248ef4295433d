-- What holds of both lengths.
use Rattle.std.proofs.Common.{◌≡◌, ◌⊎◌, inl, ℕ, ◌≤◌, ◌+◌, ◌^◌, ◌∙◌, arith}
use Rattle.std.proofs.lemmas.Bool.{cases_lt}
use Rattle.cf_pcap.specs.declared.limit.Length.{Length}
use Rattle.cf_pcap.specs.declared.limit.Length.TheVariants.{Limited, Any}
use Rattle.cf_pcap.specs.Limits.{IsShort, IsLong, IsAtLimit, IsTotal, count_on, number_of}

pub short_or_long : (l : Length) (n : ℕ) → IsShort l n ⊎ IsLong l n
short_or_long Limited n = cases_lt n (2 ^ 32)
short_or_long Any n = inl tt

pub none_short : (l : Length) → IsShort l 0
none_short Limited = omega arith
none_short Any = tt

pub not_both : (l : Length) (n : ℕ) → IsShort l n → IsLong l n → ⊥
not_both Limited n short long = omega (arith, short, long)
not_both Any n short long = long

pub short_less : (l : Length) (m n : ℕ) → m ≤ n → IsShort l n → IsShort l m
short_less Limited m n less h = omega (arith, less, h)
short_less Any m n less h = tt

pub long_more : (l : Length) (m n : ℕ) → m ≤ n → IsLong l m → IsLong l n
long_more Limited m n less h = omega (arith, less, h)
long_more Any m n less h = h

pub limit_long : (l : Length) (n : ℕ) → IsAtLimit l n → IsLong l n
limit_long Limited n h = omega (arith, h)
limit_long Any n h = h

pub limit_after : (l : Length) (n : ℕ) → IsAtLimit l (n + 1) → IsShort l n
limit_after Limited n h = omega (arith, h)
limit_after Any n h = tt

pub total_same : (l : Length) (total n m : ℕ) → n ≡ m → IsTotal l total n → IsTotal l total m
total_same Any total n m same is = tt
total_same Limited total n m same is = is ∙ same

-- nothing more
pub count_none : (l : Length) (k : ℕ) → count_on l k 0 ≡ k
count_none Limited k = omega arith
count_none Any k = omega arith

-- some more, and then some more
pub count_sum : (l : Length) (k m n : ℕ) → count_on l (count_on l k m) n ≡ count_on l k (m + n)
count_sum Limited k m n = omega arith
count_sum Any k m n = omega arith

pub count_first : (l : Length) (n : ℕ) → count_on l 0 n ≡ number_of l n
count_first Limited n = omega arith
count_first Any n = omega arith
