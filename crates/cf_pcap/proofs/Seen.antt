-- The bytes of a stream that count.
use Rattle.std.proofs.Common.{◌≡◌, ◌⊎◌, inl, inr, ℕ, ◌+◌, ◌-◌, ◌^◌, List, [], ◌∷◌, ◌++◌, length, take, refl, sym, ap, subst, ◌∙◌, arith, append_assoc, append-nil, length-append}
use Rattle.std.proofs.lemmas.List.{take_all, take-append-le}
use Rattle.cf_row.proofs.Lists.{take_past}
use Rattle.cf_pcap.specs.declared.limit.Length.{Length}
use Rattle.cf_pcap.specs.declared.limit.Length.TheVariants.{Limited, Any}
use Rattle.cf_pcap.specs.Limits.{IsShort, IsLong, IsAtLimit}
use Rattle.cf_pcap.specs.Format.{seen}
use Rattle.cf_pcap.specs.Streams.{early}
use Rattle.cf_pcap.proofs.Limits.{short_or_long, limit_long}

pub seen_short : (l : Length) (file : List ℕ) → IsShort l (length file) → seen l file ≡ file
unfolding seen
seen_short Limited file h = take_all (2 ^ 32) file (omega (arith, h))
seen_short Any file h = refl

pub early_short : (l : Length) (file : List ℕ) → IsShort l (length file) → early l file ≡ file
unfolding early
early_short Limited file h = take_all (2 ^ 32 - 1) file (omega (arith, h))
early_short Any file h = refl

pub seen_full : (l : Length) (file more : List ℕ) → IsLong l (length file) → seen l (file ++ more) ≡ seen l file
unfolding seen
seen_full Limited file more h = take-append-le (2 ^ 32) file more h
seen_full Any file more h = absurd h

pub early_full : (l : Length) (file more : List ℕ) → IsLong l (length file + 1) → early l (file ++ more) ≡ early l file
unfolding early
early_full Limited file more h = take-append-le (2 ^ 32 - 1) file more (omega (arith, h))
early_full Any file more h = absurd h

pub early_more : (l : Length) (file more : List ℕ) → IsShort l (length file) → (after : List ℕ) × (early l (file ++ more) ≡ file ++ after)
unfolding early
early_more Limited file more h = (take (2 ^ 32 - 1 - length file) more, take_past (2 ^ 32 - 1) file more (omega (arith, h)))
early_more Any file more h = (more, refl)

short_more : (l : Length) (file more : List ℕ) → IsShort l (length file) → (after : List ℕ) × (seen l (file ++ more) ≡ file ++ after)
unfolding seen
short_more Limited file more h = (take (2 ^ 32 - length file) more, take_past (2 ^ 32) file more (omega (arith, h)))
short_more Any file more h = (more, refl)

pub seen_more : (l : Length) (file more : List ℕ) → (after : List ℕ) × (seen l (file ++ more) ≡ seen l file ++ after)
seen_more l file more = elim (short_or_long l (length file)) [
  | inl short ↦ let more_is = short_more l file more short in (more_is.0, more_is.1 ∙ ap (λ xs. xs ++ more_is.0) (sym (seen_short l file short)))
  | inr full ↦ ([], seen_full l file more full ∙ sym (append-nil (seen l file)))
]

seen_limit : (l : Length) (file : List ℕ) → IsAtLimit l (length file) → seen l file ≡ file
unfolding seen
seen_limit Limited file h = take_all (2 ^ 32) file (omega (arith, h))
seen_limit Any file h = absurd h

-- a byte that makes the stream just too long is the last that counts
pub seen_last : (l : Length) (file more : List ℕ) (byte : ℕ) → IsAtLimit l (length file + 1) → seen l (file ++ (byte ∷ more)) ≡ file ++ (byte ∷ [])
seen_last l file more byte h =
    let len : length (file ++ (byte ∷ [])) ≡ length file + 1 = length-append file (byte ∷ []) in
    let whole : IsAtLimit l (length (file ++ (byte ∷ []))) = subst (λ n. IsAtLimit l n) (sym len) h in
    ap (seen l) (sym (append_assoc file (byte ∷ []) more))
    ∙ seen_full l (file ++ (byte ∷ [])) more (limit_long l (length (file ++ (byte ∷ []))) whole)
    ∙ seen_limit l (file ++ (byte ∷ [])) whole
