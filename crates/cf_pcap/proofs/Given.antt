-- The items that a stream gives.
use Rattle.std.proofs.Common.{◌≡◌, inl, inr, ℕ, ◌+◌, List, ◌++◌, length, refl, sym, subst, arith}
use Rattle.cf_pcap.specs.Limits.{IsShort, IsLong}
use Rattle.cf_pcap.specs.Format.{Format, ReadsTo, Shows, seen, IsFound}
use Rattle.cf_pcap.specs.Streams.{IsStepper, early, AreGiven, OneGift}
use Rattle.cf_pcap.proofs.FormatUnits.{NoUnit, reads_more, one_read, wants_none, bad_none, End, More, Fault, end_of}
use Rattle.cf_pcap.proofs.Limits.{short_or_long, long_more}
use Rattle.cf_pcap.proofs.Seen.{seen_short, early_short, early_more, early_full}
use Rattle.cf_pcap.proofs.Cases.{shows_more}

pub given_of : {S I F : Type 0} (f : Format S I F) (stream bytes : List ℕ) (items : List I) (t : S) (rest : List ℕ) → early f.length stream ≡ bytes
    → ReadsTo f f.start bytes items t rest → NoUnit f t rest → AreGiven f stream items
given_of f stream bytes items t rest same read none =
    record { last = t; rest = rest; read = subst (λ (xs : List ℕ). ReadsTo f f.start xs items t rest) (sym same) read; none = none }

some_given : {S I F : Type 0} (f : Format S I F) (stream : List ℕ) → End f f.start (early f.length stream) → (items : List I) × AreGiven f stream items
some_given f stream (More items t rest read wants) = (items, given_of f stream (early f.length stream) items t rest refl read (wants_none f t rest wants))
some_given f stream (Fault items t rest fault read bad) =
    (items, given_of f stream (early f.length stream) items t rest refl read (bad_none f t rest fault bad))

pub one_given : {S I F : Type 0} (f : Format S I F) (stream : List ℕ) (a b : List I) → AreGiven f stream a → AreGiven f stream b → a ≡ b
one_given f stream a b p q = (one_read f f.start (early f.length stream) a b p.last p.rest q.last q.rest p.read q.read p.none q.none).items

pub one_gift : {S I F : Type 0} (f : Format S I F) (is : IsStepper f) (stream : List ℕ) → OneGift f stream
one_gift f is stream = record { some = some_given f stream (end_of f is f.start (early f.length stream)); one = one_given f stream }

-- a long stream has given all its items
long_gives : {S I F : Type 0} (f : Format S I F) (is : IsStepper f) (stream more : List ℕ) → IsLong f.length (length stream) → (items : List I)
    × AreGiven f stream items × AreGiven f (stream ++ more) items
long_gives f is stream more size =
    let all = some_given f stream (end_of f is f.start (early f.length stream)) in
    let same : early f.length (stream ++ more) ≡ early f.length stream =
    early_full f.length stream more (long_more f.length (length stream) (length stream + 1) (omega arith) size) in
    (all.0, all.1, given_of f (stream ++ more) (early f.length stream) all.0 all.1.last all.1.rest same all.1.read all.1.none)

short_gives : {S I F : Type 0} (f : Format S I F) (is : IsStepper f) (stream more : List ℕ) (fault : F) → IsShort f.length (length stream)
    → Shows f (seen f.length stream) fault
    → (items : List I) × AreGiven f stream items × AreGiven f (stream ++ more) items
short_gives f is stream more fault size h =
    let all : seen f.length stream ≡ stream = seen_short f.length stream size in
    let late = early_more f.length stream more size in
    let now : Shows f stream fault = subst (λ (xs : List ℕ). Shows f xs fault) all h in
    let later : Shows f (stream ++ late.0) fault = shows_more f is stream (late.0) fault now in
    let rest : List ℕ = now.rest ++ late.0 in (
      now.items,
      given_of f stream stream now.items now.last now.rest (early_short f.length stream size) now.read (bad_none f now.last now.rest fault now.bad),
      given_of f (stream ++ more) (stream ++ late.0) now.items now.last rest late.1
          (reads_more f is f.start stream now.items now.last now.rest (late.0) now.read)
          (bad_none f now.last rest fault (is.bad_stays now.last now.rest (late.0) fault now.bad)),
    )

-- after a fault no item is given
pub found_gives : {S I F : Type 0} (f : Format S I F) (is : IsStepper f) (stream more : List ℕ) (fault : F) → IsFound f stream fault → (items : List I)
    × AreGiven f stream items × AreGiven f (stream ++ more) items
found_gives f is stream more fault (inr h) = long_gives f is stream more h.1.size
found_gives f is stream more fault (inl h) = elim (short_or_long f.length (length stream)) [
  | inl size ↦ short_gives f is stream more fault size h
  | inr size ↦ long_gives f is stream more size
]
