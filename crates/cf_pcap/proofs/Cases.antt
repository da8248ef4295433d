-- Each file is in one case.
use Rattle.std.proofs.Common.{◌≡◌, ◌⊎◌, inl, inr, ℕ, ◌<◌, ◌+◌, Bool, true, false, List, [], ◌++◌, length, refl, sym, ap, subst, ◌∙◌, arith, length-append}
use Rattle.std.proofs.lemmas.Bool.{cases_eq}
use Rattle.std.proofs.lemmas.List.{nil_from_length}
use Rattle.cf_pcap.specs.Limits.{IsShort, IsLong}
use Rattle.cf_pcap.specs.Format.{Wants, Format, ReadsTo, IsWhole, Shows, seen, IsCut, IsFound, HasFault, OneCase}
use Rattle.cf_pcap.specs.Streams.{IsStepper}
use Rattle.cf_pcap.proofs.FormatUnits.{NoUnit, reads_more, one_read, wants_none, bad_none, bad_same, wants_bad, End, More, Fault, end_of}
use Rattle.cf_pcap.proofs.Limits.{short_or_long, not_both, long_more}
use Rattle.cf_pcap.proofs.Seen.{seen_short, seen_full, seen_more}

-- a fault that was found stays, whatever comes
pub shows_more : {S I F : Type 0} (f : Format S I F) (is : IsStepper f) (bytes more : List ℕ) (fault : F) → Shows f bytes fault → Shows f (bytes ++ more) fault
shows_more f is bytes more fault h = record {
  items = h.items;
  last = h.last;
  rest = h.rest ++ more;
  read = reads_more f is f.start bytes h.items h.last h.rest more h.read;
  bad = is.bad_stays h.last h.rest more fault h.bad;
}

pub seen_shows : {S I F : Type 0} (f : Format S I F) (is : IsStepper f) (file more : List ℕ) (fault : F) → Shows f (seen f.length file) fault
    → Shows f (seen f.length (file ++ more)) fault
seen_shows {S} {I} {F} f is file more fault h =
    let after = seen_more f.length file more in
    subst (λ (xs : List ℕ). Shows f xs fault) (sym after.1) (shows_more f is (seen f.length file) after.0 fault h)

pub found_more : {S I F : Type 0} (f : Format S I F) (is : IsStepper f) (file more : List ℕ) (fault : F) → IsFound f file fault → IsFound f (file ++ more) fault
found_more f is file more fault (inl h) = inl (seen_shows f is file more fault h)
found_more f is file more fault (inr h) =
    let size : IsLong f.length (length file) = h.1.size in
    let len : length (file ++ more) ≡ length file + length more = length-append file more in
    inr (
      h.0,
      record {
        size = long_more f.length (length file) (length (file ++ more)) (omega (arith, len)) size;
        first = λ other shows. h.1.first other (subst (λ (xs : List ℕ). Shows f xs other) (seen_full f.length file more size) shows);
      },
    )

-- bytes show one fault at most
pub one_shown : {S I F : Type 0} (f : Format S I F) (bytes : List ℕ) (a b : F) → Shows f bytes a → Shows f bytes b → a ≡ b
one_shown {S} {I} {F} f bytes a b p q =
    let same = one_read f f.start bytes p.items q.items p.last p.rest q.last q.rest p.read q.read (bad_none f p.last p.rest a p.bad)
    (bad_none f q.last q.rest b q.bad) in
    let state : p.last ≡ q.last = same.state in
    let left : p.rest ≡ q.rest = same.left in
    bad_same {S = S} {I = I} a b (sym p.bad ∙ ap (λ (x : S). f.step x p.rest) state ∙ ap (λ xs. f.step q.last xs) left ∙ q.bad)

-- bytes that were read up to the begin of a unit show no fault
pub none_shown : {S I F : Type 0} (f : Format S I F) (bytes : List ℕ) (items : List I) (t : S) (rest : List ℕ) → ReadsTo f f.start bytes items t rest
    → f.step t rest ≡ Wants → (fault : F) → Shows f bytes fault → ⊥
none_shown {S} {I} {F} f bytes items t rest read wants fault h =
    let same = one_read f f.start bytes items h.items t rest h.last h.rest read h.read (wants_none f t rest wants) (bad_none f h.last h.rest fault h.bad) in
    let state : t ≡ h.last = same.state in
    let left : rest ≡ h.rest = same.left in
    wants_bad {S = S} {I = I} fault (sym wants ∙ ap (λ (x : S). f.step x rest) state ∙ ap (λ xs. f.step h.last xs) left ∙ h.bad)

short_shown : {S I F : Type 0} (f : Format S I F) (file : List ℕ) (fault : F) → IsShort f.length (length file) → Shows f (seen f.length file) fault
    → Shows f file fault
short_shown f file fault size h = subst (λ (xs : List ℕ). Shows f xs fault) (seen_short f.length file size) h

-- a file that was read up to the begin of a unit has none that is found by its place
pub none_found : {S I F : Type 0} (f : Format S I F) (file : List ℕ) (items : List I) (t : S) (rest : List ℕ) → IsShort f.length (length file)
    → ReadsTo f f.start file items t rest → f.step t rest ≡ Wants → (fault : F) → IsFound f file fault → ⊥
none_found f file items t rest size read wants fault (inl h) = none_shown f file items t rest read wants fault (short_shown f file fault size h)
none_found f file items t rest size read wants fault (inr h) = not_both f.length (length file) size h.1.size

whole_wants : {S I F : Type 0} (f : Format S I F) (is : IsStepper f) (file : List ℕ) (items : List I) (whole : IsWhole f file items) → NoUnit f whole.last []
whole_wants f is file items whole = wants_none f whole.last [] (is.nothing whole.last)

both_ends : (b : Bool) → b ≡ true → b ≡ false → ⊥
both_ends b p q = cc

cut_is_none : {S I F : Type 0} (f : Format S I F) (is : IsStepper f) (file : List ℕ) (items : List I) (last : S) → IsWhole f file items → IsCut f file last → ⊥
cut_is_none {S} f is file items last whole cut =
    let same = one_read f f.start file items cut.items whole.last [] last cut.rest whole.read cut.read (whole_wants f is file items whole)
    (wants_none f last cut.rest cut.part) in
    let state : whole.last ≡ last = same.state in
    let left : [] ≡ cut.rest = same.left in
    elim cut.left [
      | inl some ↦ let none : 0 ≡ length cut.rest = ap length left in omega (arith, some, none)
      | inr within ↦ both_ends (f.may_end last) (ap f.may_end (sym state) ∙ whole.ends) within
    ]

found_is_none : {S I F : Type 0} (f : Format S I F) (is : IsStepper f) (file : List ℕ) (items : List I) (fault : F) → IsWhole f file items
    → IsFound f file fault → ⊥
found_is_none f is file items fault whole found = none_found f file items whole.last [] whole.size whole.read (is.nothing whole.last) fault found

pub either : {S I F : Type 0} (f : Format S I F) (is : IsStepper f) (file : List ℕ) (items : List I) (fault : F) → IsWhole f file items
    → HasFault f file fault → ⊥
either f is file items fault whole (inl found) = found_is_none f is file items fault whole found
either f is file items fault whole (inr cut) = cut_is_none f is file items cut.0 whole cut.2

pub one_whole : {S I F : Type 0} (f : Format S I F) (is : IsStepper f) (file : List ℕ) (a b : List I) → IsWhole f file a → IsWhole f file b → a ≡ b
one_whole f is file a b p q = (one_read f f.start file a b p.last [] q.last [] p.read q.read (whole_wants f is file a p) (whole_wants f is file b q)).items

cut_not_found : {S I F : Type 0} (f : Format S I F) (file : List ℕ) (last : S) (fault : F) → IsCut f file last → IsFound f file fault → ⊥
cut_not_found f file last fault cut found = none_found f file cut.items last cut.rest cut.size cut.read cut.part fault found

one_cut : {S I F : Type 0} (f : Format S I F) (file : List ℕ) (a b : S) → IsCut f file a → IsCut f file b → a ≡ b
one_cut f file a b p q =
    (one_read f f.start file p.items q.items a p.rest b q.rest p.read q.read (wants_none f a p.rest p.part) (wants_none f b q.rest q.part)).state

pub one_found : {S I F : Type 0} (f : Format S I F) (file : List ℕ) (a b : F) → IsFound f file a → IsFound f file b → a ≡ b
one_found f file a b (inl p) (inl q) = one_shown f (seen f.length file) a b p q
one_found f file a b (inl p) (inr q) = absurd (q.1.first a p)
one_found f file a b (inr p) (inl q) = absurd (p.1.first b q)
one_found f file a b (inr p) (inr q) = p.0 ∙ sym q.0

pub one_fault : {S I F : Type 0} (f : Format S I F) (file : List ℕ) (a b : F) → HasFault f file a → HasFault f file b → a ≡ b
one_fault f file a b (inl p) (inl q) = one_found f file a b p q
one_fault f file a b (inl p) (inr q) = absurd (cut_not_found f file q.0 a q.2 p)
one_fault f file a b (inr p) (inl q) = absurd (cut_not_found f file p.0 b p.2 q)
one_fault f file a b (inr p) (inr q) = p.1 ∙ ap f.cut (one_cut f file p.0 q.0 p.2 q.2) ∙ sym q.1

bool_cases : (b : Bool) → (b ≡ true) ⊎ (b ≡ false)
bool_cases true = inl refl
bool_cases false = inr refl

pub whole_of : {S I F : Type 0} (f : Format S I F) (file : List ℕ) (items : List I) (t : S) (rest : List ℕ) → IsShort f.length (length file)
    → ReadsTo f f.start file items t rest → rest ≡ [] → f.may_end t ≡ true → IsWhole f file items
whole_of f file items t rest size read end ends =
    record { size = size; last = t; read = subst (λ (xs : List ℕ). ReadsTo f f.start file items t xs) end read; ends = ends }

pub cut_of : {S I F : Type 0} (f : Format S I F) (file : List ℕ) (items : List I) (t : S) (rest : List ℕ) → IsShort f.length (length file)
    → ReadsTo f f.start file items t rest → f.step t rest ≡ Wants → (0 < length rest) ⊎ (f.may_end t ≡ false) → IsCut f file t
cut_of f file items t rest size read wants left = record { size = size; items = items; rest = rest; read = read; part = wants; left = left }

short_case : {S I F : Type 0} (f : Format S I F) (file : List ℕ) → IsShort f.length (length file) → End f f.start file
    → ((items : List I) × IsWhole f file items)
    ⊎ ((fault : F) × HasFault f file fault)
short_case f file size (Fault items t rest fault read bad) =
    inr (
      fault,
      inl
          (inl (subst (λ (xs : List ℕ). Shows f xs fault) (sym (seen_short f.length file size))
          (record { items = items; last = t; rest = rest; read = read; bad = bad }))),
    )
short_case f file size (More items t rest read wants) = elim (cases_eq (length rest) 0) [
  | inl end ↦ elim (bool_cases (f.may_end t)) [
    | inl ends ↦ inl (items, whole_of f file items t rest size read (nil_from_length rest end) ends)
    | inr within ↦ inr (f.cut t, inr (t, refl, cut_of f file items t rest size read wants (inr within)))
  ]
  | inr left ↦ inr (f.cut t, inr (t, refl, cut_of f file items t rest size read wants (inl (omega (arith, left)))))
]

large_case : {S I F : Type 0} (f : Format S I F) (file : List ℕ) → IsLong f.length (length file) → End f f.start (seen f.length file)
    → ((items : List I) × IsWhole f file items) ⊎ ((fault : F) × HasFault f file fault)
large_case f file size (Fault items t rest fault read bad) = inr (fault, inl (inl (record { items = items; last = t; rest = rest; read = read; bad = bad })))
large_case f file size (More items t rest read wants) =
    inr (f.too_many, inl (inr (refl, record { size = size; first = none_shown f (seen f.length file) items t rest read wants })))

some_case : {S I F : Type 0} (f : Format S I F) (is : IsStepper f) (file : List ℕ) → ((items : List I) × IsWhole f file items)
    ⊎ ((fault : F) × HasFault f file fault)
some_case f is file = elim (short_or_long f.length (length file)) [
  | inl size ↦ short_case f file size (end_of f is f.start file)
  | inr size ↦ large_case f file size (end_of f is f.start (seen f.length file))
]

-- each file is in one case
pub one_case : {S I F : Type 0} (f : Format S I F) (is : IsStepper f) (file : List ℕ) → OneCase f file
one_case f is file = record { some = some_case f is file; either = either f is file; one_whole = one_whole f is file; one_fault = one_fault f file }
