-- What is whole of a file that ends within a unit.
use Rattle.std.proofs.Common.{◌≡◌, ◌⊎◌, inl, inr, ℕ, ◌<◌, ◌≤◌, ◌+◌, ◌-◌, ◌*◌, Bool, true, false, List, [], ◌∷◌, ◌++◌, length, take, drop, refl, sym, ap, subst, ◌∙◌, arith, append_assoc, length-append, length-drop}
use Rattle.std.proofs.lemmas.List.{drop-append-le, take-append-drop, take-append-le, take_all, nil_from_length}
use Rattle.cf_pcap.specs.Limits.{IsShort, count_on, number_of}
use Rattle.cf_pcap.proofs.Limits.{short_less, count_first}
use Rattle.cf_pcap.specs.Format.{Found, Wants, Bad, Takes, Format, Part, items_of, AreUnitsThen, ReadsTo, IsWhole, IsCut, IsFound}
use Rattle.cf_pcap.specs.Streams.{IsStepper, AreGiven, Runs}
use Rattle.cf_pcap.proofs.FormatUnits.{NoUnit, sizes, more_after, reads_count, one_read, wants_none, taken_size, taken_state}
use Rattle.cf_pcap.proofs.Cases.{none_found}
use Rattle.cf_pcap.proofs.Seen.{early_short}
use Rattle.cf_pcap.proofs.Given.{given_of}

-- a file ends within a unit, after some units of these items
pub record EndsIn {S I F : Type 0} (f : Format S I F) (file : List ℕ) (items : List I) : Type 0 where
  pub size : IsShort f.length (length file)
  pub last : S
  pub rest : List ℕ
  pub read : ReadsTo f f.start file items last rest
  pub part : f.step last rest ≡ Wants
  pub begun : f.may_end last ≡ true
  pub left : 0 < length rest

-- a file may end after each unit, and not before the first
pub record MayEnd {S I F : Type 0} (f : Format S I F) : Type 0 where
  pub start : f.may_end f.start ≡ false
  pub units : (s : S) (bytes : List ℕ) (n : ℕ) (items : List I) (t : S) → f.step s bytes ≡ Takes n items t → f.may_end t ≡ true

both : (b : Bool) → b ≡ true → b ≡ false → ⊥
both b p q = cc

wants_takes : {S I F : Type 0} (n : ℕ) (items : List I) (t : S) → ◌≡◌ {A = Found S I F} Wants (Takes n items t) → ⊥
wants_takes n items t h = cc

bad_takes : {S I F : Type 0} (fault : F) (n : ℕ) (items : List I) (t : S) → ◌≡◌ {A = Found S I F} (Bad fault) (Takes n items t) → ⊥
bad_takes fault n items t h = cc

-- a unit is what its own bytes show
takes_front : {S I F : Type 0} (f : Format S I F) (is : IsStepper f) (s : S) (front more : List ℕ) (n : ℕ) (items : List I) (t : S) (found : Found S I F)
    → f.step s front ≡ found
    → f.step s (front ++ more) ≡ Takes n items t → n ≤ length front → f.step s front ≡ Takes n items t
takes_front f is s front more n items t Wants h g fits = let late : length front < n = is.late s front more n items t h g in absurd (omega (arith, late, fits))
takes_front {S} {I} {F} f is s front more n items t (Bad fault) h g fits =
    absurd (bad_takes {S = S} {I = I} {F = F} fault n items t (sym (is.bad_stays s front more fault h) ∙ g))
takes_front f is s front more n items t (Takes m others u) h g fits = h ∙ sym (is.takes_stays s front more m others u h) ∙ g

-- what comes before the rest is units end to end, and nothing else
front_units : {S I F : Type 0} (f : Format S I F) (is : IsStepper f) (s : S) (parts : List (Part S I)) (bytes front : List ℕ) (t : S) (rest : List ℕ)
    → bytes ≡ front ++ rest → AreUnitsThen f s parts bytes t rest → AreUnitsThen f s parts front t []
front_units f is s [] bytes front t rest same h =
    let len : length (front ++ rest) ≡ length front + length rest = length-append front rest in
    let all : length (front ++ rest) ≡ length rest = ap length (sym same ∙ h.1) in
    (h.0, nil_from_length front (omega (arith, len, all)))
front_units {S} {I} {F} f is s (part ∷ parts) bytes front t rest same h =
    let most : 16 * length (items_of parts) + length rest ≤ length (drop part.size bytes) = sizes f is part.after parts (drop part.size bytes) t rest h.1 in
    let dropped : length (drop part.size bytes) ≡ length bytes - part.size = length-drop part.size bytes in
    let fits : part.size ≤ length bytes = (is.size s bytes part.size part.items part.after h.0).1 in
    let len : length bytes ≡ length front + length rest = ap length same ∙ length-append front rest in
    let small : part.size ≤ length front = omega (arith, most, dropped, fits, len) in
    let first : f.step s (front ++ rest) ≡ Takes part.size part.items part.after = ap (λ xs. f.step s xs) (sym same) ∙ h.0 in
    let left : drop part.size bytes ≡ drop part.size front ++ rest = ap (λ xs. drop part.size xs) same ∙ drop-append-le part.size front rest small in (
      takes_front f is s front rest part.size part.items part.after (f.step s front) refl first small,
      front_units f is part.after parts (drop part.size bytes) (drop part.size front) t rest left h.1,
    )

-- the rest is an end of the bytes
rest_is : {S I F : Type 0} (f : Format S I F) (s : S) (parts : List (Part S I)) (bytes : List ℕ) (t : S) (rest : List ℕ) → AreUnitsThen f s parts bytes t rest
    → (front : List ℕ) × (bytes ≡ front ++ rest)
rest_is f s [] bytes t rest h = ([], h.1)
rest_is f s (part ∷ parts) bytes t rest h =
    let more = rest_is f part.after parts (drop part.size bytes) t rest h.1 in (
      take part.size bytes ++ more.0,
      sym (take-append-drop part.size bytes) ∙ ap (λ xs. take part.size bytes ++ xs) more.1
          ∙ sym (append_assoc (take part.size bytes) more.0 rest),
    )

-- a reading up to where no unit begins goes as far as any
furthest : {S I F : Type 0} (f : Format S I F) (is : IsStepper f) (s : S) (a b : List (Part S I)) (bytes : List ℕ) (t : S) (rest : List ℕ) (u : S)
    (end : List ℕ) → AreUnitsThen f s a bytes t rest → NoUnit f t rest → AreUnitsThen f s b bytes u end → length rest ≤ length end
furthest f is s [] [] bytes t rest u end h none g = let same : length rest ≡ length end = ap length (sym h.1 ∙ g.1) in omega (arith, same)
furthest {S} f is s [] (y ∷ b) bytes t rest u end h none g =
    absurd (none y.size y.items y.after (ap (λ (x : S). f.step x rest) (sym h.0) ∙ ap (λ xs. f.step s xs) (sym h.1) ∙ g.0))
furthest f is s (x ∷ a) [] bytes t rest u end h none g =
    let most : 16 * length (items_of (x ∷ a)) + length rest ≤ length bytes = sizes f is s (x ∷ a) bytes t rest h in
    let same : length bytes ≡ length end = ap length g.1 in
    omega (arith, most, same)
furthest {S} {I} {F} f is s (x ∷ a) (y ∷ b) bytes t rest u end h none g =
    let same : ◌≡◌ {A = Found S I F} (Takes y.size y.items y.after) (Takes x.size x.items x.after) = sym g.0 ∙ h.0 in
    let size : y.size ≡ x.size = taken_size {F = F} y.size x.size y.items x.items y.after x.after same in
    let state : y.after ≡ x.after = taken_state {F = F} y.size x.size y.items x.items y.after x.after same in
    furthest f is x.after a b (drop x.size bytes) t rest u end h.1 none
    (subst (λ (v : S). AreUnitsThen f v b (drop x.size bytes) u end) state (subst (λ (n : ℕ). AreUnitsThen f y.after b (drop n bytes) u end) size g.1))

-- nothing was read, or the file may end here
pub begun_or_not : {S I F : Type 0} (f : Format S I F) (may : MayEnd f) (s : S) (parts : List (Part S I)) (bytes : List ℕ) (t : S) (rest : List ℕ)
    → AreUnitsThen f s parts bytes t rest → ((s ≡ t) × (bytes ≡ rest)) ⊎ (f.may_end t ≡ true)
begun_or_not f may s [] bytes t rest h = inl h
begun_or_not {S} f may s (part ∷ parts) bytes t rest h = elim (begun_or_not f may part.after parts (drop part.size bytes) t rest h.1) [
  | inl same ↦ inr (subst (λ (x : S). f.may_end x ≡ true) same.0 (may.units s bytes part.size part.items part.after h.0))
  | inr so_far ↦ inr so_far
]

-- a whole file begins with a unit
begins_so : {S I F : Type 0} (f : Format S I F) (may : MayEnd f) (is : IsStepper f) (parts : List (Part S I)) (front more : List ℕ) (t : S)
    → AreUnitsThen f f.start parts front t [] → f.may_end t ≡ true → f.step f.start (front ++ more) ≡ Wants → ⊥
begins_so {S} f may is [] front more t h ends wants = both (f.may_end f.start) (subst (λ (x : S). f.may_end x ≡ true) (sym h.0) ends) may.start
begins_so {S} {I} {F} f may is (part ∷ parts) front more t h ends wants =
    wants_takes {F = F} part.size part.items part.after (sym wants ∙ is.takes_stays f.start front more part.size part.items part.after h.0)

-- a file that ends within a unit has a whole beginning, and none that is longer
pub record WholeFront {S I F : Type 0} (f : Format S I F) (file : List ℕ) (items : List I) : Type 0 where
  pub whole : List ℕ
  pub rest : List ℕ
  pub file_is : file ≡ whole ++ rest
  pub is : IsWhole f whole items
  pub longest : (longer more : List ℕ) (others : List I) → file ≡ longer ++ more → IsWhole f longer others → length longer ≤ length whole

no_longer : {S I F : Type 0} (f : Format S I F) (is : IsStepper f) (file : List ℕ) (items : List I) (e : EndsIn f file items) (whole : List ℕ)
    → file ≡ whole ++ e.rest → (longer more : List ℕ) (others : List I) → file ≡ longer ++ more → IsWhole f longer others → length longer ≤ length whole
no_longer f is file items e whole file_is longer more others also h =
    let units : AreUnitsThen f f.start h.read.parts file h.last more =
    subst (λ (xs : List ℕ). AreUnitsThen f f.start h.read.parts xs h.last more) (sym also)
    (more_after f is f.start h.read.parts longer h.last [] more h.read.units) in
    let most : length e.rest ≤ length more =
    furthest f is f.start e.read.parts h.read.parts file e.last e.rest h.last more e.read.units (wants_none f e.last e.rest e.part) units in
    let one : length file ≡ length whole + length e.rest = ap length file_is ∙ length-append whole e.rest in
    let two : length file ≡ length longer + length more = ap length also ∙ length-append longer more in
    omega (arith, most, one, two)

pub whole_front : {S I F : Type 0} (f : Format S I F) (is : IsStepper f) (file : List ℕ) (items : List I) → EndsIn f file items → WholeFront f file items
whole_front f is file items e =
    let front = rest_is f f.start e.read.parts file e.last e.rest e.read.units in
    let len : length file ≡ length front.0 + length e.rest = ap length front.1 ∙ length-append front.0 e.rest in
    record {
      whole = front.0;
      rest = e.rest;
      file_is = front.1;
      is = record {
        size = short_less f.length (length front.0) (length file) (omega (arith, len)) e.size;
        last = e.last;
        read = record {
          parts = e.read.parts;
          units = front_units f is f.start e.read.parts file front.0 e.last e.rest front.1 e.read.units;
          items_are = e.read.items_are;
        };
        ends = e.begun;
      };
      longest = no_longer f is file items e front.0 front.1;
    }

-- a file that is cut, and has a whole beginning, ends within a unit
pub ends_in : {S I F : Type 0} (f : Format S I F) (may : MayEnd f) (is : IsStepper f) (file : List ℕ) (last : S) (cut : IsCut f file last)
    (front more : List ℕ) (others : List I) → file ≡ front ++ more → IsWhole f front others → EndsIn f file cut.items
ends_in {S} f may is file last cut front more others same h = record {
  size = cut.size;
  last = last;
  rest = cut.rest;
  read = cut.read;
  part = cut.part;
  begun = so_far;
  left = elim cut.left [
    | inl some ↦ some
    | inr none_so ↦ absurd (both (f.may_end last) so_far none_so)
  ];
} where
  so_far : f.may_end last ≡ true
  so_far = elim (begun_or_not f may f.start cut.read.parts file last cut.rest cut.read.units) [
    | inl none ↦
        absurd (begins_so f may is h.read.parts front more h.last h.read.units h.ends
        (ap (λ xs. f.step f.start xs) (sym same) ∙ ap (λ (x : S). f.step x file) none.0 ∙ ap (λ xs. f.step last xs) none.1 ∙ cut.part))
    | inr so ↦ so
  ]

-- two beginnings of one length are the same
pub same_front : (file a x b y : List ℕ) → file ≡ a ++ x → file ≡ b ++ y → length a ≤ length b → length b ≤ length a → a ≡ b
same_front file a x b y p q less more =
    let len : length a ≡ length b = omega (arith, less, more) in
    let first : take (length a) file ≡ a = ap (λ xs. take (length a) xs) p ∙ take-append-le (length a) a x (omega arith)
    ∙ take_all (length a) a (omega arith) in
    let other : take (length b) file ≡ b = ap (λ xs. take (length b) xs) q ∙ take-append-le (length b) b y (omega arith)
    ∙ take_all (length b) b (omega arith) in
    sym first ∙ ap (λ n. take n file) len ∙ other

-- a file that ends within a unit gives the items before it
pub ends_give : {S I F : Type 0} (f : Format S I F) (file : List ℕ) (items : List I) → EndsIn f file items → AreGiven f file items
ends_give f file items e = given_of f file file items e.last e.rest (early_short f.length file e.size) e.read (wants_none f e.last e.rest e.part)

-- it has no fault that is found by its place
pub ends_unfound : {S I F : Type 0} (f : Format S I F) (file : List ℕ) (items : List I) (fault : F) → EndsIn f file items → IsFound f file fault → ⊥
ends_unfound f file items fault e found = none_found f file items e.last e.rest e.size e.read e.part fault found

-- a reader that has read to here, of a file that may not end here
pub ends_begun : {S I F : Type 0} (f : Format S I F) (file : List ℕ) (items : List I) (s : S) (rest : List ℕ) → EndsIn f file items → Runs f s rest file
    → f.may_end s ≡ false → ⊥
ends_begun f file items s rest e runs none_so =
    let same = one_read f f.start file items runs.items e.last e.rest s rest e.read runs.read (wants_none f e.last e.rest e.part)
    (wants_none f s rest runs.part) in
    both (f.may_end s) (ap f.may_end (sym same.state) ∙ e.begun) none_so

pub ends_count : {S I F : Type 0} (f : Format S I F) (is : IsStepper f) (file : List ℕ) (items : List I) (e : EndsIn f file items)
    → f.count e.last ≡ number_of f.length (length items)
ends_count f is file items e =
    reads_count f is f.start file items e.last e.rest e.read
    ∙ ap (λ k. count_on f.length k (length items)) is.none
    ∙ count_first f.length (length items)

-- a file that is cut where it may end after some units ends within the next
pub cut_begun : {S I F : Type 0} (f : Format S I F) (file : List ℕ) (last : S) (cut : IsCut f file last) → f.may_end last ≡ true → EndsIn f file cut.items
cut_begun f file last cut begun = record {
  size = cut.size;
  last = last;
  rest = cut.rest;
  read = cut.read;
  part = cut.part;
  begun = begun;
  left = elim cut.left [
    | inl some ↦ some
    | inr unbegun ↦ absurd (both (f.may_end last) begun unbegun)
  ];
}

pub cut_count : {S I F : Type 0} (f : Format S I F) (is : IsStepper f) (file : List ℕ) (last : S) (cut : IsCut f file last)
    → f.count last ≡ number_of f.length (length cut.items)
cut_count f is file last cut =
    reads_count f is f.start file cut.items last cut.rest cut.read
    ∙ ap (λ k. count_on f.length k (length cut.items)) is.none
    ∙ count_first f.length (length cut.items)
