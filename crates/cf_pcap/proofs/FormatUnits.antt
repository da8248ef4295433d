-- Units one after another.
use Rattle.std.proofs.Common.{◌≡◌, ℕ, ◌<◌, ◌≤◌, ◌+◌, ◌-◌, ◌*◌, zero, suc, List, [], ◌∷◌, ◌++◌, length, drop, refl, sym, ap, subst, ◌∙◌, arith, append_assoc, append-nil, length-append, length-drop}
use Rattle.std.proofs.lemmas.List.{drop-append-le}
use Rattle.cf_pcap.specs.Limits.{count_on}
use Rattle.cf_pcap.specs.Format.{Found, Wants, Bad, Takes, Format, Part, items_of, AreUnitsThen, ReadsTo}
use Rattle.cf_pcap.specs.Streams.{IsStepper}
use Rattle.cf_pcap.proofs.Limits.{count_none, count_sum}

-- more bytes come after the rest
pub more_after : {S I F : Type 0} (f : Format S I F) (is : IsStepper f) (s : S) (parts : List (Part S I)) (bytes : List ℕ) (t : S) (rest more : List ℕ)
    → AreUnitsThen f s parts bytes t rest → AreUnitsThen f s parts (bytes ++ more) t (rest ++ more)
more_after f is s [] bytes t rest more h = (h.0, ap (λ xs. xs ++ more) h.1)
more_after f is s (part ∷ parts) bytes t rest more h =
    let fits : part.size ≤ length bytes = (is.size s bytes part.size part.items part.after h.0).1 in
    let left : drop part.size (bytes ++ more) ≡ drop part.size bytes ++ more = drop-append-le part.size bytes more fits in (
      is.takes_stays s bytes more part.size part.items part.after h.0,
      subst (λ (xs : List ℕ). AreUnitsThen f part.after parts xs t (rest ++ more)) (sym left)
          (more_after f is part.after parts (drop part.size bytes) t rest more h.1),
    )

-- more units come in the rest
pub then_more : {S I F : Type 0} (f : Format S I F) (s : S) (parts more : List (Part S I)) (bytes : List ℕ) (t : S) (rest : List ℕ) (u : S) (end : List ℕ)
    → AreUnitsThen f s parts bytes t rest → AreUnitsThen f t more rest u end → AreUnitsThen f s (parts ++ more) bytes u end
then_more {S} f s [] more bytes t rest u end h g =
    subst (λ (x : S). AreUnitsThen f x more bytes u end) (sym h.0) (subst (λ (xs : List ℕ). AreUnitsThen f t more xs u end) (sym h.1) g)
then_more f s (part ∷ parts) more bytes t rest u end h g = (h.0, then_more f part.after parts more (drop part.size bytes) t rest u end h.1 g)

pub items-append : {S I : Type 0} (parts more : List (Part S I)) → items_of (parts ++ more) ≡ items_of parts ++ items_of more
items-append [] more = refl
items-append (part ∷ parts) more = ap (λ xs. part.items ++ xs) (items-append parts more) ∙ sym (append_assoc part.items (items_of parts) (items_of more))

-- each item takes 16 bytes at least
pub sizes : {S I F : Type 0} (f : Format S I F) (is : IsStepper f) (s : S) (parts : List (Part S I)) (bytes : List ℕ) (t : S) (rest : List ℕ)
    → AreUnitsThen f s parts bytes t rest → 16 * length (items_of parts) + length rest ≤ length bytes
sizes f is s [] bytes t rest h = let same : length bytes ≡ length rest = ap length h.1 in omega (arith, same)
sizes f is s (part ∷ parts) bytes t rest h =
    let more : 16 * length (items_of parts) + length rest ≤ length (drop part.size bytes) = sizes f is part.after parts (drop part.size bytes) t rest h.1 in
    let len : length (drop part.size bytes) ≡ length bytes - part.size = length-drop part.size bytes in
    let fits : part.size ≤ length bytes = (is.size s bytes part.size part.items part.after h.0).1 in
    let few : 16 * length part.items ≤ part.size = is.few s bytes part.size part.items part.after h.0 in
    let many : length (part.items ++ items_of parts) ≡ length part.items + length (items_of parts) = length-append part.items (items_of parts) in
    omega (arith, more, len, fits, few, many)

-- where the bytes before a piece only begin a unit, the units that end in the piece are few
ended_few : {S I F : Type 0} (f : Format S I F) (is : IsStepper f) (s : S) (parts : List (Part S I)) (rest piece : List ℕ) (t : S) (end : List ℕ)
    → f.step s rest ≡ Wants → AreUnitsThen f s parts (rest ++ piece) t end → 16 * length (items_of parts) ≤ length piece + 15
ended_few f is s [] rest piece t end wants h = omega arith
ended_few f is s (part ∷ parts) rest piece t end wants h =
    let more : 16 * length (items_of parts) + length end ≤ length (drop part.size (rest ++ piece)) =
    sizes f is part.after parts (drop part.size (rest ++ piece)) t end h.1 in
    let len : length (drop part.size (rest ++ piece)) ≡ length (rest ++ piece) - part.size = length-drop part.size (rest ++ piece) in
    let both : length (rest ++ piece) ≡ length rest + length piece = length-append rest piece in
    let fits : part.size ≤ length (rest ++ piece) = (is.size s (rest ++ piece) part.size part.items part.after h.0).1 in
    let late : length rest < part.size = is.late s rest piece part.size part.items part.after wants h.0 in
    let one : length part.items ≤ 1 = is.one s (rest ++ piece) part.size part.items part.after h.0 in
    let many : length (part.items ++ items_of parts) ≡ length part.items + length (items_of parts) = length-append part.items (items_of parts) in
    omega (arith, more, len, both, fits, late, one, many)

pub counted : {S I F : Type 0} (f : Format S I F) (is : IsStepper f) (s : S) (parts : List (Part S I)) (bytes : List ℕ) (t : S) (rest : List ℕ)
    → AreUnitsThen f s parts bytes t rest → f.count t ≡ count_on f.length (f.count s) (length (items_of parts))
counted f is s [] bytes t rest h = sym (ap f.count h.0) ∙ sym (count_none f.length (f.count s))
counted f is s (part ∷ parts) bytes t rest h =
    counted f is part.after parts (drop part.size bytes) t rest h.1
    ∙ ap (λ k. count_on f.length k (length (items_of parts))) (is.counts s bytes part.size part.items part.after h.0)
    ∙ count_sum f.length (f.count s) (length part.items) (length (items_of parts))
    ∙ ap (λ n. count_on f.length (f.count s) n) (sym (length-append part.items (items_of parts)))

-- no unit begins where a reading has ended
abbrev pub NoUnit : {S I F : Type 0} → Format S I F → S → List ℕ → Type 0
NoUnit {S} {I} f t rest = (n : ℕ) (items : List I) (u : S) → f.step t rest ≡ Takes n items u → ⊥

pub record Same {S I : Type 0} (a b : List I) (t u : S) (rest end : List ℕ) : Type 0 where
  pub items : a ≡ b
  pub state : t ≡ u
  pub left : rest ≡ end

pub taken_size : {S I F : Type 0} (n m : ℕ) (a b : List I) (t u : S) → ◌≡◌ {A = Found S I F} (Takes n a t) (Takes m b u) → n ≡ m
taken_size n m a b t u h = cc

taken_items : {S I F : Type 0} (n m : ℕ) (a b : List I) (t u : S) → ◌≡◌ {A = Found S I F} (Takes n a t) (Takes m b u) → a ≡ b
taken_items n m a b t u h = cc

pub taken_state : {S I F : Type 0} (n m : ℕ) (a b : List I) (t u : S) → ◌≡◌ {A = Found S I F} (Takes n a t) (Takes m b u) → t ≡ u
taken_state n m a b t u h = cc

-- there is one reading
pub one_reading : {S I F : Type 0} (f : Format S I F) (s : S) (a b : List (Part S I)) (bytes : List ℕ) (t : S) (rest : List ℕ) (u : S) (end : List ℕ)
    → AreUnitsThen f s a bytes t rest → AreUnitsThen f s b bytes u end → NoUnit f t rest → NoUnit f u end → Same (items_of a) (items_of b) t u rest end
one_reading f s [] [] bytes t rest u end h g p q = record { items = refl; state = sym h.0 ∙ g.0; left = sym h.1 ∙ g.1 }
one_reading {S} f s [] (y ∷ b) bytes t rest u end h g p q =
    absurd (p y.size y.items y.after (ap (λ (x : S). f.step x rest) (sym h.0) ∙ ap (λ xs. f.step s xs) (sym h.1) ∙ g.0))
one_reading {S} f s (x ∷ a) [] bytes t rest u end h g p q =
    absurd (q x.size x.items x.after (ap (λ (v : S). f.step v end) (sym g.0) ∙ ap (λ xs. f.step s xs) (sym g.1) ∙ h.0))
one_reading {S} {I} {F} f s (x ∷ a) (y ∷ b) bytes t rest u end h g p q =
    let same : ◌≡◌ {A = Found S I F} (Takes x.size x.items x.after) (Takes y.size y.items y.after) = sym h.0 ∙ g.0 in
    let size : y.size ≡ x.size = sym (taken_size {F = F} x.size y.size x.items y.items x.after y.after same) in
    let state : y.after ≡ x.after = sym (taken_state {F = F} x.size y.size x.items y.items x.after y.after same) in
    let first : x.items ≡ y.items = taken_items {F = F} x.size y.size x.items y.items x.after y.after same in
    let other : AreUnitsThen f x.after b (drop x.size bytes) u end =
    subst (λ (v : S). AreUnitsThen f v b (drop x.size bytes) u end) state (subst (λ (n : ℕ). AreUnitsThen f y.after b (drop n bytes) u end) size g.1) in
    let more = one_reading f x.after a b (drop x.size bytes) t rest u end h.1 other p q in record {
      items = ap (λ xs. xs ++ items_of a) first ∙ ap (λ xs. y.items ++ xs) more.items;
      state = more.state;
      left = more.left;
    }

-- Readings, with the units let go.

pub reads_nothing : {S I F : Type 0} (f : Format S I F) (s : S) (bytes : List ℕ) → ReadsTo f s bytes [] s bytes
reads_nothing f s bytes = record { parts = []; units = (refl, refl); items_are = refl }

pub reads_more : {S I F : Type 0} (f : Format S I F) (is : IsStepper f) (s : S) (bytes : List ℕ) (items : List I) (t : S) (rest more : List ℕ)
    → ReadsTo f s bytes items t rest → ReadsTo f s (bytes ++ more) items t (rest ++ more)
reads_more f is s bytes items t rest more h = record { parts = h.parts; units = more_after f is s h.parts bytes t rest more h.units; items_are = h.items_are }

pub reads_on : {S I F : Type 0} (f : Format S I F) (s : S) (bytes : List ℕ) (items more : List I) (t : S) (rest : List ℕ) (u : S) (end : List ℕ)
    → ReadsTo f s bytes items t rest → ReadsTo f t rest more u end → ReadsTo f s bytes (items ++ more) u end
reads_on f s bytes items more t rest u end h g = record {
  parts = h.parts ++ g.parts;
  units = then_more f s h.parts g.parts bytes t rest u end h.units g.units;
  items_are = ap (λ xs. xs ++ more) h.items_are ∙ ap (λ xs. items_of h.parts ++ xs) g.items_are ∙ sym (items-append h.parts g.parts);
}

pub reads_one : {S I F : Type 0} (f : Format S I F) (s : S) (bytes : List ℕ) (n : ℕ) (items : List I) (t : S) → f.step s bytes ≡ Takes n items t
    → ReadsTo f s bytes items t (drop n bytes)
reads_one f s bytes n items t h = record {
  parts = record { size = n; items = items; after = t } ∷ [];
  units = (h, (refl, refl));
  items_are = sym (append-nil items);
}

pub reads_fit : {S I F : Type 0} (f : Format S I F) (is : IsStepper f) (s : S) (bytes : List ℕ) (items : List I) (t : S) (rest : List ℕ)
    → ReadsTo f s bytes items t rest → length items + length rest ≤ length bytes
reads_fit f is s bytes items t rest h =
    let most : 16 * length (items_of h.parts) + length rest ≤ length bytes = sizes f is s h.parts bytes t rest h.units in
    let same : length items ≡ length (items_of h.parts) = ap length h.items_are in
    omega (arith, most, same)

pub reads_few : {S I F : Type 0} (f : Format S I F) (is : IsStepper f) (s : S) (rest piece : List ℕ) (items : List I) (t : S) (end : List ℕ)
    → f.step s rest ≡ Wants → ReadsTo f s (rest ++ piece) items t end → 16 * length items ≤ length piece + 15
reads_few f is s rest piece items t end wants h =
    let few : 16 * length (items_of h.parts) ≤ length piece + 15 = ended_few f is s h.parts rest piece t end wants h.units in
    let same : length items ≡ length (items_of h.parts) = ap length h.items_are in
    omega (arith, few, same)

pub reads_count : {S I F : Type 0} (f : Format S I F) (is : IsStepper f) (s : S) (bytes : List ℕ) (items : List I) (t : S) (rest : List ℕ)
    → ReadsTo f s bytes items t rest → f.count t ≡ count_on f.length (f.count s) (length items)
reads_count f is s bytes items t rest h = counted f is s h.parts bytes t rest h.units
    ∙ ap (λ (xs : List _). count_on f.length (f.count s) (length xs)) (sym h.items_are)

pub one_read : {S I F : Type 0} (f : Format S I F) (s : S) (bytes : List ℕ) (a b : List I) (t : S) (rest : List ℕ) (u : S) (end : List ℕ)
    → ReadsTo f s bytes a t rest → ReadsTo f s bytes b u end → NoUnit f t rest → NoUnit f u end → Same a b t u rest end
one_read f s bytes a b t rest u end h g p q =
    let same = one_reading f s h.parts g.parts bytes t rest u end h.units g.units p q in
    record { items = h.items_are ∙ same.items ∙ sym g.items_are; state = same.state; left = same.left }

-- where nothing is taken
pub wants_none : {S I F : Type 0} (f : Format S I F) (t : S) (rest : List ℕ) → f.step t rest ≡ Wants → NoUnit f t rest
wants_none f t rest h n items u g = no_takes n items u (sym h ∙ g) where
  no_takes : {S I F : Type 0} (n : ℕ) (items : List I) (u : S) → ◌≡◌ {A = Found S I F} Wants (Takes n items u) → ⊥
  no_takes n items u h = cc

pub bad_none : {S I F : Type 0} (f : Format S I F) (t : S) (rest : List ℕ) (fault : F) → f.step t rest ≡ Bad fault → NoUnit f t rest
bad_none f t rest fault h n items u g = no_takes fault n items u (sym h ∙ g) where
  no_takes : {S I F : Type 0} (fault : F) (n : ℕ) (items : List I) (u : S) → ◌≡◌ {A = Found S I F} (Bad fault) (Takes n items u) → ⊥
  no_takes fault n items u h = cc

pub bad_same : {S I F : Type 0} (a b : F) → ◌≡◌ {A = Found S I F} (Bad a) (Bad b) → a ≡ b
bad_same a b h = cc

pub wants_bad : {S I F : Type 0} (fault : F) → ◌≡◌ {A = Found S I F} Wants (Bad fault) → ⊥
wants_bad fault h = cc

-- how far the units of some bytes go, and what stands there
pub data End {S I F : Type 0} (f : Format S I F) (s : S) (bytes : List ℕ) : Type 0 where
  More : (items : List I) (t : S) (rest : List ℕ) → ReadsTo f s bytes items t rest → f.step t rest ≡ Wants → End f s bytes
  Fault : (items : List I) (t : S) (rest : List ℕ) (fault : F) → ReadsTo f s bytes items t rest → f.step t rest ≡ Bad fault → End f s bytes

end_push : {S I F : Type 0} (f : Format S I F) (s : S) (bytes : List ℕ) (items : List I) (t : S) (rest : List ℕ) → ReadsTo f s bytes items t rest
    → End f t rest → End f s bytes
end_push f s bytes items t rest h (More more u end g wants) = More (items ++ more) u end (reads_on f s bytes items more t rest u end h g) wants
end_push f s bytes items t rest h (Fault more u end fault g bad) = Fault (items ++ more) u end fault (reads_on f s bytes items more t rest u end h g) bad

end_in : {S I F : Type 0} (f : Format S I F) (is : IsStepper f) (m : ℕ) (s : S) (bytes : List ℕ) → length bytes ≤ m → (found : Found S I F)
    → f.step s bytes ≡ found → End f s bytes
end_in f is m s bytes small Wants h = More [] s bytes (reads_nothing f s bytes) h
end_in f is m s bytes small (Bad fault) h = Fault [] s bytes fault (reads_nothing f s bytes) h
end_in f is zero s bytes small (Takes n items t) h =
    let some = is.size s bytes n items t h in
    let least : 0 < n = some.0 in
    let most : n ≤ length bytes = some.1 in
    absurd (omega (arith, small, least, most))
end_in f is (suc m) s bytes small (Takes n items t) h =
    let some = is.size s bytes n items t h in
    let least : 0 < n = some.0 in
    let len : length (drop n bytes) ≡ length bytes - n = length-drop n bytes in
    end_push f s bytes items t (drop n bytes) (reads_one f s bytes n items t h)
    (end_in f is m t (drop n bytes) (omega (arith, small, least, len)) (f.step t (drop n bytes)) refl)

pub end_of : {S I F : Type 0} (f : Format S I F) (is : IsStepper f) (s : S) (bytes : List ℕ) → End f s bytes
end_of f is s bytes = end_in f is (length bytes) s bytes (omega arith) (f.step s bytes) refl
