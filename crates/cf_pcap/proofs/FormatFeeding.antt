-- What a call that takes one more piece gives and answers.
use Rattle.std.proofs.Common.{◌≡◌, ◌⊎◌, inl, inr, ℕ, ◌<◌, ◌≤◌, ◌+◌, ◌*◌, true, false, List, [], ◌∷◌, ◌++◌, length, Ok, Err, sym, ap, subst, ◌∙◌, arith, append_assoc, append-nil, length-append}
use Rattle.cf_pcap.specs.Limits.{IsShort, IsLong, IsAtLimit, count_on, number_of}
use Rattle.cf_pcap.specs.Format.{Wants, Bad, Format, ReadsTo, Shows, seen, IsFound}
use Rattle.cf_pcap.specs.Streams.{IsStepper, early, AreGiven, Runs, IsFed, IsEnded}
use Rattle.cf_pcap.proofs.FormatUnits.{reads_nothing, reads_more, reads_on, reads_few, reads_count, wants_none, bad_none}
use Rattle.cf_pcap.proofs.Limits.{none_short, long_more, limit_long, limit_after, count_first}
use Rattle.cf_pcap.proofs.Seen.{seen_short, seen_last, early_short, early_full}
use Rattle.cf_pcap.proofs.Cases.{none_shown, none_found, found_more, seen_shows, whole_of, cut_of}
use Rattle.cf_pcap.proofs.Given.{given_of, found_gives}

-- a new reader
pub runs_new : {S I F : Type 0} (f : Format S I F) (is : IsStepper f) → Runs f f.start [] []
runs_new f is = record { size = none_short f.length; items = []; read = reads_nothing f f.start []; part = is.nothing f.start }

-- the items before a call
runs_given : {S I F : Type 0} (f : Format S I F) (s : S) (rest stream : List ℕ) (runs : Runs f s rest stream) → AreGiven f stream runs.items
runs_given f s rest stream runs = given_of f stream stream runs.items s rest (early_short f.length stream runs.size) runs.read (wants_none f s rest runs.part)

-- what was read of the bytes that came early enough
reads_piece : {S I F : Type 0} (f : Format S I F) (is : IsStepper f) (s : S) (rest stream piece : List ℕ) (runs : Runs f s rest stream) (given : List I)
    (t : S) (end : List ℕ) → ReadsTo f s (rest ++ piece) given t end → ReadsTo f f.start (stream ++ piece) (runs.items ++ given) t end
reads_piece f is s rest stream piece runs given t end read =
    reads_on f f.start (stream ++ piece) runs.items given s (rest ++ piece) t end (reads_more f is f.start stream runs.items s rest piece runs.read) read

-- a call that takes a piece, after which the stream is no longer than it may be
pub fed_short : {S I F : Type 0} (f : Format S I F) (is : IsStepper f) (s : S) (rest stream piece : List ℕ) (given : List I) (t : S) (end : List ℕ)
    (State : List ℕ → Type 0) → Runs f s rest stream → IsShort f.length (length (stream ++ piece)) → ReadsTo f s (rest ++ piece) given t end
    → f.step t end ≡ Wants
    → (Runs f t end (stream ++ piece) → State (stream ++ piece)) → IsFed f stream piece given (Ok tt) State
fed_short f is s rest stream piece given t end State runs size read wants keeps =
    let all = reads_piece f is s rest stream piece runs given t end read in record {
      before = runs.items;
      given_before = runs_given f s rest stream runs;
      given_now = given_of f (stream ++ piece) (stream ++ piece) (runs.items ++ given) t end (early_short f.length (stream ++ piece) size) all
          (wants_none f t end wants);
      few = reads_few f is s rest piece given t end runs.part read;
      answer_is = none_found f (stream ++ piece) (runs.items ++ given) t end size all wants;
      state = keeps (record { size = size; items = runs.items ++ given; read = all; part = wants });
    }

-- one whose early bytes show a fault
pub fed_fault : {S I F : Type 0} (f : Format S I F) (is : IsStepper f) (s : S) (rest stream piece late : List ℕ) (given : List I) (t : S) (end : List ℕ)
    (fault : F) (State : List ℕ → Type 0) → Runs f s rest stream → IsShort f.length (length (stream ++ piece)) → (late ≡ [])
    ⊎ IsLong f.length (length (stream ++ piece) + 1)
    → ReadsTo f s (rest ++ piece) given t end → f.step t end ≡ Bad fault → (IsFound f (stream ++ (piece ++ late)) fault → State (stream ++ (piece ++ late)))
    → IsFed f stream (piece ++ late) given (Err fault) State
fed_fault {S} {I} {F} f is s rest stream piece late given t end fault State runs size last read bad keeps =
    let all = reads_piece f is s rest stream piece runs given t end read in
    let same : (stream ++ piece) ++ late ≡ stream ++ (piece ++ late) = append_assoc stream piece late in
    let shows : Shows f (stream ++ piece) fault = record { items = runs.items ++ given; last = t; rest = end; read = all; bad = bad } in
    let first : Shows f (seen f.length (stream ++ piece)) fault =
    subst (λ (xs : List ℕ). Shows f xs fault) (sym (seen_short f.length (stream ++ piece) size)) shows in
    let found : IsFound f (stream ++ (piece ++ late)) fault =
    subst (λ (xs : List ℕ). IsFound f xs fault) same (inl (seen_shows f is (stream ++ piece) late fault first)) in
    let counts : early f.length (stream ++ (piece ++ late)) ≡ stream ++ piece = elim last [
      | inl none ↦ ap (λ xs. early f.length (stream ++ (piece ++ xs))) none ∙ ap (λ xs. early f.length (stream ++ xs)) (append-nil piece)
          ∙ early_short f.length (stream ++ piece) size
      | inr full ↦ ap (early f.length) (sym same) ∙ early_full f.length (stream ++ piece) late full ∙ early_short f.length (stream ++ piece) size
    ] in record {
      before = runs.items;
      given_before = runs_given f s rest stream runs;
      given_now = given_of f (stream ++ (piece ++ late)) (stream ++ piece) (runs.items ++ given) t end counts all (bad_none f t end fault bad);
      few = (let h : 16 * length given ≤ length piece + 15 = reads_few f is s rest piece given t end runs.part read in let len = length-append piece late in
          omega (arith, h, len));
      answer_is = found;
      state = keeps found;
    }

-- one that makes the stream too long: what the last byte shows, or that there are too many
pub fed_full : {S I F : Type 0} (f : Format S I F) (is : IsStepper f) (s : S) (rest stream piece : List ℕ) (byte : ℕ) (late : List ℕ) (given : List I) (t : S)
    (end : List ℕ) (more : List I) (u : S) (left : List ℕ) (fault : F) (State : List ℕ → Type 0) → Runs f s rest stream
    → IsAtLimit f.length (length (stream ++ piece) + 1) → ReadsTo f s (rest ++ piece) given t end → f.step t end ≡ Wants
    → ReadsTo f t (end ++ (byte ∷ [])) more u left
    → (f.step u left ≡ Bad fault) ⊎ ((f.step u left ≡ Wants) × (fault ≡ f.too_many))
    → (IsFound f (stream ++ (piece ++ (byte ∷ late))) fault → State (stream ++ (piece ++ (byte ∷ late))))
    → IsFed f stream (piece ++ (byte ∷ late)) given (Err fault) State
fed_full {S} {I} {F} f is s rest stream piece byte late given t end more u left fault State runs size read wants after shown keeps =
    let all = reads_piece f is s rest stream piece runs given t end read in
    let whole : ReadsTo f f.start ((stream ++ piece) ++ (byte ∷ [])) ((runs.items ++ given) ++ more) u left =
    reads_on f f.start ((stream ++ piece) ++ (byte ∷ [])) (runs.items ++ given) more t (end ++ (byte ∷ [])) u left
    (reads_more f is f.start (stream ++ piece) (runs.items ++ given) t end (byte ∷ []) all) after in
    let same : (stream ++ piece) ++ (byte ∷ late) ≡ stream ++ (piece ++ (byte ∷ late)) = append_assoc stream piece (byte ∷ late) in
    let counts : seen f.length ((stream ++ piece) ++ (byte ∷ late)) ≡ (stream ++ piece) ++ (byte ∷ []) = seen_last f.length (stream ++ piece) late byte size in
    let now : ReadsTo f f.start (seen f.length ((stream ++ piece) ++ (byte ∷ late))) ((runs.items ++ given) ++ more) u left =
    subst (λ (xs : List ℕ). ReadsTo f f.start xs ((runs.items ++ given) ++ more) u left) (sym counts) whole in
    let len : length ((stream ++ piece) ++ (byte ∷ late)) ≡ length (stream ++ piece) + length (byte ∷ late) = length-append (stream ++ piece) (byte ∷ late) in
    let found : IsFound f (stream ++ (piece ++ (byte ∷ late))) fault = subst (λ (xs : List ℕ). IsFound f xs fault) same (elim shown [
      | inl bad ↦ inl (record { items = (runs.items ++ given) ++ more; last = u; rest = left; read = now; bad = bad })
      | inr none ↦ inr (
        none.1,
        record {
          size = long_more f.length (length (stream ++ piece) + 1) (length ((stream ++ piece) ++ (byte ∷ late))) (omega (arith, len))
              (limit_long f.length (length (stream ++ piece) + 1) size);
          first = none_shown f (seen f.length ((stream ++ piece) ++ (byte ∷ late))) ((runs.items ++ given) ++ more) u left now none.0;
        },
      )
    ]) in record {
      before = runs.items;
      given_before = runs_given f s rest stream runs;
      given_now = given_of f (stream ++ (piece ++ (byte ∷ late))) (stream ++ piece) (runs.items ++ given) t end
          (ap (early f.length) (sym same) ∙ early_full f.length (stream ++ piece) (byte ∷ late) (limit_long f.length (length (stream ++ piece) + 1) size)
          ∙ early_short f.length (stream ++ piece) (limit_after f.length (length (stream ++ piece)) size)) all
          (wants_none f t end wants);
      few = (let h : 16 * length given ≤ length piece + 15 = reads_few f is s rest piece given t end runs.part read in
          let len = length-append piece (byte ∷ late) in omega (arith, h, len));
      answer_is = found;
      state = keeps found;
    }

-- a reader that a fault has stopped answers it, and takes nothing
pub fed_stopped : {S I F : Type 0} (f : Format S I F) (is : IsStepper f) (stream piece : List ℕ) (fault : F) (State : List ℕ → Type 0)
    → IsFound f stream fault → (IsFound f (stream ++ piece) fault → State (stream ++ piece)) → IsFed f stream piece [] (Err fault) State
fed_stopped f is stream piece fault State found keeps =
    let gives = found_gives f is stream piece fault found in
    let later : IsFound f (stream ++ piece) fault = found_more f is stream piece fault found in record {
      before = gives.0;
      given_before = gives.1;
      given_now = subst (AreGiven f (stream ++ piece)) (sym (append-nil gives.0)) gives.2;
      few = omega arith;
      answer_is = later;
      state = keeps later;
    }

-- a reader that runs has found no fault
pub runs_none : {S I F : Type 0} (f : Format S I F) (s : S) (rest stream : List ℕ) (fault : F) → Runs f s rest stream → IsFound f stream fault → ⊥
runs_none f s rest stream fault runs found = none_found f stream runs.items s rest runs.size runs.read runs.part fault found

-- the end of the stream

pub runs_count : {S I F : Type 0} (f : Format S I F) (is : IsStepper f) (s : S) (rest stream : List ℕ) (runs : Runs f s rest stream)
    → f.count s ≡ number_of f.length (length runs.items)
runs_count f is s rest stream runs =
    reads_count f is f.start stream runs.items s rest runs.read
    ∙ ap (λ k. count_on f.length k (length runs.items)) is.none
    ∙ count_first f.length (length runs.items)

pub ended_whole : {S I F : Type 0} (f : Format S I F) (is : IsStepper f) (s : S) (rest stream : List ℕ) (count : ℕ) → Runs f s rest stream → rest ≡ []
    → f.may_end s ≡ true → count ≡ f.count s → IsEnded f stream (Ok count)
ended_whole f is s rest stream count runs none ends is_count =
    (runs.items, whole_of f stream runs.items s rest runs.size runs.read none ends, is_count ∙ runs_count f is s rest stream runs)

pub ended_cut : {S I F : Type 0} (f : Format S I F) (s : S) (rest stream : List ℕ) (fault : F) → Runs f s rest stream → (0 < length rest)
    ⊎ (f.may_end s ≡ false) → fault ≡ f.cut s → IsEnded f stream (Err fault)
ended_cut f s rest stream fault runs left is_fault = inr (s, is_fault, cut_of f stream runs.items s rest runs.size runs.read runs.part left)
