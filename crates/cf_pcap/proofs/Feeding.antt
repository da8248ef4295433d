-- What a call that takes one more piece gives and answers, and what the end of a stream answers.
use Rattle.std.proofs.Common.{◌≡◌, ◌⊎◌, inl, inr, ℕ, ◌<◌, ◌≤◌, ◌+◌, ◌-◌, ◌*◌, ◌^◌, min, true, false, List, [], ◌∷◌, ◌++◌, length, take, drop, Some, None, Ok, Err, is_some, refl, sym, ap, subst, ◌∙◌, arith, append_assoc, append-nil, length-append, length-take, length-drop}
use Rattle.std.proofs.lemmas.Bool.{cases_lt}
use Rattle.std.proofs.lemmas.Bool.Decides.{nat_tests}
use Rattle.std.proofs.lemmas.List.{take_all, drop_all, take-append-drop, drop-append-le}
use Rattle.cf_row.proofs.Lists.{take_past}
use Rattle.cf_pcap.specs.declared.limit.Length.{Length}
use Rattle.cf_pcap.specs.declared.limit.Length.TheVariants.{Limited, Any}
use Rattle.cf_pcap.specs.Limits.{IsShort, IsLong, IsAtLimit, HasRoom, IsTotal, total_on, count_on}
use Rattle.cf_pcap.proofs.Limits.{limit_long, limit_after, total_same}
use Rattle.cf_pcap.specs.Format.{Wants, Bad, Takes, ReadsTo}
use Rattle.cf_pcap.specs.Streams.{Runs}
use Rattle.cf_pcap.proofs.FormatUnits.{reads_nothing, reads_one, reads_count, sizes}
use Rattle.cf_pcap.proofs.FormatFeeding as streams
use Rattle.cf_pcap.specs.declared.scope.Scope.{Scope}
use Rattle.cf_pcap.specs.declared.form.FileHeader.{FileHeader}
use Rattle.cf_pcap.specs.declared.fault.PcapFault.{PcapFault}
use Rattle.cf_pcap.specs.declared.fault.PcapFault.TheVariants.{FrameTooLong, Cut, TooManyBytes, Memory}
use Rattle.cf_pcap.specs.declared.stage.Stage.{Stage}
use Rattle.cf_pcap.specs.declared.stage.Stage.TheVariants.{Running, Stopped}
use Rattle.cf_pcap.specs.Capture.{FrameValue, HasRecord, HasLongRecord, caplen_at}
use Rattle.cf_pcap.specs.File.{State, step, pcap}
use Rattle.cf_pcap.specs.Reading.{AreRead, IsFaultAt, front_of, late_of, IsStageAfter, AreTaken}
use Rattle.cf_pcap.specs.Stages.{answer_at, kept_at}
use Rattle.cf_pcap.proofs.Stages.{at_running}
use Rattle.cf_pcap.specs.Stream.{IsFound, PcapValue, IsRunning, IsStateOf, IsFed, IsEnded, IsCounted, IsSoundAt, IsSound}
use Rattle.cf_pcap.proofs.Steps.{Shown, bad_same, broken, InHeader, TooLong, part_of, OfHeader, OfRecord, stepper}

-- the reader after a call
abbrev pub Later : Scope → Stage PcapFault → ℕ → State → List ℕ → PcapValue
Later scope stage total t held = record { scope = scope; stage = stage; total = total; state = t; held = held }

-- what is taken of a piece: all of it, or what comes up to the byte that makes the stream too long
data Front (l : Length) (total : ℕ) (piece taken : List ℕ) (late : ℕ) : Type 0 where
  Whole : late ≡ 0 → taken ≡ piece → ((n : ℕ) → IsTotal l total n → IsShort l (n + length taken)) → Front l total piece taken late
  UpTo : (early : List ℕ) (byte : ℕ) (later : List ℕ) → late ≡ 1 → taken ≡ early ++ (byte ∷ []) → piece ≡ early ++ (byte ∷ later)
      → ((n : ℕ) → IsTotal l total n → IsAtLimit l (n + length early + 1)) → Front l total piece taken late

late_short : (total : ℕ) → total < 2 ^ 32 → late_of Limited total ≡ 0
late_short total h = grind (arith, nat_tests)

late_full : (total : ℕ) → total ≡ 2 ^ 32 → late_of Limited total ≡ 1
late_full total h = rw h refl

up_to : (total : ℕ) (piece taken : List ℕ) (late : ℕ) (early later : List ℕ) → total < 2 ^ 32 → taken ≡ take (2 ^ 32 - total) piece → late ≡ 1
    → 2 ^ 32 ≤ total + length piece → early ≡ take (2 ^ 32 - 1 - total) piece → later ≡ drop (2 ^ 32 - 1 - total) piece → Front Limited total piece taken late
up_to total piece taken late early [] small taken_is one large early_is late_is =
    let len : 0 ≡ length piece - (2 ^ 32 - 1 - total) = ap length late_is ∙ length-drop (2 ^ 32 - 1 - total) piece in
    absurd (omega (arith, small, large, len))
up_to total piece taken late early (byte ∷ later) small taken_is one large early_is late_is =
    let n : ℕ = 2 ^ 32 - 1 - total in
    let whole : early ++ (byte ∷ later) ≡ piece = ap (λ xs. xs ++ (byte ∷ later)) early_is ∙ ap (λ xs. take n piece ++ xs) late_is ∙ take-append-drop n piece in
    let size : length early ≡ min n (length piece) = ap length early_is ∙ length-take n piece in
    let at : length early ≡ n = omega (arith, size, small, large) in
    let left : 2 ^ 32 - total - length early ≡ 1 = omega (arith, at, small) in
    let front : take (2 ^ 32 - total) piece ≡ early ++ (byte ∷ []) = ap (λ xs. take (2 ^ 32 - total) xs) (sym whole)
    ∙ take_past (2 ^ 32 - total) early (byte ∷ later) (omega (arith, at)) ∙ ap (λ k. early ++ take k (byte ∷ later)) left in
    UpTo early byte later one (taken_is ∙ front) (sym whole) (λ m is. omega (arith, is, at, small))

front_case : (l : Length) (total : ℕ) (piece taken : List ℕ) (late : ℕ) → IsShort l total → taken ≡ front_of l total piece
    → late ≡ late_of l (total_on l total (length taken)) → Front l total piece taken late
front_case Any total piece taken late small taken_is late_is = Whole late_is taken_is (λ n is. tt)
front_case Limited total piece taken late small taken_is late_is =
    let size : length taken ≡ min (2 ^ 32 - total) (length piece) = ap length taken_is ∙ length-take (2 ^ 32 - total) piece in
    elim (cases_lt (total + length taken) (2 ^ 32)) [
      | inl short ↦ Whole (late_is ∙ late_short (total + length taken) short)
          (taken_is ∙ take_all (2 ^ 32 - total) piece (omega (arith, size, short, small))) (λ n is. omega (arith, is, short))
      | inr large ↦ up_to total piece taken late (take (2 ^ 32 - 1 - total) piece) (drop (2 ^ 32 - 1 - total) piece) small taken_is
          (late_is ∙ late_full (total + length taken) (omega (arith, size, large, small))) (omega (arith, size, large)) refl refl
    ]

-- no more bytes are taken than there is room for
pub room_for : (l : Length) (total frames held : ℕ) (piece taken : List ℕ) → IsShort l total → IsCounted l total frames held
    → taken ≡ front_of l total piece → HasRoom l (16 * frames + (held + length taken)) × HasRoom l (total + length taken)
room_for Any total frames held piece taken small had taken_is = (tt, tt)
room_for Limited total frames held piece taken small had taken_is =
    let size : length taken ≡ min (2 ^ 32 - total) (length piece) = ap length taken_is ∙ length-take (2 ^ 32 - total) piece in
    (omega (arith, size, small, had), omega (arith, size, small))

total_more : (l : Length) (total n more : ℕ) → IsTotal l total n → IsTotal l (total_on l total more) (n + more)
total_more Any total n more is = tt
total_more Limited total n more is = omega (arith, is)

total_self : (l : Length) (total : ℕ) → IsTotal l total total
total_self Any total = tt
total_self Limited total = refl

wants_of : (scope : Scope) (t : State) (rest : List ℕ) (found : Shown) → step scope t rest ≡ found
    → ((n : ℕ) (more : List FrameValue) (u : State) → step scope t rest ≡ Takes n more u → ⊥) → ((fault : PcapFault) → step scope t rest ≡ Bad fault → ⊥)
    → step scope t rest ≡ Wants
wants_of scope t rest Wants h takes bad = h
wants_of scope t rest (Bad fault) h takes bad = absurd (bad fault h)
wants_of scope t rest (Takes n more u) h takes bad = absurd (takes n more u h)

-- No longer than it may be.

fed_running : (before : PcapValue) (stream piece : List ℕ) (given : List FrameValue) (t : State) (rest held : List ℕ) → IsRunning before stream
    → IsShort before.scope.length (length (stream ++ piece)) → AreRead before.scope before.state (before.held ++ piece) given t rest
    → IsFaultAt before.scope t rest None → held ≡ rest
    → IsFed stream piece given (Ok tt) (Later before.scope Running (total_on before.scope.length before.total (length piece)) t held)
fed_running before stream piece given t rest held run small read none same =
    let l : Length = before.scope.length in
    let total : ℕ = total_on l before.total (length piece) in
    let len : length stream + length piece ≡ length (stream ++ piece) = sym (length-append stream piece) in
    let wants : step before.scope t rest ≡ Wants = wants_of before.scope t rest (step before.scope t rest) refl read.none none in
    let later : PcapValue = Later before.scope Running total t held in
    streams.fed_short (pcap before.scope) (stepper before.scope) before.state before.held stream piece given t rest (IsStateOf later) run.runs
    small read.read wants
    (λ runs. record {
      total_is = total_same l total (length stream + length piece) (length (stream ++ piece)) len
          (total_more l before.total (length stream) (length piece) run.total_is);
      runs = subst (λ (xs : List ℕ). Runs (pcap before.scope) t xs (stream ++ piece)) (sym same) runs;
    })

fed_flaw : (before : PcapValue) (stream piece : List ℕ) (given : List FrameValue) (t : State) (rest held : List ℕ) (fault : PcapFault) (total : ℕ)
    → IsRunning before stream → IsShort before.scope.length (length (stream ++ piece)) → AreRead before.scope before.state (before.held ++ piece) given t rest
    → IsFaultAt before.scope t rest (Some fault) → IsFed stream piece given (Err fault) (Later before.scope (Stopped fault) total t held)
fed_flaw before stream piece given t rest held fault total run small read bad =
    let later : PcapValue = Later before.scope (Stopped fault) total t held in
    let fed : IsFed stream (piece ++ []) given (Err fault) later =
    streams.fed_fault (pcap before.scope) (stepper before.scope) before.state before.held stream piece [] given t rest fault (IsStateOf later) run.runs
    small (inl refl) read.read bad (λ found. found) in
    subst (λ (xs : List ℕ). IsFed stream xs given (Err fault) later) (append-nil piece) fed

fed_below : (before : PcapValue) (stream piece : List ℕ) (late : ℕ) (given : List FrameValue) (t : State) (rest held : List ℕ) (stage : Stage PcapFault)
    → IsRunning before stream → IsShort before.scope.length (length (stream ++ piece)) → late ≡ 0
    → AreRead before.scope before.state (before.held ++ piece) given t rest → IsStageAfter before.scope t late rest stage → held ≡ kept_at stage rest
    → IsFed stream piece given (answer_at stage) (Later before.scope stage (total_on before.scope.length before.total (length piece)) t held)
fed_below before stream piece late given t rest held Running run small none read at kept =
    fed_running before stream piece given t rest held run small read at.1 kept
fed_below before stream piece late given t rest held (Stopped fault) run small none read (inl bad) kept =
    fed_flaw before stream piece given t rest held fault (total_on before.scope.length before.total (length piece)) run small read bad
fed_below before stream piece late given t rest held (Stopped fault) run small none read (inr many) kept = let some : 0 < late = many.0 in
    absurd (omega (arith, none, some))

-- With the byte that makes the stream too long.

record Limit (before : PcapValue) (stream early : List ℕ) (given : List FrameValue) (t : State) (rest : List ℕ) : Type 0 where
  run : IsRunning before stream
  full : IsAtLimit before.scope.length (length (stream ++ early) + 1)
  read : AreRead before.scope before.state (before.held ++ early) given t rest

fed_full : (before : PcapValue) (stream early : List ℕ) (byte : ℕ) (later : List ℕ) (given : List FrameValue) (t : State) (rest held : List ℕ)
    (fault : PcapFault) (total : ℕ) → Limit before stream early given t rest → step before.scope t rest ≡ Wants
    → (more : List FrameValue) (u : State) (left : List ℕ) → ReadsTo (pcap before.scope) t (rest ++ (byte ∷ [])) more u left
    → (step before.scope u left ≡ Bad fault) ⊎ ((step before.scope u left ≡ Wants) × (fault ≡ TooManyBytes))
    → IsFed stream (early ++ (byte ∷ later)) given (Err fault) (Later before.scope (Stopped fault) total t held)
fed_full before stream early byte later given t rest held fault total limit wants more u left read shown =
    streams.fed_full (pcap before.scope) (stepper before.scope) before.state before.held stream early byte later given t rest more u left fault
    (IsStateOf (Later before.scope (Stopped fault) total t held)) limit.run.runs limit.full limit.read.read wants read shown (λ found. found)

too_many : (scope : Scope) (t : State) (bytes : List ℕ) (fault : PcapFault) → IsStageAfter scope t 1 bytes (Stopped fault) → IsFaultAt scope t bytes None
    → fault ≡ TooManyBytes
too_many scope t bytes fault (inl bad) none = absurd (none fault bad)
too_many scope t bytes fault (inr many) none = many.1

the_fault : (scope : Scope) (t : State) (bytes : List ℕ) (fault other : PcapFault) → IsStageAfter scope t 1 bytes (Stopped fault)
    → step scope t bytes ≡ Bad other → other ≡ fault
the_fault scope t bytes fault other (inl bad) h = bad_same other fault (sym h ∙ bad)
the_fault scope t bytes fault other (inr many) h = absurd (many.2 other h)

wants_not_bad : (scope : Scope) (t : State) (bytes : List ℕ) → step scope t bytes ≡ Wants → IsFaultAt scope t bytes None
wants_not_bad scope t bytes h fault bad = no fault (sym h ∙ bad) where
  no : (fault : PcapFault) → ◌≡◌ {A = Shown} Wants (Bad fault) → ⊥
  no fault e = cc

takes_not_bad : (scope : Scope) (t : State) (bytes : List ℕ) (n : ℕ) (items : List FrameValue) (u : State) → step scope t bytes ≡ Takes n items u
    → IsFaultAt scope t bytes None
takes_not_bad scope t bytes n items u h fault bad = no fault (sym h ∙ bad) where
  no : (fault : PcapFault) → ◌≡◌ {A = Shown} (Takes n items u) (Bad fault) → ⊥
  no fault e = cc

fed_limit : (before : PcapValue) (stream early : List ℕ) (byte : ℕ) (later : List ℕ) (given : List FrameValue) (t : State) (rest held : List ℕ)
    (fault : PcapFault) (total : ℕ) → Limit before stream early given t rest → IsStageAfter before.scope t 1 (rest ++ (byte ∷ [])) (Stopped fault)
    → (first last : Shown) → step before.scope t rest ≡ first → step before.scope t (rest ++ (byte ∷ [])) ≡ last
    → IsFed stream (early ++ (byte ∷ later)) given (Err fault) (Later before.scope (Stopped fault) total t held)
fed_limit before stream early byte later given t rest held fault total limit at (Takes n more u) last h g = absurd (limit.read.none n more u h)
fed_limit before stream early byte later given t rest held fault total limit at (Bad other) last h g =
    let same : other ≡ fault = the_fault before.scope t (rest ++ (byte ∷ [])) fault other at ((stepper before.scope).bad_stays t rest (byte ∷ []) other h) in
    let full : IsLong before.scope.length (length (stream ++ early) + 1) =
    limit_long before.scope.length (length (stream ++ early) + 1) limit.full in
    streams.fed_fault (pcap before.scope) (stepper before.scope) before.state before.held stream early (byte ∷ later) given t rest fault
    (IsStateOf (Later before.scope (Stopped fault) total t held)) limit.run.runs (limit_after before.scope.length (length (stream ++ early)) limit.full)
    (inr full) limit.read.read
    (h ∙ ap (λ (f : PcapFault). Bad f) same) (λ found. found)
fed_limit before stream early byte later given t rest held fault total limit at Wants (Bad other) h g =
    let same : other ≡ fault = the_fault before.scope t (rest ++ (byte ∷ [])) fault other at g in
    fed_full before stream early byte later given t rest held fault total limit h [] t (rest ++ (byte ∷ []))
    (reads_nothing (pcap before.scope) t (rest ++ (byte ∷ []))) (inl (g ∙ ap (λ (f : PcapFault). Bad f) same))
fed_limit before stream early byte later given t rest held fault total limit at Wants Wants h g =
    fed_full before stream early byte later given t rest held fault total limit h [] t (rest ++ (byte ∷ []))
    (reads_nothing (pcap before.scope) t (rest ++ (byte ∷ [])))
    (inr (g, too_many before.scope t (rest ++ (byte ∷ [])) fault at (wants_not_bad before.scope t (rest ++ (byte ∷ [])) g)))
fed_limit before stream early byte later given t rest held fault total limit at Wants (Takes n items u) h g =
    let late : length rest < n = (stepper before.scope).late t rest (byte ∷ []) n items u h g in
    let len : length (rest ++ (byte ∷ [])) ≡ length rest + 1 = length-append rest (byte ∷ []) in
    let none : drop n (rest ++ (byte ∷ [])) ≡ [] = drop_all n (rest ++ (byte ∷ [])) (omega (arith, late, len)) in
    fed_full before stream early byte later given t rest held fault total limit h items u (drop n (rest ++ (byte ∷ [])))
    (reads_one (pcap before.scope) t (rest ++ (byte ∷ [])) n items u g)
    (inr (
      ap (λ xs. step before.scope u xs) none ∙ (stepper before.scope).nothing u,
      too_many before.scope t (rest ++ (byte ∷ [])) fault at (takes_not_bad before.scope t (rest ++ (byte ∷ [])) n items u g),
    ))

-- the last byte that counts stands apart
fed_last : (before : PcapValue) (stream early : List ℕ) (byte : ℕ) (later : List ℕ) (given : List FrameValue) (t : State) (held : List ℕ) (fault : PcapFault)
    (total : ℕ) → IsRunning before stream → IsAtLimit before.scope.length (length (stream ++ early) + 1)
    → AreTaken before.scope before.state 1 ((before.held ++ early) ++ (byte ∷ [])) given t (Stopped fault) held
    → IsFed stream (early ++ (byte ∷ later)) given (Err fault) (Later before.scope (Stopped fault) total t held)
fed_last before stream early byte later given t held fault total run full now =
    let more : List ℕ = before.held ++ early in
    let len : length (more ++ (byte ∷ [])) - 1 ≡ length more = let all : length (more ++ (byte ∷ [])) ≡ length more + 1 = length-append more (byte ∷ []) in
    omega (arith, all) in
    let none : length more - length more ≡ 0 = omega arith in
    let first : take (length (more ++ (byte ∷ [])) - 1) (more ++ (byte ∷ [])) ≡ more = ap (λ k. take k (more ++ (byte ∷ []))) len
    ∙ take_past (length more) more (byte ∷ []) (omega arith) ∙ ap (λ k. more ++ take k (byte ∷ [])) none ∙ append-nil more in
    let back : drop (length (more ++ (byte ∷ [])) - 1) (more ++ (byte ∷ [])) ≡ byte ∷ [] = ap (λ k. drop k (more ++ (byte ∷ []))) len
    ∙ drop-append-le (length more) more (byte ∷ []) (omega arith) ∙ ap (λ xs. xs ++ (byte ∷ [])) (drop_all (length more) more (omega arith)) in
    let read : AreRead before.scope before.state more given t now.rest =
    subst (λ (xs : List ℕ). AreRead before.scope before.state xs given t now.rest) first now.read in
    let stage_is : IsStageAfter before.scope t 1 (now.rest ++ (byte ∷ [])) (Stopped fault) =
    subst (λ (xs : List ℕ). IsStageAfter before.scope t 1 (now.rest ++ xs) (Stopped fault)) back now.stage_is in
    let limit : Limit before stream early given t now.rest = record { run = run; full = full; read = read } in
    fed_limit before stream early byte later given t now.rest held fault total limit stage_is (step before.scope t now.rest)
    (step before.scope t (now.rest ++ (byte ∷ []))) refl refl

fed_up_to : (before : PcapValue) (stream early : List ℕ) (byte : ℕ) (later : List ℕ) (given : List FrameValue) (t : State) (held : List ℕ)
    (stage : Stage PcapFault)
    (total : ℕ) → IsRunning before stream → IsAtLimit before.scope.length (length stream + length early + 1)
    → AreTaken before.scope before.state 1 (before.held ++ (early ++ (byte ∷ []))) given t stage held
    → IsFed stream (early ++ (byte ∷ later)) given (answer_at stage) (Later before.scope stage total t held)
fed_up_to before stream early byte later given t held Running total run full taken = absurd (let none : 1 ≡ 0 = taken.stage_is.0 in omega (arith, none))
fed_up_to before stream early byte later given t held (Stopped fault) total run full taken =
    fed_last before stream early byte later given t held fault total run
    (subst (λ n. IsAtLimit before.scope.length (n + 1)) (sym (length-append stream early)) full)
    (subst (λ (xs : List ℕ). AreTaken before.scope before.state 1 xs given t (Stopped fault) held) (sym (append_assoc before.held early (byte ∷ []))) taken)

-- nothing comes late
record Early (scope : Scope) (s : State) (bytes : List ℕ) (given : List FrameValue) (t : State) (stage : Stage PcapFault) (held : List ℕ) : Type 0 where
  rest : List ℕ
  read : AreRead scope s bytes given t rest
  stage_is : IsStageAfter scope t 0 rest stage
  held_is : held ≡ kept_at stage rest

all_early : (scope : Scope) (s : State) (late : ℕ) (bytes : List ℕ) (given : List FrameValue) (t : State) (stage : Stage PcapFault) (held : List ℕ) → late ≡ 0
    → AreTaken scope s late bytes given t stage held → Early scope s bytes given t stage held
all_early scope s late bytes given t stage held none are =
    let all : take (length bytes - late) bytes ≡ bytes = take_all (length bytes - late) bytes (omega (arith, none)) in
    let left : are.rest ++ drop (length bytes - late) bytes ≡ are.rest =
    ap (λ xs. are.rest ++ xs) (drop_all (length bytes - late) bytes (omega (arith, none))) ∙ append-nil are.rest in record {
      rest = are.rest;
      read = subst (λ (xs : List ℕ). AreRead scope s xs given t are.rest) all are.read;
      stage_is = subst (λ (n : ℕ). IsStageAfter scope t n are.rest stage) none
          (subst (λ (xs : List ℕ). IsStageAfter scope t late xs stage) left are.stage_is);
      held_is = are.held_is;
    }

-- whichever of these
fed_taken : (before : PcapValue) (stream piece taken : List ℕ) (late : ℕ) (given : List FrameValue) (t : State) (held : List ℕ) (stage : Stage PcapFault)
    → IsRunning before stream → IsShort before.scope.length before.total → taken ≡ front_of before.scope.length before.total piece
    → late ≡ late_of before.scope.length (total_on before.scope.length before.total (length taken))
    → AreTaken before.scope before.state late (before.held ++ taken) given t stage held
    → IsFed stream piece given (answer_at stage) (Later before.scope stage (total_on before.scope.length before.total (length taken)) t held)
fed_taken before stream piece taken late given t held stage run small taken_is late_is are =
    let total : ℕ = total_on before.scope.length before.total (length taken) in
    elim (front_case before.scope.length before.total piece taken late small taken_is late_is) [
      | Whole none same short ↦
          let now : Early before.scope before.state (before.held ++ taken) given t stage held =
          all_early before.scope before.state late (before.held ++ taken) given t stage held none are in
          subst (λ (xs : List ℕ). IsFed stream xs given (answer_at stage) (Later before.scope stage total t held)) same
          (fed_below before stream taken 0 given t now.rest held stage run
          (subst (λ n. IsShort before.scope.length n) (sym (length-append stream taken)) (short (length stream) run.total_is)) refl now.read now.stage_is
          now.held_is)
      | UpTo early byte later one taken_by piece_by full ↦
          let now : AreTaken before.scope before.state 1 (before.held ++ (early ++ (byte ∷ []))) given t stage held =
          subst (λ (xs : List ℕ). AreTaken before.scope before.state 1 (before.held ++ xs) given t stage held) taken_by
          (subst (λ (n : ℕ). AreTaken before.scope before.state n (before.held ++ taken) given t stage held) one are) in
          subst (λ (xs : List ℕ). IsFed stream xs given (answer_at stage) (Later before.scope stage total t held)) (sym piece_by)
          (fed_up_to before stream early byte later given t held stage total run (full (length stream) run.total_is) now)
    ]

pub fed_call : (before : PcapValue) (stream piece taken : List ℕ) (late : ℕ) (given : List FrameValue) (t : State) (held : List ℕ) (stage : Stage PcapFault)
    (total : ℕ) → IsRunning before stream → IsShort before.scope.length before.total → taken ≡ front_of before.scope.length before.total piece
    → total ≡ total_on before.scope.length before.total (length taken) → late ≡ late_of before.scope.length total
    → AreTaken before.scope before.state late (before.held ++ taken) given t stage held
    → IsFed stream piece given (answer_at stage) (Later before.scope stage total t held)
fed_call before stream piece taken late given t held stage total run small taken_is total_is late_is are =
    subst (λ (n : ℕ). IsFed stream piece given (answer_at stage) (Later before.scope stage n t held)) (sym total_is)
    (fed_taken before stream piece taken late given t held stage run small taken_is (late_is ∙ ap (late_of before.scope.length) total_is) are)

-- What holds of the reader after a call.

-- what is neither a record nor too long is short
short_rest : (header : FileHeader) (rest : List ℕ) → (HasRecord header rest → ⊥) → (HasLongRecord header rest → ⊥) → length rest ≤ 262159
short_rest header rest part short = elim (cases_lt (length rest) 262160) [
  | inl few ↦ omega (arith, few)
  | inr many ↦ elim (cases_lt 262144 (caplen_at header rest)) [
    | inl long ↦ absurd (short (record { head = omega (arith, many); long = long }))
    | inr small ↦ absurd (part (record { short = small; whole = omega (arith, small, many) }))
  ]
]

few_held : (scope : Scope) (t : State) (rest : List ℕ) → step scope t rest ≡ Wants → length rest ≤ 262159
few_held scope t rest wants = elim (part_of scope t rest wants) [
  | OfHeader none short nothing ↦ omega (arith, short)
  | OfRecord header some never long ↦ short_rest header rest never long
]

not_memory : (scope : Scope) (t : State) (rest : List ℕ) → step scope t rest ≡ Bad Memory → ⊥
not_memory scope t rest h = elim (broken scope t rest Memory h) [
  | InHeader none it ↦ it
  | TooLong header some it is ↦ no t.count is
] where
  no : (k : ℕ) → Memory ≡ FrameTooLong k → ⊥
  no k e = cc

stage_fault : (scope : Scope) (t : State) (late : ℕ) (rest : List ℕ) (fault : PcapFault) → IsStageAfter scope t late rest (Stopped fault) → fault ≡ Memory → ⊥
stage_fault scope t late rest fault (inl bad) is = not_memory scope t rest (bad ∙ ap (λ (f : PcapFault). Bad f) is)
stage_fault scope t late rest fault (inr many) is = let no : TooManyBytes ≡ Memory = sym many.1 ∙ is in cc

counted_on : (l : Length) (total frames had taken given count held : ℕ) → IsCounted l total frames had → count ≡ count_on l frames given
    → 16 * given + held ≤ had + taken → IsCounted l (total_on l total taken) count held
counted_on Any total frames had taken given count held before count_is fits = tt
counted_on Limited total frames had taken given count held before count_is fits = omega (arith, before, count_is, fits)

short_on : (l : Length) (total taken : ℕ) → IsShort l (total + taken) → IsShort l (total_on l total taken)
short_on Any total taken h = tt
short_on Limited total taken h = h

sound_running : (before : PcapValue) (taken : List ℕ) (given : List FrameValue) (t : State) (held : List ℕ)
    → IsShort before.scope.length (before.total + length taken)
    → IsCounted before.scope.length before.total before.state.count (length before.held)
    → Early before.scope before.state (before.held ++ taken) given t Running held
    → IsSound (Later before.scope Running (total_on before.scope.length before.total (length taken)) t held)
sound_running before taken given t held small had now =
    let bytes : List ℕ = before.held ++ taken in
    let read = now.read in
    let wants : step before.scope t now.rest ≡ Wants = wants_of before.scope t now.rest (step before.scope t now.rest) refl read.none now.stage_is.1 in
    let fits = sizes (pcap before.scope) (stepper before.scope) before.state read.read.parts bytes t now.rest read.read.units in
    let items = ap length read.read.items_are in
    let count : t.count ≡ count_on before.scope.length before.state.count (length given) =
    reads_count (pcap before.scope) (stepper before.scope) before.state bytes given t now.rest read.read in
    let len : length bytes ≡ length before.held + length taken = length-append before.held taken in
    let few : length now.rest ≤ 262159 = few_held before.scope t now.rest wants in
    let same : length held ≡ length now.rest = ap length now.held_is in (
      short_on before.scope.length before.total (length taken) small,
      counted_on before.scope.length before.total before.state.count (length before.held) (length taken) (length given) t.count (length held) had count
          (omega (arith, fits, items, len, same)),
      omega (arith, few, same),
    )

sound_taken : (before : PcapValue) (piece taken : List ℕ) (late : ℕ) (given : List FrameValue) (t : State) (held : List ℕ) (stage : Stage PcapFault)
    → IsSoundAt Running before → taken ≡ front_of before.scope.length before.total piece
    → late ≡ late_of before.scope.length (total_on before.scope.length before.total (length taken))
    → AreTaken before.scope before.state late (before.held ++ taken) given t stage held
    → IsSound (Later before.scope stage (total_on before.scope.length before.total (length taken)) t held)
sound_taken before piece taken late given t held (Stopped fault) sound taken_is late_is are =
    (stage_fault before.scope t late (are.rest ++ drop (length (before.held ++ taken) - late) (before.held ++ taken)) fault are.stage_is, are.held_is)
sound_taken before piece taken late given t held Running sound taken_is late_is are =
    elim (front_case before.scope.length before.total piece taken late sound.0 taken_is late_is) [
      | Whole none same short ↦ sound_running before taken given t held (short before.total (total_self before.scope.length before.total)) sound.1
          (all_early before.scope before.state late (before.held ++ taken) given t Running held none are)
      | UpTo early byte later one taken_by piece_by full ↦ absurd (let none : late ≡ 0 = are.stage_is.0 in omega (arith, none, one))
    ]

pub sound_call : (before : PcapValue) (piece taken : List ℕ) (late : ℕ) (given : List FrameValue) (t : State) (held : List ℕ) (stage : Stage PcapFault)
    (total : ℕ)
    → IsSoundAt Running before → taken ≡ front_of before.scope.length before.total piece
    → total ≡ total_on before.scope.length before.total (length taken) → late ≡ late_of before.scope.length total
    → AreTaken before.scope before.state late (before.held ++ taken) given t stage held → IsSound (Later before.scope stage total t held)
sound_call before piece taken late given t held stage total sound taken_is total_is late_is are =
    subst (λ (n : ℕ). IsSound (Later before.scope stage n t held)) (sym total_is)
    (sound_taken before piece taken late given t held stage sound taken_is (late_is ∙ ap (late_of before.scope.length) total_is) are)

-- The other calls.

-- one that runs has found none
pub not_found : (reader : PcapValue) (stream : List ℕ) (fault : PcapFault) → reader.stage ≡ Running → IsStateOf reader stream
    → IsFound reader.scope stream fault → ⊥
not_found reader stream fault is state found =
    let run = at_running (pcap reader.scope) stream reader.stage (IsRunning reader stream) is state in
    streams.runs_none (pcap reader.scope) reader.state reader.held stream fault run.runs found

pub new_runs : (scope : Scope) (held : List ℕ) → held ≡ [] → IsRunning (Later scope Running 0 (pcap scope).start held) []
new_runs scope held none =
    record {
      total_is = total_self scope.length 0;
      runs = subst (λ (xs : List ℕ). Runs (pcap scope) (pcap scope).start xs []) (sym none) (streams.runs_new (pcap scope) (stepper scope));
    }

pub ended_within : (reader : PcapValue) (stream : List ℕ) (count : ℕ) → reader.stage ≡ Running → (0 < length reader.held)
    ⊎ (is_some reader.state.header ≡ false) → count ≡ reader.state.count → IsStateOf reader stream → IsEnded reader.scope stream (Err (Cut count))
ended_within reader stream count is left count_is state =
    let run = at_running (pcap reader.scope) stream reader.stage (IsRunning reader stream) is state in
    streams.ended_cut (pcap reader.scope) reader.state reader.held stream (Cut count) run.runs left (ap (λ n. Cut n) count_is)

pub ended_whole : (reader : PcapValue) (stream : List ℕ) (count : ℕ) → reader.stage ≡ Running → reader.held ≡ [] → is_some reader.state.header ≡ true
    → count ≡ reader.state.count → IsStateOf reader stream → IsEnded reader.scope stream (Ok count)
ended_whole reader stream count is empty some count_is state =
    let run = at_running (pcap reader.scope) stream reader.stage (IsRunning reader stream) is state in
    streams.ended_whole (pcap reader.scope) (stepper reader.scope) reader.state reader.held stream count run.runs empty some count_is
