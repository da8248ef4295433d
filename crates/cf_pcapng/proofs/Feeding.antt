-- What a call that takes one more piece gives and answers, and what the end of a stream answers.
use Rattle.std.proofs.Common.{◌≡◌, ◌⊎◌, inl, inr, ℕ, ◌<◌, ◌≤◌, ◌+◌, ◌-◌, ◌^◌, min, true, false, Bool, List, [], ◌∷◌, ◌++◌, length, Option, Some, None, Ok, Err, is_some, refl, sym, ap, subst, ◌∙◌, arith, append_assoc, append-nil, length-append, length-take, length-drop}
use Rattle.std.proofs.lemmas.List.{take-append-drop}
use Rattle.cf_pcap.specs.declared.scope.Scope.{Scope}
use Rattle.cf_pcap.specs.declared.form.Order.{Order}
use Rattle.cf_pcap.specs.Capture.{FrameValue}
use Rattle.cf_pcap.specs.declared.limit.Length.{Length}
use Rattle.cf_pcap.specs.declared.limit.Length.TheVariants.{Limited, Any}
use Rattle.cf_pcap.specs.Limits.{IsShort, IsLong, IsAtLimit, HasRoom, IsTotal, total_on}
use Rattle.cf_pcap.proofs.Limits.{limit_long, total_same}
use Rattle.cf_pcap.specs.Format.{Wants, Bad, ReadsTo, IsFound}
use Rattle.cf_pcap.specs.Streams.{Runs}
use Rattle.cf_pcap.proofs.FormatFeeding as streams
use Rattle.cf_pcapng.specs.declared.fault.Flaw.{Flaw}
use Rattle.cf_pcapng.specs.declared.fault.Flaw.TheVariants.{BadMagic, BadVersion, BadLink, FrameTooLong, BadLength, NoInterface, TooManyInterfaces}
use Rattle.cf_pcapng.specs.declared.fault.NgFault.{NgFault}
use Rattle.cf_pcapng.specs.declared.fault.NgFault.TheVariants.{Cut, TooManyBytes, Memory}
use Rattle.cf_pcap.specs.declared.stage.Stage.{Stage}
use Rattle.cf_pcap.specs.declared.stage.Stage.TheVariants.{Running, Stopped}
use Rattle.cf_pcapng.specs.declared.passed.Passed.{Passed}
use Rattle.cf_pcapng.specs.File.{State, fault_of, step, pcapng}
use Rattle.cf_pcapng.specs.Position.{listed, PositionValue, state_of}
use Rattle.cf_pcapng.specs.Reading.{WasPassed, Begins, Breaks, AreReadOn, FitsIn, early_bytes, late_bytes, AreFew, IsGoneOn, MayGoOn, StaysWithin}
use Rattle.cf_pcap.specs.Stages.{IsAt, answer_at, kept_at}
use Rattle.cf_pcap.proofs.Stages.{at_running}
use Rattle.cf_pcapng.specs.Reader.{PcapNgValue, IsRunning, IsStateOf, IsFed, IsEnded, IsSoundAt, IsSound, IsCalled, state_after, ShowsLate, IsStageAtLimit, IsStageAfter}
use Rattle.cf_pcapng.specs.declared.interfaces.Interface.{Interface}
use Rattle.cf_pcapng.specs.declared.position.Reached.{Reached}
use Rattle.cf_pcapng.specs.declared.head.BlockKind.{BlockKind}
use Rattle.cf_pcapng.specs.declared.head.BlockKind.TheVariants.{Other}
use Rattle.cf_pcapng.specs.declared.head.BlockHead.TheVariants.{Short, Stands}
use Rattle.cf_pcapng.specs.Blocks.{head_of}
use Rattle.cf_pcap.proofs.FormatUnits.{reads_nothing}
use Rattle.cf_pcapng.proofs.Heads.{standing, at_most, head_stays}
use Rattle.cf_pcapng.proofs.Steps.{stepper, step_at, found_short}

-- the reader after a call
abbrev Later : Scope → Stage NgFault → ℕ → State → Option Passed → List ℕ → PcapNgValue
Later scope stage total t passed held = record { scope = scope; stage = stage; total = total; state = t; passed = passed; held = kept_at stage held }

regroup : (a b c : List ℕ) → a ++ (b ++ c) ≡ (a ++ b) ++ c
regroup a b c = sym (append_assoc a b c)

-- the two parts of a piece
both_parts : (l : Length) (total : ℕ) (piece : List ℕ) → early_bytes l total piece ++ late_bytes l total piece ≡ piece
both_parts Any total piece = append-nil piece
both_parts Limited total piece = take-append-drop (2 ^ 32 - 1 - total) piece

early_short : (l : Length) (total n : ℕ) (piece early : List ℕ) → IsShort l total → IsTotal l total n → early ≡ early_bytes l total piece
    → IsShort l (n + length early)
early_short Any total n piece early small is early_is = tt
early_short Limited total n piece early small is early_is =
    let size : length early ≡ min (2 ^ 32 - 1 - total) (length piece) = ap length early_is ∙ length-take (2 ^ 32 - 1 - total) piece in
    omega (arith, size, small, is)

late_limit : (l : Length) (total n : ℕ) (piece early : List ℕ) (byte : ℕ) (late : List ℕ) → IsShort l total → IsTotal l total n
    → early ≡ early_bytes l total piece → (byte ∷ late) ≡ late_bytes l total piece → IsAtLimit l (n + length early + 1)
late_limit Any total n piece early byte late small is early_is late_is = let none : length (byte ∷ late) ≡ 0 = ap length late_is in
    absurd (omega (arith, none))
late_limit Limited total n piece early byte late small is early_is late_is =
    let size : length early ≡ min (2 ^ 32 - 1 - total) (length piece) = ap length early_is ∙ length-take (2 ^ 32 - 1 - total) piece in
    let left : length (byte ∷ late) ≡ length piece - (2 ^ 32 - 1 - total) = ap length late_is ∙ length-drop (2 ^ 32 - 1 - total) piece in
    omega (arith, size, left, small, is)

total_more : (l : Length) (total n more after : ℕ) → IsTotal l total n → after ≡ total_on l total more → IsTotal l after (n + more)
total_more Any total n more after is after_is = tt
total_more Limited total n more after is after_is = omega (arith, is, after_is)

total_first : (l : Length) (total : ℕ) → total ≡ 0 → IsTotal l total 0
total_first Any total is = tt
total_first Limited total is = is

short_after : (l : Length) (total : ℕ) (piece early : List ℕ) (after : ℕ) → IsShort l total → early ≡ early_bytes l total piece
    → after ≡ total_on l total (length early) → IsShort l after
short_after Any total piece early after small early_is after_is = tt
short_after Limited total piece early after small early_is after_is =
    let size : length early ≡ min (2 ^ 32 - 1 - total) (length piece) = ap length early_is ∙ length-take (2 ^ 32 - 1 - total) piece in
    omega (arith, size, small, after_is)

fits_after : (l : Length) (total frames held early count kept after : ℕ) → FitsIn l (frames + held) total → FitsIn l (count + kept) (frames + (held + early))
    → after ≡ total_on l total early → FitsIn l (count + kept) after
fits_after Any total frames held early count kept after had on after_is = tt
fits_after Limited total frames held early count kept after had on after_is = omega (arith, had, on, after_is)

byte_room : (l : Length) (total frames held count kept : ℕ) (piece early : List ℕ) → IsShort l total → FitsIn l (frames + held) total
    → early ≡ early_bytes l total piece → FitsIn l (count + kept) (frames + (held + length early)) → HasRoom l (count + kept + 1)
byte_room Any total frames held count kept piece early small had early_is on = tt
byte_room Limited total frames held count kept piece early small had early_is on =
    let size : length early ≡ min (2 ^ 32 - 1 - total) (length piece) = ap length early_is ∙ length-take (2 ^ 32 - 1 - total) piece in
    omega (arith, size, small, had, on)

-- no more bytes are taken than there is room for
pub room_for : (l : Length) (total frames held : ℕ) (piece early : List ℕ) → IsShort l total → FitsIn l (frames + held) total
    → early ≡ early_bytes l total piece → HasRoom l (frames + (held + length early)) × HasRoom l (total + length early)
room_for Any total frames held piece early small had early_is = (tt, tt)
room_for Limited total frames held piece early small had early_is =
    let size : length early ≡ min (2 ^ 32 - 1 - total) (length piece) = ap length early_is ∙ length-take (2 ^ 32 - 1 - total) piece in
    (omega (arith, size, small, had), omega (arith, size, small))

-- a call of which some bytes come early enough
record Call (before : PcapNgValue) (stream piece early late : List ℕ) : Type 0 where
  run : IsRunning before stream
  early_is : early ≡ early_bytes before.scope.length before.total piece
  late_is : late ≡ late_bytes before.scope.length before.total piece
  small : IsShort before.scope.length before.total

whole_piece : (before : PcapNgValue) (stream piece early late : List ℕ) → Call before stream piece early late → early ++ late ≡ piece
whole_piece before stream piece early late call =
    ap (λ xs. xs ++ late) call.early_is
    ∙ ap (λ xs. early_bytes before.scope.length before.total piece ++ xs) call.late_is
    ∙ both_parts before.scope.length before.total piece

early_fits : (before : PcapNgValue) (stream piece early late : List ℕ) → Call before stream piece early late
    → IsShort before.scope.length (length (stream ++ early))
early_fits before stream piece early late call =
    subst (λ n. IsShort before.scope.length n) (sym (length-append stream early))
    (early_short before.scope.length before.total (length stream) piece early call.small call.run.total_is call.early_is)

late_full : (before : PcapNgValue) (stream piece early : List ℕ) (byte : ℕ) (late : List ℕ) → Call before stream piece early (byte ∷ late)
    → IsAtLimit before.scope.length (length (stream ++ early) + 1)
late_full before stream piece early byte late call =
    subst (λ n. IsAtLimit before.scope.length (n + 1)) (sym (length-append stream early))
    (late_limit before.scope.length before.total (length stream) piece early byte late call.small call.run.total_is call.early_is call.late_is)

total_after : (before : PcapNgValue) (stream piece early late : List ℕ) (total : ℕ) → Call before stream piece early late
    → total ≡ total_on before.scope.length before.total (length early) → IsTotal before.scope.length total (length (stream ++ early))
total_after before stream piece early late total call is =
    total_same before.scope.length total (length stream + length early) (length (stream ++ early)) (sym (length-append stream early))
    (total_more before.scope.length before.total (length stream) (length early) total call.run.total_is is)

-- where no flaw was found, and nothing comes late
fed_running : (before : PcapNgValue) (stream piece early : List ℕ) (given : List FrameValue) (t : State) (passed : Option Passed) (held : List ℕ) (total : ℕ)
    → (call : Call before stream piece early []) → Begins before.scope before.state ((call.run.gone ++ before.held) ++ early) given t passed held
    → total ≡ total_on before.scope.length before.total (length early) → IsFed stream piece given (Ok tt) (Later before.scope Running total t passed held)
fed_running before stream piece early given t passed held total call on is =
    let later : PcapNgValue = Later before.scope Running total t passed held in
    let same : early ≡ piece = sym (append-nil early) ∙ whole_piece before stream piece early [] call in
    let fed : IsFed stream early given (Ok tt) later =
    streams.fed_short (pcapng before.scope) (stepper before.scope) before.state (call.run.gone ++ before.held) stream early given t (on.gone ++ held)
    (IsStateOf later) call.run.runs (early_fits before stream piece early [] call) on.read on.part
    (λ runs. record { total_is = total_after before stream piece early [] total call is; gone = on.gone; was = on.was; runs = runs }) in
    subst (λ (xs : List ℕ). IsFed stream xs given (Ok tt) later) same fed

-- where a flaw was found
fed_flaw : (before : PcapNgValue) (stream piece early late : List ℕ) (given : List FrameValue) (t : State) (passed : Option Passed) (held : List ℕ)
    (flaw : Flaw) (total : ℕ) → (call : Call before stream piece early late)
    → Breaks before.scope before.state ((call.run.gone ++ before.held) ++ early) given t flaw → (late ≡ [])
    ⊎ IsLong before.scope.length (length (stream ++ early) + 1)
    → IsFed stream piece given (Err (fault_of t.count flaw)) (Later before.scope (Stopped (fault_of t.count flaw)) total t passed held)
fed_flaw before stream piece early late given t passed held flaw total call on last =
    let fault : NgFault = fault_of t.count flaw in
    let later : PcapNgValue = Later before.scope (Stopped fault) total t passed held in
    let fed : IsFed stream (early ++ late) given (Err fault) later =
    streams.fed_fault (pcapng before.scope) (stepper before.scope) before.state (call.run.gone ++ before.held) stream early late given t on.rest fault
    (IsStateOf later) call.run.runs (early_fits before stream piece early late call) last on.read on.bad (λ found. found) in
    subst (λ (xs : List ℕ). IsFed stream xs given (Err fault) later) (whole_piece before stream piece early late call) fed

-- where a byte comes that makes the stream 2^32 bytes long
fed_limit : (before : PcapNgValue) (stream piece early : List ℕ) (byte : ℕ) (late : List ℕ) (given : List FrameValue) (t : State) (passed : Option Passed)
    (held : List ℕ) (total : ℕ) (fault : NgFault) (more : List FrameValue) (u : State) (left : List ℕ) → (call : Call before stream piece early (byte ∷ late))
    → (on : Begins before.scope before.state ((call.run.gone ++ before.held) ++ early) given t passed held)
    → ReadsTo (pcapng before.scope) t ((on.gone ++ held) ++ (byte ∷ [])) more u left → (step before.scope u left ≡ Bad fault)
    ⊎ ((step before.scope u left ≡ Wants) × (fault ≡ TooManyBytes))
    → IsFed stream piece given (Err fault) (Later before.scope (Stopped fault) total t passed held)
fed_limit before stream piece early byte late given t passed held total fault more u left call on read shown =
    let later : PcapNgValue = Later before.scope (Stopped fault) total t passed held in
    let fed : IsFed stream (early ++ (byte ∷ late)) given (Err fault) later =
    streams.fed_full (pcapng before.scope) (stepper before.scope) before.state (call.run.gone ++ before.held) stream early byte late given t
    (on.gone ++ held) more u left fault (IsStateOf later) call.run.runs (late_full before stream piece early byte late call) on.read on.part read shown
    (λ found. found) in
    subst (λ (xs : List ℕ). IsFed stream xs given (Err fault) later) (whole_piece before stream piece early (byte ∷ late) call) fed

limit_by : (before : PcapNgValue) (stream piece early : List ℕ) (byte : ℕ) (late : List ℕ) (given : List FrameValue) (t : State) (passed : Option Passed)
    (held : List ℕ) (total : ℕ) (fault : NgFault) (flaw : Option Flaw) (u : State) → (call : Call before stream piece early (byte ∷ late))
    → (on : Begins before.scope before.state ((call.run.gone ++ before.held) ++ early) given t passed held) → ShowsLate flaw u fault
    → (more : List FrameValue) (block : Option Passed) (rest : List ℕ) → AreReadOn before.scope t (on.gone ++ (held ++ (byte ∷ []))) more u block rest flaw
    → IsFed stream piece given (Err fault) (Later before.scope (Stopped fault) total t passed held)
limit_by before stream piece early byte late given t passed held total fault None u call on shows more block rest last =
    fed_limit before stream piece early byte late given t passed held total fault more u (last.gone ++ rest) call on
    (subst (λ (xs : List ℕ). ReadsTo (pcapng before.scope) t xs more u (last.gone ++ rest)) (regroup on.gone held (byte ∷ [])) last.read)
    (inr (last.part, shows))
limit_by before stream piece early byte late given t passed held total fault (Some flaw) u call on shows more block rest last =
    fed_limit before stream piece early byte late given t passed held total fault more u last.rest call on
    (subst (λ (xs : List ℕ). ReadsTo (pcapng before.scope) t xs more u last.rest) (regroup on.gone held (byte ∷ [])) last.read)
    (inl (last.bad ∙ ap (λ (f : NgFault). Bad f) (sym shows)))

fed_late : (before : PcapNgValue) (stream piece early : List ℕ) (byte : ℕ) (late : List ℕ) (given : List FrameValue) (t : State) (passed : Option Passed)
    (held : List ℕ) (total : ℕ) (stage : Stage NgFault) → (call : Call before stream piece early (byte ∷ late))
    → (on : Begins before.scope before.state ((call.run.gone ++ before.held) ++ early) given t passed held)
    → IsStageAtLimit before.scope t passed held (byte ∷ []) stage → IsFed stream piece given (answer_at stage) (Later before.scope stage total t passed held)
fed_late before stream piece early byte late given t passed held total stage call on at =
    let last = at.read on.gone on.was in
    let fed : IsFed stream piece given (Err at.fault) (Later before.scope (Stopped at.fault) total t passed held) =
    limit_by before stream piece early byte late given t passed held total at.fault at.flaw at.last call on at.shows last.0 last.1 last.2 last.3 in
    subst (λ (x : Stage NgFault). IsFed stream piece given (answer_at x) (Later before.scope x total t passed held)) (sym at.stage_is) fed

-- whichever of these
fed_case : (before : PcapNgValue) (stream piece early late : List ℕ) (given : List FrameValue) (t : State) (passed : Option Passed) (held : List ℕ)
    (flaw : Option Flaw) (total : ℕ) (stage : Stage NgFault) → (call : Call before stream piece early late)
    → AreReadOn before.scope before.state ((call.run.gone ++ before.held) ++ early) given t passed held flaw
    → IsStageAfter before.scope t passed held flaw late stage → total ≡ total_on before.scope.length before.total (length early)
    → IsFed stream piece given (answer_at stage) (Later before.scope stage total t passed held)
fed_case before stream piece early [] given t passed held None total stage call on at is =
    subst (λ (x : Stage NgFault). IsFed stream piece given (answer_at x) (Later before.scope x total t passed held)) (sym at)
    (fed_running before stream piece early given t passed held total call on is)
fed_case before stream piece early (byte ∷ late) given t passed held None total stage call on at is =
    fed_late before stream piece early byte late given t passed held total stage call on at
fed_case before stream piece early [] given t passed held (Some flaw) total stage call on at is =
    subst (λ (x : Stage NgFault). IsFed stream piece given (answer_at x) (Later before.scope x total t passed held)) (sym at)
    (fed_flaw before stream piece early [] given t passed held flaw total call on (inl refl))
fed_case before stream piece early (byte ∷ late) given t passed held (Some flaw) total stage call on at is =
    let full : IsLong before.scope.length (length (stream ++ early) + 1) =
    limit_long before.scope.length (length (stream ++ early) + 1) (late_full before stream piece early byte late call) in
    subst (λ (x : Stage NgFault). IsFed stream piece given (answer_at x) (Later before.scope x total t passed held)) (sym at)
    (fed_flaw before stream piece early (byte ∷ late) given t passed held flaw total call on (inr full))

-- What holds of the reader after a call.

flaw_is_fault : (k : ℕ) (flaw : Flaw) → fault_of k flaw ≡ Memory → ⊥
flaw_is_fault k BadMagic h = cc
flaw_is_fault k BadVersion h = cc
flaw_is_fault k BadLink h = cc
flaw_is_fault k FrameTooLong h = cc
flaw_is_fault k BadLength h = cc
flaw_is_fault k NoInterface h = cc
flaw_is_fault k TooManyInterfaces h = cc

late_is_fault : (flaw : Option Flaw) (t : State) (fault : NgFault) → ShowsLate flaw t fault → fault ≡ Memory → ⊥
late_is_fault None t fault shows h = let no : TooManyBytes ≡ Memory = sym shows ∙ h in cc
late_is_fault (Some flaw) t fault shows h = flaw_is_fault t.count flaw (sym shows ∙ h)

sound_stopped : (scope : Scope) (fault : NgFault) (total : ℕ) (t : State) (passed : Option Passed) (held : List ℕ) → (fault ≡ Memory → ⊥)
    → AreFew scope.length t.interfaces → IsSound (Later scope (Stopped fault) total t passed held)
sound_stopped scope fault total t passed held h few = ((h, refl), few)

sound_case : (before : PcapNgValue) (early late : List ℕ) (t : State) (passed : Option Passed) (held : List ℕ) (flaw : Option Flaw) (total : ℕ)
    (stage : Stage NgFault) → FitsIn before.scope.length (before.state.count + length before.held) before.total → IsShort before.scope.length total
    → IsGoneOn before.scope.length before.state (length (before.held ++ early)) t passed held flaw → IsStageAfter before.scope t passed held flaw late stage
    → total ≡ total_on before.scope.length before.total (length early) → IsSound (Later before.scope stage total t passed held)
sound_case before early [] t passed held None total stage had small on at is =
    let l : Length = before.scope.length in
    let fits : FitsIn l (t.count + length held) (before.state.count + (length before.held + length early)) =
    subst (λ n. FitsIn l (t.count + length held) (before.state.count + n)) (length-append before.held early) on.fits in
    subst (λ (x : Stage NgFault). IsSound (Later before.scope x total t passed held)) (sym at) (
      (
        small,
        fits_after l before.total before.state.count (length before.held) (length early) t.count (length held) total had fits is,
        on.few,
        on.room,
      ),
      on.interfaces,
    )
sound_case before early (byte ∷ late) t passed held None total stage had small on at is =
    subst (λ (x : Stage NgFault). IsSound (Later before.scope x total t passed held)) (sym at.stage_is)
    (sound_stopped before.scope at.fault total t passed held (late_is_fault at.flaw at.last at.fault at.shows) on.interfaces)
sound_case before early [] t passed held (Some flaw) total stage had small on at is =
    subst (λ (x : Stage NgFault). IsSound (Later before.scope x total t passed held)) (sym at)
    (sound_stopped before.scope (fault_of t.count flaw) total t passed held (flaw_is_fault t.count flaw) on)
sound_case before early (byte ∷ late) t passed held (Some flaw) total stage had small on at is =
    subst (λ (x : Stage NgFault). IsSound (Later before.scope x total t passed held)) (sym at)
    (sound_stopped before.scope (fault_of t.count flaw) total t passed held (flaw_is_fault t.count flaw) on)

-- room for one more byte
pub may_go_on : (before : PcapNgValue) (piece early : List ℕ) (t : State) (passed : Option Passed) (held : List ℕ) (flaw : Option Flaw)
    → IsShort before.scope.length before.total → FitsIn before.scope.length (before.state.count + length before.held) before.total
    → early ≡ early_bytes before.scope.length before.total piece
    → IsGoneOn before.scope.length before.state (length (before.held ++ early)) t passed held flaw → MayGoOn before.scope.length t passed held flaw
may_go_on before piece early t passed held (Some flaw) small had early_is on = tt
may_go_on before piece early t passed held None small had early_is on =
    let l : Length = before.scope.length in
    let fits : FitsIn l (t.count + length held) (before.state.count + (length before.held + length early)) =
    subst (λ n. FitsIn l (t.count + length held) (before.state.count + n)) (length-append before.held early) on.fits in (
      on.room,
      byte_room l before.total before.state.count (length before.held) t.count (length held) piece early small had early_is fits,
      on.interfaces,
    )

-- a call that takes a piece
pub called : (before : PcapNgValue) (piece early late bytes : List ℕ) (given : List FrameValue) (s t : State) (passed : Option Passed) (held kept : List ℕ)
    (flaw : Option Flaw) (total : ℕ) (stage : Stage NgFault) → before.stage ≡ Running → IsSound before
    → early ≡ early_bytes before.scope.length before.total piece → late ≡ late_bytes before.scope.length before.total piece
    → bytes ≡ before.held ++ early → s ≡ before.state
    → ((gone : List ℕ) → WasPassed s.order before.passed gone → AreReadOn before.scope s (gone ++ bytes) given t passed held flaw)
    → IsGoneOn before.scope.length s (length bytes) t passed held flaw → IsStageAfter before.scope t passed held flaw late stage
    → total ≡ total_on before.scope.length before.total (length early)
    → kept ≡ kept_at stage held
    → IsCalled before piece given (record { scope = before.scope; stage = stage; total = total; state = t; passed = passed; held = kept })
called before piece early late bytes given s t passed held kept flaw total stage running sound early_is late_is bytes_is s_is read on at total_is kept_is =
    let had = subst (λ (x : Stage NgFault). IsSoundAt x before) running sound.0 in
    let small : IsShort before.scope.length before.total = had.0 in
    let reads : (gone : List ℕ) → WasPassed before.state.order before.passed gone
    → AreReadOn before.scope before.state ((gone ++ before.held) ++ early) given t passed held flaw =
    λ gone was.
    let first : AreReadOn before.scope before.state (gone ++ bytes) given t passed held flaw =
    subst (λ (x : State). AreReadOn before.scope x (gone ++ bytes) given t passed held flaw) s_is
    (read gone (subst (λ (x : State). WasPassed x.order before.passed gone) (sym s_is) was)) in
    subst (λ (xs : List ℕ). AreReadOn before.scope before.state xs given t passed held flaw) (regroup gone before.held early)
    (subst (λ (xs : List ℕ). AreReadOn before.scope before.state (gone ++ xs) given t passed held flaw) bytes_is first) in
    let gone_on : IsGoneOn before.scope.length before.state (length (before.held ++ early)) t passed held flaw =
    subst (λ (xs : List ℕ). IsGoneOn before.scope.length before.state (length xs) t passed held flaw) bytes_is
    (subst (λ (x : State). IsGoneOn before.scope.length x (length bytes) t passed held flaw) s_is on) in
    let done : IsCalled before piece given (Later before.scope stage total t passed held) = (
      sound_case before early late t passed held flaw total stage had.1
          (short_after before.scope.length before.total piece early total small early_is total_is) gone_on at total_is,
      λ stream run.
          let call : Call before stream piece early late = record { run = run; early_is = early_is; late_is = late_is; small = small } in
          fed_case before stream piece early late given t passed held flaw total stage call (reads run.gone run.was) at total_is,
    ) in
    subst (λ (xs : List ℕ). IsCalled before piece given (record { scope = before.scope; stage = stage; total = total; state = t; passed = passed; held = xs }))
    (sym kept_is) done

-- A piece within a block that is read.

empty_late : (late : List ℕ) → length late ≡ 0 → late ≡ []
empty_late [] h = refl
empty_late (byte ∷ late) h = absurd (omega (arith, h))

same_fits : (l : Length) (n m k : ℕ) → n ≡ m → FitsIn l (k + n) (k + m)
same_fits Any n m k h = tt
same_fits Limited n m k h = omega (arith, h)

within_short : (section : Option Order) (passed : Option Passed) (held more : List ℕ) → StaysWithin section passed held more
    → length (held ++ more) < 2 ^ 20
within_short section passed held more h =
    let most : h.total ≤ 2 ^ 20 = at_most h.kind h.total (standing section held h.order h.kind h.total h.head).lawful h.read in
    let len : length (held ++ more) ≡ length held + length more = length-append held more in
    let short : length held + length more < h.total = h.short in
    omega (arith, most, len, short)

within_wants : (scope : Scope) (s : State) (passed : Option Passed) (held more : List ℕ) → StaysWithin s.order passed held more
    → step scope s (held ++ more) ≡ Wants
within_wants scope s passed held more h =
    let same : head_of s.order (held ++ more) ≡ Stands h.order h.kind h.total =
    head_stays s.order held more (λ e. no h.order h.kind h.total (sym e ∙ h.head)) ∙ h.head in
    let len : length (held ++ more) ≡ length held + length more = length-append held more in
    let short : length held + length more < h.total = h.short in
    step_at scope s (held ++ more) (Stands h.order h.kind h.total) same
    ∙ found_short scope s (held ++ more) h.order h.kind h.total (omega (arith, len, short)) where
      no : (order : Order) (kind : BlockKind) (total : ℕ) → Short ≡ Stands order kind total → ⊥
      no order kind total e = cc

begins_within : (scope : Scope) (s : State) (passed : Option Passed) (held more : List ℕ) → StaysWithin s.order passed held more → (gone : List ℕ)
    → WasPassed s.order passed gone → Begins scope s (gone ++ (held ++ more)) [] s passed (held ++ more)
begins_within scope s passed held more h gone was =
    let none : gone ≡ [] = subst (λ (p : Option Passed). WasPassed s.order p gone) h.none was in
    let bytes : gone ++ (held ++ more) ≡ held ++ more = ap (λ xs. xs ++ (held ++ more)) none in
    record {
      gone = gone;
      was = was;
      read = reads_nothing (pcapng scope) s (gone ++ (held ++ more));
      part = ap (λ xs. step scope s xs) bytes ∙ within_wants scope s passed held more h;
      few = within_short s.order passed held more h;
    }

pub kept_within : (before : PcapNgValue) (piece early late kept : List ℕ) (total : ℕ) → before.stage ≡ Running → IsSound before
    → early ≡ early_bytes before.scope.length before.total piece → late ≡ late_bytes before.scope.length before.total piece → length late ≡ 0
    → StaysWithin before.state.order before.passed before.held early → total ≡ total_on before.scope.length before.total (length early)
    → kept ≡ before.held ++ early
    → IsCalled before piece [] (record { scope = before.scope; stage = before.stage; total = total; state = before.state; passed = before.passed; held = kept })
kept_within before piece early late kept total running sound early_is late_is none within total_is kept_is =
    let l : Length = before.scope.length in
    let had = subst (λ (x : Stage NgFault). IsSoundAt x before) running sound.0 in
    let on : IsGoneOn l before.state (length (before.held ++ early)) before.state before.passed (before.held ++ early) None = record {
      fits = same_fits l (length (before.held ++ early)) (length (before.held ++ early)) before.state.count refl;
      room = had.3;
      few = within_short before.state.order before.passed before.held early within;
      interfaces = sound.1;
    } in
    subst (λ (x : Stage NgFault). IsCalled before piece []
    (record { scope = before.scope; stage = x; total = total; state = before.state; passed = before.passed; held = kept })) (sym running)
    (called before piece early [] (before.held ++ early) [] before.state before.state before.passed (before.held ++ early) kept None total Running
    running sound early_is (sym (empty_late late none) ∙ late_is) refl refl
    (begins_within before.scope before.state before.passed before.held early within) on refl total_is kept_is)

-- a state by its parts
abbrev state_by : Option Order → List Interface → Bool → List Interface → ℕ → State
state_by order had anew came count = record { order = order; interfaces = listed had anew came; count = count }

-- the state that a piece brings a reader to, by the position at its end
pub reached_is : (had : List Interface) (reached : Reached) (p : PositionValue) → had ≡ p.listed.had → reached.order ≡ p.order → reached.anew ≡ p.listed.anew
    → reached.came.items ≡ p.listed.came → reached.count ≡ p.count → state_of p ≡ state_after had reached
reached_is had reached p had_is order anew came count =
    ap (λ x. state_by x p.listed.had p.listed.anew p.listed.came p.count) (sym order)
    ∙ ap (λ x. state_by reached.order x p.listed.anew p.listed.came p.count) (sym had_is)
    ∙ ap (λ x. state_by reached.order had x p.listed.came p.count) (sym anew)
    ∙ ap (λ x. state_by reached.order had reached.anew x p.count) (sym came)
    ∙ ap (λ x. state_by reached.order had reached.anew reached.came.items x) (sym count)

-- at the begin of a file
pub no_interfaces : (scope : Scope) (interfaces : List Interface) → interfaces ≡ []
    → record { order = None; interfaces = interfaces; count = 0 } ≡ (pcapng scope).start
no_interfaces scope interfaces h = ap (λ x. state_by None [] true x 0) h

-- a reader's own position
pub position_is : (s : State) (p : PositionValue) (had : List Interface) → had ≡ s.interfaces
    → p ≡ record { order = s.order; listed = record { had = had; anew = false; came = [] }; count = s.count } → state_of p ≡ s
position_is s p had had_is is = ap state_of is ∙ ap (λ x. state_by s.order x false [] s.count) had_is
    ∙ ap (λ x. state_by s.order [] true x s.count) (append-nil s.interfaces)

-- The other calls.

-- one that runs has found none
pub not_found : (reader : PcapNgValue) (stream : List ℕ) (fault : NgFault) → reader.stage ≡ Running → IsStateOf reader stream
    → IsFound (pcapng reader.scope) stream fault → ⊥
not_found reader stream fault is state found =
    let run = at_running (pcapng reader.scope) stream reader.stage (IsRunning reader stream) is state in
    streams.runs_none (pcapng reader.scope) reader.state (run.gone ++ reader.held) stream fault run.runs found

pub new_runs : (reader : PcapNgValue) → reader.stage ≡ Running → reader.total ≡ 0 → reader.state ≡ (pcapng reader.scope).start → reader.passed ≡ None
    → reader.held ≡ [] → IsStateOf reader []
new_runs reader is total start none held =
    let run : IsRunning reader [] = record {
      total_is = total_first reader.scope.length reader.total total;
      gone = [];
      was = subst (λ (p : Option Passed). WasPassed reader.state.order p []) (sym none) refl;
      runs = subst (λ (s : State). Runs (pcapng reader.scope) s reader.held []) (sym start)
          (subst (λ (xs : List ℕ). Runs (pcapng reader.scope) (pcapng reader.scope).start xs []) (sym held)
          (streams.runs_new (pcapng reader.scope) (stepper reader.scope)));
    } in
    subst (λ (s : Stage NgFault). IsAt (pcapng reader.scope) [] s (IsRunning reader [])) (sym is) run

-- something is left of a block at hand
pub some_left : (order : Option Order) (passed : Option Passed) (gone held : List ℕ) → WasPassed order passed gone → (is_some passed ≡ true)
    ⊎ (0 < length held) → 0 < length (gone ++ held)
some_left order passed gone held was (inr some) = let len : length (gone ++ held) ≡ length gone + length held = length-append gone held in
    omega (arith, len, some)
some_left order None gone held was (inl h) = absurd (let none : false ≡ true = h in cc)
some_left order (Some block) gone held was (inl h) =
    let size : 8 ≤ length gone = (standing order gone block.order Other block.total was.0).size in
    let len : length (gone ++ held) ≡ length gone + length held = length-append gone held in
    omega (arith, len, size)

pub ended_within : (reader : PcapNgValue) (stream : List ℕ) (count : ℕ) → reader.stage ≡ Running → (is_some reader.passed ≡ true) ⊎ (0 < length reader.held)
    → count ≡ reader.state.count → IsStateOf reader stream → IsEnded reader.scope stream (Err (Cut count))
ended_within reader stream count is left count_is state =
    let run = at_running (pcapng reader.scope) stream reader.stage (IsRunning reader stream) is state in
    streams.ended_cut (pcapng reader.scope) reader.state (run.gone ++ reader.held) stream (Cut count) run.runs
    (inl (some_left reader.state.order reader.passed run.gone reader.held run.was left)) (ap (λ n. Cut n) count_is)

none_left : (order : Option Order) (passed : Option Passed) (gone held : List ℕ) → WasPassed order passed gone → is_some passed ≡ false → held ≡ []
    → gone ++ held ≡ []
none_left order None gone held was none empty = ap (λ xs. xs ++ held) was ∙ empty
none_left order (Some block) gone held was none empty = absurd (let some : true ≡ false = none in cc)

pub ended_whole : (reader : PcapNgValue) (stream : List ℕ) (count : ℕ) → reader.stage ≡ Running → is_some reader.passed ≡ false → reader.held ≡ []
    → is_some reader.state.order ≡ true → count ≡ reader.state.count → IsStateOf reader stream → IsEnded reader.scope stream (Ok count)
ended_whole reader stream count is none empty some count_is state =
    let run = at_running (pcapng reader.scope) stream reader.stage (IsRunning reader stream) is state in
    streams.ended_whole (pcapng reader.scope) (stepper reader.scope) reader.state (run.gone ++ reader.held) stream count run.runs
    (none_left reader.state.order reader.passed run.gone reader.held run.was none empty) some count_is

pub limit_stage : (scope : Scope) (s p : State) (passed : Option Passed) (held byte bytes : List ℕ) (frames : List FrameValue) (t : State)
    (block : Option Passed) (rest : List ℕ) (flaw : Option Flaw) (fault : NgFault) → bytes ≡ held ++ byte → p ≡ s
    → ((gone : List ℕ) → WasPassed p.order passed gone → AreReadOn scope p (gone ++ bytes) frames t block rest flaw) → ShowsLate flaw t fault
    → IsStageAtLimit scope s passed held byte (Stopped fault)
limit_stage scope s p passed held byte bytes frames t block rest flaw fault bytes_is p_is read shows = record {
  fault = fault;
  stage_is = refl;
  flaw = flaw;
  last = t;
  shows = shows;
  read = λ gone was. (
    frames,
    block,
    rest,
    subst (λ (xs : List ℕ). AreReadOn scope s (gone ++ xs) frames t block rest flaw) bytes_is
        (subst (λ (x : State). AreReadOn scope x (gone ++ bytes) frames t block rest flaw) p_is
        (read gone (subst (λ (x : State). WasPassed x.order passed gone) (sym p_is) was))),
  );
}
