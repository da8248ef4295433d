-- A reader of one of the two formats, over a stream.
use Rattle.std.proofs.Common.{◌≡◌, ◌==◌, if◌then◌else◌, ℕ, ◌+◌, ◌*◌, ◌-◌, ◌^◌, ◌≤◌, List, [], ◌++◌, length, length-append, length-take, Bool, true, false, Option, Some, None, Result, refl, subst, sym, ap, ◌∙◌, arith}
use Rattle.cf_pcap.specs.declared.scope.Scope.{Scope}
use Rattle.cf_pcap.specs.declared.fault.PcapFault.{PcapFault}
use Rattle.cf_pcap.specs.Capture.{FrameValue, HasPcapFault}
use Rattle.cf_pcap.specs.Kinds.{Kind}
use Rattle.cf_pcap.specs.Kinds as kinds
use Rattle.cf_pcap.specs.Laws.{records as records_kind}
use Rattle.cf_pcap.specs.Truncated as records_cut
use Rattle.cf_pcap.specs.File.{pcap}
use Rattle.cf_pcap.specs.Stream as records
use Rattle.cf_pcap.proofs.Steps as records_steps
use Rattle.cf_pcapng.specs.declared.fault.NgFault.{NgFault}
use Rattle.cf_pcapng.specs.File.{pcapng}
use Rattle.cf_pcapng.specs.Reader as blocks
use Rattle.cf_pcapng.specs.Rules.{HasFaultOf, blocks as blocks_kind}
use Rattle.cf_pcapng.specs.Truncated as blocks_cut
use Rattle.cf_pcapng.proofs.Steps as blocks_steps
use Rattle.cf_pcap.specs.Format.{Format, items_of}
use Rattle.cf_pcap.specs.Limits.{number_of}
use Rattle.cf_pcap.specs.Streams.{IsStepper, AreGiven, IsFed, early}
use Rattle.cf_pcap.specs.declared.limit.Length.{Length}
use Rattle.cf_pcap.specs.declared.limit.Length.TheVariants.{Limited, Any}
use Rattle.cf_pcap.proofs.Given.{given_of, one_given}
use Rattle.cf_pcap.proofs.Limits.{none_short}
use Rattle.cf_pcap.proofs.Seen.{early_short}
use Rattle.cf_pcap.proofs.FormatUnits.{reads_nothing, sizes, wants_none}
use Rattle.cf_intake.specs.Faults.{IsTold, code_of, record_of, refusal_by, halt_by, halt_of}
use Rattle.cf_intake.specs.Parts.{IsBad}
use Rattle.cf_intake.specs.Reading.{AddsFew, AreFramesTo, HasFaultUncut, IsCutAt, IsReaderAt}
use Rattle.cf_intake.specs.Rows.{AreFramesBefore}
use Rattle.cf_intake.specs.declared.faults.Fault.{Fault}
use Rattle.cf_intake.specs.declared.faults.Fault.TheVariants as faults
use Rattle.cf_intake.specs.declared.refusal.Refusal.TheVariants.{Capture}
use Rattle.cf_intake.specs.declared.reader.Reader.{Reader}
use Rattle.cf_intake.specs.declared.reader.Reader.TheVariants.{Pcap, PcapNg}

-- of a stream of no bytes no item is given
nothing_given : {S I F : Type 0} (f : Format S I F) → IsStepper f → AreGiven f [] []
nothing_given f is =
    given_of f [] [] [] f.start [] (early_short f.length [] (none_short f.length)) (reads_nothing f f.start []) (wants_none f f.start [] (is.nothing f.start))

-- A new reader has given no frame.

pub records_begin : (reader : records.PcapValue) → records.IsStateOf reader [] → IsReaderAt (Pcap reader) [] []
records_begin reader state = (state, nothing_given (pcap reader.scope) (records_steps.stepper reader.scope))

pub blocks_begin : (reader : blocks.PcapNgValue) → blocks.IsStateOf reader [] → IsReaderAt (PcapNg reader) [] []
blocks_begin reader state = (state, nothing_given (pcapng reader.scope) (blocks_steps.stepper reader.scope))

-- Each frame that a reader has given takes 16 bytes of the stream at least.

early_fits : (longest : Length) (stream : List ℕ) → length (early longest stream) ≤ length stream
unfolding early
early_fits Limited stream = let size = length-take (2 ^ 32 - 1) stream in omega (arith, size)
early_fits Any stream = omega arith

given_few : {S I F : Type 0} (f : Format S I F) → IsStepper f → (stream : List ℕ) (items : List I) → AreGiven f stream items
    → 16 * length items ≤ length stream
given_few f is stream items given =
    let most : 16 * length (items_of given.read.parts) + length given.rest ≤ length (early f.length stream) =
    sizes f is f.start given.read.parts (early f.length stream) given.last given.rest given.read.units in
    let same : length items ≡ length (items_of given.read.parts) = ap length given.read.items_are in
    let fits : length (early f.length stream) ≤ length stream = early_fits f.length stream in
    omega (arith, most, same, fits)

pub frames_few : (reader : Reader) (stream : List ℕ) (frames : List FrameValue) → IsReaderAt reader stream frames → 16 * length frames ≤ length stream
frames_few (Pcap reader) stream frames at = given_few (pcap reader.scope) (records_steps.stepper reader.scope) stream frames at.1
frames_few (PcapNg reader) stream frames at = given_few (pcapng reader.scope) (blocks_steps.stepper reader.scope) stream frames at.1

-- It gives those of one more piece.

fed_on : {S I F : Type 0} (f : Format S I F) (Old New : List ℕ → Type 0) (piece : List ℕ) (given : List I) (answer : Result (Unit {0}) F)
    → ((stream : List ℕ) → Old stream → IsFed f stream piece given answer New)
    → (stream : List ℕ) (items : List I) → Old stream × AreGiven f stream items → New (stream ++ piece) × AreGiven f (stream ++ piece) (items ++ given)
fed_on {S} {I} f Old New piece given answer feeds stream items at =
    let fed = feeds stream at.0 in
    let same : fed.before ≡ items = one_given f stream fed.before items fed.given_before at.1 in
    (fed.state, subst (λ (xs : List I). AreGiven f (stream ++ piece) (xs ++ given)) same fed.given_now)

pub records_fed : (old new : records.PcapValue) → new.scope ≡ old.scope → (piece : List ℕ) (given : List FrameValue) (answer : Result (Unit {0}) PcapFault)
    → ((stream : List ℕ) → records.IsStateOf old stream → records.IsFed stream piece given answer new)
    → (stream : List ℕ) (frames : List FrameValue) → IsReaderAt (Pcap old) stream frames → IsReaderAt (Pcap new) (stream ++ piece) (frames ++ given)
records_fed old new scope piece given answer feeds stream frames at =
    fed_on (pcap new.scope) (records.IsStateOf old) (records.IsStateOf new) piece given answer feeds stream frames
    (at.0, subst (λ (s : Scope). AreGiven (pcap s) stream frames) (sym scope) at.1)

pub blocks_fed : (old new : blocks.PcapNgValue) → new.scope ≡ old.scope → (piece : List ℕ) (given : List FrameValue) (answer : Result (Unit {0}) NgFault)
    → ((stream : List ℕ) → blocks.IsStateOf old stream → blocks.IsFed stream piece given answer new)
    → (stream : List ℕ) (frames : List FrameValue) → IsReaderAt (PcapNg old) stream frames → IsReaderAt (PcapNg new) (stream ++ piece) (frames ++ given)
blocks_fed old new scope piece given answer feeds stream frames at =
    fed_on (pcapng new.scope) (blocks.IsStateOf old) (blocks.IsStateOf new) piece given answer feeds stream frames
    (at.0, subst (λ (s : Scope). AreGiven (pcapng s) stream frames) (sym scope) at.1)

-- These are few.

adds_few : {A : Type 0} (piece : List ℕ) (old new given : List A) → new ≡ old ++ given → 16 * length given ≤ length piece + 15 → AddsFew piece old new
adds_few {A} piece old new given grown few =
    let size : length new ≡ length old + length given = ap (λ (xs : List A). length xs) grown ∙ length-append old given in
    omega (arith, size, few)

pub records_few : (old new : records.PcapValue) (piece : List ℕ) (given before after : List FrameValue) (answer : Result (Unit {0}) PcapFault)
    → after ≡ before ++ given → ((stream : List ℕ) → records.IsStateOf old stream → records.IsFed stream piece given answer new)
    → (stream : List ℕ) (frames : List FrameValue) → IsReaderAt (Pcap old) stream frames → AddsFew piece before after
records_few old new piece given before after answer grown feeds stream frames at = adds_few piece before after given grown (feeds stream at.0).few

pub blocks_few : (old new : blocks.PcapNgValue) (piece : List ℕ) (given before after : List FrameValue) (answer : Result (Unit {0}) NgFault)
    → after ≡ before ++ given → ((stream : List ℕ) → blocks.IsStateOf old stream → blocks.IsFed stream piece given answer new)
    → (stream : List ℕ) (frames : List FrameValue) → IsReaderAt (PcapNg old) stream frames → AddsFew piece before after
blocks_few old new piece given before after answer grown feeds stream frames at = adds_few piece before after given grown (feeds stream at.0).few

-- What the end says of the frames.

pub records_said : (truncated : Bool) (scope : Scope) (stream : List ℕ) (frames : List FrameValue) (cut : Option ℕ)
    → records_cut.Says truncated scope stream frames cut → AreFramesTo truncated scope false stream frames cut
records_said truncated scope stream frames None is = is
records_said true scope stream frames (Some k) is = is
records_said false scope stream frames (Some k) is = is

pub blocks_said : (truncated : Bool) (scope : Scope) (stream : List ℕ) (frames : List FrameValue) (cut : Option ℕ)
    → blocks_cut.Says truncated scope stream frames cut → AreFramesTo truncated scope true stream frames cut
blocks_said truncated scope stream frames None is = is
blocks_said true scope stream frames (Some k) is = is
blocks_said false scope stream frames (Some k) is = is

-- Or it has a fault, by which it is refused, and want of memory is none.

-- a fault of that record and code is what its halt tells
bad_or_none : (Breaks : ℕ → ℕ → Type 0) (at code : ℕ) (none : Bool) → Breaks at code
    → IsBad Breaks (halt_by (if none then None else Some (Capture at code)))
bad_or_none Breaks at code true breaks = tt
bad_or_none Breaks at code false breaks = (at, code, refl, breaks)

pub bad : (Breaks : ℕ → ℕ → Type 0) (at code : ℕ) → Breaks at code → IsBad Breaks (halt_by (refusal_by at code))
bad Breaks at code = bad_or_none Breaks at code (code == 0)

pub told : {F : Type 0} (Has : F → Type 0) (of : F → Fault) (fault : F) → Has fault → IsTold Has of (record_of (of fault)) (code_of (of fault))
told Has of fault has = record { fault = fault; fault_is = has; record_is = refl; code_is = refl }

cut_in : {F : Type 0} (kind : Kind F) (truncated blocks : Bool) (scope : Scope) (stream : List ℕ)
    → ((frames : List FrameValue) (k : ℕ) → kinds.IsCutAt kind truncated stream frames k → ⊥)
    → ((frames : List FrameValue) → AreFramesBefore scope blocks stream frames → kinds.IsTruncated kind stream frames)
    → (frames : List FrameValue) (k : ℕ) → IsCutAt truncated scope blocks stream frames k → ⊥
cut_in kind false blocks scope stream never same frames k is = is
cut_in kind true blocks scope stream never same frames k is = never frames (number_of kind.longest (length frames)) (same frames is.0, refl)

pub records_uncut : (truncated : Bool) (scope : Scope) (stream : List ℕ) (fault : PcapFault) → records_cut.Breaks truncated scope stream fault
    → HasFaultUncut truncated scope false stream (record_of (faults.Pcap fault)) (code_of (faults.Pcap fault))
records_uncut truncated scope stream fault breaks = (
  told (HasPcapFault scope stream) faults.Pcap fault breaks.0,
  cut_in (records_kind scope) truncated false scope stream breaks.1 (λ frames is. is),
)

pub blocks_uncut : (truncated : Bool) (scope : Scope) (stream : List ℕ) (fault : NgFault) → blocks_cut.Breaks truncated scope stream fault
    → HasFaultUncut truncated scope true stream (record_of (faults.PcapNg fault)) (code_of (faults.PcapNg fault))
blocks_uncut truncated scope stream fault breaks = (
  told (HasFaultOf scope stream) faults.PcapNg fault breaks.0,
  cut_in (blocks_kind scope) truncated true scope stream breaks.1 (λ frames is. is),
)

pub records_refused : (truncated : Bool) (scope : Scope) (stream : List ℕ) (fault : PcapFault) → records_cut.Breaks truncated scope stream fault
    → IsBad (HasFaultUncut truncated scope false stream) (halt_of (faults.Pcap fault))
records_refused truncated scope stream fault breaks =
    bad (HasFaultUncut truncated scope false stream) (record_of (faults.Pcap fault)) (code_of (faults.Pcap fault))
    (records_uncut truncated scope stream fault breaks)

pub blocks_refused : (truncated : Bool) (scope : Scope) (stream : List ℕ) (fault : NgFault) → blocks_cut.Breaks truncated scope stream fault
    → IsBad (HasFaultUncut truncated scope true stream) (halt_of (faults.PcapNg fault))
blocks_refused truncated scope stream fault breaks =
    bad (HasFaultUncut truncated scope true stream) (record_of (faults.PcapNg fault)) (code_of (faults.PcapNg fault))
    (blocks_uncut truncated scope stream fault breaks)
