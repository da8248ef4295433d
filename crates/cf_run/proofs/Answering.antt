-- From what is prepared to what the program answers.
use Rattle.std.proofs.Common.{◌≡◌, ◌⊎◌, ◌∙◌, ℕ, suc, ◌*◌, ◌-◌, ◌^◌, ◌≤◌, Bool, true, false, List, [], ◌∷◌, length, Option, Some, None, ap, refl, sym, inl, inr, IfSome, subst}
use Rattle.std.specs.Io.KnownBytes.{Keeps}
use Rattle.std.specs.Option.{option_map}
use Rattle.cf_outside.specs.Files.{File}
use Rattle.cf_row.specs.Row.{RowValue}
use Rattle.cf_row.specs.Schema6.{attrs_by}
use Rattle.cf_setup.specs.declared.source.Source.{Source}
use Rattle.cf_setup.specs.declared.source.Source.TheVariants.{Packets, Records}
use Rattle.cf_command.specs.declared.words.LogSizes.{LogSizes}
use Rattle.cf_command.specs.declared.words.Command.{Command}
use Rattle.cf_command.specs.declared.words.Command.TheVariants as commands
use Rattle.cf_command.specs.Call.{Call, RunCall, SynthCall, DumpCall, SnapshotCall, WatchCall, LongCall, AreSizes, HasSizes, IsInRange, call_by}
use Rattle.cf_command.specs.Call.Call.{run, synth, dump, snapshot, watch, long}
use Rattle.cf_setup.specs.Setups.{SetupValue}
use Rattle.cf_table.specs.Moves.{SealValue}
use Rattle.cf_run.specs.Answers.{Yields, IsDecided, IsByCall}
use Rattle.cf_run.specs.Due.{Work, RunAfter, SnapshotAfter, WatchFrom, LongFrom, GivesAll, ComesTo, StopsAt, GivesLog, GivesCut, IsReportOf, AreAnswersOf, WorkGives, IsDue, IsLawful, drawn_work}
use Rattle.cf_run.specs.Due.Work.{refused}
use Rattle.cf_run.specs.Due.CallsBy.{halted, whole}
use Rattle.cf_run.specs.Due.CallsByAll.{one_halted, all_whole}
use Rattle.cf_run.specs.Due.HostsExceed.{some_full, some_short}
use Rattle.cf_run.specs.Due.GivesCut.{refuses_hosts, tells_hosts}
use Rattle.cf_run.specs.Due.GivesAll.{nodes_lack, one_too_many, one_breaks, tells_all}
use Rattle.cf_run.specs.Due.Exceeds.{full, short}
use Rattle.cf_intake.specs.Series.{AreEndToEnd, SeriesEnd, behind}
use Rattle.cf_intake.specs.Series.SeriesEnd.{whole as all_read, refused as one_refused}
use Rattle.cf_row.specs.declared.packet6.PacketSchema.{PacketSchema}
use Rattle.cf_run.specs.Due.GivesLog.{refuses, tells}
use Rattle.cf_intake.specs.Files.{Grammar, setups, captures, IsFileRefused}
use Rattle.cf_intake.specs.Files.IsFileRefused.{missing, broken}
use Rattle.cf_intake.specs.Refusals.{line_of}
use Rattle.cf_run.specs.Refusals.{status_of, stop_status}
use Rattle.cf_run.specs.Parts.{reply_status, reply_seals}
use Rattle.cf_fill.specs.Work.{draws, drawn_rows}
use Rattle.cf_run.specs.Hosts.{rows_told, ends_told}
use Rattle.cf_run.specs.declared.reply.WorkReply.{WorkReply}
use Rattle.cf_run.specs.declared.reply.WorkReply.TheVariants as replies
use Rattle.cf_fill.specs.Planned.{tails_of}
use Rattle.cf_run.proofs.Counted.{seals_within}
use Rattle.cf_run.proofs.Deciding.{one_due, lawful_done}
use Rattle.cf_intake.proofs.Several.{files_refusal}
use Rattle.cf_intake.specs.declared.refusal.Refusal.{Refusal}
use Rattle.cf_intake.specs.declared.refusal.Refusal.TheVariants as refusals
use Rattle.cf_intake.specs.declared.refusal.Stop.{Stop}
use Rattle.cf_intake.specs.declared.refusal.Stop.TheVariants as stops
use Rattle.cf_run.specs.declared.status.Status.{Status}
use Rattle.cf_run.specs.declared.status.Status.TheVariants.{Done, Words, Setup, Capture, ReadFault, WriteFault, Full, Nodes, Memory, NoFile}

pub decided_if : (told : Option (List File)) (call : Option Call) (before now : Option (List ℕ)) (status : Status) (text : List ℕ) (seals : List SealValue)
    → IsDue told call before now status text seals → IfSome told (λ files. IsDecided files call status)
decided_if None call before now status text seals due = tt
decided_if (Some files) call before now status text seals due =
    λ before' now' other text' seals' also. elim (one_due files call before now status text seals due before' now' other text' seals' also) [
      | inl same ↦ inl same
      | inr between ↦ inr (inr between)
    ]

pub complete_if : (told : Option (List File)) (call : Option Call) (before now : Option (List ℕ)) (status : Status) (text : List ℕ) (seals : List SealValue)
    → IsDue told call before now status text seals → IfSome told (λ files. IsLawful (Some files) call → (status ≡ Done) ⊎ Yields status)
complete_if None call before now status text seals due = tt
complete_if (Some files) call before now status text seals due = λ lawful. inl (lawful_done files call before now status text seals due lawful)

-- nothing decides for want of memory and the devices
pub decided_free : (told : Option (List File)) (call : Option Call) (status : Status) → Yields status → IfSome told (λ files. IsDecided files call status)
decided_free None call status free = tt
decided_free (Some files) call status free = λ before now other text seals due. inr (inl free)

pub complete_free : (told : Option (List File)) (call : Option Call) (status : Status) → Yields status
    → IfSome told (λ files. IsLawful (Some files) call → (status ≡ Done) ⊎ Yields status)
complete_free None call status free = tt
complete_free (Some files) call status free = λ lawful. inr free

pub stop_yields : (status : Status) (stop : Stop) → status ≡ stop_status stop → Yields status
stop_yields status stops.ReadFault is = inr (inl is)
stop_yields status stops.Memory is = inl is

-- over devices that never fail
pub steady : (status : Status) → (status ≡ Done) ⊎ Yields status → (status ≡ ReadFault → ⊥) → (status ≡ WriteFault → ⊥) → (status ≡ Done) ⊎ (status ≡ Memory)
steady status said no_read no_write = elim said [
  | inl done ↦ inl done
  | inr free ↦ elim free [
    | inl memory ↦ inr memory
    | inr device ↦ elim device [ inl read ↦ absurd (no_read read) | inr write ↦ absurd (no_write write) ]
  ]
]

-- Which statuses a call can come to.

-- a refusal of a file, of a grammar that is told by these
file_refusal : {A : Type 0} (g : Grammar A) (told : Option (List File)) (name : List ℕ) (before now : Option (List ℕ)) (P : Refusal → Type 0)
    → P refusals.NoFile → ((place code : ℕ) → P (g.refusal place code)) → (why : Refusal) → IsFileRefused g told name before now why → P why
file_refusal {A} g told name before now P none broke why (missing file left is) = subst P (sym is) none
file_refusal {A} g told name before now P none broke why (broken bytes place code file breaks left is) = subst P (sym is) (broke place code)

-- captures are refused as missing, or for a fault
pub refused_behind : (after : SeriesEnd) (at : ℕ) (why : Refusal) (cut : Option ℕ) → behind cut after ≡ one_refused at why → after ≡ one_refused at why
refused_behind (all_read cuts) at why cut is = absurd (cc is)
refused_behind (one_refused place other) at why cut is = is

end_words : (schema : PacketSchema) (truncated : Bool) (told : Option (List File)) (place : ℕ) (names : List (List ℕ)) (rows : List RowValue)
    (end : SeriesEnd) (at : ℕ) (why : Refusal) → AreEndToEnd schema truncated told place names rows end → end ≡ one_refused at why → status_of why ≡ Words → ⊥
end_words schema truncated told place [] rows end at why ends is words = (let all = ends.1 in cc (is, all))
end_words schema truncated told place (name ∷ names) rows end at why (inl none) is words =
    let its : refusals.NoFile ≡ why = (let e = none.2 in cc (e, is)) in
    absurd (let other : NoFile ≡ Words = ap status_of its ∙ words in cc other)
end_words schema truncated told place (name ∷ names) rows end at why (inr (inl bad)) is words =
    let its : refusals.Capture bad.0 bad.1 ≡ why = (let e = bad.3 in cc (e, is)) in
    absurd (let other : Capture bad.0 bad.1 ≡ Words = ap status_of its ∙ words in cc other)
end_words schema truncated told place (name ∷ names) rows end at why (inr (inr (what, more, after, says, ends, rows_are, end_is))) is words =
    end_words schema truncated told (suc place) names more after at why ends (refused_behind after at why what.cut (sym end_is ∙ is)) words

-- of the seals and the status that work gives
module _ (told : Option (List File)) (before now : Option (List ℕ)) (status : Status) (text : List ℕ) (seals : List SealValue) where
  by_refusal : (P : Status → List SealValue → Type 0) (why : Refusal) → P (status_of why) [] → WorkGives (refused why) status text seals → P status seals
  by_refusal P why holds gives = subst (λ (q : List SealValue). P status q) (sym gives.2) (subst (λ (s : Status). P s []) (sym gives.0) holds)

  by_log : (P : Status → List SealValue → Type 0) (sizes : LogSizes) (setup : SetupValue) (rows : List RowValue) (Tells : List ℕ → List SealValue → Type 0)
      → P Full [] → P Nodes [] → ((q : List SealValue) → length rows ≤ sizes.capacity * sizes.segments → Tells text q → P Done q)
      → GivesLog sizes setup rows Tells status text seals → P status seals
  by_log P sizes setup rows Tells over short_of done (refuses why (full many is) gives) =
      by_refusal P why (subst (λ (w : Refusal). P (status_of w) []) (sym is) over) gives
  by_log P sizes setup rows Tells over short_of done (refuses why (short few many is) gives) =
      by_refusal P why (subst (λ (w : Refusal). P (status_of w) []) (sym is) short_of) gives
  by_log P sizes setup rows Tells over short_of done (tells few nodes is told_of) = subst (λ (s : Status). P s seals) (sym is) (done seals few told_of)

  -- of a run
  run_by_call : (call : RunCall) (s : Status) → (s ≡ Words → ⊥) → (s ≡ Done → ⊥) → IsByCall (Some (run call)) s []
  run_by_call call s words done = (words, λ is. absurd (done is))

  run_by_rows : (call : RunCall) (setup : SetupValue) (work : Work) → AreSizes call.sizes → WorkGives work status text seals
      → RunAfter told call now setup work → IsByCall (Some (run call)) status seals
  run_by_rows call setup work sized gives (halted why file is) =
      by_refusal (IsByCall (Some (run call))) why
      (file_refusal (captures setup.source call.truncated setup.schema) told call.capture (Some []) now (λ w. IsByCall (Some (run call)) (status_of w) [])
      (run_by_call call NoFile (λ e. cc e) (λ e. cc e)) (λ at code. run_by_call call (Capture at code) (λ e. cc e) (λ e. cc e)) why file)
      (subst (λ (w : Work). WorkGives w status text seals) is gives)
  run_by_rows call setup work sized gives (whole what said next) =
      by_log (IsByCall (Some (run call))) call.sizes setup what.rows (IsReportOf call setup what) (run_by_call call Full (λ e. cc e) (λ e. cc e))
      (run_by_call call Nodes (λ e. cc e) (λ e. cc e))
      (λ q few made. (
        λ e. cc e,
        λ e. seals_within call.sizes what.rows made.sealed.order (tails_of (made.sealed).report.lives) q sized few (made.sealed).report.order_is
            (made.sealed).seals_are,
      ))
      (subst (λ (w : Work). WorkGives w status text seals) next.0 gives)

  run_by_work : (call : RunCall) (work : Work) → AreSizes call.sizes → WorkGives work status text seals → ComesTo told (Some (run call)) before now work
      → IsByCall (Some (run call)) status seals
  run_by_work call work sized gives (halted why file is) =
      by_refusal (IsByCall (Some (run call))) why
      (file_refusal setups told call.setup before now (λ w. IsByCall (Some (run call)) (status_of w) []) (run_by_call call NoFile (λ e. cc e) (λ e. cc e))
      (λ line code. run_by_call call (Setup line code) (λ e. cc e) (λ e. cc e)) why file)
      (subst (λ (w : Work). WorkGives w status text seals) is gives)
  run_by_work call work sized gives (whole setup said next) = run_by_rows call setup work sized gives next

  -- of a synth
  synth_by_call : (call : SynthCall) (s : Status) → (s ≡ Words → ⊥) → ((at code : ℕ) → s ≡ Capture at code → ⊥) → (s ≡ Done → ⊥)
      → IsByCall (Some (synth call)) s []
  synth_by_call call s words capture done = (words, capture, λ is. absurd (done is))

  synth_by_setup : (call : SynthCall) (setup : SetupValue) (packet : Bool) → AreSizes call.sizes → WorkGives (drawn_work call setup packet) status text seals
      → IsByCall (Some (synth call)) status seals
  synth_by_setup call setup false sized gives =
      by_refusal (IsByCall (Some (synth call))) (refusals.Setup setup.schema_line 4)
      (synth_by_call call (Setup setup.schema_line 4) (λ e. cc e) (λ at code e. cc e) (λ e. cc e)) gives
  synth_by_setup call setup true sized gives =
      by_log (IsByCall (Some (synth call))) call.sizes setup (drawn_rows call) (AreAnswersOf call setup)
      (synth_by_call call Full (λ e. cc e) (λ at code e. cc e) (λ e. cc e)) (synth_by_call call Nodes (λ e. cc e) (λ at code e. cc e) (λ e. cc e))
      (λ q few made. (
        λ e. cc e,
        λ at code e. cc e,
        λ e. seals_within call.sizes (drawn_rows call) made.seals_are.order [] q sized few made.seals_are.order_is made.seals_are.seals_are,
      )) gives

  synth_by_work : (call : SynthCall) (work : Work) → AreSizes call.sizes → WorkGives work status text seals → ComesTo told (Some (synth call)) before now work
      → IsByCall (Some (synth call)) status seals
  synth_by_work call work sized gives (halted why file is) =
      by_refusal (IsByCall (Some (synth call))) why
      (file_refusal setups told call.setup before now (λ w. IsByCall (Some (synth call)) (status_of w) [])
      (synth_by_call call NoFile (λ e. cc e) (λ at code e. cc e) (λ e. cc e))
      (λ line code. synth_by_call call (Setup line code) (λ e. cc e) (λ at other e. cc e) (λ e. cc e)) why file)
      (subst (λ (w : Work). WorkGives w status text seals) is gives)
  synth_by_work call work sized gives (whole setup said next) =
      synth_by_setup call setup (draws setup.source) sized (subst (λ (w : Work). WorkGives w status text seals) next.0 gives)

  -- of a dump
  dump_by_work : (call : DumpCall) (work : Work) → WorkGives work status text seals → ComesTo told (Some (dump call)) before now work
      → IsByCall (Some (dump call)) status seals
  dump_by_work call work gives (halted why file is) =
      by_refusal (IsByCall (Some (dump call))) why
      (file_refusal (captures (Packets call.schema) call.truncated (attrs_by call.schema)) told call.capture before now
      (λ w. IsByCall (Some (dump call)) (status_of w) [])
      (λ e. cc e, λ line code e. cc e, λ e. cc e, λ e. cc e, refl) (λ at code. (λ e. cc e, λ line other e. cc e, λ e. cc e, λ e. cc e, refl)) why file)
      (subst (λ (w : Work). WorkGives w status text seals) is gives)
  dump_by_work call work gives (whole what said next) =
      let made = subst (λ (w : Work). WorkGives w status text seals) next.0 gives in
      (λ e. cc (e, made.0), λ line code e. cc (e, made.0), λ e. cc (e, made.0), λ e. cc (e, made.0), made.2)

  -- of a snapshot
  snapshot_by_cut : (call : SnapshotCall) (setup : SetupValue) (hosts : List (List RowValue)) (ends : List (Option ℕ))
      → GivesCut call setup hosts ends status text seals
      → IsByCall (Some (snapshot call)) status seals
  snapshot_by_cut call setup hosts ends (refuses_hosts why (some_full many is) gives) =
      by_refusal (IsByCall (Some (snapshot call))) why
      (subst (λ (w : Refusal). IsByCall (Some (snapshot call)) (status_of w) []) (sym is) (λ e. cc e, refl)) gives
  snapshot_by_cut call setup hosts ends (refuses_hosts why (some_short few many is) gives) =
      by_refusal (IsByCall (Some (snapshot call))) why
      (subst (λ (w : Refusal). IsByCall (Some (snapshot call)) (status_of w) []) (sym is) (λ e. cc e, refl)) gives
  snapshot_by_cut call setup hosts ends (tells_hosts room is told_of none) = (λ e. cc (e, is), none)

  snapshot_by_hosts : (call : SnapshotCall) (setup : SetupValue) (work : Work) → WorkGives work status text seals → SnapshotAfter told call now setup work
      → IsByCall (Some (snapshot call)) status seals
  snapshot_by_hosts call setup work gives (one_halted why files is) =
      by_refusal (IsByCall (Some (snapshot call))) why
      (files_refusal (captures setup.source call.truncated setup.schema) told call.captures (Some []) now
      (λ w. IsByCall (Some (snapshot call)) (status_of w) [])
      (λ name start w file.
      file_refusal (captures setup.source call.truncated setup.schema) told name start now (λ v. IsByCall (Some (snapshot call)) (status_of v) [])
      (λ e. cc e, refl)
      (λ at code. (λ e. cc e, refl)) w file) why files)
      (subst (λ (w : Work). WorkGives w status text seals) is gives)
  snapshot_by_hosts call setup work gives (all_whole hosts said next) =
      snapshot_by_cut call setup (rows_told hosts) (ends_told hosts) (subst (λ (w : Work). WorkGives w status text seals) next.0 gives)

  snapshot_by_work : (call : SnapshotCall) (work : Work) → WorkGives work status text seals → ComesTo told (Some (snapshot call)) before now work
      → IsByCall (Some (snapshot call)) status seals
  snapshot_by_work call work gives (halted why file is) =
      by_refusal (IsByCall (Some (snapshot call))) why
      (file_refusal setups told call.setup before now (λ w. IsByCall (Some (snapshot call)) (status_of w) []) (λ e. cc e, refl)
      (λ line code. (λ e. cc e, refl)) why file)
      (subst (λ (w : Work). WorkGives w status text seals) is gives)
  snapshot_by_work call work gives (whole setup said next) = snapshot_by_hosts call setup work gives next

  -- of a watch, before its stream
  watch_by_source : (call : WatchCall) (setup : SetupValue) (source : Source) (work : Work) → WorkGives work status text seals
      → WatchFrom told call now setup source work → IsByCall (Some (watch call)) status seals
  watch_by_source call setup Records work gives next =
      by_refusal (IsByCall (Some (watch call))) (refusals.Setup setup.schema_line 4) (λ e. cc e, refl)
      (subst (λ (w : Work). WorkGives w status text seals) next.0 gives)
  watch_by_source call setup (Packets schema) work gives (inl next) =
      by_refusal (IsByCall (Some (watch call))) refusals.NoFile (λ e. cc e, refl) (subst (λ (w : Work). WorkGives w status text seals) next.1.0 gives)
  watch_by_source call setup (Packets schema) work gives (inr next) = absurd (subst (λ (w : Work). WorkGives w status text seals) next.2 gives)

  watch_by_work : (call : WatchCall) (work : Work) → WorkGives work status text seals → ComesTo told (Some (watch call)) before now work
      → IsByCall (Some (watch call)) status seals
  watch_by_work call work gives (halted why file is) =
      by_refusal (IsByCall (Some (watch call))) why
      (file_refusal setups told call.setup before now (λ w. IsByCall (Some (watch call)) (status_of w) []) (λ e. cc e, refl)
      (λ line code. (λ e. cc e, refl)) why file)
      (subst (λ (w : Work). WorkGives w status text seals) is gives)
  watch_by_work call work gives (whole setup said next) = watch_by_source call setup setup.source work gives next

  -- of a run over captures of any length
  long_by_all : (call : LongCall) (setup : SetupValue) (schema : PacketSchema) (rows : List RowValue) (end : SeriesEnd)
      → AreEndToEnd schema call.truncated told 1 call.captures rows end → GivesAll call setup rows end status text seals
      → IsByCall (Some (long call)) status seals
  long_by_all call setup schema rows end ends (nodes_lack more gives) =
      by_refusal (IsByCall (Some (long call))) (refusals.Nodes call.sizes.nodes) (λ e. cc e, refl) gives
  long_by_all call setup schema rows end ends (one_too_many many nodes gives) =
      by_refusal (IsByCall (Some (long call))) (refusals.Full (2 ^ 32 - 1)) (λ e. cc e, refl) gives
  long_by_all call setup schema rows end ends (one_breaks place why few nodes is st tx none) =
      (λ e. end_words schema call.truncated told 1 call.captures rows end (suc place) why ends is (sym st ∙ e), none)
  long_by_all call setup schema rows end ends (tells_all cuts few nodes is st tx none) = (λ e. cc (e, st), none)

  long_by_source : (call : LongCall) (setup : SetupValue) (source : Source) (work : Work) → WorkGives work status text seals
      → LongFrom told call now setup source work → IsByCall (Some (long call)) status seals
  long_by_source call setup Records work gives next =
      by_refusal (IsByCall (Some (long call))) (refusals.Setup setup.schema_line 4) (λ e. cc e, refl)
      (subst (λ (w : Work). WorkGives w status text seals) next.0 gives)
  long_by_source call setup (Packets schema) work gives next =
      long_by_all call setup schema next.0 next.1 next.2 (subst (λ (w : Work). WorkGives w status text seals) next.3 gives)

  long_by_work : (call : LongCall) (work : Work) → WorkGives work status text seals → ComesTo told (Some (long call)) before now work
      → IsByCall (Some (long call)) status seals
  long_by_work call work gives (halted why file is) =
      by_refusal (IsByCall (Some (long call))) why
      (file_refusal setups told call.setup before now (λ w. IsByCall (Some (long call)) (status_of w) []) (λ e. cc e, refl)
      (λ line code. (λ e. cc e, refl)) why file)
      (subst (λ (w : Work). WorkGives w status text seals) is gives)
  long_by_work call work gives (whole setup said next) = long_by_source call setup setup.source work gives next

  pub by_due : (call : Option Call) → HasSizes call → IsDue told call before now status text seals → IsByCall call status seals
  by_due None sized due = inl (subst (λ (w : Work). WorkGives w status text seals) due.comes.0 due.gives).0
  by_due (Some (run call)) sized due = run_by_work call due.work sized due.gives due.comes
  by_due (Some (synth call)) sized due = synth_by_work call due.work sized due.gives due.comes
  by_due (Some (dump call)) sized due = dump_by_work call due.work due.gives due.comes
  by_due (Some (snapshot call)) sized due = snapshot_by_work call due.work due.gives due.comes
  by_due (Some (watch call)) sized due = watch_by_work call due.work due.gives due.comes
  by_due (Some (long call)) sized due = long_by_work call due.work due.gives due.comes

-- of the faults of devices, and of want of memory
pub by_cut : (call : Option Call) (status : Status) (seals : List SealValue) → status ≡ WriteFault → seals ≡ [] → IsByCall call status seals
by_cut None status seals is none = inr (inr is)
by_cut (Some (run call)) status seals is none = (λ e. cc (e, is), λ e. cc (e, is))
by_cut (Some (synth call)) status seals is none = (λ e. cc (e, is), λ at code e. cc (e, is), λ e. cc (e, is))
by_cut (Some (dump call)) status seals is none = (λ e. cc (e, is), λ line code e. cc (e, is), λ e. cc (e, is), λ e. cc (e, is), none)
by_cut (Some (snapshot call)) status seals is none = (λ e. cc (e, is), none)
by_cut (Some (watch call)) status seals is none = (λ e. cc (e, is), none)
by_cut (Some (long call)) status seals is none = (λ e. cc (e, is), none)

pub by_memory : (call : Option Call) (status : Status) (seals : List SealValue) → status ≡ Memory → seals ≡ [] → IsByCall call status seals
by_memory None status seals is none = inr (inl is)
by_memory (Some (run call)) status seals is none = (λ e. cc (e, is), λ e. cc (e, is))
by_memory (Some (synth call)) status seals is none = (λ e. cc (e, is), λ at code e. cc (e, is), λ e. cc (e, is))
by_memory (Some (dump call)) status seals is none = (λ e. cc (e, is), λ line code e. cc (e, is), λ e. cc (e, is), λ e. cc (e, is), none)
by_memory (Some (snapshot call)) status seals is none = (λ e. cc (e, is), none)
by_memory (Some (watch call)) status seals is none = (λ e. cc (e, is), none)
by_memory (Some (long call)) status seals is none = (λ e. cc (e, is), none)

pub by_stop : (told : Option (List File)) (call : Option Call) (before now : Option (List ℕ)) (status : Status) (seals : List SealValue) (stop : Stop)
    → status ≡ stop_status stop → seals ≡ [] → StopsAt told call stop before now → IsByCall call status seals
by_stop told call before now status seals stops.Memory is none left = by_memory call status seals is none
by_stop told None before now status seals stops.ReadFault is none left = absurd (cc left.0)
by_stop told (Some (run call)) before now status seals stops.ReadFault is none left = (λ e. cc (e, is), λ e. cc (e, is))
by_stop told (Some (synth call)) before now status seals stops.ReadFault is none left = (λ e. cc (e, is), λ at code e. cc (e, is), λ e. cc (e, is))
by_stop told (Some (dump call)) before now status seals stops.ReadFault is none left =
    (λ e. cc (e, is), λ line code e. cc (e, is), λ e. cc (e, is), λ e. cc (e, is), none)
by_stop told (Some (snapshot call)) before now status seals stops.ReadFault is none left = (λ e. cc (e, is), none)
by_stop told (Some (watch call)) before now status seals stops.ReadFault is none left = (λ e. cc (e, is), none)
by_stop told (Some (long call)) before now status seals stops.ReadFault is none left = (λ e. cc (e, is), none)

-- words that are no command
pub words_text : (told : Option (List File)) (call : Option Call) (before now : Option (List ℕ)) (status : Status) (text : List ℕ) (seals : List SealValue)
    → IsDue told call before now status text seals → call ≡ None → text ≡ line_of refusals.Words
words_text told None before now status text seals due none = (subst (λ (w : Work). WorkGives w status text seals) due.comes.0 due.gives).1
words_text told (Some call) before now status text seals due none = absurd (cc none)

pub words_call : (told : Option (List File)) (call : Option Call) (before now : Option (List ℕ)) (status : Status) (text : List ℕ) (seals : List SealValue)
    → HasSizes call → IsDue told call before now status text seals → status ≡ Words → call ≡ None
words_call told None before now status text seals sized due is = refl
words_call told (Some (run call)) before now status text seals sized due is =
    absurd ((by_due told before now status text seals (Some (run call)) sized due).0 is)
words_call told (Some (synth call)) before now status text seals sized due is =
    absurd ((by_due told before now status text seals (Some (synth call)) sized due).0 is)
words_call told (Some (dump call)) before now status text seals sized due is =
    absurd ((by_due told before now status text seals (Some (dump call)) sized due).0 is)
words_call told (Some (snapshot call)) before now status text seals sized due is =
    absurd ((by_due told before now status text seals (Some (snapshot call)) sized due).0 is)
words_call told (Some (watch call)) before now status text seals sized due is =
    absurd ((by_due told before now status text seals (Some (watch call)) sized due).0 is)
words_call told (Some (long call)) before now status text seals sized due is =
    absurd ((by_due told before now status text seals (Some (long call)) sized due).0 is)

-- the sizes of a command are in their ranges
pub sized_by : (command : Option Command) → IfSome command IsInRange → HasSizes (option_map call_by command)
sized_by None within = tt
sized_by (Some (commands.Run command)) within = within
sized_by (Some (commands.Synth command)) within = within.0
sized_by (Some (commands.Dump command)) within = tt
sized_by (Some (commands.Snapshot command)) within = within.sizes
sized_by (Some (commands.Watch command)) within = within
sized_by (Some (commands.Long command)) within = within.sizes

pub keeps_same : (held : Option (List ℕ)) → Keeps held held
keeps_same None = tt
keeps_same (Some bytes) = refl

-- the same is due under other names
pub due_as : (told : Option (List File)) (call : Option Call) (before now : Option (List ℕ)) (status other : Status) (text : List ℕ)
    (seals owed : List SealValue) → IsDue told call before now status text seals → other ≡ status → owed ≡ seals → IsDue told call before now other text owed
due_as told call before now status other text seals owed due is also =
    subst (λ (s : Status). IsDue told call before now s text owed) (sym is)
    (subst (λ (q : List SealValue). IsDue told call before now status text q) (sym also) due)

-- a reply has none of the statuses that devices and lack of memory give, and seals only if the work was done
none_of : {A B C : Type 0} → (A → ⊥) → (B → ⊥) → (C → ⊥) → A ⊎ B ⊎ C → ⊥
none_of {A} {B} {C} a b c (inl x) = a x
none_of {A} {B} {C} a b c (inr (inl x)) = b x
none_of {A} {B} {C} a b c (inr (inr x)) = c x

pub refusal_yields : (why : Refusal) → Yields (status_of why) → ⊥
refusal_yields refusals.Words yields = none_of (λ e. cc e) (λ e. cc e) (λ e. cc e) yields
refusal_yields refusals.NoFile yields = none_of (λ e. cc e) (λ e. cc e) (λ e. cc e) yields
refusal_yields (refusals.Setup line code) yields = none_of (λ e. cc e) (λ e. cc e) (λ e. cc e) yields
refusal_yields (refusals.Capture at code) yields = none_of (λ e. cc e) (λ e. cc e) (λ e. cc e) yields
refusal_yields (refusals.Full capacity) yields = none_of (λ e. cc e) (λ e. cc e) (λ e. cc e) yields
refusal_yields (refusals.Nodes nodes) yields = none_of (λ e. cc e) (λ e. cc e) (λ e. cc e) yields

reply_yields : (reply : WorkReply) → Yields (reply_status reply) → ⊥
reply_yields (replies.Done text seals) yields = none_of (λ e. cc e) (λ e. cc e) (λ e. cc e) yields
reply_yields (replies.Refused why text) yields = refusal_yields why yields

pub never_yields : (reply : WorkReply) (status : Status) → status ≡ reply_status reply → Yields status → ⊥
never_yields reply status is yields = reply_yields reply (subst Yields is yields)

pub reply_unsealed : (reply : WorkReply) (status : Status) (seals : List SealValue) → status ≡ reply_status reply → seals ≡ reply_seals reply
    → (status ≡ Done → ⊥) → seals ≡ []
reply_unsealed (replies.Done text seals) status sealed is also undone = absurd (undone is)
reply_unsealed (replies.Refused why text) status sealed is also undone = also
