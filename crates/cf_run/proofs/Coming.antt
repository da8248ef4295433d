-- From the parts of the work to what is due, and what is left of the opened file.
use Rattle.std.proofs.Common.{◌≡◌, ℕ, ◌+◌, ◌*◌, ◌<◌, ◌≤◌, Bool, true, false, List, [], ◌++◌, length, Option, Some, None, Result, Ok, Err, MatchResult, All, Any, refl, sym, ap, subst, inl, inr, arith}
use Rattle.cf_outside.specs.Files.{File}
use Rattle.cf_row.specs.Row.{RowValue}
use Rattle.cf_row.specs.Schema6.{attrs_by}
use Rattle.cf_setup.specs.declared.source.Source.{Source}
use Rattle.cf_setup.specs.declared.source.Source.TheVariants.{Packets, Records}
use Rattle.cf_command.specs.Call.{Call, RunCall, SynthCall, DumpCall, SnapshotCall, WatchCall, LongCall}
use Rattle.cf_command.specs.Call.Call.{run, synth, dump, snapshot, watch, long}
use Rattle.cf_follow.specs.Followed.{truncated_line}
use Rattle.cf_report.specs.Dump.{dump_text}
use Rattle.cf_setup.specs.Setups.{SetupValue}
use Rattle.cf_table.specs.Moves.{SealValue}
use Rattle.cf_run.specs.Due.{Work, CallsBy, CallsByAll, CallsFor, RunAfter, SynthAfter, SnapshotAfter, WatchFrom, WatchAfter, LongFrom, LongAfter, ComesTo, Exceeds, GivesLog, HostsExceed, LogHasRoom, IsSnapshotOf, GivesCut, IsReportOf, AreAnswersOf, IsDue, StopsAt, drawn_work}
use Rattle.cf_run.specs.Due.Work.{report, answers, listing, at_cut, refused}
use Rattle.cf_run.specs.Due.CallsBy.{halted, whole}
use Rattle.cf_run.specs.Due.CallsByAll.{one_halted, all_whole}
use Rattle.cf_run.specs.Due.GivesCut.{refuses_hosts, tells_hosts}
use Rattle.cf_run.specs.Due.HostsExceed.{some_full}
use Rattle.cf_run.specs.Due.GivesLog.{refuses, tells}
use Rattle.cf_intake.specs.Files.{IsStopped, Grammar, setups, captures, IsFileAs, IsFileRefused, IsReadAs, Halts}
use Rattle.cf_intake.specs.Files.IsFileRefused.{missing, broken}
use Rattle.cf_run.specs.Parts.{EndsWith, IsPrepared, reply_status, reply_text, reply_seals, ends_each}
use Rattle.cf_intake.specs.Parts.{AreFirstOf, captured_each, rows_each}
use Rattle.cf_intake.specs.Rows.{CaptureValue}
use Rattle.cf_intake.specs.declared.rows.Captured.{Captured}
use Rattle.cf_fill.specs.Logs.{NodesSuffice, IsUnmade, halt_of}
use Rattle.cf_intake.specs.Refusals.{line_of}
use Rattle.cf_run.specs.Refusals.{status_of}
use Rattle.cf_fill.specs.Seals.{IsSealedReport}
use Rattle.cf_intake.specs.Several.{AreReadAs, AreHalted, AreStopped}
use Rattle.cf_fill.specs.Work.{draws, drawn_rows, shape_for}
use Rattle.cf_run.specs.Hosts.{ends_told}
use Rattle.cf_run.specs.Due.Exceeds.{full, short}
use Rattle.cf_fill.proofs.Drawing.{drawn_many}
use Rattle.cf_fill.proofs.Whole.{whole_taken}
use Rattle.cf_intake.proofs.Several.{all_taken, halts_after, refused_stopped}
use Rattle.cf_intake.proofs.Taking.{left_same}
use Rattle.cf_run.proofs.Keeping.{rows_captured, ends_captured, full_told}
use Rattle.cf_run.specs.declared.reply.WorkReply.{WorkReply}
use Rattle.cf_fill.specs.declared.log.Unmade.{Unmade}
use Rattle.cf_fill.specs.declared.log.Unmade.TheVariants as unmade
use Rattle.cf_intake.specs.declared.refusal.Halt.{Halt}
use Rattle.cf_intake.specs.declared.refusal.Halt.TheVariants.{Refused, Stopped}
use Rattle.cf_intake.specs.declared.refusal.Refusal.{Refusal}
use Rattle.cf_intake.specs.declared.refusal.Refusal.TheVariants as refusals
use Rattle.cf_intake.specs.declared.refusal.Stop.{Stop}
use Rattle.cf_intake.specs.declared.refusal.Stop.TheVariants as stops
use Rattle.cf_run.specs.declared.status.Status.{Status}
use Rattle.cf_run.specs.declared.status.Status.TheVariants.{Done}

-- a file that halts the work
ends_halted : {A : Type 0} (g : Grammar A) (told : Option (List File)) (call : Option Call) (name : List ℕ) (start before now : Option (List ℕ))
    → ((why : Refusal) → IsFileRefused g told name start now why → ComesTo told call before now (refused why))
    → ((stop : Stop) → IsStopped told name g.limit start now → StopsAt told call stop before now) → (halt : Halt) → Halts g told name start now halt
    → EndsWith told call before now (Err halt)
ends_halted {A} g told call name start before now comes stopped (Refused why) halts =
    record { work = refused why; comes = comes why halts; gives = (refl, refl, refl) }
ends_halted {A} g told call name start before now comes stopped (Stopped stop) halts = stopped stop halts

module _ (told : Option (List File)) (call : RunCall) (before now : Option (List ℕ)) where
  pub run_unset : (halt : Halt) → Halts setups told call.setup before now halt → EndsWith told (Some (run call)) before now (Err halt)
  run_unset halt halts =
      ends_halted setups told (Some (run call)) call.setup before before now (λ why file. halted why file refl) (λ stop left. inl left) halt halts

  -- before the capture was opened
  pub run_unopened : (setup : SetupValue) → IsReadAs setups told call.setup now setup → StopsAt told (Some (run call)) stops.Memory before now
  run_unopened setup set = inl (whole_taken setups told call.setup before now setup set)

  module _ (setup : SetupValue) (mid : Option (List ℕ)) (set : IsReadAs setups told call.setup mid setup) where
    pub run_unread : (halt : Halt) → Halts (captures setup.source call.truncated setup.schema) told call.capture mid now halt
        → EndsWith told (Some (run call)) before now (Err halt)
    run_unread halt halts =
        ends_halted (captures setup.source call.truncated setup.schema) told (Some (run call)) call.capture (Some []) before now
        (λ why file. whole setup set.0 (halted why file refl)) (λ stop left. inr (setup, set.0, left)) halt
        (halts_after (captures setup.source call.truncated setup.schema) told call.capture mid now set.1 halt halts)

    module _ (what : CaptureValue) (read : IsReadAs (captures setup.source call.truncated setup.schema) told call.capture now what) where
      pub run_gives : (status : Status) (text : List ℕ) (seals : List SealValue)
          → GivesLog call.sizes setup what.rows (IsReportOf call setup what) status text seals → IsDue told (Some (run call)) before now status text seals
      run_gives status text seals gives = record { work = report call setup what; comes = whole setup set.0 (whole what read.0 (refl, read.1)); gives = gives }

      pub run_exceeds : (why : Refusal) → Exceeds call.sizes setup what.rows why → EndsWith told (Some (run call)) before now (Err (Refused why))
      run_exceeds why over = run_gives (status_of why) (line_of why) [] (refuses why over (refl, refl, refl))

      pub run_stopped : StopsAt told (Some (run call)) stops.Memory before now
      run_stopped = inr (setup, set.0, whole_taken (captures setup.source call.truncated setup.schema) told call.capture (Some []) now what read)

      -- there is no log of the rows
      pub run_unmade : (why : Unmade) → length what.rows ≤ call.sizes.capacity * call.sizes.segments → IsUnmade (shape_for setup call.sizes) what.rows why
          → EndsWith told (Some (run call)) before now (Err (halt_of call.sizes.nodes why))
      run_unmade unmade.Nodes few many = run_exceeds (refusals.Nodes call.sizes.nodes) (short few many refl)
      run_unmade unmade.Memory few many = run_stopped

      pub run_sealed : (body text : List ℕ) (seals : List SealValue) → text ≡ body ++ truncated_line what.cut
          → length what.rows ≤ call.sizes.capacity * call.sizes.segments
          → IsSealedReport setup call.sizes.capacity call.sizes.writers call.sizes.nodes call.rounds what.rows body seals
          × NodesSuffice setup call.sizes what.rows
          → IsDue told (Some (run call)) before now Done text seals
      run_sealed body text seals is few made = run_gives Done text seals (tells few made.1 refl (record { body = body; sealed = made.0; text_is = is }))

module _ (told : Option (List File)) (call : SynthCall) (before now : Option (List ℕ)) where
  pub synth_unset : (halt : Halt) → Halts setups told call.setup before now halt → EndsWith told (Some (synth call)) before now (Err halt)
  synth_unset halt halts =
      ends_halted setups told (Some (synth call)) call.setup before before now (λ why file. halted why file refl) (λ stop left. left) halt halts

  module _ (setup : SetupValue) (set : IsReadAs setups told call.setup now setup) where
    pub synth_other : draws setup.source ≡ false → EndsWith told (Some (synth call)) before now (Err (Refused (refusals.Setup setup.schema_line 4)))
    synth_other records =
        record {
          work = refused (refusals.Setup setup.schema_line 4);
          comes = whole setup set.0 (ap (λ (b : Bool). drawn_work call setup b) (sym records), set.1);
          gives = (refl, refl, refl);
        }

    pub synth_stopped : StopsAt told (Some (synth call)) stops.Memory before now
    synth_stopped = whole_taken setups told call.setup before now setup set

    module _ (packets : draws setup.source ≡ true) where
      pub synth_gives : (status : Status) (text : List ℕ) (seals : List SealValue)
          → GivesLog call.sizes setup (drawn_rows call) (AreAnswersOf call setup) status text seals
          → IsDue told (Some (synth call)) before now status text seals
      synth_gives status text seals gives =
          record { work = answers call setup; comes = whole setup set.0 (ap (λ (b : Bool). drawn_work call setup b) (sym packets), set.1); gives = gives }

      synth_exceeds : (why : Refusal) → Exceeds call.sizes setup (drawn_rows call) why → EndsWith told (Some (synth call)) before now (Err (Refused why))
      synth_exceeds why over = synth_gives (status_of why) (line_of why) [] (refuses why over (refl, refl, refl))

      pub synth_full : call.sizes.capacity * call.sizes.segments < call.count
          → EndsWith told (Some (synth call)) before now (Err (Refused (refusals.Full (call.sizes.capacity * call.sizes.segments))))
      synth_full many =
          let size = drawn_many call in
          synth_exceeds (refusals.Full (call.sizes.capacity * call.sizes.segments)) (full (omega (arith, size, many)) refl)

      pub synth_unmade : (why : Unmade) → length (drawn_rows call) ≤ call.sizes.capacity * call.sizes.segments
          → IsUnmade (shape_for setup call.sizes) (drawn_rows call) why
          → EndsWith told (Some (synth call)) before now (Err (halt_of call.sizes.nodes why))
      synth_unmade unmade.Nodes few many = synth_exceeds (refusals.Nodes call.sizes.nodes) (short few many refl)
      synth_unmade unmade.Memory few many = synth_stopped

      pub synth_sealed : (text : List ℕ) (seals : List SealValue) → length (drawn_rows call) ≤ call.sizes.capacity * call.sizes.segments
          → AreAnswersOf call setup text seals × NodesSuffice setup call.sizes (drawn_rows call) → IsDue told (Some (synth call)) before now Done text seals
      synth_sealed text seals few made = synth_gives Done text seals (tells few made.1 refl made.0)

module _ (told : Option (List File)) (call : DumpCall) (before now : Option (List ℕ)) where
  pub dump_unread : (halt : Halt) → Halts (captures (Packets call.schema) call.truncated (attrs_by call.schema)) told call.capture before now halt
      → EndsWith told (Some (dump call)) before now (Err halt)
  dump_unread halt halts =
      ends_halted (captures (Packets call.schema) call.truncated (attrs_by call.schema)) told (Some (dump call)) call.capture before before now
      (λ why file. halted why file refl)
      (λ stop left. left) halt halts

  module _ (what : CaptureValue) (read : IsReadAs (captures (Packets call.schema) call.truncated (attrs_by call.schema)) told call.capture now what) where
    pub dump_gives : (text : List ℕ) (seals : List SealValue) → text ≡ dump_text (attrs_by call.schema) what.rows ++ truncated_line what.cut → seals ≡ []
        → IsDue told (Some (dump call)) before now Done text seals
    dump_gives text seals is none = record { work = listing call.schema what; comes = whole what read.0 (refl, read.1); gives = (refl, is, none) }

    pub dump_stopped : StopsAt told (Some (dump call)) stops.Memory before now
    dump_stopped = whole_taken (captures (Packets call.schema) call.truncated (attrs_by call.schema)) told call.capture before now what read

module _ (told : Option (List File)) (call : SnapshotCall) (before now : Option (List ℕ)) where
  pub snapshot_unset : (halt : Halt) → Halts setups told call.setup before now halt → EndsWith told (Some (snapshot call)) before now (Err halt)
  snapshot_unset halt halts =
      ends_halted setups told (Some (snapshot call)) call.setup before before now (λ why file. halted why file refl) (λ stop left. inl left) halt halts

  module _ (setup : SetupValue) (mid : Option (List ℕ)) (set : IsReadAs setups told call.setup mid setup) where
    pub snapshot_unread : (halt : Halt) → AreHalted (captures setup.source call.truncated setup.schema) told call.captures (Some []) now halt
        → EndsWith told (Some (snapshot call)) before now (Err halt)
    snapshot_unread (Refused why) halts = record { work = refused why; comes = whole setup set.0 (one_halted why halts refl); gives = (refl, refl, refl) }
    snapshot_unread (Stopped stop) halts = inr (setup, set.0, halts)

    -- of which some host has too many rows
    pub snapshot_full : (hosts : List Captured)
        → AreFirstOf (captures setup.source call.truncated setup.schema) told call.captures now (call.sizes.capacity + 1) (captured_each hosts)
        → Any (λ rows. call.sizes.capacity < length rows) (rows_each hosts)
        → EndsWith told (Some (snapshot call)) before now (Err (Refused (refusals.Full call.sizes.capacity)))
    snapshot_full hosts first many = record {
      work = at_cut call setup first.whats;
      comes = whole setup set.0 (all_whole first.whats first.read.0 (refl, first.read.1));
      gives = refuses_hosts (refusals.Full call.sizes.capacity) (some_full (full_told call.sizes.capacity hosts first.whats first.kept_are many) refl)
          (refl, refl, refl);
    }

    module _ (hosts : List Captured) (read : AreReadAs (captures setup.source call.truncated setup.schema) told call.captures now (captured_each hosts)) where
      snapshot_gives : (status : Status) (text : List ℕ) (seals : List SealValue)
          → GivesCut call setup (rows_each hosts) (ends_each hosts) status text seals → IsDue told (Some (snapshot call)) before now status text seals
      snapshot_gives status text seals gives =
          record {
            work = at_cut call setup (captured_each hosts);
            comes = whole setup set.0 (all_whole (captured_each hosts) read.0 (refl, read.1));
            gives = subst (λ (lists : List (List RowValue)). GivesCut call setup lists (ends_told (captured_each hosts)) status text seals)
                (sym (rows_captured hosts))
                (subst (λ (ends : List (Option ℕ)). GivesCut call setup (rows_each hosts) ends status text seals) (sym (ends_captured hosts)) gives);
          }

      pub snapshot_exceeds : (why : Refusal) → HostsExceed call.sizes setup (rows_each hosts) why
          → EndsWith told (Some (snapshot call)) before now (Err (Refused why))
      snapshot_exceeds why over = snapshot_gives (status_of why) (line_of why) [] (refuses_hosts why over (refl, refl, refl))

      pub snapshot_stopped : StopsAt told (Some (snapshot call)) stops.Memory before now
      snapshot_stopped = inr (setup, set.0, all_taken (captures setup.source call.truncated setup.schema) told call.captures now (captured_each hosts) read)

      pub snapshot_told : (text : List ℕ) (seals : List SealValue) → All (LogHasRoom call.sizes setup) (rows_each hosts)
          → IsSnapshotOf call setup (rows_each hosts) (ends_each hosts) text → seals ≡ []
          → IsDue told (Some (snapshot call)) before now Done text seals
      snapshot_told text seals room is none = snapshot_gives Done text seals (tells_hosts room refl is none)

-- the lack of nodes or of memory is no device's fault
pub unmade_unfailed : {T : Type 0} (nodes : ℕ) (why : Unmade) → ◌≡◌ {A = Result T Halt} (Err (halt_of nodes why)) (Err (Stopped stops.ReadFault)) → ⊥
unmade_unfailed {T} nodes unmade.Nodes is = absurd (cc is)
unmade_unfailed {T} nodes unmade.Memory is = absurd (cc is)

-- before any file was opened
pub stops_unopened : (told : Option (List File)) (call : Option Call) (before : Option (List ℕ)) → StopsAt told call stops.Memory before before
stops_unopened told None before = (refl, left_same told before)
stops_unopened told (Some (run call)) before = inl (inl (left_same told before))
stops_unopened told (Some (synth call)) before = inl (left_same told before)
stops_unopened told (Some (dump call)) before = inl (left_same told before)
stops_unopened told (Some (snapshot call)) before = inl (inl (left_same told before))
stops_unopened told (Some (watch call)) before = inl (inl (left_same told before))
stops_unopened told (Some (long call)) before = inl (inl (left_same told before))

pub words_due : (told : Option (List File)) (before : Option (List ℕ)) → EndsWith told None before before (Err (Refused refusals.Words))
words_due told before = record { work = refused refusals.Words; comes = (refl, left_same told before); gives = (refl, refl, refl) }

-- What may be left where memory runs out while a refusal's line is made.

called_left : {A : Type 0} (g : Grammar A) (told : Option (List File)) (name : List ℕ) (before now : Option (List ℕ)) (Next : A → Work → Type 0) (work : Work)
    (X : Type 0) → (IsStopped told name g.limit before now → X) → ((what : A) → IsFileAs g told name what → Next what work → X)
    → CallsBy g told name before now Next work → X
called_left {A} g told name before now Next work X stop go (halted why (missing none left why_is) is) = stop (inl left)
called_left {A} g told name before now Next work X stop go (halted why (broken bytes place code file breaks left why_is) is) =
    stop (inr (bytes, file, record { count = g.limit; most = omega arith; left = left }))
called_left {A} g told name before now Next work X stop go (whole what said next) = go what said next

all_called_left : {A : Type 0} (g : Grammar A) (told : Option (List File)) (names : List (List ℕ)) (now : Option (List ℕ)) (called : List A → Work)
    (work : Work) → CallsByAll g told names (Some []) now (λ whats. CallsFor told now (called whats)) work → AreStopped g told names (Some []) now
all_called_left {A} g told names now called work (one_halted why refused_files is) = refused_stopped g told names (Some []) now why refused_files
all_called_left {A} g told names now called work (all_whole whats said next) = all_taken g told names now whats (said, next.1)

-- once the setup of a watch is read, nothing of its capture is taken
watch_left : (told : Option (List File)) (call : WatchCall) (before now : Option (List ℕ)) (setup : SetupValue) (work : Work)
    → IsFileAs setups told call.setup setup → (source : Source) → setup.source ≡ source → WatchFrom told call now setup source work
    → StopsAt told (Some (watch call)) stops.Memory before now
watch_left told call before now setup work said Records kind next = inl (whole_taken setups told call.setup before now setup (said, next.1))
watch_left told call before now setup work said (Packets schema) kind (inl next) = inr (setup, schema, said, kind, inl next.1.1)
watch_left told call before now setup work said (Packets schema) kind (inr next) =
    inr (setup, schema, said, kind, inr (next.0, next.1, record { count = 0; most = omega arith; left = next.3 }))

-- once the setup of a run over captures of any length is read
long_left : (told : Option (List File)) (call : LongCall) (before now : Option (List ℕ)) (setup : SetupValue) (work : Work)
    → IsFileAs setups told call.setup setup → (source : Source) → setup.source ≡ source → LongFrom told call now setup source work
    → StopsAt told (Some (long call)) stops.Memory before now
long_left told call before now setup work said Records kind next = inl (whole_taken setups told call.setup before now setup (said, next.1))
long_left told call before now setup work said (Packets schema) kind next = inr (setup, schema, said, kind)

pub comes_stopped : (told : Option (List File)) (call : Option Call) (before now : Option (List ℕ)) (work : Work) → ComesTo told call before now work
    → StopsAt told call stops.Memory before now
comes_stopped told None before now work comes = (refl, comes.1)
comes_stopped told (Some (run call)) before now work comes =
    called_left setups told call.setup before now (RunAfter told call now) work (StopsAt told (Some (run call)) stops.Memory before now) (λ stop. inl stop)
    (λ setup said next.
    called_left (captures setup.source call.truncated setup.schema) told call.capture (Some []) now (λ what. CallsFor told now (report call setup what)) work
    (StopsAt told (Some (run call)) stops.Memory before now) (λ stop. inr (setup, said, stop)) (λ what read end.
    inr (setup, said, whole_taken (captures setup.source call.truncated setup.schema) told call.capture (Some []) now what (read, end.1))) next) comes
comes_stopped told (Some (synth call)) before now work comes =
    called_left setups told call.setup before now (SynthAfter told call now) work (StopsAt told (Some (synth call)) stops.Memory before now) (λ stop. stop)
    (λ setup said next. whole_taken setups told call.setup before now setup (said, next.1)) comes
comes_stopped told (Some (dump call)) before now work comes =
    called_left (captures (Packets call.schema) call.truncated (attrs_by call.schema)) told call.capture before now
    (λ what. CallsFor told now (listing call.schema what)) work
    (StopsAt told (Some (dump call)) stops.Memory before now) (λ stop. stop)
    (λ what said next. whole_taken (captures (Packets call.schema) call.truncated (attrs_by call.schema)) told call.capture before now what
    (said, next.1)) comes
comes_stopped told (Some (snapshot call)) before now work comes =
    called_left setups told call.setup before now (SnapshotAfter told call now) work (StopsAt told (Some (snapshot call)) stops.Memory before now)
    (λ stop. inl stop)
    (λ setup said next. inr (
      setup,
      said,
      all_called_left (captures setup.source call.truncated setup.schema) told call.captures now (λ hosts. at_cut call setup hosts) work next,
    )) comes
comes_stopped told (Some (watch call)) before now work comes =
    called_left setups told call.setup before now (WatchAfter told call now) work (StopsAt told (Some (watch call)) stops.Memory before now)
    (λ stop. inl stop) (λ setup said next. watch_left told call before now setup work said setup.source refl next) comes
comes_stopped told (Some (long call)) before now work comes =
    called_left setups told call.setup before now (LongAfter told call now) work (StopsAt told (Some (long call)) stops.Memory before now)
    (λ stop. inl stop) (λ setup said next. long_left told call before now setup work said setup.source refl next) comes

pub refused_prepared : (told : Option (List File)) (call : Option Call) (before now : Option (List ℕ)) (why : Refusal) (result : Result WorkReply Stop)
    → EndsWith told call before now (Err (Refused why))
    → MatchResult result (λ reply. (reply_text reply ≡ line_of why) × (reply_status reply ≡ status_of why) × (reply_seals reply ≡ []))
    (λ stop. stop ≡ stops.Memory) → IsPrepared told call before now result
refused_prepared told call before now why (Ok reply) due is =
    subst (λ (s : Status). IsDue told call before now s (reply_text reply) (reply_seals reply)) (sym is.1)
    (subst (λ (t : List ℕ). IsDue told call before now (status_of why) t (reply_seals reply)) (sym is.0)
    (subst (λ (q : List SealValue). IsDue told call before now (status_of why) (line_of why) q) (sym is.2) due))
refused_prepared told call before now why (Err stop) due is =
    subst (λ (s : Stop). StopsAt told call s before now) (sym is) (comes_stopped told call before now due.work due.comes)
