-- From the parts of a watch to what is due, and what it has written.
use Rattle.std.proofs.Common.{◌≡◌, ◌⊎◌, ◌≤◌, ℕ, Bool, List, [], Option, Some, None, Result, Ok, Err, IfSome, refl, sym, ap, ◌∙◌, subst, inl, inr, arith}
use Rattle.cf_command.specs.Call.{Call, WatchCall, AreWindowSizes}
use Rattle.cf_command.specs.Call.Call.{watch}
use Rattle.cf_follow.specs.Completed.{IsWatchable, Yields as EndingYields}
use Rattle.cf_follow.specs.Followed.{IsDueOfStream, IsFollowed, IsTurnedAway}
use Rattle.cf_follow.specs.Followed.IsDueOfStream.{done, broken, refused as turned, unread}
use Rattle.cf_follow.specs.Followed.IsFollowed.{wrote as wrote_all, cut as cut_text, cut_round, cut_forced, out, out_within}
use Rattle.cf_follow.specs.Followed.IsTurnedAway.{full, nodes}
use Rattle.cf_follow.specs.declared.ending.Ending.{Ending}
use Rattle.cf_follow.specs.declared.ending.Ending.TheVariants as endings
use Rattle.cf_follow.specs.declared.watch.Watch.{Watch}
use Rattle.cf_intake.specs.Files.{HasLeft, Halts, IsReadAs, setups}
use Rattle.cf_intake.specs.Reads.{view_by}
use Rattle.cf_intake.specs.Refusals.{line_of}
use Rattle.cf_intake.specs.declared.refusal.Halt.{Halt}
use Rattle.cf_intake.specs.declared.refusal.Halt.TheVariants.{Refused, Stopped}
use Rattle.cf_intake.specs.declared.refusal.Refusal.{Refusal}
use Rattle.cf_intake.specs.declared.refusal.Refusal.TheVariants as refusals
use Rattle.cf_intake.specs.declared.refusal.Stop.{Stop}
use Rattle.cf_intake.specs.declared.refusal.Stop.TheVariants as stops
use Rattle.cf_outside.specs.Files.{File, Opens, ShelfView}
use Rattle.cf_outside.specs.Causes.{Rose}
use Rattle.cf_outside.specs.declared.shelf.OpenFault.{OpenFault}
use Rattle.cf_outside.specs.declared.shelf.OpenFault.TheVariants as open_faults
use Rattle.cf_row.specs.declared.packet6.PacketSchema.{PacketSchema}
use Rattle.cf_follow.specs.Held.{RoundsValue}
use Rattle.cf_setup.specs.Setups.{SetupValue}
use Rattle.cf_setup.specs.declared.source.Source.{Source}
use Rattle.cf_setup.specs.declared.source.Source.TheVariants.{Packets, Records}
use Rattle.cf_table.specs.Moves.{SealValue}
use Rattle.cf_run.specs.Answers.{IsByCall, IsDecided, RunAnswers, Yields}
use Rattle.cf_run.specs.Answers.RunAnswers.{wrote, cut, stopped, watched}
use Rattle.cf_run.specs.Due.{IsDue, IsLawful, StopsAt, WatchFrom}
use Rattle.cf_run.specs.Due.Work.{refused}
use Rattle.cf_run.specs.Due.CallsBy.{halted, whole}
use Rattle.cf_run.specs.Parts.{WatchBegins, IsBegun, IsUnopened, Refuses, packets_from}
use Rattle.cf_run.specs.Refusals.{ending_status, status_of}
use Rattle.cf_run.specs.Watched.{IsOpened, begun_for}
use Rattle.cf_run.specs.declared.status.Status.{Status}
use Rattle.cf_run.specs.declared.status.Status.TheVariants as statuses
use Rattle.cf_run.proofs.Answering.{by_cut, by_due, by_memory, complete_free, complete_if, decided_free, decided_if, refusal_yields}
use Rattle.cf_run.proofs.Coming.{comes_stopped}
use Rattle.cf_run.proofs.Deciding.{stream_lawful, stream_undue}

-- the capture is opened, or is not
pub opened_so : (told : Option (List File)) (name : List ℕ) (before now : Option (List ℕ)) → Opens told name before now (Ok tt) → IsOpened told name now
opened_so None name before now opens = ([], tt, tt)
opened_so (Some files) name before now opens = (opens.0, opens.1, opens.2)

missing_is : (told : Option (List File)) (name : List ℕ) (before now : Option (List ℕ)) → Opens told name before now (Err open_faults.Missing)
    → IsUnopened told name before now (Refused refusals.NoFile)
missing_is None name before now opens = (tt, tt, refl)
missing_is (Some files) name before now opens = (opens.0, opens.1, refl)

failed_is : (told : Option (List File)) (name : List ℕ) (before now : Option (List ℕ)) (stop : Stop) → Opens told name before now (Err open_faults.Failed)
    → IsUnopened told name before now (Stopped stop)
failed_is None name before now stop opens = tt
failed_is (Some files) name before now stop opens = opens

lacking_is : (told : Option (List File)) (name : List ℕ) (before now : Option (List ℕ)) (stop : Stop) → Opens told name before now (Err open_faults.Memory)
    → IsUnopened told name before now (Stopped stop)
lacking_is None name before now stop opens = tt
lacking_is (Some files) name before now stop opens = opens

module _ (told : Option (List File)) (name : List ℕ) (before now : Option (List ℕ)) (fault : OpenFault) (opens : Opens told name before now (Err fault)) where
  pub missing_so : fault ≡ open_faults.Missing → IsUnopened told name before now (Refused refusals.NoFile)
  missing_so is = missing_is told name before now (subst (λ (f : OpenFault). Opens told name before now (Err f)) is opens)

  pub failed_so : (stop : Stop) → fault ≡ open_faults.Failed → IsUnopened told name before now (Stopped stop)
  failed_so stop is = failed_is told name before now stop (subst (λ (f : OpenFault). Opens told name before now (Err f)) is opens)

  pub lacking_so : (stop : Stop) → fault ≡ open_faults.Memory → IsUnopened told name before now (Stopped stop)
  lacking_so stop is = lacking_is told name before now stop (subst (λ (f : OpenFault). Opens told name before now (Err f)) is opens)

left_on : (told : Option (List File)) (mid now left : Option (List ℕ)) → HasLeft told mid left → HasLeft told now mid → HasLeft told now left
left_on None mid now left p q = tt
left_on (Some files) mid now left p q = q ∙ p

module _ (told : Option (List File)) (call : WatchCall) (before : Option (List ℕ)) where
  pub watch_unset : (now : Option (List ℕ)) (halt : Halt) → Halts setups told call.setup before now halt → WatchBegins told call before now (Err halt)
  watch_unset now (Refused why) halts = record { work = refused why; comes = halted why halts refl; gives = (refl, refl, refl) }
  watch_unset now (Stopped stop) halts = inl halts

  module _ (setup : SetupValue) (mid : Option (List ℕ)) (set : IsReadAs setups told call.setup mid setup) where
    -- the setup calls for a refusal
    refused_so : (now : Option (List ℕ)) (why : Refusal) → WatchFrom told call now setup setup.source (refused why)
        → WatchBegins told call before now (Err (Refused why))
    refused_so now why next = record { work = refused why; comes = whole setup set.0 next; gives = (refl, refl, refl) }

    other_from : (source : Source) → setup.source ≡ source → (halt : Halt)
        → ◌≡◌ {A = Result PacketSchema Halt} (Err halt) (packets_from source setup.schema_line) → WatchBegins told call before mid (Err halt)
    other_from Records kind halt is =
        let same : Refused (refusals.Setup setup.schema_line 4) ≡ halt = cc is in
        subst (λ (h : Halt). WatchBegins told call before mid (Err h)) same
        (refused_so mid (refusals.Setup setup.schema_line 4)
        (subst (λ (source : Source). WatchFrom told call mid setup source (refused (refusals.Setup setup.schema_line 4))) (sym kind) (refl, set.1)))
    other_from (Packets schema) kind halt is = absurd (cc is)

    pub watch_other : (halt : Halt) → ◌≡◌ {A = Result PacketSchema Halt} (Err halt) (packets_from setup.source setup.schema_line)
        → WatchBegins told call before mid (Err halt)
    watch_other halt is = other_from setup.source refl halt is

    schema_from : (source : Source) (schema : PacketSchema) → ◌≡◌ {A = Result PacketSchema Halt} (Ok schema) (packets_from source setup.schema_line)
        → source ≡ Packets schema
    schema_from Records schema is = absurd (cc is)
    schema_from (Packets other) schema is = cc is

    pub watch_kind : (schema : PacketSchema) → ◌≡◌ {A = Result PacketSchema Halt} (Ok schema) (packets_from setup.source setup.schema_line)
        → setup.source ≡ Packets schema
    watch_kind schema is = schema_from setup.source schema is

    module _ (schema : PacketSchema) (kind : setup.source ≡ Packets schema) where
      pub watch_unopened : (now : Option (List ℕ)) (halt : Halt) → IsUnopened told call.capture mid now halt → WatchBegins told call before now (Err halt)
      watch_unopened now (Refused why) unopened =
          subst (λ (w : Refusal). WatchBegins told call before now (Err (Refused w))) (sym unopened.2)
          (refused_so now refusals.NoFile
          (subst (λ (source : Source). WatchFrom told call now setup source (refused refusals.NoFile)) (sym kind)
          (inl (unopened.0, (refl, left_on told mid now (Some []) set.1 unopened.1)))))
      watch_unopened now (Stopped stop) unopened = inr (setup, schema, set.0, kind, inl (left_on told mid now (Some []) set.1 unopened))

      pub watch_lacking : (now : Option (List ℕ)) (stop : Stop) → IsOpened told call.capture now → StopsAt told (Some (watch call)) stop before now
      watch_lacking now stop opens = inr (setup, schema, set.0, kind, inr (opens.0, opens.1, record { count = 0; most = omega arith; left = opens.2 }))

-- Which endings have which statuses.
refusal_words : (why : Refusal) → (why ≡ refusals.Words → ⊥) → status_of why ≡ statuses.Words → ⊥
refusal_words refusals.Words never is = never refl
refusal_words refusals.NoFile never is = cc is
refusal_words (refusals.Setup line code) never is = cc is
refusal_words (refusals.Capture at code) never is = cc is
refusal_words (refusals.Full most) never is = cc is
refusal_words (refusals.Nodes most) never is = cc is

ending_words : (ending : Ending) → ((why : Refusal) → ending ≡ endings.Refused why → why ≡ refusals.Words → ⊥) → ending_status ending ≡ statuses.Words → ⊥
ending_words endings.Done never is = cc is
ending_words (endings.Refused why) never is = refusal_words why (never why refl) is
ending_words (endings.Stopped stops.ReadFault) never is = cc is
ending_words (endings.Stopped stops.Memory) never is = cc is
ending_words endings.Unwritten never is = cc is

pub ending_read : (ending : Ending) → ending_status ending ≡ statuses.ReadFault → ending ≡ endings.Stopped stops.ReadFault
ending_read endings.Done is = absurd (cc is)
ending_read (endings.Refused why) is = absurd (refusal_yields why (inr (inl is)))
ending_read (endings.Stopped stops.ReadFault) is = refl
ending_read (endings.Stopped stops.Memory) is = absurd (cc is)
ending_read endings.Unwritten is = absurd (cc is)

pub ending_unwritten : (ending : Ending) → ending_status ending ≡ statuses.WriteFault → ending ≡ endings.Unwritten
ending_unwritten endings.Done is = absurd (cc is)
ending_unwritten (endings.Refused why) is = absurd (refusal_yields why (inr (inr is)))
ending_unwritten (endings.Stopped stops.ReadFault) is = absurd (cc is)
ending_unwritten (endings.Stopped stops.Memory) is = absurd (cc is)
ending_unwritten endings.Unwritten is = refl

-- a stream is refused by its capture, or because it is full or lacks nodes
turned_words : (begun : RoundsValue) (rows : List _) (row : _) (why : Refusal) → IsTurnedAway begun rows row why → why ≡ refusals.Words → ⊥
turned_words begun rows row why (full most is) words = cc (is, words)
turned_words begun rows row why (nodes few lacks is) words = cc (is, words)

due_words : (schema : PacketSchema) (begun : RoundsValue) (truncated : Bool) (before now : ShelfView) (ending : Ending) (said text : List ℕ)
    → IsDueOfStream schema begun truncated before now ending said text → (why : Refusal) → ending ≡ endings.Refused why → why ≡ refusals.Words → ⊥
due_words schema begun truncated before now ending said text (done mid bytes reads end read at_end took rows is said_is text_is) why same words =
    cc (is, same)
due_words schema begun truncated before now ending said text (broken mid bytes reads at code read off took is said_is text_is) why same words =
    cc (is, same, words)
due_words schema begun truncated before now ending said text (turned bytes reads front rest row other read took away is said_is text_is) why same words =
    let which : other ≡ why = cc (is, same) in
    turned_words begun _ row other away (which ∙ words)
due_words schema begun truncated before now ending said text (unread mid bytes reads read fails sound took is said_is text_is) why same words =
    cc (is, same)

followed_words : (schema : PacketSchema) (begun : RoundsValue) (truncated : Bool) (before now : ShelfView) (held kept : Option (List ℕ)) (ending : Ending)
    → IsFollowed schema begun truncated before now held kept ending → (why : Refusal) → ending ≡ endings.Refused why → why ≡ refusals.Words → ⊥
followed_words schema begun truncated before now held kept ending (wrote_all said text due appends) why same words =
    due_words schema begun truncated before now ending said text due why same words
followed_words schema begun truncated before now held kept ending (cut_text due said text is of past) why same words = cc (is, same)
followed_words schema begun truncated before now held kept ending (cut_round bytes reads last is read took past) why same words = cc (is, same)
followed_words schema begun truncated before now held kept ending (cut_forced bytes reads front rest row is read took forced past) why same words = cc (is, same)
followed_words schema begun truncated before now held kept ending (out mid bytes reads is read ahead took appends) why same words = cc (is, same)
followed_words schema begun truncated before now held kept ending (out_within bytes reads front rest said is read took before_it appends) why same words =
    cc (is, same)

-- an ending of the devices or for want of memory
ending_yields : (ending : Ending) → (ending ≡ endings.Done) ⊎ EndingYields ending → (ending_status ending ≡ statuses.Done) ⊎ Yields (ending_status ending)
ending_yields ending (inl is) = inl (ap (λ (e : Ending). ending_status e) is)
ending_yields ending (inr (inl is)) = inr (inl (ap (λ (e : Ending). ending_status e) is))
ending_yields ending (inr (inr (inl is))) = inr (inr (inl (ap (λ (e : Ending). ending_status e) is)))
ending_yields ending (inr (inr (inr is))) = inr (inr (inr (ap (λ (e : Ending). ending_status e) is)))

-- The watch has begun, and was followed.
module _ (call : WatchCall) (opened after moved moved_then held now : Option (List ℕ)) (watching : Watch) (setup : SetupValue) (ending : Ending)
    (status : Status) (is : status ≡ ending_status ending)
    (followed : IsFollowed watching.reads.schema (begun_for call setup) watching.truncated (view_by opened moved) (view_by after moved_then) held now ending) where
  pub followed_by : IsByCall (Some (watch call)) status []
  followed_by = (
    λ words. ending_words ending
        (followed_words watching.reads.schema (begun_for call setup) watching.truncated (view_by opened moved) (view_by after moved_then) held now ending
        followed) (sym is ∙ words),
    refl,
  )

  pub followed_written : (told : Option (List File)) (before : Option (List ℕ)) (begun : IsBegun told call opened watching) → setup ≡ begun.setup
      → RunAnswers told (Some (watch call)) status [] held now before after
  followed_written told before begun same =
      watched call refl refl (record {
        setup = begun.setup;
        schema = watching.reads.schema;
        opened = opened;
        ending = ending;
        set = begun.set;
        kind = begun.kind;
        opens = begun.opens;
        moved = moved;
        moved_then = moved_then;
        followed = subst (λ (t : Bool). IsFollowed watching.reads.schema (begun_for call begun.setup) t (view_by opened moved) (view_by after moved_then) held now
            ending) begun.truncated
            (subst (λ (s : SetupValue). IsFollowed watching.reads.schema (begun_for call s) watching.truncated (view_by opened moved) (view_by after moved_then)
            held now ending) same followed);
        status_is = is;
      })

  pub followed_decided : (told : Option (List File)) → IsBegun told call opened watching → IfSome told (λ files. IsDecided files (Some (watch call)) status)
  followed_decided None begun = tt
  followed_decided (Some files) begun = λ before' after' due text seals calls.
      absurd (stream_undue files call begun.setup watching.reads.schema begun.opens.0 begun.set begun.kind begun.opens.1 before' after' due text seals calls)

  pub followed_complete : (told : Option (List File)) (begun : IsBegun told call opened watching) → setup ≡ begun.setup
      → IfSome opened (λ file. IsWatchable watching.reads.schema (begun_for call setup) watching.truncated file → (ending ≡ endings.Done) ⊎ EndingYields ending)
      → IfSome told (λ files. IsLawful (Some files) (Some (watch call)) → (status ≡ statuses.Done) ⊎ Yields status)
  followed_complete None begun same complete = tt
  followed_complete (Some files) begun same complete = λ lawful.
      let file = begun.opens.0 in
      let fit = stream_lawful files call begun.setup watching.reads.schema file begun.set begun.kind begun.opens.1 lawful in
      let at : IsWatchable watching.reads.schema (begun_for call setup) watching.truncated file =
      subst (λ (t : Bool). IsWatchable watching.reads.schema (begun_for call setup) t file) (sym begun.truncated)
      (subst (λ (s : SetupValue). IsWatchable watching.reads.schema (begun_for call s) call.truncated file) (sym same) fit) in
      let known = subst (λ (o : Option (List ℕ)). IfSome o (λ f. IsWatchable watching.reads.schema (begun_for call setup) watching.truncated f
      → (ending ≡ endings.Done) ⊎ EndingYields ending)) begun.opens.2 complete in
      subst (λ (s : Status). (s ≡ statuses.Done) ⊎ Yields s) (sym is) (ending_yields ending (known at))

-- The line of a refusal was written, or not.
module _ (told : Option (List File)) (call : WatchCall) (before after held now : Option (List ℕ)) (why : Refusal) (status : Status)
    (due : IsDue told (Some (watch call)) before after (status_of why) (line_of why) []) where
  due_now : status ≡ status_of why → IsDue told (Some (watch call)) before after status (line_of why) []
  due_now is = subst (λ (s : Status). IsDue told (Some (watch call)) before after s (line_of why) []) (sym is) due

  pub refused_written : Refuses why held now status → RunAnswers told (Some (watch call)) status [] held now before after
  refused_written (inl said) = wrote (line_of why) (due_now said.0) said.1
  refused_written (inr (inl said)) = cut (status_of why) (line_of why) [] said.0 refl due said.1
  refused_written (inr (inr said)) =
      stopped stops.Memory said.0 refl (comes_stopped told (Some (watch call)) before after due.work due.comes) said.1

  pub refused_by : AreWindowSizes call.sizes → Refuses why held now status → IsByCall (Some (watch call)) status []
  refused_by sized (inl said) = by_due told before after status (line_of why) [] (Some (watch call)) sized (due_now said.0)
  refused_by sized (inr (inl said)) = by_cut (Some (watch call)) status [] said.0 refl
  refused_by sized (inr (inr said)) = by_memory (Some (watch call)) status [] said.0 refl

  pub refused_decided : Refuses why held now status → IfSome told (λ files. IsDecided files (Some (watch call)) status)
  refused_decided (inl said) = decided_if told (Some (watch call)) before after status (line_of why) [] (due_now said.0)
  refused_decided (inr (inl said)) = decided_free told (Some (watch call)) status (inr (inr said.0))
  refused_decided (inr (inr said)) = decided_free told (Some (watch call)) status (inl said.0)

  pub refused_complete : Refuses why held now status
      → IfSome told (λ files. IsLawful (Some files) (Some (watch call)) → (status ≡ statuses.Done) ⊎ Yields status)
  refused_complete (inl said) = complete_if told (Some (watch call)) before after status (line_of why) [] (due_now said.0)
  refused_complete (inr (inl said)) = complete_free told (Some (watch call)) status (inr (inr said.0))
  refused_complete (inr (inr said)) = complete_free told (Some (watch call)) status (inl said.0)

  pub refused_read : Refuses why held now status → status ≡ statuses.ReadFault → ⊥
  refused_read (inl said) is = refusal_yields why (inr (inl (sym said.0 ∙ is)))
  refused_read (inr (inl said)) is = cc (said.0, is)
  refused_read (inr (inr said)) is = cc (said.0, is)

-- a count that rose since rose from before too
pub rose_since : (a b k : ℕ) → a ≤ b → Rose b k → Rose a k
rose_since a b k up rose = omega (arith, up, rose)

-- the same answers of the words that are this call
pub answers_as : (told : Option (List File)) (call other : Option Call) (its status : Status) (seals : List SealValue)
    (held now before after : Option (List ℕ)) → call ≡ other → status ≡ its → seals ≡ [] → RunAnswers told call its [] held now before after
    → RunAnswers told other status seals held now before after
answers_as told call other its status seals held now before after same is none said =
    subst (λ (c : Option Call). RunAnswers told c status seals held now before after) same
    (subst (λ (q : List SealValue). RunAnswers told call status q held now before after) (sym none)
    (subst (λ (s : Status). RunAnswers told call s [] held now before after) (sym is) said))
