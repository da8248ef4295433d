-- Records go into the log as they are read.
use Rattle.std.proofs.Common.{◌≡◌, ◌∙◌, ℕ, ◌+◌, ◌-◌, ◌<◌, ◌≤◌, ◌^◌, Bool, true, false, List, [], ◌++◌, ◌*◌, length, map, take, Option, Some, None, Result, Ok, Err, IfOk, refl, sym, ap, subst, arith, length-append}
use Rattle.std.proofs.lemmas.List.{length-map, length-take}
use Rattle.cf_outside.specs.Files.{File}
use Rattle.cf_row.specs.Row.{RowValue}
use Rattle.cf_row.specs.Schema6.{attrs_by}
use Rattle.cf_row.specs.declared.packet6.PacketSchema.{PacketSchema}
use Rattle.cf_project.specs.Projected.{row_kept}
use Rattle.cf_shape.specs.Lanes.{ShapeValue}
use Rattle.cf_intake.specs.Reads.{numbered_on}
use Rattle.cf_intake.specs.Series.{IsSeriesAt}
use Rattle.cf_intake.specs.declared.refusal.Halt.{Halt}
use Rattle.cf_intake.specs.declared.refusal.Halt.TheVariants as halts
use Rattle.cf_intake.specs.declared.refusal.Refusal.TheVariants as refusals
use Rattle.cf_intake.specs.declared.refusal.Stop.{Stop}
use Rattle.cf_intake.specs.declared.series.Series.{Series}
use Rattle.cf_intake.proofs.Numbering.{numbered_append, numbered_length}
use Rattle.cf_fill.specs.Logs.{IsUnmade, halt_of}
use Rattle.cf_project.specs.Named.{KeepsAsks}
use Rattle.cf_setup.specs.Setups.{SetupValue}
use Rattle.cf_fill.specs.Needs.{NeedsAtMost, NeedsMore}
use Rattle.cf_report.specs.Meaning.{final_text}
use Rattle.cf_fill.specs.declared.log.Unmade.{Unmade}
use Rattle.cf_fill.specs.declared.log.Unmade.TheVariants as unmade
use Rattle.cf_long.specs.ByRow.{AreNumbered}
use Rattle.cf_long.specs.Ahead.{ComesNext, IsAhead}
use Rattle.cf_long.specs.Ends.{AreRefused, AreTaken, AreToldOf, GivesAhead, HaltsWith, HasEnded, HaveCome, IsUntold, LackNodes, ReadComesTo, ReadsComeTo, first_rows, in_log}
use Rattle.cf_long.specs.Ends.HaveCome.{midway, ended}
use Rattle.cf_long.specs.Ends.AreRefused.{faulty, lacks, over}
use Rattle.cf_long.specs.Kept.{IsKeptLong, IsLongFor, IsSomeKept, KeepsKept, KeptLongValue, ReadsAhead, TakesLeft}
use Rattle.cf_long.specs.Longs.{MayFollow, count_of}
use Rattle.cf_long.specs.declared.ahead.Ahead.{Ahead}
use Rattle.cf_long.specs.declared.reads.End.{End}
use Rattle.cf_long.specs.declared.reads.End.TheVariants as ends
use Rattle.cf_long.proofs.KeptRows.{attrs_stay, counted_kept, few_kept, follow_left}
use Rattle.cf_long.proofs.Nodes.{lack_on}
use Rattle.cf_long.proofs.Numbered.{all_first, first_both, first_more, numbered_low, take_numbered}

-- The next records go into the log, as many as are numbered.
module _ (long : KeptLongValue) (before more given : List RowValue) (room : ℕ) (is : IsKeptLong long (numbered_on 0 before))
    (given_are : given ≡ numbered_on (length before) more) (room_is : room + count_of long.long + 1 ≡ 2 ^ 32) where
  count : count_of long.long ≡ length before
  count = counted_kept long (numbered_on 0 before) is ∙ numbered_length 0 before

  few : length before < 2 ^ 32
  few = (let size = numbered_length 0 before in let low = few_kept long (numbered_on 0 before) is in omega (arith, size, low))

  room_left : 2 ^ 32 - 1 - length before ≡ room
  room_left = (let at = count in omega (arith, at, room_is))

  taken_are : take room given ≡ numbered_on (length before) (take room more)
  taken_are = ap (λ (rs : List RowValue). take room rs) given_are ∙ take_numbered room (length before) more

  taken_few : length before + length (take room more) < 2 ^ 32
  taken_few = (let size = length-take room more in let left = room_left in let low = few in omega (arith, size, left, low))

  first_are : first_rows (before ++ more) ≡ before ++ take room more
  first_are = first_both before more few ∙ ap (λ (n : ℕ). before ++ take n more) room_left

  -- they may follow
  pub may_follow : MayFollow long.long (take room given)
  may_follow = record {
    numbered = subst (λ (rs : List RowValue). AreNumbered (count_of long.long) rs) (sym taken_are)
        (subst (λ (n : ℕ). AreNumbered n (numbered_on (length before) (take room more))) (sym count)
        (numbered_low (length before) (take room more) taken_few));
    few = (let size = ap (λ (rs : List RowValue). length rs) taken_are ∙ numbered_length (length before) (take room more) in
        let at = count in let low = taken_few in omega (arith, size, at, low));
  }

  -- then all that are numbered are in it
  all_taken : numbered_on 0 before ++ take room given ≡ in_log (before ++ more)
  all_taken =
      let zero : length before ≡ 0 + length before = omega arith in
      ap (λ (rs : List RowValue). numbered_on 0 before ++ rs) taken_are
      ∙ (ap (λ (n : ℕ). numbered_on 0 before ++ numbered_on n (take room more)) zero
      ∙ (sym (numbered_append 0 before (take room more)) ∙ ap (λ (rs : List RowValue). numbered_on 0 rs) (sym first_are)))

  many : length given ≡ length more
  many = ap (λ (rs : List RowValue). length rs) given_are ∙ numbered_length (length before) more

  is_over : room < length given → 2 ^ 32 ≤ length (before ++ more)
  is_over high = (let size = length-append before more in let sum = many in let left = room_left in let low = few in omega (arith, high, size, sum, left, low))

  within : length given ≤ room → first_rows (before ++ more) ≡ before ++ more
  within low =
      all_first (before ++ more)
      (let size = length-append before more in let sum = many in let left = room_left in let high = few in omega (arith, low, size, sum, left, high))

  pub taken_so : (next : KeptLongValue) (front : List RowValue) (full : Bool) → front ≡ take room given → IsKeptLong next (numbered_on 0 before ++ front)
      → (full ≡ true → room < length given) → (full ≡ false → length given ≤ room) → AreTaken next (before ++ more) (Ok full)
  taken_so next front true same now high low =
      (is_over (high refl), subst (λ (rs : List RowValue). IsKeptLong next rs) (ap (λ (rs : List RowValue). numbered_on 0 before ++ rs) same ∙ all_taken) now)
  taken_so next front false same now high low =
      subst (λ (rs : List RowValue). IsKeptLong next rs)
      (ap (λ (rs : List RowValue). numbered_on 0 before ++ rs) same ∙ (all_taken ∙ ap (λ (rs : List RowValue). numbered_on 0 rs) (within (low refl)))) now

  pub untaken_so : (next : KeptLongValue) (front : List RowValue) (nodes : ℕ) (why : Unmade) → front ≡ take room given → next.shape ≡ long.shape
      → nodes ≡ long.shape.nodes → IsUnmade long.shape (numbered_on 0 before ++ front) why
      → AreTaken next (before ++ more) (Err (halt_of nodes why))
  untaken_so next front nodes unmade.Nodes same keeps count_is lack = (
    subst (λ (h : ShapeValue). NeedsMore h h.nodes (in_log (before ++ more))) (sym keeps)
        (subst (λ (rs : List RowValue). NeedsMore long.shape long.shape.nodes rs)
        (ap (λ (rs : List RowValue). numbered_on 0 before ++ rs) same ∙ all_taken) lack),
    ap (λ (n : ℕ). refusals.Nodes n) (count_is ∙ ap (λ (h : ShapeValue). h.nodes) (sym keeps)),
  )
  untaken_so next front nodes unmade.Memory same keeps count_is lack = refl

-- records that were read ahead came
pub come_of : (series : Series) (told : Option (List File)) (now : Option (List ℕ)) (rows : List RowValue) (end : Option End)
    → ComesNext series told now rows end → HaveCome series told now rows
come_of series told now rows None next = midway next
come_of series told now rows (Some ends.Whole) next = ended _ next
come_of series told now rows (Some (ends.Refused why)) next = ended _ next
come_of series told now rows (Some ends.Full) next = absurd next

-- the captures end so, with all records in the log
pub ended_so : (series : Series) (told : Option (List File)) (now : Option (List ℕ)) (long : KeptLongValue) (rows : List RowValue) (end : End)
    → ComesNext series told now rows (Some end) → IsKeptLong long (numbered_on 0 rows) → HasEnded series told now long end
ended_so series told now long rows ends.Whole next is = (rows, next, is)
ended_so series told now long rows (ends.Refused why) next is = (rows, next, is)
ended_so series told now long rows ends.Full next is = absurd next

-- more records behind those that lack nodes
pub lack_more : (shape : ShapeValue) (rows more : List RowValue) → NeedsMore shape shape.nodes (in_log rows)
    → NeedsMore shape shape.nodes (in_log (rows ++ more))
lack_more shape rows more lack =
    let rest = first_more rows more in
    let split : in_log (rows ++ more) ≡ in_log rows ++ numbered_on (0 + length (first_rows rows)) rest.0 =
    ap (λ (rs : List RowValue). numbered_on 0 rs) rest.1 ∙ numbered_append 0 (first_rows rows) rest.0 in
    subst (λ (rs : List RowValue). NeedsMore shape shape.nodes rs) (sym split)
    (lack_on shape shape.nodes (in_log rows) (numbered_on (0 + length (first_rows rows)) rest.0) lack)

-- why no more records are in the log
pub untaken_now : (series : Series) (told : Option (List File)) (now : Option (List ℕ)) (long : KeptLongValue) (rows : List RowValue) (halt : Halt)
    → HaveCome series told now rows → AreTaken long rows (Err halt) → HaltsWith series told now long halt
untaken_now series told now long rows (halts.Refused why) come taken = (rows, come, taken.0, taken.1)
untaken_now series told now long rows (halts.Stopped stop) come taken = tt

-- of more records than are numbered the first are in it
pub full_so : (long : KeptLongValue) (rows : List RowValue) (full : Bool) → AreTaken long rows (Ok full) → 2 ^ 32 ≤ length rows
    → (2 ^ 32 ≤ length rows) × IsKeptLong long (in_log rows)
full_so long rows true taken many = taken
full_so long rows false taken many =
    absurd (let size = numbered_length 0 rows in let few = few_kept long (numbered_on 0 rows) taken in omega (arith, size, few, many))

-- Records that were read ahead go into the log.
module _ (old : KeptLongValue) (rows more left : List RowValue) (is : IsKeptLong old (numbered_on 0 rows))
    (left_is : left ≡ map (row_kept old.kept) (numbered_on (length rows) more)) where
  left_many : length left ≡ length more
  left_many = ap (λ (rs : List RowValue). length rs) left_is ∙ length-map (numbered_on (length rows) more) (row_kept old.kept)
      ∙ numbered_length (length rows) more

  both_numbered : numbered_on 0 rows ++ numbered_on (length rows) more ≡ numbered_on 0 (rows ++ more)
  both_numbered =
      let zero : length rows ≡ 0 + length rows = omega arith in
      ap (λ (n : ℕ). numbered_on 0 rows ++ numbered_on n more) zero ∙ sym (numbered_append 0 rows more)

  pub all_many : 2 ^ 32 ≤ count_of old.long + length left → 2 ^ 32 ≤ length (rows ++ more)
  all_many high =
      let sum = length-append rows more in
      let many = left_many in
      let count = counted_kept old (numbered_on 0 rows) is in
      let size = numbered_length 0 rows in omega (arith, sum, many, count, size, high)

  -- there is room for them
  module _ (room : count_of old.long + length left + 1 ≤ 2 ^ 32) where
    all_few : length (rows ++ more) < 2 ^ 32
    all_few =
        let sum = length-append rows more in
        let many = left_many in
        let count = counted_kept old (numbered_on 0 rows) is in
        let size = numbered_length 0 rows in omega (arith, sum, many, count, size, room)

    pub may_ahead : MayFollow old.long left
    may_ahead =
        let sum = length-append rows more in
        let low = all_few in
        let at : count_of old.long ≡ length rows = counted_kept old (numbered_on 0 rows) is ∙ numbered_length 0 rows in
        subst (λ (rs : List RowValue). MayFollow old.long rs) (sym left_is)
        (follow_left old.kept old.long (numbered_on (length rows) more) (record {
          numbered = subst (λ (n : ℕ). AreNumbered n (numbered_on (length rows) more)) (sym at)
              (numbered_low (length rows) more (omega (arith, sum, low)));
          few = (let size = numbered_length (length rows) more in omega (arith, size, at, sum, low));
        }))

    -- then the next ones are ahead of it
    pub stepped : (was new : Series) (told : Option (List File)) (before now : Option (List ℕ)) (next : KeptLongValue) (nodes : ℕ)
        (taken : Result (Unit {0}) Unmade) (given : Result Ahead Stop) (result : Result Ahead Halt) → IsSeriesAt was told before (rows ++ more)
        → TakesLeft old next left taken → KeepsKept old next → IfOk given (ReadsAhead was new told before now old) → GivesAhead nodes taken given result
        → nodes ≡ old.shape.nodes → old.shape.schema ≡ attrs_by was.schema → new.schema ≡ was.schema → ReadComesTo new told now next result
    stepped was new told before now next nodes taken (Err stop) result at takes keeps reads gives count_is kind same =
        subst (λ (r : Result Ahead Halt). ReadComesTo new told now next r) (sym gives) tt
    stepped was new told before now next nodes (Err unmade.Memory) (Ok ahead) result at takes keeps reads gives count_is kind same =
        subst (λ (r : Result Ahead Halt). ReadComesTo new told now next r) (sym gives) tt
    stepped was new told before now next nodes (Err unmade.Nodes) (Ok ahead) result at takes keeps reads gives count_is kind same =
        let further = reads.behind (rows ++ more) at in
        let lack : NeedsMore old.shape old.shape.nodes (numbered_on 0 rows ++ numbered_on (length rows) more) =
        takes (numbered_on 0 rows) (numbered_on (length rows) more) is left_is in
        let first : NeedsMore old.shape old.shape.nodes (in_log (rows ++ more)) =
        subst (λ (rs : List RowValue). NeedsMore old.shape old.shape.nodes rs)
        (both_numbered ∙ ap (λ (rs : List RowValue). numbered_on 0 rs) (sym (all_first (rows ++ more) all_few))) lack in
        subst (λ (r : Result Ahead Halt). ReadComesTo new told now next r) (sym gives) (
          (rows ++ more) ++ further.more,
          come_of new told now ((rows ++ more) ++ further.more) ahead.end further.next,
          subst (λ (h : ShapeValue). NeedsMore h h.nodes (in_log ((rows ++ more) ++ further.more))) (sym keeps.shape)
              (lack_more old.shape (rows ++ more) further.more first),
          ap (λ (n : ℕ). refusals.Nodes n) (count_is ∙ ap (λ (h : ShapeValue). h.nodes) (sym keeps.shape)),
        )
    stepped was new told before now next nodes (Ok done) (Ok ahead) result at takes keeps reads gives count_is kind same =
        let further = reads.behind (rows ++ more) at in
        let all : IsKeptLong next (numbered_on 0 (rows ++ more)) =
        subst (λ (rs : List RowValue). IsKeptLong next rs) both_numbered
        (takes (numbered_on 0 rows) (numbered_on (length rows) more) is left_is) in
        subst (λ (r : Result Ahead Halt). ReadComesTo new told now next r) (sym gives)
        (record {
          rows = rows ++ more;
          is = all;
          behind = subst (λ (marks : List Bool). IsAhead new told now marks (rows ++ more) ahead) (sym keeps.kept) further;
          kind = ap (λ (h : ShapeValue). h.schema) keeps.shape ∙ (kind ∙ ap (λ (s : PacketSchema). attrs_by s) (sym same));
          fit = attrs_stay old next ahead.rows.items keeps (numbered_on 0 rows, is) (numbered_on 0 (rows ++ more), all) reads.fit;
          few = reads.few;
        })

-- which records are in the log where the reading has ended
abbrev pub ended_long : (series : Series) (told : Option (List File)) (now : Option (List ℕ)) (long : KeptLongValue) (end : End) → HasEnded series told now long end
    → IsSomeKept long
ended_long series told now long ends.Whole is = (numbered_on 0 is.0, is.2)
ended_long series told now long (ends.Refused why) is = (numbered_on 0 is.0, is.2)
ended_long series told now long ends.Full is = (in_log is.0, is.3)

-- why there is no text, before the last segment was loaded
pub halted_so : (series : Series) (told : Option (List File)) (now : Option (List ℕ)) (shape here : ShapeValue) (halt : Halt) → here ≡ shape
    → (long : KeptLongValue) → long.shape ≡ here → ReadsComeTo series told now long (Err halt) → IsUntold series told now shape halt
halted_so series told now shape here (halts.Refused why) same long is come =
    lacks (subst (λ (h : ShapeValue). LackNodes series told now h why) (is ∙ same) come)
halted_so series told now shape here (halts.Stopped stop) same long is come = tt

-- or because that lacks nodes
module _ (series : Series) (told : Option (List File)) (now : Option (List ℕ)) (shape : ShapeValue) (nodes : ℕ) (same : nodes ≡ shape.nodes) where
  lack : (rows : List RowValue) (why : Unmade) → HaveCome series told now rows → IsUnmade shape (in_log rows) why
      → IsUntold series told now shape (halt_of nodes why)
  lack rows unmade.Nodes come lacking = lacks (rows, come, lacking, ap (λ (n : ℕ). refusals.Nodes n) same)
  lack rows unmade.Memory come lacking = tt

  all_in : (long : KeptLongValue) (rows : List RowValue) → IsKeptLong long (numbered_on 0 rows) → in_log rows ≡ numbered_on 0 rows
  all_in long rows is =
      ap (λ (rs : List RowValue). numbered_on 0 rs) (all_first rows (let size = numbered_length 0 rows in let few = few_kept long (numbered_on 0 rows) is in omega (arith, size, few)))

  pub lacks_at_end : (long : KeptLongValue) (end : End) (why : Unmade) (is : HasEnded series told now long end)
      → IsUnmade shape (ended_long series told now long end is).0 why → IsUntold series told now shape (halt_of nodes why)
  lacks_at_end long ends.Whole why is lacking =
      lack is.0 why (ended _ is.1) (subst (λ (rs : List RowValue). IsUnmade shape rs why) (sym (all_in long is.0 is.2)) lacking)
  lacks_at_end long (ends.Refused w) why is lacking =
      lack is.0 why (ended _ is.1) (subst (λ (rs : List RowValue). IsUnmade shape rs why) (sym (all_in long is.0 is.2)) lacking)
  lacks_at_end long ends.Full why is lacking = lack is.0 why is.1 lacking

-- a log for a setup is one after rows came
pub long_on : (setup : SetupValue) (capacity writers nodes : ℕ) (long next : KeptLongValue) (rows : List RowValue)
    → IsLongFor setup capacity writers nodes long [] → KeepsKept long next → IsKeptLong next rows → IsLongFor setup capacity writers nodes next rows
long_on setup capacity writers nodes long next rows for keeps is = record {
  shape = keeps.shape ∙ for.shape;
  kept = keeps.kept ∙ for.kept;
  asks = subst (λ (ms : List Bool). KeepsAsks ms setup.asks) (sym keeps.kept) for.asks;
  plan = rw (keeps.kept, keeps.plan) for.plan;
  is = is;
}

pub some_on : (setup : SetupValue) (long next : KeptLongValue) → (capacity writers nodes : ℕ) × IsLongFor setup capacity writers nodes long []
    → KeepsKept long next → IsSomeKept next → (capacity writers nodes : ℕ) × (rows : List RowValue) × IsLongFor setup capacity writers nodes next rows
some_on setup long next for keeps some =
    (for.0, for.1, for.2, some.0, long_on setup for.0 for.1 for.2 long next some.0 for.3 keeps some.1)

-- what comes of captures that have ended, when the last segment is loaded
module _ (series : Series) (told : Option (List File)) (now : Option (List ℕ)) (setup : SetupValue) (shape : ShapeValue) (text : List ℕ) where
  abbrev pub AtEnd : End → Type 0
  AtEnd ends.Whole = AreToldOf series told now setup shape text
  AtEnd (ends.Refused why) = AreRefused series told now shape why
  AtEnd ends.Full = AreRefused series told now shape (refusals.Full (2 ^ 32 - 1))

  few_rows : (long : KeptLongValue) (rows : List RowValue) → IsKeptLong long (numbered_on 0 rows) → length rows < 2 ^ 32
  few_rows long rows is = (let size = numbered_length 0 rows in let few = few_kept long (numbered_on 0 rows) is in omega (arith, size, few))

  pub told_at_end : (long : KeptLongValue) (end : End) (is : HasEnded series told now long end)
      → (text ≡ final_text shape setup (ended_long series told now long end is).0)
      × NeedsAtMost shape (shape.writers * shape.nodes) (ended_long series told now long end is).0 → AtEnd end
  told_at_end long ends.Whole is made =
      record { rows = is.0; ended = is.1; few = few_rows long is.0 is.2; text_is = made.0; nodes = made.1 }
  told_at_end long (ends.Refused why) is made = faulty is.0 is.1 (few_rows long is.0 is.2) made.1
  told_at_end long ends.Full is made = over is.0 is.1 is.2 made.1 refl
