-- From what is told of captures of any length to what is due.
use Rattle.std.proofs.Common.{◌≡◌, ◌∙◌, ℕ, suc, ◌+◌, ◌*◌, ◌-◌, ◌^◌, ◌<◌, ◌≤◌, min, Bool, true, false, List, [], ◌∷◌, ◌++◌, length, map, Option, Some, None, Result, Ok, Err, MatchResult, refl, sym, ap, subst, inl, inr, arith, length-append}
use Rattle.std.specs.Borrow.{Bor}
use Rattle.std.proofs.lemmas.List.{length-map}
use Rattle.cf_outside.specs.Files.{File}
use Rattle.cf_row.specs.Row.{RowValue}
use Rattle.cf_row.specs.declared.packet6.PacketSchema.{PacketSchema}
use Rattle.cf_command.specs.Call.{Call, LongCall}
use Rattle.cf_command.specs.Call.Call.{long}
use Rattle.cf_setup.specs.Setups.{SetupValue}
use Rattle.cf_setup.specs.declared.source.Source.{Source}
use Rattle.cf_setup.specs.declared.source.Source.TheVariants.{Packets, Records}
use Rattle.cf_shape.specs.Lanes.{ShapeValue}
use Rattle.cf_table.specs.Moves.{SealValue}
use Rattle.cf_intake.specs.Files.{Halts, HasLeft, IsFileAs, IsReadAs, setups}
use Rattle.cf_intake.specs.Reads.{numbered_on}
use Rattle.cf_intake.specs.Refusals.{line_of}
use Rattle.cf_intake.specs.Series.{AreEndToEnd, SeriesEnd, behind}
use Rattle.cf_intake.specs.Series.SeriesEnd.{whole as all_read, refused as one_refused}
use Rattle.cf_intake.specs.Several.{names_in}
use Rattle.cf_intake.specs.declared.refusal.Halt.{Halt}
use Rattle.cf_intake.specs.declared.refusal.Halt.TheVariants.{Refused, Stopped}
use Rattle.cf_intake.specs.declared.refusal.Refusal.{Refusal}
use Rattle.cf_intake.specs.declared.refusal.Refusal.TheVariants as refusals
use Rattle.cf_intake.specs.declared.refusal.Stop.{Stop}
use Rattle.cf_intake.specs.declared.refusal.Stop.TheVariants as stops
use Rattle.cf_intake.specs.declared.series.Series.{Series}
use Rattle.cf_fill.specs.Needs.{NeedsAtMost}
use Rattle.cf_fill.specs.Work.{shape_for}
use Rattle.cf_fill.proofs.Whole.{whole_taken}
use Rattle.cf_long.specs.Ends.{AreRefused, AreToldOf, in_log}
use Rattle.cf_long.specs.Ends.AreRefused.{faulty, lacks, over}
use Rattle.cf_long.proofs.Ends.{lack_more}
use Rattle.cf_long.proofs.Numbered.{all_first, first_full}
use Rattle.cf_run.specs.Due.{GivesAll, IsDue, LongFrom, StopsAt}
use Rattle.cf_run.specs.Due.Work.{end_to_end, refused}
use Rattle.cf_run.specs.Due.CallsBy.{halted, whole}
use Rattle.cf_run.specs.Due.GivesAll.{nodes_lack, one_breaks, one_too_many, tells_all}
use Rattle.cf_run.specs.Lengths.{IsLeftOf, are_several, cut_lines, line_among}
use Rattle.cf_run.specs.Parts.{IsPrepared, IsRefusedBy, IsTold, LongBegins, packets_from, reply_seals, reply_status, reply_text}
use Rattle.cf_run.specs.Refusals.{status_of}
use Rattle.cf_run.specs.declared.reply.WorkReply.{WorkReply}
use Rattle.cf_run.specs.declared.status.Status.{Status}
use Rattle.cf_run.specs.declared.status.Status.TheVariants.{Done}
use Rattle.cf_run.proofs.Answering.{refused_behind}
use Rattle.cf_run.proofs.Coming.{comes_stopped}
use Rattle.cf_run.proofs.Serials.{come_first}

-- The setup.
module _ (told : Option (List File)) (call : LongCall) (before : Option (List ℕ)) where
  pub long_unset : (now : Option (List ℕ)) (halt : Halt) → Halts setups told call.setup before now halt → LongBegins told call before now (Err halt)
  long_unset now (Refused why) halts = record { work = refused why; comes = halted why halts refl; gives = (refl, refl, refl) }
  long_unset now (Stopped stop) halts = inl halts

  module _ (setup : SetupValue) (mid : Option (List ℕ)) (set : IsReadAs setups told call.setup mid setup) where
    other_from : (source : Source) → setup.source ≡ source → (halt : Halt)
        → ◌≡◌ {A = Result PacketSchema Halt} (Err halt) (packets_from source setup.schema_line) → LongBegins told call before mid (Err halt)
    other_from Records kind halt is =
        let why : Refusal = refusals.Setup setup.schema_line 4 in
        let same : Refused why ≡ halt = cc is in
        subst (λ (h : Halt). LongBegins told call before mid (Err h)) same
        (record {
          work = refused why;
          comes = whole setup set.0 (subst (λ (source : Source). LongFrom told call mid setup source (refused why)) (sym kind) (refl, set.1));
          gives = (refl, refl, refl);
        })
    other_from (Packets schema) kind halt is = absurd (cc is)

    pub long_other : (halt : Halt) → ◌≡◌ {A = Result PacketSchema Halt} (Err halt) (packets_from setup.source setup.schema_line)
        → LongBegins told call before mid (Err halt)
    long_other halt is = other_from setup.source refl halt is

    schema_from : (source : Source) (schema : PacketSchema) → ◌≡◌ {A = Result PacketSchema Halt} (Ok schema) (packets_from source setup.schema_line)
        → source ≡ Packets schema
    schema_from Records schema is = absurd (cc is)
    schema_from (Packets other) schema is = cc is

    pub long_kind : (schema : PacketSchema) → ◌≡◌ {A = Result PacketSchema Halt} (Ok schema) (packets_from setup.source setup.schema_line)
        → setup.source ≡ Packets schema
    long_kind schema is = schema_from setup.source schema is

    pub long_unopened : StopsAt told (Some (long call)) stops.Memory before mid
    long_unopened = inl (whole_taken setups told call.setup before mid setup set)

-- what refuses no capture has its own line
line_nodes : (several : Bool) (place nodes : ℕ) → line_among several place (refusals.Nodes nodes) ≡ line_of (refusals.Nodes nodes)
line_nodes true place nodes = refl
line_nodes false place nodes = refl

line_full : (several : Bool) (place most : ℕ) → line_among several place (refusals.Full most) ≡ line_of (refusals.Full most)
line_full true place most = refl
line_full false place most = refl

-- each of the captures is among those that are named
end_within : (schema : PacketSchema) (truncated : Bool) (told : Option (List File)) (place : ℕ) (names : List (List ℕ)) (rows : List RowValue)
    (end : SeriesEnd) (at : ℕ) (why : Refusal) → AreEndToEnd schema truncated told place names rows end → end ≡ one_refused at why → at < place + length names
end_within schema truncated told place [] rows end at why ends is = absurd (let all = ends.1 in cc (is, all))
end_within schema truncated told place (name ∷ names) rows end at why (inl none) is =
    (let e = none.2 in let same : place ≡ at = cc (e, is) in omega (arith, same))
end_within schema truncated told place (name ∷ names) rows end at why (inr (inl bad)) is =
    (let e = bad.3 in let same : place ≡ at = cc (e, is) in omega (arith, same))
end_within schema truncated told place (name ∷ names) rows end at why (inr (inr (what, more, after, says, ends, rows_are, end_is))) is =
    (let low = end_within schema truncated told (suc place) names more after at why ends (refused_behind after at why what.cut (sym end_is ∙ is)) in
    omega (arith, low))

whole_behind : (after : SeriesEnd) (cuts : List (Option ℕ)) (cut : Option ℕ) → behind cut after ≡ all_read cuts
    → (rest : List (Option ℕ)) × (after ≡ all_read rest) × (cuts ≡ cut ∷ rest)
whole_behind (all_read rest) cuts cut is = (rest, refl, (let same : cut ∷ rest ≡ cuts = cc is in sym same))
whole_behind (one_refused place other) cuts cut is = absurd (cc is)

pub cuts_many : (schema : PacketSchema) (truncated : Bool) (told : Option (List File)) (place : ℕ) (names : List (List ℕ)) (rows : List RowValue)
    (end : SeriesEnd) (cuts : List (Option ℕ)) → AreEndToEnd schema truncated told place names rows end → end ≡ all_read cuts → length cuts ≡ length names
cuts_many schema truncated told place [] rows end cuts ends is =
    (let all = ends.1 in let same : cuts ≡ [] = cc (is, all) in ap (λ (cs : List (Option ℕ)). length cs) same)
cuts_many schema truncated told place (name ∷ names) rows end cuts (inl none) is = absurd (let e = none.2 in cc (is, e))
cuts_many schema truncated told place (name ∷ names) rows end cuts (inr (inl bad)) is = absurd (let e = bad.3 in cc (is, e))
cuts_many schema truncated told place (name ∷ names) rows end cuts (inr (inr (what, more, after, says, ends, rows_are, end_is))) is =
    (let rest = whole_behind after cuts what.cut (sym end_is ∙ is) in
    ap (λ (cs : List (Option ℕ)). length cs) rest.2
    ∙ ap (λ (n : ℕ). suc n) (cuts_many schema truncated told (suc place) names more after rest.0 ends rest.1))

-- The captures.
module _ (told : Option (List File)) (call : LongCall) (before now : Option (List ℕ)) (setup : SetupValue) (series : Series)
    (set : IsFileAs setups told call.setup setup) (kind : setup.source ≡ Packets series.schema) (named : names_in series.names.now ≡ call.captures)
    (cut_so : series.truncated ≡ call.truncated) where
  abbrev shape : ShapeValue
  shape = shape_for setup call.sizes

  abbrev several : Bool
  several = are_several call.captures

  gives_all : (rows : List RowValue) (end : SeriesEnd) (status : Status) (text : List ℕ)
      → AreEndToEnd series.schema series.truncated told 1 (names_in series.names.now) rows end → IsLeftOf told (names_in series.names.now) now
      → GivesAll call setup rows end status text [] → IsDue told (Some (long call)) before now status text []
  gives_all rows end status text ends left gives = record {
    work = end_to_end call setup rows end;
    comes = whole setup set
        (subst (λ (source : Source). LongFrom told call now setup source (end_to_end call setup rows end)) (sym kind) (
          rows,
          end,
          subst (λ (b : Bool). AreEndToEnd series.schema b told 1 call.captures rows end) cut_so
              (subst (λ (ns : List (List ℕ)). AreEndToEnd series.schema series.truncated told 1 ns rows end) named ends),
          refl,
          subst (λ (ns : List (List ℕ)). IsLeftOf told ns now) named left,
        ));
    gives = gives;
  }

  pub told_due : (text out : List ℕ) → AreToldOf series told now setup shape text → out ≡ text ++ cut_lines several series.cuts.items
      → IsDue told (Some (long call)) before now Done out []
  told_due text out is out_is =
      let same : in_log is.rows ≡ numbered_on 0 is.rows = ap (λ (rs : List RowValue). numbered_on 0 rs) (all_first is.rows is.few) in
      gives_all is.rows (all_read series.cuts.items) Done out is.ended.0 (inl is.ended.1)
      (tells_all series.cuts.items is.few (subst (λ (rs : List RowValue). NeedsAtMost shape (shape.writers * shape.nodes) rs) (sym same) is.nodes) refl refl
      (out_is ∙ ap (λ (xs : List ℕ). xs ++ cut_lines several series.cuts.items) is.text_is) refl)

  pub refused_due : (place : ℕ) (why : Refusal) → length call.captures ≤ 4096 → place ≡ min series.place (2 ^ 32 - 2) → AreRefused series told now shape why
      → IsDue told (Some (long call)) before now (status_of why) (line_among several place why) []
  refused_due place why most place_is (lacks lack) =
      let first = come_first series told now lack.0 lack.1 in
      subst (λ (w : Refusal). IsDue told (Some (long call)) before now (status_of w) (line_among several place w) []) (sym lack.3)
      (gives_all (lack.0 ++ first.0) first.1 (status_of (refusals.Nodes shape.nodes)) (line_among several place (refusals.Nodes shape.nodes)) first.2
      first.3 (nodes_lack (lack_more shape lack.0 first.0 lack.2) (refl, line_nodes several place shape.nodes, refl)))
  refused_due place why most place_is (over rows come many nodes is) =
      let first = come_first series told now rows come in
      let size : 2 ^ 32 ≤ length (rows ++ first.0) = (let sum = length-append rows first.0 in omega (arith, many, sum)) in
      let same : in_log (rows ++ first.0) ≡ in_log rows = ap (λ (rs : List RowValue). numbered_on 0 rs) (first_full rows first.0 many) in
      subst (λ (w : Refusal). IsDue told (Some (long call)) before now (status_of w) (line_among several place w) []) (sym is)
      (gives_all (rows ++ first.0) first.1 (status_of (refusals.Full (2 ^ 32 - 1))) (line_among several place (refusals.Full (2 ^ 32 - 1))) first.2
      first.3
      (one_too_many size (subst (λ (rs : List RowValue). NeedsAtMost shape (shape.writers * shape.nodes) rs) (sym same) nodes)
      (refl, line_full several place (2 ^ 32 - 1), refl)))
  refused_due place why most place_is (faulty rows ended few nodes) =
      let same : in_log rows ≡ numbered_on 0 rows = ap (λ (rs : List RowValue). numbered_on 0 rs) (all_first rows few) in
      let low = end_within series.schema series.truncated told 1 (names_in series.names.now) rows (one_refused (suc series.place) why) (suc series.place) why
      ended.0 refl in
      let size : length (names_in series.names.now) ≡ length call.captures = ap (λ (ns : List (List ℕ)). length ns) named in
      let at : series.place ≡ place = omega (arith, low, size, most, place_is) in
      gives_all rows (one_refused (suc series.place) why) (status_of why) (line_among several place why) ended.0 (inl ended.1)
      (one_breaks place why few (subst (λ (rs : List RowValue). NeedsAtMost shape (shape.writers * shape.nodes) rs) (sym same) nodes)
      (ap (λ (p : ℕ). one_refused (suc p) why) at) refl refl refl)

-- there are no more ends than captures
pub cuts_few : (series : Series) (told : Option (List File)) (now : Option (List ℕ)) (setup : SetupValue) (its : ShapeValue) (text : List ℕ)
    (names : List (Bor (List ℕ))) (cuts : List (Option ℕ)) → AreToldOf series told now setup its text → series.names.now ≡ names → length names ≤ 4096
    → cuts ≡ series.cuts.items → length cuts ≤ 4096
cuts_few series told now setup its text names cuts is named few same =
    let many = cuts_many series.schema series.truncated told 1 (names_in series.names.now) is.rows (all_read series.cuts.items) series.cuts.items is.ended.0 refl in
    let size = length-map series.names.now (λ (name : Bor (List ℕ)). name.now) in
    let count : length series.names.now ≡ length names = ap (λ (ns : List (Bor (List ℕ))). length ns) named in
    let long_is : length cuts ≡ length series.cuts.items = ap (λ (cs : List (Option ℕ)). length cs) same in
    omega (arith, many, size, count, long_is, few)

-- A reply is prepared.

pub told_prepared : (told : Option (List File)) (call : Option Call) (before now : Option (List ℕ)) (text : List ℕ) (reply : WorkReply)
    → IsDue told call before now Done text [] → IsTold reply text → IsPrepared told call before now (Ok reply)
told_prepared told call before now text reply due is =
    subst (λ (s : Status). IsDue told call before now s (reply_text reply) (reply_seals reply)) (sym is.status)
    (subst (λ (t : List ℕ). IsDue told call before now Done t (reply_seals reply)) (sym is.text_is)
    (subst (λ (q : List SealValue). IsDue told call before now Done text q) (sym is.none) due))

pub among_prepared : (told : Option (List File)) (call : Option Call) (before now : Option (List ℕ)) (why : Refusal) (line : List ℕ)
    (result : Result WorkReply Stop) → IsDue told call before now (status_of why) line []
    → MatchResult result (IsRefusedBy why line) (λ stop. stop ≡ stops.Memory) → IsPrepared told call before now result
among_prepared told call before now why line (Ok reply) due is =
    subst (λ (s : Status). IsDue told call before now s (reply_text reply) (reply_seals reply)) (sym is.status)
    (subst (λ (t : List ℕ). IsDue told call before now (status_of why) t (reply_seals reply)) (sym is.text_is)
    (subst (λ (q : List SealValue). IsDue told call before now (status_of why) line q) (sym is.none) due))
among_prepared told call before now why line (Err stop) due is =
    subst (λ (s : Stop). StopsAt told call s before now) (sym is) (comes_stopped told call before now due.work due.comes)

-- whether several captures are named
pub several_alone : (names : List (Bor (List ℕ))) → length names ≡ 1 → are_several (names_in names) ≡ false
several_alone [] one = absurd (omega (arith, one))
several_alone (name ∷ []) one = refl
several_alone (name ∷ other ∷ names) one = absurd (omega (arith, one))

pub several_more : (names : List (Bor (List ℕ))) → (length names ≡ 1 → ⊥) → are_several (names_in names) ≡ true
several_more [] more = refl
several_more (name ∷ []) more = absurd (more refl)
several_more (name ∷ other ∷ names) more = refl
