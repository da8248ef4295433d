-- From a log that is loaded and closed to what is told of it.
use Rattle.std.proofs.Common.{◌≡◌, ℕ, ◌<◌, nat_lt, List, [], ◌∷◌, length, map, get_or, All, Result, Ok, Err, MatchResult, refl, sym, ap, ap₂, subst, ◌∙◌, ◌≤◌, ◌^◌, mul_comm}
use Rattle.std.specs.List.{range_with_len}
use Rattle.std.proofs.lemmas.Bool.{ltb-true}
use Rattle.std.proofs.lemmas.List.{length-map}
use Rattle.std.proofs.lemmas.List.Sums.{AllPass-from_list_all}
use Rattle.cf_row.specs.Row.{RowValue}
use Rattle.cf_row.specs.declared.row.Entry.{Entry}
use Rattle.cf_fold.specs.declared.trigger.Trigger.{Trigger}
use Rattle.cf_plain.specs.Order.{IsOrder, log_of, order_of}
use Rattle.cf_plain.specs.Tails.{Turn, AreTails, turns_of, batches_of}
use Rattle.cf_plain.proofs.Orders.{log_of_order, order_of_log}
use Rattle.cf_shape.specs.Lanes.{ShapeValue}
use Rattle.cf_plain.specs.Asks.{Suits, SuitsTrigger, suits_of, suits_trigger}
use Rattle.cf_plain.specs.declared.ask.Ask.{Ask}
use Rattle.cf_setup.specs.Setups.{SetupValue, IsSetup, shaped}
use Rattle.cf_plain.specs.declared.loaded.Live.{Live}
use Rattle.cf_report.specs.declared.text.Form.{Form}
use Rattle.cf_report.specs.declared.text.Form.TheVariants as forms
use Rattle.cf_plain.specs.Answered.{LoadedValue, answer_on, turn_of}
use Rattle.cf_report.specs.Answered.{tolds_of}
use Rattle.cf_report.specs.Meaning.{IsReport, AreMeant}
use Rattle.cf_report.specs.Report.{report_text}
use Rattle.cf_report.specs.Tags.{bare_log}
use Rattle.cf_report.specs.Text.{text_of}
use Rattle.cf_report.proofs.Bare.{bare_long, bare_of}
use Rattle.cf_report.proofs.Legal.{finals_meant, report_told, report_history}
use Rattle.cf_report.proofs.Reported.{final_is, no_rounds}
use Rattle.cf_table.specs.Moves.{SealValue}
use Rattle.cf_load.specs.Loading.{HasAnswered}
use Rattle.cf_load.specs.Planned.{IsPlan, marks_on, tails_of}
use Rattle.cf_segments.specs.Segments.{AllowsSegments}
use Rattle.cf_load.specs.declared.plan.LivePlan.{LivePlan}
use Rattle.cf_segments.specs.declared.segments.Sealing.{Sealing}
use Rattle.cf_command.specs.Call.{AreSizes}
use Rattle.cf_command.specs.declared.words.LogSizes.{LogSizes}
use Rattle.cf_fill.specs.Logs.{IsPlanOf, IsLogClosed, IsLogSealed, IsTagged}
use Rattle.cf_fill.specs.Work.{shape_for}
use Rattle.cf_fill.specs.Seals.{AreSeals, IsClosed, IsSealedReport, IsSealedFinal, IsSealedIn}

-- what a setup asks can be asked of a log of its shape
pub asks_suit : (setup : SetupValue) (capacity writers nodes : ℕ) → IsSetup setup → All (Suits (shaped setup capacity writers nodes)) setup.asks
asks_suit setup capacity writers nodes lawful =
    AllPass-from_list_all (suits_of (shaped setup capacity writers nodes)) setup.asks (lawful.asks capacity writers nodes)

-- a live question is one of them
lives_exist : (setup : SetupValue) → IsSetup setup → All (λ place. place < length setup.asks) setup.lives
lives_exist setup lawful = λ k d lt. ltb-true (get_or setup.lives k d) (length setup.asks)
    (AllPass-from_list_all (λ live. nat_lt live (length setup.asks)) setup.lives lawful.lives k d lt)

pub plan_suits : (setup : SetupValue) (capacity writers nodes rounds : ℕ) (plan : LivePlan) → IsSetup setup → IsPlanOf setup rounds plan
    → IsPlan (shaped setup capacity writers nodes) plan
plan_suits setup capacity writers nodes rounds plan lawful of = record {
  asks = subst (λ (qs : List Ask). All (Suits (shaped setup capacity writers nodes)) qs) (sym of.asks)
      (asks_suit setup capacity writers nodes lawful);
  triggers = subst (λ (ts : List Trigger). All (SuitsTrigger (shaped setup capacity writers nodes)) ts) (sym of.triggers)
      (AllPass-from_list_all (suits_trigger (shaped setup capacity writers nodes)) setup.triggers (lawful.triggers capacity writers nodes));
  lives = subst (λ (qs : List Ask). All (λ place. place < length qs) plan.lives.items) (sym of.asks)
      (subst (λ (ls : List ℕ). All (λ place. place < length setup.asks) ls) (sym of.lives) (lives_exist setup lawful));
}

-- a log of the setup's shape may have so many segments
pub segments_allowed : (setup : SetupValue) (sizes : LogSizes) → AreSizes sizes → AllowsSegments (shape_for setup sizes) sizes.segments
segments_allowed setup sizes are = record {
  some = are.segments.0;
  few = are.segments.1;
  rows = subst (λ (n : ℕ). n ≤ 2 ^ 20) (mul_comm sizes.capacity sizes.segments) are.most;
  whole = are.whole;
}

-- what a closed log answers to the setup's plan is meant
meant_of : (setup : SetupValue) (shape : ShapeValue) (rounds : ℕ) (plan : LivePlan) (rows : List RowValue) (entries : List Entry) (seals : List SealValue)
    (answered : LoadedValue) → IsPlanOf setup rounds plan → IsLogClosed shape plan rows entries seals answered → AreMeant setup shape rounds entries answered
meant_of setup shape rounds plan rows entries seals answered of closed =
    let asked = subst (λ (qs : List Ask). HasAnswered shape qs plan.lives.items plan.rounds (length rows) entries answered.lives) of.asks closed.lives in
    let live = subst (λ (ls : List ℕ). HasAnswered shape setup.asks ls plan.rounds (length rows) entries answered.lives) of.lives asked in
    let often = subst (λ (n : ℕ). HasAnswered shape setup.asks setup.lives n (length rows) entries answered.lives) of.rounds_are live in
    let lives = subst (λ (n : ℕ). HasAnswered shape setup.asks setup.lives rounds n entries answered.lives) (sym closed.is.size) often in
    record {
      finals = closed.finals ∙ ap (λ (qs : List Ask). map (answer_on shape entries) qs) of.asks;
      alerts = closed.alerts ∙ ap (λ (ts : List Trigger). map (marks_on shape entries) ts) of.triggers;
      tails = lives.tails;
      lives = lives.bodies;
    }

-- a log of the setup's plan is closed, and its tags are known
pub tagged_of : (setup : SetupValue) (capacity writers nodes rounds : ℕ) (plan : LivePlan) (rows : List RowValue) (sealing : Sealing) (tags : List Entry)
    (answered : LoadedValue) → IsPlanOf setup rounds plan → IsLogSealed (shaped setup capacity writers nodes) plan rows sealing answered
    → tags ≡ bare_log sealing.nums.items sealing.writers.items
    → IsTagged setup capacity writers nodes rounds rows tags sealing.seals.items answered
tagged_of setup capacity writers nodes rounds plan rows sealing tags answered of made are = record {
  entries = made.entries;
  tags_are = are ∙ ap₂ bare_log made.nums made.writers ∙ bare_of made.entries;
  closed = record {
    is = made.closed.is;
    meant = meant_of setup (shaped setup capacity writers nodes) rounds plan rows made.entries sealing.seals.items answered of made.closed;
    seals_are = made.closed.seals_are;
    few_nodes = made.closed.few_nodes;
  };
}

-- as many writers as numbers were read
pub sealed_even : (shape : ShapeValue) (plan : LivePlan) (rows : List RowValue) (sealing : Sealing) (answered : LoadedValue)
    → IsLogSealed shape plan rows sealing answered → length sealing.writers.items ≡ length sealing.nums.items
sealed_even shape plan rows sealing answered made =
    ap (λ (ws : List ℕ). length ws) made.writers ∙ length-map made.entries (λ (entry : Entry). entry.writer)
    ∙ sym (ap (λ (ns : List ℕ). length ns) made.nums ∙ length-map made.entries (λ (entry : Entry). entry.row.num))

-- there are as many tags as entries
pub tags_long : (setup : SetupValue) (capacity writers nodes rounds : ℕ) (rows : List RowValue) (tags : List Entry) (seals : List SealValue)
    (answered : LoadedValue) (made : IsTagged setup capacity writers nodes rounds rows tags seals answered) → length tags ≡ length made.entries
tags_long setup capacity writers nodes rounds rows tags seals answered made =
    ap (λ (es : List Entry). length es) made.tags_are ∙ bare_long made.entries

-- where no question was asked live, there is no tail
untold : (n : ℕ) (asks : List ℕ) (lives : List Live) → map (λ (at : Turn × ℕ). at.0) (map turn_of lives) ≡ turns_of (batches_of n) 0 asks → tails_of lives ≡ []
untold n asks [] turns = refl
untold n asks (live ∷ lives) turns = let none = turns ∙ no_rounds (range_with_len 0 (batches_of n)) asks in cc none

module _ (setup : SetupValue) (capacity writers nodes rounds : ℕ) (rows : List RowValue) (entries : List Entry) (seals : List SealValue)
    (answered : LoadedValue) (some : 0 < writers) (closed : IsClosed setup capacity writers nodes rounds rows entries seals answered) where
  valid : IsOrder (order_of entries) (length rows) writers
  valid = (order_of_log rows writers entries some closed.is).0

  same : entries ≡ log_of rows writers (order_of entries)
  same = (order_of_log rows writers entries some closed.is).1

  meant : AreMeant setup (shaped setup capacity writers nodes) rounds (log_of rows writers (order_of entries)) answered
  meant = subst (λ (es : List Entry). AreMeant setup (shaped setup capacity writers nodes) rounds es answered) same closed.meant

  seals_as : AreSeals capacity (log_of rows writers (order_of entries)) (tails_of answered.lives) seals
  seals_as = subst (λ (es : List Entry). AreSeals capacity es (tails_of answered.lives) seals) same closed.seals_are

  -- the report prints the answers that were given
  abbrev report_with : IsReport setup capacity writers nodes rounds rows (order_of entries)
      (text_of forms.Whole setup (log_of rows writers (order_of entries)) answered)
  report_with = record {
    order_is = valid;
    lives = answered.lives;
    tails_are = subst (λ (n : ℕ). AreTails n rounds setup.lives (map turn_of answered.lives))
        (log_of_order rows writers (order_of entries) some valid).0.size meant.tails;
    finals = tolds_of setup.asks answered.finals;
    finals_are = finals_meant setup (shaped setup capacity writers nodes) rounds (log_of rows writers (order_of entries)) answered meant;
    alerts = answered.alerts;
    alerts_are = meant.alerts;
    told = report_told setup (shaped setup capacity writers nodes) rounds (log_of rows writers (order_of entries)) answered meant;
    history = report_history setup (shaped setup capacity writers nodes) rounds (log_of rows writers (order_of entries)) answered meant;
    text_is = ap (λ (os : List ℕ). report_text setup (log_of rows writers (order_of entries)) os
        (tolds_of setup.asks answered.finals) answered.alerts answered.lives) (log_of_order rows writers (order_of entries) some valid).1;
    final_is = final_is setup capacity writers nodes rounds rows (order_of entries) answered some valid meant;
  }

  report_sealed : (text : List ℕ) → text ≡ text_of forms.Whole setup entries answered → IsSealedReport setup capacity writers nodes rounds rows text seals
  report_sealed text text_is =
      let shown : text ≡ text_of forms.Whole setup (log_of rows writers (order_of entries)) answered = text_is
      ∙ ap (λ (es : List Entry). text_of forms.Whole setup es answered) same in
      let base : IsSealedReport setup capacity writers nodes rounds rows (text_of forms.Whole setup (log_of rows writers (order_of entries)) answered) seals =
      record {
        order = order_of entries;
        report = report_with;
        seals_are = seals_as;
      } in
      subst (λ (t : List ℕ). IsSealedReport setup capacity writers nodes rounds rows t seals) (sym shown) base

  final_sealed : rounds ≡ 0 → (text : List ℕ) → text ≡ text_of forms.Final setup entries answered → IsSealedFinal setup capacity writers nodes rows text seals
  final_sealed none text text_is = record {
    text_is = text_is ∙ ap (λ (es : List Entry). text_of forms.Final setup es answered) same
        ∙ final_is setup capacity writers nodes rounds rows (order_of entries) answered some valid meant;
    seals_are = record {
      order = order_of entries;
      order_is = valid;
      seals_are = subst (λ (ts : List ℕ). AreSeals capacity (log_of rows writers (order_of entries)) ts seals)
          (untold (length (log_of rows writers (order_of entries))) setup.lives answered.lives (rw none at meant.tails.turns)) seals_as;
    };
  }

  -- in either form
  pub sealed_in : (form : Form) (text : List ℕ) → text ≡ text_of form setup entries answered
      → IsSealedIn form setup capacity writers nodes rounds rows text seals
  sealed_in forms.Whole text text_is = report_sealed text text_is
  sealed_in forms.Final text text_is = λ none. final_sealed none text text_is

-- where no live question was asked, the final part is sealed
pub final_so : {T E : Type 0} (r : Result T E) (P : T → Type 0) (N : Type 0) (Q : E → Type 0)
    → MatchResult r (λ made. (◌≡◌ {A = ℕ} 0 0 → P made) × N) Q → MatchResult r (λ made. P made × N) Q
final_so (Ok made) P N Q sealed = (sealed.0 refl, sealed.1)
final_so (Err why) P N Q unmade = unmade
