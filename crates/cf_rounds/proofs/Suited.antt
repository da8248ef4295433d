-- A setup's questions and triggers suit its lanes.
use Rattle.std.proofs.Common.{◌≡◌, ℕ, ◌+◌, ◌<◌, ◌-◌, ◌^◌, Bool, List, length, nat_lt, not, get_or, Result, Ok, Err, IfOk, sym, subst, arith}
use Rattle.std.specs.declared.alloc.AllocError.{AllocError}
use Rattle.std.specs.Option.{is_some}
use Rattle.std.proofs.lemmas.Bool.{ltb-true}
use Rattle.std.proofs.lemmas.List.Sums.{AllPass-from_list_all}
use Rattle.cf_row.specs.Expr.{is_range}
use Rattle.cf_row.proofs.Bytes.{both}
use Rattle.cf_fold.specs.declared.trigger.Trigger.{Trigger}
use Rattle.cf_plain.specs.Asks.{Suits, SuitsTrigger, exists, is_aggregate, is_attr, is_bucketed, suits_of, suits_trigger}
use Rattle.cf_plain.specs.declared.ask.Ask.{Ask}
use Rattle.cf_plain.specs.declared.ask.Ask.TheVariants as asks
use Rattle.cf_plain.specs.declared.answer.Body.{Body}
use Rattle.cf_report.specs.Answered.{IsWithin}
use Rattle.cf_report.proofs.Answering.{body_within, within_more}
use Rattle.cf_setup.specs.Setups.{IsSetup, SetupValue, shaped}
use Rattle.cf_shape.specs.Lanes.{ShapeValue, lane_at}
use Rattle.cf_rounds.specs.Lines.{RoundView, body_on}

pub asks_suit : (setup : SetupValue) → IsSetup setup → (capacity nodes place : ℕ) (d : Ask) → place < length setup.asks
    → Suits (shaped setup capacity 1 nodes) (get_or setup.asks place d)
asks_suit setup lawful capacity nodes place d low =
    AllPass-from_list_all (suits_of (shaped setup capacity 1 nodes)) setup.asks (lawful.asks capacity 1 nodes) place d low

pub lives_exist : (setup : SetupValue) → IsSetup setup → (k d : ℕ) → k < length setup.lives → get_or setup.lives k d < length setup.asks
lives_exist setup lawful k d low =
    ltb-true (get_or setup.lives k d) (length setup.asks) (AllPass-from_list_all (λ live. nat_lt live (length setup.asks)) setup.lives lawful.lives k d low)

-- the lane of a trigger is there
pub agg_low : (shape : ShapeValue) (trigger : Trigger) → SuitsTrigger shape trigger → trigger.agg < length shape.lanes
agg_low shape trigger suits =
    let agg = both (is_aggregate shape trigger.agg) (not (is_range trigger.op)) suits in
    let bucketed = both (is_bucketed shape trigger.agg) (is_some (lane_at shape trigger.agg).measure) agg.0 in
    let there = both (exists shape trigger.agg) (not (is_attr (lane_at shape trigger.agg).key)) bucketed.0 in
    ltb-true trigger.agg (length shape.lanes) there.0

pub trigger_low : (setup : SetupValue) → IsSetup setup → (place : ℕ) (d : Trigger) → place < length setup.triggers
    → (get_or setup.triggers place d).agg < length setup.lanes
trigger_low setup lawful place d low =
    agg_low (shaped setup 1 1 0) (get_or setup.triggers place d)
    (AllPass-from_list_all (suits_trigger (shaped setup 1 1 0)) setup.triggers (lawful.triggers 1 1 0) place d low)

-- the same of triggers that were read, where so many lanes are kept
pub told_low : (setup : SetupValue) → IsSetup setup → (triggers : List Trigger) (lanes place : ℕ) → triggers ≡ setup.triggers → lanes ≡ length setup.lanes
    → place < length triggers → (d : Trigger) → (get_or triggers place d).agg < lanes
told_low setup lawful triggers lanes place are same low d =
    let there : place < length setup.triggers = subst (λ (ts : List Trigger). place < length ts) are low in
    let here = trigger_low setup lawful place d there in
    subst (λ (ts : List Trigger). (get_or ts place d).agg < lanes) (sym are) (omega (arith, here, same))

-- The records of a body are those of the window.
on_within : (shape : ShapeValue) (view : RoundView) (is_final : Bool) (ask : Ask)
    → IsWithin (length view.rows) (body_on shape view is_final ask)
on_within shape view is_final (asks.Fired trigger) = tt
on_within shape view is_final (asks.List expr) = body_within shape (asks.List expr) view.rows
on_within shape view is_final (asks.Find lane low high) = body_within shape (asks.Find lane low high) view.rows
on_within shape view is_final (asks.Between lane low high) = body_within shape (asks.Between lane low high) view.rows
on_within shape view is_final (asks.Measure lane low high) = tt
on_within shape view is_final (asks.Top lane part count) = tt
on_within shape view is_final (asks.Groups lane) = tt
on_within shape view is_final (asks.Total attr expr) = tt

pub near_ok : (shape : ShapeValue) (view : RoundView) (is_final : Bool) (ask : Ask) (r : Result Body AllocError) → view.to ≡ view.from + length view.rows
    → view.to < 2 ^ 64 → IfOk r (λ body. body ≡ body_on shape view is_final ask) → IfOk r (λ body. IsWithin (2 ^ 64 - view.from) body)
near_ok shape view is_final ask (Ok body) is low answered =
    within_more (length view.rows) (2 ^ 64 - view.from) body (omega (arith, is, low))
    (subst (IsWithin (length view.rows)) (sym answered) (on_within shape view is_final ask))
near_ok shape view is_final ask (Err e) is low answered = tt
