-- What is left of a setup is one.
use Rattle.std.proofs.Common.{◌≡◌, ◌∙◌, ℕ, ◌≤◌, Bool, true, ◌&&◌, nat_lt, List, [], ◌∷◌, map, refl, ap, ap₂, sym, subst, arith}
use Rattle.std.specs.List.{list_all}
use Rattle.std.proofs.lemmas.List.{length-map}
use Rattle.std.proofs.lemmas.List.Sums.{AllPass-from_list_all}
use mathlib.Core.Path.{fun_ext}
use Rattle.cf_row.specs.declared.schema.Attr.{Attr}
use Rattle.cf_fold.specs.declared.trigger.Trigger.{Trigger}
use Rattle.cf_shape.specs.Lanes.{IsShape, ShapeValue}
use Rattle.cf_shape.specs.declared.lane.Lane.{Lane}
use Rattle.cf_plain.specs.Asks.{suits_of}
use Rattle.cf_plain.specs.declared.ask.Ask.{Ask}
use Rattle.cf_plain.specs.declared.ask.Ask.TheVariants as asks
use Rattle.cf_setup.specs.Setups.{IsSetup, SetupValue, shaped}
use Rattle.cf_row.proofs.Truths.{both}
use Rattle.cf_project.specs.Keeping.{keep}
use Rattle.cf_project.specs.Named.{KeepsShape, keeps_ask}
use Rattle.cf_project.specs.Projected.{ask_kept, lane_kept}
use Rattle.cf_project.specs.Setups.{KeepsSetup, named_by, setup_kept}
use Rattle.cf_project.proofs.Found.{suits_same, watches_same}
use Rattle.cf_project.proofs.Meant.{lanes_lawful_same}
use Rattle.cf_project.proofs.Named.{asks_named, shape_named}
use Rattle.cf_project.proofs.Schemas.{schema_kept}

-- The shape of a log of the least sizes.
abbrev least : SetupValue → ShapeValue
least setup = shaped setup 1 1 0

least_lawful : (setup : SetupValue) → IsSetup setup → IsShape (least setup)
least_lawful setup lawful = record {
  schema = lawful.schema;
  few = lawful.few_lanes;
  capacity = (omega arith, omega arith);
  writers = (omega arith, omega arith);
  nodes = omega arith;
  width = lawful.width;
  lanes = lawful.lanes;
}

-- what a question asks of a shape does not go by its sizes
suits_least : (setup : SetupValue) (capacity writers nodes : ℕ) (ask : Ask) → suits_of (shaped setup capacity writers nodes) ask ≡ suits_of (least setup) ask
suits_least setup capacity writers nodes (asks.List expr) = refl
suits_least setup capacity writers nodes (asks.Find lane low high) = refl
suits_least setup capacity writers nodes (asks.Between lane low high) = refl
suits_least setup capacity writers nodes (asks.Measure lane low high) = refl
suits_least setup capacity writers nodes (asks.Fired trigger) = refl
suits_least setup capacity writers nodes (asks.Top lane part n) = refl
suits_least setup capacity writers nodes (asks.Groups lane) = refl
suits_least setup capacity writers nodes (asks.Total attr expr) = refl

pub keeps_named : (setup : SetupValue) → IsSetup setup → KeepsSetup (named_by setup) setup
keeps_named setup lawful =
    let shape = least setup in
    let is : IsShape shape = least_lawful setup lawful in
    let suit = AllPass-from_list_all (suits_of shape) setup.asks (lawful.asks 1 1 0) in
    let keeps = shape_named shape setup.asks is suit in
    record {
      shape = λ capacity writers nodes. record { marks = keeps.marks; stamp = keeps.stamp; lanes = keeps.lanes };
      asks = asks_named shape setup.asks is suit;
    }

module _ (kept : List Bool) (setup : SetupValue) (keeps : KeepsSetup kept setup) (lawful : IsSetup setup) where
  abbrev shape : ShapeValue
  shape = least setup

  abbrev left : SetupValue
  left = setup_kept kept setup

  keeps_shape : KeepsShape kept shape
  keeps_shape = keeps.shape 1 1 0

  asks_suit : (questions : List Ask) → list_all (keeps_ask kept) questions ≡ true
      → list_all (suits_of (least left)) (map (ask_kept kept) questions) ≡ list_all (suits_of shape) questions
  asks_suit [] is = refl
  asks_suit (ask ∷ questions) is =
      let parts = both (keeps_ask kept ask) (list_all (keeps_ask kept) questions) is in
      ap₂ (λ (a b : Bool). a && b) (suits_same kept shape keeps_shape (least_lawful setup lawful) ask parts.0) (asks_suit questions parts.1)

  pub setup_lawful : IsSetup left
  setup_lawful = record {
    schema = schema_kept kept setup.schema lawful.schema keeps_shape.stamp;
    width = lawful.width;
    few_lanes = subst (λ (n : ℕ). n ≤ 16) (sym (length-map setup.lanes (lane_kept kept))) lawful.few_lanes;
    few_triggers = lawful.few_triggers;
    few_asks = subst (λ (n : ℕ). n ≤ 32) (sym (length-map setup.asks (ask_kept kept))) lawful.few_asks;
    lanes = lanes_lawful_same kept setup.schema setup.lanes keeps_shape.lanes ∙ lawful.lanes;
    triggers = λ capacity writers nodes.
        ap (λ (p : Trigger → Bool). list_all p setup.triggers) (fun_ext (watches_same kept shape keeps_shape (least_lawful setup lawful))) ∙ lawful.triggers 1 1 0;
    asks = λ capacity writers nodes.
        ap (λ (p : Ask → Bool). list_all p left.asks) (fun_ext (suits_least left capacity writers nodes))
        ∙ (asks_suit setup.asks keeps.asks ∙ lawful.asks 1 1 0);
    lives = ap (λ (n : ℕ). list_all (λ live. nat_lt live n) setup.lives) (length-map setup.asks (ask_kept kept)) ∙ lawful.lives;
    lane_names = lawful.lane_names ∙ sym (length-map setup.lanes (lane_kept kept));
    trigger_names = lawful.trigger_names;
    ask_names = lawful.ask_names ∙ sym (length-map setup.asks (ask_kept kept));
  }

  -- the same of parts that are equal to its own
  pub over_lawful : (attrs : List Attr) (lanes : List Lane) (questions : List Ask) → attrs ≡ keep kept setup.schema → lanes ≡ map (lane_kept kept) setup.lanes
      → questions ≡ map (ask_kept kept) setup.asks → IsSetup (record setup { schema = attrs; lanes = lanes; asks = questions })
  over_lawful attrs lanes questions schema_is lanes_are asks_are =
      subst (λ (xs : List Attr). IsSetup (record setup { schema = xs; lanes = lanes; asks = questions })) (sym schema_is)
      (subst (λ (ls : List Lane). IsSetup (record left { lanes = ls; asks = questions })) (sym lanes_are)
      (subst (λ (qs : List Ask). IsSetup (record left { asks = qs })) (sym asks_are) setup_lawful))
