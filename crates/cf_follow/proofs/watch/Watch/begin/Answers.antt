use Rattle.std.proofs.Common.{◌≡◌, ◌∙◌, ℕ, ◌-◌, ◌^◌, Bool, List, ap, ap₂, subst, arith}
use Rattle.cf_command.specs.Call.{AreWindowSizes}
use Rattle.cf_command.specs.declared.words.WindowSizes.{WindowSizes}
use Rattle.cf_row.specs.declared.schema.Attr.{Attr}
use Rattle.cf_shape.specs.Lanes.{IsShape, ShapeValue}
use Rattle.cf_setup.specs.Setups.{IsSetup, SetupValue, shaped}
use Rattle.cf_project.specs.Projected.{shape_kept}
use Rattle.cf_project.specs.Setups.{KeepsSetup, setup_kept}
use Rattle.cf_rounds.specs.Held.{RoundsValue, begun_on}
use Rattle.cf_follow.specs.LeftStreams.{KeepsTerms}
use Rattle.cf_follow.specs.Followed.{begun_with}
use Rattle.cf_follow.proofs.Leaving.{ready_so}
use Rattle.cf_follow.proofs.watch.Watch.begin.Goals as goal

abbrev rounds_of : (most every beat limit : ℕ) → SetupValue → ShapeValue → RoundsValue
rounds_of most every beat limit setup shape = begun_on (record { setup = setup; shape = shape; most = most; every = every; beat = beat }) limit

-- the shape of a segment
is_shape : (setup : SetupValue) (sizes : WindowSizes) → IsSetup setup → AreWindowSizes sizes
    → IsShape (shaped setup sizes.capacity 1 sizes.nodes)
is_shape setup sizes is in_range = record {
  schema = is.schema;
  few = is.few_lanes;
  capacity = in_range.capacity;
  writers = (omega arith, omega arith);
  nodes = in_range.nodes;
  width = is.width;
  lanes = is.lanes;
}

pub returns-clause-ready : goal.returns-clause-ready
returns-clause-ready c =
    let setup : SetupValue = c.args.setup in
    let sizes = c.args.sizes in
    let is : IsSetup setup = subst (λ (s : SetupValue). IsSetup s) c.setup.view_is c.setup.invariant in
    let marks : List Bool = c.in_ok-named_by.field-0.items in
    let keeps : KeepsSetup marks setup = c.in_ok-named_by.ensures.keeps in
    let whole : ◌≡◌ {A = List Attr} c.in_ok-copy.field-0 setup.schema = c.in_ok-copy.ensures ∙ c.schema.ensures in
    let named_is : c.in_ok-named.named ≡ setup_kept marks setup =
    subst (λ (ms : List Bool). c.in_ok-named.named ≡ setup_kept ms setup) c.deref.ensures.value c.in_ok-named.ensures in
    let shape_is : c.in_ok-shape.shape ≡ shape_kept marks (shaped setup sizes.capacity 1 sizes.nodes) =
    c.in_ok-shape.ensures ∙ ap (λ (s : SetupValue). shaped s sizes.capacity 1 sizes.nodes) named_is in
    let begun : RoundsValue = begun_with setup sizes.capacity sizes.segments sizes.nodes c.args.intervals.lives c.args.intervals.beat (2 ^ 53 - 1) in
    let lean : KeepsTerms marks begun.terms =
    record { lawful = is_shape setup sizes is c.requires.sizes; shape = keeps.shape sizes.capacity 1 sizes.nodes; asks = keeps.asks } in
    ready_so begun c.in_ok-begin.field-0 (record { schema = c.in_ok-copy.field-0; kept = c.in_ok-named_by.field-0 }) c.in_ok-begin-2.field-0 lean whole
    (c.in_ok-begin.ensures.begun
    ∙ ap₂ (rounds_of sizes.segments c.args.intervals.lives c.args.intervals.beat 9007199254740991) named_is shape_is)
    c.in_ok-begin.ensures.at c.in_ok-begin-2.ensures.begun c.in_ok-begin-2.ensures.size
