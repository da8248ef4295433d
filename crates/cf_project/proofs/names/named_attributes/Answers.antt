use Rattle.std.proofs.Common.{◌∙◌, ◌++◌, ◌∷◌, [], Bool, List, ap₂, sym}
use Rattle.cf_project.specs.Named.{is_named}
use Rattle.cf_project.proofs.Keeping.{range_more}
use Rattle.cf_project.proofs.names.named_attributes.Goals as goal

pub loop-place-preserved : goal.loop-place-preserved
loop-place-preserved c =
    c.in_ok-push.ensures.items
    ∙ (ap₂ (λ (ms : List Bool) (m : Bool). ms ++ m ∷ []) c.loop-place.invariant c.is_named.ensures
    ∙ sym (range_more (is_named c.args.shape.now c.args.asks.now) c.loop-place.place))
