use Rattle.std.proofs.Common.{◌∙◌, ◌++◌, ◌∷◌, [], ℕ, List, map, ap, ap₂, sym}
use Rattle.std.proofs.lemmas.List.{map-append}
use Rattle.cf_fold.specs.Quads.{QuadValue}
use Rattle.cf_plain.specs.Groups.{pair_of}
use Rattle.cf_store.specs.Merges.{group_at}
use Rattle.cf_store.proofs.Merged.{range_map_more}
use Rattle.cf_store.proofs.merges.groups_of.Goals as goal

pub loop-k-preserved : goal.loop-k-preserved
loop-k-preserved c =
    ap (map pair_of) c.in_ok-push.ensures.items
    ∙ (map-append pair_of (c.loop-k.groups).items (c.group_at.result ∷ [])
    ∙ (ap₂ (λ (xs : List (ℕ × QuadValue)) (x : ℕ × QuadValue). xs ++ x ∷ []) c.loop-k.invariant c.group_at.ensures
    ∙ sym (range_map_more (group_at c.args.words.now) c.loop-k.k)))
