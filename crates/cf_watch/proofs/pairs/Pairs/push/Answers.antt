use Rattle.std.proofs.Common.{◌≡◌, ◌∙◌, ap, false, length, List, rules}
use Rattle.cf_watch.specs.Kept.{BucketValue, begun, is_kept}
use Rattle.cf_watch.proofs.Indexed.{indexed_push}
use Rattle.cf_watch.proofs.Noted.{changed_push}
use Rattle.cf_watch.proofs.pairs.Pairs.push.Goals as goal

pub invariant_of-self-in-Ok : goal.invariant_of-self-in-Ok
invariant_of-self-in-Ok c =
    let items : List BucketValue = c.self.inside.items.items in
    let none : is_kept items c.args.key ≡ false = ap (λ (ks : List BucketValue). is_kept ks c.args.key) c.self.view_is ∙ c.requires in
    let len : c.len-place.result ≡ length items = search rules in
    rw (c.in_ok-push.ensures.items, c.new.ensures) (
      indexed_push c.self.inside.places c.insert.new.self items c.args.key c.args.value c.self.invariant.0 none
          (λ q. rw len at (c.in-Ok.ensures.updates.0 q)),
      c.note.ensures items _ c.self.invariant.1 (changed_push items c.len-place.result (begun c.args.key c.args.value) len),
    )
