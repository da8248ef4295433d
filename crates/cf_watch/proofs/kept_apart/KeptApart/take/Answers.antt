use Rattle.std.proofs.Common.{◌<◌, ◌^◌, ap, arith}
use Rattle.cf_watch.specs.Pairs.{KeptApartValue, forgotten_at, without}
use Rattle.cf_watch.proofs.Placing.{all_apart, kept_taking_apart, left_for}
use Rattle.cf_watch.proofs.kept_apart.KeptApart.take.Goals as goal

pub place_in-requires-clause-separate : goal.place_in-requires-clause-separate
place_in-requires-clause-separate c =
    rw c.forget.ensures (left_for c.self.inside.buckets.items c.self.inside.count c.args.bucket c.args.key c.self.invariant).0.separate

pub place_in-requires-clause-apart : goal.place_in-requires-clause-apart
place_in-requires-clause-apart c =
    let few : c.self.inside.count < 2 ^ 53 = let e = ap (λ (v : KeptApartValue). v.count) c.self.view_is in omega (arith, e, c.requires) in
    rw c.forget.ensures
    (all_apart (without c.self.inside.buckets.items (forgotten_at c.self.inside.buckets.items c.args.bucket c.args.key)) c.self.inside.count 9007199254740991 (omega (arith, few))
    (left_for c.self.inside.buckets.items c.self.inside.count c.args.bucket c.args.key c.self.invariant).0.apart)

pub invariant_of-self : goal.invariant_of-self
invariant_of-self c =
    rw (c.in_err-place_in.ensures.err, c.forget.ensures)
    (left_for c.self.inside.buckets.items c.self.inside.count c.args.bucket c.args.key c.self.invariant).0

pub invariant_of-self-2 : goal.invariant_of-self-2
invariant_of-self-2 c =
    rw (c.in_ok-place_in.ensures.ok, c.forget.ensures)
    (kept_taking_apart c.self.inside.buckets.items c.self.inside.count c.args.bucket c.args.key c.args.value c.self.invariant)
