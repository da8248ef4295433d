use Rattle.std.proofs.Common.{◌<◌, arith, inl, inr}
use Rattle.std.proofs.lemmas.Bool.{eq-eqb}
use Rattle.std.proofs.lemmas.List.Folds.{list_any_at}
use Rattle.cf_watch.specs.Pairs.{is_at, most_pairs, no_bucket, pair_count}
use Rattle.cf_watch.proofs.Placing.{forgets_first, forgets_none, no_pair}
use Rattle.cf_watch.proofs.kept_apart.forgotten.Goals as goal

pub other-requires-clause-full : goal.other-requires-clause-full
other-requires-clause-full c = omega (arith, c.pair_count.ensures)

pub returns-then-buckets-lt-MOST_APART : goal.returns-then-buckets-lt-MOST_APART
returns-then-buckets-lt-MOST_APART c =
    let few : pair_count c.args.buckets.now < most_pairs = omega (arith, c.pair_count.ensures) in
    forgets_none c.args.buckets.now c.args.number c.args.key few (inl c.if-buckets-lt-MOST_APART.true)

pub returns-in-Some : goal.returns-in-Some
returns-in-Some c =
    let few : pair_count c.args.buckets.now < most_pairs = omega (arith, c.pair_count.ensures) in
    let at = c.in-Some.ensures in
    forgets_none c.args.buckets.now c.args.number c.args.key few
    (inr (list_any_at (is_at c.args.number) c.args.buckets.now c.in-Some.field-0 no_bucket at.0 (eq-eqb _ _ at.1)))

pub returns-in-None : goal.returns-in-None
returns-in-None c =
    let few : pair_count c.args.buckets.now < most_pairs = omega (arith, c.pair_count.ensures) in
    forgets_first c.args.buckets.now c.args.number c.args.key (no_pair c.args.buckets.now c.args.number c.args.key c.in-None.ensures) few
    c.if-buckets-lt-MOST_APART.false c.in-None.ensures
