use Rattle.std.proofs.Common.{◌∙◌, ℕ, List, map, ap}
use Rattle.cf_fold.specs.Quads.{QuadValue}
use Rattle.cf_plain.specs.Asks.{rows_in}
use Rattle.cf_plain.specs.Groups.{groups, pair_of}
use Rattle.cf_plain.proofs.Ranks.{pairs_back}
use Rattle.cf_store.specs.Asks.{groups_words}
use Rattle.cf_store.proofs.Aware.{walked_aware}
use Rattle.cf_store.proofs.reader.groups_of.Goals as goal

pub returns-in_default-groups_seen-clause-aware : goal.returns-in_default-groups_seen-clause-aware
returns-in_default-groups_seen-clause-aware c =
    walked_aware c.args.shared.now.log c.args.pass.now c.groups_seen.new.pass c.requires c.groups_seen.ensures.walked

pub returns-clause-aware : goal.returns-clause-aware
returns-clause-aware c = walked_aware c.args.shared.now.log c.args.pass.now c.groups_seen.new.pass c.requires c.groups_seen.ensures.walked

pub returns-in-Ok-group_words : goal.returns-in-Ok-group_words
returns-in-Ok-group_words c =
    let shape = c.args.shared.now.log.shape in
    let rows = rows_in (c.args.pass.now.view).seen in
    record {
      found = (
        c.groups_seen.ensures.walked,
        c.in-Some.ensures.1,
        c.in-Ok-group_words.ensures ∙ ap (λ (gs : List (ℕ × QuadValue)). groups_words gs)
            (ap (map pair_of) (c.deref.ensures.value ∙ c.in-Ok.ensures.found) ∙ (pairs_back (groups shape c.in-Some.lane rows)
            ∙ ap (λ (l : ℕ). groups shape l rows) c.in-Some.ensures.0)),
      );
      aware = walked_aware c.args.shared.now.log c.args.pass.now c.groups_seen.new.pass c.requires c.groups_seen.ensures.walked;
    }
