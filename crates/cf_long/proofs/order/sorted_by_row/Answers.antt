use Rattle.std.proofs.Common.{◌∙◌, ap}
use Rattle.cf_fold.specs.Sort.{sort}
use Rattle.cf_fold.proofs.Sorted.{sort_leaves}
use Rattle.cf_long.proofs.order.sorted_by_row.Goals as goal

pub returns : goal.returns
returns c = sort_leaves c.in_ok-found.found.items c.sort_unstable.new.self.items c.sort_unstable.ensures.permutation c.sort_unstable.ensures.sorted
    ∙ ap sort c.in_ok-found.ensures
