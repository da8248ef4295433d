use Rattle.std.proofs.Common.{◌∙◌}
use Rattle.cf_fill.proofs.Drawing.{last_opened, last_never_refused}
use Rattle.cf_fill.proofs.drawn.open_drawn.Goals as goal

pub returns : goal.returns
returns c = let found = c.in-Ok.ensures.opens in last_opened _ _ _ _ found.0 c.open.new.self.rest c.in_ok-put.ensures.ok found.1 found.2
    ∙ c.deref.ensures.value ∙ c.in_ok-bytes.ensures

pub unreachable-requires : goal.unreachable-requires
unreachable-requires c =
    last_never_refused _ _ _ _ _ _ c.in-Err.field-0 c.in_ok-put.ensures.ok c.in-Err.ensures.opens c.in-Err.ensures.no_fault c.in-Err.ensures.no_memory
