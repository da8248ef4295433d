use Rattle.std.proofs.Common.{◌∙◌, Some, ap}
use Rattle.cf_handles.proofs.logs.open_at.Goals as goal

pub returns : goal.returns
returns c = (c.in_ok-opened.opened, c.put.ensures ∙ ap Some c.in-Ok.ensures.ok, c.in_ok-opened.ensures)
