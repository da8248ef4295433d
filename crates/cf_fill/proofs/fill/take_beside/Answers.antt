use Rattle.std.proofs.Common.{rules, ◌+◌, ◌<◌, length, IfOk}
use Rattle.std.proofs.lemmas.Result.{IfOk-weaker}
use denote.Param.Send.{IsSend, param_send, sendable}
use Rattle.std.proofs.Crossing.{crosses}
use Rattle.cf_segments.proofs.segments.Segments.TheSendSync.{the_send as segments_send}
use Rattle.cf_load.specs.contracts.loader.Loader as loader
use Rattle.cf_row.specs.contracts.row.Row as row
use Rattle.cf_fill.specs.contracts.filling.Filling as filling
use Rattle.cf_intake.specs.Reading.{IfReadOn}
use Rattle.cf_fill.proofs.Filled.{ahead_few}
use Rattle.cf_fill.proofs.fill.take_beside.Lts.{arg-2-1}
use Rattle.cf_fill.proofs.fill.take_beside.Goals as goal

pub returns-clause-few : goal.returns-clause-few
returns-clause-few g c =
    let wanted = c.wanted-wanted.result in
    let few : IfOk c.join_mut.result.1 (λ given. IfReadOn c.args.pieces.now (g.F.Shelf.rest c.args.shelf.now) (length given.items < wanted + 4096)) =
    search rules in
    IfOk-weaker c.join_mut.result.1 _ _ (λ given h before these on.
    ahead_few c.args.filling.now.loader.plan wanted (length c.args.filling.now.waiting) (length c.args.rows.now.items) c.len.result (length given.items)
    (c.wanted-wanted.ensures.some.1) c.wanted-wanted.ensures.ends (search rules) (h before these on)) few

-- a log that rows fill, and rows, may go to another thread
loader_send : IsSend loader.the_row
loader_send = search (sendable, crosses) depth 60 fits 100000

filling_send : IsSend filling.the_row
filling_send = search (loader_send, segments_send, sendable, crosses) depth 60 fits 100000

row_send : IsSend row.the_row
row_send = search (sendable, crosses) depth 60 fits 100000

pub join_mut-requires-send-F : goal.join_mut-requires-send-F
join_mut-requires-send-F g c κs within =
    let sync_R = c.type_bounds.sync-R in
    let sync_G = c.type_bounds.sync-G in
    param_send 1
    (arg-2-1 g.row.R g.row.F g.row.G g.R.laws g.F.laws g.G.laws g.R.Threads-dict g.F.Shelf-dict g.G.Gate-dict κs)
    (search (filling_send, row_send, sync_R, sync_G, sendable, crosses) depth 60 fits 100000)
