use Rattle.std.proofs.Common.{rules, ◌++◌, List, IfErr, IfOk, refl, subst}
use denote.Param.Send.{IsSend, param_send, sendable}
use Rattle.std.proofs.Crossing.{crosses}
use Rattle.cf_row.specs.Row.{RowValue}
use Rattle.cf_row.specs.contracts.row.Row as row
use Rattle.cf_segments.proofs.segments.Segments.TheSendSync.{the_send as segments_send}
use Rattle.cf_load.specs.contracts.loader.Loader as loader
use Rattle.cf_fill.specs.Logs.{IsUnmade}
use Rattle.cf_fill.specs.contracts.filling.Filling as filling
use Rattle.cf_long.specs.contracts.growing.Growing as growing
use Rattle.cf_long.specs.contracts.long.Long as long
use Rattle.cf_long.specs.contracts.spelled_rows.SpelledRows as spelled_rows
use Rattle.cf_long.specs.Kept.{KeepsKept, KeptLongValue, TakesLeft}
use Rattle.cf_long.specs.Longs.{IsLong, KeepsLong, LongValue, shape_in}
use Rattle.cf_long.proofs.KeptRows.{takes_left}
use Rattle.cf_long.proofs.kept.KeptLong.take_beside.Lts.{arg-2-1}
use Rattle.cf_long.proofs.kept.KeptLong.take_beside.Goals as goal

-- a log of any length, and rows, may go to another thread
loader_send : IsSend loader.the_row
loader_send = search (sendable, crosses) depth 60 fits 100000

filling_send : IsSend filling.the_row
filling_send = search (loader_send, segments_send, sendable, crosses) depth 60 fits 100000

spelled_send : IsSend spelled_rows.the_row
spelled_send = search (sendable, crosses) depth 60 fits 100000

growing_send : IsSend growing.the_row
growing_send = search (filling_send, spelled_send, sendable, crosses) depth 60 fits 100000

long_send : IsSend long.the_row
long_send = search (growing_send, sendable, crosses) depth 60 fits 100000

row_send : IsSend row.the_row
row_send = search (sendable, crosses) depth 60 fits 100000

pub join_mut-requires-send-F : goal.join_mut-requires-send-F
join_mut-requires-send-F g c κs within =
    let sync_R = c.type_bounds.sync-R in
    let sync_G = c.type_bounds.sync-G in
    param_send 1
    (arg-2-1 g.row.R g.row.F g.row.G g.R.laws g.F.laws g.G.laws g.R.Threads-dict g.F.Shelf-dict g.G.Gate-dict κs)
    (search (long_send, row_send, sync_R, sync_G, sendable, crosses) depth 60 fits 100000)

pub returns-clause-takes : goal.returns-clause-takes
returns-clause-takes g c =
    let i = c.self.inside in
    let next : LongValue = c.join_mut.new.f.0.now in
    let old : KeptLongValue = record { kept = i.kept.items; shape = i.shape; long = i.long } in
    let new : KeptLongValue = record { kept = i.kept.items; shape = i.shape; long = next } in
    let left : List RowValue = c.args.left.now.items in
    let same : KeepsLong i.long next = search rules in
    let taken : IfOk c.join_mut.result.0 (λ _. (before : List RowValue) → IsLong i.long before → IsLong next (before ++ left)) = search rules in
    let lack : IfErr c.join_mut.result.0 (λ why. (before : List RowValue) → IsLong i.long before → IsUnmade (shape_in i.long) (before ++ left) why) =
    search rules in
    let keeps : KeepsKept old new = record { kept = refl; shape = refl; plan = same.plan } in
    subst (λ (log : KeptLongValue). TakesLeft log new left c.join_mut.result.0) c.self.view_is
    (takes_left old new left c.join_mut.result.0 keeps same.shape taken lack)
