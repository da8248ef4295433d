use Rattle.std.proofs.Common.{arith}
use Rattle.cf_window.proofs.Holding.{window_taken}
use Rattle.cf_window.proofs.Rows.{count_in, count_out}
use Rattle.cf_window.proofs.window.Window.go_in.Goals as goal

pub invariant_of-self : goal.invariant_of-self
invariant_of-self c =
    let inside = c.self.inside in
    let v = c.self.invariant in
    let e = c.take_last.ensures in
    let ys = c.take_last.new.segments.items in
    let room = v.1 in
    let same = e.room in
    let more = count_in inside.shape inside.segments.items ys c.args.row.now c.take_last.result c.if-take_last.true (e.taken inside.shape v.0.shapes) e.rows in
    let count = v.3 in (
      window_taken inside.shape inside.most inside.segments.items ys v.0 e.shapes e.long,
      omega (arith, room, same),
      λ is. e.open c.if-take_last.true,
      omega (arith, more, count),
      v.4,
    )

pub invariant_of-self-else-take_last : goal.invariant_of-self-else-take_last
invariant_of-self-else-take_last c =
    let inside = c.self.inside in
    let v = c.self.invariant in
    let e = c.take_last.ensures in
    let ys = c.take_last.new.segments.items in
    let room = v.1 in
    let same = e.room in
    let still = count_out inside.segments.items ys c.args.row.now c.take_last.result c.if-take_last.false e.rows in
    let count = v.3 in (
      window_taken inside.shape inside.most inside.segments.items ys v.0 e.shapes e.long,
      omega (arith, room, same),
      λ is. absurd (cc is),
      omega (arith, still, count),
      v.4,
    )
