use Rattle.std.proofs.Common.{false, ◌∙◌, arith}
use Rattle.cf_table.proofs.Looks.{tail_loads}
use Rattle.cf_table.proofs.Settling.{moved_then, begins_long, settled_moved}
use Rattle.cf_append.proofs.Settling.{goes_on, moved_tail, counts_tail, known_tail, home_alone, stops_since}
use Rattle.cf_append.proofs.settles.move_tail.Goals as goal

pub returns : goal.returns
returns g c =
    let s = c.args.log.now.shape in
    let m = c.args.pass.now in
    let n = c.load_tail.new.pass in
    let o = c.settle_tail.new.pass in
    let loaded = c.load_tail.ensures.made in
    let settled = c.settle_tail.ensures.settled in
    let first = moved_tail s m n c.load_tail.result loaded in
    let second = settled_moved s n o settled in
    let moved = moved_then m n o first second in
    let known = c.settle_tail.ensures.known ∙ known_tail s m n c.load_tail.result loaded in
    let one = c.load_tail.ensures.steps in
    let more = c.settle_tail.ensures.steps in
    let long = begins_long (m.view).seen (n.view).seen first.longer in
    let longer = begins_long (n.view).seen (o.view).seen second.longer in
    let load = tail_loads s m n false c.load_tail.result _ _ loaded one in
    let loads = c.settle_tail.ensures.loads in
    record {
      moved = record {
        goes_on = goes_on m o moved known;
        books = moved.books;
        stops = stops_since s m.view n.view o.view (counts_tail s m n c.load_tail.result loaded) c.settle_tail.ensures.stops;
        begins = c.settle_tail.ensures.begins;
        fit = settled.fit;
        alone = λ single rest. settled.all (home_alone s o.view single settled.bounds rest);
        full = λ single rest. settled.full (home_alone s o.view single settled.bounds rest);
        paths = λ single rest. settled.paths (home_alone s o.view single settled.bounds rest);
        bounds = settled.bounds;
      };
      known = known;
      steps = omega (arith, one, more, long, longer);
      loads = omega (arith, load, loads);
    }
