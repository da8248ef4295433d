use Rattle.std.proofs.Common.{◌≡◌, ◌+◌, drop, sym, ap, arith, rules}
use Rattle.std.proofs.lemmas.List.{length-map}
use Rattle.cf_window.specs.Segments.{WindowSegmentValue}
use Rattle.cf_window.specs.Held.{WindowValue, rows_each}
use Rattle.cf_window.proofs.Dropping.{comes_after, refused_after}
use Rattle.cf_window.proofs.window.Window.drop_oldest.Goals as goal

pub returns-clause-ready : goal.returns-clause-ready
returns-clause-ready c row out =
    let inside = c.self.inside in
    let r : rows_each c.remove-oldest.new.self.items ≡ drop 1 (rows_each inside.segments.items) = search rules in
    refused_after c.args.self.now inside.shape (rows_each inside.segments.items) (rows_each c.remove-oldest.new.self.items) row
    (sym (ap (λ (w : WindowValue). w.shape) c.self.view_is)) (sym (ap (λ (w : WindowValue). w.segments) c.self.view_is)) r out

pub returns-clause-comes : goal.returns-clause-comes
returns-clause-comes c row out =
    let inside = c.self.inside in
    let r : rows_each c.remove-oldest.new.self.items ≡ drop 1 (rows_each inside.segments.items) = search rules in
    let long = length-map inside.segments.items (λ (s : WindowSegmentValue). s.rows) in
    let few = c.self.invariant.0.few in
    comes_after c.args.self.now
    (record {
      shape = inside.shape;
      most = inside.most;
      from = inside.from + c.from.result;
      segments = rows_each c.remove-oldest.new.self.items;
      is_spent = inside.is_spent;
    }) (rows_each inside.segments.items) row
    (sym (ap (λ (w : WindowValue). w.shape) c.self.view_is)) (sym (ap (λ (w : WindowValue). w.most) c.self.view_is))
    (sym (ap (λ (w : WindowValue). w.segments) c.self.view_is)) r c.requires.some (omega (arith, long, few)) out
