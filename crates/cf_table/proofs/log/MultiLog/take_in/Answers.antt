use Rattle.std.proofs.Common.{◌≡◌, ◌∙◌, ap, sym, arith}
use Rattle.cf_table.specs.Values.{PassValue}
use Rattle.cf_table.proofs.Leaving.{noted_more}
use Rattle.cf_table.proofs.log.MultiLog.take_in.Goals as goal

pub invariant_of-root : goal.invariant_of-root
invariant_of-root c =
    let r = c.root.inside in
    let w = c.pass.inside in
    let n = c.fold_token.new.token in
    let cap = c.push_reserved.ensures.capacity in
    let of = c.requires.of in
    let same : w.token.nodes ≡ r.token.nodes = ap (λ (h : PassValue). h.nodes) c.pass.view_is
    ∙ (of.1.nodes ∙ (sym of.0.nodes ∙ sym (ap (λ (h : PassValue). h.nodes) c.root.view_is))) in
    let nodes : n.nodes ≡ r.token.nodes = ap (λ (h : PassValue). h.nodes) c.fold_token.ensures.made.same in
    let room = c.root.invariant.1 in (
      noted_more r.notes.items c.push_reserved.new.self.items r.token n w.token w.notes.writer w.notes.over w.notes.used c.root.invariant.0 c.pass.invariant
          same nodes
          c.push_reserved.ensures.items c.fold_token.ensures.books,
      omega (arith, cap, room),
    )
