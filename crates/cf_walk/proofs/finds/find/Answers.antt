use Rattle.std.proofs.Common.{◌≡◌, ◌∙◌, ◌+◌, ◌-◌, ◌^◌, ◌++◌, ℕ, List, Vec, Global, ap, sym, subst}
use Rattle.cf_fold.proofs.Sorted.{AsOften}
use Rattle.cf_shape.specs.Lanes.{ShapeValue}
use Rattle.cf_shape.specs.Nodes.{levels_of}
use Rattle.cf_plain.specs.Asks.{rows_in, places, is_keyed_between}
use Rattle.cf_walk.specs.Walks.{HasWalked, range_places}
use Rattle.cf_walk.proofs.Walked.{did_nothing}
use Rattle.cf_walk.proofs.Tallied.{covers_some, covers_none, some_often, none_often, sorted_are}
use Rattle.cf_walk.proofs.finds.find.Goals as goal
use Rattle.cf_walk.proofs.finds.find.Goals.{then-low-high+in_ok-collect_range, else-low-high}

pub returns-clause-found : goal.returns-clause-found
returns-clause-found g c =
    let s = c.args.log.now.shape in
    let l = c.args.lane in
    let low = c.args.range.0 in
    let high = c.args.range.1 in
    let seen = ((g.P.Pass.held c.args.pass.now).view).seen in
    let is = c.shape.ensures.lawful in
    let most : c.greatest_key.result + 1 ≡ 16 ^ levels_of s l = c.greatest_key.ensures ∙ ap (λ (x : ShapeValue). 16 ^ levels_of x l) c.shape.ensures.shape in
    let often : AsOften (c.if-low-high.found).items (places (is_keyed_between s l low high) (rows_in seen)) =
    elim c.if-low-high.branch [
      | then-low-high+in_ok-collect_range x ↦
          some_often s l low high (c.min-high.result - low + 1) seen (c.if-low-high.found).items is c.requires.lane.exists c.requires.fit
          (covers_some s l low high c.greatest_key.result c.min-high.result most c.min-high.ensures x.if-low-high.true)
          (ap (λ (v : Vec ℕ Global). v.items) x.found-is
          ∙ (x.in_ok-collect_range.ensures.found
          ∙ ap (λ (xs : List ℕ). xs ++ range_places s l low seen (c.min-high.result - low + 1)) c.new-found.ensures.items))
      | else-low-high x ↦
          none_often s l low high seen (c.if-low-high.found).items is c.requires.lane.exists c.requires.fit
          (covers_none s l low high c.greatest_key.result c.min-high.result most c.min-high.ensures x.if-low-high.false)
          (ap (λ (v : Vec ℕ Global). v.items) x.found-is ∙ c.new-found.ensures.items)
    ] in
    c.new.ensures
    ∙ sorted_are (is_keyed_between s l low high) (rows_in seen) (c.if-low-high.found).items
    (c.sort_unstable.new.self).items often c.sort_unstable.ensures.permutation c.sort_unstable.ensures.sorted

pub returns-clause-walked : goal.returns-clause-walked
returns-clause-walked g c =
    let m = g.P.Pass.held c.args.pass.now in
    let from = c.args.steps.now in
    elim c.if-low-high.branch [
      | then-low-high+in_ok-collect_range x ↦
          subst (λ (n : ℕ). HasWalked m (g.P.Pass.held c.if-low-high.pass) from n) (sym x.steps-is)
          (subst (λ (p : g.row.P.Denot). HasWalked m (g.P.Pass.held p) from x.collect_range.new.steps) (sym x.pass-is) x.collect_range.ensures.walked)
      | else-low-high x ↦
          subst (λ (n : ℕ). HasWalked m (g.P.Pass.held c.if-low-high.pass) from n) (sym x.steps-is)
          (subst (λ (p : g.row.P.Denot). HasWalked m (g.P.Pass.held p) from from) (sym x.pass-is) (did_nothing m from))
    ]
