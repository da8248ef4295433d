use Rattle.std.proofs.Common.{◌∙◌, ◌<◌, ap}
use Rattle.cf_table.specs.Values.{PassValue}
use Rattle.cf_law.specs.Steps.Act.{link}
use Rattle.cf_table.specs.Effects.{IsLawfulStep, link_effect}
use Rattle.cf_table.proofs.Calls.{calls_link, link_low, linked_by, lost_by}
use Rattle.cf_table.proofs.log.MultiLog.link.Goals as goal

pub link_as-found-requires-clause-lawful : goal.link_as-found-requires-clause-lawful
link_as-found-requires-clause-lawful g c =
    rw c.pass.view_is (calls_link c.args.self.now.shape c.args.pass.now.view g.to.0 g.to.1 c.args.node c.args.place c.requires.1.1)

pub invariant_of-pass : goal.invariant_of-pass
invariant_of-pass g c =
    let w = c.pass.inside in
    let s = c.args.self.now.shape in
    let may : IsLawfulStep s w.token.view (link c.args.place c.args.node) (link_effect w.token.view g.to.0 g.to.1 c.args.node) =
    rw c.pass.view_is c.requires.1.1 in
    let low : w.notes.used < w.token.nodes =
    rw (ap (λ (h : PassValue). h.nodes) c.pass.view_is ∙ c.requires.1.0.nodes)
    (link_low s w.notes.writer w.notes.over w.notes.used w.token.view g.to.0 g.to.1 c.args.place c.args.node c.pass.invariant.0 may) in
    linked_by s w.notes.writer w.notes.over w.notes.used w.token c.link_as-found.new.token g.to.0 g.to.1 c.args.place c.args.node c.link_as-found.result
    c.pass.invariant low
    c.link_as-found.ensures.made c.if-found-eq0.true

pub invariant_of-pass-else-found-eq0 : goal.invariant_of-pass-else-found-eq0
invariant_of-pass-else-found-eq0 g c =
    let w = c.pass.inside in
    lost_by c.args.self.now.shape w.notes.writer w.notes.over w.notes.used w.token c.link_as-found.new.token g.to.0 g.to.1 c.args.node c.link_as-found.result
    c.pass.invariant
    c.link_as-found.ensures.made c.if-found-eq0.false
