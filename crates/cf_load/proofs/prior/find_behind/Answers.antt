use Rattle.std.proofs.Common.{◌≡◌, ◌≤◌, ◌+◌, List, length, refl, arith, sym, ap, subst, ◌∙◌, ℕ}
use Rattle.cf_row.specs.declared.row.Entry.{Entry}
use Rattle.cf_plain.specs.Asks.{rows_in}
use Rattle.cf_plain.specs.Segments.{CanJoin, finding_in, joined}
use Rattle.cf_query.proofs.Walking.{walked_seen}
use Rattle.cf_load.proofs.Costs.{key_cost}
use Rattle.cf_load.proofs.Findings.{found_behind, found_can}
use Rattle.cf_load.proofs.prior.find_behind.Goals as goal

pub join-requires : goal.join-requires
join-requires g c =
    let shape = c.args.log.now.shape in
    let ask = c.args.ask.now in
    let seen : List Entry = ((g.P.Pass.held c.args.pass.now).view).seen in
    let most = c.requires.reader.few in
    let room = c.requires.few in
    let f = c.requires.found in
    record {
      can = subst (CanJoin c.args.before.0 c.args.before.1) (sym c.in_ok-more.ensures.found)
          (found_can shape ask f.0 c.args.before.0 c.args.before.1 f.1 seen (omega (arith, most, room)));
    }

pub returns-clause-found : goal.returns-clause-found
returns-clause-found g c entries found =
    let shape = c.args.log.now.shape in
    let ask = c.args.ask.now in
    let m = g.P.Pass.held c.args.pass.now in
    let n = g.P.Pass.held c.finding_seen.new.pass in
    let seen : List Entry = (m.view).seen in
    let both = found_behind shape ask entries c.args.before.0 c.args.before.1 found seen in
    let long : c.covered.result ≡ length seen =
    c.covered.ensures ∙ ap (λ (es : List Entry). length es) (sym (walked_seen m n c.finding_seen.ensures.walked.only)) in
    let joined_is : c.in_ok-found.found ≡ joined c.args.before.0 c.args.before.1 (finding_in shape ask (rows_in seen)) = c.in_ok-found.ensures
    ∙ ap (joined c.args.before.0 c.args.before.1) c.in_ok-more.ensures.found in
    record {
      count_is = ap (λ (k : ℕ). c.args.before.0 + k) long ∙ both.count_is;
      finding_is = joined_is ∙ both.finding_is;
    }

pub returns-clause-steps : goal.returns-clause-steps
returns-clause-steps g c one =
    let shape = c.args.log.now.shape in
    let ask = c.args.ask.now in
    let seen : List Entry = ((g.P.Pass.held c.args.pass.now).view).seen in
    subst (λ (n : ℕ). c.finding_seen.new.steps + 1 ≤ c.args.steps.now + n)
    (key_cost shape ask seen c.in_ok-more.more (length seen) c.in_ok-more.ensures.found refl)
    (c.in_ok-more.ensures.steps one)
