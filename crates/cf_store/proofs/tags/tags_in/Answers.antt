use Rattle.std.proofs.Common.{◌≡◌, ◌∙◌, ◌<◌, ◌++◌, ℕ, List, length, get_or, ap, ap₂, arith}
use Rattle.cf_plain.specs.Order.{order_of}
use Rattle.cf_query.specs.Tags.{nums_of}
use Rattle.cf_query.proofs.Walking.{walked_looked}
use Rattle.cf_report.specs.Tags.{bare, bare_log}
use Rattle.cf_report.proofs.Bare.{bare_of}
use Rattle.cf_store.specs.Ends.{seen_upto}
use Rattle.cf_store.proofs.Behind.{all_stay, walked_more, walks}
use Rattle.cf_store.proofs.Reported.{nums_next, order_next}
use Rattle.cf_store.proofs.tags.tags_in.Goals as goal

pub returns-in_err-push_seen-clause-walked : goal.returns-in_err-push_seen-clause-walked
returns-in_err-push_seen-clause-walked c =
    (walked_looked c.args.pass.now c.push_seen.new.pass c.push_seen.ensures.looked, all_stay c.args.rest.now)

pub loop-k-init : goal.loop-k-init
loop-k-init c =
    let seen = (c.args.pass.now.view).seen in
    record {
      walked = (walked_looked c.args.pass.now c.push_seen.new.pass c.push_seen.ensures.looked, all_stay c.args.rest.now);
      nums = c.in_ok-push_seen.ensures.nums ∙ ap (λ (ns : List ℕ). ns ++ nums_of seen) c.new-nums.ensures.items;
      writers = c.in_ok-push_seen.ensures.writers ∙ ap (λ (ws : List ℕ). ws ++ order_of seen) c.new-writers.ensures.items;
    }

pub returns-in_err-push_tags-clause-walked : goal.returns-in_err-push_tags-clause-walked
returns-in_err-push_tags-clause-walked c =
    let now = c.loop-k.rest in
    let k = c.loop-k.k in
    let d = c.index-rest-k.result in
    let v = c.loop-k.invariant in
    let test = c.loop-k-test.true in
    let last = c.requires.last in
    let long = c.loop-k.auto.rest in
    let low : k < length now = omega (arith, test, last, long) in
    (v.walked.0, walked_more c.args.rest.now now k d c.push_tags.new.self v.walked.1 low (walks (get_or now k d) c.push_tags.new.self c.push_tags.ensures.walked))

pub loop-k-preserved : goal.loop-k-preserved
loop-k-preserved c =
    let first = c.args.pass.now in
    let rest = c.args.rest.now in
    let now = c.loop-k.rest in
    let k = c.loop-k.k in
    let d = c.index-rest-k.result in
    let v = c.loop-k.invariant in
    let test = c.loop-k-test.true in
    let last = c.requires.last in
    let long = c.loop-k.auto.rest in
    let low : k < length now = omega (arith, test, last, long) in
    let there : k < length rest = omega (arith, test, last) in
    record {
      walked =
          (v.walked.0, walked_more rest now k d c.push_tags.new.self v.walked.1 low (walks (get_or now k d) c.push_tags.new.self c.push_tags.ensures.walked));
      nums = c.in_ok-push_tags.ensures.nums
          ∙ (ap (λ (ns : List ℕ). ns ++ nums_of ((get_or now k d).pass.view).seen) v.nums ∙ nums_next first rest now k d v.walked.1 there);
      writers = c.in_ok-push_tags.ensures.writers
          ∙ (ap (λ (ws : List ℕ). ws ++ order_of ((get_or now k d).pass.view).seen) v.writers ∙ order_next first rest now k d v.walked.1 there);
    }

pub returns-clause-tags : goal.returns-clause-tags
returns-clause-tags c =
    let first = c.args.pass.now in
    let rest = c.args.rest.now in
    let v = c.loop-k.invariant in
    let test = c.loop-k-test.false in
    let end = c.loop-k.auto.k-end in
    let all : c.loop-k.k ≡ c.args.last = omega (arith, test, end) in
    c.new.ensures ∙ (ap₂ bare_log v.nums v.writers
    ∙ (bare_of (seen_upto first rest c.loop-k.k) ∙ ap (λ (k : ℕ). bare (seen_upto first rest k)) all))
