use Rattle.std.proofs.Common.{◌∙◌, ◌<◌, get_or, length, refl, ap, arith, length-set}
use Rattle.cf_table.specs.Values.{PassValue}
use Rattle.cf_store.proofs.Behind.{all_stay, step_can, step_count, step_few, step_found, suits_each, walked_more, walks}
use Rattle.cf_store.proofs.told.find_in.Goals as goal

pub returns-in_err-found-clause-walked : goal.returns-in_err-found-clause-walked
returns-in_err-found-clause-walked c = (c.finding_seen.ensures.walked, all_stay c.args.rest.now)

pub loop-k-init : goal.loop-k-init
loop-k-init c = record {
  long = refl;
  walked = all_stay c.args.rest.now;
  count = c.covered-count.ensures ∙ ap (λ (h : PassValue). length (h.view).seen) c.finding_seen.ensures.walked.same;
  found = c.in_ok-found.ensures.found;
}

pub find-requires : goal.find-requires
find-requires c =
    let rest = c.args.rest.now in
    let now = c.loop-k.rest in
    let k = c.loop-k.k in
    let d = c.index-rest-k.result in
    let v = c.loop-k.invariant in
    let test = c.loop-k-test.true in
    let last = c.requires.last in
    let long = v.long in
    let low : k < length now = omega (arith, test, last, long) in
    suits_each c.args.shared.now c.args.question.now rest now k d c.requires.behind.like v.walked low c.requires.suits

pub returns-in_err-tail-clause-walked : goal.returns-in_err-tail-clause-walked
returns-in_err-tail-clause-walked c =
    let rest = c.args.rest.now in
    let now = c.loop-k.rest in
    let k = c.loop-k.k in
    let d = c.index-rest-k.result in
    let v = c.loop-k.invariant in
    let test = c.loop-k-test.true in
    let last = c.requires.last in
    let long = v.long in
    let low : k < length now = omega (arith, test, last, long) in
    (c.finding_seen.ensures.walked, walked_more rest now k d c.find.new.self v.walked low (walks (get_or now k d) c.find.new.self c.find.ensures.walked))

pub join-requires : goal.join-requires
join-requires c =
    let rest = c.args.rest.now in
    let now = c.loop-k.rest in
    let k = c.loop-k.k in
    let d = c.index-rest-k.result in
    let v = c.loop-k.invariant in
    let test = c.loop-k-test.true in
    let last = c.requires.last in
    let long = v.long in
    let low : k < length now = omega (arith, test, last, long) in
    record {
      can = step_can c.args.shared.now c.args.question.now c.args.pass.now rest now k d c.requires.behind v.walked low c.loop-k.count c.loop-k.found
          c.in_ok-tail.tail c.in_ok-tail.more v.count v.found c.in_ok-tail.ensures.count c.in_ok-tail.ensures.found;
    }

pub returns-in_err-found-2-clause-walked : goal.returns-in_err-found-2-clause-walked
returns-in_err-found-2-clause-walked c =
    let rest = c.args.rest.now in
    let now = c.loop-k.rest in
    let k = c.loop-k.k in
    let d = c.index-rest-k.result in
    let v = c.loop-k.invariant in
    let test = c.loop-k-test.true in
    let last = c.requires.last in
    let long = v.long in
    let low : k < length now = omega (arith, test, last, long) in
    (c.finding_seen.ensures.walked, walked_more rest now k d c.find.new.self v.walked low (walks (get_or now k d) c.find.new.self c.find.ensures.walked))

pub overflow_add-count : goal.overflow_add-count
overflow_add-count c =
    let rest = c.args.rest.now in
    let now = c.loop-k.rest in
    let k = c.loop-k.k in
    let d = c.index-rest-k.result in
    let v = c.loop-k.invariant in
    let test = c.loop-k-test.true in
    let last = c.requires.last in
    let long = v.long in
    let low : k < length now = omega (arith, test, last, long) in
    let few = step_few c.args.shared.now c.args.question.now c.args.pass.now rest now k d c.requires.behind v.walked low c.loop-k.count c.loop-k.found
    c.in_ok-tail.tail c.in_ok-tail.more v.count v.found c.in_ok-tail.ensures.count c.in_ok-tail.ensures.found in
    omega (arith, few)

pub loop-k-preserved : goal.loop-k-preserved
loop-k-preserved c =
    let rest = c.args.rest.now in
    let now = c.loop-k.rest in
    let k = c.loop-k.k in
    let d = c.index-rest-k.result in
    let v = c.loop-k.invariant in
    let test = c.loop-k-test.true in
    let last = c.requires.last in
    let long = v.long in
    let low : k < length now = omega (arith, test, last, long) in
    record {
      long = length-set now k c.find.new.self ∙ v.long;
      walked = walked_more rest now k d c.find.new.self v.walked low (walks (get_or now k d) c.find.new.self c.find.ensures.walked);
      count = step_count c.args.shared.now c.args.question.now c.args.pass.now rest now k d c.requires.behind v.walked low c.loop-k.count c.loop-k.found
          c.in_ok-tail.tail c.in_ok-tail.more v.count v.found c.in_ok-tail.ensures.count c.in_ok-tail.ensures.found;
      found = step_found c.args.shared.now c.args.question.now c.args.pass.now rest now k d c.requires.behind v.walked low c.loop-k.count c.loop-k.found
          c.in_ok-tail.tail c.in_ok-tail.more v.count v.found c.in_ok-tail.ensures.count c.in_ok-tail.ensures.found c.in_ok-found-2.found c.in_ok-found-2.ensures;
    }
