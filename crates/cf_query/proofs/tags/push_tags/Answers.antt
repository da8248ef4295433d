use Rattle.std.proofs.Common.{◌≡◌, ◌∙◌, ◌<◌, length, get_or, Some, slice_get, ap, arith}
use Rattle.std.proofs.lemmas.Option.{slice_get-get_or}
use Rattle.cf_row.specs.declared.row.Entry.{Entry}
use Rattle.cf_table.specs.Values.{PassValue}
use Rattle.cf_table.proofs.Reading.{no_entry}
use Rattle.cf_query.proofs.Loaded.{looked_on}
use Rattle.cf_query.proofs.Tagged.{more_of}
use Rattle.cf_query.proofs.tags.push_tags.Goals as goal

pub loop-offset-preserved : goal.loop-offset-preserved
loop-offset-preserved g c =
    let o = c.loop-offset.offset in
    let f = g.P.Pass.held c.args.pass.now in
    let m = g.P.Pass.held c.loop-offset.pass in
    let seen = (f.view).seen in
    let v = c.loop-offset.invariant in
    let test = c.loop-offset-test.true in
    let size = c.covered-offset-end.ensures in
    let lt : o < length seen = omega (arith, test, size) in
    let e = get_or seen o no_entry in
    let at : slice_get (m.view).seen o ≡ Some e = ap (λ (h : PassValue). slice_get (h.view).seen o) v.looked.only ∙ slice_get-get_or seen o no_entry lt in
    record {
      looked = looked_on v.looked c.tag_at-num.ensures.looked;
      nums = more_of (λ (x : Entry). x.row.num) seen c.args.nums.now.items c.loop-offset.nums.items c.push.new.self.items o c.tag_at-num.result.0
          lt v.nums c.in_ok-push.ensures.items (c.tag_at-num.ensures.num e at);
      writers = more_of (λ (x : Entry). x.writer) seen c.args.writers.now.items c.loop-offset.writers.items c.push-in-loop-offset.new.self.items o
          c.tag_at-num.result.1 lt v.writers c.in_ok-push-2.ensures.items (c.tag_at-num.ensures.writer e at);
      steps = let before = v.steps in let more = c.tag_at-num.ensures.steps in omega (arith, before, more);
    }
