use Rattle.std.proofs.Common.{◌∙◌, Ok, ap, refl, arith, length-set}
use Rattle.cf_table.specs.Values.{PassValue}
use Rattle.cf_append.specs.Appends.{HasAppended}
use Rattle.cf_log.proofs.Chained.{found_at, goes_more, rest_more}
use Rattle.cf_log.proofs.appends.append_all.Goals as goal

pub loop-k-init : goal.loop-k-init
loop-k-init c = record {
  of = c.requires.of;
  rest = c.requires.rest;
  near = c.new-leaves.ensures c.args.log.now.shape c.args.pass.now.view;
  chain = refl;
  after = refl;
  long = refl;
}

pub returns-in-Err : goal.returns-in-Err
returns-in-Err c =
    let v = c.loop-k.invariant in
    let low = c.loop-k-test.true in
    record {
      last = c.loop-k.pass;
      within = omega (arith, low);
      chain = v.chain;
      rest = v.after;
      long = v.long;
      next = (c.index-rows-k.result, found_at c.args.rows.now c.loop-k.k c.index-rows-k.result low c.index-rows-k.is, c.in-Err.ensures.appended);
    }

pub loop-k-preserved : goal.loop-k-preserved
loop-k-preserved c =
    let v = c.loop-k.invariant in
    let shape = c.args.log.now.shape in
    let same = (c.in-Ok.ensures.appended).goes_on.same in
    let low = c.loop-k-test.true in
    let long = v.long in
    let room = c.requires.room in
    record {
      of = record { table = ap (λ (h : PassValue). h.table) same ∙ v.of.table; nodes = ap (λ (h : PassValue). h.nodes) same ∙ v.of.nodes };
      rest = (c.in-Ok.ensures.appended).rest;
      near = c.in-Ok.ensures.near;
      chain = goes_more (λ row m n o. HasAppended shape row m n (Ok o)) c.args.rows.now c.loop-k.offsets c.args.pass.now c.loop-k.pass
          c.append_near.new.pass c.loop-k.k c.index-rows-k.result c.in-Ok.offset
          (found_at c.args.rows.now c.loop-k.k c.index-rows-k.result low c.index-rows-k.is) (omega (arith, low, long, room)) v.chain
          c.in-Ok.ensures.appended;
      after = rest_more c.loop-k.offsets c.args.offsets.now c.loop-k.k c.in-Ok.offset v.after;
      long = length-set c.loop-k.offsets c.loop-k.k c.in-Ok.offset ∙ v.long;
    }
