use Rattle.std.proofs.Common.{◌≡◌, ◌∙◌, ℕ, Ok, refl, length, take, drop, get_or, ap, arith, length-set, subst, sym}
use Rattle.std.specs.Arc.{arc_value}
use Rattle.std.proofs.lemmas.Option.{slice_get-get_or}
use Rattle.cf_append.specs.Paths.{Remembers}
use Rattle.cf_log.specs.Chains.{Chain}
use Rattle.cf_log.proofs.Chained.{goes_more, rest_more}
use Rattle.cf_store.specs.declared.held.Shared.{Shared}
use Rattle.cf_store.specs.Appends.{AppendsFramed}
use Rattle.cf_store.proofs.Appended.{framed_same, no_frame}
use Rattle.cf_store.proofs.held.Writer.append_frames.Goals as goal

pub loop-k-init : goal.loop-k-init
loop-k-init c = record {
  near = c.new-leaves.ensures (arc_value c.args.self.now.of).log.shape c.args.self.now.pass.view;
  chain = refl;
  after = refl;
  long = refl;
}

pub returns-in-Err : goal.returns-in-Err
returns-in-Err c =
    let v = c.loop-k.invariant in
    let low = c.loop-k-test.true in
    record {
      last = c.loop-k.self;
      within = omega (arith, low);
      chain = v.chain;
      rest = v.after;
      long = v.long;
      next = (get_or c.args.frames.now c.loop-k.k no_frame, slice_get-get_or c.args.frames.now c.loop-k.k no_frame low, c.in-Err.ensures.appended);
    }

pub loop-k-preserved : goal.loop-k-preserved
loop-k-preserved c =
    let v = c.loop-k.invariant in
    let low = c.loop-k-test.true in
    let long = v.long in
    let room = c.requires in
    record {
      near = subst (λ (s : Shared). Remembers s.log.shape c.append_framed.new.self.pass.view c.append_framed.new.leaves)
          (ap (arc_value {X = Shared}) (sym (framed_same c.args.buffer.now _ c.loop-k.self c.append_framed.new.self c.in-Ok.offset c.in-Ok.ensures.appended))) c.in-Ok.ensures.near;
      chain = goes_more (λ f m n o. AppendsFramed c.args.buffer.now f m n (Ok o)) c.args.frames.now c.loop-k.offsets c.args.self.now c.loop-k.self
          c.append_framed.new.self c.loop-k.k (get_or c.args.frames.now c.loop-k.k no_frame) c.in-Ok.offset
          (slice_get-get_or c.args.frames.now c.loop-k.k no_frame low) (omega (arith, low, long, room)) v.chain c.in-Ok.ensures.appended;
      after = rest_more c.loop-k.offsets c.args.offsets.now c.loop-k.k c.in-Ok.offset v.after;
      long = length-set c.loop-k.offsets c.loop-k.k c.in-Ok.offset ∙ v.long;
    }

pub returns : goal.returns
returns c =
    let v = c.loop-k.invariant in
    let past = c.loop-k-test.false in
    let end = c.loop-k.auto.k-end in
    let same : c.loop-k.k ≡ length c.args.frames.now = omega (arith, past, end) in
    record {
      last = c.loop-k.self;
      within = omega arith;
      chain = subst (λ (i : ℕ). Chain (λ f m n o. AppendsFramed c.args.buffer.now f m n (Ok o)) (take i c.args.frames.now) c.args.self.now c.loop-k.self
          (take i c.loop-k.offsets)) same v.chain;
      rest = subst (λ (i : ℕ). drop i c.loop-k.offsets ≡ drop i c.args.offsets.now) same v.after;
      long = v.long;
      next = (refl, refl);
    }
