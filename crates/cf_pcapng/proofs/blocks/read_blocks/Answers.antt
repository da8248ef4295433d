use Rattle.std.proofs.Common.{◌≡◌, ◌≤◌, ◌+◌, ◌-◌, ℕ, List, ◌++◌, length, take, drop, Some, None, sym, ap, subst, ◌∙◌, append_assoc, length-drop}
use Rattle.cf_pcap.specs.declared.limit.Length.{Length}
use Rattle.cf_pcap.specs.Limits.{HasRoom, num_of}
use Rattle.cf_pcap.specs.Capture.{FrameValue}
use Rattle.cf_pcap.specs.Format.{ReadsTo}
use Rattle.cf_pcapng.specs.declared.blocks.Next.TheVariants as next
use Rattle.cf_pcapng.specs.File.{State, frames_of, after, pcapng}
use Rattle.cf_pcapng.specs.Position.{state_of}
use Rattle.cf_pcapng.proofs.Nexts.{step_of, one_more, room_after, read_of}
use Rattle.cf_pcapng.proofs.blocks.read_blocks.Goals as goal

pub loop-total-preserved : goal.loop-total-preserved
loop-total-preserved c =
    let at = c.loop-total in
    let s : State = state_of c.args.position in
    let now : State = state_of at.position in
    let total = c.in-Block.total in
    let content = c.in-Block.content in
    let front = c.split_at.ensures.front in
    let back = c.split_at.ensures.back in
    let had = at.invariant.read in
    let block : List FrameValue = frames_of (num_of c.args.scope.length now.count) content (take total at.left.now) in
    let more : ReadsTo (pcapng c.args.scope) s c.args.bytes.now (had.0 ++ block) (after c.args.scope.length now content) (drop total at.left.now) =
    one_more c.args.scope s c.args.bytes.now had.0 now at.left.now total content had.2 c.in-Block.ensures.value in
    let moved : state_of c.pass.new.self ≡ after c.args.scope.length now content = c.in_ok-pass-in-Block.ensures.moved in
    let given : c.pass.new.frames.items ≡ c.args.frames.items ++ (had.0 ++ block) = c.in_ok-pass-in-Block.ensures.given
    ∙ ap (λ xs. at.frames.items ++ frames_of (num_of c.args.scope.length now.count) content xs) front ∙ ap (λ xs. xs ++ block) had.1 ∙ append_assoc c.args.frames.items had.0 block in
    let size : 12 ≤ total = c.in-Block.ensures.within.0 in
    let fits : total ≤ length at.left.now = c.in-Block.ensures.within.1 in
    let len : length (drop total at.left.now) ≡ length at.left.now - total = length-drop total at.left.now in
    let l : Length = c.args.scope.length in
    let small : HasRoom l ((after l now content).count + length (drop total at.left.now)) =
    subst (λ n. HasRoom l ((after l now content).count + n)) (sym len) (room_after l now content total (length at.left.now) size fits at.invariant.room).1 in
    record {
      read = (
        had.0 ++ block,
        given,
        subst (λ (x : State). ReadsTo (pcapng c.args.scope) s c.args.bytes.now (had.0 ++ block) x c.split_at.result.1.now) (sym moved)
            (subst (λ (x : List ℕ). ReadsTo (pcapng c.args.scope) s c.args.bytes.now (had.0 ++ block) (after c.args.scope.length now content) x)
            (sym back) more),
      );
      had = c.in_ok-pass-in-Block.ensures.had ∙ at.invariant.had;
      room = subst (λ (x : State). HasRoom l (x.count + length c.split_at.result.1.now)) (sym moved)
          (subst (λ (x : List ℕ). HasRoom l ((after l now content).count + length x)) (sym back) small);
    }

pub returns-in-Wants-clause-read : goal.returns-in-Wants-clause-read
returns-in-Wants-clause-read c =
    let at = c.loop-total in
    let read = c.finish_read.result in
    let is = c.finish_read.ensures in
    read_of c.args.scope (state_of c.args.position) c.args.bytes.now c.args.frames.items at.invariant.read.0 at.frames.items read.frames.items
    (state_of at.position) (state_of read.position) at.left.now read.rest.now None read.flaw at.invariant.read.2
    (step_of c.args.scope (state_of at.position) at.left.now next.Wants c.in-Wants.ensures.value) at.invariant.read.1
    (ap state_of is.position) is.frames is.rest is.flaw

pub returns-in-Flawed-clause-read : goal.returns-in-Flawed-clause-read
returns-in-Flawed-clause-read c =
    let at = c.loop-total in
    let flaw = c.in-Flawed.flaw in
    let read = c.finish_read-in-Flawed.result in
    let is = c.finish_read-in-Flawed.ensures in
    read_of c.args.scope (state_of c.args.position) c.args.bytes.now c.args.frames.items at.invariant.read.0 at.frames.items read.frames.items
    (state_of at.position) (state_of read.position) at.left.now read.rest.now (Some flaw) read.flaw at.invariant.read.2
    (step_of c.args.scope (state_of at.position) at.left.now (next.Flawed flaw) c.in-Flawed.ensures.value) at.invariant.read.1
    (ap state_of is.position) is.frames is.rest is.flaw
