use Rattle.std.proofs.Common.{rules, ◌≡◌, ℕ, List, ◌∷◌, ◌++◌, drop, Option, Some, sym, ap, subst, ◌∙◌}
use Rattle.cf_pcap.specs.Limits.{count_on, num_of}
use Rattle.cf_pcap.specs.declared.form.FileHeader.{FileHeader}
use Rattle.cf_pcap.specs.Capture.{frame_at}
use Rattle.cf_pcap.specs.Reading.{state_of, AreTaken, IsOneRecord}
use Rattle.cf_pcap.proofs.Joining.{record_then}
use Rattle.cf_pcap.proofs.taking.take_after.Goals as goal

pub returns-clause-given : goal.returns-clause-given
returns-clause-given c =
    let scope = c.args.place.scope in
    let count = c.args.place.count in
    let header = c.in-Some.header in
    let held = c.args.held.now.items in
    let more = c.args.more.now in
    let frame = c.in_ok-frame.frame in
    let given = c.in_ok-given.given in
    let t = state_of given.header given.count in
    let one : IsOneRecord (Some header) held = subst (λ (x : Option FileHeader). IsOneRecord x held) c.in-Some.is c.requires.record in
    let num : c.frame_number-num.result ≡ num_of scope.length count = c.frame_number-num.ensures in
    let is : frame ≡ frame_at header (num_of scope.length count) held = c.in_ok-frame.ensures ∙ ap (λ xs. frame_at header c.frame_number-num.result xs) c.deref.ensures.value
    ∙ ap (λ n. frame_at header n held) num in
    let kept : c.in_ok-kept.kept.items ≡ drop given.used more = search rules in
    let all : c.append-2.new.self.items ≡ c.args.out.now.items ++ (frame ∷ given.frames.items) = search rules in
    let taken : AreTaken scope (state_of (Some header) (count_on scope.length count 1)) c.args.late more given.frames.items t given.stage
    c.in_ok-kept.kept.items =
    subst (λ (xs : List ℕ). AreTaken scope (state_of (Some header) (count_on scope.length count 1)) c.args.late more given.frames.items t given.stage xs)
    (sym kept)
    (subst (λ (n : ℕ). AreTaken scope (state_of (Some header) n) c.args.late more given.frames.items t given.stage (drop given.used more))
    c.number_after.ensures
    (subst (λ (x : Option FileHeader). AreTaken scope (state_of x c.number_after.result) c.args.late more given.frames.items t given.stage
    (drop given.used more)) c.in-Some.is c.in_ok-given.ensures.taken)) in (
      frame ∷ given.frames.items,
      all,
      subst (λ (x : Option FileHeader). AreTaken scope (state_of x count) c.args.late (held ++ more) (frame ∷ given.frames.items) t given.stage
          c.in_ok-kept.kept.items) (sym c.in-Some.is)
          (record_then scope header count c.args.late held more frame given.frames.items t given.stage c.in_ok-kept.kept.items one.0 one.1 c.requires.late is
          taken),
    )
