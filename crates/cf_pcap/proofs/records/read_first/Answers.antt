use Rattle.std.proofs.Common.{◌≡◌, ℕ, List, ◌+◌, Some, drop, sym, ap, subst, ◌∙◌, arith}
use Rattle.std.proofs.lemmas.List.{drop-drop}
use Rattle.cf_pcap.specs.Reading.{state_of, AreRead}
use Rattle.cf_pcap.proofs.Heading.{header_of}
use Rattle.cf_pcap.proofs.Units.{after_head, header_at, nothing_read}
use Rattle.cf_pcap.proofs.records.read_first.Goals as goal

pub split_at-requires : goal.split_at-requires
split_at-requires c =
    (header_at c.args.scope c.in-Stands.header c.args.bytes.now (header_of c.args.scope.links c.args.bytes.now) (sym c.in-Stands.ensures)).size

pub returns-in_ok-read-in-Stands-clause-read : goal.returns-in_ok-read-in-Stands-clause-read
returns-in_ok-read-in-Stands-clause-read c =
    let header = c.in-Stands.header in
    let read = c.in_ok-read-in-Stands.read in
    let bytes = c.args.bytes.now in
    let t = state_of read.header read.count in
    let sum : 24 + read.used ≡ read.used + 24 = omega arith in
    let left : drop read.used (drop 24 bytes) ≡ drop (read.used + 24) bytes = drop-drop read.used 24 bytes ∙ ap (λ n. drop n bytes) sum in
    let back : AreRead c.args.scope (state_of (Some header) c.args.num) (drop 24 bytes) read.frames.items t (drop read.used (drop 24 bytes)) =
    subst (λ (xs : List ℕ). AreRead c.args.scope (state_of (Some header) c.args.num) xs read.frames.items t (drop read.used xs)) c.split_at.ensures.back
    c.in_ok-read-in-Stands.ensures.read in
    after_head c.args.scope header c.args.num bytes read.frames.items t (drop (read.used + 24) bytes) (sym c.in-Stands.ensures)
    (subst (λ (xs : List ℕ). AreRead c.args.scope (state_of (Some header) c.args.num) (drop 24 bytes) read.frames.items t xs) left back)

pub returns-in_default : goal.returns-in_default
returns-in_default c =
    record {
      read = nothing_read c.args.scope c.args.num c.args.bytes.now c.new.result.items c.new.ensures.items
          (λ header is. c.in_default.not-Stands header (c.head_of.ensures ∙ is));
      used = omega arith;
    }
