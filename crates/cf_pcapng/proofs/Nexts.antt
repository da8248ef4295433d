-- The block at the front, as the code finds it.
use Rattle.std.proofs.Common.{◌≡◌, inl, inr, ℕ, ◌<◌, ◌≤◌, ◌+◌, ◌-◌, List, ◌++◌, length, take, drop, Option, Result, Ok, Err, IfOk, refl, sym, ap, subst, ◌∙◌, arith}
use Rattle.std.proofs.lemmas.Bool.{cases_lt}
use Rattle.cf_pcap.specs.declared.scope.Scope.{Scope}
use Rattle.cf_pcap.specs.declared.limit.Length.{Length}
use Rattle.cf_pcap.specs.declared.limit.Length.TheVariants.{Limited, Any}
use Rattle.cf_pcap.specs.Limits.{IsShort, HasRoom, num_of}
use Rattle.cf_pcap.specs.declared.form.Order.{Order}
use Rattle.cf_pcap.specs.Capture.{FrameValue}
use Rattle.cf_pcap.specs.Format.{Wants, Bad, Takes, ReadsTo}
use Rattle.cf_pcap.proofs.FormatUnits.{reads_on, reads_one}
use Rattle.cf_pcapng.specs.declared.fault.Flaw.{Flaw}
use Rattle.cf_pcapng.specs.declared.head.BlockKind.{BlockKind}
use Rattle.cf_pcapng.specs.declared.head.BlockHead.{BlockHead}
use Rattle.cf_pcapng.specs.declared.head.BlockHead.TheVariants.{Short, Flawed, Stands}
use Rattle.cf_pcapng.specs.declared.content.Content.{Content}
use Rattle.cf_pcapng.specs.declared.content.Content.TheVariants.{NewSection, NewInterface, Captures, Nothing}
use Rattle.cf_pcapng.specs.declared.blocks.Next.{Next}
use Rattle.cf_pcapng.specs.declared.blocks.Next.TheVariants as next
use Rattle.cf_pcapng.specs.Blocks.{head_of, content_of}
use Rattle.cf_pcapng.specs.File.{State, fault_of, frames_of, after, block_found, found_at, step, pcapng}
use Rattle.cf_pcapng.specs.Reading.{block_next, next_at, next_of, IsEnd, AreRead, AreReadAfter}
use Rattle.cf_pcapng.proofs.Heads.{below, not_below}
use Rattle.cf_pcapng.proofs.Steps.{Shown, step_at, length_front}

pub next_by_head : (scope : Scope) (s : State) (bytes : List ℕ) (head : BlockHead) → head_of s.order bytes ≡ head
    → next_of scope s bytes ≡ next_at scope s.interfaces bytes head
unfolding next_of
next_by_head scope s bytes head h = ap (λ (x : BlockHead). next_at scope s.interfaces bytes x) h

pub next_part : (scope : Scope) (s : State) (bytes : List ℕ) (order : Order) (kind : BlockKind) (total : ℕ) → head_of s.order bytes ≡ Stands order kind total
    → length bytes < total → next_of scope s bytes ≡ next.Wants
next_part scope s bytes order kind total h short = next_by_head scope s bytes (Stands order kind total) h ∙ rw (below (length bytes) total short) refl

pub next_whole : (scope : Scope) (s : State) (bytes : List ℕ) (order : Order) (kind : BlockKind) (total : ℕ) → head_of s.order bytes ≡ Stands order kind total
    → total ≤ length bytes → next_of scope s bytes ≡ block_next total (content_of scope s.interfaces order kind (take total bytes))
next_whole scope s bytes order kind total h whole = next_by_head scope s bytes (Stands order kind total) h ∙ rw (not_below (length bytes) total whole) refl

-- what the block at the front shows
abbrev pub shown_by : Length → State → List ℕ → Next → Shown
shown_by l s bytes next.Wants = Wants
shown_by l s bytes (next.Flawed flaw) = Bad (fault_of s.count flaw)
shown_by l s bytes (next.Block total content) = Takes total (frames_of (num_of l s.count) content (take total bytes)) (after l s content)

by_content : (l : Length) (s : State) (bytes : List ℕ) (total : ℕ) (found : Result Content Flaw) → total ≤ length bytes
    → block_found l s (take total bytes) found ≡ shown_by l s bytes (block_next total found)
by_content l s bytes total (Ok content) whole =
    ap (λ n. Takes n (frames_of (num_of l s.count) content (take total bytes)) (after l s content)) (length_front total bytes whole)
by_content l s bytes total (Err flaw) whole = refl

by_head : (scope : Scope) (s : State) (bytes : List ℕ) (head : BlockHead)
    → found_at scope s bytes head ≡ shown_by scope.length s bytes (next_at scope s.interfaces bytes head)
by_head scope s bytes Short = refl
by_head scope s bytes (Flawed flaw) = refl
by_head scope s bytes (Stands order kind total) = elim (cases_lt (length bytes) total) [
  | inl short ↦ rw (below (length bytes) total short) refl
  | inr whole ↦ rw (not_below (length bytes) total whole)
      (by_content scope.length s bytes total (content_of scope s.interfaces order kind (take total bytes)) whole)
]

pub step_by_next : (scope : Scope) (s : State) (bytes : List ℕ) → step scope s bytes ≡ shown_by scope.length s bytes (next_of scope s bytes)
step_by_next scope s bytes =
    step_at scope s bytes (head_of s.order bytes) refl
    ∙ by_head scope s bytes (head_of s.order bytes)
    ∙ ap (λ (x : Next). shown_by scope.length s bytes x) (sym (next_by_head scope s bytes (head_of s.order bytes) refl))

pub step_of : (scope : Scope) (s : State) (bytes : List ℕ) (found : Next) → found ≡ next_of scope s bytes
    → step scope s bytes ≡ shown_by scope.length s bytes found
step_of scope s bytes found h = step_by_next scope s bytes ∙ ap (λ (x : Next). shown_by scope.length s bytes x) (sym h)

-- one more block is read
pub one_more : (scope : Scope) (s : State) (bytes : List ℕ) (frames : List FrameValue) (t : State) (left : List ℕ) (total : ℕ) (content : Content)
    → ReadsTo (pcapng scope) s bytes frames t left → next.Block total content ≡ next_of scope t left
    → ReadsTo (pcapng scope) s bytes (frames ++ frames_of (num_of scope.length t.count) content (take total left)) (after scope.length t content) (drop total left)
one_more scope s bytes frames t left total content read is =
    reads_on (pcapng scope) s bytes frames (frames_of (num_of scope.length t.count) content (take total left)) t left (after scope.length t content) (drop total left) read
    (reads_one (pcapng scope) t left total (frames_of (num_of scope.length t.count) content (take total left)) (after scope.length t content)
    (step_of scope t left (next.Block total content) is))

-- there is room for the number after a block, and for what is left
pub room_after : (l : Length) (t : State) (content : Content) (total left : ℕ) → 12 ≤ total → total ≤ left → HasRoom l (t.count + left)
    → IsShort l (t.count + 1) × HasRoom l ((after l t content).count + (left - total))
room_after Any t content total left some fits room = (tt, tt)
room_after Limited t (NewSection order) total left some fits room = (omega (arith, some, fits, room), omega (arith, some, fits, room))
room_after Limited t (NewInterface interface) total left some fits room = (omega (arith, some, fits, room), omega (arith, some, fits, room))
room_after Limited t (Captures packet) total left some fits room = (omega (arith, some, fits, room), omega (arith, some, fits, room))
room_after Limited t Nothing total left some fits room = (omega (arith, some, fits, room), omega (arith, some, fits, room))

-- what was read, where the blocks end
pub read_of : (scope : Scope) (s : State) (bytes : List ℕ) (before more frames given : List FrameValue) (t last : State) (left rest : List ℕ)
    (end flaw : Option Flaw) → ReadsTo (pcapng scope) s bytes more t left → IsEnd scope t left end → frames ≡ before ++ more → last ≡ t → given ≡ frames
    → rest ≡ left → flaw ≡ end → AreReadAfter scope s bytes before given last rest flaw
read_of scope s bytes before more frames given t last left rest end flaw read is all p q r e =
    let done : AreRead scope s bytes more t left end = record { read = read; end = is } in
    record {
      more = more;
      frames_are = q ∙ all;
      read = subst (λ (x : State). AreRead scope s bytes more x rest flaw) (sym p)
          (subst (λ (x : List ℕ). AreRead scope s bytes more t x flaw) (sym r)
          (subst (λ (x : Option Flaw). AreRead scope s bytes more t left x) (sym e) done));
    }

-- from what is said of an answer that is Ok
pub by_ok : {T E : Type 0} (r : Result T E) (P Q : T → Type 0) → ((x : T) → P x → Q x) → IfOk r P → IfOk r Q
by_ok (Ok x) P Q f h = f x h
by_ok (Err e) P Q f h = h
