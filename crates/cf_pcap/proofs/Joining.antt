-- A record that was held, and the bytes that come after it.
use Rattle.std.proofs.Common.{◌≡◌, ℕ, ◌≤◌, ◌+◌, ◌-◌, List, [], ◌∷◌, ◌++◌, length, take, drop, Some, refl, sym, ap, subst, ◌∙◌, arith, length-append}
use Rattle.std.proofs.Math.Seq.{take-append-add, drop-append-add, drop-append_seam}
use Rattle.cf_pcap.specs.Limits.{count_on, num_of}
use Rattle.cf_pcap.specs.Format.{Takes, ReadsTo}
use Rattle.cf_pcap.proofs.FormatUnits.{reads_one, reads_on}
use Rattle.cf_pcap.specs.declared.scope.Scope.{Scope}
use Rattle.cf_pcap.specs.declared.form.FileHeader.{FileHeader}
use Rattle.cf_pcap.specs.declared.fault.PcapFault.{PcapFault}
use Rattle.cf_pcap.specs.declared.stage.Stage.{Stage}
use Rattle.cf_pcap.specs.Capture.{FrameValue, caplen_at, frame_at, HasRecord}
use Rattle.cf_pcap.specs.File.{State, step, pcap}
use Rattle.cf_pcap.specs.Reading.{state_of, AreRead, IsStageAfter, AreTaken}
use Rattle.cf_pcap.proofs.Steps.{step_record, stepper}

pub record_then : (scope : Scope) (header : FileHeader) (k late : ℕ) (record_bytes more : List ℕ) (frame : FrameValue) (frames : List FrameValue) (t : State)
    (stage : Stage PcapFault) (held : List ℕ) → HasRecord header record_bytes → 16 + caplen_at header record_bytes ≡ length record_bytes → late ≤ length more
    → frame ≡ frame_at header (num_of scope.length k) record_bytes
    → AreTaken scope (state_of (Some header) (count_on scope.length k 1)) late more frames t stage held
    → AreTaken scope (state_of (Some header) k) late (record_bytes ++ more) (frame ∷ frames) t stage held
record_then scope header k late bytes more frame frames t stage held has size fits is taken =
    let s : State = state_of (Some header) k in
    let next : State = state_of (Some header) (count_on scope.length k 1) in
    let n : ℕ = length more - late in
    let some : List ℕ = take n more in
    let len : length (bytes ++ more) ≡ length bytes + length more = length-append bytes more in
    let at : length (bytes ++ more) - late ≡ length bytes + n = omega (arith, len, fits) in
    let front : take (length (bytes ++ more) - late) (bytes ++ more) ≡ bytes ++ some = ap (λ m. take m (bytes ++ more)) at ∙ take-append-add bytes more n in
    let back : drop (length (bytes ++ more) - late) (bytes ++ more) ≡ drop n more = ap (λ m. drop m (bytes ++ more)) at ∙ drop-append-add bytes more n in
    let one : step scope s bytes ≡ Takes (length bytes) (frame ∷ []) next = step_record scope s header bytes refl has
    ∙ ap (λ m. Takes m (frame_at header (num_of scope.length k) bytes ∷ []) next) size ∙ ap (λ (f : FrameValue). Takes (length bytes) (f ∷ []) next) (sym is) in
    let now : step scope s (bytes ++ some) ≡ Takes (length bytes) (frame ∷ []) next =
    (stepper scope).takes_stays s bytes some (length bytes) (frame ∷ []) next one in
    let left : drop (length bytes) (bytes ++ some) ≡ some = drop-append_seam bytes some in
    let first : ReadsTo (pcap scope) s (bytes ++ some) (frame ∷ []) next some =
    subst (λ (xs : List ℕ). ReadsTo (pcap scope) s (bytes ++ some) (frame ∷ []) next xs) left
    (reads_one (pcap scope) s (bytes ++ some) (length bytes) (frame ∷ []) next now) in
    let read : AreRead scope s (bytes ++ some) (frame ∷ frames) t taken.rest =
    record {
      read = reads_on (pcap scope) s (bytes ++ some) (frame ∷ []) frames next some t taken.rest first taken.read.read;
      none = taken.read.none;
    } in record {
      rest = taken.rest;
      read = subst (λ (xs : List ℕ). AreRead scope s xs (frame ∷ frames) t taken.rest) (sym front) read;
      stage_is = subst (λ (xs : List ℕ). IsStageAfter scope t late (taken.rest ++ xs) stage) (sym back) taken.stage_is;
      held_is = taken.held_is;
    }
