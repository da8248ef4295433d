-- Frames are numbered as they come.
use Rattle.std.proofs.Common.{◌≡◌, ◌⊎◌, inl, inr, ℕ, ◌+◌, take, List, [], ◌∷◌, refl, sym, subst}
use Rattle.std.specs.Prelude.{slice_range}
use Rattle.cf_pcap.specs.Capture.{FrameValue}
use Rattle.cf_pcap.specs.declared.scope.Scope.{Scope}
use Rattle.cf_pcap.specs.Limits.{num_of}
use Rattle.cf_pcap.specs.Format.{Takes}
use Rattle.cf_pcapng.specs.File.{State, frames_of, step}
use Rattle.cf_pcapng.specs.declared.content.Content.{Content}
use Rattle.cf_pcapng.specs.declared.content.Content.TheVariants.{NewSection, NewInterface, Captures, Nothing}
use Rattle.cf_pcapng.proofs.Steps.{taken}

-- there is no frame, or one of that number
abbrev pub IsNumbered : ℕ → List FrameValue → Type 0
IsNumbered k frames = (frames ≡ []) ⊎ ((frame : FrameValue) × (frames ≡ frame ∷ []) × (frame.num ≡ k))

of_content : (k : ℕ) (content : Content) (block : List ℕ) → IsNumbered k (frames_of k content block)
of_content k (NewSection order) block = inl refl
of_content k (NewInterface interface) block = inl refl
of_content k (Captures packet) block =
    let frame : FrameValue = record {
      num = k;
      ts = packet.ts;
      caplen = packet.caplen;
      len = packet.len;
      link = packet.link;
      bytes = slice_range block packet.begin (packet.begin + packet.caplen);
    } in
    inr (frame, refl, refl)
of_content k Nothing block = inl refl

-- what a block gives
pub numbered : (scope : Scope) (s : State) (bytes : List ℕ) (n : ℕ) (items : List FrameValue) (t : State) → step scope s bytes ≡ Takes n items t
    → IsNumbered (num_of scope.length s.count) items
numbered scope s bytes n items t h =
    let it = taken scope s bytes n items t h in
    subst (λ (xs : List FrameValue). IsNumbered (num_of scope.length s.count) xs) (sym it.items_are) (of_content (num_of scope.length s.count) it.content (take n bytes))
