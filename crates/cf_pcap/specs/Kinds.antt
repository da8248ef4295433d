-- Captures of a kind: what the rules over whole files say of each, and what its whole units are where it ends within one.
use Rattle.std.specs.Prelude.{◌≡◌, ◌⊎◌, ℕ, ◌≤◌, Bool, true, false, List, ◌++◌, length, Option, Some, None}
use Rattle.cf_pcap.specs.declared.limit.Length.{Length}
use Rattle.cf_pcap.specs.Format.{Format, IsWhole, HasFault}
use Rattle.cf_pcap.specs.Limits.{number_of}
use Rattle.cf_pcap.specs.Streams.{AreGiven}
use Rattle.cf_pcap.specs.Capture.{FrameValue}

-- A kind of captures: how long one may be, the files that are captures of some frames, the faults of others, and that of one that ends
-- within a unit, a record or a block, after so many frames.
pub record Kind (F : Type 0) : Type 1 where
  pub longest : Length
  pub Is : List ℕ → List FrameValue → Type 0
  pub Has : List ℕ → F → Type 0
  pub cut : ℕ → F

-- a file is a capture or has a fault, never both, and of one list of frames or by one fault alone
pub record OneCase {F : Type 0} (kind : Kind F) (file : List ℕ) : Type 0 where
  pub some : ((frames : List FrameValue) × kind.Is file frames) ⊎ ((fault : F) × kind.Has file fault)
  pub either : (frames : List FrameValue) (fault : F) → kind.Is file frames → kind.Has file fault → ⊥
  pub one_capture : (a b : List FrameValue) → kind.Is file a → kind.Is file b → a ≡ b
  pub one_fault : (a b : F) → kind.Has file a → kind.Has file b → a ≡ b

-- by its units a file is whole, or has a fault, just where it is a capture, or has that fault
pub record JudgedAlike {S F : Type 0} (kind : Kind F) (f : Format S FrameValue F) (file : List ℕ) : Type 0 where
  pub capture : (frames : List FrameValue) → IsWhole f file frames → kind.Is file frames
  pub is_capture : (frames : List FrameValue) → kind.Is file frames → IsWhole f file frames
  pub fault : (fault : F) → HasFault f file fault → kind.Has file fault
  pub is_fault : (fault : F) → kind.Has file fault → HasFault f file fault

-- by a definition of captures, this is the longest beginning of a file that is one, and these are its frames
pub record IsLongest (Is : List ℕ → List FrameValue → Type 0) (file whole : List ℕ) (frames : List FrameValue) : Type 0 where
  pub rest : List ℕ
  pub file_is : file ≡ whole ++ rest
  pub is : Is whole frames
  pub longest : (longer more : List ℕ) (others : List FrameValue) → file ≡ longer ++ more → Is longer others → length longer ≤ length whole

-- The file ends within a unit, after these frames. Its first unit is whole, and its bytes up to the end of its last whole unit are a
-- capture: the longest that it begins with.
pub record IsTruncated {F : Type 0} (kind : Kind F) (file : List ℕ) (frames : List FrameValue) : Type 0 where
  pub fault : kind.Has file (kind.cut (number_of kind.longest (length frames)))
  pub whole : List ℕ
  pub front : IsLongest kind.Is file whole frames

-- where a file may be truncated: it ends within unit k, after these frames
abbrev pub IsCutAt : {F : Type 0} → Kind F → (truncated : Bool) → List ℕ → List FrameValue → ℕ → Type 0
IsCutAt kind false file frames k = ⊥
IsCutAt kind true file frames k = IsTruncated kind file frames × (k ≡ number_of kind.longest (length frames))

-- what a file says that may be truncated or not: it is a capture of these frames, or ends within unit k, after them
abbrev pub Says : {F : Type 0} → Kind F → (truncated : Bool) → List ℕ → List FrameValue → Option ℕ → Type 0
Says kind truncated file frames None = kind.Is file frames
Says kind truncated file frames (Some k) = IsCutAt kind truncated file frames k

-- why a file says nothing then: it has this fault, and is not truncated where it may be
abbrev pub Breaks : {F : Type 0} → Kind F → (truncated : Bool) → List ℕ → F → Type 0
Breaks kind truncated file fault = kind.Has file fault × ((frames : List FrameValue) (k : ℕ) → IsCutAt kind truncated file frames k → ⊥)

-- A file that ends within a unit is truncated, just where its first unit is whole, after the frames that its bytes give. Read as
-- truncated, each file says one thing, or has one fault.
pub record TruncatedCase {S F : Type 0} (kind : Kind F) (f : Format S FrameValue F) (HasBegun : List ℕ → Type 0) (file : List ℕ) : Type 0 where
  pub header : (k : ℕ) → kind.Has file (kind.cut k) → HasBegun file → (frames : List FrameValue) × IsTruncated kind file frames
      × (k ≡ number_of kind.longest (length frames))
  pub whole : (frames : List FrameValue) → IsTruncated kind file frames → HasBegun file
  pub given : (frames : List FrameValue) → IsTruncated kind file frames → AreGiven f file frames
  pub some : ((frames : List FrameValue) × (cut : Option ℕ) × Says kind true file frames cut) ⊎ ((fault : F) × Breaks kind true file fault)
  pub either : (frames : List FrameValue) (cut : Option ℕ) (fault : F) → Says kind true file frames cut → Breaks kind true file fault → ⊥
  pub one_frames : (a b : List FrameValue) (cut other : Option ℕ) → Says kind true file a cut → Says kind true file b other → a ≡ b
  pub one_cut : (a b : List FrameValue) (cut other : Option ℕ) → Says kind true file a cut → Says kind true file b other → cut ≡ other
  pub one_fault : (a b : F) → Breaks kind true file a → Breaks kind true file b → a ≡ b
