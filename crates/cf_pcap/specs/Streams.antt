-- What a reader of a format gives and answers over a stream, however it is cut.
use Rattle.std.specs.Prelude.{◌≡◌, ℕ, ◌+◌, ◌-◌, ◌^◌, ◌<◌, ◌≤◌, List, [], ◌++◌, length, take, Result, MatchResult, ◌*◌}
use Rattle.cf_pcap.specs.declared.limit.Length.{Length}
use Rattle.cf_pcap.specs.declared.limit.Length.TheVariants.{Limited, Any}
use Rattle.cf_pcap.specs.Limits.{IsShort, count_on, number_of}
use Rattle.cf_pcap.specs.Format.{Wants, Bad, Takes, Format, ReadsTo, IsWhole, IsFound, HasFault}

-- What makes a format one that can be read as a stream: no bytes show nothing; what the bytes at the front show stays when more
-- bytes follow, and a unit that they only begin is longer; a unit gives one item at most, and has 16 bytes then; and the items are
-- counted.
pub record IsStepper {S I F : Type 0} (f : Format S I F) : Type 0 where
  pub none : f.count f.start ≡ 0
  pub nothing : (s : S) → f.step s [] ≡ Wants
  pub bad_stays : (s : S) (bytes more : List ℕ) (fault : F) → f.step s bytes ≡ Bad fault → f.step s (bytes ++ more) ≡ Bad fault
  pub takes_stays : (s : S) (bytes more : List ℕ) (n : ℕ) (items : List I) (t : S) → f.step s bytes ≡ Takes n items t
      → f.step s (bytes ++ more) ≡ Takes n items t
  pub size : (s : S) (bytes : List ℕ) (n : ℕ) (items : List I) (t : S) → f.step s bytes ≡ Takes n items t → (0 < n) × (n ≤ length bytes)
  pub late : (s : S) (bytes more : List ℕ) (n : ℕ) (items : List I) (t : S) → f.step s bytes ≡ Wants → f.step s (bytes ++ more) ≡ Takes n items t
      → length bytes < n
  pub one : (s : S) (bytes : List ℕ) (n : ℕ) (items : List I) (t : S) → f.step s bytes ≡ Takes n items t → length items ≤ 1
  pub few : (s : S) (bytes : List ℕ) (n : ℕ) (items : List I) (t : S) → f.step s bytes ≡ Takes n items t → 16 * length items ≤ n
  pub counts : (s : S) (bytes : List ℕ) (n : ℕ) (items : List I) (t : S) → f.step s bytes ≡ Takes n items t
      → f.count t ≡ count_on f.length (f.count s) (length items)

-- the bytes of a stream that come early enough for an item: the byte that makes a limited one 2^32 bytes long comes with a fault
unfoldable pub early : Length → List ℕ → List ℕ
early Limited stream = take (2 ^ 32 - 1) stream
early Any stream = stream

-- the items whose last byte lies in the stream and before any fault
pub record AreGiven {S I F : Type 0} (f : Format S I F) (stream : List ℕ) (items : List I) : Type 0 where
  pub last : S
  pub rest : List ℕ
  pub read : ReadsTo f f.start (early f.length stream) items last rest
  pub none : (n : ℕ) (more : List I) (t : S) → f.step last rest ≡ Takes n more t → ⊥

-- a reader that no fault has stopped: the units of the stream led to this state, and the rest is only the begin of one
pub record Runs {S I F : Type 0} (f : Format S I F) (s : S) (rest stream : List ℕ) : Type 0 where
  pub size : IsShort f.length (length stream)
  pub items : List I
  pub read : ReadsTo f f.start stream items s rest
  pub part : f.step s rest ≡ Wants

-- What a call that takes one more piece gives and answers; `State` tells the state of the reader after it. Each item needs the last
-- byte of its unit in this piece, and only the first of the units can have begun before it.
pub record IsFed {S I F : Type 0} (f : Format S I F) (stream piece : List ℕ) (given : List I) (answer : Result (Unit {0}) F)
    (State : List ℕ → Type 0) : Type 0 where
  pub before : List I
  pub given_before : AreGiven f stream before
  pub given_now : AreGiven f (stream ++ piece) (before ++ given)
  pub few : 16 * length given ≤ length piece + 15
  pub answer_is : MatchResult answer (λ _. (fault : F) → IsFound f (stream ++ piece) fault → ⊥) (IsFound f (stream ++ piece))
  pub state : State (stream ++ piece)

-- what the end of the stream answers: the number of a whole file's items, or the fault
abbrev pub IsEnded : {S I F : Type 0} → Format S I F → List ℕ → Result ℕ F → Type 0
IsEnded {S} {I} f stream answer =
    MatchResult answer (λ count. (items : List I) × IsWhole f stream items × (count ≡ number_of f.length (length items))) (HasFault f stream)

-- a stream gives one list of items
pub record OneGift {S I F : Type 0} (f : Format S I F) (stream : List ℕ) : Type 0 where
  pub some : (items : List I) × AreGiven f stream items
  pub one : (a b : List I) → AreGiven f stream a → AreGiven f stream b → a ≡ b
