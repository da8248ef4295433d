-- What the devices in memory show.
use Rattle.std.specs.Prelude.{◌≡◌, ℕ, ◌==◌, [], Bool, ◌||◌, ◌&&◌, not, List, length}
use Rattle.std.specs.declared.option.Option.{Option}
use Rattle.std.specs.declared.option.Option.TheVariants.{Some, None}
use Rattle.cf_outside.specs.Files.{File}
use Rattle.cf_outside.specs.Script.{ScriptValue, fails_next, script_of}

-- `most` is the most bytes that a read moves
pub record MemShelfValue : Type 0 where
  pub files : List File
  pub rest : List ℕ
  pub most : ℕ
  pub script : ScriptValue

-- `room` is what is left of the sink's room, and `most` the most bytes that a write moves
pub record MemSinkValue : Type 0 where
  pub held : List ℕ
  pub room : ℕ
  pub most : ℕ
  pub script : ScriptValue

-- whether a write of that piece fails: its call is to fail, or there is a byte and no room
abbrev pub refuses : MemSinkValue → List ℕ → Bool
refuses sink piece = fails_next sink.script || ((sink.room == 0) && not (length piece == 0))

-- a sink of that room, before the first call
pub record IsFresh (room most : ℕ) (failing : List ℕ) (sink : MemSinkValue) : Type 0 where
  pub held : sink.held ≡ []
  pub room_is : sink.room ≡ room
  pub most_is : sink.most ≡ most
  pub script : sink.script ≡ script_of failing

-- a real device: its count of faults, and what the writer under it holds or the file under it has left, where that is
-- known
pub record EdgeValue : Type 0 where
  pub faults : ℕ
  pub known : Option (List ℕ)

-- what the opened file has left; nothing where none is open
abbrev pub left_of : {F : Type 0} → (F → Option (List ℕ)) → Option F → Option (List ℕ)
left_of remaining None = Some []
left_of remaining (Some file) = remaining file
