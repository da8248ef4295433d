-- What the parts of reading answer.
use Rattle.std.specs.Prelude.{◌≡◌, ℕ, false, List, All, map, take, Option, None}
use Rattle.cf_outside.specs.Files.{File}
use Rattle.cf_row.specs.Row.{Fits, RowValue}
use Rattle.cf_row.specs.declared.schema.Attr.{Attr}
use Rattle.cf_row.specs.declared.packet6.PacketSchema.{PacketSchema}
use Rattle.cf_row.specs.Schema6.{attrs_by}
use Rattle.cf_setup.specs.declared.source.Source.{Source}
use Rattle.cf_setup.specs.declared.source.Source.TheVariants as sources
use Rattle.cf_setup.specs.Setups.{SetupValue, IsSetup}
use Rattle.cf_intake.specs.declared.refusal.Halt.{Halt}
use Rattle.cf_intake.specs.declared.refusal.Halt.TheVariants.{Refused, Stopped}
use Rattle.cf_intake.specs.declared.refusal.Refusal.TheVariants.{Capture}
use Rattle.cf_intake.specs.declared.refusal.Stop.TheVariants.{ReadFault, Memory}
use Rattle.cf_intake.specs.Files.{Grammar, IsReadAs, captures}
use Rattle.cf_intake.specs.Several.{AreReadAs}
use Rattle.cf_intake.specs.Rows.{CaptureValue}
use Rattle.cf_intake.specs.declared.rows.Captured.{Captured}
use Rattle.cf_intake.specs.declared.rows.Format.{Format}
use Rattle.cf_intake.specs.declared.rows.Manner.{Manner}
use Rattle.cf_intake.specs.declared.rows.Format.TheVariants.{Packets, Records}

-- a lawful setup; one over packets has the attributes of its schema
pub record IsSetupRead (setup : SetupValue) : Type 0 where
  pub lawful : IsSetup setup
  pub schema : (which : PacketSchema) → setup.source ≡ sources.Packets which → setup.schema ≡ attrs_by which

-- what a format is read from
abbrev pub source_in : Format → Source
source_in (Packets which) = sources.Packets which
source_in (Records schema) = sources.Records

-- the attributes of a format's rows
abbrev pub attrs_in : Format → List Attr
attrs_in (Packets which) = attrs_by which
attrs_in (Records schema) = schema.now

-- the grammar of captures that are read so
abbrev pub captures_by : Manner → Grammar CaptureValue
captures_by manner = captures (source_in manner.format) manner.truncated (attrs_in manner.format)

-- the rows of each host, without where they lie in memory
abbrev pub rows_each : List Captured → List (List RowValue)
rows_each hosts = map (λ host. host.rows.items) hosts

-- what was read of a capture
abbrev pub captured : Captured → CaptureValue
captured host = record { rows = host.rows.items; cut = host.cut }

abbrev pub captured_each : List Captured → List CaptureValue
captured_each hosts = map captured hosts

-- what is kept of what a capture says: its first rows, so many at most, and its end
abbrev pub first_of : ℕ → CaptureValue → CaptureValue
first_of most what = record { rows = take most what.rows; cut = what.cut }

-- the capture of that name was read to its end, and this is kept of it
pub record IsFirstOf (g : Grammar CaptureValue) (told : Option (List File)) (name : List ℕ) (now : Option (List ℕ)) (most : ℕ) (kept : CaptureValue)
    : Type 0 where
  pub what : CaptureValue
  pub read : IsReadAs g told name now what
  pub kept_is : kept ≡ first_of most what

-- the captures of these names were read to their ends, after another file that was, and this is kept of each
pub record AreFirstOf (g : Grammar CaptureValue) (told : Option (List File)) (names : List (List ℕ)) (now : Option (List ℕ)) (most : ℕ)
    (kept : List CaptureValue) : Type 0 where
  pub whats : List CaptureValue
  pub read : AreReadAs g told names now whats
  pub kept_are : kept ≡ map (first_of most) whats

-- the file of records of that name was read to its end, and these are the first of its rows, so many at most
pub record HasFirst (attrs : List Attr) (told : Option (List File)) (name : List ℕ) (now : Option (List ℕ)) (most : ℕ) (first : List RowValue) : Type 0 where
  pub rows : List RowValue
  pub read : IsReadAs (captures sources.Records false attrs) told name now (record { rows = rows; cut = None })
  pub fit : All (Fits attrs) rows
  pub first_are : first ≡ take most rows

-- why bytes are refused
abbrev pub IsBad : (ℕ → ℕ → Type 0) → Halt → Type 0
IsBad Breaks (Refused why) = (at : ℕ) × (code : ℕ) × (why ≡ Capture at code) × Breaks at code
IsBad Breaks (Stopped ReadFault) = ⊥
IsBad Breaks (Stopped Memory) = Unit {0}
