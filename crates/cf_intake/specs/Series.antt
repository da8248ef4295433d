-- Captures of packets, of any length, that are read one after another: their records, end to end.
use Rattle.std.specs.Prelude.{◌≡◌, ◌⊎◌, ℕ, suc, ◌-◌, ◌^◌, ◌≤◌, min, Bool, List, [], ◌∷◌, ◌++◌, length, map, take, slice_get, Option, Some, None, option_map, Result, Ok, Err, Vec}
use Rattle.std.specs.declared.alloc.Global.{Global}
use Rattle.cf_outside.specs.Files.{File}
use Rattle.cf_row.specs.declared.packet6.PacketSchema.{PacketSchema}
use Rattle.cf_pcap.specs.declared.limit.Length.TheVariants.{Any}
use Rattle.cf_row.specs.Row.{RowValue}
use Rattle.cf_intake.specs.Faults.{HasPacketFaultTo}
use Rattle.cf_intake.specs.Files.{HasFile, HasLeft}
use Rattle.cf_intake.specs.Reads.{AreRowsGiven, HaveRead, most_moved, numbered_on}
use Rattle.cf_intake.specs.Rows.{ArePacketsTo, CaptureValue}
use Rattle.cf_intake.specs.Several.{names_in}
use Rattle.cf_intake.specs.declared.reads.Reads.{Reads}
use Rattle.cf_intake.specs.declared.series.Series.{Series}
use Rattle.cf_intake.specs.declared.refusal.Halt.{Halt}
use Rattle.cf_intake.specs.declared.refusal.Halt.TheVariants.{Refused, Stopped}
use Rattle.cf_intake.specs.declared.refusal.Refusal.{Refusal}
use Rattle.cf_intake.specs.declared.refusal.Refusal.TheVariants.{NoFile, Capture}

-- how captures end that are read one after another: each was read to its end, or to a record within which it ends; or the one at that place,
-- the first being at place 1, is refused
pub data SeriesEnd : Type 0 where
  whole : (cuts : List (Option ℕ)) → SeriesEnd
  refused : (place : ℕ) (why : Refusal) → SeriesEnd

-- the same with a capture before them that ends so
abbrev pub behind : Option ℕ → SeriesEnd → SeriesEnd
behind cut (whole cuts) = whole (cut ∷ cuts)
behind cut (refused place why) = refused place why

-- the capture of that name says this, by a schema of packets, and may be truncated or not
pub record SaysPackets (schema : PacketSchema) (truncated : Bool) (told : Option (List File)) (name : List ℕ) (what : CaptureValue) : Type 0 where
  pub bytes : List ℕ
  pub file : HasFile told name (Some bytes)
  pub says : ArePacketsTo Any schema truncated bytes what.rows what.cut

-- it has this fault, behind these records
pub record BreaksPackets (schema : PacketSchema) (truncated : Bool) (told : Option (List File)) (name : List ℕ) (rows : List RowValue) (at code : ℕ)
    : Type 0 where
  pub bytes : List ℕ
  pub file : HasFile told name (Some bytes)
  pub given : AreRowsGiven schema bytes rows
  pub breaks : HasPacketFaultTo Any schema truncated bytes at code

-- The captures of these names, of which the first is at that place, have these records, end to end, each numbered as in its own capture, and
-- end so: the first that is missing or has a fault ends all, behind the records of those before it and its own before the fault.
abbrev pub AreEndToEnd : PacketSchema → (truncated : Bool) → Option (List File) → (place : ℕ) → List (List ℕ) → List RowValue → SeriesEnd → Type 0
AreEndToEnd schema truncated told place [] rows end = (rows ≡ []) × (end ≡ whole [])
AreEndToEnd schema truncated told place (name ∷ names) rows end =
    (HasFile told name None × (rows ≡ []) × (end ≡ refused place NoFile))
    ⊎ ((at : ℕ) × (code : ℕ) × BreaksPackets schema truncated told name rows at code × (end ≡ refused place (Capture at code)))
    ⊎ ((what : CaptureValue) × (more : List RowValue) × (after : SeriesEnd) × SaysPackets schema truncated told name what
    × AreEndToEnd schema truncated told (suc place) names more after × (rows ≡ what.rows ++ more) × (end ≡ behind what.cut after))

-- each of these captures says this
abbrev pub AllSayPackets : PacketSchema → (truncated : Bool) → Option (List File) → List (List ℕ) → List CaptureValue → Type 0
AllSayPackets schema truncated told [] [] = Unit {0}
AllSayPackets schema truncated told [] (what ∷ whats) = ⊥
AllSayPackets schema truncated told (name ∷ names) [] = ⊥
AllSayPackets schema truncated told (name ∷ names) (what ∷ whats) =
    SaysPackets schema truncated told name what × AllSayPackets schema truncated told names whats

-- the records of captures, end to end, and how each ends
abbrev pub rows_of_all : List CaptureValue → List RowValue
rows_of_all [] = []
rows_of_all (what ∷ whats) = what.rows ++ rows_of_all whats

abbrev pub cuts_of_all : List CaptureValue → List (Option ℕ)
cuts_of_all whats = map (λ what. what.cut) whats

-- the file of that name begins with these bytes, and the others are left
abbrev pub HasCome : Option (List File) → List ℕ → (bytes : List ℕ) → Option (List ℕ) → Type 0
HasCome told name bytes now = (left : List ℕ) × HasFile told name (Some (bytes ++ left)) × HasLeft told now (Some left)

-- the most bytes that one read of a series moves
abbrev pub most_in_series : ℕ
most_in_series = 262144

-- Of the capture of that name, which is open, these records came.
pub record IsInCapture (schema : PacketSchema) (told : Option (List File)) (name : List ℕ) (now : Option (List ℕ)) (reads : Reads) (rows : List RowValue)
    : Type 0 where
  pub kind : reads.schema ≡ schema
  pub size : most_moved reads ≡ most_in_series
  pub bytes : List ℕ
  pub have : HaveRead reads bytes rows
  pub come : HasCome told name bytes now

-- Of the capture that is next no record came, if it is not open yet.
abbrev pub IsAtCapture : PacketSchema → Option (List File) → Option (List ℕ) → Option (List ℕ) → Option Reads → List RowValue → Type 0
IsAtCapture schema told name now None rows = (rows ≡ []) × HasLeft told now (Some [])
IsAtCapture schema told None now (Some reads) rows = ⊥
IsAtCapture schema told (Some name) now (Some reads) rows = IsInCapture schema told name now reads rows

-- These records came: those of the captures before the one at hand, which were read to their ends, and of this.
pub record IsSeriesAt (series : Series) (told : Option (List File)) (now : Option (List ℕ)) (rows : List RowValue) : Type 0 where
  pub whats : List CaptureValue
  pub own : List RowValue
  pub said : AllSayPackets series.schema series.truncated told (take series.place (names_in series.names.now)) whats
  pub within : series.place ≤ length series.names.now
  pub at : IsAtCapture series.schema told (slice_get (names_in series.names.now) series.place) now series.reads own
  pub rows_are : rows ≡ rows_of_all whats ++ own
  pub cuts_are : series.cuts.items ≡ cuts_of_all whats
  pub count : series.count ≡ min (length rows) (2 ^ 64 - 1)

-- the same with the capture at hand, which is open
abbrev pub reading : Series → Reads → Series
reading series reads = record series { reads = Some reads }

-- the captures and how they are read are as they were
pub record KeepsSeries (old new : Series) : Type 0 where
  pub names : new.names.now ≡ old.names.now
  pub schema : new.schema ≡ old.schema
  pub truncated : new.truncated ≡ old.truncated

-- more records came, and this is how they are numbered
pub record SeriesGoesOn (new : Series) (told : Option (List File)) (now : Option (List ℕ)) (rows given : List RowValue) : Type 0 where
  pub more : List RowValue
  pub at : IsSeriesAt new told now (rows ++ more)
  pub given_are : given ≡ numbered_on (length rows) more

-- the capture of that name is not opened: there is none, and what is left stays, or the shelf failed, or memory ran out
abbrev pub IsUnopened : Option (List File) → List ℕ → Option (List ℕ) → Option (List ℕ) → Halt → Type 0
IsUnopened told name before now (Refused why) = HasFile told name None × HasLeft told now before × (why ≡ NoFile)
IsUnopened told name before now (Stopped stop) = Unit {0}

-- what was given, without where it lies in memory
abbrev pub result_rows : Result (Option (Vec RowValue Global)) Halt → Result (Option (List RowValue)) Halt
result_rows (Ok given) = Ok (option_map (λ rows. rows.items) given)
result_rows (Err halt) = Err halt

-- what the next step of the reading comes to, behind these records: all captures were read, or it goes on; or the capture at hand is refused
abbrev pub SeriesComesTo : Series → Option (List File) → Option (List ℕ) → List RowValue → Result (Option (List RowValue)) Halt → Type 0
SeriesComesTo new told now rows (Ok None) =
    AreEndToEnd new.schema new.truncated told 1 (names_in new.names.now) rows (whole new.cuts.items) × HasLeft told now (Some [])
SeriesComesTo new told now rows (Ok (Some given)) = SeriesGoesOn new told now rows given
SeriesComesTo new told now rows (Err (Refused why)) =
    AreEndToEnd new.schema new.truncated told 1 (names_in new.names.now) rows (refused (suc new.place) why) × HasLeft told now (Some [])
SeriesComesTo new told now rows (Err (Stopped stop)) = Unit {0}
