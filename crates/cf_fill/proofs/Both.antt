-- What was read while rows were taken.
use Rattle.std.proofs.Common.{refl, Bool, ◌≡◌, ◌^◌, ◌++◌, ℕ, List, Option, Result, Ok, Err, OnErr, IfOk, Vec, sym, subst}
use Rattle.std.specs.declared.alloc.Global.{Global}
use Rattle.cf_row.specs.Row.{RowValue}
use Rattle.cf_row.specs.declared.packet6.PacketSchema.{PacketSchema}
use Rattle.cf_fill.specs.Taking.{GivesBoth}
use Rattle.cf_intake.specs.Devices.{TakesAtMost}
use Rattle.cf_intake.specs.Reading.{IsReadOn, ReadsOn, StopsOn, TakesPackets}
use Rattle.cf_intake.specs.Rows.{CaptureValue}
use Rattle.cf_intake.specs.declared.pieces.Pieces.{Pieces}
use Rattle.cf_intake.specs.declared.refusal.Halt.{Halt}
use Rattle.cf_intake.specs.declared.refusal.Halt.TheVariants.{Stopped}
use Rattle.cf_intake.specs.declared.refusal.Stop.{Stop}
use Rattle.cf_intake.specs.declared.refusal.Stop.TheVariants as stops
use Rattle.cf_intake.proofs.Piecewise.{stopped_on}

module _ {A B E : Type 0} where
  pub given_ok : (taken : Result A E) (given : Result B Stop) (rows : B) → GivesBoth taken given (Ok rows) → given ≡ Ok rows
  given_ok taken (Err stop) rows both = absurd (cc both)
  given_ok (Err error) (Ok these) rows both = absurd (cc both)
  given_ok (Ok done) (Ok these) rows both = cc both

  pub taken_ok : (taken : Result A E) (given : Result B Stop) (rows : B) → GivesBoth taken given (Ok rows) → (done : A) × (taken ≡ Ok done)
  taken_ok (Ok done) given rows both = (done, refl)
  taken_ok (Err error) (Err stop) rows both = absurd (cc both)
  taken_ok (Err error) (Ok these) rows both = absurd (cc both)

  -- a fault of the shelf is that of the reading
  pub given_failed : (taken : Result A E) (given : Result B Stop) → GivesBoth taken given (Err (Stopped stops.ReadFault)) → given ≡ Err stops.ReadFault
  given_failed taken (Err stop) both = cc both
  given_failed (Err error) (Ok these) both = absurd (cc both)
  given_failed (Ok done) (Ok these) both = absurd (cc both)

  -- either error stops the work
  pub stops_both : (schema : PacketSchema) (truncated : Bool) (Took : Option ℕ → CaptureValue → Type 0) (before now : Option (List ℕ))
      (taken : Result A E) (given : Result B Stop) (halt : Halt) → GivesBoth taken given (Err halt) → OnErr given (TakesAtMost before now (2 ^ 32))
      → IfOk given (λ _. TakesAtMost before now (2 ^ 32)) → TakesPackets schema truncated Took before now (Err halt)
  stops_both schema truncated Took before now taken (Err stop) halt both stopped read =
      let same : halt ≡ Stopped stop = cc both in
      subst (λ (h : Halt). TakesPackets schema truncated Took before now (Err h)) (sym same) stopped
  stops_both schema truncated Took before now (Err error) (Ok these) halt both stopped read =
      let same : halt ≡ Stopped stops.Memory = cc both in
      subst (λ (h : Halt). TakesPackets schema truncated Took before now (Err h)) (sym same) read
  stops_both schema truncated Took before now (Ok done) (Ok these) halt both stopped read = absurd (cc both)

-- Of a capture of which pieces were read, some of the file was taken, whatever reading on answers.
module _ (old new : Pieces) (before mid now : Option (List ℕ)) (rows : List RowValue) (is : IsReadOn old before mid rows) where
  pub took_stopped : (given : Result (Vec RowValue Global) Stop) → OnErr given (StopsOn old mid now) → OnErr given (TakesAtMost before now (2 ^ 32))
  took_stopped (Ok these) stops = tt
  took_stopped (Err stop) stops = stops before rows is

  pub took_read : (given : Result (Vec RowValue Global) Stop) → IfOk given (λ these. ReadsOn old new mid now these.items)
      → IfOk given (λ _. TakesAtMost before now (2 ^ 32))
  took_read (Ok these) reads = stopped_on new before now (rows ++ these.items) (reads before rows is)
  took_read (Err stop) reads = tt
