use Rattle.std.proofs.Common.{ℕ, Result, subst, sym}
use Rattle.cf_setup.specs.Setups.{SetupValue}
use Rattle.cf_setup.specs.Reading.{setup_at, Answers}
use Rattle.cf_setup.proofs.SetupReads.{setup_only}
use Rattle.cf_setup.proofs.parse.parse_setup.Goals as goal

pub returns-clause-found : goal.returns-clause-found
returns-clause-found c = let law = setup_only c.args.bytes.now in (setup_at c.args.bytes.now, law.holds, c.read_setup.ensures)

pub returns-clause-only : goal.returns-clause-only
returns-clause-only c = λ read h.
    let law = setup_only c.args.bytes.now in
    subst (λ (r : Result SetupValue (ℕ × ℕ)). Answers c.read_setup.result r) (sym (law.only read h)) c.read_setup.ensures
