-- A gate that holds threads.
use Rattle.std.specs.Prelude.{ℕ}
use Rattle.cf_outside.specs.declared.hold_gate.HoldGate.{HoldGate}

-- how many turns a wait takes at most before it gives up
abbrev pub most_turns : HoldGate → ℕ
most_turns gate = gate.most_turns
