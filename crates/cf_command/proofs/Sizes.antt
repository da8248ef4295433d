-- The sizes of the log that a command line calls for.
use Rattle.std.proofs.Common.{◌≡◌, ℕ, ◌≤◌, ◌&&◌, Bool, true, false, List, Option, Some, None, refl, subst}
use Rattle.std.specs.Prelude.{nat_le, decimal, if◌then◌else◌}
use Rattle.std.specs.Str.{bytes_eq}
use Rattle.std.specs.Str.Parse.{digits_value}
use Rattle.std.proofs.lemmas.Bool.{and_parts, leb-true}
use Rattle.cf_command.specs.declared.words.LogSizes.{LogSizes}
use Rattle.cf_command.specs.declared.words.WindowSizes.{WindowSizes}
use Rattle.cf_command.specs.Call.{AreSizes, AreWindowSizes, number_in}

from_true : (b : Bool) (d n : ℕ) → (if b then Some d else None) ≡ Some n → (b ≡ true) × (d ≡ n)
from_true true d n e = (refl, cc e)
from_true false d n e = absurd (cc e)

in_range : (low high n : ℕ) (text : List ℕ) → number_in low high text ≡ Some n → (low ≤ n) × (n ≤ high)
unfolding number_in
in_range low high n text e =
    let d = digits_value 10 text in
    let found = from_true (bytes_eq text (decimal d) && (nat_le low d && nat_le d high)) d n e in
    let parts = and_parts (bytes_eq text (decimal d)) (nat_le low d && nat_le d high) found.0 in
    let within = and_parts (nat_le low d) (nat_le d high) parts.1 in
    subst (λ (m : ℕ). (low ≤ m) × (m ≤ high)) found.1 (leb-true low d within.0, leb-true d high within.1)

-- of sizes that texts write out, where they do
abbrev Right : Option LogSizes → Type 0
Right None = Unit {0}
Right (Some sizes) = AreSizes sizes

right : (found : Option LogSizes) (sizes : LogSizes) → Right found → found ≡ Some sizes → AreSizes sizes
right found sizes are is = subst Right is are

-- of a window
abbrev IsWide : Option WindowSizes → Type 0
IsWide None = Unit {0}
IsWide (Some sizes) = AreWindowSizes sizes

wide : (found : Option WindowSizes) (sizes : WindowSizes) → IsWide found → found ≡ Some sizes → AreWindowSizes sizes
wide found sizes are is = subst IsWide is are
