use Rattle.std.proofs.Common.{◌∙◌, ◌++◌, ◌-◌, List, ℕ, replicate, refl, ap₂, rules}
use Rattle.cf_row.specs.declared.schema.TheConstants.{MOST_ATTRS}
use Rattle.cf_headers.proofs.Spelled.{two_put}
use Rattle.cf_headers.proofs.packet.words_before.Goals as goal

pub returns : goal.returns
returns c =
    two_put 20 (MOST_ATTRS - 20) c.copy_from_slice.new.self c.copy_from_slice-2.new.self (replicate (MOST_ATTRS - 20) 0) (search rules) refl
    ∙ ap₂ (λ (us vs : List ℕ). us ++ vs) c.copy_from_slice.ensures.after c.copy_from_slice-2.ensures.after
