-- A call that is made again after each interruption does to known bytes what its last try does.
use Rattle.std.proofs.Common.{◌≡◌, ℕ, List, Result, Ok, Err, Some, Option, subst, sym}
use Rattle.std.proofs.KnownBytes.{Keeps-trans}
use Rattle.std.specs.Io.KnownBytes.{Appends, Consumes, Keeps, ReadConsumes, WriteAppends}
use Rattle.std.specs.declared.io.Error.{Error}
use Rattle.std.specs.declared.option.Option.TheVariants.{None}
use Rattle.cf_outside.specs.declared.shelf.Failed.{Failed}
use Rattle.cf_outside.specs.Tries.{Settles}

consumes_after : (before mid now : Option (List ℕ)) (bs : List ℕ) → Keeps before mid → Consumes mid now bs → Consumes before now bs
consumes_after None mid now bs kept consumes = tt
consumes_after (Some xs) None now bs kept consumes = absurd kept
consumes_after (Some xs) (Some ys) None bs kept consumes = absurd consumes
consumes_after (Some xs) (Some ys) (Some zs) bs kept consumes = cc (kept, consumes)

appends_after : (before mid now : Option (List ℕ)) (bs : List ℕ) → Keeps before mid → Appends mid now bs → Appends before now bs
appends_after None mid now bs kept appends = tt
appends_after (Some xs) None now bs kept appends = absurd kept
appends_after (Some xs) (Some ys) None bs kept appends = absurd appends
appends_after (Some xs) (Some ys) (Some zs) bs kept appends = cc (kept, appends)

pub read_settled : (before mid now : Option (List ℕ)) (tried : Result ℕ Error) (outcome : Result ℕ Failed) (buf : List ℕ) → Keeps before mid
    → ReadConsumes mid now tried buf → Settles tried (Some outcome) → ReadConsumes before now outcome buf
read_settled before mid now (Ok n) outcome buf kept read settled =
    let same : outcome ≡ Ok n = cc settled in
    subst (λ (r : Result ℕ Failed). ReadConsumes before now r buf) (sym same) (consumes_after before mid now _ kept read.0, read.1)
read_settled before mid now (Err e) (Ok n) buf kept read settled = absurd settled
read_settled before mid now (Err e) (Err failed) buf kept read settled = Keeps-trans before mid now kept read

pub write_settled : (before mid now : Option (List ℕ)) (tried : Result ℕ Error) (outcome : Result ℕ Failed) (piece : List ℕ) → Keeps before mid
    → WriteAppends mid now tried piece → Settles tried (Some outcome) → WriteAppends before now outcome piece
write_settled before mid now (Ok n) outcome piece kept wrote settled =
    let same : outcome ≡ Ok n = cc settled in
    subst (λ (r : Result ℕ Failed). WriteAppends before now r piece) (sym same) (appends_after before mid now _ kept wrote)
write_settled before mid now (Err e) (Ok n) piece kept wrote settled = absurd settled
write_settled before mid now (Err e) (Err failed) piece kept wrote settled = Keeps-trans before mid now kept wrote

-- one that was interrupted changed nothing
pub read_again : (before mid now : Option (List ℕ)) (tried : Result ℕ Error) (buf : List ℕ) → Keeps before mid → ReadConsumes mid now tried buf
    → Settles tried None → Keeps before now
read_again before mid now (Ok n) buf kept read settled = cc settled
read_again before mid now (Err e) buf kept read settled = Keeps-trans before mid now kept read

pub write_again : (before mid now : Option (List ℕ)) (tried : Result ℕ Error) (piece : List ℕ) → Keeps before mid → WriteAppends mid now tried piece
    → Settles tried None → Keeps before now
write_again before mid now (Ok n) piece kept wrote settled = cc settled
write_again before mid now (Err e) piece kept wrote settled = Keeps-trans before mid now kept wrote
