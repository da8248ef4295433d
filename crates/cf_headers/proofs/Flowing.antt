-- The flow of a packet back, and how large a flow is.
use Rattle.std.proofs.Common.{◌≡◌, ℕ, ◌^◌, ◌<◌, Bool, false, List, [], ◌∷◌, ◌++◌, if◌then◌else◌, refl, sym, ap, ◌∙◌, subst, arith, append_assoc}
use Rattle.std.specs.List.{fold}
use Rattle.std.specs.Cmp.Lexicographic.{slice_cmp}
use Rattle.std.specs.declared.cmp.Ordering.{Ordering}
use Rattle.std.specs.declared.cmp.Ordering.TheVariants.{Less, Equal, Greater}
use Rattle.std.specs.Ordering.{nat_cmp, is_gt, ordering_reverse}
use Rattle.std.proofs.lemmas.Cmp.{nat_list_cmp_total}
use Rattle.std.proofs.lemmas.List.Sums.{fold-append}
use Rattle.std.proofs.lemmas.Map.Lookups.{exact_bytes}
use Rattle.cf_headers.specs.Flow.{fnv_step, fnv, lesser, greater, flow_of, HasOneFlow}

abbrev pair_by : Bool → List ℕ → List ℕ → ℕ → List ℕ
pair_by above a b protocol = (if above then b else a) ++ ((if above then a else b) ++ (protocol ∷ []))

same_pair : (o : Ordering) (a b : List ℕ) (protocol : ℕ) → slice_cmp nat_cmp b a ≡ o
    → pair_by (is_gt (ordering_reverse o)) a b protocol ≡ pair_by (is_gt o) b a protocol
same_pair Less a b protocol is = refl
same_pair Equal a b protocol is = subst (λ (xs : List ℕ). pair_by false a xs protocol ≡ pair_by false xs a protocol) (sym (exact_bytes b a is)) refl
same_pair Greater a b protocol is = refl

pub one_flow : HasOneFlow
unfolding flow_of
one_flow a b protocol =
    ap (λ (o : Ordering). fnv (pair_by (is_gt o) a b protocol)) (nat_list_cmp_total.antisymm a b)
    ∙ ap fnv (same_pair (slice_cmp nat_cmp b a) a b protocol refl)

step_low : (hash byte : ℕ) → fnv_step hash byte < 2 ^ 64
step_low hash byte = omega arith

last_low : (bytes : List ℕ) (byte : ℕ) → fnv (bytes ++ (byte ∷ [])) < 2 ^ 64
unfolding fnv
last_low bytes byte = rw (fold-append fnv_step 0xcbf29ce484222325 bytes (byte ∷ [])) (step_low (fold fnv_step 0xcbf29ce484222325 bytes) byte)

pub flow_low : (a b : List ℕ) (protocol : ℕ) → flow_of a b protocol < 2 ^ 64
unfolding flow_of
flow_low a b protocol = rw (← append_assoc (lesser a b) (greater a b) (protocol ∷ [])) (last_low (lesser a b ++ greater a b) protocol)
