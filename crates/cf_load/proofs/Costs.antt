-- What questions cost in logs that stand one behind the other.
use Rattle.std.proofs.Common.{◌≡◌, ◌<◌, ◌≤◌, ◌+◌, ℕ, List, length, take, get_or, set, ap, ap₂, ◌∙◌, arith}
use Rattle.std.proofs.lemmas.List.{take_more}
use Rattle.std.proofs.lemmas.List.Sums.{sum_by_push, sum_by-set}
use Rattle.std.specs.List.{sum_by}
use Rattle.cf_row.specs.declared.row.Entry.{Entry}
use Rattle.cf_shape.specs.Lanes.{ShapeValue}
use Rattle.cf_plain.specs.Asks.{rows_in}
use Rattle.cf_plain.specs.Segments.{body_of, finding_in}
use Rattle.cf_plain.specs.declared.answer.Body.{Body}
use Rattle.cf_plain.specs.declared.ask.Ask.{Ask}
use Rattle.cf_plain.specs.declared.finding.Finding.{Finding}
use Rattle.cf_plain.proofs.Joined.{findings_tell}
use Rattle.cf_query.specs.Walking.{lane_of, steps_of_one}
use Rattle.cf_table.specs.Loads.{CountsLoads}
use Rattle.cf_table.specs.Values.{PassValue}
use Rattle.cf_load.specs.Costs.{CountLoads, key_steps, loads_of}

-- what a question costs that found that in so many entries
pub key_cost : (shape : ShapeValue) (ask : Ask) (seen : List Entry) (finding : Finding) (count : ℕ) → finding ≡ finding_in shape ask (rows_in seen)
    → count ≡ length seen → steps_of_one shape (lane_of ask) (body_of ask finding) count ≡ key_steps shape ask seen
key_cost shape ask seen finding count is long =
    ap₂ (λ (b : Body) (n : ℕ). steps_of_one shape (lane_of ask) b n) (ap (body_of ask) is ∙ findings_tell shape ask (rows_in seen)) long

-- one more pass was asked
pub costs_more : (f : PassValue → ℕ) (ps : List PassValue) (i n a b k : ℕ) (d : PassValue) → i < length ps → a + i ≤ n + sum_by f (take i ps) → b + 1 ≤ a + k
    → k ≡ f (get_or ps i d) → b + (i + 1) ≤ n + sum_by f (take (i + 1) ps)
costs_more f ps i n a b k d low before one is =
    let sum = sum_by_push f (take i ps) (get_or ps i d) in
    let all = ap (sum_by f) (take_more ps i d low) in
    omega (arith, before, one, is, sum, all)

-- no word was loaded beside the steps of one more
pub loads_more : (ps qs : List PassValue) (i : ℕ) (d z : PassValue) (n a b : ℕ) → i < length qs → CountLoads ps qs n a
    → CountsLoads (get_or qs i d) z a b → CountLoads ps (set qs i z) n b
loads_more ps qs i d z n a b low before one = (let sum = sum_by-set loads_of qs i z d low in omega (arith, before, one, sum))
