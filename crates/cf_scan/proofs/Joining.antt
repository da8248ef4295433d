-- Parts that are joined, and a log that is cut into parts.
use Rattle.std.proofs.Common.{◌≡◌, ◌∙◌, ◌+◌, ◌-◌, ◌*◌, ◌<◌, ◌≤◌, ◌^◌, ℕ, suc, List, [], ◌∷◌, ◌++◌, length, map, take, drop, get_or, min, inl, inr, Option, Some, Ok, Err, slice_get, refl, sym, ap, ap₂, subst, arith}
use Rattle.std.specs.List.{flat_map}
use Rattle.std.specs.Option.{IfSome, option_map}
use Rattle.std.specs.Result.{IfOk, result_ok}
use Rattle.std.specs.declared.alloc.AllocError.{AllocError}
use Rattle.std.specs.declared.result.Result.{Result}
use Rattle.std.proofs.lemmas.List.{flat_map_more, length-map, length-take, map-append, take_all, take_more}
use Rattle.std.proofs.Math.Seq.{take-add}
use Rattle.std.proofs.lemmas.Bool.{cases_lt}
use Rattle.cf_row.specs.declared.row.Entry.{Entry}
use Rattle.cf_shape.specs.Lanes.{ShapeValue}
use Rattle.cf_plain.specs.Asks.{rows_in}
use Rattle.cf_plain.specs.Segments.{CanJoin, finding_in, joined}
use Rattle.cf_plain.specs.declared.ask.Ask.{Ask}
use Rattle.cf_plain.specs.declared.finding.Finding.{Finding}
use Rattle.cf_plain.proofs.Joined.{findings_can_join, findings_join}
use Rattle.cf_query.specs.Stretches.{IsStretch, stretch}
use Rattle.cf_scan.specs.Parts.{behind}
use denote.Ref.{Bor}
use Rattle.cf_table.specs.Moves.{IsReading}
use Rattle.cf_table.specs.Values.{IsOf, LogValue, PassValue}
use Rattle.std.proofs.lemmas.Option.{slice_get-map, slice_get_read, slice_get_within}

-- lists of which each element has the same in it
pub same_flat : {X Y : Type 0} (f : X → List Y) (xs ys : List X) → length ys ≡ length xs
    → ((i : ℕ) (d : X) → i < length xs → f (get_or ys i d) ≡ f (get_or xs i d)) → flat_map f ys ≡ flat_map f xs
same_flat f [] [] long each = refl
same_flat f [] (y ∷ ys) long each = absurd (omega (arith, long))
same_flat f (x ∷ xs) [] long each = absurd (omega (arith, long))
same_flat f (x ∷ xs) (y ∷ ys) long each =
    ap₂ (λ (a b : List _). a ++ b) (each 0 x (omega arith)) (same_flat f xs ys (omega (arith, long)) (λ i d lt. each (suc i) d (omega (arith, lt))))

-- What was found in some entries is joined with what is found in those behind them.
module _ (shape : ShapeValue) (ask : Ask) (entries more : List Entry) (count : ℕ) (finding : Finding) (count_is : count ≡ length entries)
    (finding_is : finding ≡ finding_in shape ask (rows_in entries)) where
  long : length (rows_in entries) ≡ count
  long = length-map entries (λ (e : Entry). e.row) ∙ sym count_is

  pub found_can : (other : Finding) → other ≡ finding_in shape ask (rows_in more) → count + length more ≤ 2 ^ 20 → CanJoin count finding other
  found_can other is few =
      rw (finding_is, is)
      (subst (λ (n : ℕ). CanJoin n (finding_in shape ask (rows_in entries)) (finding_in shape ask (rows_in more))) long
      (findings_can_join shape ask (rows_in entries) (rows_in more)
      (let behind = length-map more (λ (e : Entry). e.row) in let front = long in omega (arith, few, front, behind))))

  pub found_both : (other both : Finding) → other ≡ finding_in shape ask (rows_in more) → both ≡ joined count finding other
      → both ≡ finding_in shape ask (rows_in (entries ++ more))
  found_both other both is made =
      made ∙ (ap₂ (λ (f g : Finding). joined count f g) finding_is is
      ∙ (ap (λ (n : ℕ). joined n (finding_in shape ask (rows_in entries)) (finding_in shape ask (rows_in more))) (sym long)
      ∙ (findings_join shape ask (rows_in entries) (rows_in more) ∙ ap (finding_in shape ask) (sym (map-append (λ (e : Entry). e.row) entries more)))))

-- how many entries a part has
pub part_long : (from to : ℕ) (seen : List Entry) → IsStretch from to seen → length (stretch from to seen) ≡ to - from
part_long from to seen is =
    omega (arith, length-take (to - from) (drop from seen), Rattle.std.proofs.lemmas.List.length-drop from seen, is.ends, is.within)

-- a stretch behind what comes before it
stretch_next : (from to : ℕ) (seen : List Entry) → from ≤ to → take from seen ++ stretch from to seen ≡ take to seen
stretch_next from to seen ends =
    let there : from + (to - from) ≡ to = omega (arith, ends) in
    sym (take-add from (to - from) seen) ∙ ap (λ (n : ℕ). take n seen) there

-- one part more of a log
pub cut_next : (k covered : ℕ) (seen : List Entry) → covered ≡ length seen → 4096 * k ≤ covered
    → take (4096 * k) seen ++ stretch (4096 * k) (min covered (4096 * k + 4096)) seen ≡ take (4096 * (k + 1)) seen
cut_next k covered seen all low =
    let to = min covered (4096 * k + 4096) in
    stretch_next (4096 * k) to seen (omega (arith, low))
    ∙ elim (cases_lt covered (4096 * k + 4096)) [
      | inl last ↦ take_all to seen (omega (arith, all, last)) ∙ sym (take_all (4096 * (k + 1)) seen (omega (arith, all, last)))
      | inr more ↦ ap (λ (n : ℕ). take n seen) (let e : to ≡ 4096 * (k + 1) = omega (arith, more) in e)
    ]

-- what holds of a finding, if there is one, holds of that which there is
pub found_some : (found : Option Finding) (one : Finding) (P : Finding → Type 0) → IfSome found P → found ≡ Some one → P one
found_some found one P holds is = subst (λ (f : Option Finding). IfSome f P) is holds

-- the log that stands at the place of a part
pub log_at : (logs : List (Bor LogValue)) (place : ℕ) (one : Bor LogValue) (log : LogValue) → slice_get (map behind logs) place ≡ Some log
    → place < length logs → one ≡ get_or logs place one → one.now ≡ log
log_at logs place one log at lt is =
    let there : slice_get logs place ≡ Some one = slice_get_read logs (length logs) place one refl lt is in
    let both : Some one.now ≡ Some log = sym (slice_get-map behind logs place ∙ ap (option_map behind) there) ∙ at in
    cc both

-- the place of a part is one of the logs'
pub place_low : (logs : List (Bor LogValue)) (place : ℕ) (log : LogValue) → slice_get (map behind logs) place ≡ Some log → place < length logs
place_low logs place log at = (let long = length-map logs behind in let low = slice_get_within (map behind logs) place log at in omega (arith, long, low))

-- a pass that was forked off another reads the log
pub reads_fork : (log : LogValue) (m r : PassValue) → IsReading log m → IsOf r log → (r.view).seen ≡ (m.view).seen → IsReading log r
reads_fork log m r reads of seen = record {
  of = of;
  few = subst (λ (es : List Entry). length es ≤ log.shape.capacity) (sym seen) reads.few;
  fit = λ o e at. reads.fit o e (ap (λ (es : List Entry). slice_get es o) (sym seen) ∙ at);
}

-- what holds of a finding that was made holds of it as a finding that may be missing
pub found_ok : (made : Result Finding AllocError) (found : Option Finding) (P Q : Finding → Type 0) → IfOk made P → found ≡ result_ok made
    → ((one : Finding) → P one → Q one) → IfSome found Q
found_ok (Ok one) found P Q holds is then = subst (λ (f : Option Finding). IfSome f Q) (sym is) (then one holds)
found_ok (Err fault) found P Q holds is then = subst (λ (f : Option Finding). IfSome f Q) (sym is) tt
