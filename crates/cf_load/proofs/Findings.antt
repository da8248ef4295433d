-- What questions find in logs that stand one behind the other.
use Rattle.std.proofs.Common.{◌≡◌, ◌≤◌, ◌+◌, ◌^◌, ℕ, List, ◌++◌, length, take, sym, ap, ap₂, subst, ◌∙◌, arith, length-append, ◌∷◌, [], ◌<◌, map, get_or, Result, Ok, Err, IfOk}
use Rattle.std.specs.declared.alloc.AllocError.{AllocError}
use Rattle.std.proofs.lemmas.List.{length-map, map-append, map_push, take_more}
use Rattle.std.proofs.Math.Seq.{take-append-add}
use Rattle.cf_row.specs.declared.row.Entry.{Entry}
use Rattle.cf_shape.specs.Lanes.{ShapeValue}
use Rattle.cf_plain.specs.Asks.{rows_in}
use Rattle.cf_plain.specs.Answered.{answer_on}
use Rattle.cf_plain.specs.Segments.{CanJoin, body_of, finding_in, joined}
use Rattle.cf_plain.specs.declared.answer.Answer.{Answer}
use Rattle.cf_plain.specs.declared.answer.Body.{Body}
use Rattle.cf_plain.specs.declared.ask.Ask.{Ask}
use Rattle.cf_plain.specs.declared.finding.Finding.{Finding}
use Rattle.cf_plain.proofs.Joined.{findings_can_join, findings_join, findings_tell}
use Rattle.cf_table.specs.Moves.{Begins}
use Rattle.cf_load.specs.Priors.{HasFound}

module _ (shape : ShapeValue) (ask : Ask) (entries : List Entry) (count : ℕ) (finding : Finding) (found : HasFound shape ask entries count finding) where
  -- what it found can be joined with what it finds in a log behind
  pub found_can : (more : List Entry) → count + length more ≤ 2 ^ 20 → CanJoin count finding (finding_in shape ask (rows_in more))
  found_can more few =
      let long = length-map entries (λ (e : Entry). e.row) in
      let behind = length-map more (λ (e : Entry). e.row) in
      let same = found.count_is in
      rw (found.finding_is)
      (subst (λ (n : ℕ). CanJoin n (finding_in shape ask (rows_in entries)) (finding_in shape ask (rows_in more))) (long ∙ sym found.count_is)
      (findings_can_join shape ask (rows_in entries) (rows_in more) (omega (arith, few, same, long, behind))))

  -- and joined it is what it finds in both
  pub found_behind : (more : List Entry)
      → HasFound shape ask (entries ++ more) (count + length more) (joined count finding (finding_in shape ask (rows_in more)))
  found_behind more =
      let long = length-map entries (λ (e : Entry). e.row) in record {
        count_is = ap (λ (n : ℕ). n + length more) found.count_is ∙ sym (length-append entries more);
        finding_is = ap₂ (λ (n : ℕ) (f : Finding). joined n f (finding_in shape ask (rows_in more))) (found.count_is ∙ sym long) found.finding_is
            ∙ (findings_join shape ask (rows_in entries) (rows_in more) ∙ ap (finding_in shape ask) (sym (map-append (λ (e : Entry). e.row) entries more)));
      }

  -- the answer that it tells
  pub found_tells : (body : Body) → body ≡ body_of ask finding → ◌≡◌ {A = Answer} (record { tail = count; body = body }) (answer_on shape entries ask)
  found_tells body is =
      ap₂ (λ (n : ℕ) (b : Body). record { tail = n; body = b }) found.count_is
      (is ∙ (ap (body_of ask) found.finding_is ∙ findings_tell shape ask (rows_in entries)))

-- what is found, and how many entries there are
pub has_found : (shape : ShapeValue) (ask : Ask) (entries : List Entry) (r : Result (ℕ × Finding) AllocError) → IfOk r (λ found. found.0 ≡ length entries)
    → IfOk r (λ found. found.1 ≡ finding_in shape ask (rows_in entries))
    → IfOk r (λ found. HasFound shape ask entries found.0 found.1)
has_found shape ask entries (Ok found) count is = record { count_is = count; finding_is = is }
has_found shape ask entries (Err e) count is = tt

-- what begins a list of entries begins it behind others too
pub begins_behind : (before xs ys : List Entry) → Begins xs ys → Begins (before ++ xs) (before ++ ys)
begins_behind before xs ys begins =
    ap (λ (n : ℕ). take n (before ++ ys)) (length-append before xs) ∙ (take-append-add before ys (length xs) ∙ ap (λ (es : List Entry). before ++ es) begins)

-- one more of what is made of each
pub made_more : {X Y : Type 0} (f : X → Y) (xs : List X) (ys zs : List Y) (i : ℕ) (d : X) (y : Y) → ys ≡ map f (take i xs) → i < length xs
    → y ≡ f (get_or xs i d) → zs ≡ ys ++ y ∷ [] → zs ≡ map f (take (i + 1) xs)
made_more f xs ys zs i d y is lt one more = more
    ∙ (ap₂ (λ made a. made ++ a ∷ []) is one ∙ (sym (map_push f (take i xs) (get_or xs i d)) ∙ ap (map f) (sym (take_more xs i d lt))))
