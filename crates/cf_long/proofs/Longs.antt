-- A log of any length goes on.
use Rattle.std.proofs.Common.{◌≡◌, ◌∙◌, ℕ, suc, ◌+◌, ◌-◌, ◌*◌, ◌<◌, ◌≤◌, ◌^◌, List, [], ◌++◌, length, map, refl, sym, ap, ap₂, subst, arith, inl, inr, length-append, append-nil, append_assoc, mul-suc}
use Rattle.std.specs.List.{All, AllZip}
use Rattle.std.proofs.lemmas.Bool.{cases_lt}
use Rattle.std.proofs.lemmas.List.{get_or-append-add, get_or_append_left, length-map}
use Rattle.cf_row.specs.Row.{RowValue}
use Rattle.cf_row.specs.declared.row.Entry.{Entry}
use Rattle.cf_plain.proofs.Logs.{same_rows}
use Rattle.cf_shape.specs.Lanes.{ShapeValue}
use Rattle.cf_shape.specs.Nodes.{distinct}
use Rattle.cf_plain.specs.Asks.{no_row, row_at, rows_in}
use Rattle.cf_plain.specs.Segments.{CanJoin}
use Rattle.cf_plain.specs.declared.finding.Finding.{Finding}
use Rattle.cf_segments.proofs.Parts.{part_after}
use Rattle.cf_segments.specs.declared.segments.Sealing.{Sealing}
use Rattle.cf_load.specs.Planned.{asks_of}
use Rattle.cf_load.specs.declared.plan.LivePlan.{LivePlan}
use Rattle.cf_fill.specs.Logs.{IsLogFound, IsUnmade}
use Rattle.cf_fill.specs.declared.log.Unmade.{Unmade}
use Rattle.cf_long.specs.ByRow.{AreNumbered, IsFoundWithin, by_row}
use Rattle.cf_long.specs.Found.{found_in, joined_each}
use Rattle.cf_long.specs.Growing.{GrowingValue, HasTaken, IsSmaller, TakesMore, count_in}
use Rattle.cf_long.specs.Longs.{HaveNodes, IsLetGo, IsLong, LongValue, MayFollow, TakesSome, count_of, shape_in}
use Rattle.cf_long.proofs.ByRow.{all_told, each_within}
use Rattle.cf_long.proofs.Found.{can_join_each, joined_in}
use Rattle.cf_long.proofs.Takes.{taken_count}
use Rattle.cf_long.proofs.Nodes.{few_both, unmade_behind}

-- Rows that are numbered one by one.

pub numbered_behind : (from : ℕ) (xs ys : List RowValue) → AreNumbered from (xs ++ ys) → AreNumbered (from + length xs) ys
numbered_behind from xs ys numbered place low =
    let long = length-append xs ys in
    let at = numbered (length xs + place) (omega (arith, long, low)) in
    let same : from + (length xs + place) ≡ from + length xs + place = omega arith in
    sym (ap (λ (r : RowValue). r.num) (get_or-append-add xs ys place no_row)) ∙ (at ∙ same)

pub numbered_before : (from : ℕ) (xs ys : List RowValue) → AreNumbered from (xs ++ ys) → AreNumbered from xs
numbered_before from xs ys numbered place low =
    let long = length-append xs ys in
    sym (ap (λ (r : RowValue). r.num) (get_or_append_left xs ys no_row place low)) ∙ numbered place (omega (arith, long, low))

pub numbered_then : (from : ℕ) (xs ys : List RowValue) → AreNumbered from xs → AreNumbered (from + length xs) ys → AreNumbered from (xs ++ ys)
numbered_then from xs ys first then place low = elim (cases_lt place (length xs)) [
  | inl before ↦ ap (λ (r : RowValue). r.num) (get_or_append_left xs ys no_row place before) ∙ first place before
  | inr behind ↦
      let long = length-append xs ys in
      let k : ℕ = place - length xs in
      let at : place ≡ length xs + k = omega (arith, behind) in
      let sum : from + length xs + k ≡ from + place = omega (arith, behind) in
      ap (λ (i : ℕ). (row_at (xs ++ ys) i).num) at
      ∙ (ap (λ (r : RowValue). r.num) (get_or-append-add xs ys k no_row)
      ∙ (then k (omega (arith, low, long, behind)) ∙ sum))
]

-- What is found in a segment that is closed.
module _ (shape : ShapeValue) (plan : LivePlan) (rows : List RowValue) (sealing : Sealing) (found : List Finding)
    (made : IsLogFound shape plan rows sealing found) where
  -- its places are those of the entries whose numbers were read
  pub told_within : All (IsFoundWithin (length sealing.nums.items)) found
  told_within =
      let es = rows_in made.entries in
      let size : length es ≡ length sealing.nums.items =
      length-map made.entries (λ (e : Entry). e.row)
      ∙ sym (ap (λ (ns : List ℕ). length ns) made.nums ∙ length-map made.entries (λ (e : Entry). e.row.num)) in
      subst (λ (fs : List Finding). All (IsFoundWithin (length sealing.nums.items)) fs) (sym made.found_are)
      (subst (λ (n : ℕ). All (IsFoundWithin n) (found_in shape (asks_of plan) es)) size (each_within shape es (asks_of plan)))

  -- it is told of the rows
  pub told_all : (first : ℕ) (told : List Finding) → 0 < shape.writers → AreNumbered first rows → told ≡ map (by_row first sealing.nums.items) found
      → IsLetGo shape plan rows told
  told_all first told some numbered is = record {
    found_are = is
        ∙ (ap₂ (λ (ns : List ℕ) (fs : List Finding). map (by_row first ns) fs) made.nums made.found_are
        ∙ all_told shape first made.entries rows (λ g. same_rows g rows shape.writers made.entries some made.is) numbered (asks_of plan));
    nodes = made.few_nodes;
  }

module _ (long : LongValue) (rows : List RowValue) (is : IsLong long rows) where
  abbrev shape : ShapeValue
  shape = shape_in long

  pub here_count : count_in long.segment ≡ length is.here
  here_count = taken_count long.plan long.segment is.here is.taken

  pub all_long : length rows ≡ length is.gone + length is.here
  all_long = ap (λ (rs : List RowValue). length rs) is.rows_are ∙ length-append is.gone is.here

  pub counted : count_of long ≡ length rows
  counted = let here = here_count in let gone = is.gone_count in let all = all_long in omega (arith, here, gone, all)

  pub count_few : count_of long < 2 ^ 32
  count_few = let few = is.few in let count = counted in omega (arith, few, count)

  -- those of the segment are numbered on
  pub here_numbered : AreNumbered long.gone is.here
  here_numbered =
      subst (λ (n : ℕ). AreNumbered n is.here) (let e = is.gone_count in let at : 0 + length is.gone ≡ long.gone = omega (arith, e) in at)
      (numbered_behind 0 is.gone is.here (subst (λ (rs : List RowValue). AreNumbered 0 rs) is.rows_are is.numbered))

  abbrev IsFoundHere : List Finding → Type 0
  IsFoundHere more = IsLetGo shape long.plan is.here more

  pub can_join : (more : List Finding) → IsFoundHere more → AllZip (CanJoin long.gone) long.found more
  can_join more let_go =
      let all = all_long in
      let few = is.few in
      subst (λ (n : ℕ). AllZip (CanJoin n) long.found more) (sym is.gone_count)
      (subst (λ (fs : List Finding). AllZip (CanJoin (length is.gone)) fs more) (sym is.let_go.found_are)
      (subst (λ (fs : List Finding). AllZip (CanJoin (length is.gone)) (found_in shape (asks_of long.plan) is.gone) fs) (sym let_go.found_are)
      (can_join_each shape is.gone is.here (omega (arith, all, few)) (asks_of long.plan))))

  -- what is found in all rows
  all_found : (more all : List Finding) → IsFoundHere more → all ≡ joined_each long.gone long.found more
      → all ≡ found_in shape (asks_of long.plan) (is.gone ++ is.here)
  all_found more all let_go joined =
      joined
      ∙ (ap (λ (n : ℕ). joined_each n long.found more) is.gone_count
      ∙ (ap₂ (λ (fs gs : List Finding). joined_each (length is.gone) fs gs) is.let_go.found_are let_go.found_are
      ∙ joined_in shape is.gone is.here (asks_of long.plan)))

  all_nodes : (more : List Finding) → IsFoundHere more → HaveNodes shape (is.gone ++ is.here)
  all_nodes more let_go = few_both shape (shape.writers * shape.nodes) is.segments is.gone is.here is.whole is.let_go.nodes let_go.nodes

  pub found_all : (more all : List Finding) → IsFoundHere more → all ≡ joined_each long.gone long.found more
      → all ≡ found_in shape (asks_of long.plan) rows
  found_all more all let_go joined =
      all_found more all let_go joined ∙ ap (λ (rs : List RowValue). found_in shape (asks_of long.plan) rs) (sym is.rows_are)

  pub nodes_all : (more : List Finding) → IsFoundHere more → HaveNodes shape rows
  nodes_all more let_go = subst (λ (rs : List RowValue). HaveNodes shape rs) (sym is.rows_are) (all_nodes more let_go)

  -- where the segment isn't made, all rows lack as much
  pub unmade_all : (why : Unmade) → IsUnmade shape is.here why → IsUnmade shape rows why
  unmade_all why unmade =
      subst (λ (rs : List RowValue). IsUnmade shape rs why) (sym is.rows_are) (unmade_behind shape is.segments is.gone is.here why is.whole unmade)

  -- a full segment was let go, and an empty one took its place
  pub turned : (next : GrowingValue) (small : ShapeValue) (more all : List Finding) (gone : ℕ) → shape.capacity ≤ count_in long.segment
      → next.shape ≡ shape → IsSmaller shape small → HasTaken long.plan next [] → IsFoundHere more → all ≡ joined_each long.gone long.found more
      → gone ≡ long.gone + count_in long.segment
      → IsLong (record { plan = long.plan; small = small; segment = next; found = all; gone = gone }) rows
  turned next small more all gone full same smaller taken let_go joined count =
      let n = shape.capacity in
      let here = here_count in
      let low = is.taken.within in
      let before = is.gone_count in
      let sum = length-append is.gone is.here in
      let was = is.whole in
      let step = mul-suc n is.segments in
      let turn : n * (is.segments + 1) ≡ n * suc is.segments = ap (λ (k : ℕ). n * k) (omega arith) in
      let both : IsLetGo shape long.plan (is.gone ++ is.here) all =
      record { found_are = all_found more all let_go joined; nodes = all_nodes more let_go } in
      record {
        smaller = subst (λ (h : ShapeValue). IsSmaller h small) (sym same) smaller;
        gone = is.gone ++ is.here;
        here = [];
        rows_are = is.rows_are ∙ sym (append-nil (is.gone ++ is.here));
        gone_count = omega (arith, count, before, here, sum);
        segments = is.segments + 1;
        whole = subst (λ (h : ShapeValue). length (is.gone ++ is.here) ≡ h.capacity * (is.segments + 1)) (sym same)
            (omega (arith, sum, was, step, turn, full, here, low));
        let_go = subst (λ (h : ShapeValue). IsLetGo h long.plan (is.gone ++ is.here) all) (sym same) both;
        taken = taken;
        few = is.few;
        numbered = is.numbered;
      }

  -- more rows came, for which the segment has room
  pub came : (next : GrowingValue) (more : List RowValue) → next.shape ≡ shape → HasTaken long.plan next (is.here ++ more)
      → AreNumbered (count_of long) more → count_of long + length more < 2 ^ 32
      → IsLong (record { plan = long.plan; small = long.small; segment = next; found = long.found; gone = long.gone }) (rows ++ more)
  came next more same taken numbered few =
      let all = length-append rows more in
      let count = counted in
      record {
        smaller = subst (λ (h : ShapeValue). IsSmaller h long.small) (sym same) is.smaller;
        gone = is.gone;
        here = is.here ++ more;
        rows_are = ap (λ (rs : List RowValue). rs ++ more) is.rows_are ∙ append_assoc is.gone is.here more;
        gone_count = is.gone_count;
        segments = is.segments;
        whole = subst (λ (h : ShapeValue). length is.gone ≡ h.capacity * is.segments) (sym same) is.whole;
        let_go = subst (λ (h : ShapeValue). IsLetGo h long.plan is.gone long.found) (sym same) is.let_go;
        taken = taken;
        few = omega (arith, all, count, few);
        numbered = numbered_then 0 rows more is.numbered (subst (λ (n : ℕ). AreNumbered n more) (counted ∙ (let e : length rows ≡ 0 + length rows = omega arith in e)) numbered);
      }

-- a log with no row
pub none_long : (plan : LivePlan) (small : ShapeValue) (segment : GrowingValue) (found : List Finding) → IsSmaller segment.shape small
    → HasTaken plan segment [] → found ≡ found_in segment.shape (asks_of plan) []
    → IsLong (record { plan = plan; small = small; segment = segment; found = found; gone = 0 }) []
none_long plan small segment found smaller taken none =
    let n = segment.shape.capacity in
    record {
      smaller = smaller;
      gone = [];
      here = [];
      rows_are = refl;
      gone_count = refl;
      segments = 0;
      whole = omega arith;
      let_go = record {
        found_are = none;
        nodes = λ k. subst (λ (rs : List RowValue). distinct segment.shape rs ≤ segment.shape.writers * segment.shape.nodes)
            (sym (part_after n (n * k) [] (omega arith))) (omega arith);
      };
      taken = taken;
      few = omega arith;
      numbered = λ place low. absurd (omega (arith, low));
    }

-- A log, after the segment that was full was let go, takes the first of some rows.
module _ (old v : LongValue) (keep : (rows : List RowValue) → IsLong old rows → IsLong v rows) (count : count_of v ≡ count_of old)
    (all front rest : List RowValue) (follow : MayFollow old all) (split : front ++ rest ≡ all) (next : GrowingValue) (same : next.shape ≡ shape_in v)
    (takes : TakesMore v.plan v.segment next front) where
  abbrev new : LongValue
  new = record { plan = v.plan; small = v.small; segment = next; found = v.found; gone = v.gone }

  both : AreNumbered (count_of old) (front ++ rest)
  both = subst (λ (rs : List RowValue). AreNumbered (count_of old) rs) (sym split) follow.numbered

  long_all : length all ≡ length front + length rest
  long_all = ap (λ (rs : List RowValue). length rs) (sym split) ∙ length-append front rest

  pub takes_front : (before : List RowValue) → IsLong old before → IsLong new (before ++ front)
  takes_front before is =
      let at = keep before is in
      let few = follow.few in
      let size = long_all in
      came v before at next front same (takes at.here at.taken)
      (subst (λ (n : ℕ). AreNumbered n front) (sym count) (numbered_before (count_of old) front rest both))
      (omega (arith, few, size, count))

  pub takes_some : TakesSome old new all rest
  takes_some = record { taken = front; split = split; long = takes_front }

  pub follows : (before : List RowValue) → IsLong old before → MayFollow new rest
  follows before is =
      let then = counted new (before ++ front) (takes_front before is) in
      let was = counted old before is in
      let sum = length-append before front in
      let now : count_of old + length front ≡ count_of new = omega (arith, then, was, sum) in
      let few = follow.few in
      let size = long_all in
      record {
        numbered = subst (λ (n : ℕ). AreNumbered n rest) now (numbered_behind (count_of old) front rest both);
        few = omega (arith, few, size, now);
      }

-- nothing was taken yet
pub takes_none : (long : LongValue) (all : List RowValue) → TakesSome long long all all
takes_none long all = record {
  taken = [];
  split = refl;
  long = λ before is. subst (λ (rs : List RowValue). IsLong long rs) (sym (append-nil before)) is;
}

-- and then some more
pub takes_then : (old mid new : LongValue) (all left rest : List RowValue) → TakesSome old mid all left → TakesSome mid new left rest → TakesSome old new all rest
takes_then old mid new all left rest first then = record {
  taken = first.taken ++ then.taken;
  split = append_assoc first.taken then.taken rest ∙ (ap (λ (rs : List RowValue). first.taken ++ rs) then.split ∙ first.split);
  long = λ before is. subst (λ (rs : List RowValue). IsLong new rs) (append_assoc before first.taken then.taken)
      (then.long (before ++ first.taken) (first.long before is));
}

-- all were taken
pub takes_all : (old new : LongValue) (all left before : List RowValue) → TakesSome old new all left → left ≡ [] → IsLong old before → IsLong new (before ++ all)
takes_all old new all left before takes none is =
    let whole : takes.taken ≡ all =
    sym (append-nil takes.taken) ∙ (ap (λ (rs : List RowValue). takes.taken ++ rs) (sym none) ∙ takes.split) in
    subst (λ (rs : List RowValue). IsLong new (before ++ rs)) whole (takes.long before is)
