-- Segments whose entries are cut into parts.
use Rattle.std.proofs.Common.{◌≡◌, ◌<◌, ◌≤◌, ◌+◌, ◌*◌, ℕ, List, [], ◌∷◌, ◌++◌, length, get_or, map, take, Some, slice_get, sym, ap, subst, ◌∙◌, arith, suc, length-append, mul-suc}
use Rattle.std.specs.List.{flat_map}
use Rattle.std.specs.Option.{option_map}
use Rattle.std.proofs.lemmas.List.{flat_map_more, take_more}
use Rattle.std.proofs.lemmas.Option.{slice_get-get_or, slice_get-map}
use Rattle.cf_row.proofs.Lists.{get_push_same, has_left}
use Rattle.cf_row.specs.declared.row.Entry.{Entry}
use Rattle.cf_shape.specs.Lanes.{ShapeValue}
use Rattle.cf_query.specs.Asking.{HasAsked}
use Rattle.cf_table.specs.Moves.{HoldsAllBooks, IsReading}
use Rattle.cf_table.specs.Values.{PassValue}
use Rattle.cf_segments.specs.Readers.{log_in}
use Rattle.cf_segments.specs.Segments.{IsSegment, seen_of}
use Rattle.cf_segments.specs.declared.segments.Segment.{Segment}

module _ (shape : ShapeValue) (g : Segment) (n : PassValue) (is : IsSegment shape g) (asked : HasAsked (g.log).shape g.root n) where
  -- a root that has loaded the read tail reads its log
  pub asked_reads : IsReading g.log n
  asked_reads = record {
    of = record {
      table = ap (λ (h : PassValue). h.table) asked.same ∙ is.of.table;
      nodes = ap (λ (h : PassValue). h.nodes) asked.same ∙ is.of.nodes;
    };
    few = asked.few;
    fit = asked.fit;
  }

  -- and has seen what it had
  pub asked_seen : (n.view).seen ≡ seen_of g
  asked_seen = asked.stays (subst (λ (h : ShapeValue). HoldsAllBooks h g.root.view) (sym is.shape_is) is.settled)

module _ (closed : List Segment) (current : Segment) where
  -- the log that stands at the place of a segment
  pub log_there : (i : ℕ) (d : Segment) → i < length closed → slice_get (map log_in (closed ++ current ∷ [])) i ≡ Some (get_or closed i d).log
  log_there i d lt = slice_get-map log_in (closed ++ current ∷ []) i
      ∙ ap (option_map log_in) (has_left closed (current ∷ []) i (get_or closed i d) (slice_get-get_or closed i d lt))

  pub log_last : slice_get (map log_in (closed ++ current ∷ [])) (length closed) ≡ Some current.log
  log_last = slice_get-map log_in (closed ++ current ∷ []) (length closed) ∙ ap (option_map log_in) (get_push_same closed current)

-- one segment more was gone over
pub seen_more : (gs : List Segment) (i : ℕ) (d : Segment) → i < length gs
    → flat_map seen_of (take i gs) ++ seen_of (get_or gs i d) ≡ flat_map seen_of (take (i + 1) gs)
seen_more gs i d lt = flat_map_more seen_of [] (take i gs) (get_or gs i d) ∙ ap (flat_map seen_of) (sym (take_more gs i d lt))

pub one_more : (n i : ℕ) → n * (i + 1) ≡ n * i + n
one_more n i = (let next : i + 1 ≡ suc i = omega arith in (let step = mul-suc n i in let same : n * (i + 1) ≡ n * suc i = ap (λ (k : ℕ). n * k) next in omega (arith, step, same)))

pub few_more : (n i : ℕ) (es fs : List Entry) → length es ≤ n * i → length fs ≤ n → length (es ++ fs) ≤ n * (i + 1)
few_more n i es fs before more = omega (arith, before, more, one_more n i, length-append es fs)
