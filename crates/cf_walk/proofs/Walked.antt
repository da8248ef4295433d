-- A walk down one chain.
use Rattle.std.proofs.Common.{◌≡◌, ◌∙◌, ℕ, suc, ◌+◌, ◌-◌, ◌/◌, ◌%◌, ◌^◌, ◌<◌, ◌≤◌, ◌⊎◌, ◌==◌, inl, inr, List, [], ◌∷◌, ◌++◌, length, map, Bool, true, cond, Option, Some, slice_get, refl, sym, ap, subst, arith}
use Rattle.std.proofs.lemmas.Bool.{cases_lt}
use Rattle.std.proofs.lemmas.List.{append_assoc, append-nil, length-append}
use Rattle.std.proofs.lemmas.Option.{slice_get_past}
use Rattle.cf_row.proofs.Truths.{eq_true}
use Rattle.cf_row.specs.Row.{RowValue}
use Rattle.cf_row.specs.Words.{word_count}
use Rattle.cf_row.specs.declared.row.Entry.{Entry}
use Rattle.cf_shape.specs.Lanes.{ShapeValue, IsShape, lane_at}
use Rattle.cf_shape.specs.Nodes.{levels_of}
use Rattle.cf_shape.specs.Uses.{cells_before, cell_words}
use Rattle.cf_shape.specs.Uses.Use.{version}
use Rattle.cf_shape.proofs.Used.{before_fits, version_at}
use Rattle.cf_law.specs.Words.{Spot, spot, Layout, has}
use Rattle.cf_law.proofs.Chains.{has_more, has_nothing}
use Rattle.cf_law.specs.Nibbles.{nibbles}
use Rattle.cf_law.proofs.Nibbles.{nibbles_more, length-nibbles}
use Rattle.cf_law.specs.Passes.{Look, Cursor, Pass}
use Rattle.cf_law.specs.Steps.{Knows, cursor_after_cell, met_of}
use Rattle.cf_law.specs.Steps.Act.{load_cell}
use Rattle.cf_law.specs.Readers.{WalkTells, picks}
use Rattle.cf_law.specs.Shapes.{layout}
use Rattle.cf_table.specs.Values.{PassValue, LogValue, IsOf}
use Rattle.cf_table.specs.Moves.{IsReading}
use Rattle.cf_table.specs.Effects.{IsLawfulStep, HasStepped, walk_effect, cell_effect}
use Rattle.cf_table.proofs.Mays.{may_cell}
use Rattle.cf_walk.specs.Walks.{OnlyWalked, HasWalked, IsMeasuring, Met, IsAbove, spot_above, leaf_of, chain_places, leaf_places}
use Rattle.cf_walk.proofs.Picked.{picks_next, picks_skip, picks_past, picks_zero, pick_some}

-- Only walked.
abbrev view_with : Pass → Pass → Pass
view_with p q = record p { look = q.look; known = q.known; cursor = q.cursor }

pub walked_by : (m n : PassValue) (x : Look) (known : List (Spot × ℕ)) (c : Option Cursor) → n ≡ record m { view = n.view }
    → n.view ≡ record m.view { look = x; known = known; cursor = c } → ((s : Spot) (node : ℕ) → Knows m.view s node → Knows n.view s node) → OnlyWalked m n
walked_by m n x known c same is knows = record {
  same = same ∙ ap (λ (q : Pass). record m { view = q }) (is ∙ sym (ap (view_with m.view) is));
  knows = knows;
}

pub walked_none : (m : PassValue) → OnlyWalked m m
walked_none m = record { same = refl; knows = λ s node k. k }

pub walked_then : (m n o : PassValue) → OnlyWalked m n → OnlyWalked n o → OnlyWalked m o
walked_then m n o a b = record {
  same = b.same ∙ ap (λ (h : PassValue). record h { view = view_with h.view o.view }) a.same;
  knows = λ s node k. b.knows s node (a.knows s node k);
}

pub walked_seen : (m n : PassValue) → OnlyWalked m n → (n.view).seen ≡ (m.view).seen
walked_seen m n a = ap (λ (h : PassValue). (h.view).seen) a.same

pub did_nothing : (m : PassValue) (steps : ℕ) → HasWalked m m steps steps
did_nothing m steps = record { only = walked_none m; loads = omega arith }

pub did_then : {m n o : PassValue} {a b c : ℕ} → HasWalked m n a b → HasWalked n o b c → HasWalked m o a c
did_then {m} {n} {o} x y = record {
  only = walked_then m n o x.only y.only;
  loads = let one = x.loads in let two = y.loads in omega (arith, one, two);
}

-- The walk stands at this link: what is left of the chain lies below it, and what it went by does not.
pub record IsWalking (shape : ShapeValue) (seen : List Entry) (w : ℕ) (s : Spot) (link : ℕ) (p : Pass) : Type 0 where
  pub gone : List ℕ
  pub met : List (ℕ × ℕ)
  pub at : p.cursor ≡ Some (record { writer = w; spot = s; link = link; gone = gone; met = met })
  pub tells : WalkTells (layout shape) seen (record { writer = w; spot = s; link = link; gone = gone; met = met })
  pub above : (i : ℕ) → has gone i ≡ true → link ≤ i
  pub low : link ≤ shape.capacity

-- a path has nibbles
pub leaf_path : (n key : ℕ) → 0 < n → nibbles n key ≡ key % 16 ∷ nibbles (n - 1) (key / 16 ^ (n - (n - 1)))
leaf_path n key some =
    let e : n ≡ suc (n - 1) = omega (arith, some) in
    let f : n - (n - 1) ≡ 1 = omega (arith, some) in
    let g : 16 ^ (n - (n - 1)) ≡ 16 = ap (λ (k : ℕ). 16 ^ k) f in
    ap (λ (k : ℕ). nibbles k key) e ∙ (nibbles_more (n - 1) key ∙ ap (λ (k : ℕ). key % 16 ∷ nibbles (n - 1) (key / k)) (sym g))

-- what is left of the chain, when the walk begins
pub walk_start : (sh : Layout) (seen : List Entry) (w : ℕ) (s : Spot) (v : ℕ) (met : List (ℕ × ℕ))
    → WalkTells sh seen (record { writer = w; spot = s; link = v; gone = []; met = met }) → picks sh w s seen v ≡ picks sh w s seen (length seen)
walk_start sh seen w s v met tells = elim (cases_lt v (length seen)) [
  | inl lt ↦ sym (picks_skip sh w s seen v (length seen) (omega arith) (λ i e a b at is. none i a (tells.left i e at is)))
  | inr le ↦ picks_past sh w s seen v le
]
  where
    none : (i : ℕ) → v ≤ i → (i < v) ⊎ (has [] i ≡ true) → ⊥
    none i a (inl lt) = absurd (omega (arith, a, lt))
    none i a (inr h) = has_nothing i h

-- one cell further
pub walk_step : (sh : Layout) (seen : List Entry) (w : ℕ) (s : Spot) (o next : ℕ) (gone : List ℕ) (met : List (ℕ × ℕ))
    → WalkTells sh seen (record { writer = w; spot = s; link = next; gone = o ∷ gone; met = met }) → ((i : ℕ) → has gone i ≡ true → suc o ≤ i) → next ≤ o
    → picks sh w s seen o ≡ picks sh w s seen next
walk_step sh seen w s o next gone met tells above le = picks_skip sh w s seen next o le (λ i e a b at is. none i a b (tells.left i e at is))
  where
    apart : (i : ℕ) → i < o → (o ≡ i) ⊎ (has gone i ≡ true) → ⊥
    apart i b (inl e) = absurd (omega (arith, b, e))
    apart i b (inr h) = absurd (let f = above i h in omega (arith, b, f))

    none : (i : ℕ) → next ≤ i → i < o → (i < next) ⊎ (has (o ∷ gone) i ≡ true) → ⊥
    none i a b (inl lt) = absurd (omega (arith, a, lt))
    none i a b (inr h) = apart i b (has_more o i gone h)

-- A head was loaded.
pub record HasBegun (shape : ShapeValue) (m n : PassValue) (w : ℕ) (s : Spot) (found : ℕ) : Type 0 where
  pub walked : OnlyWalked m n
  pub walking : IsWalking shape (m.view).seen w s found n.view
  pub met : met_of (n.view).cursor ≡ met_of (m.view).cursor
  pub all : picks (layout shape) w s (m.view).seen found ≡ picks (layout shape) w s (m.view).seen (length (m.view).seen)

pub begun : (shape : ShapeValue) (m n : PassValue) (lane key node w found : ℕ) → 0 < levels_of shape lane → w < shape.writers
    → IsAbove shape lane key node m.view
    → HasStepped shape (walk_effect shape m.view (spot_above shape lane key (levels_of shape lane - 1)) node (key % 16) w) m found n
    → HasBegun shape m n w (leaf_of shape lane key) found
begun shape m n lane key node w found some wl above made =
    let told = made.told in
    let q = nibbles (levels_of shape lane - 1) (key / 16 ^ (levels_of shape lane - (levels_of shape lane - 1))) in
    let met = met_of (m.view).cursor in
    let path : nibbles (levels_of shape lane) key ≡ key % 16 ∷ q = leaf_path (levels_of shape lane) key some in
    let long : suc (length q) ≡ levels_of shape lane =
    (let e = length-nibbles (levels_of shape lane - 1) (key / 16 ^ (levels_of shape lane - (levels_of shape lane - 1))) in omega (arith, e, some)) in
    let tells : WalkTells (layout shape) (m.view).seen (record { writer = w; spot = spot lane (key % 16 ∷ q); link = found; gone = []; met = met }) =
    told.tells.begins node (key % 16) w lane q refl above.knows long (omega arith) wl in
    let tells' : WalkTells (layout shape) (m.view).seen (record { writer = w; spot = leaf_of shape lane key; link = found; gone = []; met = met }) =
    subst (λ (p : List ℕ). WalkTells (layout shape) (m.view).seen (record { writer = w; spot = spot lane p; link = found; gone = []; met = met }))
    (sym path) tells in
    let at : (n.view).cursor ≡ Some (record { writer = w; spot = spot lane (key % 16 ∷ q); link = found; gone = []; met = met }) =
    ap (λ (p : Pass). p.cursor) told.is in
    record {
      walked = walked_by m n _ _ _ made.same told.is
          (λ s k known. subst (λ (ks : List (Spot × ℕ)). (i : ℕ) × (slice_get ks i ≡ Some (s, k))) (sym (ap (λ (p : Pass). p.known) told.is)) known);
      walking = record {
        gone = [];
        met = met;
        at = at ∙ ap (λ (p : List ℕ). Some (record { writer = w; spot = spot lane p; link = found; gone = []; met = met })) (sym path);
        tells = tells';
        above = λ i h. absurd (has_nothing i h);
        low = told.bounds.link _ at;
      };
      met = ap met_of at;
      all = walk_start (layout shape) (m.view).seen w (leaf_of shape lane key) found met tells';
    }

-- the places of the chain below a link
abbrev pub below : ShapeValue → ℕ → Spot → List Entry → ℕ → List ℕ
below shape w s seen n = map (λ x. x.0) (picks (layout shape) w s seen n)

-- The cell that the walk stood at was loaded.
pub record HasWalkedOn (shape : ShapeValue) (m n : PassValue) (w : ℕ) (s : Spot) (seen : List Entry) (o link : ℕ) : Type 0 where
  pub walked : OnlyWalked m n
  pub walking : IsWalking shape seen w s link n.view
  pub falls : link ≤ o
  pub met : met_of (n.view).cursor ≡ (o, w) ∷ met_of (m.view).cursor
  pub apart : (v : ℕ) → Met m.view o v → v ≡ w
  pub known : o < length seen → below shape w s seen (suc o) ≡ o ∷ below shape w s seen link
  pub new : length seen ≤ o → below shape w s seen (suc o) ≡ below shape w s seen link
  pub skips : length seen ≤ o → picks (layout shape) w s seen (suc o) ≡ picks (layout shape) w s seen link

pub may_step : (shape : ShapeValue) (p : Pass) (seen : List Entry) (w o : ℕ) (s : Spot) → IsShape shape → s.lane < length shape.lanes
    → 0 < cell_words (lane_at shape s.lane) → IsWalking shape seen w s (suc o) p → IsLawfulStep shape p (load_cell o s.lane 0) (cell_effect shape p o s.lane 0)
may_step shape p seen w o s is there some walking =
    let low = walking.low in
    may_cell shape p o s.lane 0 (omega (arith, low)) there some
    (inr (inr (record { writer = w; spot = s; link = suc o; gone = walking.gone; met = walking.met }, walking.at, refl, refl)))

pub stepped : (shape : ShapeValue) (m n : PassValue) (w : ℕ) (s : Spot) (seen : List Entry) (o found : ℕ) → IsShape shape → s.lane < length shape.lanes
    → 0 < cell_words (lane_at shape s.lane) → (m.view).seen ≡ seen → IsWalking shape seen w s (suc o) m.view
    → HasStepped shape (cell_effect shape m.view o s.lane 0) m found n → HasWalkedOn shape m n w s seen o (found % 2 ^ 32)
stepped shape m n w s seen o found is there some same walking made =
    let told = made.told in
    let sh = layout shape in
    let gone = walking.gone in
    let met = walking.met in
    let c : Cursor = record { writer = w; spot = s; link = suc o; gone = gone; met = met } in
    let k = word_count shape.schema + 1 + cells_before shape s.lane + 0 in
    let use' : sh.use_of k ≡ version s.lane 0 = version_at shape s.lane 0 there some in
    let fits = before_fits shape.lanes s.lane there in
    let within : suc k < sh.sizes.ticket_words = omega (arith, fits, some) in
    let next = found % 2 ^ 32 in
    let tells : WalkTells sh seen (record { writer = w; spot = s; link = next; gone = o ∷ gone; met = (o, w) ∷ met }) =
    subst (λ (es : List Entry). WalkTells sh es (record { writer = w; spot = s; link = next; gone = o ∷ gone; met = (o, w) ∷ met })) same
    (told.tells.goes c o k refl walking.at refl use' within) in
    let falls : next ≤ o = told.tells.falls c o k refl walking.at refl use' within in
    let on : cursor_after_cell o s.lane 0 found (Some c) ≡ Some (record { writer = w; spot = s; link = next; gone = o ∷ gone; met = (o, w) ∷ met }) =
    moved w s o found gone met in
    let at : (n.view).cursor ≡ Some (record { writer = w; spot = s; link = next; gone = o ∷ gone; met = (o, w) ∷ met }) = ap (λ (p : Pass). p.cursor) told.is
    ∙ (ap (cursor_after_cell o s.lane 0 found) walking.at ∙ on) in
    let skip : picks sh w s seen o ≡ picks sh w s seen next = walk_step sh seen w s o next gone ((o, w) ∷ met) tells walking.above falls in
    record {
      walked = walked_by m n _ _ _ made.same told.is
          (λ r k known. subst (λ (ks : List (Spot × ℕ)). (i : ℕ) × (slice_get ks i ≡ Some (r, k))) (sym (ap (λ (p : Pass). p.known) told.is)) known);
      walking = record {
        gone = o ∷ gone;
        met = (o, w) ∷ met;
        at = at;
        tells = tells;
        above = λ i h. higher o next gone walking.above falls i (has_more o i gone h);
        low = told.bounds.link _ at;
      };
      falls = falls;
      met = ap met_of at ∙ ap (λ (xs : List (ℕ × ℕ)). (o, w) ∷ xs) (sym (ap met_of walking.at));
      apart = λ v x. walking.tells.apart o x.0 v refl (ap (λ (xs : List (ℕ × ℕ)). slice_get xs x.0) (sym (ap met_of walking.at)) ∙ x.1);
      known = λ lt. (let e = walking.tells.names o refl lt in
          ap (λ (xs : List (ℕ × RowValue)). map (λ x. x.0) xs)
          (picks_next sh w s seen o
          ∙ (ap (λ (x : Option Entry). Rattle.cf_law.specs.Readers.pick_at sh w s o x ++ picks sh w s seen o) e.1
          ∙ (ap (λ (xs : List (ℕ × RowValue)). xs ++ picks sh w s seen o) (pick_some sh w s o e.0 e.2)
          ∙ ap (λ (xs : List (ℕ × RowValue)). (o, (e.0).row) ∷ xs) skip))));
      skips = λ le. picks_next sh w s seen o
          ∙ (ap (λ (x : Option Entry). Rattle.cf_law.specs.Readers.pick_at sh w s o x ++ picks sh w s seen o) (slice_get_past seen o le) ∙ skip);
      new = λ le. ap (λ (xs : List (ℕ × RowValue)). map (λ x. x.0) xs)
          (picks_next sh w s seen o
          ∙ (ap (λ (x : Option Entry). Rattle.cf_law.specs.Readers.pick_at sh w s o x ++ picks sh w s seen o) (slice_get_past seen o le) ∙ skip));
    }
  where
    moved : (w : ℕ) (s : Spot) (o found : ℕ) (gone : List ℕ) (met : List (ℕ × ℕ))
        → cursor_after_cell o s.lane 0 found (Some (record { writer = w; spot = s; link = suc o; gone = gone; met = met })) ≡ Some
        (record { writer = w; spot = s; link = found % 2 ^ 32; gone = o ∷ gone; met = (o, w) ∷ met })
    moved w s o found gone met =
        let c : Cursor = record { writer = w; spot = s; link = suc o; gone = gone; met = met } in
        let d : Cursor = record { writer = w; spot = s; link = found % 2 ^ 32; gone = o ∷ gone; met = (o, w) ∷ met } in
        ap (λ (b : Bool). cond b (cond (s.lane == s.lane) (Some d) (Some c)) (Some c)) (eq_true (suc o) (suc o) refl)
        ∙ ap (λ (b : Bool). cond b (Some d) (Some c)) (eq_true s.lane s.lane refl)

    higher : (o next : ℕ) (gone : List ℕ) → ((i : ℕ) → has gone i ≡ true → suc o ≤ i) → next ≤ o → (i : ℕ) → (o ≡ i) ⊎ (has gone i ≡ true) → next ≤ i
    higher o next gone above le i (inl e) = omega (arith, le, e)
    higher o next gone above le i (inr h) = (let f = above i h in omega (arith, le, f))

-- What was found so far and what is left of the chain are all of it.
pub kept_known : (items more left rest all : List ℕ) (o : ℕ) → more ≡ items ++ o ∷ [] → left ≡ o ∷ rest → items ++ left ≡ all → more ++ rest ≡ all
kept_known items more left rest all o push first h = ap (λ (xs : List ℕ). xs ++ rest) push
    ∙ (append_assoc items (o ∷ []) rest ∙ (ap (λ (xs : List ℕ). items ++ xs) (sym first) ∙ h))

pub kept_new : (items left rest all : List ℕ) → left ≡ rest → items ++ left ≡ all → items ++ rest ≡ all
kept_new items left rest all same h = ap (λ (xs : List ℕ). items ++ xs) (sym same) ∙ h

-- at the end nothing is left
pub kept_all : (shape : ShapeValue) (w : ℕ) (s : Spot) (seen : List Entry) (link : ℕ) (items all : List ℕ) → link ≡ 0
    → items ++ below shape w s seen link ≡ all → items ≡ all
kept_all shape w s seen link items all none h =
    sym (append-nil items)
    ∙ (ap (λ (xs : List (ℕ × RowValue)). items ++ map (λ x. x.0) xs) (sym (ap (picks (layout shape) w s seen) none ∙ picks_zero (layout shape) w s seen))
    ∙ h)

pub above_long : (shape : ShapeValue) (lane key : ℕ) → 0 < levels_of shape lane
    → suc (length (spot_above shape lane key (levels_of shape lane - 1)).path) ≡ levels_of shape lane
above_long shape lane key some =
    (let e = length-nibbles (levels_of shape lane - 1) (key / 16 ^ (levels_of shape lane - (levels_of shape lane - 1))) in omega (arith, e, some))

-- the link names a place
pub stepped_from : (shape : ShapeValue) (m n : PassValue) (w : ℕ) (s : Spot) (seen : List Entry) (link found : ℕ) → 0 < link → IsShape shape
    → s.lane < length shape.lanes → 0 < cell_words (lane_at shape s.lane) → (m.view).seen ≡ seen → IsWalking shape seen w s link m.view
    → HasStepped shape (cell_effect shape m.view (link - 1) s.lane 0) m found n → HasWalkedOn shape m n w s seen (link - 1) (found % 2 ^ 32)
stepped_from shape m n w s seen link found some is there cells same walking made =
    let next : link ≡ suc (link - 1) = omega (arith, some) in
    stepped shape m n w s seen (link - 1) found is there cells same (subst (λ (k : ℕ). IsWalking shape seen w s k m.view) next walking) made

pub below_next : (shape : ShapeValue) (w : ℕ) (s : Spot) (seen : List Entry) (link : ℕ) → 0 < link
    → below shape w s seen link ≡ below shape w s seen (suc (link - 1))
below_next shape w s seen link some = (let next : link ≡ suc (link - 1) = omega (arith, some) in ap (below shape w s seen) next)

-- What was asked of the pass still holds.
pub of_walked : (log : LogValue) (m n : PassValue) → OnlyWalked m n → IsOf m log → IsOf n log
of_walked log m n a of = record { table = ap (λ (h : PassValue). h.table) a.same ∙ of.table; nodes = ap (λ (h : PassValue). h.nodes) a.same ∙ of.nodes }

pub reading_then : {log : LogValue} {m n : PassValue} → OnlyWalked m n → IsReading log m → IsReading log n
reading_then {log} {m} {n} a reads =
    let same = walked_seen m n a in
    record {
      of = of_walked log m n a reads.of;
      few = subst (λ (es : List Entry). length es ≤ (log.shape).capacity) (sym same) reads.few;
      fit = λ o e at. reads.fit o e (ap (λ (es : List Entry). slice_get es o) (sym same) ∙ at);
    }

pub measuring_then : {log : LogValue} {lane : ℕ} {m n : PassValue} → OnlyWalked m n → IsMeasuring log lane m → IsMeasuring log lane n
measuring_then a measures =
    record { exists = measures.exists; measured = measures.measured; reads = reading_then a measures.reads }

pub above_then : (shape : ShapeValue) (lane key node : ℕ) (m n : PassValue) → OnlyWalked m n → IsAbove shape lane key node m.view
    → IsAbove shape lane key node n.view
above_then shape lane key node m n a above = record { exists = above.exists; within = above.within; knows = a.knows _ node above.knows }

-- The places of a leaf, writer by writer.
pub leaf_none : (shape : ShapeValue) (lane key : ℕ) (seen : List Entry) (items : List ℕ) → items ≡ items ++ leaf_places shape lane key seen 0
unfolding leaf_places
leaf_none shape lane key seen items = sym (append-nil items)

pub leaf_more : (shape : ShapeValue) (lane key w next : ℕ) (seen old : List Entry) (items more all : List ℕ) → next ≡ suc w → old ≡ seen
    → more ≡ items ++ chain_places shape lane key old w → items ≡ all ++ leaf_places shape lane key seen w → more ≡ all ++ leaf_places shape lane key seen next
unfolding leaf_places
leaf_more shape lane key w next seen old items more all one same push h =
    push
    ∙ (ap (λ (es : List Entry). items ++ chain_places shape lane key es w) same
    ∙ (ap (λ (xs : List ℕ). xs ++ chain_places shape lane key seen w) h
    ∙ (append_assoc all (leaf_places shape lane key seen w) (chain_places shape lane key seen w)
    ∙ ap (λ (k : ℕ). all ++ leaf_places shape lane key seen k) (sym one))))

pub leaf_long : (shape : ShapeValue) (lane key w next : ℕ) (seen old : List Entry) → next ≡ suc w → old ≡ seen
    → length (leaf_places shape lane key seen next) ≡ length (leaf_places shape lane key seen w) + length (chain_places shape lane key old w)
unfolding leaf_places
leaf_long shape lane key w next seen old one same =
    ap (λ (k : ℕ). length (leaf_places shape lane key seen k)) one
    ∙ (length-append (leaf_places shape lane key seen w) (chain_places shape lane key seen w)
    ∙ ap (λ (es : List Entry). length (leaf_places shape lane key seen w) + length (chain_places shape lane key es w)) (sym same))

pub picks_from : (shape : ShapeValue) (w : ℕ) (s : Spot) (seen : List Entry) (link : ℕ) → 0 < link
    → picks (layout shape) w s seen link ≡ picks (layout shape) w s seen (suc (link - 1))
picks_from shape w s seen link some = (let next : link ≡ suc (link - 1) = omega (arith, some) in ap (picks (layout shape) w s seen) next)
