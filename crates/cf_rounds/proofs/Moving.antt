-- A record goes into the window of rounds.
use Rattle.std.proofs.Common.{◌≡◌, ◌∙◌, ℕ, ◌+◌, ◌-◌, ◌^◌, ◌<◌, ◌≤◌, List, [], ◌∷◌, length, drop, Bool, true, false, not, ◌&&◌, ◌||◌, nat_le, refl, sym, ap, ap₂, subst, arith, length-append}
use Rattle.std.proofs.lemmas.List.{length-map}
use Rattle.std.proofs.lemmas.List.Elements.{All-weaker}
use Rattle.cf_row.specs.Row.{RowValue}
use Rattle.cf_row.specs.Times.{time_of}
use Rattle.cf_row.proofs.Bytes.{both}
use Rattle.cf_setup.specs.Setups.{SetupValue, shaped}
use Rattle.cf_shape.specs.Lanes.{ShapeValue, has_by}
use Rattle.cf_watch.specs.Watched.{nothing_watched, watched_count}
use Rattle.cf_watch.specs.declared.watched.Watched.{Watched}
use Rattle.cf_window.specs.Held.{HasPushed, WindowValue, count_of, replaced}
use Rattle.cf_window.specs.Windows.{after_row, drops, goes_in, is_small, rows_in_all}
use Rattle.cf_window.specs.declared.window.Pushed.{Pushed}
use Rattle.cf_window.specs.declared.window.Pushed.TheVariants.{Full, Gone, NeedsDrop, NoNodes}
use Rattle.cf_window.proofs.Dropping.{out_of}
use Rattle.cf_window.proofs.Rows.{count_first, rows_dropped, rows_kept}
use Rattle.cf_rounds.specs.Held.{HasAnswered, HasMoved, IsRounds, RoundsValue, WaitsFor, standing_in}
use Rattle.cf_rounds.specs.Lanes.{AreCounted, forgets, keeps, none_kept}
use Rattle.cf_rounds.proofs.Keeping.{none_counted}
use Rattle.cf_rounds.specs.Streams.{after_record}
use Rattle.cf_rounds.specs.declared.rounds.Taken.TheVariants as taken

-- The count of a window after a row.
count_kept : (window : WindowValue) (row : RowValue) (is_spent : Bool) → drops window.shape window.most window.segments row ≡ false
    → count_of (record window { segments = after_row window.shape window.most window.segments row; is_spent = is_spent }) ≡ count_of window + 1
count_kept window row is_spent none =
    let rows = ap (λ (rs : List RowValue). length rs) (rows_kept window.shape window.most window.segments row none)
    ∙ length-append (rows_in_all window.segments) (row ∷ []) in
    omega (arith, rows)

count_replaced : (window : WindowValue) (row : RowValue) → drops window.shape window.most window.segments row ≡ true
    → count_of (replaced window row) ≡ count_of window + 1
count_replaced window row one =
    let rows = ap (λ (rs : List RowValue). length rs) (rows_dropped window.shape window.most window.segments row one)
    ∙ length-append (rows_in_all (drop 1 window.segments)) (row ∷ []) in
    let all = count_first window.segments in
    omega (arith, rows, all)

pub moved_kept : (old new : WindowValue) (row : RowValue) → HasPushed old row new Gone → HasMoved old row new
moved_kept old new row has = record {
  segments = ap (λ (w : WindowValue). w.segments) has.2;
  count = ap count_of has.2 ∙ count_kept old row false has.1;
  is_spent = ap (λ (w : WindowValue). w.is_spent) has.2;
}

pub moved_replaced : (old mid new : WindowValue) (row : RowValue) → HasPushed old row mid NeedsDrop → new ≡ replaced mid row → HasMoved old row new
moved_replaced old mid new row has is =
    let same : new ≡ replaced (record old { is_spent = true }) row = is ∙ ap (λ (w : WindowValue). replaced w row) has.3 in record {
      segments = ap (λ (w : WindowValue). w.segments) same;
      count = ap count_of same ∙ count_replaced (record old { is_spent = true }) row has.1;
      is_spent = ap (λ (w : WindowValue). w.is_spent) same;
    }

-- a small record that there is room for goes in where nothing has to be dropped for it
pub moved_else : (old new : WindowValue) (row : RowValue) (p : Pushed) → (p ≡ NeedsDrop → ⊥) → count_of old < 2 ^ 64 - 1 → is_small old.shape row ≡ true
    → HasPushed old row new p → HasMoved old row new
moved_else old new row Full never room small has = absurd (let all = has.0 in omega (arith, all, room))
moved_else old new row Gone never room small has = moved_kept old new row has
moved_else old new row NeedsDrop never room small has = absurd (never refl)
moved_else old new row NoNodes never room small has = absurd (both_ways (is_small old.shape row) small has.2)
  where
    both_ways : (b : Bool) → b ≡ true → b ≡ false → ⊥
    both_ways b p q = cc

-- rounds of these parts
abbrev pub of_parts : SetupValue → WindowValue → List Watched → (every beat limit asked beaten last : ℕ) → RoundsValue
of_parts setup window kept every beat limit asked beaten last = record {
  terms = record { setup = setup; shape = window.shape; most = window.most; every = every; beat = beat };
  limit = limit;
  now = standing_in window kept asked beaten last;
  is_spent = window.is_spent;
}

module _ (setup : SetupValue) (w : WindowValue) (kept : List Watched) (every beat limit asked beaten last : ℕ) (row : RowValue) where
  abbrev old : RoundsValue
  old = of_parts setup w kept every beat limit asked beaten last

  -- with the record, in a window of these parts
  abbrev of_fields : ShapeValue → ℕ → List (List RowValue) → ℕ → Bool → RoundsValue
  of_fields shape most segments count is_spent = record {
    terms = record { setup = setup; shape = shape; most = most; every = every; beat = beat };
    limit = limit;
    now = record {
      segments = segments;
      count = count;
      kept = keeps shape kept row;
      asked = asked;
      beaten = beaten;
      last = time_of shape.schema row;
    };
    is_spent = is_spent;
  }

  -- the record has come
  pub has_gone : (w' : WindowValue) (kept' : List Watched) (last' : ℕ) → HasMoved w row w' → w'.shape ≡ w.shape → w'.most ≡ w.most
      → kept' ≡ keeps w'.shape kept row → last' ≡ time_of (w'.shape).schema row
      → of_parts setup w' kept' every beat limit asked beaten last' ≡ record old { now = after_record old.terms old.now row; is_spent = false }
  has_gone w' kept' last' moved shape most keeps_is last_is =
      ap₂ (λ (ks : List Watched) (l : ℕ). of_parts setup w' ks every beat limit asked beaten l) keeps_is last_is
      ∙ (ap₂ (λ (s : ShapeValue) (m : ℕ). of_fields s m w'.segments (count_of w') w'.is_spent) shape most
      ∙ (ap₂ (λ (xs : List (List RowValue)) (n : ℕ). of_fields w.shape w.most xs n w'.is_spent) moved.segments moved.count
      ∙ ap (of_fields w.shape w.most (after_row w.shape w.most w.segments row) (count_of w + 1)) moved.is_spent))

  module _ (w' : WindowValue) where
    answered_gone : (kept' : List Watched) (last' : ℕ) → HasPushed w row w' Gone → count_of w < limit
        → (is_small w.shape row && forgets w.shape setup.triggers kept row) ≡ false
        → kept' ≡ keeps w'.shape kept row → last' ≡ time_of (w'.shape).schema row
        → HasAnswered old row (of_parts setup w' kept' every beat limit asked beaten last') taken.Gone
    answered_gone kept' last' has few none keeps_is last_is = (
      few,
      has.3,
      ap₂ (λ (a b : Bool). a || b) has.1 none,
      has_gone w' kept' last' (moved_kept w w' row has) (ap (λ (v : WindowValue). v.shape) has.2) (ap (λ (v : WindowValue). v.most) has.2) keeps_is last_is,
    )

    answered_no_nodes : HasPushed w row w' NoNodes → count_of w < limit
        → HasAnswered old row (of_parts setup w' kept every beat limit asked beaten last) taken.NoNodes
    answered_no_nodes has few = (
      few,
      ap₂ (λ (a b : Bool). not a && not b) has.1 has.2,
      ap (λ (v : WindowValue). of_parts setup v kept every beat limit asked beaten last) has.3,
    )

    waits_drop : HasPushed w row w' NeedsDrop → count_of w < limit → WaitsFor old row (of_parts setup w' kept every beat limit asked beaten last)
    waits_drop has few =
        let out = out_of (goes_in w.shape w.segments row) (both (not (goes_in w.shape w.segments row)) (nat_le w.most (length w.segments)) has.1).0 in record {
          few = few;
          small = has.2;
          forced = ap (λ (b : Bool). b || (is_small w.shape row && forgets w.shape setup.triggers kept row)) has.1;
          same = ap (λ (v : WindowValue). of_parts setup v kept every beat limit asked beaten last) has.3
              ∙ ap (λ (b : Bool). record old { is_spent = b }) (sym (ap (λ (v : WindowValue). v.is_spent) has.3));
          spent = λ is. out;
        }

    answered_full : HasPushed w row w' Full → count_of w < limit → limit < 2 ^ 53
        → HasAnswered old row (of_parts setup w' kept every beat limit asked beaten last) taken.Full
    answered_full has few low = absurd (let all = has.0 in omega (arith, all, few, low))

  waits_forget : count_of w < limit → (is_small w.shape row && forgets w.shape setup.triggers kept row) ≡ true → w.is_spent ≡ false → WaitsFor old row old
  waits_forget few forgot unspent =
      let parts = both (is_small w.shape row) (forgets w.shape setup.triggers kept row) forgot in record {
        few = few;
        small = parts.0;
        forced = or_here (drops w.shape w.most w.segments row) (is_small w.shape row && forgets w.shape setup.triggers kept row) forgot;
        same = refl;
        spent = λ is. absurd (not_both w.is_spent is unspent);
      }
    where
      or_here : (a b : Bool) → b ≡ true → (a || b) ≡ true
      or_here true b is = refl
      or_here false b is = is

      not_both : (b : Bool) → b ≡ true → b ≡ false → ⊥
      not_both b p q = cc

  -- The same of the rounds that the caller holds.
  module _ (held : RoundsValue) (is : old ≡ held) (w' : WindowValue) (p : Pushed) (pushed : HasPushed w row w' p) (few : count_of w < limit) where
    pub gone : (kept' : List Watched) (last' : ℕ) → p ≡ Gone
        → (is_small (held.terms).shape row && forgets (held.terms).shape ((held.terms).setup).triggers (held.now).kept row) ≡ false
        → kept' ≡ keeps w'.shape kept row → last' ≡ time_of (w'.shape).schema row
        → HasAnswered held row (of_parts setup w' kept' every beat limit asked beaten last') taken.Gone
    gone kept' last' at none keeps_is last_is =
        subst (λ (r : RoundsValue). HasAnswered r row (of_parts setup w' kept' every beat limit asked beaten last') taken.Gone) is
        (answered_gone w' kept' last' (subst (HasPushed w row w') at pushed) few
        (subst (λ (r : RoundsValue). (is_small (r.terms).shape row && forgets (r.terms).shape ((r.terms).setup).triggers (r.now).kept row) ≡ false) (sym is)
        none) keeps_is last_is)

    pub no_nodes : p ≡ NoNodes → HasAnswered held row (of_parts setup w' kept every beat limit asked beaten last) taken.NoNodes
    no_nodes at =
        subst (λ (r : RoundsValue). HasAnswered r row (of_parts setup w' kept every beat limit asked beaten last) taken.NoNodes) is
        (answered_no_nodes w' (subst (HasPushed w row w') at pushed) few)

    pub waits : p ≡ NeedsDrop → HasAnswered held row (of_parts setup w' kept every beat limit asked beaten last) taken.Waits
    waits at =
        subst (λ (r : RoundsValue). WaitsFor r row (of_parts setup w' kept every beat limit asked beaten last)) is
        (waits_drop w' (subst (HasPushed w row w') at pushed) few)

    pub full : p ≡ Full → limit < 2 ^ 53 → HasAnswered held row (of_parts setup w' kept every beat limit asked beaten last) taken.Full
    full at low =
        subst (λ (r : RoundsValue). HasAnswered r row (of_parts setup w' kept every beat limit asked beaten last) taken.Full) is
        (answered_full w' (subst (HasPushed w row w') at pushed) few low)

  pub waits_told : (held : RoundsValue) → old ≡ held → count_of w < limit → (is_small w.shape row && forgets w.shape setup.triggers kept row) ≡ true
      → w.is_spent ≡ false → HasAnswered held row old taken.Waits
  waits_told held is few forgot unspent = subst (λ (r : RoundsValue). WaitsFor r row old) is (waits_forget few forgot unspent)

-- What is true of rounds stays so.
more_counted : (n m : ℕ) (kept : List Watched) → n ≤ m → AreCounted n kept → AreCounted m kept
more_counted n m kept le all =
    All-weaker (λ (k : Watched). watched_count k ≤ n) (λ (k : Watched). watched_count k ≤ m) (λ (k : Watched) (low : watched_count k ≤ n). omega (arith, low, le)) kept all

pub rounds_still : (setup : SetupValue) (w w' : WindowValue) (kept : List Watched) (limit : ℕ) → IsRounds setup w kept limit → w'.shape ≡ w.shape
    → count_of w ≤ count_of w' → IsRounds setup w' kept limit
rounds_still setup w w' kept limit is same le = record {
  shaped = subst (λ (s : ShapeValue). s ≡ shaped setup s.capacity 1 s.nodes) (sym same) is.shaped;
  lanes = is.lanes;
  counted = more_counted (count_of w) (count_of w') kept le is.counted;
  few = is.few;
}

pub rounds_kept : (setup : SetupValue) (w w' : WindowValue) (kept kept' : List Watched) (limit : ℕ) → IsRounds setup w kept limit → w'.shape ≡ w.shape
    → count_of w' ≡ count_of w + 1 → length kept' ≡ length kept → AreCounted (count_of w + 1) kept' → IsRounds setup w' kept' limit
rounds_kept setup w w' kept kept' limit is same count long counted = record {
  shaped = subst (λ (s : ShapeValue). s ≡ shaped setup s.capacity 1 s.nodes) (sym same) is.shaped;
  lanes = long ∙ is.lanes;
  counted = subst (λ (n : ℕ). AreCounted n kept') (sym count) counted;
  few = is.few;
}

pub rounds_begun : (setup : SetupValue) (w : WindowValue) (shape : ShapeValue) (kept : List Watched) (limit : ℕ) → w.shape ≡ shape
    → shape ≡ shaped setup shape.capacity 1 shape.nodes → kept ≡ none_kept shape → limit < 2 ^ 53 → IsRounds setup w kept limit
rounds_begun setup w shape kept limit is same none few = record {
  shaped = subst (λ (s : ShapeValue). s ≡ shaped setup s.capacity 1 s.nodes) (sym is) same;
  lanes = ap length none ∙ length-map shape.lanes (λ lane. nothing_watched (has_by lane.key)) ∙ ap (λ (s : ShapeValue). length s.lanes) same;
  counted = subst (AreCounted (count_of w)) (sym none) (none_counted shape (count_of w));
  few = few;
}
