-- From rounds on what is left of records to the whole ones.
use Rattle.std.proofs.Common.{◌≡◌, ◌∙◌, inl, inr, ℕ, List, [], ◌∷◌, ◌++◌, length, Bool, false, Option, refl, sym, ap, ap₂, subst, arith}
use Rattle.std.specs.Io.KnownBytes.{Appends}
use Rattle.std.proofs.lemmas.List.{length-map, map-append}
use Rattle.cf_row.specs.Row.{RowValue}
use Rattle.cf_intake.specs.Refusals.{line_of}
use Rattle.cf_intake.specs.declared.refusal.Refusal.{Refusal}
use Rattle.cf_intake.specs.declared.refusal.Refusal.TheVariants as refusals
use Rattle.cf_project.specs.Projected.{row_kept}
use Rattle.cf_row.specs.declared.schema.Attr.{Attr}
use Rattle.cf_row.specs.Schema6.{attrs_by}
use Rattle.cf_intake.specs.Reads.{HaveRead, most_moved}
use Rattle.cf_intake.specs.declared.reads.Reads.{Reads}
use Rattle.cf_project.specs.Keeping.{keep}
use Rattle.cf_rounds.specs.Held.{IsAt, IsSetAs, RoundsValue, begun_on}
use Rattle.cf_rounds.specs.Streams.{Stream, Terms, begun as begun_stream, forces, halted_text, through, with_round}
use Rattle.cf_window.specs.Windows.{after_row, is_refused, window}
use Rattle.cf_follow.specs.LeftStreams.{KeepsTerms, reads_left, rows_left, stream_left, terms_left}
use Rattle.cf_follow.proofs.LeftStreams.{begun_same, forces_same, halts_same, round_stream, through_same}
use Rattle.cf_follow.proofs.LeftWindows.{after_same, refused_same, window_same}
use Rattle.cf_follow.specs.Followed.{AreTakenFrom, HasSaidBefore, IsLeftOf, IsReady, IsSetBy, IsTurnedAway, WritesPast, most_read}
use Rattle.cf_follow.specs.Heard.{AreTakenBehind, EndsAmong, EndsAtRead}
use Rattle.cf_follow.specs.Heard.EndsAmong.{turned, turned_cut, forced_cut, lost}
use Rattle.cf_follow.specs.declared.ending.Ending.{Ending}
use Rattle.cf_follow.specs.declared.left.Left.{Left}

pub set_then : (marks : List Bool) (begun m n : RoundsValue) → IsSetBy marks begun m → IsSetAs m n → IsSetBy marks begun n
set_then marks begun m n set stays = record { terms = stays.terms ∙ set.terms; limit = stays.limit ∙ set.limit }

-- as many are left
pub as_many : (marks : List Bool) (rows left : List RowValue) → left ≡ rows_left marks rows → length left ≡ length rows
as_many marks rows left is = ap (λ (rs : List RowValue). length rs) is ∙ length-map rows (row_kept marks)

-- Rounds begin on what is left.
pub ready_so : (begun rounds : RoundsValue) (left : Left) (reading : Reads) → KeepsTerms left.kept.items begun.terms
    → left.schema ≡ ((begun.terms).shape).schema → rounds ≡ begun_on (terms_left left.kept.items begun.terms) begun.limit
    → IsAt rounds [] (begun_stream rounds.terms) → HaveRead reading [] [] → most_moved reading ≡ most_read → IsReady begun rounds left reading
ready_so begun rounds left reading keeps whole is at have size =
    let terms : rounds.terms ≡ terms_left left.kept.items begun.terms = ap (λ (r : RoundsValue). r.terms) is in record {
      keeps = keeps;
      whole = whole;
      set = record { terms = terms; limit = ap (λ (r : RoundsValue). r.limit) is };
      at = subst (λ (s : Stream). IsAt rounds [] s) (ap begun_stream terms ∙ begun_same left.kept.items begun.terms keeps) at;
      unspent = ap (λ (r : RoundsValue). r.is_spent) is;
      have = have;
      size = size;
    }

-- They are on what is left of the rows of their setup.
pub fit_ready : (begun rounds : RoundsValue) (left : Left) (reading : Reads) → IsReady begun rounds left reading → left.schema ≡ attrs_by reading.schema
    → IsLeftOf left rounds reading.schema
fit_ready begun rounds left reading ready packets = record {
  packets = packets;
  marks = (ready.keeps).shape.marks ∙ ap (λ (attrs : List Attr). length attrs) (sym ready.whole);
  shaped = ap (λ (t : Terms). (t.shape).schema) (ready.set).terms ∙ ap (keep left.kept.items) (sym ready.whole);
}

-- What is left of rows is cut in two where they are.
record IsCut (marks : List Bool) (rows front rest : List RowValue) : Type 0 where
  pub first : List RowValue
  pub others : List RowValue
  pub whole : rows ≡ first ++ others
  pub front_is : front ≡ rows_left marks first
  pub rest_is : rest ≡ rows_left marks others

cut_where : (marks : List Bool) (rows front rest : List RowValue) → rows_left marks rows ≡ front ++ rest → IsCut marks rows front rest
cut_where marks rows [] rest are = record { first = []; others = rows; whole = refl; front_is = refl; rest_is = sym are }
cut_where marks [] (x ∷ front) rest are = absurd (cc are)
cut_where marks (row ∷ rows) (x ∷ front) rest are =
    let more : rows_left marks rows ≡ front ++ rest = cc are in
    let here : x ≡ row_kept marks row = cc are in
    let cut = cut_where marks rows front rest more in record {
      first = row ∷ cut.first;
      others = cut.others;
      whole = ap (λ (rs : List RowValue). row ∷ rs) cut.whole;
      front_is = ap₂ (λ (r : RowValue) (rs : List RowValue). r ∷ rs) here cut.front_is;
      rest_is = cut.rest_is;
    }

-- The same at a row.
record IsCutAt (marks : List Bool) (rows front : List RowValue) (row : RowValue) : Type 0 where
  pub first : List RowValue
  pub at : RowValue
  pub others : List RowValue
  pub whole : rows ≡ first ++ at ∷ others
  pub front_is : front ≡ rows_left marks first
  pub row_is : row ≡ row_kept marks at

cut_at_row : (marks : List Bool) (rows front rest : List RowValue) (row : RowValue) → rows_left marks rows ≡ front ++ row ∷ rest
    → IsCutAt marks rows front row
cut_at_row marks rows front rest row are =
    let cut = cut_where marks rows front (row ∷ rest) are in by_others cut.first cut.others cut.whole cut.front_is cut.rest_is
  where
    by_others : (first others : List RowValue) → rows ≡ first ++ others → front ≡ rows_left marks first → row ∷ rest ≡ rows_left marks others
        → IsCutAt marks rows front row
    by_others first [] whole front_is rest_is = absurd (cc rest_is)
    by_others first (at ∷ others) whole front_is rest_is =
        record { first = first; at = at; others = others; whole = whole; front_is = front_is; row_is = (let e : row ≡ row_kept marks at = cc rest_is in e) }

module _ (marks : List Bool) (begun m : RoundsValue) (keeps : KeepsTerms marks begun.terms) (set : IsSetBy marks begun m) where
  abbrev terms : Terms
  terms = begun.terms

  abbrev lean : Terms
  lean = terms_left marks begun.terms

  from_whole : (segments : List (List RowValue)) (rows : List RowValue) → AreTakenFrom lean.shape lean.most (reads_left marks segments) (rows_left marks rows)
      → AreTakenFrom terms.shape terms.most segments rows
  from_whole segments [] taken = tt
  from_whole segments (row ∷ rows) taken = (
    sym (refused_same marks terms.shape keeps.shape keeps.lawful segments row) ∙ taken.0,
    from_whole (after_row terms.shape terms.most segments row) rows
        (subst (λ (ss : List (List RowValue)). AreTakenFrom lean.shape lean.most ss (rows_left marks rows))
        (after_same marks terms.shape keeps.shape keeps.lawful terms.most segments row) taken.1),
  )

  many_both : (come rows : List RowValue) → length (rows_left marks come ++ rows_left marks rows) ≡ length (come ++ rows)
  many_both come rows =
      ap (λ (rs : List RowValue). length rs) (sym (map-append (row_kept marks) come rows)) ∙ length-map (come ++ rows) (row_kept marks)

  module _ (come : List RowValue) (stream : Stream) where
    -- the records were taken
    pub taken_whole : (rows : List RowValue) → AreTakenBehind m (rows_left marks come) (stream_left marks stream) (rows_left marks rows)
        → AreTakenBehind begun come stream rows
    taken_whole rows taken =
        let few = taken.0 in
        let many = many_both come rows in
        let limit = set.limit in (
          omega (arith, few, many, limit),
          from_whole (stream.now).segments rows
              (subst (λ (t : Terms). AreTakenFrom t.shape t.most (reads_left marks (stream.now).segments) (rows_left marks rows)) set.terms taken.1),
        )

    taken_front : (front first : List RowValue) → front ≡ rows_left marks first → AreTakenBehind m (rows_left marks come) (stream_left marks stream) front
        → AreTakenBehind begun come stream first
    taken_front front first is taken =
        taken_whole first (subst (λ (rs : List RowValue). AreTakenBehind m (rows_left marks come) (stream_left marks stream) rs) is taken)

    -- where the stream is behind them
    behind_is : (front first : List RowValue) → front ≡ rows_left marks first
        → through m.terms (stream_left marks stream) front ≡ stream_left marks (through terms stream first)
    behind_is front first is =
        ap₂ (λ (t : Terms) (rs : List RowValue). through t (stream_left marks stream) rs) set.terms is ∙ through_same marks terms keeps stream first

    halted_is : (front first : List RowValue) (fault : List ℕ) → front ≡ rows_left marks first
        → halted_text m.terms (through m.terms (stream_left marks stream) front) fault ≡ halted_text terms (through terms stream first) fault
    halted_is front first fault is =
        ap₂ (λ (t : Terms) (s : Stream). halted_text t s fault) set.terms (behind_is front first is)
        ∙ halts_same marks terms keeps (through terms stream first) fault

    text_is : (front first : List RowValue) → front ≡ rows_left marks first
        → (through m.terms (stream_left marks stream) front).text ≡ (through terms stream first).text
    text_is front first is = ap (λ (s : Stream). s.text) (behind_is front first is)

    made_is : (front first : List RowValue) → front ≡ rows_left marks first
        → (with_round m.terms false (through m.terms (stream_left marks stream) front)).text ≡ (with_round terms false (through terms stream first)).text
    made_is front first is =
        ap₂ (λ (t : Terms) (s : Stream). (with_round t false s).text) set.terms (behind_is front first is)
        ∙ ap (λ (s : Stream). s.text) (round_stream marks terms keeps false (through terms stream first))

    force_is : (front first : List RowValue) (row at : RowValue) → front ≡ rows_left marks first → row ≡ row_kept marks at
        → forces m.terms (through m.terms (stream_left marks stream) front).now row ≡ forces terms (through terms stream first).now at
    force_is front first row at is row_is =
        ap₂ (λ (t : Terms) (s : Stream). forces t s.now row) set.terms (behind_is front first is)
        ∙ (ap (λ (r : RowValue). forces lean (stream_left marks (through terms stream first)).now r) row_is
        ∙ forces_same marks terms keeps (through terms stream first).now at)

    past_whole : (first kept : Option (List ℕ)) (said said' text text' : List ℕ) → said ≡ said' → text ≡ text' → WritesPast first kept said text
        → WritesPast first kept said' text'
    past_whole first kept said said' text text' same also past =
        subst (λ (t : List ℕ). WritesPast first kept said' t) also (subst (λ (s : List ℕ). WritesPast first kept s text) same past)

    window_is : (rows : List RowValue) (row at : RowValue) → row ≡ row_kept marks at
        → is_refused (m.terms).shape (window (m.terms).shape (m.terms).most (rows_left marks rows)) row
        ≡ is_refused terms.shape (window terms.shape terms.most rows) at
    window_is rows row at is =
        ap₂ (λ (t : Terms) (r : RowValue). is_refused t.shape (window t.shape t.most (rows_left marks rows)) r) set.terms is
        ∙ (ap (λ (ss : List (List RowValue)). is_refused lean.shape ss (row_kept marks at))
        (window_same marks terms.shape keeps.shape keeps.lawful terms.most rows)
        ∙ refused_same marks terms.shape keeps.shape keeps.lawful (window terms.shape terms.most rows) at)

    away_rows : (rows : List RowValue) (row at : RowValue) (why : Refusal) → row ≡ row_kept marks at → IsTurnedAway m (rows_left marks rows) row why
        → IsTurnedAway begun rows at why
    away_rows rows row at why is (IsTurnedAway.full low same) =
        IsTurnedAway.full (sym (length-map rows (row_kept marks)) ∙ (low ∙ set.limit)) (same ∙ ap refusals.Full set.limit)
    away_rows rows row at why is (IsTurnedAway.nodes low refused same) =
        let many = length-map rows (row_kept marks) in
        let limit = set.limit in
        IsTurnedAway.nodes (omega (arith, low, many, limit)) (sym (window_is rows row at is) ∙ refused)
        (same ∙ ap (λ (t : Terms). refusals.Nodes (t.shape).nodes) set.terms)

    -- a record was turned away
    away_whole : (front first : List RowValue) (row at : RowValue) (why : Refusal) → front ≡ rows_left marks first → row ≡ row_kept marks at
        → IsTurnedAway m (rows_left marks come ++ front) row why → IsTurnedAway begun (come ++ first) at why
    away_whole front first row at why is row_is away =
        away_rows (come ++ first) row at why row_is
        (subst (λ (rs : List RowValue). IsTurnedAway m rs row why)
        (ap (λ (rs : List RowValue). rows_left marks come ++ rs) is ∙ sym (map-append (row_kept marks) come first)) away)

    -- what was said when memory ran out
    said_rest : (now : Stream) (others : List RowValue) (said : List ℕ) → HasSaidBefore lean (stream_left marks now) (rows_left marks others) said
        → HasSaidBefore terms now others said
    said_rest now [] said before = before
    said_rest now (row ∷ others) said (inl same) = inl same
    said_rest now (row ∷ others) said (inr made) =
        inr (sym (forces_same marks terms keeps now.now row) ∙ made.0, made.1 ∙ ap (λ (s : Stream). s.text) (round_stream marks terms keeps false now))

    said_whole : (front first rest others : List RowValue) (said : List ℕ) → front ≡ rows_left marks first → rest ≡ rows_left marks others
        → HasSaidBefore m.terms (through m.terms (stream_left marks stream) front) rest said → HasSaidBefore terms (through terms stream first) others said
    said_whole front first rest others said is rest_is before =
        said_rest (through terms stream first) others said
        (subst (λ (rs : List RowValue). HasSaidBefore lean (stream_left marks (through terms stream first)) rs said) rest_is
        (subst (λ (s : Stream). HasSaidBefore lean s rest said) (behind_is front first is)
        (subst (λ (t : Terms). HasSaidBefore t (through m.terms (stream_left marks stream) front) rest said) set.terms before)))

    among_whole : (rows : List RowValue) (first kept : Option (List ℕ)) (ending : Ending)
        → EndsAmong m (rows_left marks rows) (rows_left marks come) (stream_left marks stream) first kept ending
        → EndsAmong begun rows come stream first kept ending
    among_whole rows first kept ending (turned front rest row why are behind away is appends) =
        let cut = cut_at_row marks rows front rest row are in
        turned cut.first cut.others cut.at why cut.whole (taken_front front cut.first cut.front_is behind)
        (away_whole front cut.first row cut.at why cut.front_is cut.row_is away) is
        (subst (λ (t : List ℕ). Appends first kept t) (halted_is front cut.first (line_of why) cut.front_is) appends)
    among_whole rows first kept ending (turned_cut front rest row why are behind away is past) =
        let cut = cut_at_row marks rows front rest row are in
        turned_cut cut.first cut.others cut.at why cut.whole (taken_front front cut.first cut.front_is behind)
        (away_whole front cut.first row cut.at why cut.front_is cut.row_is away) is
        (past_whole first kept _ _ _ _ (text_is front cut.first cut.front_is) (halted_is front cut.first (line_of why) cut.front_is) past)
    among_whole rows first kept ending (forced_cut front rest row are behind forced is past) =
        let cut = cut_at_row marks rows front rest row are in
        forced_cut cut.first cut.others cut.at cut.whole (taken_front front cut.first cut.front_is behind)
        (sym (force_is front cut.first row cut.at cut.front_is cut.row_is) ∙ forced) is
        (past_whole first kept _ _ _ _ (text_is front cut.first cut.front_is) (made_is front cut.first cut.front_is) past)
    among_whole rows first kept ending (lost front rest said are behind is before appends) =
        let cut = cut_where marks rows front rest are in
        lost cut.first cut.others said cut.whole (taken_front front cut.first cut.front_is behind) is
        (said_whole front cut.first rest cut.others said cut.front_is cut.rest_is before) appends

    pub read_whole : (rows : List RowValue) (first kept : Option (List ℕ)) (ending : Ending)
        → EndsAtRead m (rows_left marks rows) (rows_left marks come) (stream_left marks stream) first kept ending
        → EndsAtRead begun rows come stream first kept ending
    read_whole rows first kept ending (inl among) = inl (among_whole rows first kept ending among)
    read_whole rows first kept ending (inr round) = inr (
      taken_whole rows round.0,
      round.1,
      past_whole first kept _ _ _ _ (text_is (rows_left marks rows) rows refl) (made_is (rows_left marks rows) rows refl) round.2,
    )

    -- the round behind them is made
    pub made_stream : (rows : List RowValue) → with_round m.terms false (through m.terms (stream_left marks stream) (rows_left marks rows))
        ≡ stream_left marks (with_round terms false (through terms stream rows))
    made_stream rows =
        ap₂ (λ (t : Terms) (s : Stream). with_round t false s) set.terms (behind_is (rows_left marks rows) rows refl)
        ∙ round_stream marks terms keeps false (through terms stream rows)
