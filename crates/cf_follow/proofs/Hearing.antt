-- What the parts of following say.
use Rattle.std.proofs.Common.{◌≡◌, ◌∙◌, inl, inr, ℕ, ◌+◌, ◌<◌, ◌≤◌, List, [], ◌∷◌, ◌++◌, length, take, drop, fold, zero, suc, slice_index_or, Bool, true, false, not, ◌&&◌, Option, Some, None, Result, Ok, Err, refl, sym, ap, ap₂, subst, arith, length-append, append-nil, append_assoc}
use Rattle.std.specs.Io.KnownBytes.{Appends, Keeps}
use Rattle.std.specs.Result.{IsErrAnd}
use Rattle.std.proofs.KnownBytes.{Appends-trans}
use Rattle.std.proofs.lemmas.List.{take_all, take_more}
use Rattle.cf_row.specs.Row.{RowValue}
use Rattle.cf_shape.specs.Lanes.{ShapeValue}
use Rattle.cf_intake.specs.Refusals.{line_of}
use Rattle.cf_intake.specs.declared.refusal.Refusal.{Refusal}
use Rattle.cf_intake.specs.declared.refusal.Refusal.TheVariants as refusals
use Rattle.cf_intake.specs.declared.refusal.Stop.TheVariants as stops
use Rattle.cf_rounds.specs.Held.{HasAnswered, IsAt, IsSetAs, RoundsValue, WaitsFor}
use Rattle.cf_rounds.specs.Streams.{Standing, Stream, Terms, after_record, after_round, comes, forces, halted_text, round_text, through, with_round}
use Rattle.cf_rounds.specs.declared.rounds.Taken.TheVariants as taken
use Rattle.cf_rounds.proofs.Onward.{at_forced, at_free, at_round, forced_says, free_says, round_says, segments_through}
use Rattle.cf_window.specs.Windows.{after_row, goes_in, is_refused, is_small, window}
use Rattle.cf_follow.specs.Followed.{AreTakenFrom, HasSaidBefore, IsTurnedAway, WritesPast}
use Rattle.cf_follow.specs.Heard.{AreTakenBehind, EndsAmong, HaveAllGone, HaveEndedAmong, HaveGone, HavePartGone, Hears, IsHere, Refuses, StopsAfterRound, TellsRound, said_by, with_made}
use Rattle.cf_follow.specs.Heard.EndsAmong.{turned, turned_cut, forced_cut, lost}
use Rattle.cf_follow.specs.declared.ending.Ending.{Ending}
use Rattle.cf_follow.specs.declared.ending.Ending.TheVariants.{Done, Refused, Stopped, Unwritten}

-- what is fixed stays
pub set_refl : (m : RoundsValue) → IsSetAs m m
set_refl m = record { terms = refl; limit = refl }

pub set_trans : (m n o : RoundsValue) → IsSetAs m n → IsSetAs n o → IsSetAs m o
set_trans m n o a b = record { terms = b.terms ∙ a.terms; limit = b.limit ∙ a.limit }

-- What is written more stays.
pub appends_kept : (a b c : Option (List ℕ)) (xs : List ℕ) → Appends a b xs → Keeps b c → Appends a c xs
appends_kept None b c xs p q = tt
appends_kept (Some x) None c xs p q = absurd p
appends_kept (Some x) (Some y) None xs p q = absurd q
appends_kept (Some x) (Some y) (Some z) xs p q = q ∙ p

pub count_at : (m : RoundsValue) (rows : List RowValue) (stream : Stream) → IsAt m rows stream → (m.now).count ≡ length rows
count_at m rows stream at = ap (λ (now : Standing). now.count) at.stands ∙ at.come.count

pub took_append : (shape : ShapeValue) (most : ℕ) (segments : List (List RowValue)) (xs ys : List RowValue) → AreTakenFrom shape most segments xs
    → AreTakenFrom shape most (fold (after_row shape most) segments xs) ys → AreTakenFrom shape most segments (xs ++ ys)
took_append shape most segments [] ys took more = more
took_append shape most segments (x ∷ xs) ys took more = (took.0, took_append shape most (after_row shape most segments x) xs ys took.1 more)

through_append : (terms : Terms) (stream : Stream) (xs ys : List RowValue) → through terms (through terms stream xs) ys ≡ through terms stream (xs ++ ys)
through_append terms stream [] ys = refl
through_append terms stream (x ∷ xs) ys = through_append terms (comes terms stream x) xs ys

-- None has gone in.
pub none_gone : (m : RoundsValue) (held : Option (List ℕ)) → (m.now).count ≤ m.limit → HaveAllGone m [] held m held
none_gone m held within come stream first here =
    let count = count_at m come stream here.at in
    let size : length (come ++ []) ≡ length come = ap (λ (rs : List RowValue). length rs) (append-nil come) in
    (subst (λ (rs : List RowValue). IsHere m rs stream first held) (sym (append-nil come)) here, (omega (arith, size, count, within), tt))

-- rounds that stand where others stand
pub here_as : (m n : RoundsValue) (come : List RowValue) (stream : Stream) (first held : Option (List ℕ)) → n.terms ≡ m.terms → n.now ≡ m.now
    → IsHere m come stream first held → IsHere n come stream first held
here_as m n come stream first held terms now here = record {
  at = record {
    come = subst (λ (t : Terms). Rattle.cf_window.specs.Courses.IsCourse t.shape t.most come (Rattle.cf_rounds.specs.Streams.course_of stream)) (sym terms)
        here.at.come;
    stands = now ∙ here.at.stands;
  };
  written = here.written;
}

-- Why a record is turned away, by other rounds of these terms.
pub turned_by : (m n : RoundsValue) (rows : List RowValue) (row : RowValue) (why : Refusal) → IsSetAs m n → IsTurnedAway n rows row why
    → IsTurnedAway m rows row why
turned_by m n rows row why set (IsTurnedAway.full low is) = let limit = set.limit in IsTurnedAway.full (low ∙ limit) (is ∙ ap refusals.Full limit)
turned_by m n rows row why set (IsTurnedAway.nodes low is nodes) =
    let limit = set.limit in
    IsTurnedAway.nodes (omega (arith, low, limit))
    (ap (λ (t : Terms). is_refused t.shape (window t.shape t.most rows) row) (sym set.terms) ∙ is)
    (nodes ∙ ap (λ (t : Terms). refusals.Nodes (t.shape).nodes) set.terms)

-- Some have gone in, and more come.
module _ (m n : RoundsValue) (xs : List RowValue) (h k : Option (List ℕ)) (set : IsSetAs m n) (gone : HaveAllGone m xs h n k) where
  -- behind the records of before, and behind the first of these
  module _ (come : List RowValue) (stream : Stream) (first : Option (List ℕ)) (here : IsHere m come stream first h) where
    abbrev pub mid : Stream
    mid = through m.terms stream xs

    pub there : IsHere n (come ++ xs) mid first k
    there = (gone come stream first here).0

    joined : (ys : List RowValue) → through n.terms mid ys ≡ through m.terms stream (xs ++ ys)
    joined ys = ap (λ (t : Terms). through t mid ys) set.terms ∙ through_append m.terms stream xs ys

    pub taken_more : (ys : List RowValue) → AreTakenBehind n (come ++ xs) mid ys → AreTakenBehind m come stream (xs ++ ys)
    taken_more ys behind =
        let limit = set.limit in
        let few = behind.0 in
        let size : length (come ++ (xs ++ ys)) ≡ length ((come ++ xs) ++ ys) = ap (λ (rs : List RowValue). length rs) (sym (append_assoc come xs ys)) in
        let segments = segments_through m.terms stream xs in
        let more = subst (λ (t : Terms). AreTakenFrom t.shape t.most (mid.now).segments ys) set.terms behind.1 in (
          omega (arith, few, size, limit),
          took_append (m.terms).shape (m.terms).most (stream.now).segments xs ys (gone come stream first here).1.1
              (subst (λ (ss : List (List RowValue)). AreTakenFrom (m.terms).shape (m.terms).most ss ys) segments more),
        )

  pub all_more : (o : RoundsValue) (ys : List RowValue) (l : Option (List ℕ)) → HaveAllGone n ys k o l → HaveAllGone m (xs ++ ys) h o l
  all_more o ys l more come stream first here =
      let next = more (come ++ xs) (mid come stream first here) first (there come stream first here) in (
        subst (λ (rs : List RowValue). IsHere o rs (through m.terms stream (xs ++ ys)) first l) (append_assoc come xs ys)
            (subst (λ (s : Stream). IsHere o ((come ++ xs) ++ ys) s first l) (joined come stream first here ys) next.0),
        taken_more come stream first here ys next.1,
      )

  -- the rows are those, some more, and others
  module _ (rows ys zs : List RowValue) (rows_are : rows ≡ xs ++ (ys ++ zs)) where
    split : (front rest : List RowValue) → ys ≡ front ++ rest → rows ≡ (xs ++ front) ++ (rest ++ zs)
    split front rest are = rows_are ∙ (ap (λ (rs : List RowValue). xs ++ (rs ++ zs)) are ∙ simp append_assoc)

    pub part_more : (o : RoundsValue) (l : Option (List ℕ)) (why : Refusal) → HavePartGone n ys k o l why → HavePartGone m rows h o l why
    part_more o l why part = record {
      front = xs ++ part.front;
      rest = part.rest ++ zs;
      row = part.row;
      rows_are = split part.front (part.row ∷ part.rest) part.rows_are;
      gone = all_more o part.front l part.gone;
      turned = λ come stream first here.
          subst (λ (rs : List RowValue). IsTurnedAway m rs part.row why) (append_assoc come xs part.front)
          (turned_by m n ((come ++ xs) ++ part.front) part.row why set
          (part.turned (come ++ xs) (mid come stream first here) first (there come stream first here)));
    }

    said_more : (stream : Stream) (rest : List RowValue) (said : List ℕ) → HasSaidBefore m.terms stream rest said → HasSaidBefore m.terms stream (rest ++ zs) said
    said_more stream [] said is = nothing zs is
      where
        nothing : (zs : List RowValue) → said ≡ stream.text → HasSaidBefore m.terms stream zs said
        nothing [] is = is
        nothing (z ∷ zs) is = inl is
    said_more stream (row ∷ rest) said is = is

    module _ (l : Option (List ℕ)) (ending : Ending) (come : List RowValue) (stream : Stream) (first : Option (List ℕ))
        (here : IsHere m come stream first h) where
      abbrev at : List RowValue → Stream
      at front = through m.terms stream (xs ++ front)

      ends_by : EndsAmong n ys (come ++ xs) (mid come stream first here) first l ending → EndsAmong m rows come stream first l ending
      ends_by (turned front rest row why are behind away is appends) =
          turned (xs ++ front) (rest ++ zs) row why (split front (row ∷ rest) are) (taken_more come stream first here front behind)
          (subst (λ (rs : List RowValue). IsTurnedAway m rs row why) (append_assoc come xs front) (turned_by m n ((come ++ xs) ++ front) row why set away)) is
          (subst (λ (s : Stream). Appends first l (halted_text m.terms s (line_of why))) (joined come stream first here front)
          (subst (λ (t : Terms). Appends first l (halted_text t (through n.terms (mid come stream first here) front) (line_of why))) set.terms appends))
      ends_by (turned_cut front rest row why are behind away is past) =
          turned_cut (xs ++ front) (rest ++ zs) row why (split front (row ∷ rest) are) (taken_more come stream first here front behind)
          (subst (λ (rs : List RowValue). IsTurnedAway m rs row why) (append_assoc come xs front) (turned_by m n ((come ++ xs) ++ front) row why set away)) is
          (subst (λ (s : Stream). WritesPast first l s.text (halted_text m.terms s (line_of why))) (joined come stream first here front)
          (subst (λ (t : Terms). WritesPast first l (through n.terms (mid come stream first here) front).text
          (halted_text t (through n.terms (mid come stream first here) front) (line_of why))) set.terms past))
      ends_by (forced_cut front rest row are behind forced is past) =
          forced_cut (xs ++ front) (rest ++ zs) row (split front (row ∷ rest) are) (taken_more come stream first here front behind)
          (ap₂ (λ (t : Terms) (s : Stream). forces t s.now row) (sym set.terms) (sym (joined come stream first here front)) ∙ forced) is
          (subst (λ (s : Stream). WritesPast first l s.text (with_round m.terms false s).text) (joined come stream first here front)
          (subst (λ (t : Terms). WritesPast first l (through n.terms (mid come stream first here) front).text
          (with_round t false (through n.terms (mid come stream first here) front)).text) set.terms past))
      ends_by (lost front rest said are behind is before appends) =
          lost (xs ++ front) (rest ++ zs) said (split front rest are) (taken_more come stream first here front behind) is
          (said_more (at front) rest said
          (subst (λ (s : Stream). HasSaidBefore m.terms s rest said) (joined come stream first here front)
          (subst (λ (t : Terms). HasSaidBefore t (through n.terms (mid come stream first here) front) rest said) set.terms before))) appends

    pub ends_more : (l : Option (List ℕ)) (ending : Ending) → HaveEndedAmong n ys k l ending → HaveEndedAmong m rows h l ending
    ends_more l ending ends come stream first here =
        ends_by l ending come stream first here (ends (come ++ xs) (mid come stream first here) first (there come stream first here))

split_row : {A : Type 0} (xs : List A) (k : ℕ) (x : A) → k < length xs → x ≡ slice_index_or xs k x → xs ≡ take k xs ++ ((x ∷ []) ++ drop (suc k) xs)
split_row [] k x low is = absurd (omega (arith, low))
split_row (y ∷ ys) zero x low is = ap (λ (z : _). z ∷ ys) (sym is)
split_row (y ∷ ys) (suc k) x low is = ap (λ (zs : List _). y ∷ zs) (split_row ys k x (omega (arith, low)) is)

-- As many rows of a read have gone in, and one more comes.
module _ (m n : RoundsValue) (rows : List RowValue) (k : ℕ) (row : RowValue) (h l : Option (List ℕ)) (set : IsSetAs m n)
    (gone : HaveAllGone m (take k rows) h n l) (low : k < length rows) (is : row ≡ slice_index_or rows k row) where
  pub row_gone : (o : RoundsValue) (l' : Option (List ℕ)) → HaveAllGone n (row ∷ []) l o l' → HaveAllGone m (take (k + 1) rows) h o l'
  row_gone o l' more =
      let all : take (k + 1) rows ≡ take k rows ++ row ∷ [] = take_more rows k row low ∙ ap (λ (r : RowValue). take k rows ++ r ∷ []) (sym is) in
      subst (λ (rs : List RowValue). HaveAllGone m rs h o l') (sym all) (all_more m n (take k rows) h l set gone o (row ∷ []) l' more)

  pub row_away : (o : RoundsValue) (l' : Option (List ℕ)) (why : Refusal) → HavePartGone n (row ∷ []) l o l' why → HavePartGone m rows h o l' why
  row_away o l' why part =
      part_more m n (take k rows) h l set gone rows (row ∷ []) (drop (suc k) rows) (split_row rows k row low is) o l' why part

  pub row_ends : (l' : Option (List ℕ)) (ending : Ending) → HaveEndedAmong n (row ∷ []) l l' ending → HaveEndedAmong m rows h l' ending
  row_ends l' ending ends =
      ends_more m n (take k rows) h l set gone rows (row ∷ []) (drop (suc k) rows) (split_row rows k row low is) l' ending ends

-- All have gone in.
pub all_gone : (m n : RoundsValue) (rows : List RowValue) (k : ℕ) (h l : Option (List ℕ)) → HaveAllGone m (take k rows) h n l → length rows ≤ k
    → HaveAllGone m rows h n l
all_gone m n rows k h l gone end = subst (λ (rs : List RowValue). HaveAllGone m rs h n l) (take_all k rows end) gone

-- what an error says
pub err_gone : (m o : RoundsValue) (rows : List RowValue) (held kept : Option (List ℕ)) (r : Result (Option Refusal) Ending) (ending : Ending)
    → HaveEndedAmong m rows held kept ending → IsErrAnd r (λ e. e ≡ ending) → HaveGone m rows held o kept r
err_gone m o rows held kept (Ok found) ending ends is = absurd is
err_gone m o rows held kept (Err e) ending ends is = subst (λ (x : Ending). HaveEndedAmong m rows held kept x) (sym is) ends

-- What came of one row.
module _ (m : RoundsValue) (row : RowValue) (held : Option (List ℕ)) (within : (m.now).count ≤ m.limit) where
  taken_one : (come : List RowValue) (stream : Stream) → IsAt m come stream → (m.now).count < m.limit
      → is_refused (m.terms).shape (m.now).segments row ≡ false → AreTakenBehind m come stream (row ∷ [])
  taken_one come stream at low free =
      let count = count_at m come stream at in
      let size = length-append come (row ∷ []) in (
        omega (arith, count, size, low),
        (ap (λ (now : Standing). is_refused (m.terms).shape now.segments row) (sym at.stands) ∙ free, tt),
      )

  pub one_gone : (o : RoundsValue) → HasAnswered m row o taken.Gone → HaveAllGone m (row ∷ []) held o held
  one_gone o has come stream first here = (
    subst (λ (r : RoundsValue). IsHere r (come ++ row ∷ []) (comes m.terms stream row) first held) (sym has.3) (record {
      at = at_free m come stream here.at row has.2;
      written = subst (λ (t : List ℕ). Appends first held t) (sym (free_says m come stream here.at row has.2)) here.written;
    }),
    taken_one come stream here.at has.0 has.1,
  )

  stays_gone : (o : RoundsValue) → o.terms ≡ m.terms → o.now ≡ m.now → HaveAllGone m [] held o held
  stays_gone o terms now come stream first here =
      let none = none_gone m held within come stream first here in
      (here_as m o (come ++ []) stream first held terms now none.0, none.1)

  pub one_full : (o : RoundsValue) (most : ℕ) → HasAnswered m row o taken.Full → most ≡ (o.now).count → HavePartGone m (row ∷ []) held o held (refusals.Full most)
  one_full o most has count = record {
    front = [];
    rest = [];
    row = row;
    rows_are = refl;
    gone = stays_gone o (ap (λ (r : RoundsValue). r.terms) has.1) (ap (λ (r : RoundsValue). r.now) has.1);
    turned = λ come stream first here.
        (let all = count_at m come stream here.at in
        let size : length (come ++ []) ≡ length come = ap (λ (rs : List RowValue). length rs) (append-nil come) in
        let high = has.0 in
        let low = within in
        let same = ap (λ (r : RoundsValue). (r.now).count) has.1 in
        let limit : most ≡ m.limit = omega (arith, count, same, high, low) in
        IsTurnedAway.full (omega (arith, all, size, high, low)) (ap refusals.Full limit));
  }

  pub one_no_nodes : (o : RoundsValue) (nodes : ℕ) → HasAnswered m row o taken.NoNodes → nodes ≡ ((o.terms).shape).nodes
      → HavePartGone m (row ∷ []) held o held (refusals.Nodes nodes)
  one_no_nodes o nodes has same = record {
    front = [];
    rest = [];
    row = row;
    rows_are = refl;
    gone = stays_gone o (ap (λ (r : RoundsValue). r.terms) has.2) (ap (λ (r : RoundsValue). r.now) has.2);
    turned = λ come stream first here.
        (let all = count_at m come stream here.at in
        let size : length (come ++ []) ≡ length come = ap (λ (rs : List RowValue). length rs) (append-nil come) in
        let low = has.0 in
        let segments : (m.now).segments ≡ window (m.terms).shape (m.terms).most (come ++ []) =
        ap (λ (now : Standing). now.segments) here.at.stands
        ∙ (here.at.come.segments ∙ ap (window (m.terms).shape (m.terms).most) (sym (append-nil come))) in
        IsTurnedAway.nodes (omega (arith, all, size, low))
        (ap (λ (ss : List (List RowValue)). is_refused (m.terms).shape ss row) (sym segments) ∙ has.1)
        (ap refusals.Nodes (same ∙ ap (λ (r : RoundsValue). ((r.terms).shape).nodes) has.2)));
  }

  -- memory ran out before it
  pub one_lost : HaveEndedAmong m (row ∷ []) held held (Stopped stops.Memory)
  one_lost come stream first here =
      lost [] (row ∷ []) stream.text refl (none_gone m held within come stream first here).1 refl (inl refl) here.written

  -- A round has to come before it.
  module _ (mid : RoundsValue) (waits : WaitsFor m row mid) where
    mid_terms : mid.terms ≡ m.terms
    mid_terms = ap (λ (r : RoundsValue). r.terms) waits.same

    mid_now : mid.now ≡ m.now
    mid_now = ap (λ (r : RoundsValue). r.now) waits.same

    said_is : (line : List ℕ) → said_by false mid line ≡ round_text m.terms false m.now ++ line
    said_is line = ap₂ (λ (t : Terms) (now : Standing). round_text t false now ++ line) mid_terms mid_now

    small_free : (a b : Bool) → b ≡ true → not a && not b ≡ false
    small_free true b is = refl
    small_free false b is = ap not is

    -- what the round said is written
    made_here : (come : List RowValue) (stream : Stream) (first kept : Option (List ℕ)) → IsHere m come stream first held
        → Appends held kept (said_by false mid []) → Appends first kept (with_round m.terms false stream).text
    made_here come stream first kept here appends =
        subst (λ (t : List ℕ). Appends first kept t) (sym (round_says m come stream here.at false))
        (Appends-trans first held kept stream.text (round_text m.terms false m.now) here.written
        (subst (λ (t : List ℕ). Appends held kept t) (said_is [] ∙ append-nil (round_text m.terms false m.now)) appends))

    forced_at : (stream : Stream) (come : List RowValue) → IsAt m come stream → forces m.terms stream.now row ≡ true
    forced_at stream come at = ap (λ (now : Standing). forces m.terms now row) (sym at.stands) ∙ waits.forced

    pub waited_gone : (told o : RoundsValue) (kept : Option (List ℕ)) (done : Unit {0}) → TellsRound false mid [] told held kept (Ok done)
        → o ≡ record told { now = after_record told.terms told.now row; is_spent = false } → HaveAllGone m (row ∷ []) held o kept
    waited_gone told o kept done tells is come stream first here =
        let told_terms : told.terms ≡ m.terms = ap (λ (r : RoundsValue). r.terms) tells.0 ∙ mid_terms in
        let told_now : told.now ≡ after_round m.terms false m.now =
        ap (λ (r : RoundsValue). r.now) tells.0 ∙ ap₂ (λ (t : Terms) (now : Standing). after_round t false now) mid_terms mid_now in
        let o_terms : o.terms ≡ m.terms = ap (λ (r : RoundsValue). r.terms) is ∙ told_terms in
        let o_now : o.now ≡ after_record m.terms (after_round m.terms false m.now) row =
        ap (λ (r : RoundsValue). r.now) is ∙ ap₂ (λ (t : Terms) (now : Standing). after_record t now row) told_terms told_now in
        let end : RoundsValue = record m { now = after_record m.terms (after_round m.terms false m.now) row; is_spent = false } in (
          here_as end o (come ++ row ∷ []) (comes m.terms stream row) first kept o_terms o_now (record {
            at = at_forced m come stream here.at row waits.forced;
            written = subst (λ (t : List ℕ). Appends first kept t) (sym (forced_says m come stream here.at row waits.forced))
                (made_here come stream first kept here tells.1);
          }),
          taken_one come stream here.at waits.few
              (small_free (goes_in (m.terms).shape (m.now).segments row) (is_small (m.terms).shape row) waits.small),
        )

    -- memory ran out behind the round
    pub waited_lost : (told : RoundsValue) (kept : Option (List ℕ)) (done : Unit {0}) → TellsRound false mid [] told held kept (Ok done)
        → HaveEndedAmong m (row ∷ []) held kept (Stopped stops.Memory)
    waited_lost told kept done tells come stream first here =
        lost [] (row ∷ []) (with_round m.terms false stream).text refl (none_gone m held within come stream first here).1 refl
        (inr (forced_at stream come here.at, refl)) (made_here come stream first kept here tells.1)

    -- or the round was not written whole
    pub waited_ends : (told : RoundsValue) (kept : Option (List ℕ)) (ending : Ending) → TellsRound false mid [] told held kept (Err ending)
        → HaveEndedAmong m (row ∷ []) held kept ending
    waited_ends told kept Done tells = absurd tells
    waited_ends told kept (Refused why) tells = absurd tells
    waited_ends told kept (Stopped stops.ReadFault) tells = absurd tells
    waited_ends told kept (Stopped stops.Memory) tells = λ come stream first here.
        lost [] (row ∷ []) stream.text refl (none_gone m held within come stream first here).1 refl (inl refl)
        (appends_kept first held kept stream.text here.written tells)
    waited_ends told kept Unwritten tells = λ come stream first here.
        forced_cut [] [] row refl (none_gone m held within come stream first here).1 (forced_at stream come here.at) refl
        (record {
          told = held;
          more = said_by false mid [];
          text_is = round_says m come stream here.at false
              ∙ ap (λ (t : List ℕ). stream.text ++ t) (sym (said_is [] ∙ append-nil (round_text m.terms false m.now)));
          before = here.written;
          front = tells;
        })

-- A read is heard.
module _ (m n : RoundsValue) (rows : List RowValue) (held told : Option (List ℕ)) (set : IsSetAs m n) where
  -- all its rows have gone in, and the round behind them is made
  module _ (gone : HaveAllGone m rows held n told) where
    said_round : (stream : Stream) (come : List RowValue) → IsAt n (come ++ rows) (through m.terms stream rows) → (line : List ℕ)
        → (with_round m.terms false (through m.terms stream rows)).text ++ line ≡ (through m.terms stream rows).text ++ said_by false n line
    said_round stream come at line =
        ap (λ (t : List ℕ). t ++ line)
        (ap (λ (t : Terms). (with_round t false (through m.terms stream rows)).text) (sym set.terms)
        ∙ round_says n (come ++ rows) (through m.terms stream rows) at false)
        ∙ append_assoc (through m.terms stream rows).text (round_text n.terms false n.now) line

    pub hears_all : (o : RoundsValue) (kept : Option (List ℕ)) (result : Result (Unit {0}) Ending) → TellsRound false n [] o told kept result
        → Hears m rows held o kept result
    hears_all o kept (Ok done) tells = λ come stream first here.
        (let all = gone come stream first here in
        let at = at_round n (come ++ rows) (through m.terms stream rows) (all.0).at false in
        let text = sym (append-nil (with_round m.terms false (through m.terms stream rows)).text) ∙ said_round stream come (all.0).at [] in (
          subst (λ (r : RoundsValue). IsHere r (come ++ rows) (with_round m.terms false (through m.terms stream rows)) first kept) (sym tells.0) (record {
            at = subst (λ (t : Terms). IsAt (with_made false n) (come ++ rows) (with_round t false (through m.terms stream rows))) set.terms at;
            written = subst (λ (t : List ℕ). Appends first kept t) (sym text)
                (Appends-trans first told kept (through m.terms stream rows).text (said_by false n []) (all.0).written tells.1);
          }),
          all.1,
        ))
    hears_all o kept (Err Done) tells = absurd tells
    hears_all o kept (Err (Refused why)) tells = absurd tells
    hears_all o kept (Err (Stopped stops.ReadFault)) tells = absurd tells
    hears_all o kept (Err (Stopped stops.Memory)) tells = λ come stream first here.
        (let all = gone come stream first here in
        inl (lost rows [] (through m.terms stream rows).text (sym (append-nil rows)) all.1 refl refl
        (appends_kept first told kept (through m.terms stream rows).text (all.0).written tells)))
    hears_all o kept (Err Unwritten) tells = λ come stream first here.
        (let all = gone come stream first here in
        inr (
          all.1,
          refl,
          record {
            told = told;
            more = said_by false n [];
            text_is = sym (append-nil (with_round m.terms false (through m.terms stream rows)).text) ∙ said_round stream come (all.0).at [];
            before = (all.0).written;
            front = tells;
          },
        ))

  -- one of them is turned away
  module _ (why : Refusal) (part : HavePartGone m rows held n told why) where
    said_last : (stream : Stream) (come : List RowValue) → IsAt n (come ++ part.front) (through m.terms stream part.front)
        → halted_text m.terms (through m.terms stream part.front) (line_of why) ≡ (through m.terms stream part.front).text ++ said_by true n (line_of why)
    said_last stream come at =
        ap (λ (t : List ℕ). t ++ line_of why)
        (ap (λ (t : Terms). (with_round t true (through m.terms stream part.front)).text) (sym set.terms)
        ∙ round_says n (come ++ part.front) (through m.terms stream part.front) at true)
        ∙ append_assoc (through m.terms stream part.front).text (round_text n.terms true n.now) (line_of why)

    pub hears_part : (o : RoundsValue) (kept : Option (List ℕ)) (ending : Ending) → Refuses n why told kept ending → Hears m rows held o kept (Err ending)
    hears_part o kept Done refuses = absurd refuses
    hears_part o kept (Refused other) refuses = λ come stream first here.
        (let all = part.gone come stream first here in
        inl (turned part.front part.rest part.row why part.rows_are all.1 (part.turned come stream first here) (ap Refused refuses.0)
        (subst (λ (t : List ℕ). Appends first kept t) (sym (said_last stream come (all.0).at))
        (Appends-trans first told kept (through m.terms stream part.front).text (said_by true n (line_of why)) (all.0).written refuses.1))))
    hears_part o kept (Stopped stops.ReadFault) refuses = absurd refuses
    hears_part o kept (Stopped stops.Memory) refuses = λ come stream first here.
        (let all = part.gone come stream first here in
        inl (lost part.front (part.row ∷ part.rest) (through m.terms stream part.front).text part.rows_are all.1 refl (inl refl)
        (appends_kept first told kept (through m.terms stream part.front).text (all.0).written refuses)))
    hears_part o kept Unwritten refuses = λ come stream first here.
        (let all = part.gone come stream first here in
        inl (turned_cut part.front part.rest part.row why part.rows_are all.1 (part.turned come stream first here) refl (record {
          told = told;
          more = said_by true n (line_of why);
          text_is = said_last stream come (all.0).at;
          before = (all.0).written;
          front = refuses;
        })))

  pub hears_ends : (o : RoundsValue) (ending : Ending) → HaveEndedAmong m rows held told ending → Hears m rows held o told (Err ending)
  hears_ends o ending ends = λ come stream first here. inl (ends come stream first here)

-- The shelf failed.
pub stops_told : (m n : RoundsValue) (held kept : Option (List ℕ)) (done : Unit {0}) → TellsRound true m [] n held kept (Ok done)
    → StopsAfterRound m held kept (Stopped stops.ReadFault)
stops_told m n held kept done tells = tells.1

pub stops_untold : (m n : RoundsValue) (held kept : Option (List ℕ)) (ending : Ending) → TellsRound true m [] n held kept (Err ending)
    → StopsAfterRound m held kept ending
stops_untold m n held kept Done tells = tells
stops_untold m n held kept (Refused why) tells = absurd tells
stops_untold m n held kept (Stopped stops.ReadFault) tells = absurd tells
stops_untold m n held kept (Stopped stops.Memory) tells = tells
stops_untold m n held kept Unwritten tells = tells
