-- The live answers of a reader beside the writers, batch by batch.
use Rattle.std.proofs.Common.{◌≡◌, ℕ, ◌+◌, ◌*◌, ◌<◌, ◌≤◌, List, [], ◌∷◌, ◌++◌, length, get_or, take, map, refl, sym, ap, ap₂, subst, ◌∙◌, arith, append_assoc}
use Rattle.std.proofs.Math.Seq.{take-length}
use Rattle.std.proofs.lemmas.List.{append-nil, map-append, map-id, map_push, take-take, take_more, flat_map_more}
use Rattle.std.proofs.lemmas.List.FromFn.{map-range_with_len_more}
use Rattle.std.specs.List.{flat_map, range_with_len, AllByRecursion}
use Rattle.cf_row.specs.declared.row.Entry.{Entry}
use Rattle.cf_plain.specs.History.{NeverFall}
use Rattle.cf_plain.specs.Tails.{Turn, turns_of, batches_of, IsWithinBatch}
use Rattle.cf_shape.specs.Lanes.{ShapeValue}
use Rattle.cf_plain.specs.Asks.{eval}
use Rattle.cf_plain.specs.declared.ask.Ask.{Ask}
use Rattle.cf_plain.specs.declared.answer.Body.{Body}
use Rattle.cf_plain.specs.declared.loaded.Live.{Live}
use Rattle.cf_plain.specs.Answered.{no_ask, turn_of}
use Rattle.cf_table.specs.Moves.{Begins}
use Rattle.cf_table.proofs.Settling.{begins_then, begins_long}
use Rattle.cf_segments.proofs.Alls.{every, all_append, all_weaker, all_both, all_map, all_unmap, all_flat}
use Rattle.cf_load.specs.Loading.{AsksBatch, AsksSome, HasAnswered}

-- what is made of what was made
pub map_map : {X Y Z : Type 0} (f : Y → Z) (g : X → Y) (xs : List X) → map f (map g xs) ≡ map (λ x. f (g x)) xs
map_map f g [] = refl
map_map f g (x ∷ xs) = ap (λ ys. f (g x) ∷ ys) (map_map f g xs)

-- of nothing alone nothing is made
pub none_mapped : {X Y : Type 0} (f : X → Y) (xs : List X) → map f xs ≡ [] → xs ≡ []
none_mapped f [] none = refl
none_mapped f (x ∷ xs) none = absurd (cc none)

-- numbers that never fall, and then more that are no less than any of them
pub rise_append : (low : ℕ) (ns ms : List ℕ) → NeverFall ns → NeverFall ms → AllByRecursion (λ n. n ≤ low) ns → AllByRecursion (λ m. low ≤ m) ms
    → NeverFall (ns ++ ms)
rise_append low [] ms first then below above = then
rise_append low (n ∷ ns) ms first then below above = (
  all_append (λ m. n ≤ m) ns ms first.0 (all_weaker (λ m. low ≤ m) (λ m. n ≤ m) ms (λ m le. omega (arith, le, below.0)) above),
  rise_append low ns ms first.1 then below.1 above,
)

-- the numbers from 0 on, and one more
pub range_more : (n : ℕ) → range_with_len 0 (n + 1) ≡ range_with_len 0 n ++ n ∷ []
range_more n = sym (map-id (range_with_len 0 (n + 1)))
    ∙ (map-range_with_len_more (λ k. k) 0 n n (omega arith) ∙ ap (λ ks. ks ++ n ∷ []) (map-id (range_with_len 0 n)))

-- what is made of the numbers from 0 on, and of one more
pub flat_more : {X : Type 0} (f : ℕ → List X) (n : ℕ) → flat_map f (range_with_len 0 (n + 1)) ≡ flat_map f (range_with_len 0 n) ++ f n
flat_more f n = ap (flat_map f) (range_more n) ∙ sym (flat_map_more f [] (range_with_len 0 n) n)

-- and has the same first entries
pub begins_take : (t : ℕ) (xs ys : List Entry) → t ≤ length xs → Begins xs ys → take t ys ≡ take t xs
begins_take t xs ys le begins = sym (take-take t (length xs) ys le) ∙ ap (take t) begins

module _ (meaning : Live → List Entry → Body) where
  -- each answer is what the question means on as many entries as it saw
  abbrev pub AreMeant : List Entry → List Live → Type 0
  AreMeant seen lives = AllByRecursion (λ (live : Live). live.answer.body ≡ meaning live (take live.answer.tail seen)) lives

  -- answers stay what they are when the log grows
  pub meant_wider : (xs ys : List Entry) (lives : List Live) → Begins xs ys → AllByRecursion (λ (live : Live). live.answer.tail ≤ length xs) lives
      → AreMeant xs lives → AreMeant ys lives
  meant_wider xs ys [] begins low all = tt
  meant_wider xs ys (live ∷ lives) begins low all =
      (all.0 ∙ ap (meaning live) (sym (begins_take live.answer.tail xs ys low.0 begins)), meant_wider xs ys lives begins low.1 all.1)

-- a turn, the turns of a round, and those of a batch
abbrev pub turn_in : ℕ → ℕ → ℕ → Turn
turn_in batch round ask = record { batch = batch; round = round; ask = ask }

abbrev pub round_in : ℕ → List ℕ → ℕ → List Turn
round_in batch lives round = map (λ ask. record { batch = batch; round = round; ask = ask }) lives

abbrev pub batch_in : ℕ → List ℕ → ℕ → List Turn
batch_in rounds lives batch = flat_map (λ round. map (λ ask. record { batch = batch; round = round; ask = ask }) lives) (range_with_len 0 rounds)

module _ (shape : ShapeValue) (asks : List Ask) (lives : List ℕ) where
  -- what a live question means on some entries
  abbrev pub meaning_in : Live → List Entry → Body
  meaning_in live entries = eval shape (get_or asks live.ask no_ask) entries

  -- no turn yet
  pub asks_none : (batch : ℕ) (seen : List Entry) → AsksSome shape asks lives 0 0 batch seen seen []
  asks_none batch seen = record { turns = refl; rise = tt; within = tt; bodies = tt; longer = take-length seen }

  -- what the reader did stays so when it sees more
  pub asks_wider : (round asked batch : ℕ) (before after new : List Entry) (more : List Live) → AsksSome shape asks lives round asked batch before after more
      → Begins after new → AsksSome shape asks lives round asked batch before new more
  asks_wider round asked batch before after new more some begins =
      let long = begins_long after new begins in record {
        turns = some.turns;
        rise = some.rise;
        within = all_weaker (λ (live : Live). (length before ≤ live.answer.tail) × (live.answer.tail ≤ length after))
            (λ (live : Live). (length before ≤ live.answer.tail) × (live.answer.tail ≤ length new)) more
            (λ live at. (at.0, omega (arith, at.1, long))) some.within;
        bodies = meant_wider meaning_in after new more begins
            (all_weaker (λ (live : Live). (length before ≤ live.answer.tail) × (live.answer.tail ≤ length after))
            (λ (live : Live). live.answer.tail ≤ length after) more (λ live at. at.1) some.within) some.bodies;
        longer = begins_then before after new some.longer begins;
      }

  -- the next live question of a round was asked, on all entries that the reader has seen by then
  pub asks_more : (round asked batch : ℕ) (before after new : List Entry) (more : List Live) (live : Live)
      → AsksSome shape asks lives round asked batch before after more → asked < length lives → Begins after new
      → live.batch ≡ batch → live.round ≡ round → live.ask ≡ get_or lives asked live.ask → live.answer.tail ≡ length new
      → live.answer.body ≡ eval shape (get_or asks live.ask no_ask) new
      → AsksSome shape asks lives round (asked + 1) batch before new (more ++ live ∷ [])
  asks_more round asked batch before after new more live some lt begins batch_is round_is ask_is tail_is body_is =
      let wide = asks_wider round asked batch before after new more some begins in record {
        turns = map_push (λ (l : Live). (turn_of l).0) more live
            ∙ (ap₂ (λ ts (t : Turn). ts ++ t ∷ []) some.turns turn_is
            ∙ (append_assoc (batch_in round lives batch) (round_in batch (take asked lives) round) (turn_in batch round (get_or lives asked live.ask) ∷ [])
            ∙ ap (λ ts. batch_in round lives batch ++ ts) front));
        rise = subst NeverFall (sym (map_push (λ (l : Live). l.answer.tail) more live))
            (rise_append (length new) (map (λ (l : Live). l.answer.tail) more) (live.answer.tail ∷ []) some.rise (tt, tt)
            (all_map (λ n. n ≤ length new) (λ (l : Live). l.answer.tail) more
            (all_weaker (λ (l : Live). (length before ≤ l.answer.tail) × (l.answer.tail ≤ length new)) (λ (l : Live). l.answer.tail ≤ length new) more
            (λ l at. at.1) wide.within)) (omega (arith, tail_is), tt));
        within = all_append (λ (l : Live). (length before ≤ l.answer.tail) × (l.answer.tail ≤ length new)) more (live ∷ []) wide.within
            ((omega (arith, tail_is, begins_long before new wide.longer), omega (arith, tail_is)), tt);
        bodies = all_append (λ (l : Live). l.answer.body ≡ meaning_in l (take l.answer.tail new)) more (live ∷ []) wide.bodies
            (body_is ∙ ap (meaning_in live) (sym (ap (λ t. take t new) tail_is ∙ take-length new)), tt);
        longer = wide.longer;
      }
    where
      turn_is : (turn_of live).0 ≡ turn_in batch round (get_or lives asked live.ask)
      turn_is = ap (λ b. turn_in b live.round live.ask) batch_is ∙ (ap (λ r. turn_in batch r live.ask) round_is ∙ ap (turn_in batch round) ask_is)

      front : round_in batch (take asked lives) round ++ turn_in batch round (get_or lives asked live.ask) ∷ [] ≡ round_in batch (take (asked + 1) lives) round
      front = sym (ap (map (turn_in batch round)) (take_more lives asked live.ask lt)
          ∙ map_push (turn_in batch round) (take asked lives) (get_or lives asked live.ask))

  -- all live questions of a round were asked
  pub asks_round : (round batch : ℕ) (before after : List Entry) (more : List Live) → AsksSome shape asks lives round (length lives) batch before after more
      → AsksSome shape asks lives (round + 1) 0 batch before after more
  asks_round round batch before after more some = record {
    turns = some.turns
        ∙ (ap (λ ls. batch_in round lives batch ++ round_in batch ls round) (take-length lives)
        ∙ (sym (flat_more (round_in batch lives) round) ∙ sym (append-nil (batch_in (round + 1) lives batch))));
    rise = some.rise;
    within = some.within;
    bodies = some.bodies;
    longer = some.longer;
  }

  -- the turns of a batch are of that batch
  pub of_batch : (rounds batch : ℕ) → AllByRecursion (λ (t : Turn). t.batch ≡ batch) (batch_in rounds lives batch)
  of_batch rounds batch =
      all_flat (λ (t : Turn). t.batch ≡ batch) (round_in batch lives) (range_with_len 0 rounds)
      (λ round. all_map (λ (t : Turn). t.batch ≡ batch) (turn_in batch round) lives
      (every (λ ask. (turn_in batch round ask).batch ≡ batch) lives (λ ask. refl)))

  -- with no round there is no turn, whatever the number of batches
  no_turn : (batches : List ℕ) → flat_map (batch_in 0 lives) batches ≡ []
  no_turn [] = refl
  no_turn (b ∷ bs) = no_turn bs

  -- no live answer is of no rows, and of any
  nothing_answered : (n : ℕ) (now : List Entry) → HasAnswered shape asks lives 0 n now []
  nothing_answered n now = record {
    tails = record { turns = sym (no_turn (range_with_len 0 (batches_of n))); rise = tt; within = tt };
    bodies = tt;
  }

  -- With no round, no live answer comes, and none came before.
  pub answered_none : (n b k : ℕ) (seen read now : List Entry) (answers more : List Live) → HasAnswered shape asks lives 0 n seen answers
      → AsksBatch shape asks lives 0 b seen read more → HasAnswered shape asks lives 0 (n + k) now (answers ++ more)
  answered_none n b k seen read now answers more has asked =
      subst (HasAnswered shape asks lives 0 (n + k) now) (sym (ap₂ (λ ls ms. ls ++ ms) none_before none_now)) (nothing_answered (n + k) now)
    where
      none_before : answers ≡ []
      none_before = none_mapped turn_of answers
          (none_mapped (λ (at : Turn × ℕ). at.0) (map turn_of answers) (has.tails.turns ∙ no_turn (range_with_len 0 (batches_of n))))

      none_now : more ≡ []
      none_now = none_mapped (λ (l : Live). (turn_of l).0) more asked.turns

  -- The live answers beside one more batch come after those before, which stay what they are when the log grows.
  pub answered_more : (rounds n b k : ℕ) (seen read now : List Entry) (answers more : List Live) → HasAnswered shape asks lives rounds n seen answers
      → n ≡ 4096 * b → length seen ≡ n → AsksBatch shape asks lives rounds b seen read more → Begins read now → Begins seen now → length now ≡ n + k → 0 < k
      → k ≤ 4096 → HasAnswered shape asks lives rounds (n + k) now (answers ++ more)
  answered_more rounds n b k seen read now answers more has whole long asked begins grows now_long some few = record {
    tails = record {
      turns = ap (map (λ (at : Turn × ℕ). at.0)) (map-append turn_of answers more)
          ∙ (map-append (λ (at : Turn × ℕ). at.0) (map turn_of answers) (map turn_of more)
          ∙ (ap₂ (λ ts us. ts ++ us) (has.tails.turns ∙ ap (λ c. turns_of c rounds lives) before)
          (map_map (λ (at : Turn × ℕ). at.0) turn_of more ∙ asked.turns)
          ∙ (sym (flat_more (batch_in rounds lives) b) ∙ ap (λ c. turns_of c rounds lives) (sym after))));
      rise = subst NeverFall (sym tails_are)
          (rise_append n (map (λ (at : Turn × ℕ). at.1) (map turn_of answers)) (map (λ (l : Live). l.answer.tail) more) has.tails.rise asked.rise
          (all_map (λ t. t ≤ n) (λ (at : Turn × ℕ). at.1) (map turn_of answers) below)
          (all_map (λ t. n ≤ t) (λ (l : Live). l.answer.tail) more
          (all_weaker (λ (l : Live). (length seen ≤ l.answer.tail) × (l.answer.tail ≤ length read)) (λ (l : Live). n ≤ l.answer.tail) more
          (λ l at. omega (arith, at.0, long)) asked.within)));
      within = subst (AllByRecursion (IsWithinBatch (n + k))) (sym (map-append turn_of answers more))
          (all_append (IsWithinBatch (n + k)) (map turn_of answers) (map turn_of more)
          (all_weaker (IsWithinBatch n) (IsWithinBatch (n + k)) (map turn_of answers) (λ at in'. (in'.0, omega (arith, in'.1))) has.tails.within)
          (all_map (IsWithinBatch (n + k)) turn_of more within_now));
    };
    bodies = all_append (λ (l : Live). l.answer.body ≡ meaning_in l (take l.answer.tail now)) answers more
        (meant_wider meaning_in seen now answers grows
        (all_unmap (λ (at : Turn × ℕ). at.1 ≤ length seen) turn_of answers
        (all_weaker (λ (at : Turn × ℕ). at.1 ≤ n) (λ (at : Turn × ℕ). at.1 ≤ length seen) (map turn_of answers)
        (λ at low. omega (arith, low, long)) below)) has.bodies)
        (meant_wider meaning_in read now more begins
        (all_weaker (λ (l : Live). (length seen ≤ l.answer.tail) × (l.answer.tail ≤ length read)) (λ (l : Live). l.answer.tail ≤ length read) more
        (λ l at. at.1) asked.within) asked.bodies);
  }
    where
      before : batches_of n ≡ b
      before = omega (arith, whole)

      after : batches_of (n + k) ≡ b + 1
      after = omega (arith, whole, some, few)

      tails_are : map (λ (at : Turn × ℕ). at.1) (map turn_of (answers ++ more)) ≡ map (λ (at : Turn × ℕ). at.1) (map turn_of answers) ++ map
          (λ (l : Live). l.answer.tail) more
      tails_are = ap (map (λ (at : Turn × ℕ). at.1)) (map-append turn_of answers more)
          ∙ (map-append (λ (at : Turn × ℕ). at.1) (map turn_of answers) (map turn_of more)
          ∙ ap (λ ts. map (λ (at : Turn × ℕ). at.1) (map turn_of answers) ++ ts) (map_map (λ (at : Turn × ℕ). at.1) turn_of more))

      below : AllByRecursion (λ (at : Turn × ℕ). at.1 ≤ n) (map turn_of answers)
      below = all_weaker (IsWithinBatch n) (λ (at : Turn × ℕ). at.1 ≤ n) (map turn_of answers) (λ at in'. omega (arith, in'.1)) has.tails.within

      batches : AllByRecursion (λ (l : Live). l.batch ≡ b) more
      batches = all_unmap (λ (t : Turn). t.batch ≡ b) (λ (l : Live). (turn_of l).0) more
          (subst (AllByRecursion (λ (t : Turn). t.batch ≡ b)) (sym asked.turns) (of_batch rounds b))

      within_now : AllByRecursion (λ (l : Live). IsWithinBatch (n + k) (turn_of l)) more
      within_now = all_weaker (λ (l : Live). (l.batch ≡ b) × ((length seen ≤ l.answer.tail) × (l.answer.tail ≤ length read)))
          (λ (l : Live). IsWithinBatch (n + k) (turn_of l)) more
          (λ l at. (let far = begins_long read now begins in
          (omega (arith, at.0, at.1.0, long, whole), omega (arith, at.0, at.1.1, far, now_long, whole, few))))
          (all_both (λ (l : Live). l.batch ≡ b) (λ (l : Live). (length seen ≤ l.answer.tail) × (l.answer.tail ≤ length read)) more batches asked.within)
