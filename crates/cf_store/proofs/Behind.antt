-- What a question finds in logs that stand one behind the other.
use Rattle.std.proofs.Common.{◌≡◌, ◌∙◌, ◌<◌, ◌≤◌, ◌+◌, ◌*◌, ◌^◌, ℕ, zero, suc, List, [], ◌∷◌, ◌++◌, length, get_or, set, All, refl, sym, ap, ap₂, subst, arith, length-append}
use Rattle.std.specs.Arc.{arc_value}
use Rattle.std.specs.List.{AllZip}
use Rattle.std.proofs.lemmas.List.{length-map, map-append}
use Rattle.std.proofs.lemmas.List.Elements.{All-head, All-tail, All-weaker, AllZip-get_or, length_all_zip}
use Rattle.cf_row.specs.declared.row.Entry.{Entry}
use Rattle.cf_shape.specs.Lanes.{ShapeValue}
use Rattle.cf_plain.specs.declared.ask.Ask.{Ask}
use Rattle.cf_plain.specs.declared.finding.Finding.{Finding}
use Rattle.cf_plain.specs.Asks.{Suits, rows_in}
use Rattle.cf_plain.specs.Segments.{CanJoin, finding_in, joined}
use Rattle.cf_plain.proofs.Joined.{findings_can_join, findings_join}
use Rattle.cf_table.specs.Values.{PassValue}
use Rattle.cf_query.proofs.Walked.{walked_none, walked_then}
use Rattle.cf_store.specs.Reports.{HasWalked}
use Rattle.cf_store.specs.Spans.{AllLike, AreLike}
use Rattle.cf_store.specs.Ends.{AreBehind, Walks, seen_upto}
use Rattle.cf_store.specs.declared.held.Reader.{Reader}
use Rattle.cf_store.specs.declared.held.Shared.{Shared}
use Rattle.cf_store.proofs.Spanned.{upto_more}

-- no more is seen of a log than it takes
abbrev pub IsShort : ℕ → Reader → Type 0
IsShort capacity reader = length (reader.pass.view).seen ≤ capacity

pub all_short : (shared : Shared) (others : List Reader) → AllLike shared others → All (IsShort shared.log.shape.capacity) others
all_short shared others like =
    All-weaker (λ (r : Reader). AreLike shared (arc_value r.of)) (IsShort shared.log.shape.capacity)
    (λ r alike. subst (λ (s : ShapeValue). length (r.pass.view).seen ≤ s.capacity) alike.shape r.aware.few) others like

pub upto_few : (capacity : ℕ) (first : PassValue) (others : List Reader) (i : ℕ) → length (first.view).seen ≤ capacity → All (IsShort capacity) others
    → length (seen_upto first others i) ≤ (length others + 1) * capacity
upto_few capacity first others zero short all = omega (arith, short)
upto_few capacity first [] (suc i) short all = omega (arith, short)
upto_few capacity first (r ∷ others) (suc i) short all =
    let both = length-append (first.view).seen (seen_upto r.pass others i) in
    let rest = upto_few capacity r.pass others i (All-head (IsShort capacity) r others all) (All-tail (IsShort capacity) r others all) in
    omega (arith, short, both, rest)

pub behind_few : (shared : Shared) (first : PassValue) (others : List Reader) (i : ℕ) → AreBehind shared first others
    → length (seen_upto first others i) ≤ 2 ^ 20
behind_few shared first others i behind =
    let most = upto_few shared.log.shape.capacity first others i behind.reading.few (all_short shared others behind.like) in
    let few = behind.few in
    omega (arith, most, few)

-- readers that only walk see as much
pub seen_same : (m n : Reader) → Walks m n → (n.pass.view).seen ≡ (m.pass.view).seen
seen_same m n walked = ap (λ (h : PassValue). (h.view).seen) walked.walked.same

pub walked_twice : (l m n : Reader) → Walks l m → Walks m n → Walks l n
walked_twice l m n one two = record { of = two.of ∙ one.of; walked = walked_then l.pass m.pass n.pass one.walked two.walked }

pub walks : (m n : Reader) → HasWalked m n → Walks m n
walks m n has = record { of = has.of; walked = has.walked }

pub stays : (r : Reader) → Walks r r
stays r = record { of = refl; walked = walked_none r.pass }

pub all_stay : (rs : List Reader) → AllZip Walks rs rs
all_stay [] = tt
all_stay (r ∷ rs) = (stays r, all_stay rs)

pub walked_more : (ls ms : List Reader) (k : ℕ) (d n : Reader) → AllZip Walks ls ms → k < length ms → Walks (get_or ms k d) n
    → AllZip Walks ls (set ms k n)
walked_more [] [] k d n all lt one = absurd (omega (arith, lt))
walked_more [] (m ∷ ms) k d n all lt one = absurd all
walked_more (l ∷ ls) [] k d n all lt one = absurd all
walked_more (l ∷ ls) (m ∷ ms) zero d n all lt one = (walked_twice l m n all.0 one, all.1)
walked_more (l ∷ ls) (m ∷ ms) (suc k) d n all lt one = (all.0, walked_more ls ms k d n all.1 (omega (arith, lt)) one)

-- the question suits the log of each reader
pub suits_each : (shared : Shared) (ask : Ask) (ls ms : List Reader) (k : ℕ) (d : Reader) → AllLike shared ls → AllZip Walks ls ms → k < length ms
    → Suits shared.log.shape ask → Suits (arc_value (get_or ms k d).of).log.shape ask
suits_each shared ask ls ms k d like walked lt suits =
    let same = length_all_zip Walks ls ms walked in
    let at = like k d (omega (arith, same, lt)) in
    let of = (AllZip-get_or Walks ls ms k d d walked (omega (arith, same, lt))).of in
    subst (λ (s : Shared). Suits s.log.shape ask) (ap arc_value (sym of)) (subst (λ (s : ShapeValue). Suits s ask) (sym at.shape) suits)

rows_append : (xs ys : List Entry) → rows_in (xs ++ ys) ≡ rows_in xs ++ rows_in ys
rows_append xs ys = map-append (λ (e : Entry). e.row) xs ys

rows_long : (xs : List Entry) → length (rows_in xs) ≡ length xs
rows_long xs = length-map xs (λ (e : Entry). e.row)

module _ (shape : ShapeValue) (ask : Ask) (xs ys zs : List Entry) (count : ℕ) (found more : Finding) (next : zs ≡ xs ++ ys) (few : length zs ≤ 2 ^ 20)
    (count_is : count ≡ length xs) (found_is : found ≡ finding_in shape ask (rows_in xs)) (more_is : more ≡ finding_in shape ask (rows_in ys)) where
  pub count_next : count + length ys ≡ length zs
  count_next =
      let a = length-append xs ys in
      let b = ap (λ (es : List Entry). length es) next in
      omega (arith, a, b, count_is)

  from_rows : count ≡ length (rows_in xs)
  from_rows = count_is ∙ sym (rows_long xs)

  pub can : CanJoin count found more
  can =
      let a = count_next in
      let b = rows_long xs in
      let c = rows_long ys in
      rw (from_rows, found_is, more_is) (findings_can_join shape ask (rows_in xs) (rows_in ys) (omega (arith, a, b, c, few, count_is)))

  pub found_next : (both : Finding) → both ≡ joined count found more → both ≡ finding_in shape ask (rows_in zs)
  found_next both is =
      is ∙ (rw (from_rows, found_is, more_is) (findings_join shape ask (rows_in xs) (rows_in ys))
      ∙ ap (finding_in shape ask) (sym (ap rows_in next ∙ rows_append xs ys)))

-- one reader more is asked
module _ (shared : Shared) (ask : Ask) (first : PassValue) (others now : List Reader) (k : ℕ) (d : Reader) (behind : AreBehind shared first others)
    (walked : AllZip Walks others now) (low : k < length now) (count : ℕ) (found : Finding) (tail : ℕ) (more : Finding)
    (count_is : count ≡ length (seen_upto first others k)) (found_is : found ≡ finding_in shared.log.shape ask (rows_in (seen_upto first others k)))
    (tail_is : tail ≡ length ((get_or now k d).pass.view).seen)
    (more_is : more ≡ finding_in (arc_value (get_or now k d).of).log.shape ask (rows_in ((get_or now k d).pass.view).seen)) where
  there : k < length others
  there = let same = length_all_zip Walks others now walked in omega (arith, same, low)

  one : Walks (get_or others k d) (get_or now k d)
  one = AllZip-get_or Walks others now k d d walked there

  abbrev here : List Entry
  here = ((get_or others k d).pass.view).seen

  seen : ((get_or now k d).pass.view).seen ≡ here
  seen = seen_same (get_or others k d) (get_or now k d) one

  shape_is : (arc_value (get_or now k d).of).log.shape ≡ shared.log.shape
  shape_is = ap (λ (s : Shared). s.log.shape) (ap arc_value one.of) ∙ (behind.like k d there).shape

  next : seen_upto first others (k + 1) ≡ seen_upto first others k ++ here
  next = (let e : k + 1 ≡ suc k = omega arith in ap (seen_upto first others) e) ∙ upto_more first others k d there

  more_here : more ≡ finding_in shared.log.shape ask (rows_in here)
  more_here = more_is ∙ ap₂ (λ (s : ShapeValue) (es : List Entry). finding_in s ask (rows_in es)) shape_is seen

  pub step_count : count + tail ≡ length (seen_upto first others (k + 1))
  step_count =
      ap (λ (n : ℕ). count + n) (tail_is ∙ ap (λ (es : List Entry). length es) seen)
      ∙ count_next shared.log.shape ask (seen_upto first others k) here (seen_upto first others (k + 1)) count found more next
      (behind_few shared first others (k + 1) behind) count_is found_is more_here

  pub step_few : count + tail ≤ 2 ^ 20
  step_few =
      let all = step_count in
      let few = behind_few shared first others (k + 1) behind in
      omega (arith, all, few)

  pub step_can : CanJoin count found more
  step_can =
      can shared.log.shape ask (seen_upto first others k) here (seen_upto first others (k + 1)) count found more next
      (behind_few shared first others (k + 1) behind) count_is found_is more_here

  pub step_found : (both : Finding) → both ≡ joined count found more → both ≡ finding_in shared.log.shape ask (rows_in (seen_upto first others (k + 1)))
  step_found both is =
      found_next shared.log.shape ask (seen_upto first others k) here (seen_upto first others (k + 1)) count found more next
      (behind_few shared first others (k + 1) behind) count_is found_is more_here both is
