-- Readers that walk their logs one question after the other see the same, and a report is made of what they see.
use Rattle.std.proofs.Common.{◌≡◌, ◌∙◌, ◌<◌, ◌≤◌, ◌+◌, ◌*◌, ◌^◌, ℕ, suc, List, [], ◌∷◌, ◌++◌, length, map, take, get_or, Result, Ok, Err, Vec, IfOk, refl, sym, ap, ap₂, subst, arith}
use Rattle.std.specs.Arc.{arc_value}
use Rattle.std.specs.Global.{Global}
use Rattle.std.specs.List.{AllZip}
use Rattle.std.specs.declared.alloc.AllocError.{AllocError}
use Rattle.std.proofs.lemmas.List.{map-append, map_more}
use Rattle.std.proofs.lemmas.List.Elements.{AllZip-get_or, length_all_zip}
use Rattle.cf_row.specs.declared.row.Entry.{Entry}
use Rattle.cf_shape.specs.Lanes.{ShapeValue}
use Rattle.cf_plain.specs.Answered.{answer_on}
use Rattle.cf_plain.specs.Asks.{eval}
use Rattle.cf_plain.specs.Order.{order_of}
use Rattle.cf_plain.specs.declared.answer.Answer.{Answer}
use Rattle.cf_plain.specs.declared.answer.Body.{Body}
use Rattle.cf_plain.specs.declared.ask.Ask.{Ask}
use Rattle.cf_table.specs.Values.{PassValue}
use Rattle.cf_query.specs.Tags.{nums_of}
use Rattle.cf_query.proofs.Walked.{walked_none, walked_then}
use Rattle.cf_store.specs.Reports.{Reports}
use Rattle.cf_store.specs.Seen.{seen_text}
use Rattle.cf_store.specs.Ends.{AllWalked, AreBehind, HaveWalkedOn, ReportsWith, Walks, seen_of, seen_upto}
use Rattle.cf_store.specs.Spans.{HaveWalked, IsSpan, ReportsSpan, passes_of, span_of, seen_each, seen_in}
use Rattle.cf_store.specs.declared.held.Reader.{Reader}
use Rattle.cf_store.specs.declared.held.Shared.{Shared}
use Rattle.cf_store.proofs.Behind.{all_stay, seen_same, walked_twice}
use Rattle.cf_store.proofs.Meant.{still_reading}
use Rattle.cf_store.proofs.Spanned.{seen_alone, upto_more}
use Rattle.cf_store.proofs.Spans.{like_still, span_still, span_walked}

zip_twice : (ls ms ns : List Reader) → AllZip Walks ls ms → AllZip Walks ms ns → AllZip Walks ls ns
zip_twice [] [] [] one two = tt
zip_twice [] [] (n ∷ ns) one two = absurd two
zip_twice [] (m ∷ ms) ns one two = absurd one
zip_twice (l ∷ ls) [] ns one two = absurd one
zip_twice (l ∷ ls) (m ∷ ms) [] one two = absurd two
zip_twice (l ∷ ls) (m ∷ ms) (n ∷ ns) one two = (walked_twice l m n one.0 two.0, zip_twice ls ms ns one.1 two.1)

-- the readers walked twice
pub all_then : (l m n : PassValue) (ls ms ns : List Reader) → AllWalked l m ls ms → AllWalked m n ms ns → AllWalked l n ls ns
all_then l m n ls ms ns one two = (walked_then l m n one.0 two.0, zip_twice ls ms ns one.1 two.1)

-- or not at all
pub all_none : (m : PassValue) (ms : List Reader) → AllWalked m m ms ms
all_none m ms = (walked_none m, all_stay ms)

-- they stay readers of logs of one setup
pub behind_still : (shared : Shared) (m n : PassValue) (ms ns : List Reader) → AreBehind shared m ms → AllWalked m n ms ns → AreBehind shared n ns
behind_still shared m n ms ns behind walked = record {
  reading = still_reading shared.log m n behind.reading walked.0;
  like = like_still shared ms ns behind.like walked.1;
  few = subst (λ (k : ℕ). (k + 1) * shared.log.shape.capacity ≤ 2 ^ 20) (length_all_zip Walks ms ns walked.1) behind.few;
}

each_still : (ms ns : List Reader) → AllZip Walks ms ns → seen_each (passes_of ns) ≡ seen_each (passes_of ms)
each_still [] [] walked = refl
each_still [] (n ∷ ns) walked = absurd walked
each_still (m ∷ ms) [] walked = absurd walked
each_still (m ∷ ms) (n ∷ ns) walked =
    ap₂ (λ (es : List Entry) (all : List (List Entry)). es ∷ all) (seen_same m n walked.0) (each_still ms ns walked.1)

-- and see what they saw
pub seen_still : (shared : Shared) (m n : PassValue) (ms ns : List Reader) → AllWalked m n ms ns → seen_of shared n ns ≡ seen_of shared m ms
seen_still shared m n ms ns walked =
    ap₂ (λ (es : List Entry) (all : List (List Entry)). seen_in shared.log.shape.capacity (es ∷ all))
    (ap (λ (h : PassValue). (h.view).seen) walked.0.same) (each_still ms ns walked.1)

-- the tags of one log more
module _ (m : PassValue) (ms now : List Reader) (k : ℕ) (d : Reader) (walked : AllZip Walks ms now) (low : k < length ms) where
  abbrev more : List Entry
  more = ((get_or now k d).pass.view).seen

  next : seen_upto m ms (k + 1) ≡ seen_upto m ms k ++ more
  next =
      (let e : k + 1 ≡ suc k = omega arith in ap (seen_upto m ms) e)
      ∙ (upto_more m ms k d low
      ∙ ap (λ (es : List Entry). seen_upto m ms k ++ es) (sym (seen_same (get_or ms k d) (get_or now k d) (AllZip-get_or Walks ms now k d d walked low))))

  pub nums_next : nums_of (seen_upto m ms k) ++ nums_of more ≡ nums_of (seen_upto m ms (k + 1))
  nums_next = sym (ap nums_of next ∙ map-append (λ (e : Entry). e.row.num) (seen_upto m ms k) more)

  pub order_next : order_of (seen_upto m ms k) ++ order_of more ≡ order_of (seen_upto m ms (k + 1))
  order_next = sym (ap order_of next ∙ map-append (λ (e : Entry). e.writer) (seen_upto m ms k) more)

-- one answer more
pub mapped_more : {X Y : Type 0} (f g : X → Y) (xs : List X) (k : ℕ) (d : X) (y : Y) (ys after : List Y) → k < length xs → ((x : X) → g x ≡ f x)
    → ys ≡ map f (take k xs) → y ≡ g (get_or xs k d) → after ≡ ys ++ y ∷ [] → after ≡ map f (take (k + 1) xs)
mapped_more {X} {Y} f g xs k d y ys after low same front is pushed =
    pushed ∙ (ap₂ (λ (zs : List Y) (z : Y). zs ++ z ∷ []) front (is ∙ same (get_or xs k d)) ∙ sym (map_more f xs k d low))

-- which is that of a question on what is seen
pub answer_is : (shape : ShapeValue) (seen : List Entry) (ask : Ask) (answer : Answer) → answer.tail ≡ length seen → answer.body ≡ eval shape ask seen
    → answer ≡ answer_on shape seen ask
answer_is shape seen ask answer tail body = ap₂ (λ (n : ℕ) (b : Body). answer_of n b) tail body
  where
    answer_of : ℕ → Body → Answer
    answer_of n b = record { tail = n; body = b }

-- the text of a reader and those behind it
module _ (m n : Reader) (ms ns : List Reader) where
  pub reports_with : (r : Result (Vec ℕ Global) AllocError) → HaveWalkedOn m n ms ns
      → IfOk r (λ text. text.items ≡ seen_text (arc_value m.of).log.shape (arc_value m.of).setup (seen_of (arc_value m.of) m.pass ms)) → ReportsWith m n ms ns r
  reports_with (Ok text) walked is = (walked, is)
  reports_with (Err e) walked is = walked

  have_walked : (r : Result (Vec ℕ Global) AllocError) → ReportsWith m n ms ns r → HaveWalkedOn m n ms ns
  have_walked (Ok text) told = told.0
  have_walked (Err e) told = told

  of_span : HaveWalkedOn m n ms ns → HaveWalked (span_of m ms) (span_of n ns) m.words.items
  of_span walked =
      subst (HaveWalked (span_of m ms) (span_of n ns)) (ap (λ (words : Vec ℕ Global). words.items) walked.first.words)
      (span_walked m n ms ns walked.first.of walked.first.walked walked.others)

  -- is that of their span
  pub span_reports : (r : Result (Vec ℕ Global) AllocError) → ReportsWith m n ms ns r → ReportsSpan (span_of m ms) (span_of n ns) r
  span_reports (Ok text) told = (of_span told.0, told.1)
  span_reports (Err e) told = of_span told

  pub span_remains : (r : Result (Vec ℕ Global) AllocError) → IsSpan m ms → ReportsWith m n ms ns r → IsSpan n ns
  span_remains r is told = span_still m n ms ns is (have_walked r told).first.of (have_walked r told).others

-- and with none behind it that of the reader
pub reports_alone : (m n : Reader) (ns : List Reader) (r : Result (Vec ℕ Global) AllocError) → ReportsWith m n [] ns r → Reports m n r
reports_alone m n ns (Ok text) told = (
  told.0.first,
  told.1 ∙ ap (λ (es : List Entry). seen_text (arc_value m.of).log.shape (arc_value m.of).setup es)
      (seen_alone (arc_value m.of).log.shape.capacity (m.pass.view).seen),
)
reports_alone m n ns (Err e) told = told.first
