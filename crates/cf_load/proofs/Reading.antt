-- The reader asks on.
use Rattle.std.proofs.Common.{refl, ◌≡◌, ◌<◌, ◌+◌, ℕ, map, List, [], ◌∷◌, ◌++◌, length, get_or, sym, ap, ◌∙◌, append_assoc, All}
use Rattle.std.proofs.lemmas.List.{append-nil, map_push}
use Rattle.std.proofs.lemmas.Option.{slice_get-get_or}
use Rattle.cf_plain.specs.declared.ask.Ask.{Ask}
use Rattle.cf_plain.specs.declared.loaded.Live.{Live}
use Rattle.cf_plain.specs.Answered.{no_ask}
use Rattle.cf_shape.specs.Lanes.{ShapeValue}
use Rattle.cf_table.specs.Values.{PassValue}
use Rattle.cf_query.specs.Asking.{HasAsked}
use Rattle.cf_load.specs.Planned.{HasRead, tails_of}

-- an element is the same whatever stands for one that is missing
pub get_there : {A : Type 0} (xs : List A) (i : ℕ) (d e : A) → i < length xs → get_or xs i d ≡ get_or xs i e
get_there xs i d e lt = let a = slice_get-get_or xs i d lt in let b = slice_get-get_or xs i e lt in cc (a, b)

-- one more answer was given
pub read_more : (shape : ShapeValue) (base : ℕ) (m n o : PassValue) (more : List Live) (live : Live) → HasRead base m n more → HasAsked shape n o
    → live.answer.tail ≡ base + length (o.view).seen → HasRead base m o (more ++ live ∷ [])
read_more shape base m n o more live read asked tail = record {
  same = asked.same ∙ ap (λ (h : PassValue). record h { view = o.view }) read.same;
  books = asked.books ∙ read.books;
  told = asked.told ∙ read.told;
  tails = ap (map (λ (t : ℕ). base + t)) asked.tails
      ∙ (map_push (λ (t : ℕ). base + t) (n.view).tails (length (o.view).seen)
      ∙ (ap (λ (ts : List ℕ). ts ++ (base + length (o.view).seen) ∷ []) read.tails
      ∙ (append_assoc (map (λ t. base + t) (m.view).tails) (tails_of more) ((base + length (o.view).seen) ∷ [])
      ∙ ap (λ (ts : List ℕ). map (λ t. base + t) (m.view).tails ++ ts)
      (ap (λ (t : ℕ). tails_of more ++ t ∷ []) (sym tail) ∙ sym (map_push (λ (l : Live). l.answer.tail) more live)))));
}

-- the question at a live question's place
pub ask_found : (asks : List Ask) (items lives : List ℕ) (i : ℕ) (x : Ask) → All (λ place. place < length asks) lives → items ≡ lives → i < length lives
    → x ≡ get_or asks (get_or items i 0) x → x ≡ get_or asks (get_or lives i 0) no_ask
ask_found asks items lives i x exist same lt is =
    let there : get_or lives i 0 < length asks = exist i 0 lt in
    is ∙ (ap (λ xs. get_or asks (get_or xs i 0) x) same ∙ get_there asks (get_or lives i 0) x no_ask there)

-- no answer yet
pub read_none : (base : ℕ) (m : PassValue) → HasRead base m m []
read_none base m = record { same = refl; books = refl; told = refl; tails = sym (append-nil (map (λ t. base + t) (m.view).tails)) }
