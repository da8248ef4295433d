-- A log was opened, and all its books are dealt.
use Rattle.std.proofs.Common.{◌≡◌, ◌<◌, ◌∙◌, get_or, ℕ, List, [], ◌∷◌, zero, suc, length, map, Some, slice_get, All, Result, Ok, Err, IfOk, IfErr, ap, refl, sym, subst, arith}
use Rattle.std.proofs.lemmas.Option.{slice_get-get_or, slice_get_within}
use Rattle.std.proofs.lemmas.List.{length-map}
use Rattle.cf_law.specs.Passes.{Book, Pass}
use Rattle.cf_law.specs.Steps.{new_pass}
use Rattle.cf_law.specs.Events.{tabulated, no_book}
use Rattle.cf_law.proofs.Fronts.{table_length, table_at}
use Rattle.cf_table.specs.Values.{PassValue, LogValue, book_of}
use Rattle.cf_table.specs.Rule.{root_pass}
use Rattle.cf_table.specs.Moves.{AreDealt, HoldsAllBooks}
use Rattle.cf_store.specs.Homes.{PlaceValue, at_home}
use Rattle.cf_shape.specs.Lanes.{ShapeValue}
use Rattle.cf_setup.specs.Setups.{SetupValue, shaped}
use Rattle.cf_setup.specs.SetupText.{SetupText}
use Rattle.cf_setup.specs.Reading.{Answers}
use Rattle.cf_setup.specs.declared.parse.SetupFault.{SetupFault}
use Rattle.cf_setup.specs.declared.parse.SetupFault.TheVariants.{Bad, Memory as FaultMemory}
use Rattle.std.specs.Arc.{arc_value}
use Rattle.cf_append.specs.Appends.{IsReady}
use Rattle.cf_store.specs.Opens.{BySetup, IsNew, refusal_by, sized}
use Rattle.cf_store.specs.declared.held.Log.{Log}
use Rattle.cf_store.specs.declared.held.Shared.{Shared}
use Rattle.cf_store.specs.declared.shown.Sizes.{Sizes}
use Rattle.cf_store.specs.declared.refusals.OpenRefusal.{OpenRefusal}
use Rattle.cf_store.specs.declared.refusals.OpenRefusal.TheVariants.{Memory as NoMemory}

one_ready : (log : LogValue) (m n : PassValue) (hs : List PassValue) → HoldsAllBooks log.shape m.view → AreDealt log m hs n → (k : ℕ) (h : PassValue)
    → slice_get hs k ≡ Some h → IsReady log h
one_ready log m n hs home dealt k h at =
    let d = dealt.each k h at in
    let book : book_of h.view ≡ d.book = ap (λ (p : Pass). book_of p) d.view in record {
      of = d.of;
      rest = record {
        one = ap (λ (p : Pass). p.books) d.view ∙ ap (λ (b : Book). b ∷ []) (sym book);
        free = ap (λ (b : Book). b.flight) book ∙ home.rest k d.book d.at;
      };
    }

pub all_ready : (log : LogValue) (m n : PassValue) (hs : List PassValue) → HoldsAllBooks log.shape m.view → AreDealt log m hs n → All (IsReady log) hs
all_ready log m n hs home dealt k d lt = one_ready log m n hs home dealt k (get_or hs k d) (slice_get-get_or hs k d lt)

-- once all books are dealt, the root has none, and has seen nothing
pub root_new : (log : LogValue) (m n : PassValue) (hs : List PassValue) → m.view ≡ root_pass log.shape → AreDealt log m hs n → n.view ≡ new_pass [] []
root_new log m n hs is dealt = ap (λ (h : PassValue). h.view) dealt.root ∙ ap (λ (p : Pass). record p { books = [] }) is

-- the k-th pass is writer k's, and new
pub all_new : (log : LogValue) (m n : PassValue) (hs : List PassValue) → m.view ≡ root_pass log.shape → AreDealt log m hs n → (k : ℕ) (h : PassValue)
    → slice_get hs k ≡ Some h
    → h.view ≡ new_pass (no_book k ∷ []) []
all_new log m n hs is dealt k h at =
    let d = dealt.each k h at in
    let w = (log.shape).writers in
    let there : slice_get (tabulated no_book w) k ≡ Some d.book = ap (λ (p : Pass). slice_get p.books k) (sym is) ∙ d.at in
    let lt : k < w = omega (arith, slice_get_within (tabulated no_book w) k d.book there, table_length no_book w) in
    let e : no_book k ≡ d.book = (let f : Some (no_book k) ≡ Some d.book = sym (table_at no_book w k lt) ∙ there in cc f) in
    d.view ∙ (ap (λ (b : Book). new_pass (b ∷ []) (m.view).seen) (sym e) ∙ ap (λ (p : Pass). new_pass (no_book k ∷ []) p.seen) is)

pub at_home_new : (hs : List PassValue) (k : ℕ) (place : PlaceValue) → slice_get (map at_home hs) k ≡ Some place
    → (h : PassValue) × (place ≡ at_home h) × (slice_get hs k ≡ Some h)
at_home_new [] k place at = absurd (cc at)
at_home_new (h ∷ hs) zero place at = (h, cc at, refl)
at_home_new (h ∷ hs) (suc k) place at = at_home_new hs k place at

-- The parts of the log are new ones of the setup, and so the log is.
pub new_log : (setup : SetupValue) (sizes : Sizes) (shared : Shared) (root : PassValue) (passes : List PassValue) (places : List PlaceValue)
    (r : Result Log OpenRefusal)
    → IfOk r (λ log. (arc_value log.of ≡ shared) × (log.root ≡ root) × (log.places.items ≡ places)) → shared.setup ≡ setup
    → shared.log.shape ≡ sized setup sizes
    → root.view ≡ new_pass [] [] → places ≡ map at_home passes → length passes ≡ sizes.writers
    → ((k : ℕ) (h : PassValue) → slice_get passes k ≡ Some h → h.view ≡ new_pass (no_book k ∷ []) [])
    → IfOk r (IsNew shared.text.items setup sizes)
new_log setup sizes shared root passes places (Ok log) made of shape view home count each = record {
  setup_is = ap (λ (s : Shared). s.setup) made.0 ∙ of;
  text_is = ap (λ (s : Shared). s.text.items) made.0;
  shape = ap (λ (s : Shared). s.log.shape) made.0 ∙ shape;
  root = ap (λ (p : PassValue). p.view) made.1 ∙ view;
  all = ap (λ (ps : List PlaceValue). length ps) (made.2 ∙ home) ∙ (length-map passes at_home ∙ count);
  each = λ k place at.
      (let found = at_home_new passes k place (sym (ap (λ (ps : List PlaceValue). slice_get ps k) (made.2 ∙ home)) ∙ at) in
      (found.0, found.1, each k found.0 found.2));
}
new_log setup sizes shared root passes places (Err e) made of shape view home count each = tt

-- what reading a text answered is what the text is
pub lawful : (text : List ℕ) (setup : SetupValue) (r : Result SetupValue SetupFault)
    → ((read : Result SetupValue (ℕ × ℕ)) × SetupText text read × Answers r read) → r ≡ Ok setup
    → SetupText text (Ok setup)
lawful text setup r found is =
    let a : Answers (Ok setup) found.0 = subst (λ (x : Result SetupValue SetupFault). Answers x found.0) is found.2 in subst (SetupText text) a found.1

pub faulty : {A : Type 0} (Is : SetupValue → A → Type 0) (text : List ℕ) (sizes : Sizes) (r : Result SetupValue SetupFault) (fault : SetupFault)
    (refusal : OpenRefusal)
    → ((read : Result SetupValue (ℕ × ℕ)) × SetupText text read × Answers r read) → r ≡ Err fault → refusal ≡ refusal_by fault
    → BySetup Is text sizes (Err refusal)
faulty Is text sizes r (Bad line code) refusal found is same =
    let a : Answers (Err (Bad line code)) found.0 = subst (λ (x : Result SetupValue SetupFault). Answers x found.0) is found.2 in
    subst (λ (x : OpenRefusal). BySetup Is text sizes (Err x)) (sym same) (subst (SetupText text) a found.1)
faulty Is text sizes r FaultMemory refusal found is same = subst (λ (x : OpenRefusal). BySetup Is text sizes (Err x)) (sym same) tt

-- what was made of the setup of a text is made of what the text is
pub by_setup : {A : Type 0} (Is : SetupValue → A → Type 0) (text : List ℕ) (sizes : Sizes) (setup : SetupValue) (r : Result A OpenRefusal)
    → BySetup (λ s found. found ≡ s) text sizes (Ok setup) → IfOk r (Is setup) → IfErr r (λ e. e ≡ NoMemory) → BySetup Is text sizes r
by_setup Is text sizes setup (Ok a) of ok err = (setup, subst (λ (s : SetupValue). SetupText text (Ok s)) (sym of.3) of.1, of.2, ok)
by_setup Is text sizes setup (Err e) of ok err = subst (λ (x : OpenRefusal). BySetup Is text sizes (Err x)) (sym err) tt

-- the setup that was read is what the text is
pub stated_by : (text : List ℕ) (sizes : Sizes) (setup : SetupValue) → BySetup (λ s found. found ≡ s) text sizes (Ok setup) → SetupText text (Ok setup)
stated_by text sizes setup of = subst (λ (s : SetupValue). SetupText text (Ok s)) (sym of.3) of.1

-- a shape that is so large is the setup's, by its own sizes
pub is_shaped : (setup : SetupValue) (sizes : Sizes) (shape : ShapeValue) → shape ≡ sized setup sizes
    → shape ≡ shaped setup shape.capacity shape.writers shape.nodes
is_shaped setup sizes shape is = subst (λ (s : ShapeValue). s ≡ shaped setup s.capacity s.writers s.nodes) (sym is) refl
