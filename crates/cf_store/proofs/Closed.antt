-- A log is closed, and a reader reports.
use Rattle.std.proofs.Common.{◌≡◌, ◌∙◌, ◌<◌, ◌≤◌, ℕ, List, Option, [], ◌∷◌, Some, All, zero, suc, length, slice_get, get_or, ap, refl, sym, subst, arith}
use Rattle.std.specs.Arc.{arc_value}
use Rattle.std.specs.List.{AllZip}
use Rattle.std.proofs.lemmas.List.{length-map}
use Rattle.std.proofs.lemmas.Option.{slice_get-get_or}
use Rattle.cf_row.specs.declared.row.Entry.{Entry}
use Rattle.cf_law.specs.Passes.{Book, Pass}
use Rattle.cf_law.specs.Steps.{Holds, new_pass}
use Rattle.cf_table.specs.Values.{IsOf, LogValue, PassValue, book_of}
use Rattle.cf_table.specs.Moves.{AreAll, HasGathered, IsReading}
use Rattle.cf_append.proofs.Appending.{rests_all}
use Rattle.cf_log.specs.Writers.{AreWriters, HasJoined}
use Rattle.cf_log.proofs.Writers.{joined}
use Rattle.cf_store.specs.Homes.{AreAtHome, Comes, HaveLooked, IsHome, Keeps, PlaceValue, home_at, some_pass}
use Rattle.cf_store.specs.Closes.{IsClosed, IsEnd}
use Rattle.cf_store.specs.Opens.{IsLogWith}
use Rattle.cf_append.specs.Appends.{IsReady}
use Rattle.cf_store.specs.Parts.{AreNumbered, IsPlaceOf}
use Rattle.cf_store.specs.declared.held.Log.{Log}
use Rattle.cf_store.specs.declared.held.Reader.{Reader}
use Rattle.cf_store.specs.declared.held.Shared.{Shared}
use Rattle.cf_store.proofs.Homeward.{placed_at}
use Rattle.cf_store.proofs.Taken.{keeps_all, looked_comes}

tail_is : {X : Type 0} {x y : X} {xs ys : List X} → x ∷ xs ≡ y ∷ ys → xs ≡ ys
tail_is e = cc e

head_is : {X : Type 0} {x y : X} {xs ys : List X} → x ∷ xs ≡ y ∷ ys → x ≡ y
head_is e = cc e

-- the place that a pass is at home at
place_at : (ps : List PlaceValue) (hs : List PassValue) (k : ℕ) (h : PassValue) → AreAtHome ps hs → slice_get hs k ≡ Some h
    → (p : PlaceValue) × (slice_get ps k ≡ Some p) × (p.home ≡ Some h)
place_at [] [] k h home at = absurd (cc at)
place_at [] (g ∷ hs) k h home at = absurd (cc home)
place_at (p ∷ ps) [] k h home at = absurd (cc at)
place_at (p ∷ ps) (g ∷ hs) zero h home at = (p, refl, head_is home ∙ at)
place_at (p ∷ ps) (g ∷ hs) (suc k) h home at = place_at ps hs k h (tail_is home) at

home_long : (ps : List PlaceValue) (hs : List PassValue) → AreAtHome ps hs → length hs ≡ length ps
home_long ps hs home = sym (length-map hs some_pass) ∙ (ap (λ (os : List (Option PassValue)). length os) (sym home) ∙ length-map ps home_at)

-- passes that are at home after a look came or were there
pub all_come : (ms ns : List PlaceValue) (hs : List PassValue) → HaveLooked ms ns → AreAtHome ns hs → AllZip Comes ms hs
all_come [] [] [] looked home = tt
all_come [] [] (h ∷ hs) looked home = absurd (cc home)
all_come [] (n ∷ ns) hs looked home = absurd looked
all_come (m ∷ ms) [] hs looked home = absurd looked
all_come (m ∷ ms) (n ∷ ns) [] looked home = absurd (cc home)
all_come (m ∷ ms) (n ∷ ns) (h ∷ hs) looked home =
    (looked_comes m n h looked.0 (head_is home), all_come ms ns hs looked.1 (tail_is home))

-- all passes that are at home are those of all writers
pub all_home : (log : LogValue) (ps : List PlaceValue) (hs : List PassValue) → All (IsPlaceOf log) ps → AreNumbered log ps → AreAtHome ps hs → AreAll log hs
all_home log ps hs placed numbered home = record {
  of = λ k h at. (ready k h at).of;
  rest = λ k h at. rests_all h.view (ready k h at).rest;
  count = home_long ps hs home ∙ numbered.count;
  writers = λ w low. by_writer w low;
}
  where
    ready : (k : ℕ) (h : PassValue) → slice_get hs k ≡ Some h → IsReady log h
    ready k h at = (let found = place_at ps hs k h home at in (placed_at log ps k found.0 placed found.1).home h found.2)

    by_writer : (w : ℕ) → w < log.shape.writers
        → (k : ℕ) × (h : PassValue) × (j : ℕ) × (b : Book) × (slice_get hs k ≡ Some h) × Holds h.view j b × (b.writer ≡ w)
    by_writer w low =
        let long = home_long ps hs home ∙ numbered.count in
        let none : PassValue = record { table = log.table; id = 0; nodes = 0; view = new_pass [] [] } in
        let h = get_or hs w none in
        let at : slice_get hs w ≡ Some h = slice_get-get_or hs w none (omega (arith, long, low)) in
        let found = place_at ps hs w h home at in
        (w, h, 0, book_of h.view, at, ap (λ (bs : List Book). slice_get bs 0) (ready w h at).rest.one, (numbered.each w found.0 found.1).home h found.2)

-- and each is that of its writer
writers_home : (log : LogValue) (ps : List PlaceValue) (hs : List PassValue) → All (IsPlaceOf log) ps → AreNumbered log ps → AreAtHome ps hs
    → AreWriters log hs
writers_home log ps hs placed numbered home = record {
  count = home_long ps hs home ∙ numbered.count;
  each = λ k h at.
      (let found = place_at ps hs k h home at in
      let ready = (placed_at log ps k found.0 placed found.1).home h found.2 in
      record { of = ready.of; rest = ready.rest; writer_is = (numbered.each k found.0 found.1).home h found.2 });
}

-- the log of a reader that was joined, and its root
joined_end : (m n : Log) (passes : List PassValue) (root : PassValue) → n.of ≡ m.of → n.root ≡ m.root → AreAtHome n.places.items passes
    → HasGathered (arc_value n.of).log.shape n.root passes root → HasJoined (arc_value m.of).log m.root passes root
joined_end m n passes root of root_is home gathered =
    let log = (arc_value n.of).log in
    let here = joined log n.root root passes n.root_of (writers_home log n.places.items passes n.placed n.numbered home) gathered in
    subst (λ (l : LogValue). HasJoined l m.root passes root) (ap (λ x. (arc_value {X = Shared} x).log) of)
    (subst (λ (r : PassValue). HasJoined log r passes root) root_is here)

-- a pass that has seen what the root has gathered
pub gathered_aware : (log : LogValue) (m root n : PassValue) (hs : List PassValue) → HasGathered log.shape m hs root → IsOf n log
    → n.view ≡ new_pass [] (root.view).seen → IsReading log n
gathered_aware log m root n hs gathered of is =
    let seen : (n.view).seen ≡ (root.view).seen = ap (λ (p : Pass). p.seen) is in
    record {
      of = of;
      few = subst (λ (es : List Entry). length es ≤ log.shape.capacity) (sym seen) gathered.bounds.seen;
      fit = λ o e at. gathered.fit o e (ap (λ (es : List Entry). slice_get es o) (sym seen) ∙ at);
    }

-- a log that is free comes back
pub came_back : (m l n : Log) → IsLogWith l.places.items m l → HaveLooked m.places.items l.places.items → All IsHome l.places.items
    → IsLogWith l.places.items l n → IsLogWith n.places.items m n × AllZip Keeps m.places.items n.places.items × All IsHome n.places.items
came_back m l n before looked home after = (
  record { of = after.of ∙ before.of; root = after.root ∙ before.root; places_are = refl },
  subst (AllZip Keeps m.places.items) (sym after.places_are) (keeps_all m.places.items l.places.items looked),
  subst (All IsHome) (sym after.places_are) home,
)

-- and one that is closed
pub ended : (m l n : Log) (reader : Reader) (pass : PassValue) → IsLogWith l.places.items m l → HaveLooked m.places.items l.places.items
    → IsLogWith l.places.items l n → IsEnd n pass → arc_value reader.of ≡ arc_value l.of → reader.pass ≡ pass → reader.words.items ≡ []
    → IsClosed m reader
ended m l n reader pass before looked after end of is words =
    record {
      passes = end.passes;
      root = end.root;
      come = all_come m.places.items n.places.items end.passes
          (subst (λ (ps : List PlaceValue). HaveLooked m.places.items ps) (sym after.places_are) looked) end.home;
      joined = joined_end m n end.passes end.root (after.of ∙ before.of) (after.root ∙ before.root) end.home end.gathered;
      of = of ∙ ap (arc_value {X = Shared}) before.of;
      seen = ap (λ (h : PassValue). h.view) is ∙ end.seen;
      words = words;
    }
