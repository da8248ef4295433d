-- A root at home asks, and holds what it held.
use Rattle.std.proofs.Common.{refl, ◌≡◌, ℕ, List, length, slice_get, sym, ap, ◌∙◌}
use Rattle.cf_law.specs.Passes.{Book, Pass}
use Rattle.cf_law.specs.Readers.{mine_from}
use Rattle.cf_shape.specs.Lanes.{ShapeValue}
use Rattle.cf_row.specs.Row.{RowValue}
use Rattle.cf_table.specs.Values.{PassValue, LogValue, IsOf}
use Rattle.cf_table.specs.Moves.{HoldsAllBooks}
use Rattle.cf_query.specs.Asking.{HasAsked}
use Rattle.cf_query.specs.Walks.{OnlyWalked}
use Rattle.cf_segments.specs.Loaded.{HasLoaded}
use Rattle.cf_segments.specs.Segments.{Keeps}
use Rattle.cf_segments.proofs.Loaded.{still_loaded}

pub keeps_none : (m : PassValue) → Keeps m m
keeps_none m = record { same = refl; seen = refl; books = refl; told = refl }

pub keeps_then : (m n o : PassValue) → Keeps m n → Keeps n o → Keeps m o
keeps_then m n o a b = record {
  same = b.same ∙ ap (λ (h : PassValue). record h { view = o.view }) a.same;
  seen = b.seen ∙ a.seen;
  books = b.books ∙ a.books;
  told = b.told ∙ a.told;
}

-- after an ask of the root, also one that was refused
pub keeps_asked : (shape : ShapeValue) (m n : PassValue) → HasAsked shape m n → HoldsAllBooks shape m.view → Keeps m n
keeps_asked shape m n asked settled = record { same = asked.same; seen = asked.stays settled; books = asked.books; told = asked.told }

-- after walks of the root
pub keeps_walked : (m n : PassValue) → OnlyWalked m n → Keeps m n
keeps_walked m n walked =
    let view : n.view ≡ record m.view { look = (n.view).look; known = (n.view).known; cursor = (n.view).cursor } =
    ap (λ (h : PassValue). h.view) walked.same in
    record {
      same = walked.same ∙ ap (λ (q : Pass). record m { view = q }) (sym view);
      seen = ap (λ (q : Pass). q.seen) view;
      books = ap (λ (q : Pass). q.books) view;
      told = ap (λ (q : Pass). q.told) view;
    }

-- the books are still home
pub settled_kept : (shape : ShapeValue) (m n : PassValue) → Keeps m n → HoldsAllBooks shape m.view → HoldsAllBooks shape n.view
settled_kept shape m n keeps settled = record {
  home = λ w lt. let h = settled.home w lt in (h.0, h.1, ap (λ (bs : List Book). slice_get bs h.0) keeps.books ∙ h.2, h.3, h.4);
  rest = λ k b held. settled.rest k b (ap (λ (bs : List Book). slice_get bs k) (sym keeps.books) ∙ held);
  count = ap (λ (bs : List Book). length bs) keeps.books ∙ settled.count;
  all = λ k b held. settled.all k b (ap (λ (bs : List Book). slice_get bs k) (sym keeps.books) ∙ held) ∙ ap (mine_from b.writer 0) (sym keeps.seen);
}

-- what was loaded is still there
pub still_holds : (log : LogValue) (first : ℕ) (rows : List RowValue) (m n : PassValue) → HasLoaded log first rows m → Keeps m n → HasLoaded log first rows n
still_holds log first rows m n has keeps =
    let of : IsOf n log =
    record { table = ap (λ (h : PassValue). h.table) keeps.same ∙ has.of.table; nodes = ap (λ (h : PassValue). h.nodes) keeps.same ∙ has.of.nodes } in
    still_loaded log first rows m n has of keeps.books keeps.seen
