-- The read tail is loaded for an ask.
use Rattle.std.proofs.Common.{◌≡◌, ◌∙◌, ℕ, List, [], ◌∷◌, ◌++◌, true, length, take, slice_get, ap, sym}
use Rattle.cf_row.specs.declared.row.Entry.{Entry}
use Rattle.cf_shape.specs.Lanes.{ShapeValue}
use Rattle.cf_law.specs.Words.{Spot}
use Rattle.cf_law.specs.Passes.{Pass}
use Rattle.cf_table.specs.Values.{PassValue}
use Rattle.cf_table.specs.Effects.{HasStepped, tail_effect}
use Rattle.cf_table.specs.Moves.{HoldsAllBooks}
use Rattle.cf_table.proofs.Folds.{sees_told, tail_entries}
use Rattle.cf_query.specs.Asking.{HasAsked}
use Rattle.cf_law.proofs.Steps.{sees_books, sees_known}

pub has_asked : (shape : ShapeValue) (m n : PassValue) (found : ℕ) → HasStepped shape (tail_effect m.view true) m found n
    → (HoldsAllBooks shape m.view → (n.view).seen ≡ (m.view).seen) → length (n.view).seen ≡ found → HasAsked shape m n
has_asked shape m n found made stays long =
    let told = made.told in
    let p = m.view in
    let entries = tail_entries shape p n.view true found told in
    record {
      same = made.same;
      tails = ap (λ (q : Pass). q.tails) told.is ∙ ap (λ (k : ℕ). p.tails ++ k ∷ []) (sym long);
      longer = ap (λ (es : List Entry). take (length p.seen) es) entries ∙ told.goes_on.seen;
      books = ap (λ (q : Pass). q.books) told.is ∙ sees_books found told.entries p;
      told = ap (λ (q : Pass). q.told) told.is ∙ (sees_told found told.entries p).0;
      stays = stays;
      few = told.bounds.seen;
      fit = λ o e at. told.fit o e (ap (λ (es : List Entry). slice_get es o) (sym entries) ∙ at);
      first = told.mine;
      knows = λ s node k.
          (k.0, ap (λ (q : Pass). slice_get q.known k.0) told.is ∙ (ap (λ (xs : List (Spot × ℕ)). slice_get xs k.0) (sees_known found told.entries p) ∙ k.1));
    }
