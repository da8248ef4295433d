-- A log that has loaded rows.
use Rattle.std.proofs.Common.{◌≡◌, ℕ, ◌+◌, ◌*◌, ◌<◌, List, [], length, take, drop, Some, slice_get, refl, sym, ap, subst, ◌∙◌, arith}
use Rattle.std.proofs.lemmas.List.{take_all, drop_all}
use Rattle.std.proofs.lemmas.Option.{slice_get_within}
use Rattle.cf_row.specs.Row.{RowValue}
use Rattle.cf_row.specs.declared.row.Entry.{Entry}
use Rattle.cf_plain.specs.Order.{rows_of, written_by}
use Rattle.cf_shape.specs.Lanes.{ShapeValue}
use Rattle.cf_law.specs.Words.{Spot}
use Rattle.cf_law.specs.Events.{tabulated, no_book}
use Rattle.cf_law.proofs.Fronts.{table_length, table_at}
use Rattle.cf_law.specs.Passes.{Book, Pass}
use Rattle.cf_law.specs.Readers.{mine_from}
use Rattle.cf_table.specs.Values.{PassValue, LogValue, IsOf}
use Rattle.cf_table.specs.Rule.{root_pass}
use Rattle.cf_table.specs.Moves.{HoldsAllBooks}
use Rattle.cf_table.proofs.Homing.{opened as opened_settled}
use Rattle.cf_alone.specs.Needed.{HasNodes}
use Rattle.cf_segments.specs.Loaded.{IsLogFrom, HasLoaded}

-- no part of an empty list has anything
pub nothing : (X : Type 0) (j : ℕ) → take 4096 (drop {A = X} j []) ≡ []
nothing X j = ap (take 4096) (drop_all {X = X} j [] (omega arith)) ∙ take_all 4096 [] (omega arith)

-- a log just opened has no rows yet
pub opened : (log : LogValue) (first : ℕ) (m : PassValue) → IsOf m log → m.view ≡ root_pass log.shape → HasLoaded log first [] m
opened log first m of is = record {
  of = of;
  settled = subst (HoldsAllBooks log.shape) (sym is) (opened_settled log.shape);
  is = subst (λ (p : Pass). IsLogFrom first [] (log.shape).writers p.seen) (sym is) none;
  own = λ w lt. ap (λ (p : Pass). written_by w p.seen) is;
  nodes = subst (λ (p : Pass). HasNodes log.shape [] p) (sym is) (record {
    needed = λ k j b s held used. absurd
        (let e = new_book k b held in let f : slice_get {X = Spot} [] j ≡ Some s = ap (λ (c : Book). slice_get c.used j) e ∙ used in cc f);
    room = λ k b held. (let e = ap (λ (c : Book). length c.used) (new_book k b held) in omega (arith, e));
    paths = λ o l d e xs q x at path. absurd (cc at);
  });
}
  where
    new_book : (k : ℕ) (b : Book) → slice_get (tabulated no_book (log.shape).writers) k ≡ Some b → no_book k ≡ b
    new_book k b at =
        let lt : k < (log.shape).writers =
        omega (arith, slice_get_within (tabulated no_book (log.shape).writers) k b at, table_length no_book (log.shape).writers) in
        let f : Some (no_book k) ≡ Some b = sym (table_at no_book (log.shape).writers k lt) ∙ at in cc f

    none : IsLogFrom first [] (log.shape).writers []
    none = record {
      size = refl;
      exist = tt;
      own = λ b w lt. ap (written_by w) (nothing Entry (4096 * b)) ∙ ap (rows_of (log.shape).writers w (first + 4096 * b)) (sym (nothing RowValue (4096 * b)));
    }

-- a root that has its books and has seen the same is settled
pub settled_still : (shape : ShapeValue) (m n : PassValue) → HoldsAllBooks shape m.view → (n.view).books ≡ (m.view).books → (n.view).seen ≡ (m.view).seen
    → HoldsAllBooks shape n.view
settled_still shape m n settled books seen_is = record {
  home = λ w lt. (let h = settled.home w lt in (h.0, h.1, ap (λ (bs : List Book). slice_get bs h.0) books ∙ h.2, h.3, h.4));
  rest = λ k b at. settled.rest k b (ap (λ (bs : List Book). slice_get bs k) (sym books) ∙ at);
  count = ap length books ∙ settled.count;
  all = λ k b at. settled.all k b (ap (λ (bs : List Book). slice_get bs k) (sym books) ∙ at) ∙ ap (mine_from b.writer 0) (sym seen_is);
}

-- and still holds what was loaded
pub still_loaded : (log : LogValue) (first : ℕ) (rows : List RowValue) (m n : PassValue) → HasLoaded log first rows m → IsOf n log
    → (n.view).books ≡ (m.view).books → (n.view).seen ≡ (m.view).seen → HasLoaded log first rows n
still_loaded log first rows m n has of books seen_is = record {
  of = of;
  settled = settled_still log.shape m n has.settled books seen_is;
  is = subst (IsLogFrom first rows (log.shape).writers) (sym seen_is) has.is;
  own = λ w lt. ap (written_by w) seen_is ∙ has.own w lt;
  nodes = record {
    needed = λ k j b s at used. has.nodes.needed k j b s (ap (λ (bs : List Book). slice_get bs k) (sym books) ∙ at) used;
    room = λ k b at. has.nodes.room k b (ap (λ (bs : List Book). slice_get bs k) (sym books) ∙ at);
    paths = λ o l d e xs q x at path.
        (let h = has.nodes.paths o l d e xs q x (ap (λ (es : List Entry). slice_get es o) (sym seen_is) ∙ at) path in
        (h.0, h.1, h.2, ap (λ (bs : List Book). slice_get bs h.0) books ∙ h.3, h.4));
  };
}
