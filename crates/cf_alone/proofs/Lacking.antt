-- The nodes that a log lacks, or has.
use Rattle.std.proofs.Common.{◌≡◌, ◌∙◌, ℕ, zero, suc, ◌*◌, inl, inr, List, ◌++◌, length, get_or, Some, None, slice_get, Result, Ok, Err, IfOk, sym, ap, subst, arith}
use Rattle.cf_append.specs.Appends.{Rests, HasAppendAnswer}
use Rattle.cf_append.specs.declared.appends.AppendFault.{AppendFault}
use Rattle.cf_append.specs.declared.appends.AppendFault.TheVariants.{Full, NodesFull}
use Rattle.cf_law.specs.Events.{no_book}
use Rattle.cf_law.specs.Passes.{Book, Pass}
use Rattle.cf_law.specs.Readers.{IsBounded}
use Rattle.cf_law.specs.Shapes.{layout}
use Rattle.cf_law.specs.Steps.{Holds}
use Rattle.cf_plain.specs.Asks.{rows_in}
use Rattle.cf_row.proofs.Bytes.{both}
use Rattle.cf_row.specs.Row.{RowValue, Fits}
use Rattle.cf_row.specs.declared.row.Entry.{Entry}
use Rattle.cf_alone.proofs.Nodes.{few_enough, too_many}
use Rattle.cf_alone.proofs.Pigeons.{from_map, in_either}
use Rattle.cf_alone.specs.Needed.{HasNodes, IsNeeded, IsOut}
use Rattle.cf_shape.specs.Lanes.{IsShape}
use Rattle.cf_table.specs.Moves.{HasPaths}
use Rattle.cf_table.specs.Values.{LogValue, PassValue, book_of}
use Rattle.cf_law.specs.Words.{Spot}
use Rattle.cf_alone.specs.Alone.{IsAlone}
use Rattle.cf_alone.specs.Solos.{AreEnough, LacksNodes}

-- the one book of a pass at rest
one_book : (P : Book → Type 0) (p : Pass) → Rests p → P (book_of p) → (k : ℕ) (c : Book) → Holds p k c → P c
one_book P p rest is zero c at =
    (let e : Some (book_of p) ≡ Some c = sym (ap (λ (bs : List Book). slice_get bs 0) rest.one) ∙ at in let same : book_of p ≡ c = cc e in subst P same is)
one_book P p rest is (suc k) c at = (let e : None ≡ Some c = sym (ap (λ (bs : List Book). slice_get bs (suc k)) rest.one) ∙ at in absurd (cc e))

-- where no node is used but for the rows, these need no more than there are
pub enough : (log : LogValue) (o : PassValue) → IsShape log.shape → IsAlone log o → HasPaths log.shape o.view → IsBounded (layout log.shape) o.view
    → AreEnough log.shape (o.view).seen (book_of o.view).used
enough log o is now paths bounds all =
    let most = few_enough log.shape rows o.view is fits has (λ i x there. (let e = from i x there in (i, e.0, e.1, e.2)))
    (ap (λ (bs : List Book). length bs) now.rest.one ∙ sym now.one) in
    let one : (log.shape).writers * (log.shape).nodes ≡ 1 * (log.shape).nodes = ap (λ (w : ℕ). w * (log.shape).nodes) now.one in
    omega (arith, one, most)
  where
    rows : List RowValue
    rows = rows_in (o.view).seen

    from : (i : ℕ) (x : RowValue) → slice_get rows i ≡ Some x → (e : Entry) × (slice_get (o.view).seen i ≡ Some e) × (e.row ≡ x)
    from i x there = from_map (λ (e : Entry). e.row) (o.view).seen i x there

    fits : (i : ℕ) (x : RowValue) → slice_get rows i ≡ Some x → Fits (log.shape).schema x
    fits i x there = (let e = from i x there in subst (λ (y : RowValue). Fits (log.shape).schema y) e.2 (both _ _ (now.fit i e.0 e.1).0).0)

    has : HasNodes log.shape rows o.view
    has = record {
      needed = λ k j b s held there. one_book (λ c. slice_get c.used j ≡ Some s → IsNeeded log.shape rows s) o.view now.rest (all j s) k b held there;
      room = λ k b held. bounds.room k b held;
      paths = paths;
    }

-- where a row lacks a node, rows that need the used nodes and have the row need more than there are
pub lacking : (log : LogValue) (row : RowValue) (m n : PassValue) (r : Result ℕ AppendFault) → IsShape log.shape → HasAppendAnswer log.shape row m n r
    → r ≡ Err NodesFull → LacksNodes log.shape row (book_of m.view).used
lacking log row m n (Ok at) is done e rows place there all = absurd (cc e)
lacking log row m n (Err Full) is done e rows place there all = absurd (cc e)
lacking log row m n (Err NodesFull) is done e rows place there all = too_many log.shape rows (book_of n.view) is needed out
  where
    same : (book_of n.view).used ≡ (book_of m.view).used ++ done.used.spots
    same = ap (λ (bs : List Book). (get_or bs 0 (no_book 0)).used) done.used.books

    needed : (j : ℕ) (s : Spot) → slice_get (book_of n.view).used j ≡ Some s → IsNeeded log.shape rows s
    needed j s at = elim (in_either (book_of m.view).used done.used.spots j s (ap (λ (xs : List Spot). slice_get xs j) (sym same) ∙ at)) [
      | inl old ↦ all old.0 s old.1
      | inr new ↦ record { place = place; row = row; at = there; on = done.used.on new.0 s new.1 }
    ]

    out : IsOut log.shape rows (book_of n.view)
    out = record {
      full = done.stuck.full;
      apart = done.stuck.apart;
      at = done.stuck.at;
      needed = record { place = place; row = row; at = there; on = done.stuck.on };
      other = done.stuck.other;
    }

pub enough_ok : (log : LogValue) (o : PassValue) (r : Result ℕ AppendFault) → IsShape log.shape → IsAlone log o → HasPaths log.shape o.view
    → IsBounded (layout log.shape) o.view → IfOk r (λ _. AreEnough log.shape (o.view).seen (book_of o.view).used)
enough_ok log o (Ok at) is now paths bounds = enough log o is now paths bounds
enough_ok log o (Err fault) is now paths bounds = tt
