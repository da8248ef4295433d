-- What an answer says of the pass, for callers.
use Rattle.std.proofs.Common.{◌≡◌, ◌∙◌, ℕ, List, [], ◌∷◌, get_or, Result, Ok, Err, inl, inr, ap, sym}
use Rattle.cf_row.specs.Row.{RowValue}
use Rattle.cf_shape.specs.Lanes.{ShapeValue}
use Rattle.cf_law.specs.Passes.{Book, Pass}
use Rattle.cf_law.specs.Events.{no_book}
use Rattle.cf_table.specs.Values.{PassValue, book_of}
use Rattle.cf_append.specs.Appends.{Rests, HasAppendAnswer}
use Rattle.cf_append.specs.declared.appends.AppendFault.{AppendFault}
use Rattle.cf_append.specs.declared.appends.AppendFault.TheVariants.{Full, NodesFull}

-- A pass is at rest by its books alone.
pub rests_same : (p q : Pass) → q.books ≡ p.books → Rests p → Rests q
rests_same p q books rest =
    let book : book_of q ≡ book_of p = ap (λ (bs : List Book). get_or bs 0 (no_book 0)) books in
    record { one = books ∙ (rest.one ∙ ap (λ (b : Book). b ∷ []) (sym book)); free = ap (λ (b : Book). b.flight) book ∙ rest.free }

-- Whatever the answer is, the book is of the same writer.
pub same_writer : (shape : ShapeValue) (row : RowValue) (m n : PassValue) (r : Result ℕ AppendFault) → HasAppendAnswer shape row m n r
    → (book_of n.view).writer ≡ (book_of m.view).writer
same_writer shape row m n (Ok o) done = ap (λ (bs : List Book). (get_or bs 0 (no_book 0)).writer) done.books
same_writer shape row m n (Err Full) (inl over) = ap (λ (h : PassValue). (book_of h.view).writer) over.is
same_writer shape row m n (Err Full) (inr late) = ap (λ (bs : List Book). (get_or bs 0 (no_book 0)).writer) late.books
same_writer shape row m n (Err NodesFull) done = ap (λ (bs : List Book). (get_or bs 0 (no_book 0)).writer) done.used.books
