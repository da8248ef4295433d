-- The lines of rows that came piece by piece.
use Rattle.std.proofs.Common.{refl, ◌≡◌, ◌∙◌, ◌++◌, ◌∷◌, [], ℕ, List, ap, ap₂, codes, decimal, length, append_assoc}
use Rattle.std.specs.List.{flat_map, insert_slice}
use Rattle.cf_row.specs.Row.{RowValue}
use Rattle.cf_row.specs.declared.schema.Attr.{Attr}
use Rattle.cf_report.specs.Dump.{dump_text, row_line}

-- with their number before them they are the text
pub headed : (attrs : List Attr) (rows : List RowValue) (lines head text : List ℕ) (count : ℕ) → head ≡ codes "records " ++ (decimal count ++ 10 ∷ [])
    → text ≡ insert_slice lines 0 head → lines ≡ flat_map (row_line attrs) rows → count ≡ length rows → text ≡ dump_text attrs rows
headed attrs rows lines head text count head_is text_is lines_are count_is =
    let before : insert_slice lines 0 head ≡ head ++ lines = refl in
    let whole : head ++ lines ≡ (codes "records " ++ (decimal (length rows) ++ 10 ∷ [])) ++ flat_map (row_line attrs) rows =
    ap₂ (λ (x y : List ℕ). x ++ y) (head_is ∙ ap (λ (n : ℕ). codes "records " ++ (decimal n ++ 10 ∷ [])) count_is) lines_are in
    text_is ∙ before ∙ whole ∙ append_assoc (codes "records ") (decimal (length rows) ++ 10 ∷ []) (flat_map (row_line attrs) rows)
    ∙ ap (λ (x : List ℕ). codes "records " ++ x) (append_assoc (decimal (length rows)) (10 ∷ []) (flat_map (row_line attrs) rows))
