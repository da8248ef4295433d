-- The rows of one more frame.
use Rattle.std.proofs.Common.{◌≡◌, ℕ, zero, suc, ◌<◌, ◌+◌, List, [], ◌∷◌, ◌++◌, length, map, take, get_or, sym, ap, ap₂, ◌∙◌, arith}
use Rattle.std.proofs.lemmas.List.{map-append}
use Rattle.cf_row.specs.Row.{RowValue}
use Rattle.cf_row.specs.declared.packet6.PacketSchema.{PacketSchema}
use Rattle.cf_pcap.specs.Capture.{FrameValue}
use Rattle.cf_intake.specs.Rows.{packet_rows, row_by}

take_more : {A : Type 0} (xs : List A) (i : ℕ) (x : A) → i < length xs → x ≡ get_or xs i x → take (i + 1) xs ≡ take i xs ++ (x ∷ [])
take_more {A} [] i x lt is = absurd (omega (arith, lt))
take_more {A} (y ∷ xs) zero x lt is = ap (λ (z : A). z ∷ []) (sym is)
take_more {A} (y ∷ xs) (suc i) x lt is =
    let e : suc i + 1 ≡ suc (i + 1) = omega arith in
    rw e (ap (λ (zs : List A). y ∷ zs) (take_more xs i x (omega (arith, lt)) is))

more : {A B : Type 0} (f : A → B) (xs : List A) (i : ℕ) (x : A) (y : B) (ys zs : List B) → i < length xs → x ≡ get_or xs i x → y ≡ f x
    → ys ≡ map f (take i xs) → zs ≡ ys ++ (y ∷ []) → zs ≡ map f (take (i + 1) xs)
more {A} {B} f xs i x y ys zs lt is row before now =
    now ∙ ap₂ (λ (a b : List B). a ++ b) before (ap (λ (z : B). z ∷ []) row)
    ∙ sym (map-append f (take i xs) (x ∷ [])) ∙ ap (λ (q : List A). map f q) (sym (take_more xs i x lt is))

pub more_rows : (schema : PacketSchema) (frames : List FrameValue) (i : ℕ) (frame : FrameValue) (row : RowValue) (rows now : List RowValue) → i < length frames
    → frame ≡ get_or frames i frame → row ≡ row_by schema frame → rows ≡ packet_rows schema (take i frames) → now ≡ rows ++ (row ∷ [])
    → now ≡ packet_rows schema (take (i + 1) frames)
more_rows schema frames i frame row rows now lt is row_is before grown = more (row_by schema) frames i frame row rows now lt is row_is before grown
