-- Rows that are numbered on.
use Rattle.std.proofs.Common.{◌≡◌, ℕ, suc, ◌+◌, List, [], ◌∷◌, ◌++◌, length, refl, sym, ap, ap₂, ◌∙◌, arith}
use Rattle.std.proofs.lemmas.List.{length-map, map-append}
use Rattle.cf_row.specs.Row.{RowValue}
use Rattle.cf_row.specs.declared.packet6.PacketSchema.{PacketSchema}
use Rattle.cf_row.specs.declared.packet6.PacketSchema.TheVariants.{Packet, Packet6}
use Rattle.cf_pcap.specs.Capture.{FrameValue}
use Rattle.cf_pcap.specs.Limits.{num_of}
use Rattle.cf_pcap.specs.declared.limit.Length.TheVariants.{Any}
use Rattle.cf_intake.specs.Reads.{numbered_on}
use Rattle.cf_intake.specs.Rows.{packet_rows, row_by}

-- a frame with another number has the row with that number
row_numbered : (schema : PacketSchema) (frame : FrameValue) (n : ℕ) → row_by schema (record frame { num = n }) ≡ record (row_by schema frame) { num = n }
row_numbered Packet frame n = refl
row_numbered Packet6 frame n = refl

pub numbered_append : (first : ℕ) (xs ys : List RowValue) → numbered_on first (xs ++ ys) ≡ numbered_on first xs ++ numbered_on (first + length xs) ys
numbered_append first [] ys = ap (λ (n : ℕ). numbered_on n ys) (omega arith)
numbered_append first (x ∷ xs) ys =
    let same : suc first + length xs ≡ first + length (x ∷ xs) = omega arith in
    ap (λ (rs : List RowValue). record x { num = num_of Any first } ∷ rs)
    (numbered_append (suc first) xs ys ∙ ap (λ (n : ℕ). numbered_on (suc first) xs ++ numbered_on n ys) same)

-- one more frame
pub more_numbered : (schema : PacketSchema) (first num : ℕ) (frames : List FrameValue) (frame : FrameValue) (row : RowValue) (rows now : List RowValue)
    → rows ≡ numbered_on first (packet_rows schema frames) → num ≡ num_of Any (first + length frames)
    → row ≡ row_by schema (record frame { num = num }) → now ≡ rows ++ (row ∷ []) → now ≡ numbered_on first (packet_rows schema (frames ++ frame ∷ []))
more_numbered schema first num frames frame row rows now before count is grown =
    let many : length (packet_rows schema frames) ≡ length frames = length-map frames (row_by schema) in
    let at : num ≡ num_of Any (first + length (packet_rows schema frames)) = count ∙ ap (λ (n : ℕ). num_of Any (first + n)) (sym many) in
    let last : row ≡ record (row_by schema frame) { num = num_of Any (first + length (packet_rows schema frames)) } =
    is ∙ row_numbered schema frame num ∙ ap (λ (n : ℕ). record (row_by schema frame) { num = n }) at in
    grown ∙ ap₂ (λ (rs : List RowValue) (r : RowValue). rs ++ (r ∷ [])) before last
    ∙ sym (numbered_append first (packet_rows schema frames) (row_by schema frame ∷ []))
    ∙ ap (λ (rs : List RowValue). numbered_on first rs) (sym (map-append (row_by schema) frames (frame ∷ [])))

-- rows are numbered alike from numbers that are told alike
pub numbered_alike : (a b : ℕ) (rows : List RowValue) → num_of Any a ≡ num_of Any b → numbered_on a rows ≡ numbered_on b rows
numbered_alike a b [] same = refl
numbered_alike a b (row ∷ rows) same =
    let next : num_of Any (suc a) ≡ num_of Any (suc b) = omega (arith, same) in
    ap₂ (λ (n : ℕ) (rs : List RowValue). record row { num = n } ∷ rs) same (numbered_alike (suc a) (suc b) rows next)

pub numbered_length : (first : ℕ) (rows : List RowValue) → length (numbered_on first rows) ≡ length rows
numbered_length first [] = refl
numbered_length first (row ∷ rows) = ap (λ (n : ℕ). suc n) (numbered_length (suc first) rows)

-- as many rows as frames
pub numbered_count : (schema : PacketSchema) (first : ℕ) (frames : List FrameValue) → length (numbered_on first (packet_rows schema frames)) ≡ length frames
numbered_count schema first frames = numbered_length first (packet_rows schema frames) ∙ length-map frames (row_by schema)
