-- Records one after another.
use Rattle.std.proofs.Common.{◌≡◌, ℕ, ◌≤◌, ◌+◌, ◌-◌, ◌*◌, ◌^◌, List, ◌++◌, length, take, drop, slice_range, ap, ◌∙◌, arith, length-append, length-drop}
use Rattle.std.proofs.lemmas.List.{take-append-le, drop-append-le, drop-drop}
use Rattle.byteorder.specs.Numbers.{little_from-append, big_from-append}
use Rattle.cf_pcap.specs.declared.form.Order.{Order}
use Rattle.cf_pcap.specs.declared.form.Order.TheVariants.{Little, Big}
use Rattle.cf_pcap.specs.declared.form.FileHeader.{FileHeader}
use Rattle.cf_pcap.specs.Capture.{FrameValue, number_in, tick_of, caplen_at, frame_at, HasRecord, HasLongRecord}

pub longer : (n : ℕ) (xs ys : List ℕ) → n ≤ length xs → n ≤ length (xs ++ ys)
longer n xs ys h = rw (length-append xs ys) (omega (arith, h))

-- what comes later doesn't change a number
pub number_first : (order : Order) (n : ℕ) (xs ys : List ℕ) → n ≤ length xs → number_in order n (xs ++ ys) ≡ number_in order n xs
number_first Little n xs ys h = little_from-append n xs ys h
number_first Big n xs ys h = big_from-append n xs ys h

-- the same of a number that stands k bytes on
pub number_later : (order : Order) (n k : ℕ) (xs ys : List ℕ) → k + n ≤ length xs → number_in order n (drop k (xs ++ ys)) ≡ number_in order n (drop k xs)
number_later order n k xs ys h =
    ap (λ bytes. number_in order n bytes) (drop-append-le k xs ys (omega (arith, h)))
    ∙ number_first order n (drop k xs) ys (rw (length-drop k xs) (omega (arith, h)))

pub caplen_first : (header : FileHeader) (xs ys : List ℕ) → 16 ≤ length xs → caplen_at header (xs ++ ys) ≡ caplen_at header xs
caplen_first header xs ys h = number_later header.layout.order 4 8 xs ys (omega (arith, h))

range_first : (a b : ℕ) (xs ys : List ℕ) → a ≤ b → b ≤ length xs → slice_range (xs ++ ys) a b ≡ slice_range xs a b
range_first a b xs ys ab h =
    ap (λ bytes. take (b - a) bytes) (drop-append-le a xs ys (omega (arith, ab, h)))
    ∙ take-append-le (b - a) (drop a xs) ys (rw (length-drop a xs) (omega (arith, ab, h)))

same_fields : (num ts ts' caplen caplen' len len' link : ℕ) (bytes bytes' : List ℕ) → ts ≡ ts' → caplen ≡ caplen' → len ≡ len' → bytes ≡ bytes'
    → ◌≡◌ {A = FrameValue} (record { num = num; ts = ts; caplen = caplen; len = len; link = link; bytes = bytes })
    (record { num = num; ts = ts'; caplen = caplen'; len = len'; link = link; bytes = bytes' })
same_fields num ts ts' caplen caplen' len len' link bytes bytes' p q r s = cc

pub frame_first : (header : FileHeader) (k : ℕ) (xs ys : List ℕ) → 16 + caplen_at header xs ≤ length xs → frame_at header k (xs ++ ys) ≡ frame_at header k xs
frame_first header k xs ys h =
    let head : 16 ≤ length xs = omega (arith, h) in
    let seconds : number_in header.layout.order 4 (xs ++ ys) ≡ number_in header.layout.order 4 xs =
    number_first header.layout.order 4 xs ys (omega (arith, head)) in
    let fraction : number_in header.layout.order 4 (drop 4 (xs ++ ys)) ≡ number_in header.layout.order 4 (drop 4 xs) =
    number_later header.layout.order 4 4 xs ys (omega (arith, head)) in
    let caplen : caplen_at header (xs ++ ys) ≡ caplen_at header xs = caplen_first header xs ys head in
    let len : number_in header.layout.order 4 (drop 12 (xs ++ ys)) ≡ number_in header.layout.order 4 (drop 12 xs) =
    number_later header.layout.order 4 12 xs ys (omega (arith, head)) in
    let bytes : slice_range (xs ++ ys) 16 (16 + caplen_at header (xs ++ ys)) ≡ slice_range xs 16 (16 + caplen_at header xs) =
    ap (λ n. slice_range (xs ++ ys) 16 (16 + n)) caplen ∙ range_first 16 (16 + caplen_at header xs) xs ys (omega arith) h in
    same_fields k _ _ _ _ _ _ header.link _ _
    (ap (λ n. n * 10 ^ 9 + number_in header.layout.order 4 (drop 4 (xs ++ ys)) * tick_of header.layout.precision) seconds
    ∙ ap (λ n. number_in header.layout.order 4 xs * 10 ^ 9 + n * tick_of header.layout.precision) fraction) caplen len bytes

pub record_first : (header : FileHeader) (xs ys : List ℕ) → HasRecord header xs → HasRecord header (xs ++ ys)
record_first header xs ys h =
    let whole : 16 + caplen_at header xs ≤ length xs = h.whole in
    let same : caplen_at header (xs ++ ys) ≡ caplen_at header xs = caplen_first header xs ys (omega (arith, whole)) in
    record { short = rw same h.short; whole = rw (same, length-append xs ys) (omega (arith, whole)) }

pub long_first : (header : FileHeader) (xs ys : List ℕ) → HasLongRecord header xs → HasLongRecord header (xs ++ ys)
long_first header xs ys h =
    let head : 16 ≤ length xs = h.head in
    record { head = rw (length-append xs ys) (omega (arith, head)); long = rw (caplen_first header xs ys head) h.long }

-- what is left after more bytes of what is left
pub left_of : (bytes rest : List ℕ) (n : ℕ) → rest ≡ drop (length bytes - length rest) bytes → n ≤ length rest → length rest ≤ length bytes
    → drop n rest ≡ drop (length bytes - length (drop n rest)) bytes
left_of bytes rest n is within few =
    let left = length-drop n rest in
    let sum : length bytes - length rest + n ≡ length bytes - length (drop n rest) = omega (arith, left, within, few) in
    ap (drop n) is ∙ (drop-drop n (length bytes - length rest) bytes ∙ ap (λ k. drop k bytes) sum)
