-- Marks that more records can't undo.
use Rattle.std.proofs.Common.{◌≡◌, ℕ, ◌+◌, ◌≤◌, true, false, not, ◌==◌, min, max, arith}
use Rattle.std.proofs.lemmas.Bool.{ltb-true, leb-true, lt-ltb, le-leb, ne_eqb, and_parts, false≢true, not-true}
use Rattle.cf_row.specs.Expr.{compares}
use Rattle.cf_row.specs.declared.expr.Op.{Op}
use Rattle.cf_row.specs.declared.expr.Op.TheVariants.{Eq, Ne, Lt, Le, Gt, Ge, Within, Outside}
use Rattle.cf_fold.specs.Quads.{QuadValue}
use Rattle.cf_fold.specs.Triggers.{part_of}
use Rattle.cf_fold.specs.declared.trigger.Part.{Part}
use Rattle.cf_fold.specs.declared.trigger.Part.TheVariants.{Count, Sum, Least, Greatest}
use Rattle.cf_fold.specs.declared.trigger.Trigger.{Trigger}
use Rattle.cf_watch.specs.Kept.{BucketValue, with_record}
use Rattle.cf_watch.specs.Marks.{grows, is_downward, is_upward, meets}

-- a greater number is above as well
upward : (op : Op) (x y number : ℕ) → is_upward op ≡ true → x ≤ y → compares op x number 0 ≡ true → compares op y number 0 ≡ true
upward Eq x y number up le is = absurd (false≢true up)
upward Ne x y number up le is = absurd (false≢true up)
upward Lt x y number up le is = absurd (false≢true up)
upward Le x y number up le is = absurd (false≢true up)
upward Gt x y number up le is = lt-ltb number y (omega (arith, le, ltb-true number x is))
upward Ge x y number up le is = le-leb number y (omega (arith, le, leb-true number x is))
upward Within x y number up le is = absurd (false≢true up)
upward Outside x y number up le is = absurd (false≢true up)

-- a lower number is below as well
downward : (op : Op) (x y number : ℕ) → is_downward op ≡ true → y ≤ x → compares op x number 0 ≡ true → compares op y number 0 ≡ true
downward Eq x y number down le is = absurd (false≢true down)
downward Ne x y number down le is = absurd (false≢true down)
downward Lt x y number down le is = lt-ltb y number (omega (arith, le, ltb-true x number is))
downward Le x y number down le is = le-leb y number (omega (arith, le, leb-true x number is))
downward Gt x y number down le is = absurd (false≢true down)
downward Ge x y number down le is = absurd (false≢true down)
downward Within x y number down le is = absurd (false≢true down)
downward Outside x y number down le is = absurd (false≢true down)

abbrev more : QuadValue → ℕ → QuadValue
more q n = record { count = q.count + 1; sum = q.sum + n; least = min q.least n; greatest = max q.greatest n }

part_stays : (part : Part) (op : Op) (q : QuadValue) (n number : ℕ) → grows part op ≡ true → compares op (part_of part q) number 0 ≡ true
    → compares op (part_of part (more q n)) number 0 ≡ true
part_stays Count op q n number grow is = upward op q.count (q.count + 1) number grow (omega arith) is
part_stays Sum op q n number grow is = upward op q.sum (q.sum + n) number grow (omega arith) is
part_stays Least op q n number grow is = downward op q.least (min q.least n) number grow (omega arith) is
part_stays Greatest op q n number grow is = upward op q.greatest (max q.greatest n) number grow (omega arith) is

pub growing_stays : (trigger : Trigger) (k : BucketValue) (n : ℕ) → grows trigger.part trigger.op ≡ true → meets trigger k ≡ true
    → meets trigger (with_record n k) ≡ true
growing_stays trigger k n grow met =
    let q : QuadValue = k.quad in
    let parts = and_parts (not (q.count == 0)) (compares trigger.op (part_of trigger.part q) trigger.number 0) met in
    let some : (q.count == 0) ≡ false = not-true (q.count == 0) parts.0 in
    let more_than_none : (q.count + 1 == 0) ≡ false = ne_eqb (q.count + 1) 0 (λ e. omega (arith, e)) in
    rw (some, more_than_none) (part_stays trigger.part trigger.op q n trigger.number grow parts.1)
