-- Blocks that are passed over.
use Rattle.std.proofs.Common.{◌≡◌, inl, inr, ◌⊎◌, ℕ, ◌<◌, ◌≤◌, ◌+◌, ◌-◌, ◌^◌, eqb, eq-eqb, true, false, List, [], ◌∷◌, ◌++◌, length, take, drop, Option, Some, None, Result, Ok, Err, is_some, refl, sym, ap, subst, ◌∙◌, arith, append_assoc, append-nil, length-append, length-drop}
use Rattle.std.proofs.lemmas.Bool.{cases_lt}
use Rattle.std.proofs.lemmas.Bool.Decides.{nat_tests}
use Rattle.std.proofs.lemmas.List.{take-append-drop, take-append-le, take_all}
use Rattle.std.proofs.Math.Seq.{take-append-add, drop-append-add}
use Rattle.cf_pcap.specs.declared.scope.Scope.{Scope}
use Rattle.cf_pcap.specs.declared.form.Order.{Order}
use Rattle.cf_pcap.specs.Capture.{FrameValue, number_in}
use Rattle.cf_pcap.proofs.Following.{number_later}
use Rattle.cf_pcap.specs.declared.limit.Length.{Length}
use Rattle.cf_pcap.specs.declared.limit.Length.TheVariants.{Limited, Any}
use Rattle.cf_pcap.specs.Limits.{count_on}
use Rattle.cf_pcap.specs.Format.{Wants, Bad, Takes, ReadsTo}
use Rattle.cf_pcap.proofs.FormatUnits.{reads_nothing, reads_more, reads_on, reads_one, reads_fit, reads_count}
use Rattle.cf_pcapng.specs.declared.fault.Flaw.{Flaw}
use Rattle.cf_pcapng.specs.declared.fault.Flaw.TheVariants.{BadLength}
use Rattle.cf_pcapng.specs.declared.head.BlockKind.{BlockKind}
use Rattle.cf_pcapng.specs.declared.head.BlockKind.TheVariants.{Other}
use Rattle.cf_pcapng.specs.declared.head.BlockHead.{BlockHead}
use Rattle.cf_pcapng.specs.declared.head.BlockHead.TheVariants.{Short, Flawed, Stands}
use Rattle.cf_pcapng.specs.declared.interfaces.Interface.{Interface}
use Rattle.cf_pcapng.specs.declared.content.Content.{Content}
use Rattle.cf_pcapng.specs.declared.content.Content.TheVariants.{Nothing}
use Rattle.cf_pcapng.specs.declared.passed.Passed.{Passed}
use Rattle.cf_pcapng.specs.Blocks.{head_of, last_total, content_of, is_section}
use Rattle.cf_pcapng.specs.File.{State, fault_of, found_at, block_found, step, pcapng}
use Rattle.cf_pcapng.specs.Reading.{AreRead, WasPassed, Begins, Breaks, AreReadOn, AreReadOnAfter, IsLetGo, IsPassedAt, KeepsLastField, FitsIn, AreFew, IsSoundOn, IsGoneOn, size_by, missing_of}
use Rattle.cf_pcapng.proofs.Heads.{head_stays, head_by_8, section_first, standing, at_least, at_most, seen_size}
use Rattle.cf_pcapng.proofs.Places.{reads_few}
use Rattle.cf_pcapng.proofs.Steps.{Shown, step_at, found_short, found_whole, length_front, block_not_wants, stepper}

-- What a block of an unknown type shows.

content_true : (scope : Scope) (interfaces : List Interface) (order : Order) (block : List ℕ) → last_total order block ≡ length block
    → content_of scope interfaces order Other block ≡ Ok Nothing
unfolding content_of
content_true scope interfaces order block h = let same : eqb (last_total order block) (length block) ≡ true =
    eq-eqb (last_total order block) (length block) h in rw same refl

content_false : (scope : Scope) (interfaces : List Interface) (order : Order) (block : List ℕ) → (last_total order block ≡ length block → ⊥)
    → content_of scope interfaces order Other block ≡ Err BadLength
unfolding content_of
content_false scope interfaces order block h = let other : eqb (last_total order block) (length block) ≡ false = grind (arith, nat_tests) in rw other refl

-- the last field of a block whose first bytes were let go
last_field : (order : Order) (gone bytes : List ℕ) (total left : ℕ) → length gone + left ≡ total → 4 ≤ left → left ≤ length bytes
    → last_total order (take total (gone ++ bytes)) ≡ number_in order 4 (drop (left - 4) bytes)
last_field order gone bytes total left is some whole =
    let len : length (gone ++ bytes) ≡ length gone + length bytes = length-append gone bytes in
    let size : length (take total (gone ++ bytes)) ≡ total = length_front total (gone ++ bytes) (omega (arith, len, is, whole)) in
    let at : total - 4 ≡ length gone + (left - 4) = omega (arith, is, some) in
    ap (λ n. number_in order 4 (drop (n - 4) (take total (gone ++ bytes)))) size
    ∙ sym (number_later order 4 (total - 4) (take total (gone ++ bytes)) (drop total (gone ++ bytes)) (omega (arith, size, is, some)))
    ∙ ap (λ xs. number_in order 4 (drop (total - 4) xs)) (take-append-drop total (gone ++ bytes))
    ∙ ap (λ n. number_in order 4 (drop n (gone ++ bytes))) at
    ∙ ap (λ xs. number_in order 4 xs) (drop-append-add gone bytes (left - 4))

-- the head of a block whose first bytes were let go
head_kept : (order : Option Order) (block : Passed) (gone bytes : List ℕ) → WasPassed order (Some block) gone
    → head_of order (gone ++ bytes) ≡ Stands block.order Other block.total
head_kept order block gone bytes was = head_stays order gone bytes (λ h. let no : Short ≡ Stands block.order Other block.total = sym h ∙ was.0 in cc) ∙ was.0

pub passed_wants : (scope : Scope) (s : State) (block : Passed) (gone bytes : List ℕ) → WasPassed s.order (Some block) gone
    → block.gone + length bytes < block.total → step scope s (gone ++ bytes) ≡ Wants
passed_wants scope s block gone bytes was short =
    let len : length (gone ++ bytes) ≡ length gone + length bytes = length-append gone bytes in
    let size : length gone ≡ block.gone = was.1 in
    step_at scope s (gone ++ bytes) (Stands block.order Other block.total) (head_kept s.order block gone bytes was)
    ∙ found_short scope s (gone ++ bytes) block.order Other block.total (omega (arith, len, size, short))

pub passed_over : (scope : Scope) (s : State) (block : Passed) (gone bytes : List ℕ) (left : ℕ) → WasPassed s.order (Some block) gone
    → block.gone + left ≡ block.total → left ≤ length bytes → number_in block.order 4 (drop (left - 4) bytes) ≡ block.total
    → step scope s (gone ++ bytes) ≡ Takes block.total [] s
passed_over scope s block gone bytes left was is whole last =
    let len : length (gone ++ bytes) ≡ length gone + length bytes = length-append gone bytes in
    let gone_is : length gone ≡ block.gone = was.1 in
    let room : block.gone + 4 ≤ block.total = was.2 in
    let fits : block.total ≤ length (gone ++ bytes) = omega (arith, len, gone_is, is, whole) in
    let size : length (take block.total (gone ++ bytes)) ≡ block.total = length_front block.total (gone ++ bytes) fits in
    let field : last_total block.order (take block.total (gone ++ bytes)) ≡ block.total =
    last_field block.order gone bytes block.total left (omega (arith, gone_is, is)) (omega (arith, is, room)) whole ∙ last in
    step_at scope s (gone ++ bytes) (Stands block.order Other block.total) (head_kept s.order block gone bytes was)
    ∙ found_whole scope s (gone ++ bytes) block.order Other block.total fits
    ∙ ap (λ (x : Result Content Flaw). block_found scope.length s (take block.total (gone ++ bytes)) x)
    (content_true scope s.interfaces block.order (take block.total (gone ++ bytes)) (field ∙ sym size))
    ∙ ap (λ n. Takes n [] s) size

pub passed_flawed : (scope : Scope) (s : State) (block : Passed) (gone bytes : List ℕ) → WasPassed s.order (Some block) gone
    → block.total ≤ block.gone + length bytes → (number_in block.order 4 (drop (block.total - block.gone - 4) bytes) ≡ block.total → ⊥)
    → step scope s (gone ++ bytes) ≡ Bad (fault_of s.count BadLength)
passed_flawed scope s block gone bytes was whole other =
    let len : length (gone ++ bytes) ≡ length gone + length bytes = length-append gone bytes in
    let gone_is : length gone ≡ block.gone = was.1 in
    let room : block.gone + 4 ≤ block.total = was.2 in
    let fits : block.total ≤ length (gone ++ bytes) = omega (arith, len, gone_is, whole) in
    let size : length (take block.total (gone ++ bytes)) ≡ block.total = length_front block.total (gone ++ bytes) fits in
    let field : last_total block.order (take block.total (gone ++ bytes)) ≡ number_in block.order 4 (drop (block.total - block.gone - 4) bytes) =
    last_field block.order gone bytes block.total (block.total - block.gone) (omega (arith, gone_is, room)) (omega (arith, room)) (omega (arith, whole)) in
    step_at scope s (gone ++ bytes) (Stands block.order Other block.total) (head_kept s.order block gone bytes was)
    ∙ found_whole scope s (gone ++ bytes) block.order Other block.total fits
    ∙ ap (λ (x : Result Content Flaw). block_found scope.length s (take block.total (gone ++ bytes)) x)
    (content_false scope s.interfaces block.order (take block.total (gone ++ bytes)) (λ h. other (sym field ∙ h ∙ size)))

-- What is held of a block that has only begun.

few_at : (scope : Scope) (s : State) (rest : List ℕ) (head : BlockHead) → head_of s.order rest ≡ head → found_at scope s rest head ≡ Wants
    → IsPassedAt s.order rest None → length rest < 2 ^ 20
few_at scope s rest Short is h none = let small : length rest < 12 = seen_size s.order rest is in omega (arith, small)
few_at scope s rest (Flawed flaw) is h none = absurd (let no : ◌≡◌ {A = Shown} (Bad (fault_of s.count flaw)) Wants = h in cc)
few_at scope s rest (Stands order kind total) is h none = elim (cases_lt (length rest) total) [
  | inl short ↦
      let it = standing s.order rest order kind total is in
      let most : total ≤ 2 ^ 20 = at_most kind total it.lawful (λ e. none order total short (is ∙ ap (λ (k : BlockKind). Stands order k total) e)) in
      omega (arith, short, most)
  | inr whole ↦ absurd
      (block_not_wants scope s (take total rest) (content_of scope s.interfaces order kind (take total rest))
      (sym (found_whole scope s rest order kind total whole) ∙ h))
]

pub begins_whole : (scope : Scope) (s : State) (bytes : List ℕ) (frames : List FrameValue) (t : State) (rest : List ℕ)
    → AreRead scope s bytes frames t rest None → IsPassedAt t.order rest None → Begins scope s bytes frames t None rest
begins_whole scope s bytes frames t rest read none = record {
  gone = [];
  was = refl;
  read = read.read;
  part = read.end;
  few = few_at scope t rest (head_of t.order rest) refl (sym (step_at scope t rest (head_of t.order rest) refl) ∙ read.end) none;
}

-- the first bytes of a block that is passed over show its head
head_front : (order : Option Order) (o : Order) (total : ℕ) (rest : List ℕ) (some : ℕ) → head_of order rest ≡ Stands o Other total → 8 ≤ some
    → some ≤ length rest → head_of order (take some rest) ≡ Stands o Other total
head_front order o total rest some is least most =
    let it = standing order rest o Other total is in
    let other = it.other refl in
    let size : length (take some rest) ≡ some = length_front some rest most in
    let whole : take some rest ++ drop some rest ≡ rest = take-append-drop some rest in
    let no_section : is_section (take some rest) ≡ false = sym (section_first (take some rest) (drop some rest) (omega (arith, size, least)))
    ∙ ap is_section whole ∙ other.0 in
    sym (head_by_8 order (take some rest) (drop some rest) (omega (arith, size, least)) no_section) ∙ ap (λ xs. head_of order xs) whole ∙ is

pub room_at : (order : Option Order) (rest : List ℕ) (block : Passed) → IsPassedAt order rest (Some block) → 12 ≤ block.total
room_at order rest block at =
    let it = standing order rest block.order Other block.total at.0 in
    let least : 12 ≤ block.total = at_least Other block.total it.lawful in
    least

pub begins_passed : (scope : Scope) (s : State) (bytes : List ℕ) (frames : List FrameValue) (t : State) (rest : List ℕ) (block passed : Passed) (some : ℕ)
    → AreRead scope s bytes frames t rest None → IsPassedAt t.order rest (Some block) → IsLetGo block (length rest) passed some
    → Begins scope s bytes frames t (Some passed) (drop some rest)
begins_passed scope s bytes frames t rest block passed some read at go =
    let it = standing t.order rest block.order Other block.total at.0 in
    let size : 8 ≤ length rest = it.size in
    let none : block.gone ≡ 0 = at.1 in
    let least : 8 ≤ some = go.first size none (room_at t.order rest block at) in
    let most : some ≤ length rest = go.most in
    let left : length rest < some + 4 = go.left in
    let gone_is : passed.gone ≡ block.gone + some = go.gone_is in
    let room : passed.gone + 4 ≤ block.total = go.room in
    let total_is : passed.total ≡ block.total = go.total_is in
    let front : length (take some rest) ≡ some = length_front some rest most in
    let back : length (drop some rest) ≡ length rest - some = length-drop some rest in
    let whole : rest ≡ take some rest ++ drop some rest = sym (take-append-drop some rest) in
    let same : Stands block.order Other block.total ≡ Stands passed.order Other passed.total =
    ap (λ (o : Order). Stands o Other block.total) (sym go.order_is) ∙ ap (λ n. Stands passed.order Other n) (sym go.total_is) in record {
      gone = take some rest;
      was = (head_front t.order block.order block.total rest some at.0 least most ∙ same, omega (arith, front, none, gone_is), omega (arith, room, total_is));
      read = subst (λ (xs : List ℕ). ReadsTo (pcapng scope) s bytes frames t xs) whole read.read;
      part = ap (λ xs. step scope t xs) (sym whole) ∙ read.end;
      few = omega (arith, back, left);
    }

-- What comes of a block at hand.

pub goes_within : (scope : Scope) (s : State) (block passed : Passed) (some : ℕ) (gone bytes : List ℕ) → WasPassed s.order (Some block) gone
    → block.gone + length bytes < block.total → IsLetGo block (length bytes) passed some → Begins scope s (gone ++ bytes) [] s (Some passed) (drop some bytes)
goes_within scope s block passed some gone bytes was short go =
    let most : some ≤ length bytes = go.most in
    let left : length bytes < some + 4 = go.left in
    let gone_is : passed.gone ≡ block.gone + some = go.gone_is in
    let room : passed.gone + 4 ≤ block.total = go.room in
    let total_is : passed.total ≡ block.total = go.total_is in
    let had : length gone ≡ block.gone = was.1 in
    let front : length (take some bytes) ≡ some = length_front some bytes most in
    let back : length (drop some bytes) ≡ length bytes - some = length-drop some bytes in
    let len : length (gone ++ take some bytes) ≡ length gone + length (take some bytes) = length-append gone (take some bytes) in
    let whole : gone ++ bytes ≡ (gone ++ take some bytes) ++ drop some bytes = ap (λ xs. gone ++ xs) (sym (take-append-drop some bytes))
    ∙ sym (append_assoc gone (take some bytes) (drop some bytes)) in
    let same : Stands block.order Other block.total ≡ Stands passed.order Other passed.total =
    ap (λ (o : Order). Stands o Other block.total) (sym go.order_is) ∙ ap (λ n. Stands passed.order Other n) (sym go.total_is) in record {
      gone = gone ++ take some bytes;
      was = (head_kept s.order block gone (take some bytes) was ∙ same, omega (arith, len, had, front, gone_is), omega (arith, room, total_is));
      read = subst (λ (xs : List ℕ). ReadsTo (pcapng scope) s (gone ++ bytes) [] s xs) whole (reads_nothing (pcapng scope) s (gone ++ bytes));
      part = ap (λ xs. step scope s xs) (sym whole) ∙ passed_wants scope s block gone bytes was short;
      few = omega (arith, back, left);
    }

pub goes_wrong : (scope : Scope) (s : State) (block : Passed) (gone bytes : List ℕ) → WasPassed s.order (Some block) gone
    → block.total ≤ block.gone + length bytes → (number_in block.order 4 (drop (block.total - block.gone - 4) bytes) ≡ block.total → ⊥)
    → Breaks scope s (gone ++ bytes) [] s BadLength
goes_wrong scope s block gone bytes was whole other = record {
  rest = gone ++ bytes;
  read = reads_nothing (pcapng scope) s (gone ++ bytes);
  bad = passed_flawed scope s block gone bytes was whole other;
}

pub goes_over : (scope : Scope) (s : State) (block : Passed) (gone bytes : List ℕ) (left : ℕ) (frames : List FrameValue) (t : State) (rest : List ℕ)
    (flaw : Option Flaw) → WasPassed s.order (Some block) gone → block.gone + left ≡ block.total → left ≤ length bytes
    → number_in block.order 4 (drop (left - 4) bytes) ≡ block.total → AreRead scope s (drop left bytes) frames t rest flaw
    → AreRead scope s (gone ++ bytes) frames t rest flaw
goes_over scope s block gone bytes left frames t rest flaw was is whole last read =
    let had : length gone ≡ block.gone = was.1 in
    let at : block.total ≡ length gone + left = omega (arith, had, is) in
    let behind : drop block.total (gone ++ bytes) ≡ drop left bytes = ap (λ n. drop n (gone ++ bytes)) at ∙ drop-append-add gone bytes left in
    let first : ReadsTo (pcapng scope) s (gone ++ bytes) [] s (drop left bytes) =
    subst (λ (xs : List ℕ). ReadsTo (pcapng scope) s (gone ++ bytes) [] s xs) behind
    (reads_one (pcapng scope) s (gone ++ bytes) block.total [] s (passed_over scope s block gone bytes left was is whole last)) in record {
      read = reads_on (pcapng scope) s (gone ++ bytes) [] frames s (drop left bytes) t rest first read.read;
      end = read.end;
    }

pub not_some : (flaw : Option Flaw) → is_some flaw ≡ false → flaw ≡ None
not_some None h = refl
not_some (Some flaw) h = cc

-- what fits, by the counts
fits_on : (l : Length) (k n count held size : ℕ) → count ≡ count_on l k n → n + held ≤ size → FitsIn l (count + held) (k + size)
fits_on Any k n count held size count_is fits = tt
fits_on Limited k n count held size count_is fits = omega (arith, count_is, fits)

fits_more : (l : Length) (n k size more : ℕ) → size ≤ more → FitsIn l n (k + size) → FitsIn l n (k + more)
fits_more Any n k size more few fits = tt
fits_more Limited n k size more few fits = omega (arith, few, fits)

fits_same : (l : Length) (k n m : ℕ) → n ≤ m → FitsIn l (k + n) (k + m)
fits_same Any k n m few = tt
fits_same Limited k n m few = omega (arith, few)

-- what a reader has is no more than it had and what came
pub sound_of : (scope : Scope) (s : State) (bytes : List ℕ) (frames : List FrameValue) (t : State) (passed : Option Passed) (held : List ℕ)
    (flaw : Option Flaw) → AreFew scope.length s.interfaces → AreReadOn scope s bytes frames t passed held flaw
    → IsGoneOn scope.length s (length bytes) t passed held flaw
sound_of scope s bytes frames t passed held (Some flaw) few on = reads_few scope s bytes frames t on.rest on.read few
sound_of scope s bytes frames t passed held None few on =
    let fit : length frames + length (on.gone ++ held) ≤ length bytes = reads_fit (pcapng scope) (stepper scope) s bytes frames t (on.gone ++ held) on.read in
    let count : t.count ≡ count_on scope.length s.count (length frames) =
    reads_count (pcapng scope) (stepper scope) s bytes frames t (on.gone ++ held) on.read in
    let len : length (on.gone ++ held) ≡ length on.gone + length held = length-append on.gone held in
    record {
      fits = fits_on scope.length s.count (length frames) t.count (length held) (length bytes) count (omega (arith, fit, len));
      room = room_of t.order passed on.gone on.was;
      few = on.few;
      interfaces = reads_few scope s bytes frames t (on.gone ++ held) on.read few;
    } where
      room_of : (order : Option Order) (passed : Option Passed) (gone : List ℕ) → WasPassed order passed gone → KeepsLastField passed
      room_of order None gone was = tt
      room_of order (Some block) gone was = was.2

-- the same, where fewer bytes count
sound_more : (l : Length) (s : State) (size more : ℕ) (t : State) (passed : Option Passed) (held : List ℕ) (flaw : Option Flaw) → size ≤ more
    → IsGoneOn l s size t passed held flaw → IsGoneOn l s more t passed held flaw
sound_more l s size more t passed held (Some flaw) few on = on
sound_more l s size more t passed held None few on =
    record { fits = fits_more l (t.count + length held) s.count size more few on.fits; room = on.room; few = on.few; interfaces = on.interfaces }

pub sound_over : (scope : Scope) (s : State) (bytes : List ℕ) (left : ℕ) (frames : List FrameValue) (t : State) (passed : Option Passed) (held : List ℕ)
    (flaw : Option Flaw) → AreFew scope.length s.interfaces → AreReadOn scope s (drop left bytes) frames t passed held flaw
    → IsGoneOn scope.length s (length bytes) t passed held flaw
sound_over scope s bytes left frames t passed held flaw few on =
    let len : length (drop left bytes) ≡ length bytes - left = length-drop left bytes in
    sound_more scope.length s (length (drop left bytes)) (length bytes) t passed held flaw (omega (arith, len))
    (sound_of scope s (drop left bytes) frames t passed held flaw few on)

pub sound_within : (l : Length) (s : State) (block passed : Passed) (some : ℕ) (bytes : List ℕ) → AreFew l s.interfaces → IsLetGo block (length bytes) passed some
    → IsSoundOn l s (length bytes) s (Some passed) (drop some bytes)
sound_within l s block passed some bytes few go =
    let len : length (drop some bytes) ≡ length bytes - some = length-drop some bytes in
    let left : length bytes < some + 4 = go.left in
    let room : passed.gone + 4 ≤ block.total = go.room in
    let total_is : passed.total ≡ block.total = go.total_is in
    record {
      fits = fits_same l s.count (length (drop some bytes)) (length bytes) (omega (arith, len));
      room = omega (arith, room, total_is);
      few = omega (arith, len, left);
      interfaces = few;
    }

-- Reading on, after what was read.

after_reading : (scope : Scope) (s : State) (bytes : List ℕ) (frames more : List FrameValue) (t : State) (rest : List ℕ) (u : State)
    (passed : Option Passed) (held : List ℕ) (flaw : Option Flaw) → ReadsTo (pcapng scope) s bytes frames t rest
    → AreReadOn scope t rest more u passed held flaw → AreReadOn scope s bytes (frames ++ more) u passed held flaw
after_reading scope s bytes frames more t rest u passed held None read on = record {
  gone = on.gone;
  was = on.was;
  read = reads_on (pcapng scope) s bytes frames more t rest u (on.gone ++ held) read on.read;
  part = on.part;
  few = on.few;
}
after_reading scope s bytes frames more t rest u passed held (Some flaw) read on = record {
  rest = on.rest;
  read = reads_on (pcapng scope) s bytes frames more t rest u on.rest read on.read;
  bad = on.bad;
}

pub then_on : (scope : Scope) (s : State) (bytes more : List ℕ) (frames after : List FrameValue) (t : State) (passed : Option Passed) (held : List ℕ)
    (u : State) (block : Option Passed) (rest : List ℕ) (flaw : Option Flaw) → Begins scope s bytes frames t passed held
    → AreReadOnAfter scope t passed (held ++ more) frames after u block rest flaw → AreReadOn scope s (bytes ++ more) after u block rest flaw
then_on scope s bytes more frames after t passed held u block rest flaw on next =
    let read : ReadsTo (pcapng scope) s (bytes ++ more) frames t (on.gone ++ (held ++ more)) =
    subst (λ (xs : List ℕ). ReadsTo (pcapng scope) s (bytes ++ more) frames t xs) (append_assoc on.gone held more)
    (reads_more (pcapng scope) (stepper scope) s bytes frames t (on.gone ++ held) more on.read) in
    subst (λ (xs : List FrameValue). AreReadOn scope s (bytes ++ more) xs u block rest flaw) (sym next.frames_are)
    (after_reading scope s (bytes ++ more) frames next.more t (on.gone ++ (held ++ more)) u block rest flaw read (next.read on.gone on.was))

-- a flaw stays, and so does all where nothing comes
pub still_read : (scope : Scope) (s : State) (bytes more : List ℕ) (frames : List FrameValue) (t : State) (passed : Option Passed) (held : List ℕ)
    (flaw : Option Flaw) → (is_some flaw ≡ true) ⊎ (more ≡ []) → AreReadOn scope s bytes frames t passed held flaw
    → AreReadOn scope s (bytes ++ more) frames t passed held flaw
still_read scope s bytes more frames t passed held flaw (inr none) on =
    subst (λ (xs : List ℕ). AreReadOn scope s xs frames t passed held flaw) (sym (ap (λ xs. bytes ++ xs) none ∙ append-nil bytes)) on
still_read scope s bytes more frames t passed held None (inl h) on = absurd (let no : false ≡ true = h in cc)
still_read scope s bytes more frames t passed held (Some flaw) (inl h) on = record {
  rest = on.rest ++ more;
  read = reads_more (pcapng scope) (stepper scope) s bytes frames t on.rest more on.read;
  bad = (stepper scope).bad_stays t on.rest more (fault_of t.count flaw) on.bad;
}

-- the bytes that are held, then those that complete the block, and then the others
pub in_parts : (gone held first others more : List ℕ) → first ++ others ≡ more → (gone ++ (held ++ first)) ++ others ≡ gone ++ (held ++ more)
in_parts gone held first others more is =
    append_assoc gone (held ++ first) others ∙ ap (λ xs. gone ++ xs) (append_assoc held first others ∙ ap (λ xs. held ++ xs) is)

pub both_lengths : (held first others more : List ℕ) → first ++ others ≡ more → length (held ++ first) + length others ≡ length (held ++ more)
both_lengths held first others more is =
    sym (length-append (held ++ first) others) ∙ ap length (append_assoc held first others ∙ ap (λ xs. held ++ xs) is)

-- the block that hung over, before which no frame was read
pub first_read : (scope : Scope) (s : State) (passed : Option Passed) (bytes whole : List ℕ) (before frames : List FrameValue) (t : State)
    (block : Option Passed) (held : List ℕ) (flaw : Option Flaw) (gone : List ℕ) → bytes ≡ whole → before ≡ []
    → AreReadOnAfter scope s passed bytes before frames t block held flaw → WasPassed s.order passed gone
    → AreReadOn scope s (gone ++ whole) frames t block held flaw
first_read scope s passed bytes whole before frames t block held flaw gone is none read was =
    let all : frames ≡ read.more = read.frames_are ∙ ap (λ xs. xs ++ read.more) none in
    subst (λ (xs : List FrameValue). AreReadOn scope s (gone ++ whole) xs t block held flaw) (sym all)
    (subst (λ (xs : List ℕ). AreReadOn scope s (gone ++ xs) read.more t block held flaw) is (read.read gone was))

-- the first bytes of some bytes and of those that follow
take_both : (n : ℕ) (xs ys : List ℕ) → take n xs ++ take (n - length xs) ys ≡ take n (xs ++ ys)
take_both n xs ys = elim (cases_lt (length xs) n) [
  | inl short ↦
      let at : n ≡ length xs + (n - length xs) = omega (arith, short) in
      ap (λ zs. zs ++ take (n - length xs) ys) (take_all n xs (omega (arith, short)))
      ∙ sym (take-append-add xs ys (n - length xs))
      ∙ ap (λ m. take m (xs ++ ys)) (sym at)
  | inr long ↦
      let at : n - length xs ≡ 0 = omega (arith, long) in
      ap (λ m. take n xs ++ take m ys) at ∙ append-nil (take n xs) ∙ sym (take-append-le n xs ys long)
]

pub missing_is : (section : Option Order) (passed : Option Passed) (held more seen : List ℕ) (count : ℕ) → is_some passed ≡ false → 0 < length held
    → seen ≡ take 12 held ++ take (12 - length held) more → count ≡ size_by (head_of section seen) - length held
    → count ≡ missing_of section passed held more
missing_is section (Some block) held more seen count none some seen_is is = absurd (let no : true ≡ false = none in cc)
missing_is section None [] more seen count none some seen_is is = absurd (let no : 0 < 0 = some in omega (arith, no))
missing_is section None (byte ∷ held) more seen count none some seen_is is =
    is ∙ ap (λ xs. size_by (head_of section xs) - length (byte ∷ held)) (seen_is ∙ take_both 12 (byte ∷ held) more)
