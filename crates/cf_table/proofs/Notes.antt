-- What the root notes of the books at home.
use Rattle.std.proofs.Common.{◌≡◌, ℕ, ◌<◌, ◌≤◌, suc, List, [], ◌∷◌, ◌++◌, length, map, Some, slice_get, refl, sym, ap, ◌∙◌, arith}
use Rattle.std.proofs.lemmas.List.{map-append}
use Rattle.std.proofs.lemmas.Option.{slice_get_within}
use Rattle.cf_law.specs.Passes.{Book}
use Rattle.cf_law.specs.Events.{tabulated, no_book}
use Rattle.cf_law.proofs.Fronts.{table_length, table_at}
use Rattle.cf_table.specs.declared.pass.Note.{Note}
use Rattle.cf_table.specs.Moves.{note_of, AreNoted}

pub no_notes : map note_of (tabulated no_book 0) ≡ []
unfolding tabulated
no_notes = refl

pub next_note : (n m : ℕ) → m ≡ suc n → map note_of (tabulated no_book m) ≡ map note_of (tabulated no_book n) ++ note_of (no_book n) ∷ []
unfolding tabulated
next_note n m e = ap (λ (k : ℕ). map note_of (tabulated no_book k)) e ∙ map-append note_of (tabulated no_book n) (no_book n ∷ [])

empty_book : (w k : ℕ) (b : Book) → slice_get (tabulated no_book w) k ≡ Some b → (k < w) × (no_book k ≡ b)
empty_book w k b e =
    let lt : k < w = omega (arith, slice_get_within (tabulated no_book w) k b e, table_length no_book w) in
    (lt, (let f : Some (no_book k) ≡ Some b = sym (table_at no_book w k lt) ∙ e in cc f))

pub first_noted : (notes : List Note) (w nodes : ℕ) → notes ≡ map note_of (tabulated no_book w) → w ≤ 15 → nodes ≤ 65536
    → AreNoted notes (tabulated no_book w) nodes
first_noted notes w nodes is few low = record {
  notes_are = is;
  few = low;
  bounds = λ k b at.
      (let e = empty_book w k b at in let writer = ap (λ (c : Book). c.writer) e.1 in let used = ap (λ (c : Book). length c.used) e.1 in let lt = e.0 in
      (omega (arith, writer), omega (arith, used)));
}
