-- Passes that were just dealt of an empty log.
use Rattle.std.proofs.Common.{◌≡◌, ◌<◌, suc, List, ◌∷◌, Some, slice_get, refl, sym, ap, ◌∙◌, arith}
use Rattle.std.proofs.lemmas.Option.{slice_get_within}
use Rattle.cf_law.specs.Passes.{Book, Pass}
use Rattle.cf_law.specs.Events.{tabulated, no_book}
use Rattle.cf_law.proofs.Fronts.{table_length, table_at}
use Rattle.cf_table.specs.Values.{PassValue, LogValue}
use Rattle.cf_table.specs.Rule.{root_pass}
use Rattle.cf_table.specs.Moves.{AreDealt}
use Rattle.cf_table_tests.specs.Fresh.{IsFresh, AreFresh}

pub fresh_first : (log : LogValue) (h : PassValue) (hs : List PassValue) → AreFresh log (h ∷ hs) → IsFresh log h
fresh_first log h hs all = all 0 h refl

pub fresh_next : (log : LogValue) (h : PassValue) (hs : List PassValue) → AreFresh log (h ∷ hs) → AreFresh log hs
fresh_next log h hs all k x at = all (suc k) x at

pub dealt_fresh : (log : LogValue) (m n : PassValue) (hs : List PassValue) → m.view ≡ root_pass log.shape → AreDealt log m hs n → AreFresh log hs
dealt_fresh log m n hs is dealt k h at =
    let d = dealt.each k h at in
    let w = (log.shape).writers in
    let there : slice_get (tabulated no_book w) k ≡ Some d.book = ap (λ (p : Pass). slice_get p.books k) (sym is) ∙ d.at in
    let lt : k < w = omega (arith, slice_get_within (tabulated no_book w) k d.book there, table_length no_book w) in
    let e : no_book k ≡ d.book = (let f : Some (no_book k) ≡ Some d.book = sym (table_at no_book w k lt) ∙ there in cc f) in record {
      of = d.of;
      book = d.book;
      one = ap (λ (p : Pass). p.books) d.view;
      free = ap (λ (b : Book). b.over) (sym e);
      rests = ap (λ (b : Book). b.flight) (sym e);
    }
