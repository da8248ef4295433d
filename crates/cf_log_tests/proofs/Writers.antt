-- Writers' passes append and ask, and come home.
use Rattle.std.proofs.Common.{◌≡◌, ◌∙◌, ◌<◌, get_or, ℕ, zero, suc, List, [], ◌∷◌, length, Some, slice_get, Result, refl, ap, sym, subst, arith}
use Rattle.std.proofs.lemmas.Option.{slice_get_within}
use Rattle.cf_row.specs.Row.{RowValue}
use Rattle.cf_shape.specs.Lanes.{ShapeValue}
use Rattle.cf_law.specs.Passes.{Book, Pass}
use Rattle.cf_law.specs.Steps.{Holds, IsAtRest}
use Rattle.cf_law.specs.Events.{tabulated, no_book}
use Rattle.cf_law.specs.Words.{Layout}
use Rattle.cf_law.specs.Readers.{AtHome}
use Rattle.cf_law.proofs.Fronts.{table_length, table_at}
use Rattle.cf_table.specs.Values.{PassValue, LogValue, IsOf, book_of}
use Rattle.cf_table.specs.Rule.{root_pass}
use Rattle.cf_table.specs.Moves.{AreDealt, AreAll}
use Rattle.cf_append.specs.Appends.{PassGoesOn, Rests, HasAppendAnswer}
use Rattle.cf_append.specs.declared.appends.AppendFault.{AppendFault}
use Rattle.cf_append.proofs.Appending.{rests_by, rests_all}
use Rattle.cf_append.proofs.Answering.{same_writer}
use Rattle.cf_log_tests.specs.Writers.{IsWriters, AreDealtOut}
use Rattle.cf_table.proofs.Homing.{still_one}

-- All books are dealt.
dealt_at : (log : LogValue) (m n : PassValue) (hs : List PassValue) (k : ℕ) (h : PassValue) → m.view ≡ root_pass log.shape → AreDealt log m hs n
    → slice_get hs k ≡ Some h → IsWriters log k h
dealt_at log m n hs k h is dealt at =
    let d = dealt.each k h at in
    let w = (log.shape).writers in
    let there : slice_get (tabulated no_book w) k ≡ Some d.book = ap (λ (p : Pass). slice_get p.books k) (sym is) ∙ d.at in
    let lt : k < w = omega (arith, slice_get_within (tabulated no_book w) k d.book there, table_length no_book w) in
    let e : no_book k ≡ d.book = (let f : Some (no_book k) ≡ Some d.book = sym (table_at no_book w k lt) ∙ there in cc f) in
    let one : (h.view).books ≡ d.book ∷ [] = ap (λ (p : Pass). p.books) d.view in
    record {
      of = d.of;
      rest = rests_by h.view d.book one (ap (λ (b : Book). b.flight) (sym e));
      writer_is = ap (λ (bs : List Book). (get_or bs 0 (no_book 0)).writer) one ∙ ap (λ (b : Book). b.writer) (sym e);
    }

pub dealt_out : (shape : ShapeValue) (log : LogValue) (m n : PassValue) (hs : List PassValue) → log.shape ≡ shape
    → m ≡ record { table = log.table; id = 0; nodes = (log.shape).nodes; view = root_pass log.shape } → AreDealt log m hs n
    → AreDealtOut shape log n hs
dealt_out shape log m n hs opened is dealt =
    let writers : (log.shape).writers ≡ shape.writers = ap (λ (s : ShapeValue). s.writers) opened in
    let view : m.view ≡ root_pass log.shape = ap (λ (h : PassValue). h.view) is in
    record {
      opened = opened;
      writers = writers;
      of = record {
        table = ap (λ (h : PassValue). h.table) dealt.root ∙ ap (λ (h : PassValue). h.table) is;
        nodes = ap (λ (h : PassValue). h.nodes) dealt.root ∙ ap (λ (h : PassValue). h.nodes) is;
      };
      away = ap (λ (h : PassValue). (h.view).books) dealt.root;
      count = dealt.count ∙ (ap (λ (p : Pass). length p.books) view ∙ (table_length no_book (log.shape).writers ∙ writers));
      each = λ k h at. dealt_at log m n hs k h view dealt at;
    }

pub appended : (log : LogValue) (w : ℕ) (row : RowValue) (m n : PassValue) (r : Result ℕ AppendFault) → IsWriters log w m → PassGoesOn m n → Rests n.view
    → HasAppendAnswer log.shape row m n r → IsWriters log w n
appended log w row m n r is goes rest done =
    record { of = still_one log m n is.of goes.same; rest = rest; writer_is = same_writer log.shape row m n r done ∙ is.writer_is }

-- One writer's pass, or two, are all.
pub each_one : (P : PassValue → Type 0) (a : PassValue) → P a → (k : ℕ) (h : PassValue) → slice_get (a ∷ []) k ≡ Some h → P h
each_one P a is zero h at = (let same : a ≡ h = cc at in subst P same is)
each_one P a is (suc zero) h at = absurd (cc at)
each_one P a is (suc (suc k)) h at = absurd (cc at)

pub each_two : (P : PassValue → Type 0) (a b : PassValue) → P a → P b → (k : ℕ) (h : PassValue) → slice_get (a ∷ b ∷ []) k ≡ Some h → P h
each_two P a b is too zero h at = (let same : a ≡ h = cc at in subst P same is)
each_two P a b is too (suc k) h at = each_one P b too k h at

holds_its : (log : LogValue) (w : ℕ) (h : PassValue) → IsWriters log w h → Holds h.view 0 (book_of h.view)
holds_its log w h is = ap (λ (bs : List Book). slice_get bs 0) (is.rest).one

pub all_one : (log : LogValue) (a : PassValue) → (log.shape).writers ≡ 1 → IsWriters log 0 a → AreAll log (a ∷ [])
all_one log a count is = record {
  of = each_one (λ h. IsOf h log) a is.of;
  rest = each_one (λ h. IsAtRest h.view) a (rests_all a.view is.rest);
  count = sym count;
  writers = λ w lt. (0, a, 0, book_of a.view, refl, holds_its log 0 a is, is.writer_is ∙ (omega arith));
}

writer_of : (log : LogValue) (a b : PassValue) → IsWriters log 0 a → IsWriters log 1 b → (w : ℕ) → w < 2 → (k : ℕ) × (h : PassValue) × (j : ℕ) × (c : Book)
    × (slice_get (a ∷ b ∷ []) k ≡ Some h) × Holds h.view j c × (c.writer ≡ w)
writer_of log a b is too zero lt = (0, a, 0, book_of a.view, refl, holds_its log 0 a is, is.writer_is)
writer_of log a b is too (suc zero) lt = (1, b, 0, book_of b.view, refl, holds_its log 1 b too, too.writer_is)
writer_of log a b is too (suc (suc w)) lt = absurd (omega arith)

pub all_two : (log : LogValue) (a b : PassValue) → (log.shape).writers ≡ 2 → IsWriters log 0 a → IsWriters log 1 b → AreAll log (a ∷ b ∷ [])
all_two log a b count is too = record {
  of = each_two (λ h. IsOf h log) a b is.of too.of;
  rest = each_two (λ h. IsAtRest h.view) a b (rests_all a.view is.rest) (rests_all b.view too.rest);
  count = sym count;
  writers = λ w lt. writer_of log a b is too w (omega arith);
}

-- the passes that were dealt first
pub first_ready : (shape : ShapeValue) (log : LogValue) (root a : PassValue) (hs rest : List PassValue) → AreDealtOut shape log root hs → hs ≡ a ∷ rest
    → IsWriters log 0 a
first_ready shape log root a hs rest dealt is = dealt.each 0 a (ap (λ (xs : List PassValue). slice_get xs 0) is)

pub both_ready : (shape : ShapeValue) (log : LogValue) (root a b : PassValue) (hs rest : List PassValue) → AreDealtOut shape log root hs → hs ≡ a ∷ b ∷ rest
    → IsWriters log 0 a × IsWriters log 1 b
both_ready shape log root a b hs rest dealt is =
    (dealt.each 0 a (ap (λ (xs : List PassValue). slice_get xs 0) is), dealt.each 1 b (ap (λ (xs : List PassValue). slice_get xs 1) is))

-- passes at home are so by their books alone
pub home_same : (sh : Layout) (p q : Pass) → q.books ≡ p.books → AtHome sh p → AtHome sh q
home_same sh p q same home w lt = (let h = home w lt in (h.0, h.1, ap (λ (bs : List Book). slice_get bs h.0) same ∙ h.2, h.3, h.4))

-- a log was opened and forked twice, and then its books were dealt
pub forked_first : (shape : ShapeValue) (log : LogValue) (m p q n a : PassValue) (hs rest : List PassValue) → log.shape ≡ shape
    → m ≡ record { table = log.table; id = 0; nodes = (log.shape).nodes; view = root_pass log.shape } → p ≡ m → q ≡ p
    → AreDealt log q hs n → hs ≡ a ∷ rest → IsWriters log 0 a
forked_first shape log m p q n a hs rest opened is one two dealt first =
    first_ready shape log n a hs rest (dealt_out shape log q n hs opened (two ∙ (one ∙ is)) dealt) first
