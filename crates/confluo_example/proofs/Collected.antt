-- The rows of both writers are in the log.
use Rattle.std.proofs.Common.{◌≡◌, ◌∙◌, ◌+◌, ◌<◌, ◌++◌, ℕ, zero, suc, List, [], ◌∷◌, All, Ok, length, map, slice_get, refl, ap, sym, subst, append-nil, Some, arith}
use Rattle.std.proofs.lemmas.List.Sums.{AllPass-from_list_all}
use Rattle.std.specs.List.{range_with_len, AllByRecursion}
use Rattle.cf_row.specs.Row.{RowValue}
use Rattle.cf_row.specs.declared.row.Entry.{Entry}
use Rattle.cf_shape.specs.Lanes.{ShapeValue}
use Rattle.cf_setup.specs.Setups.{SetupValue, IsSetup, shaped}
use Rattle.cf_plain.specs.Answered.{answer_on}
use Rattle.cf_plain.specs.Asks.{Suits, suits_of}
use Rattle.cf_plain.specs.declared.ask.Ask.{Ask}
use Rattle.cf_plain.specs.declared.answer.Answer.{Answer}
use Rattle.cf_table.specs.Values.{PassValue, LogValue, IsOf}
use Rattle.cf_table.specs.Moves.{Begins}
use Rattle.cf_table.proofs.Settling.{begins_then}
use Rattle.cf_log.specs.Writers.{rows_by, IsWriter, AreWriters, IsOpened, AppendsRows, HasJoined}
use Rattle.cf_log.specs.declared.passes.Opened.{Opened}
use Rattle.confluo_example.specs.Example.{HasFound, HasWritten}
use Rattle.confluo_example.specs.declared.Found.{Found}
use Rattle.cf_table.proofs.Homing.{still_one}

-- one number more
pub map_more : {X : Type 0} (f : ℕ → X) (a n : ℕ) → map f (range_with_len a (n + 1)) ≡ map f (range_with_len a n) ++ f (a + n) ∷ []
map_more f a zero = ap (λ (k : ℕ). f k ∷ []) (let e : a ≡ a + 0 = omega arith in e)
map_more f a (suc n) =
    let more : suc n + 1 ≡ suc (n + 1) = omega arith in
    let next : a + suc n ≡ a + 1 + n = omega arith in
    rw (more, next) (ap (λ xs. f a ∷ xs) (map_more f (a + 1) n))

pub sent_more : {X : Type 0} (f : ℕ → X) (n : ℕ) (old new : List X) → old ≡ map f (range_with_len 0 n) → new ≡ old ++ f n ∷ []
    → new ≡ map f (range_with_len 0 (n + 1))
sent_more f n old new is more =
    let same : 0 + n ≡ n = omega arith in
    more ∙ (ap (λ xs. xs ++ f n ∷ []) is ∙ sym (rw same at (map_more f 0 n)))

-- what the setup asks can be asked of its log
pub asks_suit : (setup : SetupValue) (shape : ShapeValue) (asks : List Ask) → IsSetup setup → shape ≡ shaped setup 4096 2 256 → asks ≡ setup.asks
    → All (Suits shape) asks
asks_suit setup shape asks lawful is at =
    subst (λ (qs : List Ask). All (Suits shape) qs) (sym at)
    (subst (λ (s : ShapeValue). All (Suits s) setup.asks) (sym is)
    (AllPass-from_list_all (suits_of (shaped setup 4096 2 256)) setup.asks (lawful.asks 4096 2 256)))

-- the passes of a log that was opened for two writers
pub both_writers : (shape : ShapeValue) (o : Opened) (a b : PassValue) → IsOpened shape o → o.writers.items ≡ a ∷ b ∷ []
    → IsWriter o.log 0 a × IsWriter o.log 1 b
both_writers shape o a b opened is = (
  opened.writers.each 0 a (ap (λ (hs : List PassValue). slice_get hs 0) is),
  opened.writers.each 1 b (ap (λ (hs : List PassValue). slice_get hs 1) is),
)

still_writer : (log : LogValue) (w : ℕ) (rows : List RowValue) (m n : PassValue) → IsWriter log w m → AppendsRows log rows m n (Ok tt) → IsWriter log w n
still_writer log w rows m n is done =
    record { of = still_one log m n is.of (done.goes_on).same; rest = done.rest; writer_is = done.writer ∙ is.writer_is }

all_appended : (log : LogValue) (rows : List RowValue) (m n : PassValue) → rows_by m ≡ [] → AppendsRows log rows m n (Ok tt) → rows_by n ≡ rows
all_appended log rows m n none done =
    done.rows_are ∙ (ap (λ (rs : List RowValue). rs ++ done.done) none
    ∙ (sym (append-nil done.done) ∙ (ap (λ (rs : List RowValue). done.done ++ rs) (sym done.refused) ∙ done.split)))

-- Both have appended all of their rows.
pub record Done (o : Opened) (first second : List RowValue) (a b a' b' : PassValue) : Type 0 where
  pub opened : IsOpened o.log.shape o
  pub two : (o.log.shape).writers ≡ 2
  pub were : o.writers.items ≡ a ∷ b ∷ []
  pub left : AppendsRows o.log first a a' (Ok tt)
  pub right : AppendsRows o.log second b b' (Ok tt)

module _ (o : Opened) (first second : List RowValue) (a b a' b' : PassValue) (done : Done o first second a b a' b') where
  each : (k : ℕ) (h : PassValue) → IsWriter o.log 0 a' → IsWriter o.log 1 b' → slice_get (a' ∷ b' ∷ []) k ≡ Some h → IsWriter o.log k h
  each zero h left right at = (let e : a' ≡ h = cc at in subst (IsWriter o.log 0) e left)
  each (suc zero) h left right at = (let e : b' ≡ h = cc at in subst (IsWriter o.log 1) e right)
  each (suc (suc k)) h left right at = absurd (cc at)

  both_ready : AreWriters o.log (a' ∷ b' ∷ [])
  both_ready =
      let were = both_writers o.log.shape o a b done.opened done.were in record {
        count = sym done.two;
        each = λ k h at. each k h (still_writer o.log 0 first a a' were.0 done.left) (still_writer o.log 1 second b b' were.1 done.right) at;
      }

  -- the log, with its passes back
  pub written : (asks : List Ask) (live : List Answer) (seen : List Entry) (n : Opened) → n.log ≡ o.log → n.writers.items ≡ a' ∷ b' ∷ []
      → IsOf n.root o.log → (n.root.view).books ≡ [] → Begins seen (n.root.view).seen
      → live ≡ map (answer_on o.log.shape seen) asks → HasWritten asks first second n live
  written asks live seen n log items of away begins are = record {
    of = subst (IsOf n.root) (sym log) of;
    away = away;
    writers = subst (λ (l : LogValue). AreWriters l n.writers.items) (sym log) (subst (AreWriters o.log) (sym items) both_ready);
    first_are = λ pass at.
        let e : Some a' ≡ Some pass = sym (ap (λ (hs : List PassValue). slice_get hs 0) items) ∙ at in
        let same : a' ≡ pass = cc e in
        ap rows_by (sym same)
        ∙ all_appended o.log first a a' (done.opened.none 0 a (ap (λ (gs : List PassValue). slice_get gs 0) done.were)) done.left;
    second_are = λ pass at.
        let e : Some b' ≡ Some pass = sym (ap (λ (hs : List PassValue). slice_get hs 1) items) ∙ at in
        let same : b' ≡ pass = cc e in
        ap rows_by (sym same)
        ∙ all_appended o.log second b b' (done.opened.none 1 b (ap (λ (gs : List PassValue). slice_get gs 1) done.were)) done.right;
    seen = seen;
    begins = begins;
    live_are = are ∙ ap (λ (l : LogValue). map (answer_on l.shape seen) asks) (sym log);
  }

some_first : (hs : List PassValue) → length hs ≡ 2 → (a b : PassValue) × (hs ≡ a ∷ b ∷ [])
some_first [] two = absurd (cc two)
some_first (a ∷ []) two = absurd (cc two)
some_first (a ∷ b ∷ []) two = (a, b, refl)
some_first (a ∷ b ∷ c ∷ hs) two = absurd (cc two)

-- all was asked
pub found : (setup : SetupValue) (shape : ShapeValue) (asks : List Ask) (first second : List RowValue) (o : Opened) (live whole : List Answer) (f : Found)
    (joined last : PassValue) → o.log.shape ≡ shape → shape.writers ≡ 2 → asks ≡ setup.asks → HasWritten asks first second o live
    → HasJoined o.log o.root o.writers.items joined → (last.view).seen ≡ (joined.view).seen
    → whole ≡ map (answer_on o.log.shape (last.view).seen) asks → f.live.items ≡ live → f.whole.items ≡ whole
    → HasFound shape setup.asks first second f
found setup shape asks first second o live whole f joined last is two at has home stays are live_is whole_is =
    let count : length o.writers.items ≡ 2 = has.writers.count ∙ (ap (λ (s : ShapeValue). s.writers) is ∙ two) in
    let both = some_first o.writers.items count in
    let zero_at = ap (λ (gs : List PassValue). slice_get gs 0) both.2 in
    let one_at = ap (λ (gs : List PassValue). slice_get gs 1) both.2 in
    let log = (joined.view).seen in
    let begins = begins_then has.seen (o.root.view).seen log has.begins (home.gathered).own in
    let answers : List Entry → List Answer = λ es. map (answer_on o.log.shape es) asks in
    subst (λ (s : ShapeValue). HasFound s setup.asks first second f) is
    (subst (λ (qs : List Ask). HasFound o.log.shape qs first second f) at
    (record {
      log = log;
      both = record {
        first_are = home.rows 0 both.0 zero_at ∙ has.first_are both.0 zero_at;
        second_are = home.rows 1 both.1 one_at ∙ has.second_are both.1 one_at;
        exist = subst (λ (w : ℕ). AllByRecursion (λ entry. entry.writer < w) log) (ap (λ (s : ShapeValue). s.writers) is ∙ two) home.exist;
      };
      seen = length has.seen;
      live = live_is ∙ (has.live_are ∙ ap answers (sym begins));
      whole = whole_is ∙ (are ∙ ap answers stays);
    }))

pub pushed : (none one two : List PassValue) (a b : PassValue) → none ≡ [] → one ≡ none ++ a ∷ [] → two ≡ one ++ b ∷ [] → two ≡ a ∷ b ∷ []
pushed none one two a b is first second =
    second ∙ (ap (λ (hs : List PassValue). hs ++ b ∷ []) first ∙ ap (λ (hs : List PassValue). (hs ++ a ∷ []) ++ b ∷ []) is)
