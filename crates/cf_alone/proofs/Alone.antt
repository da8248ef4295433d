-- A log of one writer, whose pass has seen all that it has finished.
use Rattle.std.proofs.Common.{◌≡◌, ◌∙◌, ℕ, ◌+◌, ◌^◌, ◌<◌, ◌≤◌, zero, suc, inl, inr, List, [], ◌∷◌, ◌++◌, append-nil, length, get_or, Bool, true, false, cond, Some, None, slice_get, Result, Ok, Err, IfOk, IfErr, refl, sym, ap, ap₂, subst, arith}
use Rattle.std.specs.declared.alloc.AllocError.{AllocError}
use Rattle.std.specs.Result.{result_unwrap_or}
use Rattle.cf_row.specs.Row.{RowValue}
use Rattle.cf_row.specs.declared.row.Entry.{Entry}
use Rattle.cf_shape.specs.Lanes.{ShapeValue}
use Rattle.cf_law.specs.Words.{Spot}
use Rattle.cf_row.proofs.Truths.{eq_true}
use Rattle.cf_row.proofs.Lists.{get_push_same}
use Rattle.cf_law.specs.Passes.{Own, Book, Pass}
use Rattle.cf_law.specs.Steps.{Holds}
use Rattle.cf_law.specs.Events.{tabulated, no_book}
use Rattle.cf_law.specs.Readers.{mine_from}
use Rattle.cf_law.proofs.Fronts.{table_length, table_at}
use Rattle.cf_table.specs.Values.{PassValue, LogValue, book_of}
use Rattle.cf_table.specs.Rule.{root_pass}
use Rattle.cf_table.specs.Moves.{Begins, AreDealt, AreFit, HasAll, MarkedIsFull, HoldsAllBooks}
use Rattle.cf_table.proofs.Counting.{AreBelow}
use Rattle.cf_table.proofs.Folds.{all_of}
use Rattle.cf_table.proofs.Settling.{begins_then}
use Rattle.cf_append.specs.Appends.{PassGoesOn, Rests, HasAppendAnswer}
use Rattle.cf_append.specs.declared.appends.AppendFault.{AppendFault}
use Rattle.cf_append.specs.declared.appends.AppendFault.TheVariants.{Full, NodesFull}
use Rattle.cf_append.proofs.Appending.{rests_by, rests_all}
use Rattle.cf_append.proofs.Answering.{rests_same, same_writer}
use Rattle.cf_plain.specs.Asks.{eval, rows_in}
use Rattle.cf_plain.specs.Segments.{finding_in}
use Rattle.cf_plain.specs.declared.answer.Answer.{Answer}
use Rattle.cf_plain.specs.declared.ask.Ask.{Ask}
use Rattle.cf_plain.specs.declared.finding.Finding.{Finding}
use Rattle.cf_query.specs.Asking.{HasAsked}
use Rattle.cf_alone.specs.Alone.{IsAlone, HasCovered, HasUsedFor}
use Rattle.cf_alone.specs.Solos.{IsAnswerOn, IsFoundIn, IsSolo, IsStill, SoloValue, empty_solo, solo_of}
use Rattle.cf_append.specs.declared.leaves.Leaves.{Leaves}
use Rattle.cf_append.proofs.Pathing.{remembers_still}
use Rattle.cf_table.proofs.Homing.{still_one}

-- Entries of writer 0 alone.
own_first : (k : ℕ) (e : Entry) (es : List Entry) → e.writer < 1 → mine_from 0 k (e ∷ es) ≡ record { offset = k; row = e.row } ∷ mine_from 0 (suc k) es
unfolding mine_from
own_first k e es lt =
    let none : e.writer ≡ 0 = omega (arith, lt) in
    ap (λ (b : Bool). cond b (record { offset = k; row = e.row } ∷ mine_from 0 (suc k) es) (mine_from 0 (suc k) es)) (eq_true e.writer 0 none)

own_long : (k : ℕ) (es : List Entry) → AreBelow 1 es → length (mine_from 0 k es) ≡ length es
unfolding mine_from
own_long k [] below = refl
own_long k (e ∷ es) below = ap (λ (xs : List Own). length xs) (own_first k e es (below 0 e refl)) ∙ ap suc (own_long (suc k) es (λ o x at. below (suc o) x at))

own_last : (k : ℕ) (es : List Entry) (e : Entry) → AreBelow 1 (es ++ e ∷ [])
    → mine_from 0 k (es ++ e ∷ []) ≡ mine_from 0 k es ++ record { offset = k + length es; row = e.row } ∷ []
unfolding mine_from
own_last k [] e below =
    let at : k ≡ k + 0 = omega arith in
    own_first k e [] (below 0 e refl) ∙ ap (λ (o : ℕ). record { offset = o; row = e.row } ∷ []) at
own_last k (x ∷ es) e below =
    let first : x.writer < 1 = below 0 x refl in
    let at : suc k + length es ≡ k + suc (length es) = omega arith in
    own_first k x (es ++ e ∷ []) first
    ∙ (ap (λ (xs : List Own). record { offset = k; row = x.row } ∷ xs) (own_last (suc k) es e (λ o y there. below (suc o) y there))
    ∙ (ap (λ (o : ℕ). record { offset = k; row = x.row } ∷ (mine_from 0 (suc k) es ++ record { offset = o; row = e.row } ∷ [])) at
    ∙ ap (λ (xs : List Own). xs ++ record { offset = k + suc (length es); row = e.row } ∷ []) (sym (own_first k x es first))))

length_push : (xs : List Entry) (x : Entry) → length (xs ++ x ∷ []) ≡ length xs + 1
length_push [] x = refl
length_push (y ∷ xs) x = (let more = length_push xs x in omega (arith, more))

push_long : (xs : List Own) (x : Own) → length (xs ++ x ∷ []) ≡ suc (length xs)
push_long [] x = refl
push_long (y ∷ xs) x = ap suc (push_long xs x)

same_last : (xs : List Own) (x y : Own) → xs ++ x ∷ [] ≡ xs ++ y ∷ [] → x ≡ y
same_last xs x y same =
    let both : Some x ≡ Some y = sym (get_push_same xs x) ∙ (ap (λ (l : List Own). slice_get l (length xs)) same ∙ get_push_same xs y) in
    cc both

one_more : (xs ys : List Entry) → Begins xs ys → length ys ≡ suc (length xs) → (e : Entry) × (ys ≡ xs ++ e ∷ [])
one_more [] [] begins long = absurd (omega (arith, long))
one_more [] (y ∷ []) begins long = (y, refl)
one_more [] (y ∷ z ∷ zs) begins long = absurd (omega (arith, long))
one_more (x ∷ xs) [] begins long = absurd (omega (arith, long))
one_more (x ∷ xs) (y ∷ ys) begins long =
    let first : y ≡ x = cc begins in
    let r = one_more xs ys (cc begins) (omega (arith, long)) in
    (r.0, ap₂ (λ (z : Entry) (zs : List Entry). z ∷ zs) first r.1)

-- one finished ticket more is one entry more
grown_one : (xs ys : List Entry) (x : Own) → AreBelow 1 xs → AreBelow 1 ys → Begins xs ys → mine_from 0 0 ys ≡ mine_from 0 0 xs ++ x ∷ []
    → (x.offset ≡ length xs) × (ys ≡ xs ++ record { writer = 0; row = x.row } ∷ [])
grown_one xs ys x low below begins mine =
    let few = own_long 0 xs low in
    let many = own_long 0 ys below in
    let push = push_long (mine_from 0 0 xs) x in
    let more = ap (λ (l : List Own). length l) mine in
    let r = one_more xs ys begins (omega (arith, few, many, push, more)) in
    let e : Entry = r.0 in
    let all : AreBelow 1 (xs ++ e ∷ []) = subst (AreBelow 1) r.1 below in
    let own : x ≡ record { offset = 0 + length xs; row = e.row } =
    same_last (mine_from 0 0 xs) x (record { offset = 0 + length xs; row = e.row })
    (sym mine ∙ (ap (λ (es : List Entry). mine_from 0 0 es) r.1 ∙ own_last 0 xs e all)) in
    let least : e.writer < 1 = all (length xs) e (get_push_same xs e) in
    let none : e.writer ≡ 0 = omega (arith, least) in
    let at : x.offset ≡ 0 + length xs = ap (λ (y : Own). y.offset) own in
    (omega (arith, at), r.1 ∙ ap₂ (λ (w : ℕ) (row : RowValue). xs ++ record { writer = w; row = row } ∷ []) none (ap (λ (y : Own). y.row) (sym own)))

-- and none more is none
grown_none : (xs ys : List Entry) → AreBelow 1 xs → AreBelow 1 ys → Begins xs ys → mine_from 0 0 ys ≡ mine_from 0 0 xs → ys ≡ xs
grown_none xs ys low below begins mine =
    let few = own_long 0 xs low in
    let many = own_long 0 ys below in
    let same = ap (λ (l : List Own). length l) mine in
    sym (all_of ys (length xs) (omega (arith, few, many, same))) ∙ begins

fit_below : (shape : ShapeValue) (p : Pass) → shape.writers ≡ 1 → AreFit shape p → AreBelow 1 p.seen
fit_below shape p one fit o e at = (let low : e.writer < shape.writers = (fit o e at).1 in omega (arith, low, one))

holds_its : (p : Pass) → Rests p → Holds p 0 (book_of p)
holds_its p rest = ap (λ (bs : List Book). slice_get bs 0) rest.one

all_mine : (log : LogValue) (h : PassValue) → IsAlone log h → (book_of h.view).mine ≡ mine_from 0 0 (h.view).seen
all_mine log h alone = alone.all 0 (book_of h.view) (holds_its h.view alone.rest) ∙ ap (λ (w : ℕ). mine_from w 0 (h.view).seen) alone.writer

-- What was seen goes on as the book's finished tickets do.
module _ (log : LogValue) (m o : PassValue) (before : IsAlone log m) (now : IsAlone log o) (begins : Begins (m.view).seen (o.view).seen) where
  low : AreBelow 1 (m.view).seen
  low = fit_below log.shape m.view before.one before.fit

  below : AreBelow 1 (o.view).seen
  below = fit_below log.shape o.view now.one now.fit

  one_seen : (x : Own) → (book_of o.view).mine ≡ (book_of m.view).mine ++ x ∷ [] → (x.offset ≡ length (m.view).seen)
      × ((o.view).seen ≡ (m.view).seen ++ record { writer = 0; row = x.row } ∷ [])
  one_seen x mine =
      grown_one (m.view).seen (o.view).seen x low below begins
      (sym (all_mine log o now) ∙ (mine ∙ ap (λ (xs : List Own). xs ++ x ∷ []) (all_mine log m before)))

  none_seen : (book_of o.view).mine ≡ (book_of m.view).mine → (o.view).seen ≡ (m.view).seen
  none_seen mine = grown_none (m.view).seen (o.view).seen low below begins (sym (all_mine log o now) ∙ (mine ∙ all_mine log m before))

  all_taken : (b : Book) → book_of o.view ≡ b → b.over ≡ true → (o.view).seen ≡ (m.view).seen → (length (m.view).seen ≡ (log.shape).capacity)
      × ((o.view).seen ≡ (m.view).seen)
  all_taken b is over same =
      (ap (λ (es : List Entry). length es) (sym same) ∙ now.full 0 (book_of o.view) (holds_its o.view now.rest) (ap (λ (c : Book). c.over) is ∙ over), same)

-- A row was appended, and the read tail moved on.
pub covered : (log : LogValue) (row : RowValue) (m n o : PassValue) (r : Result ℕ AppendFault) → IsAlone log m → PassGoesOn m n → PassGoesOn n o
    → HasAppendAnswer log.shape row m n r → IsAlone log o → (o.view).books ≡ (n.view).books → HasCovered log.shape row (m.view).seen (o.view).seen r
covered log row m n o (Ok at) before on then done now books =
    let begins = begins_then (m.view).seen (n.view).seen (o.view).seen on.longer then.longer in
    let is = ap (λ (bs : List Book). get_or bs 0 (no_book 0)) (books ∙ done.books) in
    let grown = one_seen log m o before now begins (record { offset = at; row = row }) (ap (λ (b : Book). b.mine) is) in
    let offset : at ≡ length (m.view).seen = grown.0 in
    let room = done.room in
    (offset, omega (arith, offset, room), grown.1)
covered log row m n o (Err Full) before on then (inl over) now books =
    let begins = begins_then (m.view).seen (n.view).seen (o.view).seen on.longer then.longer in
    let is : book_of o.view ≡ book_of m.view = ap (λ (bs : List Book). get_or bs 0 (no_book 0)) books ∙ ap (λ (h : PassValue). book_of h.view) over.is in
    all_taken log m o before now begins (book_of m.view) is over.over (none_seen log m o before now begins (ap (λ (b : Book). b.mine) is))
covered log row m n o (Err Full) before on then (inr late) now books =
    let begins = begins_then (m.view).seen (n.view).seen (o.view).seen on.longer then.longer in
    let is = ap (λ (bs : List Book). get_or bs 0 (no_book 0)) (books ∙ late.books) in
    all_taken log m o before now begins _ is refl (none_seen log m o before now begins (ap (λ (b : Book). b.mine) is))
covered log row m n o (Err NodesFull) before on then done now books =
    let begins = begins_then (m.view).seen (n.view).seen (o.view).seen on.longer then.longer in
    let is = ap (λ (bs : List Book). get_or bs 0 (no_book 0)) (books ∙ done.used.books) in
    none_seen log m o before now begins (ap (λ (b : Book). b.mine) is)

-- and the log has its one writer's pass as before
pub alone_then : (log : LogValue) (row : RowValue) (m n o : PassValue) (r : Result ℕ AppendFault) → IsAlone log m → PassGoesOn m n → Rests n.view
    → HasAppendAnswer log.shape row m n r → PassGoesOn n o → (o.view).books ≡ (n.view).books → AreFit log.shape o.view
    → ((log.shape).writers ≡ 1 → Rests o.view → HasAll o.view) → ((log.shape).writers ≡ 1 → Rests o.view → MarkedIsFull log.shape o.view) → IsAlone log o
alone_then log row m n o r alone on rest done then books fit all full =
    let rests : Rests o.view = rests_same n.view o.view books rest in
    record {
      of = still_one log n o (still_one log m n alone.of on.same) then.same;
      one = alone.one;
      rest = rests;
      writer = ap (λ (bs : List Book). (get_or bs 0 (no_book 0)).writer) books ∙ (same_writer log.shape row m n r done ∙ alone.writer);
      all = all alone.one rests;
      fit = fit;
      full = full alone.one rests;
    }

settled : (log : LogValue) (h : PassValue) → IsAlone log h → HoldsAllBooks log.shape h.view
settled log h alone = record {
  home = λ w lt.
      (let low : w < (log.shape).writers = lt in let one = alone.one in let is = alone.writer in
      (0, book_of h.view, holds_its h.view alone.rest, omega (arith, low, one, is), (alone.rest).free));
  rest = rests_all h.view alone.rest;
  count = ap (λ (bs : List Book). length bs) (alone.rest).one ∙ sym alone.one;
  all = alone.all;
}

-- the place of an answer, or 0, is one of the log's
pub placed : (shape : ShapeValue) (row : RowValue) (m n : PassValue) (r : Result ℕ AppendFault) → 0 < shape.capacity → HasAppendAnswer shape row m n r
    → result_unwrap_or r 0 < shape.capacity
placed shape row m n (Ok o) some done = done.room
placed shape row m n (Err fault) some done = some

pub covered_more : (shape : ShapeValue) (row : RowValue) (before entries : List Entry) (r : Result ℕ AppendFault) → shape.capacity ≤ 65536
    → HasCovered shape row before entries r → IfOk r (λ o. (length before < 2 ^ 20) × (length entries ≡ length before + 1))
covered_more shape row before entries (Ok o) few has =
    let room = has.1 in
    (omega (arith, room, few), ap (λ (es : List Entry). length es) has.2 ∙ length_push before (record { writer = 0; row = row }))
covered_more shape row before entries (Err fault) few has = tt

-- The nodes that were used.
pub used_for : (shape : ShapeValue) (row : RowValue) (m n o : PassValue) (r : Result ℕ AppendFault) → HasAppendAnswer shape row m n r
    → (o.view).books ≡ (n.view).books → HasUsedFor shape row (book_of m.view).used (book_of o.view).used r
used_for shape row m n o (Ok at) done books = record {
  spots = done.paths.used.spots;
  is = ap (λ (bs : List Book). (get_or bs 0 (no_book 0)).used) (books ∙ done.books);
  on = done.paths.used.on;
  full = λ e. absurd (cc e);
}
used_for shape row m n o (Err Full) (inl over) books = record {
  spots = [];
  is = ap (λ (bs : List Book). (get_or bs 0 (no_book 0)).used) books
      ∙ (ap (λ (h : PassValue). (book_of h.view).used) over.is ∙ sym (append-nil (book_of m.view).used));
  on = λ j s at. absurd (cc at);
  full = λ e. absurd (cc e);
}
used_for shape row m n o (Err Full) (inr late) books = record {
  spots = late.paths.used.spots;
  is = ap (λ (bs : List Book). (get_or bs 0 (no_book 0)).used) (books ∙ late.books);
  on = late.paths.used.on;
  full = λ e. absurd (cc e);
}
used_for shape row m n o (Err NodesFull) done books = record {
  spots = done.used.spots;
  is = ap (λ (bs : List Book). (get_or bs 0 (no_book 0)).used) (books ∙ done.used.books);
  on = done.used.on;
  full = λ e. ap (λ (bs : List Book). length (get_or bs 0 (no_book 0)).used) books ∙ done.stuck.full;
}

-- A question was asked.
pub seen_still : (log : LogValue) (m n : PassValue) → IsAlone log m → HasAsked log.shape m n → (n.view).seen ≡ (m.view).seen
seen_still log m n alone asked = asked.stays (settled log m alone)

pub alone_still : (log : LogValue) (m n : PassValue) → IsAlone log m → HasAsked log.shape m n → IsAlone log n
alone_still log m n alone asked =
    let seen = seen_still log m n alone asked in
    let held : (k : ℕ) (b : Book) → Holds n.view k b → Holds m.view k b = λ k b at. ap (λ (bs : List Book). slice_get bs k) (sym asked.books) ∙ at in
    record {
      of = still_one log m n alone.of asked.same;
      one = alone.one;
      rest = rests_same m.view n.view asked.books alone.rest;
      writer = ap (λ (bs : List Book). (get_or bs 0 (no_book 0)).writer) asked.books ∙ alone.writer;
      all = λ k b at. alone.all k b (held k b at) ∙ ap (λ (es : List Entry). mine_from b.writer 0 es) (sym seen);
      fit = asked.fit;
      full = λ k b at over. ap (λ (es : List Entry). length es) seen ∙ alone.full k b (held k b at) over;
    }

abbrev pub solo_at : ShapeValue → List Entry → List Spot → SoloValue
solo_at shape entries used = record { shape = shape; entries = entries; used = used }

-- The question left the pass as it was, but for what it knows.
pub still : (log : LogValue) (m n : PassValue) → IsAlone log m → HasAsked log.shape m n → IsStill log m n
still log m n alone asked = record {
  alone = alone_still log m n alone asked;
  same = ap₂ (λ (es : List Entry) (bs : List Book). solo_at log.shape es (get_or bs 0 (no_book 0)).used)
      (seen_still log m n alone asked) asked.books;
  few = subst (λ (es : List Entry). length es ≤ (log.shape).capacity) (seen_still log m n alone asked) asked.few;
  knows = asked.knows;
}

-- a solo log's parts after what leaves its pass so
pub solo_still : (log : LogValue) (m n : PassValue) (leaves : Leaves) → IsSolo log m leaves → IsStill log m n → IsSolo log n leaves
solo_still log m n leaves is then =
    record { alone = then.alone; near = remembers_still log.shape m.view n.view leaves then.knows is.near }

-- whether or not memory ran out
abbrev pub IsReply : LogValue → Ask → PassValue → PassValue → Answer → Type 0
IsReply log question m n answer = HasAsked log.shape m n × (answer.tail ≡ length (n.view).seen) × (answer.body ≡ eval log.shape question (n.view).seen)

pub asked_either : (log : LogValue) (question : Ask) (m n : PassValue) (r : Result Answer AllocError) → IfOk r (IsReply log question m n)
    → IfErr r (λ x. HasAsked log.shape m n) → HasAsked log.shape m n
asked_either log question m n (Ok a) ok err = ok.0
asked_either log question m n (Err e) ok err = err

pub asked_seen : (log : LogValue) (question : Ask) (m n : PassValue) (r : Result Answer AllocError) → IfOk r (IsReply log question m n)
    → (n.view).seen ≡ (m.view).seen → IfOk r (IsAnswerOn (solo_of log m) question)
asked_seen log question m n (Ok a) ok same = (ok.1 ∙ ap (λ (es : List Entry). length es) same, ok.2 ∙ ap (λ (es : List Entry). eval log.shape question es) same)
asked_seen log question m n (Err e) ok same = tt

abbrev pub IsFound : LogValue → Ask → PassValue → PassValue → ℕ × Finding → Type 0
IsFound log question m n found =
    HasAsked log.shape m n × (found.0 ≡ length (n.view).seen) × (found.1 ≡ finding_in log.shape question (rows_in (n.view).seen))

pub asked_by : (log : LogValue) (question : Ask) (m n : PassValue) (r : Result (ℕ × Finding) AllocError) → IfOk r (IsFound log question m n)
    → IfErr r (λ x. HasAsked log.shape m n) → HasAsked log.shape m n
asked_by log question m n (Ok a) ok err = ok.0
asked_by log question m n (Err e) ok err = err

pub found_by : (log : LogValue) (question : Ask) (m n : PassValue) (r : Result (ℕ × Finding) AllocError) → IfOk r (IsFound log question m n)
    → (n.view).seen ≡ (m.view).seen → IfOk r (IsFoundIn (solo_of log m) question)
found_by log question m n (Ok a) ok same =
    (ok.1 ∙ ap (λ (es : List Entry). length es) same, ok.2 ∙ ap (λ (es : List Entry). finding_in log.shape question (rows_in es)) same)
found_by log question m n (Err e) ok same = tt

-- A log was opened, and its one book dealt.
one_book : (P : Book → Type 0) (p : Pass) (b : Book) → p.books ≡ b ∷ [] → P b → (k : ℕ) (c : Book) → Holds p k c → P c
one_book P p b one is zero c at =
    (let e : Some b ≡ Some c = sym (ap (λ (bs : List Book). slice_get bs 0) one) ∙ at in let same : b ≡ c = cc e in subst P same is)
one_book P p b one is (suc k) c at = (let e : None ≡ Some c = sym (ap (λ (bs : List Book). slice_get bs (suc k)) one) ∙ at in absurd (cc e))

none_mine : (w : ℕ) (b : Book) (seen : List Entry) → b.mine ≡ [] → seen ≡ [] → b.mine ≡ mine_from w 0 seen
unfolding mine_from
none_mine w b seen mine none = mine ∙ ap (λ (es : List Entry). mine_from w 0 es) (sym none)

pub opened_count : (log : LogValue) (m n : PassValue) (hs : List PassValue) → m.view ≡ root_pass log.shape → AreDealt log m hs n
    → length hs ≡ (log.shape).writers
opened_count log m n hs is dealt = dealt.count ∙ (ap (λ (p : Pass). length p.books) is ∙ table_length no_book (log.shape).writers)

pub opened_seen : (log : LogValue) (m n h : PassValue) (hs : List PassValue) → m.view ≡ root_pass log.shape → AreDealt log m hs n → slice_get hs 0 ≡ Some h
    → (h.view).seen ≡ []
opened_seen log m n h hs is dealt at = ap (λ (p : Pass). p.seen) (dealt.each 0 h at).view ∙ ap (λ (p : Pass). p.seen) is

pub opened_used : (log : LogValue) (m n h : PassValue) (hs : List PassValue) → (log.shape).writers ≡ 1 → m.view ≡ root_pass log.shape → AreDealt log m hs n
    → slice_get hs 0 ≡ Some h → (book_of h.view).used ≡ []
opened_used log m n h hs one is dealt at =
    let d = dealt.each 0 h at in
    let w = (log.shape).writers in
    let there : slice_get (tabulated no_book w) 0 ≡ Some d.book = ap (λ (p : Pass). slice_get p.books 0) (sym is) ∙ d.at in
    let lt : 0 < w = omega (arith, one) in
    let e : no_book 0 ≡ d.book = (let f : Some (no_book 0) ≡ Some d.book = sym (table_at no_book w 0 lt) ∙ there in cc f) in
    ap (λ (p : Pass). (book_of p).used) d.view ∙ ap (λ (b : Book). b.used) (sym e)

-- it has covered nothing, and used no node
pub empty_by : (s shape : ShapeValue) (entries : List Entry) (used : List Spot) → s ≡ shape → entries ≡ [] → used ≡ []
    → solo_at s entries used ≡ empty_solo shape
empty_by s shape entries used is none unused =
    ap₂ (λ (es : List Entry) (u : List Spot). solo_at s es u) none unused ∙ ap (λ (x : ShapeValue). solo_at x [] []) is

pub opened : (log : LogValue) (m n h : PassValue) (hs : List PassValue) → (log.shape).writers ≡ 1 → m.view ≡ root_pass log.shape → AreDealt log m hs n
    → slice_get hs 0 ≡ Some h → IsAlone log h
opened log m n h hs one is dealt at =
    let d = dealt.each 0 h at in
    let w = (log.shape).writers in
    let there : slice_get (tabulated no_book w) 0 ≡ Some d.book = ap (λ (p : Pass). slice_get p.books 0) (sym is) ∙ d.at in
    let lt : 0 < w = omega (arith, one) in
    let e : no_book 0 ≡ d.book = (let f : Some (no_book 0) ≡ Some d.book = sym (table_at no_book w 0 lt) ∙ there in cc f) in
    let books : (h.view).books ≡ d.book ∷ [] = ap (λ (p : Pass). p.books) d.view in
    let seen = opened_seen log m n h hs is dealt at in
    record {
      of = d.of;
      one = one;
      rest = rests_by h.view d.book books (ap (λ (b : Book). b.flight) (sym e));
      writer = ap (λ (bs : List Book). (get_or bs 0 (no_book 0)).writer) books ∙ ap (λ (b : Book). b.writer) (sym e);
      all = λ k b held. none_mine b.writer b (h.view).seen (one_book (λ c. c.mine ≡ []) h.view d.book books (ap (λ (c : Book). c.mine) (sym e)) k b held) seen;
      fit = λ o x there. (let f : None ≡ Some x = ap (λ (es : List Entry). slice_get es o) (sym seen) ∙ there in absurd (cc f));
      full = λ k b held over.
          (let f : true ≡ false = sym over ∙ one_book (λ c. c.over ≡ false) h.view d.book books (ap (λ (c : Book). c.over) (sym e)) k b held in absurd (cc f));
    }
