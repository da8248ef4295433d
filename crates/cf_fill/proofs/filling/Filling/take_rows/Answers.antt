use Rattle.std.proofs.Common.{rules, ◌≡◌, ◌⊎◌, ◌∙◌, ◌+◌, ◌<◌, ◌≤◌, ◌++◌, true, false, ℕ, List, length, sym, ap, ap₂, subst}
use Rattle.std.proofs.lemmas.Result.{IfOk-weaker}
use Rattle.cf_row.specs.Row.{RowValue}
use Rattle.cf_segments.specs.Segments.{room_of}
use Rattle.cf_fill.specs.Filling.{FillingValue, HasCome, IsFilled, IsWaiting}
use Rattle.cf_fill.proofs.Taken.{all_come, all_wait, counted_as, pass_on}
use Rattle.cf_fill.proofs.filling.Filling.take_rows.Goals as goal

pub returns-then-counts_alone-clause-filled : goal.returns-then-counts_alone-clause-filled
returns-then-counts_alone-clause-filled g c = λ before old.
    let f = c.args.self.now in
    let rows = c.args.rows.now.items in
    let left = c.clear.new.self.items in
    let long : c.len.result ≡ length rows = search rules in
    let view = c.self.view_is ∙ (c.counts_alone.ensures.counted ∙ counted_as f c.len.result (length rows) long) in
    let why = subst (λ (n : ℕ). (room_of f.segments < f.count + n) ⊎ (f.loader.stopped ≡ true)) long (c.counts_alone.ensures.alone c.if-counts_alone.true) in
    subst (λ (v : FillingValue). IsFilled (record v { waiting = left }) (before ++ rows)) (sym view)
    (pass_on f before rows old c.requires.fit left c.clear.ensures.items why)

pub load_now-requires-clause-come : goal.load_now-requires-clause-come
load_now-requires-clause-come g c κs within =
    let f = c.args.self.now in
    let before = c.requires.filled.0 in
    let rows = c.args.rows.now.items in
    let long : c.len.result ≡ length rows = search rules in
    let whole : c.deref.result.now ≡ rows = search rules in
    let counted = c.counts_alone.ensures.counted ∙ counted_as f c.len.result (length rows) long in
    let due = subst (λ (n : ℕ). (f.count + n ≤ room_of f.segments) × (f.loader.stopped ≡ false)) long (c.counts_alone.ensures.due c.if-counts_alone.false) in
    let quiet : f.loader.plan.rounds ≡ 0 =
    subst (λ (v : FillingValue). v.loader.plan.rounds ≡ 0) (c.self.view_is ∙ counted) (c.makes_no_round.ensures.none c.if-makes_no_round.true) in (
      before,
      subst (λ (rs : List RowValue). HasCome c.counts_alone.new.self before rs) (sym whole)
          (subst (λ (v : FillingValue). HasCome v before rows) (sym counted) (all_come f before rows c.requires.filled.1 c.requires.fit due quiet)),
    )

pub returns-then-makes_no_round-clause-filled : goal.returns-then-makes_no_round-clause-filled
returns-then-makes_no_round-clause-filled g c =
    let f = c.args.self.now in
    let rows = c.args.rows.now.items in
    let then = c.load_now.new.self in
    let long : c.len.result ≡ length rows = search rules in
    let whole : c.deref.result.now ≡ rows = search rules in
    let counted = c.counts_alone.ensures.counted ∙ counted_as f c.len.result (length rows) long in
    let due = subst (λ (n : ℕ). (f.count + n ≤ room_of f.segments) × (f.loader.stopped ≡ false)) long (c.counts_alone.ensures.due c.if-counts_alone.false) in
    let quiet : f.loader.plan.rounds ≡ 0 =
    subst (λ (v : FillingValue). v.loader.plan.rounds ≡ 0) (c.self.view_is ∙ counted) (c.makes_no_round.ensures.none c.if-makes_no_round.true) in
    IfOk-weaker c.load_now.result _ _ (λ _ filled before old.
    subst (λ (rs : List RowValue). IsFilled then (before ++ rs)) whole
    (filled before
    (subst (λ (rs : List RowValue). HasCome c.counts_alone.new.self before rs) (sym whole)
    (subst (λ (v : FillingValue). HasCome v before rows) (sym counted)
    (all_come f before rows old c.requires.fit due quiet)))))
    c.load_now.ensures.filled

pub load_batches-requires-clause-waiting : goal.load_batches-requires-clause-waiting
load_batches-requires-clause-waiting g c κs within =
    let f = c.args.self.now in
    let before = c.requires.filled.0 in
    let rows = c.args.rows.now.items in
    let now = c.put_behind.new.waiting.items in
    let long : c.len.result ≡ length rows = search rules in
    let whole : c.replace-taken.result.items ≡ rows = search rules in
    let view = c.self.view_is ∙ (c.counts_alone.ensures.counted ∙ counted_as f c.len.result (length rows) long) in
    let due = subst (λ (n : ℕ). (f.count + n ≤ room_of f.segments) × (f.loader.stopped ≡ false)) long (c.counts_alone.ensures.due c.if-counts_alone.false) in
    let rounds : 0 < f.loader.plan.rounds = subst (λ (v : FillingValue). 0 < v.loader.plan.rounds) view (c.makes_no_round.ensures.some c.if-makes_no_round.false) in
    let grown = c.in_ok-put_behind.ensures ∙ ap₂ (λ (ws rs : List RowValue). ws ++ rs) (ap (λ (v : FillingValue). v.waiting) view) whole in (
      before ++ rows,
      subst (λ (v : FillingValue). IsWaiting (record v { waiting = now }) (before ++ rows)) (sym view)
          (all_wait f before rows c.requires.filled.1 c.requires.fit now grown due rounds),
    )

pub returns-clause-filled : goal.returns-clause-filled
returns-clause-filled g c =
    let f = c.args.self.now in
    let rows = c.args.rows.now.items in
    let now = c.put_behind.new.waiting.items in
    let long : c.len.result ≡ length rows = search rules in
    let whole : c.replace-taken.result.items ≡ rows = search rules in
    let view = c.self.view_is ∙ (c.counts_alone.ensures.counted ∙ counted_as f c.len.result (length rows) long) in
    let due = subst (λ (n : ℕ). (f.count + n ≤ room_of f.segments) × (f.loader.stopped ≡ false)) long (c.counts_alone.ensures.due c.if-counts_alone.false) in
    let rounds : 0 < f.loader.plan.rounds = subst (λ (v : FillingValue). 0 < v.loader.plan.rounds) view (c.makes_no_round.ensures.some c.if-makes_no_round.false) in
    let grown = c.in_ok-put_behind.ensures ∙ ap₂ (λ (ws rs : List RowValue). ws ++ rs) (ap (λ (v : FillingValue). v.waiting) view) whole in
    IfOk-weaker c.load_batches.result _ _ (λ _ filled before old.
    filled (before ++ rows)
    (subst (λ (v : FillingValue). IsWaiting (record v { waiting = now }) (before ++ rows)) (sym view)
    (all_wait f before rows old c.requires.fit now grown due rounds)))
    c.load_batches.ensures.filled
