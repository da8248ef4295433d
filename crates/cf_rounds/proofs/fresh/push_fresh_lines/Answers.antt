use Rattle.std.proofs.Common.{◌≡◌, ◌∙◌, ◌++◌, List, [], ℕ, ap, ap₂, length, subst, sym, string_bytes}
use Rattle.std.specs.List.{flat_map}
use Rattle.cf_row.proofs.Ranges.{step_range}
use Rattle.cf_fold.specs.declared.trigger.Trigger.{Trigger}
use Rattle.cf_plain.specs.declared.answer.Fired.{Fired}
use Rattle.cf_watch.specs.declared.watched.Watched.{Watched}
use Rattle.cf_watch.specs.Watched.{watched_fresh}
use Rattle.cf_rounds.specs.Lanes.{AreCounted, fresh_at, kept_at, told_by, told_first, trigger_at}
use Rattle.cf_rounds.specs.Lines.{fresh_line, fresh_lines_at}
use Rattle.cf_rounds.proofs.Keeping.{first_counted, first_long, told_counted, told_one}
use Rattle.cf_rounds.proofs.Suited.{told_low}
use Rattle.cf_rounds.proofs.fresh.push_fresh_lines.Goals as goal

pub tell_at-requires-clause-lane : goal.tell_at-requires-clause-lane
tell_at-requires-clause-lane c =
    let triggers = c.triggers-triggers.result.now in
    told_low c.args.setup.now c.triggers-triggers.ensures.lawful triggers (length c.loop-place.kept) c.loop-place.place
    c.triggers-triggers.ensures.triggers
    (ap (λ (ks : List Watched). length ks) c.loop-place.invariant.told ∙ (first_long triggers c.args.kept.now c.loop-place.place ∙ c.requires.lanes))
    c.loop-place-test.true _

pub returns-in_err-fresh-clause-counted : goal.returns-in_err-fresh-clause-counted
returns-in_err-fresh-clause-counted c = λ count all.
    subst (AreCounted count) (sym (c.in_err-fresh.ensures.err ∙ c.loop-place.invariant.told))
    (first_counted c.triggers-triggers.result.now c.args.kept.now c.loop-place.place count all)

pub returns-in_err-push_each_fresh-clause-counted : goal.returns-in_err-push_each_fresh-clause-counted
returns-in_err-push_each_fresh-clause-counted c = λ count all.
    let triggers = c.triggers-triggers.result.now in
    let place = c.loop-place.place in
    subst (AreCounted count) (sym (c.in_ok-fresh.ensures.told ∙ ap (λ (ks : List Watched). told_by triggers ks place) c.loop-place.invariant.told))
    (told_counted triggers (told_first triggers c.args.kept.now place) place count (first_counted triggers c.args.kept.now place count all))

pub loop-place-preserved : goal.loop-place-preserved
loop-place-preserved c =
    let setup = c.args.setup.now in
    let triggers = c.triggers-triggers.result.now in
    let old = c.args.kept.now in
    let place = c.loop-place.place in
    let told = c.loop-place.invariant.told in
    let before : List ℕ = string_bytes c.loop-place.text in
    let name = c.name_at.ensures ∙ ap (λ (ns : List (List ℕ)). Rattle.std.specs.Prelude.slice_index_or ns place []) c.trigger_names-names.ensures.names in
    let marks : c.in_ok-fresh.fresh.items ≡ fresh_at setup.triggers old place =
    c.in_ok-fresh.ensures.marks
    ∙ ap₂ (λ (ts : List Trigger) (ks : List Watched). watched_fresh (trigger_at ts place) place (kept_at ks (trigger_at ts place).agg))
    c.triggers-triggers.ensures.triggers (told ∙ ap (λ (ts : List Trigger). told_first ts old place) c.triggers-triggers.ensures.triggers) in
    record {
      told = c.in_ok-fresh.ensures.told ∙ (ap (λ (ks : List Watched). told_by triggers ks place) told ∙ sym (told_one triggers old place));
      text = step_range (fresh_lines_at setup c.args.to old) place (string_bytes c.args.text.now) before (string_bytes c.push_each_fresh.new.text)
          c.loop-place.invariant.text
          (c.in_ok-push_each_fresh.ensures
          ∙ ap₂ (λ (n : List ℕ) (ms : List Fired). before ++ flat_map (fresh_line n c.args.to) ms) name (c.deref.ensures.value ∙ marks));
    }

pub returns-clause-counted : goal.returns-clause-counted
returns-clause-counted c = λ count all.
    subst (AreCounted count) (sym c.loop-place.invariant.told) (first_counted c.triggers-triggers.result.now c.args.kept.now c.loop-place.place count all)
