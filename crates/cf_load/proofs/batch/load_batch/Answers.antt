use Rattle.std.proofs.Common.{rules, arith, ◌≡◌, ◌+◌, ◌≤◌, map, ◌++◌, [], ℕ, List, Option, Some, None, IfSome, is_none, length, ap, sym, subst, ◌∙◌, inr, refl}
use Rattle.std.proofs.lemmas.List.{map-append}
use Rattle.std.proofs.lemmas.Result.{IfOk-weaker}
use Rattle.std.specs.List.{AllZip}
use Rattle.cf_row.specs.Row.{RowValue}
use Rattle.cf_table.specs.Moves.{AreAll, HasGathered}
use Rattle.cf_row.specs.declared.row.Entry.{Entry}
use Rattle.cf_load.specs.Loading.{AsksBatch, HasStopped, IsShort, StayInBatch}
use Rattle.cf_segments.specs.Loaded.{HasLoaded}
use Rattle.cf_load.specs.Priors.{entries_before}
use Rattle.cf_load.proofs.Findings.{begins_behind}
use Rattle.cf_law.specs.Passes.{Pass}
use Rattle.cf_load.specs.Planned.{tails_of}
use Rattle.cf_load.specs.Writing.{RanOut, HasWritten}
use Rattle.cf_load.proofs.Batches.{ready_passes, homeward, batch_out, root_away}
use Rattle.cf_segments.proofs.Zips.{zip_long}
use Rattle.cf_segments.proofs.Changing.{written_back}
use Rattle.cf_load.proofs.Beside.{outcome_by, ok_answers, batch_home, batch_told, out_home}
use Rattle.cf_load.proofs.batch.load_batch.Given.{Over}
use Rattle.cf_load.proofs.batch.load_batch.Goals as goal

pub run_beside-out-requires-clause-ready : goal.run_beside-out-requires-clause-ready
run_beside-out-requires-clause-ready g c κs within =
    let had = c.requires.loaded in
    rw c.as_mut_slice.ensures.value
    (ready_passes c.args.log.now c.args.beside.now.prior.now.base had.0 c.args.root.now c.deal.new.root c.in-Ok.passes.items had.2 c.in-Ok.ensures.dealt)

pub gather-requires-clause-all : goal.gather-requires-clause-all
gather-requires-clause-all g c =
    let log = c.args.log.now in
    let had = c.requires.loaded in
    let v = c.in-Ok.passes in
    let after = c.run_beside-out.new.passes in
    let wrote : AllZip (HasWritten (is_none c.run_beside-out.result.0) log c.args.beside.now.first c.args.rows.now) v.items after =
    rw (sym c.as_mut_slice.ensures.value) c.run_beside-out.ensures.wrote in
    let same : length after ≡ length v.items = sym (zip_long _ v.items after wrote) in
    let len : v.len ≡ length v.items = search rules in
    let all : AreAll log v.items = c.in-Ok.ensures.all had.2.settled in
    rw (written_back after v.items v.len same len)
    (homeward (is_none c.run_beside-out.result.0) log c.args.beside.now.first c.args.rows.now v.items after
    (ready_passes log c.args.beside.now.prior.now.base had.0 c.args.root.now c.deal.new.root v.items had.2 c.in-Ok.ensures.dealt) all wrote)

-- the passes that were dealt, and then wrote
written : (g : Over) (c : goal.After-outcome g) (first : ℕ) → first ≡ c.args.beside.now.first
    → AllZip (HasWritten (is_none c.run_beside-out.result.0) c.args.log.now first c.args.rows.now) c.in-Ok.passes.items c.run_beside-out.new.passes
written g c first is = rw (is, sym c.as_mut_slice.ensures.value) c.run_beside-out.ensures.wrote

-- one of which may have run out
ran : (g : Over) (c : goal.After-outcome g) (first : ℕ) → first ≡ c.args.beside.now.first
    → IfSome c.run_beside-out.result.0 (λ v. RanOut c.args.log.now first c.args.rows.now v c.in-Ok.passes.items c.run_beside-out.new.passes)
ran g c first is = rw (is, sym c.as_mut_slice.ensures.value) c.run_beside-out.ensures.out

-- and came home
gathered : (g : Over) (c : goal.After-outcome g) → HasGathered c.args.log.now.shape c.deal.new.root c.run_beside-out.new.passes c.gather.new.root
gathered g c =
    let v = c.in-Ok.passes in
    let after = c.run_beside-out.new.passes in
    let same : length after ≡ length v.items = sym (zip_long _ v.items after (written g c c.args.beside.now.first refl)) in
    let len : v.len ≡ length v.items = search rules in
    rw (sym (written_back after v.items v.len same len), sym c.fork-reader.ensures.root) c.gather.ensures

-- there is room for all rows so far
room : (g : Over) (c : goal.After-outcome g) (before : List RowValue) → c.args.beside.now.prior.now.base + length before ≡ c.args.beside.now.first
    → length before + length c.args.rows.now ≤ c.args.log.now.shape.capacity
room g c before long = (let room = c.requires.room in omega (arith, long, room))

-- with the log's own rows before them the rows stay in a batch too
short : (g : Over) (c : goal.After-outcome g) (before : List RowValue) → c.args.beside.now.prior.now.base + length before ≡ c.args.beside.now.first
    → StayInBatch c.args.log.now.shape (length before) (length c.args.rows.now)
short g c before long several = (let few = c.requires.few several in let whole = c.requires.whole in omega (arith, long, whole, few))

home : (g : Over) (c : goal.After-outcome g) (before : List RowValue) → c.args.beside.now.prior.now.base + length before ≡ c.args.beside.now.first
    → HasLoaded c.args.log.now c.args.beside.now.prior.now.base before c.args.root.now → c.run_beside-out.result.0 ≡ None
    → HasLoaded c.args.log.now c.args.beside.now.prior.now.base (before ++ c.args.rows.now) c.fold_back.new.root
home g c before long had none =
    let base = c.args.beside.now.prior.now.base in
    let wrote = subst
    (λ (o : Option ℕ). AllZip
    (HasWritten (is_none o) c.args.log.now (base + length before) c.args.rows.now) c.in-Ok.passes.items c.run_beside-out.new.passes) none
    (written g c (base + length before) long) in
    batch_home c.args.log.now base before c.args.rows.now
    c.args.root.now c.deal.new.root c.gather.new.root c.fold_back.new.root
    (c.run_beside-out.new.reader).view c.in-Ok.passes.items c.run_beside-out.new.passes c.shape.ensures.lawful had (short g c before long)
    (room g c before long) c.in-Ok.ensures.dealt wrote
    (gathered g c) c.fold_back.ensures.folded c.fold_back.ensures.books c.fold_back.ensures.stays

lacking : (g : Over) (c : goal.After-outcome g) (before : List RowValue) → c.args.beside.now.prior.now.base + length before ≡ c.args.beside.now.first
    → HasLoaded c.args.log.now c.args.beside.now.prior.now.base before c.args.root.now → (w : ℕ) → c.run_beside-out.result.0 ≡ Some w
    → IsShort c.args.log.now c.args.beside.now.prior.now.base (before ++ c.args.rows.now) w c.fold_back.new.root
lacking g c before long had w is =
    let log = c.args.log.now in
    let base = c.args.beside.now.prior.now.base in
    let out = subst (λ (o : Option ℕ). IfSome o (λ v. RanOut log (base + length before) c.args.rows.now v c.in-Ok.passes.items c.run_beside-out.new.passes)) is
    (ran g c (base + length before) long) in
    out_home log base (before ++ c.args.rows.now) w c.gather.new.root c.fold_back.new.root (c.run_beside-out.new.reader).view
    (batch_out (is_none c.run_beside-out.result.0) log base before c.args.rows.now w c.args.root.now c.deal.new.root c.gather.new.root c.in-Ok.passes.items
    c.run_beside-out.new.passes c.shape.ensures.lawful had (room g c before long)
    c.in-Ok.ensures.dealt (written g c (base + length before) long) out (gathered g c))
    c.fold_back.ensures.folded c.fold_back.ensures.books c.fold_back.ensures.stays

pub returns-clause-loaded : goal.returns-clause-loaded
returns-clause-loaded g c before long had =
    rw c.outcome.ensures
    (outcome_by c.run_beside-out.result.0 c.run_beside-out.result.1
    (HasLoaded c.args.log.now c.args.beside.now.prior.now.base (before ++ c.args.rows.now) c.fold_back.new.root)
    (HasStopped c.args.log.now c.args.beside.now.prior.now.base before c.args.rows.now c.fold_back.new.root)
    (λ none. home g c before long had none) (λ none. inr (home g c before long had none)) (λ w is. lacking g c before long had w is))

pub returns-clause-told : goal.returns-clause-told
returns-clause-told g c =
    rw c.outcome.ensures (ok_answers c.run_beside-out.result.0 c.run_beside-out.result.1 _ (IfOk-weaker c.run_beside-out.result.1 _ _ (λ more asked.
    let read = asked.read in
    let log = c.args.log.now in
    let base = c.args.beside.now.prior.now.base in
    let q = (c.run_beside-out.new.reader).view in
    let told = (c.args.root.now.view).told in
    let none : q.told ≡ [] = read.told ∙ ap (λ (p : Pass). p.told) c.fork-reader.ensures.view in
    let tails : map (λ tail. base + tail) q.tails ≡ tails_of more.items = read.tails
    ∙ ap (λ (p : Pass). map (λ tail. base + tail) p.tails ++ tails_of more.items) c.fork-reader.ensures.view in
    ap (map (λ (tail : ℕ). base + tail))
    (batch_told (is_none c.run_beside-out.result.0) log
    c.args.beside.now.first _ c.args.root.now c.deal.new.root c.gather.new.root c.fold_back.new.root q c.in-Ok.passes.items
    c.run_beside-out.new.passes c.in-Ok.ensures.dealt (written g c c.args.beside.now.first refl) (gathered g c) c.fold_back.ensures.folded none)
    ∙ (map-append (λ (tail : ℕ). base + tail) told q.tails ∙ ap (λ ts. map (λ tail. base + tail) told ++ ts) tails)) c.run_beside-out.ensures.asked))

pub returns-clause-asked : goal.returns-clause-asked
returns-clause-asked g c =
    rw c.outcome.ensures (ok_answers c.run_beside-out.result.0 c.run_beside-out.result.1 _ (IfOk-weaker c.run_beside-out.result.1 _ _ (λ more asked.
    let log = c.args.log.now in
    let plan = c.args.beside.now.plan.now in
    let before : List Entry = entries_before c.args.beside.now.prior.now in
    let q = (c.run_beside-out.new.reader).view in
    let had = c.requires.loaded in
    let same : (c.fork-reader.result.view).seen ≡ (c.args.root.now.view).seen = ap (λ (p : Pass). p.seen) c.fork-reader.ensures.view
    ∙ (root_away log c.args.root.now c.deal.new.root c.in-Ok.passes.items had.2.of c.in-Ok.ensures.dealt).2 ∙ refl in
    record {
      read = before ++ q.seen;
      asks = subst (λ (seen : List Entry). AsksBatch log.shape plan.asks.items plan.lives.items plan.rounds c.args.beside.now.batch (before ++ seen)
          (before ++ q.seen) more.items) same asked.asks;
      begins = begins_behind before q.seen (c.fold_back.new.root.view).seen c.fold_back.ensures.folded.other;
    }) c.run_beside-out.ensures.asked))
