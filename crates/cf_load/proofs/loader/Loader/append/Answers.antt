use Rattle.std.proofs.Common.{rules, arith, ◌≡◌, ◌≤◌, ◌+◌, ◌*◌, ◌/◌, ◌%◌, ◌++◌, ℕ, List, Err, inr, length, sym, ap, subst, ◌∙◌}
use Rattle.cf_row.specs.declared.row.Entry.{Entry}
use Rattle.cf_shape.specs.Lanes.{ShapeValue}
use Rattle.cf_plain.specs.declared.loaded.Live.{Live}
use Rattle.cf_load.specs.Loading.{AsksBeside, StayInBatch}
use Rattle.cf_segments.specs.Segments.{SegmentsValue, HoldsRows, entries_of, room_of, told_of}
use Rattle.cf_load.specs.Loaders.{LoaderValue, IsLoading, IsBatched, MayLoad}
use Rattle.cf_load.specs.Planned.{tails_of}
use Rattle.cf_load.specs.Priors.{KnowsBefore}
use Rattle.cf_load.specs.declared.loads.LoadFault.TheVariants.{Memory}
use Rattle.cf_segments.proofs.Kept.{goes_then}
use Rattle.cf_load.proofs.Loaders.{goes_on, may_room, may_stay, refused, same_room}
use Rattle.cf_load.proofs.loader.Loader.append.Goals as goal

pub make_ready-requires-clause-known : goal.make_ready-requires-clause-known
make_ready-requires-clause-known g c =
    let s : SegmentsValue = c.args.segments.now in
    subst (λ (l : LoaderValue). KnowsBefore s l.plan l.found) (sym c.self.view_is) c.requires.loading.1.known

pub load_current-requires-clause-few : goal.load_current-requires-clause-few
load_current-requires-clause-few g c κs within =
    let inside = c.self.inside in
    let s : SegmentsValue = c.args.segments.now in
    let may : MayLoad s inside.plan inside.count (length c.args.rows.now) =
    subst (λ (l : LoaderValue). MayLoad s l.plan l.count (length c.args.rows.now)) (sym c.self.view_is) c.requires.may in
    subst (λ (h : ShapeValue). StayInBatch h inside.count (length c.args.rows.now)) (sym c.in_ok-make_ready.ensures.same.shape)
    (may_stay s inside.plan inside.count (length c.args.rows.now) may)

pub load_current-requires-clause-room : goal.load_current-requires-clause-room
load_current-requires-clause-room g c κs within =
    let inside = c.self.inside in
    let s : SegmentsValue = c.args.segments.now in
    let u : SegmentsValue = c.make_ready.new.segments in
    let had = c.requires.loading in
    let start : inside.count ≡ length had.0 = ap (λ (l : LoaderValue). l.count) c.self.view_is ∙ had.1.count in
    let may : MayLoad s inside.plan inside.count (length c.args.rows.now) =
    subst (λ (l : LoaderValue). MayLoad s l.plan l.count (length c.args.rows.now)) (sym c.self.view_is) c.requires.may in
    let holds : HoldsRows u had.0 = c.in_ok-make_ready.ensures.holds had.0 (sym start) had.1.loaded in
    let most = same_room s u c.in_ok-make_ready.ensures.same in
    let size = c.room.ensures in
    let within_all = c.if-self-rows.false in
    let full = had.1.loaded.full in
    let full_now = holds.full in
    may_room s u inside.plan inside.count (length c.args.rows.now) c.in_ok-make_ready.ensures.same holds.are (omega (arith, start, full))
    (omega (arith, start, full_now)) c.in_ok-make_ready.ensures.room (omega (arith, most, size, within_all)) may

pub returns-in_err-more-clause-batched : goal.returns-in_err-more-clause-batched
returns-in_err-more-clause-batched g c before is =
    let inside = c.self.inside in
    let s : SegmentsValue = c.args.segments.now in
    let u : SegmentsValue = c.make_ready.new.segments in
    let t : SegmentsValue = c.load_current.new.segments in
    let rows = c.args.rows.now in
    let start : inside.count ≡ length before = ap (λ (l : LoaderValue). l.count) c.self.view_is ∙ is.count in
    let long : length before ≡ inside.count = sym start in
    let size = c.room.ensures in
    let within = c.if-self-rows.false in
    let room : length before + length rows ≤ room_of s = omega (arith, size, within, start) in
    let holds : HoldsRows u before = c.in_ok-make_ready.ensures.holds before (sym start) is.loaded in
    let same : c.from_residual-in_err-more.result ≡ Err c.in_err-more.field-0.0 = search rules in
    rw same (refused before rows s t c.in_err-more.field-0.0 room (goes_then s u t c.in_ok-make_ready.ensures.same c.in_err-more.ensures.same)
    (c.in_err-more.ensures.loaded before long holds))

pub returns-in_err-append-clause-batched : goal.returns-in_err-append-clause-batched
returns-in_err-append-clause-batched g c before is =
    let inside = c.self.inside in
    let s : SegmentsValue = c.args.segments.now in
    let u : SegmentsValue = c.make_ready.new.segments in
    let t : SegmentsValue = c.load_current.new.segments in
    let rows = c.args.rows.now in
    let start : inside.count ≡ length before = ap (λ (l : LoaderValue). l.count) c.self.view_is ∙ is.count in
    let long : length before ≡ inside.count = sym start in
    let size = c.room.ensures in
    let within = c.if-self-rows.false in
    let room : length before + length rows ≤ room_of s = omega (arith, size, within, start) in
    let holds : HoldsRows u before = c.in_ok-make_ready.ensures.holds before (sym start) is.loaded in
    let same : c.from_residual-in_err-append.result ≡ Err Memory = search rules in
    rw same (refused before rows s t Memory room (goes_then s u t c.in_ok-make_ready.ensures.same c.in_ok-more.ensures.same)
    (inr (c.in_ok-more.ensures.loaded before long holds)))

pub returns-clause-batched : goal.returns-clause-batched
returns-clause-batched g c before is =
    let inside = c.self.inside in
    let s : SegmentsValue = c.args.segments.now in
    let u : SegmentsValue = c.make_ready.new.segments in
    let t : SegmentsValue = c.load_current.new.segments in
    let rows = c.args.rows.now in
    let more = c.in_ok-more.more.items in
    let b = inside.count / 4096 in
    let old : LoaderValue = record { plan = inside.plan; count = inside.count; lives = inside.lives.items; stopped = inside.stopped; found = inside.found } in
    let new : LoaderValue = record {
      plan = inside.plan;
      count = inside.count + length rows;
      lives = c.append.new.self.items;
      stopped = inside.stopped;
      found = c.make_ready.new.found;
    } in
    let begun : IsLoading s before old = subst (λ (l : LoaderValue). IsLoading s before l) (sym c.self.view_is) is in
    let may : MayLoad s inside.plan inside.count (length rows) =
    subst (λ (l : LoaderValue). MayLoad s l.plan l.count (length rows)) (sym c.self.view_is) c.requires.may in
    let start : inside.count ≡ length before = begun.count in
    let long : length before ≡ inside.count = sym start in
    let size = c.room.ensures in
    let within = c.if-self-rows.false in
    let room : length before + length rows ≤ room_of s = omega (arith, size, within, start) in
    let first = c.in_ok-make_ready.ensures in
    let made = c.in_ok-more.ensures in
    let holds : HoldsRows u before = first.holds before (sym start) begun.loaded in
    let beside : AsksBeside s.shape old.plan b (entries_of s) (entries_of t) more =
    subst (λ (h : ShapeValue). AsksBeside h old.plan b (entries_of s) (entries_of t) more) first.same.shape
    (subst (λ (es : List Entry). AsksBeside u.shape old.plan b es (entries_of t) more) first.entries made.asked) in
    let told : told_of t ≡ told_of s ++ tails_of more = made.told ∙ ap (λ (ts : List ℕ). ts ++ tails_of more) first.told in
    let items : c.append.new.self.items ≡ inside.lives.items ++ more = search rules in
    let now : new ≡ record old { count = old.count + length rows; lives = old.lives ++ more; found = new.found } =
    ap (λ (ls : List Live). record old { count = old.count + length rows; lives = ls; found = new.found }) items in
    subst (λ (l : LoaderValue). IsBatched before rows l new s t) c.self.view_is
    (goes_on before rows old new b s t more begun (made.loaded before long holds) (goes_then s u t first.same made.same)
    (let base = made.base in let full = holds.full in
    omega (arith, base, full)) (λ due. (let whole = may.whole due in omega (arith, whole, start))) c.requires.some may.few room c.requires.fits beside told now made.known)

pub returns-then-self-rows-clause-known : goal.returns-then-self-rows-clause-known
returns-then-self-rows-clause-known g c before is = is.known
