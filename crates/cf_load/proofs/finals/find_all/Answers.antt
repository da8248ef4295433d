use Rattle.std.proofs.Common.{◌≡◌, ◌<◌, ◌≤◌, ◌+◌, ◌*◌, ◌++◌, [], ℕ, suc, List, length, take, get_or, sym, ap, ap₂, subst, ◌∙◌, arith, rules, length-append, mul-suc}
use Rattle.std.proofs.lemmas.List.{flat_map_more, take_more}
use Rattle.std.specs.List.{flat_map}
use Rattle.cf_row.specs.declared.row.Entry.{Entry}
use Rattle.cf_shape.specs.Lanes.{ShapeValue}
use denote.Ref.{Bor}
use Rattle.cf_table.specs.Values.{LogValue, PassValue}
use Rattle.cf_query.specs.Walks.{OnlyWalked}
use Rattle.cf_load.specs.Costs.{bucket_steps, key_steps}
use Rattle.cf_load.specs.Priors.{HasFound}
use Rattle.cf_table.specs.Moves.{IsReading}
use Rattle.cf_load.specs.Readers.{seen_by}
use Rattle.cf_load.proofs.Costs.{costs_more, loads_more}
use Rattle.cf_segments.proofs.Changing.{changed_at, changed_long, changed_more}
use Rattle.cf_load.proofs.finals.find_all.Goals as goal

pub find_behind-requires-clause-reader : goal.find_behind-requires-clause-reader
find_behind-requires-clause-reader g c =
    let i = c.loop-reader.reader-index in
    let old = c.args.readers.now in
    let now = c.loop-reader.readers in
    let d = c.reader-item.result in
    let v = c.loop-reader.invariant in
    let low : i < length now = search rules in
    let there : i < length old = changed_long OnlyWalked i old now low v.walked in
    let place = v.place in
    let same : get_or old c.loop-reader.place d ≡ get_or now i d =
    ap (λ (k : ℕ). get_or old k d) place ∙ sym (changed_at OnlyWalked i old now d v.walked) in
    let log = c.index-logs-place.result in
    subst (IsReading log.now) same
    (subst (λ (b : Bor LogValue). IsReading b.now (get_or old c.loop-reader.place d)) (sym c.index-logs-place.is)
    (c.requires.readers.each c.loop-reader.place log d (omega (arith, place, there))))

pub loop-reader-preserved : goal.loop-reader-preserved
loop-reader-preserved g c =
    let i = c.loop-reader.reader-index in
    let old = c.args.readers.now in
    let now = c.loop-reader.readers in
    let shape = c.args.shape.now in
    let ask = c.args.ask.now in
    let d = c.reader-item.result in
    let v = c.loop-reader.invariant in
    let low : i < length now = search rules in
    let there : i < length old = changed_long OnlyWalked i old now low v.walked in
    let place = v.place in
    let within : c.loop-reader.place < length old = omega (arith, place, there) in
    let log = c.index-logs-place.result in
    let shape_is : (log.now).shape ≡ shape =
    ap (λ (b : Bor LogValue). (b.now).shape) c.index-logs-place.is ∙ c.requires.readers.shapes c.loop-reader.place log within in
    let entries : List Entry = flat_map seen_by (take i old) in
    let at : get_or now i d ≡ get_or old i d = changed_at OnlyWalked i old now d v.walked in
    let seen : seen_by (get_or now i d) ≡ seen_by (get_or old i d) = ap seen_by at in
    let found : HasFound shape ask (entries ++ seen_by (get_or now i d)) c.in_ok-found.found.0 c.in_ok-found.found.1 =
    subst (λ (h : ShapeValue). HasFound h ask (entries ++ seen_by (get_or now i d)) c.in_ok-found.found.0 c.in_ok-found.found.1)
    shape_is
    (c.in_ok-found.ensures.found entries
    (subst (λ (h : ShapeValue). HasFound h ask entries c.loop-reader.found.0 c.loop-reader.found.1)
    (sym shape_is) v.found)) in
    let all : entries ++ seen_by (get_or now i d) ≡ flat_map seen_by (take (i + 1) old) =
    ap (λ (es : List Entry). entries ++ es) seen
    ∙ (flat_map_more seen_by [] (take i old) (get_or old i d) ∙ ap (flat_map seen_by) (sym (take_more old i d there))) in record {
      place = omega (arith, place);
      walked = changed_more OnlyWalked i old now d _ low v.walked c.in_ok-found.ensures.walked.only;
      steps = λ asks. costs_more
          (λ (p : PassValue). key_steps shape ask (p.view).seen) old i c.args.steps.now c.loop-reader.steps c.find_behind.new.steps _ d there
          (v.steps asks) (c.in_ok-found.ensures.steps asks)
          (ap₂ (λ (h : ShapeValue) (es : List Entry). key_steps h ask es) shape_is seen);
      bucket = λ asks. costs_more
          (λ (p : PassValue). bucket_steps shape ask (p.view).seen) old i c.args.steps.now c.loop-reader.steps c.find_behind.new.steps _ d there
          (v.bucket asks) (c.in_ok-found.ensures.bucket asks)
          (ap₂ (λ (h : ShapeValue) (es : List Entry). bucket_steps h ask es) shape_is seen);
      loads = loads_more old now i d _ c.args.steps.now c.loop-reader.steps c.find_behind.new.steps low v.loads c.in_ok-found.ensures.walked.loads;
      few = (let few = v.few in let count = found.count_is in let before = v.found.count_is in
          let sum = length-append entries (seen_by (get_or now i d)) in
          let most : length (seen_by (get_or now i d)) ≤ shape.capacity =
          subst (λ (p : PassValue). length (seen_by p) ≤ shape.capacity) (ap (λ (k : ℕ). get_or old k d) place ∙ sym at)
          (subst (λ (h : ShapeValue). length (seen_by (get_or old c.loop-reader.place d)) ≤ h.capacity)
          (c.requires.readers.shapes c.loop-reader.place log within) (c.requires.readers.each c.loop-reader.place log d within).few) in
          let step : shape.capacity * (i + 1) ≡ shape.capacity * i + shape.capacity =
          ap (λ (k : ℕ). shape.capacity * k) (let e : i + 1 ≡ suc i = omega arith in e) ∙ mul-suc shape.capacity i in
          omega (arith, few, count, before, sum, most, step));
      found = subst (λ (es : List Entry). HasFound shape ask es c.in_ok-found.found.0 c.in_ok-found.found.1) all found;
    }
