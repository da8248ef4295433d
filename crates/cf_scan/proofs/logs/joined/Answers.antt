use Rattle.std.proofs.Common.{◌≡◌, ◌+◌, ◌<◌, ◌^◌, ◌∷◌, [], List, All, length, length-append, refl, sym, ap, subst, ◌∙◌, arith, rules}
use Rattle.std.specs.List.{flat_map}
use Rattle.std.specs.Vec.Iter.{into_iter_items}
use Rattle.std.proofs.lemmas.List.{flat_map_more}
use Rattle.std.proofs.lemmas.List.Elements.{All-tail}
use Rattle.cf_row.specs.declared.row.Entry.{Entry}
use Rattle.cf_plain.specs.Asks.{rows_in}
use Rattle.cf_plain.specs.Segments.{finding_in}
use Rattle.cf_plain.specs.declared.finding.Finding.{Finding}
use Rattle.cf_scan.specs.Parts.{IsScanned, entries_in}
use Rattle.cf_scan.specs.declared.parts.Part.{Part}
use Rattle.cf_scan.proofs.Joining.{found_both, found_can, found_some, part_long}
use Rattle.cf_scan.proofs.logs.joined.Goals as goal

pub loop-part-init : goal.loop-part-init
loop-part-init c =
    let gives = c.into_iter-part-iterator.ensures.into_iter_gives.0 in
    let few = c.requires.few in
    let same = ap (λ (ps : List Part). length (flat_map entries_in ps)) gives in
    record {
      rest = subst (All (IsScanned c.args._shape.now c.args.ask.now)) (sym gives) c.requires.scanned;
      few = omega (arith, few, same);
      count = refl;
      all = c.nothing-all.ensures c.args._shape.now;
    }

pub into_found-requires : goal.into_found-requires
into_found-requires c =
    let part = c.in-Some.part in
    let rest : List Part = into_iter_items c.next.new.self in
    let split : into_iter_items c.loop-part.part-iterator ≡ part ∷ rest = c.in-Some.ensures.steps.0 in
    let all : All (IsScanned c.args._shape.now c.args.ask.now) (part ∷ rest) =
    subst (All (IsScanned c.args._shape.now c.args.ask.now)) split c.loop-part.invariant.rest in
    record { ends = (all 0 part (omega arith)).within.ends }

pub join-requires : goal.join-requires
join-requires c =
    let shape = c.args._shape.now in
    let ask = c.args.ask.now in
    let part = c.in-Some.part in
    let rest : List Part = into_iter_items c.next.new.self in
    let v = c.loop-part.invariant in
    let split : into_iter_items c.loop-part.part-iterator ≡ part ∷ rest = c.in-Some.ensures.steps.0 in
    let all : All (IsScanned shape ask) (part ∷ rest) = subst (All (IsScanned shape ask)) split v.rest in
    let is = all 0 part (omega arith) in
    let found = found_some part.found c.in_ok-size.found (λ (f : Finding). f ≡ finding_in shape ask (rows_in (entries_in part))) is.found
    c.in_ok-size.ensures.found in
    let few = v.few in
    let count = v.count in
    let left = ap (λ (ps : List Part). length (flat_map entries_in ps)) split in
    let sum = length-append (entries_in part) (flat_map entries_in rest) in
    record {
      can = found_can shape ask (flat_map entries_in c.loop-part.yielded) (entries_in part) c.loop-part.count c.loop-part.all v.count v.all
          c.in_ok-size.found found (omega (arith, few, count, left, sum));
    }

pub overflow_add-count : goal.overflow_add-count
overflow_add-count c =
    let shape = c.args._shape.now in
    let ask = c.args.ask.now in
    let part = c.in-Some.part in
    let rest : List Part = into_iter_items c.next.new.self in
    let v = c.loop-part.invariant in
    let split : into_iter_items c.loop-part.part-iterator ≡ part ∷ rest = c.in-Some.ensures.steps.0 in
    let all : All (IsScanned shape ask) (part ∷ rest) = subst (All (IsScanned shape ask)) split v.rest in
    let is = all 0 part (omega arith) in
    let few = v.few in
    let count = v.count in
    let left = ap (λ (ps : List Part). length (flat_map entries_in ps)) split in
    let sum = length-append (entries_in part) (flat_map entries_in rest) in
    let size : c.in_ok-size.size ≡ length (entries_in part) = c.in_ok-size.ensures.size ∙ sym (part_long part.from part.to (part.reader.view).seen is.within) in
    let low : c.loop-part.count + c.in_ok-size.size < 2 ^ 32 = omega (arith, few, count, left, sum, size) in
    search (rules, low)

pub loop-part-preserved : goal.loop-part-preserved
loop-part-preserved c =
    let shape = c.args._shape.now in
    let ask = c.args.ask.now in
    let part = c.in-Some.part in
    let rest : List Part = into_iter_items c.next.new.self in
    let v = c.loop-part.invariant in
    let split : into_iter_items c.loop-part.part-iterator ≡ part ∷ rest = c.in-Some.ensures.steps.0 in
    let all : All (IsScanned shape ask) (part ∷ rest) = subst (All (IsScanned shape ask)) split v.rest in
    let is = all 0 part (omega arith) in
    let found = found_some part.found c.in_ok-size.found (λ (f : Finding). f ≡ finding_in shape ask (rows_in (entries_in part))) is.found
    c.in_ok-size.ensures.found in
    let before : List Entry = flat_map entries_in c.loop-part.yielded in
    let more = flat_map_more entries_in [] c.loop-part.yielded part in
    let size : c.in_ok-size.size ≡ length (entries_in part) = c.in_ok-size.ensures.size ∙ sym (part_long part.from part.to (part.reader.view).seen is.within) in
    let few = v.few in
    let count = v.count in
    let now = ap (λ (es : List Entry). length es) more in
    let front = length-append before (entries_in part) in
    let left = ap (λ (ps : List Part). length (flat_map entries_in ps)) split in
    let sum = length-append (entries_in part) (flat_map entries_in rest) in
    record {
      rest = All-tail (IsScanned shape ask) part rest all;
      few = omega (arith, few, now, front, left, sum);
      count = omega (arith, count, size, now, front);
      all = found_both shape ask before (entries_in part) c.loop-part.count c.loop-part.all v.count v.all c.in_ok-size.found c.in_ok-all.all found
          c.in_ok-all.ensures
          ∙ ap (λ (es : List Entry). finding_in shape ask (rows_in es)) more;
    }
