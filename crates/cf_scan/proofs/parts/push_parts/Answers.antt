use Rattle.std.proofs.Common.{◌≡◌, ◌+◌, ◌*◌, ◌<◌, ◌≤◌, ◌++◌, ◌∷◌, [], ℕ, List, length, min, take, refl, sym, ap, ap₂, subst, ◌∙◌, arith, rules, append_assoc}
use Rattle.std.specs.List.{flat_map}
use Rattle.std.proofs.lemmas.List.{flat_map_more}
use Rattle.std.proofs.lemmas.List.Elements.{All-append, All-from_recursion}
use Rattle.cf_row.specs.declared.row.Entry.{Entry}
use Rattle.cf_table.specs.Passes.{Pass}
use Rattle.cf_table.specs.Values.{PassValue}
use Rattle.cf_query.specs.Stretches.{stretch}
use Rattle.cf_scan.specs.Parts.{IsPart, entries_in}
use Rattle.cf_scan.specs.declared.parts.Part.{Part}
use Rattle.cf_scan.proofs.Joining.{cut_next, reads_fork}
use Rattle.cf_scan.proofs.parts.push_parts.Goals as goal

pub loop-chunk-preserved : goal.loop-chunk-preserved
loop-chunk-preserved c =
    let v = c.loop-chunk.invariant in
    let k = c.loop-chunk.chunk in
    let m = c.args.root.now in
    let log = c.args.log.now in
    let seen : List Entry = (m.view).seen in
    let r = c.fork.result in
    let end = c.div_ceil-chunk-end.ensures in
    let test = c.loop-chunk-test.true in
    let all = c.covered-covered.ensures in
    let low : 4096 * k ≤ c.covered-covered.result = omega (arith, end, test) in
    let same : (r.view).seen ≡ seen = ap (λ (p : Pass). p.seen) c.fork.ensures.view ∙ ap (λ (h : PassValue). (h.view).seen) v.root in
    let to = c.min.ensures in
    let part : Part = record { place = c.args.place; from = k * 4096; to = c.min.result; reader = r; found = Rattle.std.proofs.Common.None } in
    let from : k * 4096 ≡ 4096 * k = omega arith in
    let high : c.min.result ≡ min c.covered-covered.result (4096 * k + 4096) = to ∙ ap (λ (n : ℕ). min c.covered-covered.result (n + 4096)) from in
    let own : entries_in part ≡ stretch (4096 * k) (min c.covered-covered.result (4096 * k + 4096)) seen =
    ap₂ (λ (i j : ℕ). stretch i j (r.view).seen) from high
    ∙ ap (stretch (4096 * k) (min c.covered-covered.result (4096 * k + 4096))) same in
    let items = c.in_ok-push.ensures.items in
    let before : List Entry = flat_map entries_in c.args.parts.now.items in
    record {
      root = c.fork.ensures.root ∙ v.root;
      entries = ap (flat_map entries_in) items
          ∙ (sym (flat_map_more entries_in [] c.loop-chunk.parts.items part)
          ∙ (ap₂ (λ (es fs : List Entry). es ++ fs) v.entries own
          ∙ (append_assoc before (take (4096 * k) seen) (stretch (4096 * k) (min c.covered-covered.result (4096 * k + 4096)) seen)
          ∙ ap (λ (es : List Entry). before ++ es) (cut_next k c.covered-covered.result seen all low))));
      are = λ logs at old.
          (let is : IsPart log.shape logs part = record {
            log = log;
            at = at;
            shape_is = refl;
            reads = reads_fork log m r c.requires.reads c.fork.ensures.of same;
            within = record {
              ends = omega (arith, high, low, from);
              within = (let long = ap (λ (es : List Entry). length es) same in omega (arith, high, all, long));
            };
          } in
          subst (Rattle.std.specs.List.All (IsPart log.shape logs)) (sym items)
          (All-append (IsPart log.shape logs) c.loop-chunk.parts.items (part ∷ []) (v.are logs at old)
          (All-from_recursion (IsPart log.shape logs) (part ∷ []) (is, tt))));
    }
