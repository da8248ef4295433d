use Rattle.std.proofs.Common.{◌≡◌, ◌++◌, ℕ, List, [], ◌∷◌, Some, All, take, drop, suc, get_or, length, length-append, map, ap, ap₂, sym, subst, ◌∙◌, arith}
use Rattle.std.proofs.lemmas.List.{map-append}
use Rattle.std.proofs.lemmas.Result.{err_from_is_err_and}
use Rattle.std.specs.Borrow.{Bor}
use Rattle.cf_row.specs.Row.{Fits}
use Rattle.cf_intake.specs.Rows.{CaptureValue}
use Rattle.cf_intake.specs.Parts.{attrs_in, captured, captured_each, captures_by, first_of}
use Rattle.cf_intake.specs.Several.{names_in, AreFilesAs, AreStopped, AreHalted}
use Rattle.cf_intake.proofs.Several.{one_more, halted_after, halts_after, stopped_between, names_split, names_more, more_captured, all_more}
use Rattle.cf_intake.proofs.hosts.read_hosts.Goals as goal

abbrev no_name : Bor (List ℕ)
no_name = record { ref_ptr = (0, 0); now = [] }

pub returns-in_err-host-clause-read : goal.returns-in_err-host-clause-read
returns-in_err-host-clause-read g c =
    let p = err_from_is_err_and c.from_residual.result c.from_residual.ensures.1 in
    let grammar = captures_by c.args.manner in
    let told = g.F.Shelf.files c.args.shelf.now in
    let i = c.loop-name.name-index in
    let names = c.args.names.now in
    let name = (get_or names i no_name).now in
    let now = g.F.Shelf.rest c.first_rows.new.shelf in
    let halts = halts_after grammar told name (g.F.Shelf.rest c.loop-name.shelf) now c.loop-name.invariant.read.read.1 c.in_err-host.field-0.0
    (rw c.loop-name.invariant.files at c.in_err-host.ensures.read) in
    rw (p.1, p.2)
    (subst (λ (ns : List (List ℕ)). AreHalted grammar told ns (Some []) now c.in_err-host.field-0.0)
    (sym (names_split names i no_name c.loop-name-test.true))
    (halted_after grammar told (names_in (take i names)) c.loop-name.invariant.read.whats name
    (names_in (drop (suc i) names)) now c.in_err-host.field-0.0 c.loop-name.invariant.read.read.0 halts))

pub returns-in-Err-clause-read : goal.returns-in-Err-clause-read
returns-in-Err-clause-read g c =
    let grammar = captures_by c.args.manner in
    let told = g.F.Shelf.files c.args.shelf.now in
    let i = c.loop-name.name-index in
    let names = c.args.names.now in
    let name = (get_or names i no_name).now in
    let now = g.F.Shelf.rest c.first_rows.new.shelf in
    let read = rw c.loop-name.invariant.files at c.in_ok-host.ensures.read in
    subst (λ (ns : List (List ℕ)). AreStopped grammar told ns (Some []) now) (sym (names_split names i no_name c.loop-name-test.true))
    (stopped_between grammar told (names_in (take i names)) c.loop-name.invariant.read.whats
    (name ∷ names_in (drop (suc i) names)) now c.loop-name.invariant.read.read.0 read.read.1)

pub loop-name-preserved : goal.loop-name-preserved
loop-name-preserved g c =
    let grammar = captures_by c.args.manner in
    let told = g.F.Shelf.files c.args.shelf.now in
    let i = c.loop-name.name-index in
    let names = c.args.names.now in
    let name = (get_or names i no_name).now in
    let hosts = c.loop-name.hosts.items in
    let after = c.push.new.self.items in
    let host = c.in_ok-host.host in
    let grown = c.in-Ok.ensures.items in
    let read = rw c.loop-name.invariant.files at c.in_ok-host.ensures.read in
    let first = c.loop-name.invariant.read in
    let more = one_more grammar told (names_in (take i names)) first.whats name read.what first.read.0 read.read.0 in
    let kept : captured_each hosts ++ captured host ∷ [] ≡ map (first_of c.args.most) first.whats ++ first_of c.args.most read.what ∷ []
    = ap₂ (λ (ws : List CaptureValue) (w : CaptureValue). ws ++ w ∷ []) first.kept_are read.kept_is in
    let longer = ap (λ (vs : List _). length vs) grown ∙ length-append hosts (host ∷ []) in
    let rose = c.in_ok-host.ensures.cause.later in
    let before = c.loop-name.invariant.cause in
    let count = c.loop-name.invariant.count in
    record {
      files = c.in_ok-host.ensures.files ∙ c.loop-name.invariant.files;
      read = record {
        whats = first.whats ++ read.what ∷ [];
        read = (
          subst (λ (ns : List (List ℕ)). AreFilesAs grammar told ns (first.whats ++ read.what ∷ []))
              (sym (names_more names i no_name c.loop-name-test.true)) more,
          read.read.1,
        );
        kept_are = more_captured hosts after host grown ∙ kept ∙ sym (map-append (first_of c.args.most) first.whats (read.what ∷ []));
      };
      cause = omega (arith, before, rose);
      fit = all_more (All (Fits (attrs_in c.args.manner.format))) hosts after host grown c.loop-name.invariant.fit c.in_ok-host.ensures.fit;
      count = omega (arith, longer, count);
    }
