-- `into_parts` moves two fields, and what they own goes with them.
use mathlib.Core.Path.{refl, sym, subst}
use mathlib.Core.List.{List, [], ◌∷◌, ◌++◌}
use seplogic.Ra.Ura.{Ura}
use mir.Val.{Val}
use base.Logic.{SProp, ent, id⊢}
use base.Fml.{ftrue, fsep}
use prog.Memory.{Memory}
use prog.Routine.{Routine}
use prog.Wp.{WpFn, Tables}
use types.Logic.{Logic}
use contract.Monad.{Fun}
use contract.Running.{tables, tables_of}
use sound.WpLaws.{WpFn-mono}
use types.Kit.{Item, ‵, raw, ◌⊛◌, ◌$◌, ◌∵◌, !, qed, by, move, drop, rewrite, use1, join, split, fsplit, fjoin, suffices, done}
use types.Part.{whole, sub, agg}
use types.Run.{stop, fld, no_more, and_then, of_opd, returns, enter}
use types.ByLocal.{alloc_all, pass_all, free_all, look_at, get, get_in, sets}
use denote.Exit.{no}
use denote.Steps.{nothing, heard}
use Rattle.std.specs.Prelude.{◌≢◌, Option, None}
use Rattle.cf_handles.specs.contracts.seat.Seat as Seat
use denote.Triple.Spec.{triple_of}
use denote.Triple.Table.{entered}
use denote.Triple.Walked.{says, Stays, stay_dropped, walk_of, ends_at, walk_Meets}
use Rattle.std.proofs.BoxSteps.Form.{D, word, box_typed}
use Rattle.std.proofs.BoxSteps.Steps.{box_out, box_in}
use Rattle.cf_handles.proofs.AsSeat.{E, at_X, FromSeat}
use Rattle.cf_handles.proofs.Options.{some_of}
use Rattle.cf_handles.specs.contracts.seat.Seat.into_parts as F
use Rattle.cf_handles.specs.contracts.seat.Seat.into_parts.Key.{name as #self}
use Rattle.cf_handles.proofs.seat.Seat.into_parts.Statement as stated
use Rattle.cf_handles.proofs.seat.Seat.into_parts.Code as code
use mir.Syntax.{Fn}
use mir.MapTy.{inst_fn}
use base.Fml.{flft}
use denote.RattleType.{RattleType}
use denote.Param.Laws.{Laws}
use denote.Triple.Clauses.{Ended, Clauses}
use contract.Monad.{fact}
use contract.BorrowLft.{◌⊑◌}
use Rattle.std.proofs.BoxSteps.Form.{R}
use denote.Signature.{Slot}
use Rattle.std.proofs.BoxSteps.Form.{Bx}
use Rattle.std.proofs.alloc.Calls.{Goes-blank}
use Rattle.std.specs.contracts.alloc.Global as Heap
use Rattle.std.specs.contracts.impls.GlobalAllocator.TheImpl.{ghosts}
use Rattle.cf_handles.specs.contracts.parts.Parts as Parts

module _ (X : RattleType) (LX : Laws X) where
  abbrev Bo : Bx
  Bo = E X LX

  abbrev fn' : Fn
  fn' = inst_fn (at_X X LX) code.function

  abbrev ended : Ended
  ended = F.ended X

  abbrev From : Slot 1
  From = FromSeat X LX

  abbrev To : RattleType
  To = Parts.the_row (R Bo) Heap.the_row ghosts

  abbrev stayed : Stays ended.signature.params ended.kept
  stayed = (stay_dropped From no, tt)

  module _ {M : Type 1} {𝓤 : Ura M} (𝓛 : Logic 𝓤) (at_mem : Memory → SProp 𝓤) (run : Routine → Fun 𝓤) (𝓣 : Tables 𝓤 𝓛.H) where
    open 𝓛 use {H}

    abbrev held : Clauses 𝓤 ended
    held = F.clauses X 𝓛 at_mem run

    walk : (z : (walk_of 𝓛 ended stayed held).Ghost)
        → ent 𝓤 ((walk_of 𝓛 ended stayed held).pre z) (WpFn 𝓤 H 𝓣.C 𝓣.Λ fn' (z.0.4.0 ++ []) ((walk_of 𝓛 ended stayed held).post z))
    walk z =
        let Post = (walk_of 𝓛 ended stayed held).post z in
        let ts : Item 𝓤 = ‵ (flft z.0.0.0 z.0.1.0) ⊛ ‵ ftrue in
        let d = z.0.3.0 in
        qed 𝓛 ((ts ⊛ ‵ (fsep ((Seat.the_row (R Bo)).own_val d z.0.4.0) ftrue)) ∷ (raw (fact 𝓤 (z.0.0.0 ⊑ X.lives)) ⊛ raw (fact 𝓤 (d.held ≢ None))) ∷ []) ∵
        move ! (1 ∷ []) $ split ! $ drop ! $ heard ! (d.held ≢ None)
        (λ some.
        let found = some_of d.held some in
        let v : D Bo = record { ptr = d.ptr; alloc = d.alloc; value = found.0 } in
        let made : To.Denot = record { ptr = v.ptr; alloc = v.alloc; value = v.value } in
        split ! $ move ! (1 ∷ []) $ fsplit ! $ rewrite ! 0 (λ (o : Option X.Denot). ‵ ((Seat.the_row (R Bo)).own_val (record d { held = o }) z.0.4.0)) found.1 refl $
        box_out Bo ! v z.0.4.0
        (λ b o hv e ws fa. box_in Bo ! v b o v.value e refl $ use1 𝓛 (‵ (To.own_val made (word Bo hv b o ∷ []))) (id⊢ 𝓤 _) $ move ! (1 ∷ []) $ drop ! $
        let w = word Bo hv b o in
        let Γ : List (Item 𝓤) = ‵ (To.own_val made (w ∷ [])) ∷ ts ∷ [] in
        by ! (subst (λ (us : List Val). ent 𝓤 (types.Kit.⋆ 𝓛 Γ) (WpFn 𝓤 H 𝓣.C 𝓣.Λ fn' (us ++ []) Post)) (sym ws)
        (qed 𝓛 Γ ∵ enter ! 𝓣.C 𝓣.Λ fn' (w ∷ []) _ $ alloc_all ! (λ ls. pass_all ! refl (box_typed Bo hv b o fa, tt) $
        sets ! (of_opd ! (get_in ! (fld ! refl (stop !)) (sub ! 0 refl (whole !)))) refl (tt, tt) $ sets !
        (of_opd ! (get_in ! (fld ! refl (stop !)) (sub ! 1 refl (whole !)))) refl fa $
        sets ! (agg ! (and_then ! (get ! refl) (and_then ! (get ! refl) (no_more !)))) refl
        (box_typed Bo hv b o fa) $ returns ! (look_at ! 0 refl) $ free_all ! refl $
        suffices ! _ (ends_at 𝓛 ended stayed held z w made (tt, tt) (tt, tt)) $ says ! found.1 $
        nothing ! $ nothing ! $ fjoin ! $ join ! $ move ! (1 ∷ 0 ∷ []) $ join ! $ done !)))))

pub into_parts_spec : {M : Type 1} → stated.statement M
unfolding tables_of
into_parts_spec 𝓤 𝓛 𝓜 𝓡 wired X LX =
    let 𝓣 : Tables 𝓤 𝓛.H = tables_of 𝓤 𝓛.H 𝓜 (tables 𝓤 𝓛.H 𝓜 𝓡 𝓡.env) in
    let fn = fn' X LX in
    entered 𝓤 𝓛.H (triple_of 𝓛 (ended X LX).signature (F.spec X 𝓛 𝓜.mem 𝓡.returns)) 𝓣.C 𝓣.Λ (#self (at_X X LX)) fn (code.unfolded 𝓤 𝓛.H 𝓜 𝓡 wired (X, tt))
    (walk_Meets 𝓛 (ended X LX) (stayed X LX) (Goes-blank 𝓛 1 (From X LX) no (λ κs x f. tt), tt) (held X LX 𝓛 𝓜.mem 𝓡.returns 𝓣) (WpFn 𝓤 𝓛.H 𝓣.C 𝓣.Λ fn)
    (WpFn-mono 𝓤 𝓛.H 𝓛.laws 𝓣 fn)
    (walk X LX 𝓛 𝓜.mem 𝓡.returns 𝓣))
