-- `discard` lets the two fields go, which own nothing.
use mathlib.Core.Path.{◌≡◌, ◌∙◌, refl, sym, subst}
use mathlib.Core.List.{List, [], ◌∷◌, ◌++◌}
use seplogic.Ra.Ura.{Ura}
use mir.Syntax.{ty_ptr}
use mir.Val.{Val, vunit, vstruct, vcons, vnil, of_list, has_ty}
use base.Logic.{SProp, ent}
use base.Fml.{ftrue, fsep}
use prog.Memory.{Memory}
use prog.Routine.{Routine}
use prog.Wp.{WpFn, Tables}
use types.Logic.{Logic}
use contract.Monad.{Fun}
use contract.Running.{tables, tables_of}
use sound.WpLaws.{WpFn-mono}
use types.Kit.{Item, ‵, raw, ◌⊛◌, ◌$◌, ◌∵◌, !, qed, by, move, drop, rewrite, join, split, fsplit, fjoin, fpick, feq_l, feq_i, suffices, done}
use Rattle.std.proofs.alloc.Calls.{α, handle_tells}
use types.Part.{whole, sub}
use types.Run.{unit_lit, stop, fld, of_opd, returns, enter}
use types.ByLocal.{alloc_all, pass_all, free_all, look_at, get_in, sets}
use denote.Exit.{no}
use denote.RawPtr.{ptr_val, rawptr_Lawful}
use denote.Steps.{nothing, heard}
use Rattle.std.specs.Prelude.{Option, None}
use Rattle.cf_handles.specs.contracts.seat.Seat as Seat
use denote.Triple.Spec.{triple_of}
use denote.Triple.Table.{entered}
use denote.Triple.Walked.{Stays, stay_dropped, walk_of, ends_at, walk_Meets}
use Rattle.cf_handles.proofs.AsSeat.{E, at_X, FromSeat}
use Rattle.cf_handles.proofs.Options.{both_tt}
use Rattle.cf_handles.specs.contracts.seat.Seat.discard as F
use Rattle.cf_handles.specs.contracts.seat.Seat.discard.Key.{name as #self}
use Rattle.cf_handles.proofs.seat.Seat.discard.Statement as stated
use Rattle.cf_handles.proofs.seat.Seat.discard.Code as code
use mir.Syntax.{Fn}
use mir.MapTy.{inst_fn}
use base.Fml.{flft}
use denote.RattleType.{RattleType}
use denote.Param.Laws.{Laws}
use denote.Triple.Clauses.{Ended, Clauses}
use contract.Monad.{fact}
use contract.BorrowLft.{◌⊑◌}
use Rattle.std.proofs.BoxSteps.Form.{R}
use denote.Signature.{Slot}
use Rattle.std.proofs.BoxSteps.Form.{Bx}
use Rattle.std.proofs.alloc.Calls.{Goes-blank}

module _ (X : RattleType) (LX : Laws X) where
  abbrev Bo : Bx
  Bo = E X LX

  abbrev fn' : Fn
  fn' = inst_fn (at_X X LX) code.function

  abbrev ended : Ended
  ended = F.ended X

  abbrev From : Slot 1
  From = FromSeat X LX

  abbrev stayed : Stays ended.signature.params ended.kept
  stayed = (stay_dropped From no, tt)

  module _ {M : Type 1} {𝓤 : Ura M} (𝓛 : Logic 𝓤) (at_mem : Memory → SProp 𝓤) (run : Routine → Fun 𝓤) (𝓣 : Tables 𝓤 𝓛.H) where
    open 𝓛 use {H}

    abbrev held : Clauses 𝓤 ended
    held = F.clauses X 𝓛 at_mem run

    walk : (z : (walk_of 𝓛 ended stayed held).Ghost)
        → ent 𝓤 ((walk_of 𝓛 ended stayed held).pre z) (WpFn 𝓤 H 𝓣.C 𝓣.Λ fn' (z.0.4.0 ++ []) ((walk_of 𝓛 ended stayed held).post z))
    walk z =
        let Post = (walk_of 𝓛 ended stayed held).post z in
        let ts : Item 𝓤 = ‵ (flft z.0.0.0 z.0.1.0) ⊛ ‵ ftrue in
        let d = z.0.3.0 in
        qed 𝓛 ((ts ⊛ ‵ (fsep ((Seat.the_row (R Bo)).own_val d z.0.4.0) ftrue)) ∷ (raw (fact 𝓤 (z.0.0.0 ⊑ X.lives)) ⊛ raw (fact 𝓤 (d.held ≡ None))) ∷ []) ∵
        move ! (1 ∷ []) $ split ! $ drop ! $ heard ! (d.held ≡ None)
        (λ none.
        split ! $ move ! (1 ∷ []) $ fsplit ! $ rewrite ! 0 (λ (o : Option X.Denot). ‵ ((Seat.the_row (R Bo)).own_val (record d { held = o }) z.0.4.0)) none refl $
        fsplit ! $ fpick ! (λ vss. fsplit ! $ feq_l ! (λ eu. fsplit ! $ feq_l ! (λ ep. fsplit ! $ handle_tells Bo.al ! d.alloc vss.1.0 (λ hw eh fw.
        drop ! $ drop ! $ drop ! $ drop ! $
        let gp = ((rawptr_Lawful 𝓛).typed d.ptr (ptr_val d.ptr ∷ []) refl).0 in
        let w : Val = vstruct (vcons (ptr_val d.ptr) (vcons hw vnil)) in
        let Γ : List (Item 𝓤) = ts ∷ [] in
        by ! (subst (λ (us : List Val). ent 𝓤 (types.Kit.⋆ 𝓛 Γ) (WpFn 𝓤 H 𝓣.C 𝓣.Λ fn' (us ++ []) Post))
        (sym (eu ∙ (λ j. vstruct (of_list (ep j ++ (eh j ++ []))) ∷ [])))
        (qed 𝓛 Γ ∵ enter ! 𝓣.C 𝓣.Λ fn' (w ∷ []) _ $ alloc_all ! (λ ls.
        pass_all ! refl ((both_tt (has_ty ty_ptr (ptr_val d.ptr)) (has_ty (α Bo.al) hw) gp.0 fw.0, (gp.1, (fw.1, tt))), tt) $
        sets ! (of_opd ! (get_in ! (fld ! refl (stop !)) (sub ! 0 refl (whole !)))) refl gp $ sets !
        (of_opd ! (get_in ! (fld ! refl (stop !)) (sub ! 1 refl (whole !)))) refl fw $
        sets ! (of_opd ! (unit_lit !)) refl (tt, tt) $ returns ! (look_at ! 0 refl) $ free_all ! refl $
        suffices ! _ (ends_at 𝓛 ended stayed held z vunit tt (tt, tt) (tt, tt)) $
        feq_i ! (List Val) (vunit ∷ []) (vunit ∷ []) refl $ nothing ! $ nothing ! $ fjoin ! $ join ! $ move ! (1 ∷ 0 ∷ []) $ join ! $ nothing ! $ move !
        (1 ∷ 0 ∷ []) $ done !))))))))

pub discard_spec : {M : Type 1} → stated.statement M
unfolding tables_of
discard_spec 𝓤 𝓛 𝓜 𝓡 wired X LX =
    let 𝓣 : Tables 𝓤 𝓛.H = tables_of 𝓤 𝓛.H 𝓜 (tables 𝓤 𝓛.H 𝓜 𝓡 𝓡.env) in
    let fn = fn' X LX in
    entered 𝓤 𝓛.H (triple_of 𝓛 (ended X LX).signature (F.spec X 𝓛 𝓜.mem 𝓡.returns)) 𝓣.C 𝓣.Λ (#self (at_X X LX)) fn (code.unfolded 𝓤 𝓛.H 𝓜 𝓡 wired (X, tt))
    (walk_Meets 𝓛 (ended X LX) (stayed X LX) (Goes-blank 𝓛 1 (From X LX) no (λ κs x f. tt), tt) (held X LX 𝓛 𝓜.mem 𝓡.returns 𝓣) (WpFn 𝓤 𝓛.H 𝓣.C 𝓣.Λ fn)
    (WpFn-mono 𝓤 𝓛.H 𝓛.laws 𝓣 fn)
    (walk X LX 𝓛 𝓜.mem 𝓡.returns 𝓣))
