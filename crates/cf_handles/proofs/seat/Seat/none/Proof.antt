-- `none` puts the two fields together, and owns nothing.
use mathlib.Core.Path.{refl, sym, subst}
use mathlib.Core.List.{List, [], ◌∷◌, ◌++◌}
use seplogic.Ra.Ura.{Ura}
use mir.Syntax.{ty_ptr}
use mir.Val.{Val, vstruct, vcons, vnil, has_ty}
use base.Logic.{SProp, ent, emp, id⊢}
use base.Fml.{ftrue}
use prog.Memory.{Memory}
use prog.Routine.{Routine}
use prog.Wp.{WpFn, Tables}
use types.Logic.{Logic}
use contract.Monad.{Fun}
use contract.Running.{tables, tables_of}
use sound.WpLaws.{WpFn-mono}
use types.Kit.{Item, ‵, raw, ◌⊛◌, ◌$◌, ◌∵◌, !, qed, by, move, drop, use1, join, split, fsplit, fjoin, fpack, feq_i, feq_l, suffices, done}
use types.Part.{agg}
use types.Run.{no_more, and_then, returns, enter}
use types.ByLocal.{alloc_all, pass_all, free_all, look_at, get, sets}
use denote.Exit.{yes}
use denote.Builtin.{RawPtr}
use denote.RattleType.{Valss, owns}
use denote.RawPtr.{ptr_val, rawptr_Lawful}
use denote.Signature.{plain}
use denote.Steps.{nothing}
use denote.Struct.Struct.{within}
use denote.Struct.Owning.{shape}
use denote.Triple.Spec.{triple_of}
use denote.Triple.Table.{entered}
use denote.Triple.Walked.{says, Stays, stay_dropped, walk_of, ends_at, Goes-dropped, walk_Meets}
use Rattle.std.proofs.alloc.Calls.{α, handle_tells}
use Rattle.std.specs.Prelude.{None}
use Rattle.std.specs.contracts.alloc.Global as Heap
use Rattle.std.proofs.BoxSteps.Form.{P, handle, owning}
use Rattle.cf_handles.proofs.AsSeat.{E, at_X}
use Rattle.cf_handles.proofs.Options.{both_tt}
use Rattle.cf_handles.specs.contracts.seat.Seat as Seat
use Rattle.cf_handles.specs.contracts.seat.Seat.none as F
use Rattle.cf_handles.specs.contracts.seat.Seat.none.Key.{name as #self}
use Rattle.cf_handles.proofs.seat.Seat.none.Statement as stated
use Rattle.cf_handles.proofs.seat.Seat.none.Code as code
use mir.Syntax.{Fn}
use mir.MapTy.{inst_fn}
use base.Fml.{flft}
use denote.RattleType.{RattleType}
use denote.Param.Laws.{Laws}
use denote.Triple.Clauses.{Ended, Clauses}
use contract.Monad.{fact}
use contract.BorrowLft.{◌⊑◌}
use Rattle.std.proofs.BoxSteps.Form.{R}
use Rattle.std.proofs.BoxSteps.Form.{Bx}

module _ (X : RattleType) (LX : Laws X) where
  abbrev Bo : Bx
  Bo = E X LX

  abbrev fn' : Fn
  fn' = inst_fn (at_X X LX) code.function

  abbrev ended : Ended
  ended = F.ended X

  abbrev To : RattleType
  To = Seat.the_row (R Bo)

  abbrev stayed : Stays ended.signature.params ended.kept
  stayed = (stay_dropped (plain (λ _. RawPtr)) yes, (stay_dropped (plain (λ _. Heap.the_row)) yes, tt))

  module _ {M : Type 1} {𝓤 : Ura M} (𝓛 : Logic 𝓤) (at_mem : Memory → SProp 𝓤) (run : Routine → Fun 𝓤) (𝓣 : Tables 𝓤 𝓛.H) where
    open 𝓛 use {H}

    abbrev held : Clauses 𝓤 ended
    held = F.clauses X 𝓛 at_mem run

    walk : (z : (walk_of 𝓛 ended stayed held).Ghost)
        → ent 𝓤 ((walk_of 𝓛 ended stayed held).pre z) (WpFn 𝓤 H 𝓣.C 𝓣.Λ fn' (z.0.4.0 ++ (z.0.4.1.0 ++ [])) ((walk_of 𝓛 ended stayed held).post z))
    walk z =
        let Post = (walk_of 𝓛 ended stayed held).post z in
        let ts : Item 𝓤 = ‵ (flft z.0.0.0 z.0.1.0) ⊛ ‵ ftrue in
        let p = z.0.3.0 in let a = z.0.3.1.0 in
        let made : To.Denot = record { ptr = p; alloc = a; held = None } in
        qed 𝓛 ((ts ⊛ ‵ (owns (RawPtr ∷ Heap.the_row ∷ []) (p, (a, tt)) z.0.4)) ∷ (raw (fact 𝓤 (z.0.0.0 ⊑ X.lives)) ⊛ raw (emp 𝓤)) ∷ []) ∵ split ! $ move ! (1 ∷ []) $ fsplit ! $
        feq_l ! (λ ep. fsplit ! $ handle_tells Bo.al ! a z.0.4.1.0 (λ hv eh fa.
        let gp = ((rawptr_Lawful 𝓛).typed p (ptr_val p ∷ []) refl).0 in
        let w : Val = vstruct (vcons (ptr_val p) (vcons hv vnil)) in
        move ! (0 ∷ 2 ∷ []) $
        let Γ : List (Item 𝓤) = ‵ (handle Bo a hv) ∷ ts ∷ ‵ ftrue ∷ (raw (fact 𝓤 (z.0.0.0 ⊑ X.lives)) ⊛ raw (emp 𝓤)) ∷ [] in
        by ! (subst (λ (us : List Val). ent 𝓤 (types.Kit.⋆ 𝓛 Γ) (WpFn 𝓤 H 𝓣.C 𝓣.Λ fn' us Post)) (sym (λ i. ep i ++ (eh i ++ [])))
        (qed 𝓛 Γ ∵ move ! (2 ∷ 3 ∷ []) $ drop ! $ drop ! $ enter ! 𝓣.C 𝓣.Λ fn' (ptr_val p ∷ hv ∷ []) _ $ alloc_all ! (λ ls. pass_all ! refl (gp, (fa, tt)) $
        sets ! (agg ! (and_then ! (get ! refl) (and_then ! (get ! refl) (no_more !)))) refl
        (both_tt (has_ty ty_ptr (ptr_val p)) (has_ty (α Bo.al) hv) gp.0 fa.0, (gp.1, (fa.1, tt))) $ returns ! (look_at ! 0 refl) $ free_all ! refl $
        nothing ! $ move ! (1 ∷ 0 ∷ []) $ fjoin ! $ feq_i ! (List Val) (ptr_val p ∷ []) (ptr_val p ∷ []) refl $ fjoin ! $
        feq_i ! (List Val) (w ∷ []) (w ∷ []) refl $ fjoin ! $
        fpack ! (Valss (RawPtr ∷ P Bo ∷ [])) (within (shape (owning Bo)) (p, (a, tt)) (w ∷ [])) (ptr_val p ∷ [], (hv ∷ [], tt)) $ nothing ! $ move !
        (1 ∷ 0 ∷ []) $ fjoin ! $
        use1 𝓛 (‵ (To.own_val made (w ∷ []))) (id⊢ 𝓤 _) $
        suffices ! _ (ends_at 𝓛 ended stayed held z w made (tt, (tt, tt)) (tt, (tt, tt))) $ says ! refl $
        nothing ! $ nothing ! $ fjoin ! $ nothing ! $ fjoin ! $ join ! $ move ! (1 ∷ 0 ∷ []) $ join ! $ done !)))))

pub none_spec : {M : Type 1} → stated.statement M
unfolding tables_of
none_spec 𝓤 𝓛 𝓜 𝓡 wired X LX =
    let 𝓣 : Tables 𝓤 𝓛.H = tables_of 𝓤 𝓛.H 𝓜 (tables 𝓤 𝓛.H 𝓜 𝓡 𝓡.env) in
    let fn = fn' X LX in
    entered 𝓤 𝓛.H (triple_of 𝓛 (ended X LX).signature (F.spec X 𝓛 𝓜.mem 𝓡.returns)) 𝓣.C 𝓣.Λ (#self (at_X X LX)) fn (code.unfolded 𝓤 𝓛.H 𝓜 𝓡 wired (X, tt))
    (walk_Meets 𝓛 (ended X LX) (stayed X LX) (Goes-dropped 𝓛 1 (plain (λ _. RawPtr)) yes (λ κs x f. refl), (Goes-dropped 𝓛 1 (plain (λ _. Heap.the_row)) yes (λ κs x f. refl), tt)) (held X LX 𝓛 𝓜.mem 𝓡.returns 𝓣) (WpFn 𝓤 𝓛.H 𝓣.C 𝓣.Λ fn)
    (WpFn-mono 𝓤 𝓛.H 𝓛.laws 𝓣 fn)
    (walk X LX 𝓛 𝓜.mem 𝓡.returns 𝓣))
