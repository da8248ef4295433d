-- `as_mut` lends the value, and the seat follows it.
use mathlib.Core.Path.{◌≡◌, refl}
use Prim.Native.Nat.{ℕ}
use mathlib.Core.List.{List, [], ◌∷◌}
use seplogic.Ra.Ura.{Ura}
use base.Fraction.{full_share}
use mir.Syntax.{Fn, Body, named, place, copy, rv_opd, seq, assign, return}
use mir.MapTy.{inst_fn}
use mir.Val.{Val, vptr}
use base.Logic.{SProp, ent, sep, id⊢}
use base.Fml.{Lft, GName, Share, Fml, ftrue, flft, fsep}
use prog.Wp.{Env, Calls, Loops, WpFn, Tables}
use types.Logic.{Logic, sem}
use contract.Running.{tables, tables_of}
use sound.WpLaws.{WpFn-mono}
use types.Kit.{‵, ◌⊛◌, some, at_ret, ◌$◌, ◌∵◌, !, qed, by, move, keep, use1, drop, split, join, pick, fsplit, fsplit3, fjoin, suffices, frame, done, raw, rewrite, later, await, group, fpack}
use types.Part.{whole, sub, look_in}
use types.Run.{stop, fld, load, of_opd, first, blocks, exec, returns, enter, addr}
use types.ByLocal.{alloc_all, pass_all, free_all, look_at, get, through, sets, env, sets_last}
use denote.RattleType.{RattleType, owns}
use denote.Memory.{part_at, mem, cell_at, part_of}
use denote.Param.Laws.{Laws}
use denote.RawPtr.{block_ptr}
use denote.Ref.{MutRef, mut_vals, mut_Tells}
use denote.Signature.{plain, mut_ref_to}
use denote.Steps.{opens, nothing, heard}
use denote.Triple.Carry.{spared}
use denote.Triple.Clauses.{closing, Clauses, Ended}
use denote.Triple.Entry.{on_entry}
use denote.Triple.Spec.{Meets, triple_of}
use denote.Triple.Table.{entered, run_framed}
use denote.Triple.Walked.{says, Stays, stay_dropped, walk_of, ends_at, walked, walk_Meets, Goes-spent_ref}
use mir.Raw.{raw as bare}
use contract.Monad.{fact}
use denote.Exit.{no}
use denote.Builtin.{RefMutOf}
use denote.Follow.{follows, Part, lends_Part}
use Rattle.std.proofs.alloc.Calls.{token}
use Rattle.std.proofs.BoxSteps.Form.{Bx, D, R, τ, word, handle}
use Rattle.std.proofs.BoxSteps.Steps.{box_out, box_in}
use Rattle.std.specs.Prelude.{◌≢◌, Option, Some, None}
use Rattle.cf_handles.proofs.AsSeat.{E, at_X}
use Rattle.cf_handles.proofs.Options.{some_of}
use Rattle.cf_handles.specs.Lent.{with_held}
use Rattle.cf_handles.specs.contracts.seat.Seat as Seat
use Rattle.cf_handles.specs.contracts.seat.Seat.as_mut.Key.{name as #self}
use Rattle.cf_handles.proofs.seat.Seat.as_mut.Statement as stated
use Rattle.cf_handles.proofs.seat.Seat.as_mut.Code as code

abbrev rest : Body
rest = seq (assign (place 0 []) (rv_opd (copy (place 3 [])))) return

module _ (X : RattleType) (LX : Laws X) where
  abbrev Bo : Bx
  Bo = E X LX

  abbrev S : RattleType
  S = Seat.the_row (R Bo)

  abbrev fn' : Fn
  fn' = inst_fn (at_X X LX) code.function

  abbrev ended : Ended
  ended = record { signature = record { lifetimes = 1; outlives = []; params = RefMutOf (0 ∷ []) tt (plain (λ _. S)) (λ _. tt) ∷ []; result = RefMutOf (0 ∷ []) tt (plain (λ _. R Bo)) (λ _. tt) }; kept = (no, tt) }

  abbrev stayed : Stays ended.signature.params ended.kept
  stayed = (stay_dropped (mut_ref_to (0 ∷ []) tt (plain (λ _. S))) no, tt)

  abbrev spec : {M : Type 1} {𝓤 : Ura M} (𝓛 : Logic 𝓤) → Clauses 𝓤 ended
  spec {𝓤 = 𝓤} 𝓛 κs a = record {
    ghost = Unit {0};
    requires = λ _. fact 𝓤 (a.0.now.held ≢ None);
    ensures = λ _ r _. sep 𝓤 (sem 𝓛 (follows S (R Bo) a.0.ghost_name r.ghost_name (with_held a.0.now))) (fact 𝓤 (a.0.now.held ≡ Some r.now));
  }

  module _ {M : Type 1} {𝓤 : Ura M} (𝓛 : Logic 𝓤) (κ : Lft) (q : Share) (rb ro : ℕ) (γ : GName) (h : S.Denot) where
    open 𝓛 use {H, A}

    abbrev bound : (walk_of 𝓛 ended stayed (spec 𝓛)).Ghost
    bound = (((κ, tt), (q, tt), tt, (record { ref_ptr = (rb, ro); ghost_name = γ; now = h }, tt), (vptr rb ro ∷ [], tt)), tt)

    abbrev Post : Val → SProp 𝓤
    Post = (walk_of 𝓛 ended stayed (spec 𝓛)).post bound

    module _ (x : X.Denot) (is : h.held ≡ Some x) where
      abbrev boxed : X.Denot → D Bo
      boxed w = record { ptr = h.ptr; alloc = h.alloc; value = w }

      module _ (b o : ℕ) (hv : Val) where
        -- all of the seat but its value
        abbrev Rest : Fml
        Rest = fsep (fsep (token Bo.al h.alloc (bare (τ Bo)) (block_ptr b o)) (handle Bo h.alloc hv)) (cell_at full_share S.mir (word Bo hv b o ∷ []) rb ro)

        back : h.ptr ≡ block_ptr b o → (w : X.Denot) → ent 𝓤 (sep 𝓤 (sem 𝓛 ((mem (R Bo)).own_at w b o)) (sem 𝓛 Rest)) (sem 𝓛 ((mem S).own_at (with_held h w) rb ro))
        unfolding part_of
        back at_b w =
            qed 𝓛 (‵ (part_at (R Bo) full_share w b o) ∷ ‵ Rest ∷ []) ∵ move ! (1 ∷ []) $ fsplit ! $ fsplit ! $ move ! (3 ∷ []) $
            box_in Bo ! (boxed w) b o w at_b refl $ use1 𝓛 (‵ (S.own_val (with_held h w) (word Bo hv b o ∷ []))) (id⊢ 𝓤 _) $ move ! (1 ∷ 0 ∷ []) $ fjoin ! $
            fpack ! (List Val) (λ us. fsep (cell_at full_share S.mir us rb ro) (S.own_val (with_held h w) us)) (word Bo hv b o ∷ []) $ done !

        exits : (γ' : GName)
            → ent 𝓤 (sep 𝓤 (sem 𝓛 ((MutRef (named 0) κ (R Bo)).own_val (record { ref_ptr = (b, o); ghost_name = γ'; now = x }) (vptr b o ∷ []))) (sep 𝓤 (A.lft κ q) (sem 𝓛 (follows S (R Bo) γ γ' (with_held h))))) (Post (vptr b o))
        exits γ' =
            qed 𝓛 (‵ ((MutRef (named 0) κ (R Bo)).own_val (record { ref_ptr = (b, o); ghost_name = γ'; now = x }) (vptr b o ∷ [])) ∷ ‵ (flft κ q) ∷ ‵ (follows S (R Bo) γ γ' (with_held h)) ∷ []) ∵
            suffices ! _ (ends_at 𝓛 ended stayed (spec 𝓛) bound (vptr b o) (record { ref_ptr = (b, o); ghost_name = γ'; now = x }) (tt, tt) (tt, tt)) $
            nothing ! $ nothing ! $ fjoin ! $ join ! $ nothing ! $ move ! (2 ∷ 0 ∷ []) $ join ! $ join ! $ frame ! $ says ! is $ done !

      module _ (C : Calls 𝓤 H) (Λ : Loops 𝓤 H) where
        walk : ent 𝓤 (on_entry 𝓛 ended.signature (κ, tt) (q, tt) (record { ref_ptr = (rb, ro); ghost_name = γ; now = h }, tt) (vptr rb ro ∷ [], tt)) (WpFn 𝓤 H C Λ fn' (vptr rb ro ∷ []) Post)
        walk =
            qed 𝓛 ((‵ (flft κ q) ⊛ ‵ ftrue) ∷ ‵ (owns (MutRef (named 0) κ S ∷ []) (record { ref_ptr = (rb, ro); ghost_name = γ; now = h }, tt) (vptr rb ro ∷ [], tt)) ∷ []) ∵
            enter ! C Λ fn' (vptr rb ro ∷ []) _ $
            alloc_all ! (λ l. pass_all ! refl ((tt, tt), tt) $
            let En : Env 𝓤 H = env fn'.locals l in
            move ! (1 ∷ []) $ fsplit ! $ fsplit3 ! $ drop ! $ move ! (3 ∷ []) $ split ! $ move ! (2 ∷ 3 ∷ 0 ∷ []) $
            opens ! tt S {h = h} rb ro (λ vs. move ! (1 ∷ []) $
            rewrite ! 0 (λ (o : Option X.Denot). ‵ (S.own_val (record h { held = o }) vs)) is refl $
            box_out Bo ! (boxed x) vs (λ b o hv at_b ws fa. move ! (1 ∷ 2 ∷ []) $ fjoin ! $ move ! (1 ∷ []) $
            rewrite ! 2 (λ (us : List Val). ‵ (cell_at full_share S.mir us rb ro)) ws refl $
            sets ! (of_opd ! (load ! (through ! refl (fld ! refl (stop !))) (look_in ! 2 (sub ! 0 refl (whole !))))) refl (tt, tt) $
            first ! $ blocks ! $ sets_last ! (addr ! (through ! refl (stop !))) refl (tt, tt) $
            exec ! C Λ En rest (at_ret En Post) $
            sets ! (of_opd ! (get ! refl)) refl (tt, tt) $
            move ! (1 ∷ 2 ∷ []) $ fjoin ! $ move ! (2 ∷ 3 ∷ 4 ∷ 1 ∷ 0 ∷ []) $ group ! 5 $
            use1 𝓛 (later (some (λ (γ' : GName). raw (Part 𝓛 S (R Bo) (with_held h) (named 0) κ q rb ro b o γ (sem 𝓛 (Rest b o hv)) (back b o hv at_b) x γ'))))
            (lends_Part 𝓛 S (R Bo) (with_held h) (named 0) κ q rb ro b o γ (sem 𝓛 (Rest b o hv)) (back b o hv at_b) (S.coded.code h) (S.coded.code h) x) $ await ! tt $ pick ! (λ γ'.
            returns ! (look_at ! 0 refl) $ free_all ! refl $
            keep ! (0 ∷ []) $ by ! (exits b o hv γ')))))

    goes : (C : Calls 𝓤 H) (Λ : Loops 𝓤 H)
        → ent 𝓤 (sep 𝓤 (on_entry 𝓛 ended.signature (κ, tt) (q, tt) (record { ref_ptr = (rb, ro); ghost_name = γ; now = h }, tt) (vptr rb ro ∷ [], tt)) (fact 𝓤 (h.held ≢ None)))
        (WpFn 𝓤 H C Λ fn' (vptr rb ro ∷ []) Post)
    goes C Λ =
        qed 𝓛 (raw (on_entry 𝓛 ended.signature (κ, tt) (q, tt) (record { ref_ptr = (rb, ro); ghost_name = γ; now = h }, tt) (vptr rb ro ∷ [], tt)) ∷ raw (fact 𝓤 (h.held ≢ None)) ∷ []) ∵
        move ! (1 ∷ []) $ heard ! (h.held ≢ None) (λ some. let found = some_of h.held some in by ! (walk found.0 found.1 C Λ))

meets : (X : RattleType) (LX : Laws X) {M : Type 1} {𝓤 : Ura M} (𝓛 : Logic 𝓤) (𝓣 : Tables 𝓤 𝓛.H)
    → Meets 𝓛 (ended X LX).signature (WpFn 𝓤 𝓛.H 𝓣.C 𝓣.Λ (fn' X LX)) (closing 𝓛 (ended X LX) (spec X LX 𝓛))
meets X LX {𝓤 = 𝓤} 𝓛 𝓣 =
    let fn = fn' X LX in
    walk_Meets 𝓛 (ended X LX) (stayed X LX) (Goes-spent_ref 𝓛 1 (0 ∷ []) tt (plain (λ _. S X LX)), tt) (spec X LX 𝓛) (WpFn 𝓤 𝓛.H 𝓣.C 𝓣.Λ fn) (WpFn-mono 𝓤 𝓛.H 𝓛.laws 𝓣 fn)
    (walked 𝓛 (ended X LX) (stayed X LX) (spec X LX 𝓛) (WpFn 𝓤 𝓛.H 𝓣.C 𝓣.Λ fn) (λ κs. (mut_vals, tt)) (λ κs. (mut_Tells (named 0) κs.0 (S X LX), tt))
    (λ κs qs bounds a g are. goes X LX 𝓛 κs.0 qs.0 a.0.ref_ptr.0 a.0.ref_ptr.1 a.0.ghost_name a.0.now 𝓣.C 𝓣.Λ))

pub as_mut_spec : {M : Type 1} → stated.statement M
unfolding tables_of
as_mut_spec 𝓤 𝓛 𝓜 𝓡 wired X LX y =
    let 𝓣 : Tables 𝓤 𝓛.H = tables_of 𝓤 𝓛.H 𝓜 (tables 𝓤 𝓛.H 𝓜 𝓡 𝓡.env) in
    let name = #self (at_X X LX) in let did = closing 𝓛 (ended X LX) (spec X LX 𝓛) in
    spared 𝓛 (ended X LX).signature (𝓡.run (𝓡.env name)) (run_framed 𝓤 𝓛.H 𝓜 𝓡 (𝓡.env name)) 1 (X.lives, tt) did
    (entered 𝓤 𝓛.H (triple_of 𝓛 (ended X LX).signature did) 𝓣.C 𝓣.Λ name (fn' X LX) (code.unfolded 𝓤 𝓛.H 𝓜 𝓡 wired (X, tt)) (meets X LX 𝓛 𝓣))
    ((y.0.0, y.0.1, tt, y.0.3, y.0.4), y.1)
