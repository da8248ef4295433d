-- `confluo_span_report` lends what is owned at the pointer to the function of that name in `cf_handles`, and hands it back.
use Rattle.confluo_c.proofs.Steps.{◌≡◌, ◌∙◌, ℕ, List, [], ◌∷◌, ◌++◌, length, refl, sym, ap, subst, w32, MutBor, proved_at, handle_tells, full_share, id⊢, ent, sep, ex, ftrue, flft, flent, fsep, fact, tables, named, Val, vptr, WpFn, sem, Body, lft_new, lft_end, at_ret, Item, ⋆, some, later, pick, use1, use2, use3, await, rewrite, show, suffices, group, done, ‵, raw, ◌⊛◌, ◌$◌, ◌∵◌, !, qed, by, move, drop, split, join, fsplit, fjoin, fpick, feq_l, agg, sub, whole, of_opd, addr, stop, from, fld, hop, no_more, and_then, first, blocks, exec, returns, enter, free_all, look_at, look_in_at, get, get_in, through, sets, sets_last, lands_as, env, alloc_all, pass_all, yes, u8, u32, usize, Is, shows, lends_ref, ref_back, mem, part_at, uint_Lawful, RattleType, owns, Ptr, RawPtr, block_ptr, in_a_block, lies_at, ptr_val, MutRef, MutSlice, slice_val, plain, nothing, heard, peeks, calls_at, lasts, triple_of, framed, Stays, walk_of, stay_dropped, Goes-dropped, gave_ref, gave_slice, Goes-gave_ref, Goes-gave_slice, ends_at, says, Option, None}
use Rattle.cf_handles.specs.Calls.{Tells}
use Rattle.cf_handles.specs.Spanned.{ReportsSpanTo}
use Rattle.std.specs.Prelude.{None}
use Rattle.cf_store.specs.Spans.{SpanValue}
use Rattle.std.specs.contracts.alloc.Global as Heap
use Rattle.cf_handles.proofs.AsSeat.{al}
use Rattle.confluo_c.proofs.Leads.{closes, opens}
use Rattle.confluo_c.specs.Leads.{handle_owns, leads_to, span_at}
use Rattle.cf_store.specs.contracts.span.Span as HeldSpan
use Rattle.confluo_c.specs.contracts.raw.RawHandle as Bytes
use Rattle.cf_handles.specs.contracts.handle.Handle as Handle
use Rattle.confluo_c.specs.contracts.span_pointers.confluo_span_report as f
use Rattle.confluo_c.proofs.span_pointers.confluo_span_report.Statement.{statement}
use Rattle.confluo_c.proofs.span_pointers.confluo_span_report.Code as code
use Rattle.cf_handles.specs.contracts.span_report.confluo_span_report as g
use Rattle.cf_handles.proofs.span_report.confluo_span_report.Met.{met}

abbrev stayed : Stays f.ended.signature.params f.ended.kept
stayed = (stay_dropped _ yes, (stay_dropped _ yes, (gave_slice (0 ∷ []) tt (plain (λ _. u8)), (gave_ref (1 ∷ []) tt (plain (λ _. usize)), tt))))

abbrev R : RattleType
R = Handle.the_row HeldSpan.the_row

pub confluo_span_report_spec : {M : Type 1} → statement M
confluo_span_report_spec 𝓤 𝓛 𝓜 𝓡 wired =
    let c = f.clauses 𝓛 𝓜.mem 𝓡.returns in let W = walk_of 𝓛 f.ended stayed c in let 𝓣 = tables 𝓤 𝓛.H 𝓜 𝓡 𝓡.env in
    proved_at 𝓛 f.ended stayed c 𝓜 𝓡 (
      Goes-dropped 𝓛 2 (plain (λ _. Heap.the_row)) yes (λ κs x w. refl),
      (
        Goes-dropped 𝓛 2 (plain (λ _. RawPtr)) yes (λ κs x w. refl),
        (Goes-gave_slice 𝓛 2 0 tt (plain (λ _. u8)), (Goes-gave_ref 𝓛 2 1 tt (plain (λ _. usize)), tt)),
      ),
    )
    f.Key.name code.function (code.unfolded 𝓤 𝓛.H 𝓜 𝓡 wired)
    (λ z are. let κ = z.0.0.0 in let q = z.0.1.0 in let κ₂ = z.0.0.1.0 in let q₂ = z.0.1.1.0 in let a = z.0.3.0 in let p = z.0.3.1.0 in
    let text = z.0.3.1.1.0 in let count = z.0.3.1.1.1.0 in let x = z.1 in let Post = W.post z in
    qed 𝓛 (((‵ (flft κ q) ⊛ (‵ (flft κ₂ q₂) ⊛ ‵ ftrue)) ⊛ ‵
    (owns (Heap.the_row ∷ RawPtr ∷ MutSlice (named 0) κ u8 ∷ MutRef (named 1) κ₂ usize ∷ []) (a, (p, (text, (count, tt)))) z.0.4)) ∷ ‵
    (span_at p x) ∷ []) ∵
    split ! $ move ! (1 ∷ []) $ fsplit ! $ handle_tells al ! a z.0.4.0
    (λ hv eh fa. move ! (1 ∷ []) $ fsplit ! $ feq_l !
    (λ ep. fsplit ! $ rewrite ! 0 (λ (us : List Val). ‵ ((MutSlice (named 0) κ u8).own_val text us)) (are.1.1.0.0.0) refl $
    move ! (1 ∷ []) $ fsplit ! $ rewrite ! 0 (λ (us : List Val). ‵ ((MutRef (named 1) κ₂ usize).own_val count us)) (are.1.1.1.0.0) refl $
    move ! (5 ∷ []) $ fpick ! (λ h. fsplit ! $ in_a_block ! p (λ r. lies_at Bytes.the_row full_share r h) (id⊢ 𝓤 _) (λ b o e. fjoin ! $
    let Γ : List (Item 𝓤) = ‵ (fsep (part_at Bytes.the_row full_share h b o) (handle_owns HeldSpan.the_row h x))
    ∷ ‵ ((MutRef (named 1) κ₂ usize).own_val count (vptr count.ref_ptr.0 count.ref_ptr.1 ∷ []))
    ∷ ‵ ftrue
    ∷ ‵ ((MutSlice (named 0) κ u8).own_val text (slice_val text.ref_ptr (length text.now) ∷ []))
    ∷ ‵ (Heap.the_row.own_val a (hv ∷ []))
    ∷ (‵ (flft κ q) ⊛ (‵ (flft κ₂ q₂) ⊛ ‵ ftrue)) ∷ [] in
    by ! (subst (λ (us : List Val). ent 𝓤 (⋆ 𝓛 Γ) (WpFn 𝓤 𝓛.H 𝓣.C 𝓣.Λ code.function us Post))
    (sym (λ i. eh i ++ ((ep ∙ ap (λ (r : Ptr). ptr_val r ∷ []) e) i ++ (are.1.1.0.0.0 i ++ (are.1.1.1.0.0 i ++ [])))))
    (qed 𝓛 Γ ∵ move ! (2 ∷ []) $ drop ! $
    use1 𝓛 (some (λ (k : R.Denot). ‵ (part_at R full_share k b o) ⊛ raw (fact 𝓤 (k.seat.held ≡ x)))) (opens HeldSpan.the_row 𝓛 b o h x) $ pick !
    (λ k. split ! $ move ! (1 ∷ []) $ heard ! _ (λ led.
    enter ! 𝓣.C 𝓣.Λ code.function (hv ∷ vptr b o ∷ slice_val text.ref_ptr (length text.now) ∷ vptr count.ref_ptr.0 count.ref_ptr.1 ∷ []) _ $ alloc_all !
    (λ ls. pass_all ! refl (fa, ((tt, tt), ((tt, (tt, (record { fits = are.1.1.0.0.1.0 }, tt))), ((tt, tt), tt)))) $
    lft_new ! tt (λ α. move ! (1 ∷ []) $
    use1 𝓛 (later
    (some (λ (δ : ℕ). ‵ ((MutRef (named 0) (α ∷ []) R).own_val (record { ref_ptr = (b, o); ghost_name = δ; now = k }) (vptr b o ∷ [])) ⊛ ‵
    (flent (α ∷ []) (Body (mem R) b o δ)))))
    (lends_ref 𝓛 R (named 0) (α ∷ []) k b o) $ await ! tt $ pick ! (λ δ. split ! $
    sets ! (of_opd ! (get ! refl)) refl fa $ first ! $ blocks ! $ sets ! (of_opd ! (get ! refl)) refl (tt, tt) $ sets_last ! (addr ! (through ! refl (stop !))) refl (tt, tt) $
    exec ! 𝓣.C 𝓣.Λ (env code.Mir.locals ls) code.Mir.t-3 (at_ret (env code.Mir.locals ls) Post) $
    sets ! (of_opd ! (get ! refl)) refl (tt, tt) $ sets ! (addr ! (from ! (fld ! refl (hop ! (look_in_at ! 3 (sub ! 0 refl (whole !))) (stop !))))) refl
    (tt, tt) $
    sets ! (agg ! (and_then ! (get ! refl) (and_then ! (get_in ! (fld ! refl (stop !)) (sub ! 1 refl (whole !))) (no_more !)))) refl
    (tt, (tt, (record { fits = are.1.1.0.0.1.0 }, tt))) $ sets ! (addr ! (through ! refl (stop !))) refl (tt, tt) $
    let G = triple_of 𝓛 g.signature (g.spec 𝓛 𝓜.mem 𝓡.returns) in
    let loan : MutBor R.Denot = record { ref_ptr = (b, o); ghost_name = δ; now = k } in
    let y : G.Ghost = (
      (
        (α ∷ [], (κ, (κ₂, tt))),
        (full_share, (q, (q₂, tt))),
        tt,
        (a, (loan, (text, (count, tt)))),
        (hv ∷ [], (vptr b o ∷ [], (slice_val text.ref_ptr (length text.now) ∷ [], (vptr count.ref_ptr.0 count.ref_ptr.1 ∷ [], tt)))),
      ),
      tt,
    ) in
    nothing ! $ move ! (4 ∷ 0 ∷ []) $ join ! $ move ! (4 ∷ 0 ∷ []) $ join ! $ move ! (1 ∷ 0 ∷ []) $ join ! $ move ! (3 ∷ 0 ∷ []) $ join ! $ move !
    (2 ∷ 3 ∷ []) $ join ! $ join ! $
    nothing ! $ move ! (1 ∷ 0 ∷ []) $ use2 𝓛 (raw (G.pre y)) (id⊢ 𝓤 _) $
    calls_at ! (framed 𝓤 𝓛.H 𝓜 𝓣) G (met 𝓤 𝓛 𝓜 𝓡 (code.calls-cf_handles::span_report::confluo_span_report 𝓡.env wired)) y
    (and_then ! (get ! refl) (and_then ! (get ! refl) (and_then ! (get ! refl) (and_then ! (get ! refl) (no_more !))))) (λ v.
    use1 𝓛 (later (some (λ (r : ℕ). ((‵ (flft (α ∷ []) full_share) ⊛ (‵ (flft κ q) ⊛ (‵ (flft κ₂ q₂) ⊛ ‵ ftrue))) ⊛ ‵ (u32.own_val r (v ∷ []))) ⊛
    some (λ (ws : Unit {0} × (R.Denot × (List ℕ × (ℕ × Unit {0})))). ‵ (lasts g.ended y.0.0 y.0.3 ws) ⊛
    raw (fact 𝓤 (Tells (ReportsSpanTo text.now ws.1.1.0) k.seat.held ws.1.0.seat.held count.now ws.1.1.1.0 r)) ⊛ raw
    (fact 𝓤 (k.seat.held ≡ None → ws.1.1.0 ≡ text.now)))))) (id⊢ 𝓤 _) $
    await ! tt $ pick !
    (λ r. split ! $ split ! $ split ! $ lft_end ! tt $ move ! (3 ∷ []) $ pick !
    (λ ws. split ! $ move ! (1 ∷ []) $ split ! $ heard ! _ (λ did₁. heard ! _ (λ did₂. let k' = ws.1.0 in
    fsplit ! $ drop ! $ fsplit ! $ fsplit ! $ move ! (1 ∷ []) $ drop ! $ move ! (2 ∷ 5 ∷ 0 ∷ []) $
    use3 𝓛 (later (‵ (part_at R full_share k' b o))) (ref_back 𝓛 R (α ∷ []) δ k' b o) $ await ! tt $
    use1 𝓛 (‵ (leads_to HeldSpan.the_row (block_ptr b o) k'.seat.held)) (closes HeldSpan.the_row 𝓛 b o k') $
    rewrite ! 0 (λ (r : Ptr). ‵ (leads_to HeldSpan.the_row r k'.seat.held)) (sym e) refl $ move ! (1 ∷ []) $ fsplit ! $ fsplit ! $ fsplit ! $ move !
    (1 ∷ []) $ feq_l ! (λ same. fjoin ! $
    join ! $ move ! (3 ∷ []) $
    peeks ! u32 (Is u32) (shows 𝓛 u32) r (v ∷ []) (λ is. lands_as ! refl refl ((uint_Lawful 𝓛 w32).typed r _ is).0 $
    returns ! (look_at ! 0 refl) $ free_all ! refl $ move ! (2 ∷ []) $
    suffices ! _ (ends_at 𝓛 f.ended stayed c z v r (tt, (tt, (ws.1.1.0, (ws.1.1.1.0, tt)))) (tt, (tt, (same, (tt, tt))))) $
    let Told = λ (n : Option SpanValue). sep 𝓤 (sem 𝓛 (span_at p n))
    (fact 𝓤 (Tells (ReportsSpanTo text.now ws.1.1.0) x n count.now ws.1.1.1.0 r × (x ≡ None → ws.1.1.0 ≡ text.now))) in
    use1 𝓛 (raw (ex 𝓤 Told))
    (qed 𝓛 (‵ (span_at p k'.seat.held) ∷ []) ∵ show ! Told k'.seat.held $
    says ! (subst (λ (m : Option SpanValue). Tells (ReportsSpanTo text.now ws.1.1.0) m k'.seat.held count.now ws.1.1.1.0 r × (m ≡ None → ws.1.1.0 ≡ text.now)) led
    (did₁, did₂)) $ done !) $
    move ! (2 ∷ []) $ nothing ! $ join ! $ nothing ! $ join ! $ move ! (3 ∷ 0 ∷ 2 ∷ 1 ∷ []) $ group ! 3 $ done !)))))))))))))))))))
