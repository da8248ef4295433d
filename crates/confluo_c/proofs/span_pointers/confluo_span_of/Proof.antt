-- `confluo_span_of` lends what is owned at the pointers to the function of that name in `cf_handles`, and hands it back.
use Rattle.confluo_c.proofs.Steps.{◌≡◌, ◌∙◌, ℕ, List, [], ◌∷◌, ◌++◌, refl, sym, ap, subst, w32, MutBor, proved_at, handle_tells, full_share, id⊢, ent, sep, ex, ftrue, flft, flent, fsep, fact, tables, named, Val, vptr, WpFn, sem, Body, lft_new, lft_end, at_ret, Item, ⋆, some, later, pick, use1, use2, use3, await, rewrite, show, suffices, group, done, ‵, raw, ◌⊛◌, ◌$◌, ◌∵◌, !, qed, by, move, drop, split, join, fsplit, fjoin, fpick, feq_l, of_opd, addr, stop, no_more, and_then, first, blocks, exec, returns, enter, free_all, look_at, get, through, sets, sets_last, lands_as, env, alloc_all, pass_all, yes, u32, Is, shows, lends_ref, ref_back, mem, part_at, uint_Lawful, RattleType, owns, Ptr, RawPtr, block_ptr, in_a_block, lies_at, ptr_val, MutRef, plain, nothing, heard, peeks, calls_at, lasts, triple_of, framed, Stays, walk_of, stay_dropped, Goes-dropped, ends_at, says, Option}
use Rattle.confluo_c.specs.Told.{SpansBy}
use Rattle.cf_store.specs.declared.held.Reader.{Reader}
use Rattle.cf_store.specs.Spans.{SpanValue}
use Rattle.std.specs.contracts.alloc.Global as Heap
use Rattle.cf_handles.proofs.AsSeat.{al}
use Rattle.confluo_c.proofs.Leads.{closes, opens}
use Rattle.confluo_c.specs.Leads.{handle_owns, leads_to, reader_at, span_at}
use Rattle.cf_store.specs.contracts.held.Reader as HeldReader
use Rattle.cf_store.specs.contracts.span.Span as HeldSpan
use Rattle.confluo_c.specs.contracts.raw.RawHandle as Bytes
use Rattle.cf_handles.specs.contracts.handle.Handle as Handle
use Rattle.confluo_c.specs.contracts.span_pointers.confluo_span_of as f
use Rattle.confluo_c.proofs.span_pointers.confluo_span_of.Statement.{statement}
use Rattle.confluo_c.proofs.span_pointers.confluo_span_of.Code as code
use Rattle.cf_handles.specs.contracts.spans.confluo_span_of as g
use Rattle.cf_handles.proofs.spans.confluo_span_of.Met.{met}

abbrev stayed : Stays f.ended.signature.params f.ended.kept
stayed = (stay_dropped _ yes, (stay_dropped _ yes, (stay_dropped _ yes, tt)))

abbrev R : RattleType
R = Handle.the_row HeldReader.the_row

abbrev S : RattleType
S = Handle.the_row HeldSpan.the_row

pub confluo_span_of_spec : {M : Type 1} → statement M
confluo_span_of_spec 𝓤 𝓛 𝓜 𝓡 wired =
    let c = f.clauses 𝓛 𝓜.mem 𝓡.returns in let W = walk_of 𝓛 f.ended stayed c in let 𝓣 = tables 𝓤 𝓛.H 𝓜 𝓡 𝓡.env in
    proved_at 𝓛 f.ended stayed c 𝓜 𝓡 (
      Goes-dropped 𝓛 0 (plain (λ _. Heap.the_row)) yes (λ κs x w. refl),
      (Goes-dropped 𝓛 0 (plain (λ _. RawPtr)) yes (λ κs x w. refl), (Goes-dropped 𝓛 0 (plain (λ _. RawPtr)) yes (λ κs x w. refl), tt)),
    )
    f.Key.name code.function (code.unfolded 𝓤 𝓛.H 𝓜 𝓡 wired)
    (λ z are. let a = z.0.3.0 in let p = z.0.3.1.0 in let p₂ = z.0.3.1.1.0 in let x = z.1.0 in let x₂ = z.1.1 in let Post = W.post z in
    qed 𝓛 ((‵ ftrue ⊛ ‵ (owns (Heap.the_row ∷ RawPtr ∷ RawPtr ∷ []) (a, (p, (p₂, tt))) z.0.4)) ∷ ‵ (fsep (reader_at p x) (span_at p₂ x₂)) ∷ []) ∵
    split ! $ move ! (1 ∷ []) $ fsplit ! $ handle_tells al ! a z.0.4.0
    (λ hv eh fa. move ! (1 ∷ []) $ fsplit ! $ feq_l !
    (λ ep. fsplit ! $ feq_l !
    (λ ep₂. move ! (3 ∷ []) $ fsplit ! $ fpick ! (λ h. fsplit ! $ in_a_block ! p (λ r. lies_at Bytes.the_row full_share r h) (id⊢ 𝓤 _) (λ b o e. fjoin ! $
    move ! (1 ∷ []) $ fpick ! (λ h₂. fsplit ! $ in_a_block ! p₂ (λ r. lies_at Bytes.the_row full_share r h₂) (id⊢ 𝓤 _) (λ b₂ o₂ e₂. fjoin ! $
    let Γ : List (Item 𝓤) = ‵ (fsep (part_at Bytes.the_row full_share h₂ b₂ o₂) (handle_owns HeldSpan.the_row h₂ x₂))
    ∷ ‵ (fsep (part_at Bytes.the_row full_share h b o) (handle_owns HeldReader.the_row h x))
    ∷ ‵ ftrue
    ∷ ‵ (Heap.the_row.own_val a (hv ∷ []))
    ∷ ‵ ftrue ∷ [] in
    by ! (subst (λ (us : List Val). ent 𝓤 (⋆ 𝓛 Γ) (WpFn 𝓤 𝓛.H 𝓣.C 𝓣.Λ code.function us Post))
    (sym (λ i. eh i ++ ((ep ∙ ap (λ (r : Ptr). ptr_val r ∷ []) e) i ++ ((ep₂ ∙ ap (λ (r : Ptr). ptr_val r ∷ []) e₂) i ++ []))))
    (qed 𝓛 Γ ∵ move ! (2 ∷ []) $ drop ! $
    move ! (1 ∷ []) $ use1 𝓛 (some (λ (k : R.Denot). ‵ (part_at R full_share k b o) ⊛ raw (fact 𝓤 (k.seat.held ≡ x)))) (opens HeldReader.the_row 𝓛 b o h x) $ pick !
    (λ k. split ! $ move ! (1 ∷ []) $ heard ! _ (λ led.
    move ! (1 ∷ []) $ use1 𝓛 (some (λ (k : S.Denot). ‵ (part_at S full_share k b₂ o₂) ⊛ raw (fact 𝓤 (k.seat.held ≡ x₂))))
    (opens HeldSpan.the_row 𝓛 b₂ o₂ h₂ x₂) $ pick ! (λ k₂. split ! $ move ! (1 ∷ []) $ heard ! _ (λ led₂.
    enter ! 𝓣.C 𝓣.Λ code.function (hv ∷ vptr b o ∷ vptr b₂ o₂ ∷ []) _ $ alloc_all ! (λ ls. pass_all ! refl (fa, ((tt, tt), ((tt, tt), tt))) $
    lft_new ! tt (λ α. move ! (2 ∷ []) $
    use1 𝓛 (later
    (some (λ (δ : ℕ). ‵ ((MutRef (named 0) (α ∷ []) R).own_val (record { ref_ptr = (b, o); ghost_name = δ; now = k }) (vptr b o ∷ [])) ⊛ ‵
    (flent (α ∷ []) (Body (mem R) b o δ)))))
    (lends_ref 𝓛 R (named 0) (α ∷ []) k b o) $ await ! tt $ pick ! (λ δ. split ! $ lft_new ! tt (λ β. move ! (4 ∷ []) $
    use1 𝓛 (later
    (some (λ (δ : ℕ). ‵ ((MutRef (named 1) (β ∷ []) S).own_val (record { ref_ptr = (b₂, o₂); ghost_name = δ; now = k₂ }) (vptr b₂ o₂ ∷ [])) ⊛ ‵
    (flent (β ∷ []) (Body (mem S) b₂ o₂ δ)))))
    (lends_ref 𝓛 S (named 1) (β ∷ []) k₂ b₂ o₂) $ await ! tt $ pick ! (λ δ₂. split ! $
    sets ! (of_opd ! (get ! refl)) refl fa $ first ! $ blocks ! $ sets ! (of_opd ! (get ! refl)) refl (tt, tt) $ sets_last ! (addr ! (through ! refl (stop !))) refl (tt, tt) $
    exec ! 𝓣.C 𝓣.Λ (env code.Mir.locals ls) code.Mir.t-3 (at_ret (env code.Mir.locals ls) Post) $
    sets ! (of_opd ! (get ! refl)) refl (tt, tt) $ first ! $ blocks ! $ sets ! (of_opd ! (get ! refl)) refl (tt, tt) $ sets_last ! (addr ! (through ! refl (stop !))) refl (tt, tt) $
    exec ! 𝓣.C 𝓣.Λ (env code.Mir.locals ls) code.Mir.t-5 (at_ret (env code.Mir.locals ls) Post) $
    sets ! (of_opd ! (get ! refl)) refl (tt, tt) $
    let G = triple_of 𝓛 g.signature (g.spec 𝓛 𝓜.mem 𝓡.returns) in
    let loan : MutBor R.Denot = record { ref_ptr = (b, o); ghost_name = δ; now = k } in
    let loan₂ : MutBor S.Denot = record { ref_ptr = (b₂, o₂); ghost_name = δ₂; now = k₂ } in
    let y : G.Ghost =
    (((α ∷ [], (β ∷ [], tt)), (full_share, (full_share, tt)), tt, (a, (loan, (loan₂, tt))), (hv ∷ [], (vptr b o ∷ [], (vptr b₂ o₂ ∷ [], tt)))), tt) in
    nothing ! $ move ! (1 ∷ 0 ∷ []) $ join ! $ move ! (3 ∷ 0 ∷ []) $ join ! $ move ! (5 ∷ 0 ∷ []) $ join ! $ move ! (2 ∷ 5 ∷ []) $ join ! $ move !
    (4 ∷ 0 ∷ []) $ join ! $ join ! $
    nothing ! $ move ! (1 ∷ 0 ∷ []) $ use2 𝓛 (raw (G.pre y)) (id⊢ 𝓤 _) $
    calls_at ! (framed 𝓤 𝓛.H 𝓜 𝓣) G (met 𝓤 𝓛 𝓜 𝓡 (code.calls-cf_handles::spans::confluo_span_of 𝓡.env wired)) y
    (and_then ! (get ! refl) (and_then ! (get ! refl) (and_then ! (get ! refl) (no_more !)))) (λ v.
    use1 𝓛 (later (some (λ (r : ℕ). ((‵ (flft (α ∷ []) full_share) ⊛ (‵ (flft (β ∷ []) full_share) ⊛ ‵ ftrue)) ⊛ ‵ (u32.own_val r (v ∷ []))) ⊛
    some (λ (ws : Unit {0} × (R.Denot × (S.Denot × Unit {0}))). ‵ (lasts g.ended y.0.0 y.0.3 ws) ⊛
    raw (fact 𝓤 (SpansBy (k.seat.held, k₂.seat.held) (ws.1.0.seat.held, ws.1.1.0.seat.held) r)))))) (id⊢ 𝓤 _) $
    await ! tt $ pick !
    (λ r. split ! $ split ! $ split ! $ move ! (1 ∷ []) $ split ! $ move ! (2 ∷ []) $ lft_end ! tt $ move ! (1 ∷ []) $ lft_end ! tt $ move !
    (4 ∷ []) $ pick ! (λ ws. split ! $ move ! (1 ∷ []) $ heard ! _ (λ did. let k' = ws.1.0 in let k₂' = ws.1.1.0 in
    fsplit ! $ drop ! $ fsplit ! $ fsplit ! $ move ! (1 ∷ []) $ drop ! $ move ! (3 ∷ 7 ∷ 0 ∷ []) $
    use3 𝓛 (later (‵ (part_at R full_share k' b o))) (ref_back 𝓛 R (α ∷ []) δ k' b o) $ await ! tt $
    use1 𝓛 (‵ (leads_to HeldReader.the_row (block_ptr b o) k'.seat.held)) (closes HeldReader.the_row 𝓛 b o k') $
    rewrite ! 0 (λ (r : Ptr). ‵ (leads_to HeldReader.the_row r k'.seat.held)) (sym e) refl $ move ! (1 ∷ []) $ fsplit ! $ fsplit ! $ move !
    (1 ∷ []) $ drop ! $ move ! (3 ∷ 6 ∷ 0 ∷ []) $
    use3 𝓛 (later (‵ (part_at S full_share k₂' b₂ o₂))) (ref_back 𝓛 S (β ∷ []) δ₂ k₂' b₂ o₂) $ await ! tt $
    use1 𝓛 (‵ (leads_to HeldSpan.the_row (block_ptr b₂ o₂) k₂'.seat.held)) (closes HeldSpan.the_row 𝓛 b₂ o₂ k₂') $
    rewrite ! 0 (λ (r : Ptr). ‵ (leads_to HeldSpan.the_row r k₂'.seat.held)) (sym e₂) refl $ move ! (4 ∷ []) $
    peeks ! u32 (Is u32) (shows 𝓛 u32) r (v ∷ []) (λ is. lands_as ! refl refl ((uint_Lawful 𝓛 w32).typed r _ is).0 $
    returns ! (look_at ! 0 refl) $ free_all ! refl $ move ! (3 ∷ 1 ∷ []) $ fjoin ! $
    suffices ! _ (ends_at 𝓛 f.ended stayed c z v r (tt, (tt, (tt, tt))) (tt, (tt, (tt, tt)))) $
    let Told = λ (n : Option Reader × Option SpanValue). sep 𝓤 (sem 𝓛 (fsep (reader_at p n.0) (span_at p₂ n.1))) (fact 𝓤 (SpansBy (x, x₂) (n.0, n.1) r)) in
    use1 𝓛 (raw (ex 𝓤 Told))
    (qed 𝓛 (‵ (fsep (reader_at p k'.seat.held) (span_at p₂ k₂'.seat.held)) ∷ []) ∵ show ! Told (k'.seat.held, k₂'.seat.held) $
    says ! (subst (λ (m : Option Reader). SpansBy (m, x₂) (k'.seat.held, k₂'.seat.held) r) led
    (subst (λ (m : Option SpanValue). SpansBy (k.seat.held, m) (k'.seat.held, k₂'.seat.held) r) led₂ did)) $ done !) $
    move ! (2 ∷ []) $ nothing ! $ join ! $ nothing ! $ join ! $ nothing ! $ join ! $ move ! (3 ∷ 0 ∷ 2 ∷ 1 ∷ []) $ group ! 3 $ done !))))))))))))))))))))))))
