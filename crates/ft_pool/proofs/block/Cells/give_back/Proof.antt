-- `give_back` forgets the values, and hands the block back with the right to do so.
use Rattle.std.proofs.Common.{◌≡◌, ℕ, ◌*◌, ◌^◌, ◌<◌, List, [], ◌∷◌, ◌++◌, refl, sym, ap, subst, ◌∙◌, arith, w64}
use lib.Dec.{T}
use mir.Syntax.{Ty, ty_array, ty_unit}
use mir.Val.{Val, vint, vptr, vunit, has_ty, WT}
use mir.MapTy.{inst_fn}
use base.Logic.{SProp, never, id⊢}
use base.Fml.{Lft, Share, Fml, Incl-trans, ftrue, fsep, froom, flft}
use prog.Memory.{align, capped}
use prog.Capped.{capped_fits}
use prog.Wp.{Env, WpFn}
use contract.BorrowLft.{◌⊑◌}
use contract.Monad.{fact}
use contract.Running.{tables}
use types.Kit.{‵, raw, ◌⊛◌, given, later, await, learn, prop, at_ret, ◌$◌, ◌∵◌, !, qed, by, move, keep, drop, use1, split, join, group}
use types.Kit.{regoal, rewrite, fsplit, fjoin, feq_i, flt_l}
use types.Part.{whole, sub}
use types.Run.{stop, fld, bin, size_word, align_word, unit_lit, of_opd, and_then, no_more, first, blocks, exec, returns, enter}
use types.ByLocal.{alloc_all, pass_all, free_all, look_at, get, get_in, sets, is, lands_last, env}
use denote.Exit.{yes, no}
use denote.RattleType.{RattleType, owns}
use denote.Builtin.{usize, RefOf}
use denote.RawPtr.{Ptr, block_ptr, ptr_val, in_a_block}
use denote.Signature.{plain, types_at}
use denote.Steps.{nothing, heard}
use denote.Triple.Call.{calls_at_last}
use denote.Triple.Table.{framed}
use denote.Triple.Walked.{Stays, stay_dropped, walk_of, Goes-dropped}
use Rattle.std.proofs.alloc.Calls.{Al, token, Goes-blank, Gives, at_gives, Gives-goes, Gives-Gives}
use Rattle.std.proofs.mem.Param.{El, R, elτ}
use Rattle.std.proofs.raw_atomic.Walks.{proved_at, leaves}
use Rattle.std.proofs.RawLayout.{as_raw}
use Rattle.std.proofs.VecSteps.Shapes.{after}
use Rattle.ft_pool.specs.block.Ownership.{block_of, cells_own}
use Rattle.ft_pool.proofs.Layouts.{uncapped, block_size, block_align}
use Rattle.ft_pool.proofs.Memory.{bytes, to_room}
use Rattle.ft_pool.proofs.Values.{args, P, Cells, Start, start_val, start_good, start_told, mark_val, mark_told}
use Rattle.ft_pool.specs.contracts.block.Cells.give_back.{ended, clauses}
use Rattle.ft_pool.specs.contracts.block.Cells.give_back.Key.{name as #self}
use Rattle.ft_pool.proofs.block.Cells.give_back.Statement.{statement}
use Rattle.ft_pool.proofs.block.Cells.give_back.Code as code

pub give_back_spec : {M : Type 1} → statement M
give_back_spec 𝓤 𝓛 𝓜 𝓡 wired T₀ A L K g d dd met md =
    let E : El = record { row = T₀; laws = L } in
    let Z : Al = record { row = A; laws = K; g = g; d = d; drops = dd } in
    let H = 𝓛.H in let 𝓣 = tables 𝓤 H 𝓜 𝓡 𝓡.env in let C = 𝓣.C in let Λ = 𝓣.Λ in
    let F = ended T₀ A g d dd in let c = clauses T₀ A g d dd 𝓛 𝓜.mem 𝓡.returns in let fn = inst_fn (args E Z) code.function in
    let Cr : RattleType = Cells E Z in let St : RattleType = Start E in let Handle = RefOf (0 ∷ []) tt (plain (λ _. P E Z)) (λ _. tt) in
    let hs : Stays F.signature.params F.kept = (
      stay_dropped (plain (λ _. Cr)) no,
      (stay_dropped (plain (λ _. St)) no, (stay_dropped (plain (λ _. usize)) yes, (stay_dropped Handle yes, tt))),
    ) in
    proved_at 𝓛 F hs c 𝓜 𝓡 (
      Goes-blank 𝓛 3 (plain (λ _. Cr)) no (λ κs x f. tt),
      (
        Goes-dropped 𝓛 3 (plain (λ _. St)) no (λ κs x f. refl),
        (Goes-dropped 𝓛 3 (plain (λ _. usize)) yes (λ κs x f. refl), (Goes-dropped 𝓛 3 Handle yes (λ κs x f. refl), tt)),
      ),
    )
    (#self (args E Z)) fn (code.unfolded 𝓤 H 𝓜 𝓡 wired (T₀, (A, tt)) d dd) (λ z are.
    let Post : Val → SProp 𝓤 = (walk_of 𝓛 F hs c).post z in
    let κs = z.0.0 in let qs = z.0.1 in let a = z.0.3 in let vss = z.0.4 in let κ : Lft = κs.0 in let q : Share = qs.0 in
    let cells : Cr.Denot = a.0 in let p : Ptr = a.1.0.ptr in let n : ℕ = a.1.1.0 in
    let heap = a.1.1.1.0.now in let rb : ℕ = a.1.1.1.0.ref_ptr.0 in let ro : ℕ = a.1.1.1.0.ref_ptr.1 in
    let Asked : Type 0 = (p ≡ cells.at) × (n ≡ cells.room) × (heap ≡ cells.heap) in
    let others : Fml = fsep (flft κs.1.0 qs.1.0) (fsep (flft κs.1.1.0 qs.1.1.0) ftrue) in
    qed 𝓛 (((‵ (flft κ q) ⊛ ‵ others) ⊛ ‵ (owns (types_at F.signature.params κs) a vss)) ∷ raw (fact 𝓤 _)
    ∷ raw (fact 𝓤 (κs.1.1.0 ⊑ A.lives)) ∷ raw (fact 𝓤 Asked) ∷ []) ∵
    keep ! (2 ∷ 3 ∷ 0 ∷ []) $ heard ! (κs.1.1.0 ⊑ A.lives) (λ within. heard ! Asked (λ asked.
    split ! $ split ! $ move ! (2 ∷ []) $ fsplit ! $ fsplit ! $ drop ! $
    -- [what the cells own; the other parameters; the token; the other tokens]
    in_a_block ! cells.at (λ (t : Ptr). cells_own (R E) (token Z cells.heap) t cells.room cells.items) (id⊢ 𝓤 (never 𝓤))
    (λ b o e. fsplit ! $ flt_l ! (λ small₀. fsplit ! $
    let s : ℕ = bytes E in let small : n * s < 2 ^ 63 = subst (λ (k : ℕ). k * s < 2 ^ 63) (sym asked.1) small₀ in
    let fits : n * s < 2 ^ 64 = omega arith in
    let τ : Ty = block_of (R E) n in let al : ℕ = capped (align (elτ E)) in
    let y : (Gives Z 𝓛 𝓜.mem 𝓡.returns).Ghost = at_gives Z 𝓛 𝓜.mem 𝓡.returns κ q (rb, ro) heap b o (n * s) al τ in
    use1 𝓛 (‵ (froom (ty_array (elτ E) cells.room) b o)) (to_room E 𝓛 b o cells.room cells.items) $
    rewrite ! 0 (λ (k : ℕ). ‵ (froom (ty_array (elτ E) k) b o)) (sym asked.1) refl $ as_raw ! (ty_array (elτ E) n) b o $
    rewrite ! 1 (λ (u : A.Denot × ℕ). ‵ (token Z u.0 (block_of (R E) u.1) (block_ptr b o))) (λ j. (sym asked.2 j, sym asked.1 j)) refl $
    move ! (2 ∷ []) $ fsplit ! $ drop ! $ fsplit ! $ drop ! $ fsplit ! $ fsplit ! $ keep ! (3 ∷ 4 ∷ 1 ∷ 5 ∷ 6 ∷ []) $
    -- [room for the values; the right to give it back; the `&` to the allocator; the token of its lifetime; the other tokens]
    regoal ! (λ (us : List Val). prop (WpFn 𝓤 H C Λ fn us Post)) (λ j. mark_told E Z vss.0 are.0.0 j
    ++ (start_told E a.1.0 vss.1.0 are.1.0 j ++ (are.1.1.0.0 j ++ (are.1.1.1.0.0 j ++ [])))) refl $
    enter ! C Λ fn (mark_val ∷ start_val p ∷ vint w64 n ∷ vptr rb ro ∷ []) Post $
    alloc_all ! (λ l. pass_all ! refl ((tt, (tt, tt)), (start_good p, ((tt, record { fits = are.1.1.0.1 }), ((tt, tt), tt)))) $ let En : Env
    𝓤 H = env fn.locals l in
    first ! $ blocks ! $
    sets ! (is ! (of_opd ! (get_in ! (fld ! refl (stop !)) (sub ! 0 refl (whole !)))) (ap ptr_val (asked.0 ∙ e))) refl (tt, tt) $
    sets ! (is ! (bin ! (get ! refl) (size_word !) (record { fits = subst (λ (k : ℕ). k < 2 ^ 64) (sym (uncapped n s fits)) fits }))
    (ap (vint w64) (uncapped n s fits))) refl (tt, record { fits = fits }) $
    group ! 4 $ use1 𝓛 (raw ((Gives Z 𝓛 𝓜.mem 𝓡.returns).pre y)) (Gives-goes Z 𝓛 𝓜.mem 𝓡.returns κ q (rb, ro) heap
    (Incl-trans z.0.2.0 within) b o (n * s) al τ (block_size E n fits) (block_align E n) fits (capped_fits (align (elτ E)))) $
    calls_at_last ! (framed 𝓤 H 𝓜 𝓣) (Gives Z 𝓛 𝓜.mem 𝓡.returns) (met.deallocate dd) y
    (and_then ! (get ! refl) (and_then ! (get ! refl) (and_then ! (get ! refl) (and_then ! (align_word !) (no_more !))))) (λ v.
    use1 𝓛 (later (given (v ≡ vunit) (‵ (flft κ q)))) (Gives-Gives Z 𝓛 𝓜.mem 𝓡.returns κ q (rb, ro) heap b o (n * s) al τ v) $ await ! tt $
    learn ! (λ is_unit.
    lands_last ! refl (subst (λ (u : Val). T (has_ty ty_unit u) × WT u) (sym is_unit) (tt, tt)) $ exec ! C Λ En (after 1 fn.body)
    (at_ret En Post) $
    sets ! (of_opd ! (unit_lit !)) refl (tt, tt) $ returns ! (look_at ! 0 refl) $ free_all ! refl $ join ! $
    nothing ! $ nothing ! $ fjoin ! $ nothing ! $ fjoin ! $ nothing ! $ fjoin ! $ nothing ! $ fjoin ! $ feq_i ! (List Val) (vunit ∷ [])
    (vunit ∷ []) refl $ nothing ! $ move ! (3 ∷ 2 ∷ 1 ∷ 0 ∷ []) $
    by ! (leaves 𝓛 F hs c z vunit tt (tt, (tt, (tt, (tt, tt)))) (tt, (tt, (tt, (tt, tt)))))))))))))
