-- `put` writes the bytes of a value where its place begins.
use Rattle.std.proofs.Common.{◌≡◌, ℕ, ◌+◌, ◌*◌, ◌^◌, ◌<◌, ◌≤◌, List, [], ◌∷◌, ◌++◌, length, refl, sym, ◌∙◌, arith, w64}
use base.Fraction.{full_share}
use mir.Val.{Val, vint, vptr, vunit}
use mir.MapTy.{inst_fn}
use base.Logic.{SProp, emp, never, id⊢}
use base.Fml.{Fml, ftrue, fsep, fat, froom, flft}
use prog.Wp.{Env, WpFn}
use types.Kit.{‵, raw, ◌⊛◌, prop, at_ret, ◌$◌, ◌∵◌, !, qed, by, move, keep, use0, use1, use3, split, join, regoal, rewrite, fsplit, fsplit3}
use types.Kit.{fjoin, fjoin3, feq_i, flt_l, flt_i}
use types.Part.{whole, sub}
use types.Run.{init, stop, fld, bin, size_lit, unit_lit, of_opd, assigns_last, first, blocks, exec, returns, enter}
use types.ByLocal.{alloc_all, pass_all, free_all, look_at, get, get_in, through, sets, take_at, give_at, env}
use contract.Monad.{fact, fact_i}
use contract.Running.{tables}
use denote.Exit.{yes, no}
use denote.RattleType.{RattleType, owns}
use denote.Builtin.{usize}
use denote.Param.{layout}
use denote.RawPtr.{Ptr, in_a_block}
use denote.Signature.{plain, types_at}
use denote.Steps.{nothing, heard, opens, closes}
use denote.Triple.Walked.{Stays, stay_dropped, stay_ref, walk_of, Goes-dropped, Goes-ref}
use Rattle.std.proofs.alloc.Calls.{Al, token}
use Rattle.std.proofs.mem.Param.{El, R, elτ, lawful, one}
use Rattle.std.proofs.ptr.Rows.{times_below, one_below}
use Rattle.std.proofs.raw_atomic.Walks.{proved_at, leaves}
use Rattle.std.proofs.VecSteps.Shapes.{after}
use Rattle.ft_pool.specs.block.Places.{put_at}
use Rattle.ft_pool.specs.block.Ownership.{places, cells_own}
use Rattle.ft_pool.proofs.Memory.{bytes, besides, place_out, place_in}
use Rattle.ft_pool.proofs.PlacesLemmas.{put_at-fits}
use Rattle.ft_pool.proofs.Values.{args, Cells, Start, start_val, start_good, start_told}
use Rattle.ft_pool.specs.contracts.block.Cells.put.{ended, clauses}
use Rattle.ft_pool.specs.contracts.block.Cells.put.Key.{name as #self}
use Rattle.ft_pool.proofs.block.Cells.put.Statement.{statement}
use Rattle.ft_pool.proofs.block.Cells.put.Code as code

pub put_spec : {M : Type 1} → statement M
put_spec 𝓤 𝓛 𝓜 𝓡 wired T A L K g d dd met md =
    let E : El = record { row = T; laws = L } in
    let Z : Al = record { row = A; laws = K; g = g; d = d; drops = dd } in
    let H = 𝓛.H in let 𝓣 = tables 𝓤 H 𝓜 𝓡 𝓡.env in let C = 𝓣.C in let Λ = 𝓣.Λ in
    let F = ended T A g d dd in let c = clauses T A g d dd 𝓛 𝓜.mem 𝓡.returns in let fn = inst_fn (args E Z) code.function in
    let Cr : RattleType = Cells E Z in let St : RattleType = Start E in
    let hs : Stays F.signature.params F.kept = (
      stay_ref (0 ∷ []) tt (plain (λ _. Cr)),
      (stay_dropped (plain (λ _. St)) no, (stay_dropped (plain (λ _. usize)) yes, (stay_dropped (plain (λ _. R E)) no, tt))),
    ) in
    proved_at 𝓛 F hs c 𝓜 𝓡 (
      Goes-ref 𝓛 3 0 tt (plain (λ _. Cr)),
      (
        Goes-dropped 𝓛 3 (plain (λ _. St)) no (λ κs x f. refl),
        (Goes-dropped 𝓛 3 (plain (λ _. usize)) yes (λ κs x f. refl), (Goes-dropped 𝓛 3 (plain (λ _. R E)) no (λ κs x f. refl), tt)),
      ),
    )
    (#self (args E Z)) fn (code.unfolded 𝓤 H 𝓜 𝓡 wired (T, (A, tt)) d dd) (λ z are.
    let Post : Val → SProp 𝓤 = (walk_of 𝓛 F hs c).post z in
    let κs = z.0.0 in let qs = z.0.1 in let a = z.0.3 in let vss = z.0.4 in
    let rb : ℕ = a.0.ref_ptr.0 in let ro : ℕ = a.0.ref_ptr.1 in
    let cells : Cr.Denot = a.0.now in let p : Ptr = a.1.0.ptr in let i : ℕ = a.1.1.0 in let x = a.1.1.1.0 in
    let n : ℕ = cells.room in let xs = cells.items in let right = token Z cells.heap in
    let got = one E vss.1.1.1.0 ((lawful E 𝓛).typed x vss.1.1.1.0 are.1.1.1.0) in let v : Val = got.0 in
    let Asked : Type 0 = (p ≡ cells.at) × (i ≤ length xs) × (i < n) in
    let others : Fml = fsep (flft κs.1.0 qs.1.0) (fsep (flft κs.1.1.0 qs.1.1.0) ftrue) in
    qed 𝓛 (((‵ (flft κs.0 qs.0) ⊛ ‵ others) ⊛ ‵ (owns (types_at F.signature.params κs) a vss)) ∷ raw (fact 𝓤 _) ∷ raw (fact 𝓤 _)
    ∷ raw (fact 𝓤 Asked) ∷ []) ∵
    keep ! (3 ∷ 0 ∷ []) $ heard ! Asked (λ asked.
    let ys = put_at xs i x in
    let new : Cr.Denot = record {
      mark = cells.mark;
      at = cells.at;
      room = n;
      items = ys;
      heap = cells.heap;
      fits =
          put_at-fits xs i n x cells.fits asked.2;
    } in
    let Given : Type 0 = (cells.at ≡ cells.at) × (n ≡ n) × (ys ≡ ys) × (cells.heap ≡ cells.heap) in
    split ! $ split ! $ move ! (2 ∷ []) $ fsplit ! $ fsplit3 ! $ move ! (3 ∷ []) $ fsplit ! $ move ! (1 ∷ []) $ fsplit ! $ move ! (1 ∷ []) $
    fsplit ! $
    keep ! (5 ∷ 6 ∷ 7 ∷ 8 ∷ 0 ∷ []) $ rewrite ! 4 (λ (us : List Val). ‵ (T.own_val x us)) got.1 refl $
    -- [what the cells are seen at; their borrow; its token; the other tokens; what the item owns]
    regoal ! (λ (us : List Val). prop (WpFn 𝓤 H C Λ fn us Post)) (λ j. are.0.0 j
    ++ (start_told E a.1.0 vss.1.0 are.1.0 j ++ (are.1.1.0.0 j ++ (got.1 j ++ [])))) refl $
    enter ! C Λ fn (vptr rb ro ∷ start_val p ∷ vint w64 i ∷ v ∷ []) Post $
    alloc_all ! (λ l. pass_all ! refl ((tt, tt), (start_good p, ((tt, record { fits = are.1.1.0.1 }), (got.2, tt)))) $ let En : Env 𝓤 H =
    env fn.locals l in
    opens ! tt Cr {h = cells} rb ro (λ ts. move ! (1 ∷ []) $ fsplit ! $ move ! (1 ∷ []) $
    in_a_block ! cells.at (λ (t : Ptr). cells_own (R E) right t n xs) (id⊢ 𝓤 (never 𝓤)) (λ b o e. fsplit ! $ flt_l ! (λ small. fsplit ! $
    let s : ℕ = bytes E in let inside : i < n = asked.2 in let tiny : s < 2 ^ 64 =
    omega (arith, one_below n s (2 ^ 63) (omega arith) small) in
    let far : i * s < 2 ^ 64 = omega (arith, times_below i n s (2 ^ 63) (omega arith) small) in
    use1 𝓛 (‵ (froom (elτ E) b (i * s + o)) ⊛ ‵ (besides E b o n xs i)) (place_out E 𝓛 b o n xs i asked.1 asked.2) $ split ! $
    take_at ! 2 $ rewrite ! 0 (λ (t : Ptr). ‵ (fat full_share (layout St) (l 2) 0 (start_val t))) (asked.0 ∙ e) refl $ give_at ! 2 $
    -- [room for the item; the other places; the right to give back; the mark; its cell; the open borrow; obs; auth; the other tokens; the
    -- item]
    first ! $ blocks ! $
    sets ! (bin ! (get ! refl) (size_lit ! (record { fits = tiny })) (record { fits = far })) refl (tt, record { fits = far }) $
    sets ! (bin ! (get_in ! (fld ! refl (stop !)) (sub ! 0 refl (whole !))) (get ! refl) tt) refl (tt, tt) $
    sets ! (of_opd ! (get ! refl)) refl got.2 $ assigns_last ! (of_opd ! (get ! refl)) (through ! refl (stop !)) (init ! 0 refl got.2) $
    exec ! C Λ En (after 1 fn.body) (at_ret En Post) $ sets ! (of_opd ! (unit_lit !)) refl (tt, tt) $
    move ! (0 ∷ 9 ∷ []) $ use3 𝓛 (‵ (places (R E) b o n ys)) (place_in E 𝓛 b o n xs i asked.1 asked.2 x v) $
    fjoin ! $ flt_i ! (n * s) (2 ^ 63) small $ fjoin ! $ rewrite ! 0 (λ (t : Ptr). ‵ (cells_own (R E) right t n ys)) (sym e) refl $
    move ! (1 ∷ 0 ∷ []) $ fjoin ! $ move ! (1 ∷ 0 ∷ []) $ closes ! tt Cr new ts rb ro $
    returns ! (look_at ! 0 refl) $ free_all ! refl $
    feq_i ! (List Val) vss.0 (vptr rb ro ∷ []) are.0.0 $ fjoin3 ! $ nothing ! $ nothing ! $ fjoin ! $ nothing ! $ fjoin ! $ nothing ! $
    fjoin ! $ move ! (1 ∷ 0 ∷ []) $ fjoin ! $
    move ! (1 ∷ 2 ∷ []) $ join ! $ feq_i ! (List Val) (vunit ∷ []) (vunit ∷ []) refl $ use0 𝓛 (raw (fact 𝓤 Given))
    (fact_i 𝓤 Given (emp 𝓤) (refl, refl, refl, refl)) $ move ! (2 ∷ 3 ∷ 1 ∷ 0 ∷ []) $
    by ! (leaves 𝓛 F hs c z vunit tt (new, (tt, (tt, (tt, tt)))) (tt, (tt, (tt, (tt, tt)))))))))))
