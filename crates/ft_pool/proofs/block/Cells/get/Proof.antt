-- `get` lends one of the values that a `&` to the cells shows.
use Rattle.std.proofs.Common.{◌≡◌, ℕ, ◌+◌, ◌*◌, ◌^◌, ◌<◌, List, [], ◌∷◌, ◌++◌, length, refl, ◌∙◌, arith, w64}
use base.Fraction.{full_share}
use mir.Val.{Val, vint, vptr}
use mir.MapTy.{inst_fn}
use base.Logic.{SProp, emp, never, id⊢}
use base.Fml.{Lft, Fml, ftrue, fsep, fat, flft}
use prog.Wp.{Env, WpFn}
use types.Kit.{‵, raw, ◌⊛◌, prop, at_ret, ◌$◌, ◌∵◌, !, qed, by, move, keep, drop, use0, use1, split, join, regoal, rewrite, fsplit, fjoin}
use types.Kit.{feq_i, flt_l}
use types.Part.{whole, sub}
use types.Run.{stop, fld, bin, size_lit, addr, of_opd, first, blocks, exec, returns, enter}
use types.ByLocal.{alloc_all, pass_all, free_all, look_at, get as read, get_in, through, sets, sets_last, take_at, give_at, env}
use contract.Monad.{fact, fact_i}
use contract.Running.{tables}
use denote.Exit.{yes, no}
use denote.RattleType.{RattleType, owns}
use denote.Builtin.{usize, RefOf}
use denote.Memory.{shared_of}
use denote.Opens.{hide, unhide}
use denote.Param.{layout}
use denote.RawPtr.{Ptr, in_a_block}
use denote.Signature.{plain, types_at}
use denote.Steps.{nothing, heard}
use denote.Triple.Walked.{Stays, stay_dropped, walk_of, Goes-dropped}
use Rattle.std.specs.Prelude.{Some, slice_get}
use Rattle.std.proofs.alloc.Calls.{Al}
use Rattle.std.proofs.mem.Param.{El, R}
use Rattle.std.proofs.ptr.Rows.{times_below, one_below}
use Rattle.std.proofs.raw_atomic.Walks.{proved_at, leaves}
use Rattle.std.proofs.VecSteps.Shapes.{after}
use Rattle.ft_pool.specs.block.Ownership.{cells_lent}
use Rattle.ft_pool.proofs.Memory.{bytes, item_at, value_seen}
use Rattle.ft_pool.proofs.Values.{args, Cells, Start, start_val, start_good, start_told}
use Rattle.ft_pool.specs.contracts.block.Cells.get.{ended, clauses}
use Rattle.ft_pool.specs.contracts.block.Cells.get.Key.{name as #self}
use Rattle.ft_pool.proofs.block.Cells.get.Statement.{statement}
use Rattle.ft_pool.proofs.block.Cells.get.Code as code

pub get_spec : {M : Type 1} → statement M
get_spec 𝓤 𝓛 𝓜 𝓡 wired T A L K g d dd met md =
    let E : El = record { row = T; laws = L } in
    let Z : Al = record { row = A; laws = K; g = g; d = d; drops = dd } in
    let H = 𝓛.H in let 𝓣 = tables 𝓤 H 𝓜 𝓡 𝓡.env in let C = 𝓣.C in let Λ = 𝓣.Λ in
    let F = ended T A g d dd in let c = clauses T A g d dd 𝓛 𝓜.mem 𝓡.returns in let fn = inst_fn (args E Z) code.function in
    let Cr : RattleType = Cells E Z in let St : RattleType = Start E in
    let hs : Stays F.signature.params F.kept = (
      stay_dropped (RefOf (0 ∷ []) tt (plain (λ _. Cr)) (λ _. tt)) yes,
      (stay_dropped (plain (λ _. St)) no, (stay_dropped (plain (λ _. usize)) yes, tt)),
    ) in
    proved_at 𝓛 F hs c 𝓜 𝓡 (
      Goes-dropped 𝓛 3 (RefOf (0 ∷ []) tt (plain (λ _. Cr)) (λ _. tt)) yes (λ κs x f. refl),
      (Goes-dropped 𝓛 3 (plain (λ _. St)) no (λ κs x f. refl), (Goes-dropped 𝓛 3 (plain (λ _. usize)) yes (λ κs x f. refl), tt)),
    )
    (#self (args E Z)) fn (code.unfolded 𝓤 H 𝓜 𝓡 wired (T, (A, tt)) d dd) (λ z are.
    let Post : Val → SProp 𝓤 = (walk_of 𝓛 F hs c).post z in
    let κs = z.0.0 in let qs = z.0.1 in let a = z.0.3 in let vss = z.0.4 in let κ : Lft = κs.0 in
    let rb : ℕ = a.0.ref_ptr.0 in let ro : ℕ = a.0.ref_ptr.1 in
    let cells : Cr.Denot = a.0.now in let p : Ptr = a.1.0.ptr in let i : ℕ = a.1.1.0 in
    let n : ℕ = cells.room in let xs = cells.items in
    let Asked : Type 0 = (p ≡ cells.at) × (i < length xs) in
    let others : Fml = fsep (flft κs.1.0 qs.1.0) (fsep (flft κs.1.1.0 qs.1.1.0) ftrue) in
    qed 𝓛 (((‵ (flft κ qs.0) ⊛ ‵ others) ⊛ ‵ (owns (types_at F.signature.params κs) a vss)) ∷ raw (fact 𝓤 _) ∷ raw (fact 𝓤 _)
    ∷ raw (fact 𝓤 Asked) ∷ []) ∵
    keep ! (3 ∷ 0 ∷ []) $ heard ! Asked (λ asked.
    let found = item_at xs i asked.1 in
    split ! $ split ! $ move ! (2 ∷ []) $ fsplit ! $ fsplit ! $ keep ! (1 ∷ 3 ∷ 4 ∷ []) $
    -- [what the `&` holds; the token of its lifetime; the other tokens]
    regoal ! (λ (us : List Val). prop (WpFn 𝓤 H C Λ fn us Post)) (λ j. are.0.0 j
    ++ (start_told E a.1.0 vss.1.0 are.1.0 j ++ (are.1.1.0.0 j ++ []))) refl $
    enter ! C Λ fn (vptr rb ro ∷ start_val p ∷ vint w64 i ∷ []) Post $
    alloc_all ! (λ l. pass_all ! refl ((tt, tt), (start_good p, ((tt, record { fits = are.1.1.0.1 }), tt))) $ let En : Env 𝓤 H =
    env fn.locals l in
    unhide ! $ fsplit ! $ drop ! $ in_a_block ! cells.at (λ (t : Ptr). cells_lent (R E) t n xs κ) (id⊢ 𝓤 (never 𝓤))
    (λ b o e. fsplit ! $ flt_l ! (λ small.
    let s : ℕ = bytes E in let within : i < length xs = asked.1 in let inside : i < n = (let fits = cells.fits in omega arith) in
    let tiny : s < 2 ^ 64 = omega (arith, one_below n s (2 ^ 63) (omega arith) small) in
    let far : i * s < 2 ^ 64 = omega (arith, times_below i n s (2 ^ 63) (omega arith) small) in
    take_at ! 2 $ rewrite ! 0 (λ (t : Ptr). ‵ (fat full_share (layout St) (l 2) 0 (start_val t))) (asked.0 ∙ e) refl $ give_at ! 2 $ first !
    $ blocks ! $
    sets ! (bin ! (read ! refl) (size_lit ! (record { fits = tiny })) (record { fits = far })) refl (tt, record { fits = far }) $
    sets ! (bin ! (get_in ! (fld ! refl (stop !)) (sub ! 0 refl (whole !))) (read ! refl) tt) refl (tt, tt) $
    use1 𝓛 (‵ (shared_of (R E) found.0 b (i * s + o) κ)) (value_seen E 𝓛 b κ o xs i asked.1) $ hide ! $
    sets_last ! (addr ! (through ! refl (stop !))) refl (tt, tt) $ exec ! C Λ En (after 1 fn.body) (at_ret En Post) $ sets !
    (of_opd ! (read ! refl)) refl (tt, tt) $
    feq_i ! (List Val) (vptr b (i * s + o) ∷ []) (vptr b (i * s + o) ∷ []) refl $ fjoin ! $
    returns ! (look_at ! 0 refl) $ free_all ! refl $
    let Given : Type 0 = slice_get xs i ≡ Some found.0 in
    nothing ! $ nothing ! $ fjoin ! $ nothing ! $ fjoin ! $ nothing ! $ fjoin ! $ move ! (2 ∷ 3 ∷ []) $ join ! $
    use0 𝓛 (raw (fact 𝓤 Given)) (fact_i 𝓤 Given (emp 𝓤) found.1) $ move ! (1 ∷ 2 ∷ 3 ∷ 0 ∷ []) $
    by ! (leaves 𝓛 F hs c z (vptr b (i * s + o)) (record { ref_ptr = (b, i * s + o); now = found.0 }) (tt, (tt, (tt, tt)))
    (tt, (tt, (tt, tt)))))))))
