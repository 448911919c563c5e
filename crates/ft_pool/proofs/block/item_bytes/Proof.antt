-- The size of a type parameter is a word of the machine.
use Rattle.std.proofs.Common.{◌≡◌, ℕ, ◌^◌, List, [], ◌∷◌, refl, w64}
use mir.Syntax.{Args, a_type}
use mir.Val.{Val, vint}
use mir.MapTy.{inst_fn}
use base.Logic.{emp}
use base.Fml.{ftrue, flft}
use prog.Memory.{size, capped}
use prog.Capped.{capped_fits}
use contract.Monad.{fact, fact_i}
use contract.Running.{tables}
use types.Kit.{‵, raw, ◌⊛◌, ◌$◌, ◌∵◌, !, qed, by, move, keep, use0, split, fjoin, feq_i, flt_i}
use types.Run.{size_word, of_opd, returns, enter}
use types.ByLocal.{alloc_all, pass_all, free_all, look_at, sets}
use denote.Param.{layout, layouts}
use denote.Triple.Walked.{walk_of}
use Rattle.std.proofs.raw_atomic.Walks.{proved, leaves}
use Rattle.ft_pool.specs.contracts.block.item_bytes.{ended, clauses}
use Rattle.ft_pool.specs.contracts.block.item_bytes.Key.{name as #self}
use Rattle.ft_pool.proofs.block.item_bytes.Statement.{statement}
use Rattle.ft_pool.proofs.block.item_bytes.Code as code

pub item_bytes_spec : {M : Type 1} → statement M
item_bytes_spec 𝓤 𝓛 𝓜 𝓡 wired T L =
    let 𝓣 = tables 𝓤 𝓛.H 𝓜 𝓡 𝓡.env in let F = ended T in let c = clauses T 𝓛 𝓜.mem 𝓡.returns in
    let args : Args = layouts (a_type ∷ []) (T, tt) in let fn = inst_fn args code.function in
    proved 𝓛 F tt c 𝓜 𝓡 tt (#self args) fn (code.unfolded 𝓤 𝓛.H 𝓜 𝓡 wired (T, tt)) (λ κs. tt) (λ κs. tt) (λ κs qs bounds a g are.
    let y : (walk_of 𝓛 F tt c).Ghost = ((κs, qs, bounds, a, tt), g) in
    let s : ℕ = capped (size (layout T)) in let Given : Type 0 = s ≡ s in
    qed 𝓛 (((‵ (flft κs.0 qs.0) ⊛ ‵ ftrue) ⊛ ‵ ftrue) ∷ raw ((c κs a).requires g) ∷ []) ∵ keep ! (0 ∷ []) $ split ! $
    enter ! 𝓣.C 𝓣.Λ fn [] _ $ alloc_all ! (λ l. pass_all ! refl tt $
    sets ! (of_opd ! (size_word !)) refl (tt, record { fits = capped_fits (size (layout T)) }) $
    returns ! (look_at ! 0 refl) $ free_all ! refl $
    flt_i ! s (2 ^ 64) (capped_fits (size (layout T))) $ feq_i ! (List Val) (vint w64 s ∷ []) (vint w64 s ∷ []) refl $ fjoin ! $
    use0 𝓛 (raw (fact 𝓤 Given)) (fact_i 𝓤 Given (emp 𝓤) refl) $ move ! (2 ∷ 3 ∷ 1 ∷ 0 ∷ []) $
    by ! (leaves 𝓛 F tt c y (vint w64 s) s tt tt)))
