-- The list with one more item is chosen.
use Rattle.std.proofs.Common.{[], ◌∷◌, ◌++◌, refl}
use mir.Syntax.{Args, a_type, named}
use mir.Val.{Val, vptr, vstruct, vcons, vnil}
use mir.MapTy.{inst_fn}
use contract.Running.{tables}
use types.Kit.{‵, raw, ◌⊛◌, ◌$◌, ◌∵◌, !, qed, move, keep, split, suffices, done}
use types.Part.{agg}
use types.Run.{and_then, no_more, returns, enter}
use types.ByLocal.{alloc_all, pass_all, free_all, look_at, get, sets}
use denote.Exit.{yes}
use denote.RattleType.{RattleType, owns}
use denote.Param.{param, layouts}
use denote.Ref.{shr_vals, shr_Tells}
use denote.Shadow.{pure_i}
use denote.Signature.{plain, types_at}
use denote.Triple.Entry.{alive}
use denote.Triple.Walked.{says, Stays, stay_none_ref, Goes-none_ref, walk_of, ends_at}
use Rattle.std.proofs.raw_atomic.Walks.{proved}
use Rattle.ft_memo.specs.contracts.told.Told as told
use Rattle.ft_memo.specs.contracts.told.Told.followed_by as f
use Rattle.ft_memo.specs.contracts.told.Told.followed_by.Key.{name as key}
use Rattle.ft_memo.proofs.told.Told.followed_by.Statement.{statement}
use Rattle.ft_memo.proofs.told.Told.followed_by.Code as code

abbrev stayed : (T : RattleType) → Stays (f.ended T).signature.params (f.ended T).kept
stayed T = (
  stay_none_ref (0 ∷ []) tt (plain (λ _. told.the_row (param 0 T))) yes,
  (stay_none_ref (1 ∷ []) tt (plain (λ _. param 0 T)) yes, tt),
)

pub followed_by_spec : {M : Type 1} → statement M
followed_by_spec 𝓤 𝓛 𝓜 𝓡 wired T L =
    let E : RattleType = param 0 T in let R : RattleType = told.the_row E in let F = f.ended T in let args : Args =
    layouts (a_type ∷ []) (T, tt) in let fn = inst_fn args code.function in
    let c = f.clauses T 𝓛 𝓜.mem 𝓡.returns in let W = walk_of 𝓛 F (stayed T) c in let 𝓣 = tables 𝓤 𝓛.H 𝓜 𝓡 𝓡.env in
    proved 𝓛 F (stayed T) c 𝓜 𝓡 (
      Goes-none_ref 𝓛 3 (0 ∷ []) tt (plain (λ _. R)) yes,
      (Goes-none_ref 𝓛 3 (1 ∷ []) tt (plain (λ _. E)) yes, tt),
    )
    (key args) fn (code.unfolded 𝓤 𝓛.H 𝓜 𝓡 wired (T, tt)) (λ κs. (shr_vals, (shr_vals, tt)))
    (λ κs. (shr_Tells (named 0) κs.0 R, (shr_Tells (named 1) κs.1.0 E, tt))) (λ κs qs bounds a g are.
    let before : Val = vptr a.0.ref_ptr.0 a.0.ref_ptr.1 in let item : Val = vptr a.1.0.ref_ptr.0 a.1.0.ref_ptr.1 in
    let y : W.Ghost = ((κs, qs, bounds, a, (before ∷ [], (item ∷ [], tt))), g) in
    let made : R.Denot = record { of = record {}; items = a.0.now.items ++ a.1.0.now ∷ [] } in
    let told_val : Val = vstruct (vcons (vstruct vnil) vnil) in
    qed 𝓛 ((raw (alive 𝓛 F.signature κs qs) ⊛ ‵ (owns (types_at F.signature.params κs) a y.0.4)) ∷ raw ((c κs a).requires g) ∷ []) ∵ keep !
    (0 ∷ []) $ split ! $
    enter ! 𝓣.C 𝓣.Λ fn (before ∷ item ∷ []) _ $ alloc_all ! (λ l. pass_all ! refl ((tt, tt), ((tt, tt), tt)) $ sets ! (agg ! (no_more !))
    refl (tt, tt) $ sets ! (agg ! (and_then ! (get ! refl) (no_more !))) refl (tt, (tt, tt)) $
    returns ! (look_at ! 0 refl) $ free_all ! refl $
    suffices ! _ (ends_at 𝓛 F (stayed T) c y told_val made (tt, (tt, tt)) (tt, (tt, tt))) $
    says ! refl $ pure_i ! (R.own_val made (told_val ∷ [])) ((λ vss. (tt, ((λ uss. (tt, tt)), tt))), tt)
    (((vstruct vnil ∷ [], tt), (refl, ((tt, (refl, tt)), tt))), tt) $
    move ! (1 ∷ 2 ∷ 0 ∷ []) $ done !))
