-- The list with one more read is chosen.
use Rattle.std.proofs.Common.{[], ◌∷◌, refl, length}
use mir.Syntax.{named}
use mir.Val.{Val, vptr, vstruct, vcons, vnil}
use contract.Running.{tables}
use types.Kit.{‵, raw, ◌⊛◌, ◌$◌, ◌∵◌, !, qed, move, keep, split, suffices, done}
use types.Part.{agg}
use types.Run.{and_then, no_more, returns, enter}
use types.ByLocal.{alloc_all, pass_all, free_all, look_at, get, sets}
use denote.Exit.{yes}
use denote.RattleType.{RattleType, owns}
use denote.Builtin.{u8, u64, usize}
use denote.Ref.{shr_vals, shr_Tells}
use denote.Slice.{slice_val, shr_slice_vals, shr_slice_Tells}
use denote.Shadow.{pure_i}
use denote.Signature.{plain, types_at}
use denote.Triple.Entry.{alive}
use denote.Triple.Walked.{says, Stays, stay_none_ref, stay_none_slice, Goes-none_ref, Goes-none_slice, walk_of, ends_at}
use Rattle.std.proofs.raw_atomic.Walks.{proved}
use Rattle.ft_port.specs.Reads.{read_of}
use Rattle.std.specs.contracts.result.Result.{the_row as ResultOf}
use Rattle.ft_port.specs.contracts.shelf.Failed as failed
use Rattle.ft_port.specs.contracts.reads.Reads as reads
use Rattle.ft_port.specs.contracts.reads.Reads.followed_by as f
use Rattle.ft_port.specs.contracts.reads.Reads.followed_by.Key.{name as key}
use Rattle.ft_port.proofs.reads.Reads.followed_by.Statement.{statement}
use Rattle.ft_port.proofs.reads.Reads.followed_by.Code as code

abbrev Answer : RattleType
Answer = ResultOf usize failed.the_row

abbrev stayed : Stays (f.ended).signature.params (f.ended).kept
stayed = (
  stay_none_ref (0 ∷ []) tt (plain (λ _. reads.the_row)) yes,
  (
    stay_none_ref (1 ∷ []) tt (plain (λ _. u64)) yes,
    (
      stay_none_ref (2 ∷ []) tt (plain (λ _. Answer)) yes,
      (stay_none_slice (3 ∷ []) tt (plain (λ _. u8)) yes, tt),
    ),
  ),
)

pub followed_by_spec : {M : Type 1} → statement M
followed_by_spec 𝓤 𝓛 𝓜 𝓡 wired =
    let R : RattleType = reads.the_row in let F = f.ended in let fn = code.function in
    let c = f.clauses 𝓛 𝓜.mem 𝓡.returns in let W = walk_of 𝓛 F stayed c in let 𝓣 = tables 𝓤 𝓛.H 𝓜 𝓡 𝓡.env in
    proved 𝓛 F stayed c 𝓜 𝓡 (
      Goes-none_ref 𝓛 4 (0 ∷ []) tt (plain (λ _. R)) yes,
      (
        Goes-none_ref 𝓛 4 (1 ∷ []) tt (plain (λ _. u64)) yes,
        (Goes-none_ref 𝓛 4 (2 ∷ []) tt (plain (λ _. Answer)) yes, (Goes-none_slice 𝓛 4 (3 ∷ []) tt (plain (λ _. u8)) yes, tt)),
      ),
    )
    key fn (code.unfolded 𝓤 𝓛.H 𝓜 𝓡 wired) (λ κs. (shr_vals, (shr_vals, (shr_vals, (shr_slice_vals, tt)))))
    (λ κs. (
      shr_Tells (named 0) κs.0 R,
      (
        shr_Tells (named 1) κs.1.0 u64,
        (shr_Tells (named 2) κs.1.1.0 Answer, (shr_slice_Tells (named 3) κs.1.1.1.0 u8, tt)),
      ),
    )) (λ κs qs bounds a g are.
    let before : Val = vptr a.0.ref_ptr.0 a.0.ref_ptr.1 in
    let place : Val = vptr a.1.0.ref_ptr.0 a.1.0.ref_ptr.1 in
    let answer : Val = vptr a.1.1.0.ref_ptr.0 a.1.1.0.ref_ptr.1 in
    let into : Val = slice_val a.1.1.1.0.ref_ptr (length a.1.1.1.0.now) in
    let y : W.Ghost = ((κs, qs, bounds, a, (before ∷ [], (place ∷ [], (answer ∷ [], (into ∷ [], tt))))), g) in
    let made : R.Denot = record { of = record {}; list = read_of a.1.0.now a.1.1.0.now a.1.1.1.0.now ∷ a.0.now.list } in
    let value : Val = vstruct (vcons (vstruct vnil) vnil) in
    qed 𝓛 ((raw (alive 𝓛 F.signature κs qs) ⊛ ‵ (owns (types_at F.signature.params κs) a y.0.4)) ∷ raw ((c κs a).requires g) ∷ []) ∵ keep !
    (0 ∷ []) $ split ! $
    enter ! 𝓣.C 𝓣.Λ fn (before ∷ place ∷ answer ∷ into ∷ []) _ $
    alloc_all ! (λ l. pass_all ! refl ((tt, tt), ((tt, tt), ((tt, tt), ((tt, (tt, (record { fits = are.1.1.1.0.0.1.0 }, tt))), tt)))) $
    sets ! (agg ! (no_more !)) refl (tt, tt) $ sets ! (agg ! (and_then ! (get ! refl) (no_more !))) refl (tt, (tt, tt)) $
    returns ! (look_at ! 0 refl) $ free_all ! refl $
    suffices ! _ (ends_at 𝓛 F stayed c y value made (tt, (tt, (tt, (tt, tt)))) (tt, (tt, (tt, (tt, tt))))) $
    says ! refl $ pure_i ! (R.own_val made (value ∷ [])) ((λ vss. (tt, ((λ uss. (tt, tt)), tt))), tt)
    (((vstruct vnil ∷ [], tt), (refl, ((tt, (refl, tt)), tt))), tt) $
    move ! (1 ∷ 2 ∷ 0 ∷ []) $ done !))
