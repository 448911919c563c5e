use Rattle.std.proofs.Common.{◌≡◌, ◌∙◌, sym, ap, subst, ℕ, ℤ, w64, List, [], ◌∷◌, ◌++◌}
use Rattle.std.specs.Prelude.{codes}
use Rattle.std.specs.List.{All, flat_map}
use Rattle.std.specs.Fmt.{signed_decimal}
use Rattle.std.proofs.lemmas.Result.{err_from_is_err_and}
use Rattle.std.proofs.lemmas.List.Elements.{All-push}
use Rattle.ft_certs.specs.meaning.Text.{IsShort}
use Rattle.ft_certs.specs.building.Pieces.{Signeds, Values}
use Rattle.ft_certs.specs.building.Stuck.{Stuck}
use Rattle.std.proofs.lemmas.Int.{to_z-of_z}
use Rattle.ft_certs.proofs.NodeLemmas.{signed-fits}
use Rattle.ft_certs.proofs.StuckLemmas.{stop-as}
use Rattle.ft_certs.proofs.ScanLemmas.{values-first, values-push, values-second}
use Rattle.ft_certs.proofs.scans.values.Goals as goal

abbrev marked : List ℤ → List ℕ
marked vs = flat_map (λ v. 44 ∷ signed_decimal v) vs

pub returns-in_err-value-clause-stopped : goal.returns-in_err-value-clause-stopped
returns-in_err-value-clause-stopped c =
    let p = err_from_is_err_and c.from_residual.result c.from_residual.ensures.1 in
    rw (p.1, p.2)
    (stop-as c.in_err-value.field-0.0 (Signeds (codes ",\n")) (Values 44) c.values.rest.now c.args.bytes.now
    (λ left s. c.values.invariant.3 left (subst (λ (e : ℕ). Stuck (Values e) c.values.rest.now left) (sym c.values-test.true) (values-first c.values.rest.now left s)))
    c.in_err-value.ensures.stopped)

pub values-preserved : goal.values-preserved
values-preserved c =
    let r = c.in_ok-value.ensures.read in
    let now : c.push.new.self ≡ c.values.values ++ c.in_ok-value.value ∷ [] =
    c.in_ok-push.ensures.ok ∙ ap (λ (z : ℤ). c.values.values ++ z ∷ []) (to_z-of_z w64 c.in_ok-value.value (signed-fits c.in_ok-value.value r.0)) in
    let rest : List ℕ = c.values.rest.now in
    let before : 44 ∷ c.args.bytes.now ≡ marked c.values.values ++ 44 ∷ rest =
    c.values.invariant.2 ∙ ap (λ (e : ℕ). marked c.values.values ++ e ∷ rest) c.values-test.true in (
      r.1,
      subst (All IsShort) (sym now) (All-push IsShort c.values.values c.in_ok-value.value c.values.invariant.1 r.0),
      values-push c.values.values c.in_ok-value.value c.in_ok-value.next (44 ∷ c.args.bytes.now) rest c.in_ok-value.more.now before r.2
          ∙ ap (λ (vs : List ℤ). marked vs ++ c.in_ok-value.next ∷ c.in_ok-value.more.now) (sym now),
      λ left s. c.values.invariant.3 left (subst (λ (e : ℕ). Stuck (Values e) rest left) (sym c.values-test.true)
          (values-second c.in_ok-value.value c.in_ok-value.next rest c.in_ok-value.more.now left r.0 r.1 r.2 s)),
    )
