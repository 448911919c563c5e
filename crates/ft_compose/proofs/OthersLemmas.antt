-- Of good parts each is good, and so is each front.
use Rattle.std.proofs.Common.{◌≡◌, ◌∙◌, sym, subst, refl, ℕ, Bool, List, [], ◌∷◌, ◌++◌, map, length, Some, slice_get}
use Rattle.std.specs.List.{list_all}
use Rattle.std.proofs.lemmas.Bool.{and_parts, and_from}
use Rattle.std.proofs.lemmas.List.Folds.{list_all-append, list_all-map}
use Rattle.ft_core.specs.declared.tables.Tables.{Tables}
use Rattle.ft_claims.specs.declared.claim.Claim.{Claim}
use Rattle.ft_claims.specs.laws.FormulaLaws.{AreGood}
use Rattle.ft_claims.specs.meaning.Areas.{Spans}
use Rattle.ft_claims.specs.meaning.Formulas.{Collected, collected}
use Rattle.ft_oblige.specs.laws.PartLaws.{OthersAreGood}
use Rattle.ft_oblige.specs.laws.Tests.{at_place}
use Rattle.ft_oblige.specs.meaning.Blocks.{others}
use Rattle.ft_oblige.specs.meaning.States.{slot_spans}

-- the claims of all other parts are good by these spans
pub all-good : OthersAreGood → (S : Tables) (spans : Spans) → spans ≡ slot_spans S → (anew : Bool) (claims : List Claim)
    → claims ≡ others S anew → AreGood spans claims
all-good good S spans is anew claims are =
    subst (λ cs. AreGood spans cs) (sym are) (subst (λ s. AreGood s (others S anew)) (sym is) (good S anew))

-- a part of good parts is good alone
pub good-at : (spans : Spans) (parts : List Claim) (k : ℕ) (c : Claim) → AreGood spans parts → slice_get parts k ≡ Some c
    → AreGood spans (c ∷ [])
good-at spans parts k c all at = and_from _ _ (at_place (λ d. (collected (length spans) d).good) parts
    (sym (list_all-map (λ (d : Collected). d.good) (collected (length spans)) parts) ∙ all) k c at) refl

-- so are those of its front
pub good-front : (spans : Spans) (front rest : List Claim) → AreGood spans (front ++ rest) → AreGood spans front
good-front spans front rest all =
    let test : Claim → Bool = λ d. (collected (length spans) d).good in
    let good = λ (d : Collected). d.good in
    list_all-map good (collected (length spans)) front
    ∙ (and_parts (list_all test front) (list_all test rest) (sym (list_all-append test front rest)
    ∙ sym (list_all-map good (collected (length spans)) (front ++ rest)) ∙ all)).0
