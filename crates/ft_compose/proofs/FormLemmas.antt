-- The parts of the formula of a fact as they are made, and its obligation.
use Rattle.std.proofs.Common.{◌≡◌, ◌∙◌, sym, ap, subst, refl, ℕ, ◌*◌, ◌<◌, Bool, true, false, List, [], ◌∷◌, ◌++◌, map, length}
use Rattle.std.proofs.Common.{Some, slice_get}
use Rattle.std.specs.Prelude.{if◌then◌else◌}
use Rattle.std.proofs.lemmas.Bool.{lt-leb}
use Rattle.std.proofs.lemmas.Option.{slice_get_within}
use Rattle.ft_core.specs.declared.tables.Tables.{Tables}
use Rattle.ft_core.specs.declared.tables.Block.{Block}
use Rattle.ft_core.specs.declared.tables.Fact.{Fact}
use Rattle.ft_core.specs.laws.Lists.{mapped}
use Rattle.ft_core.specs.laws.Places.{one-at}
use Rattle.ft_linear.specs.meaning.Formula.{IsOver}
use Rattle.ft_settle.specs.meaning.Settled.{settled}
use Rattle.ft_claims.specs.declared.claim.Claim.{Claim}
use Rattle.ft_claims.specs.declared.obliging.Obliged as code
use Rattle.ft_claims.specs.laws.FormulaLaws.{AreGood}
use Rattle.ft_claims.specs.meaning.Areas.{Obliged, finished}
use Rattle.ft_oblige.specs.building.Numbering.{IsFormBy}
use Rattle.ft_oblige.specs.declared.made.Obligation.{Obligation}
use Rattle.ft_oblige.specs.laws.PartLaws.{PartsAreGood}
use Rattle.ft_oblige.specs.meaning.Blocks.{IsFactAt, others, own}
use Rattle.ft_oblige.specs.meaning.Facts.{HasFact}
use Rattle.ft_oblige.specs.meaning.Labels.{slot_at}
use Rattle.ft_oblige.specs.meaning.Linked.{AreSettled, marked, names_in}
use Rattle.ft_oblige.specs.meaning.Made.{IsFormOf, IsNumbered}
use Rattle.ft_oblige.specs.meaning.Obligations.{IsSubject, about_fact, block_obliged, of_fact}
use Rattle.ft_oblige.specs.meaning.States.{slot_spans}
use Rattle.ft_compose.specs.building.Deciding.{IsFormed}
use Rattle.ft_compose.specs.building.Forming.{AreFactParts}
use Rattle.ft_compose.specs.building.Rounds.{AreNamed, claims_in}
use Rattle.ft_compose.specs.declared.part.Part.{Part}
use Rattle.ft_compose.specs.declared.sharing.Shared.{Shared}
use Rattle.ft_compose.specs.meaning.FactForms.{IsFactForm}
use Rattle.ft_compose.specs.meaning.Shared.{IsShared, part_of}

claims-back : (base : ℕ) (cs : List Claim) → claims_in (map (part_of base) cs) ≡ cs
claims-back base [] = refl
claims-back base (c ∷ cs) = ap (λ list. c ∷ list) (claims-back base cs)

-- the other parts that are shared
pub shared-others : (S : Tables) (shared : Shared) → IsShared S shared → (anew : Bool)
    → (if anew then shared.first else shared.later) ≡ map (part_of shared.base) (others S anew)
shared-others S shared is true = is.first
shared-others S shared is false = is.later

pub named-parts : (base : ℕ) (cs : List Claim) (ps : List Part) → ps ≡ map (part_of base) cs → AreNamed base ps
named-parts base cs ps are k p at =
    let one = mapped (part_of base) cs k p (subst (λ list. slice_get list k ≡ Some p) are at) in
    subst (λ (q : Part). q.names ≡ names_in base q.claim) one.2 refl

module _ (S : Tables) (shared : Shared) (is : IsShared S shared) (anew : Bool) (block : Block) (fact : Fact) (own_parts made : List Claim)
    (ps : List Part) (marks : List Bool) where
  pub fact-parts : own_parts ≡ own S anew block fact → ps ≡ map (part_of shared.base) (others S anew)
      → AreSettled shared.base own_parts (claims_in ps) marks → made ≡ own_parts ++ marked marks (claims_in ps)
      → AreFactParts S anew block fact made
  fact-parts owned are settled_by with =
      let back = ap claims_in are ∙ claims-back shared.base (others S anew) in record {
        marks = marks;
        belong = subst (λ n. AreSettled n (own S anew block fact) (others S anew) marks) is.base
            (subst (λ cs. AreSettled shared.base cs (others S anew) marks) owned
            (subst (λ cs. AreSettled shared.base own_parts cs marks) back settled_by));
        are = with ∙ (λ i. owned i ++ marked marks (back i));
      }

pub block-there : (S : Tables) (b f : ℕ) → HasFact S b f → b < length S.blocks
block-there S b f has = slice_get_within S.blocks b has.block has.its.in_set

pub fact-there : (S : Tables) (b f : ℕ) (block : Block) → HasFact S b f → slice_get S.blocks b ≡ Some block → f < length block.facts
fact-there S b f block has at =
    let same = one-at S.blocks b has.block block has.its.in_set at in
    slice_get_within block.facts f has.fact (subst (λ (x : Block). slice_get x.facts f ≡ Some has.fact) same has.its.in_block)

module _ (S : Tables) (b f : ℕ) (block : Block) (fact : Fact) (at : IsFactAt S b f block fact) (anew : Bool) (parts : List Claim)
    (are : AreFactParts S anew block fact parts) where
  pub parts-good : PartsAreGood → AreGood (slot_spans S) parts
  parts-good good = subst (AreGood (slot_spans S)) (sym are.are) (good S b f block fact at anew are.marks)

  pub formed-made : (obliged : code.Obliged) (o : Obligation) (names : List ℕ) → IsFormBy S false obliged o → names ≡ obliged.names
      → obliged.formula ≡ settled (finished (slot_spans S) parts).formula → obliged.area.spans ≡ (finished (slot_spans S) parts).spans
      → obliged.names ≡ (finished (slot_spans S) parts).names → IsOver (length obliged.area.spans) obliged.formula
      → IsFormed S b f anew o names
  formed-made obliged o names by copied formula spans named over =
      let same = ap (finished (slot_spans S)) are.are in record {
        form = record {
          block = block;
          fact = fact;
          its = at;
          marks = are.marks;
          belong = are.belong;
          form = record {
            formula = by.formula ∙ formula ∙ ap (λ (w : Obliged). settled w.formula) same;
            area = ap (λ a. a.spans) by.area ∙ spans ∙ ap (λ (w : Obliged). w.spans) same;
            over = subst (λ a. IsOver (length a.spans) o.formula) (sym by.area)
                (subst (IsOver (length obliged.area.spans)) (sym by.formula) over);
            slots = by.slots ∙ ap (map (slot_at S)) (named ∙ ap (λ (w : Obliged). w.names) same);
            labels = by.labels;
          };
        };
        names_are = copied ∙ named ∙ ap (λ (w : Obliged). w.names) same;
      }

-- the obligation of a fact is that of the fact's number
pub numbered-made : (S : Tables) (n b f : ℕ) (anew : Bool) (o : Obligation) → 3 * length S.tables < n → IsSubject S n (about_fact b f anew)
    → IsFactForm S b f anew o → IsNumbered S n o
numbered-made S n b f anew o above subject made = record {
  obliged = block_obliged S anew made.block made.fact made.marks;
  its = of_fact b f made.block made.fact anew made.marks subject made.its made.belong refl;
  form = subst (λ bits. IsFormOf S bits (block_obliged S anew made.block made.fact made.marks) o)
      (sym (lt-leb n (3 * length S.tables) above)) made.form;
}
