-- Obligations of tables as they are made, and their numbers.
use Rattle.std.proofs.Common.{◌≡◌, ◌∙◌, sym, ap, subst, refl, ℕ, ◌*◌, ◌<◌, ◌≤◌, Bool, map, length, Some, slice_get, arith}
use Rattle.std.proofs.lemmas.Bool.{le-leb}
use Rattle.ft_core.specs.declared.tables.Tables.{Tables}
use Rattle.ft_core.specs.declared.tables.Table.{Table}
use Rattle.ft_linear.specs.meaning.Formula.{IsOver}
use Rattle.ft_settle.specs.meaning.Settled.{settled}
use Rattle.ft_claims.specs.declared.obliging.Obliged as code
use Rattle.ft_claims.specs.laws.PointLaws.{cover_obliged}
use Rattle.ft_claims.specs.meaning.Areas.{Obliged}
use Rattle.ft_claims.specs.meaning.Coverage.{Fault, gap, overlap, range}
use Rattle.ft_oblige.specs.building.Numbering.{IsAbout, IsFormBy}
use Rattle.ft_oblige.specs.declared.made.Obligation.{Obligation}
use Rattle.ft_oblige.specs.declared.nodes.TableFault.{TableFault}
use Rattle.ft_oblige.specs.laws.NumberLaws.{TablesHaveNumbers}
use Rattle.ft_oblige.specs.meaning.Labels.{slot_at}
use Rattle.ft_oblige.specs.meaning.Made.{IsCoverage, IsFormOf, IsNumbered, meant}
use Rattle.ft_oblige.specs.meaning.Obligations.{IsSubject, about_table, of_table}

-- an obligation made of the formula, the spans and the names of what some claims oblige to
pub form-made : (S : Tables) (bits : Bool) (obliged : code.Obliged) (whole : Obliged) (o : Obligation) → IsFormBy S bits obliged o
    → obliged.formula ≡ settled whole.formula → obliged.area.spans ≡ whole.spans → obliged.names ≡ whole.names
    → IsOver (length obliged.area.spans) obliged.formula → IsFormOf S bits whole o
form-made S bits obliged whole o by formula spans names over = record {
  formula = by.formula ∙ formula;
  area = ap (λ a. a.spans) by.area ∙ spans;
  over = subst (λ a. IsOver (length a.spans) o.formula) (sym by.area) (subst (IsOver (length obliged.area.spans)) (sym by.formula) over);
  slots = by.slots ∙ ap (map (slot_at S)) names;
  labels = by.labels;
}

pub about-low : (n k count : ℕ) (fault : Fault) → IsAbout n k fault → n ≤ 3 * count → k < count
about-low n k count gap is low = omega (arith, is, low)
about-low n k count overlap is low = omega (arith, is, low)
about-low n k count range is low = omega (arith, is, low)

subject-of : (S : Tables) → TablesHaveNumbers → (n k : ℕ) (table : Table) → slice_get S.tables k ≡ Some table → (fault : Fault)
    → IsAbout n k fault → IsSubject S n (about_table k fault)
subject-of S laws n k table its gap is = subst (λ m. IsSubject S m (about_table k gap)) (sym is) (laws S k table its).0
subject-of S laws n k table its overlap is = subst (λ m. IsSubject S m (about_table k overlap)) (sym is) (laws S k table its).1
subject-of S laws n k table its range is = subst (λ m. IsSubject S m (about_table k range)) (sym is) (laws S k table its).2

pub numbered-made : (S : Tables) → TablesHaveNumbers → (n k : ℕ) (fault : TableFault) (o : Obligation) → IsAbout n k (meant fault)
    → n ≤ 3 * length S.tables → IsCoverage S k fault o → IsNumbered S n o
numbered-made S laws n k fault o is low made = record {
  obliged = cover_obliged S (meant fault) made.table.grid made.memories;
  its = of_table k made.table (meant fault) made.memories (subject-of S laws n k made.table made.its (meant fault) is) made.its made.read
      refl;
  form = subst (λ b. IsFormOf S b (cover_obliged S (meant fault) made.table.grid made.memories) o)
      (sym (le-leb n (3 * length S.tables) low)) made.form;
}
