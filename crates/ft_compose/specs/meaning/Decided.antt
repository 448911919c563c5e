-- What is found of the facts of a set's blocks: that each is shown, the first that fails, or a search that was spent.
use Rattle.std.specs.Prelude.{ℕ, ◌+◌, ◌*◌, ◌≡◌, ◌<◌, ◌≤◌, ℤ, Bool, true, false, ◌&&◌, List, [], map, length, Option, Some, None}
use Rattle.std.specs.Prelude.{slice_get}
use Rattle.std.specs.List.{find, list_all}
use Rattle.std.specs.Option.{option_map}
use Rattle.ft_core.specs.declared.label.Label.{Label}
use Rattle.ft_core.specs.declared.tables.Tables.{Tables}
use Rattle.ft_core.specs.declared.tables.Block.{Block}
use Rattle.ft_core.specs.declared.tables.Fact.{Fact}
use Rattle.ft_core.specs.declared.tables.Fact.TheVariants.{Invariant, Goal}
use Rattle.ft_core.specs.declared.tables.Section.{Section}
use Rattle.ft_core.specs.declared.tables.Section.TheVariants as section
use Rattle.ft_core.specs.meaning.Grids.{Cell}
use Rattle.ft_linear.specs.meaning.Form.{values_at}
use Rattle.ft_cert.specs.meaning.Tree.{Tree}
use Rattle.ft_mean.specs.meaning.Cells.{cell_holds, cells_of}
use Rattle.ft_mean.specs.meaning.Value.{View}
use Rattle.ft_claims.specs.meaning.Areas.{Obliged, is_one_of}
use Rattle.ft_claims.specs.meaning.Names.{view}
use Rattle.ft_claims.specs.meaning.Parts.{cell_claim}
use Rattle.ft_claims.specs.meaning.Spans.{InSpans}
use Rattle.ft_oblige.specs.meaning.Blocks.{IsFactAt, now_frame}
use Rattle.ft_oblige.specs.meaning.Labels.{label_of, slot_at}
use Rattle.ft_oblige.specs.meaning.Linked.{names_in}
use Rattle.ft_oblige.specs.meaning.Obligations.{AreOf, IsSubject, about_fact, block_obliged, obligation_count, Closes, Before}
use Rattle.ft_oblige.specs.meaning.States.{slot_spans}
use Rattle.ft_cover.specs.meaning.Covered.{IsCertOf, IsSpentAt, place_of}
use Rattle.ft_compose.specs.declared.blocks.Blocks.{Blocks}
use Rattle.ft_compose.specs.declared.blocks.Blocks.TheVariants.{AllShown, Fails, Spent}
use Rattle.ft_compose.specs.declared.blocks.Cells.{Cells}
use Rattle.ft_compose.specs.meaning.Composing.{Composed}
use Rattle.ft_compose.specs.meaning.Failing.{FailsAt}

-- these numbers have the values of the names of an obligation
abbrev pub HasNumbers : Obliged → List ℤ → (ℕ → ℤ) → Type 0
HasNumbers o values σ = (i u : ℕ) → slice_get o.names i ≡ Some u → σ u ≡ values_at values i

-- each name that the cell's own formula has is one of these
abbrev pub is_told : Tables → (anew : Bool) → List ℕ → Cell → Bool
is_told S anew names cell = list_all (is_one_of names) (names_in (length (slot_spans S)) (cell_claim S (now_frame S anew) cell))

-- a cell that is told and holds at the view
abbrev pub is_seen : Tables → (anew : Bool) → List ℕ → View → Cell → Bool
is_seen S anew names V cell = is_told S anew names cell && cell_holds V cell

-- the first such cell for a variable in the tables of a section, by rows
abbrev pub first_seen : Tables → Section → (x : ℕ) → (anew : Bool) → List ℕ → View → Option (ℕ × ℕ)
first_seen S section x anew names V = option_map place_of (find (is_seen S anew names V) (cells_of S section x))

-- an invariant has no cells, and a goal the first of each of its two tables at all numbers that have the values
abbrev pub AreCells : Tables → (anew : Bool) → Obliged → List ℤ → Fact → Cells → Type 0
AreCells S anew o values (Invariant name c) cells = (cells.req ≡ None) × (cells.out ≡ None)
AreCells S anew o values (Goal x) cells = (σ : ℕ → ℤ) → HasNumbers o values σ
    → (first_seen S section.Req x anew o.names (view S (now_frame S anew) σ) ≡ cells.req)
    × (first_seen S section.Out x anew o.names (view S (now_frame S anew) σ) ≡ cells.out)

-- values, by the labels of the formula of a fact, at which it fails: some numbers in their spans have them, and at all that do it fails
pub record IsFailing (S : Tables) (n : ℕ) (cells : Cells) (values : List ℤ) (labels : List Label) : Type 0 where
  pub b : ℕ
  pub f : ℕ
  pub block : Block
  pub fact : Fact
  pub anew : Bool
  pub subject : IsSubject S n (about_fact b f anew)
  pub its_fact : IsFactAt S b f block fact
  pub marks : List Bool
  pub belong : AreOf S anew block fact marks
  pub labels_are : labels ≡ map (λ u. label_of S false (slot_at S u)) (block_obliged S anew block fact marks).names
  pub one_each : length values ≡ length (block_obliged S anew block fact marks).names
  pub some : (σ : ℕ → ℤ) × InSpans S σ × HasNumbers (block_obliged S anew block fact marks) values σ
  pub each : (σ : ℕ → ℤ) → HasNumbers (block_obliged S anew block fact marks) values σ → FailsAt S anew block fact σ
  pub cells_are : AreCells S anew (block_obliged S anew block fact marks) values fact cells

-- the number of an obligation of a fact
abbrev pub IsOfFact : Tables → ℕ → Type 0
IsOfFact S n = (3 * length S.tables < n) × (n ≤ obligation_count S)

-- no obligation of the set has a point
abbrev pub AllClose : Tables → Type 0
AllClose S = (n : ℕ) → 0 < n → n ≤ obligation_count S → Closes S n

-- one certificate for each obligation of a fact up to the n-th, in order, or none where they aren't kept
abbrev pub AreFactCerts : Tables → (keep : Bool) → ℕ → List Tree → Type 0
AreFactCerts S true n certs = (3 * length S.tables + length certs ≡ n)
    × ((i : ℕ) (cert : Tree) → slice_get certs i ≡ Some cert → IsCertOf S (3 * length S.tables + (i + 1)) cert)
AreFactCerts S false n certs = certs ≡ []

-- what the obligation with this number shows
abbrev pub IsStop : Tables → ℕ → Blocks → Type 0
IsStop S n (AllShown certs) = ⊥
IsStop S n (Fails number cells values labels) = (n ≡ number) × IsOfFact S number × IsFailing S number cells values labels
IsStop S n (Spent number tree) = (n ≡ number) × IsOfFact S number × IsSpentAt S number tree

-- no obligation has a point, and so the design implements the requirement and every invariant holds, with certificates where
-- they are kept; or the first obligation of a fact that isn't closed
abbrev pub IsBlocks : Tables → (keep : Bool) → Blocks → Type 0
IsBlocks S keep (AllShown certs) = AllClose S × Composed S × AreFactCerts S keep (obligation_count S) certs
IsBlocks S keep (Fails number cells values labels) = IsStop S number (Fails number cells values labels) × Before S number
IsBlocks S keep (Spent number tree) = IsStop S number (Spent number tree) × Before S number
