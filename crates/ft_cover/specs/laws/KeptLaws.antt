-- What the values of slots are where the slots are those of names: the crates above look at points by them too.
use Rattle.std.specs.Prelude.{ℕ, ◌≡◌, ℤ, pos, List, map, length, Some, slice_get}
use Rattle.ft_core.specs.declared.tables.Tables.{Tables}
use Rattle.ft_linear.specs.meaning.Form.{values_at}
use Rattle.ft_oblige.specs.declared.labelling.Slot.{Slot}
use Rattle.ft_oblige.specs.meaning.Labels.{slot_at}
use Rattle.ft_cover.specs.building.KeptView.{kept_value}

abbrev pub AreOnce : List ℕ → Type 0
AreOnce names = (i j u : ℕ) → slice_get names i ≡ Some u → slice_get names j ≡ Some u → i ≡ j

-- two names stand for two slots
abbrev pub SlotsDiffer : Type 0
SlotsDiffer = (S : Tables) (u v : ℕ) → slot_at S u ≡ slot_at S v → u ≡ v

-- the slot of a name has the value in the place of the name
abbrev pub NamesHaveValues : Type 0
NamesHaveValues = (S : Tables) (names : List ℕ) → AreOnce names → (values : List ℤ) (i u : ℕ) → slice_get names i ≡ Some u
    → kept_value (map (slot_at S) names) values (slot_at S u) ≡ values_at values i

-- a slot has the value of a name that stands for it, or 0
pub data IsKept (S : Tables) (names : List ℕ) (values : List ℤ) (slot : Slot) : Type 0 where
  of_name : (i u : ℕ) → slice_get names i ≡ Some u → slot_at S u ≡ slot
      → kept_value (map (slot_at S) names) values slot ≡ values_at values i → IsKept S names values slot
  of_none : ((i u : ℕ) → slice_get names i ≡ Some u → slot_at S u ≡ slot → ⊥)
      → kept_value (map (slot_at S) names) values slot ≡ pos 0 → IsKept S names values slot

abbrev pub SlotsAreKept : Type 0
SlotsAreKept = (S : Tables) (names : List ℕ) (values : List ℤ) → length values ≡ length names → (slot : Slot) → IsKept S names values slot
