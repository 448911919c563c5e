-- The kinds of faults before circles, one after another.
use Rattle.std.proofs.Common.{◌≡◌, ◌∙◌, sym, ap, subst, refl, inl, inr, Option, Some, None, option_map}
use Rattle.std.specs.Prelude.{Result, Err}
use Rattle.std.specs.Option.{option_or}
use Rattle.ft_tree.specs.declared.tree.Tree.{Tree}
use Rattle.ft_names.specs.declared.fault.NameFault.{NameFault}
use Rattle.ft_names.specs.declared.stop.Stop.{Stop}
use Rattle.ft_names.specs.declared.stop.Stop.TheVariants as stop
use Rattle.ft_names.specs.laws.First.{option_or_assoc}
use Rattle.ft_names.specs.meaning.First.{Answers, first_of}
use Rattle.ft_names.specs.meaning.NameFaults.{AnswersNames, name_fault}
use Rattle.ft_types.specs.declared.fault.ItemFault.{ItemFault}
use Rattle.ft_types.specs.meaning.PlaceFaults.{first_mismatch, first_wrong_side}
use Rattle.ft_types.specs.meaning.Ranges.{first_bad_range, item_band, item_hold}
use Rattle.ft_types.specs.meaning.Shapes.{item_shape}
use Rattle.ft_types.specs.meaning.Targets.{first_table_fault}
use Rattle.ft_measure.specs.declared.slope.Slope.{Slope}
use Rattle.ft_measure.specs.meaning.SlopeFaults.{first_slope}
use Rattle.ft_admit.specs.declared.fault.TypeFault.{TypeFault}
use Rattle.ft_admit.specs.declared.fault.TypeFault.TheVariants.{NoMemory}
use Rattle.ft_admit.specs.meaning.Faultless.{IsFaultless}
use Rattle.ft_admit.specs.meaning.TypeFaults.{AnswersType, fault_before_circles, item_stop, of_item, of_name, of_slope, slope_stop}
use Rattle.ft_admit.specs.stages.Chain.{grid_fault, number_fault, place_fault}

abbrev Fails : TypeFault → Option TypeFault → Type 0
Fails fault first = AnswersType {A = Unit {0}} (Err fault) first

-- a fault of a kind after which others are asked for
pub item-stops : (stop : Stop ItemFault) (first : Option ItemFault) (rest : Option TypeFault) → Answers {A = Unit {0}} (Err stop) first
    → Fails (item_stop stop) (option_or (option_map of_item first) rest)
item-stops (stop.Fault fault) first rest found = inr (ap (λ o. option_or (option_map of_item o) rest) found)
item-stops stop.NoMemory first rest found = inl refl

-- a fault of the last kind
pub item-ends : (stop : Stop ItemFault) (first : Option ItemFault) → Answers {A = Unit {0}} (Err stop) first
    → Fails (item_stop stop) (option_map of_item first)
item-ends (stop.Fault fault) first found = inr (ap (option_map of_item) found)
item-ends stop.NoMemory first found = inl refl

pub slope-ends : (stop : Stop Slope) (first : Option Slope) → Answers {A = Unit {0}} (Err stop) first
    → Fails (slope_stop stop) (option_map of_slope first)
slope-ends (stop.Fault slope) first found = inr (ap (option_map of_slope) found)
slope-ends stop.NoMemory first found = inl refl

name-stops : (fault : NameFault) (first : Option NameFault) (rest : Option TypeFault) → AnswersNames {A = Unit {0}} (Err fault) first
    → Fails (of_name fault) (option_or (option_map of_name first) rest)
name-stops fault first rest (inl no_memory) = inl (ap of_name no_memory)
name-stops fault first rest (inr found) = inr (ap (λ o. option_or (option_map of_name o) rest) found)

-- where a kind doesn't occur
pub item-passes : {A : Type 0} (result : Result A TypeFault) (first : Option ItemFault) (rest : Option TypeFault) → first ≡ None
    → AnswersType result rest → AnswersType result (option_or (option_map of_item first) rest)
item-passes result first rest none found = subst (λ (o : Option ItemFault). AnswersType result (option_or (option_map of_item o) rest))
    (sym none) found

stops : (fault : TypeFault) (first rest : Option TypeFault) → Fails fault first → Fails fault (option_or first rest)
stops fault first rest (inl no_memory) = inl no_memory
stops fault first rest (inr found) = inr (ap (λ o. option_or o rest) found)

passes : {A : Type 0} (result : Result A TypeFault) (first rest : Option TypeFault) → first ≡ None → AnswersType result rest
    → AnswersType result (option_or first rest)
passes result first rest none found = subst (λ (o : Option TypeFault). AnswersType result (option_or o rest)) (sym none) found

regroup : (a b c d e f g h i : Option TypeFault)
    → option_or a (option_or (option_or b (option_or c d)) (option_or (option_or e (option_or f g)) (option_or h i)))
    ≡ option_or a (option_or b (option_or c (option_or d (option_or e (option_or f (option_or g (option_or h i)))))))
regroup a b c d e f g h i = simp option_or_assoc

abbrev names_of : Tree → Option TypeFault
names_of tree = option_map of_name (name_fault tree.items)

abbrev staged : Tree → Option TypeFault
staged tree = option_or (names_of tree) (option_or (place_fault tree) (option_or (number_fault tree) (grid_fault tree)))

whole : (tree : Tree) → staged tree ≡ fault_before_circles tree
whole tree = regroup (names_of tree)
    (option_map of_item (first_wrong_side tree.items)) (option_map of_item (first_mismatch tree.items))
    (option_map of_slope (first_slope tree.items))
    (option_map of_item (first_bad_range tree.period tree.splits tree.depth tree.items))
    (option_map of_item (first_of (item_hold tree.items) tree.items)) (option_map of_item (first_of (item_band tree.items) tree.items))
    (option_map of_item (first_of item_shape tree.items)) (option_map of_item (first_table_fault tree.items))

no-names : (tree : Tree) → name_fault tree.items ≡ None → names_of tree ≡ None
no-names tree none = ap (option_map of_name) none

pub names-stop : (tree : Tree) (fault : NameFault) → AnswersNames {A = Unit {0}} (Err fault) (name_fault tree.items)
    → Fails (of_name fault) (fault_before_circles tree)
names-stop tree fault found =
    name-stops fault (name_fault tree.items) _ found

pub places-stop : (tree : Tree) (fault : TypeFault) → name_fault tree.items ≡ None → Fails fault (place_fault tree)
    → Fails fault (fault_before_circles tree)
places-stop tree fault names found = subst (Fails fault) (whole tree)
    (passes {A = Unit {0}} (Err fault) (names_of tree) _ (no-names tree names) (stops fault (place_fault tree) _ found))

pub numbers-stop : (tree : Tree) (fault : TypeFault) → name_fault tree.items ≡ None → place_fault tree ≡ None
    → Fails fault (number_fault tree) → Fails fault (fault_before_circles tree)
numbers-stop tree fault names places found = subst (Fails fault) (whole tree)
    (passes {A = Unit {0}} (Err fault) (names_of tree) _ (no-names tree names)
    (passes {A = Unit {0}} (Err fault) (place_fault tree) _ places
    (stops fault (number_fault tree) _ found)))

pub grids-stop : (tree : Tree) (fault : TypeFault) → name_fault tree.items ≡ None → place_fault tree ≡ None
    → number_fault tree ≡ None → Fails fault (grid_fault tree) → Fails fault (fault_before_circles tree)
grids-stop tree fault names places numbers found = subst (Fails fault) (whole tree)
    (passes {A = Unit {0}} (Err fault) (names_of tree) _ (no-names tree names)
    (passes {A = Unit {0}} (Err fault) (place_fault tree) _ places
    (passes {A = Unit {0}} (Err fault) (number_fault tree) _ numbers found)))

pub none-stops : (tree : Tree) → name_fault tree.items ≡ None → place_fault tree ≡ None → number_fault tree ≡ None
    → grid_fault tree ≡ None → fault_before_circles tree ≡ None
none-stops tree names places numbers grids =
    sym (whole tree) ∙ ap (λ o. option_or o (option_or (place_fault tree) (option_or (number_fault tree) (grid_fault tree))))
    (no-names tree names)
    ∙ ap (λ o. option_or o (option_or (number_fault tree) (grid_fault tree))) places
    ∙ ap (λ o. option_or o (grid_fault tree)) numbers ∙ grids

-- the other way round: no kind occurs
pub or-none : {Y : Type 0} (a b : Option Y) → option_or a b ≡ None → (a ≡ None) × (b ≡ None)
or-none None b none = (refl, none)
or-none (Some y) b none = cc none

map-none : {X Y : Type 0} (f : X → Y) (a : Option X) → option_map f a ≡ None → a ≡ None
map-none f None none = refl
map-none f (Some x) none = cc none

pub faultless : (tree : Tree) → fault_before_circles tree ≡ None
    → IsFaultless tree.name tree.period tree.splits tree.depth tree.items
faultless tree none =
    let a = or-none (names_of tree) _ none in
    let b = or-none (option_map of_item (first_wrong_side tree.items)) _ a.1 in
    let c = or-none (option_map of_item (first_mismatch tree.items)) _ b.1 in
    let d = or-none (option_map of_slope (first_slope tree.items)) _ c.1 in
    let e = or-none (option_map of_item (first_bad_range tree.period tree.splits tree.depth tree.items)) _ d.1 in
    let f = or-none (option_map of_item (first_of (item_hold tree.items) tree.items)) _ e.1 in
    let g = or-none (option_map of_item (first_of (item_band tree.items) tree.items)) _ f.1 in
    let h = or-none (option_map of_item (first_of item_shape tree.items)) _ g.1 in
    record {
      lawful = tree.lawful;
      names = map-none of_name (name_fault tree.items) a.0;
      sides = map-none of_item (first_wrong_side tree.items) b.0;
      kinds = map-none of_item (first_mismatch tree.items) c.0;
      slopes = map-none of_slope (first_slope tree.items) d.0;
      ranges = map-none of_item (first_bad_range tree.period tree.splits tree.depth tree.items) e.0;
      holds = map-none of_item (first_of (item_hold tree.items) tree.items) f.0;
      bands = map-none of_item (first_of (item_band tree.items) tree.items) g.0;
      shapes = map-none of_item (first_of item_shape tree.items) h.0;
      tables = map-none of_item (first_table_fault tree.items) h.1;
    }
