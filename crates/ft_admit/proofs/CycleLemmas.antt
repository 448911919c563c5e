-- What an order or a circle of numbers says of the variables and memories of a tree.
use Rattle.std.proofs.Common.{arith, ◌≡◌, ◌∙◌, sym, ap, subst, inl, inr, ℕ, zero, suc, ◌+◌, ◌-◌, ◌≤◌, ◌<◌, List, [], ◌∷◌, length, map}
use Rattle.std.proofs.Common.{slice_get}
use Rattle.std.proofs.Common.{Some, nat_lt, true}
use Rattle.std.specs.Prelude.{Contains, slice_index_or}
use Rattle.std.proofs.Math.Logic.{∥∥₁_elim}
use Rattle.std.proofs.Props.{props}
use Rattle.std.proofs.lemmas.Bool.{cases_Bool, ltb-true, ltb-false}
use Rattle.std.proofs.lemmas.Option.{slice_get_within}
use Rattle.ft_tree.specs.declared.tree.Tree.{Tree}
use Rattle.ft_core.specs.laws.Places.{some-at, place-of}
use Rattle.ft_core.specs.declared.ordering.OrderFault.{OrderFault}
use Rattle.ft_core.specs.declared.ordering.OrderFault.TheVariants.{Cycle}
use Rattle.ft_core.specs.declared.tables.Memory.{Memory}
use Rattle.ft_core.specs.declared.tables.Table.{Table}
use Rattle.ft_core.specs.declared.tables.Var.{Var}
use Rattle.ft_core.specs.meaning.Items.{AreReads, IsNumbering, ReadsWhatIsThere}
use Rattle.ft_core.specs.meaning.Kinds.{is_of, monitored}
use Rattle.ft_core.specs.meaning.Order.{IsCause, IsCircle, IsFirstCircle, ReadsItem}
use Rattle.ft_names.specs.meaning.Cards.{env_of}
use Rattle.ft_build.specs.declared.parts.Parts.{Parts}
use Rattle.ft_build.specs.meaning.Variables.{no_places}
use Rattle.ft_admit.specs.laws.FormFacts.{HasLawfulForm}
use Rattle.ft_admit.specs.laws.TermFacts.{HaveLawfulTerms}
use Rattle.ft_admit.specs.meaning.Cycles.{HasNoCycle, IsCycle, IsScanCircle, numbering, scan_names}
use Rattle.ft_admit.specs.meaning.Trees.{set_of_tree}
use Rattle.ft_admit.proofs.NumberingLemmas.{counted-names, is-numbering}

-- what variables and memories of a set read of each other, by these numbers
abbrev pub SetReads : Parts → (numbers : List ℕ) → (reads : List (List ℕ)) → Type 0
SetReads set numbers reads = AreReads (length set.vars) set.memories set.tables numbers reads

pub names-count : (tree : Tree) → length (scan_names tree.items) ≡ length (set_of_tree tree).vars + length (set_of_tree tree).memories
names-count tree = counted-names tree.items (env_of tree.items) no_places tree.items

pub tree-numbering : (tree : Tree) (set : Parts) → set ≡ set_of_tree tree
    → IsNumbering (length set.vars + length set.memories) (numbering tree.items)
tree-numbering tree set is = subst (λ (s : Parts). IsNumbering (length s.vars + length s.memories) (numbering tree.items)) (sym is)
    (is-numbering tree.items (length (set_of_tree tree).vars + length (set_of_tree tree).memories) (names-count tree))

to-scan : (tree : Tree) (reads : List (List ℕ)) → SetReads (set_of_tree tree) (numbering tree.items) reads → (items : List ℕ)
    → IsCircle reads items → IsScanCircle tree items
to-scan tree reads are items circle = record {
  some = circle.some;
  next = λ n m p at_n at_m. are.only n m (circle.next n m p at_n at_m);
  closes = λ n m at_n at_m. are.only n m (circle.closes n m at_n at_m);
  once = circle.once;
}

from-scan : (tree : Tree) (reads : List (List ℕ)) → SetReads (set_of_tree tree) (numbering tree.items) reads → (numbers : List ℕ)
    → IsScanCircle tree numbers → IsCircle reads numbers
from-scan tree reads are numbers circle = record {
  some = circle.some;
  next = λ n m p at_n at_m. are.each n m (circle.next n m p at_n at_m);
  closes = λ n m at_n at_m. are.each n m (circle.closes n m at_n at_m);
  once = circle.once;
}

abbrev of-tree : (tree : Tree) (set : Parts) → set ≡ set_of_tree tree → (reads : List (List ℕ))
    → SetReads set (numbering tree.items) reads → SetReads (set_of_tree tree) (numbering tree.items) reads
of-tree tree set is reads are = subst (λ (s : Parts). SetReads s (numbering tree.items) reads) is are

pub no-cycle : (tree : Tree) (set : Parts) → set ≡ set_of_tree tree → (reads : List (List ℕ))
    → SetReads set (numbering tree.items) reads → ((items : List ℕ) → IsCircle reads items → ⊥) → HasNoCycle tree
no-cycle tree set is reads are none numbers circle = none numbers (from-scan tree reads (of-tree tree set is reads are) numbers circle)

pub named-cycle : (tree : Tree) (set : Parts) → set ≡ set_of_tree tree → (reads : List (List ℕ))
    → SetReads set (numbering tree.items) reads → (items : List ℕ) → IsFirstCircle reads items → (names : List (List ℕ))
    → names ≡ map (λ n. slice_index_or (scan_names tree.items) n []) items → IsCycle tree names
named-cycle tree set is reads are items first names named =
    let here = of-tree tree set is reads are in
    record {
      numbers = items;
      named = named;
      circle = to-scan tree reads here items first.circle;
      least = λ k n p others at_k circle at_n. first.least k n p others at_k (from-scan tree reads here others circle) at_n;
    }

-- each item of a circle reads something, and so is there
reader-there : (reads : List (List ℕ)) (k q : ℕ) → ReadsItem reads k q → k < length reads
reader-there [] k q reads = absurd (omega (arith, reads.1))
reader-there (r ∷ rs) zero q reads = omega arith
reader-there (r ∷ rs) (suc k) q reads = let less = reader-there rs k q reads in omega (arith, less)

circle-there : (reads : List (List ℕ)) (items : List ℕ) → IsCircle reads items → (p k : ℕ) → slice_get items p ≡ Some k
    → p < length items → k < length reads
circle-there reads items circle p k at low = elim (cases_Bool (nat_lt (p + 1) (length items))) [
  | inl more
      ↦ let next = some-at items (p + 1) (ltb-true (p + 1) (length items) more) in
      reader-there reads k next.0 (circle.next k next.0 p at next.1)
  | inr last
      ↦ let end : length items ≤ p + 1 = ltb-false (p + 1) (length items) last in
      let is : p ≡ length items - 1 = omega (arith, end, low) in
      let first = some-at items 0 circle.some in
      reader-there reads k first.0 (circle.closes k first.0 (subst (λ (j : ℕ). slice_get items j ≡ Some k) is at) first.1)
]

pub has-name : (tree : Tree) (set : Parts) → set ≡ set_of_tree tree → (reads : List (List ℕ))
    → SetReads set (numbering tree.items) reads → (items : List ℕ) → IsCircle reads items → (k : ℕ) → Contains items k
    → k < length (scan_names tree.items)
has-name tree set is reads are items circle k there =
    let at = place-of items k there in
    let low = circle-there reads items circle at.0 k at.1 (slice_get_within items at.0 k at.1) in
    let long : length reads ≡ length (set_of_tree tree).vars + length (set_of_tree tree).memories
    = (of-tree tree set is reads are).long in
    let count = names-count tree in
    omega (arith, low, long, count)

some-var : (vars : List Var) (x : ℕ) → is_of vars monitored x ≡ true → 0 < length vars
some-var [] x there = cc there
some-var (v ∷ vars) x there = omega arith

-- what the order of a set rests on
pub reads-there : (set : Parts) → HaveLawfulTerms set → HasLawfulForm set → ReadsWhatIsThere set.vars set.memories set.tables
reads-there set terms form = record {
  some = ∥∥₁_elim form.has_monitored (hlevel props) (λ found. some-var set.vars found.0 found.1);
  tables_read = terms.tables_read;
  memories_read = terms.memories_read;
  targets = form.targets;
}

-- the same reads, of lists that were lent
pub lent-reads : (n m : ℕ) (a b : List Memory) (s t : List Table) (x y : List ℕ) (reads : List (List ℕ)) → n ≡ m → a ≡ b → s ≡ t → x ≡ y
    → AreReads n a s x reads → AreReads m b t y reads
lent-reads n m a b s t x y reads count memories tables numbers are =
    subst (λ (k : ℕ). AreReads k b t y reads) count (subst (λ (l : List Memory). AreReads n l t y reads) memories
    (subst (λ (l : List Table). AreReads n a l y reads) tables (subst (λ (l : List ℕ). AreReads n a s l reads) numbers are)))

-- the circle that `order` answers
pub first-circle : (reads : List (List ℕ)) (fault : OrderFault) (items : List ℕ) → fault ≡ Cycle items → IsCause reads fault
    → IsFirstCircle reads items
first-circle reads fault items is cause = subst (λ (f : OrderFault). IsCause reads f) is cause

pub lent-name : (tree : Tree) (set : Parts) → set ≡ set_of_tree tree → (reads : List (List ℕ))
    → SetReads set (numbering tree.items) reads → (items : List ℕ) → IsCircle reads items → (lent : List ℕ) (names : List (List ℕ))
    → lent ≡ items → names ≡ scan_names tree.items → (k : ℕ) → Contains lent k → k < length names
lent-name tree set is reads are items circle lent names same named k there =
    let low = has-name tree set is reads are items circle k (subst (λ (l : List ℕ). Contains l k) same there) in
    subst (λ (n : List (List ℕ)). k < length n) (sym named) low

pub lent-names : (lent items : List ℕ) (given all names : List (List ℕ)) → lent ≡ items → given ≡ all
    → names ≡ map (λ n. slice_index_or given n []) lent → names ≡ map (λ n. slice_index_or all n []) items
lent-names lent items given all names same named is =
    is ∙ ap (λ (l : List ℕ). map (λ n. slice_index_or given n []) l) same
    ∙ ap (λ (g : List (List ℕ)). map (λ n. slice_index_or g n []) items) named
