-- The slots of a tree's parts, and the literals that they force.
use Rattle.std.proofs.Common.{◌≡◌, ◌∙◌, sym, ap, subst, refl, ℕ, ◌+◌, ◌<◌, ◌≤◌, Bool, true, false, not, cond, List, [], ◌∷◌, ◌++◌, ◌||◌}
use Rattle.std.proofs.Common.{◌&&◌, map, length, take, drop, arith, Some, slice_get}
use Rattle.std.specs.Prelude.{nat_eq, count_by, slice_index_or}
use Rattle.std.specs.List.{list_any, flat_map}
use Rattle.std.proofs.lemmas.List.{append_assoc, take_more, drop_at, drop_more, length-append, take-append-drop}
use Rattle.ft_linear.specs.declared.node.Node.{Node}
use Rattle.ft_linear.specs.declared.node.Node.TheVariants.{At, Not, And, Or}
use Rattle.ft_base.specs.declared.three.Three.{Three}
use Rattle.ft_linear.specs.declared.forcing.Slot.{Slot}
use Rattle.ft_linear.specs.declared.forcing.Signs.{Signs}
use Rattle.ft_linear.specs.meaning.Forced.{NodeView, node_view, value_of, forces, same_bool, and_forces, or_forces, by_only}
use Rattle.ft_base.specs.Three.{can_be}
use Rattle.ft_linear.specs.judging.Slots.{slots_of, only_of, StartsWith, Adds}
use Rattle.ft_linear.specs.laws.Nodes.{forces-At, forces-Not, forces-And, forces-Or}
use Rattle.ft_linear.proofs.ForcedLaws.{count-map}
use Rattle.ft_linear.proofs.SlotLemmas.{fronted, node_slot, slots-Not, slots-And, slots-Or, adds-none, adds-same, adds-then}
use Rattle.std.proofs.Math.Bool.{or-false, or_assoc}

same-some : {X : Type 0} (x y : X) → Some x ≡ Some y → x ≡ y
same-some x y e = cc e

module _ (atoms : ℕ → Three) where
  pub some-slots : (node : Node) (slots : List Slot) → StartsWith slots (slots_of atoms node) → 1 ≤ length slots
  some-slots node slots (rest, is) =
      let (only, tail, front) = fronted atoms node in
      let e = ap length (is ∙ ap (λ (l : List Slot). l ++ rest) front) in
      omega (arith, e)

  pub inner-Not : (inner node : Node) (slots inner_slots : List Slot) → node ≡ Not inner → StartsWith slots (slots_of atoms node)
      → inner_slots ≡ drop 1 slots → StartsWith inner_slots (slots_of atoms inner)
  inner-Not inner node slots inner_slots is (rest, starts) under =
      (rest, under ∙ ap (drop 1) (starts ∙ ap (λ (l : List Slot). l ++ rest) (ap (slots_of atoms) is ∙ slots-Not atoms inner)))

  pub inner-And : (parts : List Node) (node : Node) (slots inner_slots : List Slot) → node ≡ And parts
      → StartsWith slots (slots_of atoms node) → inner_slots ≡ drop 1 slots → StartsWith inner_slots (flat_map (slots_of atoms) parts)
  inner-And parts node slots inner_slots is (rest, starts) under =
      (rest, under ∙ ap (drop 1) (starts ∙ ap (λ (l : List Slot). l ++ rest) (ap (slots_of atoms) is ∙ slots-And atoms parts)))

  pub inner-Or : (parts : List Node) (node : Node) (slots inner_slots : List Slot) → node ≡ Or parts
      → StartsWith slots (slots_of atoms node) → inner_slots ≡ drop 1 slots → StartsWith inner_slots (flat_map (slots_of atoms) parts)
  inner-Or parts node slots inner_slots is (rest, starts) under =
      (rest, under ∙ ap (drop 1) (starts ∙ ap (λ (l : List Slot). l ++ rest) (ap (slots_of atoms) is ∙ slots-Or atoms parts)))

  pub root-And : (parts : List Node) (node : Node) (slots : List Slot) (root : Slot) → node ≡ And parts
      → StartsWith slots (slots_of atoms node) → slice_get slots 0 ≡ Some root
      → root.only ≡ only_of false (map (value_of atoms) parts)
  root-And parts node slots root is (rest, starts) first =
      ap (λ (s : Slot). s.only) (same-some root _ (sym first ∙ ap (λ (l : List Slot). slice_get l 0)
      (starts ∙ ap (λ (l : List Slot). l ++ rest) (ap (slots_of atoms) is ∙ slots-And atoms parts))))

  pub root-Or : (parts : List Node) (node : Node) (slots : List Slot) (root : Slot) → node ≡ Or parts
      → StartsWith slots (slots_of atoms node) → slice_get slots 0 ≡ Some root
      → root.only ≡ only_of true (map (value_of atoms) parts)
  root-Or parts node slots root is (rest, starts) first =
      ap (λ (s : Slot). s.only) (same-some root _ (sym first ∙ ap (λ (l : List Slot). slice_get l 0)
      (starts ∙ ap (λ (l : List Slot). l ++ rest) (ap (slots_of atoms) is ∙ slots-Or atoms parts))))

  module _ (parts : List Node) (i : ℕ) (part : Node) (rest : List Slot) (within : i < length parts)
      (is : part ≡ slice_index_or parts i part)
      (starts : StartsWith rest (flat_map (slots_of atoms) (drop i parts))) where
    from-here : rest ≡ slots_of atoms part ++ (flat_map (slots_of atoms) (drop (i + 1) parts) ++ starts.0)
    from-here = starts.1 ∙ ap (λ (ps : List Node). flat_map (slots_of atoms) ps ++ starts.0)
        (drop_more parts i part within ∙ ap (λ (p : Node). p ∷ drop (i + 1) parts) (sym is))
        ∙ append_assoc (slots_of atoms part) (flat_map (slots_of atoms) (drop (i + 1) parts)) starts.0

    pub starts-here : StartsWith rest (slots_of atoms part)
    starts-here = (flat_map (slots_of atoms) (drop (i + 1) parts) ++ starts.0, from-here)

    pub slots-left : 1 ≤ length rest
    slots-left = some-slots part rest starts-here

    module _ (first : Slot) (gets : slice_get rest 0 ≡ Some first) where
      is-root : (only : Bool) × (tail : List Slot) × (slots_of atoms part ≡ node_slot atoms (value_of atoms part) only tail ∷ tail)
          × (first ≡ node_slot atoms (value_of atoms part) only tail)
      is-root = let (only, tail, front) = fronted atoms part in (
        only,
        tail,
        front,
        same-some first _ (sym gets ∙ ap (λ (l : List Slot). slice_get l 0)
            (from-here ∙ ap (λ (l : List Slot). l ++ (flat_map (slots_of atoms) (drop (i + 1) parts) ++ starts.0)) front)),
      )

      pub value-here : first.value ≡ value_of atoms part
      value-here = ap (λ (s : Slot). s.value) is-root.3

      size-here : length (slots_of atoms part) ≡ first.size
      size-here = let e = ap length is-root.2 in let f = ap (λ (s : Slot). s.size) is-root.3 in omega (arith, e, f)

      pub size-fits : first.size ≤ length rest
      size-fits = let e = ap length from-here in let f = length-append (slots_of atoms part)
          (flat_map (slots_of atoms) (drop (i + 1) parts) ++ starts.0) in let g = size-here in omega (arith, e, f, g)

      pub starts-next : (left : List Slot) → left ≡ drop first.size rest → StartsWith left (flat_map (slots_of atoms) (drop (i + 1) parts))
      starts-next left goes = (starts.0, goes ∙ ap (drop first.size) from-here ∙ drop_at (slots_of atoms part) _ first.size size-here)

any-push : {E : Type 0} (p : E → Bool) (f : Node → E) (ps : List Node) (part : Node) → list_any p (map f (ps ++ part ∷ []))
    ≡ (list_any p (map f ps) || p (f part))
any-push p f [] part = or-false (p (f part))
any-push p f (q ∷ ps) part = ap (λ b. p (f q) || b) (any-push p f ps part) ∙ sym (or_assoc (p (f q)) (list_any p (map f ps)) (p (f part)))

pub any-more : {E : Type 0} (p : E → Bool) (f : Node → E) (parts : List Node) (i : ℕ) (part : Node) → i < length parts → part
    ≡ slice_index_or parts i part
    → (list_any p (map f (take i parts)) || p (f part)) ≡ list_any p (map f (take (i + 1) parts))
any-more p f parts i part within is = sym (ap (λ (ps : List Node). list_any p (map f ps))
    (take_more parts i part within ∙ ap (λ (n : Node). take i parts ++ n ∷ []) (sym is)) ∙ any-push p f (take i parts) part)

count-can : (atoms : ℕ → Three) (want : Bool) (parts : List Node)
    → count_by (λ (p : NodeView). can_be want p.0) (map (node_view atoms) parts) ≡ count_by (can_be want) (map (value_of atoms) parts)
count-can atoms want parts = count-map (λ (p : NodeView). can_be want p.0) (node_view atoms) parts
    ∙ sym (count-map (can_be want) (value_of atoms) parts)

-- where the only part that can be as wanted is asked for, it is there
by-only : (atoms : ℕ → Three) (want : Bool) (parts : List Node) (a : ℕ) (s b : Bool) → only_of want (map (value_of atoms) parts) ≡ b
    → cond b (list_any (λ (p : NodeView). can_be want p.0 && p.1 want a s) (map (node_view atoms) parts)) false
    ≡ by_only (map (node_view atoms) parts) want a s
by-only atoms want parts a s b e =
    ap (λ (g : Bool). cond g (list_any (λ (p : NodeView). can_be want p.0 && p.1 want a s) (map (node_view atoms) parts)) false)
    (sym (ap (λ (n : ℕ). nat_eq n 1) (count-can atoms want parts) ∙ e))

pub and-marks : (atoms : ℕ → Three) (parts : List Node) (want only : Bool) (a : ℕ) (s : Bool) → only
    ≡ only_of false (map (value_of atoms) parts) → (want || only) ≡ true
    → list_any (λ (p : NodeView). (want || can_be want p.0) && p.1 want a s) (map (node_view atoms) parts)
    ≡ and_forces (map (node_view atoms) parts) want a s
and-marks atoms parts true only a s e h = refl
and-marks atoms parts false only a s e h = by-only atoms false parts a s true (sym e ∙ h)

pub or-marks : (atoms : ℕ → Three) (parts : List Node) (want only : Bool) (a : ℕ) (s : Bool) → only
    ≡ only_of true (map (value_of atoms) parts) → (not want || only) ≡ true
    → list_any (λ (p : NodeView). (not want || can_be want p.0) && p.1 want a s) (map (node_view atoms) parts)
    ≡ or_forces (map (node_view atoms) parts) want a s
or-marks atoms parts false only a s e h = refl
or-marks atoms parts true only a s e h = by-only atoms true parts a s true (sym e ∙ h)

pub and-nothing : (atoms : ℕ → Three) (parts : List Node) (want only : Bool) (a : ℕ) (s : Bool) → only
    ≡ only_of false (map (value_of atoms) parts) → (want || only) ≡ false
    → false ≡ and_forces (map (node_view atoms) parts) want a s
and-nothing atoms parts true only a s e h = cc h
and-nothing atoms parts false only a s e h = by-only atoms false parts a s false (sym e ∙ h)

pub or-nothing : (atoms : ℕ → Three) (parts : List Node) (want only : Bool) (a : ℕ) (s : Bool) → only
    ≡ only_of true (map (value_of atoms) parts) → (not want || only) ≡ false
    → false ≡ or_forces (map (node_view atoms) parts) want a s
or-nothing atoms parts false only a s e h = cc h
or-nothing atoms parts true only a s e h = by-only atoms true parts a s false (sym e ∙ h)

-- a part's literals beside those of the parts before it
pub adds-step : (atoms : ℕ → Three) (each want asked able : Bool) (v : Three) (parts : List Node) (i : ℕ) (part : Node)
    (old mid now : List Signs) → i < length parts → part ≡ slice_index_or parts i part
    → v ≡ value_of atoms part → able ≡ can_be want v → asked ≡ (each || able)
    → Adds (λ a s. list_any (λ (p : NodeView). (each || can_be want p.0) && p.1 want a s) (map (node_view atoms) (take i parts))) old mid
    → Adds (λ a s. asked && forces atoms part want a s) mid now
    → Adds (λ a s. list_any (λ (p : NodeView). (each || can_be want p.0) && p.1 want a s) (map (node_view atoms) (take (i + 1) parts)))
    old now
adds-step atoms each want asked able v parts i part old mid now within is ev ea ask before here =
    adds-same _ (λ a s. list_any (λ (p : NodeView). (each || can_be want p.0) && p.1 want a s)
    (map (node_view atoms) (take (i + 1) parts))) old now
    (λ a s. ap (λ (b : Bool). list_any (λ (p : NodeView). (each || can_be want p.0) && p.1 want a s) (map (node_view atoms) (take i parts))
    || (b && forces atoms part want a s))
    (ask ∙ ap (λ (b : Bool). each || b) (ea ∙ ap (can_be want) ev))
    ∙ any-more (λ (p : NodeView). (each || can_be want p.0) && p.1 want a s) (node_view atoms) parts i part within is)
    (adds-then (λ a s. list_any (λ (p : NodeView). (each || can_be want p.0) && p.1 want a s) (map (node_view atoms) (take i parts)))
    (λ a s. asked && forces atoms part want a s) old mid now before here)

module _ (atoms : ℕ → Three) (node : Node) (want : Bool) (old now : List Signs) where
  pub adds-At : (atom : ℕ) → node ≡ At atom → Adds (λ a s. nat_eq a atom && same_bool want s) old now
      → Adds (forces atoms node want) old now
  adds-At atom is h = adds-same (λ a s. nat_eq a atom && same_bool want s) (forces atoms node want) old now
      (λ a s. sym (ap (λ (n : Node). forces atoms n want a s) is ∙ forces-At atoms want a s atom)) h

  pub adds-Not : (inner : Node) → node ≡ Not inner → Adds (forces atoms inner (not want)) old now → Adds (forces atoms node want) old now
  adds-Not inner is h = adds-same (forces atoms inner (not want)) (forces atoms node want) old now
      (λ a s. sym (ap (λ (n : Node). forces atoms n want a s) is ∙ forces-Not atoms want a s inner)) h

  module _ (parts : List Node) (only asked : Bool) where
    pub adds-And : node ≡ And parts → only ≡ only_of false (map (value_of atoms) parts) → asked ≡ (want || only) → asked ≡ true
        → Adds (λ a s. list_any (λ (p : NodeView). (want || can_be want p.0) && p.1 want a s) (map (node_view atoms) parts)) old now
        → Adds (forces atoms node want) old now
    adds-And is eo ea so h = adds-same _ (forces atoms node want) old now
        (λ a s. and-marks atoms parts want only a s eo (sym ea ∙ so) ∙ sym
        (ap (λ (n : Node). forces atoms n want a s) is ∙ forces-And atoms want a s parts)) h

    pub adds-Or : node ≡ Or parts → only ≡ only_of true (map (value_of atoms) parts) → asked ≡ (not want || only) → asked ≡ true
        → Adds (λ a s. list_any (λ (p : NodeView). (not want || can_be want p.0) && p.1 want a s) (map (node_view atoms) parts)) old now
        → Adds (forces atoms node want) old now
    adds-Or is eo ea so h = adds-same _ (forces atoms node want) old now
        (λ a s. or-marks atoms parts want only a s eo (sym ea ∙ so) ∙ sym
        (ap (λ (n : Node). forces atoms n want a s) is ∙ forces-Or atoms want a s parts)) h

    pub nothing-And : node ≡ And parts → only ≡ only_of false (map (value_of atoms) parts) → asked ≡ (want || only) → asked ≡ false → now
        ≡ old → Adds (forces atoms node want) old now
    nothing-And is eo ea so same = adds-same (λ a s. false) (forces atoms node want) old now
        (λ a s. and-nothing atoms parts want only a s eo (sym ea ∙ so)
        ∙ sym (ap (λ (n : Node). forces atoms n want a s) is ∙ forces-And atoms want a s parts))
        (subst (Adds (λ a s. false) old) (sym same) (adds-none old))

    pub nothing-Or : node ≡ Or parts → only ≡ only_of true (map (value_of atoms) parts) → asked ≡ (not want || only) → asked ≡ false → now
        ≡ old → Adds (forces atoms node want) old now
    nothing-Or is eo ea so same = adds-same (λ a s. false) (forces atoms node want) old now
        (λ a s. or-nothing atoms parts want only a s eo (sym ea ∙ so) ∙ sym
        (ap (λ (n : Node). forces atoms n want a s) is ∙ forces-Or atoms want a s parts))
        (subst (Adds (λ a s. false) old) (sym same) (adds-none old))

-- what a pass up from the first slot leaves
pub starts-all : (slots front : List Slot) (next : ℕ) → take next slots ≡ front → StartsWith slots front
starts-all slots front next e = (drop next slots, sym (take-append-drop next slots) ∙ ap (λ (l : List Slot). l ++ drop next slots) e)
