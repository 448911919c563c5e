-- One place comes out of a block and goes back, and a whole block is room.
use mathlib.Core.Path.{◌≡◌, refl, sym}
use Prim.Native.Nat.{ℕ, zero, suc, ◌+◌, ◌*◌, ◌<◌, ◌≤◌}
use native.Mathlib.Omega.{arith}
use native.Mathlib.Nat.{zero-mul, suc-mul}
use mathlib.Core.List.{List, [], ◌∷◌}
use lib.ListN.{length}
use seplogic.Ra.Ura.{Ura}
use base.Fraction.{full_share}
use mir.Syntax.{ty_array}
use mir.Val.{Val}
use base.Logic.{ent, sep}
use base.Fml.{Fml, Lft, ftrue, ffalse, fsep, fat, froom}
use types.Logic.{Logic, sem}
use types.Kit.{‵, ◌⊛◌, some, given, ◌$◌, ◌∵◌, !, qed, by, move, keep, use1, use2, split, pick, learn, rewrite, fsplit, fjoin, frame, done}
use denote.Memory.{part_at, shared_of}
use Rattle.std.specs.Prelude.{Some, slice_get}
use Rattle.std.specs.Mem.{type_size}
use Rattle.std.proofs.mem.Param.{El, R, el_x, elτ, Good}
use Rattle.std.proofs.slice.Rows.{el_out, el_in}
use Rattle.ft_pool.specs.block.Places.{put_at}
use Rattle.ft_pool.specs.block.Ownership.{block_of, places, values_lent}

module _ (E : El) where
  abbrev pub bytes : ℕ
  bytes = type_size (R E)

  -- the n places with the values xs but for the i-th place
  abbrev pub besides : ℕ → ℕ → ℕ → List (el_x E) → ℕ → Fml
  besides b o zero xs i = ftrue
  besides b o (suc n) [] i = froom (block_of (R E) n) b (o + bytes)
  besides b o (suc n) (x ∷ xs) zero = places (R E) b (o + bytes) n xs
  besides b o (suc n) (x ∷ xs) (suc i) = fsep (part_at (R E) full_share x b o) (besides b (o + bytes) n xs i)

abbrev pub item_at : {X : Type 0} (xs : List X) (i : ℕ) → i < length xs → (x : X) × (slice_get xs i ≡ Some x)
item_at [] i inside = absurd (omega arith)
item_at (x ∷ xs) zero inside = (x, refl)
item_at (x ∷ xs) (suc i) inside = item_at xs i (let below : suc i < suc (length xs) = inside in omega arith)

here : (s o : ℕ) → 0 * s + o ≡ o
here s o = omega (arith, zero-mul s)

further : (s o i : ℕ) → i * s + (o + s) ≡ suc i * s + o
further s o i = omega (arith, suc-mul i s)

module _ (E : El) {M : Type 1} {𝓤 : Ura M} (𝓛 : Logic 𝓤) (b : ℕ) where
  open 𝓛 use {H}

  abbrev s : ℕ
  s = bytes E

  abbrev row : ℕ → ℕ → List (el_x E) → Fml
  row o n xs = places (R E) b o n xs

  abbrev one : el_x E → ℕ → Fml
  one x o = part_at (R E) full_share x b o

  -- a place that holds a value is room, and the value is forgotten
  emptied : (x : el_x E) (o : ℕ) → ent 𝓤 (sem 𝓛 (one x o)) (H.room (elτ E) b o)
  emptied x o = qed 𝓛 (‵ (one x o) ∷ []) ∵
      use1 𝓛 (some (λ (v : Val). given (Good E v) (‵ (fat full_share (elτ E) b o v) ⊛ ‵ (E.row.own_val x (v ∷ []))))) (el_out E 𝓛 b x o) $
      pick ! (λ v. learn ! (λ typed. split ! $ keep ! (0 ∷ []) $ by ! (𝓛.laws.at_room (elτ E) b o v)))

  pub place_out : (o n : ℕ) (xs : List (el_x E)) (i : ℕ) → i ≤ length xs → i < n
      → ent 𝓤 (sem 𝓛 (row o n xs)) (sep 𝓤 (H.room (elτ E) b (i * s + o)) (sem 𝓛 (besides E b o n xs i)))
  place_out o zero xs i near inside = absurd (omega arith)
  place_out o (suc n) [] zero near inside = qed 𝓛 (‵ (row o (suc n) []) ∷ []) ∵
      use1 𝓛 (‵ (froom (ty_array (elτ E) (suc n)) b o)) (𝓛.laws.raw-room (ty_array (elτ E) (suc n)) b o) $
      use1 𝓛 (‵ (froom (elτ E) b o) ⊛ ‵ (froom (ty_array (elτ E) n) b (o + s))) (𝓛.laws.room_uncons (elτ E) n b o) $ split ! $ move !
      (1 ∷ []) $
      use1 𝓛 (‵ (froom (block_of (R E) n) b (o + s))) (𝓛.laws.room-raw (ty_array (elτ E) n) b (o + s)) $ move ! (1 ∷ []) $
      rewrite ! 0 (λ (k : ℕ). ‵ (froom (elτ E) b k)) (sym (here s o)) refl $ done !
  place_out o (suc n) [] (suc i) near inside = absurd (let above : suc i ≤ 0 = near in omega arith)
  place_out o (suc n) (x ∷ xs) zero near inside = qed 𝓛 (‵ (row o (suc n) (x ∷ xs)) ∷ []) ∵ fsplit ! $
      use1 𝓛 (‵ (froom (elτ E) b o)) (emptied x o) $ rewrite ! 0 (λ (k : ℕ). ‵ (froom (elτ E) b k)) (sym (here s o)) refl $ done !
  place_out o (suc n) (x ∷ xs) (suc i) near inside = qed 𝓛 (‵ (row o (suc n) (x ∷ xs)) ∷ []) ∵ fsplit ! $ move ! (1 ∷ []) $
      use1 𝓛 (‵ (froom (elτ E) b (i * s + (o + s))) ⊛ ‵ (besides E b (o + s) n xs i))
      (place_out (o + s) n xs i (let below : suc i ≤ suc (length xs) = near in omega arith) (omega arith)) $ split ! $
      rewrite ! 0 (λ (k : ℕ). ‵ (froom (elτ E) b k)) (further s o i) refl $ frame ! $ move ! (1 ∷ 0 ∷ []) $ fjoin ! $ done !

  fills : (o n : ℕ) (xs : List (el_x E)) (i : ℕ) → i ≤ length xs → i < n → (x : el_x E)
      → ent 𝓤 (sep 𝓤 (sem 𝓛 (one x (i * s + o))) (sem 𝓛 (besides E b o n xs i))) (sem 𝓛 (row o n (put_at xs i x)))
  fills o zero xs i near inside x = absurd (omega arith)
  fills o (suc n) [] zero near inside x = qed 𝓛 (‵ (one x (0 * s + o)) ∷ ‵ (besides E b o (suc n) [] zero) ∷ []) ∵
      rewrite ! 0 (λ (k : ℕ). ‵ (one x k)) (here s o) refl $ done !
  fills o (suc n) [] (suc i) near inside x = absurd (let above : suc i ≤ 0 = near in omega arith)
  fills o (suc n) (y ∷ ys) zero near inside x = qed 𝓛 (‵ (one x (0 * s + o)) ∷ ‵ (besides E b o (suc n) (y ∷ ys) zero) ∷ []) ∵
      rewrite ! 0 (λ (k : ℕ). ‵ (one x k)) (here s o) refl $ done !
  fills o (suc n) (y ∷ ys) (suc i) near inside x = qed 𝓛 (‵ (one x (suc i * s + o)) ∷ ‵ (besides E b o (suc n) (y ∷ ys) (suc i)) ∷ []) ∵
      rewrite ! 0 (λ (k : ℕ). ‵ (one x k)) (sym (further s o i)) refl $ move ! (1 ∷ []) $ fsplit ! $ move ! (2 ∷ 1 ∷ []) $
      use2 𝓛 (‵ (row (o + s) n (put_at ys i x))) (fills (o + s) n ys i (let below : suc i ≤ suc (length ys) = near in omega arith)
      (omega arith) x) $
      move ! (1 ∷ 0 ∷ []) $ done !

  -- the bytes of a value, written where the i-th place begins, are that place
  pub place_in : (o n : ℕ) (xs : List (el_x E)) (i : ℕ) → i ≤ length xs → i < n → (x : el_x E) (v : Val)
      → ent 𝓤 (sep 𝓤 (H.at full_share (elτ E) b (i * s + o) v) (sep 𝓤 (sem 𝓛 (E.row.own_val x (v ∷ []))) (sem 𝓛 (besides E b o n xs i))))
      (sem 𝓛 (row o n (put_at xs i x)))
  place_in o n xs i near inside x v =
      qed 𝓛 (‵ (fat full_share (elτ E) b (i * s + o) v) ∷ ‵ (E.row.own_val x (v ∷ [])) ∷ ‵ (besides E b o n xs i) ∷ []) ∵
      use2 𝓛 (‵ (one x (i * s + o))) (el_in E 𝓛 b x (i * s + o) v) $ by ! (fills o n xs i near inside x)

  pub to_room : (o n : ℕ) (xs : List (el_x E)) → ent 𝓤 (sem 𝓛 (row o n xs)) (H.room (ty_array (elτ E) n) b o)
  to_room o n [] = 𝓛.laws.raw-room (ty_array (elτ E) n) b o
  to_room o zero (x ∷ xs) = qed 𝓛 (‵ ffalse ∷ []) ∵ keep ! [] $ by ! (𝓛.laws.room_nil (elτ E) b o)
  to_room o (suc n) (x ∷ xs) = qed 𝓛 (‵ (one x o) ∷ ‵ (row (o + s) n xs) ∷ []) ∵
      use1 𝓛 (‵ (froom (elτ E) b o)) (emptied x o) $ move ! (1 ∷ []) $
      use1 𝓛 (‵ (froom (ty_array (elτ E) n) b (o + s))) (to_room (o + s) n xs) $ move ! (1 ∷ []) $ by ! (𝓛.laws.room_cons (elτ E) n b o)

  pub value_seen : (κ : Lft) (o : ℕ) (xs : List (el_x E)) (i : ℕ) (inside : i < length xs)
      → ent 𝓤 (sem 𝓛 (values_lent (R E) b o xs κ)) (sem 𝓛 (shared_of (R E) (item_at xs i inside).0 b (i * s + o) κ))
  value_seen κ o [] i inside = absurd (omega arith)
  value_seen κ o (x ∷ xs) zero inside = qed 𝓛 (‵ (values_lent (R E) b o (x ∷ xs) κ) ∷ []) ∵ fsplit ! $
      rewrite ! 0 (λ (k : ℕ). ‵ (shared_of (R E) x b k κ)) (sym (here s o)) refl $ keep ! (0 ∷ []) $ done !
  value_seen κ o (x ∷ xs) (suc i) inside = qed 𝓛 (‵ (values_lent (R E) b o (x ∷ xs) κ) ∷ []) ∵ fsplit ! $ keep ! (1 ∷ []) $
      let less : i < length xs = (let below : suc i < suc (length xs) = inside in omega arith) in
      use1 𝓛 (‵ (shared_of (R E) (item_at xs i less).0 b (i * s + (o + s)) κ)) (value_seen κ (o + s) xs i less) $
      rewrite ! 0 (λ (k : ℕ). ‵ (shared_of (R E) (item_at xs i less).0 b k κ)) (further s o i) refl $ done !
