-- The size and the alignment that a block of n places is taken and given back with.
use mathlib.Core.Path.{◌≡◌, sym, ap, ◌∙◌}
use Prim.Native.Nat.{ℕ, zero, suc, ◌*◌, ◌<◌, ◌^◌}
use native.Mathlib.Nat.{zero-mul, suc-mul}
use native.Mathlib.Omega.{arith}
use mir.Syntax.{ty_array}
use prog.Memory.{size, align, capped}
use prog.Capped.{capped_is}
use prog.RawLaws.{size-raw, align-raw}
use Rattle.std.proofs.mem.Param.{El, R, elτ}
use Rattle.ft_pool.specs.block.Ownership.{block_of}
use Rattle.ft_pool.proofs.Memory.{bytes}

-- the product with a size, where it fits a word
pub uncapped : (n k : ℕ) → n * k < 2 ^ 64 → n * capped k ≡ n * k
uncapped zero k fits = zero-mul (capped k) ∙ sym (zero-mul k)
uncapped (suc n) k fits = let more = suc-mul n k in ap (λ (j : ℕ). suc n * j) (capped_is k (omega arith))

module _ (E : El) (n : ℕ) where
  pub block_size : n * bytes E < 2 ^ 64 → capped (size (block_of (R E) n)) ≡ n * bytes E
  block_size fits = ap capped (size-raw (ty_array (elτ E) n)) ∙ capped_is (n * bytes E) fits

  pub block_align : capped (align (block_of (R E) n)) ≡ capped (align (elτ E))
  block_align = ap capped (align-raw (ty_array (elτ E) n))
