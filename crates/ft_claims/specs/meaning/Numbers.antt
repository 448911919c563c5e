-- Numbers for the names of two scans, made of what the names stand for.
use Rattle.std.specs.Prelude.{ℕ, ◌+◌, ◌-◌, ℤ, pos, nat_lt, length, if◌then◌else◌}
use Rattle.ft_core.specs.declared.tables.Tables.{Tables}
use Rattle.ft_mean.specs.meaning.Value.{View}
use Rattle.ft_claims.specs.meaning.Names.{width}

-- a number for each name: the variables and memories of this scan, and those of the scan before
abbrev pub numbers : Tables → (now kept_now past kept_past : ℕ → ℤ) → ℕ → ℤ
numbers S now kept_now past kept_past n =
    if nat_lt n (length S.vars) then now n
    else if nat_lt n (width S) then kept_now (n - length S.vars)
    else if nat_lt n (width S + length S.vars) then past (n - width S)
    else kept_past (n - (width S + length S.vars))

-- those of a view, where every memory is a bit; a view has no memories of the scan before
abbrev pub numbers_with : Tables → View → (kept_past : ℕ → ℤ) → ℕ → ℤ
numbers_with S V kept_past = numbers S V.now (λ m. if V.memory m then pos 1 else pos 0) V.before kept_past

abbrev pub cover_numbers : Tables → View → ℕ → ℤ
cover_numbers S V = numbers_with S V (λ m. pos 0)
