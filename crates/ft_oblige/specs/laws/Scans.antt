-- What passes at each scan of a list and in all together, without a tactic: the crates above cite these too.
use Rattle.std.proofs.Common.{◌≡◌, ◌∙◌, sym, subst, refl, ⊎_elim, ℕ, zero, suc, ◌<◌, Bool, true, List}
use Rattle.std.specs.List.{list_all}
use Rattle.std.proofs.Math.Nat.{not-suc-le-zero, le_of_suc-le-suc, le-suc, lt-suc_self, le_trans, le_antisymm}
use Rattle.std.proofs.lemmas.Bool.{and_parts, cases_lt}
use Rattle.std.proofs.lemmas.List.Folds.{list_all-append}
use Rattle.ft_mean.specs.meaning.Reading.{scan_before}
use Rattle.ft_oblige.specs.laws.Tests.{both_lists}
use Rattle.ft_oblige.specs.meaning.Lists.{by_scan}

pub every_scan : {A : Type 0} (p : A → Bool) (f : ℕ → List A) (n : ℕ) → ((t : ℕ) → t < n → list_all p (f t) ≡ true)
    → list_all p (by_scan f n) ≡ true
every_scan p f zero h = refl
every_scan p f (suc n) h = both_lists p (by_scan f n) (f n) (every_scan p f n (λ t l. h t (le_trans l (le-suc n)))) (h n (lt-suc_self n))

pub each_scan : {A : Type 0} (p : A → Bool) (f : ℕ → List A) (n : ℕ) → list_all p (by_scan f n) ≡ true
    → (t : ℕ) → t < n → list_all p (f t) ≡ true
each_scan p f zero h t l = absurd (not-suc-le-zero l)
each_scan p f (suc n) h t l =
    let both = and_parts (list_all p (by_scan f n)) (list_all p (f n)) (sym (list_all-append p (by_scan f n) (f n)) ∙ h) in ⊎_elim
    (λ less. each_scan p f n both.0 t less)
    (λ high. subst (λ k. list_all p (f k) ≡ true) (le_antisymm high (le_of_suc-le-suc l)) both.1)
    (cases_lt t n)

-- the scan before one of a list is one of it
pub scan_before_inside : (n t : ℕ) → t < n → scan_before t < n
scan_before_inside n zero l = l
scan_before_inside n (suc t) l = le_trans (le-suc (suc t)) l
