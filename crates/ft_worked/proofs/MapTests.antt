-- An image by a section that passes tests which compute.
use Rattle.std.proofs.Common.{◌≡◌, ◌∙◌, sym, ℕ, true, true≢false, Bool, not, ◌||◌, length}
use Rattle.std.proofs.lemmas.Option.{slice_get_within}
use Rattle.ft_core.specs.declared.tables.Tables.{Tables}
use Rattle.ft_core.specs.declared.tables.Var.{Var}
use Rattle.ft_core.specs.declared.tables.Section.{Section}
use Rattle.ft_core.specs.meaning.Kinds.{Kinds, defined_kinds, image_kinds, is_of}
use Rattle.ft_mean.specs.meaning.Cells.{defined}
use Rattle.ft_mean.specs.meaning.Fits.{Maps}
use Rattle.ft_mean.specs.meaning.Memory.{look}
use Rattle.ft_mean.specs.judge.Scope.{through, at_all, is_list}
use Rattle.ft_mean.specs.meaning.Reading.{Scans, reading_of}
use Rattle.ft_mean.specs.laws.ScanTests.{list_is, through_at, asked_of}

module _ (S : Tables) (section : Section) (kinds : Kinds) (list image : Scans)
    (all_defined : (x : ℕ) (v : Var) → image_kinds section x v ≡ true → defined_kinds section x v ≡ true) where
  -- a variable that the section defines has the value of its table at scan t
  abbrev follows_at : ℕ → ℕ → Bool
  follows_at t x = not (is_of S.vars (defined_kinds section) x)
      || defined S section (look S (reading_of S kinds list) t) x (reading_of S (image_kinds section) image t x)

  abbrev pub follow : Bool
  follow = through (length image) (λ t. at_all S (follows_at t))

  pub maps : length image ≡ length list → is_list S (image_kinds section) image ≡ true → follow ≡ true → Maps S section kinds list image
  maps same listed follows = record {
    lengths = same;
    values = list_is S (image_kinds section) image listed;
    same_given = λ t x v below is other. absurd (true≢false (sym (all_defined x v is.1) ∙ other));
    follows = λ t below x v is. asked_of S (defined_kinds section) x v
        (defined S section (look S (reading_of S kinds list) t) x (reading_of S (image_kinds section) image t x)) is
        (through_at (follows_at t) (length S.vars) (through_at (λ t. at_all S (follows_at t)) (length image) follows t below) x
        (slice_get_within S.vars x v is.0));
  }
