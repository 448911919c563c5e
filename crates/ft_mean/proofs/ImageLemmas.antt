-- What the image by a section has: the variables that the section defines, and no other.
use Rattle.std.proofs.Common.{◌≡◌, ◌∙◌, sym, subst, refl, ℕ, true≢false}
use Rattle.std.specs.Prelude.{IsFalse}
use Rattle.ft_core.specs.declared.tables.Tables.{Tables}
use Rattle.ft_core.specs.declared.tables.Var.{Var}
use Rattle.ft_core.specs.declared.tables.Section.{Section}
use Rattle.ft_core.specs.declared.tables.Section.TheVariants as section
use Rattle.ft_core.specs.meaning.Kinds.{Kinds, defined_kinds, image_kinds}
use Rattle.ft_mean.specs.meaning.Reading.{IsVar}

image_is : (section : Section) → image_kinds section ≡ defined_kinds section
image_is section.In = refl
image_is section.Req = refl
image_is section.Sof = refl
image_is section.Out = refl

module _ (S : Tables) (section : Section) (x : ℕ) (v : Var) where
  pub in_image : IsVar S (defined_kinds section) x v → IsVar S (image_kinds section) x v
  in_image is = subst (λ (kinds : Kinds). IsVar S kinds x v) (sym (image_is section)) is

  pub of_image : IsVar S (image_kinds section) x v → IsVar S (defined_kinds section) x v
  of_image is = subst (λ (kinds : Kinds). IsVar S kinds x v) (image_is section) is

  -- nothing in it comes from the list
  pub none_given : IsVar S (image_kinds section) x v → IsFalse (defined_kinds section x v) → ⊥
  none_given is other = true≢false (sym (of_image is).1 ∙ other)
