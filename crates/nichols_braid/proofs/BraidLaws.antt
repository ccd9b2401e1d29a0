-- The laws of this crate, each as its statement has it.
use Rattle.std.proofs.Common.{ℕ, List, ap}
use Rattle.nichols_field.specs.Field.{FieldValue, IsField}
use Rattle.nichols_tensor.specs.Combination.{Combination, value_at, linear_map}
use Rattle.nichols_tensor.proofs.Linear.{same_images, linear_map-append, linear_map-scalar_multiple}
use Rattle.nichols_braid.specs.Symmetrizer.{lifts}
use Rattle.nichols_braid.specs.Derivation.{derived_word}
use Rattle.nichols_braid.specs.LinearMap.{IsLinearMap}
use Rattle.nichols_braid.specs.Laws.{SymmetrizerIsLinear, DerivationsAreLinear, DerivationRule, KilledIsRightIdeal, KilledIsDecided, KernelIsDecided, KilledIsLinear, KernelIsLinear, KilledIsIdealFromRight}
use Rattle.nichols_braid.proofs.Rule.{skew_derivative-times_letter}
use Rattle.nichols_braid.proofs.Prefixes.{is_killed_is_ideal}
use Rattle.nichols_braid.proofs.Killed.{killed-times_letter, is_killed_sound, is_killed_complete, is_in_kernel_sound, is_in_kernel_complete, is_killed_is_linear, is_in_kernel_is_linear}

pub extended_is_linear : (k : FieldValue) → IsField k → (image : List ℕ → Combination) → IsLinearMap k (λ f. linear_map k image f)
extended_is_linear k is image = record {
  sees_values = λ f g same. same_images k is image f g same;
  keeps_sums = λ f g w. ap (λ h. value_at k h w) (linear_map-append k image f g);
  keeps_multiples = λ c f. linear_map-scalar_multiple k is image c f;
}

pub symmetrizer_is_linear : SymmetrizerIsLinear
symmetrizer_is_linear braid is = extended_is_linear braid.field is.field (lifts braid)

pub derivations_are_linear : DerivationsAreLinear
derivations_are_linear braid is a = extended_is_linear braid.field is.field (derived_word braid a)

pub derivation_rule : DerivationRule
derivation_rule braid is a b f = skew_derivative-times_letter braid is.field a b f

pub killed_is_right_ideal : KilledIsRightIdeal
killed_is_right_ideal braid is m f b letter h = killed-times_letter braid is.field is.rack m f b letter h

pub killed_is_decided : KilledIsDecided
killed_is_decided braid is m f = (is_killed_sound braid is.field m f, is_killed_complete braid m f)

pub kernel_is_decided : KernelIsDecided
kernel_is_decided braid is m f = (is_in_kernel_sound braid is.field m f, is_in_kernel_complete braid m f)

pub killed_is_linear : KilledIsLinear
killed_is_linear braid is m = is_killed_is_linear braid is.field m

pub kernel_is_linear : KernelIsLinear
kernel_is_linear braid is m = is_in_kernel_is_linear braid is.field m

pub killed_is_ideal_from_right : KilledIsIdealFromRight
killed_is_ideal_from_right braid is = is_killed_is_ideal braid is.field is.rack
