-- Both readings of what is zero give the same algebra, and each of them is an ideal.
use Rattle.std.proofs.Common.{suc, sym, subst, inl, inr}
use Rattle.nichols_braid.specs.Braid.{BraidValue, IsBraid}
use Rattle.nichols_braid.specs.Kernel.{Vanishing, is_in_kernel, is_killed}
use Rattle.nichols_braid.specs.RightIdealTest.{IsRightIdealTest}
use Rattle.nichols_braid.specs.RightProduct.{times_letter}
use Rattle.nichols_braid.proofs.Agreement.{read_alike}
use Rattle.nichols_braid.proofs.Killed.{is_in_kernel_sound, is_in_kernel_complete, is_in_kernel_is_linear}
use Rattle.nichols_braid.proofs.Prefixes.{is_killed_is_ideal}
use Rattle.nichols_lift.specs.Reading.{IsReading, HasOneReading}
use Rattle.nichols_lift.proofs.Kernel.{tests_agree, in_kernel-times_letter}

pub one_reading : (braid : BraidValue) → IsBraid braid → HasOneReading braid
one_reading braid is = record { agree = tests_agree braid is; alike = read_alike is_in_kernel is_killed braid (tests_agree braid is) }

pub is_in_kernel_is_ideal : (braid : BraidValue) → IsBraid braid → IsRightIdealTest braid (is_in_kernel braid)
is_in_kernel_is_ideal braid is = record {
  linear = is_in_kernel_is_linear braid is.field;
  right = λ m f b degree over letter h.
      is_in_kernel_complete braid (suc m) (times_letter f b) (in_kernel-times_letter braid is m f b degree over letter (is_in_kernel_sound braid is.field m f h));
}

pub reading_is_ideal : (braid : BraidValue) → IsBraid braid → (vanishes : Vanishing) → IsReading vanishes → IsRightIdealTest braid (vanishes braid)
reading_is_ideal braid is vanishes (inl e) = subst (λ v. IsRightIdealTest braid (v braid)) (sym e) (is_in_kernel_is_ideal braid is)
reading_is_ideal braid is vanishes (inr e) = subst (λ v. IsRightIdealTest braid (v braid)) (sym e) (is_killed_is_ideal braid is.field is.rack)
