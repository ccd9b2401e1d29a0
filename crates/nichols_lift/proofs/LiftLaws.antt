-- The laws of this crate, each as its statement has it.
use Rattle.std.proofs.Common.{◌≡◌, true, [], sym, ◌∙◌, subst, inl, inr}
use Rattle.nichols_braid.specs.Least.{is_least}
use Rattle.nichols_braid.proofs.FirstDegree as first
use Rattle.nichols_braid.proofs.Prefixes.{prefix_is_least, basis_word_is_candidate, stays_empty}
use Rattle.nichols_braid.proofs.Reduction.{in_basis}
use Rattle.nichols_braid.proofs.Suffixes.{suffix_is_least}
use Rattle.nichols_lift.specs.Laws.{ReducedListsAgree, SymmetrizerFactors, KernelByDerivations, KernelIsRightIdeal, KernelIsLeftIdeal, ReadingsAgree, ReadingsAreIdeals, EmptyWordIsLeast, PrefixesAreLeast, SuffixesAreLeast, LeastWordsAreCandidates, EmptyDegreesStayEmpty}
use Rattle.nichols_lift.proofs.Factorisation.{factors}
use Rattle.nichols_lift.proofs.Kernel.{killed_in_kernel, in_kernel_killed, in_kernel-times_letter}
use Rattle.nichols_lift.proofs.Readings.{one_reading, reading_is_ideal}
use Rattle.nichols_lift.proofs.LeftReadings.{in_kernel-letter_times, reading_is_left_ideal}
use Rattle.nichols_lift.proofs.Reduced.{reduced_list, lift_is_closed}

pub reduced_lists_agree : ReducedListsAgree
reduced_lists_agree braid is m ends w arranged size over =
    (lift_is_closed braid is m ends w arranged size over, λ places h. reduced_list braid is m places ends w arranged size over h ∙ sym (lift_is_closed braid is m ends w arranged size over))

pub symmetrizer_factors : SymmetrizerFactors
symmetrizer_factors braid is m f degree over = factors braid is m f degree over

pub kernel_by_derivations : KernelByDerivations
kernel_by_derivations braid is m f degree over = (killed_in_kernel braid is m f degree over, in_kernel_killed braid is m f degree over)

pub kernel_is_right_ideal : KernelIsRightIdeal
kernel_is_right_ideal braid is m f b degree over letter h = in_kernel-times_letter braid is m f b degree over letter h

pub kernel_is_left_ideal : KernelIsLeftIdeal
kernel_is_left_ideal braid is m f b degree over letter h = in_kernel-letter_times braid is m f b degree over letter h

pub readings_agree : ReadingsAgree
readings_agree braid is = one_reading braid is

pub readings_are_ideals : ReadingsAreIdeals
readings_are_ideals braid is vanishes reading = (reading_is_ideal braid is vanishes reading, reading_is_left_ideal braid is vanishes reading)

pub empty_word_is_least : EmptyWordIsLeast
empty_word_is_least braid is vanishes (inl e) = subst (λ v. is_least v braid [] ≡ true) (sym e) ((one_reading braid is).alike.least [] tt ∙ first.empty_word_is_least braid is.field)
empty_word_is_least braid is vanishes (inr e) = subst (λ v. is_least v braid [] ≡ true) (sym e) (first.empty_word_is_least braid is.field)

pub prefixes_are_least : PrefixesAreLeast
prefixes_are_least braid is vanishes reading u v over least = prefix_is_least braid is.field vanishes (reading_is_ideal braid is vanishes reading) u v over least

pub suffixes_are_least : SuffixesAreLeast
suffixes_are_least braid is vanishes reading u v over least = suffix_is_least braid is.field vanishes (reading_is_left_ideal braid is vanishes reading) u v over least

pub least_words_are_candidates : LeastWordsAreCandidates
least_words_are_candidates braid is vanishes reading m w size over least =
    basis_word_is_candidate braid is.field vanishes (reading_is_ideal braid is vanishes reading) m w (in_basis vanishes braid m w size over least)

pub empty_degrees_stay_empty : EmptyDegreesStayEmpty
empty_degrees_stay_empty braid is vanishes reading m n less none = stays_empty braid is.field vanishes (reading_is_ideal braid is vanishes reading) m n less none
