-- The laws of new words, each as its statement has it.
use Rattle.nichols_braid.specs.NewWordLaws.{FirstNewWords, NewWordsAreCandidates, LeastWordsAreNew, LeftFormsAreNormal, RightFormsAreNormal, FormsReadEarlierWords, OtherWordsAreRead}
use Rattle.nichols_braid.proofs.NewWords.{new_words_first, new_words_second, is_candidate_list, least_is_new, basis_among_new}
use Rattle.nichols_braid.proofs.SideForms.{left_form_is_normal, right_form_is_normal, reads_earlier, other_word_is_read}

pub first_new_words : FirstNewWords
first_new_words vanishes braid = (new_words_first vanishes braid, new_words_second vanishes braid)

pub new_words_are_candidates : NewWordsAreCandidates
new_words_are_candidates vanishes braid m = is_candidate_list vanishes braid m

pub least_words_are_new : LeastWordsAreNew
least_words_are_new vanishes braid is right left = (least_is_new vanishes braid is right left, basis_among_new vanishes braid is right left)

pub left_forms_are_normal : LeftFormsAreNormal
left_forms_are_normal vanishes braid is ideal m a w letter size over = left_form_is_normal vanishes braid is ideal m a w letter size over

pub right_forms_are_normal : RightFormsAreNormal
right_forms_are_normal vanishes braid is ideal m w b size over letter = right_form_is_normal vanishes braid is ideal m w b size over letter

pub forms_read_earlier_words : FormsReadEarlierWords
forms_read_earlier_words vanishes braid is w over l least = reads_earlier vanishes braid is w l over least

pub other_words_are_read : OtherWordsAreRead
other_words_are_read vanishes braid is right left a v b la over lb h = other_word_is_read vanishes braid is right left a v b la over lb h
