-- What an answer unfolds to compute what a literal certificate certifies.
use Rattle.std.specs.Prelude.{⊤}
use Rattle.nichols_tensor.specs.Combination.{is_zero}
use Rattle.nichols_tensor.specs.Words.{words, words_before, combinations}
use Rattle.nichols_braid.specs.Derivation.{derived_word}
use Rattle.nichols_braid.specs.Forms.{derived_form}
use Rattle.nichols_braid.specs.Kernel.{is_killed}
use Rattle.nichols_braid.specs.Least.{are_congruent, is_least, basis, normal_form, candidates}
use Rattle.nichols_input.proofs.OnLiterals.{input_on_literals}
use Rattle.nichols_check.specs.Table.{paired, tested}
use Rattle.nichols_check.specs.TableRefusal.{rises, are_candidates, has_form, has_array, form_refused, inverse_refused, table_refusal}
use Rattle.nichols_check.specs.Texts.{word_of, combination_of, table_in}
use Rattle.nichols_check.specs.Certificate.{certified_from, certified}

unfoldable pub check_on_literals : ⊤
unfolding input_on_literals is_zero words words_before combinations derived_word derived_form is_killed are_congruent is_least basis normal_form candidates paired tested rises are_candidates has_form has_array form_refused inverse_refused table_refusal word_of combination_of table_in certified_from certified
check_on_literals = tt
