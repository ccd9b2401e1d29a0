-- What an answer unfolds to compute the reading of a literal text.
use Rattle.std.specs.Prelude.{⊤}
use Rattle.nichols_field.proofs.OnLiterals.{field_on_literals}
use Rattle.nichols_tensor.specs.InOrder.{with_term, rising_terms, in_order}
use Rattle.nichols_expression.specs.Reader.{run_at, past_run, past_spaces, letters_at, number_at, pair_at, word_at, term_at, terms_at, read_terms, expression_of}
use Rattle.nichols_braid.specs.Order.{entries_before}
use Rattle.std.specs.Fmt.{digits}

unfoldable pub reader_on_literals : ⊤
unfolding field_on_literals digits with_term rising_terms in_order run_at past_run past_spaces letters_at number_at pair_at word_at term_at terms_at read_terms expression_of entries_before
reader_on_literals = tt
