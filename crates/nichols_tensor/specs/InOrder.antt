-- Combinations brought into order.
use Rattle.std.specs.Prelude.{[], ◌∷◌}
use Rattle.std.specs.declared.cmp.Ordering.TheVariants.{Less, Equal, Greater}
use Rattle.nichols_field.specs.Field.{FieldValue, plus}
use Rattle.nichols_tensor.specs.Combination.{Term, Combination, without_zeros}
use Rattle.nichols_tensor.specs.WordOrder.{word_cmp}

-- a term at its place among terms whose words rise: before those of later words, added to one of its own word
unfoldable pub with_term : FieldValue → Term → Combination → Combination
with_term field t [] = t ∷ []
with_term field t (u ∷ f) =
    elim (word_cmp t.word u.word) [
      | Less ↦ t ∷ u ∷ f
      | Equal ↦ record { word = u.word; coefficient = plus field t.coefficient u.coefficient } ∷ f
      | Greater ↦ u ∷ with_term field t f
    ]

-- terms whose words rise, with the same values: one term after the other is put at its place
unfoldable pub rising_terms : FieldValue → Combination → Combination
rising_terms field [] = []
rising_terms field (t ∷ f) = with_term field t (rising_terms field f)

-- the combination in order that has the same values
unfoldable pub in_order : FieldValue → Combination → Combination
in_order field f = without_zeros (rising_terms field f)
