-- The test of being zero: it says yes exactly where the value is 0 at every word.
use Rattle.std.proofs.Common.{◌≡◌, true, nat_eq, ◌∙◌, ap, inl, inr}
use Rattle.std.proofs.lemmas.Bool.Decides.{Decides-eqb}
use Rattle.nichols_field.specs.Field.{FieldValue, IsField}
use Rattle.nichols_tensor.specs.Combination.{Combination, value_at, IsZero, is_zero, words_of}
use Rattle.nichols_tensor.proofs.Entries.{from_map, each_of, of_each}
use Rattle.nichols_tensor.proofs.Ordered.{is_in_or_not, zero_at_others}

pub is_zero_sound : (k : FieldValue) → IsField k → (f : Combination) → is_zero k f ≡ true → IsZero k f
unfolding is_zero
is_zero_sound k is f h w =
    elim (is_in_or_not w (words_of f)) [
      | inl i ↦
          let (t, j, e) = from_map (λ t. t.word) w f i in
          ap (value_at k f) e ∙ (Decides-eqb (value_at k f t.word) 0).0 (of_each (λ u. nat_eq (value_at k f u.word) 0) t f h j)
      | inr none ↦ zero_at_others k is f w none
    ]

pub is_zero_complete : (k : FieldValue) (f : Combination) → IsZero k f → is_zero k f ≡ true
unfolding is_zero
is_zero_complete k f h = each_of (λ t. nat_eq (value_at k f t.word) 0) f (λ t i. (Decides-eqb (value_at k f t.word) 0).1 (h t.word))
