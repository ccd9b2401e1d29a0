-- Degree 0: its one word, the empty one, is least, and there are no relations.
use Rattle.std.proofs.Common.{◌≡◌, ℕ, ◌≤◌, Bool, true, false, not, cond, List, [], ◌∷◌, length, map, sym, ◌∙◌, ap, subst, arith}
use Rattle.std.specs.List.{filter}
use Rattle.std.specs.declared.cmp.Ordering.TheVariants.{Less}
use Rattle.nichols_field.specs.Field.{FieldValue, IsField}
use Rattle.nichols_field.proofs.FieldLaws.{plus_zero, one_is_element}
use Rattle.nichols_tensor.specs.Combination.{Combination, IsZero, AllElements, AllAmong, single, minus}
use Rattle.nichols_tensor.specs.Words.{IsWordOver, words, words_before}
use Rattle.nichols_tensor.specs.WordOrder.{word_cmp}
use Rattle.nichols_tensor.proofs.Order.{less_is_other}
use Rattle.nichols_tensor.proofs.AllWords.{from_words_before}
use Rattle.nichols_braid.specs.Braid.{BraidValue}
use Rattle.nichols_braid.specs.Kernel.{Vanishing, is_killed}
use Rattle.nichols_braid.specs.Least.{is_least, basis, relations}
use Rattle.nichols_braid.specs.Product.{has_product}
use Rattle.nichols_braid.specs.Products.{rows}
use Rattle.nichols_braid.proofs.Killed.{is_killed_sound}
use Rattle.nichols_braid.proofs.Congruences.{AreCongruent}
use Rattle.nichols_braid.proofs.LeastWords.{least_unless}
use Rattle.nichols_braid.proofs.Candidates.{candidates_first, relations_are, relation_at}
use Rattle.std.proofs.lemmas.List.{nil_from_length}

one_is_zero : (k : FieldValue) → IsField k → IsZero k (minus k (single []) []) → ⊥
one_is_zero k is h = let c : ◌≡◌ {A = ℕ} 1 0 = sym (plus_zero k 1 (one_is_element k is)) ∙ h [] in cc

pub empty_word_is_least : (braid : BraidValue) → IsField braid.field → is_least is_killed braid [] ≡ true
unfolding AllAmong
empty_word_is_least braid is = least_unless is_killed braid [] none
  where
    none : (f : Combination) → AllAmong f (words_before braid.letters []) → AllElements braid.field f → AreCongruent braid.field (is_killed braid 0) (single []) f → ⊥
    none [] among elements h = one_is_zero braid.field is (is_killed_sound braid is 0 (minus braid.field (single []) []) h)
    none (t ∷ f) among elements h =
        let from : (length t.word ≡ 0) × IsWordOver braid.letters t.word × (word_cmp t.word [] ≡ Less) = from_words_before braid.letters t.word [] among.0 in
        less_is_other t.word [] from.2 (nil_from_length t.word from.0)

pub basis_first : (braid : BraidValue) → IsField braid.field → basis is_killed braid 0 ≡ [] ∷ []
unfolding basis words
basis_first braid is = ap (λ b. cond b ([] ∷ []) []) (empty_word_is_least braid is)

pub relations_first : (braid : BraidValue) → IsField braid.field → relations is_killed braid 0 ≡ []
relations_first braid is =
    relations_are is_killed braid 0
    ∙ ap (λ ws. map (relation_at is_killed braid 0) (filter (λ w. not (is_least is_killed braid w)) ws)) (candidates_first is_killed braid)
    ∙ ap (λ b. map (relation_at is_killed braid 0) (cond (not b) ([] ∷ []) [])) (empty_word_is_least braid is)

-- a product has the empty word or no row
pub first_rows : (vanishes : Vanishing) (braid : BraidValue) (g : List ℕ) → rows vanishes braid 0 g ≤ 1
unfolding rows
first_rows vanishes braid g = subst (λ n. n ≤ 1) (ap (λ ws. length (filter (has_product braid g) ws)) (sym (candidates_first vanishes braid))) (at (has_product braid g []))
  where
    at : (b : Bool) → length {A = List ℕ} (cond b ([] ∷ []) []) ≤ 1
    at true = omega arith
    at false = omega arith
