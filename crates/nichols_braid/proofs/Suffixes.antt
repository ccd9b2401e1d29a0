-- Where what vanishes is a left ideal, suffixes of least words are least.
use Rattle.std.proofs.Common.{◌≡◌, ℕ, suc, true, List, [], ◌∷◌, ◌++◌, length, refl, sym, ◌∙◌, ap}
use Rattle.nichols_field.specs.Field.{FieldValue, IsField}
use Rattle.nichols_tensor.specs.Combination.{Combination, AllAmong, single, minus}
use Rattle.nichols_tensor.specs.Words.{IsLetterOf, IsWordOver, words_before}
use Rattle.nichols_tensor.proofs.AllWords.{in_words_before, from_words_before, prepend_less}
use Rattle.nichols_braid.specs.Braid.{BraidValue}
use Rattle.nichols_braid.specs.Kernel.{Vanishing}
use Rattle.nichols_braid.specs.Least.{is_least}
use Rattle.nichols_braid.specs.LeastLaws.{IsOfEarlierWords}
use Rattle.nichols_braid.specs.LeftIdealTest.{IsLeftIdealTest}
use Rattle.nichols_braid.specs.LeftProduct.{letter_times}
use Rattle.nichols_braid.proofs.Degrees.{minus_degree, minus_over}
use Rattle.nichols_braid.proofs.LeastWords.{least_refutes, least_unless, earlier_from_among}
use Rattle.nichols_braid.proofs.LeftProducts.{letter_times-minus}

fronted_among : (n b : ℕ) (v : List ℕ) → IsLetterOf n b → (g : Combination) → AllAmong g (words_before n v) → AllAmong (letter_times b g) (words_before n (b ∷ v))
unfolding AllAmong
fronted_among n b v l [] h = tt
fronted_among n b v l (t ∷ g) h =
    let (size, over, less) = from_words_before n t.word v h.0 in
    (in_words_before n (b ∷ t.word) (b ∷ v) (ap suc size) (l, over) (prepend_less b t.word v size less), fronted_among n b v l g h.1)

-- what is behind the first letter of a least word
rest_is_least : (braid : BraidValue) → IsField braid.field → (vanishes : Vanishing) → IsLeftIdealTest braid (vanishes braid) → (b : ℕ) (v : List ℕ) → IsWordOver braid.letters (b ∷ v) →
    is_least vanishes braid (b ∷ v) ≡ true → is_least vanishes braid v ≡ true
rest_is_least braid is vanishes ideal b v over least =
    least_unless vanishes braid v (λ g among elements h.
    let k : FieldValue = braid.field in
    let earlier : IsOfEarlierWords braid v g = earlier_from_among braid v g among in
    let fronted : vanishes braid (suc (length v)) (letter_times b (minus k (single v) g)) ≡ true =
    ideal.left (length v) (minus k (single v) g) b (minus_degree k (length v) (single v) g (refl, tt) earlier.degree) (minus_over k braid.letters (single v) g (over.1, tt) earlier.over) over.0 h in
    least_refutes vanishes braid is (b ∷ v) (ideal.linear (suc (length v))) least (letter_times b g) (fronted_among braid.letters b v over.0 g among)
    (ap (vanishes braid (suc (length v))) (sym (letter_times-minus k b (single v) g)) ∙ fronted))

pub suffix_is_least : (braid : BraidValue) → IsField braid.field → (vanishes : Vanishing) → IsLeftIdealTest braid (vanishes braid) → (u v : List ℕ) → IsWordOver braid.letters (u ++ v) → is_least vanishes braid (u ++ v) ≡ true → is_least vanishes braid v ≡ true
suffix_is_least braid is vanishes ideal [] v over least = least
suffix_is_least braid is vanishes ideal (b ∷ u) v over least = suffix_is_least braid is vanishes ideal u v over.1 (rest_is_least braid is vanishes ideal b (u ++ v) over least)
