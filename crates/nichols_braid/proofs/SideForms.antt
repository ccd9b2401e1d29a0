-- The normal form of a word with one letter more is read off that of the word, and off words before it.
use Rattle.std.proofs.Common.{◌≡◌, ℕ, suc, Bool, true, false, List, [], ◌∷◌, ◌++◌, length, take, refl, sym, ◌∙◌, ap, subst, ◌⊎◌, inl, inr}
use Rattle.std.specs.List.{AllByRecursion}
use Rattle.std.specs.declared.cmp.Ordering.TheVariants.{Less}
use Rattle.nichols_field.specs.Field.{FieldValue, IsField}
use Rattle.nichols_tensor.specs.Combination.{Combination, value_at, HasSameValues, AllAmong, single, scalar_multiple, minus, linear_map}
use Rattle.nichols_tensor.specs.InOrder.{in_order}
use Rattle.nichols_tensor.specs.Words.{IsWordOver, IsOver, HasDegree}
use Rattle.nichols_tensor.specs.WordOrder.{word_cmp}
use Rattle.nichols_tensor.proofs.AllWords.{push_less, prepend_less}
use Rattle.nichols_tensor.proofs.Building.{elements-linear_map}
use Rattle.nichols_tensor.proofs.InOrder.{in_order_unique}
use Rattle.nichols_tensor.proofs.Pushed.{pushed_length, pushed_over}
use Rattle.nichols_braid.specs.Braid.{BraidValue, IsLetter}
use Rattle.nichols_braid.specs.Kernel.{Vanishing}
use Rattle.nichols_braid.specs.Least.{is_least, basis, normal_form}
use Rattle.nichols_braid.specs.LinearTest.{IsLinearTest}
use Rattle.nichols_braid.specs.RightIdealTest.{IsRightIdealTest}
use Rattle.nichols_braid.specs.LeftIdealTest.{IsLeftIdealTest}
use Rattle.nichols_braid.specs.LeastLaws.{IsNormalForm, IsOfEarlierWords}
use Rattle.nichols_braid.specs.LeftProduct.{letter_times}
use Rattle.nichols_braid.specs.RightProduct.{times_letter}
use Rattle.nichols_braid.specs.SideForms.{left_form, right_form}
use Rattle.nichols_braid.specs.NewWordLaws.{ReadsEarlierWords, IsReadFromLeft, IsReadFromRight}
use Rattle.nichols_braid.specs.NewWords.{is_new}
use Rattle.nichols_braid.proofs.Congruences.{AreCongruent, congruent_sym, congruent_trans, congruent_left}
use Rattle.nichols_braid.proofs.Degrees.{minus_degree, minus_over, times_letter_degree, times_letter_over}
use Rattle.nichols_braid.proofs.Forms.{congruent_extended, among-linear_map}
use Rattle.nichols_braid.proofs.Independence.{same_on_basis}
use Rattle.nichols_braid.proofs.LeftProducts.{letter_times-minus, letter_times_degree, letter_times_over}
use Rattle.nichols_braid.proofs.LookingBack.{normal_forms_look_back}
use Rattle.nichols_braid.proofs.Maps.{extended_identity, times_letter-minus}
use Rattle.nichols_braid.proofs.NewWords.{front_of}
use Rattle.nichols_braid.proofs.NormalForms.{form_is_normal, form_of_class}
use Rattle.nichols_braid.proofs.Reduction.{from_basis}
use Rattle.nichols_braid.proofs.WholeForms.{least_have_degree}
use Rattle.std.proofs.lemmas.Bool.{and_cases}

-- ---- the normal form of a combination, word by word

form_by_words : (vanishes : Vanishing) (braid : BraidValue) → IsField braid.field → (m : ℕ) → IsLinearTest braid.field (vanishes braid m) → (f : Combination) → HasDegree m f → IsOver braid.letters f →
    HasSameValues braid.field (normal_form vanishes braid m f) (linear_map braid.field (λ u. normal_form vanishes braid m (single u)) f)
form_by_words vanishes braid is m l f degree over =
    let normal : IsNormalForm vanishes braid m f (normal_form vanishes braid m f) = form_is_normal vanishes braid is m l f degree over in
    same_on_basis vanishes braid is m l (normal_form vanishes braid m f) (linear_map k form f) normal.least (among-linear_map k form f (basis vanishes braid m) (least f degree over))
    (congruent_trans k is test l (normal_form vanishes braid m f) f (linear_map k form f) (congruent_sym k is test l f (normal_form vanishes braid m f) normal.congruent)
    (congruent_left k is test l (linear_map k single f) f (linear_map k form f) (extended_identity k is f) (congruent_extended k is test l single form f (congruent f degree over))))
  where
    k : FieldValue
    k = braid.field

    test : Combination → Bool
    test = vanishes braid m

    form : List ℕ → Combination
    form u = normal_form vanishes braid m (single u)

    least : (f : Combination) → HasDegree m f → IsOver braid.letters f → AllByRecursion (λ t. AllAmong (form t.word) (basis vanishes braid m)) f
    least [] d o = tt
    least (t ∷ f) d o = ((form_is_normal vanishes braid is m l (single t.word) (d.0, tt) (o.0, tt)).least, least f d.1 o.1)

    congruent : (f : Combination) → HasDegree m f → IsOver braid.letters f → AllByRecursion (λ t. AreCongruent k test (single t.word) (form t.word)) f
    congruent [] d o = tt
    congruent (t ∷ f) d o = ((form_is_normal vanishes braid is m l (single t.word) (d.0, tt) (o.0, tt)).congruent, congruent f d.1 o.1)

-- ---- the degrees and letters of a combination of least words

basis_over : (vanishes : Vanishing) (braid : BraidValue) (m : ℕ) (f : Combination) → AllAmong f (basis vanishes braid m) → IsOver braid.letters f
unfolding AllAmong
basis_over vanishes braid m [] h = tt
basis_over vanishes braid m (t ∷ f) h = ((from_basis vanishes braid m t.word h.0).1, basis_over vanishes braid m f h.1)

-- ---- one letter more

linear_map-fronted : (k : FieldValue) (image : List ℕ → Combination) (a : ℕ) (f : Combination) → linear_map k image (letter_times a f) ≡ linear_map k (λ u. image (a ∷ u)) f
linear_map-fronted k image a [] = refl
linear_map-fronted k image a (t ∷ f) = ap (λ r. scalar_multiple k t.coefficient (image (a ∷ t.word)) ++ r) (linear_map-fronted k image a f)

linear_map-pushed : (k : FieldValue) (image : List ℕ → Combination) (f : Combination) (b : ℕ) → linear_map k image (times_letter f b) ≡ linear_map k (λ u. image (u ++ b ∷ [])) f
linear_map-pushed k image [] b = refl
linear_map-pushed k image (t ∷ f) b = ap (λ r. scalar_multiple k t.coefficient (image (t.word ++ b ∷ [])) ++ r) (linear_map-pushed k image f b)

-- the normal form of a word that is congruent to a combination of words has the forms of these, put in order
ordered_by_words : (vanishes : Vanishing) (braid : BraidValue) → IsField braid.field → (m : ℕ) → IsLinearTest braid.field (vanishes braid m) → (w : List ℕ) (f : Combination) → length w ≡ m → IsWordOver braid.letters w → HasDegree m f → IsOver braid.letters f →
    AreCongruent braid.field (vanishes braid m) (single w) f → normal_form vanishes braid m (single w) ≡ in_order braid.field (linear_map braid.field (λ u. normal_form vanishes braid m (single u)) f)
ordered_by_words vanishes braid is m l w f size letters degree over h =
    let k : FieldValue = braid.field in
    let by_words : Combination = linear_map k (λ u. normal_form vanishes braid m (single u)) f in
    let normal : IsNormalForm vanishes braid m (single w) (normal_form vanishes braid m (single w)) = form_is_normal vanishes braid is m l (single w) (size, tt) (letters, tt) in
    in_order_unique k is by_words (normal_form vanishes braid m (single w)) (elements-linear_map k is (λ u. normal_form vanishes braid m (single u)) f) normal.elements normal.ordered
    (λ v. ap (λ g. value_at k g v) (form_of_class vanishes braid is m l (single w) f h) ∙ form_by_words vanishes braid is m l f degree over v)

pub left_form_is_normal : (vanishes : Vanishing) (braid : BraidValue) → IsField braid.field → IsLeftIdealTest braid (vanishes braid) → (m a : ℕ) (w : List ℕ) → IsLetter braid a → length w ≡ m → IsWordOver braid.letters w →
    normal_form vanishes braid (suc m) (single (a ∷ w)) ≡ in_order braid.field (left_form vanishes braid m a w)
left_form_is_normal vanishes braid is ideal m a w letter size over =
    let k : FieldValue = braid.field in
    let form : Combination = normal_form vanishes braid m (single w) in
    let normal : IsNormalForm vanishes braid m (single w) form = form_is_normal vanishes braid is m (ideal.linear m) (single w) (size, tt) (over, tt) in
    let degree : HasDegree m form = least_have_degree vanishes braid m form normal.least in
    let letters : IsOver braid.letters form = basis_over vanishes braid m form normal.least in
    ordered_by_words vanishes braid is (suc m) (ideal.linear (suc m)) (a ∷ w) (letter_times a form) (ap suc size) (letter, over) (letter_times_degree m a form degree) (letter_times_over braid.letters a form letter letters)
    (subst (λ f. vanishes braid (suc m) f ≡ true) (letter_times-minus k a (single w) form)
    (ideal.left m (minus k (single w) form) a (minus_degree k m (single w) form (size, tt) degree) (minus_over k braid.letters (single w) form (over, tt) letters) letter normal.congruent))
    ∙ ap (in_order k) (linear_map-fronted k (λ u. normal_form vanishes braid (suc m) (single u)) a form)

pub right_form_is_normal : (vanishes : Vanishing) (braid : BraidValue) → IsField braid.field → IsRightIdealTest braid (vanishes braid) → (m : ℕ) (w : List ℕ) (b : ℕ) → length w ≡ m → IsWordOver braid.letters w → IsLetter braid b →
    normal_form vanishes braid (suc m) (single (w ++ b ∷ [])) ≡ in_order braid.field (right_form vanishes braid m w b)
right_form_is_normal vanishes braid is ideal m w b size over letter =
    let k : FieldValue = braid.field in
    let form : Combination = normal_form vanishes braid m (single w) in
    let normal : IsNormalForm vanishes braid m (single w) form = form_is_normal vanishes braid is m (ideal.linear m) (single w) (size, tt) (over, tt) in
    let degree : HasDegree m form = least_have_degree vanishes braid m form normal.least in
    let letters : IsOver braid.letters form = basis_over vanishes braid m form normal.least in
    ordered_by_words vanishes braid is (suc m) (ideal.linear (suc m)) (w ++ b ∷ []) (times_letter form b) (pushed_length w b ∙ ap suc size) (pushed_over braid.letters w b over letter) (times_letter_degree m form b degree) (times_letter_over braid.letters form b letter letters)
    (subst (λ f. vanishes braid (suc m) f ≡ true) (times_letter-minus k (single w) form b)
    (ideal.right m (minus k (single w) form) b (minus_degree k m (single w) form (size, tt) degree) (minus_over k braid.letters (single w) form (over, tt) letters) letter normal.congruent))
    ∙ ap (in_order k) (linear_map-pushed k (λ u. normal_form vanishes braid (suc m) (single u)) form b)

-- ---- what is read stands before

pub reads_earlier : (vanishes : Vanishing) (braid : BraidValue) → IsField braid.field → (w : List ℕ) → IsLinearTest braid.field (vanishes braid (length w)) → IsWordOver braid.letters w → is_least vanishes braid w ≡ false →
    ReadsEarlierWords vanishes braid w
reads_earlier vanishes braid is w l over least = record {
  left = λ a. fronted a (normal_form vanishes braid (length w) (single w)) back.degree back.earlier;
  right = λ b. pushed b (normal_form vanishes braid (length w) (single w)) back.degree back.earlier;
}
  where
    back : IsOfEarlierWords braid w (normal_form vanishes braid (length w) (single w))
    back = (normal_forms_look_back vanishes braid is w over l).1 least

    fronted : (a : ℕ) (f : Combination) → HasDegree (length w) f → AllByRecursion (λ t. word_cmp t.word w ≡ Less) f → AllByRecursion (λ t. word_cmp (a ∷ t.word) (a ∷ w) ≡ Less) f
    fronted a [] d h = tt
    fronted a (t ∷ f) d h = (prepend_less a t.word w d.0 h.0, fronted a f d.1 h.1)

    pushed : (b : ℕ) (f : Combination) → HasDegree (length w) f → AllByRecursion (λ t. word_cmp t.word w ≡ Less) f → AllByRecursion (λ t. word_cmp (t.word ++ b ∷ []) (w ++ b ∷ []) ≡ Less) f
    pushed b [] d h = tt
    pushed b (t ∷ f) d h = (push_less t.word w b b d.0 h.0, pushed b f d.1 h.1)

-- ---- words that aren't new

not_new : (vanishes : Vanishing) (braid : BraidValue) (a : ℕ) (v : List ℕ) (b : ℕ) → is_new vanishes braid (a ∷ v ++ b ∷ []) ≡ false → (is_least vanishes braid (v ++ b ∷ []) ≡ false) ⊎ (is_least vanishes braid (a ∷ v) ≡ false)
unfolding is_new
not_new vanishes braid a v b h =
    elim (and_cases (is_least vanishes braid (take (length (v ++ b ∷ [])) (a ∷ v ++ b ∷ []))) (is_least vanishes braid (v ++ b ∷ [])) h) [
      | inl front ↦ inr (ap (is_least vanishes braid) (sym (front_of a (v ++ b ∷ []) (a ∷ v) b refl)) ∙ front)
      | inr behind ↦ inl behind
    ]

pub other_word_is_read : (vanishes : Vanishing) (braid : BraidValue) → IsField braid.field → IsRightIdealTest braid (vanishes braid) → IsLeftIdealTest braid (vanishes braid) →
    (a : ℕ) (v : List ℕ) (b : ℕ) → IsLetter braid a → IsWordOver braid.letters v → IsLetter braid b → is_new vanishes braid (a ∷ v ++ b ∷ []) ≡ false →
    IsReadFromLeft vanishes braid a (v ++ b ∷ []) ⊎ IsReadFromRight vanishes braid (a ∷ v) b
other_word_is_read vanishes braid is right left a v b la over lb h =
    let behind : IsWordOver braid.letters (v ++ b ∷ []) = pushed_over braid.letters v b over lb in
    elim (not_new vanishes braid a v b h) [
      | inl least ↦ inl
          (record {
            not_least = least;
            form = left_form_is_normal vanishes braid is left (length (v ++ b ∷ [])) a (v ++ b ∷ []) la refl behind;
            earlier = (reads_earlier vanishes braid is (v ++ b ∷ []) (left.linear (length (v ++ b ∷ []))) behind least).left a;
          })
      | inr least ↦ inr
          (record {
            not_least = least;
            form = right_form_is_normal vanishes braid is right (length (a ∷ v)) (a ∷ v) b refl (la, over) lb;
            earlier = (reads_earlier vanishes braid is (a ∷ v) (right.linear (length (a ∷ v))) (la, over) least).right b;
          })
    ]
