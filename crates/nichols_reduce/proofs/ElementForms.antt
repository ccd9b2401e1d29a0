-- Elements of one block followed by letters, as sums over the least words of their blocks.
use Rattle.std.proofs.Common.{◌≡◌, ℕ, suc, ◌+◌, ◌<◌, true, List, [], ◌∷◌, ◌++◌, length, get_or, take, replicate, refl, sym, ◌∙◌, ap, ap₂, subst, arith, append_assoc}
use Rattle.std.proofs.lemmas.List.{append-nil, length-append, length-take-le, take_more}
use Rattle.std.specs.List.{Contains}
use Rattle.nichols_field.specs.Field.{FieldValue, IsField, plus}
use Rattle.nichols_field.proofs.FieldAlgebra.{zero_plus}
use Rattle.nichols_tensor.specs.Combination.{AllAmong, AllElements, Combination, HasSameValues, minus, scalar_multiple, linear_map, single, value_at}
use Rattle.nichols_tensor.specs.Words.{HasDegree, IsOver, IsWordOver}
use Rattle.nichols_tensor.proofs.Linear.{same_images}
use Rattle.nichols_tensor.proofs.Over.{letter_over, word_over-append, word_over-take}
use Rattle.nichols_tensor.proofs.Pushed.{pushed_length}
use Rattle.nichols_tensor.proofs.Values.{value_is_element, value_at-append}
use Rattle.nichols_braid.specs.Braid.{BraidValue, IsBraid, IsLetter}
use Rattle.nichols_braid.specs.Kernel.{is_killed}
use Rattle.nichols_braid.specs.Least.{basis, normal_form}
use Rattle.nichols_braid.specs.LeastLaws.{IsNormalForm}
use Rattle.nichols_braid.specs.Product.{product_after, product_before, product_of}
use Rattle.nichols_braid.specs.Products.{products}
use Rattle.nichols_braid.specs.RightIdealTest.{IsRightIdealTest}
use Rattle.nichols_braid.specs.RightProduct.{times_letter}
use Rattle.nichols_braid.proofs.BraidLaws.{killed_is_ideal_from_right}
use Rattle.nichols_braid.proofs.Degrees.{minus_degree, minus_over, times_letter_degree, times_letter_over}
use Rattle.nichols_braid.proofs.Maps.{times_letter-minus}
use Rattle.nichols_braid.proofs.NormalForms.{form_is_normal, form_of_class}
use Rattle.nichols_braid.proofs.ProductListLaws.{product_after_a_letter, products_are_of_words}
use Rattle.nichols_braid.proofs.Reduction.{from_basis}
use Rattle.nichols_braid.proofs.WholeForms.{least_have_degree}
use Rattle.nichols_value.specs.Block.{block_basis, lower_basis}
use Rattle.nichols_value.specs.Rule.{IsRuleOf, PlainRule, below_in}
use Rattle.nichols_value.proofs.Blocks.{lower_basis_is, product_before_of}
use Rattle.nichols_value.proofs.RuleEntries.{basis_is, below_is, key_is}
use Rattle.nichols_memo.specs.Forms.{form_of}
use Rattle.nichols_reduce.specs.Forms.{AreFollowed, AreSumsOf, followed_by_letter, followed_by_word}
use Rattle.nichols_reduce.specs.Sums.{HasGrownBy, combination_of}
use Rattle.nichols_reduce.proofs.GrowingSums.{zeros_are_zero}
use Rattle.nichols_reduce.proofs.PartForms.{whole_by_words, whole_of}

-- ---- the normal form of f x_b, from that of f

least_over : (braid : BraidValue) (m : ℕ) (f : Combination) → AllAmong f (basis is_killed braid m) → IsOver braid.letters f
unfolding AllAmong
least_over braid m [] h = tt
least_over braid m (t ∷ f) h = ((from_basis is_killed braid m t.word h.0).1, least_over braid m f h.1)

elements_pushed : (k : FieldValue) (f : Combination) (b : ℕ) → AllElements k f → AllElements k (times_letter f b)
elements_pushed k [] b h = tt
elements_pushed k (t ∷ f) b h = (h.0, elements_pushed k f b h.1)

forms_pushed : (braid : BraidValue) (m : ℕ) (f : Combination) (b : ℕ) → HasDegree m f → followed_by_letter braid (suc m) f b ≡ linear_map braid.field (form_of braid) (times_letter f b)
forms_pushed braid m [] b d = refl
forms_pushed braid m (t ∷ f) b d =
    ap₂ (λ n r. scalar_multiple braid.field t.coefficient (normal_form is_killed braid n (single (t.word ++ b ∷ []))) ++ r) (sym (pushed_length t.word b ∙ ap suc d.0)) (forms_pushed braid m f b d.1)

form_followed : (braid : BraidValue) → IsBraid braid → (m : ℕ) (f : Combination) (b : ℕ) → HasDegree m f → IsOver braid.letters f → IsLetter braid b →
    HasSameValues braid.field (followed_by_letter braid (suc m) (normal_form is_killed braid m f) b) (normal_form is_killed braid (suc m) (times_letter f b))
form_followed braid is m f b degree over letter v =
    let k : FieldValue = braid.field in
    let ideal : IsRightIdealTest braid (is_killed braid) = killed_is_ideal_from_right braid is in
    let form : Combination = normal_form is_killed braid m f in
    let normal : IsNormalForm is_killed braid m f form = form_is_normal is_killed braid is.field m (ideal.linear m) f degree over in
    let form_degree : HasDegree m form = least_have_degree is_killed braid m form normal.least in
    let form_over : IsOver braid.letters form = least_over braid m form normal.least in
    let behind : Combination = times_letter form b in
    let behind_over : IsOver braid.letters behind = times_letter_over braid.letters form b letter form_over in
    ap (λ g. value_at k g v) (forms_pushed braid m form b form_degree)
    ∙ sym (whole_by_words braid is behind behind_over (elements_pushed k form b normal.elements) v)
    ∙ ap (λ g. value_at k g v) ((whole_of braid is behind behind_over).degree (suc m) (times_letter_degree m form b form_degree))
    ∙ ap (λ g. value_at k g v) (sym (form_of_class is_killed braid is.field (suc m) (ideal.linear (suc m)) (times_letter f b) behind
    (subst (λ g. is_killed braid (suc m) g ≡ true) (times_letter-minus k f form b)
    (ideal.right m (minus k f form) b (minus_degree k m f form degree form_degree) (minus_over k braid.letters f form over form_over) letter normal.congruent))))

-- ---- one letter more

-- what sums that grew from 0 stand for
grown_from_zero : (k : FieldValue) → IsField k → (ws : List (List ℕ)) (zeros new : List ℕ) (n : ℕ) (f : Combination) → zeros ≡ replicate n 0 → HasGrownBy k ws zeros f new → HasSameValues k (combination_of k ws new) f
grown_from_zero k is ws zeros new n f e h v =
    h.values v ∙ value_at-append k is (combination_of k ws zeros) f v
    ∙ ap (λ a. plus k a (value_at k f v)) (ap (λ ns. value_at k (combination_of k ws ns) v) e ∙ zeros_are_zero k is ws n v)
    ∙ zero_plus k (value_at k f v) (value_is_element k is f v)

-- a rule of the block of degree m + 1 and product g: its degree, its least words, and those of its lower block by a letter
pub record IsRuleAbove (braid : BraidValue) (m : ℕ) (g : List ℕ) (letter : ℕ) (r : PlainRule) : Type 0 where
  pub own : IsRuleOf braid r.key.degree r.key.product r
  pub degree : r.key.degree ≡ suc m
  pub basis : r.basis ≡ block_basis braid (suc m) g
  pub below : below_in r letter ≡ block_basis braid m (product_before braid letter g)

pub rule_above : (braid : BraidValue) (m d : ℕ) (g : List ℕ) (letter : ℕ) (r : PlainRule) → IsLetter braid letter → d ≡ suc m → IsRuleOf braid d g r → IsRuleAbove braid m g letter r
rule_above braid m d g letter r over d_is e =
    let key : _ = key_is braid d g r e in
    record {
      own = subst (λ n. IsRuleOf braid n r.key.product r) (sym (ap (λ k. k.degree) key)) (subst (λ h. IsRuleOf braid d h r) (sym (ap (λ k. k.product) key)) e);
      degree = ap (λ k. k.degree) key ∙ d_is;
      basis = basis_is braid d g r e ∙ ap (λ n. block_basis braid n g) d_is;
      below = below_is braid d g r e letter over ∙ ap (λ n. lower_basis braid n g letter) d_is ∙ lower_basis_is braid m g letter;
    }

pub letter_followed : (braid : BraidValue) → IsBraid braid → (m : ℕ) (g : List ℕ) (letter : ℕ) (r : PlainRule) → IsLetter braid letter → IsRuleAbove braid m g letter r → (form zeros new : List ℕ) (n : ℕ) → zeros ≡ replicate n 0 →
    HasGrownBy braid.field r.basis zeros (followed_by_letter braid r.key.degree (combination_of braid.field (below_in r letter) form) letter) new → AreFollowed braid m (product_before braid letter g) form (letter ∷ []) (suc m) g new
letter_followed braid is m g letter r over p form zeros new n e grown =
    let k : FieldValue = braid.field in
    let ws : List (List ℕ) = block_basis braid (suc m) g in
    let us : List (List ℕ) = block_basis braid m (product_before braid letter g) in
    let own : HasGrownBy k ws zeros (followed_by_letter braid (suc m) (combination_of k us form) letter) new =
    subst (λ vs. HasGrownBy k vs zeros (followed_by_letter braid (suc m) (combination_of k us form) letter) new) p.basis
    (subst (λ d. HasGrownBy k r.basis zeros (followed_by_letter braid d (combination_of k us form) letter) new) p.degree
    (subst (λ vs. HasGrownBy k r.basis zeros (followed_by_letter braid r.key.degree (combination_of k vs form) letter) new) p.below grown)) in
    record {
      width = own.width;
      sums = λ f degree f_over h. record {
        width = own.width;
        values = λ v.
            grown_from_zero k is.field ws zeros new n (followed_by_letter braid (suc m) (combination_of k us form) letter) e own v
            ∙ same_images k is.field (λ u. normal_form is_killed braid (suc m) (single (u ++ letter ∷ []))) (combination_of k us form) (normal_form is_killed braid m f) h.values v
            ∙ form_followed braid is m f letter degree f_over over v;
      };
    }

-- ---- letters after letters

followed-append : (f : Combination) (u w : List ℕ) → followed_by_word (followed_by_word f u) w ≡ followed_by_word f (u ++ w)
followed-append [] u w = refl
followed-append (t ∷ f) u w = ap₂ (λ (v : List ℕ) (r : Combination). record { word = v; coefficient = t.coefficient } ∷ r) (append_assoc t.word u w) (followed-append f u w)

followed_by_nothing : (f : Combination) → followed_by_word f [] ≡ f
followed_by_nothing [] = refl
followed_by_nothing (t ∷ f) = ap₂ (λ (v : List ℕ) (r : Combination). record { word = v; coefficient = t.coefficient } ∷ r) (append-nil t.word) (followed_by_nothing f)

pub followed_degree : (m n : ℕ) (f : Combination) (w : List ℕ) → n ≡ m + length w → HasDegree m f → HasDegree n (followed_by_word f w)
followed_degree m n [] w e d = tt
followed_degree m n (t ∷ f) w e d = (length-append t.word w ∙ ap (λ i. i + length w) d.0 ∙ sym e, followed_degree m n f w e d.1)

pub followed_over : (n : ℕ) (f : Combination) (w : List ℕ) → IsOver n f → IsWordOver n w → IsOver n (followed_by_word f w)
followed_over n [] w of ow = tt
followed_over n (t ∷ f) w of ow = (word_over-append n t.word w of.0 ow, followed_over n f w of.1 ow)

-- no letters
pub nothing_followed : (braid : BraidValue) (m n : ℕ) (g old : List ℕ) → m ≡ n → length old ≡ length (block_basis braid m g) → AreFollowed braid m g old [] n g old
nothing_followed braid m n g old same width =
    subst (λ d. AreFollowed braid m g old [] d g old) same
    (record { width = width; sums = λ f degree over h. subst (λ e. AreSumsOf braid m g e old) (sym (followed_by_nothing f)) h })

pub twice_followed : (braid : BraidValue) (m n d : ℕ) (g old u h mid w i new : List ℕ) → n ≡ m + length u → IsWordOver braid.letters u → AreFollowed braid m g old u n h mid → AreFollowed braid n h mid w d i new → AreFollowed braid m g old (u ++ w) d i new
twice_followed braid m n d g old u h mid w i new size over first second = record {
  width = second.width;
  sums = λ f degree f_over s.
      subst (λ e. AreSumsOf braid d i e new) (followed-append f u w)
      (second.sums (followed_by_word f u) (followed_degree m n f u size degree) (followed_over braid.letters f u f_over over) (first.sums f degree f_over s));
}

-- ---- the blocks on the way

-- what is known after the first i letters of w, which follow the elements of the block of degree m and product g
pub record HasRead (braid : BraidValue) (m : ℕ) (g old w : List ℕ) (i : ℕ) (h new : List ℕ) : Type 0 where
  pub there : Contains (products braid (m + i)) h
  pub word : (u : List ℕ) → g ≡ product_of braid u → h ≡ product_of braid (u ++ take i w)
  pub followed : AreFollowed braid m g old (take i w) (m + i) h new

pub read_none : (braid : BraidValue) (m : ℕ) (g old w : List ℕ) → Contains (products braid m) g → length old ≡ length (block_basis braid m g) → HasRead braid m g old w 0 g old
read_none braid m g old w there width = record {
  there = subst (λ d. Contains (products braid d) g) (omega arith) there;
  word = λ u e. e ∙ ap (product_of braid) (sym (append-nil u));
  followed = nothing_followed braid m (m + 0) g old (omega arith) width;
}

-- the product after a letter is one of the next degree, and the product before that letter is the one before
pub record IsAbove (braid : BraidValue) (m : ℕ) (h : List ℕ) (letter : ℕ) (g : List ℕ) : Type 0 where
  pub there : Contains (products braid (suc m)) g
  pub before : product_before braid letter g ≡ h

pub above_is : (braid : BraidValue) → IsBraid braid → (m : ℕ) (h : List ℕ) (letter : ℕ) (g : List ℕ) → Contains (products braid m) h → IsLetter braid letter → g ≡ product_after braid letter h → IsAbove braid m h letter g
above_is braid is m h letter g there over e =
    let (u, size, letters, own) = (products_are_of_words braid m h).0 there in
    let product : product_of braid (u ++ letter ∷ []) ≡ g = sym (product_after_a_letter braid is u letter over) ∙ ap (product_after braid letter) own ∙ sym e in
    record {
      there = (products_are_of_words braid (suc m) g).1 (u ++ letter ∷ [], pushed_length u letter ∙ ap suc size, word_over-append braid.letters u (letter ∷ []) letters (over, tt), product);
      before = sym (product_before_of braid is g letter over u letters product) ∙ own;
    }

pub read_more : (braid : BraidValue) → IsBraid braid → (m : ℕ) (g old w : List ℕ) (i letter d : ℕ) (h mid k new : List ℕ) → IsWordOver braid.letters w → i < length w → letter ≡ get_or w i 0 → d ≡ m + i → HasRead braid m g old w i h mid →
    k ≡ product_after braid letter h → AreFollowed braid d (product_before braid letter k) mid (letter ∷ []) (suc d) k new → HasRead braid m g old w (i + 1) k new
read_more braid is m g old w i letter d h mid k new over less at size r product followed =
    let lb : IsLetter braid letter = subst (IsLetter braid) (sym at) (letter_over braid.letters w i over less) in
    let above : IsAbove braid (m + i) h letter k = above_is braid is (m + i) h letter k r.there lb product in
    let longer : take (i + 1) w ≡ take i w ++ letter ∷ [] = take_more w i 0 less ∙ ap (λ x. take i w ++ x ∷ []) (sym at) in
    let next : suc d ≡ m + (i + 1) = omega (arith, size) in
    let count : m + i ≡ m + length (take i w) = ap (λ n. m + n) (sym (length-take-le i w (omega arith))) in
    record {
      there = subst (λ n. Contains (products braid n) k) (omega arith) above.there;
      word = λ u e.
          product ∙ ap (product_after braid letter) (r.word u e) ∙ product_after_a_letter braid is (u ++ take i w) letter lb
          ∙ ap (product_of braid) (append_assoc u (take i w) (letter ∷ []) ∙ ap (λ x. u ++ x) (sym longer));
      followed = subst (λ x. AreFollowed braid m g old x (m + (i + 1)) k new) (sym longer)
          (twice_followed braid m (m + i) (m + (i + 1)) g old (take i w) h mid (letter ∷ []) k new count (word_over-take braid.letters i w over) r.followed
          (subst (λ n. AreFollowed braid (m + i) h mid (letter ∷ []) n k new) next
          (subst (λ n. AreFollowed braid n h mid (letter ∷ []) (suc d) k new) size
          (subst (λ x. AreFollowed braid d x mid (letter ∷ []) (suc d) k new) above.before followed))));
    }
