-- Products of parts with terms and factors.
use Rattle.std.proofs.Common.{◌≡◌, ◌≢◌, ◌≤◌, ◌<◌, ℕ, ◌+◌, List, [], ◌∷◌, ◌++◌, length, get_or, take, refl, sym, ◌∙◌, ap, ap₂, subst, arith, append_assoc, inr}
use Rattle.std.specs.List.{AllByRecursion, Contains}
use Rattle.std.proofs.lemmas.List.{append-nil, length-append, take_all, take_more}
use Rattle.nichols_field.specs.Field.{FieldValue, IsElement, IsField}
use Rattle.nichols_field.proofs.FieldLaws.{times_one}
use Rattle.nichols_field.proofs.Pending.{settled_is_element}
use Rattle.nichols_tensor.specs.Combination.{AllElements, Combination, HasSameValues, Term, linear_map, scalar_multiple, value_at}
use Rattle.nichols_tensor.specs.Parts.{longest}
use Rattle.nichols_tensor.specs.Product.{prefixed, product}
use Rattle.nichols_tensor.specs.Words.{HasDegree, IsOver, IsWordOver}
use Rattle.nichols_tensor.proofs.Entries.{contains_first, contains_later}
use Rattle.nichols_tensor.proofs.Linear.{linear_map-append, same_append, same_scaled}
use Rattle.nichols_tensor.proofs.Over.{all-append, all-scalar_multiple, word_over-append}
use Rattle.nichols_tensor.proofs.Products.{product_from_behind, product_over}
use Rattle.nichols_braid.specs.Braid.{BraidValue, IsBraid}
use Rattle.nichols_braid.specs.Kernel.{is_killed}
use Rattle.nichols_braid.specs.Least.{basis}
use Rattle.nichols_braid.specs.Product.{product_of}
use Rattle.nichols_braid.specs.Products.{products}
use Rattle.nichols_braid.specs.WholeForm.{normal_form_by_parts}
use Rattle.nichols_braid.proofs.BraidLaws.{killed_is_linear}
use Rattle.nichols_braid.proofs.NormalForms.{form_of_least}
use Rattle.nichols_braid.proofs.ProductListLaws.{products_are_of_words}
use Rattle.nichols_braid.proofs.Reduction.{from_basis}
use Rattle.nichols_value.specs.Block.{block_basis}
use Rattle.nichols_value.proofs.Blocks.{from_block_basis}
use Rattle.nichols_memo.specs.Forms.{form_of}
use Rattle.nichols_reduce.specs.Forms.{AreFollowed, AreSumsOf, followed_by_word}
use Rattle.nichols_reduce.specs.Sums.{combination_of}
use Rattle.nichols_reduce.proofs.ElementForms.{followed_degree, followed_over}
use Rattle.nichols_reduce.proofs.PartForms.{entry_at, longest_at, whole_by_words, whole_of, words_more}
use Rattle.nichols_reduce.proofs.ReduceLaws.{forms_are_linear, long_words_are_zero}
use Rattle.nichols_reduce.proofs.WordForms.{word_product}
use Rattle.nichols_product.specs.Parts.{AreParts, AreWithin, element_of, total}
use Rattle.nichols_product.specs.declared.parts.Part.{Part}
use Rattle.nichols_product.proofs.ProductForms.{form_of_same}
use Rattle.nichols_product.proofs.PartSums.{one_part, part_at, total-append}

abbrev whole : BraidValue → Combination → Combination
whole braid f = normal_form_by_parts is_killed braid f

-- ---- the elements of blocks

combination_among : (P : List ℕ → Type 0) (k : FieldValue) (ws : List (List ℕ)) (sums : List ℕ) → ((w : List ℕ) → Contains ws w → P w) → AllByRecursion (λ t. P t.word) (combination_of k ws sums)
unfolding combination_of
combination_among P k [] sums h = tt
combination_among P k (w ∷ ws) [] h = tt
combination_among P k (w ∷ ws) (n ∷ sums) h = (h w (contains_first w ws), combination_among P k ws sums (λ v i. h v (contains_later w ws v i)))

combination_elements : (k : FieldValue) → IsField k → (ws : List (List ℕ)) (sums : List ℕ) → AllElements k (combination_of k ws sums)
unfolding combination_of
combination_elements k is [] sums = tt
combination_elements k is (w ∷ ws) [] = tt
combination_elements k is (w ∷ ws) (n ∷ sums) = (settled_is_element k n is, combination_elements k is ws sums)

-- what is known of them
pub record IsLeast (braid : BraidValue) (f : Combination) : Type 0 where
  pub least : AllByRecursion (λ t. Contains (basis is_killed braid (length t.word)) t.word) f
  pub over : IsOver braid.letters f
  pub elements : AllElements braid.field f

pub block_degree : (braid : BraidValue) (m : ℕ) (g sums : List ℕ) → HasDegree m (combination_of braid.field (block_basis braid m g) sums)
block_degree braid m g sums = combination_among (λ w. length w ≡ m) braid.field (block_basis braid m g) sums (λ w i. (from_basis is_killed braid m w (from_block_basis braid m g w i).0).0)

pub block_is_least : (braid : BraidValue) → IsField braid.field → (m : ℕ) (g sums : List ℕ) → IsLeast braid (combination_of braid.field (block_basis braid m g) sums)
block_is_least braid is m g sums = record {
  least = combination_among (λ w. Contains (basis is_killed braid (length w)) w) braid.field (block_basis braid m g) sums
      (λ w i. let own : Contains (basis is_killed braid m) w = (from_block_basis braid m g w i).0 in subst (λ d. Contains (basis is_killed braid d) w) (sym (from_basis is_killed braid m w own).0) own);
  over = combination_among (λ w. IsWordOver braid.letters w) braid.field (block_basis braid m g) sums (λ w i. (from_basis is_killed braid m w (from_block_basis braid m g w i).0).1);
  elements = combination_elements braid.field is (block_basis braid m g) sums;
}

pub total_is_least : (braid : BraidValue) → IsField braid.field → (ps : List Part) → IsLeast braid (total braid ps)
unfolding total
total_is_least braid is [] = record { least = tt; over = tt; elements = tt }
total_is_least braid is (p ∷ ps) =
    let own : IsLeast braid (element_of braid p) = block_is_least braid is p.degree p.product p.sums.items in
    let rest : IsLeast braid (total braid ps) = total_is_least braid is ps in
    record {
      least = all-append (λ t. Contains (basis is_killed braid (length t.word)) t.word) (element_of braid p) (total braid ps) own.least rest.least;
      over = all-append (λ t. IsWordOver braid.letters t.word) (element_of braid p) (total braid ps) own.over rest.over;
      elements = all-append (λ t. IsElement braid.field t.coefficient) (element_of braid p) (total braid ps) own.elements rest.elements;
    }

-- a combination of least words is its own normal form
own_words : (braid : BraidValue) → IsBraid braid → (f : Combination) → AllByRecursion (λ t. Contains (basis is_killed braid (length t.word)) t.word) f → AllElements braid.field f → linear_map braid.field (form_of braid) f ≡ f
own_words braid is [] least elements = refl
own_words braid is (t ∷ f) least elements =
    ap₂ (λ g r. scalar_multiple braid.field t.coefficient g ++ r) (form_of_least is_killed braid is.field (length t.word) (killed_is_linear braid is (length t.word)) t.word least.0) (own_words braid is f least.1 elements.1)
    ∙ ap (λ n. record { word = t.word; coefficient = n } ∷ f) (times_one braid.field t.coefficient elements.0)

pub own_form : (braid : BraidValue) → IsBraid braid → (f : Combination) → IsLeast braid f → HasSameValues braid.field (whole braid f) f
own_form braid is f h v = whole_by_words braid is f h.over h.elements v ∙ ap (λ g. value_at braid.field g v) (own_words braid is f h.least h.elements)

-- ---- a word behind the element of a block

pub followed_there : (braid : BraidValue) (m : ℕ) (g h w v : List ℕ) (n : ℕ) → Contains (products braid m) g → IsWordOver braid.letters w → v ≡ w → n ≡ m + length v → ((u : List ℕ) → g ≡ product_of braid u → h ≡ product_of braid (u ++ v)) → Contains (products braid n) h
followed_there braid m g h w v n there over same size longer =
    let (u, degree, letters, own) = (products_are_of_words braid m g).0 there in
    word_product braid (u ++ v) h n (word_over-append braid.letters u v letters (subst (IsWordOver braid.letters) (sym same) over)) (size ∙ sym (length-append u v ∙ ap (λ d. d + length v) degree)) (longer u (sym own))

pub element_followed : (braid : BraidValue) → IsBraid braid → (m : ℕ) (g sums old v w : List ℕ) (n : ℕ) (h new : List ℕ) → length sums ≡ length (block_basis braid m g) → old ≡ sums → v ≡ w → IsWordOver braid.letters w → n ≡ m + length v → AreFollowed braid m g old v n h new →
    HasSameValues braid.field (combination_of braid.field (block_basis braid n h) new) (whole braid (followed_by_word (combination_of braid.field (block_basis braid m g) sums) w))
element_followed braid is m g sums old v w n h new width same word over size followed u =
    let k : FieldValue = braid.field in
    let f : Combination = combination_of k (block_basis braid m g) sums in
    let degree : HasDegree m f = block_degree braid m g sums in
    let least : IsLeast braid f = block_is_least braid is.field m g sums in
    let longer_size : n ≡ m + length w = size ∙ ap (λ x. m + length x) word in
    let own : AreSumsOf braid m g f old = subst (AreSumsOf braid m g f) (sym same) (record {
      width = width;
      values = λ x. sym (own_form braid is f least x) ∙ ap (λ e. value_at k e x) ((whole_of braid is f least.over).degree m degree);
    }) in
    let s : AreSumsOf braid n h (followed_by_word f w) new = (subst (λ x. AreFollowed braid m g old x n h new) word followed).sums f degree least.over own in
    s.values u ∙ ap (λ e. value_at k e u) (sym ((whole_of braid is (followed_by_word f w) (followed_over braid.letters f w least.over over)).degree n (followed_degree m n f w longer_size degree)))

-- ---- the normal form is linear

whole_sum : (braid : BraidValue) → IsBraid braid → (f g : Combination) → IsOver braid.letters f → IsOver braid.letters g → HasSameValues braid.field (whole braid (f ++ g)) (whole braid f ++ whole braid g)
whole_sum braid is f g of og = (forms_are_linear is_killed braid is (inr refl)).sums f g of og

pub whole_of_nothing : (braid : BraidValue) → IsBraid braid → HasSameValues braid.field (whole braid []) []
whole_of_nothing braid is = whole_by_words braid is [] tt tt

-- the form of a sum of images
whole_linear_map : (braid : BraidValue) → IsBraid braid → (image : List ℕ → Combination) → ((w : List ℕ) → IsWordOver braid.letters w → IsOver braid.letters (image w)) → (g : Combination) → IsOver braid.letters g →
    (IsOver braid.letters (linear_map braid.field image g)) × HasSameValues braid.field (whole braid (linear_map braid.field image g)) (linear_map braid.field (λ u. whole braid (image u)) g)
whole_linear_map braid is image h [] over = (tt, whole_of_nothing braid is)
whole_linear_map braid is image h (t ∷ g) over =
    let k : FieldValue = braid.field in
    let (rest_over, rest) = whole_linear_map braid is image h g over.1 in
    let own : IsOver braid.letters (image t.word) = h t.word over.0 in
    let first : IsOver braid.letters (scalar_multiple k t.coefficient (image t.word)) = all-scalar_multiple (IsWordOver braid.letters) k t.coefficient (image t.word) own in (
      all-append (λ u. IsWordOver braid.letters u.word) (scalar_multiple k t.coefficient (image t.word)) (linear_map k image g) first rest_over,
      λ v.
          whole_sum braid is (scalar_multiple k t.coefficient (image t.word)) (linear_map k image g) first rest_over v
          ∙ same_append k is.field (whole braid (scalar_multiple k t.coefficient (image t.word))) (whole braid (linear_map k image g)) (scalar_multiple k t.coefficient (whole braid (image t.word))) (linear_map k (λ u. whole braid (image u)) g)
          ((forms_are_linear is_killed braid is (inr refl)).multiples t.coefficient (image t.word) own) rest v,
    )

-- the form of a product, by the words of the second factor
pub product_by_words : (braid : BraidValue) → IsBraid braid → (f g : Combination) → IsOver braid.letters f → IsOver braid.letters g →
    HasSameValues braid.field (linear_map braid.field (λ u. whole braid (followed_by_word f u)) g) (whole braid (product braid.field f g))
product_by_words braid is f g of og v =
    let k : FieldValue = braid.field in
    let (over, same) = whole_linear_map braid is (followed_by_word f) (λ w ow. followed_over braid.letters f w of ow) g og in
    sym (same v)
    ∙ ap (λ e. value_at k e v) (sym (form_of_same is_killed braid is (inr refl) (product k f g) (linear_map k (followed_by_word f) g) (product_over k braid.letters f g of og) over (product_from_behind k is.field f g)))

-- ---- one term more

pub term_added : (braid : BraidValue) → IsField braid.field → (by : ℕ) (old new : List Part) (f g : Combination) → HasSameValues braid.field (total braid new) (total braid old ++ scalar_multiple braid.field by f) → HasSameValues braid.field f g → HasSameValues braid.field (total braid new) (total braid old ++ scalar_multiple braid.field by g)
term_added braid is by old new f g h same v =
    h v ∙ same_append braid.field is (total braid old) (scalar_multiple braid.field by f) (total braid old) (scalar_multiple braid.field by g) (λ u. refl) (same_scaled braid.field is by f g same) v

-- what is kept after the first i terms of a factor
pub record HasTerms (braid : BraidValue) (last : ℕ) (p : Part) (factor : Combination) (i : ℕ) (old new : List Part) : Type 0 where
  pub parts : AreParts braid last new
  pub within : (n : ℕ) → p.degree + longest factor ≤ n → AreWithin n old → AreWithin n new
  pub values : HasSameValues braid.field (total braid new) (total braid old ++ linear_map braid.field (λ u. whole braid (followed_by_word (element_of braid p) u)) (take i factor))

pub terms_none : (braid : BraidValue) (last : ℕ) (p : Part) (factor : Combination) (old : List Part) → AreParts braid last old → HasTerms braid last p factor 0 old old
terms_none braid last p factor old are = record {
  parts = are;
  within = λ n less h. h;
  values = λ v. ap (λ f. value_at braid.field f v) (sym (append-nil (total braid old)));
}

values_more : (k : FieldValue) → IsField k → (image : List ℕ → Combination) (factor : Combination) (i : ℕ) (t : Term) (start old new : Combination) → i < length factor → t ≡ get_or factor i t → HasSameValues k old (start ++ linear_map k image (take i factor)) →
    HasSameValues k new (old ++ scalar_multiple k t.coefficient (image t.word)) → HasSameValues k new (start ++ linear_map k image (take (i + 1) factor))
values_more k is image factor i t start old new less at h grown v =
    let more : Combination = scalar_multiple k t.coefficient (image t.word) in
    let first : Combination = linear_map k image (take i factor) in
    grown v
    ∙ same_append k is old more (start ++ first) more h (λ u. refl) v
    ∙ ap (λ f. value_at k f v) (append_assoc start first more ∙ ap (λ f. start ++ f) (sym (words_more k image factor i t less at)))

pub terms_more : (braid : BraidValue) → IsField braid.field → (last : ℕ) (p : Part) (factor : Combination) (i : ℕ) (t : Term) (start old new : List Part) → i < length factor → t ≡ get_or factor i t → HasTerms braid last p factor i start old → AreParts braid last new →
    ((n : ℕ) → p.degree + length t.word ≤ n → AreWithin n old → AreWithin n new) → HasSameValues braid.field (total braid new) (total braid old ++ scalar_multiple braid.field t.coefficient (whole braid (followed_by_word (element_of braid p) t.word))) →
    HasTerms braid last p factor (i + 1) start new
terms_more braid is last p factor i t start old new less at h parts within values =
    let most : length (get_or factor i t).word ≤ longest factor = longest_at factor i t less in
    let size : length t.word ≡ length (get_or factor i t).word = ap (λ (u : Term). length u.word) at in
    record {
      parts = parts;
      within = λ n reach before. within n (omega (arith, most, size, reach)) (h.within n reach before);
      values = values_more braid.field is (λ u. whole braid (followed_by_word (element_of braid p) u)) factor i t (total braid start) (total braid old) (total braid new) less at h.values values;
    }

-- what is longer than a degree without least words is zero
long_is_zero : (braid : BraidValue) → IsBraid braid → (last : ℕ) (p : Part) (w : List ℕ) → basis is_killed braid last ≡ [] → IsWordOver braid.letters w → last ≤ p.degree + length w → whole braid (followed_by_word (element_of braid p) w) ≡ []
long_is_zero braid is last p w closed over long =
    let f : Combination = element_of braid p in
    let degree : HasDegree (p.degree + length w) (followed_by_word f w) = followed_degree p.degree (p.degree + length w) f w refl (block_degree braid p.degree p.product p.sums.items) in
    long_words_are_zero is_killed braid is (inr refl) last closed (followed_by_word f w) (followed_over braid.letters f w (block_is_least braid is.field p.degree p.product p.sums.items).over over)
    (all_long (followed_by_word f w) (p.degree + length w) last degree long)
  where
    all_long : (g : Combination) (n m : ℕ) → HasDegree n g → m ≤ n → AllByRecursion (λ t. m ≤ length t.word) g
    all_long [] n m d less = tt
    all_long (t ∷ g) n m d less = (omega (arith, d.0, less), all_long g n m d.1 less)

pub terms_skipped : (braid : BraidValue) → IsBraid braid → (last : ℕ) (p : Part) (factor : Combination) (i : ℕ) (t : Term) (start old new : List Part) → IsOver braid.letters factor → (basis is_killed braid last ≢ [] → p.degree + longest factor ≤ last) → i < length factor → t ≡ get_or factor i t →
    last < p.degree + length t.word → HasTerms braid last p factor i start old → new ≡ old → HasTerms braid last p factor (i + 1) start new
terms_skipped braid is last p factor i t start old new over fits less at long h same =
    let k : FieldValue = braid.field in
    let image : List ℕ → Combination = λ u. whole braid (followed_by_word (element_of braid p) u) in
    let most : length (get_or factor i t).word ≤ longest factor = longest_at factor i t less in
    let size : length t.word ≡ length (get_or factor i t).word = ap (λ (u : Term). length u.word) at in
    let closed : basis is_killed braid last ≡ [] = empty_unless (basis is_killed braid last) (λ some. let e : p.degree + longest factor ≤ last = fits some in absurd (omega (arith, e, most, size, long))) in
    let none : image t.word ≡ [] = long_is_zero braid is last p t.word closed (entry_at (λ u. IsWordOver braid.letters u.word) factor i t over less at) (omega (arith, long)) in
    record {
      parts = subst (AreParts braid last) (sym same) h.parts;
      within = λ n reach before. subst (AreWithin n) (sym same) (h.within n reach before);
      values = values_more k is.field image factor i t (total braid start) (total braid old) (total braid new) less at h.values
          (λ v. ap (λ ps. value_at k (total braid ps) v) same ∙ ap (λ g. value_at k g v) (sym (ap (λ g. total braid old ++ scalar_multiple k t.coefficient g) none ∙ append-nil (total braid old))));
    }
  where
    empty_unless : (ws : List (List ℕ)) → (ws ≢ [] → ⊥) → ws ≡ []
    empty_unless [] h = refl
    empty_unless (w ∷ ws) h = absurd (h (λ e. let x : length (w ∷ ws) ≡ 0 = ap length e in absurd (omega (arith, x))))

-- all terms
pub terms_all : (braid : BraidValue) → IsBraid braid → (last : ℕ) (p : Part) (factor : Combination) (i : ℕ) (old new : List Part) → IsOver braid.letters factor → length factor ≤ i → HasTerms braid last p factor i old new →
    HasSameValues braid.field (total braid new) (total braid old ++ whole braid (product braid.field (element_of braid p) factor))
terms_all braid is last p factor i old new over past h v =
    let k : FieldValue = braid.field in
    let image : List ℕ → Combination = λ u. whole braid (followed_by_word (element_of braid p) u) in
    h.values v ∙ ap (λ f. value_at k (total braid old ++ linear_map k image f) v) (take_all i factor past)
    ∙ same_append k is.field (total braid old) (linear_map k image factor) (total braid old) (whole braid (product k (element_of braid p) factor)) (λ u. refl)
    (product_by_words braid is (element_of braid p) factor (block_is_least braid is.field p.degree p.product p.sums.items).over over) v

-- ---- one part more

-- what is kept after the first i parts
pub record HasProducts (braid : BraidValue) (last : ℕ) (ps : List Part) (factor : Combination) (i : ℕ) (new : List Part) : Type 0 where
  pub parts : AreParts braid last new
  pub within : (n : ℕ) → AreWithin n ps → AreWithin (n + longest factor) new
  pub values : HasSameValues braid.field (total braid new) (whole braid (product braid.field (total braid (take i ps)) factor))

pub products_none : (braid : BraidValue) → IsBraid braid → (last : ℕ) (ps : List Part) (factor : Combination) → HasProducts braid last ps factor 0 []
unfolding total product
products_none braid is last ps factor = record { parts = tt; within = λ n h. tt; values = λ v. sym (whole_of_nothing braid is v) }

product_of_both : (k : FieldValue) (f g h : Combination) → product k (f ++ g) h ≡ product k f h ++ product k g h
unfolding product
product_of_both k f g h = linear_map-append k (λ v. prefixed v h) f g

pub products_more : (braid : BraidValue) → IsBraid braid → (last : ℕ) (ps : List Part) (factor : Combination) (i : ℕ) (p : Part) (old new : List Part) → IsOver braid.letters factor → i < length ps → p ≡ get_or ps i p → HasProducts braid last ps factor i old → AreParts braid last new →
    ((n : ℕ) → p.degree + longest factor ≤ n → AreWithin n old → AreWithin n new) → HasSameValues braid.field (total braid new) (total braid old ++ whole braid (product braid.field (element_of braid p) factor)) → HasProducts braid last ps factor (i + 1) new
products_more braid is last ps factor i p old new over less at h parts within values =
    let k : FieldValue = braid.field in
    let before : Combination = total braid (take i ps) in
    let own : Combination = element_of braid p in
    let e : total braid (take (i + 1) ps) ≡ before ++ own =
    ap (total braid) (take_more ps i p less ∙ ap (λ x. take i ps ++ x ∷ []) (sym at)) ∙ total-append braid (take i ps) (p ∷ []) ∙ ap (λ f. before ++ f) (one_part braid p) in
    record {
      parts = parts;
      within = λ n all. let reach : p.degree ≤ n = part_at (λ x. x.degree ≤ n) ps i p all less at in within (n + longest factor) (omega (arith, reach)) (h.within n all);
      values = λ v.
          values v
          ∙ same_append k is.field (total braid old) (whole braid (product k own factor)) (whole braid (product k before factor)) (whole braid (product k own factor)) h.values (λ u. refl) v
          ∙ sym (whole_sum braid is (product k before factor) (product k own factor) (product_over k braid.letters before factor (total_is_least braid is.field (take i ps)).over over)
          (product_over k braid.letters own factor (block_is_least braid is.field p.degree p.product p.sums.items).over over) v)
          ∙ ap (λ f. value_at k (whole braid f) v) (sym (ap (λ f. product k f factor) e ∙ product_of_both k before own factor));
    }
