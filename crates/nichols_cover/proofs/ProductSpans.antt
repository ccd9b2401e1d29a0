-- What candidates have of the ideal: the span of the products of least words two degrees below with the generators.
use Rattle.std.proofs.Common.{◌≡◌, ℕ, suc, ◌+◌, Bool, true, List, [], ◌∷◌, ◌++◌, map, length, take, drop, refl, sym, ◌∙◌, ap, ap₂, subst, arith, append_assoc}
use Rattle.std.specs.List.{AllByRecursion, Contains}
use Rattle.std.proofs.lemmas.List.{append-nil}
use Rattle.std.proofs.Math.Seq.{take-append_seam, drop-append_seam}
use Rattle.nichols_field.specs.Field.{FieldValue, IsField, negative}
use Rattle.nichols_tensor.specs.Combination.{Combination, value_at, HasSameValues, IsZero, AllAmong, single, scalar_multiple, minus, linear_map}
use Rattle.nichols_tensor.specs.Words.{up_to, IsWordOver, IsOver, HasDegree}
use Rattle.nichols_tensor.proofs.Entries.{from_map, from_flat_map}
use Rattle.nichols_tensor.proofs.Letters.{from_up_to}
use Rattle.nichols_tensor.proofs.Linear.{linear_map-append, linear_map-scalar_multiple, linear_map-single, same_images, same_append, same_from_minus}
use Rattle.nichols_tensor.proofs.Maps.{zero_images}
use Rattle.nichols_tensor.proofs.Over.{all_at, word_over_front}
use Rattle.nichols_tensor.proofs.Pushed.{last_letter, pushed_length, over_pushed}
use Rattle.nichols_braid.specs.Braid.{BraidValue, IsLetter}
use Rattle.nichols_braid.specs.Least.{is_least, basis, normal_form, candidates}
use Rattle.nichols_braid.specs.LeastLaws.{IsNormalForm}
use Rattle.nichols_braid.specs.LinearTest.{IsLinearTest}
use Rattle.nichols_braid.specs.RightProduct.{times_letter}
use Rattle.nichols_braid.proofs.Candidates.{candidates_next}
use Rattle.nichols_braid.proofs.Congruences.{AreCongruent, passes_too, zero_passes, congruent_left, congruent_sym, congruent_trans}
use Rattle.nichols_braid.proofs.Degrees.{minus_degree, minus_over, times_letter_degree, times_letter_over}
use Rattle.nichols_braid.proofs.Forms.{congruent_extended, among-linear_map}
use Rattle.nichols_braid.proofs.Independence.{same_on_basis}
use Rattle.nichols_braid.proofs.Maps.{extended_same_on, extended_identity, linear_map-linear_map, times_letter-append, times_letter-scalar_multiple, times_letter-minus, times_letter_is_zero}
use Rattle.nichols_braid.proofs.NormalForms.{form_is_normal, form_of_least, form_of_zero}
use Rattle.nichols_braid.proofs.Reduction.{from_basis}
use Rattle.nichols_braid.proofs.Spanning.{split_last}
use Rattle.nichols_tensor.specs.Product.{prefixed, product}
use Rattle.nichols_tensor.proofs.Products.{suffixed, product_from_behind}
use Rattle.nichols_tensor.specs.Span.{IsSpanned}
use Rattle.nichols_cover.specs.Ideal.{IsBetween, between, in_ideal}
use Rattle.nichols_cover.specs.Products.{followed, to_candidates, IsProduct}
use Rattle.nichols_cover.specs.Laws.{IsQuadratic, ProductsOfLeastWordsSuffice}
use Rattle.nichols_tensor.proofs.Spans.{linear_map_is_linear, spanned_same, spanned_one, spanned_words, spanned_image}
use Rattle.nichols_cover.proofs.Shapes.{least_degree, least_over, between_degree, between_over}
use Rattle.nichols_cover.proofs.InIdeal.{ideal_is_decided, ideal_is_right_ideal}

-- ---- words with the normal form of all letters but the last

between_nothing : (f : Combination) (b : ℕ) → between [] f (b ∷ []) ≡ times_letter f b
between_nothing [] b = refl
between_nothing (t ∷ f) b = ap (λ r. record { word = t.word ++ b ∷ []; coefficient = t.coefficient } ∷ r) (between_nothing f b)

pub followed_word : (rs : List Combination) (braid : BraidValue) (d : ℕ) (x : List ℕ) (b : ℕ) → length x ≡ d → followed rs braid d (x ++ b ∷ []) ≡ times_letter (normal_form (in_ideal rs) braid d (single x)) b
unfolding followed
followed_word rs braid d x b size =
    ap₂ (λ (u v : List ℕ). between [] (normal_form (in_ideal rs) braid d (single u)) v)
    (ap (λ n. take n (x ++ b ∷ [])) (sym size) ∙ take-append_seam x (b ∷ [])) (ap (λ n. drop n (x ++ b ∷ [])) (sym size) ∙ drop-append_seam x (b ∷ []))
    ∙ between_nothing (normal_form (in_ideal rs) braid d (single x)) b

-- the sum of the normal forms of the words, with the letter behind
followed_sum : (rs : List Combination) (braid : BraidValue) (d : ℕ) (h : Combination) (b : ℕ) → HasDegree d h →
    to_candidates rs braid d (times_letter h b) ≡ times_letter (linear_map braid.field (λ w. normal_form (in_ideal rs) braid d (single w)) h) b
followed_sum rs braid d [] b size = refl
followed_sum rs braid d (t ∷ h) b size =
    let form : Combination = normal_form (in_ideal rs) braid d (single t.word) in
    ap₂ (λ (x y : Combination). x ++ y)
    (ap (scalar_multiple braid.field t.coefficient) (followed_word rs braid d t.word b size.0) ∙ sym (times_letter-scalar_multiple braid.field t.coefficient form b))
    (followed_sum rs braid d h b size.1)
    ∙ sym (times_letter-append (scalar_multiple braid.field t.coefficient form) (linear_map braid.field (λ w. normal_form (in_ideal rs) braid d (single w)) h) b)

-- ---- sums of normal forms

forms_congruent : (rs : List Combination) (braid : BraidValue) → IsField braid.field → (d : ℕ) (h : Combination) → HasDegree d h → IsOver braid.letters h →
    AllByRecursion (λ t. AreCongruent braid.field (in_ideal rs braid d) (single t.word) (normal_form (in_ideal rs) braid d (single t.word))) h
forms_congruent rs braid is d [] size over = tt
forms_congruent rs braid is d (t ∷ h) size over = (
  (form_is_normal (in_ideal rs) braid is d ((ideal_is_right_ideal rs braid is).linear d) (single t.word) (size.0, tt) (over.0, tt)).congruent,
  forms_congruent rs braid is d h size.1 over.1,
)

forms_among : (rs : List Combination) (braid : BraidValue) → IsField braid.field → (d : ℕ) (h : Combination) → HasDegree d h → IsOver braid.letters h →
    AllByRecursion (λ t. AllAmong (normal_form (in_ideal rs) braid d (single t.word)) (basis (in_ideal rs) braid d)) h
forms_among rs braid is d [] size over = tt
forms_among rs braid is d (t ∷ h) size over = (
  (form_is_normal (in_ideal rs) braid is d ((ideal_is_right_ideal rs braid is).linear d) (single t.word) (size.0, tt) (over.0, tt)).least,
  forms_among rs braid is d h size.1 over.1,
)

-- the sum of the normal forms of the words is the normal form
sum_of_forms : (rs : List Combination) (braid : BraidValue) → IsField braid.field → (d : ℕ) (h : Combination) → HasDegree d h → IsOver braid.letters h →
    HasSameValues braid.field (linear_map braid.field (λ w. normal_form (in_ideal rs) braid d (single w)) h) (normal_form (in_ideal rs) braid d h)
sum_of_forms rs braid is d h size over =
    let k : FieldValue = braid.field in
    let l : IsLinearTest braid.field (in_ideal rs braid d) = (ideal_is_right_ideal rs braid is).linear d in
    let form : List ℕ → Combination = λ w. normal_form (in_ideal rs) braid d (single w) in
    let n : IsNormalForm (in_ideal rs) braid d h (normal_form (in_ideal rs) braid d h) = form_is_normal (in_ideal rs) braid is d l h size over in
    same_on_basis (in_ideal rs) braid is d l (linear_map k form h) (normal_form (in_ideal rs) braid d h)
    (among-linear_map k form h (basis (in_ideal rs) braid d) (forms_among rs braid is d h size over)) n.least
    (congruent_trans k is (in_ideal rs braid d) l (linear_map k form h) h (normal_form (in_ideal rs) braid d h)
    (congruent_sym k is (in_ideal rs braid d) l h (linear_map k form h)
    (congruent_left k is (in_ideal rs braid d) l (linear_map k single h) h (linear_map k form h) (extended_identity k is h)
    (congruent_extended k is (in_ideal rs braid d) l single form h (forms_congruent rs braid is d h size over))))
    n.congruent)

-- so what is in the ideal, with a letter behind, becomes zero
ideal_becomes_zero : (rs : List Combination) (braid : BraidValue) → IsField braid.field → (d : ℕ) (h : Combination) (b : ℕ) → HasDegree d h → IsOver braid.letters h → in_ideal rs braid d h ≡ true →
    IsZero braid.field (to_candidates rs braid d (times_letter h b))
ideal_becomes_zero rs braid is d h b size over inside =
    let l : IsLinearTest braid.field (in_ideal rs braid d) = (ideal_is_right_ideal rs braid is).linear d in
    subst (IsZero braid.field) (sym (followed_sum rs braid d h b size))
    (times_letter_is_zero braid.field is (linear_map braid.field (λ w. normal_form (in_ideal rs) braid d (single w)) h) b
    (λ w. sum_of_forms rs braid is d h size over w ∙ ap (λ f. value_at braid.field f w) (form_of_zero (in_ideal rs) braid is d l h inside)))

-- ---- candidates stay

candidate_parts : (rs : List Combination) (braid : BraidValue) (m : ℕ) (w : List ℕ) → Contains (candidates (in_ideal rs) braid (suc m)) w → (u : List ℕ) × (b : ℕ) × Contains (basis (in_ideal rs) braid m) u × IsLetter braid b × (w ≡ u ++ b ∷ [])
candidate_parts rs braid m w i =
    let (u, j, k) = from_flat_map (λ v. map (λ a. v ++ a ∷ []) (up_to braid.letters)) w (basis (in_ideal rs) braid m) (subst (λ ws. Contains ws w) (candidates_next (in_ideal rs) braid m) i) in
    let (b, l, e) = from_map (λ a. u ++ a ∷ []) w (up_to braid.letters) k in
    (u, b, j, from_up_to braid.letters b l, e)

candidates_stay : (rs : List Combination) (braid : BraidValue) → IsField braid.field → (m : ℕ) (f : Combination) → AllAmong f (candidates (in_ideal rs) braid (suc m)) → HasSameValues braid.field (to_candidates rs braid m f) f
unfolding AllAmong
candidates_stay rs braid is m f among w = extended_same_on braid.field is (followed rs braid m) single f (each f among) w ∙ extended_identity braid.field is f w
  where
    at : (w : List ℕ) → Contains (candidates (in_ideal rs) braid (suc m)) w → followed rs braid m w ≡ single w
    at w i =
        let (u, b, j, letter, e) = candidate_parts rs braid m w i in
        ap (followed rs braid m) e ∙ followed_word rs braid m u b (from_basis (in_ideal rs) braid m u j).0
        ∙ ap (λ f. times_letter f b) (form_of_least (in_ideal rs) braid is m ((ideal_is_right_ideal rs braid is).linear m) u j) ∙ ap single (sym e)

    each : (f : Combination) → AllAmong f (candidates (in_ideal rs) braid (suc m)) → AllByRecursion (λ t. HasSameValues braid.field (followed rs braid m t.word) (single t.word)) f
    each [] h = tt
    each (t ∷ f) h = ((λ v. ap (λ g. value_at braid.field g v) (at t.word h.0)), each f h.1)

-- ---- a product of any word with a generator

suffixed_twice : (f : Combination) (x y : ℕ) → suffixed f (x ∷ y ∷ []) ≡ times_letter (times_letter f x) y
suffixed_twice [] x y = refl
suffixed_twice (t ∷ f) x y = ap₂ (λ (w : List ℕ) (r : Combination). record { word = w; coefficient = t.coefficient } ∷ r) (sym (append_assoc t.word (x ∷ []) (y ∷ []))) (suffixed_twice f x y)

-- what is in the ideal, with a generator behind, becomes zero
product_becomes_zero : (rs : List Combination) (braid : BraidValue) → IsField braid.field → (m : ℕ) (f r : Combination) → HasDegree m f → IsOver braid.letters f → in_ideal rs braid m f ≡ true → HasDegree 2 r → IsOver braid.letters r →
    IsZero braid.field (to_candidates rs braid (suc m) (product braid.field f r))
product_becomes_zero rs braid is m f r size over inside rsize rover w =
    let k : FieldValue = braid.field in
    same_images k is (followed rs braid (suc m)) (product k f r) (linear_map k (λ u. suffixed f u) r) (product_from_behind k is f r) w
    ∙ linear_map-linear_map k is (λ u. suffixed f u) (followed rs braid (suc m)) r w
    ∙ zero_images k is (λ u. to_candidates rs braid (suc m) (suffixed f u)) r (each r rsize rover) w
  where
    at : (u : List ℕ) → length u ≡ 2 → IsWordOver braid.letters u → IsZero braid.field (to_candidates rs braid (suc m) (suffixed f u))
    at [] e o = absurd (omega arith)
    at (x ∷ []) e o = absurd (omega arith)
    at (x ∷ y ∷ []) e o =
        subst (λ g. IsZero braid.field (to_candidates rs braid (suc m) g)) (sym (suffixed_twice f x y))
        (ideal_becomes_zero rs braid is (suc m) (times_letter f x) y (times_letter_degree m f x size) (times_letter_over braid.letters f x o.0 over)
        ((ideal_is_right_ideal rs braid is).right m f x size over o.0 inside))
    at (x ∷ y ∷ z ∷ u) e o = absurd (omega arith)

    each : (r : Combination) → HasDegree 2 r → IsOver braid.letters r → AllByRecursion (λ t. IsZero braid.field (to_candidates rs braid (suc m) (suffixed f t.word))) r
    each [] h o = tt
    each (t ∷ r) h o = (at t.word h.0 o.0, each r h.1 o.1)

generator_shape : (braid : BraidValue) (rs : List Combination) → AllByRecursion (IsQuadratic braid.letters) rs → (r : Combination) → Contains rs r → HasDegree 2 r × IsOver braid.letters r
generator_shape braid rs shapes r i = all_at (λ r. HasDegree 2 r × IsOver braid.letters r) rs r shapes i

word_product_spanned : (rs : List Combination) (braid : BraidValue) → IsField braid.field → AllByRecursion (IsQuadratic braid.letters) rs → (m : ℕ) (u : List ℕ) (r : Combination) → length u ≡ m → IsWordOver braid.letters u → Contains rs r →
    IsSpanned braid.field (IsProduct rs braid m) (to_candidates rs braid (suc m) (prefixed u r))
unfolding product AllAmong
word_product_spanned rs braid is shapes m u r size over listed =
    let k : FieldValue = braid.field in
    let l : IsLinearTest braid.field (in_ideal rs braid m) = (ideal_is_right_ideal rs braid is).linear m in
    let g : Combination = normal_form (in_ideal rs) braid m (single u) in
    let n : IsNormalForm (in_ideal rs) braid m (single u) (normal_form (in_ideal rs) braid m (single u)) = form_is_normal (in_ideal rs) braid is m l (single u) (size, tt) (over, tt) in
    let shape : HasDegree 2 r × IsOver braid.letters r = generator_shape braid rs shapes r listed in
    let image : List ℕ → Combination = λ v. to_candidates rs braid (suc m) (prefixed v r) in
    let zero : IsZero braid.field (linear_map braid.field (λ v. to_candidates rs braid (suc m) (prefixed v r)) (minus braid.field (single u) (normal_form (in_ideal rs) braid m (single u)))) =
    λ w. sym (linear_map-linear_map k is (λ v. prefixed v r) (followed rs braid (suc m)) (minus k (single u) g) w)
    ∙ product_becomes_zero rs braid is m (minus k (single u) g) r (minus_degree k m (single u) g (size, tt) (least_degree (in_ideal rs) braid m g n.least)) (minus_over k braid.letters (single u) g (over, tt) (least_over (in_ideal rs) braid m g n.least)) n.congruent shape.0 shape.1 w in
    spanned_same k (IsProduct rs braid m) (image u) (linear_map k image g)
    (λ w. sym (linear_map-single k is image u w) ∙ same_from_minus k is (linear_map k image (single u)) (linear_map k image g)
    (λ v. sym (minus_image k is image (single u) g v) ∙ zero v) w)
    (spanned_words k is (IsProduct rs braid m) image g (rows g n.least))
  where
    rows : (g : Combination) → AllAmong g (basis (in_ideal rs) braid m) → AllByRecursion (λ t. IsSpanned braid.field (IsProduct rs braid m) (to_candidates rs braid (suc m) (prefixed t.word r))) g
    rows [] h = tt
    rows (t ∷ g) h = (spanned_one braid.field is (IsProduct rs braid m) (to_candidates rs braid (suc m) (prefixed t.word r)) (t.word, r, h.0, listed, refl), rows g h.1)

    minus_image : (k : FieldValue) → IsField k → (image : List ℕ → Combination) (f g : Combination) → HasSameValues k (linear_map k image (minus k f g)) (minus k (linear_map k image f) (linear_map k image g))
    minus_image k is image f g w =
        ap (λ x. value_at k x w) (linear_map-append k image f (scalar_multiple k (negative k 1) g))
        ∙ same_append k is (linear_map k image f) (linear_map k image (scalar_multiple k (negative k 1) g)) (linear_map k image f) (scalar_multiple k (negative k 1) (linear_map k image g)) (λ v. refl) (linear_map-scalar_multiple k is image (negative k 1) g) w

-- ---- u r v

between_end : (u : List ℕ) (r : Combination) → between u r [] ≡ prefixed u r
between_end u [] = refl
between_end u (t ∷ r) = ap₂ (λ (w : List ℕ) (f : Combination). record { word = w; coefficient = t.coefficient } ∷ f) (append-nil (u ++ t.word)) (between_end u r)

between_last : (u : List ℕ) (r : Combination) (v : List ℕ) (b : ℕ) → between u r (v ++ b ∷ []) ≡ times_letter (between u r v) b
between_last u [] v b = refl
between_last u (t ∷ r) v b = ap₂ (λ (w : List ℕ) (f : Combination). record { word = w; coefficient = t.coefficient } ∷ f) (sym (append_assoc (u ++ t.word) v (b ∷ []))) (between_last u r v b)

between_spanned : (rs : List Combination) (braid : BraidValue) → IsField braid.field → AllByRecursion (IsQuadratic braid.letters) rs → (m : ℕ) (g : Combination) → IsBetween braid.letters (Contains rs) (suc (suc m)) g →
    IsSpanned braid.field (IsProduct rs braid m) (to_candidates rs braid (suc m) g)
between_spanned rs braid is shapes m g s = at s.back s.back_over s.size s.is
  where
    shape : HasDegree 2 s.middle × IsOver braid.letters s.middle
    shape = generator_shape braid rs shapes s.middle s.of

    at : (v : List ℕ) → IsWordOver braid.letters v → length s.front + 2 + length v ≡ suc (suc m) → g ≡ between s.front s.middle v → IsSpanned braid.field (IsProduct rs braid m) (to_candidates rs braid (suc m) g)
    at [] ov size e =
        let short : length s.front ≡ m = omega arith in
        subst (λ f. IsSpanned braid.field (IsProduct rs braid m) (to_candidates rs braid (suc m) f)) (sym (e ∙ between_end s.front s.middle)) (word_product_spanned rs braid is shapes m s.front s.middle short s.front_over s.of)
    at (x ∷ v) ov size e =
        let (u, b, d) = last_letter x v in
        let whole : IsWordOver braid.letters (u ++ b ∷ []) = subst (IsWordOver braid.letters) d ov in
        let longer : length (u ++ b ∷ []) ≡ suc (length u) = pushed_length u b in
        let same : suc (length v) ≡ length (u ++ b ∷ []) = ap length d in
        let short : length s.front + 2 + length u ≡ suc m = omega arith in
        let h : Combination = between s.front s.middle u in
        let inside : in_ideal rs braid (suc m) (between s.front s.middle u) ≡ true =
        (ideal_is_decided rs braid is (suc m) (between s.front s.middle u)).1
        (spanned_one braid.field is (IsBetween braid.letters (Contains rs) (suc m)) (between s.front s.middle u)
        ((record {
          front = s.front;
          middle = s.middle;
          back = u;
          front_over = s.front_over;
          back_over = word_over_front braid.letters u (b ∷ []) whole;
          of = s.of;
          size = short;
          is = refl;
        }))) in
        subst (λ f. IsSpanned braid.field (IsProduct rs braid m) (to_candidates rs braid (suc m) f)) (sym (e ∙ ap (between s.front s.middle) d ∙ between_last s.front s.middle u b))
        (IsSpanned.none (to_candidates rs braid (suc m) (times_letter h b))
        (ideal_becomes_zero rs braid is (suc m) h b (between_degree (suc m) s.front s.middle u shape.0 short)
        (between_over braid.letters s.front s.middle u s.front_over shape.1 (word_over_front braid.letters u (b ∷ []) whole)) inside))

-- ---- products are in the ideal

word_congruent : (rs : List Combination) (braid : BraidValue) → IsField braid.field → (d : ℕ) (w : List ℕ) → length w ≡ suc d → IsWordOver braid.letters w → AreCongruent braid.field (in_ideal rs braid (suc d)) (single w) (followed rs braid d w)
unfolding AllAmong
word_congruent rs braid is d w size over =
    let (x, b, e) = split_last d w size in
    let whole : IsWordOver braid.letters (x ++ b ∷ []) = subst (IsWordOver braid.letters) e over in
    let own : IsWordOver braid.letters x × IsLetter braid b = over_pushed braid.letters x b whole in
    let longer : length (x ++ b ∷ []) ≡ suc (length x) = pushed_length x b in
    let same : length w ≡ length (x ++ b ∷ []) = ap length e in
    let short : length x ≡ d = omega arith in
    let form : Combination = normal_form (in_ideal rs) braid d (single x) in
    let n : IsNormalForm (in_ideal rs) braid d (single x) (normal_form (in_ideal rs) braid d (single x)) = form_is_normal (in_ideal rs) braid is d ((ideal_is_right_ideal rs braid is).linear d) (single x) (short, tt) (own.0, tt) in
    subst (λ v. AreCongruent braid.field (in_ideal rs braid (suc d)) (single v) (followed rs braid d v)) (sym e)
    (subst (AreCongruent braid.field (in_ideal rs braid (suc d)) (single (x ++ b ∷ []))) (sym (followed_word rs braid d x b short))
    (subst (λ f. in_ideal rs braid (suc d) f ≡ true) (times_letter-minus braid.field (single x) form b)
    ((ideal_is_right_ideal rs braid is).right d (minus braid.field (single x) form) b
    (minus_degree braid.field d (single x) form (short, tt) (least_degree (in_ideal rs) braid d form n.least)) (minus_over braid.field braid.letters (single x) form (own.0, tt) (least_over (in_ideal rs) braid d form n.least)) own.1 n.congruent)))

image_congruent : (rs : List Combination) (braid : BraidValue) → IsField braid.field → (d : ℕ) (f : Combination) → HasDegree (suc d) f → IsOver braid.letters f → AreCongruent braid.field (in_ideal rs braid (suc d)) f (to_candidates rs braid d f)
image_congruent rs braid is d f size over =
    let k : FieldValue = braid.field in
    let l : IsLinearTest braid.field (in_ideal rs braid (suc d)) = (ideal_is_right_ideal rs braid is).linear (suc d) in
    congruent_left k is (in_ideal rs braid (suc d)) l (linear_map k single f) f (to_candidates rs braid d f) (extended_identity k is f)
    (congruent_extended k is (in_ideal rs braid (suc d)) l single (followed rs braid d) f (each f size over))
  where
    each : (f : Combination) → HasDegree (suc d) f → IsOver braid.letters f → AllByRecursion (λ t. AreCongruent braid.field (in_ideal rs braid (suc d)) (single t.word) (followed rs braid d t.word)) f
    each [] s o = tt
    each (t ∷ f) s o = (word_congruent rs braid is d t.word s.0 o.0, each f s.1 o.1)

product_inside : (rs : List Combination) (braid : BraidValue) → IsField braid.field → AllByRecursion (IsQuadratic braid.letters) rs → (m : ℕ) (g : Combination) → IsProduct rs braid m g → in_ideal rs braid (suc (suc m)) g ≡ true
product_inside rs braid is shapes m g (u, r, i, listed, e) =
    let k : FieldValue = braid.field in
    let l : IsLinearTest braid.field (in_ideal rs braid (suc (suc m))) = (ideal_is_right_ideal rs braid is).linear (suc (suc m)) in
    let own : (length u ≡ m) × IsWordOver braid.letters u × (is_least (in_ideal rs) braid u ≡ true) = from_basis (in_ideal rs) braid m u i in
    let shape : HasDegree 2 r × IsOver braid.letters r = generator_shape braid rs shapes r listed in
    let size : length u ≡ m = own.0 in
    let long : length u + 2 + 0 ≡ suc (suc m) = omega arith in
    let f : Combination = between u r [] in
    let inside : in_ideal rs braid (suc (suc m)) (between u r []) ≡ true =
    (ideal_is_decided rs braid is (suc (suc m)) (between u r [])).1
    (spanned_one k is (IsBetween braid.letters (Contains rs) (suc (suc m))) (between u r [])
    ((record {
      front = u;
      middle = r;
      back = [];
      front_over = own.1;
      back_over = tt;
      of = listed;
      size = long;
      is = refl;
    }))) in
    subst (λ x. in_ideal rs braid (suc (suc m)) x ≡ true) (sym (e ∙ ap (to_candidates rs braid (suc m)) (sym (between_end u r))))
    (passes_too k is (in_ideal rs braid (suc (suc m))) l (to_candidates rs braid (suc m) f) f
    (congruent_sym k is (in_ideal rs braid (suc (suc m))) l f (to_candidates rs braid (suc m) f)
    (image_congruent rs braid is (suc m) f (between_degree (suc (suc m)) u r [] shape.0 long) (between_over braid.letters u r [] own.1 shape.1 tt)))
    inside)

pub spanned_passes : (k : FieldValue) (test : Combination → Bool) → IsLinearTest k test → (P : Combination → Type 0) → ((g : Combination) → P g → test g ≡ true) → (f : Combination) → IsSpanned k P f → test f ≡ true
spanned_passes k test l P each _ (IsSpanned.none f nothing) = zero_passes k test l f nothing
spanned_passes k test l P each _ (IsSpanned.more f c g h p s e) =
    l.sees_values (scalar_multiple k c g ++ h) f (λ w. sym (e w)) (l.keeps_sums (scalar_multiple k c g) h (l.keeps_multiples c g (each g p)) (spanned_passes k test l P each h s))

pub products_of_least_words_suffice : ProductsOfLeastWordsSuffice
products_of_least_words_suffice rs braid is shapes m f among = (to, from)
  where
    to : in_ideal rs braid (suc (suc m)) f ≡ true → IsSpanned braid.field (IsProduct rs braid m) f
    to h =
        spanned_same braid.field (IsProduct rs braid m) f (to_candidates rs braid (suc m) f) (λ w. sym (candidates_stay rs braid is (suc m) f among w))
        (spanned_image braid.field is (IsBetween braid.letters (Contains rs) (suc (suc m))) (IsProduct rs braid m) (to_candidates rs braid (suc m)) (linear_map_is_linear braid.field is (followed rs braid (suc m)))
        (λ g p. between_spanned rs braid is shapes m g p) f ((ideal_is_decided rs braid is (suc (suc m)) f).0 h))

    from : IsSpanned braid.field (IsProduct rs braid m) f → in_ideal rs braid (suc (suc m)) f ≡ true
    from s = spanned_passes braid.field (in_ideal rs braid (suc (suc m))) ((ideal_is_right_ideal rs braid is).linear (suc (suc m))) (IsProduct rs braid m) (product_inside rs braid is shapes m) f s
