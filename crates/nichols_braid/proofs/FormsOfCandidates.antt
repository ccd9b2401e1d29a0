-- The forms of candidates in the relations of their degree, and those of combinations with a letter behind.
use Rattle.std.proofs.Common.{◌≡◌, ℕ, suc, Bool, true, false, not, List, [], ◌∷◌, ◌++◌, length, refl, sym, ◌∙◌, ap, subst}
use Rattle.std.specs.List.{filter, AllByRecursion, Contains}
use Rattle.std.proofs.lemmas.Bool.{not-true}
use Rattle.nichols_field.specs.Field.{FieldValue, IsField}
use Rattle.nichols_tensor.specs.Combination.{Combination, AllAmong, single, minus, linear_map}
use Rattle.nichols_tensor.specs.Words.{IsWordOver, IsOver, HasDegree}
use Rattle.nichols_tensor.proofs.Entries.{from_filter, in_filter}
use Rattle.nichols_braid.specs.Braid.{BraidValue, IsLetter}
use Rattle.nichols_braid.specs.Kernel.{Vanishing}
use Rattle.nichols_braid.specs.Least.{is_least, basis, normal_form, candidates, relations}
use Rattle.nichols_braid.specs.LeastLaws.{IsNormalForm}
use Rattle.nichols_braid.specs.LinearTest.{IsLinearTest}
use Rattle.nichols_braid.specs.RightIdealTest.{IsRightIdealTest}
use Rattle.nichols_braid.specs.RightProduct.{times_letter}
use Rattle.nichols_braid.specs.Forms.{candidates_of, form_in, followed_form}
use Rattle.nichols_braid.specs.FormLaws.{CandidateFormsAreListed}
use Rattle.nichols_braid.proofs.Maps.{times_letter_is_extended, times_letter-minus}
use Rattle.nichols_braid.proofs.Degrees.{minus_degree, minus_over}
use Rattle.nichols_braid.proofs.Congruences.{AreCongruent, congruent_trans, congruent_left}
use Rattle.nichols_braid.proofs.Reduction.{in_basis, from_basis}
use Rattle.nichols_braid.proofs.NormalForms.{form_is_normal, form_of_least}
use Rattle.nichols_braid.proofs.Candidates.{in_candidates, from_candidates, relations_are, relations_of}
use Rattle.nichols_braid.proofs.Forms.{form_elsewhere, form_listed, candidates_listed, congruent_extended, among-linear_map}

-- ---- a candidate

pub candidate_forms_are_listed : CandidateFormsAreListed
candidate_forms_are_listed vanishes braid is m l w i = ap (λ table. form_in table w) (relations_are vanishes braid m) ∙ at (is_least vanishes braid w) refl
  where
    own : (length w ≡ m) × IsWordOver braid.letters w
    own = from_candidates vanishes braid m w i

    form : List ℕ → Combination
    form v = normal_form vanishes braid m (single v)

    other : List ℕ → Bool
    other v = not (is_least vanishes braid v)

    others : List (List ℕ)
    others = filter other (candidates vanishes braid m)

    at : (b : Bool) → is_least vanishes braid w ≡ b → form_in (relations_of vanishes braid m (candidates vanishes braid m)) w ≡ normal_form vanishes braid m (single w)
    at true e =
        let none : Contains (candidates_of (relations_of vanishes braid m (candidates vanishes braid m))) w → ⊥ =
        λ j. let (h, not_least) = from_filter other w (candidates vanishes braid m) (subst (λ ws. Contains ws w) (candidates_listed form others) j) in
        let c : true ≡ false = sym e ∙ not-true (is_least vanishes braid w) not_least in
        cc in
        form_elsewhere (relations_of vanishes braid m (candidates vanishes braid m)) w none ∙ sym (form_of_least vanishes braid is m l w (in_basis vanishes braid m w own.0 own.1 e))
    at false e = form_listed form others w (in_filter other w (candidates vanishes braid m) i (ap not e))

-- g is a combination of least words of degree m that is one with f in the algebra
pub record IsReducedTo (vanishes : Vanishing) (braid : BraidValue) (m : ℕ) (f g : Combination) : Type 0 where
  pub among : AllAmong g (basis vanishes braid m)
  pub congruent : AreCongruent braid.field (vanishes braid m) f g

-- the relations of a degree have the forms of its candidates
pub table_form : (vanishes : Vanishing) (braid : BraidValue) → IsField braid.field → (m : ℕ) → IsLinearTest braid.field (vanishes braid m) → (w : List ℕ) → Contains (candidates vanishes braid m) w →
    IsReducedTo vanishes braid m (single w) (form_in (relations vanishes braid m) w)
table_form vanishes braid is m l w i =
    let (size, over) = from_candidates vanishes braid m w i in
    let n : IsNormalForm vanishes braid m (single w) (normal_form vanishes braid m (single w)) = form_is_normal vanishes braid is m l (single w) (size, tt) (over, tt) in
    subst (IsReducedTo vanishes braid m (single w)) (sym (candidate_forms_are_listed vanishes braid is m l w i)) (record { among = n.least; congruent = n.congruent })

-- ---- a combination with a letter behind

-- the forms of the words of a normal form, each with a letter behind
pub followed_is_form : (vanishes : Vanishing) (braid : BraidValue) → IsField braid.field → IsRightIdealTest braid (vanishes braid) → (p : ℕ) (d : Combination) (c : ℕ) → HasDegree p d → IsOver braid.letters d → IsLetter braid c →
    IsReducedTo vanishes braid (suc p) (times_letter d c) (followed_form braid.field (relations vanishes braid (suc p)) (normal_form vanishes braid p d) c)
unfolding AllAmong
followed_is_form vanishes braid is ideal p d c degree over lc = record {
  among = among-linear_map k image g (basis vanishes braid (suc p)) (all_forms g n.least);
  congruent = congruent_trans k is (vanishes braid (suc p)) l (times_letter d c) (times_letter g c) (linear_map k image g)
      (subst (λ h. vanishes braid (suc p) h ≡ true) (times_letter-minus k d g c)
      (ideal.right p (minus k d g) c (minus_degree k p d g degree (degree_of g n.least)) (minus_over k braid.letters d g over (over_of g n.least)) lc n.congruent))
      (congruent_left k is (vanishes braid (suc p)) l (linear_map k (λ v. single (v ++ c ∷ [])) g) (times_letter g c) (linear_map k image g) (λ w. sym (times_letter_is_extended k is g c w))
      (congruent_extended k is (vanishes braid (suc p)) l (λ v. single (v ++ c ∷ [])) image g (all_congruent g n.least)));
}
  where
    k : FieldValue
    k = braid.field

    g : Combination
    g = normal_form vanishes braid p d

    image : List ℕ → Combination
    image v = form_in (relations vanishes braid (suc p)) (v ++ c ∷ [])

    l : IsLinearTest braid.field (vanishes braid (suc p))
    l = ideal.linear (suc p)

    n : IsNormalForm vanishes braid p d g
    n = form_is_normal vanishes braid is p (ideal.linear p) d degree over

    behind : (v : List ℕ) → Contains (basis vanishes braid p) v → IsReducedTo vanishes braid (suc p) (single (v ++ c ∷ [])) (image v)
    behind v i = table_form vanishes braid is (suc p) l (v ++ c ∷ []) (in_candidates vanishes braid p v c i lc)

    degree_of : (f : Combination) → AllAmong f (basis vanishes braid p) → HasDegree p f
    degree_of [] h = tt
    degree_of (t ∷ f) h = ((from_basis vanishes braid p t.word h.0).0, degree_of f h.1)

    over_of : (f : Combination) → AllAmong f (basis vanishes braid p) → IsOver braid.letters f
    over_of [] h = tt
    over_of (t ∷ f) h = ((from_basis vanishes braid p t.word h.0).1, over_of f h.1)

    all_forms : (f : Combination) → AllAmong f (basis vanishes braid p) → AllByRecursion (λ t. AllAmong (image t.word) (basis vanishes braid (suc p))) f
    all_forms [] h = tt
    all_forms (t ∷ f) h = ((behind t.word h.0).among, all_forms f h.1)

    all_congruent : (f : Combination) → AllAmong f (basis vanishes braid p) → AllByRecursion (λ t. AreCongruent k (vanishes braid (suc p)) (single (t.word ++ c ∷ [])) (image t.word)) f
    all_congruent [] h = tt
    all_congruent (t ∷ f) h = ((behind t.word h.0).congruent, all_congruent f h.1)
