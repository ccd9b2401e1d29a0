-- The sums of right rows are the values of the normal form of a derivative.
use Rattle.std.proofs.Common.{◌≡◌, ◌≢◌, ℕ, zero, suc, ◌<◌, ◌==◌, Bool, true, false, cond, List, [], ◌∷◌, ◌++◌, length, map, nat_eq, refl, sym, ◌∙◌, ap, ap₂, subst, arith}
use Rattle.std.specs.Prelude.{if◌then◌else◌}
use Rattle.std.specs.List.{Contains}
use Rattle.std.proofs.lemmas.Bool.Decides.{Decides-eqb}
use Rattle.std.proofs.lemmas.List.{get_or-map}
use Rattle.nichols_field.specs.Field.{FieldValue, IsElement, IsField, plus}
use Rattle.nichols_field.proofs.FieldAlgebra.{chosen_is_element, zero_plus}
use Rattle.nichols_field.proofs.FieldLaws.{one_is_element, plus_comm, plus_zero}
use Rattle.nichols_tensor.specs.Combination.{Combination, linear_map, same_letters, scalar_multiple, single, value_at}
use Rattle.nichols_tensor.specs.Positions.{word_at}
use Rattle.nichols_tensor.specs.WordOrder.{IsRising}
use Rattle.nichols_tensor.proofs.InOrder.{value_at-in_order}
use Rattle.nichols_tensor.proofs.Tests.{map_same}
use Rattle.nichols_tensor.proofs.Values.{value_at-append, value_is_element}
use Rattle.nichols_braid.specs.Braid.{BraidValue, IsBraid, IsLetter, act, scalar}
use Rattle.nichols_braid.specs.Forms.{derived_form, derived_from, followed_form, form_in}
use Rattle.nichols_braid.specs.Kernel.{is_killed}
use Rattle.nichols_braid.specs.Least.{basis, normal_form, relations}
use Rattle.nichols_braid.specs.Product.{product_before}
use Rattle.nichols_braid.proofs.BraidLaws.{killed_is_linear, killed_is_ideal_from_right}
use Rattle.nichols_braid.proofs.Candidates.{in_candidates}
use Rattle.nichols_braid.proofs.FormsOfCandidates.{candidate_forms_are_listed}
use Rattle.nichols_braid.proofs.FormsOfDerivatives.{derivatives_of_candidates}
use Rattle.nichols_echelon.specs.Cells.{AllBelow, Cell}
use Rattle.nichols_echelon.specs.Sums.{sum_at}
use Rattle.nichols_rows.specs.CombinationAt.{combination_at}
use Rattle.nichols_value.specs.Block.{block_basis, lower_basis}
use Rattle.nichols_value.specs.Kept.{AreCellsOf}
use Rattle.nichols_value.specs.Rule.{right_forms}
use Rattle.nichols_value.proofs.Blocks.{from_block_basis}
use Rattle.nichols_value.proofs.FormCells.{same_places}
use Rattle.nichols_block.specs.Rows.{AreSums, summed_forms}
use Rattle.nichols_block.proofs.LowerBelow.{lower_below}

-- the images of the words of cells are the forms at their columns
summed_is_extended : (k : FieldValue) (ws : List (List ℕ)) (image : List ℕ → Combination) (cells : List Cell) → AllBelow (length ws) cells → summed_forms k (map image ws) cells ≡ linear_map k image (combination_at ws cells)
unfolding summed_forms
summed_is_extended k ws image [] below = refl
summed_is_extended k ws image (c ∷ cells) below =
    ap₂ (λ f g. scalar_multiple k c.coefficient f ++ g) (get_or-map image ws c.column [] [] below.0) (summed_is_extended k ws image cells below.1)

-- the forms of the words of a lower block with a letter behind stand in the relations
forms_listed : (braid : BraidValue) → IsBraid braid → (m : ℕ) (g : List ℕ) (c : ℕ) → IsLetter braid c → right_forms braid m g c ≡ map (λ v. form_in (relations is_killed braid m) (v ++ c ∷ [])) (lower_basis braid m g c)
unfolding right_forms lower_basis
forms_listed braid is zero g c lc = refl
forms_listed braid is (suc m) g c lc =
    map_same (λ u. normal_form is_killed braid (suc m) (single (u ++ c ∷ []))) (λ v. form_in (relations is_killed braid (suc m)) (v ++ c ∷ [])) (block_basis braid m (product_before braid c g))
    (λ u i. sym (candidate_forms_are_listed is_killed braid is.field (suc m) (killed_is_linear braid is (suc m)) (u ++ c ∷ []) (in_candidates is_killed braid m u c (from_block_basis braid m (product_before braid c g) u i).0 lc)))

-- what the sums are before u is added
followed_sums : (braid : BraidValue) → IsBraid braid → (m : ℕ) (g : List ℕ) (a b : ℕ) → IsLetter braid a → IsLetter braid b → (f : Combination) (cells : List Cell) → AreCellsOf (lower_basis braid m (product_before braid b g) a) f cells →
    summed_forms braid.field (right_forms braid m (product_before braid a g) (act braid a b)) cells ≡ followed_form braid.field (relations is_killed braid m) f (act braid a b)
followed_sums braid is m g a b la lb f cells are =
    let k : FieldValue = braid.field in
    let c : ℕ = act braid a b in
    let image : List ℕ → Combination = λ v. form_in (relations is_killed braid m) (v ++ c ∷ []) in
    let there : lower_basis braid m (product_before braid a g) c ≡ lower_basis braid m (product_before braid b g) a = lower_below braid is m g a b la lb in
    ap (λ fs. summed_forms k fs cells) (forms_listed braid is m (product_before braid a g) c (is.rack.closed a b la lb) ∙ ap (map image) there)
    ∙ summed_is_extended k (lower_basis braid m (product_before braid b g) a) image cells are.below ∙ ap (linear_map k image) are.form

-- the value of a derivative at a word: u, where a is b, and what is followed by `a ▷ b`
value_of_derivative : (braid : BraidValue) → IsBraid braid → (m : ℕ) (u : List ℕ) (a b : ℕ) → Contains (basis is_killed braid m) u → IsLetter braid a → IsLetter braid b → (w : List ℕ) →
    value_at braid.field (derived_form is_killed braid (suc m) (u ++ b ∷ []) a) w
    ≡ plus braid.field (value_at braid.field (if nat_eq a b then single u else []) w)
    (value_at braid.field (scalar_multiple braid.field (scalar braid a b) (followed_form braid.field (relations is_killed braid m) (derived_form is_killed braid m u a) (act braid a b))) w)
unfolding derived_from
value_of_derivative braid is m u a b i la lb w =
    let k : FieldValue = braid.field in
    ap (λ f. value_at k f w) (derivatives_of_candidates is_killed braid is (killed_is_ideal_from_right braid is) m u a b i la lb)
    ∙ value_at-in_order k is.field (derived_from braid (relations is_killed braid m) u (derived_form is_killed braid m u a) a b) w
    ∙ value_at-append k is.field (if nat_eq a b then single u else []) (scalar_multiple k (scalar braid a b) (followed_form k (relations is_killed braid m) (derived_form is_killed braid m u a) (act braid a b))) w

-- ---- where u isn't added

others_have_none : (k : FieldValue) → IsField k → (u w : List ℕ) (a b : ℕ) → a ≢ b → value_at k (if nat_eq a b then single u else []) w ≡ 0
others_have_none k is u w a b other = at (nat_eq a b) refl
  where
    at : (t : Bool) → nat_eq a b ≡ t → value_at k (cond t (single u) []) w ≡ 0
    at true e = absurd (other ((Decides-eqb a b).0 e))
    at false e = refl

-- what the sums of right rows are, where `∂_a u` has these cells
abbrev pub right_sums : BraidValue → ℕ → List ℕ → ℕ → ℕ → List Cell → Combination
right_sums braid m g a b cells = scalar_multiple braid.field (scalar braid a b) (summed_forms braid.field (right_forms braid m (product_before braid a g) (act braid a b)) cells)

right_sums_are : (braid : BraidValue) → IsBraid braid → (m : ℕ) (g : List ℕ) (a b : ℕ) → IsLetter braid a → IsLetter braid b → (f : Combination) (cells : List Cell) → AreCellsOf (lower_basis braid m (product_before braid b g) a) f cells → (w : List ℕ) →
    value_at braid.field (right_sums braid m g a b cells) w ≡ value_at braid.field (scalar_multiple braid.field (scalar braid a b) (followed_form braid.field (relations is_killed braid m) f (act braid a b))) w
right_sums_are braid is m g a b la lb f cells are w = ap (λ h. value_at braid.field (scalar_multiple braid.field (scalar braid a b) h) w) (followed_sums braid is m g a b la lb f cells are)

pub sums_of_others : (braid : BraidValue) → IsBraid braid → (m : ℕ) (g u : List ℕ) (a b : ℕ) → Contains (basis is_killed braid m) u → IsLetter braid a → IsLetter braid b → (cells : List Cell) → AreCellsOf (lower_basis braid m (product_before braid b g) a) (derived_form is_killed braid m u a) cells →
    (ws : List (List ℕ)) (values : List ℕ) → AreSums braid.field ws values (right_sums braid m g a b cells) → a ≢ b → AreSums braid.field ws values (derived_form is_killed braid (suc m) (u ++ b ∷ []) a)
sums_of_others braid is m g u a b i la lb cells are ws values sums other =
    let k : FieldValue = braid.field in
    record {
      inside = λ place less.
          let w : List ℕ = word_at ws place in
          let rest : Combination = scalar_multiple k (scalar braid a b) (followed_form k (relations is_killed braid m) (derived_form is_killed braid m u a) (act braid a b)) in
          sums.inside place less ∙ right_sums_are braid is m g a b la lb (derived_form is_killed braid m u a) cells are w
          ∙ sym (value_of_derivative braid is m u a b i la lb w ∙ ap (λ n. plus k n (value_at k rest w)) (others_have_none k is.field u w a b other) ∙ zero_plus k (value_at k rest w) (value_is_element k is.field rest w));
      beyond = sums.beyond;
    }

-- ---- where u is added, at its place

own_value : (k : FieldValue) → IsField k → (u w : List ℕ) (a b : ℕ) → a ≡ b → value_at k (if nat_eq a b then single u else []) w ≡ (if same_letters u w then 1 else 0)
own_value k is u w a b same = ap (λ t. value_at k (cond t (single u) []) w) ((Decides-eqb a b).1 same) ∙ plus_zero k (if same_letters u w then 1 else 0) (chosen_is_element k (same_letters u w) 1 is (one_is_element k is))

pub sums_of_own : (braid : BraidValue) → IsBraid braid → (m : ℕ) (g u : List ℕ) (a b : ℕ) → Contains (basis is_killed braid m) u → IsLetter braid a → IsLetter braid b → (cells : List Cell) → AreCellsOf (lower_basis braid m (product_before braid b g) a) (derived_form is_killed braid m u a) cells →
    (ws : List (List ℕ)) (values after : List ℕ) (place : ℕ) → IsRising ws → place < length ws → word_at ws place ≡ u → AreSums braid.field ws values (right_sums braid m g a b cells) → a ≡ b →
    sum_at braid.field after place ≡ plus braid.field (sum_at braid.field values place) 1 → ((other : ℕ) → other ≢ place → sum_at braid.field after other ≡ sum_at braid.field values other) →
    AreSums braid.field ws after (derived_form is_killed braid (suc m) (u ++ b ∷ []) a)
sums_of_own braid is m g u a b i la lb cells are ws values after place rising within here sums same put kept = record {
  inside = λ p less. added p less ∙ ap (plus k (sum_at k values p)) (chosen p less) ∙ ap (λ n. plus k n (value_at k (if nat_eq a b then single u else []) (word_at ws p))) (sums.inside p less ∙ right_sums_are braid is m g a b la lb (derived_form is_killed braid m u a) cells are (word_at ws p))
      ∙ plus_comm k (value_at k rest (word_at ws p)) (value_at k (if nat_eq a b then single u else []) (word_at ws p)) ∙ sym (value_of_derivative braid is m u a b i la lb (word_at ws p));
  beyond = λ p less. kept p (λ e. let z : p < length ws = subst (λ n. n < length ws) (sym e) within in omega arith) ∙ sums.beyond p less;
}
  where
    k : FieldValue
    k = braid.field

    rest : Combination
    rest = scalar_multiple k (scalar braid a b) (followed_form k (relations is_killed braid m) (derived_form is_killed braid m u a) (act braid a b))

    -- what is added at each place
    added : (p : ℕ) → p < length ws → sum_at k after p ≡ plus k (sum_at k values p) (if place == p then 1 else 0)
    added p less = at (place == p) refl
      where
        at : (t : Bool) → (place == p) ≡ t → sum_at k after p ≡ plus k (sum_at k values p) (cond t 1 0)
        at true e = let f : place ≡ p = (Decides-eqb place p).0 e in subst (λ q. sum_at k after q ≡ plus k (sum_at k values q) 1) f put
        at false e =
            kept p (λ f. let c : true ≡ false = sym ((Decides-eqb place p).1 (sym f)) ∙ e in cc)
            ∙ sym (plus_zero k (sum_at k values p) (subst (IsElement k) (sym (sums.inside p less)) (value_is_element k is.field (right_sums braid m g a b cells) (word_at ws p))))

    chosen : (p : ℕ) → p < length ws → (if place == p then 1 else 0) ≡ value_at k (if nat_eq a b then single u else []) (word_at ws p)
    chosen p less =
        ap (λ t. cond t 1 0) (sym (same_places ws place p rising within less) ∙ ap (λ v. same_letters v (word_at ws p)) here) ∙ sym (own_value k is.field u (word_at ws p) a b same)
