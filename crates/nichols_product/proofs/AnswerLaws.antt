-- What is answered of products, in words.
use Rattle.std.proofs.Common.{◌≡◌, ◌≢◌, ◌<◌, ◌+◌, ℕ, Bool, true, false, List, [], length, map, slice_get, take, Some, refl, sym, ◌∙◌, ap, arith, inl, inr}
use Rattle.std.specs.Prelude.{if◌then◌else◌}
use Rattle.std.specs.List.{Contains, list_any, range_with_len}
use Rattle.std.proofs.lemmas.Bool.{cases_lt}
use Rattle.std.proofs.lemmas.List.FromFn.{get_or-map-range_with_len, length-map-range_with_len}
use Rattle.std.proofs.lemmas.Option.{slice_get_read}
use Rattle.nichols_field.specs.Field.{FieldValue, IsField}
use Rattle.nichols_tensor.specs.Combination.{Combination, IsZero, is_zero}
use Rattle.nichols_tensor.specs.Product.{product_of}
use Rattle.nichols_tensor.proofs.Entries.{any_of, some_of}
use Rattle.nichols_tensor.proofs.Zero.{is_zero_complete, is_zero_sound}
use Rattle.nichols_braid.specs.Braid.{BraidValue}
use Rattle.nichols_braid.specs.Kernel.{is_killed}
use Rattle.nichols_braid.specs.Least.{basis}
use Rattle.nichols_braid.specs.WholeForm.{normal_form_by_parts}
use Rattle.nichols_reduce.specs.declared.answer.Normal.{Normal}
use Rattle.nichols_reduce.specs.declared.answer.Normal.TheVariants.{Form, Beyond}
use Rattle.nichols_product.specs.Degrees.{degree_of_product}
use Rattle.nichols_product.specs.Laws.{AnswersAreKnown, AnswersAreOfFirstFactors}
use Rattle.nichols_product.specs.Products.{is_product_beyond, normal_of_product, products_of}
use Rattle.nichols_product.proofs.RunningProducts.{beyond_closed, beyond_short, beyond_true, beyond_zero, not_true, zero_form_is}

-- ---- the test

no_zero : (k : FieldValue) (fs : List Combination) → list_any (is_zero k) fs ≡ false → (f : Combination) → Contains fs f → IsZero k f → ⊥
no_zero k fs none f i zero = not_true (sym none ∙ any_of (is_zero k) f fs i (is_zero_complete k f zero))

none_is_zero : (k : FieldValue) → IsField k → (fs : List Combination) → ((f : Combination) → Contains fs f → IsZero k f → ⊥) → list_any (is_zero k) fs ≡ false
none_is_zero k is fs none = at (list_any (is_zero k) fs) refl
  where
    at : (b : Bool) → list_any (is_zero k) fs ≡ b → b ≡ false
    at true e = let (f, i, zero) = some_of (is_zero k) fs e in absurd (none f i (is_zero_sound k is f zero))
    at false e = refl

beyond_some : (braid : BraidValue) (last : ℕ) (fs : List Combination) → is_product_beyond braid last fs ≡ true → basis is_killed braid last ≢ []
beyond_some braid last fs e none = not_true (sym (beyond_closed braid last fs none) ∙ e)

beyond_nonzero : (braid : BraidValue) (last : ℕ) (fs : List Combination) → is_product_beyond braid last fs ≡ true → list_any (is_zero braid.field) fs ≡ false
beyond_nonzero braid last fs e = at (list_any (is_zero braid.field) fs) refl
  where
    at : (b : Bool) → list_any (is_zero braid.field) fs ≡ b → b ≡ false
    at true zero = absurd (not_true (sym (beyond_zero braid last fs zero) ∙ e))
    at false zero = refl

beyond_long : (braid : BraidValue) (last : ℕ) (fs : List Combination) → is_product_beyond braid last fs ≡ true → last < degree_of_product fs
beyond_long braid last fs e = elim (cases_lt last (degree_of_product fs)) [
  | inl less ↦ less
  | inr short ↦ absurd (not_true (sym (beyond_short braid last fs short) ∙ e))
]

-- ---- the laws

pub answers_are_known : AnswersAreKnown
unfolding normal_of_product
answers_are_known braid is last fs over = record { beyond = λ m. (to m, from m); form = form; zero = zero }
  where
    pick : Bool → Normal
    pick b = if b then Beyond last else Form (normal_form_by_parts is_killed braid (product_of braid.field fs))

    to : (m : ℕ) → pick (is_product_beyond braid last fs) ≡ Beyond m → (m ≡ last) × (basis is_killed braid last ≢ []) × ((f : Combination) → Contains fs f → IsZero braid.field f → ⊥) × (last < degree_of_product fs)
    to m h = at (is_product_beyond braid last fs) refl h
      where
        at : (b : Bool) → is_product_beyond braid last fs ≡ b → pick b ≡ Beyond m → (m ≡ last) × (basis is_killed braid last ≢ []) × ((f : Combination) → Contains fs f → IsZero braid.field f → ⊥) × (last < degree_of_product fs)
        at true e k =
            let same : Beyond last ≡ Beyond m = k in
            (cc, beyond_some braid last fs e, no_zero braid.field fs (beyond_nonzero braid last fs e), beyond_long braid last fs e)
        at false e k = absurd (let c : Form (normal_form_by_parts is_killed braid (product_of braid.field fs)) ≡ Beyond m = k in cc)

    from : (m : ℕ) → (m ≡ last) × (basis is_killed braid last ≢ []) × ((f : Combination) → Contains fs f → IsZero braid.field f → ⊥) × (last < degree_of_product fs) → pick (is_product_beyond braid last fs) ≡ Beyond m
    from m h = ap pick (beyond_true braid last fs (none_is_zero braid.field is.field fs h.2) h.3 h.1) ∙ ap Beyond (sym h.0)

    form : (g : Combination) → pick (is_product_beyond braid last fs) ≡ Form g → g ≡ normal_form_by_parts is_killed braid (product_of braid.field fs)
    form g h = at (is_product_beyond braid last fs) h
      where
        at : (b : Bool) → pick b ≡ Form g → g ≡ normal_form_by_parts is_killed braid (product_of braid.field fs)
        at true k = absurd (let c : Beyond last ≡ Form g = k in cc)
        at false k = let same : Form (normal_form_by_parts is_killed braid (product_of braid.field fs)) ≡ Form g = k in cc

    zero : (f : Combination) → Contains fs f → IsZero braid.field f → pick (is_product_beyond braid last fs) ≡ Form []
    zero f i z =
        let some : list_any (is_zero braid.field) fs ≡ true = any_of (is_zero braid.field) f fs i (is_zero_complete braid.field f z) in
        ap pick (beyond_zero braid last fs some) ∙ ap Form (zero_form_is braid is fs over some)

pub answers_are_of_first_factors : AnswersAreOfFirstFactors
unfolding products_of
answers_are_of_first_factors braid last fs = (length-map-range_with_len answer 1 (length fs), at)
  where
    answer : ℕ → Normal
    answer k = normal_of_product braid last (take k fs)

    at : (k : ℕ) → k < length fs → slice_get (map answer (range_with_len 1 (length fs))) k ≡ Some (answer (k + 1))
    at k less =
        let next : 1 + k ≡ k + 1 = omega arith in
        slice_get_read (map answer (range_with_len 1 (length fs))) (length fs) k (answer (k + 1)) (sym (length-map-range_with_len answer 1 (length fs))) less (sym (get_or-map-range_with_len answer 1 (length fs) k (k + 1) (answer (k + 1)) less next))
