-- The rule of degree 0.
use Rattle.std.proofs.Common.{◌≡◌, ℕ, zero, suc, ◌+◌, ◌-◌, cond, get_or, List, [], ◌∷◌, ◌++◌, length, map, filter, replicate, refl, sym, ◌∙◌, ap, ap₂, subst, arith, Some}
use Rattle.std.proofs.lemmas.List.{map-append, replicate_more, length-replicate}
use Rattle.std.specs.List.{AllByRecursion}
use Rattle.std.proofs.lemmas.List.Elements.{All-replicate, recursion_from_All}
use Rattle.nichols_tensor.specs.Combination.{Combination, same_letters}
use Rattle.nichols_tensor.specs.Relation.{PlainRelation}
use Rattle.nichols_tensor.specs.Words.{up_to}
use Rattle.nichols_tensor.specs.WordOrder.{IsRising}
use Rattle.nichols_tensor.proofs.Letters.{up_to_length}
use Rattle.nichols_tensor.proofs.Values.{same_itself}
use Rattle.nichols_braid.specs.Braid.{BraidValue, IsBraid}
use Rattle.nichols_braid.specs.Kernel.{is_killed}
use Rattle.nichols_braid.specs.Product.{has_product}
use Rattle.nichols_braid.specs.Forms.{derived_form}
use Rattle.nichols_braid.proofs.FirstDegree.{basis_first, relations_first}
use Rattle.nichols_braid.proofs.InlineProducts.{product_of_none}
use Rattle.nichols_echelon.specs.Rows.{RowsValue}
use Rattle.nichols_value.specs.declared.key.BlockKey.{BlockKey}
use Rattle.nichols_value.specs.declared.spot.Spot.{Spot}
use Rattle.nichols_value.specs.Block.{block_basis, block_relations, lower_basis, left_lower_basis}
use Rattle.nichols_value.specs.Rule.{by_letter, lean_rule_of, upper_of, rule_of, right_forms, left_forms, block_derivs}
use Rattle.nichols_value.specs.Kept.{AreFormRows, AreFormRowsOfEach, HaveRowEach, AllShort, IsShaped, IsSpot, IsUpperShaped, forms_over, forms_over_each, rule_by, upper_by}
use Rattle.nichols_value.proofs.Blocks.{no_lower_basis}
use Rattle.nichols_value.proofs.KeptRows.{no_rows}

-- a constant, once for each letter
constant : {X : Type 0} (f : ℕ → X) (x : X) → ((a : ℕ) → f a ≡ x) → (n : ℕ) → map f (up_to n) ≡ replicate n x
constant f x h zero = refl
constant f x h (suc n) =
    map-append f (up_to n) (suc n ∷ []) ∙ ap₂ (λ xs y. xs ++ y ∷ []) (constant f x h n) (h (suc n)) ∙ replicate_more n x ∙ ap (λ k. replicate k x) (let e : n + 1 ≡ suc n = omega arith in e)

map_alike : {X Y : Type 0} (f : X → Y) (x : X) (n : ℕ) → map f (replicate n x) ≡ replicate n (f x)
map_alike f x zero = refl
map_alike f x (suc n) = ap (λ ys. f x ∷ ys) (map_alike f x n)

abbrev one : RowsValue
one = record { rows = [] ∷ []; begun = [] }

abbrev none_of : ℕ → List RowsValue
none_of n = replicate n no_rows

-- ---- its parts

first_basis : (braid : BraidValue) → IsBraid braid → block_basis braid 0 (up_to braid.letters) ≡ [] ∷ []
unfolding block_basis
first_basis braid is =
    ap (λ ws. filter (has_product braid (up_to braid.letters)) ws) (basis_first braid is.field)
    ∙ ap (λ b. cond b ([] ∷ []) []) (ap (λ g. same_letters g (up_to braid.letters)) (product_of_none braid) ∙ same_itself (up_to braid.letters))

first_relations : (braid : BraidValue) → IsBraid braid → (g : List ℕ) → block_relations braid 0 g ≡ []
unfolding block_relations
first_relations braid is g = ap (λ (rs : List PlainRelation). filter (λ (r : PlainRelation). has_product braid g r.candidate) rs) (relations_first braid is.field)

first_right : (braid : BraidValue) (g : List ℕ) (b : ℕ) → right_forms braid 0 g b ≡ []
unfolding right_forms lower_basis
first_right braid g b = refl

first_left : (braid : BraidValue) (g : List ℕ) (a : ℕ) → left_forms braid 0 g a ≡ []
unfolding left_forms left_lower_basis
first_left braid g a = refl

first_derivs : (braid : BraidValue) → IsBraid braid → (a : ℕ) → block_derivs braid 0 (up_to braid.letters) a ≡ [] ∷ []
unfolding block_derivs derived_form
first_derivs braid is a = ap (λ (ws : List (List ℕ)). map (λ w. derived_form is_killed braid 0 w a) ws) (first_basis braid is)

-- ---- the rows that are kept

abbrev no_words_of : ℕ → List (List (List ℕ))
no_words_of n = replicate n []

each_empty : (n : ℕ) → forms_over_each (no_words_of n) (replicate n one) ≡ replicate n ([] ∷ [])
each_empty zero = refl
each_empty (suc n) = ap (λ (fs : List (List Combination)). ([] ∷ []) ∷ fs) (each_empty n)

each_shape : (n : ℕ) → AreFormRowsOfEach (no_words_of n) (replicate n one)
each_shape zero = tt
each_shape (suc n) = (record { closed = refl; shape = (record { rising = tt; nonzero = tt }, tt); below = (tt, tt) }, each_shape n)

row_each : (n : ℕ) → HaveRowEach (no_words_of n) (none_of n)
row_each zero = tt
row_each (suc n) = (refl, row_each n)

no_rows_shape : (w : ℕ) → AreFormRows w no_rows
no_rows_shape w = record { closed = refl; shape = tt; below = tt }

none_by : (n k : ℕ) → get_or (no_words_of n) k [] ≡ []
none_by zero k = refl
none_by (suc n) zero = refl
none_by (suc n) (suc k) = none_by n k

-- ---- together

pub lowest_shape : (n : ℕ) (key : BlockKey) (basis : List (List ℕ)) (below : List (List (List ℕ))) (right : List RowsValue) (spots : List Spot) → key.product ≡ up_to n → basis ≡ [] ∷ [] → below ≡ replicate n [] →
    right ≡ replicate n no_rows → spots ≡ [] → IsShaped key basis below right spots
lowest_shape n key basis below right spots product b l r s = record {
  letters = ap length l ∙ length-replicate n [] ∙ sym (up_to_length n) ∙ ap length (sym product);
  rising = subst IsRising (sym b) (tt, tt);
  lists_rise = subst (AllByRecursion IsRising) (sym l) (recursion_from_All IsRising (replicate n []) (All-replicate IsRising n [] tt));
  short = subst (AllByRecursion AllShort) (sym l) (recursion_from_All AllShort (replicate n []) (All-replicate AllShort n [] tt));
  forms = subst (AllByRecursion (AreFormRows (length basis))) (sym r) (recursion_from_All (AreFormRows (length basis)) (replicate n no_rows) (All-replicate (AreFormRows (length basis)) n no_rows (no_rows_shape (length basis))));
  rows = subst (λ ls. HaveRowEach ls right) (sym l) (subst (λ rs. HaveRowEach (no_words_of n) rs) (sym r) (row_each n));
  inside = subst (λ (ss : List Spot). AllByRecursion (IsSpot below) ss) (sym s) tt;
  whole = λ x spot none.
      let (some, letter, place) = spot in
      let nothing : length (by_letter below x.letter) ≡ 0 = ap (λ ls. length (by_letter ls x.letter)) l ∙ ap length (none_by n (x.letter - 1)) in
      absurd (omega (arith, place, nothing));
}

pub lowest_upper : (n : ℕ) (basis : List (List ℕ)) (below : List (List (List ℕ))) (derivs left : List RowsValue) → basis ≡ [] ∷ [] → below ≡ replicate n [] →
    derivs ≡ replicate n one → left ≡ replicate n no_rows → IsUpperShaped basis below derivs left
lowest_upper n basis below derivs left b l d f = record {
  derivs_forms = subst (λ ls. AreFormRowsOfEach ls derivs) (sym l) (subst (λ ds. AreFormRowsOfEach (no_words_of n) ds) (sym d) (each_shape n));
  derivs_rows = subst (AllByRecursion (λ (r : RowsValue). length r.rows ≡ length basis)) (sym d) (recursion_from_All (λ (r : RowsValue). length r.rows ≡ length basis) (replicate n one) (All-replicate (λ (r : RowsValue). length r.rows ≡ length basis) n one (sym (ap length b))));
  left_forms = subst (AllByRecursion (AreFormRows (length basis))) (sym f) (recursion_from_All (AreFormRows (length basis)) (replicate n no_rows) (All-replicate (AreFormRows (length basis)) n no_rows (no_rows_shape (length basis))));
  letters = ap length f ∙ length-replicate n no_rows ∙ sym (length-replicate n []) ∙ ap length (sym l);
}

pub lowest_is_rule : (braid : BraidValue) → IsBraid braid → (n : ℕ) (key : BlockKey) (basis : List (List ℕ)) (below : List (List (List ℕ))) (right : List RowsValue) (spots : List Spot) (derivs left : List RowsValue) → n ≡ braid.letters →
    key ≡ record { degree = 0; product = up_to n } → basis ≡ [] ∷ [] → below ≡ replicate n [] → right ≡ replicate n no_rows → spots ≡ [] → derivs ≡ replicate n one → left ≡ replicate n no_rows →
    rule_by key basis below right spots (Some (upper_by basis below derivs left)) ≡ rule_of braid 0 (up_to braid.letters)
unfolding rule_of lean_rule_of upper_of
lowest_is_rule braid is n key basis below right spots derivs left e k b l r s d f =
    ap (λ j. rule_by j basis below right spots (Some (upper_by basis below derivs left))) (k ∙ ap (λ i. record { degree = 0; product = up_to i }) e)
    ∙ ap (λ ws. rule_by own ws below right spots (Some (upper_by ws below derivs left))) b
    ∙ ap (λ ls. rule_by own first ls right spots (Some (upper_by first ls derivs left))) (l ∙ ap no_words_of e)
    ∙ ap (λ rs. rule_by own first lists rs spots (Some (upper_by first lists derivs left))) (r ∙ ap none_of e)
    ∙ ap (λ ss. rule_by own first lists rows ss (Some (upper_by first lists derivs left))) s
    ∙ ap (λ ds. rule_by own first lists rows [] (Some (upper_by first lists ds left))) (d ∙ ap (λ i. replicate i one) e)
    ∙ ap (λ fs. rule_by own first lists rows [] (Some (upper_by first lists (replicate braid.letters one) fs))) (f ∙ ap none_of e)
    ∙ same (block_basis braid 0 g) (block_relations braid 0 g) (map (lower_basis braid 0 g) (up_to braid.letters)) (map (right_forms braid 0 g) (up_to braid.letters)) (map (block_derivs braid 0 g) (up_to braid.letters)) (map (left_forms braid 0 g) (up_to braid.letters))
    (sym (first_basis braid is)) (sym (first_relations braid is g)) (sym (constant (lower_basis braid 0 g) [] (no_lower_basis braid g) braid.letters))
    (map_alike (forms_over first) no_rows braid.letters ∙ sym (constant (right_forms braid 0 g) [] (first_right braid g) braid.letters))
    (each_empty braid.letters ∙ sym (constant (block_derivs braid 0 g) ([] ∷ []) (first_derivs braid is) braid.letters))
    (map_alike (forms_over first) no_rows braid.letters ∙ sym (constant (left_forms braid 0 g) [] (first_left braid g) braid.letters))
  where
    g : List ℕ
    g = up_to braid.letters

    own : BlockKey
    own = record { degree = 0; product = up_to braid.letters }

    first : List (List ℕ)
    first = [] ∷ []

    lists : List (List (List ℕ))
    lists = no_words_of braid.letters

    rows : List RowsValue
    rows = none_of braid.letters

    same : (us : List (List ℕ)) (ts : List PlainRelation) (bs : List (List (List ℕ))) (fs ds ls : List (List Combination)) → first ≡ us → [] ≡ ts → lists ≡ bs → map (forms_over first) rows ≡ fs →
        forms_over_each lists (replicate braid.letters one) ≡ ds → map (forms_over first) rows ≡ ls →
        rule_by own first lists rows [] (Some (upper_by first lists (replicate braid.letters one) rows))
        ≡ record { key = own; basis = us; table = ts; below = bs; right = fs; upper = Some (record { derivs = ds; left = ls }) }
    same us ts bs fs ds ls p q r s t u = cc
