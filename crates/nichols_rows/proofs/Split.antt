-- What the places of rows say of the words of a spanning list: which are least, and the normal forms of the others.
use Rattle.std.proofs.Common.{◌≡◌, ℕ, suc, ◌<◌, true, false, not, cond, List, [], ◌∷◌, length, map, refl, sym, ◌∙◌, ap, ap₂, arith, subst}
use Rattle.std.specs.List.{filter, AllByRecursion}
use Rattle.nichols_field.specs.Field.{FieldValue, IsField, plus, times}
use Rattle.nichols_tensor.specs.Combination.{Combination, single}
use Rattle.nichols_tensor.specs.Positions.{word_at}
use Rattle.nichols_tensor.proofs.Values.{weight}
use Rattle.nichols_braid.specs.Braid.{BraidValue}
use Rattle.nichols_braid.specs.Kernel.{Vanishing}
use Rattle.nichols_braid.specs.Least.{is_least, normal_form, basis, candidates, relations}
use Rattle.nichols_tensor.specs.Relation.{PlainRelation}
use Rattle.nichols_braid.specs.LinearTest.{IsLinearTest}
use Rattle.nichols_braid.proofs.Candidates.{least_of, relation_at, relations_of, relations_are}
use Rattle.nichols_braid.proofs.Spanning.{IsSpanning, basis_among}
use Rattle.nichols_echelon.specs.Cells.{Cell, entry, AllBelow}
use Rattle.nichols_echelon.specs.Combination.{row_at, combined_entry, IsDependent}
use Rattle.nichols_echelon.specs.Split.{place_at, AllIndependent, IsPlace, IsSplit}
use Rattle.nichols_echelon.specs.declared.rows.Place.{Place}
use Rattle.nichols_echelon.specs.declared.rows.Place.TheVariants.{Independent, Depends}
use Rattle.nichols_echelon.proofs.Uniqueness.{place_independent}
use Rattle.nichols_rows.specs.CombinationAt.{combination_at}
use Rattle.nichols_rows.specs.Places.{independent_in, dependent_in, IsInside}
use Rattle.nichols_rows.proofs.Rows.{AreFunctionals, AllCellsLeast, below_more, independent_is_least, dependent_is_not_least, form_by_rows}

-- what a place says of a word: it is least, or it isn't and has this normal form
abbrev pub IsSaid : Vanishing → BraidValue → ℕ → List (List ℕ) → List ℕ → Place → Type 0
IsSaid vanishes braid m all w Independent = is_least vanishes braid w ≡ true
IsSaid vanishes braid m all w (Depends cells) = (is_least vanishes braid w ≡ false) × (normal_form vanishes braid m (single w) ≡ combination_at all cells)

-- ---- by row

-- rows have these numbers as entries
abbrev pub HaveEntries : FieldValue → List (List Cell) → List (List ℕ) → (ℕ → List ℕ → ℕ) → Type 0
HaveEntries k rows ws φ = (i column : ℕ) → i < length ws → entry k (row_at rows i) column ≡ φ column (word_at ws i)

pub combined_as_weight : (k : FieldValue) (rows : List (List Cell)) (ws : List (List ℕ)) (φ : ℕ → List ℕ → ℕ) → HaveEntries k rows ws φ → (cells : List Cell) → AllBelow (length ws) cells → (column : ℕ) → combined_entry k rows cells column ≡ weight k (φ column) (combination_at ws cells)
unfolding combined_entry weight
combined_as_weight k rows ws φ entries [] below column = refl
combined_as_weight k rows ws φ entries (c ∷ cells) below column = ap₂ (λ n r. plus k (times k c.coefficient n) r) (entries c.column column below.0) (combined_as_weight k rows ws φ entries cells below.1 column)

independent_says : (vanishes : Vanishing) (braid : BraidValue) → IsField braid.field → (m : ℕ) → IsLinearTest braid.field (vanishes braid m) → (ws : List (List ℕ)) → IsSpanning vanishes braid m ws →
    (φ : ℕ → List ℕ → ℕ) → AreFunctionals braid.field (vanishes braid m) ws φ → (rows : List (List Cell)) → HaveEntries braid.field rows ws φ → (i : ℕ) → i < length ws →
    (IsDependent braid.field rows i → ⊥) → is_least vanishes braid (word_at ws i) ≡ true
independent_says vanishes braid is m l ws s φ functionals rows entries i within none =
    independent_is_least vanishes braid is m l ws s φ functionals i within
    (λ cells below elements same.
    none (
      cells,
      record {
        earlier = below;
        elements = elements;
        value = λ column. entries i column within ∙ same column ∙ sym (combined_as_weight braid.field rows ws φ entries cells (below_more i (length ws) within cells below) column);
      },
    ))

place_says : (vanishes : Vanishing) (braid : BraidValue) → IsField braid.field → (m : ℕ) → IsLinearTest braid.field (vanishes braid m) → (ws : List (List ℕ)) → IsSpanning vanishes braid m ws →
    (φ : ℕ → List ℕ → ℕ) → AreFunctionals braid.field (vanishes braid m) ws φ → (rows : List (List Cell)) → HaveEntries braid.field rows ws φ → (places : List Place) → ((i : ℕ) → i < length ws → IsPlace braid.field rows places i (place_at places i)) →
    (i : ℕ) → i < length ws → (p : Place) → IsPlace braid.field rows places i p → IsSaid vanishes braid m ws (word_at ws i) p
place_says vanishes braid is m l ws s φ functionals rows entries places each i within Independent h = independent_says vanishes braid is m l ws s φ functionals rows entries i within h
place_says vanishes braid is m l ws s φ functionals rows entries places each i within (Depends cells) h = (
  dependent_is_not_least vanishes braid is m l ws s φ functionals i within cells h.combination.earlier same,
  form_by_rows vanishes braid is m l ws s φ functionals i within cells h.combination.earlier h.combination.elements h.shape (all_least cells h.combination.earlier h.independent) same,
)
  where
    same : (column : ℕ) → φ column (word_at ws i) ≡ weight braid.field (φ column) (combination_at ws cells)
    same column = sym (entries i column within) ∙ h.combination.value column ∙ combined_as_weight braid.field rows ws φ entries cells (below_more i (length ws) within cells h.combination.earlier) column

    all_least : (ds : List Cell) → AllBelow i ds → AllIndependent places ds → AllCellsLeast vanishes braid ws ds
    all_least [] below independent = tt
    all_least (d ∷ ds) below independent =
        let inside : d.column < length ws = omega (arith, below.0) in (
          independent_says vanishes braid is m l ws s φ functionals rows entries d.column inside
              (place_independent braid.field rows places d.column (place_at places d.column) independent.0 (each d.column inside)),
          all_least ds below.1 independent.1,
        )

-- ---- all of them

abbrev pub AllSaid : (List ℕ → Place → Type 0) → List (List ℕ) → List Place → Type 0
AllSaid R [] places = Unit {0}
AllSaid R (w ∷ ws) [] = ⊥
AllSaid R (w ∷ ws) (p ∷ places) = R w p × AllSaid R ws places

pub all_said : (R : List ℕ → Place → Type 0) (ws : List (List ℕ)) (places : List Place) → length places ≡ length ws → ((i : ℕ) → i < length ws → R (word_at ws i) (place_at places i)) → AllSaid R ws places
all_said R [] places e h = tt
all_said R (w ∷ ws) [] e h = absurd (omega arith)
all_said R (w ∷ ws) (p ∷ places) e h = (h 0 (omega arith), all_said R ws places (omega arith) (λ i less. h (suc i) (omega arith)))

-- the places of a split say so of each word
split_says : (vanishes : Vanishing) (braid : BraidValue) → IsField braid.field → (m : ℕ) → IsLinearTest braid.field (vanishes braid m) → (ws : List (List ℕ)) → IsSpanning vanishes braid m ws →
    (φ : ℕ → List ℕ → ℕ) → AreFunctionals braid.field (vanishes braid m) ws φ → (rows : List (List Cell)) → length rows ≡ length ws → HaveEntries braid.field rows ws φ → (places : List Place) → IsSplit braid.field rows places →
    AllSaid (IsSaid vanishes braid m ws) ws places
split_says vanishes braid is m l ws s φ functionals rows size entries places split =
    all_said (IsSaid vanishes braid m ws) ws places (split.count ∙ size)
    (λ i within. place_says vanishes braid is m l ws s φ functionals rows entries places each i within (place_at places i) (each i within))
  where
    each : (i : ℕ) → i < length ws → IsPlace braid.field rows places i (place_at places i)
    each i within = split.each i (omega arith)

-- ---- what is read off

least_are_independent : (vanishes : Vanishing) (braid : BraidValue) (m : ℕ) (all ws : List (List ℕ)) (places : List Place) → AllSaid (IsSaid vanishes braid m all) ws places → independent_in ws places ≡ least_of vanishes braid ws
least_are_independent vanishes braid m all [] places h = refl
least_are_independent vanishes braid m all (w ∷ ws) [] h = absurd h
least_are_independent vanishes braid m all (w ∷ ws) (Independent ∷ places) h =
    ap (λ vs. w ∷ vs) (least_are_independent vanishes braid m all ws places h.1) ∙ ap (λ b. cond b (w ∷ least_of vanishes braid ws) (least_of vanishes braid ws)) (sym h.0)
least_are_independent vanishes braid m all (w ∷ ws) (Depends cells ∷ places) h =
    least_are_independent vanishes braid m all ws places h.1 ∙ ap (λ b. cond b (w ∷ least_of vanishes braid ws) (least_of vanishes braid ws)) (sym h.0.0)

pub independent_in-map : {X Y : Type 0} (f : X → Y) (xs : List X) (places : List Place) → independent_in (map f xs) places ≡ map f (independent_in xs places)
independent_in-map f [] places = refl
independent_in-map f (x ∷ xs) [] = refl
independent_in-map f (x ∷ xs) (Independent ∷ places) = ap (λ ys. f x ∷ ys) (independent_in-map f xs places)
independent_in-map f (x ∷ xs) (Depends cells ∷ places) = independent_in-map f xs places

relations_are_dependent : (vanishes : Vanishing) (braid : BraidValue) (m : ℕ) (all ws : List (List ℕ)) (places : List Place) → AllSaid (IsSaid vanishes braid m all) ws places → dependent_in all ws places ≡ relations_of vanishes braid m ws
relations_are_dependent vanishes braid m all [] places h = refl
relations_are_dependent vanishes braid m all (w ∷ ws) [] h = absurd h
relations_are_dependent vanishes braid m all (w ∷ ws) (Independent ∷ places) h =
    relations_are_dependent vanishes braid m all ws places h.1 ∙ ap (λ b. map (relation_at vanishes braid m) (cond (not b) (w ∷ others) others)) (sym h.0)
  where
    others : List (List ℕ)
    others = filter (λ v. not (is_least vanishes braid v)) ws
relations_are_dependent vanishes braid m all (w ∷ ws) (Depends cells ∷ places) h =
    ap₂ (λ (f : Combination) (rs : List PlainRelation). record { candidate = w; form = f } ∷ rs) (sym h.0.1) (relations_are_dependent vanishes braid m all ws places h.1) ∙ ap (λ b. map (relation_at vanishes braid m) (cond (not b) (w ∷ others) others)) (sym h.0.0)
  where
    others : List (List ℕ)
    others = filter (λ v. not (is_least vanishes braid v)) ws

-- the places of a split name earlier positions alone
split_inside : (k : FieldValue) (rows : List (List Cell)) (places : List Place) → IsSplit k rows places → AllByRecursion (IsInside (length rows)) places
split_inside k rows places split = all_inside places (λ i less. inside i (omega (arith, split.count)))
  where
    of_place : (i : ℕ) → i < length rows → (p : Place) → IsPlace k rows places i p → IsInside (length rows) p
    of_place i less Independent h = tt
    of_place i less (Depends cells) h = below_more i (length rows) less cells h.combination.earlier

    inside : (i : ℕ) → i < length rows → IsInside (length rows) (place_at places i)
    inside i less = of_place i less (place_at places i) (split.each i less)

    all_inside : (ps : List Place) → ((i : ℕ) → i < length ps → IsInside (length rows) (place_at ps i)) → AllByRecursion (IsInside (length rows)) ps
    all_inside [] h = tt
    all_inside (p ∷ ps) h = (h 0 (omega arith), all_inside ps (λ i less. h (suc i) (omega arith)))

-- ---- of all candidates

-- the words with independent places are the basis
pub basis_is_read : (vanishes : Vanishing) (braid : BraidValue) → IsField braid.field → (m : ℕ) → IsLinearTest braid.field (vanishes braid m) → (ws : List (List ℕ)) → IsSpanning vanishes braid m ws →
    (φ : ℕ → List ℕ → ℕ) → AreFunctionals braid.field (vanishes braid m) ws φ → (rows : List (List Cell)) → length rows ≡ length ws → HaveEntries braid.field rows ws φ → (places : List Place) → IsSplit braid.field rows places →
    independent_in ws places ≡ basis vanishes braid m
basis_is_read vanishes braid is m l ws s φ functionals rows size entries places split =
    least_are_independent vanishes braid m ws ws places (split_says vanishes braid is m l ws s φ functionals rows size entries places split) ∙ sym (basis_among vanishes braid is m l ws s)

-- and the others are the relations
pub relations_are_read : (vanishes : Vanishing) (braid : BraidValue) → IsField braid.field → (m : ℕ) → IsLinearTest braid.field (vanishes braid m) → (ws : List (List ℕ)) → ws ≡ candidates vanishes braid m → IsSpanning vanishes braid m ws →
    (φ : ℕ → List ℕ → ℕ) → AreFunctionals braid.field (vanishes braid m) ws φ → (rows : List (List Cell)) → length rows ≡ length ws → HaveEntries braid.field rows ws φ → (places : List Place) → IsSplit braid.field rows places →
    dependent_in ws ws places ≡ relations vanishes braid m
relations_are_read vanishes braid is m l ws e s φ functionals rows size entries places split =
    relations_are_dependent vanishes braid m ws ws places (split_says vanishes braid is m l ws s φ functionals rows size entries places split) ∙ ap (relations_of vanishes braid m) e ∙ sym (relations_are vanishes braid m)

-- the places name positions of words alone
pub places_inside : (k : FieldValue) (rows : List (List Cell)) (words : List (List ℕ)) (places : List Place) → length rows ≡ length words → IsSplit k rows places → AllByRecursion (IsInside (length words)) places
places_inside k rows words places e split = subst (λ n. AllByRecursion (IsInside n) places) e (split_inside k rows places split)
