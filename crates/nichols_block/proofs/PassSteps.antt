-- How a pass goes on at a word: on both sides of its first and its last letter, and with its relation.
use Rattle.std.proofs.Common.{◌≡◌, ◌≢◌, ℕ, suc, ◌+◌, ◌-◌, ◌<◌, ◌≤◌, ◌&&◌, Bool, true, false, cond, List, [], ◌∷◌, ◌++◌, drop, length, map, slice_index_or, sym, ◌∙◌, ap, ap₂, subst, arith, inl, inr, append_assoc, length-append}
use Rattle.std.specs.List.{filter, AllByRecursion, Contains}
use Rattle.std.specs.declared.cmp.Ordering.TheVariants.{Less}
use Rattle.std.proofs.lemmas.List.{get_or-map, get_or-set_same, get_or-set_other, length-map, map-append, append_cancel_left}
use Rattle.std.proofs.Math.Bool.{and-true, and-false}
use Rattle.std.proofs.lemmas.Bool.{cases_eq}
use Rattle.nichols_field.specs.Field.{FieldValue}
use Rattle.nichols_tensor.specs.Combination.{AllElements, Combination, linear_map, same_letters, single}
use Rattle.nichols_tensor.specs.InOrder.{in_order}
use Rattle.nichols_tensor.specs.Positions.{word_at}
use Rattle.nichols_tensor.specs.Relation.{PlainRelation}
use Rattle.nichols_tensor.specs.Words.{IsWordOver, up_to}
use Rattle.nichols_tensor.specs.WordOrder.{word_cmp, IsRising}
use Rattle.nichols_tensor.proofs.Entries.{contains_first, contains_later}
use Rattle.nichols_tensor.proofs.Letters.{up_to_length}
use Rattle.nichols_tensor.proofs.Over.{word_over_front}
use Rattle.nichols_tensor.proofs.Values.{same_itself}
use Rattle.nichols_braid.specs.Braid.{BraidValue, IsBraid, IsLetter}
use Rattle.nichols_braid.specs.Kernel.{is_killed}
use Rattle.nichols_braid.specs.Least.{is_least, normal_form}
use Rattle.nichols_braid.specs.LeastLaws.{IsNormalForm}
use Rattle.nichols_braid.specs.Product.{product_of}
use Rattle.nichols_braid.proofs.BraidLaws.{killed_is_ideal_from_right, killed_is_linear}
use Rattle.nichols_braid.proofs.LeftLaws.{killed_is_ideal_from_left}
use Rattle.nichols_braid.proofs.SideForms.{left_form_is_normal, reads_earlier, right_form_is_normal}
use Rattle.nichols_braid.proofs.Permutations.{apart_is_false}
use Rattle.nichols_echelon.specs.Cells.{AllBelow, AllNonzero, Cell, IsRow}
use Rattle.nichols_echelon.specs.Cells.{AllElements as AllCellsElements}
use Rattle.nichols_echelon.specs.Combination.{AllRowsBelow, AllRowsElements, AreRows}
use Rattle.nichols_echelon.specs.Rows.{RowsValue}
use Rattle.nichols_rows.specs.CombinationAt.{combination_at}
use Rattle.nichols_value.specs.declared.spot.Spot.{Spot}
use Rattle.nichols_value.specs.Block.{block_basis, left_lower_basis, lower_basis}
use Rattle.nichols_value.specs.Rule.{right_forms}
use Rattle.nichols_value.specs.Kept.{AreCellsOf, IsSpot, relation_at}
use Rattle.nichols_value.proofs.Blocks.{block_basis_rises, normal_in_block}
use Rattle.nichols_value.proofs.FormCells.{form_cells_elements, elements_back}
use Rattle.nichols_value.proofs.RuleEntries.{letter_entry, left_word, right_word, word_form_is_normal}
use Rattle.nichols_block.specs.Rows.{rows_by}
use Rattle.nichols_block.specs.Words.{but_last, is_left, is_right}
use Rattle.nichols_block.specs.Pass.{IsLeftSide, IsRightSide, IsRowSum, IsSide, IsTable, is_related, own_relation, with_row, with_row_of}
use Rattle.nichols_block.proofs.Sides.{AreRead, side_pass, side_push, side_read}
use Rattle.nichols_block.proofs.SumForms.{sum_form}
use Rattle.std.proofs.lemmas.List.Elements.{Contains-append_left}

-- ---- tests of words

-- a word with its last letter, or its first one
pub right_at : (braid : BraidValue) (b : ℕ) (w : List ℕ) → w ≡ but_last w ++ b ∷ [] → is_right braid b w ≡ is_least is_killed braid (but_last w)
right_at braid b w e = ap (λ t. is_least is_killed braid (but_last w) && t) (ap (λ v. same_letters v w) (sym e) ∙ same_itself w) ∙ and-true (is_least is_killed braid (but_last w))

pub right_at_other : (braid : BraidValue) (b c : ℕ) (w : List ℕ) → w ≡ but_last w ++ b ∷ [] → c ≢ b → is_right braid c w ≡ false
right_at_other braid b c w e other =
    ap (λ t. is_least is_killed braid (but_last w) && t) (apart_is_false (but_last w ++ c ∷ []) w (λ same. other (let h : c ∷ [] ≡ b ∷ [] = append_cancel_left (but_last w) (c ∷ []) (b ∷ []) (same ∙ e) in cc))) ∙ and-false (is_least is_killed braid (but_last w))

pub not_right : (braid : BraidValue) (c : ℕ) (w : List ℕ) → is_least is_killed braid (but_last w) ≡ false → is_right braid c w ≡ false
not_right braid c w e = ap (λ t. t && same_letters (but_last w ++ c ∷ []) w) e

pub left_at : (braid : BraidValue) (a : ℕ) (w : List ℕ) → w ≡ a ∷ drop 1 w → is_left braid a w ≡ is_least is_killed braid (drop 1 w)
left_at braid a w e = ap (λ t. is_least is_killed braid (drop 1 w) && t) (ap (λ v. same_letters v w) (sym e) ∙ same_itself w) ∙ and-true (is_least is_killed braid (drop 1 w))

pub left_at_other : (braid : BraidValue) (a c : ℕ) (w : List ℕ) → w ≡ a ∷ drop 1 w → c ≢ a → is_left braid c w ≡ false
left_at_other braid a c w e other =
    ap (λ t. is_least is_killed braid (drop 1 w) && t) (apart_is_false (c ∷ drop 1 w) w (λ same. other (let h : c ∷ drop 1 w ≡ a ∷ drop 1 w = same ∙ e in cc))) ∙ and-false (is_least is_killed braid (drop 1 w))

pub not_left : (braid : BraidValue) (c : ℕ) (w : List ℕ) → is_least is_killed braid (drop 1 w) ≡ false → is_left braid c w ≡ false
not_left braid c w e = ap (λ t. t && same_letters (c ∷ drop 1 w) w) e

-- ---- rows by letter

pub rows_here : (lists : List RowsValue) (n a : ℕ) (cells : List Cell) → length lists ≡ n → 1 ≤ a → a ≤ n → rows_by (with_row_of lists a cells) a ≡ with_row (rows_by lists a) cells
rows_here lists n a cells size some most = get_or-set_same lists (a - 1) (with_row (rows_by lists a) cells) _ (omega arith)

pub rows_elsewhere : (lists : List RowsValue) (a c : ℕ) (cells : List Cell) → 1 ≤ a → 1 ≤ c → c ≢ a → rows_by (with_row_of lists a cells) c ≡ rows_by lists c
rows_elsewhere lists a c cells some other_some other = get_or-set_other lists (a - 1) (c - 1) (with_row (rows_by lists a) cells) _ (λ e. other (let h : c ≡ a = omega arith in h))

-- ---- sides of all letters

-- the row of a word that is `u b` with u least
pub rights_more : (braid : BraidValue) (m : ℕ) (g w : List ℕ) (rest : List (List ℕ)) (rights : List RowsValue) (b : ℕ) (cells : List Cell) → IsLetter braid b → length rights ≡ braid.letters → w ≡ but_last w ++ b ∷ [] →
    is_least is_killed braid (but_last w) ≡ true → IsRow cells → AllBelow (length (block_basis braid m g)) cells → combination_at (block_basis braid m g) cells ≡ normal_form is_killed braid m (single w) →
    ((c : ℕ) → IsLetter braid c → IsRightSide braid m g (w ∷ rest) rights c) → (c : ℕ) → IsLetter braid c → IsRightSide braid m g rest (with_row_of rights b cells) c
rights_more braid m g w rest rights b cells lb size word least row below form sides c lc =
    elim (cases_eq c b) [
      | inl same ↦
          subst (IsRightSide braid m g rest (with_row_of rights b cells)) (sym same)
          (subst (IsSide ws (lower_basis braid m g b) (λ u. u ++ b ∷ []) normal (is_right braid b) rest) (sym (rows_here rights braid.letters b cells size lb.0 lb.1))
          (side_push ws (lower_basis braid m g b) (λ u. u ++ b ∷ []) normal (is_right braid b) w rest (rows_by rights b) cells (right_at braid b w word ∙ least) row below form (sides b lb)))
      | inr other ↦
          subst (IsSide ws (lower_basis braid m g c) (λ u. u ++ c ∷ []) normal (is_right braid c) rest) (sym (rows_elsewhere rights b c cells lb.0 lc.0 other))
          (side_pass ws (lower_basis braid m g c) (λ u. u ++ c ∷ []) normal (is_right braid c) w rest (rows_by rights c) (right_at_other braid b c w word other) (sides c lc))
    ]
  where
    ws : List (List ℕ)
    ws = block_basis braid m g

    normal : List ℕ → Combination
    normal v = normal_form is_killed braid m (single v)

pub rights_pass : (braid : BraidValue) (m : ℕ) (g w : List ℕ) (rest : List (List ℕ)) (rights : List RowsValue) → is_least is_killed braid (but_last w) ≡ false →
    ((c : ℕ) → IsLetter braid c → IsRightSide braid m g (w ∷ rest) rights c) → (c : ℕ) → IsLetter braid c → IsRightSide braid m g rest rights c
rights_pass braid m g w rest rights least sides c lc =
    side_pass (block_basis braid m g) (lower_basis braid m g c) (λ u. u ++ c ∷ []) (λ v. normal_form is_killed braid m (single v)) (is_right braid c) w rest (rows_by rights c) (not_right braid c w least) (sides c lc)

pub lefts_more : (braid : BraidValue) (m : ℕ) (g w : List ℕ) (rest : List (List ℕ)) (lefts : List RowsValue) (a : ℕ) (cells : List Cell) → IsLetter braid a → length lefts ≡ braid.letters → w ≡ a ∷ drop 1 w →
    is_least is_killed braid (drop 1 w) ≡ true → IsRow cells → AllBelow (length (block_basis braid m g)) cells → combination_at (block_basis braid m g) cells ≡ normal_form is_killed braid m (single w) →
    ((c : ℕ) → IsLetter braid c → IsLeftSide braid m g (w ∷ rest) lefts c) → (c : ℕ) → IsLetter braid c → IsLeftSide braid m g rest (with_row_of lefts a cells) c
lefts_more braid m g w rest lefts a cells la size word least row below form sides c lc =
    elim (cases_eq c a) [
      | inl same ↦
          subst (IsLeftSide braid m g rest (with_row_of lefts a cells)) (sym same)
          (subst (IsSide ws (left_lower_basis braid m g a) (λ u. a ∷ u) normal (is_left braid a) rest) (sym (rows_here lefts braid.letters a cells size la.0 la.1))
          (side_push ws (left_lower_basis braid m g a) (λ u. a ∷ u) normal (is_left braid a) w rest (rows_by lefts a) cells (left_at braid a w word ∙ least) row below form (sides a la)))
      | inr other ↦
          subst (IsSide ws (left_lower_basis braid m g c) (λ u. c ∷ u) normal (is_left braid c) rest) (sym (rows_elsewhere lefts a c cells la.0 lc.0 other))
          (side_pass ws (left_lower_basis braid m g c) (λ u. c ∷ u) normal (is_left braid c) w rest (rows_by lefts c) (left_at_other braid a c w word other) (sides c lc))
    ]
  where
    ws : List (List ℕ)
    ws = block_basis braid m g

    normal : List ℕ → Combination
    normal v = normal_form is_killed braid m (single v)

pub lefts_pass : (braid : BraidValue) (m : ℕ) (g w : List ℕ) (rest : List (List ℕ)) (lefts : List RowsValue) → is_least is_killed braid (drop 1 w) ≡ false →
    ((c : ℕ) → IsLetter braid c → IsLeftSide braid m g (w ∷ rest) lefts c) → (c : ℕ) → IsLetter braid c → IsLeftSide braid m g rest lefts c
lefts_pass braid m g w rest lefts least sides c lc =
    side_pass (block_basis braid m g) (left_lower_basis braid m g c) (λ u. c ∷ u) (λ v. normal_form is_killed braid m (single v)) (is_left braid c) w rest (rows_by lefts c) (not_left braid c w least) (sides c lc)

-- ---- relations

related_first : (braid : BraidValue) (m : ℕ) (w : List ℕ) (rest : List (List ℕ)) → is_related braid w ≡ true → map (own_relation braid m) (filter (is_related braid) (w ∷ rest)) ≡ own_relation braid m w ∷ map (own_relation braid m) (filter (is_related braid) rest)
related_first braid m w rest e = ap (λ b. map (own_relation braid m) (cond b (w ∷ filter (is_related braid) rest) (filter (is_related braid) rest))) e

related_other : (braid : BraidValue) (m : ℕ) (w : List ℕ) (rest : List (List ℕ)) → is_related braid w ≡ false → map (own_relation braid m) (filter (is_related braid) (w ∷ rest)) ≡ map (own_relation braid m) (filter (is_related braid) rest)
related_other braid m w rest e = ap (λ b. map (own_relation braid m) (cond b (w ∷ filter (is_related braid) rest) (filter (is_related braid) rest))) e

-- a word that has no relation
pub table_pass : (braid : BraidValue) (m : ℕ) (g w : List ℕ) (rest : List (List ℕ)) (spots : List Spot) → is_related braid w ≡ false → IsTable braid m g (w ∷ rest) spots → IsTable braid m g rest spots
table_pass braid m g w rest spots e t = record {
  inside = t.inside;
  table =
      ap (λ rs. map (relation_at (map (lower_basis braid m g) (up_to braid.letters)) (map (right_forms braid m g) (up_to braid.letters))) spots ++ rs) (sym (related_other braid m w rest e)) ∙ t.table;
}

right_form_at : (braid : BraidValue) (m : ℕ) (g : List ℕ) (b k : ℕ) → k < length (lower_basis braid m g b) → slice_index_or (right_forms braid m g b) k [] ≡ normal_form is_killed braid m (single (word_at (lower_basis braid m g b) k ++ b ∷ []))
unfolding right_forms
right_form_at braid m g b k less = get_or-map (λ u. normal_form is_killed braid m (single (u ++ b ∷ []))) (lower_basis braid m g b) k [] [] less

-- one that has: its spot is the letter and the place of the next word
pub table_more : (braid : BraidValue) (m : ℕ) (g w : List ℕ) (rest : List (List ℕ)) (spots : List Spot) (b k : ℕ) → IsLetter braid b → k < length (lower_basis braid m g b) → word_at (lower_basis braid m g b) k ++ b ∷ [] ≡ w → is_related braid w ≡ true →
    IsTable braid m g (w ∷ rest) spots → IsTable braid m g rest (spots ++ record { letter = b; place = k } ∷ [])
table_more braid m g w rest spots b k lb less word related t = record {
  inside = all_more spots t.inside;
  table =
      ap (λ rs. rs ++ others) (map-append at spots (spot ∷ []))
      ∙ append_assoc (map at spots) (at spot ∷ []) others ∙ ap (λ (r : PlainRelation). map at spots ++ r ∷ others) own ∙ ap (λ rs. map at spots ++ rs) (sym (related_first braid m w rest related)) ∙ t.table;
}
  where
    below : List (List (List ℕ))
    below = map (lower_basis braid m g) (up_to braid.letters)

    right : List (List Combination)
    right = map (right_forms braid m g) (up_to braid.letters)

    at : Spot → PlainRelation
    at s = relation_at below right s

    spot : Spot
    spot = record { letter = b; place = k }

    others : List PlainRelation
    others = map (own_relation braid m) (filter (is_related braid) rest)

    here : slice_index_or below (b - 1) [] ≡ lower_basis braid m g b
    here = letter_entry (lower_basis braid m g) braid.letters b lb

    inside : IsSpot below spot
    inside = (lb.0, subst (λ n. b - 1 < n) (sym (length-map (up_to braid.letters) (lower_basis braid m g) ∙ up_to_length braid.letters)) (let s : 1 ≤ b = lb.0 in let l : b ≤ braid.letters = lb.1 in omega arith), subst (λ vs. k < length vs) (sym here) less)

    all_more : (xs : List Spot) → AllByRecursion (IsSpot below) xs → AllByRecursion (IsSpot below) (xs ++ spot ∷ [])
    all_more [] h = (inside, tt)
    all_more (x ∷ xs) h = (h.0, all_more xs h.1)

    candidate : word_at (slice_index_or below (b - 1) []) k ++ b ∷ [] ≡ w
    candidate = ap (λ vs. word_at vs k ++ b ∷ []) here ∙ word

    form : slice_index_or (slice_index_or right (b - 1) []) k [] ≡ normal_form is_killed braid m (single w)
    form =
        ap (λ (fs : List Combination). slice_index_or fs k []) (letter_entry (right_forms braid m g) braid.letters b lb) ∙ right_form_at braid m g b k less ∙ ap (λ v. normal_form is_killed braid m (single v)) word

    own : at spot ≡ own_relation braid m w
    own = ap₂ (λ v (f : Combination). record { candidate = v; form = f }) candidate form

-- ---- what is read

-- what a sum of rows takes
pub record AreReady (k : FieldValue) (width : ℕ) (rows : List (List Cell)) (cells : List Cell) : Type 0 where
  pub factors : AllCellsElements k cells
  pub nonzero : AllNonzero cells
  pub places : AllBelow (length rows) cells
  pub shape : AreRows rows
  pub elements : AllRowsElements k rows
  pub below : AllRowsBelow width rows

rows_elements : (k : FieldValue) (ws : List (List ℕ)) (rows : List (List Cell)) → AllByRecursion (AllElements k) (map (combination_at ws) rows) → AllRowsElements k rows
rows_elements k ws [] e = tt
rows_elements k ws (row ∷ rows) e = (elements_back k ws row e.0, rows_elements k ws rows e.1)

-- the rows of a side are of words of the block
side_elements : (k : FieldValue) (ws us : List (List ℕ)) (image : List ℕ → List ℕ) (form : List ℕ → Combination) (test : List ℕ → Bool) (rest : List (List ℕ)) (kept : RowsValue) → ((u : List ℕ) → Contains us u → AllElements k (form (image u))) →
    IsSide ws us image form test rest kept → AllRowsElements k kept.rows
side_elements k ws us image form test rest kept each s =
    rows_elements k ws kept.rows (subst (AllByRecursion (AllElements k)) (sym s.rows.forms) (all_of s.done (λ u i. each u (subst (λ vs. Contains vs u) (sym s.parts) (Contains-append_left s.done s.ahead u i)))))
  where
    all_of : (vs : List (List ℕ)) → ((u : List ℕ) → Contains vs u → AllElements k (form (image u))) → AllByRecursion (AllElements k) (map (λ u. form (image u)) vs)
    all_of [] h = tt
    all_of (v ∷ vs) h = (h v (contains_first v vs), all_of vs (λ u i. h u (contains_later v vs u i)))

over_cells : (us : List (List ℕ)) (P : List ℕ → Type 0) (cells : List Cell) → AllByRecursion (λ t. P t.word) (combination_at us cells) → AllByRecursion (λ (c : Cell). P (word_at us c.column)) cells
over_cells us P [] h = tt
over_cells us P (c ∷ cells) h = (h.0, over_cells us P cells h.1)

-- what a sum of the rows of a side takes for a word, and what it makes
pub record IsReadAt (braid : BraidValue) (m : ℕ) (g w : List ℕ) (kept : RowsValue) (cells : List Cell) : Type 0 where
  pub ready : AreReady braid.field (length (block_basis braid m g)) kept.rows cells
  pub form : (row : List Cell) → IsRowSum braid.field kept.rows cells row → AreCellsOf (block_basis braid m g) (normal_form is_killed braid m (single w)) row

-- a word `image s` where the normal form of s is of earlier words: read from rows of words `image u`
read_side : (braid : BraidValue) → IsBraid braid → (n : ℕ) (g w s : List ℕ) (rest us : List (List ℕ)) (image : List ℕ → List ℕ) (test : List ℕ → Bool) (kept : RowsValue) (cells : List Cell) → length w ≡ suc n → IsWordOver braid.letters w → product_of braid w ≡ g → w ≡ image s →
    length s ≡ n → IsWordOver braid.letters s → ((u : List ℕ) → Contains us u → (length (image u) ≡ suc n) × IsWordOver braid.letters (image u)) → AllByRecursion (λ t. word_cmp (image t.word) (image s) ≡ Less) (normal_form is_killed braid (length s) (single s)) →
    normal_form is_killed braid (suc n) (single (image s)) ≡ in_order braid.field (linear_map braid.field (λ u. normal_form is_killed braid (suc n) (single (image u))) (normal_form is_killed braid n (single s))) → IsRising (w ∷ rest) →
    IsSide (block_basis braid (suc n) g) us image (λ v. normal_form is_killed braid (suc n) (single v)) test (w ∷ rest) kept → AreCellsOf us (normal_form is_killed braid n (single s)) cells → IsReadAt braid (suc n) g w kept cells
read_side braid is n g w s rest us image test kept cells size over product word s_size s_over each before sum_of rising side are = record {
  ready = record {
    factors = form_cells_elements k us (normal_form is_killed braid n (single s)) cells (word_form_is_normal braid is n s s_size s_over).elements are;
    nonzero = are.row.nonzero;
    places = read.below;
    shape = side.rows.shape.shape;
    elements = side_elements k ws us image normal test (w ∷ rest) kept (λ u i. let (l, o) = each u i in (word_form_is_normal braid is (suc n) (image u) l o).elements) side;
    below = side.rows.shape.below;
  };
  form = λ row sum.
      sum_form k is.field ws us (block_basis_rises braid (suc n) g) (λ u. normal (image u)) kept.rows side.rows.shape.below cells row read.forms sum (normal w) whole (normal_in_block braid is (suc n) g w size over product)
      own.ordered own.elements;
}
  where
    k : FieldValue
    k = braid.field

    ws : List (List ℕ)
    ws = block_basis braid (suc n) g

    normal : List ℕ → Combination
    normal v = normal_form is_killed braid (suc n) (single v)

    own : IsNormalForm is_killed braid (suc n) (single w) (normal w)
    own = word_form_is_normal braid is (suc n) w size over

    earlier : AllByRecursion (λ t. word_cmp (image t.word) w ≡ Less) (normal_form is_killed braid n (single s))
    earlier =
        subst (λ v. AllByRecursion (λ t. word_cmp (image t.word) v ≡ Less) (normal_form is_killed braid n (single s))) (sym word)
        (subst (λ i. AllByRecursion (λ t. word_cmp (image t.word) (image s) ≡ Less) (normal_form is_killed braid i (single s))) s_size before)

    read : AreRead ws us normal image kept cells
    read =
        side_read ws us image normal test w rest kept cells rising are.below
        (over_cells us (λ v. word_cmp (image v) w ≡ Less) cells (subst (AllByRecursion (λ t. word_cmp (image t.word) w ≡ Less)) (sym are.form) earlier)) side

    whole : normal w ≡ in_order k (linear_map k (λ u. normal (image u)) (combination_at us cells))
    whole = ap normal word ∙ sum_of ∙ ap (λ (f : Combination). in_order k (linear_map k (λ u. normal (image u)) f)) (sym are.form)

-- a word `a s` where s isn't least: read from rows of words `a v`
pub read_left : (braid : BraidValue) → IsBraid braid → (n : ℕ) (g w : List ℕ) (rest : List (List ℕ)) (a : ℕ) (lefts : List RowsValue) (cells : List Cell) → length w ≡ suc n → IsWordOver braid.letters w → product_of braid w ≡ g → IsLetter braid a → w ≡ a ∷ drop 1 w →
    is_least is_killed braid (drop 1 w) ≡ false → IsRising (w ∷ rest) → IsLeftSide braid (suc n) g (w ∷ rest) lefts a → AreCellsOf (left_lower_basis braid (suc n) g a) (normal_form is_killed braid n (single (drop 1 w))) cells → IsReadAt braid (suc n) g w (rows_by lefts a) cells
read_left braid is n g w rest a lefts cells size over product la word least rising side are =
    read_side braid is n g w s rest (left_lower_basis braid (suc n) g a) (λ v. a ∷ v) (is_left braid a) (rows_by lefts a) cells size over product word s_size s_over (left_word braid (suc n) g a la)
    ((reads_earlier is_killed braid is.field s (killed_is_linear braid is (length s)) s_over least).left a)
    (left_form_is_normal is_killed braid is.field (killed_is_ideal_from_left braid is) n a s la s_size s_over) rising side are
  where
    s : List ℕ
    s = drop 1 w

    s_size : length s ≡ n
    s_size = let e : length w ≡ suc (length s) = ap length word in omega arith

    s_over : IsWordOver braid.letters s
    s_over = (subst (IsWordOver braid.letters) word over).1

-- and a word `u b` where u isn't least, from rows of words `u b`
pub read_right : (braid : BraidValue) → IsBraid braid → (n : ℕ) (g w : List ℕ) (rest : List (List ℕ)) (b : ℕ) (rights : List RowsValue) (cells : List Cell) → length w ≡ suc n → IsWordOver braid.letters w → product_of braid w ≡ g → IsLetter braid b → w ≡ but_last w ++ b ∷ [] →
    is_least is_killed braid (but_last w) ≡ false → IsRising (w ∷ rest) → IsRightSide braid (suc n) g (w ∷ rest) rights b → AreCellsOf (lower_basis braid (suc n) g b) (normal_form is_killed braid n (single (but_last w))) cells → IsReadAt braid (suc n) g w (rows_by rights b) cells
read_right braid is n g w rest b rights cells size over product lb word least rising side are =
    read_side braid is n g w s rest (lower_basis braid (suc n) g b) (λ u. u ++ b ∷ []) (is_right braid b) (rows_by rights b) cells size over product word s_size s_over (right_word braid (suc n) g b lb)
    ((reads_earlier is_killed braid is.field s (killed_is_linear braid is (length s)) s_over least).right b)
    (right_form_is_normal is_killed braid is.field (killed_is_ideal_from_right braid is) n s b s_size s_over lb) rising side are
  where
    s : List ℕ
    s = but_last w

    s_size : length s ≡ n
    s_size = let e : length w ≡ length s + 1 = ap length word ∙ length-append s (b ∷ []) in omega arith

    s_over : IsWordOver braid.letters s
    s_over = word_over_front braid.letters s (b ∷ []) (subst (IsWordOver braid.letters) word over)
