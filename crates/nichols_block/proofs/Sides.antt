-- How a pass goes on, on the side of one letter.
use Rattle.std.proofs.Common.{◌≡◌, ℕ, suc, ◌+◌, ◌-◌, ◌<◌, Bool, true, false, cond, List, [], ◌∷◌, ◌++◌, length, map, slice_index_or, refl, sym, ◌∙◌, ap, ap₂, subst, arith, inl, inr, length-append}
use Rattle.std.specs.List.{filter, AllByRecursion, Contains}
use Rattle.std.specs.declared.cmp.Ordering.TheVariants.{Less}
use Rattle.std.proofs.lemmas.Bool.{cases_lt}
use Rattle.std.proofs.lemmas.List.{map-append, length-map, get_or-map, get_or_append_left, get_or-append-add}
use Rattle.std.proofs.Math.Seq.{get_or-append_seam}
use Rattle.nichols_tensor.specs.Combination.{Combination}
use Rattle.nichols_tensor.specs.Positions.{word_at}
use Rattle.nichols_tensor.specs.WordOrder.{word_cmp, IsRising}
use Rattle.nichols_tensor.proofs.Entries.{contains_cases, from_filter, in_map}
use Rattle.nichols_tensor.proofs.Order.{less_is_other, word_cmp_total}
use Rattle.nichols_tensor.proofs.Rising.{stands_after, word_at_is_in}
use Rattle.nichols_echelon.specs.Cells.{AllBelow, Cell, IsRow}
use Rattle.nichols_echelon.specs.Combination.{row_at}
use Rattle.nichols_echelon.specs.Rows.{RowsValue}
use Rattle.nichols_echelon.proofs.Shapes.{all_push}
use Rattle.nichols_rows.specs.CombinationAt.{combination_at}
use Rattle.nichols_value.proofs.KeptRows.{no_rows}
use Rattle.nichols_block.specs.Rows.{AreRowsOf}
use Rattle.nichols_block.specs.Pass.{IsSide, with_row}

-- ---- lists

filter_first : {X : Type 0} (t : X → Bool) (x : X) (xs : List X) → t x ≡ true → filter t (x ∷ xs) ≡ x ∷ filter t xs
filter_first t x xs e = ap (λ b. cond b (x ∷ filter t xs) (filter t xs)) e

filter_other : {X : Type 0} (t : X → Bool) (x : X) (xs : List X) → t x ≡ false → filter t (x ∷ xs) ≡ filter t xs
filter_other t x xs e = ap (λ b. cond b (x ∷ filter t xs) (filter t xs)) e

-- ---- how it begins, and ends

pub side_start : (ws us : List (List ℕ)) (image : List ℕ → List ℕ) (form : List ℕ → Combination) (test : List ℕ → Bool) (all : List (List ℕ)) → filter test all ≡ map image us → IsSide ws us image form test all no_rows
side_start ws us image form test all e = record {
  done = [];
  ahead = us;
  parts = refl;
  rows = record { shape = record { closed = refl; shape = tt; below = tt }; forms = refl };
  words = e;
}

pub side_end : (ws us : List (List ℕ)) (image : List ℕ → List ℕ) (form : List ℕ → Combination) (test : List ℕ → Bool) (rows : RowsValue) → IsSide ws us image form test [] rows → AreRowsOf ws (map (λ u. form (image u)) us) rows
side_end ws us image form test rows s = subst (λ vs. AreRowsOf ws (map (λ u. form (image u)) vs) rows) (sym (all s.ahead s.words s.parts)) s.rows
  where
    all : (vs : List (List ℕ)) → [] ≡ map image vs → us ≡ s.done ++ vs → us ≡ s.done
    all [] none e = e ∙ search_nil s.done
      where
        search_nil : (xs : List (List ℕ)) → xs ++ [] ≡ xs
        search_nil [] = refl
        search_nil (x ∷ xs) = ap (λ ys. x ∷ ys) (search_nil xs)
    all (v ∷ vs) none e = absurd (let c : ◌≡◌ {A = List (List ℕ)} [] (image v ∷ map image vs) = none in cc)

-- ---- a word that is of another letter

pub side_pass : (ws us : List (List ℕ)) (image : List ℕ → List ℕ) (form : List ℕ → Combination) (test : List ℕ → Bool) (w : List ℕ) (rest : List (List ℕ)) (rows : RowsValue) → test w ≡ false →
    IsSide ws us image form test (w ∷ rest) rows → IsSide ws us image form test rest rows
side_pass ws us image form test w rest rows fails s = record { done = s.done; ahead = s.ahead; parts = s.parts; rows = s.rows; words = sym (filter_other test w rest fails) ∙ s.words }

-- ---- a word of the letter

-- it is the next one ahead
pub record IsNext (us : List (List ℕ)) (image : List ℕ → List ℕ) (w : List ℕ) (done ahead : List (List ℕ)) (behind : List (List ℕ)) : Type 0 where
  pub next : List ℕ
  pub later : List (List ℕ)
  pub parts : us ≡ done ++ next ∷ later
  pub word : w ≡ image next
  pub others : behind ≡ map image later

next_ahead : (us : List (List ℕ)) (image : List ℕ → List ℕ) (test : List ℕ → Bool) (w : List ℕ) (rest done ahead : List (List ℕ)) → test w ≡ true → us ≡ done ++ ahead → filter test (w ∷ rest) ≡ map image ahead → IsNext us image w done ahead (filter test rest)
next_ahead us image test w rest done [] passes parts words = absurd (let c : ◌≡◌ {A = List (List ℕ)} (w ∷ filter test rest) [] = sym (filter_first test w rest passes) ∙ words in cc)
next_ahead us image test w rest done (u ∷ ahead) passes parts words =
    let c : ◌≡◌ {A = List (List ℕ)} (w ∷ filter test rest) (image u ∷ map image ahead) = sym (filter_first test w rest passes) ∙ words in
    record { next = u; later = ahead; parts = parts; word = (cc); others = (cc) }

-- how many rows there are
pub rows_number : (ws : List (List ℕ)) (f : List ℕ → Combination) (done : List (List ℕ)) (rows : RowsValue) → AreRowsOf ws (map f done) rows → length rows.rows ≡ length done
rows_number ws f done rows are = sym (length-map rows.rows (combination_at ws)) ∙ ap length are.forms ∙ length-map done f

-- where it stands
pub side_place : (ws us : List (List ℕ)) (image : List ℕ → List ℕ) (form : List ℕ → Combination) (test : List ℕ → Bool) (w : List ℕ) (rest : List (List ℕ)) (rows : RowsValue) → test w ≡ true →
    IsSide ws us image form test (w ∷ rest) rows → (length rows.rows < length us) × (image (word_at us (length rows.rows)) ≡ w)
side_place ws us image form test w rest rows passes s =
    let n = next_ahead us image test w rest s.done s.ahead passes s.parts s.words in
    let many : length rows.rows ≡ length s.done = rows_number ws (λ u. form (image u)) s.done rows s.rows in
    let size : length us ≡ length s.done + suc (length n.later) = ap length n.parts ∙ length-append s.done (n.next ∷ n.later) in (
      omega arith,
      ap image (ap₂ (λ vs i. word_at vs i) n.parts many ∙ get_or-append_seam s.done n.next n.later []) ∙ sym n.word,
    )

-- its row is put behind the others
pub side_push : (ws us : List (List ℕ)) (image : List ℕ → List ℕ) (form : List ℕ → Combination) (test : List ℕ → Bool) (w : List ℕ) (rest : List (List ℕ)) (rows : RowsValue) (cells : List Cell) → test w ≡ true →
    IsRow cells → AllBelow (length ws) cells → combination_at ws cells ≡ form w → IsSide ws us image form test (w ∷ rest) rows → IsSide ws us image form test rest (with_row rows cells)
side_push ws us image form test w rest rows cells passes row below is s =
    let n = next_ahead us image test w rest s.done s.ahead passes s.parts s.words in record {
      done = s.done ++ n.next ∷ [];
      ahead = n.later;
      parts = n.parts ∙ joined s.done n.next n.later;
      rows = record {
        shape = record {
          closed = refl;
          shape = all_push IsRow rows.rows cells s.rows.shape.shape row;
          below = all_push (AllBelow (length ws)) rows.rows cells s.rows.shape.below below;
        };
        forms =
            map-append (combination_at ws) rows.rows (cells ∷ [])
            ∙ ap₂ (λ fs f. fs ++ f ∷ []) s.rows.forms (is ∙ ap form n.word)
            ∙ sym (map-append (λ u. form (image u)) s.done (n.next ∷ []));
      };
      words = n.others;
    }
  where
    joined : (xs : List (List ℕ)) (y : List ℕ) (ys : List (List ℕ)) → xs ++ y ∷ ys ≡ (xs ++ y ∷ []) ++ ys
    joined [] y ys = refl
    joined (x ∷ xs) y ys = ap (λ zs. x ∷ zs) (joined xs y ys)

-- ---- what is read stands before the word, so it is there

-- a word of the list, before w with the letter, is among those that the pass has met
read_is_done : (us : List (List ℕ)) (image : List ℕ → List ℕ) (test : List ℕ → Bool) (w : List ℕ) (rest done ahead : List (List ℕ)) (i : ℕ) → IsRising (w ∷ rest) → us ≡ done ++ ahead → filter test (w ∷ rest) ≡ map image ahead → i < length us →
    word_cmp (image (word_at us i)) w ≡ Less → i < length done
read_is_done us image test w rest done ahead i rising parts words inside less =
    elim (cases_lt i (length done)) [
      | inl there ↦ there
      | inr beyond ↦
          let size : length us ≡ length done + length ahead = ap length parts ∙ length-append done ahead in
          let k : length done + (i - length done) ≡ i = omega arith in
          let behind : Contains ahead (word_at us i) =
          subst (Contains ahead) (sym (get_or-append-add done ahead (i - length done) []) ∙ ap₂ (λ vs n. word_at vs n) (sym parts) k) (word_at_is_in ahead (i - length done) (omega arith)) in
          let later : Contains (w ∷ rest) (image (word_at us i)) = (from_filter test (image (word_at us i)) (w ∷ rest) (subst (λ vs. Contains vs (image (word_at us i))) (sym words) (in_map image (word_at us i) ahead behind))).0 in
          elim (contains_cases w rest (image (word_at us i)) later) [
            | inl same ↦ absurd (less_is_other (image (word_at us i)) w less same)
            | inr after ↦
                absurd
                (less_is_other w w
                (let more : word_cmp w (image (word_at us i)) ≡ Less = stands_after [] w rest (image (word_at us i)) rising after in both w (image (word_at us i)) more less) refl)
          ]
    ]
  where
    both : (v u : List ℕ) → word_cmp v u ≡ Less → word_cmp u v ≡ Less → word_cmp v v ≡ Less
    both v u first second = word_cmp_total.trans v u v first second

-- the rows at these places are there, and are the forms of their words
pub record AreRead (ws us : List (List ℕ)) (form : List ℕ → Combination) (image : List ℕ → List ℕ) (rows : RowsValue) (cells : List Cell) : Type 0 where
  pub below : AllBelow (length rows.rows) cells
  pub forms : AllByRecursion (λ (c : Cell). combination_at ws (row_at rows.rows c.column) ≡ form (image (word_at us c.column))) cells

pub side_read : (ws us : List (List ℕ)) (image : List ℕ → List ℕ) (form : List ℕ → Combination) (test : List ℕ → Bool) (w : List ℕ) (rest : List (List ℕ)) (rows : RowsValue) (cells : List Cell) → IsRising (w ∷ rest) → AllBelow (length us) cells →
    AllByRecursion (λ (c : Cell). word_cmp (image (word_at us c.column)) w ≡ Less) cells → IsSide ws us image form test (w ∷ rest) rows → AreRead ws us form image rows cells
side_read ws us image form test w rest rows cells rising below earlier s = record { below = all_there cells below earlier; forms = all_forms cells below earlier }
  where
    many : length rows.rows ≡ length s.done
    many = rows_number ws (λ u. form (image u)) s.done rows s.rows

    there : (c : Cell) → c.column < length us → word_cmp (image (word_at us c.column)) w ≡ Less → c.column < length s.done
    there c inside less = read_is_done us image test w rest s.done s.ahead c.column rising s.parts s.words inside less

    all_there : (ds : List Cell) → AllBelow (length us) ds → AllByRecursion (λ (c : Cell). word_cmp (image (word_at us c.column)) w ≡ Less) ds → AllBelow (length rows.rows) ds
    all_there [] b e = tt
    all_there (d ∷ ds) b e = (let h : d.column < length s.done = there d b.0 e.0 in omega (arith, many, h), all_there ds b.1 e.1)

    one_form : (i : ℕ) → i < length s.done → combination_at ws (row_at rows.rows i) ≡ form (image (word_at us i))
    one_form i less =
        sym (get_or-map (combination_at ws) rows.rows i [] [] (omega (arith, many, less))) ∙ ap (λ fs. slice_index_or fs i []) s.rows.forms ∙ get_or-map (λ u. form (image u)) s.done i [] [] less
        ∙ ap (λ u. form (image u)) (sym (get_or_append_left s.done s.ahead [] i less) ∙ ap (λ vs. word_at vs i) (sym s.parts))

    all_forms : (ds : List Cell) → AllBelow (length us) ds → AllByRecursion (λ (c : Cell). word_cmp (image (word_at us c.column)) w ≡ Less) ds → AllByRecursion (λ (c : Cell). combination_at ws (row_at rows.rows c.column) ≡ form (image (word_at us c.column))) ds
    all_forms [] b e = tt
    all_forms (d ∷ ds) b e = (one_form d.column (there d b.0 e.0), all_forms ds b.1 e.1)
