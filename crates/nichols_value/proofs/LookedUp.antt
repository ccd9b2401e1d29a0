-- What a rule says of a word, by its basis and the words of its lower blocks.
use Rattle.std.proofs.Common.{◌≡◌, ◌<◌, ◌-◌, ℕ, zero, suc, Bool, true, false, List, [], ◌∷◌, ◌++◌, length, map, drop, get_or, length-append, refl, sym, ◌∙◌, ap, ap₂, subst, arith, Option}
use Rattle.std.specs.Prelude.{None}
use Rattle.std.specs.List.{AllByRecursion, Contains}
use Rattle.std.proofs.lemmas.List.Elements.{All-from_recursion}
use Rattle.nichols_tensor.specs.Combination.{Combination}
use Rattle.nichols_tensor.specs.Positions.{word_at}
use Rattle.nichols_tensor.specs.Relation.{PlainRelation}
use Rattle.nichols_tensor.specs.WordOrder.{IsRising}
use Rattle.nichols_tensor.proofs.Entries.{from_map, in_map}
use Rattle.nichols_tensor.proofs.Over.{all_at}
use Rattle.nichols_tensor.proofs.Rising.{word_at_is_in}
use Rattle.nichols_braid.specs.Braid.{BraidValue, IsBraid, IsLetter}
use Rattle.nichols_braid.specs.Forms.{candidates_of}
use Rattle.nichols_braid.specs.Kernel.{is_killed}
use Rattle.nichols_braid.specs.Least.{candidates, is_least}
use Rattle.nichols_braid.specs.Product.{product_of}
use Rattle.nichols_braid.specs.Products.{products}
use Rattle.nichols_braid.proofs.Candidates.{from_candidates}
use Rattle.nichols_braid.proofs.NextProducts.{products_size}
use Rattle.nichols_braid.proofs.Reduction.{in_basis}
use Rattle.nichols_echelon.specs.Rows.{RowsValue}
use Rattle.nichols_value.specs.declared.form.Looked.TheVariants.{Basis, Form, NotHere}
use Rattle.nichols_value.specs.declared.key.BlockKey.{BlockKey}
use Rattle.nichols_value.specs.declared.spot.Spot.{Spot}
use Rattle.nichols_value.specs.Block.{block_basis, block_relations, lower_basis}
use Rattle.nichols_value.specs.Kept.{IsShaped, IsSpot, candidate_at, forms_over, relation_at, rule_by}
use Rattle.nichols_value.specs.Looked.{IsFormAt, IsFormBelow, IsLooked, with_form}
use Rattle.nichols_value.specs.Rule.{PlainRule, PlainUpper, below_in, right_in}
use Rattle.nichols_value.proofs.Blocks.{in_block_basis, in_block_candidates, in_block_relations, no_lower_basis, relation_of}
use Rattle.nichols_value.proofs.FormCells.{words_at_differ}

-- ---- words with a letter behind

pub same_ends : (u v : List ℕ) (b c : ℕ) → u ++ b ∷ [] ≡ v ++ c ∷ [] → (u ≡ v) × (b ≡ c)
same_ends [] [] b c e = (refl, ap (λ w. get_or w 0 0) e)
same_ends [] (y ∷ v) b c e = let size : 1 ≡ suc (length (v ++ c ∷ [])) = ap length e in absurd (omega (arith, size, length-append v (c ∷ [])))
same_ends (x ∷ u) [] b c e = let size : suc (length (u ++ b ∷ [])) ≡ 1 = ap length e in absurd (omega (arith, size, length-append u (b ∷ [])))
same_ends (x ∷ u) (y ∷ v) b c e =
    let (words, letters) = same_ends u v b c (ap (drop 1) e) in
    (ap₂ (λ z zs. z ∷ zs) (ap (λ w. get_or w 0 0) e) words, letters)

-- ---- a rule of a shape

-- a word has one form below
one_form : (r : PlainRule) → AllByRecursion IsRising r.below → (w : List ℕ) (f h : Combination) (b c k j : ℕ) → IsFormAt r w f b k → IsFormAt r w h c j → f ≡ h
one_form r rise w f h b c k j x y =
    let (words, letters) = same_ends (word_at (below_in r b) k) (word_at (below_in r c) j) b c (sym x.word ∙ y.word) in
    let inside : j < length (below_in r b) = subst (λ n. j < length (below_in r n)) (sym letters) y.place in
    let rises : IsRising (below_in r b) = All-from_recursion IsRising r.below rise (b - 1) [] (omega (arith, x.some, x.most)) in
    let places : k ≡ j = words_at_differ (below_in r b) k j rises x.place inside (words ∙ ap (λ n. word_at (below_in r n) j) (sym letters)) in
    x.form ∙ ap₂ (λ n i. get_or (right_in r n) i []) letters places ∙ sym y.form

-- its relations are those of the words of its lower blocks with their letters behind that aren't in the basis
pub record IsSearched (r : PlainRule) : Type 0 where
  pub rise : AllByRecursion IsRising r.below
  pub placed : (t : PlainRelation) → Contains r.table t → (b : ℕ) × (k : ℕ) × IsFormAt r t.candidate t.form b k
  pub whole : (w : List ℕ) (f : Combination) (b k : ℕ) → IsFormAt r w f b k → (Contains r.basis w → ⊥) → Contains r.table (with_form w f)

-- the form at a spot
at_spot : (r : PlainRule) (s : Spot) → IsSpot r.below s → IsFormAt r (candidate_at r.below s) (relation_at r.below r.right s).form s.letter s.place
at_spot r s (some, letter, place) = record { some = omega (arith, some); most = omega (arith, some, letter); place = place; word = refl; form = refl }

pub searched : (key : BlockKey) (basis : List (List ℕ)) (below : List (List (List ℕ))) (right : List RowsValue) (spots : List Spot) (upper : Option PlainUpper) → IsShaped key basis below right spots → IsSearched (rule_by key basis below right spots upper)
searched key basis below right spots upper shape = record {
  rise = shape.lists_rise;
  placed = λ t i.
      let (s, j, e) = from_map at t spots i in
      (s.letter, s.place, subst (λ (u : PlainRelation). IsFormAt r u.candidate u.form s.letter s.place) (sym e) (at_spot r s (all_at (IsSpot below) spots s shape.inside j)));
  whole = λ w f b k x none.
      let own : Spot = record { letter = b; place = k } in
      let (s, j, e) = from_map (candidate_at below) (candidate_at below own) spots (shape.whole own (omega (arith, x.some), omega (arith, x.some, x.most), x.place) (λ i. none (subst (Contains basis) (sym x.word) i))) in
      let there : IsFormAt r w (at s).form s.letter s.place = subst (λ v. IsFormAt r v (at s).form s.letter s.place) (sym (x.word ∙ e)) (at_spot r s (all_at (IsSpot below) spots s shape.inside j)) in
      let same : at s ≡ with_form w f = ap₂ with_form (sym (x.word ∙ e)) (one_form r shape.lists_rise w (at s).form f s.letter b s.place k there x) in
      subst (Contains r.table) same (in_map at s spots j);
}
  where
    at : Spot → PlainRelation
    at = relation_at below (map (forms_over basis) right)

    r : PlainRule
    r = rule_by key basis below right spots upper

-- ---- what it says

pub looked_basis : (r : PlainRule) (w : List ℕ) → Contains r.basis w → IsLooked r w Basis
looked_basis r w i = record {
  basis = (λ e. i, λ j. refl);
  form = λ f. (λ e. cc, λ h. absurd (h.0 i));
  not_here = (λ e. cc, λ h. absurd (h.0 i));
}

pub looked_form : (r : PlainRule) → IsSearched r → (w : List ℕ) (f : Combination) (b k : ℕ) → (Contains r.basis w → ⊥) → IsFormAt r w f b k → IsLooked r w (Form f)
looked_form r s w f b k none x = record {
  basis = (λ e. cc, λ i. absurd (none i));
  form = λ h. (
    λ e. let same : f ≡ h = cc in (none, subst (λ c. Contains r.table (with_form w c)) same there),
    λ p. let (c, j, y) = s.placed (with_form w h) p.1 in ap Form (one_form r s.rise w f h b c k j x y),
  );
  not_here = (λ e. cc, λ p. absurd (p.1 (in_map (λ (t : PlainRelation). t.candidate) (with_form w f) r.table there)));
}
  where
    there : Contains r.table (with_form w f)
    there = s.whole w f b k x none

pub looked_none : (r : PlainRule) → IsSearched r → (w : List ℕ) → (Contains r.basis w → ⊥) → IsFormBelow r w None → IsLooked r w NotHere
looked_none r s w none below = record {
  basis = (λ e. cc, λ i. absurd (none i));
  form = λ f. (λ e. cc, λ p. absurd (other (in_map (λ (t : PlainRelation). t.candidate) (with_form w f) r.table p.1)));
  not_here = (λ e. (none, other), λ p. refl);
}
  where
    other : Contains (candidates_of r.table) w → ⊥
    other i =
        let (t, j, same) = from_map (λ (t : PlainRelation). t.candidate) w r.table i in
        let (b, k, x) = s.placed t j in
        below b (word_at (below_in r b) k) x.some x.most (word_at_is_in (below_in r b) k x.place) (same ∙ x.word)

-- ---- the rule of a block is whole

-- a candidate of the block that isn't in the basis isn't least
not_least : (braid : BraidValue) (m : ℕ) (g : List ℕ) (w : List ℕ) → Contains (candidates is_killed braid m) w → product_of braid w ≡ g → (Contains (block_basis braid m g) w → ⊥) → is_least is_killed braid w ≡ false
not_least braid m g w i product none = at (is_least is_killed braid w) refl
  where
    at : (b : Bool) → is_least is_killed braid w ≡ b → is_least is_killed braid w ≡ false
    at false e = e
    at true e =
        let (size, over) = from_candidates is_killed braid m w i in
        absurd (none (in_block_basis braid m g w (in_basis is_killed braid m w size over e) product))

-- a word of a lower block with the letter behind that isn't in the basis has its relation in the table
pub form_in_table : (braid : BraidValue) → IsBraid braid → (m : ℕ) (g : List ℕ) → Contains (products braid m) g → (b k : ℕ) → IsLetter braid b → k < length (lower_basis braid m g b) →
    (Contains (block_basis braid m g) (word_at (lower_basis braid m g b) k ++ b ∷ []) → ⊥) → Contains (block_relations braid m g) (relation_of braid m (word_at (lower_basis braid m g b) k ++ b ∷ []))
form_in_table braid is zero g there b k lb less none = absurd (let none_below : length (lower_basis braid 0 g b) ≡ 0 = ap length (no_lower_basis braid g b) in omega (arith, less, none_below))
form_in_table braid is (suc m) g there b k lb less none =
    let u : List ℕ = word_at (lower_basis braid (suc m) g b) k in
    let (i, product) = in_block_candidates braid is m g (products_size braid (suc m) g there) b lb u (word_at_is_in (lower_basis braid (suc m) g b) k less) in
    in_block_relations braid (suc m) g (u ++ b ∷ []) i product (not_least braid (suc m) g (u ++ b ∷ []) i product none)
