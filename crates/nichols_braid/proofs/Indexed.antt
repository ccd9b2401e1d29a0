-- A list of distinct products with the place of each: what a look-up answers, and one product more.
use Rattle.std.proofs.Common.{◌≡◌, ℕ, ◌+◌, ◌<◌, Bool, true, false, cond, List, [], ◌∷◌, ◌++◌, length, refl, sym, ◌∙◌, ap, subst, arith, Some, None, inl, inr, length-append}
use Rattle.std.specs.Prelude.{MatchOption}
use Rattle.std.specs.BTreeMap.{BTreeMap, get, is_at}
use Rattle.std.specs.Cmp.Lexicographic.{slice_cmp}
use Rattle.std.specs.FinMap.{slice_cmp-IsAntisymmetric, nat_cmp-IsAntisymmetric}
use Rattle.std.specs.List.{Contains}
use Rattle.std.specs.Option.{is_some}
use Rattle.std.specs.Ordering.{nat_cmp, is_eq}
use Rattle.std.specs.declared.cmp.Ordering.{Ordering}
use Rattle.std.specs.declared.cmp.Ordering.TheVariants.{Less, Equal, Greater}
use Rattle.std.specs.declared.option.Option.{Option}
use Rattle.std.proofs.Math.Seq.{get_or-append_seam}
use Rattle.std.proofs.lemmas.Bool.{cases_lt}
use Rattle.std.proofs.lemmas.List.{get_or_append_left}
use Rattle.std.proofs.lemmas.Option.{same_Some}
use Rattle.std.proofs.lemmas.Cmp.{nat_list_cmp_total, tied_itself}
use Rattle.nichols_tensor.specs.Positions.{word_at}
use Rattle.nichols_tensor.proofs.Rising.{word_at_is_in, position_of}
use Rattle.nichols_braid.specs.ProductIndex.{IsIndexed}
use Rattle.nichols_braid.specs.declared.TheConstants.{MOST_PRODUCTS}

-- ---- the order of the keys

equal_by_test : (o : Ordering) → is_eq o ≡ true → o ≡ Equal
equal_by_test Less h = cc
equal_by_test Equal h = refl
equal_by_test Greater h = cc

at_same : (g q : List ℕ) → is_at (slice_cmp nat_cmp g) q ≡ true → g ≡ q
at_same g q h = slice_cmp-IsAntisymmetric nat_cmp-IsAntisymmetric g q (equal_by_test (slice_cmp nat_cmp g q) h)

-- ---- look-ups

pub once_indexed : (gs : List (List ℕ)) (m : BTreeMap (List ℕ) ℕ) → IsIndexed gs m → (i j : ℕ) → i < length gs → j < length gs → word_at gs i ≡ word_at gs j → i ≡ j
once_indexed gs m h i j low high e = same_Some i j (sym (h.placed i low) ∙ ap (get (slice_cmp nat_cmp) m) e ∙ h.placed j high)

pub look_up : (gs : List (List ℕ)) (m : BTreeMap (List ℕ) ℕ) (g : List ℕ) (r : Option ℕ) → IsIndexed gs m → r ≡ get (slice_cmp nat_cmp) m g → MatchOption r (Contains gs g → ⊥) (λ k. (k < length gs) × (word_at gs k ≡ g))
look_up gs m g None h e = λ i. let (k, less, same) = position_of gs g i in absurd (let c : None ≡ Some k = e ∙ ap (get (slice_cmp nat_cmp) m) (sym same) ∙ h.placed k less in cc)
look_up gs m g (Some k) h e = h.listed g k (sym e)

pub found_in : (gs : List (List ℕ)) (g : List ℕ) (r : Option ℕ) → MatchOption r (Contains gs g → ⊥) (λ k. (k < length gs) × (word_at gs k ≡ g)) → is_some r ≡ true → Contains gs g
found_in gs g None h e = cc
found_in gs g (Some k) h e = subst (Contains gs) h.1 (word_at_is_in gs k h.0)

pub not_found_in : (gs : List (List ℕ)) (g : List ℕ) (r : Option ℕ) → MatchOption r (Contains gs g → ⊥) (λ k. (k < length gs) × (word_at gs k ≡ g)) → is_some r ≡ false → Contains gs g → ⊥
not_found_in gs g None h e = h
not_found_in gs g (Some k) h e = λ i. absurd (let c : true ≡ false = e in cc)

-- ---- one product more

word_kept : (gs : List (List ℕ)) (g : List ℕ) (k : ℕ) → k < length gs → word_at (gs ++ g ∷ []) k ≡ word_at gs k
word_kept gs g k less = get_or_append_left gs (g ∷ []) [] k less

word_last : (gs : List (List ℕ)) (g : List ℕ) (k : ℕ) → k ≡ length gs → word_at (gs ++ g ∷ []) k ≡ g
word_last gs g k e = ap (word_at (gs ++ g ∷ [])) e ∙ get_or-append_seam gs g [] []

pub indexed-push : (gs : List (List ℕ)) (m n : BTreeMap (List ℕ) ℕ) (g : List ℕ) → IsIndexed gs m → length gs < MOST_PRODUCTS → (Contains gs g → ⊥) →
    ((q : List ℕ) → get (slice_cmp nat_cmp) n q ≡ cond (is_at (slice_cmp nat_cmp g) q) (Some (length gs)) (get (slice_cmp nat_cmp) m q)) → IsIndexed (gs ++ g ∷ []) n
indexed-push gs m n g h room new updates = record { few = rw size (omega arith); placed = placed; listed = listed }
  where
    size : length (gs ++ g ∷ []) ≡ length gs + 1
    size = length-append gs (g ∷ [])

    before : (k : ℕ) → k < length gs → (b : Bool) → is_at (slice_cmp nat_cmp g) (word_at gs k) ≡ b → cond b (Some (length gs)) (get (slice_cmp nat_cmp) m (word_at gs k)) ≡ Some k
    before k less true e = absurd (new (subst (Contains gs) (sym (at_same g (word_at gs k) e)) (word_at_is_in gs k less)))
    before k less false e = h.placed k less

    placed : (k : ℕ) → k < length (gs ++ g ∷ []) → get (slice_cmp nat_cmp) n (word_at (gs ++ g ∷ []) k) ≡ Some k
    placed k within =
        elim (cases_lt k (length gs)) [
          | inl less ↦ ap (get (slice_cmp nat_cmp) n) (word_kept gs g k less) ∙ updates (word_at gs k) ∙ before k less (is_at (slice_cmp nat_cmp g) (word_at gs k)) refl
          | inr last ↦
              let same : k ≡ length gs = omega (arith, last, within, size) in
              ap (get (slice_cmp nat_cmp) n) (word_last gs g k same) ∙ updates g ∙ ap (λ o. cond (is_eq o) (Some (length gs)) (get (slice_cmp nat_cmp) m g)) (tied_itself nat_list_cmp_total g) ∙ ap Some (sym same)
        ]

    listed : (q : List ℕ) (k : ℕ) → get (slice_cmp nat_cmp) n q ≡ Some k → (k < length (gs ++ g ∷ [])) × (word_at (gs ++ g ∷ []) k ≡ q)
    listed q k e = at (is_at (slice_cmp nat_cmp g) q) refl (sym (updates q) ∙ e)
      where
        at : (b : Bool) → is_at (slice_cmp nat_cmp g) q ≡ b → cond b (Some (length gs)) (get (slice_cmp nat_cmp) m q) ≡ Some k → (k < length (gs ++ g ∷ [])) × (word_at (gs ++ g ∷ []) k ≡ q)
        at true d s = let same : k ≡ length gs = sym (same_Some (length gs) k s) in (rw size (omega (arith, same)), word_last gs g k same ∙ at_same g q d)
        at false d s = let l : (k < length gs) × (word_at gs k ≡ q) = h.listed q k s in (rw size (omega (arith, l.0)), word_kept gs g k l.0 ∙ l.1)
