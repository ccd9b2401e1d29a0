-- Where a listed word without both end letters stands below, by its place without one of them.
use Rattle.std.proofs.Common.{◌≡◌, ℕ, suc, ◌-◌, ◌<◌, ◌≤◌, List, [], ◌∷◌, ◌++◌, length, take, drop, sym, ◌∙◌, ap, ap₂, subst, arith, true}
use Rattle.std.specs.Prelude.{slice_index, is_some}
use Rattle.std.specs.List.{Contains}
use Rattle.std.proofs.lemmas.List.{length-map, length-take-le}
use Rattle.nichols_tensor.specs.Positions.{word_at}
use Rattle.nichols_tensor.specs.Words.{IsWordOver, up_to}
use Rattle.nichols_tensor.proofs.Letters.{up_to_length}
use Rattle.nichols_tensor.proofs.Over.{letter_over, word_over_front}
use Rattle.nichols_braid.specs.Braid.{BraidValue, IsBraid, IsLetter, act}
use Rattle.nichols_braid.specs.Product.{product_before, product_of, unact}
use Rattle.nichols_braid.specs.Products.{products}
use Rattle.nichols_braid.proofs.InlineProducts.{value_at_letter}
use Rattle.nichols_braid.proofs.Onto.{unact_is_before}
use Rattle.nichols_braid.proofs.ProductListLaws.{products_are_of_words}
use Rattle.nichols_value.specs.declared.ends.Ends.{Ends}
use Rattle.nichols_value.specs.declared.key.BlockKey.{BlockKey}
use Rattle.nichols_value.specs.Block.{left_lower_basis, lower_basis}
use Rattle.nichols_value.specs.Kept.{AreEndsOf}
use Rattle.nichols_value.specs.Rule.{PlainRule, rule_of, below_in}
use Rattle.nichols_value.proofs.Blocks.{product_before_of}
use Rattle.nichols_value.proofs.LeftBlocks.{left_lower_is_lower}
use Rattle.nichols_value.proofs.RuleEntries.{below_is, key_is, lean_of_whole}
use Rattle.nichols_block.specs.Pass.{IsOfBlock}
use Rattle.nichols_block.specs.Words.{IsBackPlace, IsFrontPlace, but_last}
use Rattle.nichols_block.proofs.EndForms.{HasParts, parts_of}
use Rattle.nichols_block.proofs.LowerBelow.{lower_below}
use Rattle.nichols_block.proofs.SpotsBelow.{rule_words}

-- a rule of a block has what serves the degree above
pub has_upper : (braid : BraidValue) (m : ℕ) (g : List ℕ) (r : PlainRule) → r ≡ rule_of braid m g → is_some r.upper ≡ true
unfolding rule_of
has_upper braid m g r e = ap (λ (s : PlainRule). is_some s.upper) e

unacted : (braid : BraidValue) → IsBraid braid → (b c : ℕ) → IsLetter braid b → IsLetter braid c → unact braid b (act braid b c) ≡ c
unacted braid is b c lb lc = let (l, e) = unact_is_before braid is.rack b lb (act braid b c) (is.rack.closed b c lb lc) in is.rack.injective b (unact braid b (act braid b c)) c lb l lc e

-- the product before b sends `b ▷ c` where g sends c
pub sent_before : (braid : BraidValue) → IsBraid braid → (g : List ℕ) (b c : ℕ) → IsLetter braid b → IsLetter braid c → slice_index (product_before braid b g) (act braid b c - 1) ≡ slice_index g (c - 1)
unfolding product_before
sent_before braid is g b c lb lc =
    value_at_letter braid.letters (λ j. slice_index g (unact braid b j - 1)) (act braid b c) (is.rack.closed b c lb lc) ∙ ap (λ j. slice_index g (j - 1)) (unacted braid is b c lb lc)

before_size : (braid : BraidValue) (g : List ℕ) (b : ℕ) → length (product_before braid b g) ≡ braid.letters
unfolding product_before
before_size braid g b = length-map (up_to braid.letters) (λ j. slice_index g (unact braid b j - 1)) ∙ up_to_length braid.letters

-- the block of the word without its last letter
pub block_before : (braid : BraidValue) → IsBraid braid → (m : ℕ) (g w : List ℕ) (b : ℕ) → 2 ≤ m → IsOfBlock braid m g w → b ≡ slice_index w (length w - 1) → IsLetter braid b → Contains (products braid (m - 1)) (product_before braid b g)
block_before braid is m g w b two own b_is lb =
    let p : HasParts (m - 2) w = parts_of (m - 2) w (own.size ∙ (let q : m ≡ suc (suc (m - 2)) = omega (arith, two) in q)) in
    let parts : w ≡ but_last w ++ b ∷ [] = p.whole ∙ ap₂ (λ u x. u ++ x ∷ []) (sym p.front_is) (sym p.last_is ∙ sym b_is) in
    let over : IsWordOver braid.letters (but_last w) = word_over_front braid.letters (but_last w) (b ∷ []) (subst (IsWordOver braid.letters) parts own.over) in
    let size : length (but_last w) ≡ length w - 1 = length-take-le (length w - 1) w (omega arith) in
    (products_are_of_words braid (m - 1) (product_before braid b g)).1
    (but_last w, size ∙ ap (λ n. n - 1) own.size, over, product_before_of braid is g b lb (but_last w) over (ap (product_of braid) (sym parts) ∙ own.product))

pub last_letter : (braid : BraidValue) (m : ℕ) (g w : List ℕ) (b : ℕ) → 2 ≤ m → IsOfBlock braid m g w → b ≡ slice_index w (length w - 1) → IsLetter braid b
last_letter braid m g w b two own b_is = subst (IsLetter braid) (sym b_is) (letter_over braid.letters w (length w - 1) own.over (omega (arith, own.size, two)))

-- there are words below
pub front_some : (braid : BraidValue) (m : ℕ) (g w : List ℕ) (b k : ℕ) → 2 ≤ m → IsOfBlock braid m g w → b ≡ slice_index w (length w - 1) → IsFrontPlace (lower_basis braid m g) w k → lower_basis braid m g b ≡ [] → ⊥
front_some braid m g w b k two own b_is place none =
    let p : HasParts (m - 2) w = parts_of (m - 2) w (own.size ∙ (let q : m ≡ suc (suc (m - 2)) = omega (arith, two) in q)) in
    let at = place b (but_last w) (p.whole ∙ ap₂ (λ u x. u ++ x ∷ []) (sym p.front_is) (sym p.last_is ∙ sym b_is)) in
    let less : k < length {A = List ℕ} [] = subst (λ (ws : List (List ℕ)). k < length ws) none at.0 in
    omega (arith, less)

pub back_some : (braid : BraidValue) (m : ℕ) (g w : List ℕ) (c k : ℕ) → 2 ≤ m → IsOfBlock braid m g w → left_lower_basis braid m g (slice_index w 0) ≡ lower_basis braid m g c → IsBackPlace (left_lower_basis braid m g) w k → lower_basis braid m g c ≡ [] → ⊥
back_some braid m g w c k two own same place none =
    let p : HasParts (m - 2) w = parts_of (m - 2) w (own.size ∙ (let q : m ≡ suc (suc (m - 2)) = omega (arith, two) in q)) in
    let at = place (slice_index w 0) (drop 1 w) (p.whole ∙ ap₂ (λ x u. x ∷ u) (sym p.first_is) (sym p.back_is)) in
    let less : k < length {A = List ℕ} [] = subst (λ (ws : List (List ℕ)). k < length ws) (same ∙ none) at.0 in
    omega (arith, less)

-- its place without the last letter is there
pub front_there : (braid : BraidValue) (m : ℕ) (g w : List ℕ) (r : PlainRule) (b k : ℕ) → 2 ≤ m → IsOfBlock braid m g w → b ≡ slice_index w (length w - 1) → r ≡ rule_of braid (m - 1) (product_before braid b g) → IsFrontPlace (lower_basis braid m g) w k →
    (k < length r.basis) × (word_at r.basis k ≡ but_last w)
front_there braid m g w r b k two own b_is e place =
    let p : HasParts (m - 2) w = parts_of (m - 2) w (own.size ∙ (let q : m ≡ suc (suc (m - 2)) = omega (arith, two) in q)) in
    let last : w ≡ but_last w ++ b ∷ [] = p.whole ∙ ap₂ (λ u x. u ++ x ∷ []) (sym p.front_is) (sym p.last_is ∙ sym b_is) in
    let at = place b (but_last w) last in
    let words : lower_basis braid m g b ≡ r.basis = sym (rule_words braid (m - 1) m g r b (let q : suc (m - 1) ≡ m = omega (arith, two) in q) e) in
    (subst (λ (ws : List (List ℕ)). k < length ws) words at.0, ap (λ (ws : List (List ℕ)). word_at ws k) (sym words) ∙ at.1)

-- and so is that without the first one
pub back_there : (braid : BraidValue) (m : ℕ) (g w : List ℕ) (r : PlainRule) (c k : ℕ) → 2 ≤ m → IsOfBlock braid m g w → left_lower_basis braid m g (slice_index w 0) ≡ lower_basis braid m g c → r ≡ rule_of braid (m - 1) (product_before braid c g) →
    IsBackPlace (left_lower_basis braid m g) w k → (k < length r.basis) × (word_at r.basis k ≡ drop 1 w)
back_there braid m g w r c k two own same e place =
    let p : HasParts (m - 2) w = parts_of (m - 2) w (own.size ∙ (let q : m ≡ suc (suc (m - 2)) = omega (arith, two) in q)) in
    let first : w ≡ slice_index w 0 ∷ drop 1 w = p.whole ∙ ap₂ (λ x u. x ∷ u) (sym p.first_is) (sym p.back_is) in
    let at = place (slice_index w 0) (drop 1 w) first in
    let words : left_lower_basis braid m g (slice_index w 0) ≡ r.basis = same ∙ sym (rule_words braid (m - 1) m g r c (let q : suc (m - 1) ≡ m = omega (arith, two) in q) e) in
    (subst (λ (ws : List (List ℕ)). k < length ws) words at.0, ap (λ (ws : List (List ℕ)). word_at ws k) (sym words) ∙ at.1)

-- where it stands without both, from the ends of the word without its last letter
pub back_is_there : (braid : BraidValue) → IsBraid braid → (m : ℕ) (g w : List ℕ) (r : PlainRule) (b c k : ℕ) (ends : Ends) → 2 ≤ m → IsOfBlock braid m g w → b ≡ slice_index w (length w - 1) → IsLetter braid b → IsLetter braid c → slice_index g (c - 1) ≡ slice_index w 0 →
    r ≡ rule_of braid (m - 1) (product_before braid b g) → word_at r.basis k ≡ but_last w → AreEndsOf r.key.product r.below (word_at r.basis k) ends →
    (ends.back < length (lower_basis braid (m - 1) (product_before braid c g) (slice_index w (length w - 1)))) × (word_at (lower_basis braid (m - 1) (product_before braid c g) (slice_index w (length w - 1))) ends.back ≡ take (length w - 2) (drop 1 w))
back_is_there braid is m g w r b c k ends two own b_is lb lc sent e here are =
    let p : HasParts (m - 2) w = parts_of (m - 2) w (own.size ∙ (let q : m ≡ suc (suc (m - 2)) = omega (arith, two) in q)) in
    let h : List ℕ = product_before braid b g in
    let lean = lean_of_whole braid (m - 1) h r e in
    let ld : IsLetter braid (act braid b c) = is.rack.closed b c lb lc in
    let product : r.key.product ≡ h = ap (λ (x : BlockKey). x.product) (key_is braid (m - 1) h r lean) in
    let first : slice_index r.key.product (act braid b c - 1) ≡ p.first = ap (λ x. slice_index x (act braid b c - 1)) product ∙ sent_before braid is g b c lb lc ∙ sent ∙ p.first_is in
    let size : length r.key.product ≡ braid.letters = ap length product ∙ before_size braid g b in
    let at = are.back (act braid b c) p.inner ld.0 (omega (arith, ld.1, size)) (here ∙ p.front_is ∙ ap (λ x. x ∷ p.inner) (sym first)) in
    let words : below_in r (act braid b c) ≡ lower_basis braid (m - 1) (product_before braid c g) (slice_index w (length w - 1)) =
    below_is braid (m - 1) h r lean (act braid b c) ld ∙ lower_below braid is (m - 1) g b c lb lc ∙ ap (lower_basis braid (m - 1) (product_before braid c g)) b_is in
    (subst (λ (ws : List (List ℕ)). ends.back < length ws) words at.0, ap (λ (ws : List (List ℕ)). word_at ws ends.back) (sym words) ∙ at.1 ∙ sym p.inner_is)

-- and from those of the word without its first letter
pub front_is_there : (braid : BraidValue) → IsBraid braid → (m : ℕ) (g w : List ℕ) (r : PlainRule) (b c k : ℕ) (ends : Ends) → 2 ≤ m → Contains (products braid (m - 1)) (product_before braid b g) → IsOfBlock braid m g w → b ≡ slice_index w (length w - 1) → IsLetter braid b →
    IsLetter braid c → slice_index g (c - 1) ≡ slice_index w 0 → r ≡ rule_of braid (m - 1) (product_before braid c g) → word_at r.basis k ≡ drop 1 w → AreEndsOf r.key.product r.below (word_at r.basis k) ends →
    (ends.front < length (left_lower_basis braid (m - 1) (product_before braid b g) (slice_index w 0))) × (word_at (left_lower_basis braid (m - 1) (product_before braid b g) (slice_index w 0)) ends.front ≡ take (length w - 2) (drop 1 w))
front_is_there braid is m g w r b c k ends two there own b_is lb lc sent e here are =
    let p : HasParts (m - 2) w = parts_of (m - 2) w (own.size ∙ (let q : m ≡ suc (suc (m - 2)) = omega (arith, two) in q)) in
    let lean = lean_of_whole braid (m - 1) (product_before braid c g) r e in
    let ld : IsLetter braid (act braid b c) = is.rack.closed b c lb lc in
    let letters : p.last ≡ b = sym p.last_is ∙ sym b_is in
    let at = are.front b p.inner (here ∙ p.back_is ∙ ap (λ x. p.inner ++ x ∷ []) letters) in
    let words : below_in r b ≡ left_lower_basis braid (m - 1) (product_before braid b g) (slice_index w 0) =
    below_is braid (m - 1) (product_before braid c g) r lean b lb ∙ sym (lower_below braid is (m - 1) g b c lb lc) ∙ sym (left_lower_is_lower braid is (m - 1) (product_before braid b g) there (act braid b c) ld)
    ∙ ap (left_lower_basis braid (m - 1) (product_before braid b g)) (sent_before braid is g b c lb lc ∙ sent) in
    (subst (λ (ws : List (List ℕ)). ends.front < length ws) words at.0, ap (λ (ws : List (List ℕ)). word_at ws ends.front) (sym words) ∙ at.1 ∙ sym p.inner_is)
