-- Spots, and what stands there.
use Rattle.std.proofs.Common.{◌≡◌, ◌≢◌, ℕ, suc, ◌<◌, List, [], ◌∷◌, ◌++◌, length, map, get_or, sym, ◌∙◌, ap, subst, arith}
use Rattle.std.specs.List.{AllByRecursion, Contains}
use Rattle.nichols_field.specs.Field.{FieldValue, plus}
use Rattle.nichols_tensor.specs.Combination.{AllElements, Combination, scalar_multiple, single}
use Rattle.nichols_tensor.specs.Positions.{word_at}
use Rattle.nichols_tensor.specs.Words.{IsWordOver}
use Rattle.nichols_tensor.proofs.Rising.{word_at_is_in}
use Rattle.nichols_tensor.proofs.Tests.{all_of_entries}
use Rattle.nichols_braid.specs.Braid.{BraidValue, IsBraid, IsLetter, act, scalar}
use Rattle.nichols_braid.specs.Forms.{derived_form}
use Rattle.nichols_braid.specs.Kernel.{is_killed}
use Rattle.nichols_braid.specs.Least.{basis, normal_form}
use Rattle.nichols_braid.specs.LeastLaws.{IsNormalForm}
use Rattle.nichols_braid.specs.Product.{product_before}
use Rattle.nichols_echelon.specs.Cells.{Cell}
use Rattle.nichols_echelon.specs.Sums.{sum_at}
use Rattle.nichols_value.specs.declared.spot.Spot.{Spot}
use Rattle.nichols_value.specs.Block.{block_basis, lower_basis}
use Rattle.nichols_value.specs.Kept.{AreCellsOf, IsSpot, candidate_at}
use Rattle.nichols_value.specs.Rule.{PlainRule, below_in, by_letter, derivs_in, right_forms, right_in, rule_of}
use Rattle.nichols_value.proofs.Blocks.{from_block_basis, lower_basis_is, lower_basis_rises}
use Rattle.nichols_value.proofs.RuleEntries.{basis_is, below_is, derivative, derivs_size, lean_of_whole, letter_count, letter_entry, right_is, right_size, right_word, word_form_is_normal}
use Rattle.nichols_block.specs.Rows.{AreSums, lower_words, summed_forms}
use Rattle.nichols_block.proofs.DerivedSums.{right_sums, sums_of_others, sums_of_own}
use Rattle.nichols_block.proofs.LowerBelow.{lower_below}

-- the lower words of a degree after another
pub lower_is : (braid : BraidValue) (m degree : ℕ) (g : List ℕ) (b : ℕ) → suc m ≡ degree → lower_basis braid degree g b ≡ block_basis braid m (product_before braid b g)
lower_is braid m degree g b e = ap (λ d. lower_basis braid d g b) (sym e) ∙ lower_basis_is braid m g b

pub words_at_letter : (braid : BraidValue) (m : ℕ) (g : List ℕ) (b : ℕ) → IsLetter braid b → by_letter (lower_words braid m g) b ≡ lower_basis braid m g b
words_at_letter braid m g b l = letter_entry (lower_basis braid m g) braid.letters b l

pub spot_letter : (braid : BraidValue) (m : ℕ) (g : List ℕ) (s : Spot) → IsSpot (lower_words braid m g) s → IsLetter braid s.letter
spot_letter braid m g s h = let count : length (lower_words braid m g) ≡ braid.letters = letter_count (lower_basis braid m g) braid.letters in (omega (arith, h.0), omega (arith, h.1, count))

pub spot_place : (braid : BraidValue) (m : ℕ) (g : List ℕ) (s : Spot) → IsSpot (lower_words braid m g) s → s.place < length (lower_basis braid m g s.letter)
spot_place braid m g s h = subst (λ (ws : List (List ℕ)). s.place < length ws) (words_at_letter braid m g s.letter (spot_letter braid m g s h)) h.2

-- the word at a spot
pub spot_word : (braid : BraidValue) (m degree : ℕ) (g : List ℕ) (s : Spot) → suc m ≡ degree → IsSpot (lower_words braid degree g) s →
    candidate_at (lower_words braid degree g) s ≡ word_at (block_basis braid m (product_before braid s.letter g)) s.place ++ s.letter ∷ []
spot_word braid m degree g s e h = ap (λ (ws : List (List ℕ)). word_at ws s.place ++ s.letter ∷ []) (words_at_letter braid degree g s.letter (spot_letter braid degree g s h) ∙ lower_is braid m degree g s.letter e)

pub spot_within : (braid : BraidValue) (m degree : ℕ) (g : List ℕ) (s : Spot) → suc m ≡ degree → IsSpot (lower_words braid degree g) s → s.place < length (block_basis braid m (product_before braid s.letter g))
spot_within braid m degree g s e h = subst (λ (ws : List (List ℕ)). s.place < length ws) (lower_is braid m degree g s.letter e) (spot_place braid degree g s h)

pub spot_least : (braid : BraidValue) (m degree : ℕ) (g : List ℕ) (s : Spot) → suc m ≡ degree → IsSpot (lower_words braid degree g) s → Contains (basis is_killed braid m) (word_at (block_basis braid m (product_before braid s.letter g)) s.place)
spot_least braid m degree g s e h =
    (from_block_basis braid m (product_before braid s.letter g) (word_at (block_basis braid m (product_before braid s.letter g)) s.place) (word_at_is_in (block_basis braid m (product_before braid s.letter g)) s.place (spot_within braid m degree g s e h))).0

-- ---- the row of the derivative of the word below

pub derivative_there : (braid : BraidValue) (m degree : ℕ) (g : List ℕ) (s : Spot) (own : PlainRule) (a : ℕ) → suc m ≡ degree → IsSpot (lower_words braid degree g) s → own ≡ rule_of braid m (product_before braid s.letter g) → IsLetter braid a → s.place < length (derivs_in own a)
derivative_there braid m degree g s own a e h rule la = subst (λ n. s.place < n) (sym (derivs_size braid m (product_before braid s.letter g) own rule a la)) (spot_within braid m degree g s e h)

pub derivative_cells : (braid : BraidValue) (m degree : ℕ) (g : List ℕ) (s : Spot) (own : PlainRule) (a : ℕ) (cells : List Cell) → suc m ≡ degree → IsSpot (lower_words braid degree g) s → own ≡ rule_of braid m (product_before braid s.letter g) → IsLetter braid a →
    AreCellsOf (below_in own a) (get_or (derivs_in own a) s.place []) cells →
    AreCellsOf (lower_basis braid m (product_before braid s.letter g) a) (derived_form is_killed braid m (word_at (block_basis braid m (product_before braid s.letter g)) s.place) a) cells
derivative_cells braid m degree g s own a cells e h rule la are =
    let h' : List ℕ = product_before braid s.letter g in
    subst (λ (ws : List (List ℕ)). AreCellsOf ws (derived_form is_killed braid m (word_at (block_basis braid m h') s.place) a) cells) (below_is braid m h' own (lean_of_whole braid m h' own rule) a la)
    (subst (λ (f : Combination). AreCellsOf (below_in own a) f cells) (derivative braid m h' own rule a la s.place (spot_within braid m degree g s e h)) are)

-- ---- the right rows

pub columns_there : (braid : BraidValue) → IsBraid braid → (m : ℕ) (g : List ℕ) (rule : PlainRule) (a b : ℕ) → rule ≡ rule_of braid m (product_before braid a g) → IsLetter braid a → IsLetter braid b →
    length (lower_basis braid m (product_before braid b g) a) ≡ length (right_in rule (act braid a b))
columns_there braid is m g rule a b e la lb =
    ap length (sym (lower_below braid is m g a b la lb)) ∙ sym (right_size braid m (product_before braid a g) rule (lean_of_whole braid m (product_before braid a g) rule e) (act braid a b) (is.rack.closed a b la lb))

pub right_elements : (braid : BraidValue) → IsBraid braid → (m : ℕ) (g : List ℕ) (rule : PlainRule) (c : ℕ) → rule ≡ rule_of braid m g → IsLetter braid c → AllByRecursion (AllElements braid.field) (right_in rule c)
unfolding right_forms
right_elements braid is m g rule c e lc =
    subst (AllByRecursion (AllElements braid.field)) (sym (right_is braid m g rule (lean_of_whole braid m g rule e) c lc))
    (all_mapped (AllElements braid.field) (λ u. normal_form is_killed braid m (single (u ++ c ∷ []))) (lower_basis braid m g c)
    (λ u i.
    let w : (length (u ++ c ∷ []) ≡ m) × IsWordOver braid.letters (u ++ c ∷ []) = right_word braid m g c lc u i in
    let n : IsNormalForm is_killed braid m (single (u ++ c ∷ [])) (normal_form is_killed braid m (single (u ++ c ∷ []))) = word_form_is_normal braid is m (u ++ c ∷ []) w.0 w.1 in
    n.elements))
  where
    all_mapped : {X Y : Type 0} (P : Y → Type 0) (f : X → Y) (xs : List X) → ((x : X) → Contains xs x → P (f x)) → AllByRecursion P (map f xs)
    all_mapped P f xs h = go xs (all_of_entries (λ x. P (f x)) xs h)
      where
        go : (ys : List _) → AllByRecursion (λ y. P (f y)) ys → AllByRecursion P (map f ys)
        go [] t = tt
        go (y ∷ ys) t = (t.0, go ys t.1)

-- ---- the words of a rule

pub rule_words : (braid : BraidValue) (m degree : ℕ) (g : List ℕ) (rule : PlainRule) (a : ℕ) → suc m ≡ degree → rule ≡ rule_of braid m (product_before braid a g) → rule.basis ≡ lower_basis braid degree g a
rule_words braid m degree g rule a e h = basis_is braid m (product_before braid a g) rule (lean_of_whole braid m (product_before braid a g) rule h) ∙ sym (lower_is braid m degree g a e)

-- ---- the sums at a spot

-- the rules of the lower blocks by a letter a and by the letter of a spot
pub record AreBelowSpot (b : BraidValue) (m degree : ℕ) (g : List ℕ) (a : ℕ) (s : Spot) (rule own : PlainRule) : Type 0 where
  pub braid : IsBraid b
  pub next : suc m ≡ degree
  pub letter : IsLetter b a
  pub spot : IsSpot (lower_words b degree g) s
  pub above : rule ≡ rule_of b m (product_before b a g)
  pub below : own ≡ rule_of b m (product_before b s.letter g)

right_sums_there : (b : BraidValue) (m degree : ℕ) (g : List ℕ) (a : ℕ) (s : Spot) (rule own : PlainRule) → AreBelowSpot b m degree g a s rule own → (k : FieldValue) (by c : ℕ) (cells : List Cell) (values : List ℕ) →
    k ≡ b.field → by ≡ scalar b a s.letter → c ≡ act b a s.letter → AreSums k rule.basis values (scalar_multiple k by (summed_forms k (right_in rule c) cells)) → AreSums b.field (lower_basis b degree g a) values (right_sums b m g a s.letter cells)
right_sums_there b m degree g a s rule own h k by c cells values k_is by_is c_is sums =
    let la : IsLetter b s.letter = spot_letter b degree g s h.spot in
    let lc : IsLetter b (act b a s.letter) = h.braid.rack.closed a s.letter h.letter la in
    let forms : right_in rule c ≡ right_forms b m (product_before b a g) (act b a s.letter) = ap (right_in rule) c_is ∙ right_is b m (product_before b a g) rule (lean_of_whole b m (product_before b a g) rule h.above) (act b a s.letter) lc in
    subst (λ (fs : List Combination). AreSums b.field (lower_basis b degree g a) values (scalar_multiple b.field (scalar b a s.letter) (summed_forms b.field fs cells))) forms
    (subst (λ (n : ℕ). AreSums b.field (lower_basis b degree g a) values (scalar_multiple b.field n (summed_forms b.field (right_in rule c) cells))) by_is
    (subst (λ (ws : List (List ℕ)). AreSums b.field ws values (scalar_multiple b.field by (summed_forms b.field (right_in rule c) cells))) (rule_words b m degree g rule a h.next h.above)
    (subst (λ (f : FieldValue). AreSums f rule.basis values (scalar_multiple f by (summed_forms f (right_in rule c) cells))) k_is sums)))

-- the derivative at the spot, from that of the word below with its letter behind
derivative_at_spot : (b : BraidValue) (m degree : ℕ) (g : List ℕ) (a : ℕ) (s : Spot) (rule own : PlainRule) → AreBelowSpot b m degree g a s rule own → (values : List ℕ) →
    AreSums b.field (lower_basis b degree g a) values (derived_form is_killed b (suc m) (word_at (block_basis b m (product_before b s.letter g)) s.place ++ s.letter ∷ []) a) →
    AreSums b.field (lower_basis b degree g a) values (derived_form is_killed b degree (candidate_at (lower_words b degree g) s) a)
derivative_at_spot b m degree g a s rule own h values sums =
    subst (λ (w : List ℕ). AreSums b.field (lower_basis b degree g a) values (derived_form is_killed b degree w a)) (sym (spot_word b m degree g s h.next h.spot))
    (subst (λ (d : ℕ). AreSums b.field (lower_basis b degree g a) values (derived_form is_killed b d (word_at (block_basis b m (product_before b s.letter g)) s.place ++ s.letter ∷ []) a)) h.next sums)

pub others_at_spot : (b : BraidValue) (m degree : ℕ) (g : List ℕ) (a : ℕ) (s : Spot) (rule own : PlainRule) → AreBelowSpot b m degree g a s rule own → (k : FieldValue) (by c : ℕ) (cells : List Cell) (values : List ℕ) →
    k ≡ b.field → by ≡ scalar b a s.letter → c ≡ act b a s.letter → AreCellsOf (below_in own a) (get_or (derivs_in own a) s.place []) cells → AreSums k rule.basis values (scalar_multiple k by (summed_forms k (right_in rule c) cells)) → a ≢ s.letter →
    AreSums b.field (lower_basis b degree g a) values (derived_form is_killed b degree (candidate_at (lower_words b degree g) s) a)
others_at_spot b m degree g a s rule own h k by c cells values k_is by_is c_is are sums other =
    derivative_at_spot b m degree g a s rule own h values
    (sums_of_others b h.braid m g (word_at (block_basis b m (product_before b s.letter g)) s.place) a s.letter (spot_least b m degree g s h.next h.spot) h.letter (spot_letter b degree g s h.spot) cells
    (derivative_cells b m degree g s own a cells h.next h.spot h.below h.letter are) (lower_basis b degree g a) values (right_sums_there b m degree g a s rule own h k by c cells values k_is by_is c_is sums) other)

pub own_at_spot : (b : BraidValue) (m degree : ℕ) (g : List ℕ) (a : ℕ) (s : Spot) (rule own : PlainRule) → AreBelowSpot b m degree g a s rule own → (k : FieldValue) (by c : ℕ) (cells : List Cell) (values after : List ℕ) →
    k ≡ b.field → by ≡ scalar b a s.letter → c ≡ act b a s.letter → AreCellsOf (below_in own a) (get_or (derivs_in own a) s.place []) cells → AreSums k rule.basis values (scalar_multiple k by (summed_forms k (right_in rule c) cells)) → a ≡ s.letter →
    sum_at k after s.place ≡ plus k (sum_at k values s.place) 1 → ((other : ℕ) → other ≢ s.place → sum_at k after other ≡ sum_at k values other) →
    AreSums b.field (lower_basis b degree g a) after (derived_form is_killed b degree (candidate_at (lower_words b degree g) s) a)
own_at_spot b m degree g a s rule own h k by c cells values after k_is by_is c_is are sums same put kept =
    derivative_at_spot b m degree g a s rule own h after
    (sums_of_own b h.braid m g (word_at (block_basis b m (product_before b s.letter g)) s.place) a s.letter (spot_least b m degree g s h.next h.spot) h.letter (spot_letter b degree g s h.spot) cells
    (derivative_cells b m degree g s own a cells h.next h.spot h.below h.letter are) (lower_basis b degree g a) values after s.place (lower_basis_rises b degree g a)
    (subst (λ (l : ℕ). s.place < length (lower_basis b degree g l)) (sym same) (spot_place b degree g s h.spot)) (ap (λ (l : ℕ). word_at (lower_basis b degree g l) s.place) same ∙ ap (λ (ws : List (List ℕ)). word_at ws s.place) (lower_is b m degree g s.letter h.next))
    (right_sums_there b m degree g a s rule own h k by c cells values k_is by_is c_is sums) same (subst (λ (f : FieldValue). sum_at f after s.place ≡ plus f (sum_at f values s.place) 1) k_is put)
    (subst (λ (f : FieldValue). (other : ℕ) → other ≢ s.place → sum_at f after other ≡ sum_at f values other) k_is kept))
