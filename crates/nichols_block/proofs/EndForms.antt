-- The forms that a listed word without an end letter has in a block below.
use Rattle.std.proofs.Common.{◌≡◌, ℕ, zero, suc, ◌-◌, ◌<◌, ◌≤◌, true, false, List, [], ◌∷◌, ◌++◌, length, take, drop, get_or, refl, sym, ◌∙◌, ap, ap₂, subst, arith, inl, inr}
use Rattle.std.specs.Prelude.{slice_index}
use Rattle.std.specs.List.{Contains}
use Rattle.std.proofs.lemmas.List.{length-take-le}
use Rattle.std.proofs.Math.Seq.{take-append_seam, get_or-append_seam}
use Rattle.nichols_tensor.specs.Combination.{AllAmong, Combination, single}
use Rattle.nichols_tensor.specs.Positions.{word_at}
use Rattle.nichols_tensor.proofs.Over.{letter_over, word_over_front}
use Rattle.nichols_tensor.proofs.Pushed.{pushed_length}
use Rattle.nichols_braid.specs.Braid.{BraidValue, IsBraid, IsLetter}
use Rattle.nichols_braid.specs.Kernel.{is_killed}
use Rattle.nichols_braid.specs.Least.{is_least, normal_form}
use Rattle.nichols_braid.specs.Product.{product_before}
use Rattle.nichols_braid.specs.Products.{products}
use Rattle.nichols_braid.proofs.FirstDegree.{empty_word_is_least}
use Rattle.nichols_braid.proofs.ProductListLaws.{products_are_of_words}
use Rattle.nichols_echelon.specs.Cells.{Cell}
use Rattle.nichols_value.specs.Block.{block_basis, left_lower_basis, lower_basis}
use Rattle.nichols_value.specs.Kept.{AreCellsOf}
use Rattle.nichols_value.specs.Rule.{IsRuleOf, PlainRule, below_in, left_in, right_in, rule_of}
use Rattle.nichols_value.proofs.Blocks.{lower_basis_is}
use Rattle.nichols_value.proofs.LeftBlocks.{left_lower_is_lower}
use Rattle.nichols_value.proofs.RuleEntries.{basis_is, below_is, lean_of_whole, left_form, left_size, right_form, right_size}
use Rattle.nichols_value.proofs.FormCells.{none_among}
use Rattle.nichols_block.specs.Pass.{IsOfBlock}
use Rattle.nichols_block.specs.Words.{but_last}
use Rattle.nichols_block.proofs.ListedWords.{IsListedWord, but_last-push}
use Rattle.nichols_block.proofs.ReadWords.{HasEnds, IsReadLeft, IsReadRight, has_ends, read_left, read_right}

-- ---- a word of two letters or more

last_of : (a : ℕ) (v : List ℕ) (b : ℕ) → slice_index (a ∷ v ++ b ∷ []) (length (a ∷ v ++ b ∷ []) - 1) ≡ b
last_of a v b =
    let size : length (v ++ b ∷ []) ≡ suc (length v) = pushed_length v b in
    let e : length (a ∷ v ++ b ∷ []) - 1 ≡ length (a ∷ v) = omega (arith, size) in
    ap (slice_index (a ∷ v ++ b ∷ [])) e ∙ get_or-append_seam (a ∷ v) b [] 0

inner_of : (a : ℕ) (v : List ℕ) (b : ℕ) → take (length (a ∷ v ++ b ∷ []) - 2) (v ++ b ∷ []) ≡ v
inner_of a v b =
    let size : length (v ++ b ∷ []) ≡ suc (length v) = pushed_length v b in
    let e : length (a ∷ v ++ b ∷ []) - 2 ≡ length v = omega (arith, size) in ap (λ n. take n (v ++ b ∷ [])) e ∙ take-append_seam v (b ∷ [])

-- its letters, and what is between them
pub record HasParts (n : ℕ) (w : List ℕ) : Type 0 where
  pub first : ℕ
  pub inner : List ℕ
  pub last : ℕ
  pub whole : w ≡ first ∷ inner ++ last ∷ []
  pub first_is : slice_index w 0 ≡ first
  pub last_is : slice_index w (length w - 1) ≡ last
  pub inner_is : take (length w - 2) (drop 1 w) ≡ inner
  pub back_is : drop 1 w ≡ inner ++ last ∷ []
  pub front_is : but_last w ≡ first ∷ inner

pub parts_of : (n : ℕ) (w : List ℕ) → length w ≡ suc (suc n) → HasParts n w
parts_of n w size =
    let h : HasEnds n w = has_ends n w size in record {
      first = h.first;
      inner = h.middle;
      last = h.last;
      whole = h.whole;
      first_is = ap (λ v. slice_index v 0) h.whole;
      last_is = ap (λ v. slice_index v (length v - 1)) h.whole ∙ last_of h.first h.middle h.last;
      inner_is = ap (λ v. take (length v - 2) (drop 1 v)) h.whole ∙ inner_of h.first h.middle h.last;
      back_is = ap (drop 1) h.whole;
      front_is = ap but_last h.whole ∙ but_last-push (h.first ∷ h.middle) h.last;
    }

-- a word that isn't least without an end letter has two letters or more
record IsLong (m : ℕ) : Type 0 where
  n : ℕ
  is : m ≡ suc (suc n)

long_by : (braid : BraidValue) → IsBraid braid → (m : ℕ) → 1 ≤ m → (v : List ℕ) → suc (length v) ≡ m → is_least is_killed braid v ≡ false → IsLong m
long_by braid is zero some v size other = absurd (omega arith)
long_by braid is (suc zero) some [] size other = absurd (let c : true ≡ false = sym (empty_word_is_least braid is.field) ∙ other in cc)
long_by braid is (suc zero) some (x ∷ v) size other = absurd (omega arith)
long_by braid is (suc (suc n)) some v size other = record { n = n; is = refl }

pub long_back : (braid : BraidValue) → IsBraid braid → (m : ℕ) → 1 ≤ m → (w : List ℕ) → length w ≡ m → is_least is_killed braid (drop 1 w) ≡ false → 2 ≤ length w
long_back braid is m some w size other = let l : IsLong m = long_by braid is m some (drop 1 w) (longer w size) other in omega (arith, l.is, size)
  where
    longer : (v : List ℕ) → length v ≡ m → suc (length (drop 1 v)) ≡ m
    longer [] e = absurd (omega arith)
    longer (x ∷ v) e = e

pub long_front : (braid : BraidValue) → IsBraid braid → (m : ℕ) → 1 ≤ m → (w : List ℕ) → length w ≡ m → is_least is_killed braid (but_last w) ≡ false → 2 ≤ length w
long_front braid is m some w size other =
    let shorter : length (take (length w - 1) w) ≡ length w - 1 = length-take-le (length w - 1) w (omega arith) in
    let l : IsLong m = long_by braid is m some (but_last w) (omega (arith, size, shorter, some)) other in omega (arith, l.is, size)

one_less : (n : ℕ) → suc n ≡ suc (suc n) - 1
one_less n = omega arith

-- ---- without the first letter

-- the word without its first letter, in the left lower block by it
pub record IsLeftRead (braid : BraidValue) (m : ℕ) (g : List ℕ) (c : ℕ) (w : List ℕ) : Type 0 where
  pub words : left_lower_basis braid m g (slice_index w 0) ≡ lower_basis braid m g c
  pub basis : lower_basis braid m g c ≡ block_basis braid (m - 1) (product_before braid c g)
  pub among : AllAmong (normal_form is_killed braid (m - 1) (single (drop 1 w))) (left_lower_basis braid m g (slice_index w 0))
  pub last : IsLetter braid (slice_index w (length w - 1))
  pub there : Contains (lower_basis braid (m - 1) (product_before braid c g) (slice_index w (length w - 1))) (take (length w - 2) (drop 1 w))
  pub whole : take (length w - 2) (drop 1 w) ++ slice_index w (length w - 1) ∷ [] ≡ drop 1 w

left_read_at : (braid : BraidValue) → IsBraid braid → (n : ℕ) (g : List ℕ) → Contains (products braid (suc (suc n))) g → (c : ℕ) → IsLetter braid c → (w : List ℕ) → slice_index g (c - 1) ≡ slice_index w 0 → IsOfBlock braid (suc (suc n)) g w →
    is_least is_killed braid (but_last w) ≡ true → is_least is_killed braid (drop 1 w) ≡ false → IsLeftRead braid (suc (suc n)) g c w
left_read_at braid is n g there c lc w sent own least other = record {
  words = ap (left_lower_basis braid (suc (suc n)) g) (sym sent) ∙ left_lower_is_lower braid is (suc (suc n)) g there c lc;
  basis = lower_basis_is braid (suc n) g c ∙ ap (λ i. block_basis braid i (product_before braid c g)) (one_less n);
  among =
      subst (λ i. AllAmong (normal_form is_killed braid i (single (drop 1 w))) (left_lower_basis braid (suc (suc n)) g (slice_index w 0))) (one_less n)
      (subst (λ a. AllAmong (normal_form is_killed braid (suc n) (single (drop 1 w))) (left_lower_basis braid (suc (suc n)) g a)) (sym p.first_is)
      (subst (λ v. AllAmong (normal_form is_killed braid (suc n) (single v)) (left_lower_basis braid (suc (suc n)) g p.first)) (sym p.back_is) r.among));
  last = last;
  there =
      subst (λ i. Contains (lower_basis braid i (product_before braid c g) (slice_index w (length w - 1))) (take (length w - 2) (drop 1 w))) (one_less n)
      (subst (λ b. Contains (lower_basis braid (suc n) (product_before braid c g) b) (take (length w - 2) (drop 1 w))) (sym p.last_is)
      (subst (Contains (lower_basis braid (suc n) (product_before braid c g) p.last)) (sym p.inner_is)
      (subst (λ h. Contains (lower_basis braid (suc n) h p.last) p.inner) (r.product c lc (sent ∙ p.first_is)) r.middle)));
  whole = ap₂ (λ v b. v ++ b ∷ []) p.inner_is p.last_is ∙ sym p.back_is;
}
  where
    p : HasParts n w
    p = parts_of n w own.size

    listed : IsListedWord braid (suc (suc n)) g (p.first ∷ p.inner ++ p.last ∷ [])
    listed = subst (IsListedWord braid (suc (suc n)) g) p.whole (record { size = own.size; over = own.over; product = own.product; least = inl least })

    r : IsReadLeft braid n g p.first p.inner p.last
    r = read_left braid is n g there p.first p.inner p.last listed (ap (is_least is_killed braid) (sym p.back_is) ∙ other)

    last : IsLetter braid (slice_index w (length w - 1))
    last = letter_over braid.letters w (length w - 1) own.over (omega (arith, own.size))

pub left_read : (braid : BraidValue) → IsBraid braid → (m : ℕ) (g : List ℕ) → 1 ≤ m → Contains (products braid m) g → (c : ℕ) → IsLetter braid c → (w : List ℕ) → slice_index g (c - 1) ≡ slice_index w 0 → IsOfBlock braid m g w →
    is_least is_killed braid (but_last w) ≡ true → is_least is_killed braid (drop 1 w) ≡ false → IsLeftRead braid m g c w
left_read braid is m g some there c lc w sent own least other =
    let l : IsLong m = long_by braid is m some (drop 1 w) (longer w own.size) other in
    subst (λ i. IsLeftRead braid i g c w) (sym l.is)
    (left_read_at braid is l.n g (subst (λ i. Contains (products braid i) g) l.is there) c lc w sent (subst (λ i. IsOfBlock braid i g w) l.is own) least other)
  where
    longer : (v : List ℕ) → length v ≡ m → suc (length (drop 1 v)) ≡ m
    longer [] e = absurd (omega arith)
    longer (x ∷ v) e = e

-- where there is no such block, it is 0
pub left_none : (braid : BraidValue) (m : ℕ) (g : List ℕ) (c : ℕ) (w : List ℕ) → IsLeftRead braid m g c w → lower_basis braid m g c ≡ [] → AreCellsOf (left_lower_basis braid m g (slice_index w 0)) (normal_form is_killed braid (m - 1) (single (drop 1 w))) []
left_none braid m g c w l none = record {
  row = record { rising = tt; nonzero = tt };
  below = tt;
  form = sym (none_among (normal_form is_killed braid (m - 1) (single (drop 1 w))) (subst (AllAmong (normal_form is_killed braid (m - 1) (single (drop 1 w)))) (l.words ∙ none) l.among));
}

words_behind : (braid : BraidValue) (m : ℕ) (g : List ℕ) (c b : ℕ) (w : List ℕ) (r : PlainRule) → IsLeftRead braid m g c w → r ≡ rule_of braid (m - 1) (product_before braid c g) → b ≡ slice_index w (length w - 1) →
    below_in r b ≡ lower_basis braid (m - 1) (product_before braid c g) b
words_behind braid m g c b w r l e at = below_is braid (m - 1) (product_before braid c g) r (lean_of_whole braid (m - 1) (product_before braid c g) r e) b (subst (IsLetter braid) (sym at) l.last)

pub left_cells : (braid : BraidValue) (m : ℕ) (g : List ℕ) (c b : ℕ) (w inner : List ℕ) (r : PlainRule) (ws : List (List ℕ)) (k : ℕ) (cells : List Cell) → IsLeftRead braid m g c w → r ≡ rule_of braid (m - 1) (product_before braid c g) → b ≡ slice_index w (length w - 1) →
    inner ≡ take (length w - 2) (drop 1 w) → ws ≡ below_in r b → k < length ws → word_at ws k ≡ inner → AreCellsOf r.basis (get_or (right_in r b) k []) cells →
    AreCellsOf (left_lower_basis braid m g (slice_index w 0)) (normal_form is_killed braid (m - 1) (single (drop 1 w))) cells
left_cells braid m g c b w inner r ws k cells l e at inner_is ws_is less here are =
    let lean : IsRuleOf braid (m - 1) (product_before braid c g) r = lean_of_whole braid (m - 1) (product_before braid c g) r e in
    let words : ws ≡ lower_basis braid (m - 1) (product_before braid c g) b = ws_is ∙ words_behind braid m g c b w r l e at in
    let form : get_or (right_in r b) k [] ≡ normal_form is_killed braid (m - 1) (single (drop 1 w)) =
    right_form braid (m - 1) (product_before braid c g) r lean b (subst (IsLetter braid) (sym at) l.last) k (subst (λ vs. k < length vs) words less)
    ∙ ap (λ v. normal_form is_killed braid (m - 1) (single v)) (ap (λ v. v ++ b ∷ []) (ap (λ vs. word_at vs k) (sym words) ∙ here ∙ inner_is) ∙ ap (λ d. take (length w - 2) (drop 1 w) ++ d ∷ []) at ∙ l.whole) in
    subst (λ (f : Combination). AreCellsOf (left_lower_basis braid m g (slice_index w 0)) f cells) form
    (subst (λ vs. AreCellsOf vs (get_or (right_in r b) k []) cells) (basis_is braid (m - 1) (product_before braid c g) r lean ∙ sym (l.words ∙ l.basis)) are)

-- the row at its place without both end letters
pub left_row_there : (braid : BraidValue) (m : ℕ) (g : List ℕ) (c b : ℕ) (w : List ℕ) (r : PlainRule) (k : ℕ) → IsLeftRead braid m g c w → r ≡ rule_of braid (m - 1) (product_before braid c g) → b ≡ slice_index w (length w - 1) →
    k < length (lower_basis braid (m - 1) (product_before braid c g) (slice_index w (length w - 1))) → k < length (right_in r b)
left_row_there braid m g c b w r k l e at less =
    subst (λ n. k < n)
    (ap (λ d. length (lower_basis braid (m - 1) (product_before braid c g) d)) (sym at)
    ∙ sym (right_size braid (m - 1) (product_before braid c g) r (lean_of_whole braid (m - 1) (product_before braid c g) r e) b (subst (IsLetter braid) (sym at) l.last)))
    less

pub left_cells_at : (braid : BraidValue) (m : ℕ) (g : List ℕ) (c b : ℕ) (w : List ℕ) (r : PlainRule) (k : ℕ) (cells : List Cell) → IsLeftRead braid m g c w → r ≡ rule_of braid (m - 1) (product_before braid c g) → b ≡ slice_index w (length w - 1) →
    k < length (lower_basis braid (m - 1) (product_before braid c g) (slice_index w (length w - 1))) →
    word_at (lower_basis braid (m - 1) (product_before braid c g) (slice_index w (length w - 1))) k ≡ take (length w - 2) (drop 1 w) → AreCellsOf r.basis (get_or (right_in r b) k []) cells →
    AreCellsOf (left_lower_basis braid m g (slice_index w 0)) (normal_form is_killed braid (m - 1) (single (drop 1 w))) cells
left_cells_at braid m g c b w r k cells l e at less here are =
    let words : below_in r b ≡ lower_basis braid (m - 1) (product_before braid c g) (slice_index w (length w - 1)) = words_behind braid m g c b w r l e at ∙ ap (lower_basis braid (m - 1) (product_before braid c g)) at in
    left_cells braid m g c b w (take (length w - 2) (drop 1 w)) r (below_in r b) k cells l e at refl refl (subst (λ vs. k < length vs) (sym words) less) (ap (λ vs. word_at vs k) words ∙ here) are

-- ---- without the last letter

-- the word without its last letter, in the lower block by it
pub record IsRightRead (braid : BraidValue) (m : ℕ) (g : List ℕ) (w : List ℕ) : Type 0 where
  pub two : 2 ≤ m
  pub basis : lower_basis braid m g (slice_index w (length w - 1)) ≡ block_basis braid (m - 1) (product_before braid (slice_index w (length w - 1)) g)
  pub among : AllAmong (normal_form is_killed braid (m - 1) (single (but_last w))) (lower_basis braid m g (slice_index w (length w - 1)))
  pub first : IsLetter braid (slice_index w 0)
  pub block : Contains (products braid (m - 1)) (product_before braid (slice_index w (length w - 1)) g)
  pub there : Contains (left_lower_basis braid (m - 1) (product_before braid (slice_index w (length w - 1)) g) (slice_index w 0)) (take (length w - 2) (drop 1 w))
  pub whole : slice_index w 0 ∷ take (length w - 2) (drop 1 w) ≡ but_last w

right_read_at : (braid : BraidValue) → IsBraid braid → (n : ℕ) (g w : List ℕ) → IsOfBlock braid (suc (suc n)) g w → is_least is_killed braid (drop 1 w) ≡ true → is_least is_killed braid (but_last w) ≡ false → IsRightRead braid (suc (suc n)) g w
right_read_at braid is n g w own least other = record {
  two = omega arith;
  basis = lower_basis_is braid (suc n) g (slice_index w (length w - 1)) ∙ ap (λ i. block_basis braid i (product_before braid (slice_index w (length w - 1)) g)) (one_less n);
  among =
      subst (λ i. AllAmong (normal_form is_killed braid i (single (but_last w))) (lower_basis braid (suc (suc n)) g (slice_index w (length w - 1)))) (one_less n)
      (subst (λ b. AllAmong (normal_form is_killed braid (suc n) (single (but_last w))) (lower_basis braid (suc (suc n)) g b)) (sym p.last_is)
      (subst (λ v. AllAmong (normal_form is_killed braid (suc n) (single v)) (lower_basis braid (suc (suc n)) g p.last)) (sym p.front_is) r.among));
  first = letter_over braid.letters w 0 own.over (omega (arith, own.size));
  block = subst (λ i. Contains (products braid i) (product_before braid (slice_index w (length w - 1)) g)) (one_less n)
      ((products_are_of_words braid (suc n) (product_before braid (slice_index w (length w - 1)) g)).1
      (p.first ∷ p.inner, front_size, word_over_front braid.letters (p.first ∷ p.inner) (p.last ∷ []) listed.over, r.product ∙ ap (λ b. product_before braid b g) (sym p.last_is)));
  there =
      subst (λ i. Contains (left_lower_basis braid i (product_before braid (slice_index w (length w - 1)) g) (slice_index w 0)) (take (length w - 2) (drop 1 w))) (one_less n)
      (subst (λ b. Contains (left_lower_basis braid (suc n) (product_before braid b g) (slice_index w 0)) (take (length w - 2) (drop 1 w))) (sym p.last_is)
      (subst (λ a. Contains (left_lower_basis braid (suc n) (product_before braid p.last g) a) (take (length w - 2) (drop 1 w))) (sym p.first_is)
      (subst (Contains (left_lower_basis braid (suc n) (product_before braid p.last g) p.first)) (sym p.inner_is)
      (subst (λ h. Contains (left_lower_basis braid (suc n) h p.first) p.inner) r.product r.middle))));
  whole = ap₂ (λ a v. a ∷ v) p.first_is p.inner_is ∙ sym p.front_is;
}
  where
    p : HasParts n w
    p = parts_of n w own.size

    listed : IsListedWord braid (suc (suc n)) g (p.first ∷ p.inner ++ p.last ∷ [])
    listed = subst (IsListedWord braid (suc (suc n)) g) p.whole (record { size = own.size; over = own.over; product = own.product; least = inr least })

    r : IsReadRight braid n g p.first p.inner p.last
    r = read_right braid is n g p.first p.inner p.last listed (ap (is_least is_killed braid) (sym p.front_is) ∙ other)

    front_size : length (p.first ∷ p.inner) ≡ suc n
    front_size = let e : suc (length (p.inner ++ p.last ∷ [])) ≡ suc (suc n) = listed.size in omega (arith, e, pushed_length p.inner p.last)

pub right_read : (braid : BraidValue) → IsBraid braid → (m : ℕ) (g : List ℕ) → 1 ≤ m → (w : List ℕ) → IsOfBlock braid m g w → is_least is_killed braid (drop 1 w) ≡ true → is_least is_killed braid (but_last w) ≡ false → IsRightRead braid m g w
right_read braid is m g some w own least other =
    let l : IsLong m = long_by braid is m some (but_last w) (longer w own.size) other in
    subst (λ i. IsRightRead braid i g w) (sym l.is) (right_read_at braid is l.n g w (subst (λ i. IsOfBlock braid i g w) l.is own) least other)
  where
    longer : (v : List ℕ) → length v ≡ m → suc (length (but_last v)) ≡ m
    longer v e = let size : length (take (length v - 1) v) ≡ length v - 1 = length-take-le (length v - 1) v (omega arith) in omega (arith, e, size, some)

pub right_none : (braid : BraidValue) (m : ℕ) (g : List ℕ) (w : List ℕ) → IsRightRead braid m g w → lower_basis braid m g (slice_index w (length w - 1)) ≡ [] → AreCellsOf (lower_basis braid m g (slice_index w (length w - 1))) (normal_form is_killed braid (m - 1) (single (but_last w))) []
right_none braid m g w l none = record {
  row = record { rising = tt; nonzero = tt };
  below = tt;
  form = sym (none_among (normal_form is_killed braid (m - 1) (single (but_last w))) (subst (AllAmong (normal_form is_killed braid (m - 1) (single (but_last w)))) none l.among));
}

-- the row at its place without both end letters
pub right_row_there : (braid : BraidValue) (m : ℕ) (g w : List ℕ) (r : PlainRule) (a k : ℕ) → IsRightRead braid m g w → r ≡ rule_of braid (m - 1) (product_before braid (slice_index w (length w - 1)) g) → a ≡ slice_index w 0 →
    k < length (left_lower_basis braid (m - 1) (product_before braid (slice_index w (length w - 1)) g) (slice_index w 0)) → k < length (left_in r a)
right_row_there braid m g w r a k l e at less =
    let below : List ℕ = product_before braid (slice_index w (length w - 1)) g in
    subst (λ n. k < n) (ap (λ d. length (left_lower_basis braid (m - 1) below d)) (sym at) ∙ sym (left_size braid (m - 1) below r e a (subst (IsLetter braid) (sym at) l.first))) less

pub right_cells_at : (braid : BraidValue) (m : ℕ) (g w : List ℕ) (r : PlainRule) (a k : ℕ) (cells : List Cell) → IsRightRead braid m g w → r ≡ rule_of braid (m - 1) (product_before braid (slice_index w (length w - 1)) g) → a ≡ slice_index w 0 →
    k < length (left_lower_basis braid (m - 1) (product_before braid (slice_index w (length w - 1)) g) (slice_index w 0)) →
    word_at (left_lower_basis braid (m - 1) (product_before braid (slice_index w (length w - 1)) g) (slice_index w 0)) k ≡ take (length w - 2) (drop 1 w) → AreCellsOf r.basis (get_or (left_in r a) k []) cells →
    AreCellsOf (lower_basis braid m g (slice_index w (length w - 1))) (normal_form is_killed braid (m - 1) (single (but_last w))) cells
right_cells_at braid m g w r a k cells l e at less here are =
    let below : List ℕ = product_before braid (slice_index w (length w - 1)) g in
    let words : left_lower_basis braid (m - 1) below (slice_index w 0) ≡ left_lower_basis braid (m - 1) below a = ap (left_lower_basis braid (m - 1) below) (sym at) in
    let form : get_or (left_in r a) k [] ≡ normal_form is_killed braid (m - 1) (single (but_last w)) =
    left_form braid (m - 1) below r e a (subst (IsLetter braid) (sym at) l.first) k (subst (λ vs. k < length vs) words less)
    ∙ ap (λ v. normal_form is_killed braid (m - 1) (single v)) (ap (λ v. a ∷ v) (ap (λ vs. word_at vs k) (sym words) ∙ here) ∙ ap (λ d. d ∷ take (length w - 2) (drop 1 w)) at ∙ l.whole) in
    subst (λ (f : Combination). AreCellsOf (lower_basis braid m g (slice_index w (length w - 1))) f cells) form
    (subst (λ vs. AreCellsOf vs (get_or (left_in r a) k []) cells) (basis_is braid (m - 1) below r (lean_of_whole braid (m - 1) below r e) ∙ sym l.basis) are)
