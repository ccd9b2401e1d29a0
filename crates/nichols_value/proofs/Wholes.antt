-- Whole blocks, and the values of blocks.
use Rattle.std.proofs.Common.{◌≡◌, ℕ, zero, suc, ◌<◌, ◌≤◌, ◌-◌, Bool, true, false, cond, ◌&&◌, List, refl, sym, ◌∙◌, ap, ap₂, arith, inl, inr}
use Rattle.std.specs.Prelude.{nat_le}
use Rattle.std.specs.List.{Contains, list_all}
use Rattle.std.proofs.Math.Bool.{and-true}
use Rattle.std.proofs.lemmas.Bool.{le-leb, leb-true, lt-leb, leb-false, and_parts}
use Rattle.nichols_tensor.proofs.Entries.{each_of, of_each}
use Rattle.nichols_braid.specs.Braid.{BraidValue}
use Rattle.nichols_braid.specs.Kernel.{is_killed}
use Rattle.nichols_braid.specs.Product.{product_before}
use Rattle.nichols_braid.specs.Products.{products, rows}
use Rattle.nichols_value.specs.Block.{is_whole, is_whole_below, lower_letters}
use Rattle.nichols_value.specs.Rule.{PlainRule, rule_of}
use Rattle.nichols_value.specs.Value.{IsRight, block_value}
use Rattle.nichols_value.specs.declared.value.BlockValue.TheVariants.{Over, Rule, Void}
use Rattle.nichols_value.proofs.Blocks.{from_lower_letters}

-- ---- whole blocks

-- all lower blocks of a block of a degree above 0 are whole
below_of : (braid : BraidValue) (limit m : ℕ) (g : List ℕ) → is_whole_below braid limit (suc m) g ≡ list_all (λ a. is_whole braid limit m (product_before braid a g)) (lower_letters braid (suc m) g)
unfolding is_whole_below
below_of braid limit m g =
    let less : suc m - 1 ≡ m = omega arith in
    ap (λ n. list_all (λ a. is_whole braid limit n (product_before braid a g)) (lower_letters braid (suc m) g)) less

-- a block is whole where its candidates don't exceed the limit, and its lower blocks are whole
whole_is : (braid : BraidValue) (limit m : ℕ) (g : List ℕ) → is_whole braid limit m g ≡ (nat_le (rows is_killed braid m g) limit && is_whole_below braid limit m g)
unfolding is_whole is_whole_below lower_letters
whole_is braid limit zero g = sym (and-true (nat_le (rows is_killed braid zero g) limit))
whole_is braid limit (suc m) g = ap (λ b. nat_le (rows is_killed braid (suc m) g) limit && b) (sym (below_of braid limit m g))

pub whole_from : (braid : BraidValue) (limit m : ℕ) (g : List ℕ) → rows is_killed braid m g ≤ limit → is_whole_below braid limit m g ≡ true → is_whole braid limit m g ≡ true
whole_from braid limit m g few below = whole_is braid limit m g ∙ ap₂ (λ b c. b && c) (le-leb (rows is_killed braid m g) limit few) below

pub rows_of_whole : (braid : BraidValue) (limit m : ℕ) (g : List ℕ) → is_whole braid limit m g ≡ true → rows is_killed braid m g ≤ limit
rows_of_whole braid limit m g whole = leb-true (rows is_killed braid m g) limit (and_parts (nat_le (rows is_killed braid m g) limit) (is_whole_below braid limit m g) (sym (whole_is braid limit m g) ∙ whole)).0

pub below_whole : (braid : BraidValue) (limit m : ℕ) (g : List ℕ) → is_whole braid limit m g ≡ true → is_whole_below braid limit m g ≡ true
below_whole braid limit m g whole = (and_parts (nat_le (rows is_killed braid m g) limit) (is_whole_below braid limit m g) (sym (whole_is braid limit m g) ∙ whole)).1

-- a block with more candidates isn't whole
pub too_many_rows : (braid : BraidValue) (limit m : ℕ) (g : List ℕ) → limit < rows is_killed braid m g → is_whole braid limit m g ≡ false
too_many_rows braid limit m g many = whole_is braid limit m g ∙ ap (λ b. b && is_whole_below braid limit m g) (lt-leb (rows is_killed braid m g) limit many)

-- all lower blocks are whole exactly where each of them is
pub lower_is_whole : (braid : BraidValue) (limit m : ℕ) (g : List ℕ) → is_whole_below braid limit (suc m) g ≡ true → (a : ℕ) → Contains (lower_letters braid (suc m) g) a → is_whole braid limit m (product_before braid a g) ≡ true
lower_is_whole braid limit m g whole a i = of_each (λ b. is_whole braid limit m (product_before braid b g)) a (lower_letters braid (suc m) g) (sym (below_of braid limit m g) ∙ whole) i

pub all_lower_whole : (braid : BraidValue) (limit m : ℕ) (g : List ℕ) → ((a : ℕ) → Contains (lower_letters braid (suc m) g) a → is_whole braid limit m (product_before braid a g) ≡ true) → is_whole_below braid limit (suc m) g ≡ true
all_lower_whole braid limit m g each = below_of braid limit m g ∙ each_of (λ b. is_whole braid limit m (product_before braid b g)) (lower_letters braid (suc m) g) each

pub some_lower_not_whole : (braid : BraidValue) (limit m : ℕ) (g : List ℕ) (a : ℕ) → Contains (lower_letters braid (suc m) g) a → is_whole braid limit m (product_before braid a g) ≡ false → is_whole_below braid limit (suc m) g ≡ false
some_lower_not_whole braid limit m g a i isnt = at (is_whole_below braid limit (suc m) g) refl
  where
    at : (b : Bool) → is_whole_below braid limit (suc m) g ≡ b → is_whole_below braid limit (suc m) g ≡ false
    at false e = e
    at true e = let c : true ≡ false = sym (lower_is_whole braid limit m g e a i) ∙ isnt in cc

-- there is no lower block of a block of degree 0
pub whole_below_first : (braid : BraidValue) (limit : ℕ) (g : List ℕ) → is_whole_below braid limit 0 g ≡ true
unfolding is_whole_below lower_letters
whole_below_first braid limit g = refl

-- a block is whole where no block of its degree or of a lower one has more candidates than the limit
pub whole_within : (braid : BraidValue) (limit m : ℕ) → ((n : ℕ) (h : List ℕ) → n ≤ m → Contains (products braid n) h → rows is_killed braid n h ≤ limit) → (g : List ℕ) → Contains (products braid m) g → is_whole braid limit m g ≡ true
whole_within braid limit zero within g i = whole_from braid limit zero g (within zero g (omega arith) i) (whole_below_first braid limit g)
whole_within braid limit (suc m) within g i =
    whole_from braid limit (suc m) g (within (suc m) g (omega arith) i)
    (all_lower_whole braid limit m g (λ a j. let (letter, leading, there) = from_lower_letters braid m g a j in whole_within braid limit m (λ n h less k. within n h (omega arith) k) (product_before braid a g) there))

-- ---- values

pub rule_value : (braid : BraidValue) (limit m : ℕ) (g : List ℕ) → is_whole braid limit m g ≡ true → block_value braid limit m g ≡ Rule (rule_of braid m g)
unfolding block_value
rule_value braid limit m g whole = ap (λ b. cond b (Rule (rule_of braid m g)) (cond (is_whole_below braid limit m g) (Over (rows is_killed braid m g)) Void)) whole

pub over_value : (braid : BraidValue) (limit m : ℕ) (g : List ℕ) → is_whole_below braid limit m g ≡ true → limit < rows is_killed braid m g → block_value braid limit m g ≡ Over (rows is_killed braid m g)
unfolding block_value
over_value braid limit m g below many =
    ap₂ (λ b c. cond b (Rule (rule_of braid m g)) (cond c (Over (rows is_killed braid m g)) Void)) (too_many_rows braid limit m g many) below

pub void_value : (braid : BraidValue) (limit m : ℕ) (g : List ℕ) → is_whole_below braid limit m g ≡ false → block_value braid limit m g ≡ Void
unfolding block_value
void_value braid limit m g below = ap₂ (λ b c. cond b (Rule (rule_of braid m g)) (cond c (Over (rows is_killed braid m g)) Void)) isnt below
  where
    at : (b : Bool) → is_whole braid limit m g ≡ b → is_whole braid limit m g ≡ false
    at false e = e
    at true e = let c : true ≡ false = sym (below_whole braid limit m g e) ∙ below in cc

    isnt : is_whole braid limit m g ≡ false
    isnt = at (is_whole braid limit m g) refl

-- the cases of a block: it is whole; or its lower blocks are and it has too many candidates; or some lower block isn't whole
pub data IsCase (braid : BraidValue) (limit m : ℕ) (g : List ℕ) : Type 0 where
  whole : is_whole braid limit m g ≡ true → block_value braid limit m g ≡ Rule (rule_of braid m g) → IsCase braid limit m g
  over : is_whole_below braid limit m g ≡ true → limit < rows is_killed braid m g → block_value braid limit m g ≡ Over (rows is_killed braid m g) → IsCase braid limit m g
  void : is_whole_below braid limit m g ≡ false → block_value braid limit m g ≡ Void → IsCase braid limit m g

pub case_of : (braid : BraidValue) (limit m : ℕ) (g : List ℕ) → IsCase braid limit m g
case_of braid limit m g = at (is_whole_below braid limit m g) (nat_le (rows is_killed braid m g) limit) refl refl
  where
    at : (b c : Bool) → is_whole_below braid limit m g ≡ b → nat_le (rows is_killed braid m g) limit ≡ c → IsCase braid limit m g
    at false c e few = void e (void_value braid limit m g e)
    at true true e few = let w : is_whole braid limit m g ≡ true = whole_from braid limit m g (leb-true (rows is_killed braid m g) limit few) e in whole w (rule_value braid limit m g w)
    at true false e many = let more : limit < rows is_killed braid m g = leb-false (rows is_killed braid m g) limit many in over e more (over_value braid limit m g e more)

-- what a value that is right for a block says

pub right_rule : (braid : BraidValue) (limit m : ℕ) (g : List ℕ) (r : PlainRule) → IsRight braid limit m g (Rule r) → (is_whole braid limit m g ≡ true) × (r ≡ rule_of braid m g)
right_rule braid limit m g r (inr starved) = cc
right_rule braid limit m g r (inl is) = at (case_of braid limit m g)
  where
    at : IsCase braid limit m g → (is_whole braid limit m g ≡ true) × (r ≡ rule_of braid m g)
    at (whole w e) = (w, let same : Rule r ≡ Rule (rule_of braid m g) = is ∙ e in cc)
    at (over below many e) = let c : Rule r ≡ Over (rows is_killed braid m g) = is ∙ e in cc
    at (void below e) = let c : Rule r ≡ Void = is ∙ e in cc

pub right_over : (braid : BraidValue) (limit m : ℕ) (g : List ℕ) (n : ℕ) → IsRight braid limit m g (Over n) → (is_whole_below braid limit m g ≡ true) × (limit < rows is_killed braid m g) × (n ≡ rows is_killed braid m g)
right_over braid limit m g n (inr starved) = cc
right_over braid limit m g n (inl is) = at (case_of braid limit m g)
  where
    at : IsCase braid limit m g → (is_whole_below braid limit m g ≡ true) × (limit < rows is_killed braid m g) × (n ≡ rows is_killed braid m g)
    at (whole w e) = let c : Over n ≡ Rule (rule_of braid m g) = is ∙ e in cc
    at (over below many e) = (below, many, let same : Over n ≡ Over (rows is_killed braid m g) = is ∙ e in cc)
    at (void below e) = let c : Over n ≡ Void = is ∙ e in cc

pub right_void : (braid : BraidValue) (limit m : ℕ) (g : List ℕ) → IsRight braid limit m g Void → is_whole_below braid limit m g ≡ false
right_void braid limit m g (inr starved) = cc
right_void braid limit m g (inl is) = at (case_of braid limit m g)
  where
    at : IsCase braid limit m g → is_whole_below braid limit m g ≡ false
    at (whole w e) = let c : Void ≡ Rule (rule_of braid m g) = is ∙ e in cc
    at (over below many e) = let c : Void ≡ Over (rows is_killed braid m g) = is ∙ e in cc
    at (void below e) = below

-- a block that isn't whole has no rule: its value is the number of its candidates, or void
pub not_whole : (braid : BraidValue) (limit m : ℕ) (g : List ℕ) (n : ℕ) → IsRight braid limit m g (Over n) → is_whole braid limit m g ≡ false
not_whole braid limit m g n right = let (below, many, same) = right_over braid limit m g n right in too_many_rows braid limit m g many

pub void_is_not_whole : (braid : BraidValue) (limit m : ℕ) (g : List ℕ) → IsRight braid limit m g Void → is_whole braid limit m g ≡ false
void_is_not_whole braid limit m g right = at (is_whole braid limit m g) refl
  where
    at : (b : Bool) → is_whole braid limit m g ≡ b → is_whole braid limit m g ≡ false
    at false e = e
    at true e = let c : true ≡ false = sym (below_whole braid limit m g e) ∙ right_void braid limit m g right in cc
