-- The values of the lower blocks of a block.
use Rattle.std.specs.Prelude.{◌≡◌, ◌≤◌, ◌-◌, ℕ, List, map}
use Rattle.std.specs.List.{AllByRecursion, Contains}
use Rattle.nichols_braid.specs.declared.TheConstants.{MOST_DEGREES}
use Rattle.nichols_braid.specs.Braid.{BraidValue}
use Rattle.nichols_braid.specs.Product.{product_before}
use Rattle.nichols_braid.specs.Products.{products}
use Rattle.nichols_value.specs.declared.key.BlockKey.{BlockKey}
use Rattle.nichols_value.specs.declared.shared.LowerValue.{LowerValue}
use Rattle.nichols_value.specs.declared.value.BlockValue.TheVariants.{Rule}
use Rattle.nichols_value.specs.Block.{lower_letters}
use Rattle.nichols_value.specs.Rule.{rule_of}
use Rattle.nichols_value.specs.Value.{IsRight}
use Rattle.nichols_value.specs.Worth.{worth}

-- the block of degree 1 to `MOST_DEGREES` has some word
pub record IsUpperBlock (braid : BraidValue) (key : BlockKey) : Type 0 where
  pub some : 1 ≤ key.degree
  pub most : key.degree ≤ MOST_DEGREES
  pub there : Contains (products braid key.degree) key.product

-- one value for each lower block, by rising letter, each right for its block
pub record AreLowerValues (braid : BraidValue) (limit : ℕ) (key : BlockKey) (lower : List LowerValue) : Type 0 where
  pub letters : map (λ l. l.letter) lower ≡ lower_letters braid key.degree key.product
  pub right : AllByRecursion (λ (l : LowerValue). IsRight braid limit (key.degree - 1) (product_before braid l.letter key.product) (worth l.value)) lower

-- one value for each lower block, by rising letter, each of them its rule
pub record AreLowerRules (braid : BraidValue) (key : BlockKey) (lower : List LowerValue) : Type 0 where
  pub letters : map (λ l. l.letter) lower ≡ lower_letters braid key.degree key.product
  pub rules : AllByRecursion (λ (l : LowerValue). worth l.value ≡ Rule (rule_of braid (key.degree - 1) (product_before braid l.letter key.product))) lower
