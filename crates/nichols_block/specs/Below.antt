-- What is known of the lower blocks of a block.
use Rattle.std.specs.Prelude.{◌≡◌, ◌≤◌, ◌-◌, ℕ, Bool, ◌&&◌, List, length, nat_eq, slice_index}
use Rattle.nichols_braid.specs.declared.TheConstants.{MOST_ROWS}
use Rattle.nichols_braid.specs.Braid.{BraidValue, IsLetter}
use Rattle.nichols_braid.specs.Product.{product_before}
use Rattle.nichols_braid.specs.Products.{leading}
use Rattle.nichols_value.specs.declared.key.BlockKey.{BlockKey}
use Rattle.nichols_value.specs.declared.value.BlockValue.{BlockValue}
use Rattle.nichols_value.specs.declared.value.BlockValue.TheVariants.{Rule}
use Rattle.nichols_value.specs.Block.{has_block, left_lower_basis, lower_basis}

-- whether a letter is one of those of the lower blocks of a block of product g in the degree after m: a leading letter for which
-- the product before it is one of degree m
abbrev pub is_lower_letter : BraidValue → ℕ → List ℕ → ℕ → Bool
is_lower_letter braid m g a = nat_eq (leading braid a) a && has_block braid m (product_before braid a g)

-- the lower blocks have no more least words than a block may have candidates
abbrev pub AreFewBelow : BraidValue → BlockKey → Type 0
AreFewBelow braid key = (b : ℕ) → IsLetter braid b → length (lower_basis braid key.degree key.product b) ≤ MOST_ROWS

-- the value is no rule
abbrev pub IsNoRule : BlockValue → Type 0
IsNoRule (Rule r) = ⊥
IsNoRule _ = Unit {0}

-- what a letter c that is sent to a letter has
pub record IsSent (braid : BraidValue) (m : ℕ) (g : List ℕ) (a c : ℕ) : Type 0 where
  pub letter : IsLetter braid c
  pub sent : slice_index g (c - 1) ≡ a
  pub words : left_lower_basis braid m g a ≡ lower_basis braid m g c

-- by letter, from letter 1 on, the letter that is sent to it
pub record AreSent (braid : BraidValue) (m : ℕ) (g : List ℕ) (sent : List ℕ) : Type 0 where
  pub letters : length sent ≡ braid.letters
  pub each : (a : ℕ) → IsLetter braid a → IsSent braid m g a (slice_index sent (a - 1))
