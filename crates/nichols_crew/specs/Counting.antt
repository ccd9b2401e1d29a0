-- How many blocks degrees have, and how many a gate has counted.
use Rattle.std.specs.Prelude.{ℕ, zero, suc, ◌+◌, ◌^◌, ◌≤◌, ◌⊎◌, length}
use Rattle.nichols_braid.specs.Braid.{BraidValue}
use Rattle.nichols_braid.specs.Products.{products}

-- the number of blocks of n degrees from m on, one for each product
abbrev pub block_count : BraidValue → ℕ → ℕ → ℕ
block_count braid m zero = 0
block_count braid m (suc n) = block_count braid m n + length (products braid (m + n))

-- a count rose by at least so many blocks, or stands at the last value of `u64`
abbrev pub HasCounted : ℕ → ℕ → ℕ → Type 0
HasCounted blocks old new = (old + blocks ≤ new) ⊎ (2 ^ 64 ≤ new + 1)
