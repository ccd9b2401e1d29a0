-- What the places of the rows of a block's new words say.
use Rattle.std.specs.Prelude.{◌≡◌, ℕ, not, List, map, filter, length}
use Rattle.std.specs.List.{AllByRecursion}
use Rattle.nichols_tensor.specs.Combination.{single}
use Rattle.nichols_tensor.specs.Relation.{PlainRelation}
use Rattle.nichols_braid.specs.Braid.{BraidValue}
use Rattle.nichols_braid.specs.Kernel.{is_killed}
use Rattle.nichols_braid.specs.Least.{is_least, normal_form}
use Rattle.nichols_echelon.specs.declared.rows.Place.{Place}
use Rattle.nichols_rows.specs.Places.{independent_in, dependent_in, IsInside}
use Rattle.nichols_value.specs.Block.{block_basis}
use Rattle.nichols_block.specs.Words.{block_new_words}

-- the new words of a block that aren't least, with their normal forms
unfoldable pub new_relations : BraidValue → ℕ → List ℕ → List PlainRelation
new_relations braid m g =
    map (λ w. record { candidate = w; form = normal_form is_killed braid m (single w) })
    (filter (λ w. not (is_least is_killed braid w)) (block_new_words braid m g))

-- the new words with independent places are the least words of the block, and the others have the normal forms at their places
pub record ArePlacesOf (braid : BraidValue) (m : ℕ) (g : List ℕ) (places : List Place) : Type 0 where
  pub count : length places ≡ length (block_new_words braid m g)
  pub inside : AllByRecursion (IsInside (length (block_new_words braid m g))) places
  pub least : independent_in (block_new_words braid m g) places ≡ block_basis braid m g
  pub others : dependent_in (block_new_words braid m g) (block_new_words braid m g) places ≡ new_relations braid m g
