-- The normal forms of a block, as rows.
use Rattle.std.specs.Prelude.{◌≡◌, ℕ, List, map}
use Rattle.std.specs.List.{AllByRecursion}
use Rattle.nichols_tensor.specs.Words.{up_to}
use Rattle.nichols_braid.specs.Braid.{BraidValue}
use Rattle.nichols_echelon.specs.Rows.{RowsValue}
use Rattle.nichols_value.specs.declared.spot.Spot.{Spot}
use Rattle.nichols_value.specs.Block.{block_relations, lower_basis}
use Rattle.nichols_value.specs.Rule.{right_forms}
use Rattle.nichols_value.specs.Kept.{IsSpot, relation_at}
use Rattle.nichols_block.specs.Rows.{AreLeftRows, AreRightRows}

-- the rows of the normal forms of `u b` and of `a v`, and the spots of the relations
pub record AreFormsOf (braid : BraidValue) (m : ℕ) (g : List ℕ) (rights lefts : List RowsValue) (spots : List Spot) : Type 0 where
  pub right : AreRightRows braid m g rights
  pub left : AreLeftRows braid m g lefts
  pub inside : AllByRecursion (IsSpot (map (lower_basis braid m g) (up_to braid.letters))) spots
  pub table : map (relation_at (map (lower_basis braid m g) (up_to braid.letters)) (map (right_forms braid m g) (up_to braid.letters))) spots ≡ block_relations braid m g
