-- The braid of the transpositions of k points (Fomin and Kirillov, "Quadratic algebras, Dunkl elements, and Schubert calculus").
use Rattle.std.specs.Prelude.{ℕ, ◌*◌, List, length, map, replicate, pos}
use Rattle.std.specs.List.{flat_map}
use Rattle.nichols_field.specs.Field.{prime_field}
use Rattle.nichols_braid.specs.Braid.{BraidValue}
use Rattle.nichols_braid.specs.Transpositions.{Transposition, conjugate, transpositions, number_in}

-- letter i is the i-th transposition, `i ▷ j` is the conjugate of transposition j by transposition i, and over 101 elements
-- every scalar is 100, which is -1
unfoldable pub points_braid : ℕ → BraidValue
points_braid k =
    let ts : List Transposition = transpositions k in
    record {
      field = prime_field (pos 101);
      letters = length ts;
      rack = flat_map (λ s. map (λ t. number_in ts (conjugate s t)) ts) ts;
      cocycle = replicate (length ts * length ts) 100;
    }
