-- The finished degrees of an algebra under a degree limit and a rows limit, and its end.
use Rattle.std.specs.Prelude.{ℕ, suc, List, [], ◌∷◌, map, length, Option, None, Some, if◌then◌else◌, nat_eq, nat_lt}
use Rattle.std.specs.List.{range_with_len}
use Rattle.nichols_braid.specs.declared.TheConstants.{MOST_PRODUCTS}
use Rattle.nichols_braid.specs.Braid.{BraidValue}
use Rattle.nichols_braid.specs.Kernel.{is_in_kernel}
use Rattle.nichols_braid.specs.Products.{products, rows}
use Rattle.nichols_braid.specs.End.{dimension, degrees_finished, stop_of}
use Rattle.nichols_graded.specs.declared.ends.End.{End}
use Rattle.nichols_graded.specs.declared.ends.End.TheVariants.{Closed, Stopped}
use Rattle.nichols_graded.specs.declared.ends.Stop.{Stop}
use Rattle.nichols_graded.specs.declared.ends.Stop.TheVariants.{DegreeLimit, Wide, Rows}

-- the first product of degree m that has more rows than the limit, where these are the rows of its products from a number on
unfoldable pub rows_stop : ℕ → ℕ → ℕ → List ℕ → Option Stop
rows_stop limit m number [] = None
rows_stop limit m number (count ∷ counts) = if nat_lt limit count then Some (Rows m number count) else rows_stop limit m (suc number) counts

-- the rows of each product of degree m
unfoldable pub rows_of_products : BraidValue → ℕ → List ℕ
rows_of_products braid m = map (rows is_in_kernel braid m) (products braid m)

-- why degree m isn't made, where it isn't: it is beyond the degree limit, or has too many products, or a product of too many
-- rows, the numbers of products counting from 1
unfoldable pub stops_at : BraidValue → ℕ → ℕ → ℕ → Option Stop
stops_at braid limit rows_limit m =
    if nat_lt limit m then Some DegreeLimit
    else (if nat_lt MOST_PRODUCTS (length (products braid m)) then Some (Wide m) else rows_stop rows_limit m 1 (rows_of_products braid m))

-- the degrees that are finished under a degree limit and a rows limit
abbrev pub finished_degrees : BraidValue → ℕ → ℕ → List ℕ
finished_degrees braid limit rows_limit = degrees_finished is_in_kernel braid (stops_at braid limit rows_limit)

-- the end, by what stops the algebra, if anything does
abbrev pub end_by : Option Stop → End
end_by None = Closed
end_by (Some stop) = Stopped stop

-- the end of the algebra
unfoldable pub algebra_end : BraidValue → ℕ → ℕ → End
algebra_end braid limit rows_limit = end_by (stop_of is_in_kernel braid (stops_at braid limit rows_limit))

-- the end, where degree m is the last finished one
unfoldable pub end_reached : BraidValue → ℕ → ℕ → ℕ → Option End
end_reached braid limit rows_limit m = if nat_eq (length (finished_degrees braid limit rows_limit)) (suc m) then Some (algebra_end braid limit rows_limit) else None

-- the dimensions of degrees 0 to m
abbrev pub dimensions_up_to : BraidValue → ℕ → List ℕ
dimensions_up_to braid m = map (dimension is_in_kernel braid) (range_with_len 0 (suc m))
