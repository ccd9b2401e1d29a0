-- The lines of a quadratic cover.
use Rattle.std.specs.Prelude.{ℕ, ◌-◌, List, [], ◌++◌, codes, decimal, length, Option, None, Some}
use Rattle.std.specs.List.{flat_map}
use Rattle.nichols_cover.specs.Cover.{CoverValue, StopValue}

-- `cover`, with each dimension after a space
unfoldable pub dimensions_line : List ℕ → List ℕ
dimensions_line dimensions = codes "cover" ++ flat_map (λ d. codes " " ++ decimal d) dimensions ++ codes "\n"

-- `cover differs first at <m>`, or `cover equal through <e>`, with e the last degree of the line before
unfoldable pub comparison_line : Option ℕ → ℕ → List ℕ
comparison_line None last = codes "cover equal through " ++ decimal last ++ codes "\n"
comparison_line (Some m) last = codes "cover differs first at " ++ decimal m ++ codes "\n"

-- `cover stopped degree <m> count <count>`, where the cover stopped
unfoldable pub stop_line : Option StopValue → List ℕ
stop_line None = []
stop_line (Some s) = codes "cover stopped degree " ++ decimal s.degree ++ codes " count " ++ decimal s.count ++ codes "\n"

-- the lines of a cover, whose dimension differs from that of the algebra first in this degree, if in any
unfoldable pub cover_lines : CoverValue → Option ℕ → List ℕ
cover_lines cover difference = dimensions_line cover.dimensions ++ comparison_line difference (length cover.dimensions - 1) ++ stop_line cover.stop
