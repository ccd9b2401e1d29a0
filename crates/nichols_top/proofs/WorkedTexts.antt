-- A worked row: the line of an expression that is too long names the limit.
use Rattle.std.proofs.Common.{◌≡◌, ℕ, List, ◌++◌, codes, decimal, sym, ◌∙◌, ap, append_assoc}
use Rattle.std.specs.Fmt.{digits}
use Rattle.nichols_lift.specs.declared.TheConstants.{PLACE_LIMIT}
use Rattle.nichols_text.specs.Refusals.{long_expression_text}

the_limit_is_named : (k : ℕ) → long_expression_text k ≡ codes "refused: expression " ++ decimal k ++ codes " longer than " ++ decimal PLACE_LIMIT ++ codes " letters\n"
unfolding long_expression_text digits
the_limit_is_named k =
    let front : List ℕ = codes "refused: expression " ++ decimal k in
    let longer : List ℕ = codes " longer than " in
    let letters : List ℕ = codes " letters\n" in
    sym (ap (λ t. t ++ letters) (append_assoc front longer (decimal PLACE_LIMIT)) ∙ append_assoc front (longer ++ decimal PLACE_LIMIT) letters)
