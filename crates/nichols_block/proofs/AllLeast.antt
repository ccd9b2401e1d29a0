-- Blocks all of whose new words are least.
use Rattle.std.proofs.Common.{◌≡◌, ◌≤◌, ℕ, List, [], ◌∷◌, length, ap, arith, refl, sym, ◌∙◌}
use Rattle.nichols_braid.specs.Braid.{BraidValue}
use Rattle.nichols_echelon.specs.Rows.{RowsValue}
use Rattle.nichols_echelon.specs.declared.rows.Place.{Place}
use Rattle.nichols_echelon.specs.declared.rows.Place.TheVariants.{Independent, Depends}
use Rattle.nichols_rows.specs.Places.{independent_in}
use Rattle.nichols_value.specs.Block.{block_basis}
use Rattle.nichols_value.specs.Rule.{block_derivs}
use Rattle.nichols_block.specs.Places.{ArePlacesOf}
use Rattle.nichols_block.specs.Rows.{AreLeastDerivatives, AreNewDerivatives}
use Rattle.nichols_block.specs.Words.{block_new_words}

few_independent : {X : Type 0} (xs : List X) (ps : List Place) → length (independent_in xs ps) ≤ length xs
few_independent [] ps = omega arith
few_independent (x ∷ xs) [] = omega arith
few_independent (x ∷ xs) (Independent ∷ ps) = omega (arith, few_independent xs ps)
few_independent (x ∷ xs) (Depends cells ∷ ps) = omega (arith, few_independent xs ps)

all_independent : {X : Type 0} (xs : List X) (ps : List Place) → length (independent_in xs ps) ≡ length xs → independent_in xs ps ≡ xs
all_independent [] ps n = refl
all_independent (x ∷ xs) [] n = absurd (omega (arith, n))
all_independent (x ∷ xs) (Independent ∷ ps) n = ap (λ ys. x ∷ ys) (all_independent xs ps (omega (arith, n)))
all_independent (x ∷ xs) (Depends cells ∷ ps) n = absurd (omega (arith, few_independent xs ps, n))

-- the derivatives of the new words are those of the least ones
pub all_are_least : (braid : BraidValue) (m : ℕ) (g : List ℕ) (lists : List RowsValue) (places : List Place) → AreNewDerivatives braid m g lists → ArePlacesOf braid m g places → length (block_basis braid m g) ≡ length places →
    AreLeastDerivatives braid m g lists
unfolding block_derivs
all_are_least braid m g lists places h p all =
    let same : block_new_words braid m g ≡ block_basis braid m g =
    sym (all_independent (block_new_words braid m g) places (ap length p.least ∙ all ∙ p.count)) ∙ p.least in
    record { letters = h.letters; each = λ a letter. rw (sym same) (h.each a letter) }
