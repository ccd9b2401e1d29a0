-- The least words and the relations, by the places of the candidates' images.
use Rattle.std.proofs.Common.{◌≡◌, ℕ, ◌<◌, List, length, sym, subst}
use Rattle.nichols_tensor.specs.Positions.{word_at}
use Rattle.nichols_braid.specs.Braid.{BraidValue, IsBraid}
use Rattle.nichols_braid.specs.Kernel.{is_in_kernel}
use Rattle.nichols_braid.specs.Least.{basis, candidates, relations}
use Rattle.nichols_braid.proofs.Spanning.{IsSpanning, candidates_span}
use Rattle.nichols_rows.proofs.Rows.{AreFunctionals}
use Rattle.nichols_echelon.specs.Cells.{Cell, entry}
use Rattle.nichols_echelon.specs.Combination.{row_at}
use Rattle.nichols_echelon.specs.Split.{IsSplit}
use Rattle.nichols_echelon.specs.declared.rows.Place.{Place}
use Rattle.nichols_lift.proofs.Readings.{is_in_kernel_is_ideal}
use Rattle.nichols_rows.specs.Places.{independent_in, dependent_in}
use Rattle.nichols_rows.proofs.Split.{basis_is_read, relations_are_read}
use Rattle.nichols_plain.specs.Columns.{image_entry}
use Rattle.nichols_plain.proofs.Functionals.{image_entries_tell}

-- the places of the images of all candidates of degree m
pub record ArePlacesOf (braid : BraidValue) (m : ℕ) (ws : List (List ℕ)) (rows : List (List Cell)) (places : List Place) : Type 0 where
  pub braid_is : IsBraid braid
  pub words : ws ≡ candidates is_in_kernel braid m
  pub count : length rows ≡ length ws
  pub entries : (i : ℕ) → i < length ws → (c : ℕ) → entry braid.field (row_at rows i) c ≡ image_entry braid c (word_at ws i)
  pub split : IsSplit braid.field rows places

candidates_here_span : (braid : BraidValue) (m : ℕ) (ws : List (List ℕ)) (rows : List (List Cell)) (places : List Place) → ArePlacesOf braid m ws rows places → IsSpanning is_in_kernel braid m ws
candidates_here_span braid m ws rows places s = subst (IsSpanning is_in_kernel braid m) (sym s.words) (candidates_span is_in_kernel braid s.braid_is.field (is_in_kernel_is_ideal braid s.braid_is) m)

images_tell : (braid : BraidValue) (m : ℕ) (ws : List (List ℕ)) (rows : List (List Cell)) (places : List Place) → ArePlacesOf braid m ws rows places → AreFunctionals braid.field (is_in_kernel braid m) ws (image_entry braid)
images_tell braid m ws rows places s =
    let spans : IsSpanning is_in_kernel braid m ws = candidates_here_span braid m ws rows places s in
    image_entries_tell braid s.braid_is m ws spans.degree spans.over

pub basis_from_places : (braid : BraidValue) (m : ℕ) (ws : List (List ℕ)) (rows : List (List Cell)) (places : List Place) → ArePlacesOf braid m ws rows places → independent_in ws places ≡ basis is_in_kernel braid m
basis_from_places braid m ws rows places s =
    basis_is_read is_in_kernel braid s.braid_is.field m ((is_in_kernel_is_ideal braid s.braid_is).linear m) ws (candidates_here_span braid m ws rows places s) (image_entry braid) (images_tell braid m ws rows places s) rows s.count (λ i c less. s.entries i less c) places s.split

pub relations_from_places : (braid : BraidValue) (m : ℕ) (ws : List (List ℕ)) (rows : List (List Cell)) (places : List Place) → ArePlacesOf braid m ws rows places → dependent_in ws ws places ≡ relations is_in_kernel braid m
relations_from_places braid m ws rows places s =
    relations_are_read is_in_kernel braid s.braid_is.field m ((is_in_kernel_is_ideal braid s.braid_is).linear m) ws s.words (candidates_here_span braid m ws rows places s) (image_entry braid) (images_tell braid m ws rows places s) rows s.count (λ i c less. s.entries i less c) places s.split
