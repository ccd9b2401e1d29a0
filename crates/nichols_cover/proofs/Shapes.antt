-- Degrees and letters of what is made of least words.
use Rattle.std.proofs.Common.{◌≡◌, ℕ, ◌+◌, List, [], ◌∷◌, ◌++◌, length, sym, subst, arith, length-append}
use Rattle.nichols_tensor.specs.Combination.{Combination, AllAmong}
use Rattle.nichols_tensor.specs.Words.{IsWordOver, IsOver, HasDegree}
use Rattle.nichols_tensor.proofs.Over.{all_among, word_over-append}
use Rattle.nichols_tensor.proofs.Tests.{all_of_entries}
use Rattle.nichols_braid.specs.Braid.{BraidValue}
use Rattle.nichols_braid.specs.Kernel.{Vanishing}
use Rattle.nichols_braid.specs.Least.{basis}
use Rattle.nichols_braid.proofs.Reduction.{from_basis}
use Rattle.nichols_cover.specs.Ideal.{IsBetween, between}
use Rattle.nichols_cover.specs.Laws.{IsQuadratic}

pub least_degree : (vanishes : Vanishing) (braid : BraidValue) (m : ℕ) (f : Combination) → AllAmong f (basis vanishes braid m) → HasDegree m f
least_degree vanishes braid m f among = all_among (λ w. length w ≡ m) f (basis vanishes braid m) among (all_of_entries (λ w. length w ≡ m) (basis vanishes braid m) (λ w i. (from_basis vanishes braid m w i).0))

pub least_over : (vanishes : Vanishing) (braid : BraidValue) (m : ℕ) (f : Combination) → AllAmong f (basis vanishes braid m) → IsOver braid.letters f
least_over vanishes braid m f among =
    all_among (IsWordOver braid.letters) f (basis vanishes braid m) among (all_of_entries (IsWordOver braid.letters) (basis vanishes braid m) (λ w i. (from_basis vanishes braid m w i).1))

-- ---- u r v

pub between_over : (n : ℕ) (u : List ℕ) (r : Combination) (v : List ℕ) → IsWordOver n u → IsOver n r → IsWordOver n v → IsOver n (between u r v)
between_over n u [] v ou or ov = tt
between_over n u (t ∷ r) v ou or ov = (word_over-append n (u ++ t.word) v (word_over-append n u t.word ou or.0) ov, between_over n u r v ou or.1 ov)

pub between_degree : (m : ℕ) (u : List ℕ) (r : Combination) (v : List ℕ) → HasDegree 2 r → length u + 2 + length v ≡ m → HasDegree m (between u r v)
between_degree m u [] v h e = tt
between_degree m u (t ∷ r) v h e =
    let two : length t.word ≡ 2 = h.0 in
    let first : length (u ++ t.word ++ v) ≡ length (u ++ t.word) + length v = length-append (u ++ t.word) v in
    let second : length (u ++ t.word) ≡ length u + length t.word = length-append u t.word in
    ((omega arith), between_degree m u r v h.1 e)

-- the products of degree m over the letters
pub between_shape : (n : ℕ) (R : Combination → Type 0) (m : ℕ) (g : Combination) → ((r : Combination) → R r → IsQuadratic n r) → IsBetween n R m g → HasDegree m g × IsOver n g
between_shape n R m g shapes b =
    let (size, over) = shapes b.middle b.of in
    subst (λ (f : Combination). HasDegree m f × IsOver n f) (sym b.is) (between_degree m b.front b.middle b.back size b.size, between_over n b.front b.middle b.back b.front_over over b.back_over)
