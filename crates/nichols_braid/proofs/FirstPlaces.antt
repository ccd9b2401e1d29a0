-- Searches along letters and pairs of letters: the first answer, with none before it, and no answer.
use Rattle.std.proofs.Common.{◌≡◌, ℕ, ◌<◌, ◌⊎◌, refl, ◌∙◌, ap, Some, None, inl, inr}
use Rattle.std.specs.Prelude.{Option}
use Rattle.std.specs.Option.{option_or}
use Rattle.nichols_tensor.specs.Words.{up_to, IsLetterOf}
use Rattle.nichols_tensor.proofs.Letters.{in_up_to, from_up_to}
use Rattle.nichols_braid.specs.Faults.{first_answer, first_pair}
use Rattle.nichols_braid.proofs.FirstAnswers.{no_answer, all_none, first_letter}

pub none_of_both : {X : Type 0} (o p : Option X) → option_or o p ≡ None → (o ≡ None) × (p ≡ None)
none_of_both None p e = (refl, e)
none_of_both (Some x) p e = cc

-- ---- no answer

pub no_letter_answers : {X : Type 0} (n : ℕ) (f : ℕ → Option X) → first_answer f (up_to n) ≡ None → (a : ℕ) → IsLetterOf n a → f a ≡ None
no_letter_answers n f none a la = no_answer f (up_to n) none a (in_up_to n a la)

pub no_letter : {X : Type 0} (n : ℕ) (f : ℕ → Option X) → ((a : ℕ) → IsLetterOf n a → f a ≡ None) → first_answer f (up_to n) ≡ None
no_letter n f h = all_none f (up_to n) (λ a i. h a (from_up_to n a i))

pub no_pair_answers : {X : Type 0} (n : ℕ) (f : ℕ → ℕ → Option X) → first_pair n f ≡ None → (a b : ℕ) → IsLetterOf n a → IsLetterOf n b → f a b ≡ None
no_pair_answers n f none a b la lb = no_letter_answers n (f a) (no_letter_answers n (λ i. first_answer (f i) (up_to n)) none a la) b lb

pub no_pair : {X : Type 0} (n : ℕ) (f : ℕ → ℕ → Option X) → ((a b : ℕ) → IsLetterOf n a → IsLetterOf n b → f a b ≡ None) → first_pair n f ≡ None
no_pair n f h = no_letter n (λ i. first_answer (f i) (up_to n)) (λ a la. no_letter n (f a) (λ b lb. h a b la lb))

-- ---- the first answer

-- the answer at some two letters, where no two letters before them have any
pub record IsFirstPair {X : Type 0} (n : ℕ) (f : ℕ → ℕ → Option X) (answer : X) : Type 0 where
  pub i : ℕ
  pub j : ℕ
  pub first : IsLetterOf n i
  pub second : IsLetterOf n j
  pub answers : f i j ≡ Some answer
  pub none : (a b : ℕ) → IsLetterOf n a → IsLetterOf n b → (a < i) ⊎ ((a ≡ i) × (b < j)) → f a b ≡ None

pub pair_is : {X : Type 0} (n : ℕ) (f : ℕ → ℕ → Option X) (answer : X) → first_pair n f ≡ Some answer → IsFirstPair n f answer
pair_is n f answer e =
    let (i, li, at_i, none_i) = first_letter n (λ i. first_answer (f i) (up_to n)) answer e in
    let (j, lj, at_j, none_j) = first_letter n (f i) answer at_i in
    record {
      i = i;
      j = j;
      first = li;
      second = lj;
      answers = at_j;
      none = λ a b la lb earlier. elim earlier [
        | inl less ↦ no_letter_answers n (f a) (none_i a la less) b lb
        | inr same ↦ ap (λ c. f c b) same.0 ∙ none_j b lb same.1
      ];
    }
