-- The normal form of a word has no word behind it.
use Rattle.std.proofs.Common.{◌≡◌, ◌≢◌, ℕ, List, ◌∷◌, [], length, refl, sym, ◌∙◌, ap, inl, inr}
use Rattle.std.specs.List.{AllByRecursion, Contains}
use Rattle.std.specs.declared.cmp.Ordering.TheVariants.{Less, Equal, Greater}
use Rattle.nichols_field.specs.Field.{IsField}
use Rattle.nichols_tensor.specs.Combination.{Combination, AllAmong, single, words_of}
use Rattle.nichols_tensor.specs.Words.{IsWordOver}
use Rattle.nichols_tensor.specs.WordOrder.{word_cmp}
use Rattle.nichols_tensor.proofs.AllWords.{in_words}
use Rattle.nichols_tensor.proofs.Enumeration.{among_from_words}
use Rattle.nichols_tensor.proofs.Order.{word_cmp_itself}
use Rattle.nichols_tensor.proofs.Over.{all-weaker, all_at, all_of_words}
use Rattle.nichols_braid.specs.Braid.{BraidValue}
use Rattle.nichols_braid.specs.Kernel.{Vanishing}
use Rattle.nichols_braid.specs.Least.{basis, normal_form}
use Rattle.nichols_braid.specs.LeastLaws.{IsNormalForm, NormalFormsLookBack}
use Rattle.nichols_braid.specs.LinearTest.{IsLinearTest}
use Rattle.nichols_braid.proofs.Congruences.{IsReduced, congruent_sym, congruent_trans}
use Rattle.nichols_braid.proofs.Forms.{among_same}
use Rattle.nichols_braid.proofs.Independence.{same_on_basis}
use Rattle.nichols_braid.proofs.NormalForms.{form_is_normal}
use Rattle.nichols_braid.proofs.Reduction.{IsUpTo, from_basis, reduced_word, reduced_before_from}

-- each word of a normal form of f is a least word with P, where f is congruent to a combination of such words
words_of_form : (vanishes : Vanishing) (braid : BraidValue) → IsField braid.field → (m : ℕ) → IsLinearTest braid.field (vanishes braid m) → (P : List ℕ → Type 0) (f n : Combination) → IsNormalForm vanishes braid m f n →
    IsReduced braid.field (vanishes braid m) (λ v. Contains (basis vanishes braid m) v × P v) f → AllByRecursion (λ t. Contains (basis vanishes braid m) t.word × P t.word) n
unfolding AllAmong
words_of_form vanishes braid is m l P f n normal (g, all, c) =
    each n
    (among_same braid.field is n g (words_of g) normal.elements normal.ordered
    (same_on_basis vanishes braid is m l n g normal.least (least g all) (congruent_trans braid.field is (vanishes braid m) l n f g (congruent_sym braid.field is (vanishes braid m) l f n normal.congruent) c))
    (among_from_words g (words_of g) refl))
  where
    Q : List ℕ → Type 0
    Q v = Contains (basis vanishes braid m) v × P v

    least : (h : Combination) → AllByRecursion (λ t. Q t.word) h → AllAmong h (basis vanishes braid m)
    least [] a = tt
    least (t ∷ h) a = (a.0.0, least h a.1)

    each : (h : Combination) → AllAmong h (words_of g) → AllByRecursion (λ t. Q t.word) h
    each [] a = tt
    each (t ∷ h) a = (all_at Q (words_of g) t.word (all_of_words Q g all) a.0, each h a.1)

-- the least words with P of a combination
all_with : (ws : List (List ℕ)) (P Q : List ℕ → Type 0) → ((v : List ℕ) → Contains ws v → P v → Q v) → (h : Combination) → AllByRecursion (λ t. Contains ws t.word × P t.word) h → AllByRecursion (λ t. Q t.word) h
all_with ws P Q gives h a = all-weaker (λ t. Contains ws t.word × P t.word) (λ t. Q t.word) (λ t p. gives t.word p.0 p.1) h a

-- a word up to w isn't behind w
not_behind : (v w : List ℕ) → IsUpTo w v → word_cmp v w ≢ Greater
not_behind v w (inr less) greater = cc
not_behind v w (inl same) greater = let c : Equal ≡ Greater = sym (word_cmp_itself w) ∙ ap (λ u. word_cmp u w) (sym same) ∙ greater in cc

pub normal_forms_look_back : NormalFormsLookBack
normal_forms_look_back vanishes braid is w over l = (
  all_with (basis vanishes braid m) (IsUpTo w) (λ v. word_cmp v w ≢ Greater) (λ v i up. not_behind v w up) form (words_of_form vanishes braid is m l (IsUpTo w) (single w) form normal (reduced_word vanishes braid is m l w (in_words braid.letters m w refl over))),
  λ least.
      let all : AllByRecursion (λ t. Contains (basis vanishes braid m) t.word × (word_cmp t.word w ≡ Less)) form =
      words_of_form vanishes braid is m l (λ v. word_cmp v w ≡ Less) (single w) form normal
      (reduced_before_from vanishes braid is m l (λ v. Contains (basis vanishes braid m) v) w refl least (λ v i less. reduced_word vanishes braid is m l v i)) in
      record {
        over = all_with (basis vanishes braid m) (λ v. word_cmp v w ≡ Less) (IsWordOver braid.letters) (λ v i less. (from_basis vanishes braid m v i).1) form all;
        degree = all_with (basis vanishes braid m) (λ v. word_cmp v w ≡ Less) (λ v. length v ≡ m) (λ v i less. (from_basis vanishes braid m v i).0) form all;
        earlier = all_with (basis vanishes braid m) (λ v. word_cmp v w ≡ Less) (λ v. word_cmp v w ≡ Less) (λ v i less. less) form all;
      },
)
  where
    m : ℕ
    m = length w

    form : Combination
    form = normal_form vanishes braid m (single w)

    normal : IsNormalForm vanishes braid m (single w) form
    normal = form_is_normal vanishes braid is m l (single w) (refl, tt) (over, tt)
