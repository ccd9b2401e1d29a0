-- The first expression that is too long.
use Rattle.std.proofs.Common.{◌≡◌, ℕ, suc, ◌+◌, ◌<◌, ◌≤◌, Bool, true, false, cond, List, [], ◌∷◌, length, take, drop, get_or, refl, sym, ◌∙◌, ap, subst, arith, Some, None, nat_lt}
use Rattle.std.specs.Prelude.{◌||◌}
use Rattle.std.specs.List.{AllByRecursion}
use Rattle.std.proofs.Math.ListN.{drop_of_length-le}
use Rattle.std.proofs.lemmas.Bool.Decides.{nat_tests}
use Rattle.std.proofs.lemmas.List.{drop_more, take_more}
use Rattle.nichols_tensor.specs.Combination.{Combination}
use Rattle.nichols_tensor.proofs.Over.{all-append}
use Rattle.nichols_lift.specs.Lengths.{AllAtMost}
use Rattle.nichols_lift.specs.declared.TheConstants.{PLACE_LIMIT}
use Rattle.nichols_top.specs.Symmetrize.{is_long, first_long}

-- an expression that isn't too long
pub short_words : (f : Combination) → is_long f ≡ false → AllAtMost PLACE_LIMIT f
short_words [] e = tt
short_words (t ∷ f) e = at (nat_lt PLACE_LIMIT (length t.word)) refl (short_words f) e
  where
    at : (b : Bool) → nat_lt PLACE_LIMIT (length t.word) ≡ b → (is_long f ≡ false → AllAtMost PLACE_LIMIT f) → (b || is_long f) ≡ false → AllAtMost PLACE_LIMIT (t ∷ f)
    at true long further e = cc
    at false short further e = (let most : length t.word ≤ PLACE_LIMIT = grind (arith, nat_tests, short) in most, further e)

long_step : (fs : List Combination) (i n : ℕ) (f : Combination) → i < length fs → f ≡ get_or fs i f → first_long n (drop i fs) ≡ cond (is_long f) (Some n) (first_long (suc n) (drop (i + 1) fs))
unfolding first_long
long_step fs i n f less item = ap (first_long n) (drop_more fs i f less) ∙ ap (λ g. cond (is_long g) (Some n) (first_long (suc n) (drop (i + 1) fs))) (sym item)

pub long_here : (fs : List Combination) (i n : ℕ) (f : Combination) → i < length fs → f ≡ get_or fs i f → is_long f ≡ true → first_long n (drop i fs) ≡ Some n
long_here fs i n f less item long = long_step fs i n f less item ∙ ap (λ b. cond b (Some n) (first_long (suc n) (drop (i + 1) fs))) long

pub long_later : (fs : List Combination) (i n : ℕ) (f : Combination) → i < length fs → f ≡ get_or fs i f → is_long f ≡ false → first_long n (drop i fs) ≡ first_long (n + 1) (drop (i + 1) fs)
long_later fs i n f less item short =
    let next : suc n ≡ n + 1 = omega arith in
    long_step fs i n f less item ∙ ap (λ b. cond b (Some n) (first_long (suc n) (drop (i + 1) fs))) short ∙ ap (λ m. first_long m (drop (i + 1) fs)) next

pub none_long : (fs : List Combination) (i n : ℕ) → length fs ≤ i → first_long n (drop i fs) ≡ None
unfolding first_long
none_long fs i n most = ap (first_long n) (drop_of_length-le fs most)

pub short_more : (fs : List Combination) (i : ℕ) (f : Combination) → i < length fs → f ≡ get_or fs i f → is_long f ≡ false → AllByRecursion (AllAtMost PLACE_LIMIT) (take i fs) → AllByRecursion (AllAtMost PLACE_LIMIT) (take (i + 1) fs)
short_more fs i f less item short before =
    subst (AllByRecursion (AllAtMost PLACE_LIMIT)) (sym (take_more fs i f less))
    (all-append (AllAtMost PLACE_LIMIT) (take i fs) (get_or fs i f ∷ []) before (subst (AllAtMost PLACE_LIMIT) item (short_words f short), tt))
