-- The form of a least word of two letters, for the tests.
use Rattle.std.proofs.Common.{◌≡◌, ℕ, true, List, length, sym, ap, ◌∙◌, subst}
use Rattle.std.specs.List.{Contains, list_any}
use Rattle.std.proofs.lemmas.Map.Views.{Contains-from_any}
use Rattle.nichols_tensor.specs.Combination.{Combination, single}
use Rattle.nichols_tensor.specs.Gathered.{are_one}
use Rattle.nichols_braid.specs.Braid.{BraidValue, IsBraid}
use Rattle.nichols_braid.specs.Kernel.{is_in_kernel, is_killed}
use Rattle.nichols_braid.specs.Least.{basis, normal_form}
use Rattle.nichols_braid.proofs.Killed.{is_killed_is_linear}
use Rattle.nichols_braid.proofs.LeastLaws.{least_words_are_normal}
use Rattle.nichols_lift.specs.Reading.{HasOneReading}
use Rattle.nichols_lift.proofs.Readings.{one_reading}
use Rattle.nichols_memo.specs.Forms.{form_of}
use Rattle.nichols_memo.proofs.Telling.{one_word}

pub own_form : (braid : BraidValue) → IsBraid braid → (ws : List (List ℕ)) (w : List ℕ) (f : Combination) → ws ≡ basis is_in_kernel braid 2 → list_any (λ v. are_one v w) ws ≡ true → length w ≡ 2 → f ≡ single w → f ≡ form_of braid w
own_form braid is ws w f basis_is found two same =
    let one : HasOneReading braid = one_reading braid is in
    let there : Contains ws w = Contains-from_any (λ x y h. sym (one_word y x h)) w ws found in
    let least : Contains (basis is_killed braid 2) w = subst (λ vs. Contains vs w) (basis_is ∙ one.alike.bases 2) there in
    same ∙ sym (least_words_are_normal is_killed braid is.field 2 (is_killed_is_linear braid is.field 2) w least) ∙ ap (λ n. normal_form is_killed braid n (single w)) (sym two)
