-- The values of expressions: what was read, and then the rest.
use Rattle.std.proofs.Common.{◌≡◌, ℕ, suc, ◌+◌, ◌<◌, ◌≤◌, List, [], ◌∷◌, ◌++◌, length, drop, get_or, map, Option, None, Some, Result, Ok, Err, refl, ap, ◌∙◌, sym, arith}
use Rattle.std.specs.Prelude.{IfSome}
use Rattle.std.proofs.Math.ListN.{drop_of_length-le}
use Rattle.std.proofs.lemmas.List.{append_assoc, append-nil, at_drop_more, length-append}
use Rattle.nichols_tensor.specs.Combination.{Combination}
use Rattle.nichols_braid.specs.Braid.{BraidValue}
use Rattle.nichols_input.specs.Document.{values_from, value_of, put_value}
use Rattle.nichols_input.specs.Refusal.{Refusal}

-- values in front of others, or the fault of these
abbrev pub values_after : List Combination → Result (List Combination) Refusal → Result (List Combination) Refusal
values_after fs (Ok gs) = Ok (fs ++ gs)
values_after fs (Err refusal) = Err refusal

one_in_front : (fs : List Combination) (f : Combination) (r : Result (List Combination) Refusal) → values_after fs (put_value (Ok f) r) ≡ values_after (fs ++ f ∷ []) r
one_in_front fs f (Ok gs) = ap (λ hs. Ok hs) (sym (append_assoc fs (f ∷ []) gs))
one_in_front fs f (Err refusal) = refl

-- a text that is read
pub read_one : (braid : BraidValue) (order : List ℕ) (k : ℕ) (text : List ℕ) (texts : List (List ℕ)) (fs : List Combination) (f : Combination)
    → value_of braid order k text ≡ Ok f → values_after fs (values_from braid order k (text ∷ texts)) ≡ values_after (fs ++ f ∷ []) (values_from braid order (suc k) texts)
unfolding values_from
read_one braid order k text texts fs f is = ap (λ v. values_after fs (put_value v (values_from braid order (suc k) texts))) is ∙ one_in_front fs f (values_from braid order (suc k) texts)

-- a text that is refused
pub refused_one : (braid : BraidValue) (order : List ℕ) (k : ℕ) (text : List ℕ) (texts : List (List ℕ)) (fs : List Combination) (refusal : Refusal)
    → value_of braid order k text ≡ Err refusal → values_after fs (values_from braid order k (text ∷ texts)) ≡ Err refusal
unfolding values_from
refused_one braid order k text texts fs refusal is = ap (λ v. values_after fs (put_value v (values_from braid order (suc k) texts))) is

-- what was read, and then the texts from place i on
abbrev pub read_before : {X : Type 0} → (X → List ℕ) → BraidValue → List ℕ → List X → List Combination → ℕ → Result (List Combination) Refusal
read_before now braid order xs fs i = values_after fs (values_from braid order (length fs + 1) (map now (drop i xs)))

one_longer : (fs : List Combination) (f : Combination) → suc (length fs + 1) ≡ length (fs ++ f ∷ []) + 1
one_longer fs f = let e : length (fs ++ f ∷ []) ≡ length fs + 1 = length-append fs (f ∷ []) in grind (arith, e)

-- the text at place i is read
pub turn_read : {X : Type 0} (now : X → List ℕ) (braid : BraidValue) (order : List ℕ) (xs : List X) (whole : Result (List Combination) Refusal) (fs : List Combination) (i : ℕ) (d : X) (k : ℕ) (f : Combination)
    → k ≡ length fs → i < length xs → value_of braid order (k + 1) (now (get_or xs i d)) ≡ Ok f → read_before now braid order xs fs i ≡ whole → read_before now braid order xs (fs ++ f ∷ []) (i + 1) ≡ whole
turn_read now braid order xs whole fs i d k f counted inside is before =
    ap (λ k. values_after (fs ++ f ∷ []) (values_from braid order k (map now (drop (i + 1) xs)))) (sym (one_longer fs f))
    ∙ sym (read_one braid order (length fs + 1) (now (get_or xs i d)) (map now (drop (i + 1) xs)) fs f (ap (λ n. value_of braid order (n + 1) (now (get_or xs i d))) (sym counted) ∙ is))
    ∙ sym (at_drop_more (λ ys. values_after fs (values_from braid order (length fs + 1) (map now ys))) xs i d inside)
    ∙ before

-- the text at place i is refused, where there is a refusal
pub turn_refused : {X : Type 0} (now : X → List ℕ) (braid : BraidValue) (order : List ℕ) (xs : List X) (whole : Result (List Combination) Refusal) (fs : List Combination) (i : ℕ) (d : X) (k : ℕ) (o : Option Refusal)
    → k ≡ length fs → i < length xs → IfSome o (λ refusal. value_of braid order (k + 1) (now (get_or xs i d)) ≡ Err refusal) → read_before now braid order xs fs i ≡ whole → IfSome o (λ refusal. whole ≡ Err refusal)
turn_refused now braid order xs whole fs i d k None counted inside is before = tt
turn_refused now braid order xs whole fs i d k (Some refusal) counted inside is before =
    sym before
    ∙ at_drop_more (λ ys. values_after fs (values_from braid order (length fs + 1) (map now ys))) xs i d inside
    ∙ refused_one braid order (length fs + 1) (now (get_or xs i d)) (map now (drop (i + 1) xs)) fs refusal (ap (λ n. value_of braid order (n + 1) (now (get_or xs i d))) (sym counted) ∙ is)

-- no text is left
pub turns_end : {X : Type 0} (now : X → List ℕ) (braid : BraidValue) (order : List ℕ) (xs : List X) (whole : Result (List Combination) Refusal) (fs : List Combination) (i : ℕ)
    → length xs ≤ i → read_before now braid order xs fs i ≡ whole → whole ≡ Ok fs
unfolding values_from
turns_end now braid order xs whole fs i past before =
    sym before
    ∙ ap (λ ys. values_after fs (values_from braid order (length fs + 1) (map now ys))) (drop_of_length-le xs past)
    ∙ ap (λ hs. Ok hs) (append-nil fs)
