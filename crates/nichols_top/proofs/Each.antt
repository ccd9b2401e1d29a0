-- Pieces that are put one after the other, some for each item.
use Rattle.std.proofs.Common.{◌≡◌, ℕ, ◌+◌, ◌<◌, ◌≤◌, List, ◌++◌, drop, flat_map, get_or, length, refl, sym, ◌∙◌, ap, subst}
use Rattle.std.proofs.Math.ListN.{drop_of_length-le}
use Rattle.std.proofs.lemmas.List.{drop_more}
use Rattle.nichols_top.specs.Report.{Piece}
use Rattle.nichols_top.specs.Written.{Written, Takes, BreaksIn}
use Rattle.nichols_top.specs.declared.writer.Break.{Break}
use Rattle.nichols_top.proofs.Taking.{HasTaken, taken_nothing, taken_more, taken_whole, taken_broken}

-- the pieces of the items from place i on
abbrev pub pieces_from : {X : Type 0} → (X → List Piece) → List X → ℕ → List Piece
pieces_from f xs i = flat_map f (drop i xs)

pieces_next : {X : Type 0} (f : X → List Piece) (xs : List X) (i : ℕ) (x : X) → i < length xs → x ≡ get_or xs i x → pieces_from f xs i ≡ f x ++ pieces_from f xs (i + 1)
pieces_next f xs i x less at = ap (flat_map f) (drop_more xs i x less) ∙ ap (λ y. f y ++ pieces_from f xs (i + 1)) (sym at)

pub each_start : {X : Type 0} (f : X → List Piece) (xs : List X) {a : Written} → HasTaken (flat_map f xs) (pieces_from f xs 0) a a
each_start f xs = taken_nothing refl

pub each_put : {X : Type 0} (f : X → List Piece) (xs : List X) (i : ℕ) (x : X) {a b c : Written} → i < length xs → x ≡ get_or xs i x → HasTaken (flat_map f xs) (pieces_from f xs i) a b → Takes (f x) b c → HasTaken (flat_map f xs) (pieces_from f xs (i + 1)) a c
each_put f xs i x {a} {b} less at taken t = taken_more (pieces_from f xs (i + 1)) (subst (λ ps. HasTaken (flat_map f xs) ps a b) (pieces_next f xs i x less at) taken) t

pub each_breaks : {X : Type 0} (f : X → List Piece) (xs : List X) (i : ℕ) (x : X) {a b c : Written} {cause : Break} → i < length xs → x ≡ get_or xs i x → HasTaken (flat_map f xs) (pieces_from f xs i) a b → BreaksIn (f x) b c cause → BreaksIn (flat_map f xs) a c cause
each_breaks f xs i x {a} {b} less at taken t = taken_broken (pieces_from f xs (i + 1)) (subst (λ ps. HasTaken (flat_map f xs) ps a b) (pieces_next f xs i x less at) taken) t

pub each_whole : {X : Type 0} (f : X → List Piece) (xs : List X) (i : ℕ) {a b : Written} → length xs ≤ i → HasTaken (flat_map f xs) (pieces_from f xs i) a b → Takes (flat_map f xs) a b
each_whole f xs i {a} {b} most taken = taken_whole (subst (λ ps. HasTaken (flat_map f xs) ps a b) (ap (flat_map f) (drop_of_length-le xs most)) taken)
