-- Pieces that are put one after the other, one for each item.
use Rattle.std.proofs.Common.{◌≡◌, ℕ, suc, ◌+◌, ◌<◌, ◌≤◌, List, [], ◌∷◌, ◌++◌, length, drop, get_or, sym, ◌∙◌, ap, subst, arith}
use Rattle.std.proofs.Math.ListN.{drop_of_length-le}
use Rattle.std.proofs.lemmas.List.{drop_more}
use Rattle.nichols_top.specs.Report.{Piece, numbered_pieces}
use Rattle.nichols_top.specs.Written.{Written, Takes, BreaksIn}
use Rattle.nichols_top.specs.declared.writer.Break.{Break}
use Rattle.nichols_top.proofs.Taking.{HasTaken, taken_nothing, taken_more, taken_whole, taken_broken}

-- the pieces of the items from place i on, whose numbers count from k
abbrev pub numbered_from : {X : Type 0} → (ℕ → X → Piece) → ℕ → List X → ℕ → List Piece
numbered_from f k xs i = numbered_pieces f (k + i) (drop i xs)

-- the item at place i, its number, and what is behind it
pub record IsAt {X : Type 0} (k : ℕ) (xs : List X) (i n : ℕ) (x : X) : Type 0 where
  pub less : i < length xs
  pub item : x ≡ get_or xs i x
  pub number : n ≡ k + i

numbered_more : {X : Type 0} (f : ℕ → X → Piece) (k : ℕ) (xs : List X) (i n : ℕ) (x : X) → IsAt k xs i n x → numbered_from f k xs i ≡ (f n x ∷ []) ++ numbered_from f k xs (i + 1)
numbered_more f k xs i n x at =
    let next : suc (k + i) ≡ k + (i + 1) = omega arith in
    ap (numbered_pieces f (k + i)) (drop_more xs i x at.less) ∙ ap (λ y. f (k + i) y ∷ numbered_pieces f (suc (k + i)) (drop (i + 1) xs)) (sym at.item)
    ∙ ap (λ m. f m x ∷ numbered_pieces f (suc (k + i)) (drop (i + 1) xs)) (sym at.number) ∙ ap (λ m. f n x ∷ numbered_pieces f m (drop (i + 1) xs)) next

pub numbered_start : {X : Type 0} (f : ℕ → X → Piece) (k : ℕ) (xs : List X) {a : Written} → HasTaken (numbered_pieces f k xs) (numbered_from f k xs 0) a a
numbered_start f k xs = let first : k ≡ k + 0 = omega arith in taken_nothing (ap (λ n. numbered_pieces f n xs) first)

pub numbered_put : {X : Type 0} (f : ℕ → X → Piece) (k : ℕ) (xs : List X) (i n : ℕ) (x : X) {a b c : Written} → IsAt k xs i n x → HasTaken (numbered_pieces f k xs) (numbered_from f k xs i) a b → Takes (f n x ∷ []) b c →
    HasTaken (numbered_pieces f k xs) (numbered_from f k xs (i + 1)) a c
numbered_put f k xs i n x {a} {b} at taken t = taken_more (numbered_from f k xs (i + 1)) (subst (λ ps. HasTaken (numbered_pieces f k xs) ps a b) (numbered_more f k xs i n x at) taken) t

pub numbered_breaks : {X : Type 0} (f : ℕ → X → Piece) (k : ℕ) (xs : List X) (i n : ℕ) (x : X) {a b c : Written} {cause : Break} → IsAt k xs i n x → HasTaken (numbered_pieces f k xs) (numbered_from f k xs i) a b → BreaksIn (f n x ∷ []) b c cause →
    BreaksIn (numbered_pieces f k xs) a c cause
numbered_breaks f k xs i n x {a} {b} at taken t = taken_broken (numbered_from f k xs (i + 1)) (subst (λ ps. HasTaken (numbered_pieces f k xs) ps a b) (numbered_more f k xs i n x at) taken) t

pub numbered_whole : {X : Type 0} (f : ℕ → X → Piece) (k : ℕ) (xs : List X) (i : ℕ) {a b : Written} → length xs ≤ i → HasTaken (numbered_pieces f k xs) (numbered_from f k xs i) a b → Takes (numbered_pieces f k xs) a b
numbered_whole f k xs i {a} {b} most taken = taken_whole (subst (λ ps. HasTaken (numbered_pieces f k xs) ps a b) (ap (numbered_pieces f (k + i)) (drop_of_length-le xs most)) taken)
