-- Where the least words of a rule stand without their end letters.
use Rattle.std.proofs.Common.{arith, refl, ap, ◌≡◌, ◌<◌, ℕ, zero, suc, List, [], ◌∷◌, length, slice_index_or}
use Rattle.nichols_tensor.specs.Positions.{word_at}
use Rattle.nichols_value.specs.declared.ends.Ends.{Ends}
use Rattle.nichols_value.specs.Kept.{AreEnds, AreEndsOf}

-- as many as words
pub ends_count : (g : List ℕ) (below : List (List (List ℕ))) (ws : List (List ℕ)) (ends : List Ends) → AreEnds g below ws ends → length ends ≡ length ws
ends_count g below [] [] h = refl
ends_count g below [] (e ∷ ends) h = absurd h
ends_count g below (w ∷ ws) [] h = absurd h
ends_count g below (w ∷ ws) (e ∷ ends) h = ap suc (ends_count g below ws ends h.1)

-- those of a word
pub ends_at : (g : List ℕ) (below : List (List (List ℕ))) (ws : List (List ℕ)) (ends : List Ends) (k : ℕ) (d : Ends) → AreEnds g below ws ends → k < length ws → AreEndsOf g below (word_at ws k) (slice_index_or ends k d)
ends_at g below [] ends k d h less = absurd (omega arith)
ends_at g below (w ∷ ws) [] k d h less = absurd h
ends_at g below (w ∷ ws) (e ∷ ends) zero d h less = h.0
ends_at g below (w ∷ ws) (e ∷ ends) (suc k) d h less = ends_at g below ws ends k d h.1 (omega arith)
