-- Shares of many combinations, and the answers part by part.
use Rattle.std.specs.Prelude.{◌≡◌, ◌≤◌, ◌-◌, ℕ, List, [], ◌∷◌, drop, map, take, IfOk, Result, Vec}
use Rattle.std.specs.Global.{Global}
use Rattle.nichols_tensor.specs.Combination.{Combination}
use Rattle.nichols_braid.specs.Braid.{BraidValue}
use Rattle.nichols_memo.specs.Seats.{IsOf}
use Rattle.nichols_memo.specs.declared.memo.Memo.{Memo}
use Rattle.nichols_reduce.specs.Normal.{normal_of}
use Rattle.nichols_reduce.specs.declared.answer.Normal.{Normal}
use Rattle.nichols_reduce.specs.declared.many.Share.{Share}

-- shares with seats at this memo, which follow each other from place a up to place b
abbrev pub AreShares : Memo → ℕ → List Share → ℕ → Type 0
AreShares memo a [] b = a ≡ b
AreShares memo a (s ∷ ss) b = IsOf memo s.seat × (s.start ≡ a) × (a ≤ s.end) × AreShares memo s.end ss b

-- the answers of the combinations of a share, in order
abbrev pub IsAnswer : BraidValue → ℕ → List Combination → Share → List Normal → Type 0
IsAnswer braid last fs share ns = ns ≡ map (normal_of braid last) (take (share.end - share.start) (drop share.start fs))

-- the answers of all these combinations, part by part, where none found too little memory
abbrev pub AreAnswers : {E : Type 0} → BraidValue → ℕ → List Combination → List (Result (Vec Normal Global) E) → Type 0
AreAnswers braid last fs [] = fs ≡ []
AreAnswers braid last fs (part ∷ parts) = (k : ℕ) × IfOk part (λ ns. ns.items ≡ map (normal_of braid last) (take k fs)) × AreAnswers braid last (drop k fs) parts
