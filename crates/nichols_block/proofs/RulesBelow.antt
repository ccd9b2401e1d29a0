-- The rules of the lower blocks, by letter.
use Rattle.std.proofs.Common.{◌≡◌, ℕ, ◌-◌, ◌<◌, List, length, get_or, sym, subst, arith, Option, None}
use Rattle.std.proofs.lemmas.List.{get_or_read}
use denote.Bor.{Bor}
use Rattle.nichols_braid.specs.Braid.{BraidValue, IsLetter}
use Rattle.nichols_value.specs.Rule.{PlainRule}
use Rattle.nichols_block.specs.Rows.{AreRulesBelow, IsRuleBelow}

-- what stands at a letter
pub rule_found : (braid : BraidValue) (m : ℕ) (g : List ℕ) (rules : List (Option (Bor PlainRule))) → AreRulesBelow braid m g rules → (a : ℕ) → IsLetter braid a → (found : Option (Bor PlainRule)) → found ≡ get_or rules (a - 1) found → IsRuleBelow braid m g a found
rule_found braid m g rules h a la found at =
    let less : a - 1 < length rules = omega (arith, h.letters, la.0, la.1) in
    subst (IsRuleBelow braid m g a) (sym (get_or_read rules (a - 1) found less at None)) (h.each a la)
