-- The values of a degree of a wave, each right for its block, are the rules of the blocks where each of them is a rule.
use Rattle.std.proofs.Common.{◌≡◌, ◌<◌, ℕ, suc, true, false, List, [], ◌∷◌, length, map, refl, ap, ap₂, arith}
use Rattle.std.specs.Prelude.{slice_index_or}
use Rattle.std.specs.List.{list_all}
use Rattle.std.proofs.lemmas.Bool.{and_parts}
use Rattle.nichols_tensor.specs.Positions.{word_at}
use Rattle.nichols_braid.specs.Braid.{BraidValue}
use Rattle.nichols_braid.specs.Products.{products}
use Rattle.nichols_value.specs.declared.shared.Shared.{Shared}
use Rattle.nichols_value.specs.declared.value.BlockValue.{BlockValue}
use Rattle.nichols_value.specs.declared.value.BlockValue.TheVariants.{Rule, Over, Void, Starved}
use Rattle.nichols_value.specs.Rule.{rule_of}
use Rattle.nichols_value.specs.Value.{IsRight}
use Rattle.nichols_value.specs.Worth.{worth}
use Rattle.nichols_value.proofs.Wholes.{right_rule}
use Rattle.nichols_block.specs.Levels.{rules_of}
use Rattle.nichols_layout.specs.Values.{AreRightOf}
use Rattle.nichols_graded.specs.Ahead.{AreRulesOf}
use Rattle.nichols_graded.specs.Sizes.{is_rule}

wave_rule : (braid : BraidValue) (limit m : ℕ) (g : List ℕ) (value : BlockValue) → IsRight braid limit m g value → is_rule value ≡ true → value ≡ Rule (rule_of braid m g)
wave_rule braid limit m g (Rule r) right is = ap Rule (right_rule braid limit m g r right).1
wave_rule braid limit m g (Over count) right is = absurd (let c : false ≡ true = is in cc)
wave_rule braid limit m g Void right is = absurd (let c : false ≡ true = is in cc)
wave_rule braid limit m g Starved right is = absurd (let c : false ≡ true = is in cc)

wave_listed : (braid : BraidValue) (limit m : ℕ) (gs : List (List ℕ)) (vs : List Shared) → length vs ≡ length gs → ((j : ℕ) (d : Shared) → j < length gs → IsRight braid limit m (word_at gs j) (worth (slice_index_or vs j d))) →
    list_all (λ v. is_rule (worth v)) vs ≡ true → map worth vs ≡ map Rule (map (rule_of braid m) gs)
wave_listed braid limit m [] [] count right rules = refl
wave_listed braid limit m [] (v ∷ vs) count right rules = absurd (omega (arith, count))
wave_listed braid limit m (g ∷ gs) [] count right rules = absurd (omega (arith, count))
wave_listed braid limit m (g ∷ gs) (v ∷ vs) count right rules =
    let both : (is_rule (worth v) ≡ true) × (list_all (λ x. is_rule (worth x)) vs ≡ true) = and_parts (is_rule (worth v)) (list_all (λ x. is_rule (worth x)) vs) rules in
    ap₂ (λ x xs. x ∷ xs) (wave_rule braid limit m g (worth v) (right 0 v (omega arith)) both.0) (wave_listed braid limit m gs vs (omega (arith, count)) (λ j d less. right (suc j) d (omega (arith, less))) both.1)

-- the rules of the blocks of a degree, by product
pub wave_rules : (braid : BraidValue) (limit m : ℕ) (vs : List Shared) → AreRightOf braid limit m vs → list_all (λ v. is_rule (worth v)) vs ≡ true → AreRulesOf braid m vs
unfolding rules_of
wave_rules braid limit m vs right rules = wave_listed braid limit m (products braid m) vs right.count right.right rules
