-- The numbers of least words of blocks.
use Rattle.std.proofs.Common.{◌≡◌, ℕ, zero, suc, ◌<◌, List, [], ◌∷◌, length, map, refl, sym, ◌∙◌, ap, subst, arith}
use Rattle.std.proofs.lemmas.List.{length-map}
use Rattle.nichols_tensor.specs.Positions.{word_at}
use Rattle.std.specs.Prelude.{slice_index}
use Rattle.std.specs.List.{sum_by}
use Rattle.std.proofs.lemmas.Simd.{map-map}
use Rattle.nichols_tensor.specs.Words.{up_to}
use Rattle.nichols_tensor.proofs.Tests.{map_same}
use Rattle.nichols_braid.specs.Braid.{BraidValue, IsBraid}
use Rattle.nichols_braid.specs.Kernel.{is_killed}
use Rattle.nichols_braid.specs.Product.{product_before}
use Rattle.nichols_braid.specs.Products.{products, rows}
use Rattle.nichols_value.specs.declared.shared.Shared.{Shared}
use Rattle.nichols_value.specs.declared.value.BlockValue.TheVariants.{Rule}
use Rattle.nichols_value.specs.Block.{block_basis, lower_basis}
use Rattle.nichols_value.specs.Rule.{PlainRule, lean_rule_of, rule_of}
use Rattle.nichols_value.specs.Worth.{worth}
use Rattle.nichols_value.proofs.Blocks.{block_rows}
use Rattle.nichols_block.specs.Levels.{rules_of}
use Rattle.nichols_graded.specs.declared.TheConstants.{DIMENSION_BOUND}
use Rattle.nichols_graded.specs.Sizes.{AreSizes, size_of}

rule_size : (braid : BraidValue) (m : ℕ) (g : List ℕ) → length (rule_of braid m g).basis ≡ length (block_basis braid m g)
unfolding rule_of lean_rule_of
rule_size braid m g = refl

sizes_of_rules : (braid : BraidValue) (m : ℕ) (gs : List (List ℕ)) (vs : List Shared) → map worth vs ≡ map Rule (map (rule_of braid m) gs) → map (λ v. size_of (worth v)) vs ≡ map (λ g. length (block_basis braid m g)) gs
sizes_of_rules braid m gs vs e =
    sym (map-map size_of worth vs) ∙ ap (map size_of) e ∙ map-map size_of Rule (map (rule_of braid m) gs) ∙ map-map (λ (r : PlainRule). length r.basis) (rule_of braid m) gs
    ∙ map_same (λ g. length (rule_of braid m g).basis) (λ g. length (block_basis braid m g)) gs (λ g i. rule_size braid m g)

pub sizes_are : (braid : BraidValue) (m : ℕ) (vs : List Shared) (sizes : List ℕ) → map worth vs ≡ map Rule (rules_of braid m) → sizes ≡ map (λ v. size_of (worth v)) vs → ((k : ℕ) → slice_index sizes k < DIMENSION_BOUND) → AreSizes braid m sizes
unfolding rules_of
sizes_are braid m vs sizes rules e small = record { counts = e ∙ sizes_of_rules braid m (products braid m) vs rules; small = small }

-- as many rules as products
pub rules_count : (braid : BraidValue) (m : ℕ) (vs : List Shared) → map worth vs ≡ map Rule (rules_of braid m) → length vs ≡ length (products braid m)
unfolding rules_of
rules_count braid m vs e = sym (length-map vs worth) ∙ ap length e ∙ length-map (map (rule_of braid m) (products braid m)) Rule ∙ length-map (products braid m) (rule_of braid m)

pub rows_by_blocks : (braid : BraidValue) → IsBraid braid → (m : ℕ) (g : List ℕ) → length g ≡ braid.letters → rows is_killed braid (suc m) g ≡ sum_by (λ b. length (block_basis braid m (product_before braid b g))) (up_to braid.letters)
unfolding lower_basis
rows_by_blocks braid is m g size = block_rows braid is m g size

-- the number at a place
pub size_at : (braid : BraidValue) (m : ℕ) (sizes : List ℕ) → AreSizes braid m sizes → (k : ℕ) → k < length sizes → slice_index sizes k ≡ length (block_basis braid m (word_at (products braid m) k))
size_at braid m sizes h k less =
    let f : List ℕ → ℕ = λ g. length (block_basis braid m g) in
    let inside : k < length (products braid m) = subst (λ n. k < n) (ap length h.counts ∙ length-map (products braid m) f) less in
    ap (λ xs. slice_index xs k) h.counts ∙ read f (products braid m) k inside
  where
    read : (f : List ℕ → ℕ) (gs : List (List ℕ)) (k : ℕ) → k < length gs → slice_index (map f gs) k ≡ f (word_at gs k)
    read f [] k less = absurd (omega (arith, less))
    read f (g ∷ gs) zero less = refl
    read f (g ∷ gs) (suc k) less = read f gs k (omega (arith, less))
