-- The laws of blocks.
use Rattle.std.proofs.Common.{◌≡◌, ℕ, suc, List, refl, sym, ◌∙◌, ap, subst, inl}
use Rattle.std.specs.List.{Contains}
use Rattle.nichols_tensor.specs.Combination.{Combination, single}
use Rattle.nichols_tensor.specs.Relation.{PlainRelation}
use Rattle.nichols_braid.specs.Kernel.{is_killed}
use Rattle.nichols_braid.specs.Least.{candidates, normal_form}
use Rattle.nichols_braid.specs.Product.{product_of}
use Rattle.nichols_braid.proofs.NextProducts.{products_size}
use Rattle.nichols_value.specs.Block.{block_relations}
use Rattle.nichols_value.specs.Laws.{BlocksOverOthersAreVoid, BlocksSplitTheBasis, BlocksWithinTheLimitAreWhole, CandidatesAreOfLowerBlocks, DerivativesAreOfLowerBlocks, FormsStayInTheirBlock, LeftLowerBlocksAreByFirstLetters, LeftLowerBlocksAreLowerBlocks, LowerBlocksAreByLastLetters, LowerBlocksAreOfLeadingLetters, LowerLettersAreLeading, RelationsOfABlock, RowsAreOfLowerBlocks, WholeBlocksHaveRules, WideBlocksAreOver}
use Rattle.nichols_value.specs.declared.value.BlockValue.TheVariants.{Over}
use Rattle.nichols_value.proofs.Blocks.{block_rows, derived_in_block, from_block_basis, from_block_candidates, from_block_relations, from_lower_basis, from_lower_letters, in_block_basis, in_block_candidates, in_block_relations, in_lower_basis, in_lower_letters, lower_basis_leading, normal_in_block}
use Rattle.nichols_value.proofs.LeftBlocks.{from_left_lower_basis, in_left_lower_basis, left_lower_is_lower}
use Rattle.nichols_value.proofs.Wholes.{over_value, right_over, right_rule, right_void, rule_value, void_value, whole_within}

pub blocks_split_the_basis : BlocksSplitTheBasis
blocks_split_the_basis braid m g w = (λ i. from_block_basis braid m g w i, λ h. in_block_basis braid m g w h.0 h.1)

pub lower_blocks_are_by_last_letters : LowerBlocksAreByLastLetters
lower_blocks_are_by_last_letters braid is m g there b l u = (
  λ i. from_lower_basis braid is m g (products_size braid (suc m) g there) b l u i,
  λ h. in_lower_basis braid is m g b l u h.0 h.1,
)

pub left_lower_blocks_are_by_first_letters : LeftLowerBlocksAreByFirstLetters
left_lower_blocks_are_by_first_letters braid m g a v = (λ i. from_left_lower_basis braid m g a v i, λ h. in_left_lower_basis braid m g a v h.0 h.1)

pub left_lower_blocks_are_lower_blocks : LeftLowerBlocksAreLowerBlocks
left_lower_blocks_are_lower_blocks = left_lower_is_lower

pub lower_blocks_are_of_leading_letters : LowerBlocksAreOfLeadingLetters
lower_blocks_are_of_leading_letters = lower_basis_leading

pub lower_letters_are_leading : LowerLettersAreLeading
lower_letters_are_leading braid m g a = (λ i. from_lower_letters braid m g a i, λ h. in_lower_letters braid m g a h.0 h.1 h.2)

pub candidates_are_of_lower_blocks : CandidatesAreOfLowerBlocks
candidates_are_of_lower_blocks braid is m g there w = (
  λ h. from_block_candidates braid is m g w h.0 h.1,
  λ h.
      let (u, b, l, i, e) = h in
      let (j, product) = in_block_candidates braid is m g (products_size braid (suc m) g there) b l u i in
      (subst (Contains (candidates is_killed braid (suc m))) (sym e) j, ap (product_of braid) e ∙ product),
)

pub rows_are_of_lower_blocks : RowsAreOfLowerBlocks
rows_are_of_lower_blocks braid is m g there = block_rows braid is m g (products_size braid (suc m) g there)

pub forms_stay_in_their_block : FormsStayInTheirBlock
forms_stay_in_their_block braid is w over = normal_in_block braid is _ (product_of braid w) w refl over refl

pub derivatives_are_of_lower_blocks : DerivativesAreOfLowerBlocks
derivatives_are_of_lower_blocks braid is w over a l = derived_in_block braid is _ (product_of braid w) w refl over refl a l

relation_with : List ℕ → Combination → PlainRelation
relation_with w f = record { candidate = w; form = f }

same_form : (r : PlainRelation) (f : Combination) → r.form ≡ f → r ≡ record { candidate = r.candidate; form = f }
unfolding relation_with
same_form r f e = ap (relation_with r.candidate) e

pub relations_of_a_block : RelationsOfABlock
relations_of_a_block braid m g r = (
  λ i. let (there, product, least, e) = from_block_relations braid m g r i in (there, product, least, ap (λ (s : PlainRelation). s.form) e),
  λ h.
      subst (Contains (block_relations braid m g)) (sym (same_form r (normal_form is_killed braid m (single r.candidate)) h.3)) (in_block_relations braid m g r.candidate h.0 h.1 h.2),
)

pub blocks_within_the_limit_are_whole : BlocksWithinTheLimitAreWhole
blocks_within_the_limit_are_whole = whole_within

pub whole_blocks_have_rules : WholeBlocksHaveRules
whole_blocks_have_rules braid limit m g = (λ e. (right_rule braid limit m g _ (inl (sym e))).0, λ whole. rule_value braid limit m g whole)

pub wide_blocks_are_over : WideBlocksAreOver
wide_blocks_are_over braid limit m n g = (λ e. right_over braid limit m g n (inl (sym e)), λ h. over_value braid limit m g h.0 h.1 ∙ ap Over (sym h.2))

pub blocks_over_others_are_void : BlocksOverOthersAreVoid
blocks_over_others_are_void braid limit m g = (λ e. right_void braid limit m g (inl (sym e)), λ below. void_value braid limit m g below)
