-- What a rule means: a function of its braid and its block.
use Rattle.std.specs.Prelude.{◌≡◌, ℕ, ◌-◌, List, ◌∷◌, ◌++◌, [], map, Option, Some, None, slice_index_or}
use Rattle.nichols_tensor.specs.Combination.{Combination, single}
use Rattle.nichols_tensor.specs.Relation.{PlainRelation}
use Rattle.nichols_tensor.specs.Words.{up_to}
use Rattle.nichols_braid.specs.Braid.{BraidValue}
use Rattle.nichols_braid.specs.Forms.{derived_form}
use Rattle.nichols_braid.specs.Kernel.{is_killed}
use Rattle.nichols_braid.specs.Least.{normal_form}
use Rattle.nichols_value.specs.declared.key.BlockKey.{BlockKey}
use Rattle.nichols_value.specs.Block.{block_basis, block_relations, left_lower_basis, lower_basis}

-- what serves the degree above alone: by letter a, the normal forms of the derivatives by a of the least words, and those of `a v`
-- for the least words v of one letter less for which it has the product
abbrev pub PlainUpper : Type 0
PlainUpper = record { derivs : List (List Combination); left : List (List Combination) }

-- the least words of a block, its relations, and by letter b the least words u of one letter less for which `u b` has the product,
-- with the normal forms of `u b`; beside them what serves the degree above, until it is let go
abbrev pub PlainRule : Type 0
PlainRule = record {
  key : BlockKey;
  basis : List (List ℕ);
  table : List PlainRelation;
  below : List (List (List ℕ));
  right : List (List Combination);
  upper : Option PlainUpper;
}

-- an entry of a list of lists by its letter, which counts from 1; or none
abbrev pub by_letter : {X : Type 0} → List (List X) → ℕ → List X
by_letter xss a = slice_index_or xss (a - 1) []

-- what serves the degree above, or nothing where it was let go
abbrev pub upper_or_none : Option PlainUpper → PlainUpper
upper_or_none None = record { derivs = []; left = [] }
upper_or_none (Some u) = u

-- by letter: the words below, and the forms to the right, of the derivatives and to the left
abbrev pub below_in : PlainRule → ℕ → List (List ℕ)
below_in r b = by_letter r.below b

abbrev pub right_in : PlainRule → ℕ → List Combination
right_in r b = by_letter r.right b

abbrev pub derivs_in : PlainRule → ℕ → List Combination
derivs_in r a = by_letter (upper_or_none r.upper).derivs a

abbrev pub left_in : PlainRule → ℕ → List Combination
left_in r a = by_letter (upper_or_none r.upper).left a

-- the normal forms of `u b` for the least words u of the lower block by b, in order
unfoldable pub right_forms : BraidValue → ℕ → List ℕ → ℕ → List Combination
right_forms braid m g b = map (λ u. normal_form is_killed braid m (single (u ++ b ∷ []))) (lower_basis braid m g b)

-- the normal forms of `a v` for the least words v for which it has product g, in order
unfoldable pub left_forms : BraidValue → ℕ → List ℕ → ℕ → List Combination
left_forms braid m g a = map (λ v. normal_form is_killed braid m (single (a ∷ v))) (left_lower_basis braid m g a)

-- the normal forms of the derivatives by a of the least words, in order
unfoldable pub block_derivs : BraidValue → ℕ → List ℕ → ℕ → List Combination
block_derivs braid m g a = map (λ w. derived_form is_killed braid m w a) (block_basis braid m g)

-- the rule of the block of degree m and product g, without what serves the degree above
unfoldable pub lean_rule_of : BraidValue → ℕ → List ℕ → PlainRule
lean_rule_of braid m g = record {
  key = record { degree = m; product = g };
  basis = block_basis braid m g;
  table = block_relations braid m g;
  below = map (lower_basis braid m g) (up_to braid.letters);
  right = map (right_forms braid m g) (up_to braid.letters);
  upper = None;
}

-- what serves the degree above, of the block of degree m and product g
unfoldable pub upper_of : BraidValue → ℕ → List ℕ → PlainUpper
upper_of braid m g = record { derivs = map (block_derivs braid m g) (up_to braid.letters); left = map (left_forms braid m g) (up_to braid.letters) }

-- a rule after what serves the degree above was let go
abbrev pub without_upper : PlainRule → PlainRule
without_upper r = record { key = r.key; basis = r.basis; table = r.table; below = r.below; right = r.right; upper = None }

-- a rule with what serves the degree above
abbrev pub with_upper : PlainRule → PlainUpper → PlainRule
with_upper r u = record { key = r.key; basis = r.basis; table = r.table; below = r.below; right = r.right; upper = Some u }

-- the rule of the block of degree m and product g
unfoldable pub rule_of : BraidValue → ℕ → List ℕ → PlainRule
rule_of braid m g = with_upper (lean_rule_of braid m g) (upper_of braid m g)

-- it is the rule of the block of degree m and product g, with or without what serves the degree above
abbrev pub IsRuleOf : BraidValue → ℕ → List ℕ → PlainRule → Type 0
IsRuleOf braid m g r = without_upper r ≡ lean_rule_of braid m g
