-- What the laws of blocks say.
use Rattle.std.specs.Prelude.{◌≡◌, ◌↔◌, ◌<◌, ◌≤◌, ◌-◌, ℕ, suc, false, true, List, [], ◌∷◌, ◌++◌, length, slice_index}
use Rattle.std.specs.List.{Contains, sum_by}
use Rattle.nichols_tensor.specs.Combination.{AllAmong, single}
use Rattle.nichols_tensor.specs.Relation.{PlainRelation}
use Rattle.nichols_tensor.specs.Words.{IsWordOver, up_to}
use Rattle.nichols_braid.specs.Braid.{BraidValue, IsBraid, IsLetter}
use Rattle.nichols_braid.specs.Forms.{derived_form}
use Rattle.nichols_braid.specs.Kernel.{is_killed}
use Rattle.nichols_braid.specs.Least.{basis, candidates, is_least, normal_form}
use Rattle.nichols_braid.specs.Product.{product_before, product_of}
use Rattle.nichols_braid.specs.Products.{leading, products, rows}
use Rattle.nichols_value.specs.Block.{block_basis, block_relations, is_whole, is_whole_below, left_lower_basis, lower_basis, lower_letters}
use Rattle.nichols_value.specs.Rule.{rule_of}
use Rattle.nichols_value.specs.Value.{block_value}
use Rattle.nichols_value.specs.declared.value.BlockValue.TheVariants.{Over, Rule, Void}

-- a least word is in the block of its product, and in no other
abbrev pub BlocksSplitTheBasis : Type 0
BlocksSplitTheBasis = (braid : BraidValue) (m : ℕ) (g w : List ℕ) → Contains (block_basis braid m g) w ↔ (Contains (basis is_killed braid m) w × (product_of braid w ≡ g))

-- the lower block by b has the least words u for which `u b` is of the block
abbrev pub LowerBlocksAreByLastLetters : Type 0
LowerBlocksAreByLastLetters =
    (braid : BraidValue) → IsBraid braid → (m : ℕ) (g : List ℕ) → Contains (products braid (suc m)) g → (b : ℕ) → IsLetter braid b → (u : List ℕ) →
    Contains (lower_basis braid (suc m) g b) u ↔ (Contains (basis is_killed braid m) u × (product_of braid (u ++ b ∷ []) ≡ g))

-- the left lower block by a has the least words v for which `a v` is of the block
abbrev pub LeftLowerBlocksAreByFirstLetters : Type 0
LeftLowerBlocksAreByFirstLetters =
    (braid : BraidValue) (m : ℕ) (g : List ℕ) (a : ℕ) (v : List ℕ) → Contains (left_lower_basis braid (suc m) g a) v ↔ (Contains (basis is_killed braid m) v × (product_of braid (a ∷ v) ≡ g))

-- the left lower block by the letter that c is sent to is the lower block by c
abbrev pub LeftLowerBlocksAreLowerBlocks : Type 0
LeftLowerBlocksAreLowerBlocks =
    (braid : BraidValue) → IsBraid braid → (m : ℕ) (g : List ℕ) → Contains (products braid m) g → (c : ℕ) → IsLetter braid c → left_lower_basis braid m g (slice_index g (c - 1)) ≡ lower_basis braid m g c

-- the lower block by a letter is that by the first letter with the same map
abbrev pub LowerBlocksAreOfLeadingLetters : Type 0
LowerBlocksAreOfLeadingLetters = (braid : BraidValue) (m : ℕ) (g : List ℕ) (a : ℕ) → IsLetter braid a → lower_basis braid m g (leading braid a) ≡ lower_basis braid m g a

-- the lower letters are the leading letters before which the block's product is one of the degree below
abbrev pub LowerLettersAreLeading : Type 0
LowerLettersAreLeading =
    (braid : BraidValue) (m : ℕ) (g : List ℕ) (a : ℕ) →
    Contains (lower_letters braid (suc m) g) a ↔ (IsLetter braid a × (leading braid a ≡ a) × Contains (products braid m) (product_before braid a g))

-- the candidates of a block are the words of its lower blocks by a letter, with that letter behind
abbrev pub CandidatesAreOfLowerBlocks : Type 0
CandidatesAreOfLowerBlocks =
    (braid : BraidValue) → IsBraid braid → (m : ℕ) (g : List ℕ) → Contains (products braid (suc m)) g → (w : List ℕ) →
    (Contains (candidates is_killed braid (suc m)) w × (product_of braid w ≡ g)) ↔ ((u : List ℕ) × (b : ℕ) × IsLetter braid b × Contains (lower_basis braid (suc m) g b) u × (w ≡ u ++ b ∷ []))

-- so many there are
abbrev pub RowsAreOfLowerBlocks : Type 0
RowsAreOfLowerBlocks =
    (braid : BraidValue) → IsBraid braid → (m : ℕ) (g : List ℕ) → Contains (products braid (suc m)) g →
    rows is_killed braid (suc m) g ≡ sum_by (λ b. length (lower_basis braid (suc m) g b)) (up_to braid.letters)

-- the normal form of a word has least words of the word's block alone
abbrev pub FormsStayInTheirBlock : Type 0
FormsStayInTheirBlock =
    (braid : BraidValue) → IsBraid braid → (w : List ℕ) → IsWordOver braid.letters w → AllAmong (normal_form is_killed braid (length w) (single w)) (block_basis braid (length w) (product_of braid w))

-- and that of its derivative by a those of the lower block by a
abbrev pub DerivativesAreOfLowerBlocks : Type 0
DerivativesAreOfLowerBlocks =
    (braid : BraidValue) → IsBraid braid → (w : List ℕ) → IsWordOver braid.letters w → (a : ℕ) → IsLetter braid a →
    AllAmong (derived_form is_killed braid (length w) w a) (lower_basis braid (length w) (product_of braid w) a)

-- the relations of a block are those of its candidates that aren't least, each with its normal form
abbrev pub RelationsOfABlock : Type 0
RelationsOfABlock =
    (braid : BraidValue) (m : ℕ) (g : List ℕ) (r : PlainRelation) →
    Contains (block_relations braid m g) r
    ↔ (Contains (candidates is_killed braid m) r.candidate × (product_of braid r.candidate ≡ g) × (is_least is_killed braid r.candidate ≡ false) × (r.form ≡ normal_form is_killed braid m (single r.candidate)))

-- where no block of a degree or of a lower one has more candidates than the limit, the blocks of the degree are whole
abbrev pub BlocksWithinTheLimitAreWhole : Type 0
BlocksWithinTheLimitAreWhole =
    (braid : BraidValue) (limit m : ℕ) → ((n : ℕ) (h : List ℕ) → n ≤ m → Contains (products braid n) h → rows is_killed braid n h ≤ limit) → (g : List ℕ) → Contains (products braid m) g →
    is_whole braid limit m g ≡ true

-- the value of a block is its rule exactly where it is whole
abbrev pub WholeBlocksHaveRules : Type 0
WholeBlocksHaveRules = (braid : BraidValue) (limit m : ℕ) (g : List ℕ) → (block_value braid limit m g ≡ Rule (rule_of braid m g)) ↔ (is_whole braid limit m g ≡ true)

-- it is a number exactly where all lower blocks are whole and the candidates, which are so many, exceed the limit
abbrev pub WideBlocksAreOver : Type 0
WideBlocksAreOver =
    (braid : BraidValue) (limit m n : ℕ) (g : List ℕ) →
    (block_value braid limit m g ≡ Over n) ↔ ((is_whole_below braid limit m g ≡ true) × (limit < rows is_killed braid m g) × (n ≡ rows is_killed braid m g))

-- and it is void exactly where some lower block isn't whole
abbrev pub BlocksOverOthersAreVoid : Type 0
BlocksOverOthersAreVoid = (braid : BraidValue) (limit m : ℕ) (g : List ℕ) → (block_value braid limit m g ≡ Void) ↔ (is_whole_below braid limit m g ≡ false)
