-- The relations of a block are those of the listed words `u b`, with u least, that aren't least.
use Rattle.std.proofs.Common.{◌≡◌, ℕ, zero, suc, ◌≤◌, true, not, List, [], ◌∷◌, ◌++◌, map, length, sym, ◌∙◌, ap, subst, arith}
use Rattle.std.specs.List.{filter, Contains}
use Rattle.std.specs.Cmp.Derive.{both_true}
use Rattle.std.proofs.lemmas.Bool.{and_parts}
use Rattle.nichols_tensor.specs.Relation.{PlainRelation}
use Rattle.nichols_tensor.specs.WordOrder.{IsRising}
use Rattle.nichols_tensor.proofs.Entries.{in_filter, from_filter}
use Rattle.nichols_tensor.proofs.Rising.{rising-filter, rising_unique}
use Rattle.nichols_braid.specs.Braid.{BraidValue, IsBraid}
use Rattle.nichols_braid.specs.Kernel.{is_killed}
use Rattle.nichols_braid.specs.Least.{is_least, candidates, relations}
use Rattle.nichols_braid.specs.Product.{product_of, has_product}
use Rattle.nichols_braid.proofs.Candidates.{candidates_rise}
use Rattle.nichols_braid.proofs.Lists.{filter-map}
use Rattle.nichols_value.specs.Block.{block_relations}
use Rattle.nichols_value.proofs.Blocks.{has_product_is, product_is, from_block_candidates, in_block_candidates}
use Rattle.nichols_block.specs.Pass.{is_related, own_relation}
use Rattle.nichols_block.specs.Words.{but_last, listed_words}
use Rattle.nichols_block.proofs.ListedWords.{but_last-push, from_listed, from_right_word, in_listed, listed_words_rise, right_word, IsListedWord}

-- the candidates of the relations of a block
pub related : BraidValue → ℕ → List ℕ → List (List ℕ)
related braid m g = filter (has_product braid g) (filter (λ w. not (is_least is_killed braid w)) (candidates is_killed braid m))

block_relations_are : (braid : BraidValue) (m : ℕ) (g : List ℕ) → block_relations braid m g ≡ map (own_relation braid m) (related braid m g)
unfolding block_relations relations related
block_relations_are braid m g = filter-map (λ (r : PlainRelation). has_product braid g r.candidate) (own_relation braid m) (filter (λ w. not (is_least is_killed braid w)) (candidates is_killed braid m))

related_rise : (braid : BraidValue) (m : ℕ) (g : List ℕ) → IsRising (related braid m g)
unfolding related
related_rise braid m g =
    rising-filter (has_product braid g) (filter (λ w. not (is_least is_killed braid w)) (candidates is_killed braid m)) (rising-filter (λ w. not (is_least is_killed braid w)) (candidates is_killed braid m) (candidates_rise is_killed braid m))

in_related : (braid : BraidValue) (m : ℕ) (g w : List ℕ) → Contains (candidates is_killed braid m) w → product_of braid w ≡ g → not (is_least is_killed braid w) ≡ true → Contains (related braid m g) w
unfolding related
in_related braid m g w i e other =
    in_filter (has_product braid g) w (filter (λ v. not (is_least is_killed braid v)) (candidates is_killed braid m)) (in_filter (λ v. not (is_least is_killed braid v)) w (candidates is_killed braid m) i other) (has_product_is braid g w e)

from_related : (braid : BraidValue) (m : ℕ) (g w : List ℕ) → Contains (related braid m g) w → Contains (candidates is_killed braid m) w × (product_of braid w ≡ g) × (not (is_least is_killed braid w) ≡ true)
unfolding related
from_related braid m g w i =
    let (j, h) = from_filter (has_product braid g) w (filter (λ v. not (is_least is_killed braid v)) (candidates is_killed braid m)) i in
    let (k, other) = from_filter (λ v. not (is_least is_killed braid v)) w (candidates is_killed braid m) j in
    (k, product_is braid g w h, other)

related_listed_at : (braid : BraidValue) → IsBraid braid → (m : ℕ) (g : List ℕ) → length g ≡ braid.letters → filter (is_related braid) (listed_words braid (suc m) g) ≡ related braid (suc m) g
related_listed_at braid is m g size =
    rising_unique (filter (is_related braid) (listed_words braid (suc m) g)) (related braid (suc m) g) (rising-filter (is_related braid) (listed_words braid (suc m) g) (listed_words_rise braid (suc m) g)) (related_rise braid (suc m) g) there back
  where
    there : (w : List ℕ) → Contains (filter (is_related braid) (listed_words braid (suc m) g)) w → Contains (related braid (suc m) g) w
    there w i =
        let (j, h) = from_filter (is_related braid) w (listed_words braid (suc m) g) i in
        let l : IsListedWord braid (suc m) g w = from_listed braid (suc m) g w j in
        let (least, other) = and_parts (is_least is_killed braid (but_last w)) (not (is_least is_killed braid w)) h in
        let (b, lb, k, whole) = from_right_word braid is m g w l least in
        in_related braid (suc m) g w (subst (Contains (candidates is_killed braid (suc m))) (sym whole) (in_block_candidates braid is m g size b lb (but_last w) k).0) l.product other

    back : (w : List ℕ) → Contains (related braid (suc m) g) w → Contains (filter (is_related braid) (listed_words braid (suc m) g)) w
    back w i =
        let (j, e, other) = from_related braid (suc m) g w i in
        let (u, b, lb, k, whole) = from_block_candidates braid is m g w j e in
        let (l, least) = right_word braid is m g size b lb u k in
        in_filter (is_related braid) w (listed_words braid (suc m) g) (subst (Contains (listed_words braid (suc m) g)) (sym whole) (in_listed braid (suc m) g (u ++ b ∷ []) l))
        (both_true (ap (is_least is_killed braid) (ap but_last whole ∙ but_last-push u b) ∙ least) other)

pub related_of_listed : (braid : BraidValue) → IsBraid braid → (m : ℕ) (g : List ℕ) → 1 ≤ m → length g ≡ braid.letters → map (own_relation braid m) (filter (is_related braid) (listed_words braid m g)) ≡ block_relations braid m g
related_of_listed braid is zero g some size = absurd (omega (arith, some))
related_of_listed braid is (suc m) g some size = ap (map (own_relation braid (suc m))) (related_listed_at braid is m g size) ∙ sym (block_relations_are braid (suc m) g)
