-- The lists of a degree, from those of its blocks, and their numbers.
use Rattle.std.proofs.Common.{◌≡◌, ℕ, zero, suc, ◌+◌, ◌*◌, ◌<◌, ◌≤◌, List, [], ◌∷◌, ◌++◌, length, map, filter, flat_map, take, sym, ◌∙◌, ap, ap₂, subst, arith}
use Rattle.std.specs.Prelude.{slice_index}
use Rattle.std.specs.List.{Contains, sum_by}
use Rattle.std.specs.List.Sorted.{IsPermutation, IsSortedByKey}
use Rattle.std.specs.Prelude.{not}
use Rattle.std.proofs.lemmas.Grind.{flat_map-append}
use Rattle.std.proofs.lemmas.List.{append-nil, take_all, take_more, map-id}
use Rattle.std.proofs.lemmas.List.Sums.{sum_by_push}
use Rattle.nichols_tensor.specs.Combination.{single}
use Rattle.nichols_tensor.specs.Positions.{word_at}
use Rattle.nichols_tensor.specs.Relation.{PlainRelation}
use Rattle.nichols_tensor.specs.WordOrder.{IsRising, word_cmp}
use Rattle.nichols_tensor.proofs.Entries.{from_map, from_filter}
use Rattle.nichols_tensor.proofs.Rising.{word_at_is_in}
use Rattle.nichols_braid.specs.declared.TheConstants.{MOST_ROWS}
use Rattle.nichols_braid.specs.Braid.{BraidValue, IsBraid}
use Rattle.nichols_braid.specs.Kernel.{is_in_kernel, is_killed}
use Rattle.nichols_braid.specs.Least.{basis, candidates, is_least, normal_form, relations}
use Rattle.nichols_braid.specs.End.{dimension}
use Rattle.nichols_braid.specs.Product.{product_of}
use Rattle.nichols_braid.specs.Products.{products}
use Rattle.nichols_braid.proofs.EachOnce.{flat_map-push}
use Rattle.nichols_braid.proofs.LeastLaws.{relations_rise}
use Rattle.nichols_braid.proofs.NextProducts.{products_first}
use Rattle.nichols_braid.proofs.ProductListLaws.{candidate_product, products_are_distinct}
use Rattle.nichols_braid.proofs.Reduction.{basis_rises}
use Rattle.nichols_lift.proofs.Readings.{one_reading}
use Rattle.nichols_value.specs.Block.{block_basis, block_relations}
use Rattle.nichols_value.specs.Rule.{PlainRule, IsRuleOf}
use Rattle.nichols_value.proofs.FewWords.{basis_within_rows}
use Rattle.nichols_value.proofs.RuleEntries.{basis_is, table_is}
use Rattle.nichols_block.proofs.LevelRules.{product_is_listed}
use Rattle.nichols_graded.specs.declared.TheConstants.{DIMENSION_BOUND}
use Rattle.nichols_graded.specs.Graded.{GradedValue, IsGraded}
use Rattle.nichols_graded.specs.Sizes.{AreSizes}
use Rattle.nichols_graded.proofs.SplitLists.{parts_count, sorted_parts}
use Rattle.nichols_graded.proofs.DegreeStops.{finished_within}

-- ---- least words

pub words_more : (braid : BraidValue) (m k : ℕ) (words new us : List (List ℕ)) (r : PlainRule) → k < length (products braid m) → words ≡ flat_map (block_basis braid m) (take k (products braid m)) → IsRuleOf braid m (word_at (products braid m) k) r → us ≡ r.basis → new ≡ words ++ us →
    new ≡ flat_map (block_basis braid m) (take (k + 1) (products braid m))
words_more braid m k words new us r less so_far rule us_is e =
    e ∙ ap₂ (λ vs ws. vs ++ ws) so_far (us_is ∙ basis_is braid m (word_at (products braid m) k) r rule)
    ∙ sym (ap (flat_map (block_basis braid m)) (take_more (products braid m) k [] less) ∙ flat_map-push (block_basis braid m) (take k (products braid m)) (word_at (products braid m) k))

pub sorted_words : (braid : BraidValue) (m k : ℕ) (words out : List (List ℕ)) → length (products braid m) ≤ k → words ≡ flat_map (block_basis braid m) (take k (products braid m)) → IsPermutation words out → IsSortedByKey (λ (w : List ℕ). w) word_cmp out → out ≡ basis is_killed braid m
unfolding block_basis
sorted_words braid m k words out past all p s =
    sorted_parts (λ w. w) braid (products braid m) (basis is_killed braid m) out (products_are_distinct braid m) (λ w i. product_is_listed braid m w i) (subst IsRising (sym (map-id (basis is_killed braid m))) (basis_rises is_killed braid m))
    (subst (λ ws. IsPermutation ws out) (all ∙ ap (flat_map (block_basis braid m)) (take_all k (products braid m) past)) p) s

-- ---- relations

pub relations_more : (braid : BraidValue) (m k : ℕ) (old new : List PlainRelation) (r : PlainRule) → k < length (products braid m) → old ≡ flat_map (block_relations braid m) (take k (products braid m)) → IsRuleOf braid m (word_at (products braid m) k) r → new ≡ old ++ r.table →
    new ≡ flat_map (block_relations braid m) (take (k + 1) (products braid m))
relations_more braid m k old new r less so_far rule e =
    e ∙ ap₂ (λ vs ws. vs ++ ws) so_far (table_is braid m (word_at (products braid m) k) r rule)
    ∙ sym (ap (flat_map (block_relations braid m)) (take_more (products braid m) k [] less) ∙ pushed (take k (products braid m)) (word_at (products braid m) k))
  where
    pushed : (gs : List (List ℕ)) (g : List ℕ) → flat_map (block_relations braid m) (gs ++ g ∷ []) ≡ flat_map (block_relations braid m) gs ++ block_relations braid m g
    pushed gs g = flat_map-append (block_relations braid m) gs (g ∷ []) ∙ ap (λ rs. flat_map (block_relations braid m) gs ++ rs) (append-nil (block_relations braid m g))

candidate_is_listed : (braid : BraidValue) (m : ℕ) (r : PlainRelation) → Contains (relations is_killed braid m) r → Contains (products braid m) (product_of braid r.candidate)
unfolding relations
candidate_is_listed braid m r i =
    let (w, j, e) = from_map (λ v. record { candidate = v; form = normal_form is_killed braid m (single v) }) r (filter (λ v. not (is_least is_killed braid v)) (candidates is_killed braid m)) i in
    subst (λ v. Contains (products braid m) (product_of braid v)) (sym (ap (λ (s : PlainRelation). s.candidate) e))
    (candidate_product is_killed braid m w (from_filter (λ v. not (is_least is_killed braid v)) w (candidates is_killed braid m) j).0)

pub sorted_relations : (braid : BraidValue) (m k : ℕ) (all out : List PlainRelation) → length (products braid m) ≤ k → all ≡ flat_map (block_relations braid m) (take k (products braid m)) → IsPermutation all out → IsSortedByKey (λ (r : PlainRelation). r.candidate) word_cmp out →
    out ≡ relations is_killed braid m
unfolding block_relations
sorted_relations braid m k all out past e p s =
    sorted_parts (λ (r : PlainRelation). r.candidate) braid (products braid m) (relations is_killed braid m) out (products_are_distinct braid m) (candidate_is_listed braid m) (relations_rise is_killed braid m)
    (subst (λ rs. IsPermutation rs out) (e ∙ ap (flat_map (block_relations braid m)) (take_all k (products braid m) past)) p) s

-- ---- dimensions

-- the least words of the first k blocks, counted
pub record HasCounted (braid : BraidValue) (m k words : ℕ) : Type 0 where
  pub count : words ≡ sum_by (λ g. length (block_basis braid m g)) (take k (products braid m))
  pub most : words ≤ k * MOST_ROWS

pub counted_more : (g : GradedValue) → IsGraded g → (m k words more : ℕ) (r : PlainRule) (us : List (List ℕ)) → m ≤ g.last → k < length (products g.braid m) → HasCounted g.braid m k words → IsRuleOf g.braid m (word_at (products g.braid m) k) r → us ≡ r.basis → more ≡ length us → HasCounted g.braid m (k + 1) (words + more)
counted_more g h m k words more r us within less so_far rule us_is e =
    let block : List ℕ = word_at (products g.braid m) k in
    let size : more ≡ length (block_basis g.braid m block) = e ∙ ap length (us_is ∙ basis_is g.braid m block r rule) in
    let few = basis_within_rows g.braid h.braid m block in
    let rows_few = finished_within g h m within block (word_at_is_in (products g.braid m) k less) in
    let most = h.few_rows in
    let limit = so_far.most in
    record {
      count =
          ap₂ (λ x y. x + y) so_far.count size
          ∙ sym (ap (sum_by (λ b. length (block_basis g.braid m b))) (take_more (products g.braid m) k [] less) ∙ sum_by_push (λ b. length (block_basis g.braid m b)) (take k (products g.braid m)) block);
      most = omega (arith, size, few, rows_few, most, limit);
    }

pub counted_all : (braid : BraidValue) → IsBraid braid → (m k words : ℕ) → length (products braid m) ≤ k → HasCounted braid m k words → words ≡ dimension is_in_kernel braid m
unfolding block_basis
counted_all braid is m k words past h =
    h.count ∙ ap (sum_by (λ g. length (block_basis braid m g))) (take_all k (products braid m) past)
    ∙ parts_count (λ w. w) braid (products braid m) (basis is_killed braid m) (products_are_distinct braid m) (λ w i. product_is_listed braid m w i)
    ∙ ap length (sym ((one_reading braid is).alike.bases m))

-- ---- degree 0

pub some_products : (braid : BraidValue) → 0 < length (products braid 0)
some_products braid = let e = ap length (products_first braid) in omega (arith, e)

pub first_sizes : (braid : BraidValue) (n : ℕ) → n ≡ length (block_basis braid 0 (word_at (products braid 0) 0)) → n < DIMENSION_BOUND → AreSizes braid 0 (n ∷ [])
first_sizes braid n e small = record {
  counts =
      ap (λ k. k ∷ []) (e ∙ ap (λ gs. length (block_basis braid 0 (word_at gs 0))) (products_first braid))
      ∙ sym (ap (map (λ g. length (block_basis braid 0 g))) (products_first braid));
  small = each;
}
  where
    each : (k : ℕ) → slice_index (n ∷ []) k < DIMENSION_BOUND
    each zero = small
    each (suc k) = omega arith
