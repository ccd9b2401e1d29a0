-- How the normal form of a listed word `a v b` that isn't new is read: from the left, by that of `v b`, or from the right, by that of `a v`.
use Rattle.std.proofs.Common.{◌≡◌, ℕ, suc, ◌-◌, true, false, List, [], ◌∷◌, ◌++◌, length, refl, sym, ◌∙◌, ap, subst, arith, inl, inr, ◌⊎◌}
use Rattle.std.specs.Prelude.{slice_index}
use Rattle.std.specs.List.{AllByRecursion, Contains}
use Rattle.std.specs.declared.cmp.Ordering.TheVariants.{Less}
use Rattle.nichols_tensor.specs.Combination.{Combination, AllAmong, linear_map, single}
use Rattle.nichols_tensor.specs.InOrder.{in_order}
use Rattle.nichols_tensor.specs.Words.{IsWordOver}
use Rattle.nichols_tensor.specs.WordOrder.{word_cmp}
use Rattle.nichols_tensor.proofs.Over.{word_over_front, word_over_back}
use Rattle.nichols_tensor.proofs.Pushed.{pushed_length, pushed_over}
use Rattle.nichols_braid.specs.Braid.{BraidValue, IsBraid, IsLetter, act}
use Rattle.nichols_braid.specs.Kernel.{is_killed}
use Rattle.nichols_braid.specs.Least.{is_least, normal_form}
use Rattle.nichols_braid.specs.NewWordLaws.{ReadsEarlierWords}
use Rattle.nichols_braid.specs.Product.{product_of, product_before}
use Rattle.nichols_braid.specs.Products.{products}
use Rattle.nichols_braid.proofs.BraidLaws.{killed_is_linear, killed_is_ideal_from_right}
use Rattle.nichols_braid.proofs.KeptProducts.{alike_before, same_product}
use Rattle.nichols_braid.proofs.LeftLaws.{killed_is_ideal_from_left}
use Rattle.nichols_braid.proofs.NewWordLaws.{forms_read_earlier_words, left_forms_are_normal, right_forms_are_normal}
use Rattle.nichols_braid.proofs.Prefixes.{prefix_is_least}
use Rattle.nichols_braid.proofs.Reduction.{in_basis}
use Rattle.nichols_braid.proofs.Spanning.{split_last}
use Rattle.nichols_braid.proofs.Suffixes.{suffix_is_least}
use Rattle.nichols_value.specs.Block.{block_basis, left_lower_basis, lower_basis}
use Rattle.nichols_value.proofs.Blocks.{from_block_basis, in_lower_basis, normal_in_block, product_before_of}
use Rattle.nichols_value.proofs.LeftBlocks.{alike_by_product, in_left_lower_basis, right_product}
use Rattle.nichols_block.specs.Words.{but_last}
use Rattle.nichols_block.proofs.ListedWords.{but_last-push, IsListedWord}

-- from the left: `v b` isn't least, and `a v` is; v has m letters, and `a v b` the product g
pub record IsReadLeft (braid : BraidValue) (m : ℕ) (g : List ℕ) (a : ℕ) (v : List ℕ) (b : ℕ) : Type 0 where
  pub front : is_least is_killed braid (a ∷ v) ≡ true
  pub product : (c : ℕ) → IsLetter braid c → slice_index g (c - 1) ≡ a → product_of braid (v ++ b ∷ []) ≡ product_before braid c g
  pub middle : Contains (lower_basis braid (suc m) (product_of braid (v ++ b ∷ [])) b) v
  pub among : AllAmong (normal_form is_killed braid (suc m) (single (v ++ b ∷ []))) (left_lower_basis braid (suc (suc m)) g a)
  pub earlier : AllByRecursion (λ t. word_cmp (a ∷ t.word) (a ∷ v ++ b ∷ []) ≡ Less) (normal_form is_killed braid (suc m) (single (v ++ b ∷ [])))
  pub form : normal_form is_killed braid (suc (suc m)) (single (a ∷ v ++ b ∷ []))
      ≡ in_order braid.field (linear_map braid.field (λ u. normal_form is_killed braid (suc (suc m)) (single (a ∷ u))) (normal_form is_killed braid (suc m) (single (v ++ b ∷ []))))

-- from the right: `a v` isn't least, and `v b` is
pub record IsReadRight (braid : BraidValue) (m : ℕ) (g : List ℕ) (a : ℕ) (v : List ℕ) (b : ℕ) : Type 0 where
  pub back : is_least is_killed braid (v ++ b ∷ []) ≡ true
  pub product : product_of braid (a ∷ v) ≡ product_before braid b g
  pub middle : Contains (left_lower_basis braid (suc m) (product_of braid (a ∷ v)) a) v
  pub among : AllAmong (normal_form is_killed braid (suc m) (single (a ∷ v))) (lower_basis braid (suc (suc m)) g b)
  pub earlier : AllByRecursion (λ t. word_cmp (t.word ++ b ∷ []) (a ∷ v ++ b ∷ []) ≡ Less) (normal_form is_killed braid (suc m) (single (a ∷ v)))
  pub form : normal_form is_killed braid (suc (suc m)) (single (a ∷ v ++ b ∷ []))
      ≡ in_order braid.field (linear_map braid.field (λ u. normal_form is_killed braid (suc (suc m)) (single (u ++ b ∷ []))) (normal_form is_killed braid (suc m) (single (a ∷ v))))

-- words of one product have one product with a letter in front, and with a letter behind
pub product_in_front : (braid : BraidValue) (a : ℕ) (u w : List ℕ) → product_of braid u ≡ product_of braid w → product_of braid (a ∷ u) ≡ product_of braid (a ∷ w)
product_in_front braid a u w e = same_product braid (a ∷ u) (a ∷ w) (λ j l. ap (act braid a) (alike_by_product braid u w e j l))

pub product_behind : (braid : BraidValue) → IsBraid braid → (b : ℕ) → IsLetter braid b → (u w : List ℕ) → product_of braid u ≡ product_of braid w → product_of braid (u ++ b ∷ []) ≡ product_of braid (w ++ b ∷ [])
product_behind braid is b lb u w e = same_product braid (u ++ b ∷ []) (w ++ b ∷ []) (alike_before braid is.rack u w (b ∷ []) (lb, tt) (alike_by_product braid u w e))

-- the words of the normal form of a word are least words with its product
words_of_block : (braid : BraidValue) (m : ℕ) (g : List ℕ) (ws : List (List ℕ)) → ((u : List ℕ) → Contains (block_basis braid m g) u → Contains ws u) → (f : Combination) → AllAmong f (block_basis braid m g) → AllAmong f ws
unfolding AllAmong
words_of_block braid m g ws h [] a = tt
words_of_block braid m g ws h (t ∷ f) a = (h t.word a.0, words_of_block braid m g ws h f a.1)

-- the parts of a listed word
record IsWhole (braid : BraidValue) (m : ℕ) (g : List ℕ) (a : ℕ) (v : List ℕ) (b : ℕ) : Type 0 where
  size : length v ≡ m
  first : IsLetter braid a
  over : IsWordOver braid.letters v
  last : IsLetter braid b
  whole : product_of braid (a ∷ v ++ b ∷ []) ≡ g
  least : (is_least is_killed braid (a ∷ v) ≡ true) ⊎ (is_least is_killed braid (v ++ b ∷ []) ≡ true)

whole_word : (braid : BraidValue) (m : ℕ) (g : List ℕ) (a : ℕ) (v : List ℕ) (b : ℕ) → IsListedWord braid (suc (suc m)) g (a ∷ v ++ b ∷ []) → IsWhole braid m g a v b
whole_word braid m g a v b h = record {
  size = (let n : suc (length (v ++ b ∷ [])) ≡ suc (suc m) = h.size in omega (arith, n, pushed_length v b));
  first = h.over.0;
  over = word_over_front braid.letters v (b ∷ []) h.over.1;
  last = (word_over_back braid.letters v (b ∷ []) h.over.1).0;
  whole = h.product;
  least = either h.least;
}
  where
    either : (is_least is_killed braid (but_last (a ∷ v ++ b ∷ [])) ≡ true) ⊎ (is_least is_killed braid (v ++ b ∷ []) ≡ true) → (is_least is_killed braid (a ∷ v) ≡ true) ⊎ (is_least is_killed braid (v ++ b ∷ []) ≡ true)
    either (inl l) = inl (ap (is_least is_killed braid) (sym (but_last-push (a ∷ v) b)) ∙ l)
    either (inr l) = inr l

pub read_left : (braid : BraidValue) → IsBraid braid → (m : ℕ) (g : List ℕ) → Contains (products braid (suc (suc m))) g → (a : ℕ) (v : List ℕ) (b : ℕ) → IsListedWord braid (suc (suc m)) g (a ∷ v ++ b ∷ []) →
    is_least is_killed braid (v ++ b ∷ []) ≡ false → IsReadLeft braid m g a v b
read_left braid is m g there a v b listed other = record {
  front = front;
  product = product;
  middle = in_lower_basis braid is m (product_of braid back) b w.last v
      (in_basis is_killed braid m v w.size w.over (suffix_is_least braid is.field is_killed (killed_is_ideal_from_left braid is) (a ∷ []) v (w.first, w.over) front)) refl;
  among = words_of_block braid (suc m) (product_of braid back) (left_lower_basis braid (suc (suc m)) g a)
      (λ u i. let (j, e) = from_block_basis braid (suc m) (product_of braid back) u i in in_left_lower_basis braid (suc m) g a u j (product_in_front braid a u back e ∙ w.whole)) (normal_form is_killed braid (suc m) (single back))
      (normal_in_block braid is (suc m) (product_of braid back) back size over refl);
  earlier = subst (λ n. AllByRecursion (λ t. word_cmp (a ∷ t.word) (a ∷ back) ≡ Less) (normal_form is_killed braid n (single back))) size (reads.left a);
  form = left_forms_are_normal is_killed braid is.field (killed_is_ideal_from_left braid is) (suc m) a back w.first size over;
}
  where
    w : IsWhole braid m g a v b
    w = whole_word braid m g a v b listed

    back : List ℕ
    back = v ++ b ∷ []

    size : length back ≡ suc m
    size = pushed_length v b ∙ ap suc w.size

    over : IsWordOver braid.letters back
    over = pushed_over braid.letters v b w.over w.last

    reads : ReadsEarlierWords is_killed braid back
    reads = forms_read_earlier_words is_killed braid is.field back over (killed_is_linear braid is (length back)) other

    front : is_least is_killed braid (a ∷ v) ≡ true
    front = elim w.least [
      | inl l ↦ l
      | inr l ↦ absurd (let e : true ≡ false = sym l ∙ other in cc)
    ]

    product : (c : ℕ) → IsLetter braid c → slice_index g (c - 1) ≡ a → product_of braid back ≡ product_before braid c g
    product c lc sent = product_before_of braid is g c lc back over (right_product braid is (suc (suc m)) g there back over c lc (ap (λ d. product_of braid (d ∷ back)) sent ∙ w.whole))

pub read_right : (braid : BraidValue) → IsBraid braid → (m : ℕ) (g : List ℕ) (a : ℕ) (v : List ℕ) (b : ℕ) → IsListedWord braid (suc (suc m)) g (a ∷ v ++ b ∷ []) → is_least is_killed braid (a ∷ v) ≡ false → IsReadRight braid m g a v b
read_right braid is m g a v b listed other = record {
  back = back;
  product = product_before_of braid is g b w.last front over w.whole;
  middle = in_left_lower_basis braid m (product_of braid front) a v
      (in_basis is_killed braid m v w.size w.over (prefix_is_least braid is.field is_killed (killed_is_ideal_from_right braid is) v (b ∷ []) (pushed_over braid.letters v b w.over w.last) back)) refl;
  among = words_of_block braid (suc m) (product_of braid front) (lower_basis braid (suc (suc m)) g b)
      (λ u i. let (j, e) = from_block_basis braid (suc m) (product_of braid front) u i in in_lower_basis braid is (suc m) g b w.last u j (product_behind braid is b w.last u front e ∙ w.whole))
      (normal_form is_killed braid (suc m) (single front)) (normal_in_block braid is (suc m) (product_of braid front) front size over refl);
  earlier = subst (λ n. AllByRecursion (λ t. word_cmp (t.word ++ b ∷ []) (front ++ b ∷ []) ≡ Less) (normal_form is_killed braid n (single front))) size (reads.right b);
  form = right_forms_are_normal is_killed braid is.field (killed_is_ideal_from_right braid is) (suc m) front b size over w.last;
}
  where
    w : IsWhole braid m g a v b
    w = whole_word braid m g a v b listed

    front : List ℕ
    front = a ∷ v

    size : length front ≡ suc m
    size = ap suc w.size

    over : IsWordOver braid.letters front
    over = (w.first, w.over)

    reads : ReadsEarlierWords is_killed braid front
    reads = forms_read_earlier_words is_killed braid is.field front over (killed_is_linear braid is (length front)) other

    back : is_least is_killed braid (v ++ b ∷ []) ≡ true
    back = elim w.least [
      | inl l ↦ absurd (let e : true ≡ false = sym l ∙ other in cc)
      | inr l ↦ l
    ]

-- a word of two letters or more has a first and a last one
pub record HasEnds (m : ℕ) (w : List ℕ) : Type 0 where
  pub first : ℕ
  pub middle : List ℕ
  pub last : ℕ
  pub whole : w ≡ first ∷ middle ++ last ∷ []
  pub size : length middle ≡ m

pub has_ends : (m : ℕ) (w : List ℕ) → length w ≡ suc (suc m) → HasEnds m w
has_ends m [] e = absurd (omega arith)
has_ends m (a ∷ w) e =
    let (v, b, same) = split_last m w (omega arith) in record {
      first = a;
      middle = v;
      last = b;
      whole = ap (λ x. a ∷ x) same;
      size = (let n : suc (length v) ≡ length w = sym (pushed_length v b) ∙ ap length (sym same) in omega (arith, n, e));
    }
