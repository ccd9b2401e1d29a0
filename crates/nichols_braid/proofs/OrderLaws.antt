-- The braid on ranks: its tables, its laws, its kernel and its least words.
use Rattle.std.proofs.Common.{◌≡◌, ℕ, ◌*◌, List, [], ◌∷◌, map, length, refl, sym, ◌∙◌, ap, ap₂, subst}
use Rattle.std.specs.List.{AllByRecursion}
use Rattle.std.specs.declared.cmp.Ordering.TheVariants.{Less}
use Rattle.std.proofs.lemmas.List.{length-map}
use Rattle.nichols_field.specs.Field.{IsElement, times, negative}
use Rattle.nichols_tensor.specs.Combination.{Term, Combination, AllElements, single, minus, scalar_multiple}
use Rattle.nichols_tensor.specs.Words.{IsWordOver, IsOver}
use Rattle.nichols_tensor.specs.WordOrder.{word_cmp}
use Rattle.nichols_braid.specs.Braid.{BraidValue, IsBraid, IsLetter, act, scalar}
use Rattle.nichols_braid.specs.Kernel.{is_in_kernel}
use Rattle.nichols_braid.specs.LeastLaws.{IsOfEarlierWords, IsLeastWord}
use Rattle.nichols_braid.specs.Order.{IsOrder, rank_of, letter_at, renamed_word, renamed, in_ranks, in_letters, word_cmp_by, table_by, relabelled}
use Rattle.nichols_braid.specs.OrderLaws.{RelabelledIsBraid, RanksActAsLetters, ImagesAreRelabelled, KernelIsRelabelled, IsOfEarlierWordsBy, IsLeastWordBy, LeastWordsAreRelabelled}
use Rattle.nichols_braid.proofs.Rearranged.{rearranged_length}
use Rattle.nichols_braid.proofs.Ranks.{rank_is_letter, letter_of_rank, letter_is_letter, rank_of_letter, ranks_differ, ranks_over, letters_over, ranks_of_letters}
use Rattle.nichols_braid.proofs.Tabled.{rows_length, entry_of_rows}
use Rattle.nichols_braid.proofs.Renamed.{ActsAlike, renamed_term, image_renamed, kernel_renamed, renamed-minus}

-- ---- the tables, by ranks

act_by_rank : (braid : BraidValue) (order : List ℕ) → IsOrder braid.letters order → (r s : ℕ) → IsLetter braid r → IsLetter braid s →
    act (relabelled order braid) r s ≡ rank_of order (act braid (letter_at order r) (letter_at order s))
unfolding relabelled
act_by_rank braid order is r s l m = entry_of_rows 0 (λ i j. rank_of order (act braid i j)) braid.letters order r s (rearranged_length braid.letters order is) l m

scalar_by_rank : (braid : BraidValue) (order : List ℕ) → IsOrder braid.letters order → (r s : ℕ) → IsLetter braid r → IsLetter braid s →
    scalar (relabelled order braid) r s ≡ scalar braid (letter_at order r) (letter_at order s)
unfolding relabelled
scalar_by_rank braid order is r s l m = entry_of_rows 0 (scalar braid) braid.letters order r s (rearranged_length braid.letters order is) l m

pub ranks_act_as_letters : RanksActAsLetters
ranks_act_as_letters braid is order o a b la lb =
    let n : ℕ = braid.letters in
    let ra : IsLetter braid (rank_of order a) = rank_is_letter n order o a la in
    let rb : IsLetter braid (rank_of order b) = rank_is_letter n order o b lb in
    let back : (x : ℕ) → IsLetter braid x → letter_at order (rank_of order x) ≡ x = letter_of_rank n order o in (
      act_by_rank braid order o (rank_of order a) (rank_of order b) ra rb ∙ ap₂ (λ x y. rank_of order (act braid x y)) (back a la) (back b lb),
      scalar_by_rank braid order o (rank_of order a) (rank_of order b) ra rb ∙ ap₂ (scalar braid) (back a la) (back b lb),
    )

-- ---- the laws of a braid, from those of the letters that ranks stand for

-- an order of a braid's letters
record Ordered (braid : BraidValue) (order : List ℕ) : Type 0 where
  is : IsBraid braid
  order_is : IsOrder braid.letters order

at_is_letter : (braid : BraidValue) (order : List ℕ) → Ordered braid order → (r : ℕ) → IsLetter braid r → IsLetter braid (letter_at order r)
at_is_letter braid order o r l = letter_is_letter braid.letters order o.order_is r l

act_is_letter : (braid : BraidValue) (order : List ℕ) → Ordered braid order → (r s : ℕ) → IsLetter braid r → IsLetter braid s → IsLetter braid (act (relabelled order braid) r s)
act_is_letter braid order o r s l m =
    let a : ℕ = letter_at order r in
    let b : ℕ = letter_at order s in
    subst (IsLetter braid) (sym (act_by_rank braid order o.order_is r s l m))
    (rank_is_letter braid.letters order o.order_is (act braid a b) (o.is.rack.closed a b (at_is_letter braid order o r l) (at_is_letter braid order o s m)))

-- the letter of the rank that a rank sends another to
at_act : (braid : BraidValue) (order : List ℕ) → Ordered braid order → (r s : ℕ) → IsLetter braid r → IsLetter braid s →
    letter_at order (act (relabelled order braid) r s) ≡ act braid (letter_at order r) (letter_at order s)
at_act braid order o r s l m =
    let a : ℕ = letter_at order r in
    let b : ℕ = letter_at order s in
    ap (letter_at order) (act_by_rank braid order o.order_is r s l m)
    ∙ letter_of_rank braid.letters order o.order_is (act braid a b) (o.is.rack.closed a b (at_is_letter braid order o r l) (at_is_letter braid order o s m))

acts_distribute : (braid : BraidValue) (order : List ℕ) → Ordered braid order → (r s t : ℕ) → IsLetter braid r → IsLetter braid s → IsLetter braid t →
    act (relabelled order braid) r (act (relabelled order braid) s t) ≡ act (relabelled order braid) (act (relabelled order braid) r s) (act (relabelled order braid) r t)
acts_distribute braid order o r s t l m h =
    let new : BraidValue = relabelled order braid in
    act_by_rank braid order o.order_is r (act new s t) l (act_is_letter braid order o s t m h)
    ∙ ap (λ x. rank_of order (act braid (letter_at order r) x)) (at_act braid order o s t m h)
    ∙ ap (rank_of order) (o.is.rack.distributive (letter_at order r) (letter_at order s) (letter_at order t) (at_is_letter braid order o r l) (at_is_letter braid order o s m) (at_is_letter braid order o t h))
    ∙ ap₂ (λ x y. rank_of order (act braid x y)) (sym (at_act braid order o r s l m)) (sym (at_act braid order o r t l h))
    ∙ sym (act_by_rank braid order o.order_is (act new r s) (act new r t) (act_is_letter braid order o r s l m) (act_is_letter braid order o r t l h))

acts_injectively : (braid : BraidValue) (order : List ℕ) → Ordered braid order → (r s t : ℕ) → IsLetter braid r → IsLetter braid s → IsLetter braid t →
    act (relabelled order braid) r s ≡ act (relabelled order braid) r t → s ≡ t
acts_injectively braid order o r s t l m h e =
    let a : ℕ = letter_at order r in
    let b : ℕ = letter_at order s in
    let c : ℕ = letter_at order t in
    let la : IsLetter braid a = at_is_letter braid order o r l in
    let lb : IsLetter braid b = at_is_letter braid order o s m in
    let lc : IsLetter braid c = at_is_letter braid order o t h in
    sym (rank_of_letter braid.letters order o.order_is s m)
    ∙ ap (rank_of order) (o.is.rack.injective a b c la lb lc (sym (at_act braid order o r s l m) ∙ ap (letter_at order) e ∙ at_act braid order o r t l h))
    ∙ rank_of_letter braid.letters order o.order_is t h

scalars_agree : (braid : BraidValue) (order : List ℕ) → Ordered braid order → (r s t : ℕ) → IsLetter braid r → IsLetter braid s → IsLetter braid t →
    times braid.field (scalar (relabelled order braid) r (act (relabelled order braid) s t)) (scalar (relabelled order braid) s t)
    ≡ times braid.field (scalar (relabelled order braid) (act (relabelled order braid) r s) (act (relabelled order braid) r t)) (scalar (relabelled order braid) r t)
scalars_agree braid order o r s t l m h =
    let new : BraidValue = relabelled order braid in
    ap₂ (times braid.field)
    (scalar_by_rank braid order o.order_is r (act new s t) l (act_is_letter braid order o s t m h) ∙ ap (scalar braid (letter_at order r)) (at_act braid order o s t m h))
    (scalar_by_rank braid order o.order_is s t m h)
    ∙ o.is.cocycle.law (letter_at order r) (letter_at order s) (letter_at order t) (at_is_letter braid order o r l) (at_is_letter braid order o s m) (at_is_letter braid order o t h)
    ∙ sym (ap₂ (times braid.field)
    (scalar_by_rank braid order o.order_is (act new r s) (act new r t) (act_is_letter braid order o r s l m) (act_is_letter braid order o r t l h) ∙ ap₂ (scalar braid) (at_act braid order o r s l m) (at_act braid order o r t l h))
    (scalar_by_rank braid order o.order_is r t l h))

table_size : (n : ℕ) (order : List ℕ) → IsOrder n order → (f : ℕ → ℕ → ℕ) → length (table_by order f) ≡ n * n
table_size n order o f = rows_length f order order ∙ ap₂ (λ k m. k * m) (rearranged_length n order o) (rearranged_length n order o)

pub relabelled_is_braid : RelabelledIsBraid
unfolding relabelled
relabelled_is_braid braid is order o = record {
  field = is.field;
  least = is.least;
  most = is.most;
  rack_size = table_size braid.letters order o (λ i j. rank_of order (act braid i j));
  cocycle_size = table_size braid.letters order o (scalar braid);
  rack = record {
    closed = λ r s l m. act_is_letter braid order both r s l m;
    injective = λ r s t l m h e. acts_injectively braid order both r s t l m h e;
    distributive = λ r s t l m h. acts_distribute braid order both r s t l m h;
  };
  cocycle = record {
    element = λ r s l m.
        subst (IsElement braid.field) (sym (scalar_by_rank braid order o r s l m)) (is.cocycle.element (letter_at order r) (letter_at order s) (at_is_letter braid order both r l) (at_is_letter braid order both s m));
    nonzero = λ r s l m e. is.cocycle.nonzero (letter_at order r) (letter_at order s) (at_is_letter braid order both r l) (at_is_letter braid order both s m) (sym (scalar_by_rank braid order o r s l m) ∙ e);
    law = λ r s t l m h. scalars_agree braid order both r s t l m h;
  };
}
  where
    both : Ordered braid order
    both = record { is = is; order_is = o }

-- ---- images and kernels

pub images_are_relabelled : ImagesAreRelabelled
unfolding relabelled
images_are_relabelled braid is order o f over = image_renamed (rank_of order) braid (relabelled order braid).rack (relabelled order braid).cocycle is.rack (alike braid is order o) f over
  where
    alike : (braid : BraidValue) → IsBraid braid → (order : List ℕ) → IsOrder braid.letters order → ActsAlike (rank_of order) braid (relabelled order braid).rack (relabelled order braid).cocycle
    alike braid is order o = record {
      acts = λ a b la lb. (ranks_act_as_letters braid is order o a b la lb).0;
      scalars = λ a b la lb. (ranks_act_as_letters braid is order o a b la lb).1;
    }

pub kernel_is_relabelled : KernelIsRelabelled
unfolding relabelled
kernel_is_relabelled braid is order o m f over =
    kernel_renamed (rank_of order) braid (relabelled order braid).rack (relabelled order braid).cocycle is.rack
    (record { acts = λ a b la lb. (ranks_act_as_letters braid is order o a b la lb).0; scalars = λ a b la lb. (ranks_act_as_letters braid is order o a b la lb).1 })
    (λ a b la lb e. ranks_differ braid.letters order o a b la lb e) m f over

-- ---- least words

pub ranks_renamed_back : (n : ℕ) (order : List ℕ) → IsOrder n order → (f : Combination) → IsOver n f → in_ranks order (in_letters order f) ≡ f
ranks_renamed_back n order o [] over = refl
ranks_renamed_back n order o (t ∷ f) over =
    ap₂ (λ (v : List ℕ) (g : Combination). record { word = v; coefficient = t.coefficient } ∷ g) (ranks_of_letters n order o t.word over.0) (ranks_renamed_back n order o f over.1)

-- what holds of each term still does after its letters are sent
pub all_renamed : (φ : ℕ → ℕ) (P Q : Term → Type 0) → ((t : Term) → P t → Q (renamed_term φ t)) → (f : Combination) → AllByRecursion P f → AllByRecursion Q (renamed φ f)
all_renamed φ P Q h [] all = tt
all_renamed φ P Q h (t ∷ f) all = (h t all.0, all_renamed φ P Q h f all.1)

all_both : (P Q : Term → Type 0) (f : Combination) → AllByRecursion P f → AllByRecursion Q f → AllByRecursion (λ t. P t × Q t) f
all_both P Q [] h k = tt
all_both P Q (t ∷ f) h k = ((h.0, k.0), all_both P Q f h.1 k.1)

pub earlier_in_ranks : (braid : BraidValue) (order : List ℕ) → IsOrder braid.letters order → (w : List ℕ) (f : Combination) → IsOfEarlierWordsBy order braid w f →
    IsOfEarlierWords (relabelled order braid) (renamed_word (rank_of order) w) (in_ranks order f)
unfolding relabelled
earlier_in_ranks braid order o w f h = record {
  over = all_renamed (rank_of order) (λ t. IsWordOver braid.letters t.word) (λ t. IsWordOver braid.letters t.word) (λ t over. ranks_over braid.letters order o t.word over) f h.over;
  degree = all_renamed (rank_of order) (λ t. length t.word ≡ length w) (λ t. length t.word ≡ length (map (rank_of order) w)) (λ t size. length-map t.word (rank_of order) ∙ size ∙ sym (length-map w (rank_of order))) f h.degree;
  earlier = all_renamed (rank_of order) (λ t. word_cmp_by order t.word w ≡ Less) (λ t. word_cmp t.word (map (rank_of order) w) ≡ Less) (λ t less. less) f h.earlier;
}

earlier_in_letters : (braid : BraidValue) (order : List ℕ) → IsOrder braid.letters order → (w : List ℕ) (f : Combination) → IsOfEarlierWords (relabelled order braid) (renamed_word (rank_of order) w) f →
    IsOfEarlierWordsBy order braid w (in_letters order f)
unfolding relabelled
earlier_in_letters braid order o w f h = record {
  over = all_renamed (letter_at order) (λ t. IsWordOver braid.letters t.word) (λ t. IsWordOver braid.letters t.word) (λ t over. letters_over braid.letters order o t.word over) f h.over;
  degree = all_renamed (letter_at order) (λ t. length t.word ≡ length (map (rank_of order) w)) (λ t. length t.word ≡ length w) (λ t size. length-map t.word (letter_at order) ∙ size ∙ length-map w (rank_of order)) f h.degree;
  earlier = all_renamed (letter_at order) (λ t. IsWordOver braid.letters t.word × (word_cmp t.word (map (rank_of order) w) ≡ Less)) (λ t. word_cmp_by order t.word w ≡ Less)
      (λ t both. ap (λ v. word_cmp v (map (rank_of order) w)) (ranks_of_letters braid.letters order o t.word both.0) ∙ both.1) f
      (all_both (λ t. IsWordOver braid.letters t.word) (λ t. word_cmp t.word (map (rank_of order) w) ≡ Less) f h.over h.earlier);
}

-- whether w - f is in the kernel, in letters and in ranks
pub difference_in_ranks : (braid : BraidValue) → IsBraid braid → (order : List ℕ) → IsOrder braid.letters order → (w : List ℕ) → IsWordOver braid.letters w → (f : Combination) → IsOver braid.letters f →
    is_in_kernel (relabelled order braid) (length (map (rank_of order) w)) (minus braid.field (single (map (rank_of order) w)) (in_ranks order f)) ≡ is_in_kernel braid (length w) (minus braid.field (single w) f)
difference_in_ranks braid is order o w over f of =
    ap (is_in_kernel (relabelled order braid) (length (map (rank_of order) w))) (renamed-minus (rank_of order) braid.field (single w) f)
    ∙ ap (λ m. is_in_kernel (relabelled order braid) m (in_ranks order (minus braid.field (single w) f))) (length-map w (rank_of order))
    ∙ kernel_is_relabelled braid is order o (length w) (minus braid.field (single w) f) (over, multiple_over f of)
  where
    multiple_over : (g : Combination) → IsOver braid.letters g → IsOver braid.letters (scalar_multiple braid.field (negative braid.field 1) g)
    multiple_over [] h = tt
    multiple_over (t ∷ g) h = (h.0, multiple_over g h.1)

pub least_words_are_relabelled : LeastWordsAreRelabelled
unfolding relabelled
least_words_are_relabelled braid is order o w over = (to, back)
  where
    elements_renamed : (φ : ℕ → ℕ) (f : Combination) → AllElements braid.field f → AllElements braid.field (renamed φ f)
    elements_renamed φ f h = all_renamed φ (λ t. IsElement braid.field t.coefficient) (λ t. IsElement braid.field t.coefficient) (λ t e. e) f h

    back : IsLeastWord is_in_kernel (relabelled order braid) (renamed_word (rank_of order) w) → IsLeastWordBy is_in_kernel order braid w
    back least f earlier elements h =
        least (in_ranks order f) (earlier_in_ranks braid order o w f earlier) (elements_renamed (rank_of order) f elements) (difference_in_ranks braid is order o w over f earlier.over ∙ h)

    to : IsLeastWordBy is_in_kernel order braid w → IsLeastWord is_in_kernel (relabelled order braid) (renamed_word (rank_of order) w)
    to least f earlier elements h =
        let g : Combination = in_letters order f in
        let f_over : IsOver braid.letters f = earlier.over in
        least g (earlier_in_letters braid order o w f earlier) (elements_renamed (letter_at order) f elements)
        (sym (difference_in_ranks braid is order o w over g (earlier_in_letters braid order o w f earlier).over)
        ∙ ap (λ e. is_in_kernel (relabelled order braid) (length (map (rank_of order) w)) (minus braid.field (single (map (rank_of order) w)) e)) (ranks_renamed_back braid.letters order o f f_over)
        ∙ h)
