-- The dimension of the cover by the span of all u r v, and this span for all r in the kernel.
use Rattle.std.proofs.Common.{◌≡◌, ◌≤◌, ℕ, suc, List, [], ◌∷◌, ◌++◌, length, refl, sym, ◌∙◌, ap, subst}
use Rattle.std.specs.List.{AllByRecursion, Contains}
use Rattle.nichols_field.specs.Field.{FieldValue, IsField}
use Rattle.nichols_tensor.specs.Combination.{Combination, HasSameValues, scalar_multiple, linear_map, single}
use Rattle.nichols_tensor.specs.Span.{IsSpanned, IsGreatestNumber, IsIndependent, weighted_sum}
use Rattle.nichols_tensor.specs.Words.{IsWordOver, IsOver, HasDegree}
use Rattle.nichols_tensor.proofs.Linear.{same_append, same_images, same_scaled, extended_is_zero}
use Rattle.nichols_tensor.proofs.Maps.{reworded, reworded_is_extended}
use Rattle.nichols_tensor.proofs.Over.{all-append, all-scalar_multiple, all_at}
use Rattle.nichols_tensor.proofs.Spans.{IsLinear, linear_map_is_linear, spanned_image, spanned_one, spanned_same, spanned_through}
use Rattle.nichols_tensor.proofs.Tests.{all_of_entries}
use Rattle.nichols_braid.specs.Braid.{BraidValue}
use Rattle.nichols_braid.specs.Kernel.{IsInKernel, is_in_kernel}
use Rattle.nichols_braid.specs.Least.{relations}
use Rattle.nichols_braid.proofs.Killed.{is_in_kernel_sound, is_in_kernel_complete}
use Rattle.nichols_cover.specs.Cover.{cover_dimension, without_tables}
use Rattle.nichols_cover.specs.Ideal.{IsBetween, between, in_ideal, generators}
use Rattle.nichols_cover.specs.Laws.{IsQuadratic, IsInIdeal, IsInKernelIdeal, DimensionIsCodimension, RelationsGiveTheKernelIdeal, CoverOfABraid}
use Rattle.nichols_cover.proofs.Codimension.{IsZeroInDegree, least_words_count}
use Rattle.nichols_cover.proofs.InIdeal.{ideal_is_decided, ideal_is_linear}
use Rattle.nichols_cover.proofs.Quadratic.{generator_quadratic, relations_span_the_kernel}
use Rattle.nichols_cover.proofs.Shapes.{between_shape}

-- ---- properties that have the same combinations, up to their values

-- each combination with one property has the values of one with another
abbrev IsMatched : FieldValue → (Combination → Type 0) → (Combination → Type 0) → Type 0
IsMatched k P Q = (f : Combination) → P f → (h : Combination) × Q h × HasSameValues k f h

record AreMatched (k : FieldValue) (Q : Combination → Type 0) (fs hs : List Combination) : Type 0 where
  count : length hs ≡ length fs
  all : AllByRecursion Q hs
  sums : (cs : List ℕ) → HasSameValues k (weighted_sum k cs fs) (weighted_sum k cs hs)

matched_list : (k : FieldValue) → IsField k → (P Q : Combination → Type 0) → IsMatched k P Q → (fs : List Combination) → AllByRecursion P fs → (hs : List Combination) × AreMatched k Q fs hs
matched_list k is P Q each [] all = ([], record { count = refl; all = tt; sums = none })
  where
    none : (cs : List ℕ) → HasSameValues k (weighted_sum k cs []) (weighted_sum k cs [])
    none cs w = refl
matched_list k is P Q each (f ∷ fs) all =
    let (h, q, same) = each f all.0 in
    let (hs, m) = matched_list k is P Q each fs all.1 in
    (h ∷ hs, record { count = ap suc m.count; all = (q, m.all); sums = sums h same hs m })
  where
    sums : (h : Combination) → HasSameValues k f h → (hs : List Combination) → AreMatched k Q fs hs → (cs : List ℕ) → HasSameValues k (weighted_sum k cs (f ∷ fs)) (weighted_sum k cs (h ∷ hs))
    sums h same hs m [] w = refl
    sums h same hs m (c ∷ cs) w = same_append k is (scalar_multiple k c f) (weighted_sum k cs fs) (scalar_multiple k c h) (weighted_sum k cs hs) (same_scaled k is c f h same) (m.sums cs) w

matched_independent : (k : FieldValue) (Q : Combination → Type 0) (fs hs : List Combination) → AreMatched k Q fs hs → IsIndependent k fs → IsIndependent k hs
matched_independent k Q fs hs m free cs count elements zero = free cs (count ∙ m.count) elements (λ w. m.sums cs w ∙ zero w)

same_greatest : (k : FieldValue) → IsField k → (P Q : Combination → Type 0) → IsMatched k P Q → IsMatched k Q P → (d : ℕ) → IsGreatestNumber k P d → IsGreatestNumber k Q d
same_greatest k is P Q to from d g =
    let (fs, size, all, free) = g.some in
    let (hs, m) = matched_list k is P Q to fs all in
    record { some = (hs, m.count ∙ size, m.all, matched_independent k Q fs hs m free); most = most }
  where
    most : (hs : List Combination) → AllByRecursion Q hs → IsIndependent k hs → length hs ≤ d
    most hs all free =
        let (fs, m) = matched_list k is Q P from hs all in
        subst (λ n. n ≤ d) m.count (g.most fs m.all (matched_independent k P hs fs m free))

-- ---- the dimension

-- what is spanned by combinations of degree m over the letters has the values of such a combination
plain_of : (k : FieldValue) → IsField k → (P : Combination → Type 0) (n m : ℕ) → ((g : Combination) → P g → HasDegree m g × IsOver n g) → (f : Combination) → IsSpanned k P f → (h : Combination) × HasDegree m h × IsOver n h × HasSameValues k f h
plain_of k is P n m shapes _ (IsSpanned.none f zero) = ([], tt, tt, zero)
plain_of k is P n m shapes _ (IsSpanned.more f c g h p s e) =
    let (r, size, over, same) = plain_of k is P n m shapes h s in
    let (own_size, own_over) = shapes g p in (
      scalar_multiple k c g ++ r,
      all-append _ (scalar_multiple k c g) r (all-scalar_multiple (λ w. length w ≡ m) k c g own_size) size,
      all-append _ (scalar_multiple k c g) r (all-scalar_multiple (IsWordOver n) k c g own_over) over,
      λ w. e w ∙ same_append k is (scalar_multiple k c g) h (scalar_multiple k c g) r (λ v. refl) same w,
    )

quadratic_in : (n : ℕ) (rs : List Combination) → AllByRecursion (IsQuadratic n) rs → (r : Combination) → Contains rs r → IsQuadratic n r
quadratic_in n rs shapes r i = all_at (IsQuadratic n) rs r shapes i

pub dimension_is_codimension : DimensionIsCodimension
unfolding cover_dimension
dimension_is_codimension field is n rs shapes m d = (
  λ g. (least_words_count (in_ideal rs) braid is m (ideal_is_linear rs braid is m) d).0 (same_greatest field is (IsInIdeal field n rs m) (IsZeroInDegree (in_ideal rs) braid m) to from d g),
  λ e. same_greatest field is (IsZeroInDegree (in_ideal rs) braid m) (IsInIdeal field n rs m) from to d ((least_words_count (in_ideal rs) braid is m (ideal_is_linear rs braid is m) d).1 e),
)
  where
    braid : BraidValue
    braid = without_tables field n

    to : IsMatched field (IsInIdeal field n rs m) (IsZeroInDegree (in_ideal rs) (without_tables field n) m)
    to f s =
        let (h, size, over, same) = plain_of field is (IsBetween n (Contains rs) m) n m (λ g b. between_shape n (Contains rs) m g (quadratic_in n rs shapes) b) f s in
        (h, (size, over, (ideal_is_decided rs braid is m h).1 (spanned_same field (IsBetween n (Contains rs) m) h f (λ w. sym (same w)) s)), same)

    from : IsMatched field (IsZeroInDegree (in_ideal rs) (without_tables field n) m) (IsInIdeal field n rs m)
    from f z = (f, (ideal_is_decided rs braid is m f).0 z.2, λ w. refl)

-- ---- what r may be

reworded_is_linear : (k : FieldValue) → IsField k → (word : List ℕ → List ℕ) → IsLinear k (reworded word)
reworded_is_linear k is word = record {
  same = λ f g h w. extended f w ∙ same_images k is image f g h w ∙ sym (extended g w);
  zero = λ f h w. extended f w ∙ extended_is_zero k is image f h w;
  more = λ c g h w. extended (scalar_multiple k c g ++ h) w ∙ (linear_map_is_linear k is image).more c g h w
      ∙ sym (same_append k is (scalar_multiple k c (reworded word g)) (reworded word h) (scalar_multiple k c (linear_map k image g)) (linear_map k image h) (same_scaled k is c (reworded word g) (linear_map k image g) (extended g)) (extended h) w);
}
  where
    image : List ℕ → Combination
    image v = single (word v)

    extended : (f : Combination) → HasSameValues k (reworded word f) (linear_map k (λ v. single (word v)) f)
    extended f = reworded_is_extended k is word f

abbrev IsOfKernel : BraidValue → Combination → Type 0
IsOfKernel braid r = IsQuadratic braid.letters r × IsInKernel braid r

pub relations_give_the_kernel_ideal : RelationsGiveTheKernelIdeal
relations_give_the_kernel_ideal braid is m f = (spanned_through k is.field Kernel Given to f, spanned_through k is.field Given Kernel from f)
  where
    k : FieldValue
    k = braid.field

    Kernel : Combination → Type 0
    Kernel g = IsBetween braid.letters (IsOfKernel braid) m g

    Given : Combination → Type 0
    Given g = IsBetween braid.letters (Contains (generators braid.field (relations is_in_kernel braid 2))) m g

    to : (g : Combination) → IsBetween braid.letters (IsOfKernel braid) m g → IsSpanned braid.field (IsBetween braid.letters (Contains (generators braid.field (relations is_in_kernel braid 2))) m) g
    to g b =
        let r : Combination = b.middle in
        let spanned : IsSpanned braid.field (λ x. Contains (generators braid.field (relations is_in_kernel braid 2)) x) b.middle =
        (relations_span_the_kernel braid is b.middle b.of.0.0 b.of.0.1).0 (is_in_kernel_complete braid 2 b.middle b.of.1) in
        subst (IsSpanned k Given) (sym b.is)
        (spanned_image k is.field (λ x. Contains (generators braid.field (relations is_in_kernel braid 2)) x) Given (λ x. between b.front x b.back) (reworded_is_linear k is.field (λ w. b.front ++ w ++ b.back))
        (λ x i. spanned_one k is.field Given (between b.front x b.back) (record {
          front = b.front;
          middle = x;
          back = b.back;
          front_over = b.front_over;
          back_over = b.back_over;
          of = i;
          size = b.size;
          is = refl;
        })) r spanned)

    from : (g : Combination) → IsBetween braid.letters (Contains (generators braid.field (relations is_in_kernel braid 2))) m g → IsSpanned braid.field (IsBetween braid.letters (IsOfKernel braid) m) g
    from g b =
        let shape : IsQuadratic braid.letters b.middle = generator_quadratic braid is b.middle b.of in
        spanned_one k is.field Kernel g (record {
          front = b.front;
          middle = b.middle;
          back = b.back;
          front_over = b.front_over;
          back_over = b.back_over;
          of = (
            shape,
            is_in_kernel_sound braid is.field 2 b.middle
                ((relations_span_the_kernel braid is b.middle shape.0 shape.1).1 (spanned_one k is.field (λ x. Contains (generators braid.field (relations is_in_kernel braid 2)) x) b.middle b.of)),
          );
          size = b.size;
          is = b.is;
        })

pub cover_of_a_braid : CoverOfABraid
cover_of_a_braid braid is m d = (
  λ g. (dimension_is_codimension k is.field n rs shapes m d).0 (same_greatest k is.field (IsInKernelIdeal braid m) (IsInIdeal k n rs m) to from d g),
  λ e. same_greatest k is.field (IsInIdeal k n rs m) (IsInKernelIdeal braid m) from to d ((dimension_is_codimension k is.field n rs shapes m d).1 e),
)
  where
    k : FieldValue
    k = braid.field

    n : ℕ
    n = braid.letters

    rs : List Combination
    rs = generators braid.field (relations is_in_kernel braid 2)

    shapes : AllByRecursion (IsQuadratic braid.letters) (generators braid.field (relations is_in_kernel braid 2))
    shapes = all_of_entries (IsQuadratic n) rs (generator_quadratic braid is)

    to : IsMatched braid.field (IsInKernelIdeal braid m) (IsInIdeal braid.field braid.letters (generators braid.field (relations is_in_kernel braid 2)) m)
    to f s = (f, (relations_give_the_kernel_ideal braid is m f).0 s, λ w. refl)

    from : IsMatched braid.field (IsInIdeal braid.field braid.letters (generators braid.field (relations is_in_kernel braid 2)) m) (IsInKernelIdeal braid m)
    from f s = (f, (relations_give_the_kernel_ideal braid is m f).1 s, λ w. refl)
