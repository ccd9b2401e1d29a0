-- Linear combinations of combinations: closed under sums, multiples and linear maps; and their enumeration.
use Rattle.std.proofs.Common.{◌≡◌, ℕ, true, List, [], ◌∷◌, ◌++◌, map, refl, sym, ◌∙◌, ap, ap₂, subst, inl, inr, append_assoc}
use Rattle.std.specs.List.{AllByRecursion, Contains}
use Rattle.nichols_field.specs.Field.{FieldValue, IsField, plus, times, elements}
use Rattle.nichols_field.proofs.Elements.{element_is_listed}
use Rattle.nichols_field.proofs.FieldLaws.{plus_zero, plus_assoc, times_zero, times_plus, times_assoc, zero_is_element, plus_is_element}
use Rattle.nichols_field.proofs.FieldAlgebra.{zero_plus, zero_times, plus_times, one_times, swap_first}
use Rattle.nichols_tensor.specs.Combination.{Combination, value_at, HasSameValues, IsZero, is_zero, scalar_multiple, minus, linear_map}
use Rattle.nichols_tensor.proofs.Entries.{contains_none, contains_first, contains_later, contains_cases, in_map, in_flat_map, from_map, from_flat_map, any_of, some_of}
use Rattle.nichols_tensor.proofs.Linear.{minus_is_zero, same_from_minus, same_append, same_images, extended_is_zero, linear_map-append, linear_map-scalar_multiple}
use Rattle.nichols_tensor.proofs.Values.{value_is_element, value_at-append, value_at-scalar_multiple}
use Rattle.nichols_tensor.proofs.Zero.{is_zero_sound, is_zero_complete}
use Rattle.nichols_tensor.specs.Span.{IsSpanned, sums_of, is_spanned}

-- ---- values

pub same_sym : (k : FieldValue) (f g : Combination) → HasSameValues k f g → HasSameValues k g f
same_sym k f g h w = sym (h w)

pub same_trans : (k : FieldValue) (f g h : Combination) → HasSameValues k f g → HasSameValues k g h → HasSameValues k f h
same_trans k f g h p q w = p w ∙ q w

-- c g and h, from c g, f and h
pub value_of_more : (k : FieldValue) → IsField k → (c : ℕ) (g h : Combination) (w : List ℕ) → value_at k (scalar_multiple k c g ++ h) w ≡ plus k (times k c (value_at k g w)) (value_at k h w)
value_of_more k is c g h w = value_at-append k is (scalar_multiple k c g) h w ∙ ap (λ n. plus k n (value_at k h w)) (value_at-scalar_multiple k is c g w)

-- ---- spans

pub spanned_same : (k : FieldValue) (P : Combination → Type 0) (f g : Combination) → HasSameValues k f g → IsSpanned k P g → IsSpanned k P f
spanned_same k P f _ same (IsSpanned.none g zero) = IsSpanned.none f (λ w. same w ∙ zero w)
spanned_same k P f _ same (IsSpanned.more g c m h p s e) = IsSpanned.more f c m h p s (λ w. same w ∙ e w)

pub spanned_one : (k : FieldValue) → IsField k → (P : Combination → Type 0) (g : Combination) → P g → IsSpanned k P g
spanned_one k is P g p =
    IsSpanned.more g 1 g [] p (IsSpanned.none [] (λ w. refl))
    (λ w. sym (value_of_more k is 1 g [] w ∙ ap (λ n. plus k n 0) (one_times k (value_at k g w) (value_is_element k is g w)) ∙ plus_zero k (value_at k g w) (value_is_element k is g w)))

pub spanned-append : (k : FieldValue) → IsField k → (P : Combination → Type 0) (f g : Combination) → IsSpanned k P f → IsSpanned k P g → IsSpanned k P (f ++ g)
spanned-append k is P _ g (IsSpanned.none f zero) t =
    spanned_same k P (f ++ g) g (λ w. value_at-append k is f g w ∙ ap (λ n. plus k n (value_at k g w)) (zero w) ∙ zero_plus k (value_at k g w) (value_is_element k is g w)) t
spanned-append k is P _ g (IsSpanned.more f c m h p s e) t =
    IsSpanned.more (f ++ g) c m (h ++ g) p (spanned-append k is P h g s t)
    (λ w. same_append k is f g (scalar_multiple k c m ++ h) g e (λ v. refl) w ∙ ap (λ x. value_at k x w) (append_assoc (scalar_multiple k c m) h g))

pub spanned-scalar_multiple : (k : FieldValue) → IsField k → (P : Combination → Type 0) (b : ℕ) (f : Combination) → IsSpanned k P f → IsSpanned k P (scalar_multiple k b f)
spanned-scalar_multiple k is P b _ (IsSpanned.none f zero) = IsSpanned.none (scalar_multiple k b f) (λ w. value_at-scalar_multiple k is b f w ∙ ap (times k b) (zero w) ∙ times_zero k b is)
spanned-scalar_multiple k is P b _ (IsSpanned.more f c m h p s e) =
    IsSpanned.more (scalar_multiple k b f) (times k b c) m (scalar_multiple k b h) p (spanned-scalar_multiple k is P b h s)
    (λ w. value_at-scalar_multiple k is b f w ∙ ap (times k b) (e w ∙ value_of_more k is c m h w)
    ∙ times_plus k b (times k c (value_at k m w)) (value_at k h w)
    ∙ ap₂ (plus k) (sym (times_assoc k b c (value_at k m w))) (sym (value_at-scalar_multiple k is b h w))
    ∙ sym (value_of_more k is (times k b c) m (scalar_multiple k b h) w))

-- a map that sees values alone and keeps sums and multiples
pub record IsLinear (k : FieldValue) (image : Combination → Combination) : Type 0 where
  pub same : (f g : Combination) → HasSameValues k f g → HasSameValues k (image f) (image g)
  pub zero : (f : Combination) → IsZero k f → IsZero k (image f)
  pub more : (c : ℕ) (g h : Combination) → HasSameValues k (image (scalar_multiple k c g ++ h)) (scalar_multiple k c (image g) ++ image h)

-- the image of a span, where the image of each of its combinations is in another
pub spanned_image : (k : FieldValue) → IsField k → (P Q : Combination → Type 0) (image : Combination → Combination) → IsLinear k image → ((g : Combination) → P g → IsSpanned k Q (image g)) →
    (f : Combination) → IsSpanned k P f → IsSpanned k Q (image f)
spanned_image k is P Q image l each _ (IsSpanned.none f zero) = IsSpanned.none (image f) (l.zero f zero)
spanned_image k is P Q image l each _ (IsSpanned.more f c g h p s e) =
    spanned_same k Q (image f) (scalar_multiple k c (image g) ++ image h) (λ w. l.same f (scalar_multiple k c g ++ h) e w ∙ l.more c g h w)
    (spanned-append k is Q (scalar_multiple k c (image g)) (image h) (spanned-scalar_multiple k is Q c (image g) (each g p)) (spanned_image k is P Q image l each h s))

pub linear_map_is_linear : (k : FieldValue) → IsField k → (image : List ℕ → Combination) → IsLinear k (linear_map k image)
linear_map_is_linear k is image = record {
  same = λ f g h. same_images k is image f g h;
  zero = λ f h. extended_is_zero k is image f h;
  more = λ c g h w. ap (λ x. value_at k x w) (linear_map-append k image (scalar_multiple k c g) h)
      ∙ same_append k is (linear_map k image (scalar_multiple k c g)) (linear_map k image h) (scalar_multiple k c (linear_map k image g)) (linear_map k image h) (linear_map-scalar_multiple k is image c g) (λ v. refl) w;
}

-- a linear image is spanned by what spans the image of each word
pub spanned_words : (k : FieldValue) → IsField k → (P : Combination → Type 0) (image : List ℕ → Combination) (f : Combination) → AllByRecursion (λ t. IsSpanned k P (image t.word)) f → IsSpanned k P (linear_map k image f)
spanned_words k is P image [] all = IsSpanned.none [] (λ w. refl)
spanned_words k is P image (t ∷ f) all =
    spanned-append k is P (scalar_multiple k t.coefficient (image t.word)) (linear_map k image f) (spanned-scalar_multiple k is P t.coefficient (image t.word) all.0) (spanned_words k is P image f all.1)

itself_is_linear : (k : FieldValue) → IsLinear k (λ f. f)
itself_is_linear k = record { same = λ f g h. h; zero = λ f h. h; more = λ c g h w. refl }

pub spanned_through : (k : FieldValue) → IsField k → (P Q : Combination → Type 0) → ((g : Combination) → P g → IsSpanned k Q g) → (f : Combination) → IsSpanned k P f → IsSpanned k Q f
spanned_through k is P Q each f s = spanned_image k is P Q (λ f. f) (itself_is_linear k) each f s

-- ---- their enumeration

zero_sum : (k : FieldValue) → IsField k → (gs : List Combination) → (h : Combination) × Contains (sums_of k gs) h × IsZero k h
unfolding sums_of
zero_sum k is [] = ([], contains_first [] [], λ w. refl)
zero_sum k is (g ∷ gs) =
    let (h, i, zero) = zero_sum k is gs in (
      scalar_multiple k 0 g ++ h,
      in_flat_map (λ c. map (λ h. scalar_multiple k c g ++ h) (sums_of k gs)) 0 (elements k) (scalar_multiple k 0 g ++ h) (element_is_listed k 0 (zero_is_element k is)) (in_map (λ x. scalar_multiple k 0 g ++ x) h (sums_of k gs) i),
      λ w. value_of_more k is 0 g h w ∙ ap₂ (plus k) (zero_times k (value_at k g w) is) (zero w) ∙ plus_zero k 0 (zero_is_element k is),
    )

one_more : (k : FieldValue) → IsField k → (gs : List Combination) (g h : Combination) (c : ℕ) → Contains gs g → Contains (sums_of k gs) h →
    (r : Combination) × Contains (sums_of k gs) r × HasSameValues k r (scalar_multiple k c g ++ h)
unfolding sums_of
one_more k is [] g h c i j = absurd (contains_none g i)
one_more k is (m ∷ gs) g h c i j =
    let (b, jb, k1) = from_flat_map (λ c. map (λ h. scalar_multiple k c m ++ h) (sums_of k gs)) h (elements k) j in
    let (r, jr, e) = from_map (λ x. scalar_multiple k b m ++ x) h (sums_of k gs) k1 in
    elim (contains_cases m gs g i) [
      | inl same ↦ (
        scalar_multiple k (plus k c b) m ++ r,
        in_flat_map (λ c. map (λ h. scalar_multiple k c m ++ h) (sums_of k gs)) (plus k c b) (elements k) (scalar_multiple k (plus k c b) m ++ r) (element_is_listed k (plus k c b) (plus_is_element k c b is))
            (in_map (λ x. scalar_multiple k (plus k c b) m ++ x) r (sums_of k gs) jr),
        λ w. value_of_more k is (plus k c b) m r w ∙ ap (λ n. plus k n (value_at k r w)) (plus_times k c b (value_at k m w))
            ∙ plus_assoc k (times k c (value_at k m w)) (times k b (value_at k m w)) (value_at k r w)
            ∙ ap (plus k (times k c (value_at k m w))) (sym (value_of_more k is b m r w))
            ∙ sym (value_of_more k is c m (scalar_multiple k b m ++ r) w)
            ∙ ap₂ (λ (x y : Combination). value_at k (scalar_multiple k c x ++ y) w) (sym same) (sym e),
      )
      | inr later ↦
          let (s, js, d) = one_more k is gs g r c later jr in (
            scalar_multiple k b m ++ s,
            in_flat_map (λ c. map (λ h. scalar_multiple k c m ++ h) (sums_of k gs)) b (elements k) (scalar_multiple k b m ++ s) jb (in_map (λ x. scalar_multiple k b m ++ x) s (sums_of k gs) js),
            λ w. value_of_more k is b m s w ∙ ap (plus k (times k b (value_at k m w))) (d w ∙ value_of_more k is c g r w)
                ∙ swap_first k (times k b (value_at k m w)) (times k c (value_at k g w)) (value_at k r w)
                ∙ ap (plus k (times k c (value_at k g w))) (sym (value_of_more k is b m r w))
                ∙ sym (value_of_more k is c g (scalar_multiple k b m ++ r) w)
                ∙ ap (λ (y : Combination). value_at k (scalar_multiple k c g ++ y) w) (sym e),
          )
    ]

listed_sum : (k : FieldValue) → IsField k → (gs : List Combination) (f : Combination) → IsSpanned k (λ g. Contains gs g) f → (h : Combination) × Contains (sums_of k gs) h × HasSameValues k f h
listed_sum k is gs _ (IsSpanned.none f zero) = let (h, i, z) = zero_sum k is gs in (h, i, λ w. zero w ∙ sym (z w))
listed_sum k is gs _ (IsSpanned.more f c g h p s e) =
    let (r, i, same) = listed_sum k is gs h s in
    let (x, j, d) = one_more k is gs g r c p i in
    (x, j, λ w. e w ∙ same_append k is (scalar_multiple k c g) h (scalar_multiple k c g) r (λ v. refl) same w ∙ sym (d w))

pub spanned_complete : (k : FieldValue) → IsField k → (gs : List Combination) (f : Combination) → IsSpanned k (λ g. Contains gs g) f → is_spanned k gs f ≡ true
unfolding is_spanned
spanned_complete k is gs f s =
    let (h, i, same) = listed_sum k is gs f s in
    any_of (λ h. is_zero k (minus k f h)) h (sums_of k gs) i (is_zero_complete k (minus k f h) (minus_is_zero k is f h same))

sum_is_spanned : (k : FieldValue) → IsField k → (gs : List Combination) (h : Combination) → Contains (sums_of k gs) h → IsSpanned k (λ g. Contains gs g) h
unfolding sums_of
sum_is_spanned k is [] h i = elim (contains_cases [] [] h i) [ inl e ↦ subst (IsSpanned k (λ g. Contains [] g)) (sym e) (IsSpanned.none [] (λ w. refl)) | inr none ↦ absurd (contains_none h none) ]
sum_is_spanned k is (g ∷ gs) h i =
    let (c, j, k1) = from_flat_map (λ c. map (λ h. scalar_multiple k c g ++ h) (sums_of k gs)) h (elements k) i in
    let (r, l, e) = from_map (λ x. scalar_multiple k c g ++ x) h (sums_of k gs) k1 in
    IsSpanned.more h c g r (contains_first g gs)
    (spanned_through k is (λ x. Contains gs x) (λ x. Contains (g ∷ gs) x) (λ x p. spanned_one k is (λ y. Contains (g ∷ gs) y) x (contains_later g gs x p)) r (sum_is_spanned k is gs r l))
    (λ w. ap (λ x. value_at k x w) e)

pub spanned_sound : (k : FieldValue) → IsField k → (gs : List Combination) (f : Combination) → is_spanned k gs f ≡ true → IsSpanned k (λ g. Contains gs g) f
unfolding is_spanned
spanned_sound k is gs f h =
    let (r, i, e) = some_of (λ h. is_zero k (minus k f h)) (sums_of k gs) h in
    spanned_same k (λ g. Contains gs g) f r (same_from_minus k is f r (is_zero_sound k is (minus k f r) e)) (sum_is_spanned k is gs r i)
