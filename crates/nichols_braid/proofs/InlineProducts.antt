-- Lists of images put into an array, and which lists of images are products.
use Rattle.std.proofs.Common.{◌≡◌, ℕ, suc, ◌+◌, ◌-◌, ◌<◌, ◌≤◌, List, [], ◌∷◌, ◌++◌, map, length, take, drop, set, refl, sym, ◌∙◌, ap, subst, arith, inl, inr}
use Rattle.std.specs.Prelude.{slice_index, replicate}
use Rattle.std.specs.List.Sorted.{IsPermutation}
use Rattle.std.proofs.lemmas.Bool.{cases_lt}
use Rattle.std.proofs.lemmas.List.{drop-replicate, drop-set-lt, length-replicate, length-map, length-set, get_or-set_same, get_or-set_other, get_or-map, take_all, map-id}
use Rattle.std.proofs.lemmas.List.Sorted.{IsPermutation-refl, IsPermutation-sym, IsPermutation-trans, IsPermutation-map}
use Rattle.nichols_tensor.specs.Inline.{IsInline, length_kept}
use Rattle.nichols_tensor.specs.Words.{up_to, IsLetterOf}
use Rattle.nichols_tensor.proofs.Letters.{from_up_to, up_to_length}
use Rattle.nichols_tensor.proofs.Tests.{map_same}
use Rattle.nichols_braid.specs.Braid.{BraidValue, IsLetter, IsBraid, IsRack, act}
use Rattle.nichols_braid.specs.Product.{product_image, product_of, product_after, product_before, unact, IsProduct}
use Rattle.nichols_braid.specs.Rearrangement.{IsRearrangement}
use Rattle.nichols_braid.specs.declared.product.TheConstants.{ROOM}
use Rattle.nichols_braid.proofs.AtLetters.{taken}
use Rattle.nichols_braid.proofs.Lists.{map-map}
use Rattle.nichols_braid.proofs.Onto.{acted_rearranges, unact_is_before, image_at, up_to_at}
use Rattle.nichols_braid.proofs.KeptProducts.{product_image-append}
use Rattle.nichols_braid.proofs.Rearranged.{rearranged_length}

-- ---- arrays with zeros behind n entries

pub record IsPadded (n : ℕ) (xs : List ℕ) : Type 0 where
  pub whole : length xs ≡ ROOM
  pub padded : drop n xs ≡ replicate (ROOM - n) 0

pub padded_start : (n : ℕ) → n ≤ ROOM → IsPadded n (replicate ROOM 0)
padded_start n h = let none : ℕ = 0 in record { whole = length-replicate ROOM none; padded = drop-replicate n ROOM none }

pub padded-set : (n : ℕ) (xs : List ℕ) (i x : ℕ) → IsPadded n xs → i < n → IsPadded n (set xs i x)
padded-set n xs i x h less = record { whole = length-set xs i x ∙ h.whole; padded = drop-set-lt n xs i x less ∙ h.padded }

pub inline_product : (n : ℕ) (xs g : List ℕ) → n ≤ ROOM → IsPadded n xs → take n xs ≡ g → IsProduct g → IsInline ROOM IsProduct n xs
inline_product n xs g few h e is = record { short = few; whole = h.whole; padded = h.padded; holds = subst IsProduct (sym e) is }

-- ---- products

pub is_product : (n : ℕ) (g : List ℕ) → 1 ≤ n → IsRearrangement n g → IsProduct g
is_product n g least h = subst (λ k. (1 ≤ k) × IsRearrangement k g) (sym (rearranged_length n g h)) (least, h)

pub identity_is_product : (n : ℕ) → 1 ≤ n → IsProduct (up_to n)
identity_is_product n least = is_product n (up_to n) least (IsPermutation-refl (up_to n))

-- a list of n numbers is its entries at the letters
at_letters : (n : ℕ) (g : List ℕ) → length g ≡ n → map (λ k. slice_index g (k - 1)) (up_to n) ≡ g
at_letters n g size =
    sym (taken g (λ k. slice_index g (k - 1)) n (omega arith) (λ k less. ap (slice_index g) (let e : k ≡ suc k - 1 = omega arith in e))) ∙ take_all n g (omega arith)

-- the value of f at a letter, in the list of its values
pub value_at_letter : (n : ℕ) (f : ℕ → ℕ) (c : ℕ) → IsLetterOf n c → slice_index (map f (up_to n)) (c - 1) ≡ f c
value_at_letter n f c l =
    let size : length (up_to n) ≡ n = up_to_length n in
    let back : suc (c - 1) ≡ c = omega (arith, l.0) in
    get_or-map f (up_to n) (c - 1) 0 0 (omega (arith, size, l.0, l.1)) ∙ ap f (up_to_at n (c - 1) (omega (arith, l.0, l.1)) ∙ back)

-- a rearrangement of the letters, before which the letters are rearranged
after_rearranged : (n : ℕ) (g : List ℕ) (f : ℕ → ℕ) → IsRearrangement n g → IsRearrangement n (map f (up_to n)) → IsRearrangement n (map (λ j. slice_index g (f j - 1)) (up_to n))
after_rearranged n g f h r =
    let at : ℕ → ℕ = λ k. slice_index g (k - 1) in
    let images : IsPermutation (map at (up_to n)) (map at (map f (up_to n))) = IsPermutation-map at (up_to n) (map f (up_to n)) r in
    subst (IsPermutation (up_to n)) (map-map at f (up_to n)) (IsPermutation-trans (up_to n) g (map at (map f (up_to n))) h (subst (λ xs. IsPermutation xs (map at (map f (up_to n)))) (at_letters n g (rearranged_length n g h)) images))

pub after_is_rearrangement : (braid : BraidValue) → IsRack braid → (a : ℕ) → IsLetter braid a → (g : List ℕ) → IsRearrangement braid.letters g → IsRearrangement braid.letters (product_after braid a g)
unfolding product_after
after_is_rearrangement braid rack a la g h = after_rearranged braid.letters g (act braid a) h (acted_rearranges braid rack a la)

unacted : (braid : BraidValue) → IsRack braid → (a : ℕ) → IsLetter braid a → (j : ℕ) → IsLetter braid j → unact braid a (act braid a j) ≡ j
unacted braid rack a la j lj =
    let (l, e) = unact_is_before braid rack a la (act braid a j) (rack.closed a j la lj) in
    rack.injective a (unact braid a (act braid a j)) j la l lj e

unacted_rearranges : (braid : BraidValue) → IsRack braid → (a : ℕ) → IsLetter braid a → IsRearrangement braid.letters (map (unact braid a) (up_to braid.letters))
unacted_rearranges braid rack a la =
    let letters : List ℕ = up_to braid.letters in
    let back : map (unact braid a) (map (act braid a) letters) ≡ letters = map-map (unact braid a) (act braid a) letters ∙ map_same (λ j. unact braid a (act braid a j)) (λ j. j) letters (λ j i. unacted braid rack a la j (from_up_to braid.letters j i)) ∙ map-id letters in
    IsPermutation-sym (map (unact braid a) letters) letters (subst (IsPermutation (map (unact braid a) letters)) back (IsPermutation-map (unact braid a) letters (map (act braid a) letters) (acted_rearranges braid rack a la)))

pub before_is_rearrangement : (braid : BraidValue) → IsRack braid → (a : ℕ) → IsLetter braid a → (g : List ℕ) → IsRearrangement braid.letters g → IsRearrangement braid.letters (product_before braid a g)
unfolding product_before
before_is_rearrangement braid rack a la g h = after_rearranged braid.letters g (unact braid a) h (unacted_rearranges braid rack a la)

images_of_word : (braid : BraidValue) (v : List ℕ) → map (product_image braid v) (up_to braid.letters) ≡ product_of braid v
unfolding product_of
images_of_word braid v = refl

pub product_size : (braid : BraidValue) (w : List ℕ) → length (product_of braid w) ≡ braid.letters
unfolding product_of
product_size braid w = length-map (up_to braid.letters) (product_image braid w) ∙ up_to_length braid.letters

-- the product of a word with a letter behind, from that of the word
pub after_a_word : (braid : BraidValue) → IsRack braid → (a : ℕ) → IsLetter braid a → (w : List ℕ) → product_after braid a (product_of braid w) ≡ product_of braid (w ++ a ∷ [])
unfolding product_after
after_a_word braid rack a la w =
    map_same (λ j. slice_index (product_of braid w) (act braid a j - 1)) (product_image braid (w ++ a ∷ [])) (up_to braid.letters)
    (λ j i. image_at braid w (act braid a j) (rack.closed a j la (from_up_to braid.letters j i)) ∙ sym (product_image-append braid w (a ∷ []) j))
    ∙ images_of_word braid (w ++ a ∷ [])

-- a list of images before a letter, and after it again
pub after_before : (braid : BraidValue) → IsRack braid → (a : ℕ) → IsLetter braid a → (g : List ℕ) → length g ≡ braid.letters → product_after braid a (product_before braid a g) ≡ g
unfolding product_after product_before
after_before braid rack a la g size =
    let n : ℕ = braid.letters in
    map_same (λ j. slice_index (map (λ c. slice_index g (unact braid a c - 1)) (up_to n)) (act braid a j - 1)) (λ j. slice_index g (j - 1)) (up_to n)
    (λ j i.
    let lj : IsLetter braid j = from_up_to n j i in
    value_at_letter n (λ c. slice_index g (unact braid a c - 1)) (act braid a j) (rack.closed a j la lj) ∙ ap (λ c. slice_index g (c - 1)) (unacted braid rack a la j lj))
    ∙ at_letters n g size

-- ---- the images that loops put in

-- the entries of a letter's row are the images under its map
pub row_entry : (braid : BraidValue) (a k : ℕ) → k < braid.letters → slice_index (product_of braid (a ∷ [])) k ≡ act braid a (suc k)
row_entry braid a k less = ap (slice_index (product_of braid (a ∷ []))) (let e : k ≡ suc k - 1 = omega arith in e) ∙ image_at braid (a ∷ []) (suc k) (omega arith, omega arith)

pub identity_made : (n : ℕ) (images : List ℕ) → n ≤ length images → ((k : ℕ) → k < n → slice_index images k ≡ suc k) → take n images ≡ up_to n
identity_made n images room h = taken images (λ j. j) n room h ∙ map-id (up_to n)

pub product_of_none : (braid : BraidValue) → product_of braid [] ≡ up_to braid.letters
unfolding product_of
product_of_none braid = map-id (up_to braid.letters)

-- one more image, behind the others
pub one_more : (f : ℕ → ℕ) (images : List ℕ) (j x : ℕ) → j < length images → x ≡ f j → ((k : ℕ) → k < j → slice_index images k ≡ f k) → (k : ℕ) → k < j + 1 → slice_index (set images j x) k ≡ f k
one_more f images j x room e h k within =
    elim (cases_lt k j) [
      | inl before ↦ get_or-set_other images j k x 0 (λ same. absurd (omega (arith, before, same))) ∙ h k before
      | inr here ↦ let same : k ≡ j = omega arith in ap (slice_index (set images j x)) same ∙ get_or-set_same images j x 0 room ∙ e ∙ ap f (sym same)
    ]

-- a letter's row has as many entries as there are letters
pub row_size : (braid : BraidValue) (a : ℕ) (row : List ℕ) → row ≡ product_of braid (a ∷ []) → length row ≡ braid.letters
row_size braid a row is = ap length is ∙ product_size braid (a ∷ [])

-- and each is a letter
pub row_letter : (braid : BraidValue) → IsRack braid → (a : ℕ) → IsLetter braid a → (row : List ℕ) → row ≡ product_of braid (a ∷ []) → (j : ℕ) → j < length row → IsLetter braid (slice_index row j)
row_letter braid rack a la row is j less =
    let within : j < braid.letters = rw (← row_size braid a row is) less in
    let there : slice_index row j ≡ act braid a (suc j) = ap (λ r. slice_index r j) is ∙ row_entry braid a j within in
    subst (IsLetter braid) (sym there) (rack.closed a (suc j) la (omega arith, omega arith))

pub after_made : (braid : BraidValue) (a : ℕ) (row g images : List ℕ) → row ≡ product_of braid (a ∷ []) → braid.letters ≤ length images →
    ((k : ℕ) → k < braid.letters → slice_index images k ≡ slice_index g (slice_index row k - 1)) → take braid.letters images ≡ product_after braid a g
unfolding product_after
after_made braid a row g images is room h =
    taken images (λ j. slice_index g (act braid a j - 1)) braid.letters room
    (λ k less. h k less ∙ ap (λ r. slice_index g (slice_index r k - 1)) is ∙ ap (λ j. slice_index g (j - 1)) (row_entry braid a k less))

pub before_made : (braid : BraidValue) → IsRack braid → (a : ℕ) → IsLetter braid a → (row g images : List ℕ) → row ≡ product_of braid (a ∷ []) → braid.letters ≤ length images →
    ((k : ℕ) → k < braid.letters → slice_index images (slice_index row k - 1) ≡ slice_index g k) → take braid.letters images ≡ product_before braid a g
unfolding product_before
before_made braid rack a la row g images is room h =
    taken images (λ j. slice_index g (unact braid a j - 1)) braid.letters room
    (λ c less.
    let (l, sent) = unact_is_before braid rack a la (suc c) (omega arith, omega arith) in
    let k : ℕ = unact braid a (suc c) - 1 in
    let within : k < braid.letters = omega (arith, l.0, l.1) in
    let letter : suc k ≡ unact braid a (suc c) = omega (arith, l.0) in
    let place : slice_index row k ≡ suc c = ap (λ r. slice_index r k) is ∙ row_entry braid a k within ∙ ap (act braid a) letter ∙ sent in
    ap (slice_index images) (let e : c ≡ suc c - 1 = omega arith in e) ∙ ap (λ j. slice_index images (j - 1)) (sym place) ∙ h k within)

-- two places of a row have two images
row_apart : (braid : BraidValue) → IsRack braid → (a : ℕ) → IsLetter braid a → (row : List ℕ) → row ≡ product_of braid (a ∷ []) → (k j : ℕ) → k < j → j < braid.letters → slice_index row k - 1 ≡ slice_index row j - 1 → ⊥
row_apart braid rack a la row is k j less within e =
    let here : slice_index row k ≡ act braid a (suc k) = ap (λ r. slice_index r k) is ∙ row_entry braid a k (omega arith) in
    let there : slice_index row j ≡ act braid a (suc j) = ap (λ r. slice_index r j) is ∙ row_entry braid a j within in
    let low : IsLetter braid (act braid a (suc k)) = rack.closed a (suc k) la (omega arith, omega arith) in
    let high : IsLetter braid (act braid a (suc j)) = rack.closed a (suc j) la (omega arith, omega arith) in
    let same : act braid a (suc k) ≡ act braid a (suc j) = omega (arith, here, there, low.0, high.0, e) in
    let one : suc k ≡ suc j = rack.injective a (suc k) (suc j) la (omega arith, omega arith) (omega arith, omega arith) same in
    absurd (omega (arith, one, less))

-- one more image
pub before_more : (braid : BraidValue) → IsRack braid → (a : ℕ) → IsLetter braid a → (row g images : List ℕ) → row ≡ product_of braid (a ∷ []) → (j x : ℕ) → j < braid.letters → braid.letters ≤ length images → x ≡ slice_index g j →
    ((k : ℕ) → k < j → slice_index images (slice_index row k - 1) ≡ slice_index g k) →
    (k : ℕ) → k < j + 1 → slice_index (set images (slice_index row j - 1) x) (slice_index row k - 1) ≡ slice_index g k
before_more braid rack a la row g images is j x less room e h k within =
    elim (cases_lt k j) [
      | inl before ↦ get_or-set_other images (slice_index row j - 1) (slice_index row k - 1) x 0 (row_apart braid rack a la row is k j before less) ∙ h k before
      | inr here ↦
          let same : k ≡ j = omega arith in
          ap (λ i. slice_index (set images (slice_index row j - 1) x) (slice_index row i - 1)) same ∙ get_or-set_same images (slice_index row j - 1) x 0 (place_within braid rack a la row is j less images room) ∙ e ∙ ap (slice_index g) (sym same)
    ]
  where
    place_within : (braid : BraidValue) → IsRack braid → (a : ℕ) → IsLetter braid a → (row : List ℕ) → row ≡ product_of braid (a ∷ []) → (j : ℕ) → j < braid.letters → (images : List ℕ) → braid.letters ≤ length images → slice_index row j - 1 < length images
    place_within braid rack a la row is j less images room =
        let there : slice_index row j ≡ act braid a (suc j) = ap (λ r. slice_index r j) is ∙ row_entry braid a j less in
        let high : IsLetter braid (act braid a (suc j)) = rack.closed a (suc j) la (omega arith, omega arith) in
        omega (arith, there, high.0, high.1, room)

-- an array that holds a rearrangement of the letters is a product, as the fields see it
pub fields_made : (braid : BraidValue) → IsBraid braid → (n : ℕ) (row images g : List ℕ) → n ≡ braid.letters → length row ≡ braid.letters → IsPadded (length row) images → take braid.letters images ≡ g → IsRearrangement braid.letters g →
    IsInline ROOM IsProduct n images × (take n images ≡ g)
fields_made braid is n row images g size long padded same h =
    subst (λ k. IsInline ROOM IsProduct k images × (take k images ≡ g)) (sym size)
    (inline_product braid.letters images g is.most (subst (λ k. IsPadded k images) long padded) same (is_product braid.letters g is.least h), same)

-- the number of letters, from the fields of a product with as many images as a braid has letters
pub field_of_size : (n m : ℕ) (images g : List ℕ) → IsInline ROOM IsProduct n images → take n images ≡ g → length g ≡ m → n ≡ m
field_of_size n m images g h same size = sym (length_kept ROOM IsProduct n images h) ∙ ap length same ∙ size

pub rearranges : (m : ℕ) (g : List ℕ) → IsProduct g → length g ≡ m → IsRearrangement m g
rearranges m g h size = subst (λ k. IsRearrangement k g) size h.1
