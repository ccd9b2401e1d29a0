-- Products of two words, from the sums of the one with the letters of the other behind.
use Rattle.std.proofs.Common.{◌≡◌, ◌≤◌, ℕ, ◌+◌, ◌<◌, List, [], ◌∷◌, ◌++◌, length, map, get_or, take, refl, sym, ◌∙◌, ap, subst, arith, length-append, inr, Ok, Err}
use Rattle.std.specs.Prelude.{IfOk, OnOk, Result}
use Rattle.std.proofs.lemmas.List.{map-append, take_more}
use Rattle.nichols_tensor.specs.Combination.{Combination, single}
use Rattle.nichols_tensor.specs.Words.{IsWordOver}
use Rattle.nichols_tensor.proofs.Over.{word_over-append}
use Rattle.nichols_braid.specs.Braid.{BraidValue, IsBraid}
use Rattle.nichols_braid.specs.Kernel.{is_killed}
use Rattle.nichols_braid.specs.Least.{basis}
use Rattle.nichols_braid.specs.Product.{product_of}
use Rattle.nichols_memo.specs.Forms.{form_of}
use Rattle.nichols_reduce.specs.Forms.{AreFollowed, IsFormOf}
use Rattle.nichols_reduce.proofs.PartForms.{whole_of}
use Rattle.nichols_reduce.proofs.ReduceLaws.{long_words_are_zero}
use Rattle.nichols_reduce.proofs.WordForms.{first_form, form_of_both}
use Rattle.nichols_product.specs.WordProducts.{product_of_words}

-- the product is the normal form of the longer word
pub product_is : (braid : BraidValue) → IsBraid braid → (u v : List ℕ) → IsWordOver braid.letters u → IsWordOver braid.letters v → form_of braid (u ++ v) ≡ product_of_words braid u v
product_is braid is u v over other = sym ((whole_of braid is (single (u ++ v)) (word_over-append braid.letters u v over other, tt)).degree (length (u ++ v)) (refl, tt))

-- it is zero where the longer word reaches a degree without least words
pub long_product_is_zero : (braid : BraidValue) → IsBraid braid → (last : ℕ) (u v : List ℕ) → basis is_killed braid last ≡ [] → IsWordOver braid.letters u → IsWordOver braid.letters v → last ≤ length u + length v → product_of_words braid u v ≡ []
long_product_is_zero braid is last u v closed over other long =
    let size : length (u ++ v) ≡ length u + length v = length-append u v in
    long_words_are_zero is_killed braid is (inr refl) last closed (single (u ++ v)) (word_over-append braid.letters u v over other, tt) (omega (arith, size, long), tt)

-- the letters of v behind a word u
pub record IsLonger (braid : BraidValue) (u v h new : List ℕ) : Type 0 where
  pub product : h ≡ product_of braid (u ++ v)
  pub form : IsFormOf braid (u ++ v) new

pub longer_is : (braid : BraidValue) (u v letters g h old start new : List ℕ) (n : ℕ) → IsWordOver braid.letters u → n ≡ length u → g ≡ product_of braid u → letters ≡ v → start ≡ old → IsFormOf braid u old →
    ((w : List ℕ) → g ≡ product_of braid w → h ≡ product_of braid (w ++ letters)) → AreFollowed braid n g start letters (n + length letters) h new → IsLonger braid u v h new
longer_is braid u v letters g h old start new n over size product same begins form longer followed = record {
  product = longer u product ∙ ap (λ x. product_of braid (u ++ x)) same;
  form = subst (λ x. IsFormOf braid (u ++ x) new) same
      (form_of_both braid u letters g h old new n (n + length letters) over size product refl (longer u product) form (subst (λ x. AreFollowed braid n g x letters (n + length letters) h new) begins followed));
}

-- the letters of a word behind the empty one
pub form_found : {E : Type 0} (braid : BraidValue) → IsBraid braid → (w letters g old new : List ℕ) (r : Result (List ℕ) E) → g ≡ product_of braid [] → letters ≡ w → old ≡ 1 ∷ [] →
    IfOk r (λ h. (u : List ℕ) → g ≡ product_of braid u → h ≡ product_of braid (u ++ letters)) → IfOk r (λ h. AreFollowed braid 0 g old letters (0 + length letters) h new) → OnOk r (IsFormOf braid w new)
form_found braid is w letters g old new (Ok h) product same begins longer followed = (longer_is braid [] w letters g h old old new 0 tt refl product same refl (first_form braid is old begins) longer followed).form
form_found braid is w letters g old new (Err e) product same begins longer followed = tt

-- one product more
pub products_more : (braid : BraidValue) (u : List ℕ) (vs : List (List ℕ)) (i : ℕ) (v : List ℕ) (fs new : List Combination) (f : Combination) → i < length vs → v ≡ get_or vs i v → fs ≡ map (product_of_words braid u) (take i vs) → new ≡ fs ++ f ∷ [] → f ≡ product_of_words braid u v →
    new ≡ map (product_of_words braid u) (take (i + 1) vs)
products_more braid u vs i v fs new f less at before e own =
    e ∙ ap (λ gs. gs ++ f ∷ []) before ∙ ap (λ g. map (product_of_words braid u) (take i vs) ++ g ∷ []) own
    ∙ sym (ap (map (product_of_words braid u)) (take_more vs i v less ∙ ap (λ x. take i vs ++ x ∷ []) (sym at)) ∙ map-append (product_of_words braid u) (take i vs) (v ∷ []))
