-- A word is least exactly where no combination of the words of its length before it is congruent to it.
use Rattle.std.proofs.Common.{◌≡◌, ℕ, Bool, true, false, not, List, [], ◌∷◌, length, refl, sym, ◌∙◌, ap, subst}
use Rattle.std.specs.List.{AllByRecursion}
use Rattle.std.specs.declared.cmp.Ordering.TheVariants.{Less}
use Rattle.std.proofs.lemmas.Bool.{not-false}
use Rattle.nichols_field.specs.Field.{IsField}
use Rattle.nichols_tensor.specs.Combination.{Combination, AllElements, AllAmong, single}
use Rattle.nichols_tensor.specs.Words.{IsOver, HasDegree, words_before, combinations}
use Rattle.nichols_tensor.specs.WordOrder.{word_cmp}
use Rattle.nichols_tensor.proofs.Entries.{any_of, some_of}
use Rattle.nichols_tensor.proofs.Enumeration.{enumerated, enumerated_words, enumerated_elements, among_from_words}
use Rattle.nichols_tensor.proofs.AllWords.{in_words_before, from_words_before}
use Rattle.nichols_braid.specs.Braid.{BraidValue}
use Rattle.nichols_braid.specs.Kernel.{Vanishing}
use Rattle.nichols_braid.specs.Least.{are_congruent, is_least}
use Rattle.nichols_braid.specs.LinearTest.{IsLinearTest}
use Rattle.nichols_braid.specs.LeastLaws.{IsOfEarlierWords, IsLeastWord}
use Rattle.nichols_braid.proofs.Congruences.{AreCongruent, congruent_right}

-- a word that is congruent to a combination of the words before it isn't least
pub not_least : (vanishes : Vanishing) (braid : BraidValue) → IsField braid.field → (w : List ℕ) → IsLinearTest braid.field (vanishes braid (length w)) →
    (f : Combination) → AllAmong f (words_before braid.letters w) → AreCongruent braid.field (vanishes braid (length w)) (single w) f → is_least vanishes braid w ≡ false
unfolding is_least are_congruent
not_least vanishes braid is w l f among h =
    let (g, i, same) = enumerated braid.field is f (words_before braid.letters w) among in
    ap not (any_of (are_congruent vanishes braid (length w) (single w)) g (combinations braid.field (words_before braid.letters w)) i
    (congruent_right braid.field is (vanishes braid (length w)) l (single w) f g (λ v. sym (same v)) h))

-- a word that isn't least is congruent to such a combination
pub not_least_form : (vanishes : Vanishing) (braid : BraidValue) (w : List ℕ) → is_least vanishes braid w ≡ false →
    (f : Combination) × AllAmong f (words_before braid.letters w) × AllElements braid.field f × AreCongruent braid.field (vanishes braid (length w)) (single w) f
unfolding is_least are_congruent
not_least_form vanishes braid w h =
    let before : List (List ℕ) = words_before braid.letters w in
    let (f, i, e) = some_of (are_congruent vanishes braid (length w) (single w)) (combinations braid.field before) (not-false _ h) in
    (f, among_from_words f before (enumerated_words braid.field before f i), enumerated_elements braid.field before f i, e)

-- a least word is congruent to no such combination
pub least_refutes : (vanishes : Vanishing) (braid : BraidValue) → IsField braid.field → (w : List ℕ) → IsLinearTest braid.field (vanishes braid (length w)) → is_least vanishes braid w ≡ true →
    (f : Combination) → AllAmong f (words_before braid.letters w) → AreCongruent braid.field (vanishes braid (length w)) (single w) f → ⊥
least_refutes vanishes braid is w l least f among h = let c : true ≡ false = sym least ∙ not_least vanishes braid is w l f among h in cc

-- and a word that is congruent to none is least
pub least_unless : (vanishes : Vanishing) (braid : BraidValue) (w : List ℕ) →
    ((f : Combination) → AllAmong f (words_before braid.letters w) → AllElements braid.field f → AreCongruent braid.field (vanishes braid (length w)) (single w) f → ⊥) → is_least vanishes braid w ≡ true
least_unless vanishes braid w none = at (is_least vanishes braid w) refl
  where
    at : (b : Bool) → is_least vanishes braid w ≡ b → is_least vanishes braid w ≡ true
    at true e = e
    at false e = let (f, among, elements, h) = not_least_form vanishes braid w e in absurd (none f among elements h)

-- ---- the same for a word of m letters

pub not_least_at : (vanishes : Vanishing) (braid : BraidValue) → IsField braid.field → (m : ℕ) → IsLinearTest braid.field (vanishes braid m) → (w : List ℕ) → length w ≡ m →
    (f : Combination) → AllAmong f (words_before braid.letters w) → AreCongruent braid.field (vanishes braid m) (single w) f → is_least vanishes braid w ≡ false
not_least_at vanishes braid is m l w e f among h =
    not_least vanishes braid is w (subst (λ d. IsLinearTest braid.field (vanishes braid d)) (sym e) l) f among (subst (λ d. AreCongruent braid.field (vanishes braid d) (single w) f) (sym e) h)

pub not_least_form_at : (vanishes : Vanishing) (braid : BraidValue) (m : ℕ) (w : List ℕ) → length w ≡ m → is_least vanishes braid w ≡ false →
    (f : Combination) × AllAmong f (words_before braid.letters w) × AllElements braid.field f × AreCongruent braid.field (vanishes braid m) (single w) f
not_least_form_at vanishes braid m w e h =
    let (f, among, elements, c) = not_least_form vanishes braid w h in
    (f, among, elements, subst (λ d. AreCongruent braid.field (vanishes braid d) (single w) f) e c)

pub least_refutes_at : (vanishes : Vanishing) (braid : BraidValue) → IsField braid.field → (m : ℕ) → IsLinearTest braid.field (vanishes braid m) → (w : List ℕ) → length w ≡ m → is_least vanishes braid w ≡ true →
    (f : Combination) → AllAmong f (words_before braid.letters w) → AreCongruent braid.field (vanishes braid m) (single w) f → ⊥
least_refutes_at vanishes braid is m l w e least f among h = let c : true ≡ false = sym least ∙ not_least_at vanishes braid is m l w e f among h in cc

-- ---- the words before a word, as a reader sees them

pub earlier_from_among : (braid : BraidValue) (w : List ℕ) (f : Combination) → AllAmong f (words_before braid.letters w) → IsOfEarlierWords braid w f
unfolding AllAmong
earlier_from_among braid w f among = record { over = over f among; degree = degree f among; earlier = earlier f among }
  where
    over : (f : Combination) → AllAmong f (words_before braid.letters w) → IsOver braid.letters f
    over [] h = tt
    over (t ∷ f) h = ((from_words_before braid.letters t.word w h.0).1, over f h.1)

    degree : (f : Combination) → AllAmong f (words_before braid.letters w) → HasDegree (length w) f
    degree [] h = tt
    degree (t ∷ f) h = ((from_words_before braid.letters t.word w h.0).0, degree f h.1)

    earlier : (f : Combination) → AllAmong f (words_before braid.letters w) → AllByRecursion (λ t. word_cmp t.word w ≡ Less) f
    earlier [] h = tt
    earlier (t ∷ f) h = ((from_words_before braid.letters t.word w h.0).2, earlier f h.1)

pub among_from_earlier : (braid : BraidValue) (w : List ℕ) (f : Combination) → IsOfEarlierWords braid w f → AllAmong f (words_before braid.letters w)
unfolding AllAmong
among_from_earlier braid w f h = each f h.over h.degree h.earlier
  where
    each : (f : Combination) → IsOver braid.letters f → HasDegree (length w) f → AllByRecursion (λ t. word_cmp t.word w ≡ Less) f → AllAmong f (words_before braid.letters w)
    each [] o d e = tt
    each (t ∷ f) o d e = (in_words_before braid.letters t.word w d.0 o.0 e.0, each f o.1 d.1 e.1)

pub least_word_from_test : (vanishes : Vanishing) (braid : BraidValue) → IsField braid.field → (w : List ℕ) → IsLinearTest braid.field (vanishes braid (length w)) → is_least vanishes braid w ≡ true → IsLeastWord vanishes braid w
least_word_from_test vanishes braid is w l least f earlier elements h = least_refutes vanishes braid is w l least f (among_from_earlier braid w f earlier) h

pub test_from_least_word : (vanishes : Vanishing) (braid : BraidValue) (w : List ℕ) → IsLeastWord vanishes braid w → is_least vanishes braid w ≡ true
test_from_least_word vanishes braid w none = least_unless vanishes braid w (λ f among elements h. none f (earlier_from_among braid w f among) elements h)
