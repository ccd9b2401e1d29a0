-- Where what vanishes is a right ideal, prefixes of least words are least, least words are candidates, and degrees stay empty.
use Rattle.std.proofs.Common.{◌≡◌, ℕ, zero, suc, ◌≤◌, true, List, [], ◌∷◌, ◌++◌, map, length, refl, sym, ◌∙◌, ap, subst, arith, append_assoc, inl, inr}
use Rattle.std.specs.List.{Contains}
use Rattle.std.proofs.lemmas.Bool.{cases_lt}
use Rattle.std.proofs.lemmas.List.{append-nil}
use Rattle.nichols_field.specs.Field.{FieldValue, IsField}
use Rattle.nichols_tensor.specs.Combination.{Combination, AllAmong, single, minus}
use Rattle.nichols_tensor.specs.Words.{up_to, IsLetterOf, IsWordOver, words_before}
use Rattle.nichols_tensor.proofs.Entries.{contains_none, contains_first, in_map, in_flat_map, from_flat_map}
use Rattle.nichols_tensor.proofs.Letters.{in_up_to}
use Rattle.nichols_tensor.proofs.AllWords.{in_words_before, from_words_before, push_less}
use Rattle.nichols_tensor.proofs.Pushed.{pushed_length, pushed_over, over_pushed, last_letter}
use Rattle.nichols_tensor.proofs.Over.{word_over_front}
use Rattle.nichols_braid.specs.Braid.{BraidValue, IsLetter, IsRack}
use Rattle.nichols_braid.specs.Kernel.{Vanishing, is_killed}
use Rattle.nichols_braid.specs.Least.{is_least, basis, candidates}
use Rattle.nichols_braid.specs.RightProduct.{times_letter}
use Rattle.nichols_braid.specs.RightIdealTest.{IsRightIdealTest}
use Rattle.nichols_braid.proofs.Degrees.{minus_degree, minus_over}
use Rattle.nichols_braid.proofs.Killed.{killed-times_letter, is_killed_sound, is_killed_complete, is_killed_is_linear}
use Rattle.nichols_braid.proofs.Maps.{times_letter-minus}
use Rattle.nichols_braid.proofs.LeastWords.{least_refutes, least_unless, earlier_from_among}
use Rattle.nichols_braid.proofs.Reduction.{in_basis, from_basis}
use Rattle.nichols_braid.specs.LeastLaws.{IsOfEarlierWords}

-- ---- a prefix of a least word

pushed_among : (n : ℕ) (u : List ℕ) (b : ℕ) → IsLetterOf n b → (g : Combination) → AllAmong g (words_before n u) → AllAmong (times_letter g b) (words_before n (u ++ b ∷ []))
unfolding AllAmong
pushed_among n u b l [] h = tt
pushed_among n u b l (t ∷ g) h =
    let (size, over, less) = from_words_before n t.word u h.0 in
    (in_words_before n (t.word ++ b ∷ []) (u ++ b ∷ []) (pushed_length t.word b ∙ ap suc size ∙ sym (pushed_length u b)) (pushed_over n t.word b over l) (push_less t.word u b b size less), pushed_among n u b l g h.1)

shorter_is_least : (braid : BraidValue) → IsField braid.field → (vanishes : Vanishing) → IsRightIdealTest braid (vanishes braid) → (u : List ℕ) (b : ℕ) → IsWordOver braid.letters u → IsLetter braid b →
    is_least vanishes braid (u ++ b ∷ []) ≡ true → is_least vanishes braid u ≡ true
shorter_is_least braid is vanishes ideal u b over letter least =
    least_unless vanishes braid u (λ g among elements h.
    let k : FieldValue = braid.field in
    let earlier : IsOfEarlierWords braid u g = earlier_from_among braid u g among in
    let pushed : vanishes braid (suc (length u)) (times_letter (minus k (single u) g) b) ≡ true =
    ideal.right (length u) (minus k (single u) g) b (minus_degree k (length u) (single u) g (refl, tt) earlier.degree) (minus_over k braid.letters (single u) g (over, tt) earlier.over) letter h in
    least_refutes vanishes braid is (u ++ b ∷ []) (ideal.linear (length (u ++ b ∷ []))) least (times_letter g b) (pushed_among braid.letters u b letter g among)
    (ap (λ m. vanishes braid m (minus k (single (u ++ b ∷ [])) (times_letter g b))) (pushed_length u b) ∙ ap (vanishes braid (suc (length u))) (sym (times_letter-minus k (single u) g b)) ∙ pushed))

pub prefix_is_least : (braid : BraidValue) → IsField braid.field → (vanishes : Vanishing) → IsRightIdealTest braid (vanishes braid) → (u v : List ℕ) → IsWordOver braid.letters (u ++ v) → is_least vanishes braid (u ++ v) ≡ true → is_least vanishes braid u ≡ true
prefix_is_least braid is vanishes ideal u [] over least = ap (is_least vanishes braid) (sym (append-nil u)) ∙ least
prefix_is_least braid is vanishes ideal u (b ∷ v) over least =
    let e : (u ++ b ∷ []) ++ v ≡ u ++ b ∷ v = append_assoc u (b ∷ []) v in
    let longer : is_least vanishes braid (u ++ b ∷ []) ≡ true = prefix_is_least braid is vanishes ideal (u ++ b ∷ []) v (subst (IsWordOver braid.letters) (sym e) over) (ap (is_least vanishes braid) e ∙ least) in
    let parts : IsWordOver braid.letters u × IsLetter braid b = over_pushed braid.letters u b (word_over_front braid.letters (u ++ b ∷ []) v (subst (IsWordOver braid.letters) (sym e) over)) in
    shorter_is_least braid is vanishes ideal u b parts.0 parts.1 longer

-- ---- least words are candidates

pub basis_word_is_candidate : (braid : BraidValue) → IsField braid.field → (vanishes : Vanishing) → IsRightIdealTest braid (vanishes braid) → (m : ℕ) (w : List ℕ) → Contains (basis vanishes braid m) w → Contains (candidates vanishes braid m) w
unfolding candidates
basis_word_is_candidate braid is vanishes ideal zero [] h = contains_first [] []
basis_word_is_candidate braid is vanishes ideal zero (x ∷ w) h = absurd (let f = from_basis vanishes braid 0 (x ∷ w) h in let e : suc (length w) ≡ 0 = f.0 in omega arith)
basis_word_is_candidate braid is vanishes ideal (suc m) [] h = absurd (let f = from_basis vanishes braid (suc m) [] h in let e : 0 ≡ suc m = f.0 in omega arith)
basis_word_is_candidate braid is vanishes ideal (suc m) (x ∷ w) h =
    let (size, over, least) = from_basis vanishes braid (suc m) (x ∷ w) h in
    let (u, b, e) = last_letter x w in
    let parts : IsWordOver braid.letters u × IsLetter braid b = over_pushed braid.letters u b (subst (IsWordOver braid.letters) e over) in
    let count : suc (length u) ≡ suc m = sym (pushed_length u b) ∙ ap length (sym e) ∙ size in
    let before : is_least vanishes braid u ≡ true = prefix_is_least braid is vanishes ideal u (b ∷ []) (subst (IsWordOver braid.letters) e over) (ap (is_least vanishes braid) (sym e) ∙ least) in
    subst (λ v. Contains (candidates vanishes braid (suc m)) v) (sym e)
    (in_flat_map (λ u. map (λ b. u ++ b ∷ []) (up_to braid.letters)) u (basis vanishes braid m) (u ++ b ∷ []) (in_basis vanishes braid m u (omega arith) parts.0 before)
    (in_map (λ b. u ++ b ∷ []) b (up_to braid.letters) (in_up_to braid.letters b parts.1)))

-- ---- after an empty degree

pub no_entries : (ws : List (List ℕ)) → ((w : List ℕ) → Contains ws w → ⊥) → ws ≡ []
no_entries [] h = refl
no_entries (w ∷ ws) h = absurd (h w (contains_first w ws))

none_in : (w : List ℕ) (ws : List (List ℕ)) → ws ≡ [] → Contains ws w → ⊥
none_in w [] e h = contains_none w h
none_in w (v ∷ ws) e h = cc

next_is_empty : (braid : BraidValue) → IsField braid.field → (vanishes : Vanishing) → IsRightIdealTest braid (vanishes braid) → (m : ℕ) → basis vanishes braid m ≡ [] → basis vanishes braid (suc m) ≡ []
unfolding candidates
next_is_empty braid is vanishes ideal m none =
    no_entries (basis vanishes braid (suc m)) (λ w i.
    let (u, j, k) = from_flat_map (λ u. map (λ b. u ++ b ∷ []) (up_to braid.letters)) w (basis vanishes braid m) (basis_word_is_candidate braid is vanishes ideal (suc m) w i) in
    none_in u (basis vanishes braid m) none j)

pub stays_empty : (braid : BraidValue) → IsField braid.field → (vanishes : Vanishing) → IsRightIdealTest braid (vanishes braid) → (m n : ℕ) → m ≤ n → basis vanishes braid m ≡ [] → basis vanishes braid n ≡ []
stays_empty braid is vanishes ideal m zero less none = let e : m ≡ 0 = omega arith in ap (basis vanishes braid) (sym e) ∙ none
stays_empty braid is vanishes ideal m (suc n) less none =
    elim (cases_lt n m) [
      | inl more ↦ let e : m ≡ suc n = omega arith in ap (basis vanishes braid) (sym e) ∙ none
      | inr fewer ↦ next_is_empty braid is vanishes ideal n (stays_empty braid is vanishes ideal m n fewer none)
    ]

-- ---- what is killed

pub is_killed_is_ideal : (braid : BraidValue) → IsField braid.field → IsRack braid → IsRightIdealTest braid (is_killed braid)
is_killed_is_ideal braid is rack = record {
  linear = is_killed_is_linear braid is;
  right = λ m f b degree over letter h. is_killed_complete braid (suc m) (times_letter f b) (killed-times_letter braid is rack m f b letter (is_killed_sound braid is m f h));
}
