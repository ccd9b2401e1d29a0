-- Forms in a table of relations, and combinations of forms.
use Rattle.std.proofs.Common.{◌≡◌, ◌≢◌, ℕ, zero, suc, ◌<◌, Bool, true, false, cond, List, [], ◌∷◌, map, length, get_or, refl, sym, ◌∙◌, ap, ap₂, subst, arith, inl, inr}
use Rattle.std.specs.List.{AllByRecursion, Contains}
use Rattle.std.specs.Cmp.Lexicographic.{same_text, other_text}
use Rattle.nichols_field.specs.Field.{FieldValue, IsField, times}
use Rattle.nichols_field.proofs.FieldLaws.{times_assoc}
use Rattle.nichols_tensor.specs.Combination.{Combination, value_at, HasSameValues, AllElements, AllAmong, same_letters, single, scalar_multiple, linear_map, words_of}
use Rattle.nichols_tensor.specs.Relation.{PlainRelation}
use Rattle.nichols_tensor.specs.WordOrder.{IsOrdered}
use Rattle.nichols_tensor.proofs.Entries.{contains_none, contains_first, contains_later, contains_cases}
use Rattle.nichols_tensor.proofs.Enumeration.{among-append, among-scalar_multiple}
use Rattle.nichols_tensor.proofs.Ordered.{is_in_or_not, zero_at_others, among_nonzero}
use Rattle.nichols_tensor.proofs.Over.{all_at, all_of_words}
use Rattle.nichols_braid.specs.Forms.{candidates_of, form_in}
use Rattle.nichols_braid.specs.LinearTest.{IsLinearTest}
use Rattle.nichols_braid.proofs.Congruences.{AreCongruent, congruent_same, congruent-append, congruent-scalar_multiple}

-- ---- the form of a word in a table

-- a word that is no candidate of the table has itself
pub form_elsewhere : (table : List PlainRelation) (w : List ℕ) → (Contains (candidates_of table) w → ⊥) → form_in table w ≡ single w
unfolding form_in
form_elsewhere [] w none = refl
form_elsewhere (r ∷ table) w none = at (same_letters r.candidate w) refl (form_elsewhere table w (λ i. none (contains_later r.candidate (candidates_of table) w i)))
  where
    at : (b : Bool) → same_letters r.candidate w ≡ b → form_in table w ≡ single w → cond b r.form (form_in table w) ≡ single w
    at true e rest = absurd (none (subst (Contains (candidates_of (r ∷ table))) (same_text r.candidate w (sym e)) (contains_first r.candidate (candidates_of table))))
    at false e rest = rest

candidate_at : (table : List PlainRelation) (i : ℕ) (d : PlainRelation) → i < length table → Contains (candidates_of table) (get_or table i d).candidate
candidate_at [] i d less = absurd (omega arith)
candidate_at (r ∷ table) zero d less = contains_first r.candidate (candidates_of table)
candidate_at (r ∷ table) (suc i) d less = contains_later r.candidate (candidates_of table) (get_or table i d).candidate (candidate_at table i d (omega arith))

-- ---- a table that lists the forms of some words

pub form_listed : (F : List ℕ → Combination) (ws : List (List ℕ)) (w : List ℕ) → Contains ws w → form_in (map (λ v. record { candidate = v; form = F v }) ws) w ≡ F w
unfolding form_in
form_listed F [] w i = absurd (contains_none w i)
form_listed F (v ∷ ws) w i = at (same_letters v w) refl (form_listed F ws w)
  where
    at : (b : Bool) → same_letters v w ≡ b → (Contains ws w → form_in (map (λ v. record { candidate = v; form = F v }) ws) w ≡ F w) →
        cond b (F v) (form_in (map (λ v. record { candidate = v; form = F v }) ws) w) ≡ F w
    at true e rest = ap F (same_text v w (sym e))
    at false e rest = elim (contains_cases v ws w i) [ inl same ↦ absurd (other_text v w (sym e) (sym same)) | inr h ↦ rest h ]

pub candidates_listed : (F : List ℕ → Combination) (ws : List (List ℕ)) → candidates_of (map (λ v. record { candidate = v; form = F v }) ws) ≡ ws
candidates_listed F [] = refl
candidates_listed F (w ∷ ws) = ap (λ vs. w ∷ vs) (candidates_listed F ws)

-- ---- combinations

-- a multiple of a multiple
pub scalar_multiple-scalar_multiple : (k : FieldValue) (b c : ℕ) (f : Combination) → scalar_multiple k b (scalar_multiple k c f) ≡ scalar_multiple k (times k b c) f
scalar_multiple-scalar_multiple k b c [] = refl
scalar_multiple-scalar_multiple k b c (t ∷ f) = ap₂ (λ n (g : Combination). record { word = t.word; coefficient = n } ∷ g) (sym (times_assoc k b c t.coefficient)) (scalar_multiple-scalar_multiple k b c f)

-- a combination in order has no words but those of one with its values
pub among_same : (k : FieldValue) → IsField k → (f g : Combination) (ws : List (List ℕ)) → AllElements k f → IsOrdered f → HasSameValues k f g → AllAmong g ws → AllAmong f ws
unfolding AllAmong
among_same k is f g ws e o same among = among_nonzero k is f ws e o at
  where
    at : (w : List ℕ) → value_at k f w ≢ 0 → Contains ws w
    at w nonzero =
        elim (is_in_or_not w (words_of g)) [
          | inl i ↦ all_at (λ v. Contains ws v) (words_of g) w (all_of_words (λ v. Contains ws v) g among) i
          | inr none ↦ absurd (nonzero (same w ∙ zero_at_others k is g w none))
        ]

-- linear maps whose images of the words that occur are congruent
pub congruent_extended : (k : FieldValue) → IsField k → (test : Combination → Bool) → IsLinearTest k test → (image other : List ℕ → Combination) (f : Combination) →
    AllByRecursion (λ t. AreCongruent k test (image t.word) (other t.word)) f → AreCongruent k test (linear_map k image f) (linear_map k other f)
congruent_extended k is test l image other [] h = congruent_same k is test l [] [] (λ w. refl)
congruent_extended k is test l image other (t ∷ f) h =
    congruent-append k is test l (scalar_multiple k t.coefficient (image t.word)) (scalar_multiple k t.coefficient (other t.word)) (linear_map k image f) (linear_map k other f)
    (congruent-scalar_multiple k is test l t.coefficient (image t.word) (other t.word) h.0) (congruent_extended k is test l image other f h.1)

pub among-linear_map : (k : FieldValue) (image : List ℕ → Combination) (f : Combination) (ws : List (List ℕ)) → AllByRecursion (λ t. AllAmong (image t.word) ws) f → AllAmong (linear_map k image f) ws
unfolding AllAmong
among-linear_map k image [] ws h = tt
among-linear_map k image (t ∷ f) ws h =
    among-append (scalar_multiple k t.coefficient (image t.word)) (linear_map k image f) ws (among-scalar_multiple k t.coefficient (image t.word) ws h.0) (among-linear_map k image f ws h.1)
