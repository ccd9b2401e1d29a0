-- One pass over terms that are sorted by word.
use Rattle.std.proofs.Common.{◌≡◌, Bool, true, false, not, cond, nat_eq, [], ◌∷◌, ◌++◌, refl, sym, ◌∙◌, ap, subst, append_assoc}
use Rattle.std.proofs.lemmas.List.Elements.{filter-append}
use Rattle.std.specs.List.Sorted.{IsSortedByKey}
use Rattle.std.specs.Ordering.{is_eq}
use Rattle.std.specs.declared.cmp.Ordering.{Ordering}
use Rattle.std.specs.declared.cmp.Ordering.TheVariants.{Less, Equal, Greater}
use Rattle.nichols_field.specs.Field.{FieldValue, IsField, IsElement, plus}
use Rattle.nichols_field.proofs.FieldLaws.{plus_is_element}
use Rattle.nichols_field.proofs.FieldAlgebra.{swap_first}
use Rattle.nichols_tensor.specs.Combination.{Term, Combination, HasSameValues, value_at, AllElements, without_zeros}
use Rattle.nichols_tensor.specs.WordOrder.{word_cmp, IsOrdered}
use Rattle.nichols_tensor.proofs.Values.{term_value}
use Rattle.nichols_tensor.proofs.Terms.{added, value_at-added}
use Rattle.nichols_tensor.proofs.Building.{value_at-without_zeros, all-without_zeros, ordered-without_zeros}
use Rattle.nichols_tensor.specs.Gathered.{are_one, gathered_by}
use Rattle.nichols_tensor.proofs.Gathered.{gathered_rise}

-- a term and those after it, with neighbours of one word made one term
abbrev pub gathered : FieldValue → Term → Combination → Combination
gathered k = gathered_by (λ t. t.word) (λ last t. added k t last)

-- ---- what is gathered

value-gathered : (k : FieldValue) → IsField k → (last : Term) (f : Combination) → HasSameValues k (gathered k last f) (last ∷ f)
unfolding gathered_by
value-gathered k is last [] w = refl
value-gathered k is last (t ∷ f) w = at (word_cmp t.word last.word) refl (value-gathered k is (added k t last) f w) (value-gathered k is t f w)
  where
    at : (o : Ordering) → word_cmp t.word last.word ≡ o → value_at k (gathered k (added k t last) f) w ≡ value_at k (added k t last ∷ f) w → value_at k (gathered k t f) w ≡ value_at k (t ∷ f) w →
        value_at k (cond (is_eq o) (gathered k (added k t last) f) (last ∷ gathered k t f)) w ≡ plus k (term_value last w) (value_at k (t ∷ f) w)
    at Less e same other = ap (plus k (term_value last w)) other
    at Greater e same other = ap (plus k (term_value last w)) other
    at Equal e same other =
        same ∙ value_at-added k is t last f w e ∙ swap_first k (term_value t w) (term_value last w) (value_at k f w)

elements-gathered : (k : FieldValue) → IsField k → (last : Term) (f : Combination) → IsElement k last.coefficient → AllElements k f → AllElements k (gathered k last f)
unfolding gathered_by
elements-gathered k is last [] e h = (e, tt)
elements-gathered k is last (t ∷ f) e h =
    at (are_one t.word last.word) (elements-gathered k is (added k t last) f (plus_is_element k t.coefficient last.coefficient is) h.1) (elements-gathered k is t f h.0 h.1)
  where
    at : (b : Bool) → AllElements k (gathered k (added k t last) f) → AllElements k (gathered k t f) → AllElements k (cond b (gathered k (added k t last) f) (last ∷ gathered k t f))
    at true same other = same
    at false same other = (e, other)

-- ---- the pass

-- what was put out, and then what is still to be gathered, are all that is wanted
pub record Gathering (k : FieldValue) (out : Combination) (last : Term) (f all : Combination) : Type 0 where
  pub reaches : out ++ without_zeros (gathered k last f) ≡ all
  pub element : IsElement k last.coefficient
  pub elements : AllElements k f

pub gathering_start : (k : FieldValue) (whole : Combination) (t : Term) (f : Combination) → whole ≡ t ∷ f → AllElements k whole → Gathering k [] t f (without_zeros (gathered k t f))
gathering_start k whole t f e elements = let each : AllElements k (t ∷ f) = subst (AllElements k) e elements in record { reaches = refl; element = each.0; elements = each.1 }

-- the next term has the same word
pub gathering-same : (k : FieldValue) → IsField k → (out : Combination) (last t now : Term) (f rest all : Combination) → f ≡ t ∷ rest → are_one t.word last.word ≡ true → now ≡ added k t last → Gathering k out last f all → Gathering k out now rest all
unfolding gathered_by
gathering-same k is out last t now f rest all e one n g = record {
  reaches = ap (λ u. out ++ without_zeros (gathered k u rest)) n ∙ ap (λ b. out ++ without_zeros (cond b (gathered k (added k t last) rest) (last ∷ gathered k t rest))) (sym one)
      ∙ ap (λ r. out ++ without_zeros (gathered k last r)) (sym e) ∙ g.reaches;
  element = subst (λ u. IsElement k u.coefficient) (sym n) (plus_is_element k t.coefficient last.coefficient is);
  elements = (subst (AllElements k) e g.elements).1;
}

-- the next term has another word
pub gathering-other : (k : FieldValue) (out : Combination) (last t : Term) (put f rest all : Combination) → f ≡ t ∷ rest → are_one t.word last.word ≡ false → put ≡ out ++ without_zeros (last ∷ []) → Gathering k out last f all → Gathering k put t rest all
unfolding gathered_by
gathering-other k out last t put f rest all e other p g = record {
  reaches = ap (λ o. o ++ without_zeros (gathered k t rest)) p ∙ append_assoc out (without_zeros (last ∷ [])) (without_zeros (gathered k t rest))
      ∙ ap (λ r. out ++ r) (sym (filter-append (λ u. not (nat_eq u.coefficient 0)) (last ∷ []) (gathered k t rest)))
      ∙ ap (λ b. out ++ without_zeros (cond b (gathered k (added k t last) rest) (last ∷ gathered k t rest))) (sym other)
      ∙ ap (λ r. out ++ without_zeros (gathered k last r)) (sym e) ∙ g.reaches;
  element = (subst (AllElements k) e g.elements).0;
  elements = (subst (AllElements k) e g.elements).1;
}

pub gathering-end : (k : FieldValue) (out : Combination) (last : Term) (put f all : Combination) → f ≡ [] → put ≡ out ++ without_zeros (last ∷ []) → Gathering k out last f all → put ≡ all
unfolding gathered_by
gathering-end k out last put f all e p g = p ∙ ap (λ r. out ++ without_zeros (gathered k last r)) (sym e) ∙ g.reaches

-- ---- what the pass answers

pub gathered_value : (k : FieldValue) → IsField k → (r : Combination) (t : Term) (f all : Combination) → all ≡ t ∷ f → r ≡ without_zeros (gathered k t f) → HasSameValues k r all
gathered_value k is r t f all e h w = ap (λ g. value_at k g w) h ∙ value_at-without_zeros k is (gathered k t f) w ∙ value-gathered k is t f w ∙ ap (λ g. value_at k g w) (sym e)

pub gathered_shape : (k : FieldValue) (r : Combination) (t : Term) (f all : Combination) → all ≡ t ∷ f → IsSortedByKey (λ (u : Term). u.word) word_cmp all → r ≡ without_zeros (gathered k t f) → IsOrdered r
gathered_shape k r t f all e s h = subst IsOrdered (sym h) (ordered-without_zeros (gathered k t f) (gathered_rise (λ u. u.word) (λ last u. added k u last) (λ last u. refl) t f (subst (IsSortedByKey (λ (u : Term). u.word) word_cmp) e s)))

pub gathered_elements : (k : FieldValue) → IsField k → (r : Combination) (t : Term) (f all : Combination) → all ≡ t ∷ f → AllElements k all → r ≡ without_zeros (gathered k t f) → AllElements k r
gathered_elements k is r t f all e elements h =
    let whole : AllElements k (t ∷ f) = subst (AllElements k) e elements in
    subst (AllElements k) (sym h) (all-without_zeros (λ u. IsElement k u.coefficient) (gathered k t f) (elements-gathered k is t f whole.0 whole.1))
