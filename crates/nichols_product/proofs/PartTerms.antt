-- The terms of parts.
use Rattle.std.proofs.Common.{◌≡◌, ◌<◌, ℕ, ◌+◌, List, [], ◌∷◌, ◌++◌, length, get_or, take, sym, ◌∙◌, ap, subst}
use Rattle.std.proofs.lemmas.List.{take_more}
use Rattle.nichols_field.specs.Field.{FieldValue, IsField}
use Rattle.nichols_tensor.specs.Combination.{AllElements, Combination, HasSameValues, scalar_multiple, value_at, without_zeros}
use Rattle.nichols_tensor.proofs.Building.{value_at-without_zeros}
use Rattle.nichols_tensor.proofs.Linear.{same_append}
use Rattle.nichols_tensor.proofs.Values.{value_at-scalar_multiple, value_is_element}
use Rattle.nichols_field.proofs.FieldAlgebra.{one_times}
use Rattle.nichols_braid.specs.Braid.{BraidValue}
use Rattle.nichols_reduce.proofs.PartForms.{elements_with}
use Rattle.nichols_product.specs.Parts.{element_of, total}
use Rattle.nichols_product.specs.declared.parts.Part.{Part}
use Rattle.nichols_product.proofs.PartSums.{one_part, total-append}

pub record AreTerms (braid : BraidValue) (ps : List Part) (i : ℕ) (terms : Combination) : Type 0 where
  pub values : HasSameValues braid.field terms (total braid (take i ps))
  pub elements : AllElements braid.field terms

pub terms_of_none : (braid : BraidValue) (ps : List Part) (terms : Combination) → terms ≡ [] → AreTerms braid ps 0 terms
unfolding total
terms_of_none braid ps terms e = record { values = λ v. ap (λ f. value_at braid.field f v) e; elements = subst (AllElements braid.field) (sym e) tt }

pub terms_of_more : (braid : BraidValue) → IsField braid.field → (ps : List Part) (i : ℕ) (p : Part) (old new : Combination) → i < length ps → p ≡ get_or ps i p → AreTerms braid ps i old → new ≡ old ++ without_zeros (scalar_multiple braid.field 1 (element_of braid p)) → AreTerms braid ps (i + 1) new
terms_of_more braid is ps i p old new less at h e =
    let k : FieldValue = braid.field in
    let own : Combination = element_of braid p in
    record {
      values = λ v.
          ap (λ f. value_at k f v) e
          ∙ same_append k is old (without_zeros (scalar_multiple k 1 own)) (total braid (take i ps)) own h.values
          (λ u. value_at-without_zeros k is (scalar_multiple k 1 own) u ∙ value_at-scalar_multiple k is 1 own u ∙ one_times k (value_at k own u) (value_is_element k is own u)) v
          ∙ ap (λ f. value_at k f v) (sym (ap (total braid) (take_more ps i p less ∙ ap (λ x. take i ps ++ x ∷ []) (sym at)) ∙ total-append braid (take i ps) (p ∷ []) ∙ ap (λ f. total braid (take i ps) ++ f) (one_part braid p)));
      elements = elements_with k is 1 own old new h.elements e;
    }
