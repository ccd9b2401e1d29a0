use Rattle.std.proofs.Common.{rules, ◌≡◌, ◌∷◌, ℕ, ◌+◌, Bool, true, false, drop, sym, ◌∙◌, ap, subst}
use Rattle.std.proofs.lemmas.List.{drop_more}
use Rattle.std.proofs.Math.ListN.{drop_of_length-le}
use Rattle.nichols_field.specs.Field.{FieldValue, IsElement, plus}
use Rattle.nichols_field.proofs.FieldLaws.{plus_comm}
use Rattle.nichols_tensor.specs.Combination.{Term, without_zeros}
use Rattle.nichols_tensor.proofs.Terms.{term, added}
use Rattle.nichols_words.proofs.Gathering.{gathered, gathering_start, gathering-same, gathering-other, gathering-end, gathered_value, gathered_shape, gathered_elements}
use Rattle.nichols_words.proofs.sum.collected.Goals.{then-eq, else-eq+in_ok-put_nonzero, Joined-eq, In_ok-put_nonzero-2}
use Rattle.nichols_words.proofs.sum.collected.Goals as goal
use Rattle.nichols_tensor.specs.Gathered.{are_one}

-- the test, and the sum, at the terms themselves
tested : (t last seen_t seen_last : Term) (b : Bool) → t ≡ seen_t → last ≡ seen_last → b ≡ are_one t.word last.word → are_one seen_t.word seen_last.word ≡ b
tested t last seen_t seen_last b e d h = rw (← e, ← d) (sym h)

sum_of_two : (k : FieldValue) (last t seen_last seen_t : Term) (n : ℕ) → last ≡ seen_last → t ≡ seen_t → n ≡ plus k last.coefficient t.coefficient → term last.word n ≡ added k seen_t seen_last
sum_of_two k last t seen_last seen_t n d e h = rw (← e, ← d, h) (ap (term last.word) (plus_comm k last.coefficient t.coefficient))

pub loop-term-init : goal.loop-term-init
loop-term-init c = rw c.new-out.ensures.items (gathering_start c.args.field c.args.terms.now c.in-Some.first.now c.in-Some.rest.now c.in-Some.ensures.cases.0 c.requires.elements)

pub add-requires-clause-left : goal.add-requires-clause-left
add-requires-clause-left c = subst (λ t. IsElement c.args.field t.coefficient) (sym c.last.view_is) c.loop-term.invariant.element

next_first : (c : Joined-eq) → drop c.loop-term.term-index c.in-Some.rest.now ≡ c.term-item.result ∷ drop (c.loop-term.term-index + 1) c.in-Some.rest.now
next_first c = drop_more c.in-Some.rest.now c.loop-term.term-index c.term-item.result (search rules) ∙ ap (λ u. u ∷ drop (c.loop-term.term-index + 1) c.in-Some.rest.now) (sym c.term-item.is)

pub loop-term-preserved : goal.loop-term-preserved
loop-term-preserved c =
    elim c.if-eq.branch [
      | then-eq w ↦
          gathering-same c.args.field c.modulus-modulus.ensures.field c.if-eq.out.items c.loop-term.last c.term-item.result c.if-eq.last _ _ _ (next_first c)
          (tested _ _ _ _ true c.term.view_is c.last.view_is w.if-eq.ensures) (w.last-is ∙ sum_of_two c.args.field _ _ _ _ w.add.result c.last.view_is c.term.view_is w.add.ensures.sum) (rw w.out-is c.loop-term.invariant)
      | else-eq+in_ok-put_nonzero w ↦
          rw (w.last-is ∙ c.term.view_is) (gathering-other c.args.field c.loop-term.out.items c.loop-term.last c.term-item.result c.if-eq.out.items _ _ _ (next_first c)
          (tested _ _ _ _ false c.term.view_is c.last.view_is w.if-eq.ensures) (search rules) c.loop-term.invariant)
    ]

ended : (c : In_ok-put_nonzero-2) → c.put_nonzero-2.new.out.items ≡ without_zeros (gathered c.args.field c.in-Some.first.now c.in-Some.rest.now)
ended c =
    gathering-end c.args.field c.loop-term.out.items c.loop-term.last c.put_nonzero-2.new.out.items (drop c.loop-term.term-index c.in-Some.rest.now) _
    (drop_of_length-le c.in-Some.rest.now (search rules)) (search rules) c.loop-term.invariant

pub returns-clause-value : goal.returns-clause-value
returns-clause-value c = gathered_value c.args.field c.modulus-modulus.ensures.field c.put_nonzero-2.new.out.items c.in-Some.first.now c.in-Some.rest.now c.args.terms.now c.in-Some.ensures.cases.0 (ended c)

pub returns-clause-shape : goal.returns-clause-shape
returns-clause-shape c = gathered_shape c.args.field c.put_nonzero-2.new.out.items c.in-Some.first.now c.in-Some.rest.now c.args.terms.now c.in-Some.ensures.cases.0 c.requires.sorted (ended c)

pub returns-clause-elements : goal.returns-clause-elements
returns-clause-elements c = gathered_elements c.args.field c.modulus-modulus.ensures.field c.put_nonzero-2.new.out.items c.in-Some.first.now c.in-Some.rest.now c.args.terms.now c.in-Some.ensures.cases.0 c.requires.elements (ended c)
