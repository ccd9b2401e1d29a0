use Rattle.std.proofs.Common.{◌≤◌, ◌∙◌, ◌++◌, ◌∷◌, [], ℕ, List, sym, ap₂, subst, arith}
use Rattle.nichols_tensor.specs.declared.TheConstants.{LETTER_LIMIT}
use Rattle.nichols_braid.specs.Kernel.{is_in_kernel}
use Rattle.nichols_braid.proofs.Candidates.{candidates_first}
use Rattle.nichols_plain.proofs.Steps.{basis_has_room, next_columns, next_candidates}
use Rattle.nichols_plain.proofs.degree.plain_degree.Goals as goal

pub degree_of_candidates-requires-clause-words : goal.degree_of_candidates-requires-clause-words
degree_of_candidates-requires-clause-words c =
    c.as_slice.ensures.value ∙ c.in_ok-push.ensures.items ∙ ap₂ (λ (ws : List (List ℕ)) (w : List ℕ). ws ++ w ∷ []) c.new-first.ensures.items c.empty.ensures ∙ sym (candidates_first is_in_kernel c.args.braid.now)

pub with_letters-requires-clause-letters : goal.with_letters-requires-clause-letters
with_letters-requires-clause-letters c = subst (λ n. n ≤ LETTER_LIMIT) (sym c.letters-letters.ensures) c.field-field.ensures.braid.most

pub with_letters-requires-clause-room : goal.with_letters-requires-clause-room
with_letters-requires-clause-room c =
    basis_has_room c.args.braid.now c.loop-before.before c.as_slice-in-loop-before.result.now (c.as_slice-in-loop-before.ensures.value ∙ c.loop-before.invariant.basis) (omega (arith, c.requires.degree, c.loop-before-test.true))

pub degree_of_candidates-requires-in-loop-before-clause-columns : goal.degree_of_candidates-requires-in-loop-before-clause-columns
degree_of_candidates-requires-in-loop-before-clause-columns c = next_columns c.args.braid.now.letters c.loop-before.before c.args.m c.field-field.ensures.braid.least c.loop-before-test.true c.requires.columns

pub degree_of_candidates-requires-in-loop-before-clause-words : goal.degree_of_candidates-requires-in-loop-before-clause-words
degree_of_candidates-requires-in-loop-before-clause-words c =
    next_candidates c.args.braid.now c.letters-letters.result c.loop-before.before c.as_slice-in-loop-before.result.now c.as_slice-in-loop-before-2.result.now c.letters-letters.ensures (c.as_slice-in-loop-before.ensures.value ∙ c.loop-before.invariant.basis)
    (c.as_slice-in-loop-before-2.ensures.value ∙ c.in_ok-words.ensures)
