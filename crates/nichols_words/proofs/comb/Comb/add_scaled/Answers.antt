use Rattle.std.proofs.Common.{◌≡◌, ◌++◌, ℕ, List, subst}
use Rattle.nichols_field.specs.Field.{FieldValue, IsField, plus, times}
use Rattle.nichols_tensor.specs.Combination.{Combination, AllAmong, AllElements, value_at, words_of}
use Rattle.nichols_tensor.specs.WordOrder.{IsOrdered}
use Rattle.nichols_tensor.proofs.Ordered.{among_sum}
use Rattle.nichols_tensor.proofs.Over.{over_of_both, degree_of_both}
use Rattle.nichols_words.proofs.comb.Comb.add_scaled.Goals as goal

among : (k : FieldValue) → IsField k → (by : ℕ) (f g h left right : Combination) → left ≡ f → right ≡ g → AllElements k h → IsOrdered h → ((w : List ℕ) → value_at k h w ≡ plus k (value_at k left w) (times k by (value_at k right w))) → AllAmong h (words_of f ++ words_of g)
among k is by f g h left right same_left same_right e o values =
    subst (λ r. AllAmong h (words_of f ++ words_of r)) same_right (subst (λ l. AllAmong h (words_of l ++ words_of right)) same_left (among_sum k is by left right h e o values))

pub returns-clause-words : goal.returns-clause-words
returns-clause-words c =
    among c.args.field c.modulus-modulus.ensures.field c.args.by c.args.self.now c.args.other.now c.in_ok-terms.terms.items c.terms.result.now c.terms-2.result.now c.terms.ensures.same c.terms-2.ensures.same c.in_ok-terms.ensures.elements c.in_ok-terms.ensures.shape c.in_ok-terms.ensures.value

pub returns-clause-letters : goal.returns-clause-letters
returns-clause-letters c = λ n. over_of_both n c.args.self.now c.args.other.now c.in_ok-terms.terms.items (returns-clause-words c)

pub returns-clause-degree : goal.returns-clause-degree
returns-clause-degree c = λ m. degree_of_both m c.args.self.now c.args.other.now c.in_ok-terms.terms.items (returns-clause-words c)
