-- What the laws of this crate say.
use Rattle.std.specs.Prelude.{◌≡◌, ◌↔◌, ◌⊎◌, ℕ, ◌<◌, ◌≤◌, List, ◌++◌, length, Ok, Err}
use Rattle.std.specs.List.{AllByRecursion}
use Rattle.nichols_braid.specs.Braid.{BraidValue, IsBraid}
use Rattle.nichols_braid.specs.Order.{IsOrder, in_ranks}
use Rattle.nichols_tensor.specs.Combination.{Combination, AllElements}
use Rattle.nichols_tensor.specs.InOrder.{in_order}
use Rattle.nichols_tensor.specs.WordOrder.{IsOrdered}
use Rattle.nichols_tensor.specs.Words.{IsOver}
use Rattle.nichols_tensor.specs.declared.TheConstants.{WORD_LIMIT}
use Rattle.nichols_expression.specs.declared.TheConstants.{TERM_LIMIT}
use Rattle.nichols_expression.specs.Grammar.{IsExpression}
use Rattle.nichols_expression.specs.Printed.{form_text}
use Rattle.nichols_expression.specs.Reader.{Fault, expression_of}
use Rattle.nichols_expression.specs.Faults.{IsPlaceOf, Settles, EndsInFull}

-- the text is an expression over the braid's letters, and has this value: its terms, in ranks, brought into order
abbrev pub IsExpressionOf : BraidValue → List ℕ → List ℕ → Combination → Type 0
IsExpressionOf braid order text f = (terms : Combination) × IsExpression braid.field braid.letters text terms × (f ≡ in_order braid.field (in_ranks order terms))

-- exactly the texts of the grammar are accepted, each with its value
abbrev pub GrammarIsAccepted : Type 0
GrammarIsAccepted = (braid : BraidValue) → IsBraid braid → (order text : List ℕ) (f : Combination) → (expression_of braid order text ≡ Ok f) ↔ IsExpressionOf braid order text f

-- a text has one value at most
abbrev pub ATextHasOneValue : Type 0
ATextHasOneValue = (braid : BraidValue) → IsBraid braid → (order text : List ℕ) (f g : Combination) → IsExpressionOf braid order text f → IsExpressionOf braid order text g → f ≡ g

-- the text is an expression over the braid's letters
abbrev pub IsSomeExpression : BraidValue → List ℕ → Type 0
IsSomeExpression braid text = (terms : Combination) × IsExpression braid.field braid.letters text terms

-- the text is none
abbrev pub IsNoExpression : BraidValue → List ℕ → Type 0
IsNoExpression braid text = IsSomeExpression braid text → ⊥

-- a fault stands in the text, or behind its last byte where the text ends too early; that of too many expressions comes with no text
abbrev pub FaultsHavePlaces : Type 0
FaultsHavePlaces = (braid : BraidValue) (order text : List ℕ) (fault : Fault) → expression_of braid order text ≡ Err fault → IsPlaceOf text fault.cause fault.place

-- a text with a fault is no expression, and nor is any other that begins with a front of it which settles the fault
abbrev pub FaultsAreFinal : Type 0
FaultsAreFinal = (braid : BraidValue) → IsBraid braid → (order text : List ℕ) (fault : Fault) → expression_of braid order text ≡ Err fault →
    IsNoExpression braid text × ((front back : List ℕ) → text ≡ front ++ back → Settles fault.cause fault.place front → (other : List ℕ) → IsNoExpression braid (front ++ other))

-- a text can be completed to an expression
abbrev pub CanBeCompleted : BraidValue → List ℕ → Type 0
CanBeCompleted braid front = (other : List ℕ) × IsSomeExpression braid (front ++ other)

-- each front of a text that ends before the place of its fault can be completed to an expression, unless it ends with the dot behind
-- the last letter that a word may have or, but for spaces, with the sign behind the last term that an expression may have
abbrev pub FaultsAreFirst : Type 0
FaultsAreFirst = (braid : BraidValue) → IsBraid braid → (order text : List ℕ) (fault : Fault) → expression_of braid order text ≡ Err fault →
    (front back : List ℕ) → text ≡ front ++ back → length front < fault.place → CanBeCompleted braid front ⊎ EndsInFull braid.field braid.letters front

-- a combination that an expression over the braid can have as its value
pub record IsPrintable (braid : BraidValue) (f : Combination) : Type 0 where
  pub ordered : IsOrdered f
  pub elements : AllElements braid.field f
  pub letters : IsOver braid.letters f
  pub short : AllByRecursion (λ t. length t.word ≤ WORD_LIMIT) f
  pub few : length f ≤ TERM_LIMIT

-- a combination in ranks that is printed in letters is an expression with that value, and is read again as itself
abbrev pub PrintedCombinationsAreReadAgain : Type 0
PrintedCombinationsAreReadAgain = (braid : BraidValue) → IsBraid braid → (order : List ℕ) → IsOrder braid.letters order → (f : Combination) → IsPrintable braid f →
    IsExpressionOf braid order (form_text braid.field order f) f × (expression_of braid order (form_text braid.field order f) ≡ Ok f)
