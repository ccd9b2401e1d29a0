-- Where a step stops, from the parts of it.
use Rattle.std.proofs.Common.{◌≡◌, ◌≤◌, ◌+◌, ℕ, List, length, drop, sym, ◌∙◌, ap, Ok, Err, Result, subst, false, true}
use Rattle.nichols_expression.specs.Reader.{FaultAt, fault}
use Rattle.nichols_expression.specs.Steps.{IsStoppedBy, IsFaultOf}
use Rattle.std.specs.Result.{MatchResult, IsErr, IsErrAnd}
use Rattle.nichols_expression.specs.declared.faults.ExpressionFault.{ExpressionFault}
use Rattle.nichols_expression.specs.declared.faults.ExpressionFault.TheVariants.{At}
use Rattle.nichols_expression.specs.declared.faults.Cause.{Cause}
use Rattle.nichols_expression.specs.declared.placed_fault.PlacedFault.{PlacedFault}

pub stopped : {X : Type 0} (text : List ℕ) (read : Result X FaultAt) (stop : PlacedFault) (at : ℕ) (cause : Cause) → at ≤ length text → stop.place ≡ at + 1 → stop.cause ≡ cause → read ≡ fault cause (drop at text) → IsStoppedBy text read stop
stopped text read stop at cause within place same h = (at, within, place, h ∙ ap (λ k. fault k (drop at text)) (sym same))

-- a fault made of a stop is one of the same reading
pub fault_of : {X : Type 0} (text : List ℕ) (read : Result X FaultAt) (stop : PlacedFault) (fault : ExpressionFault) → fault ≡ At stop.place stop.cause → IsStoppedBy text read stop → IsFaultOf text read fault
fault_of text read stop fault h s = subst (IsFaultOf text read) (sym h) s

pub stop_moved : {X Y : Type 0} (text : List ℕ) (inner : Result X FaultAt) (read : Result Y FaultAt) (stop : PlacedFault) →
    ((cause : Cause) (left : List ℕ) → inner ≡ fault cause left → read ≡ fault cause left) → IsStoppedBy text inner stop → IsStoppedBy text read stop
stop_moved text inner read stop h s = (s.0, s.1, s.2, h stop.cause (drop s.0 text) s.3)

pub answered : {T E : Type 0} (P : T → Type 0) (Q : E → Type 0) (gives : E → Type 0) (r : Result T E) → IsErr r → IsErrAnd r gives → ((e : E) → gives e → Q e) → MatchResult r P Q
answered P Q gives (Ok x) err h make = let c : false ≡ true = err in absurd cc
answered P Q gives (Err e) err h make = make e h
