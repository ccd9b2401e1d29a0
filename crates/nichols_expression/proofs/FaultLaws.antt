-- What the first fault of a text says: its place, and which texts with the same front are no expressions.
use Rattle.std.proofs.Common.{◌≡◌, ℕ, ◌<◌, ◌≤◌, ◌-◌, ◌+◌, Bool, true, false, cond, List, [], ◌∷◌, ◌++◌, length, drop, refl, sym, ◌∙◌, ap, subst, nat_eq, arith, Ok, Err}
use Rattle.std.specs.Char.{is_ascii_digit}
use Rattle.std.proofs.lemmas.List.{length-append, length-drop, drop-append-le}
use Rattle.nichols_braid.specs.Braid.{BraidValue, IsBraid}
use Rattle.nichols_tensor.specs.Combination.{Combination}
use Rattle.nichols_expression.specs.declared.TheConstants.{NUMBER_LIMIT}
use Rattle.nichols_expression.specs.Bytes.{space}
use Rattle.nichols_expression.specs.declared.faults.ExpressionFault.{ExpressionFault}
use Rattle.nichols_expression.specs.declared.faults.ExpressionFault.TheVariants.{At, Memory}
use Rattle.nichols_expression.specs.declared.faults.Cause.{Cause}
use Rattle.nichols_expression.specs.declared.faults.Cause.TheVariants.{Early, Byte, Letter, LongNumber, LongWord, Terms, Surplus}
use Rattle.nichols_expression.specs.Reader.{FaultAt, Read, Fault, past_run, past_spaces, read_terms, value_or_fault, expression_of}
use Rattle.nichols_expression.specs.Faults.{IsPlaceOf, IsPlacedIn, Settles}
use Rattle.nichols_expression.specs.Steps.{IsFaultOf}
use Rattle.nichols_expression.specs.Laws.{IsNoExpression, FaultsHavePlaces, FaultsAreFinal}
use Rattle.nichols_expression.proofs.Seen.{from_settling_byte, past_spaces-le, behind_run-le}
use Rattle.nichols_expression.proofs.Twins.{IsStopped, FollowsFault, read_terms_follow}
use Rattle.nichols_expression.proofs.Ends.{IsEndOf, end-le, end_is_drop, IsLeftAt, FaultsIn, read_terms_fault}
use Rattle.nichols_expression.proofs.Values.{fault_read}
use Rattle.nichols_expression.proofs.Whole.{read_terms_complete}

-- the place of a byte by what is left there
abbrev told : List ℕ → FaultAt → Fault
told text e = record { place = length text + 1 - length e.left; cause = e.cause }

-- ---- places

place_by_left : (text : List ℕ) (cause : Cause) (left : List ℕ) → length left ≤ length text → IsLeftAt cause left → IsPlaceOf text cause (length text + 1 - length left)
place_by_left text Early left within is = omega (arith, is)
place_by_left text Byte left within is = (omega (arith, within), omega (arith, is))
place_by_left text Letter left within is = (omega (arith, within), omega (arith, is))
place_by_left text LongNumber left within is = (omega (arith, within), omega (arith, is))
place_by_left text LongWord left within is = (omega (arith, within), omega (arith, is))
place_by_left text Terms left within is = (omega (arith, within), omega (arith, is))
place_by_left text Surplus left within is = is

pub faults_have_places : FaultsHavePlaces
unfolding expression_of
faults_have_places braid order text fault h = at (read_terms braid.field braid.letters text) (read_terms_fault braid.field braid.letters text) h
  where
    at : (r : Read) → FaultsIn text r → value_or_fault braid.field order text r ≡ Err fault → IsPlaceOf text fault.cause fault.place
    at (Ok f) is h = absurd cc
    at (Err e) is h =
        let same : told text e ≡ fault = cc in
        subst (λ f. IsPlaceOf text f.cause f.place) same (place_by_left text e.cause e.left (end-le e.left text is.0) is.1)

pub placed_read : (braid : BraidValue) (order text : List ℕ) (fault : ExpressionFault) → IsFaultOf text (read_terms braid.field braid.letters text) fault → IsPlacedIn text fault
placed_read braid order text Memory h = tt
placed_read braid order text (At place cause) h = faults_have_places braid order text (record { place = place; cause = cause }) (fault_read braid order text (At place cause) h)

-- ---- a front that settles a fault

run_of_front : (front back : List ℕ) → 0 < length (past_run front) → past_run (front ++ back) ≡ past_run front ++ back
unfolding past_run
run_of_front [] back h = absurd (omega (arith, h))
run_of_front (byte ∷ rest) back h = at (is_ascii_digit byte) (run_of_front rest back) h
  where
    at : (b : Bool) → (0 < length (past_run rest) → past_run (rest ++ back) ≡ past_run rest ++ back) → 0 < length (cond b (past_run rest) (byte ∷ rest)) →
        cond b (past_run (rest ++ back)) (byte ∷ (rest ++ back)) ≡ cond b (past_run rest) (byte ∷ rest) ++ back
    at true ih h = ih h
    at false ih h = refl

spaces_of_front : (front back : List ℕ) → 0 < length (past_spaces front) → past_spaces (front ++ back) ≡ past_spaces front ++ back
unfolding past_spaces
spaces_of_front [] back h = absurd (omega (arith, h))
spaces_of_front (byte ∷ rest) back h = at (nat_eq byte space) (spaces_of_front rest back) h
  where
    at : (b : Bool) → (0 < length (past_spaces rest) → past_spaces (rest ++ back) ≡ past_spaces rest ++ back) → 0 < length (cond b (past_spaces rest) (byte ∷ rest)) →
        cond b (past_spaces (rest ++ back)) (byte ∷ (rest ++ back)) ≡ cond b (past_spaces rest) (byte ∷ rest) ++ back
    at true ih h = ih h
    at false ih h = refl

more_of_run : (front back : List ℕ) → 0 < length (past_spaces (past_run front)) → length back < length (past_spaces (past_run (front ++ back)))
more_of_run front back h =
    let same = ap past_spaces (run_of_front front back (omega (arith, h, past_spaces-le (past_run front)))) ∙ spaces_of_front (past_run front) back h in
    let count : length (past_spaces (past_run (front ++ back))) ≡ length (past_spaces (past_run front) ++ back) = ap length same in
    omega (arith, h, count, length-append (past_spaces (past_run front)) back)

more_of_front : (front back : List ℕ) → 0 < length front → length back < length (front ++ back)
more_of_front front back h = omega (arith, h, length-append front back)

-- what the front has from the place on, the text has with all that comes behind the front
more_by_cause : (cause : Cause) (front back : List ℕ) → 0 < length (from_settling_byte cause front) → length back < length (from_settling_byte cause (front ++ back))
more_by_cause Early front back h = more_of_front front back h
more_by_cause Byte front back h = more_of_front front back h
more_by_cause Letter front back h = more_of_run front back h
more_by_cause LongNumber front back h = omega (arith, h, length-drop NUMBER_LIMIT front, length-drop NUMBER_LIMIT (front ++ back), length-append front back)
more_by_cause LongWord front back h = more_of_front front back h
more_by_cause Terms front back h = more_of_front front back h
more_by_cause Surplus front back h = more_of_front front back h

settling-le : (cause : Cause) (left : List ℕ) → length (from_settling_byte cause left) ≤ length left
settling-le Early left = omega arith
settling-le Byte left = omega arith
settling-le Letter left = behind_run-le left
settling-le LongNumber left = omega (arith, length-drop NUMBER_LIMIT left)
settling-le LongWord left = omega arith
settling-le Terms left = omega arith
settling-le Surplus left = omega arith

-- the settling byte is in the front, from the place on
from_place : (cause : Cause) (place : ℕ) (front : List ℕ) → 1 ≤ place → Settles cause place front → 0 < length (from_settling_byte cause (drop (place - 1) front))
from_place Early place front counts h = omega (arith, counts, h, length-drop (place - 1) front)
from_place Byte place front counts h = omega (arith, counts, h, length-drop (place - 1) front)
from_place Letter place front counts h = h
from_place LongNumber place front counts h = omega (arith, counts, h, length-drop (place - 1) front, length-drop NUMBER_LIMIT (drop (place - 1) front))
from_place LongWord place front counts h = omega (arith, counts, h, length-drop (place - 1) front)
from_place Terms place front counts h = omega (arith, counts, h, length-drop (place - 1) front)
from_place Surplus place front counts h = absurd h

settled_in_front : (text front back : List ℕ) (e : FaultAt) → text ≡ front ++ back → IsEndOf e.left text → Settles e.cause (length text + 1 - length e.left) front → length back < length (from_settling_byte e.cause e.left)
settled_in_front text front back e split is settles =
    let place = length text + 1 - length e.left in
    let own = drop (place - 1) front in
    let counts : 1 ≤ place = omega (arith, end-le e.left text is) in
    let settled = from_place e.cause place front counts settles in
    let inside : place - 1 ≤ length front = omega (arith, settled, settling-le e.cause own, length-drop (place - 1) front) in
    let same : place - 1 ≡ length text - length e.left = omega arith in
    let cut : e.left ≡ own ++ back = sym (end_is_drop e.left text is) ∙ ap (λ i. drop i text) (sym same) ∙ ap (drop (place - 1)) split ∙ drop-append-le (place - 1) front back inside in
    subst (λ l. length back < length (from_settling_byte e.cause l)) (sym cut) (more_by_cause e.cause own back settled)

-- ---- such texts are no expressions

stopped_has_no_terms : (s : Read) (f : Combination) → IsStopped s → s ≡ Ok f → ⊥
stopped_has_no_terms (Ok g) f is h = is
stopped_has_no_terms (Err e) f is h = absurd cc

front_is_final : (braid : BraidValue) → IsBraid braid → (order front back other : List ℕ) (text : List ℕ) (fault : Fault) → text ≡ front ++ back → expression_of braid order text ≡ Err fault → Settles fault.cause fault.place front →
    IsNoExpression braid (front ++ other)
unfolding expression_of
front_is_final braid is_braid order front back other text fault split h settles p =
    at (read_terms braid.field braid.letters text) (read_terms_fault braid.field braid.letters text)
    (subst (λ t. FollowsFault back (read_terms braid.field braid.letters t) (read_terms braid.field braid.letters (front ++ other))) (sym split) (read_terms_follow braid.field braid.letters is_braid.most back other front)) h
  where
    at : (r : Read) → FaultsIn text r → FollowsFault back r (read_terms braid.field braid.letters (front ++ other)) → value_or_fault braid.field order text r ≡ Err fault → ⊥
    at (Ok g) is follows h = absurd cc
    at (Err e) is follows h =
        let same : fault ≡ told text e = cc in
        stopped_has_no_terms (read_terms braid.field braid.letters (front ++ other)) p.0
        (follows (settled_in_front text front back e split is.0 (subst (λ x. Settles x.cause x.place front) same settles))) (read_terms_complete braid.field braid.letters is_braid.most (front ++ other) p.0 p.1)

pub faults_are_final : FaultsAreFinal
unfolding expression_of
faults_are_final braid is order text fault h = (itself, λ front back split settles other. front_is_final braid is order front back other text fault split h settles)
  where
    itself : IsNoExpression braid text
    itself p = let e = ap (value_or_fault braid.field order text) (sym (read_terms_complete braid.field braid.letters is.most text p.0 p.1)) ∙ h in absurd cc
