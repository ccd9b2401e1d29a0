-- What it says that the test of an event's condition passes.
use Rattle.std.proofs.Common.{◌≡◌, ℕ, Bool, true, false, eqb, not, ◌&&◌, ◌||◌, List, length, sym, ap, ◌∙◌, eq-eqb}
use Rattle.std.specs.Prelude.{Some}
use Rattle.std.proofs.lemmas.Bool.{not-true, and_parts}
use Rattle.nichols_core.specs.declared.edge.Edge.{Edge}
use Rattle.nichols_core.specs.declared.event.Event.{Event}
use Rattle.nichols_core.specs.declared.event.Event.TheVariants.{Take, Ask, Pick, Lay, Publish, Release}
use Rattle.nichols_core.specs.declared.stage.Stage.TheVariants.{Held, Resumed, Published}
use Rattle.nichols_core.specs.Layout.{edge_at, edge_into, edge_out}
use Rattle.nichols_core.specs.Machine.{Machine, none_picked, all_picked, all_laid, some_edge, is_held_by, is_published, can}
use Rattle.nichols_core.specs.SixLaws.{AllPicked, NonePicked, AllLaid}
use Rattle.nichols_core.proofs.Stages.{every_true, held_by, resumed_by, published}
use Rattle.nichols_core.proofs.EdgesFound.{some_found}

-- a test of "not this block, or p": where it is this block, p holds
pub or_true : (a b : ℕ) (p : Bool) → (not (eqb a b) || p) ≡ true → a ≡ b → p ≡ true
or_true a b p h e = ap (λ t. not t || p) (sym (eq-eqb a b e)) ∙ h

pub nand_true : (a b : ℕ) (p : Bool) → not (eqb a b && p) ≡ true → a ≡ b → p ≡ false
nand_true a b p h e = not-true p (ap (λ t. not (t && p)) (sym (eq-eqb a b e)) ∙ h)

-- what the tests over all edges say
pub all_picked_true : (es : List Edge) (m : Machine) (b : ℕ) → all_picked es m.picked b ≡ true → AllPicked es m b
all_picked_true es m b h k inside = or_true (edge_at es k).upper b (m.picked k) (every_true (length es) (λ k. not (eqb (edge_at es k).upper b) || m.picked k) h k inside)

pub all_laid_true : (es : List Edge) (m : Machine) (b : ℕ) → all_laid es m.laid b ≡ true → AllLaid es m b
all_laid_true es m b h k inside = or_true (edge_at es k).lower b (m.laid k) (every_true (length es) (λ k. not (eqb (edge_at es k).lower b) || m.laid k) h k inside)

pub none_picked_true : (es : List Edge) (m : Machine) (b : ℕ) → none_picked es m.picked b ≡ true → NonePicked es m b
none_picked_true es m b h k inside = nand_true (edge_at es k).upper b (m.picked k) (every_true (length es) (λ k. not (eqb (edge_at es k).upper b && m.picked k)) h k inside)

-- what the condition asks, with the number of the edge that is found
abbrev pub Passes : List Edge → Event → Machine → Type 0
Passes es (Take w b) m = Unit {0}
Passes es (Ask w b a) m = (m.stage b ≡ Held w) × ((k : ℕ) × (edge_into es b a ≡ Some k)) × NonePicked es m b
Passes es (Pick w b a) m =
    (m.stage b ≡ Held w)
    × ((k : ℕ) × ((edge_into es b a ≡ Some k) × (m.stage (edge_at es k).lower ≡ Published) × (m.laid k ≡ true) × (m.picked k ≡ false)))
Passes es (Lay w b a) m = (m.stage b ≡ Held w) × AllPicked es m b × ((k : ℕ) × ((edge_out es b a ≡ Some k) × (m.laid k ≡ false)))
Passes es (Publish w b) m = (m.stage b ≡ Held w) × AllPicked es m b × AllLaid es m b
Passes es (Release w b) m = m.stage b ≡ Resumed w

pub passes : (es : List Edge) (m : Machine) (event : Event) → can es event m ≡ true → Passes es event m
passes es m (Take w b) h = tt
passes es m (Ask w b a) h =
    let found : Bool = some_edge (edge_into es b a) (λ k. true) in
    let all = and_parts (is_held_by w (m.stage b) && found) (none_picked es m.picked b) h in
    let first = and_parts (is_held_by w (m.stage b)) found all.0 in
    let at = some_found (edge_into es b a) (λ k. true) first.1 in
    (held_by w (m.stage b) first.0, (at.0, at.1.0), none_picked_true es m b all.1)
passes es m (Pick w b a) h =
    let test : ℕ → Bool = λ k. is_published (m.stage (edge_at es k).lower) && m.laid k && not (m.picked k) in
    let all = and_parts (is_held_by w (m.stage b)) (some_edge (edge_into es b a) test) h in
    let at = some_found (edge_into es b a) test all.1 in
    let low : Bool = is_published (m.stage (edge_at es at.0).lower) in
    let marks = and_parts (low && m.laid at.0) (not (m.picked at.0)) at.1.1 in
    let first = and_parts low (m.laid at.0) marks.0 in
    (held_by w (m.stage b) all.0, (at.0, (at.1.0, published (m.stage (edge_at es at.0).lower) first.0, first.1, not-true (m.picked at.0) marks.1)))
passes es m (Lay w b a) h =
    let test : ℕ → Bool = λ k. not (m.laid k) in
    let all = and_parts (is_held_by w (m.stage b) && all_picked es m.picked b) (some_edge (edge_out es b a) test) h in
    let first = and_parts (is_held_by w (m.stage b)) (all_picked es m.picked b) all.0 in
    let at = some_found (edge_out es b a) test all.1 in
    (held_by w (m.stage b) first.0, all_picked_true es m b first.1, (at.0, (at.1.0, not-true (m.laid at.0) at.1.1)))
passes es m (Publish w b) h =
    let all = and_parts (is_held_by w (m.stage b) && all_picked es m.picked b) (all_laid es m.laid b) h in
    let first = and_parts (is_held_by w (m.stage b)) (all_picked es m.picked b) all.0 in
    (held_by w (m.stage b) first.0, all_picked_true es m b first.1, all_laid_true es m b all.1)
passes es m (Release w b) h = resumed_by w (m.stage b) h
