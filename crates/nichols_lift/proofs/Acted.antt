-- A crossing where the left end is greater leaves what each later letter becomes, and what it meets.
use Rattle.std.proofs.Common.{◌≡◌, ℕ, ◌<◌, Bool, true, false, cond, List, [], ◌∷◌, ◌++◌, refl, sym, ◌∙◌, ap, ap₂, arith, nat_lt}
use Rattle.std.proofs.lemmas.Bool.Decides.{nat_tests}
use Rattle.nichols_field.specs.Field.{FieldValue, times}
use Rattle.nichols_field.proofs.FieldLaws.{times_comm, times_assoc}
use Rattle.nichols_braid.specs.Braid.{BraidValue, IsLetter, act, scalar, IsRack, IsCocycle}
use Rattle.nichols_tensor.specs.Words.{IsWordOver}
use Rattle.nichols_lift.specs.ClosedForm.{Placed, acted_letter, acted_scalar, letters_at_ends, ended_scalar}

abbrev pub placed : ℕ → ℕ → Placed
placed e x = record { place = e; letter = x }

pub AllLetters : BraidValue → List Placed → Type 0
AllLetters braid [] = Unit {0}
AllLetters braid (p ∷ ps) = IsLetter braid p.letter × AllLetters braid ps

pub all_letters : (braid : BraidValue) (e x : ℕ) (ps : List Placed) → IsLetter braid x → AllLetters braid ps → AllLetters braid (placed e x ∷ ps)
unfolding AllLetters
all_letters braid e x ps h l = (h, l)

pub none_placed : (braid : BraidValue) → AllLetters braid []
unfolding AllLetters
none_placed braid = tt

pair_letters : (t u : Bool) → (t ≡ true → u ≡ true) → (ab a n ba_x : ℕ) → ab ≡ ba_x → (bx x' : ℕ) →
    cond t (cond u ab bx) (cond u a n) ≡ cond u (cond t ba_x a) (cond t x' n)
pair_letters true true h ab a n r e bx x' = e
pair_letters true false h ab a n r e bx x' = absurd (cc (h refl))
pair_letters false true h ab a n r e bx x' = refl
pair_letters false false h ab a n r e bx x' = refl

above : (e m n : ℕ) → m < n → nat_lt e m ≡ true → nat_lt e n ≡ true
above e m n h t = grind (arith, nat_tests)

-- what a later letter becomes: b and then a act on it, or after the crossing a and then a ▷ b
pub acted_letter-crossed : (braid : BraidValue) → IsRack braid → (before ps : List Placed) (ea a eb b : ℕ) → eb < ea → IsLetter braid a → IsLetter braid b → AllLetters braid before → (e x : ℕ) → IsLetter braid x →
    acted_letter braid (before ++ placed eb b ∷ placed ea a ∷ ps) e x ≡ acted_letter braid (before ++ placed ea a ∷ placed eb (act braid a b) ∷ ps) e x
unfolding AllLetters
acted_letter-crossed braid rack [] ps ea a eb b h la lb all e x lx =
    pair_letters (nat_lt e eb) (nat_lt e ea) (above e eb ea h) (acted_letter braid ps e (act braid a (act braid b x))) (acted_letter braid ps e (act braid a x)) (acted_letter braid ps e x) (acted_letter braid ps e (act braid (act braid a b) (act braid a x)))
    (ap (acted_letter braid ps e) (rack.distributive a b x la lb lx)) (acted_letter braid ps e (act braid b x)) (acted_letter braid ps e (act braid (act braid a b) x))
acted_letter-crossed braid rack (p ∷ before) ps ea a eb b h la lb all e x lx =
    ap₂ (cond (nat_lt e p.place)) (acted_letter-crossed braid rack before ps ea a eb b h la lb all.1 e (act braid p.letter x) (rack.closed p.letter x all.0 lx)) (acted_letter-crossed braid rack before ps ea a eb b h la lb all.1 e x lx)

pair_scalars : (k : FieldValue) (t u : Bool) → (t ≡ true → u ≡ true) → (qb qab qa qaab r r' only none other unused : ℕ) → times k qb (times k qab r) ≡ times k qa (times k qaab r') →
    cond t (times k qb (cond u (times k qab r) unused)) (cond u (times k qa only) none) ≡ cond u (times k qa (cond t (times k qaab r') only)) (cond t other none)
pair_scalars k true true h qb qab qa qaab r r' only none other unused e = e
pair_scalars k true false h qb qab qa qaab r r' only none other unused e = absurd (cc (h refl))
pair_scalars k false true h qb qab qa qaab r r' only none other unused e = refl
pair_scalars k false false h qb qab qa qaab r r' only none other unused e = refl

-- what a later letter meets
pub scalars-crossed : (braid : BraidValue) → IsRack braid → IsCocycle braid → (before ps : List Placed) (ea a eb b : ℕ) → eb < ea → IsLetter braid a → IsLetter braid b → AllLetters braid before → (e x : ℕ) → IsLetter braid x →
    acted_scalar braid (before ++ placed eb b ∷ placed ea a ∷ ps) e x ≡ acted_scalar braid (before ++ placed ea a ∷ placed eb (act braid a b) ∷ ps) e x
unfolding AllLetters
scalars-crossed braid rack cocycle [] ps ea a eb b h la lb all e x lx =
    pair_scalars braid.field (nat_lt e eb) (nat_lt e ea) (above e eb ea h) (scalar braid b x) (scalar braid a (act braid b x)) (scalar braid a x) (scalar braid (act braid a b) (act braid a x))
    (acted_scalar braid ps e (act braid a (act braid b x))) (acted_scalar braid ps e (act braid (act braid a b) (act braid a x))) (acted_scalar braid ps e (act braid a x)) (acted_scalar braid ps e x)
    (times braid.field (scalar braid (act braid a b) x) (acted_scalar braid ps e (act braid (act braid a b) x))) (acted_scalar braid ps e (act braid b x))
    (same_by_cocycle (acted_scalar braid ps e (act braid a (act braid b x))) (acted_scalar braid ps e (act braid (act braid a b) (act braid a x))) (ap (acted_scalar braid ps e) (rack.distributive a b x la lb lx)))
  where
    same_by_cocycle : (r r' : ℕ) → r ≡ r' → times braid.field (scalar braid b x) (times braid.field (scalar braid a (act braid b x)) r) ≡ times braid.field (scalar braid a x) (times braid.field (scalar braid (act braid a b) (act braid a x)) r')
    same_by_cocycle r r' e =
        sym (times_assoc braid.field (scalar braid b x) (scalar braid a (act braid b x)) r)
        ∙ ap (λ n. times braid.field n r) (times_comm braid.field (scalar braid b x) (scalar braid a (act braid b x)) ∙ cocycle.law a b x la lb lx ∙ times_comm braid.field (scalar braid (act braid a b) (act braid a x)) (scalar braid a x))
        ∙ times_assoc braid.field (scalar braid a x) (scalar braid (act braid a b) (act braid a x)) r
        ∙ ap (λ n. times braid.field (scalar braid a x) (times braid.field (scalar braid (act braid a b) (act braid a x)) n)) e
scalars-crossed braid rack cocycle (p ∷ before) ps ea a eb b h la lb all e x lx =
    ap₂ (cond (nat_lt e p.place)) (ap (times braid.field (scalar braid p.letter x)) (scalars-crossed braid rack cocycle before ps ea a eb b h la lb all.1 e (act braid p.letter x) (rack.closed p.letter x all.0 lx))) (scalars-crossed braid rack cocycle before ps ea a eb b h la lb all.1 e x lx)

-- what all later letters become
pub letters_at_ends-crossed : (braid : BraidValue) → IsRack braid → (before ps : List Placed) (ea a eb b : ℕ) → eb < ea → IsLetter braid a → IsLetter braid b → AllLetters braid before → (ends w : List ℕ) → IsWordOver braid.letters w →
    letters_at_ends braid (before ++ placed eb b ∷ placed ea a ∷ ps) ends w ≡ letters_at_ends braid (before ++ placed ea a ∷ placed eb (act braid a b) ∷ ps) ends w
letters_at_ends-crossed braid rack before ps ea a eb b h la lb all [] w over = refl
letters_at_ends-crossed braid rack before ps ea a eb b h la lb all (e ∷ ends) [] over = refl
letters_at_ends-crossed braid rack before ps ea a eb b h la lb all (e ∷ ends) (x ∷ w) over =
    ap₂ (λ y r. placed e y ∷ r) (acted_letter-crossed braid rack before ps ea a eb b h la lb all e x over.0) (letters_at_ends-crossed braid rack (placed e x ∷ before) ps ea a eb b h la lb (all_letters braid e x before over.0 all) ends w over.1)

-- what all later letters meet
pub ended_scalar-crossed : (braid : BraidValue) → IsRack braid → IsCocycle braid → (before ps : List Placed) (ea a eb b : ℕ) → eb < ea → IsLetter braid a → IsLetter braid b → AllLetters braid before → (ends w : List ℕ) → IsWordOver braid.letters w →
    ended_scalar braid (before ++ placed eb b ∷ placed ea a ∷ ps) ends w ≡ ended_scalar braid (before ++ placed ea a ∷ placed eb (act braid a b) ∷ ps) ends w
ended_scalar-crossed braid rack cocycle before ps ea a eb b h la lb all [] w over = refl
ended_scalar-crossed braid rack cocycle before ps ea a eb b h la lb all (e ∷ ends) [] over = refl
ended_scalar-crossed braid rack cocycle before ps ea a eb b h la lb all (e ∷ ends) (x ∷ w) over =
    ap₂ (times braid.field) (scalars-crossed braid rack cocycle before ps ea a eb b h la lb all e x over.0) (ended_scalar-crossed braid rack cocycle (placed e x ∷ before) ps ea a eb b h la lb (all_letters braid e x before over.0 all) ends w over.1)
