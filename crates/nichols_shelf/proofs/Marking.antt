-- Marks for the blocks whose askers' bits a wait word has.
use Rattle.std.proofs.Common.{◌≡◌, ℕ, suc, ◌+◌, ◌-◌, ◌<◌, ◌≤◌, Bool, true, false, cond, eqb, ◌&&◌, ◌||◌, List, [], ◌∷◌, ◌++◌, length, get_or, set, take, refl, sym, ap, ◌∙◌, eq-eqb, ne_eqb, arith}
use Rattle.std.specs.Int.{bit_at}
use Rattle.std.proofs.Math.Bool.{or_assoc, or-false, and-true, and-false}
use Rattle.std.proofs.Math.Seq.{take-suc}
use mathlib.Core.Logic.{dite}
use native.Mathlib.Decide.{ℕ_discrete}
use Rattle.nichols_tensor.specs.declared.TheConstants.{LETTER_LIMIT}
use Rattle.nichols_core.specs.declared.edge.Edge.{Edge}
use Rattle.nichols_core.specs.Layout.{edge_at, no_edge}
use Rattle.nichols_core.proofs.MarksWritten.{mark_put}
use Rattle.nichols_shelf.specs.Lists.{is_in}
use Rattle.nichols_shelf.specs.Views.{askers}

-- whether an edge goes out of b and its bit is there
abbrev pub asks_by : ℕ → ℕ → Edge → Bool
asks_by b w e = eqb e.lower b && eqb (bit_at w (e.letter - 1)) 1

pub askers_snoc : (xs : List Edge) (e : Edge) (b w c : ℕ) → is_in c (askers (xs ++ e ∷ []) b w) ≡ (is_in c (askers xs b w) || (asks_by b w e && eqb c e.upper))
askers_snoc [] e b w c = one (asks_by b w e)
  where
    one : (t : Bool) → is_in c (cond t (e.upper ∷ []) []) ≡ (t && eqb c e.upper)
    one true = or-false (eqb c e.upper)
    one false = refl
askers_snoc (x ∷ xs) e b w c = one (asks_by b w x) (askers_snoc xs e b w c)
  where
    one : (t : Bool) → is_in c (askers (xs ++ e ∷ []) b w) ≡ (is_in c (askers xs b w) || (asks_by b w e && eqb c e.upper))
        → is_in c (cond t (x.upper ∷ askers (xs ++ e ∷ []) b w) (askers (xs ++ e ∷ []) b w)) ≡ (is_in c (cond t (x.upper ∷ askers xs b w) (askers xs b w)) || (asks_by b w e && eqb c e.upper))
    one true h = ap (λ s. eqb c x.upper || s) h ∙ sym (or_assoc (eqb c x.upper) (is_in c (askers xs b w)) (asks_by b w e && eqb c e.upper))
    one false h = h

take_snoc : (es : List Edge) (i : ℕ) → i < length es → take (i + 1) es ≡ take i es ++ edge_at es i ∷ []
take_snoc es i h = let n : i + 1 ≡ suc i = omega arith in ap (λ k. take k es) n ∙ take-suc es i no_edge h

-- one more edge
pub mark_one : (start marks : List Bool) (es : List Edge) (b w i : ℕ) → i < length es → (edge_at es i).upper < length marks
    → ((c : ℕ) → get_or marks c false ≡ (get_or start c false || is_in c (askers (take i es) b w)))
    → (c : ℕ) → get_or (set marks (edge_at es i).upper (get_or marks (edge_at es i).upper false || asks_by b w (edge_at es i))) c false ≡ (get_or start c false || is_in c (askers (take (i + 1) es) b w))
mark_one start marks es b w i inside within were c =
    mark_put marks (edge_at es i).upper (get_or marks (edge_at es i).upper false || asks_by b w (edge_at es i)) within c
    ∙ (dite (ℕ_discrete c (edge_at es i).upper)
    (λ e. ap (λ t. cond t (get_or marks (edge_at es i).upper false || asks_by b w (edge_at es i)) (get_or marks c false)) (eq-eqb c (edge_at es i).upper e)
    ∙ (ap (λ z. get_or marks z false || asks_by b w (edge_at es i)) (sym e) ∙ (ap (λ t. t || asks_by b w (edge_at es i)) (were c)
    ∙ (or_assoc (get_or start c false) (is_in c (askers (take i es) b w)) (asks_by b w (edge_at es i))
    ∙ ap (λ t. get_or start c false || (is_in c (askers (take i es) b w) || t)) (sym (and-true (asks_by b w (edge_at es i))) ∙ ap (λ t. asks_by b w (edge_at es i) && t) (sym (eq-eqb c (edge_at es i).upper e)))))))
    (λ ne. ap (λ t. cond t (get_or marks (edge_at es i).upper false || asks_by b w (edge_at es i)) (get_or marks c false)) (ne_eqb c (edge_at es i).upper ne)
    ∙ (were c ∙ ap (λ t. get_or start c false || t) (sym (or-false (is_in c (askers (take i es) b w))) ∙ ap (λ t. is_in c (askers (take i es) b w) || t) (sym (and-false (asks_by b w (edge_at es i))) ∙ ap (λ t. asks_by b w (edge_at es i) && t) (sym (ne_eqb c (edge_at es i).upper ne))))))
    ∙ ap (λ t. get_or start c false || t) (sym (askers_snoc (take i es) (edge_at es i) b w c) ∙ ap (λ xs. is_in c (askers xs b w)) (sym (take_snoc es i inside))))

-- two words with the same bits of letters have the same askers
pub same_askers : (es : List Edge) (b w x : ℕ) → ((k : ℕ) → k < length es → (1 ≤ (edge_at es k).letter) × ((edge_at es k).letter ≤ LETTER_LIMIT)) → ((i : ℕ) → i < LETTER_LIMIT → bit_at w i ≡ bit_at x i) → askers es b w ≡ askers es b x
same_askers [] b w x letters bits = refl
same_askers (e ∷ es) b w x letters bits =
    let here = letters 0 (omega arith) in
    let rest = same_askers es b w x (λ k h. letters (suc k) (omega arith)) bits in
    (λ i. cond (eqb e.lower b && eqb (bits (e.letter - 1) (below e.letter here.0 here.1) i) 1) (e.upper ∷ rest i) (rest i))
  where
    below : (a : ℕ) → 1 ≤ a → a ≤ LETTER_LIMIT → a - 1 < LETTER_LIMIT
    below a from to = omega arith
