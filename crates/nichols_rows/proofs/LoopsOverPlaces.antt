-- What the loops over places put together.
use Rattle.std.proofs.Common.{◌≡◌, ℕ, zero, suc, ◌+◌, ◌<◌, ◌≤◌, List, [], ◌∷◌, ◌++◌, length, get_or, take, refl, sym, ◌∙◌, ap, ap₂, subst, arith}
use Rattle.std.specs.List.{AllByRecursion}
use Rattle.std.proofs.lemmas.List.{take_more, take_all, append-nil, get_or_read, length-take-le}
use Rattle.nichols_tensor.specs.WordOrder.{IsRising, IsOrdered}
use Rattle.nichols_tensor.specs.Positions.{word_at}
use Rattle.nichols_tensor.specs.Relation.{PlainRelation}
use Rattle.nichols_echelon.specs.Cells.{Cell, IsRow, AllBelow}
use Rattle.nichols_echelon.specs.declared.rows.Place.{Place}
use Rattle.nichols_echelon.specs.declared.rows.Place.TheVariants.{Independent, Depends}
use Rattle.nichols_rows.specs.CombinationAt.{combination_at}
use Rattle.nichols_rows.specs.Places.{independent_in, dependent_in, IsInside}
use Rattle.nichols_rows.proofs.Rows.{combination_is_ordered}

-- ---- combinations at positions

pub form_is_ordered : (ws : List (List ℕ)) → IsRising ws → (cells : List Cell) (i : ℕ) (f : List _) → IsRow cells → AllBelow (length ws) cells → length cells ≤ i → f ≡ combination_at ws (take i cells) → IsOrdered f
form_is_ordered ws rising cells i f shape below past e = subst IsOrdered (sym (e ∙ ap (combination_at ws) (take_all i cells past))) (combination_is_ordered ws rising cells shape below)

-- ---- entries with independent places

pub independent_in-push : {X : Type 0} (xs : List X) (x : X) (ps : List Place) (p : Place) → length ps ≡ length xs → independent_in (xs ++ x ∷ []) (ps ++ p ∷ []) ≡ independent_in xs ps ++ independent_in (x ∷ []) (p ∷ [])
independent_in-push [] x [] p e = refl
independent_in-push [] x (q ∷ ps) p e = absurd (omega arith)
independent_in-push (y ∷ xs) x [] p e = absurd (omega arith)
independent_in-push (y ∷ xs) x (Independent ∷ ps) p e = ap (λ zs. y ∷ zs) (independent_in-push xs x ps p (omega arith))
independent_in-push (y ∷ xs) x (Depends cells ∷ ps) p e = independent_in-push xs x ps p (omega arith)

independent_more : {X : Type 0} (xs : List X) (ps : List Place) (k : ℕ) (x : X) (p : Place) → length ps ≡ length xs → k < length xs →
    independent_in (take (k + 1) xs) (take (k + 1) ps) ≡ independent_in (take k xs) (take k ps) ++ independent_in (get_or xs k x ∷ []) (get_or ps k p ∷ [])
independent_more xs ps k x p e less =
    let less_ps : k < length ps = omega arith in
    ap₂ independent_in (take_more xs k x less) (take_more ps k p less_ps)
    ∙ independent_in-push (take k xs) (get_or xs k x) (take k ps) (get_or ps k p) (length-take-le k ps (omega arith) ∙ sym (length-take-le k xs (omega arith)))

pub kept_more : {X : Type 0} (xs : List X) (ps : List Place) (k : ℕ) (x : X) (p : Place) (out more : List X) → length ps ≡ length xs → k < length xs → x ≡ get_or xs k x → p ≡ get_or ps k p → p ≡ Independent →
    out ≡ independent_in (take k xs) (take k ps) → more ≡ out ++ x ∷ [] → more ≡ independent_in (take (k + 1) xs) (take (k + 1) ps)
kept_more xs ps k x p out more e less x_at p_at is before pushed =
    pushed ∙ ap (λ zs. zs ++ x ∷ []) before
    ∙ sym (independent_more xs ps k x p e less ∙ ap₂ (λ y q. independent_in (take k xs) (take k ps) ++ independent_in (y ∷ []) (q ∷ [])) (sym x_at) (sym p_at ∙ is))

pub skipped_more : {X : Type 0} (xs : List X) (ps : List Place) (k : ℕ) (d : X) (p : Place) (cells : List Cell) (out more : List X) → length ps ≡ length xs → k < length xs → p ≡ get_or ps k p → p ≡ Depends cells →
    out ≡ independent_in (take k xs) (take k ps) → more ≡ out → more ≡ independent_in (take (k + 1) xs) (take (k + 1) ps)
skipped_more xs ps k d p cells out more e less p_at is before same =
    same ∙ before
    ∙ sym (independent_more xs ps k d p e less ∙ ap (λ q. independent_in (take k xs) (take k ps) ++ independent_in (get_or xs k d ∷ []) (q ∷ [])) (sym p_at ∙ is) ∙ append-nil (independent_in (take k xs) (take k ps)))

-- ---- words with other places

dependent_in-push : (all xs : List (List ℕ)) (x : List ℕ) (ps : List Place) (p : Place) → length ps ≡ length xs → dependent_in all (xs ++ x ∷ []) (ps ++ p ∷ []) ≡ dependent_in all xs ps ++ dependent_in all (x ∷ []) (p ∷ [])
dependent_in-push all [] x [] p e = refl
dependent_in-push all [] x (q ∷ ps) p e = absurd (omega arith)
dependent_in-push all (y ∷ xs) x [] p e = absurd (omega arith)
dependent_in-push all (y ∷ xs) x (Independent ∷ ps) p e = dependent_in-push all xs x ps p (omega arith)
dependent_in-push all (y ∷ xs) x (Depends cells ∷ ps) p e = ap (λ (zs : List PlainRelation). record { candidate = y; form = combination_at all cells } ∷ zs) (dependent_in-push all xs x ps p (omega arith))

dependent_more : (all xs : List (List ℕ)) (ps : List Place) (k : ℕ) (p : Place) → length ps ≡ length xs → k < length xs →
    dependent_in all (take (k + 1) xs) (take (k + 1) ps) ≡ dependent_in all (take k xs) (take k ps) ++ dependent_in all (word_at xs k ∷ []) (get_or ps k p ∷ [])
dependent_more all xs ps k p e less =
    let less_ps : k < length ps = omega arith in
    ap₂ (dependent_in all) (take_more xs k [] less) (take_more ps k p less_ps)
    ∙ dependent_in-push all (take k xs) (word_at xs k) (take k ps) (get_or ps k p) (length-take-le k ps (omega arith) ∙ sym (length-take-le k xs (omega arith)))

pub related_more : (all xs : List (List ℕ)) (ps : List Place) (k : ℕ) (x : List ℕ) (p : Place) (out more : List PlainRelation) → length ps ≡ length xs → k < length xs → x ≡ get_or xs k x → p ≡ get_or ps k p →
    out ≡ dependent_in all (take k xs) (take k ps) → more ≡ out ++ dependent_in all (x ∷ []) (p ∷ []) → more ≡ dependent_in all (take (k + 1) xs) (take (k + 1) ps)
related_more all xs ps k x p out more e less x_at p_at before pushed =
    pushed ∙ ap (λ zs. zs ++ dependent_in all (x ∷ []) (p ∷ [])) before
    ∙ sym (dependent_more all xs ps k p e less ∙ ap₂ (λ y q. dependent_in all (take k xs) (take k ps) ++ dependent_in all (y ∷ []) (q ∷ [])) (sym (get_or_read xs k x less x_at [])) (sym p_at))

pub inside_at : (bound : ℕ) (ps : List Place) (k : ℕ) (p : Place) → AllByRecursion (IsInside bound) ps → k < length ps → p ≡ get_or ps k p → IsInside bound p
inside_at bound [] k p h less at = absurd (omega arith)
inside_at bound (q ∷ ps) zero p h less at = subst (IsInside bound) (sym at) h.0
inside_at bound (q ∷ ps) (suc k) p h less at = inside_at bound ps k p h.1 (omega arith) at
