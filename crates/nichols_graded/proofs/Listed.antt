-- Lists of products of degrees that follow one another.
use Rattle.std.proofs.Common.{◌≡◌, ◌+◌, ◌<◌, ◌≤◌, ℕ, suc, List, [], ◌∷◌, ◌++◌, length, length-append, length-drop, drop, get_or, sym, ◌∙◌, ap, ap₂, subst, arith, ◌-◌}
use Rattle.std.proofs.lemmas.List.{get_or_append_left, get_or_push, get_or-drop}
use mathlib.Core.Logic.{dite}
use native.Mathlib.Decide.{ℕ_discrete}
use Rattle.nichols_braid.specs.declared.TheConstants.{MOST_PRODUCTS}
use Rattle.nichols_braid.specs.Braid.{BraidValue}
use Rattle.nichols_braid.specs.Products.{products}
use Rattle.nichols_graded.specs.Ahead.{AreOpen}

-- one list more
pub open_more : (braid : BraidValue) (limit m : ℕ) (lists new : List (List (List ℕ))) (ps : List (List ℕ)) → AreOpen braid limit m lists → new ≡ lists ++ ps ∷ [] → m + length lists ≤ limit → ps ≡ products braid (m + length lists) → length ps ≤ MOST_PRODUCTS → AreOpen braid limit m new
open_more braid limit m lists new ps h e within is few =
    let some = h.some in
    let size : length new ≡ suc (length lists) = ap length e ∙ length-append lists (ps ∷ []) ∙ omega arith in
    let last : (i : ℕ) (d : List (List ℕ)) → i ≡ length lists → get_or new i d ≡ ps = λ i d same. ap (λ l. get_or l i d) e ∙ get_or_push lists ps d i (sym same) in
    let early : (i : ℕ) (d : List (List ℕ)) → i < length lists → get_or new i d ≡ get_or lists i d = λ i d less. ap (λ l. get_or l i d) e ∙ get_or_append_left lists (ps ∷ []) d i less in
    record {
      some = omega (arith, size, some);
      listed = λ i d less.
          dite (ℕ_discrete i (length lists)) (λ same. last i d same ∙ is ∙ ap (λ k. products braid (m + k)) (sym same)) (λ other. let before : i < length lists = omega (arith, less, size, other) in early i d before ∙ h.listed i d before);
      within = omega (arith, size, within);
      narrow = λ i d less.
          dite (ℕ_discrete i (length lists)) (λ same. subst (λ xs. length xs ≤ MOST_PRODUCTS) (sym (last i d same)) few)
          (λ other. let before : i < length lists = omega (arith, less, size, other) in subst (λ xs. length xs ≤ MOST_PRODUCTS) (sym (early i d before)) (h.narrow i d before));
    }

-- one list alone
pub open_one : (braid : BraidValue) (limit m : ℕ) (lists : List (List (List ℕ))) (ps : List (List ℕ)) → lists ≡ ps ∷ [] → m ≤ limit → ps ≡ products braid m → length ps ≤ MOST_PRODUCTS → AreOpen braid limit m lists
open_one braid limit m lists ps e within is few =
    let size : length lists ≡ 1 = ap length e in
    let only : (i : ℕ) (d : List (List ℕ)) → i < length lists → get_or lists i d ≡ ps = λ i d less. (let first : i ≡ 0 = omega (arith, less, size) in ap₂ (λ l j. get_or l j d) e first) in
    let here : (i : ℕ) → i < length lists → m ≡ m + i = λ i less. omega (arith, less, size) in
    record {
      some = omega (arith, size);
      listed = λ i d less. only i d less ∙ is ∙ ap (products braid) (here i less);
      within = omega (arith, size, within);
      narrow = λ i d less. subst (λ xs. length xs ≤ MOST_PRODUCTS) (sym (only i d less)) few;
    }

-- without the first k lists
pub open_drop : (braid : BraidValue) (limit m k : ℕ) (lists new : List (List (List ℕ))) → AreOpen braid limit m lists → new ≡ drop k lists → k < length lists → AreOpen braid limit (m + k) new
open_drop braid limit m k lists new h e less =
    let size : length new ≡ length lists - k = ap length e ∙ length-drop k lists in
    let within = h.within in
    let read : (i : ℕ) (d : List (List ℕ)) → get_or new i d ≡ get_or lists (k + i) d = λ i d. ap (λ l. get_or l i d) e ∙ get_or-drop k lists i d in
    let degree : (i : ℕ) → m + (k + i) ≡ m + k + i = λ i. omega arith in
    record {
      some = omega (arith, size, less);
      listed = λ i d small. read i d ∙ h.listed (k + i) d (omega (arith, size, small, less)) ∙ ap (products braid) (degree i);
      within = omega (arith, size, within, less);
      narrow = λ i d small. subst (λ xs. length xs ≤ MOST_PRODUCTS) (sym (read i d)) (h.narrow (k + i) d (omega (arith, size, small, less)));
    }
