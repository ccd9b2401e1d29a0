-- The entries of a list, each once: which they are, how a list that goes on changes them, and what follows each.
use Rattle.std.proofs.Common.{◌≡◌, ℕ, ◌+◌, ◌≤◌, Bool, true, false, cond, not, ◌||◌, List, [], ◌∷◌, ◌++◌, length, refl, sym, ◌∙◌, ap, subst, arith, append_assoc, append-nil, length-append, inl, inr, ◌⊎◌}
use Rattle.std.specs.List.{flat_map, filter, list_any, AllByRecursion, Contains, IsDistinct}
use Rattle.std.specs.Cmp.Lexicographic.{same_text}
use Rattle.std.proofs.lemmas.Grind.{flat_map-append}
use Rattle.std.proofs.lemmas.List.Elements.{filter-append, Contains-append_left}
use Rattle.nichols_tensor.specs.Combination.{same_letters}
use Rattle.nichols_tensor.proofs.Entries.{contains_first, contains_later, contains_cases, in_filter, from_filter, in_flat_map, any_of, some_of}
use Rattle.nichols_tensor.proofs.Over.{all-filter}
use Rattle.nichols_tensor.proofs.Tests.{same_answer}
use Rattle.nichols_tensor.proofs.Values.{same_itself}
use Rattle.nichols_braid.specs.Products.{each_once}

-- ---- which entries

pub from_each_once : (gs : List (List ℕ)) (g : List ℕ) → Contains (each_once gs) g → Contains gs g
unfolding each_once
from_each_once [] g i = i
from_each_once (x ∷ gs) g i =
    elim (contains_cases x (filter (λ h. not (same_letters h x)) (each_once gs)) g i) [
      | inl here ↦ subst (Contains (x ∷ gs)) (sym here) (contains_first x gs)
      | inr later ↦ contains_later x gs g (from_each_once gs g (from_filter (λ h. not (same_letters h x)) g (each_once gs) later).0)
    ]

pub in_each_once : (gs : List (List ℕ)) (g : List ℕ) → Contains gs g → Contains (each_once gs) g
unfolding each_once
in_each_once [] g i = i
in_each_once (x ∷ gs) g i =
    at (same_letters g x) refl (contains_cases x gs g i) (in_each_once gs g)
  where
    rest : List (List ℕ)
    rest = filter (λ h. not (same_letters h x)) (each_once gs)

    at : (b : Bool) → same_letters g x ≡ b → (g ≡ x) ⊎ Contains gs g → (Contains gs g → Contains (each_once gs) g) → Contains (x ∷ rest) g
    at true e j k = subst (Contains (x ∷ rest)) (sym (same_text g x (sym e))) (contains_first x rest)
    at false e (inl same) k = absurd (let c : true ≡ false = sym (same_itself g) ∙ ap (same_letters g) same ∙ e in cc)
    at false e (inr later) k = contains_later x rest g (in_filter (λ h. not (same_letters h x)) g (each_once gs) (k later) (ap not e))

-- whether a list has this entry
abbrev pub is_among : List ℕ → List (List ℕ) → Bool
is_among g gs = list_any (λ h. same_letters g h) gs

pub is_among_of : (g : List ℕ) (gs : List (List ℕ)) → Contains gs g → is_among g gs ≡ true
is_among_of g gs i = any_of (λ h. same_letters g h) g gs i (same_itself g)

pub of_is_among : (g : List ℕ) (gs : List (List ℕ)) → is_among g gs ≡ true → Contains gs g
of_is_among g gs e = let (h, i, same) = some_of (λ h. same_letters g h) gs e in subst (Contains gs) (sym (same_text g h (sym same))) i

among_once : (g : List ℕ) (gs : List (List ℕ)) → is_among g (each_once gs) ≡ is_among g gs
among_once g gs =
    same_answer (is_among g (each_once gs)) (is_among g gs) (λ e. is_among_of g gs (from_each_once gs g (of_is_among g (each_once gs) e))) (λ e. is_among_of g (each_once gs) (in_each_once gs g (of_is_among g gs e)))

-- ---- a list that goes on

pub each_once-push : (gs : List (List ℕ)) (g : List ℕ) → each_once (gs ++ g ∷ []) ≡ each_once gs ++ cond (is_among g gs) [] (g ∷ [])
unfolding each_once
each_once-push [] g = refl
each_once-push (x ∷ gs) g =
    ap (λ r. x ∷ filter (λ h. not (same_letters h x)) r) (each_once-push gs g)
    ∙ ap (λ r. x ∷ r) (filter-append (λ h. not (same_letters h x)) (each_once gs) (cond (is_among g gs) [] (g ∷ [])))
    ∙ ap (λ r. x ∷ (filter (λ h. not (same_letters h x)) (each_once gs) ++ r)) (at (is_among g gs) (same_letters g x) refl)
  where
    at : (b c : Bool) → same_letters g x ≡ c → filter (λ h. not (same_letters h x)) (cond b [] (g ∷ [])) ≡ cond (c || b) [] (g ∷ [])
    at true true e = refl
    at true false e = refl
    at false true e = ap (λ t. cond (not t) (g ∷ []) []) e
    at false false e = ap (λ t. cond (not t) (g ∷ []) []) e

pub each_once-known : (gs : List (List ℕ)) (g : List ℕ) → Contains gs g → each_once (gs ++ g ∷ []) ≡ each_once gs
each_once-known gs g i = each_once-push gs g ∙ ap (λ b. each_once gs ++ cond b [] (g ∷ [])) (is_among_of g gs i) ∙ append-nil (each_once gs)

pub each_once-new : (gs : List (List ℕ)) (g : List ℕ) → (Contains gs g → ⊥) → each_once (gs ++ g ∷ []) ≡ each_once gs ++ g ∷ []
each_once-new gs g other = each_once-push gs g ∙ at (is_among g gs) refl
  where
    at : (b : Bool) → is_among g gs ≡ b → each_once gs ++ cond b [] (g ∷ []) ≡ each_once gs ++ g ∷ []
    at true e = absurd (other (of_is_among g gs e))
    at false e = refl

-- lists with the same entries once go on alike
pub each_once-alike : (fs gs hs : List (List ℕ)) → each_once fs ≡ each_once gs → each_once (fs ++ hs) ≡ each_once (gs ++ hs)
each_once-alike fs gs [] e = ap each_once (append-nil fs) ∙ e ∙ ap each_once (sym (append-nil gs))
each_once-alike fs gs (h ∷ hs) e =
    ap each_once (sym (append_assoc fs (h ∷ []) hs)) ∙ each_once-alike (fs ++ h ∷ []) (gs ++ h ∷ []) hs pushed ∙ ap each_once (append_assoc gs (h ∷ []) hs)
  where
    pushed : each_once (fs ++ h ∷ []) ≡ each_once (gs ++ h ∷ [])
    pushed =
        each_once-push fs h ∙ ap (λ b. each_once fs ++ cond b [] (h ∷ [])) (sym (among_once h fs) ∙ ap (is_among h) e ∙ among_once h gs)
        ∙ ap (λ l. l ++ cond (is_among h gs) [] (h ∷ [])) e ∙ sym (each_once-push gs h)

-- nothing new comes of entries that are there
pub each_once-all_known : (gs hs : List (List ℕ)) → ((h : List ℕ) → Contains hs h → Contains gs h) → each_once (gs ++ hs) ≡ each_once gs
each_once-all_known gs [] known = ap each_once (append-nil gs)
each_once-all_known gs (h ∷ hs) known =
    ap each_once (sym (append_assoc gs (h ∷ []) hs))
    ∙ each_once-all_known (gs ++ h ∷ []) hs (λ x i. Contains-append_left gs (h ∷ []) x (known x (contains_later h hs x i)))
    ∙ each_once-known gs h (known h (contains_first h hs))

pub each_once_grows : (gs hs : List (List ℕ)) → length (each_once gs) ≤ length (each_once (gs ++ hs))
each_once_grows gs [] = let same : length (each_once (gs ++ [])) ≡ length (each_once gs) = ap (λ l. length (each_once l)) (append-nil gs) in omega arith
each_once_grows gs (h ∷ hs) =
    let step : length (each_once (gs ++ h ∷ [])) ≡ length (each_once gs) + length (cond (is_among h gs) [] (h ∷ [])) = ap length (each_once-push gs h) ∙ length-append (each_once gs) (cond (is_among h gs) [] (h ∷ [])) in
    let rest : length (each_once (gs ++ h ∷ [])) ≤ length (each_once ((gs ++ h ∷ []) ++ hs)) = each_once_grows (gs ++ h ∷ []) hs in
    let same : length (each_once ((gs ++ h ∷ []) ++ hs)) ≡ length (each_once (gs ++ h ∷ hs)) = ap (λ l. length (each_once l)) (append_assoc gs (h ∷ []) hs) in
    omega (arith, step, rest, same)

-- ---- what follows each entry

-- induction along a list from its front
pub by_pushes : (P : List (List ℕ) → Type 0) → ((gs : List (List ℕ)) (g : List ℕ) → P gs → P (gs ++ g ∷ [])) → (gs hs : List (List ℕ)) → P gs → P (gs ++ hs)
by_pushes P step gs [] h = subst P (sym (append-nil gs)) h
by_pushes P step gs (g ∷ hs) h = subst P (append_assoc gs (g ∷ []) hs) (by_pushes P step (gs ++ g ∷ []) hs (step gs g h))

pub flat_map-push : (f : List ℕ → List (List ℕ)) (gs : List (List ℕ)) (g : List ℕ) → flat_map f (gs ++ g ∷ []) ≡ flat_map f gs ++ f g
flat_map-push f gs g = flat_map-append f gs (g ∷ []) ∙ ap (λ l. flat_map f gs ++ l) (append-nil (f g))

pub once_of_none : each_once [] ≡ []
unfolding each_once
once_of_none = refl

-- the entries once tell what follows all
pub once_followed : (f : List ℕ → List (List ℕ)) (gs : List (List ℕ)) → each_once (flat_map f (each_once gs)) ≡ each_once (flat_map f gs)
once_followed f gs = by_pushes (λ l. each_once (flat_map f (each_once l)) ≡ each_once (flat_map f l)) step [] gs start
  where
    start : each_once (flat_map f (each_once [])) ≡ each_once (flat_map f [])
    start = ap (λ l. each_once (flat_map f l)) once_of_none

    step : (l : List (List ℕ)) (g : List ℕ) → each_once (flat_map f (each_once l)) ≡ each_once (flat_map f l) → each_once (flat_map f (each_once (l ++ g ∷ []))) ≡ each_once (flat_map f (l ++ g ∷ []))
    step l g e =
        ap (λ x. each_once (flat_map f x)) (each_once-push l g) ∙ at (is_among g l) refl ∙ each_once-alike (flat_map f (each_once l)) (flat_map f l) (f g) e ∙ ap each_once (sym (flat_map-push f l g))
      where
        at : (b : Bool) → is_among g l ≡ b → each_once (flat_map f (each_once l ++ cond b [] (g ∷ []))) ≡ each_once (flat_map f (each_once l) ++ f g)
        at true e =
            ap (λ x. each_once (flat_map f x)) (append-nil (each_once l))
            ∙ sym (each_once-all_known (flat_map f (each_once l)) (f g) (λ h i. in_flat_map f g (each_once l) h (in_each_once l g (of_is_among g l e)) i))
        at false e = ap each_once (flat_map-push f (each_once l) g)

-- ---- no entry twice

pub once_distinct : (gs : List (List ℕ)) → IsDistinct same_letters (each_once gs)
unfolding each_once IsDistinct
once_distinct [] = tt
once_distinct (x ∷ gs) = (apart (each_once gs), kept (λ h. not (same_letters h x)) (each_once gs) (once_distinct gs))
  where
    apart : (l : List (List ℕ)) → AllByRecursion (λ y. same_letters x y ≡ false) (filter (λ h. not (same_letters h x)) l)
    apart [] = tt
    apart (y ∷ l) = at (same_letters y x) refl (apart l)
      where
        at : (b : Bool) → same_letters y x ≡ b → AllByRecursion (λ z. same_letters x z ≡ false) (filter (λ h. not (same_letters h x)) l) → AllByRecursion (λ z. same_letters x z ≡ false) (cond (not b) (y ∷ filter (λ h. not (same_letters h x)) l) (filter (λ h. not (same_letters h x)) l))
        at true e h = h
        at false e h = (turned (same_letters x y) refl e, h)
          where
            turned : (b : Bool) → same_letters x y ≡ b → same_letters y x ≡ false → same_letters x y ≡ false
            turned true d e = absurd (let c : true ≡ false = sym (same_itself y) ∙ ap (same_letters y) (sym (same_text x y (sym d))) ∙ e in cc)
            turned false d e = d

    kept : (t : List ℕ → Bool) (l : List (List ℕ)) → IsDistinct same_letters l → IsDistinct same_letters (filter t l)
    kept t [] d = tt
    kept t (y ∷ l) d = at (t y) (kept t l d.1)
      where
        at : (b : Bool) → IsDistinct same_letters (filter t l) → IsDistinct same_letters (cond b (y ∷ filter t l) (filter t l))
        at true h = (all-filter (λ z. same_letters y z ≡ false) t l d.0, h)
        at false h = h
