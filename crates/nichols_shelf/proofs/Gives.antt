-- All slots that are out with a seat go home in one step.
use Rattle.std.proofs.Common.{◌≡◌, ◌≢◌, ℕ, List, [], ◌∷◌, length, set, refl, ◌∙◌, length-set}
use mathlib.Core.Option as maybe
use mathlib.Core.Option.{some}
use lib.ListN.{get_elem?}
use Rattle.atomic_table.specs.Table.{Act, keeps, gives, chain, Valid, homes_after, carried_after}
use Rattle.atomic_table.proofs.Lists.{set_else}

module _ {S : Type 0} where
  abbrev pub give_all : List (ℕ × S) → Act S
  give_all [] = keeps
  give_all (x ∷ xs) = chain gives (give_all xs)

  pub none_carried : (c : List (ℕ × S)) → carried_after c (give_all c) ≡ []
  none_carried [] = refl
  none_carried (x ∷ xs) = none_carried xs

  pub give_valid : (hs : List (maybe.Option S)) (c : List (ℕ × S)) → Valid hs c (give_all c)
  give_valid hs [] = tt
  give_valid hs (x ∷ xs) = (tt, give_valid (set hs x.0 (some x.1)) xs)

  pub give_depth : (hs : List (maybe.Option S)) (c : List (ℕ × S)) → length (homes_after hs c (give_all c)) ≡ length hs
  give_depth hs [] = refl
  give_depth hs (x ∷ xs) = give_depth (set hs x.0 (some x.1)) xs ∙ length-set hs x.0 (some x.1)

  abbrev pub IsApart : ℕ → List (ℕ × S) → Type 0
  IsApart j [] = Unit {0}
  IsApart j (x ∷ xs) = (j ≢ x.0) × IsApart j xs

  -- the other slots stay
  pub give_else : (hs : List (maybe.Option S)) (c : List (ℕ × S)) (j : ℕ) → IsApart j c → get_elem? (homes_after hs c (give_all c)) j ≡ get_elem? hs j
  give_else hs [] j a = refl
  give_else hs (x ∷ xs) j a = give_else (set hs x.0 (some x.1)) xs j a.1 ∙ set_else hs x.0 j (some x.1) a.0
