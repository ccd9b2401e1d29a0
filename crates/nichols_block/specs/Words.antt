-- The words that a block has normal forms of, and the new ones among them.
use Rattle.std.specs.Prelude.{◌≡◌, ◌<◌, ℕ, suc, ◌-◌, Bool, cond, ◌&&◌, ◌||◌, List, [], ◌∷◌, ◌++◌, filter, length, map, take, drop, is_some, MatchOption, None, Some}
use Rattle.std.specs.List.{flat_map, AllByRecursion, Contains}
use Rattle.nichols_tensor.specs.Combination.{same_letters}
use Rattle.nichols_tensor.specs.Positions.{word_at}
use Rattle.nichols_tensor.specs.Words.{up_to, words}
use Rattle.nichols_braid.specs.Braid.{BraidValue}
use Rattle.nichols_braid.specs.Kernel.{is_killed}
use Rattle.nichols_braid.specs.Least.{is_least}
use Rattle.nichols_braid.specs.NewWords.{new_words}
use Rattle.nichols_braid.specs.Product.{has_product}
use Rattle.nichols_value.specs.declared.ends.Ends.{Ends}
use Rattle.nichols_value.specs.declared.spot.Spot.{Spot}
use Rattle.nichols_value.specs.Block.{left_lower_basis, lower_basis}
use Rattle.nichols_value.specs.Kept.{IsSpot, candidate_at}
use Rattle.nichols_block.specs.declared.words.Listed.{Listed}

-- a word without its last letter
abbrev pub but_last : List ℕ → List ℕ
but_last w = take (length w - 1) w

-- whether a word is least without its last letter, or without its first one
abbrev pub is_listed : BraidValue → List ℕ → Bool
is_listed braid w = is_least is_killed braid (but_last w) || is_least is_killed braid (drop 1 w)

-- the words of degree m and product g that are least without their last letter or without their first one, rising
unfoldable pub listed_words : BraidValue → ℕ → List ℕ → List (List ℕ)
listed_words braid m g = filter (λ w. has_product braid g w && is_listed braid w) (words braid.letters m)

-- the new words of degree m and product g, rising
unfoldable pub block_new_words : BraidValue → ℕ → List ℕ → List (List ℕ)
block_new_words braid m g = filter (has_product braid g) (new_words is_killed braid m)

-- the place of a word without its last letter, among words by it
abbrev pub IsFrontPlace : (ℕ → List (List ℕ)) → List ℕ → ℕ → Type 0
IsFrontPlace words w k = (b : ℕ) (u : List ℕ) → w ≡ u ++ b ∷ [] → (k < length (words b)) × (word_at (words b) k ≡ u)

-- the place of a word without its first letter, among words by it
abbrev pub IsBackPlace : (ℕ → List (List ℕ)) → List ℕ → ℕ → Type 0
IsBackPlace words w k = (a : ℕ) (v : List ℕ) → w ≡ a ∷ v → (k < length (words a)) × (word_at (words a) k ≡ v)

-- the places that an entry has are right
abbrev pub HasFrontPlace : BraidValue → ℕ → List ℕ → Listed → Type 0
HasFrontPlace braid m g l = MatchOption l.right (Unit {0}) (IsFrontPlace (lower_basis braid m g) l.word)

abbrev pub HasBackPlace : BraidValue → ℕ → List ℕ → Listed → Type 0
HasBackPlace braid m g l = MatchOption l.left (Unit {0}) (IsBackPlace (left_lower_basis braid m g) l.word)

-- what holds of the entry of a listed word
pub record IsListedEntry (braid : BraidValue) (m : ℕ) (g : List ℕ) (l : Listed) : Type 0 where
  pub listed : Contains (listed_words braid m g) l.word
  pub front : HasFrontPlace braid m g l
  pub back : HasBackPlace braid m g l

-- the listed words, each with its places, and with whether it is least without its last letter, and without its first one
pub record AreListed (braid : BraidValue) (m : ℕ) (g : List ℕ) (listed : List Listed) : Type 0 where
  pub words : map (λ l. l.word) listed ≡ listed_words braid m g
  pub right : AllByRecursion (λ (l : Listed). is_some l.right ≡ is_least is_killed braid (but_last l.word)) listed
  pub left : AllByRecursion (λ (l : Listed). is_some l.left ≡ is_least is_killed braid (drop 1 l.word)) listed
  pub fronts : AllByRecursion (HasFrontPlace braid m g) listed
  pub backs : AllByRecursion (HasBackPlace braid m g) listed

-- whether a word is `u b` with u least
abbrev pub is_right : BraidValue → ℕ → List ℕ → Bool
is_right braid b w = is_least is_killed braid (but_last w) && same_letters (but_last w ++ b ∷ []) w

-- whether a word is `a v` with v least
abbrev pub is_left : BraidValue → ℕ → List ℕ → Bool
is_left braid a w = is_least is_killed braid (drop 1 w) && same_letters (a ∷ drop 1 w) w

-- `u b` and `a v`, with what is known of them when u and v are the k-th least words
abbrev pub right_entry : ℕ → ℕ → List ℕ → Listed
right_entry b k u = record { word = u ++ b ∷ []; right = Some k; left = None }

abbrev pub left_entry : ℕ → ℕ → List ℕ → Listed
left_entry a k v = record { word = a ∷ v; right = None; left = Some k }

-- the entries of words by their places, which count from k
unfoldable pub entries_from : (ℕ → List ℕ → Listed) → ℕ → List (List ℕ) → List Listed
entries_from f k [] = []
entries_from f k (w ∷ ws) = f k w ∷ entries_from f (suc k) ws

-- the words `u b` and `a v` of a block with u and v least, for the letters up to one
unfoldable pub right_entries : BraidValue → ℕ → List ℕ → ℕ → List Listed
right_entries braid m g n = flat_map (λ b. entries_from (right_entry b) 0 (lower_basis braid m g b)) (up_to n)

unfoldable pub left_entries : BraidValue → ℕ → List ℕ → ℕ → List Listed
left_entries braid m g n = flat_map (λ a. entries_from (left_entry a) 0 (left_lower_basis braid m g a)) (up_to n)

-- the word of an entry, if it is least both ways
abbrev pub new_word : Listed → List (List ℕ)
new_word l = cond (is_some l.right && is_some l.left) (l.word ∷ []) []

-- the places of words without their first letters
abbrev pub AreBackPlaces : (ℕ → List (List ℕ)) → List (List ℕ) → List ℕ → Type 0
AreBackPlaces words [] [] = Unit {0}
AreBackPlaces words (w ∷ ws) (k ∷ ks) = IsBackPlace words w k × AreBackPlaces words ws ks
AreBackPlaces words _ _ = ⊥

-- new words, the spots that they stand at, and their places without their first letters
pub record AreNewWords (braid : BraidValue) (m : ℕ) (g : List ℕ) (ws : List (List ℕ)) (stands : List Spot) (ks : List ℕ) : Type 0 where
  pub inside : AllByRecursion (IsSpot (map (lower_basis braid m g) (up_to braid.letters))) stands
  pub words : map (candidate_at (map (lower_basis braid m g) (up_to braid.letters))) stands ≡ ws
  pub backs : AreBackPlaces (left_lower_basis braid m g) ws ks

-- the places of the words at spots without their end letters
abbrev pub ends_of : List Spot → List ℕ → List Ends
ends_of [] ks = []
ends_of (s ∷ spots) [] = []
ends_of (s ∷ spots) (k ∷ ks) = record { front = s.place; back = k } ∷ ends_of spots ks
