-- What is known of the degrees before they are made, and of those of a wave once it is made.
use Rattle.std.specs.Prelude.{◌≡◌, ◌<◌, ◌≤◌, ◌+◌, ◌⊎◌, ℕ, suc, map, length, slice_index_or, List, false, Option, None, Some, option_map, if◌then◌else◌, Vec}
use Rattle.std.specs.Global.{Global}
use Rattle.std.specs.List.{list_all}
use Rattle.nichols_braid.specs.declared.TheConstants.{MOST_PRODUCTS}
use Rattle.nichols_braid.specs.Braid.{BraidValue}
use Rattle.nichols_braid.specs.Kernel.{is_in_kernel}
use Rattle.nichols_braid.specs.End.{is_empty_degree}
use Rattle.nichols_value.specs.declared.shared.Shared.{Shared}
use Rattle.nichols_value.specs.declared.value.BlockValue.TheVariants.{Rule}
use Rattle.nichols_value.specs.Worth.{worth}
use Rattle.nichols_block.specs.Levels.{rules_of}
use Rattle.nichols_layout.specs.Keys.{AreLists}
use Rattle.nichols_graded.specs.declared.ahead.Ahead.{Ahead}
use Rattle.nichols_graded.specs.declared.ahead.Ahead.TheVariants as ahead
use Rattle.nichols_graded.specs.declared.ends.Advance.{Advance}
use Rattle.nichols_graded.specs.declared.ends.End.{End}
use Rattle.nichols_graded.specs.declared.ends.End.TheVariants.{Closed, Stopped, Starved}
use Rattle.nichols_graded.specs.declared.ends.Stop.{Stop}
use Rattle.nichols_graded.specs.Ends.{stops_at}
use Rattle.nichols_graded.specs.Sizes.{is_rule}

-- lists of the products of the degrees from m on, at least one, none beyond the degree limit and none with too many products
pub record AreOpen (braid : BraidValue) (limit m : ℕ) (lists : List (List (List ℕ))) : Type 0 where
  pub some : 1 ≤ length lists
  pub listed : AreLists braid m lists
  pub within : m + length lists ≤ suc limit
  pub narrow : (i : ℕ) (d : List (List ℕ)) → i < length lists → length (slice_index_or lists i d) ≤ MOST_PRODUCTS

-- what is known of degree m: what stops it, or the products of some degrees from it on
abbrev pub IsAhead : BraidValue → ℕ → ℕ → ℕ → Ahead → Type 0
IsAhead braid limit rows m (ahead.Stopped stop) = stops_at braid limit rows m ≡ Some stop
IsAhead braid limit rows m (ahead.Open ps) = (stops_at braid limit rows m ≡ None) × AreOpen braid limit m ps.items

-- what stops degree m under each rows limit, if anything is told
abbrev pub IsBehind : BraidValue → ℕ → ℕ → Option Stop → Type 0
IsBehind braid limit m None = Unit {0}
IsBehind braid limit m (Some stop) = (rows : ℕ) → stops_at braid limit rows m ≡ Some stop

-- the end after a finished degree m, where it is reached
unfoldable pub end_after : BraidValue → ℕ → ℕ → ℕ → Option End
end_after braid limit rows m = if is_empty_degree is_in_kernel braid m then Some Closed else option_map Stopped (stops_at braid limit rows (suc m))

-- the values of degree m are the rules of its blocks
abbrev pub AreRulesOf : BraidValue → ℕ → List Shared → Type 0
AreRulesOf braid m values = map worth values ≡ map Rule (rules_of braid m)

-- of a wave of the degrees from m on with these values, so many degrees are finished, with this end
pub record IsSurvey (braid : BraidValue) (limit rows m : ℕ) (values : List (Vec Shared Global)) (a : Advance) : Type 0 where
  pub most : a.finished ≤ length values
  pub rules : (i : ℕ) (d : Vec Shared Global) → i < a.finished → AreRulesOf braid (m + i) (slice_index_or values i d).items
  pub going : (i : ℕ) → suc i < a.finished → end_after braid limit rows (m + i) ≡ None
  pub full : a.end ≡ None → a.finished ≡ length values
  pub short : a.end ≡ Some Starved → a.finished < length values
  pub starved : a.end ≡ Some Starved → (d : Vec Shared Global) → list_all (λ v. is_rule (worth v)) (slice_index_or values a.finished d).items ≡ false
  pub before : a.end ≡ Some Starved → (i : ℕ) → i < a.finished → end_after braid limit rows (m + i) ≡ None
  pub told : (a.end ≡ Some Starved) ⊎ ((k : ℕ) × (a.finished ≡ suc k) × (a.end ≡ end_after braid limit rows (m + k)))
