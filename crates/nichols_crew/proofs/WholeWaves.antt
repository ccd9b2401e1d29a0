-- The layout of a wave with its keys is the plan of a wave; and what is right for the blocks of the plan is right for the keys.
use Rattle.std.proofs.Common.{◌≡◌, ℕ, suc, ◌+◌, ◌<◌, ◌≤◌, List, length, refl, sym, ◌∙◌, subst, arith}
use Rattle.std.specs.List.{Contains}
use Rattle.nichols_braid.specs.declared.TheConstants.{MOST_DEGREES, MOST_ROWS}
use Rattle.nichols_braid.specs.Braid.{BraidValue}
use Rattle.nichols_braid.specs.Products.{products}
use Rattle.nichols_core.specs.Layout.{LayoutValue, no_edge}
use Rattle.nichols_value.specs.declared.key.BlockKey.{BlockKey}
use Rattle.nichols_value.specs.declared.shared.Shared.{Shared}
use Rattle.nichols_layout.specs.Keys.{AreApart, key_in, keys_up_to}
use Rattle.nichols_layout.specs.Laid.{IsWaveLayout}
use Rattle.nichols_layout.specs.Values.{AreRight}
use Rattle.nichols_layout.proofs.KeyRuns.{degree_within, keys_apart}
use Rattle.nichols_layout.proofs.LaidOut.{count_is, degree_is}
use Rattle.nichols_shelf.specs.Plan.{PlanValue, IsRightFor}
use Rattle.nichols_shelf.specs.declared.view.View.{View}
use Rattle.nichols_crew.specs.Hands.{AreAnswered}
use Rattle.nichols_crew.specs.Wave.{AreWithin, IsWave}

abbrev pub plan : BraidValue → LayoutValue → List BlockKey → ℕ → PlanValue
plan braid l keys limit = record { braid = braid; layout = l; keys = keys; rows_limit = limit }

module _ (braid : BraidValue) (last n limit : ℕ) (keys : List BlockKey) (l : LayoutValue) (keys_are : keys ≡ keys_up_to braid (suc last) n) (h : IsWaveLayout braid last keys l) where
  within : (b : ℕ) → b < length keys → (suc last ≤ (key_in keys b).degree) × ((key_in keys b).degree < suc last + n)
  within b inside =
      subst (λ (ks : List BlockKey). (suc last ≤ (key_in ks b).degree) × ((key_in ks b).degree < suc last + n)) (sym keys_are)
      (degree_within braid (suc last) n b (subst (λ (ks : List BlockKey). b < length ks) keys_are inside))

  there : (b : ℕ) → b < length keys → Contains (products braid (key_in keys b).degree) (key_in keys b).product
  there = (subst (AreApart braid) (sym keys_are) (keys_apart braid (suc last) n)).there

  block_inside : (b : ℕ) → b < length l.degrees → b < length keys
  block_inside b inside = let count = count_is keys l.degrees h.degrees in omega (arith, count, inside)

  pub is_wave : last + n ≤ MOST_DEGREES → 1 ≤ limit → limit ≤ MOST_ROWS → AreWithin braid limit last → IsWave braid last (plan braid l keys limit)
  is_wave room some few below = record {
    braid_is = refl;
    some_rows = some;
    few_rows = few;
    within = below;
    block = λ b inside.
        let w = within b (block_inside b inside) in
        let low = w.0 in
        let high = w.1 in
        record { some = omega (arith, low); most = omega (arith, high, room); there = there b (block_inside b inside) };
    above = λ b inside. let low = (within b (block_inside b inside)).0 in omega (arith, low);
    degree = λ b inside. degree_is keys l.degrees h.degrees b (block_inside b inside);
    lower = λ k inside. let x = h.links k no_edge inside in record { letter = x.letter; leading = x.leading; product = x.product };
    every = λ b m a inside at above letter lower. h.every b m a (block_inside b inside) at above letter lower;
  }

  pub are_right : (v : View) (values : List Shared) → AreAnswered (plan braid l keys limit) v values → AreRight braid limit keys values
  unfolding IsRightFor
  are_right v values a = let count = count_is keys l.degrees h.degrees in record { count = a.count ∙ count; right = λ b d inside. a.right b d (omega (arith, count, inside)) }
