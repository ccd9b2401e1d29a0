use Rattle.std.proofs.Common.{◌≡◌, ℕ, take, ◌<◌, ◌+◌, suc, None, length, ap, ◌∙◌, sym, subst, arith, inl, inr}
use Rattle.std.specs.Prelude.{slice_index_or}
use Rattle.nichols_layout.specs.Values.{AreRightLists}
use Rattle.nichols_crew.specs.Counting.{HasCounted, block_count}
use Rattle.nichols_crew.proofs.Counted.{counted_within}
use Rattle.nichols_graded.specs.Ahead.{AreOpen, AreRulesOf, IsBehind, IsSurvey}
use Rattle.nichols_graded.specs.Graded.{GradedValue, graded_value}
use Rattle.nichols_graded.proofs.DegreeStops.{finished_within}
use Rattle.nichols_graded.proofs.FinishedDegrees.{stop_ends, stopped_ahead, open_ahead}
use Rattle.nichols_graded.proofs.WaveEnds.{IsAfter, after_wave, length_take_all, whole_window}
use Rattle.nichols_graded.proofs.graded.Graded.advance.Given.{Over}
use Rattle.nichols_graded.proofs.graded.Graded.advance.Goals.{After-is_some-self-inside}
use Rattle.nichols_graded.proofs.graded.Graded.advance.Goals as goal

pub returns-in-Stopped-clause-end : goal.returns-in-Stopped-clause-end
returns-in-Stopped-clause-end g c =
    let going = ap (λ g. g.ended) c.self.view_is ∙ c.requires.going in
    inr (sym (stop_ends _ c.in-Stopped.stop c.self.invariant.0 going
    (stopped_ahead c.self.inside.levels.braid c.self.inside.degree_limit c.self.inside.rows_limit (suc c.self.inside.levels.last) c.self.inside.ahead c.in-Stopped.stop c.in-Stopped.is (c.self.invariant.1 going))))

pub degree_values-requires-clause-within : goal.degree_values-requires-clause-within
degree_values-requires-clause-within g c κs within = finished_within _ c.self.invariant.0

pub survey-advance-requires-clause-right : goal.survey-advance-requires-clause-right
survey-advance-requires-clause-right g c =
    let first : suc c.self.inside.levels.last ≡ c.last-first.result + 1 = let e = c.last-first.ensures.value in omega (arith, e) in
    let right = c.in_ok-values.ensures.values in
    let items = c.as_slice-2.ensures.value in
    let made : AreRightLists c.self.inside.levels.braid c.self.inside.rows_limit (suc c.self.inside.levels.last) (length c.in_ok-values.values.items) c.in_ok-values.values.items =
    subst (λ n. AreRightLists c.self.inside.levels.braid c.self.inside.rows_limit (suc c.self.inside.levels.last) n c.in_ok-values.values.items) (sym right.count) right in
    let listed : AreRightLists c.self.inside.levels.braid c.self.inside.rows_limit (suc c.self.inside.levels.last) (length c.as_slice-2.result.now) c.as_slice-2.result.now =
    subst (λ xs. AreRightLists c.self.inside.levels.braid c.self.inside.rows_limit (suc c.self.inside.levels.last) (length xs) xs) (sym items) made in
    subst (λ b. AreRightLists b c.self.inside.rows_limit (c.last-first.result + 1) (length c.as_slice-2.result.now) c.as_slice-2.result.now) (sym c.braid-2.ensures)
    (subst (λ m. AreRightLists c.self.inside.levels.braid c.self.inside.rows_limit m (length c.as_slice-2.result.now) c.as_slice-2.result.now) first listed)

-- what is listed and made, over the braid and the last degree from before
open_lists : (g : Over) (c : After-is_some-self-inside g) → AreOpen c.self.inside.levels.braid c.self.inside.degree_limit (suc c.self.inside.levels.last) c.list_on.new.lists.items
open_lists g c =
    let first : c.last-first.result + 1 ≡ suc c.self.inside.levels.last = let e = c.last-first.ensures.value in omega (arith, e) in
    subst (λ m. AreOpen c.self.inside.levels.braid c.self.inside.degree_limit m c.list_on.new.lists.items) first
    (subst (λ b. AreOpen b c.self.inside.degree_limit (c.last-first.result + 1) c.list_on.new.lists.items) c.braid.ensures c.in_ok-behind.ensures.open)

surveyed : (g : Over) (c : After-is_some-self-inside g) → IsSurvey c.self.inside.levels.braid c.self.inside.degree_limit c.self.inside.rows_limit (suc c.self.inside.levels.last) c.as_slice-2.result.now c.survey-advance.result
surveyed g c =
    let first : c.last-first.result + 1 ≡ suc c.self.inside.levels.last = let e = c.last-first.ensures.value in omega (arith, e) in
    subst (λ m. IsSurvey c.self.inside.levels.braid c.self.inside.degree_limit c.self.inside.rows_limit m c.as_slice-2.result.now c.survey-advance.result) first
    (subst (λ b. IsSurvey b c.self.inside.degree_limit c.self.inside.rows_limit (c.last-first.result + 1) c.as_slice-2.result.now c.survey-advance.result) c.braid-2.ensures c.survey-advance.ensures)

-- a whole window where no end is told
window_done : (g : Over) (c : After-is_some-self-inside g) → c.survey-advance.result.end ≡ None → (c.survey-advance.result.finished ≡ c.self.inside.window) × (c.survey-advance.result.finished < length c.list_on.new.lists.items)
window_done g c none =
    let v = graded_value c.self.inside.levels c.self.inside.degree_limit c.self.inside.rows_limit c.self.inside.window c.self.inside.ended in
    let first : c.last-first.result + 1 ≡ suc c.self.inside.levels.last = let e = c.last-first.ensures.value in omega (arith, e) in
    let len : c.len.result ≡ length c.list_on.new.lists.items = let e = c.len.ensures in omega (arith, e) in
    let inside = c.fewer-count.ensures.inside in
    let few = c.fewer-count.ensures.few in
    let xs = c.deref.result.now in
    let all : length xs ≡ length c.list_on.new.lists.items = ap length c.deref.ensures.value in
    let taken = length_take_all c.fewer-count.result xs (omega (arith, inside, len, all)) in
    let size : length c.as_slice-2.result.now ≡ c.fewer-count.result = ap length c.as_slice-2.ensures.value ∙ c.in_ok-values.ensures.values.count ∙ taken in
    let behind : IsBehind c.self.inside.levels.braid c.self.inside.degree_limit (suc c.self.inside.levels.last + length c.list_on.new.lists.items) c.in_ok-behind.behind =
    subst (λ m. IsBehind c.self.inside.levels.braid c.self.inside.degree_limit (m + length c.list_on.new.lists.items) c.in_ok-behind.behind) first
    (subst (λ b. IsBehind b c.self.inside.degree_limit (c.last-first.result + 1 + length c.list_on.new.lists.items) c.in_ok-behind.behind) c.braid.ensures c.in_ok-behind.ensures.behind) in
    whole_window v c.list_on.new.lists.items c.as_slice-2.result.now c.survey-advance.result c.in_ok-behind.behind (open_lists g c) (surveyed g c) behind c.in_ok-behind.ensures.enough
    (elim c.fewer-count.ensures.one [ inl whole ↦ inl (size ∙ whole) | inr every ↦ inr (size ∙ every ∙ len) ]) (omega (arith, size, few)) (omega (arith, size, inside, len)) none

-- the algebra after the wave
made_after : (g : Over) (c : After-is_some-self-inside g) →
    IsAfter (graded_value c.self.inside.levels c.self.inside.degree_limit c.self.inside.rows_limit c.self.inside.window c.self.inside.ended) c.put_on.new.levels.braid c.put_on.new.levels.last c.put_on.new.lists.items c.is_some-self-inside.result c.survey-advance.result.end
made_after g c =
    let going = ap (λ g. g.ended) c.self.view_is ∙ c.requires.going in
    let v = graded_value c.self.inside.levels c.self.inside.degree_limit c.self.inside.rows_limit c.self.inside.window c.self.inside.ended in
    let free = (open_ahead c.self.inside.levels.braid c.self.inside.degree_limit c.self.inside.rows_limit (suc c.self.inside.levels.last) c.self.inside.ahead c.in-Open.lists c.in-Open.is (c.self.invariant.1 going)).0 in
    let braid : c.put_on.new.levels.braid ≡ c.self.inside.levels.braid = c.put_on.ensures.braid in
    let last : c.put_on.new.levels.last ≡ c.self.inside.levels.last + c.survey-advance.result.finished = c.put_on.ensures.last in
    let after = after_wave v c.list_on.new.lists.items c.put_on.new.lists.items c.as_slice-2.result.now c.survey-advance.result c.is_some-self-inside.result c.self.invariant.0 going free (open_lists g c) (surveyed g c) c.put_on.ensures.lists (λ none. (window_done g c none).1) c.is_some-self-inside.ensures in
    subst (λ b. IsAfter v b c.put_on.new.levels.last c.put_on.new.lists.items c.is_some-self-inside.result c.survey-advance.result.end) (sym braid)
    (subst (λ m. IsAfter v c.self.inside.levels.braid m c.put_on.new.lists.items c.is_some-self-inside.result c.survey-advance.result.end) (sym last) after)

pub invariant_of-self-2 : goal.invariant_of-self-2
invariant_of-self-2 g c =
    let after = made_after g (goal.at.invariant_of-self-2 g c).After-is_some-self-inside in
    let last = c.put_on.ensures.last in
    let spare = c.put_on.ensures.spare in
    let room = c.self.invariant.2 in
    (after.graded, after.ahead, omega (arith, last, spare, room))

pub returns-clause-further : goal.returns-clause-further
returns-clause-further g c none = (window_done g (goal.at.returns-clause-further g c).After-is_some-self-inside none).0 ∙ ap (λ g. g.window) c.self.view_is

pub returns-clause-end : goal.returns-clause-end
returns-clause-end g c = (made_after g (goal.at.returns-clause-end g c).After-is_some-self-inside).told

pub returns-clause-unreached : goal.returns-clause-unreached
returns-clause-unreached g c = (made_after g (goal.at.returns-clause-unreached g c).After-is_some-self-inside).open_still

pub put_on-requires-clause-rules : goal.put_on-requires-clause-rules
put_on-requires-clause-rules g c i d less =
    let first : c.last-first.result + 1 + i ≡ suc c.self.inside.levels.last + i = let e = c.last-first.ensures.value in omega (arith, e) in
    let made : AreRulesOf c.braid-2.result.now (c.last-first.result + 1 + i) (slice_index_or c.as_slice-2.result.now i d).items = c.survey-advance.ensures.rules i d less in
    let listed : AreRulesOf c.braid-2.result.now (c.last-first.result + 1 + i) (slice_index_or c.in_ok-values.values.items i d).items =
    subst (λ xs. AreRulesOf c.braid-2.result.now (c.last-first.result + 1 + i) (slice_index_or xs i d).items) c.as_slice-2.ensures.value made in
    subst (λ b. AreRulesOf b (suc c.self.inside.levels.last + i) (slice_index_or c.in_ok-values.values.items i d).items) c.braid-2.ensures
    (subst (λ m. AreRulesOf c.braid-2.result.now m (slice_index_or c.in_ok-values.values.items i d).items) first listed)

pub returns-clause-counted : goal.returns-clause-counted
returns-clause-counted g c =
    let b = c.self.inside.levels.braid in
    let m : ℕ = suc c.self.inside.levels.last in
    let n : ℕ = length (take c.fewer-count.result c.deref.result.now) in
    let most = c.survey-advance.ensures.most in
    let size : length c.as_slice-2.result.now ≡ n = ap length c.as_slice-2.ensures.value ∙ c.in_ok-values.ensures.values.count in
    subst (λ (v : GradedValue). HasCounted (block_count v.braid (suc v.last) c.survey-advance.result.finished) (g.G.Gate.count c.args.gate.now) (g.G.Gate.count c.degree_values.new.gate)) c.self.view_is
    (counted_within b m n c.survey-advance.result.finished (g.G.Gate.count c.args.gate.now) (g.G.Gate.count c.degree_values.new.gate) (omega (arith, most, size)) c.in_ok-values.ensures.counted)

pub returns-clause-made : goal.returns-clause-made
returns-clause-made g c starved =
    let b = c.self.inside.levels.braid in
    let m : ℕ = suc c.self.inside.levels.last in
    let n : ℕ = length (take c.fewer-count.result c.deref.result.now) in
    let short = c.survey-advance.ensures.short starved in
    let size : length c.as_slice-2.result.now ≡ n = ap length c.as_slice-2.ensures.value ∙ c.in_ok-values.ensures.values.count in
    subst (λ (v : GradedValue). HasCounted (block_count v.braid (suc v.last) (suc c.survey-advance.result.finished)) (g.G.Gate.count c.args.gate.now) (g.G.Gate.count c.degree_values.new.gate)) c.self.view_is
    (counted_within b m n (suc c.survey-advance.result.finished) (g.G.Gate.count c.args.gate.now) (g.G.Gate.count c.degree_values.new.gate) (omega (arith, short, size)) c.in_ok-values.ensures.counted)
