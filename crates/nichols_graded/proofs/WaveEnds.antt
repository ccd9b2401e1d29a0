-- An algebra with the finished degrees of a wave on top.
use Rattle.std.proofs.Common.{◌≡◌, ◌<◌, ◌≤◌, ◌+◌, ◌⊎◌, ℕ, zero, suc, Bool, [], ◌∷◌, take, Vec, Global, List, false, length, drop, refl, ap, ◌∙◌, sym, subst, arith, inl, inr}
use Rattle.std.specs.Prelude.{Option, None, Some, is_some}
use Rattle.std.specs.List.{Contains}
use Rattle.std.proofs.lemmas.Bool.{cases_lt}
use Rattle.nichols_braid.specs.Braid.{BraidValue}
use Rattle.nichols_braid.specs.Kernel.{is_in_kernel}
use Rattle.nichols_braid.specs.End.{is_empty_degree}
use Rattle.nichols_value.specs.declared.shared.Shared.{Shared}
use Rattle.nichols_graded.specs.declared.ends.Advance.{Advance}
use Rattle.nichols_graded.specs.declared.ends.End.{End}
use Rattle.nichols_graded.specs.declared.ends.End.TheVariants.{Starved}
use Rattle.nichols_graded.specs.declared.ends.Stop.{Stop}
use Rattle.nichols_graded.specs.Ahead.{AreOpen, IsBehind, IsSurvey, end_after}
use Rattle.nichols_graded.specs.Ends.{end_reached, finished_degrees, stops_at}
use Rattle.nichols_graded.specs.Graded.{GradedValue, IsGraded}
use Rattle.nichols_graded.proofs.EndLaws.{end_none}
use Rattle.nichols_graded.proofs.FinishedDegrees.{end_is, going_on, wave_finished}
use Rattle.nichols_graded.proofs.Listed.{open_drop}
use Rattle.nichols_graded.proofs.SurveyLaws.{same_end}

-- what holds of an algebra with this last degree after a wave, with the lists that are left
pub record IsAfter (g : GradedValue) (braid : BraidValue) (last : ℕ) (rest : List (List (List ℕ))) (ended : Bool) (end : Option End) : Type 0 where
  pub graded : IsGraded (record { braid = braid; limit = g.limit; rows = g.rows; window = g.window; last = last; ended = ended })
  pub ahead : ended ≡ false → (stops_at braid g.limit g.rows (suc last) ≡ None) × AreOpen braid g.limit (suc last) rest
  pub told : (end ≡ Some Starved) ⊎ (end ≡ end_reached braid g.limit g.rows last)
  pub open_still : end ≡ Some Starved → end_reached braid g.limit g.rows last ≡ None

-- where no end is told, the last degree isn't empty and the next isn't stopped
open_end : (g : GradedValue) (values : List (Vec Shared Global)) (a : Advance) → IsSurvey g.braid g.limit g.rows (suc g.last) values a → a.end ≡ None → (is_empty_degree is_in_kernel g.braid (g.last + a.finished) ≡ false) × (stops_at g.braid g.limit g.rows (suc (g.last + a.finished)) ≡ None)
open_end g values a s none = at s.told
  where
    at : (a.end ≡ Some Starved) ⊎ ((k : ℕ) × (a.finished ≡ suc k) × (a.end ≡ end_after g.braid g.limit g.rows (suc g.last + k))) → (is_empty_degree is_in_kernel g.braid (g.last + a.finished) ≡ false) × (stops_at g.braid g.limit g.rows (suc (g.last + a.finished)) ≡ None)
    at (inl starved) = absurd (let c : None ≡ Some Starved = sym none ∙ starved in cc)
    at (inr (k, count, e)) =
        let here : suc g.last + k ≡ g.last + a.finished = omega (arith, count) in
        going_on g.braid g.limit g.rows (g.last + a.finished) (ap (end_after g.braid g.limit g.rows) (sym here) ∙ sym e ∙ none)

pub after_wave : (g : GradedValue) (lists rest : List (List (List ℕ))) (values : List (Vec Shared Global)) (a : Advance) (ended : Bool) → IsGraded g → g.ended ≡ false → stops_at g.braid g.limit g.rows (suc g.last) ≡ None → AreOpen g.braid g.limit (suc g.last) lists → IsSurvey g.braid g.limit g.rows (suc g.last) values a →
    rest ≡ drop a.finished lists → (a.end ≡ None → a.finished < length lists) → ended ≡ is_some a.end → IsAfter g g.braid (g.last + a.finished) rest ended a.end
after_wave g lists rest values a ended h going free listed s rest_is more ended_is =
    let done : Contains (finished_degrees g.braid g.limit g.rows) (g.last + a.finished) = wave_finished g h going free a.finished s.going in
    let none : ended ≡ false → a.end ≡ None = λ still. same_end a.end (sym ended_is ∙ still) in
    let next : suc g.last + a.finished ≡ suc (g.last + a.finished) = omega arith in
    record {
      graded = record {
        braid = h.braid;
        most = h.most;
        some_rows = h.some_rows;
        few_rows = h.few_rows;
        some_window = h.some_window;
        few_window = h.few_window;
        finished = done;
        going = λ still. (open_end g values a s (none still)).0;
      };
      ahead = λ still. ((open_end g values a s (none still)).1, subst (λ m. AreOpen g.braid g.limit m rest) next (open_drop g.braid g.limit (suc g.last) a.finished lists rest listed rest_is (more (none still))));
      told = at s.told done;
      open_still = λ starved. still_open starved a.finished refl done;
    }
  where
    still_open : a.end ≡ Some Starved → (n : ℕ) → a.finished ≡ n → Contains (finished_degrees g.braid g.limit g.rows) (g.last + a.finished) → end_reached g.braid g.limit g.rows (g.last + a.finished) ≡ None
    still_open starved zero count done =
        let here : g.last ≡ g.last + a.finished = omega (arith, count) in
        ap (end_reached g.braid g.limit g.rows) (sym here) ∙ end_none g.braid g.limit g.rows g.last h.most h.finished (h.going going) free
    still_open starved (suc k) count done =
        let here : suc g.last + k ≡ g.last + a.finished = omega (arith, count) in
        sym (end_is g.braid g.limit g.rows (g.last + a.finished) h.most done) ∙ ap (end_after g.braid g.limit g.rows) (sym here) ∙ s.before starved k (omega (arith, count))

    at : (a.end ≡ Some Starved) ⊎ ((k : ℕ) × (a.finished ≡ suc k) × (a.end ≡ end_after g.braid g.limit g.rows (suc g.last + k))) → Contains (finished_degrees g.braid g.limit g.rows) (g.last + a.finished) → (a.end ≡ Some Starved) ⊎ (a.end ≡ end_reached g.braid g.limit g.rows (g.last + a.finished))
    at (inl starved) done = inl starved
    at (inr (k, count, e)) done =
        let here : suc g.last + k ≡ g.last + a.finished = omega (arith, count) in
        inr (e ∙ ap (end_after g.braid g.limit g.rows) here ∙ end_is g.braid g.limit g.rows (g.last + a.finished) h.most done)

-- where no end is told, a whole window is finished, and a list is left
pub whole_window : (g : GradedValue) (lists : List (List (List ℕ))) (values : List (Vec Shared Global)) (a : Advance) (behind : Option Stop) → AreOpen g.braid g.limit (suc g.last) lists → IsSurvey g.braid g.limit g.rows (suc g.last) values a →
    IsBehind g.braid g.limit (suc g.last + length lists) behind → (behind ≡ None → g.window + 1 ≤ length lists) → (length values ≡ g.window) ⊎ (length values ≡ length lists) → length values ≤ g.window → length values ≤ length lists → a.end ≡ None → (a.finished ≡ g.window) × (a.finished < length lists)
whole_window g lists values a None listed s known enough sized fits inside none =
    let all = s.full none in
    let more = enough refl in
    elim sized [ inl whole ↦ (omega (arith, all, whole, more), omega (arith, all, whole, more)) | inr every ↦ absurd (omega (arith, every, fits, more)) ]
whole_window g lists values a (Some stop) listed s known enough sized fits inside none =
    let all = s.full none in
    let next = (open_end g values a s none).1 in
    elim (cases_lt a.finished (length lists)) [
      | inl less ↦ elim sized [ inl whole ↦ (omega (arith, all, whole), less) | inr every ↦ absurd (omega (arith, all, every, less)) ]
      | inr past ↦
          let same : suc g.last + length lists ≡ suc (g.last + a.finished) = omega (arith, all, inside, past) in
          absurd (let c : Some stop ≡ None = sym (known g.rows) ∙ ap (stops_at g.braid g.limit g.rows) same ∙ next in cc)
    ]

pub length_take_all : {X : Type 0} (k : ℕ) (xs : List X) → k ≤ length xs → length (take k xs) ≡ k
length_take_all zero xs less = refl
length_take_all (suc k) [] less = absurd (omega (arith, less))
length_take_all (suc k) (x ∷ xs) less = ap suc (length_take_all k xs (omega (arith, less)))
