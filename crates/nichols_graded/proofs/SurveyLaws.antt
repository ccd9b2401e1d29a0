-- The degrees of a wave that are finished.
use Rattle.std.proofs.Common.{◌≡◌, ◌<◌, ◌+◌, ℕ, Bool, Vec, Global, List, true, false, length, get_or, refl, ap, ◌∙◌, sym, subst, arith}
use Rattle.std.specs.Prelude.{Option, None, Some, is_some}
use Rattle.std.specs.List.{list_all}
use Rattle.std.proofs.lemmas.List.{get_or_default}
use mathlib.Core.Logic.{dite}
use native.Mathlib.Decide.{ℕ_discrete}
use Rattle.nichols_braid.specs.Braid.{BraidValue}
use Rattle.nichols_layout.specs.Values.{AreRightLists}
use Rattle.nichols_value.specs.declared.shared.Shared.{Shared}
use Rattle.nichols_value.specs.Worth.{worth}
use Rattle.nichols_graded.specs.declared.ends.End.{End}
use Rattle.nichols_graded.specs.Ahead.{AreRulesOf}
use Rattle.nichols_graded.specs.Sizes.{is_rule}
use Rattle.nichols_graded.proofs.WaveRules.{wave_rules}

pub some_is_not_none : (o : Option End) → o ≡ None → is_some o ≡ true → ⊥
some_is_not_none None e t = cc
some_is_not_none (Some x) e t = cc

pub same_end : (o : Option End) → is_some o ≡ false → o ≡ None
same_end None e = refl
same_end (Some x) e = absurd (let c : true ≡ false = e in cc)

-- the values of a degree whose values are all rules, read with any value for what isn't there
pub rules_at : (braid : BraidValue) (limit m n i : ℕ) (values : List (Vec Shared Global)) (v : Vec Shared Global) (vs : List Shared) (b : Bool) → AreRightLists braid limit m n values → i < n → i < length values → v ≡ get_or values i v → vs ≡ v.items → b ≡ list_all (λ s. is_rule (worth s)) vs → b ≡ true →
    (d : Vec Shared Global) → AreRulesOf braid (m + i) (get_or values i d).items
rules_at braid limit m n i values v vs b right less inside is items e all d =
    let read : v ≡ get_or values i d = is ∙ get_or_default values i v d inside in
    let every : list_all (λ s. is_rule (worth s)) (get_or values i d).items ≡ true = ap (λ (x : Vec Shared Global). list_all (λ s. is_rule (worth s)) x.items) (sym read) ∙ ap (list_all (λ s. is_rule (worth s))) (sym items) ∙ sym e ∙ all in
    wave_rules braid limit (m + i) (get_or values i d).items (right.each i d less) every

-- one degree more
pub more_rules : (braid : BraidValue) (m i : ℕ) (values : List (Vec Shared Global)) → ((j : ℕ) (d : Vec Shared Global) → j < i → AreRulesOf braid (m + j) (get_or values j d).items) → ((d : Vec Shared Global) → AreRulesOf braid (m + i) (get_or values i d).items) →
    (j : ℕ) (d : Vec Shared Global) → j < i + 1 → AreRulesOf braid (m + j) (get_or values j d).items
more_rules braid m i values before here j d less =
    dite (ℕ_discrete j i) (λ same. subst (λ k. AreRulesOf braid (m + k) (get_or values k d).items) (sym same) (here d)) (λ other. before j d (omega (arith, less, other)))
