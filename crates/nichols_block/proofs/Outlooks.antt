-- What the values of the lower blocks of a block say of its value.
use Rattle.std.proofs.Common.{◌≡◌, ◌↔◌, ℕ, zero, suc, ◌+◌, ◌-◌, ◌<◌, ◌≤◌, true, false, List, [], ◌∷◌, ◌++◌, map, length, get_or, take, refl, sym, ◌∙◌, ap, subst, arith, inl, inr}
use Rattle.std.specs.List.{Contains}
use Rattle.std.proofs.lemmas.List.{take_more}
use Rattle.nichols_tensor.proofs.Entries.{contains_cases, contains_first, contains_none, from_map, in_map}
use Rattle.nichols_tensor.proofs.Over.{all_at}
use Rattle.nichols_tensor.proofs.Tests.{all_of_entries}
use Rattle.nichols_braid.specs.Braid.{BraidValue, IsBraid}
use Rattle.nichols_braid.specs.declared.TheConstants.{MOST_ROWS}
use Rattle.nichols_braid.specs.Kernel.{is_killed}
use Rattle.nichols_braid.specs.Product.{product_before}
use Rattle.nichols_braid.specs.Products.{rows}
use Rattle.nichols_value.specs.declared.key.BlockKey.{BlockKey}
use Rattle.nichols_value.specs.declared.shared.LowerValue.{LowerValue}
use Rattle.nichols_value.specs.declared.value.BlockValue.{BlockValue}
use Rattle.nichols_value.specs.declared.value.BlockValue.TheVariants as value
use Rattle.nichols_value.specs.Block.{is_whole, is_whole_below, lower_letters}
use Rattle.nichols_value.specs.Rule.{PlainRule, rule_of}
use Rattle.nichols_value.specs.Value.{IsRight}
use Rattle.nichols_value.specs.Worth.{worth}
use Rattle.nichols_value.proofs.FewWords.{lower_basis_within}
use Rattle.nichols_value.proofs.Wholes.{all_lower_whole, not_whole, over_value, right_rule, rule_value, some_lower_not_whole, void_is_not_whole, void_value, whole_from}
use Rattle.nichols_block.specs.declared.making.Outlook.TheVariants.{Rules, Starved, Void}
use Rattle.nichols_block.specs.Allowed.{AreAllowed, allows}
use Rattle.nichols_block.specs.Below.{AreFewBelow}
use Rattle.nichols_block.specs.Lower.{AreLowerRules, AreLowerValues, IsUpperBlock}
use Rattle.nichols_block.specs.Making.{EachLower, IsARule, IsOverOrVoid, IsStarved, SomeLower}
use Rattle.std.proofs.lemmas.List.Elements.{Contains-append_left, Contains-append_right, Contains-append_cases}

-- ---- one value

-- a value that allows the block is a rule, which says that its block is whole and which rule it is
one_rule : (braid : BraidValue) (limit m : ℕ) (g : List ℕ) (v : BlockValue) → IsRight braid limit m g v → allows v ≡ Rules → (is_whole braid limit m g ≡ true) × (v ≡ value.Rule (rule_of braid m g))
one_rule braid limit m g (value.Rule r) right e = let (whole, same) = right_rule braid limit m g r right in (whole, ap value.Rule same)
one_rule braid limit m g (value.Over n) right e = cc
one_rule braid limit m g value.Void right e = cc
one_rule braid limit m g value.Starved right e = cc

-- one that makes it void is of a block that isn't whole
one_void : (braid : BraidValue) (limit m : ℕ) (g : List ℕ) (v : BlockValue) → IsRight braid limit m g v → allows v ≡ Void → is_whole braid limit m g ≡ false
one_void braid limit m g (value.Rule r) right e = cc
one_void braid limit m g (value.Over n) right e = not_whole braid limit m g n right
one_void braid limit m g value.Void right e = void_is_not_whole braid limit m g right
one_void braid limit m g value.Starved right e = cc

-- ---- all values

right_at : (braid : BraidValue) (limit : ℕ) (key : BlockKey) (lower : List LowerValue) → AreLowerValues braid limit key lower → (l : LowerValue) → Contains lower l → IsRight braid limit (key.degree - 1) (product_before braid l.letter key.product) (worth l.value)
right_at braid limit key lower values l i = all_at (λ (x : LowerValue). IsRight braid limit (key.degree - 1) (product_before braid x.letter key.product) (worth x.value)) lower l values.right i

pub rules_below : (braid : BraidValue) (limit : ℕ) (key : BlockKey) (lower : List LowerValue) → AreLowerValues braid limit key lower → EachLower (λ v. allows v ≡ Rules) lower → AreLowerRules braid key lower
rules_below braid limit key lower values all = record {
  letters = values.letters;
  rules = all_of_entries (λ (l : LowerValue). worth l.value ≡ value.Rule (rule_of braid (key.degree - 1) (product_before braid l.letter key.product))) lower
      (λ l i. (one_rule braid limit (key.degree - 1) (product_before braid l.letter key.product) (worth l.value) (right_at braid limit key lower values l i) (all l i)).1);
}

whole_at : (braid : BraidValue) (limit m : ℕ) (g : List ℕ) (lower : List LowerValue) → 1 ≤ m → map (λ (l : LowerValue). l.letter) lower ≡ lower_letters braid m g →
    ((l : LowerValue) → Contains lower l → is_whole braid limit (m - 1) (product_before braid l.letter g) ≡ true) → is_whole_below braid limit m g ≡ true
whole_at braid limit zero g lower some letters each = absurd (omega arith)
whole_at braid limit (suc m) g lower some letters each =
    all_lower_whole braid limit m g
    (λ a i.
    let (l, j, e) = from_map (λ (x : LowerValue). x.letter) a lower (subst (λ ls. Contains ls a) (sym letters) i) in
    let back : suc m - 1 ≡ m = omega arith in
    sym (ap (λ k. is_whole braid limit k (product_before braid a g)) back) ∙ ap (λ b. is_whole braid limit (suc m - 1) (product_before braid b g)) e ∙ each l j)

pub whole_below : (braid : BraidValue) (limit : ℕ) (key : BlockKey) (lower : List LowerValue) → IsUpperBlock braid key → AreLowerValues braid limit key lower → EachLower (λ v. allows v ≡ Rules) lower →
    is_whole_below braid limit key.degree key.product ≡ true
whole_below braid limit key lower block values all =
    whole_at braid limit key.degree key.product lower block.some values.letters
    (λ l i. (one_rule braid limit (key.degree - 1) (product_before braid l.letter key.product) (worth l.value) (right_at braid limit key lower values l i) (all l i)).0)

void_at : (braid : BraidValue) (limit m : ℕ) (g : List ℕ) (lower : List LowerValue) (l : LowerValue) → 1 ≤ m → map (λ (x : LowerValue). x.letter) lower ≡ lower_letters braid m g → Contains lower l →
    is_whole braid limit (m - 1) (product_before braid l.letter g) ≡ false → is_whole_below braid limit m g ≡ false
void_at braid limit zero g lower l some letters i isnt = absurd (omega arith)
void_at braid limit (suc m) g lower l some letters i isnt =
    let back : suc m - 1 ≡ m = omega arith in
    some_lower_not_whole braid limit m g l.letter (subst (λ ls. Contains ls l.letter) letters (in_map (λ (x : LowerValue). x.letter) l lower i)) (sym (ap (λ k. is_whole braid limit k (product_before braid l.letter g)) back) ∙ isnt)

-- ---- the value of the block

pub right_when_void : (braid : BraidValue) (limit : ℕ) (key : BlockKey) (lower : List LowerValue) → IsUpperBlock braid key → AreLowerValues braid limit key lower → SomeLower (λ v. allows v ≡ Void) lower →
    IsRight braid limit key.degree key.product value.Void
right_when_void braid limit key lower block values (l, i, e) =
    inl (sym (void_value braid limit key.degree key.product
    (void_at braid limit key.degree key.product lower l block.some values.letters i
    (one_void braid limit (key.degree - 1) (product_before braid l.letter key.product) (worth l.value) (right_at braid limit key lower values l i) e))))

pub few_below : (braid : BraidValue) (limit : ℕ) (key : BlockKey) → IsBraid braid → limit ≤ MOST_ROWS → is_whole_below braid limit key.degree key.product ≡ true → AreFewBelow braid key
few_below braid limit key is few whole b lb = let most = lower_basis_within braid is limit key.degree key.product whole b lb in omega (arith, few, most)

pub right_when_over : (braid : BraidValue) (limit : ℕ) (key : BlockKey) (count : ℕ) → is_whole_below braid limit key.degree key.product ≡ true → count ≡ rows is_killed braid key.degree key.product → limit < count →
    IsRight braid limit key.degree key.product (value.Over count)
right_when_over braid limit key count whole e many = inl (ap value.Over e ∙ sym (over_value braid limit key.degree key.product whole (subst (λ n. limit < n) e many)))

pub right_when_made : (braid : BraidValue) (limit : ℕ) (key : BlockKey) (count : ℕ) (r : PlainRule) → is_whole_below braid limit key.degree key.product ≡ true → count ≡ rows is_killed braid key.degree key.product → count ≤ limit →
    r ≡ rule_of braid key.degree key.product → IsRight braid limit key.degree key.product (value.Rule r)
right_when_made braid limit key count r whole e few same =
    inl (ap value.Rule same ∙ sym (rule_value braid limit key.degree key.product (whole_from braid limit key.degree key.product (subst (λ n. n ≤ limit) e few) whole)))

-- ---- the walk over the lower values

walked_more : (lower : List LowerValue) (i : ℕ) (l : LowerValue) → i < length lower → l ≡ get_or lower i l → take (i + 1) lower ≡ take i lower ++ l ∷ []
walked_more lower i l less at = take_more lower i l less ∙ ap (λ (y : LowerValue). take i lower ++ y ∷ []) (sym at)

pub each_more : (P : BlockValue → Type 0) (lower : List LowerValue) (i : ℕ) (l : LowerValue) → i < length lower → l ≡ get_or lower i l → P (worth l.value) → EachLower P (take i lower) → EachLower P (take (i + 1) lower)
each_more P lower i l less at here before x j =
    elim (Contains-append_cases (take i lower) (l ∷ []) x (subst (λ ls. Contains ls x) (walked_more lower i l less at) j)) [
      | inl k ↦ before x k
      | inr k ↦
          elim (contains_cases l [] x k) [
            | inl same ↦ subst (λ (y : LowerValue). P (worth y.value)) (sym same) here
            | inr none ↦ absurd (contains_none x none)
          ]
    ]

pub some_more : (P : BlockValue → Type 0) (lower : List LowerValue) (i : ℕ) (l : LowerValue) → i < length lower → l ≡ get_or lower i l → SomeLower P (take i lower) → SomeLower P (take (i + 1) lower)
some_more P lower i l less at (x, j, h) =
    (x, subst (λ ls. Contains ls x) (sym (walked_more lower i l less at)) (Contains-append_left (take i lower) (l ∷ []) x j), h)

pub some_here : (P : BlockValue → Type 0) (lower : List LowerValue) (i : ℕ) (l : LowerValue) → i < length lower → l ≡ get_or lower i l → P (worth l.value) → SomeLower P (take (i + 1) lower)
some_here P lower i l less at h =
    (l, subst (λ ls. Contains ls l) (sym (walked_more lower i l less at)) (Contains-append_right (take i lower) (l ∷ []) l (contains_first l [])), h)

-- ---- what the clauses say of it

to_starved : (v : BlockValue) → allows v ≡ Starved → IsStarved v
to_starved (value.Rule r) e = cc
to_starved (value.Over n) e = cc
to_starved value.Void e = cc
to_starved value.Starved e = refl

from_starved : (v : BlockValue) → IsStarved v → allows v ≡ Starved
from_starved v e = ap allows e

to_void : (v : BlockValue) → allows v ≡ Void → IsOverOrVoid v
to_void (value.Rule r) e = cc
to_void (value.Over n) e = tt
to_void value.Void e = tt
to_void value.Starved e = cc

from_void : (v : BlockValue) → IsOverOrVoid v → allows v ≡ Void
from_void (value.Rule r) h = absurd h
from_void (value.Over n) h = refl
from_void value.Void h = refl
from_void value.Starved h = absurd h

to_rule : (v : BlockValue) → allows v ≡ Rules → IsARule v
to_rule (value.Rule r) e = tt
to_rule (value.Over n) e = cc
to_rule value.Void e = cc
to_rule value.Starved e = cc

from_rule : (v : BlockValue) → IsARule v → allows v ≡ Rules
from_rule (value.Rule r) h = refl
from_rule (value.Over n) h = absurd h
from_rule value.Void h = absurd h
from_rule value.Starved h = absurd h

-- the value says of the lower values, and of the number of candidates, what the clauses of `make` say
pub record IsTold (lower : List LowerValue) (limit n : ℕ) (result : BlockValue) : Type 0 where
  pub starved : SomeLower IsStarved lower → IsStarved result
  pub void : (result ≡ value.Void) ↔ (SomeLower IsOverOrVoid lower × (SomeLower IsStarved lower → ⊥))
  pub over : (count : ℕ) → (result ≡ value.Over count) ↔ (EachLower IsARule lower × (count ≡ n) × (limit < count))

rules_and_void : (lower : List LowerValue) → EachLower (λ v. allows v ≡ Rules) lower → SomeLower (λ v. allows v ≡ Void) lower → ⊥
rules_and_void lower each (l, i, e) = let c : Rules ≡ Void = sym (each l i) ∙ e in cc

rules_and_starved : (lower : List LowerValue) → EachLower (λ v. allows v ≡ Rules) lower → SomeLower (λ v. allows v ≡ Starved) lower → ⊥
rules_and_starved lower each (l, i, e) = let c : Rules ≡ Starved = sym (each l i) ∙ e in cc

each_rule : (lower : List LowerValue) → EachLower IsARule lower → EachLower (λ v. allows v ≡ Rules) lower
each_rule lower each l i = from_rule (worth l.value) (each l i)

some_void : (lower : List LowerValue) → SomeLower IsOverOrVoid lower → SomeLower (λ v. allows v ≡ Void) lower
some_void lower (l, i, h) = (l, i, from_void (worth l.value) h)

some_starved : (lower : List LowerValue) → SomeLower IsStarved lower → SomeLower (λ v. allows v ≡ Starved) lower
some_starved lower (l, i, h) = (l, i, from_starved (worth l.value) h)

pub told_void : (lower : List LowerValue) (limit n : ℕ) → AreAllowed Void lower → IsTold lower limit n value.Void
told_void lower limit n (some, none) = record {
  starved = λ s. absurd (never s);
  void = (λ e. ((some.0, some.1, to_void (worth some.0.value) some.2), never), λ h. refl);
  over = λ count. (λ e. absurd (let c : value.Void ≡ value.Over count = e in cc), λ h. absurd (rules_and_void lower (each_rule lower h.0) some));
}
  where
    never : SomeLower IsStarved lower → ⊥
    never (l, i, h) = none l i (from_starved (worth l.value) h)

pub told_starved : (lower : List LowerValue) (limit n : ℕ) → AreAllowed Starved lower → IsTold lower limit n value.Starved
told_starved lower limit n some = record {
  starved = λ s. refl;
  void = (λ e. absurd (let c : value.Starved ≡ value.Void = e in cc), λ h. absurd (h.1 (some.0, some.1, to_starved (worth some.0.value) some.2)));
  over = λ count. (λ e. absurd (let c : value.Starved ≡ value.Over count = e in cc), λ h. absurd (rules_and_starved lower (each_rule lower h.0) some));
}

pub told_over : (lower : List LowerValue) (limit n count : ℕ) → AreAllowed Rules lower → count ≡ n → limit < count → IsTold lower limit n (value.Over count)
told_over lower limit n count each e less = record {
  starved = λ s. absurd (rules_and_starved lower each (some_starved lower s));
  void = (λ f. absurd (let c : value.Over count ≡ value.Void = f in cc), λ h. absurd (rules_and_void lower each (some_void lower h.0)));
  over = λ k. (λ f. let same : count ≡ k = over_same f in (λ l i. to_rule (worth l.value) (each l i), sym same ∙ e, subst (λ j. limit < j) same less), λ h. ap value.Over (e ∙ sym h.1));
}
  where
    over_same : {k : ℕ} → value.Over count ≡ value.Over k → count ≡ k
    over_same f = cc

pub told_rule : (lower : List LowerValue) (limit n count : ℕ) (r : PlainRule) → AreAllowed Rules lower → count ≡ n → count ≤ limit → IsTold lower limit n (value.Rule r)
told_rule lower limit n count r each e few = record {
  starved = λ s. absurd (rules_and_starved lower each (some_starved lower s));
  void = (λ f. absurd (let c : value.Rule r ≡ value.Void = f in cc), λ h. absurd (rules_and_void lower each (some_void lower h.0)));
  over = λ k. (λ f. absurd (let c : value.Rule r ≡ value.Over k = f in cc), λ h. absurd (omega (arith, e, few, h.1, h.2)));
}

pub told_want : (lower : List LowerValue) (limit n count : ℕ) → AreAllowed Rules lower → count ≡ n → count ≤ limit → IsTold lower limit n value.Starved
told_want lower limit n count each e few = record {
  starved = λ s. refl;
  void = (λ f. absurd (let c : value.Starved ≡ value.Void = f in cc), λ h. absurd (rules_and_void lower each (some_void lower h.0)));
  over = λ k. (λ f. absurd (let c : value.Starved ≡ value.Over k = f in cc), λ h. absurd (omega (arith, e, few, h.1, h.2)));
}
