use Rattle.std.proofs.Common.{◌≡◌, ℕ, List, length, false, true, refl, ◌∙◌, sym, ap, arith, inl, inr}
use Rattle.std.proofs.lemmas.Bool.{cases_lt}
use Rattle.nichols_tensor.specs.Positions.{word_at}
use Rattle.nichols_braid.specs.Kernel.{is_killed}
use Rattle.nichols_braid.specs.Least.{basis}
use Rattle.nichols_braid.specs.Products.{products}
use Rattle.nichols_value.specs.Block.{block_basis}
use Rattle.nichols_value.proofs.RuleEntries.{basis_is}
use Rattle.nichols_block.proofs.LevelRules.{empty_block, empty_blocks, empty_list, filled_list}
use Rattle.nichols_block.proofs.levels.Levels.closed.Goals as goal

pub returns-then-not-is_empty : goal.returns-then-not-is_empty
returns-then-not-is_empty c = (
  λ h. absurd (let t : false ≡ true = h in cc),
  λ none.
      let g : List ℕ = word_at (products c.args.self.now.braid c.last-last.result) c.loop-k.k in
      filled_list c.basis.result.now c.is_empty.result c.is_empty.ensures c.if-not-is_empty.true
      (c.basis.ensures.same ∙ basis_is c.args.self.now.braid c.last-last.result g c.rule.result.now c.rule.ensures.rule ∙ empty_block c.args.self.now.braid c.last-last.result g (ap (basis is_killed c.args.self.now.braid) c.last-last.ensures.value ∙ none)),
)

pub loop-k-preserved : goal.loop-k-preserved
loop-k-preserved c i less = elim (cases_lt i c.loop-k.k) [
  | inl below ↦ c.loop-k.invariant i below
  | inr last ↦
      let here : i ≡ c.loop-k.k = omega arith in
      let g : List ℕ = word_at (products c.args.self.now.braid c.last-last.result) c.loop-k.k in
      ap (λ j. block_basis c.args.self.now.braid c.args.self.now.last (word_at (products c.args.self.now.braid c.args.self.now.last) j)) here
      ∙ ap (λ l. block_basis c.args.self.now.braid l (word_at (products c.args.self.now.braid l) c.loop-k.k)) (sym c.last-last.ensures.value)
      ∙ sym (basis_is c.args.self.now.braid c.last-last.result g c.rule.result.now c.rule.ensures.rule) ∙ sym c.basis.ensures.same
      ∙ empty_list c.basis.result.now c.is_empty.result c.is_empty.ensures c.if-not-is_empty.false
]

pub returns : goal.returns
returns c = (
  λ h. empty_blocks c.args.self.now.braid c.args.self.now.last (λ k less.
      let count : length c.products.result.now ≡ length (products c.args.self.now.braid c.args.self.now.last) = ap length c.products.ensures ∙ ap (λ l. length (products c.args.self.now.braid l)) c.last-last.ensures.value in
      c.loop-k.invariant k (omega (arith, count, less, c.loop-k-test.false, c.len-k-end.ensures.value))),
  λ none. refl,
)
