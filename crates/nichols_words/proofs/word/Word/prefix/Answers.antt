use Rattle.std.proofs.Common.{◌≤◌, length, subst, sym, arith, rules}
use Rattle.std.proofs.lemmas.Grind.{common_steps}
use Rattle.nichols_tensor.specs.Inline.{length_kept}
use Rattle.nichols_words.proofs.Push.{inline-prefix}
use Rattle.nichols_words.proofs.word.Word.prefix.Goals as goal

pub invariant_of-result : goal.invariant_of-result
invariant_of-result c =
    let few : c.args.k ≤ c.self.inside.len = subst (λ n. c.args.k ≤ n) (length_kept _ _ c.self.inside.len c.self.inside.letters c.self.invariant) (subst (λ w. c.args.k ≤ length w) (sym c.self.view_is) c.requires) in
    inline-prefix c.self.inside.len c.args.k _ c.self.inside.letters c.fill.new.self c.self.invariant few (grind (arith, common_steps, c.self.told)) (c.fill.ensures.after (search rules))
