use Rattle.std.proofs.Common.{◌≡◌, ◌≤◌, suc, length, ◌∙◌, sym, subst}
use Rattle.std.proofs.lemmas.Result.{IfOk-weaker}
use Rattle.nichols_cover.specs.Cover.{CoverValue, cover_of}
use Rattle.nichols_cover.specs.Ideal.{generators}
use Rattle.nichols_top.specs.declared.cover.TheConstants.{CANDIDATE_LIMIT}
use Rattle.nichols_top.proofs.Covers.{degrees_most}
use Rattle.nichols_top.proofs.cover.cover_through.Goals as goal

pub returns-clause-degrees : goal.returns-clause-degrees
returns-clause-degrees c =
    let last : c.last.result ≡ c.args.graded.now.last = c.last.ensures.value ∙ c.levels-levels.ensures.last in
    IfOk-weaker c.cover.result _ _
    (λ r e. subst (λ (v : CoverValue). length v.dimensions ≤ suc c.args.graded.now.last) (sym e)
    (subst (λ n. length (cover_of c.field.result c.letters.result (generators c.field.result c.as_slice.result.now) c.last.result CANDIDATE_LIMIT).dimensions ≤ suc n) last
    (degrees_most c.field.result c.letters.result (generators c.field.result c.as_slice.result.now) c.last.result CANDIDATE_LIMIT))) c.cover.ensures
