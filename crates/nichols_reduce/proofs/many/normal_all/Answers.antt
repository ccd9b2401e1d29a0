use Rattle.std.proofs.Common.{◌≡◌, ◌∙◌, length, slice_index_or, subst, sym, IfOk}
use Rattle.nichols_reduce.specs.Shares.{IsAnswer}
use Rattle.nichols_reduce.proofs.ManyForms.{IsShare, parts_are, share_at}
use Rattle.nichols_reduce.proofs.many.normal_all.Goals as goal

pub map_vec-requires-after_bounds : goal.map_vec-requires-after_bounds
map_vec-requires-after_bounds g c κs within = λ i share less at.
    let known : IsShare c.in_ok-memo.memo (length c.args.combs.now) share = share_at c.in_ok-memo.memo 0 c.in_ok-shares.shares.items (length c.args.combs.now) i share c.in_ok-shares.ensures less at in
    (c.in_ok-memo.ensures.braid ∙ c.braid.ensures, known.seat, known.order, known.within, c.requires.letters, c.requires.elements)

pub joined-requires : goal.joined-requires
joined-requires g c =
    let size : length c.in_ok-parts.parts.items ≡ length c.in_ok-shares.shares.items = sym c.in_ok-parts.parts.ok.0 ∙ c.in_ok-parts.ensures.len ∙ c.in_ok-shares.shares.ok.0 in
    parts_are c.args.levels.now.braid c.args.levels.now.last c.in_ok-memo.memo c.args.combs.now 0 c.in_ok-shares.shares.items c.in_ok-parts.parts.items c.in_ok-shares.ensures size
    (λ i part share less.
    let own = (c.in_ok-parts.ensures.each i part less).1 in
    subst (λ s. IfOk (slice_index_or c.in_ok-parts.parts.items i part) (λ ns. IsAnswer c.args.levels.now.braid c.args.levels.now.last c.args.combs.now s ns.items)) (sym (own.job_is share)) own.call.met)
