use Rattle.std.proofs.Common.{◌≡◌, suc, ◌++◌, ◌∷◌, [], map, sum, sym, ◌∙◌, ap, arith}
use Rattle.std.specs.List.{range_with_len}
use Rattle.std.proofs.lemmas.List.FromFn.{map-range_with_len_more}
use Rattle.std.proofs.lemmas.List.Sums.{sum_by_push}
use Rattle.nichols_braid.specs.Kernel.{is_in_kernel}
use Rattle.nichols_braid.specs.End.{dimension}
use Rattle.nichols_graded.proofs.graded.Graded.dimensions.Goals as goal

pub loop-m-init : goal.loop-m-init
loop-m-init c = record { items = c.new-dimensions.ensures.items; total = let e = ap sum c.new-dimensions.ensures.items in omega (arith, e) }

pub loop-m-preserved : goal.loop-m-preserved
loop-m-preserved c = record {
  items = c.in_ok-push.ensures.items ∙ ap (λ ds. ds ++ c.dimension.result ∷ []) c.loop-m.invariant.items
      ∙ ap (λ d. map (dimension is_in_kernel c.args.self.now.braid) (range_with_len 0 c.loop-m.m) ++ d ∷ []) c.dimension.ensures.value
      ∙ sym (map-range_with_len_more (dimension is_in_kernel c.args.self.now.braid) 0 c.loop-m.m c.loop-m.m (omega arith));
  total = let e = ap sum c.in_ok-push.ensures.items ∙ sum_by_push (λ d. d) c.loop-m.dimensions.items c.dimension.result in omega (arith, e, c.dimension.ensures.small, c.loop-m.invariant.total);
}

pub returns-clause-dimensions : goal.returns-clause-dimensions
returns-clause-dimensions c =
    let e = c.last-m-end.ensures.value ∙ ap (λ g. g.last) c.self.view_is in
    let same : c.loop-m.m ≡ suc c.args.self.now.last = omega (arith, e) in
    c.loop-m.invariant.items ∙ ap (λ n. map (dimension is_in_kernel c.args.self.now.braid) (range_with_len 0 n)) same

pub returns-clause-sum : goal.returns-clause-sum
returns-clause-sum c = omega (arith, c.loop-m.invariant.total, c.last-m-end.ensures.limit)
