use Rattle.std.proofs.Common.{◌≡◌, ℕ, ◌+◌, ◌<◌, ◌≤◌, true, false, ltb, leb, List, sym, ap, subst, ◌∙◌, arith, rules}
use Rattle.std.proofs.lemmas.Bool.{ltb-true, ltb-false, leb-true, leb-false}
use Rattle.std.proofs.lemmas.List.Sorted.{IsPartitionPoint-from_clause, IsPartitionedBy-ltb, IsPartitionedBy-leb}
use Rattle.std.specs.List.Sorted.{IsPartitionPoint, IsNonDecreasingBy}
use mathlib.Core.Logic.{dite}
use native.Mathlib.Decide.{dec_le}
use Rattle.nichols_core.specs.declared.edge.Edge.{Edge}
use Rattle.nichols_core.specs.Layout.{LayoutValue, IsLayout, no_edge, edge_at}
use Rattle.nichols_core.proofs.Entries.{uppers_sorted}
use Rattle.nichols_core.proofs.layout.Layout.entries.Goals as goal

edges_are : (c : goal.After-partition_point-end) → c.self.inside.edges.items ≡ c.args.self.now.edges
edges_are c = ap (λ (l : LayoutValue). l.edges) c.self.view_is

sorted : (c : goal.After-partition_point-end) (es : List Edge) → es ≡ c.args.self.now.edges → IsNonDecreasingBy (λ (e : Edge). e.upper) es
sorted c es same = subst (IsNonDecreasingBy (λ (e : Edge). e.upper)) (sym same) (uppers_sorted c.args.self.now (subst IsLayout c.self.view_is c.self.invariant))

first_point : (c : goal.After-partition_point-end)
    → IsPartitionPoint (λ (e : Edge). ltb e.upper c.args.block ≡ true) (λ (e : Edge). ltb e.upper c.args.block ≡ false) c.args.self.now.edges c.partition_point-first.result
first_point c =
    let same = c.deref.ensures.value ∙ edges_are c in
    subst (λ (es : List Edge). IsPartitionPoint (λ (e : Edge). ltb e.upper c.args.block ≡ true) (λ (e : Edge). ltb e.upper c.args.block ≡ false) es c.partition_point-first.result) same
    (IsPartitionPoint-from_clause (λ (e : Edge). ltb e.upper c.args.block) _ _ c.partition_point-first.ensures.partitioned
    (IsPartitionedBy-ltb (λ (e : Edge). e.upper) _ c.args.block (sorted c c.deref.result.now same)) (λ a r q k. search rules))

end_point : (c : goal.After-partition_point-end)
    → IsPartitionPoint (λ (e : Edge). leb e.upper c.args.block ≡ true) (λ (e : Edge). leb e.upper c.args.block ≡ false) c.args.self.now.edges c.partition_point-end.result
end_point c =
    let same = c.deref-2.ensures.value ∙ edges_are c in
    subst (λ (es : List Edge). IsPartitionPoint (λ (e : Edge). leb e.upper c.args.block ≡ true) (λ (e : Edge). leb e.upper c.args.block ≡ false) es c.partition_point-end.result) same
    (IsPartitionPoint-from_clause (λ (e : Edge). leb e.upper c.args.block) _ _ c.partition_point-end.ensures.partitioned
    (IsPartitionedBy-leb (λ (e : Edge). e.upper) _ c.args.block (sorted c c.deref-2.result.now same)) (λ a r q k. search rules))

pub returns-clause-entries : goal.returns-clause-entries
returns-clause-entries c =
    λ k inside.
    let no_edge : Edge = no_edge in
    let upper : ℕ = (edge_at c.args.self.now.edges k).upper in
    let first : ℕ = c.partition_point-first.result in
    let end : ℕ = c.partition_point-end.result in
    let low : k < first → upper < c.args.block = λ early. ltb-true upper c.args.block ((first_point c).0 k no_edge (omega arith) early) in
    let high : end ≤ k → c.args.block < upper = λ late. leb-false upper c.args.block ((end_point c).1 k no_edge late inside) in (
      λ here. (
        dite (dec_le first k) (λ late. late) (λ early. let less = low (omega arith) in absurd (omega arith)),
        dite (dec_le (k + 1) end) (λ early. omega arith) (λ late. let more = high (omega arith) in absurd (omega arith)),
      ),
      λ between.
          let at_least = ltb-false upper c.args.block ((first_point c).1 k no_edge between.0 inside) in
          let at_most = leb-true upper c.args.block ((end_point c).0 k no_edge (omega arith) between.1) in
          omega arith,
    )
