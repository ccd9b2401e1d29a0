use Rattle.std.proofs.Common.{◌≡◌, ℕ, ◌+◌, ◌*◌, true, false, ltb, List, sym, ap, subst, ◌∙◌, arith, rules}
use Rattle.std.proofs.lemmas.Bool.{ltb-true, ltb-false}
use Rattle.std.proofs.lemmas.List.Sorted.{IsPartitionPoint-from_clause, IsPartitionedBy-ltb}
use Rattle.std.specs.List.Sorted.{IsPartitionPoint, IsNonDecreasingBy}
use Rattle.nichols_core.specs.declared.edge.Edge.{Edge}
use Rattle.nichols_core.specs.Layout.{LayoutValue, IsLayout, no_edge, edge_at, entry_place}
use Rattle.nichols_core.proofs.Entries.{entries_sorted}
use Rattle.nichols_core.proofs.layout.Layout.entries_before.Goals as goal

slice_is : (c : goal.After-partition_point) → c.deref.result.now ≡ c.args.self.now.edges
slice_is c = c.deref.ensures.value ∙ ap (λ (l : LayoutValue). l.edges) c.self.view_is

sorted : (c : goal.After-partition_point) → IsNonDecreasingBy entry_place c.deref.result.now
sorted c = subst (IsNonDecreasingBy entry_place) (sym (slice_is c)) (entries_sorted c.args.self.now (subst IsLayout c.self.view_is c.self.invariant))

point : (c : goal.After-partition_point)
    → IsPartitionPoint (λ e. ltb (entry_place e) (c.args.block * 256 + c.args.letter) ≡ true) (λ e. ltb (entry_place e) (c.args.block * 256 + c.args.letter) ≡ false) c.args.self.now.edges c.partition_point.result
point c =
    let place : ℕ = c.args.block * 256 + c.args.letter in
    subst (λ (es : List Edge). IsPartitionPoint (λ e. ltb (entry_place e) place ≡ true) (λ e. ltb (entry_place e) place ≡ false) es c.partition_point.result) (slice_is c)
    (IsPartitionPoint-from_clause (λ e. ltb (entry_place e) place) _ _ c.partition_point.ensures.partitioned (IsPartitionedBy-ltb entry_place _ place (sorted c)) (λ a r q k. search rules))

pub returns-clause-before : goal.returns-clause-before
returns-clause-before c =
    λ k early. ltb-true (entry_place (edge_at c.args.self.now.edges k)) (c.args.block * 256 + c.args.letter)
    ((point c).0 k no_edge (omega arith) early)

pub returns-clause-rest : goal.returns-clause-rest
returns-clause-rest c =
    λ k late inside. ltb-false (entry_place (edge_at c.args.self.now.edges k)) (c.args.block * 256 + c.args.letter)
    ((point c).1 k no_edge late inside)
