use Rattle.std.proofs.Common.{subst, sym, refl, true≢false, arith}
use Rattle.std.specs.List.{All}
use Rattle.std.proofs.lemmas.List.Sorted.{IsPermutation-trans}
use Rattle.nichols_core.specs.Layout.{IsPlaced, IsLayout, IsRisingBy, exit_place, entry_place}
use Rattle.nichols_core.proofs.EdgesLaid.{RiseBothWays, moved, exits_rise, entries_rise, could_lay_out, is_layout}
use Rattle.nichols_core.proofs.layout.Layout.new.Goals as goal

pub returns-then-not-leave_apart-clause-some : goal.returns-then-not-leave_apart-clause-some
returns-then-not-leave_apart-clause-some c =
    let ds = c.args.degrees.items in
    let fs = c.sort_by_exit.new.edges.items in
    let sorted = c.sort_by_exit.ensures.sorted in (
      λ e. absurd (true≢false (sym e)),
      λ good. c.if-not-leave_apart.ensures.1 (subst (IsRisingBy exit_place) (sym c.deref-3.ensures.value) (exits_rise ds fs (moved ds c.args.edges.items fs c.sort_by_exit.ensures.permutation good) sorted)),
    )

pub returns-then-not-enter_apart-clause-some : goal.returns-then-not-enter_apart-clause-some
returns-then-not-enter_apart-clause-some c =
    let ds = c.args.degrees.items in
    let fs = c.sort_by_exit.new.edges.items in
    let gs = c.sort_by_entry.new.edges.items in
    let sorted = c.sort_by_entry.ensures.sorted in (
      λ e. absurd (true≢false (sym e)),
      λ good. c.if-not-enter_apart.ensures.1 (subst (IsRisingBy entry_place) (sym c.deref-4.ensures.value)
          (entries_rise ds gs (moved ds fs gs c.sort_by_entry.ensures.permutation (moved ds c.args.edges.items fs c.sort_by_exit.ensures.permutation good)) sorted)),
    )

-- what the steps say of the edges as they were given, sorted by exits and sorted by entries
both_ways : (c : goal.Else-not-enter_apart) → RiseBothWays c.args.degrees.items c.args.edges.items c.sort_by_exit.new.edges.items c.sort_by_entry.new.edges.items
both_ways c = record {
  few = omega (arith, c.requires);
  placed = subst (λ ds. All (IsPlaced ds) c.args.edges.items) c.deref.ensures.value (subst (All (IsPlaced c.deref.result.now)) c.deref-2.ensures.value (c.if-not-are_placed.ensures.0 refl));
  out = c.sort_by_exit.ensures.permutation;
  exits = subst (IsRisingBy exit_place) c.deref-3.ensures.value (c.if-not-leave_apart.ensures.0 refl);
  into = c.sort_by_entry.ensures.permutation;
  entries = subst (IsRisingBy entry_place) c.deref-4.ensures.value (c.if-not-enter_apart.ensures.0 refl);
}

layout_of : (c : goal.Else-not-enter_apart) → IsLayout (record { degrees = c.args.degrees.items; edges = c.sort_by_entry.new.edges.items })
layout_of c = is_layout c.args.degrees.items c.args.edges.items c.sort_by_exit.new.edges.items c.sort_by_entry.new.edges.items (both_ways c)

pub invariant_of-result : goal.invariant_of-result
invariant_of-result = layout_of

pub returns-clause-some : goal.returns-clause-some
returns-clause-some c = (
  λ _. could_lay_out c.args.degrees.items c.args.edges.items c.sort_by_exit.new.edges.items c.sort_by_entry.new.edges.items (both_ways c),
  λ _. refl,
)

pub returns-clause-layout : goal.returns-clause-layout
returns-clause-layout c =
    let both = both_ways c in (
      refl,
      IsPermutation-trans c.args.edges.items c.sort_by_exit.new.edges.items c.sort_by_entry.new.edges.items both.out both.into,
      layout_of c,
    )
