use Rattle.std.proofs.Common.{List, [], suc, ◌+◌, ◌-◌, ◌<◌, ◌≡◌, ◌∙◌, ◌∷◌, ap, arith, length, length-append, length-set, refl, subst, sym}
use Rattle.std.specs.Vec.{with_items}
use Rattle.std.proofs.lemmas.List.{with_items_is}
use Rattle.nichols_braid.specs.Products.{products}
use Rattle.nichols_block.specs.Levels.{AreKept}
use Rattle.nichols_block.specs.declared.levels.Degree.{Degree}
use Rattle.nichols_block.proofs.LevelRules.{levels_let_go, levels_pushed}
use Rattle.nichols_block.proofs.levels.Levels.push.Goals as goal

pub invariant_of-self-2 : goal.invariant_of-self-2
invariant_of-self-2 c =
    let braid = c.self.inside.braid in
    let ds : List Degree = c.push.new.self.items in
    let before = c.len-before.result - 1 in
    let longer : length ds ≡ length c.self.inside.degrees.items + 1 = ap length c.in_ok-push.ensures.items ∙ length-append c.self.inside.degrees.items (_ ∷ []) in
    let inside : suc before < length ds = omega (arith, longer, c.len-before.ensures, c.self.invariant.0.count) in
    let less : before < length ds - 1 = omega (arith, inside) in
    let old : Degree = c.index_mut.result.now in
    let new : Degree = record { products = old.products; values = with_items old.values c.let_go_all.new.values } in
    let written : new.values.items ≡ c.let_go_all.new.values = with_items_is old.values c.let_go_all.new.values (omega arith) in
    let pushed = levels_pushed c.args.self.now braid c.self.inside.spare c.self.inside.degrees.items ds _ c.self.view_is c.self.invariant.0 c.requires.room c.requires.products c.requires.rules c.in_ok-push.ensures.items in
    let Kept = AreKept braid (length ds - 1) before (products braid before) in (
      levels_let_go braid ds before old new pushed inside c.index_mut.ensures.value refl
          (λ h. subst Kept (sym written) (c.let_go_all.ensures braid (length ds - 1) before (products braid before) less (subst Kept (sym c.deref_mut.ensures.value) h))),
      (let size = length-set ds before new in
          omega (arith, size, c.self.invariant.1, c.saturating_sub-self-inside.ensures, c.in_ok-push.ensures.capacity, longer, c.push.new.self.ok)),
    )
