use Rattle.std.proofs.Common.{◌*◌, ◌/◌, ◌%◌, ◌^◌, ◌∙◌, ◌<◌, ℕ, List, subst, sym, set, bit_or, length}
use Rattle.std.proofs.lemmas.List.{get_or_default}
use Rattle.nichols_echelon.specs.Sums.{IsMarked}
use Rattle.nichols_echelon.proofs.Summing.{marked-set, word_inside}
use Rattle.nichols_echelon.proofs.sums.Sums.put.Goals as goal

pub invariant_of-self : goal.invariant_of-self
invariant_of-self c =
    let below : c.args.place < length c.self.inside.values.items = subst (λ (values : List ℕ). c.args.place < length values) (sym c.self.view_is) c.requires.below in
    subst (λ (w : ℕ). IsMarked (set c.self.inside.values.items c.args.place c.add_to.result) (set c.self.inside.marks.items (c.args.place / 64) (bit_or w (1 * 2 ^ (c.args.place % 64) % 18446744073709551616))))
    (sym (c.index_mut-2.ensures.value ∙ get_or_default c.self.inside.marks.items (c.args.place / 64) c.index_mut-2.result.now 0
    (word_inside c.args.place (length c.self.inside.values.items) (length c.self.inside.marks.items) below c.self.invariant.wide)))
    (marked-set c.self.inside.values.items c.self.inside.marks.items c.args.place c.add_to.result below c.self.invariant)
