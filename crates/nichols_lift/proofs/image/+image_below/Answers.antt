use Rattle.std.proofs.Common.{◌≡◌, ◌+◌, ◌-◌, ◌∙◌, ◌++◌, ◌∷◌, [], ℕ, List, suc, sym, refl, ap, ap₂, subst, arith, rules}
use Rattle.nichols_tensor.specs.Combination.{Combination, AllElements, value_at}
use Rattle.nichols_lift.specs.Lengths.{AllAtMost}
use Rattle.nichols_lift.proofs.Parts.{constant, derived_short, short_as_image, over_as_image, degree_as_image}
use Rattle.nichols_lift.proofs.Recursion.{IsSummed, image_of_constants, summed_start, summed-part, summed-skip, summed_all, with_room}
use Rattle.nichols_lift.proofs.image.+image_below.Goals.{then-not-is_zero+in_ok-part+in_ok-put_behind, else-not-is_zero}
use Rattle.nichols_lift.proofs.image.+image_below.Goals as goal

pub returns-then-limit-eq0-clause-value : goal.returns-then-limit-eq0-clause-value
returns-then-limit-eq0-clause-value t c =
    image_of_constants c.args.braid.now c.field-field.ensures.braid.field c.args.comb.now c.in_ok-image.image c.args.limit c.if-limit-eq0.true c.requires.lengths c.in_ok-image.ensures

pub image_below-requires : goal.image_below-requires
image_below-requires t c =
    let more : c.args.limit ≡ suc (c.args.limit - 1) = omega (arith, c.if-limit-eq0.false) in (
      omega arith,
      (
        omega arith,
        (
          derived_short c.args.braid.now (c.loop-i.i + 1) (c.args.limit - 1) c.args.comb.now c.in_ok-derivative.derivative c.field-field.ensures.braid.field c.in_ok-derivative.ensures.elements c.in_ok-derivative.ensures.shape c.in_ok-derivative.ensures.value
              (subst (λ n. AllAtMost n c.args.comb.now) more c.requires.lengths),
          (c.in_ok-derivative.ensures.letters, c.in_ok-derivative.ensures.elements),
        ),
      ),
    )

pub put_behind-requires-clause-room : goal.put_behind-requires-clause-room
put_behind-requires-clause-room t c = with_room c.in_ok-part.part c.args.limit c.requires.limit c.in_ok-part.ensures.lengths

pub sum_of-requires : goal.sum_of-requires
sum_of-requires t c = rw (c.field-field.ensures.field, c.as_mut_slice.ensures.value) c.loop-i.invariant.elements

pub loop-i-init : goal.loop-i-init
loop-i-init t c =
    let shape : c.push.new.self.items ≡ constant c.coefficient.result =
    c.in_ok-push.ensures.items ∙ ap₂ (λ (f : Combination) (w : List ℕ). f ++ record { word = w; coefficient = c.coefficient.result } ∷ []) c.new-terms.ensures.items c.empty.ensures in
    let value : value_at c.args.braid.now.field c.args.comb.now [] ≡ c.coefficient.result =
    ap (value_at c.args.braid.now.field c.args.comb.now) (sym c.empty-2.ensures) ∙ c.coefficient.ensures.value c.args.braid.now.field c.field-field.ensures.braid.field c.requires.elements in
    subst (IsSummed c.args.braid.now c.args.comb.now 0) (sym shape) (summed_start c.args.braid.now c.field-field.ensures.braid.field c.args.comb.now c.coefficient.result value)

pub loop-i-preserved : goal.loop-i-preserved
loop-i-preserved t c =
    elim c.if-not-is_zero.branch [
      | then-not-is_zero+in_ok-part+in_ok-put_behind w ↦
          rw w.terms-is
          (summed-part c.args.braid.now c.field-field.ensures.braid.field c.args.comb.now c.loop-i.i (c.loop-i.i + 1) (c.loop-i.i + 1) c.loop-i.terms.items c.in_ok-derivative.derivative w.in_ok-part.part w.put_behind.new.terms.items c.loop-i.invariant refl refl
          c.in_ok-derivative.ensures.value w.in_ok-part.ensures.value w.in_ok-part.ensures.elements w.in_ok-put_behind.ensures)
      | else-not-is_zero w ↦
          let none : c.in_ok-derivative.derivative ≡ [] = search (rules, w.if-not-is_zero.false) in
          rw w.terms-is
          (summed-skip c.args.braid.now c.field-field.ensures.braid.field c.args.comb.now c.loop-i.i (c.loop-i.i + 1) (c.loop-i.i + 1) c.loop-i.terms.items c.in_ok-derivative.derivative c.loop-i.invariant refl refl c.in_ok-derivative.ensures.value none)
    ]

pub returns-clause-value : goal.returns-clause-value
returns-clause-value t c =
    let all : c.loop-i.i ≡ c.args.braid.now.letters = omega (arith, c.letters-i-end.ensures, c.loop-i-test.false, c.loop-i.auto.i-end) in
    summed_all c.args.braid.now c.field-field.ensures.braid c.args.comb.now c.requires.letters c.loop-i.i c.loop-i.terms.items c.in_ok-image-2.image all c.loop-i.invariant
    (λ v. ap (λ k. value_at k c.in_ok-image-2.image v) (sym c.field-field.ensures.field) ∙ c.in_ok-image-2.ensures.value v ∙ ap₂ (λ k g. value_at k g v) c.field-field.ensures.field c.as_mut_slice.ensures.value)

pub returns-clause-lengths : goal.returns-clause-lengths
returns-clause-lengths t c =
    short_as_image c.args.braid.now c.field-field.ensures.braid c.args.comb.now c.in_ok-image-2.image (subst (λ k. AllElements k c.in_ok-image-2.image) c.field-field.ensures.field c.in_ok-image-2.ensures.elements)
    c.in_ok-image-2.ensures.shape (returns-clause-value t c) c.args.limit c.requires.lengths

pub returns-clause-letters : goal.returns-clause-letters
returns-clause-letters t c =
    over_as_image c.args.braid.now c.field-field.ensures.braid c.args.comb.now c.in_ok-image-2.image (subst (λ k. AllElements k c.in_ok-image-2.image) c.field-field.ensures.field c.in_ok-image-2.ensures.elements)
    c.in_ok-image-2.ensures.shape (returns-clause-value t c) c.requires.letters

pub returns-clause-degree : goal.returns-clause-degree
returns-clause-degree t c =
    degree_as_image c.args.braid.now c.field-field.ensures.braid c.args.comb.now c.in_ok-image-2.image (subst (λ k. AllElements k c.in_ok-image-2.image) c.field-field.ensures.field c.in_ok-image-2.ensures.elements)
    c.in_ok-image-2.ensures.shape (returns-clause-value t c)
