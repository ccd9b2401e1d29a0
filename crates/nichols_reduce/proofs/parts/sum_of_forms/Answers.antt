use Rattle.std.proofs.Common.{◌≡◌, ◌≤◌, ◌<◌, ◌++◌, ◌∙◌, ap, sym, subst, length, arith}
use Rattle.std.proofs.lemmas.List.{take_all}
use Rattle.nichols_tensor.specs.Combination.{AllElements, HasSameValues, Term, linear_map, scalar_multiple}
use Rattle.nichols_braid.specs.Braid.{IsBraid}
use Rattle.nichols_memo.specs.Forms.{form_of}
use Rattle.nichols_memo.specs.Seats.{IsOf}
use Rattle.nichols_reduce.proofs.PartForms.{sum_with, sum_without, whole_is}
use Rattle.nichols_reduce.proofs.parts.sum_of_forms.Goals as goal
use Rattle.nichols_reduce.proofs.parts.sum_of_forms.Goals.{then-len-last+in_ok-put_term, else-len-last}

pub loop-term-preserved : goal.loop-term-preserved
loop-term-preserved c =
    let is : IsBraid c.args.levels.now.braid = subst IsBraid c.braid.ensures c.field-field.ensures.braid in
    let field : c.field-field.result ≡ c.args.levels.now.braid.field = c.field-field.ensures.field ∙ ap (λ b. b.field) c.braid.ensures in
    let inside : c.loop-term.term-index < length c.args.terms.now = omega arith in
    let size : length c.term-item.result.word ≡ c.len.result = ap (λ (t : Term). length t.word) (sym c.term.view_is) ∙ sym c.len.ensures.value in
    let gathered : HasSameValues c.args.levels.now.braid.field c.in_ok-sum.sum.items c.if-len-last.sum.items = subst (λ k. HasSameValues k c.in_ok-sum.sum.items c.if-len-last.sum.items) field c.in_ok-sum.ensures.values in
    record {
      seat = elim c.if-len-last.branch [
        | then-len-last+in_ok-put_term w ↦ subst (IsOf c.args.memo.now) (sym w.seat-is) w.in_ok-put_term.ensures.seat
        | else-len-last w ↦ subst (IsOf c.args.memo.now) (sym w.seat-is) c.loop-term.invariant.seat
      ];
      values = elim c.if-len-last.branch [
        | then-len-last+in_ok-put_term w ↦
            sum_with c.args.levels.now.braid.field is.field (form_of c.args.levels.now.braid) c.args.terms.now c.loop-term.term-index c.term-item.result c.loop-term.sum.items c.if-len-last.sum.items c.in_ok-sum.sum.items inside c.term-item.is c.loop-term.invariant.values
            (subst (λ (v : _). HasSameValues c.args.levels.now.braid.field v (c.loop-term.sum.items ++ scalar_multiple c.args.levels.now.braid.field c.term-item.result.coefficient (form_of c.args.levels.now.braid c.term-item.result.word))) (sym (ap (λ v. v.items) w.sum-is)) w.in_ok-put_term.ensures.values) gathered
        | else-len-last w ↦
            let long : c.args.levels.now.last < length c.term-item.result.word = omega (arith, size, w.if-len-last.false, c.last-last.ensures.value) in
            sum_without c.args.levels.now.braid is c.args.levels.now.last c.args.terms.now c.loop-term.term-index c.term-item.result c.loop-term.sum.items c.in_ok-sum.sum.items c.requires.letters c.requires.within inside c.term-item.is long c.loop-term.invariant.values
            (subst (λ (v : _). HasSameValues c.args.levels.now.braid.field c.in_ok-sum.sum.items v) (ap (λ v. v.items) w.sum-is) gathered)
      ];
      elements = subst (λ k. AllElements k c.in_ok-sum.sum.items) field c.in_ok-sum.ensures.elements;
    }

pub returns-clause-form : goal.returns-clause-form
returns-clause-form c =
    let is : IsBraid c.args.levels.now.braid = subst IsBraid c.braid.ensures c.field-field.ensures.braid in
    let field : c.field-field.result ≡ c.args.levels.now.braid.field = c.field-field.ensures.field ∙ ap (λ b. b.field) c.braid.ensures in
    let past : length c.args.terms.now ≤ c.loop-term.term-index = omega arith in
    whole_is c.args.levels.now.braid is c.args.terms.now c.loop-term.sum.items c.in_ok-form.form c.requires.letters c.requires.elements
    (subst (λ f. HasSameValues c.args.levels.now.braid.field c.loop-term.sum.items (linear_map c.args.levels.now.braid.field (form_of c.args.levels.now.braid) f)) (take_all c.loop-term.term-index c.args.terms.now past) c.loop-term.invariant.values)
    (subst (λ k. HasSameValues k c.in_ok-form.form c.loop-term.sum.items) field (subst (HasSameValues c.field-field.result c.in_ok-form.form) c.as_mut_slice.ensures.value c.in_ok-form.ensures.value))
    c.in_ok-form.ensures.shape (subst (λ k. AllElements k c.in_ok-form.form) field c.in_ok-form.ensures.elements)
