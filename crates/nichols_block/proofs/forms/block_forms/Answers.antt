use Rattle.std.proofs.Common.{rules, ◌≡◌, ◌∙◌, [], length, ap, subst, sym, drop, arith}
use Rattle.nichols_block.specs.Pass.{IsPassing}
use Rattle.nichols_block.proofs.LowerRules.{images_of_all}
use Rattle.nichols_block.proofs.Passes.{none_left, pass_end, pass_start, words_in}
use Rattle.nichols_block.proofs.forms.block_forms.Goals as goal

pub loop-k-init : goal.loop-k-init
loop-k-init c = record {
  zero = search rules;
  width = search rules;
  passing =
      subst (λ ss. IsPassing c.args.braid.now c.args.key.now.degree c.args.key.now.product c.args.places.now (words_in c.args.listed.now) c.in_ok-empty_rows_by_letter.field-0.items c.in_ok-empty_rows_by_letter-2.field-0.items ss c.new-2.result.items 0) (sym c.new-4.ensures.items)
      (subst (λ cs. IsPassing c.args.braid.now c.args.key.now.degree c.args.key.now.product c.args.places.now (words_in c.args.listed.now) c.in_ok-empty_rows_by_letter.field-0.items c.in_ok-empty_rows_by_letter-2.field-0.items [] cs 0) (sym c.new-2.ensures.items)
      (pass_start c.args.braid.now c.field-field.ensures.braid c.args.key.now.degree c.args.key.now.product c.args.places.now c.args.listed.now c.in_ok-empty_rows_by_letter.field-0.items c.in_ok-empty_rows_by_letter-2.field-0.items c.args.braid.now.letters c.requires.block.some
      (images_of_all c.args.braid.now c.args.key.now c.requires.block) c.requires.listed (search rules) (search rules) (search rules)));
}

pub returns : goal.returns
returns c =
    let all : c.loop-k.k ≡ length c.args.listed.now = omega arith in
    pass_end c.args.braid.now c.args.key.now.degree c.args.key.now.product c.args.places.now c.loop-k.forms.right.items c.loop-k.forms.left.items c.loop-k.forms.spots.items c.loop-k.numbers.columns.items c.loop-k.numbers.least
    (subst
    (λ ws. IsPassing c.args.braid.now c.args.key.now.degree c.args.key.now.product c.args.places.now ws c.loop-k.forms.right.items c.loop-k.forms.left.items c.loop-k.forms.spots.items c.loop-k.numbers.columns.items c.loop-k.numbers.least)
    (ap (λ n. drop n (words_in c.args.listed.now)) all ∙ none_left c.args.listed.now) c.loop-k.invariant.passing)
