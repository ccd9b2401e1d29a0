use Rattle.std.proofs.Common.{◌≤◌, ◌+◌, ◌*◌, arith, length, subst, sym}
use Rattle.std.specs.Prelude.{slice_index}
use Rattle.nichols_tensor.specs.Words.{IsLetterOf}
use Rattle.nichols_tensor.proofs.Over.{letter_over}
use Rattle.nichols_echelon.specs.Cells.{AllBelow}
use Rattle.nichols_echelon.proofs.Shapes.{row_of_all}
use Rattle.nichols_cover.proofs.ProductSums.{followed_fits, number_fits}
use Rattle.nichols_cover.proofs.products.add_word.Goals as goal

pub overflow_mul-row : goal.overflow_mul-row
overflow_mul-row c =
    let most : c.args.number * c.args.letters + c.args.letters ≤ c.args.level.now.below * c.args.letters = number_fits c.args.number c.args.level.now.below c.args.letters c.args.letters c.requires.number (omega arith) in
    rw c.from.ensures (omega (arith, most, c.requires.table.rows, c.requires.table.few))

pub overflow_add-row : goal.overflow_add-row
overflow_add-row c =
    let letter : IsLetterOf c.args.letters (slice_index c.args.word.now 0) = letter_over c.args.letters c.args.word.now 0 c.requires.over (omega (arith, c.requires.size)) in
    let most : c.args.number * c.args.letters + slice_index c.args.word.now 0 ≤ c.args.level.now.below * c.args.letters =
    number_fits c.args.number c.args.level.now.below c.args.letters (slice_index c.args.word.now 0) c.requires.number letter.1 in
    rw (c.from.ensures, c.from-2.ensures, c.letter.ensures.value) (omega (arith, most, c.requires.table.rows, c.requires.table.few))

pub add_followed-requires-clause-below : goal.add_followed-requires-clause-below
add_followed-requires-clause-below c =
    let letter : IsLetterOf c.args.letters (slice_index c.args.word.now 1) = letter_over c.args.letters c.args.word.now 1 c.requires.over (omega (arith, c.requires.size)) in
    followed_fits c.args.letters c.letter-2.result c.args.level.now.count (length c.args.sums.now) c.row.result.now (subst (IsLetterOf c.args.letters) (sym c.letter-2.ensures.value) letter) c.requires.width
    (subst (AllBelow c.args.level.now.count) (sym c.row.ensures) (row_of_all (AllBelow c.args.level.now.count) c.args.level.now.forms.rows tt c.requires.table.below _))
