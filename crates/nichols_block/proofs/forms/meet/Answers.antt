use Rattle.std.proofs.Common.{rules, ◌≡◌, ◌<◌, ◌≤◌, ◌-◌, ◌+◌, ◌++◌, ◌∷◌, [], ◌∙◌, None, true, false, List, MatchOption, slice_index_or, drop, length, ap, subst, sym, arith}
use Rattle.std.specs.Prelude.{is_some, slice_index}
use Rattle.std.proofs.lemmas.List.{get_or_default}
use Rattle.nichols_tensor.specs.Combination.{single}
use Rattle.nichols_braid.specs.Braid.{IsLetter}
use Rattle.nichols_braid.specs.Kernel.{is_killed}
use Rattle.nichols_braid.specs.Least.{normal_form}
use Rattle.nichols_braid.specs.Product.{product_before}
use Rattle.nichols_echelon.specs.Cells.{AllBelow, AllElements}
use Rattle.nichols_echelon.specs.Combination.{AllRowsBelow, AllRowsElements, AreRows}
use Rattle.nichols_echelon.specs.Rows.{RowsValue}
use Rattle.nichols_echelon.specs.Split.{place_at}
use Rattle.nichols_echelon.specs.declared.rows.Place.TheVariants.{Independent}
use Rattle.nichols_value.specs.Block.{block_basis, left_lower_basis, lower_basis}
use Rattle.nichols_value.specs.Kept.{AreCellsOf}
use Rattle.nichols_value.specs.Rule.{rule_of}
use Rattle.nichols_block.specs.Pass.{IsSumPushedAt}
use Rattle.nichols_block.specs.Rows.{rows_by}
use Rattle.nichols_block.specs.Words.{IsBackPlace, IsFrontPlace, but_last}
use Rattle.nichols_block.proofs.PassSteps.{IsReadAt}
use Rattle.nichols_block.proofs.Passes.{IsAt, at_word, entry_known, left_ready, left_word_passes, mark_left, mark_right, new_row_met, new_word_passes, place_met, ready_below, right_ready, right_word_passes, some_mark, word_size, words_in}
use Rattle.nichols_block.proofs.EndForms.{long_back, long_front}
use Rattle.nichols_block.proofs.forms.meet.Goals.{After-letter-b, After-form_without_first-cells, After-form_without_last-cells}
use Rattle.nichols_block.proofs.forms.meet.Goals as goal

-- the word that is met, and the pass at it
met_here : (c : After-letter-b) →
    IsAt c.args.braid.now c.args.key.now.degree c.args.key.now.product c.args.places.now c.index-listed-k.result.word (drop (c.args.k + 1) (words_in c.args.listed.now)) c.letter-a.result c.letter-b.result c.args.forms.now.right.items c.args.forms.now.left.items
    c.args.forms.now.spots.items c.args.numbers.now.columns.items c.args.numbers.now.least
met_here c =
    let last : c.letter-b.result ≡ slice_index c.index-listed-k.result.word (length c.index-listed-k.result.word - 1) = c.letter-b.ensures.value ∙ ap (λ n. slice_index c.index-listed-k.result.word (n - 1)) c.len.ensures.value in
    at_word _ _ _ _ _ c.args.k c.index-listed-k.result c.letter-a.result c.letter-b.result _ _ _ _ _ c.requires.block.some c.requires.listed c.requires.inside c.index-listed-k.is c.letter-a.ensures.value last c.requires.passing

-- the rows that its form is read from, where it isn't least without its first letter
left_read : (c : After-form_without_first-cells) → IsReadAt c.args.braid.now c.args.key.now.degree c.args.key.now.product c.index-listed-k.result.word (rows_by c.args.forms.now.left.items c.letter-a.result) c.form_without_first-cells.result.now
left_read c =
    let last : c.letter-b.result ≡ slice_index c.index-listed-k.result.word (length c.index-listed-k.result.word - 1) = c.letter-b.ensures.value ∙ ap (λ n. slice_index c.index-listed-k.result.word (n - 1)) c.len.ensures.value in
    let here = at_word _ _ _ _ _ c.args.k c.index-listed-k.result c.letter-a.result c.letter-b.result _ _ _ _ _ c.requires.block.some c.requires.listed c.requires.inside c.index-listed-k.is c.letter-a.ensures.value last c.requires.passing in
    left_ready _ c.field-field.ensures.braid _ _ _ _ _ _ _ _ _ _ _ _ c.form_without_first-cells.result.now here.met (mark_left _ _ _ _ c.args.k c.index-listed-k.result c.requires.listed c.requires.inside c.index-listed-k.is ∙ sym c.is_some.ensures ∙ c.if-is_some.false) here.passing
    (subst (λ x. AreCellsOf (left_lower_basis c.args.braid.now c.args.key.now.degree c.args.key.now.product x) (normal_form is_killed c.args.braid.now (c.args.key.now.degree - 1) (single (drop 1 c.index-listed-k.result.word))) c.form_without_first-cells.result.now) (sym c.letter-a.ensures.value) c.form_without_first-cells.ensures)

-- and where it isn't without its last letter
right_read : (c : After-form_without_last-cells) → IsReadAt c.args.braid.now c.args.key.now.degree c.args.key.now.product c.index-listed-k.result.word (rows_by c.args.forms.now.right.items c.letter-b.result) c.form_without_last-cells.result.now
right_read c =
    let last : c.letter-b.result ≡ slice_index c.index-listed-k.result.word (length c.index-listed-k.result.word - 1) = c.letter-b.ensures.value ∙ ap (λ n. slice_index c.index-listed-k.result.word (n - 1)) c.len.ensures.value in
    let here = at_word _ _ _ _ _ c.args.k c.index-listed-k.result c.letter-a.result c.letter-b.result _ _ _ _ _ c.requires.block.some c.requires.listed c.requires.inside c.index-listed-k.is c.letter-a.ensures.value last c.requires.passing in
    right_ready _ c.field-field.ensures.braid _ _ _ _ _ _ _ _ _ _ _ _ c.form_without_last-cells.result.now here.met (mark_right _ _ _ _ c.args.k c.index-listed-k.result c.requires.listed c.requires.inside c.index-listed-k.is ∙ ap is_some c.in_default.is) here.passing
    (subst (λ x. AreCellsOf (lower_basis c.args.braid.now c.args.key.now.degree c.args.key.now.product x) (normal_form is_killed c.args.braid.now (c.args.key.now.degree - 1) (single (but_last c.index-listed-k.result.word))) c.form_without_last-cells.result.now) (sym last) c.form_without_last-cells.ensures)

pub letter-a-requires : goal.letter-a-requires
letter-a-requires c =
    let size : length c.index-listed-k.result.word ≡ c.args.key.now.degree = word_size _ _ _ _ c.args.k c.index-listed-k.result c.requires.listed c.requires.inside c.index-listed-k.is in omega (arith, size, c.requires.block.some)

pub bounds-places-len : goal.bounds-places-len
bounds-places-len c =
    let here = met_here (goal.at.bounds-places-len c).After-letter-b in
    subst (λ n. n < length c.args.places.now) (sym (search rules)) (place_met _ _ _ _ _ _ _ _ _ _ _ c.requires.places (mark_right _ _ _ _ c.args.k c.index-listed-k.result c.requires.listed c.requires.inside c.index-listed-k.is ∙ ap is_some c.in-Some.is) (mark_left _ _ _ _ c.args.k c.index-listed-k.result c.requires.listed c.requires.inside c.index-listed-k.is ∙ sym c.is_some.ensures ∙ c.if-is_some.true) here.passing)

pub push_new-requires-clause-inside : goal.push_new-requires-clause-inside
push_new-requires-clause-inside c =
    let here = met_here (goal.at.push_new-requires-clause-inside c).After-letter-b in
    let count : c.len-then-is_some.result ≡ length c.args.numbers.now.columns.items = search rules in
    let there = place_met _ _ _ _ _ _ _ _ _ _ _ c.requires.places (mark_right _ _ _ _ c.args.k c.index-listed-k.result c.requires.listed c.requires.inside c.index-listed-k.is ∙ ap is_some c.in-Some.is) (mark_left _ _ _ _ c.args.k c.index-listed-k.result c.requires.listed c.requires.inside c.index-listed-k.is ∙ sym c.is_some.ensures ∙ c.if-is_some.true) here.passing in
    (new_row_met _ c.field-field.ensures.braid _ _ _ _ _ _ _ _ _ _ c.index-places-len.result c.requires.places (mark_right _ _ _ _ c.args.k c.index-listed-k.result c.requires.listed c.requires.inside c.index-listed-k.is ∙ ap is_some c.in-Some.is) (mark_left _ _ _ _ c.args.k c.index-listed-k.result c.requires.listed c.requires.inside c.index-listed-k.is ∙ sym c.is_some.ensures ∙ c.if-is_some.true) (c.index-places-len.is ∙ get_or_default c.args.places.now c.len-then-is_some.result c.index-places-len.result Independent (subst (λ n. n < length c.args.places.now) (sym count) there) ∙ ap (place_at c.args.places.now) count) here.passing).inside

pub push_new-requires-clause-first_most : goal.push_new-requires-clause-first_most
push_new-requires-clause-first_most c =
    let here = met_here (goal.at.push_new-requires-clause-first_most c).After-letter-b in
    here.first_most

pub push_new-requires-clause-last_most : goal.push_new-requires-clause-last_most
push_new-requires-clause-last_most c =
    let here = met_here (goal.at.push_new-requires-clause-last_most c).After-letter-b in
    here.last_most

pub sent_at-c-requires-clause-letter : goal.sent_at-c-requires-clause-letter
sent_at-c-requires-clause-letter c =
    let here = met_here (goal.at.sent_at-c-requires-clause-letter c).After-letter-b in
    here.met.first

pub form_without_first-cells-requires-clause-word : goal.form_without_first-cells-requires-clause-word
form_without_first-cells-requires-clause-word c =
    let here = met_here (goal.at.form_without_first-cells-requires-clause-word c).After-letter-b in
    here.met.own

pub push_spot-requires-clause-most : goal.push_spot-requires-clause-most
push_spot-requires-clause-most c =
    let here = met_here (goal.at.push_spot-requires-clause-most c).After-letter-b in
    subst (λ (xs : List RowsValue). c.letter-b.result ≤ length xs) (sym c.as_slice.ensures.value) here.last_most

pub push_sum_at-requires-clause-letters : goal.push_sum_at-requires-clause-letters
push_sum_at-requires-clause-letters c =
    let here = met_here (goal.at.push_sum_at-requires-clause-letters c).After-letter-b in
    subst (λ (xs : List RowsValue). c.letter-a.result ≤ length xs) (sym c.as_slice-else-is_some.ensures.value) here.first_most

pub push_sum_at-requires-clause-behinds : goal.push_sum_at-requires-clause-behinds
push_sum_at-requires-clause-behinds c =
    let here = met_here (goal.at.push_sum_at-requires-clause-behinds c).After-letter-b in
    here.last_most

pub push_sum_at-requires-clause-factors : goal.push_sum_at-requires-clause-factors
push_sum_at-requires-clause-factors c =
    let here = met_here (goal.at.push_sum_at-requires-clause-factors c).After-letter-b in
    let read = left_read (goal.at.push_sum_at-requires-clause-factors c).After-form_without_first-cells in
    subst (λ f. AllElements f c.form_without_first-cells.result.now) (sym c.field-field.ensures.field) read.ready.factors

pub push_sum_at-requires-clause-places : goal.push_sum_at-requires-clause-places
push_sum_at-requires-clause-places c =
    let here = met_here (goal.at.push_sum_at-requires-clause-places c).After-letter-b in
    let read = left_read (goal.at.push_sum_at-requires-clause-places c).After-form_without_first-cells in
    subst (λ (xs : List RowsValue). AllBelow (length (rows_by xs c.letter-a.result).rows) c.form_without_first-cells.result.now) (sym c.as_slice-else-is_some.ensures.value) read.ready.places

pub push_sum_at-requires-clause-nonzero : goal.push_sum_at-requires-clause-nonzero
push_sum_at-requires-clause-nonzero c = (left_read (goal.at.push_sum_at-requires-clause-nonzero c).After-form_without_first-cells).ready.nonzero

pub push_sum_at-requires-clause-rows : goal.push_sum_at-requires-clause-rows
push_sum_at-requires-clause-rows c =
    let read = left_read (goal.at.push_sum_at-requires-clause-rows c).After-form_without_first-cells in
    subst (λ (xs : List RowsValue). AreRows (rows_by xs c.letter-a.result).rows) (sym c.as_slice-else-is_some.ensures.value) read.ready.shape

pub push_sum_at-requires-clause-elements : goal.push_sum_at-requires-clause-elements
push_sum_at-requires-clause-elements c =
    let here = met_here (goal.at.push_sum_at-requires-clause-elements c).After-letter-b in
    let read = left_read (goal.at.push_sum_at-requires-clause-elements c).After-form_without_first-cells in
    subst (λ (xs : List RowsValue). AllRowsElements c.field-field.result (rows_by xs c.letter-a.result).rows) (sym c.as_slice-else-is_some.ensures.value)
    (subst (λ f. AllRowsElements f (rows_by c.args.forms.now.left.items c.letter-a.result).rows) (sym c.field-field.ensures.field) read.ready.elements)

pub push_sum_at-requires-clause-below : goal.push_sum_at-requires-clause-below
push_sum_at-requires-clause-below c =
    let here = met_here (goal.at.push_sum_at-requires-clause-below c).After-letter-b in
    let read = left_read (goal.at.push_sum_at-requires-clause-below c).After-form_without_first-cells in
    subst (λ (xs : List RowsValue). AllRowsBelow (length c.args.sums.now) (rows_by xs c.letter-a.result).rows) (sym c.as_slice-else-is_some.ensures.value)
    (ready_below (rows_by c.args.forms.now.left.items c.letter-a.result).rows (length (block_basis c.args.braid.now c.args.key.now.degree c.args.key.now.product)) (length c.args.sums.now) c.requires.width read.ready.below)

pub bounds-rules-from-in_default : goal.bounds-rules-from-in_default
bounds-rules-from-in_default c =
    let here = met_here (goal.at.bounds-rules-from-in_default c).After-letter-b in
    let last : IsLetter c.args.braid.now c.letter-b.result = here.met.last in omega (arith, c.requires.count, last.0, last.1, c.from-in_default.ensures)

pub form_without_last-cells-requires-clause-rule : goal.form_without_last-cells-requires-clause-rule
form_without_last-cells-requires-clause-rule c =
    let here = met_here (goal.at.form_without_last-cells-requires-clause-rule c).After-letter-b in
    let last : IsLetter c.args.braid.now c.letter-b.result = here.met.last in
    let at : c.from-in_default.result ≡ c.letter-b.result = search rules in
    subst (λ x. MatchOption c.index-rules-from-in_default.result (lower_basis c.args.braid.now c.args.key.now.degree c.args.key.now.product x ≡ []) (λ r. r.now ≡ rule_of c.args.braid.now (c.args.key.now.degree - 1) (product_before c.args.braid.now x c.args.key.now.product))) (c.letter-b.ensures.value ∙ ap (λ n. slice_index c.index-listed-k.result.word (n - 1)) c.len.ensures.value)
    (subst (λ o. MatchOption o (lower_basis c.args.braid.now c.args.key.now.degree c.args.key.now.product c.letter-b.result ≡ []) (λ r. r.now ≡ rule_of c.args.braid.now (c.args.key.now.degree - 1) (product_before c.args.braid.now c.letter-b.result c.args.key.now.product)))
    (get_or_default c.args.rules.now (c.letter-b.result - 1) None c.index-rules-from-in_default.result (omega (arith, c.requires.count, last.0, last.1)) ∙ ap (λ n. slice_index_or c.args.rules.now (n - 1) c.index-rules-from-in_default.result) (sym at) ∙ sym c.index-rules-from-in_default.is) (c.requires.each c.letter-b.result last))

pub form_without_last-cells-requires-clause-word : goal.form_without_last-cells-requires-clause-word
form_without_last-cells-requires-clause-word c =
    let here = met_here (goal.at.form_without_last-cells-requires-clause-word c).After-letter-b in
    here.met.own

pub form_without_last-cells-requires-clause-least : goal.form_without_last-cells-requires-clause-least
form_without_last-cells-requires-clause-least c =
    (some_mark _ _ _ _ c.args.k c.index-listed-k.result c.requires.listed c.requires.inside c.index-listed-k.is (mark_right _ _ _ _ c.args.k c.index-listed-k.result c.requires.listed c.requires.inside c.index-listed-k.is ∙ ap is_some c.in_default.is))

pub push_sum_at-requires-in_default-clause-letters : goal.push_sum_at-requires-in_default-clause-letters
push_sum_at-requires-in_default-clause-letters c =
    let here = met_here (goal.at.push_sum_at-requires-in_default-clause-letters c).After-letter-b in
    subst (λ (xs : List RowsValue). c.letter-b.result ≤ length xs) (sym c.as_slice-in_default.ensures.value) here.last_most

pub push_sum_at-requires-in_default-clause-behinds : goal.push_sum_at-requires-in_default-clause-behinds
push_sum_at-requires-in_default-clause-behinds c =
    let here = met_here (goal.at.push_sum_at-requires-in_default-clause-behinds c).After-letter-b in
    here.first_most

pub push_sum_at-requires-in_default-clause-factors : goal.push_sum_at-requires-in_default-clause-factors
push_sum_at-requires-in_default-clause-factors c =
    let here = met_here (goal.at.push_sum_at-requires-in_default-clause-factors c).After-letter-b in
    let read = right_read (goal.at.push_sum_at-requires-in_default-clause-factors c).After-form_without_last-cells in
    subst (λ f. AllElements f c.form_without_last-cells.result.now) (sym c.field-field.ensures.field) read.ready.factors

pub push_sum_at-requires-in_default-clause-places : goal.push_sum_at-requires-in_default-clause-places
push_sum_at-requires-in_default-clause-places c =
    let here = met_here (goal.at.push_sum_at-requires-in_default-clause-places c).After-letter-b in
    let read = right_read (goal.at.push_sum_at-requires-in_default-clause-places c).After-form_without_last-cells in
    subst (λ (xs : List RowsValue). AllBelow (length (rows_by xs c.letter-b.result).rows) c.form_without_last-cells.result.now) (sym c.as_slice-in_default.ensures.value) read.ready.places

pub push_sum_at-requires-in_default-clause-nonzero : goal.push_sum_at-requires-in_default-clause-nonzero
push_sum_at-requires-in_default-clause-nonzero c = (right_read (goal.at.push_sum_at-requires-in_default-clause-nonzero c).After-form_without_last-cells).ready.nonzero

pub push_sum_at-requires-in_default-clause-rows : goal.push_sum_at-requires-in_default-clause-rows
push_sum_at-requires-in_default-clause-rows c =
    let read = right_read (goal.at.push_sum_at-requires-in_default-clause-rows c).After-form_without_last-cells in
    subst (λ (xs : List RowsValue). AreRows (rows_by xs c.letter-b.result).rows) (sym c.as_slice-in_default.ensures.value) read.ready.shape

pub push_sum_at-requires-in_default-clause-elements : goal.push_sum_at-requires-in_default-clause-elements
push_sum_at-requires-in_default-clause-elements c =
    let here = met_here (goal.at.push_sum_at-requires-in_default-clause-elements c).After-letter-b in
    let read = right_read (goal.at.push_sum_at-requires-in_default-clause-elements c).After-form_without_last-cells in
    subst (λ (xs : List RowsValue). AllRowsElements c.field-field.result (rows_by xs c.letter-b.result).rows) (sym c.as_slice-in_default.ensures.value)
    (subst (λ f. AllRowsElements f (rows_by c.args.forms.now.right.items c.letter-b.result).rows) (sym c.field-field.ensures.field) read.ready.elements)

pub push_sum_at-requires-in_default-clause-below : goal.push_sum_at-requires-in_default-clause-below
push_sum_at-requires-in_default-clause-below c =
    let here = met_here (goal.at.push_sum_at-requires-in_default-clause-below c).After-letter-b in
    let read = right_read (goal.at.push_sum_at-requires-in_default-clause-below c).After-form_without_last-cells in
    subst (λ (xs : List RowsValue). AllRowsBelow (length c.args.sums.now) (rows_by xs c.letter-b.result).rows) (sym c.as_slice-in_default.ensures.value)
    (ready_below (rows_by c.args.forms.now.right.items c.letter-b.result).rows (length (block_basis c.args.braid.now c.args.key.now.degree c.args.key.now.product)) (length c.args.sums.now) c.requires.width read.ready.below)

pub returns-in_ok-push_new-clause-passing : goal.returns-in_ok-push_new-clause-passing
returns-in_ok-push_new-clause-passing c =
    let here = met_here (goal.at.returns-in_ok-push_new-clause-passing c).After-letter-b in
    let count : c.len-then-is_some.result ≡ length c.args.numbers.now.columns.items = search rules in
    let there = place_met _ _ _ _ _ _ _ _ _ _ _ c.requires.places (mark_right _ _ _ _ c.args.k c.index-listed-k.result c.requires.listed c.requires.inside c.index-listed-k.is ∙ ap is_some c.in-Some.is) (mark_left _ _ _ _ c.args.k c.index-listed-k.result c.requires.listed c.requires.inside c.index-listed-k.is ∙ sym c.is_some.ensures ∙ c.if-is_some.true) here.passing in
    new_word_passes _ c.field-field.ensures.braid _ _ _ _ _ _ _ _ _ _ _ _ c.index-places-len.result c.push_new.new.forms.right.items c.push_new.new.forms.left.items c.push_new.new.forms.spots.items c.push_new.new.numbers.columns.items c.push_new.new.numbers.least here.met c.requires.places (mark_right _ _ _ _ c.args.k c.index-listed-k.result c.requires.listed c.requires.inside c.index-listed-k.is ∙ ap is_some c.in-Some.is) (mark_left _ _ _ _ c.args.k c.index-listed-k.result c.requires.listed c.requires.inside c.index-listed-k.is ∙ sym c.is_some.ensures ∙ c.if-is_some.true) (c.index-places-len.is ∙ get_or_default c.args.places.now c.len-then-is_some.result c.index-places-len.result Independent (subst (λ n. n < length c.args.places.now) (sym count) there) ∙ ap (place_at c.args.places.now) count) here.passing
    c.in_ok-push_new.ensures.right c.in_ok-push_new.ensures.left c.in_ok-push_new.ensures.spots c.in_ok-push_new.ensures.columns c.in_ok-push_new.ensures.least

pub returns-in_ok-push_sum_at-clause-passing : goal.returns-in_ok-push_sum_at-clause-passing
returns-in_ok-push_sum_at-clause-passing c =
    let here = met_here (goal.at.returns-in_ok-push_sum_at-clause-passing c).After-letter-b in
    let read = left_read (goal.at.returns-in_ok-push_sum_at-clause-passing c).After-form_without_first-cells in
    left_word_passes _ c.field-field.ensures.braid _ _ _ _ _ _ _ _ _ _ _ _ c.form_without_first-cells.result.now c.push_sum_at.new.into.items c.push_spot.new.spots.items here.met (mark_right _ _ _ _ c.args.k c.index-listed-k.result c.requires.listed c.requires.inside c.index-listed-k.is ∙ ap is_some c.in-Some.is) (mark_left _ _ _ _ c.args.k c.index-listed-k.result c.requires.listed c.requires.inside c.index-listed-k.is ∙ sym c.is_some.ensures ∙ c.if-is_some.false) here.passing read
    (subst (λ f. IsSumPushedAt f (rows_by c.args.forms.now.left.items c.letter-a.result).rows c.form_without_first-cells.result.now c.args.forms.now.right.items c.letter-b.result c.push_sum_at.new.into.items) c.field-field.ensures.field
    (subst (λ (xs : List RowsValue). IsSumPushedAt c.field-field.result (rows_by xs c.letter-a.result).rows c.form_without_first-cells.result.now c.args.forms.now.right.items c.letter-b.result c.push_sum_at.new.into.items) c.as_slice-else-is_some.ensures.value c.in_ok-push_sum_at.ensures.pushed))
    (c.in_ok-push_spot.ensures ∙ ap (λ (xs : List RowsValue). c.args.forms.now.spots.items ++ record { letter = c.letter-b.result; place = length (rows_by xs c.letter-b.result).rows } ∷ []) c.as_slice.ensures.value)

pub returns-in_ok-push_sum_at-2-clause-passing : goal.returns-in_ok-push_sum_at-2-clause-passing
returns-in_ok-push_sum_at-2-clause-passing c =
    let here = met_here (goal.at.returns-in_ok-push_sum_at-2-clause-passing c).After-letter-b in
    let read = right_read (goal.at.returns-in_ok-push_sum_at-2-clause-passing c).After-form_without_last-cells in
    right_word_passes _ c.field-field.ensures.braid _ _ _ _ _ _ _ _ _ _ _ _ c.form_without_last-cells.result.now c.push_sum_at-in_default.new.into.items here.met (some_mark _ _ _ _ c.args.k c.index-listed-k.result c.requires.listed c.requires.inside c.index-listed-k.is (mark_right _ _ _ _ c.args.k c.index-listed-k.result c.requires.listed c.requires.inside c.index-listed-k.is ∙ ap is_some c.in_default.is)) (mark_right _ _ _ _ c.args.k c.index-listed-k.result c.requires.listed c.requires.inside c.index-listed-k.is ∙ ap is_some c.in_default.is) here.passing read
    (subst (λ f. IsSumPushedAt f (rows_by c.args.forms.now.right.items c.letter-b.result).rows c.form_without_last-cells.result.now c.args.forms.now.left.items c.letter-a.result c.push_sum_at-in_default.new.into.items) c.field-field.ensures.field
    (subst (λ (xs : List RowsValue). IsSumPushedAt c.field-field.result (rows_by xs c.letter-b.result).rows c.form_without_last-cells.result.now c.args.forms.now.left.items c.letter-a.result c.push_sum_at-in_default.new.into.items) c.as_slice-in_default.ensures.value
    c.in_ok-push_sum_at-2.ensures.pushed))

pub back_of-back-requires-clause-word : goal.back_of-back-requires-clause-word
back_of-back-requires-clause-word c = (met_here (goal.at.back_of-back-requires-clause-word c).After-letter-b).met.own

pub back_of-back-requires-clause-long : goal.back_of-back-requires-clause-long
back_of-back-requires-clause-long c = long_back c.args.braid.now c.field-field.ensures.braid c.args.key.now.degree c.requires.block.some c.index-listed-k.result.word (word_size _ _ _ _ c.args.k c.index-listed-k.result c.requires.listed c.requires.inside c.index-listed-k.is) (mark_left _ _ _ _ c.args.k c.index-listed-k.result c.requires.listed c.requires.inside c.index-listed-k.is ∙ sym c.is_some.ensures ∙ c.if-is_some.false)

pub back_of-back-requires-clause-place : goal.back_of-back-requires-clause-place
back_of-back-requires-clause-place c =
    subst (λ o. MatchOption o (Unit {0}) (IsFrontPlace (lower_basis c.args.braid.now c.args.key.now.degree c.args.key.now.product) c.index-listed-k.result.word)) c.in-Some.is (entry_known _ _ _ _ c.args.k c.index-listed-k.result c.requires.listed c.requires.inside c.index-listed-k.is).front

pub form_without_first-cells-requires-clause-rule : goal.form_without_first-cells-requires-clause-rule
form_without_first-cells-requires-clause-rule c =
    let sent : IsLetter c.args.braid.now c.sent_at-c.result = c.sent_at-c.ensures.letter in
    let at : c.from.result ≡ c.sent_at-c.result = search rules in
    subst (λ o. MatchOption o (lower_basis c.args.braid.now c.args.key.now.degree c.args.key.now.product c.sent_at-c.result ≡ []) (λ r. r.now ≡ rule_of c.args.braid.now (c.args.key.now.degree - 1) (product_before c.args.braid.now c.sent_at-c.result c.args.key.now.product)))
    (get_or_default c.args.rules.now (c.sent_at-c.result - 1) None c.index-rules-from.result (omega (arith, c.requires.count, sent.0, sent.1)) ∙ ap (λ n. slice_index_or c.args.rules.now (n - 1) c.index-rules-from.result) (sym at) ∙ sym c.index-rules-from.is)
    (c.requires.each c.sent_at-c.result sent)

pub push_sum_at-requires-clause-begun : goal.push_sum_at-requires-clause-begun
push_sum_at-requires-clause-begun c =
    let here = met_here (goal.at.push_sum_at-requires-clause-begun c).After-letter-b in
    (here.passing.right c.letter-b.result here.met.last).rows.shape.closed

pub unreachable-requires : goal.unreachable-requires
unreachable-requires c =
    let least = some_mark _ _ _ _ c.args.k c.index-listed-k.result c.requires.listed c.requires.inside c.index-listed-k.is (mark_right _ _ _ _ c.args.k c.index-listed-k.result c.requires.listed c.requires.inside c.index-listed-k.is ∙ ap is_some c.in_default.is) in
    let other = mark_left _ _ _ _ c.args.k c.index-listed-k.result c.requires.listed c.requires.inside c.index-listed-k.is ∙ ap is_some c.in_default-left.is in
    let contrary : true ≡ false = sym least ∙ other in cc

pub front_of-front-requires-clause-word : goal.front_of-front-requires-clause-word
front_of-front-requires-clause-word c = (met_here (goal.at.front_of-front-requires-clause-word c).After-letter-b).met.own

pub front_of-front-requires-clause-long : goal.front_of-front-requires-clause-long
front_of-front-requires-clause-long c = long_front c.args.braid.now c.field-field.ensures.braid c.args.key.now.degree c.requires.block.some c.index-listed-k.result.word (word_size _ _ _ _ c.args.k c.index-listed-k.result c.requires.listed c.requires.inside c.index-listed-k.is) (mark_right _ _ _ _ c.args.k c.index-listed-k.result c.requires.listed c.requires.inside c.index-listed-k.is ∙ ap is_some c.in_default.is)

pub front_of-front-requires-clause-place : goal.front_of-front-requires-clause-place
front_of-front-requires-clause-place c =
    subst (λ o. MatchOption o (Unit {0}) (IsBackPlace (left_lower_basis c.args.braid.now c.args.key.now.degree c.args.key.now.product) c.index-listed-k.result.word)) c.in-Some-left.is (entry_known _ _ _ _ c.args.k c.index-listed-k.result c.requires.listed c.requires.inside c.index-listed-k.is).back

pub push_sum_at-requires-in_default-clause-begun : goal.push_sum_at-requires-in_default-clause-begun
push_sum_at-requires-in_default-clause-begun c =
    let here = met_here (goal.at.push_sum_at-requires-in_default-clause-begun c).After-letter-b in
    (here.passing.left c.letter-a.result here.met.first).rows.shape.closed
