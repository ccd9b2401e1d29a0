use Rattle.std.proofs.Common.{◌≡◌, ◌+◌, ◌-◌, ◌*◌, ◌^◌, ◌<◌, ℕ, List, length, get_or, refl, sym, ◌∙◌, ap₂, subst, arith}
use Rattle.nichols_tensor.specs.Words.{IsLetterOf, IsWordOver}
use Rattle.nichols_tensor.proofs.Over.{letter_over}
use Rattle.nichols_plain.proofs.Numbers.{number_more, number_bound, number_fits}
use Rattle.nichols_plain.proofs.columns.column_of.Goals as goal

-- the letter that is read
letter : (n i : ℕ) (items w : List ℕ) → items ≡ w → IsWordOver n w → i < length items → IsLetterOf n (get_or items i 0)
letter n i items w same over within = letter_over n items i (subst (IsWordOver n) (sym same) over) within

fits : (n i number : ℕ) (items w : List ℕ) → items ≡ w → IsWordOver n w → i < length items → number < n ^ i → n ^ length w < 2 ^ 32 → number * n + (get_or items i 0 - 1) < 2 ^ 32
fits n i number items w same over within below few =
    number_fits n i (length items) (get_or items i 0) number (letter n i items w same over within) below within (subst (λ v. n ^ length v < 2 ^ 32) (sym same) few)

pub overflow_mul-number : goal.overflow_mul-number
overflow_mul-number c =
    rw c.from.ensures
    (let small : c.loop-letter.number * c.args.letters + (get_or c.letters-letter-items.result.now c.loop-letter.letter-index 0 - 1) < 2 ^ 32 =
    fits c.args.letters c.loop-letter.letter-index c.loop-letter.number c.letters-letter-items.result.now c.args.word.now c.letters-letter-items.ensures.same c.requires.letters c.loop-letter-test.true c.loop-letter.invariant.bound c.requires.columns in
    omega (arith, small))

pub overflow_add-number : goal.overflow_add-number
overflow_add-number c =
    rw (c.from.ensures, c.from-in-loop-letter.ensures)
    (let small : c.loop-letter.number * c.args.letters + (get_or c.letters-letter-items.result.now c.loop-letter.letter-index 0 - 1) < 2 ^ 32 =
    fits c.args.letters c.loop-letter.letter-index c.loop-letter.number c.letters-letter-items.result.now c.args.word.now c.letters-letter-items.ensures.same c.requires.letters c.loop-letter-test.true c.loop-letter.invariant.bound c.requires.columns in
    omega (arith, small))

pub loop-letter-preserved : goal.loop-letter-preserved
loop-letter-preserved c =
    let sum : c.loop-letter.number * c.from.result + c.from-in-loop-letter.result ≡ c.loop-letter.number * c.args.letters + (get_or c.letters-letter-items.result.now c.loop-letter.letter-index 0 - 1) =
    ap₂ (λ n x. c.loop-letter.number * n + x) c.from.ensures c.from-in-loop-letter.ensures in
    record {
      value = sum ∙ number_more c.args.letters c.letters-letter-items.result.now c.loop-letter.letter-index (get_or c.letters-letter-items.result.now c.loop-letter.letter-index 0) c.loop-letter.number c.loop-letter-test.true refl c.loop-letter.invariant.value;
      bound =
          subst (λ m. m < c.args.letters ^ (c.loop-letter.letter-index + 1)) (sym sum)
          (number_bound c.args.letters c.loop-letter.letter-index (get_or c.letters-letter-items.result.now c.loop-letter.letter-index 0) c.loop-letter.number
          (letter c.args.letters c.loop-letter.letter-index c.letters-letter-items.result.now c.args.word.now c.letters-letter-items.ensures.same c.requires.letters c.loop-letter-test.true) c.loop-letter.invariant.bound);
    }
