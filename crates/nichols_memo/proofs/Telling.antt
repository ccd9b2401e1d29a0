-- What an entry tells of a word, by the test whether it is that of the word.
use Rattle.std.proofs.Common.{◌≡◌, ◌≢◌, ℕ, true, false, true≢false, List, refl, sym, ap, ◌∙◌, subst, Option, Some}
use Rattle.std.specs.Prelude.{Result, Ok, Err}
use Rattle.std.specs.declared.cmp.Ordering.{Ordering}
use Rattle.std.specs.declared.cmp.Ordering.TheVariants.{Less, Equal, Greater}
use Rattle.std.specs.Ordering.{is_eq}
use Rattle.nichols_tensor.specs.Combination.{Combination}
use Rattle.nichols_tensor.specs.Gathered.{are_one}
use Rattle.nichols_tensor.specs.WordOrder.{word_cmp}
use Rattle.nichols_tensor.proofs.Order.{same_word, word_cmp_itself}
use Rattle.nichols_braid.specs.Braid.{BraidValue}
use Rattle.nichols_memo.specs.declared.entry.Entry.{Entry}
use Rattle.nichols_memo.specs.declared.entry.Memoized.{Memoized}
use Rattle.nichols_memo.specs.declared.entry.Memoized.TheVariants.{Hit, Miss}
use Rattle.nichols_memo.specs.Calls.{Tells}
use Rattle.nichols_memo.specs.Forms.{IsRight, form_of}

-- ---- the test

ties : (o : Ordering) → is_eq o ≡ true → o ≡ Equal
ties Less h = absurd (true≢false (sym h))
ties Equal h = refl
ties Greater h = absurd (true≢false (sym h))

pub one_word : (v w : List ℕ) → are_one v w ≡ true → v ≡ w
one_word v w h = same_word v w (ties (word_cmp v w) h)

other_words : (v w : List ℕ) → are_one v w ≡ false → v ≢ w
other_words v w h e = true≢false (sym (ap is_eq (word_cmp_itself v)) ∙ ap (are_one v) e ∙ h)

-- ---- what is told

pub tells_form : (E : Type 0) (entry : Option Entry) (e : Entry) (w : List ℕ) (f : Combination) → entry ≡ Some e → are_one e.word w ≡ true → f ≡ e.form → Tells {E = E} w entry (Ok (Hit f))
tells_form E entry e w f is one same = subst (λ (x : Option Entry). Tells {E = E} w x (Ok (Hit f))) (sym is) ((λ _. ap Hit same), (λ other. absurd (other (one_word e.word w one))))

pub tells_want : {E : Type 0} (entry : Option Entry) (e : Entry) (w : List ℕ) (answer : Result Memoized E) (want : E) → answer ≡ Err want → entry ≡ Some e → are_one e.word w ≡ true → Tells w entry answer
tells_want entry e w answer want err is one =
    subst (λ (r : Result Memoized _). Tells w entry r) (sym err) (subst (λ (x : Option Entry). Tells w x (Err want)) (sym is) ((λ _. tt), (λ other. absurd (other (one_word e.word w one)))))

pub tells_nothing : (E : Type 0) (entry : Option Entry) (e : Entry) (w : List ℕ) → entry ≡ Some e → are_one e.word w ≡ false → Tells {E = E} w entry (Ok Miss)
tells_nothing E entry e w is other = subst (λ (x : Option Entry). Tells {E = E} w x (Ok Miss)) (sym is) ((λ same. absurd (other_words e.word w other same)), (λ _. refl))

-- the form of an entry that may be in a slot
pub form_is_right : (braid : BraidValue) (entry : Option Entry) (e : Entry) (w : List ℕ) (f : Combination) → entry ≡ Some e → are_one e.word w ≡ true → f ≡ e.form → IsRight braid entry → f ≡ form_of braid w
form_is_right braid entry e w f is one same right = same ∙ subst (IsRight braid) is right ∙ ap (form_of braid) (one_word e.word w one)
