-- Two texts with a common front are read alike, as far as what is read depends on that front alone.
use Rattle.std.proofs.Common.{◌≡◌, ◌-◌, ℕ, zero, suc, ◌<◌, ◌≤◌, ◌+◌, pos, Bool, true, false, ◌&&◌, cond, List, [], ◌∷◌, ◌++◌, length, refl, sym, ◌∙◌, ap, subst, nat_eq, nat_le, arith, Option, Some, None, Result, Ok, Err}
use Rattle.std.proofs.lemmas.Bool.{and_parts}
use Rattle.std.proofs.lemmas.List.{length-drop}
use Rattle.std.specs.Str.Parse.{digits_value}
use Rattle.std.specs.Char.{is_ascii_digit}
use Rattle.std.proofs.lemmas.Bool.Decides.{nat_tests, Decides-eqb}
use Rattle.nichols_field.specs.Field.{FieldValue, residue}
use Rattle.nichols_tensor.specs.Combination.{Term}
use Rattle.nichols_tensor.specs.declared.TheConstants.{LETTER_LIMIT, WORD_LIMIT}
use Rattle.nichols_expression.specs.declared.TheConstants.{NUMBER_LIMIT, TERM_LIMIT}
use Rattle.nichols_expression.specs.Bytes.{space, star, dot, zero_digit, empty_byte, signed_term, comma, closing}
use Rattle.nichols_expression.specs.declared.signs.Sign.{Sign}
use Rattle.nichols_expression.specs.declared.signs.Sign.TheVariants.{Positive}
use Rattle.nichols_expression.specs.declared.faults.Cause.TheVariants.{Letter, LongWord}
use Rattle.nichols_expression.specs.Reader.{FaultAt, Step, got, map_step, fault, run_at, past_run, past_spaces, is_letter_run, at_dot, after_dot, after_letter, past_letter, at_run, letters_at, word_by, word_at, with_coefficient, bare_word, term_after_number, by_star, past_first_run, term_by, term_at, sign_of, Read, put_first, after_term, past_term, with_term, terms_at, is_empty, signed_by, zero_or_terms, expression_at, read_terms, then_step, past_mark, mark_at, number_by, number_at, pair_element, second_at, pair_at, word_after, opens_pair, term_opened}
use Rattle.nichols_expression.specs.Grammar.{IsSpaces, no_spaces, one_more}
use Rattle.nichols_expression.proofs.Sound.{spaces_by_test}
use Rattle.nichols_expression.proofs.Numbers.{no_letter_long}
use Rattle.nichols_expression.proofs.Complete.{word_of_digit}
use Rattle.nichols_expression.proofs.Whole.{not_letter}
use Rattle.nichols_expression.proofs.Fronts.{all_spaces}
use Rattle.nichols_expression.proofs.Seen.{from_settling_byte, ahead, ahead_of_fault, past_spaces-le, past_run-le, LooksWithin, at_dot_ahead, letters_ahead, letters_ahead_of_run, word_ahead, is_short_run, long_run, run_term, run_term_ahead_of_short, run_term_ahead_of_long, term_of_run, TermsLookWithin, past_term_ahead, terms_ahead, terms_ahead_of_first, expression_ahead, mark_ahead, marked_ahead, number_ahead, element_at, element_ahead, second_ahead, word_after_ahead}

-- ---- texts with a common front

-- the texts have a common front, behind which the one goes on with m and the other with k
pub data Twins (m k : List ℕ) : List ℕ → List ℕ → Type 0 where
  fork : Twins m k m k
  common : {s t : List ℕ} (byte : ℕ) → Twins m k s t → Twins m k (byte ∷ s) (byte ∷ t)

pub twins : (m k front : List ℕ) → Twins m k (front ++ m) (front ++ k)
twins m k [] = fork
twins m k (byte ∷ front) = common byte (twins m k front)

-- the spaces end in the common front
spaces_twins : (m k s t : List ℕ) → Twins m k s t → length m < length (past_spaces s) → Twins m k (past_spaces s) (past_spaces t)
unfolding past_spaces
spaces_twins m k _ _ fork h = absurd (omega (arith, h, past_spaces-le m))
spaces_twins m k _ _ (common {s} {t} byte p) h = at (nat_eq byte space) (spaces_twins m k s t p) h
  where
    at : (b : Bool) → (length m < length (past_spaces s) → Twins m k (past_spaces s) (past_spaces t)) → length m < length (cond b (past_spaces s) (byte ∷ s)) →
        Twins m k (cond b (past_spaces s) (byte ∷ s)) (cond b (past_spaces t) (byte ∷ t))
    at true ih h = ih h
    at false ih h = common byte p

-- the run ends in the common front
abbrev RunTwins : List ℕ → List ℕ → List ℕ → List ℕ → Type 0
RunTwins m k s t = Twins m k (past_run s) (past_run t) × (run_at t ≡ run_at s)

run_twins : (m k s t : List ℕ) → Twins m k s t → length m < length (past_run s) → RunTwins m k s t
unfolding past_run run_at
run_twins m k _ _ fork h = absurd (omega (arith, h, past_run-le m))
run_twins m k _ _ (common {s} {t} byte p) h = at (is_ascii_digit byte) (run_twins m k s t p) h
  where
    at : (b : Bool) → (length m < length (past_run s) → RunTwins m k s t) → length m < length (cond b (past_run s) (byte ∷ s)) →
        Twins m k (cond b (past_run s) (byte ∷ s)) (cond b (past_run t) (byte ∷ t)) × (cond b (byte ∷ run_at t) [] ≡ cond b (byte ∷ run_at s) [])
    at true ih h = ((ih h).0, ap (λ l. byte ∷ l) (ih h).1)
    at false ih h = (common byte p, refl)

-- ---- answers that stand to each other so

abbrev pub IsStopped : {X : Type 0} → Result X FaultAt → Type 0
IsStopped (Ok x) = ⊥
IsStopped (Err e) = Unit {0}

-- where the first answer depends on the common front alone, the second is the same, or a fault beside a fault
abbrev pub Follows : {X : Type 0} → List ℕ → List ℕ → Step X → Step X → Type 0
Follows m k (Ok r) s = length m < length (past_spaces r.left) → (left : List ℕ) × (s ≡ got r.value left) × Twins m k r.left left
Follows m k (Err e) s = length m < length (from_settling_byte e.cause e.left) → IsStopped s

abbrev pub FollowsFault : List ℕ → Read → Read → Type 0
FollowsFault m (Ok f) s = Unit {0}
FollowsFault m (Err e) s = length m < length (from_settling_byte e.cause e.left) → IsStopped s

-- nothing is owed where the first answer depends on more
guarded : {X : Type 0} (m k : List ℕ) (r s : Step X) → (length m < ahead r → Follows m k r s) → Follows m k r s
guarded m k (Ok r) s make = λ h. make h h
guarded m k (Err e) s make = λ h. make h h

guarded_fault : (m : List ℕ) (r s : Read) → (length m < ahead_of_fault r → FollowsFault m r s) → FollowsFault m r s
guarded_fault m (Ok f) s make = tt
guarded_fault m (Err e) s make = λ h. make h h

stopped_mapped : {X Y : Type 0} (f : X → Y) (s : Step X) → IsStopped s → IsStopped (map_step f s)
stopped_mapped f (Ok r) h = h
stopped_mapped f (Err e) h = tt

mapped_follows : {X Y : Type 0} (m k : List ℕ) (f : X → Y) (r s : Step X) → Follows m k r s → Follows m k (map_step f r) (map_step f s)
mapped_follows m k f (Ok r) s p = λ h. ((p h).0, ap (map_step f) (p h).1, (p h).2)
mapped_follows m k f (Err e) s p = λ h. stopped_mapped f s (p h)

-- ---- letters

-- a step that answers twins alike
abbrev pub KeepsTwins : {X : Type 0} → List ℕ → List ℕ → (List ℕ → Step X) → Type 0
KeepsTwins m k step = (s t : List ℕ) → Twins m k s t → Follows m k (step s) (step t)

at_dot_follows : (m k : List ℕ) (further : List ℕ → Step (List ℕ)) → LooksWithin further → KeepsTwins m k further → KeepsTwins m k (at_dot further)
at_dot_follows m k further within ih _ _ fork = guarded m k (at_dot further m) (at_dot further k) (λ h. absurd (omega (arith, h, at_dot_ahead further within m)))
at_dot_follows m k further within ih _ _ (common {s} {t} byte p) = at (is_ascii_digit byte)
  where
    at : (b : Bool) → Follows m k (after_dot further b byte s) (after_dot further b byte t)
    at true = ih (byte ∷ s) (byte ∷ t) (common byte p)
    at false = λ h. tt

past_letter_follows : (m k : List ℕ) (further : List ℕ → Step (List ℕ)) → LooksWithin further → KeepsTwins m k further → (a : ℕ) (s t : List ℕ) → Twins m k s t → length m < length s →
    Follows m k (past_letter further a s) (past_letter further a t)
past_letter_follows m k further within ih a _ _ fork more = absurd (omega (arith, more))
past_letter_follows m k further within ih a _ _ (common {s} {t} byte p) more = at (nat_eq byte dot)
  where
    at : (b : Bool) → Follows m k (after_letter further a b byte s) (after_letter further a b byte t)
    at true = mapped_follows m k (λ w. a ∷ w) (at_dot further s) (at_dot further t) (at_dot_follows m k further within ih s t p)
    at false = λ h. (byte ∷ t, refl, common byte p)

-- both letters end in the common front, by tests and values that are the same
letter_follows : (m k : List ℕ) (n room : ℕ) → KeepsTwins m k (letters_at n room) → (s t : List ℕ) → RunTwins m k s t → length m < length (past_run s) → (b c : Bool) → c ≡ b →
    Follows m k (at_run (λ l. past_letter (letters_at n room) (digits_value 10 (run_at l)) (past_run l)) b s) (at_run (λ l. past_letter (letters_at n room) (digits_value 10 (run_at l)) (past_run l)) c t)
letter_follows m k n room ih s t q more true true e =
    subst (λ run. Follows m k (past_letter (letters_at n room) (digits_value 10 (run_at s)) (past_run s)) (past_letter (letters_at n room) (digits_value 10 run) (past_run t))) (sym q.1)
    (past_letter_follows m k (letters_at n room) (letters_ahead n room) ih (digits_value 10 (run_at s)) (past_run s) (past_run t) q.0 more)
letter_follows m k n room ih s t q more false false e = λ h. tt
letter_follows m k n room ih s t q more true false e = absurd cc
letter_follows m k n room ih s t q more false true e = absurd cc

letters_step_follows : (m k : List ℕ) (n room : ℕ) → KeepsTwins m k (letters_at n room) → (s t : List ℕ) → RunTwins m k s t → length m < length (past_run s) →
    Follows m k (letters_at n (suc room) s) (letters_at n (suc room) t)
unfolding letters_at
letters_step_follows m k n room ih s t q more = letter_follows m k n room ih s t q more (is_letter_run n (run_at s)) (is_letter_run n (run_at t)) (ap (is_letter_run n) q.1)

pub letters_follow : (m k : List ℕ) (n room : ℕ) → KeepsTwins m k (letters_at n room)
unfolding letters_at
letters_follow m k n zero s t p = at (is_letter_run n (run_at s)) (is_letter_run n (run_at t))
  where
    at : (b c : Bool) → Follows m k (at_run (fault LongWord) b s) (at_run (fault LongWord) c t)
    at true true = λ h. tt
    at true false = λ h. tt
    at false true = λ h. tt
    at false false = λ h. tt
letters_follow m k n (suc room) s t p =
    guarded m k (letters_at n (suc room) s) (letters_at n (suc room) t) (λ h.
    let more : length m < length (past_run s) = omega (arith, h, letters_ahead_of_run n room s, past_spaces-le (past_run s)) in
    letters_step_follows m k n room (letters_follow m k n room) s t (run_twins m k s t p more) more)

-- ---- words

pub word_follows : (m k : List ℕ) (n : ℕ) → KeepsTwins m k (word_at n)
unfolding word_at
word_follows m k n _ _ fork = guarded m k (word_at n m) (word_at n k) (λ h. absurd (omega (arith, h, word_ahead n m)))
word_follows m k n _ _ (common {s} {t} byte p) = at (is_ascii_digit byte) (nat_eq byte empty_byte)
  where
    at : (d e : Bool) → Follows m k (word_by n d e byte s) (word_by n d e byte t)
    at true e = letters_follow m k n WORD_LIMIT (byte ∷ s) (byte ∷ t) (common byte p)
    at false true = λ h. (t, refl, p)
    at false false = λ h. tt

-- ---- terms

bare_follows : (m k : List ℕ) (n : ℕ) → KeepsTwins m k (bare_word n)
bare_follows m k n s t p = mapped_follows m k (with_coefficient 1) (word_at n s) (word_at n t) (word_follows m k n s t p)

spaced_word_follows : (m k : List ℕ) (n : ℕ) (s t : List ℕ) → Twins m k s t → Follows m k (word_at n (past_spaces s)) (word_at n (past_spaces t))
spaced_word_follows m k n s t p =
    guarded m k (word_at n (past_spaces s)) (word_at n (past_spaces t)) (λ h.
    word_follows m k n (past_spaces s) (past_spaces t) (spaces_twins m k s t p (omega (arith, h, word_ahead n (past_spaces s)))))

numbered_follows : (m k : List ℕ) (field : FieldValue) (n : ℕ) (s t : List ℕ) → run_at t ≡ run_at s → (after next : List ℕ) → Twins m k after next → (b c : Bool) → c ≡ b →
    Follows m k (term_after_number field n b s after) (term_after_number field n c t next)
numbered_follows m k field n s t same after next p true true e =
    subst (λ run. Follows m k (term_after_number field n true s after) (map_step (with_coefficient (residue field (pos (digits_value 10 run)))) (word_at n (past_spaces next)))) (sym same)
    (mapped_follows m k (with_coefficient (residue field (pos (digits_value 10 (run_at s))))) (word_at n (past_spaces after)) (word_at n (past_spaces next)) (spaced_word_follows m k n after next p))
numbered_follows m k field n s t same after next p false false e = λ h. tt
numbered_follows m k field n s t same after next p true false e = absurd cc
numbered_follows m k field n s t same after next p false true e = absurd cc

first_run_follows : (m k : List ℕ) (field : FieldValue) (n : ℕ) (s t : List ℕ) → Twins m k s t → run_at t ≡ run_at s → (behind beyond : List ℕ) → Twins m k behind beyond → length m < length behind →
    Follows m k (past_first_run field n s behind) (past_first_run field n t beyond)
first_run_follows m k field n s t p same _ _ fork more = absurd (omega (arith, more))
first_run_follows m k field n s t p same _ _ (common {s = after} {t = next} byte q) more = at (nat_eq byte star)
  where
    at : (b : Bool) → Follows m k (by_star field n b s after) (by_star field n b t next)
    at true = numbered_follows m k field n s t same after next q (nat_le (length (run_at s)) NUMBER_LIMIT) (nat_le (length (run_at t)) NUMBER_LIMIT) (ap (λ run. nat_le (length run) NUMBER_LIMIT) same)
    at false = bare_follows m k n s t p

closed_run_follows : (m k : List ℕ) (field : FieldValue) (n : ℕ) (s t : List ℕ) → Twins m k s t → length m < length (past_spaces (past_run s)) → Follows m k (run_term field n s) (run_term field n t)
closed_run_follows m k field n s t p more =
    let q = run_twins m k s t p (omega (arith, more, past_spaces-le (past_run s))) in
    first_run_follows m k field n s t p q.1 (past_spaces (past_run s)) (past_spaces (past_run t)) (spaces_twins m k (past_run s) (past_run t) q.0 more) more

-- a run of which so many digits and one more are common goes as far in both texts
long_run_twins : (m k : List ℕ) (j : ℕ) (s t : List ℕ) → Twins m k s t → length m + j < length s → j < length (run_at s) → j < length (run_at t)
unfolding run_at
long_run_twins m k j _ _ fork more long = absurd (omega (arith, more))
long_run_twins m k j _ _ (common {s} {t} byte p) more long = at (is_ascii_digit byte) j (λ i. long_run_twins m k i s t p) more long
  where
    at : (b : Bool) (j : ℕ) → ((i : ℕ) → length m + i < length s → i < length (run_at s) → i < length (run_at t)) → length m + j < suc (length s) →
        j < length (cond b (byte ∷ run_at s) []) → j < length (cond b (byte ∷ run_at t) [])
    at true zero ih more long = omega arith
    at true (suc i) ih more long =
        let deep : i < length (run_at t) = ih i (omega (arith, more)) (omega (arith, long)) in
        omega (arith, deep)
    at false j ih more long = long

-- too long a run is neither a letter nor a number
long_run_stops : (field : FieldValue) (n : ℕ) → n ≤ LETTER_LIMIT → (byte : ℕ) (rest : List ℕ) → is_ascii_digit byte ≡ true → NUMBER_LIMIT < length (run_at (byte ∷ rest)) → IsStopped (run_term field n (byte ∷ rest))
long_run_stops field n small byte rest digit long = by_behind (past_spaces (past_run (byte ∷ rest)))
  where
    no_word : word_at n (byte ∷ rest) ≡ fault Letter (byte ∷ rest)
    no_word = word_of_digit n (byte ∷ rest) digit ∙ not_letter n (WORD_LIMIT - 1) (byte ∷ rest) (no_letter_long n (run_at (byte ∷ rest)) small (omega (arith, long)))

    no_number : nat_le (length (run_at (byte ∷ rest))) NUMBER_LIMIT ≡ false
    no_number = grind (arith, nat_tests, long)

    bare : IsStopped (bare_word n (byte ∷ rest))
    bare = subst (λ r. IsStopped (map_step (with_coefficient 1) r)) (sym no_word) tt

    by_byte : (b : Bool) (after : List ℕ) → IsStopped (by_star field n b (byte ∷ rest) after)
    by_byte true after = subst (λ b. IsStopped (term_after_number field n b (byte ∷ rest) after)) (sym no_number) tt
    by_byte false after = bare

    by_behind : (behind : List ℕ) → IsStopped (past_first_run field n (byte ∷ rest) behind)
    by_behind [] = bare
    by_behind (next ∷ after) = by_byte (nat_eq next star) after

stops_follow : {X : Type 0} (m k : List ℕ) (r s : Step X) → IsStopped r → IsStopped s → Follows m k r s
stops_follow m k (Ok r) s p q = absurd p
stops_follow m k (Err e) s p q = λ h. q

run_term_follows : (m k : List ℕ) (field : FieldValue) (n : ℕ) → n ≤ LETTER_LIMIT → (byte : ℕ) (s t : List ℕ) → Twins m k s t → is_ascii_digit byte ≡ true → Follows m k (run_term field n (byte ∷ s)) (run_term field n (byte ∷ t))
run_term_follows m k field n small byte s t p digit = at (is_short_run (byte ∷ s)) refl
  where
    at : (b : Bool) → is_short_run (byte ∷ s) ≡ b → Follows m k (run_term field n (byte ∷ s)) (run_term field n (byte ∷ t))
    at true short =
        guarded m k (run_term field n (byte ∷ s)) (run_term field n (byte ∷ t)) (λ h.
        closed_run_follows m k field n (byte ∷ s) (byte ∷ t) (common byte p) (omega (arith, h, run_term_ahead_of_short field n byte s digit short)))
    at false long =
        guarded m k (run_term field n (byte ∷ s)) (run_term field n (byte ∷ t)) (λ h.
        let more : length m + NUMBER_LIMIT < length (byte ∷ s) = omega (arith, h, run_term_ahead_of_long field n byte s digit long) in
        let other = long_run_twins m k NUMBER_LIMIT (byte ∷ s) (byte ∷ t) (common byte p) more (long_run (byte ∷ s) long) in
        stops_follow m k (run_term field n (byte ∷ s)) (run_term field n (byte ∷ t)) (long_run_stops field n small byte s digit (long_run (byte ∷ s) long)) (long_run_stops field n small byte t digit other))

-- ---- pairs of numbers

then_follows : {X Y : Type 0} (m k : List ℕ) (r s : Step X) (next : X → List ℕ → Step Y) → ((x : X) (left : List ℕ) → ahead (next x left) ≤ length (past_spaces left)) →
    ((x : X) → KeepsTwins m k (next x)) → Follows m k r s → Follows m k (then_step r next) (then_step s next)
then_follows {X} {Y} m k (Err e) s next within further p = λ h. stopped s (p h)
  where
    stopped : (t : Step X) → IsStopped t → IsStopped (then_step t next)
    stopped (Ok t) q = absurd q
    stopped (Err t) q = tt
then_follows m k (Ok r) s next within further p =
    guarded m k (next r.value r.left) (then_step s next) (λ h.
    let q = p (omega (arith, h, within r.value r.left)) in
    subst (λ t. Follows m k (next r.value r.left) (then_step t next)) (sym q.1) (further r.value r.left q.0 q.2))

mark_follows : (m k : List ℕ) (mark : ℕ) → KeepsTwins m k (mark_at mark)
mark_follows m k mark _ _ fork = guarded m k (mark_at mark m) (mark_at mark k) (λ h. absurd (omega (arith, h, mark_ahead mark m)))
mark_follows m k mark _ _ (common {s} {t} byte p) = at (nat_eq byte mark)
  where
    at : (b : Bool) → Follows m k (past_mark b byte s) (past_mark b byte t)
    at true = λ h. (t, refl, p)
    at false = λ h. tt

spaced_follows : {X : Type 0} (m k : List ℕ) (step : List ℕ → Step X) → LooksWithin step → KeepsTwins m k step → KeepsTwins m k (λ text. step (past_spaces text))
spaced_follows m k step within keeps s t p =
    guarded m k (step (past_spaces s)) (step (past_spaces t)) (λ h. keeps (past_spaces s) (past_spaces t) (spaces_twins m k s t p (omega (arith, h, within (past_spaces s)))))

-- a number that is no longer than one may be, and the mark behind it
closed_number_follows : (m k : List ℕ) (mark : ℕ) (s t : List ℕ) → Twins m k s t → is_short_run s ≡ true → length m < length (past_spaces (past_run s)) → Follows m k (number_by mark true true s) (number_by mark true (is_short_run t) t)
closed_number_follows m k mark s t p short more =
    let q = run_twins m k s t p (omega (arith, more, past_spaces-le (past_run s))) in
    let also : is_short_run t ≡ true = ap (λ run. nat_le (length run) NUMBER_LIMIT) q.1 ∙ short in
    subst (λ b. Follows m k (number_by mark true true s) (number_by mark true b t)) (sym also)
    (subst (λ run. Follows m k (number_by mark true true s) (map_step (λ _. digits_value 10 run) (mark_at mark (past_spaces (past_run t))))) (sym q.1)
    (mapped_follows m k (λ _. digits_value 10 (run_at s)) (mark_at mark (past_spaces (past_run s))) (mark_at mark (past_spaces (past_run t)))
    (mark_follows m k mark (past_spaces (past_run s)) (past_spaces (past_run t)) (spaces_twins m k (past_run s) (past_run t) q.0 more))))

short_test : (text : List ℕ) → NUMBER_LIMIT < length (run_at text) → is_short_run text ≡ false
short_test text h = grind (arith, nat_tests, h)

number_follows : (m k : List ℕ) (mark : ℕ) → KeepsTwins m k (number_at mark)
unfolding number_at
number_follows m k mark _ _ fork = guarded m k (number_at mark m) (number_at mark k) (λ h. absurd (omega (arith, h, number_ahead mark m)))
number_follows m k mark _ _ (common {s} {t} byte p) = at (is_ascii_digit byte) (is_short_run (byte ∷ s)) refl
  where
    at : (d b : Bool) → is_short_run (byte ∷ s) ≡ b → Follows m k (number_by mark d b (byte ∷ s)) (number_by mark d (is_short_run (byte ∷ t)) (byte ∷ t))
    at false b e = λ h. tt
    at true true e =
        guarded m k (number_by mark true true (byte ∷ s)) (number_by mark true (is_short_run (byte ∷ t)) (byte ∷ t)) (λ h.
        closed_number_follows m k mark (byte ∷ s) (byte ∷ t) (common byte p) e (omega (arith, h, marked_ahead mark (byte ∷ s))))
    at true false e = λ h.
        let long : NUMBER_LIMIT < length (run_at (byte ∷ s)) = long_run (byte ∷ s) e in
        let more : length m + NUMBER_LIMIT < length (byte ∷ s) = omega (arith, h, length-drop NUMBER_LIMIT (byte ∷ s)) in
        subst (λ b. IsStopped (number_by mark true b (byte ∷ t))) (sym (short_test (byte ∷ t) (long_run_twins m k NUMBER_LIMIT (byte ∷ s) (byte ∷ t) (common byte p) more long))) tt

element_follows : (m k : List ℕ) (field : FieldValue) (u v : ℕ) → KeepsTwins m k (element_at field u v)
element_follows m k field u v s t p =
    mapped_follows m k (λ _. pair_element field u v) (mark_at star (past_spaces s)) (mark_at star (past_spaces t)) (spaced_follows m k (mark_at star) (mark_ahead star) (mark_follows m k star) s t p)

second_follows : (m k : List ℕ) (field : FieldValue) (u : ℕ) → KeepsTwins m k (second_at field u)
second_follows m k field u s t p =
    then_follows m k (number_at closing (past_spaces s)) (number_at closing (past_spaces t)) (element_at field u) (element_ahead field u) (element_follows m k field u)
    (spaced_follows m k (number_at closing) (number_ahead closing) (number_follows m k closing) s t p)

pair_follows : (m k : List ℕ) (field : FieldValue) → KeepsTwins m k (pair_at field)
unfolding pair_at
pair_follows m k field s t p =
    then_follows m k (number_at comma (past_spaces s)) (number_at comma (past_spaces t)) (second_at field) (second_ahead field) (second_follows m k field)
    (spaced_follows m k (number_at comma) (number_ahead comma) (number_follows m k comma) s t p)

word_after_follows : (m k : List ℕ) (n c : ℕ) → KeepsTwins m k (word_after n c)
word_after_follows m k n c s t p = mapped_follows m k (with_coefficient c) (word_at n (past_spaces s)) (word_at n (past_spaces t)) (spaced_word_follows m k n s t p)

-- ---- whole terms

-- a term that begins with a byte of the common front
term_follows : (m k : List ℕ) (field : FieldValue) (n : ℕ) → n ≤ LETTER_LIMIT → (byte : ℕ) (s t : List ℕ) → Twins m k s t → Follows m k (term_at field n byte s) (term_at field n byte t)
unfolding term_at
term_follows m k field n small byte s t p = opened (opens_pair field byte)
  where
    at : (b : Bool) → is_ascii_digit byte ≡ b → Follows m k (term_by field n b (byte ∷ s)) (term_by field n b (byte ∷ t))
    at false e = bare_follows m k n (byte ∷ s) (byte ∷ t) (common byte p)
    at true e = run_term_follows m k field n small byte s t p e

    opened : (b : Bool) → Follows m k (term_opened field n b byte s) (term_opened field n b byte t)
    opened true = then_follows m k (pair_at field s) (pair_at field t) (word_after n) (word_after_ahead n) (word_after_follows m k n) (pair_follows m k field s t p)
    opened false = at (is_ascii_digit byte) refl

-- ---- expressions

stopped_put : (t : Term) (s : Read) → IsStopped s → IsStopped (put_first t s)
stopped_put t (Ok f) h = h
stopped_put t (Err e) h = tt

put_follows : (m : List ℕ) (t : Term) (r s : Read) → FollowsFault m r s → FollowsFault m (put_first t r) (put_first t s)
put_follows m t (Ok f) s p = tt
put_follows m t (Err e) s p = λ h. stopped_put t s (p h)

-- the reading of terms, which stops at twins alike
abbrev pub KeepsFaults : List ℕ → List ℕ → (Sign → List ℕ → Read) → Type 0
KeepsFaults m k further = (sign : Sign) (s t : List ℕ) → Twins m k s t → FollowsFault m (further sign s) (further sign t)

spaced_terms_follow : (m k : List ℕ) (further : Sign → List ℕ → Read) → TermsLookWithin further → KeepsFaults m k further → (sign : Sign) (s t : List ℕ) → Twins m k s t →
    FollowsFault m (further sign (past_spaces s)) (further sign (past_spaces t))
spaced_terms_follow m k further within ih sign s t p =
    guarded_fault m (further sign (past_spaces s)) (further sign (past_spaces t)) (λ h.
    ih sign (past_spaces s) (past_spaces t) (spaces_twins m k s t p (omega (arith, h, within sign (past_spaces s)))))

past_term_follows : (m k : List ℕ) (further : Sign → List ℕ → Read) → TermsLookWithin further → KeepsFaults m k further → (u : Term) (s t : List ℕ) → Twins m k s t → FollowsFault m (past_term further u s) (past_term further u t)
past_term_follows m k further within ih u _ _ fork = guarded_fault m (past_term further u m) (past_term further u k) (λ h. absurd (omega (arith, h, past_term_ahead further within u m)))
past_term_follows m k further within ih u _ _ (common {s} {t} byte p) = at (sign_of byte)
  where
    at : (o : Option Sign) → FollowsFault m (after_term further u o byte s) (after_term further u o byte t)
    at None = λ h. tt
    at (Some sign) = put_follows m u (further sign (past_spaces s)) (further sign (past_spaces t)) (spaced_terms_follow m k further within ih sign s t p)

stopped_with : (field : FieldValue) (further : Sign → List ℕ → Read) (sign : Sign) (s : Step Term) → IsStopped s → IsStopped (with_term field further sign s)
stopped_with field further sign (Ok r) h = absurd h
stopped_with field further sign (Err e) h = tt

with_term_follows : (m k : List ℕ) (field : FieldValue) (further : Sign → List ℕ → Read) → TermsLookWithin further → KeepsFaults m k further → (sign : Sign) (r s : Step Term) → Follows m k r s →
    FollowsFault m (with_term field further sign r) (with_term field further sign s)
with_term_follows m k field further within ih sign (Err e) s p = λ h. stopped_with field further sign s (p h)
with_term_follows m k field further within ih sign (Ok r) s p =
    let u = signed_term field sign r.value in
    guarded_fault m (past_term further u (past_spaces r.left)) (with_term field further sign s) (λ h.
    let more : length m < length (past_spaces r.left) = omega (arith, h, past_term_ahead further within u (past_spaces r.left)) in
    let q = p more in
    subst (λ a. FollowsFault m (past_term further u (past_spaces r.left)) (with_term field further sign a)) (sym q.1)
    (past_term_follows m k further within ih u (past_spaces r.left) (past_spaces q.0) (spaces_twins m k r.left q.0 q.2 more)))

pub terms_follow : (m k : List ℕ) (field : FieldValue) (n : ℕ) → n ≤ LETTER_LIMIT → (room : ℕ) → KeepsFaults m k (terms_at field n room)
unfolding terms_at
terms_follow m k field n small zero sign _ _ fork = guarded_fault m (terms_at field n zero sign m) (terms_at field n zero sign k) (λ h. absurd (omega (arith, h, terms_ahead field n zero sign m)))
terms_follow m k field n small zero sign _ _ (common byte p) = λ h. tt
terms_follow m k field n small (suc room) sign _ _ fork = guarded_fault m (terms_at field n (suc room) sign m) (terms_at field n (suc room) sign k) (λ h. absurd (omega (arith, h, terms_ahead field n (suc room) sign m)))
terms_follow m k field n small (suc room) sign _ _ (common {s} {t} byte p) =
    with_term_follows m k field (terms_at field n room) (terms_ahead field n room) (terms_follow m k field n small room) sign (term_at field n byte s) (term_at field n byte t) (term_follows m k field n small byte s t p)

signed_follow : (m k : List ℕ) (field : FieldValue) (n : ℕ) → n ≤ LETTER_LIMIT → (byte : ℕ) (s t : List ℕ) → Twins m k s t → (o : Option Sign) → FollowsFault m (signed_by field n o byte s) (signed_by field n o byte t)
signed_follow m k field n small byte s t p None = terms_follow m k field n small TERM_LIMIT Positive (byte ∷ s) (byte ∷ t) (common byte p)
signed_follow m k field n small byte s t p (Some sign) = spaced_terms_follow m k (terms_at field n TERM_LIMIT) (terms_ahead field n TERM_LIMIT) (terms_follow m k field n small TERM_LIMIT) sign s t p

twins_length : (m k s t : List ℕ) → Twins m k s t → length s + length k ≡ length t + length m
twins_length m k _ _ fork = omega arith
twins_length m k _ _ (common {s} {t} byte p) = omega (arith, twins_length m k s t p)

behind_zero_alone : (rest : List ℕ) → IsSpaces rest → past_spaces (past_run (zero_digit ∷ rest)) ≡ []
unfolding past_run past_spaces
behind_zero_alone _ no_spaces = refl
behind_zero_alone _ (one_more {rest} p) = all_spaces rest p

run_of_zero_alone : (rest : List ℕ) → IsSpaces rest → length (run_at (zero_digit ∷ rest)) ≡ 1
unfolding run_at
run_of_zero_alone _ no_spaces = refl
run_of_zero_alone _ (one_more p) = refl

-- where the other text is the digit 0 alone, the byte behind the 0 and spaces isn't common, nor a second digit
closed_beside_zero : (m k s t : List ℕ) → Twins m k s t → IsSpaces t → length m < length (past_spaces (past_run (zero_digit ∷ s))) → ⊥
closed_beside_zero m k s t p alone more =
    let run = run_twins m k (zero_digit ∷ s) (zero_digit ∷ t) (common zero_digit p) (omega (arith, more, past_spaces-le (past_run (zero_digit ∷ s)))) in
    let same = twins_length m k (past_spaces (past_run (zero_digit ∷ s))) (past_spaces (past_run (zero_digit ∷ t))) (spaces_twins m k (past_run (zero_digit ∷ s)) (past_run (zero_digit ∷ t)) run.0 more) in
    let none : length (past_spaces (past_run (zero_digit ∷ t))) ≡ 0 = ap length (behind_zero_alone t alone) in
    absurd (omega (arith, more, same, none))

long_beside_zero : (m k s t : List ℕ) → Twins m k s t → IsSpaces t → NUMBER_LIMIT < length (run_at (zero_digit ∷ s)) → length m + NUMBER_LIMIT < length (zero_digit ∷ s) → ⊥
long_beside_zero m k s t p alone long more =
    let other = long_run_twins m k NUMBER_LIMIT (zero_digit ∷ s) (zero_digit ∷ t) (common zero_digit p) more long in
    absurd (omega (arith, other, run_of_zero_alone t alone))

-- so no fault beside the digit 0 alone depends on the common front alone
beside_zero : (m k : List ℕ) (field : FieldValue) (n : ℕ) (s t : List ℕ) → Twins m k s t → IsSpaces t → length m < ahead_of_fault (terms_at field n TERM_LIMIT Positive (zero_digit ∷ s)) → ⊥
beside_zero m k field n s t p alone h = at (is_short_run (zero_digit ∷ s)) refl
  where
    first : ahead_of_fault (terms_at field n TERM_LIMIT Positive (zero_digit ∷ s)) ≤ ahead (term_at field n zero_digit s)
    first = terms_ahead_of_first field n 999 Positive zero_digit s

    run : ahead (term_at field n zero_digit s) ≡ ahead (run_term field n (zero_digit ∷ s))
    run = ap ahead (term_of_run field n zero_digit s refl)

    at : (b : Bool) → is_short_run (zero_digit ∷ s) ≡ b → ⊥
    at true short = closed_beside_zero m k s t p alone (omega (arith, h, first, run, run_term_ahead_of_short field n zero_digit s refl short))
    at false long = long_beside_zero m k s t p alone (long_run (zero_digit ∷ s) long) (omega (arith, h, first, run, run_term_ahead_of_long field n zero_digit s refl long))

zero_follows : (m k : List ℕ) (field : FieldValue) (n byte : ℕ) (s t : List ℕ) → Twins m k s t → byte ≡ zero_digit → IsSpaces t → FollowsFault m (signed_by field n (sign_of byte) byte s) (Ok [])
zero_follows m k field n byte s t p e alone =
    subst (λ b. FollowsFault m (signed_by field n (sign_of b) b s) (Ok [])) (sym e)
    (guarded_fault m (terms_at field n TERM_LIMIT Positive (zero_digit ∷ s)) (Ok []) (λ h. absurd (beside_zero m k field n s t p alone h)))

expression_follows : (m k : List ℕ) (field : FieldValue) (n : ℕ) → n ≤ LETTER_LIMIT → (s t : List ℕ) → Twins m k s t → FollowsFault m (expression_at field n s) (expression_at field n t)
expression_follows m k field n small _ _ fork = guarded_fault m (expression_at field n m) (expression_at field n k) (λ h. absurd (omega (arith, h, expression_ahead field n m)))
expression_follows m k field n small _ _ (common {s} {t} byte p) = at (nat_eq byte zero_digit && is_empty (past_spaces s)) (nat_eq byte zero_digit && is_empty (past_spaces t)) refl
  where
    at : (b c : Bool) → (nat_eq byte zero_digit && is_empty (past_spaces t)) ≡ c → FollowsFault m (zero_or_terms field n b byte s) (zero_or_terms field n c byte t)
    at true c e = tt
    at false false e = signed_follow m k field n small byte s t p (sign_of byte)
    at false true e =
        let tests = and_parts (nat_eq byte zero_digit) (is_empty (past_spaces t)) e in
        zero_follows m k field n byte s t p ((Decides-eqb byte zero_digit).0 tests.0) (spaces_by_test t tests.1)

-- where the reading of a text stops by a front of it, that of each text with this front stops
pub read_terms_follow : (field : FieldValue) (n : ℕ) → n ≤ LETTER_LIMIT → (m k front : List ℕ) → FollowsFault m (read_terms field n (front ++ m)) (read_terms field n (front ++ k))
unfolding read_terms
read_terms_follow field n small m k front =
    guarded_fault m (expression_at field n (past_spaces (front ++ m))) (expression_at field n (past_spaces (front ++ k))) (λ h.
    expression_follows m k field n small (past_spaces (front ++ m)) (past_spaces (front ++ k))
    (spaces_twins m k (front ++ m) (front ++ k) (twins m k front) (omega (arith, h, expression_ahead field n (past_spaces (front ++ m))))))
