-- A table that nothing refuses passes.
use Rattle.std.proofs.Common.{◌≡◌, ℕ, suc, ◌+◌, Bool, true, false, not, cond, ◌||◌, List, [], ◌∷◌, ◌++◌, length, refl, sym, ◌∙◌, ap, subst, arith, inl, inr, Option, None, Some, find, nat_eq, nat_lt, is_lt}
use Rattle.std.specs.Prelude.{◌&&◌, slice_index_or}
use Rattle.std.specs.List.{AllByRecursion, Contains, list_all, range_with_len}
use Rattle.std.specs.Cmp.Lexicographic.{same_text}
use Rattle.std.specs.Option.{option_map, option_or}
use Rattle.std.specs.declared.cmp.Ordering.TheVariants.{Less}
use Rattle.std.proofs.lemmas.Bool.{and_parts, or_cases}
use Rattle.std.proofs.lemmas.Bool.Decides.{Decides-eqb}
use Rattle.std.proofs.lemmas.List.Elements.{Contains-append_left, Contains-append_right}
use Rattle.nichols_field.specs.Field.{IsField}
use Rattle.nichols_tensor.specs.Combination.{Combination, AllAmong, same_letters, minus, linear_map}
use Rattle.nichols_tensor.specs.Positions.{word_at}
use Rattle.nichols_tensor.specs.Relation.{PlainRelation}
use Rattle.nichols_tensor.specs.Words.{up_to}
use Rattle.nichols_tensor.specs.WordOrder.{word_cmp, IsRising}
use Rattle.nichols_tensor.proofs.Entries.{some_of, any_of, of_each, finds}
use Rattle.nichols_tensor.proofs.Letters.{in_up_to}
use Rattle.nichols_tensor.proofs.Linear.{same_from_minus}
use Rattle.nichols_tensor.proofs.Rising.{less_by_test, position_of}
use Rattle.nichols_tensor.proofs.Values.{same_itself}
use Rattle.nichols_tensor.proofs.Zero.{is_zero_sound}
use Rattle.nichols_braid.specs.Braid.{BraidValue}
use Rattle.nichols_braid.specs.Forms.{candidates_of, derived_form}
use Rattle.nichols_braid.specs.Kernel.{is_killed}
use Rattle.nichols_braid.specs.Least.{candidates}
use Rattle.nichols_braid.proofs.EndLaws.{in_numbers}
use Rattle.nichols_check.specs.Table.{Table, by_ranks, tested, IsTestFor, AreCandidates, IsFormOver, Passes}
use Rattle.nichols_check.specs.TableRefusal.{TableRefusal, is_in, rises, are_candidates, are_same, has_form, is_over_basis, is_test, has_array, form_refused, inverse_refused, table_refusal}
use Rattle.nichols_check.specs.Laws.{UnrefusedTablesPass}

-- ---- tests of words

is_there : (ws : List (List ℕ)) (w : List ℕ) → is_in ws w ≡ true → Contains ws w
is_there ws w e = let (v, i, same) = some_of (λ v. same_letters w v) ws e in subst (Contains ws) (sym (same_text w v (sym same))) i

is_found : (ws : List (List ℕ)) (w : List ℕ) → Contains ws w → is_in ws w ≡ true
is_found ws w i = any_of (λ v. same_letters w v) w ws i (same_itself w)

they_rise : (ws : List (List ℕ)) → rises ws ≡ true → IsRising ws
unfolding rises
they_rise [] e = tt
they_rise (w ∷ []) e = (tt, tt)
they_rise (v ∷ w ∷ ws) e = let (less, rest) = and_parts (is_lt (word_cmp v w)) (rises (w ∷ ws)) e in (less_by_test (word_cmp v w) less, they_rise (w ∷ ws) rest)

-- ---- candidates

pub unrefused_candidates : (braid : BraidValue) (m : ℕ) (ws vs : List (List ℕ)) → are_candidates braid m ws vs ≡ true → AreCandidates braid m ws vs
unfolding are_candidates
unrefused_candidates braid m ws vs e =
    let cs : List (List ℕ) = candidates is_killed braid m in
    let (e4, apart) = and_parts (rises ws && rises vs && list_all (λ w. is_in ws w || is_in vs w) cs && list_all (is_in cs) (ws ++ vs)) (list_all (λ w. not (is_in vs w)) ws) e in
    let (e3, inside) = and_parts (rises ws && rises vs && list_all (λ w. is_in ws w || is_in vs w) cs) (list_all (is_in cs) (ws ++ vs)) e4 in
    let (e2, each) = and_parts (rises ws && rises vs) (list_all (λ w. is_in ws w || is_in vs w) cs) e3 in
    let (first, second) = and_parts (rises ws) (rises vs) e2 in
    record {
      first_rise = they_rise ws first;
      second_rise = they_rise vs second;
      all = λ w. (
        λ i. elim (or_cases (is_in ws w) (is_in vs w) (of_each (λ w. is_in ws w || is_in vs w) w cs each i)) [ inl h ↦ inl (is_there ws w h) | inr h ↦ inr (is_there vs w h) ],
        λ s. elim s [
          | inl i ↦ is_there cs w (of_each (is_in cs) w (ws ++ vs) inside (Contains-append_left ws vs w i))
          | inr i ↦ is_there cs w (of_each (is_in cs) w (ws ++ vs) inside (Contains-append_right ws vs w i))
        ],
      );
      once = λ w i j. let c : true ≡ false = sym (of_each (λ w. not (is_in vs w)) w ws apart i) ∙ ap not (is_found vs w j) in cc;
    }

-- ---- forms

unrefused_form : (braid : BraidValue) → IsField braid.field → (m : ℕ) (ws : List (List ℕ)) (r : PlainRelation) → has_form braid m ws r ≡ true → IsFormOver braid m ws r
unfolding has_form AllAmong
unrefused_form braid is m ws r e =
    let (words, derivatives) = and_parts (list_all (λ t. is_in ws t.word && is_lt (word_cmp t.word r.candidate)) r.form)
    (list_all (λ a. are_same braid.field (derived_form is_killed braid (suc m) r.candidate a) (linear_map braid.field (λ v. derived_form is_killed braid (suc m) v a) r.form)) (up_to braid.letters)) e in
    record {
      among = among r.form words;
      earlier = earlier r.form words;
      derivatives = λ a letter.
          let f : Combination = derived_form is_killed braid (suc m) r.candidate a in
          let g : Combination = linear_map braid.field (λ v. derived_form is_killed braid (suc m) v a) r.form in
          same_from_minus braid.field is f g (is_zero_sound braid.field is (minus braid.field f g)
          (of_each (λ a. are_same braid.field (derived_form is_killed braid (suc m) r.candidate a) (linear_map braid.field (λ v. derived_form is_killed braid (suc m) v a) r.form)) a (up_to braid.letters) derivatives (in_up_to braid.letters a letter)));
    }
  where
    among : (f : Combination) → list_all (λ t. is_in ws t.word && is_lt (word_cmp t.word r.candidate)) f ≡ true → AllAmong f ws
    among [] h = tt
    among (t ∷ f) h =
        let (here, rest) = and_parts (is_in ws t.word && is_lt (word_cmp t.word r.candidate)) (list_all (λ t. is_in ws t.word && is_lt (word_cmp t.word r.candidate)) f) h in
        (is_there ws t.word (and_parts (is_in ws t.word) (is_lt (word_cmp t.word r.candidate)) here).0, among f rest)

    earlier : (f : Combination) → list_all (λ t. is_in ws t.word && is_lt (word_cmp t.word r.candidate)) f ≡ true → AllByRecursion (λ t. word_cmp t.word r.candidate ≡ Less) f
    earlier [] h = tt
    earlier (t ∷ f) h =
        let (here, rest) = and_parts (is_in ws t.word && is_lt (word_cmp t.word r.candidate)) (list_all (λ t. is_in ws t.word && is_lt (word_cmp t.word r.candidate)) f) h in
        (less_by_test (word_cmp t.word r.candidate) (and_parts (is_in ws t.word) (is_lt (word_cmp t.word r.candidate)) here).1, earlier f rest)

-- ---- arrays

test_is : (braid : BraidValue) (m : ℕ) (ws : List (List ℕ)) (w : List ℕ) (fs : List Combination) → is_test braid m ws w fs ≡ true → IsTestFor braid m ws w fs
test_is braid m ws w fs e =
    let (own, others) = and_parts (nat_eq (tested braid m fs w) 1) (list_all (λ v. same_letters v w || nat_eq (tested braid m fs v) 0) ws) e in
    record {
      own = (Decides-eqb (tested braid m fs w) 1).0 own;
      others = λ v i other. elim (or_cases (same_letters v w) (nat_eq (tested braid m fs v) 0) (of_each (λ v. same_letters v w || nat_eq (tested braid m fs v) 0) v ws others i)) [
        | inl same ↦ absurd (other (same_text v w (sym same)))
        | inr zero ↦ (Decides-eqb (tested braid m fs v) 0).0 zero
      ];
    }

array_is : (braid : BraidValue) (order : List ℕ) (m : ℕ) (t : Table) (i : ℕ) → has_array braid order m t i ≡ true → IsTestFor braid m t.basis (word_at t.basis i) (by_ranks order (slice_index_or t.tests i []))
unfolding has_array
array_is braid order m t i e =
    let fs : List Combination = slice_index_or t.tests i [] in
    test_is braid m t.basis (word_at t.basis i) (by_ranks order fs)
    (and_parts (nat_lt i (length t.tests) && (nat_lt (i + 1) (length t.basis) || nat_eq (length t.tests) (length t.basis)) && nat_eq (length fs) braid.letters && is_over_basis braid m fs) (is_test braid m t.basis (word_at t.basis i) (by_ranks order fs)) e).1

-- ---- nothing refuses it

-- where a search finds nothing no entry passes
none_passes : {X : Type 0} (test : X → Bool) (xs : List X) (x : X) → Contains xs x → find (λ y. not (test y)) xs ≡ None → test x ≡ true
none_passes test xs x i none = at (test x) refl
  where
    at : (b : Bool) → test x ≡ b → test x ≡ true
    at true e = e
    at false e = let (y, found) = finds (λ y. not (test y)) xs x i (ap not e) in absurd (let c : Some y ≡ None = sym found ∙ none in cc)

mapped_none : {X Y : Type 0} (f : X → Y) (o : Option X) → option_map f o ≡ None → o ≡ None
mapped_none f None e = refl
mapped_none f (Some x) e = absurd (let c : Some (f x) ≡ None = e in cc)

both_none : {X : Type 0} (o p : Option X) → option_or o p ≡ None → (o ≡ None) × (p ≡ None)
both_none None p e = (refl, e)
both_none (Some x) p e = absurd (let c : Some x ≡ None = e in cc)

pub unrefused_tables_pass : UnrefusedTablesPass
unfolding table_refusal form_refused inverse_refused
unrefused_tables_pass braid is order m t e = at (are_candidates braid (suc m) t.basis (candidates_of t.relations)) refl e
  where
    at : (b : Bool) → are_candidates braid (suc m) t.basis (candidates_of t.relations) ≡ b → cond b (option_or (form_refused braid m t) (inverse_refused braid order m t)) (Some TableRefusal.candidates_refusal) ≡ None → Passes braid m t
    at false c h = absurd (let d : Some TableRefusal.candidates_refusal ≡ None = h in cc)
    at true c h =
        let (forms, arrays) = both_none (form_refused braid m t) (inverse_refused braid order m t) h in record {
          candidates = unrefused_candidates braid (suc m) t.basis (candidates_of t.relations) c;
          forms = λ r i. unrefused_form braid is.field m t.basis r (none_passes (has_form braid m t.basis) t.relations r i (mapped_none (λ (s : PlainRelation). TableRefusal.form_refusal s.candidate) (find (λ s. not (has_form braid m t.basis s)) t.relations) forms));
          tests = λ w i.
              let (k, less, here) = position_of t.basis w i in (
                by_ranks order (slice_index_or t.tests k []),
                subst (λ v. IsTestFor braid m t.basis v (by_ranks order (slice_index_or t.tests k []))) here
                    (array_is braid order m t k (none_passes (has_array braid order m t) (range_with_len 0 (length t.basis)) k (in_numbers 0 (length t.basis) k (omega arith) (omega arith))
                    (mapped_none (λ i. TableRefusal.inverse_refusal (word_at t.basis i)) (find (λ i. not (has_array braid order m t i)) (range_with_len 0 (length t.basis))) arrays))),
              );
        }
