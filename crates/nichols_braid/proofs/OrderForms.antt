-- Bases, normal forms and relations of the braid on ranks, in letters, are those by the order.
use Rattle.std.proofs.Common.{◌≡◌, ℕ, zero, suc, ◌+◌, Bool, true, false, not, List, [], ◌∷◌, ◌++◌, map, length, refl, sym, ◌∙◌, ap, ap₂, subst, inl, inr}
use Rattle.std.specs.List.{filter, AllByRecursion, Contains}
use Rattle.std.proofs.lemmas.List.{length-map, map-append}
use Rattle.nichols_field.specs.Field.{IsElement, negative}
use Rattle.nichols_tensor.specs.Combination.{Combination, AllElements, AllAmong, words_of, single, minus, scalar_multiple}
use Rattle.nichols_tensor.specs.Relation.{PlainRelation}
use Rattle.nichols_tensor.specs.Words.{up_to, IsLetterOf, IsWordOver, IsOver, HasDegree}
use Rattle.nichols_tensor.specs.WordOrder.{word_cmp, IsRising}
use Rattle.nichols_tensor.proofs.Entries.{contains_none, contains_first, contains_cases, in_map, from_map, from_flat_map, in_filter, from_filter}
use Rattle.nichols_tensor.proofs.Letters.{from_up_to}
use Rattle.nichols_tensor.proofs.Over.{all-append, all-scalar_multiple, all_among, word_over-append}
use Rattle.nichols_tensor.proofs.Rising.{rising-filter}
use Rattle.nichols_tensor.proofs.Tests.{all_of_entries}
use Rattle.nichols_braid.specs.Braid.{BraidValue, IsBraid}
use Rattle.nichols_braid.specs.Kernel.{is_in_kernel}
use Rattle.nichols_braid.specs.Least.{is_least, basis, normal_form, candidates}
use Rattle.nichols_braid.specs.LeastLaws.{IsLeastWord, IsNormalForm}
use Rattle.nichols_braid.specs.LinearTest.{IsLinearTest}
use Rattle.nichols_braid.specs.Order.{IsOrder, rank_of, letter_at, renamed_word, renamed, in_ranks, in_letters, relabelled}
use Rattle.nichols_braid.specs.OrderForms.{IsRisingInOrder, basis_by, BasesAreRelabelled, form_by, IsNormalFormBy, NormalFormsAreRelabelled, relation_in_letters, relations_by, IsCandidateBy, IsRelationBy, RelationsAreRelabelled}
use Rattle.nichols_braid.specs.OrderLaws.{IsLeastWordBy}
use Rattle.nichols_braid.proofs.Candidates.{candidates_rise, in_candidates, from_candidates, candidates_first, candidates_next, relations_are, relation_at}
use Rattle.nichols_braid.proofs.Killed.{is_in_kernel_is_linear}
use Rattle.nichols_braid.proofs.LeastLaws.{least_words_are_tested}
use Rattle.nichols_braid.proofs.Lists.{map-map}
use Rattle.nichols_braid.proofs.NormalForms.{form_is_normal, form_is}
use Rattle.nichols_braid.proofs.OrderLaws.{relabelled_is_braid, kernel_is_relabelled, least_words_are_relabelled, ranks_renamed_back, all_renamed}
use Rattle.nichols_braid.proofs.Ranks.{rank_is_letter, letter_is_letter, ranks_over, letters_over, ranks_of_letters, letters_of_ranks}
use Rattle.nichols_braid.proofs.Reduction.{in_basis, from_basis, basis_rises}
use Rattle.nichols_braid.proofs.Renamed.{renamed-minus}

-- ---- words that rise

pub rises_in_letters : (n : ℕ) (order : List ℕ) → IsOrder n order → (ws : List (List ℕ)) → AllByRecursion (IsWordOver n) ws → IsRising ws → IsRisingInOrder order (map (renamed_word (letter_at order)) ws)
rises_in_letters n order o [] over r = tt
rises_in_letters n order o (v ∷ []) over r = (tt, tt)
rises_in_letters n order o (v ∷ w ∷ ws) over r =
    (ap₂ word_cmp (ranks_of_letters n order o v over.0) (ranks_of_letters n order o w over.1.0) ∙ r.0, rises_in_letters n order o (w ∷ ws) over.1 r.1)

rises_in_ranks : (order : List ℕ) (ws : List (List ℕ)) → IsRisingInOrder order ws → IsRising (map (renamed_word (rank_of order)) ws)
rises_in_ranks order [] r = tt
rises_in_ranks order (v ∷ []) r = (tt, tt)
rises_in_ranks order (v ∷ w ∷ ws) r = (r.0, rises_in_ranks order (w ∷ ws) r.1)

words_renamed : (φ : ℕ → ℕ) (f : Combination) → words_of (renamed φ f) ≡ map (renamed_word φ) (words_of f)
words_renamed φ [] = refl
words_renamed φ (t ∷ f) = ap (λ ws. map φ t.word ∷ ws) (words_renamed φ f)

-- ---- the braid on ranks

field_is : (braid : BraidValue) (order : List ℕ) → (relabelled order braid).field ≡ braid.field
unfolding relabelled
field_is braid order = refl

pub letters_are : (braid : BraidValue) (order : List ℕ) → (relabelled order braid).letters ≡ braid.letters
unfolding relabelled
letters_are braid order = refl

linear : (braid : BraidValue) → IsBraid braid → (order : List ℕ) → IsOrder braid.letters order → (m : ℕ) → IsLinearTest (relabelled order braid).field (is_in_kernel (relabelled order braid) m)
linear braid is order o m = is_in_kernel_is_linear (relabelled order braid) (relabelled_is_braid braid is order o).field m

-- a word of ranks is least where its word of letters is by the order
least_in_letters : (braid : BraidValue) → IsBraid braid → (order : List ℕ) → IsOrder braid.letters order → (r : List ℕ) → IsWordOver braid.letters r → is_least is_in_kernel (relabelled order braid) r ≡ true → IsLeastWordBy is_in_kernel order braid (renamed_word (letter_at order) r)
least_in_letters braid is order o r over h =
    let new : BraidValue = relabelled order braid in
    (least_words_are_relabelled braid is order o (map (letter_at order) r) (letters_over braid.letters order o r over)).1
    (subst (IsLeastWord is_in_kernel new) (sym (ranks_of_letters braid.letters order o r over)) ((least_words_are_tested is_in_kernel new (relabelled_is_braid braid is order o).field r (linear braid is order o (length r))).0 h))

least_in_ranks : (braid : BraidValue) → IsBraid braid → (order : List ℕ) → IsOrder braid.letters order → (w : List ℕ) → IsWordOver braid.letters w → IsLeastWordBy is_in_kernel order braid w → is_least is_in_kernel (relabelled order braid) (renamed_word (rank_of order) w) ≡ true
least_in_ranks braid is order o w over h =
    let r : List ℕ = map (rank_of order) w in
    (least_words_are_tested is_in_kernel (relabelled order braid) (relabelled_is_braid braid is order o).field r (linear braid is order o (length r))).1 ((least_words_are_relabelled braid is order o w over).0 h)

-- ---- bases

-- a word of the basis on ranks
over_of_basis : (braid : BraidValue) (order : List ℕ) (m : ℕ) (r : List ℕ) → Contains (basis is_in_kernel (relabelled order braid) m) r → IsWordOver braid.letters r
over_of_basis braid order m r i = subst (λ n. IsWordOver n r) (letters_are braid order) (from_basis is_in_kernel (relabelled order braid) m r i).1

all_over : (braid : BraidValue) (order : List ℕ) (m : ℕ) → AllByRecursion (IsWordOver braid.letters) (basis is_in_kernel (relabelled order braid) m)
all_over braid order m = all_of_entries (IsWordOver braid.letters) (basis is_in_kernel (relabelled order braid) m) (over_of_basis braid order m)

-- the ranks of a word of the basis by the order
ranks_in_basis : (braid : BraidValue) (order : List ℕ) → IsOrder braid.letters order → (m : ℕ) (w : List ℕ) → Contains (basis_by order braid m) w →
    Contains (basis is_in_kernel (relabelled order braid) m) (renamed_word (rank_of order) w) × IsWordOver braid.letters w × (length w ≡ m)
ranks_in_basis braid order o m w i =
    let new : BraidValue = relabelled order braid in
    let (r, j, e) = from_map (renamed_word (letter_at order)) w (basis is_in_kernel new m) i in
    let over : IsWordOver braid.letters r = over_of_basis braid order m r j in (
      subst (Contains (basis is_in_kernel new m)) (sym (ap (map (rank_of order)) e ∙ ranks_of_letters braid.letters order o r over)) j,
      subst (IsWordOver braid.letters) (sym e) (letters_over braid.letters order o r over),
      ap length e ∙ length-map r (letter_at order) ∙ (from_basis is_in_kernel new m r j).0,
    )

pub bases_are_relabelled : BasesAreRelabelled
bases_are_relabelled braid is order o m = (
  rises_in_letters braid.letters order o (basis is_in_kernel new m) (all_over braid order m) (basis_rises is_in_kernel new m),
  λ w. record {
    listed = λ size over least.
        subst (Contains (basis_by order braid m)) (letters_of_ranks braid.letters order o w over)
        (in_map (renamed_word (letter_at order)) (map (rank_of order) w) (basis is_in_kernel new m)
        (in_basis is_in_kernel new m (map (rank_of order) w) (length-map w (rank_of order) ∙ size) (subst (λ n. IsWordOver n (map (rank_of order) w)) (sym (letters_are braid order)) (ranks_over braid.letters order o w over)) (least_in_ranks braid is order o w over least)));
    degree = λ i. (ranks_in_basis braid order o m w i).2;
    over = λ i. (ranks_in_basis braid order o m w i).1;
    least = λ i.
        let (r, j, e) = from_map (renamed_word (letter_at order)) w (basis is_in_kernel new m) i in
        subst (IsLeastWordBy is_in_kernel order braid) (sym e) (least_in_letters braid is order o r (over_of_basis braid order m r j) (from_basis is_in_kernel new m r j).2);
  },
)
  where
    new : BraidValue
    new = relabelled order braid

-- ---- normal forms

letters_renamed_back : (n : ℕ) (order : List ℕ) → IsOrder n order → (f : Combination) → IsOver n f → in_letters order (in_ranks order f) ≡ f
letters_renamed_back n order o [] over = refl
letters_renamed_back n order o (t ∷ f) over =
    ap₂ (λ (v : List ℕ) (g : Combination). record { word = v; coefficient = t.coefficient } ∷ g) (letters_of_ranks n order o t.word over.0) (letters_renamed_back n order o f over.1)

among_in_letters : (order : List ℕ) (ws : List (List ℕ)) (f : Combination) → AllAmong f ws → AllAmong (in_letters order f) (map (renamed_word (letter_at order)) ws)
unfolding AllAmong
among_in_letters order ws [] among = tt
among_in_letters order ws (t ∷ f) among = (in_map (renamed_word (letter_at order)) t.word ws among.0, among_in_letters order ws f among.1)

among_in_ranks : (braid : BraidValue) (order : List ℕ) → IsOrder braid.letters order → (m : ℕ) (f : Combination) → AllAmong f (basis_by order braid m) → AllAmong (in_ranks order f) (basis is_in_kernel (relabelled order braid) m)
unfolding AllAmong
among_in_ranks braid order o m [] among = tt
among_in_ranks braid order o m (t ∷ f) among = ((ranks_in_basis braid order o m t.word among.0).0, among_in_ranks braid order o m f among.1)

over_from_among : (braid : BraidValue) (order : List ℕ) → IsOrder braid.letters order → (m : ℕ) (f : Combination) → AllAmong f (basis_by order braid m) → IsOver braid.letters f
unfolding AllAmong
over_from_among braid order o m [] among = tt
over_from_among braid order o m (t ∷ f) among = ((ranks_in_basis braid order o m t.word among.0).1, over_from_among braid order o m f among.1)

elements_renamed : (φ : ℕ → ℕ) (braid : BraidValue) (f : Combination) → AllElements braid.field f → AllElements braid.field (renamed φ f)
elements_renamed φ braid f h = all_renamed φ (λ t. IsElement braid.field t.coefficient) (λ t. IsElement braid.field t.coefficient) (λ t e. e) f h

-- whether f - g is zero in the algebra, in letters and in ranks
difference : (braid : BraidValue) → IsBraid braid → (order : List ℕ) → IsOrder braid.letters order → (m : ℕ) (f g : Combination) → IsOver braid.letters f → IsOver braid.letters g →
    is_in_kernel (relabelled order braid) m (minus (relabelled order braid).field (in_ranks order f) (in_ranks order g)) ≡ is_in_kernel braid m (minus braid.field f g)
difference braid is order o m f g of og =
    ap (λ k. is_in_kernel (relabelled order braid) m (minus k (in_ranks order f) (in_ranks order g))) (field_is braid order)
    ∙ ap (is_in_kernel (relabelled order braid) m) (renamed-minus (rank_of order) braid.field f g)
    ∙ kernel_is_relabelled braid is order o m (minus braid.field f g) (all-append (λ t. IsWordOver braid.letters t.word) f (scalar_multiple braid.field (negative braid.field 1) g) of (all-scalar_multiple (IsWordOver braid.letters) braid.field (negative braid.field 1) g og))

pub normal_forms_are_relabelled : NormalFormsAreRelabelled
normal_forms_are_relabelled braid is order o m f degree over = (here, λ g h. only g h)
  where
    new : BraidValue
    new = relabelled order braid

    ranks : Combination
    ranks = in_ranks order f

    form : Combination
    form = normal_form is_in_kernel new m ranks

    ranks_degree : HasDegree m ranks
    ranks_degree = all_renamed (rank_of order) (λ t. length t.word ≡ m) (λ t. length t.word ≡ m) (λ t size. length-map t.word (rank_of order) ∙ size) f degree

    ranks_are_over : IsOver new.letters ranks
    ranks_are_over = subst (λ n. IsOver n ranks) (sym (letters_are braid order)) (all_renamed (rank_of order) (λ t. IsWordOver braid.letters t.word) (λ t. IsWordOver braid.letters t.word) (λ t. ranks_over braid.letters order o t.word) f over)

    normal : IsNormalForm is_in_kernel new m ranks form
    normal = form_is_normal is_in_kernel new (relabelled_is_braid braid is order o).field m (linear braid is order o m) ranks ranks_degree ranks_are_over

    form_over : IsOver braid.letters form
    form_over = all_among (IsWordOver braid.letters) form (basis is_in_kernel new m) normal.least (all_over braid order m)

    letters_over_it : IsOver braid.letters (in_letters order form)
    letters_over_it = all_renamed (letter_at order) (λ t. IsWordOver braid.letters t.word) (λ t. IsWordOver braid.letters t.word) (λ t. letters_over braid.letters order o t.word) form form_over

    words_over : (g : Combination) → IsOver braid.letters g → AllByRecursion (IsWordOver braid.letters) (words_of g)
    words_over [] h = tt
    words_over (t ∷ g) h = (h.0, words_over g h.1)

    here : IsNormalFormBy order braid m f (form_by order braid m f)
    here = record {
      least = among_in_letters order (basis is_in_kernel new m) form normal.least;
      rising = subst (IsRisingInOrder order) (sym (words_renamed (letter_at order) form)) (rises_in_letters braid.letters order o (words_of form) (words_over form form_over) normal.ordered.rising);
      nonzero = all_renamed (letter_at order) _ _ (λ t h. h) form normal.ordered.nonzero;
      elements = elements_renamed (letter_at order) braid form (subst (λ k. AllElements k form) (field_is braid order) normal.elements);
      congruent =
          sym (difference braid is order o m f (in_letters order form) over letters_over_it)
          ∙ ap (λ g. is_in_kernel new m (minus new.field ranks g)) (ranks_renamed_back braid.letters order o form form_over)
          ∙ normal.congruent;
    }

    only : (g : Combination) → IsNormalFormBy order braid m f g → form_by order braid m f ≡ g
    only g h =
        let g_over : IsOver braid.letters g = over_from_among braid order o m g h.least in
        ap (in_letters order) (form_is is_in_kernel new (relabelled_is_braid braid is order o).field m (linear braid is order o m) ranks (in_ranks order g) (record {
          least = among_in_ranks braid order o m g h.least;
          ordered = record { rising = subst IsRising (sym (words_renamed (rank_of order) g)) (rises_in_ranks order (words_of g) h.rising); nonzero = all_renamed (rank_of order) _ _ (λ t n. n) g h.nonzero };
          elements = subst (λ k. AllElements k (in_ranks order g)) (sym (field_is braid order)) (elements_renamed (rank_of order) braid g h.elements);
          congruent = difference braid is order o m f g over g_over ∙ h.congruent;
        }))
        ∙ letters_renamed_back braid.letters order o g g_over

-- ---- relations

candidate_in_letters : (braid : BraidValue) (order : List ℕ) → IsOrder braid.letters order → (m : ℕ) (r : List ℕ) → Contains (candidates is_in_kernel (relabelled order braid) m) r → IsCandidateBy order braid m (renamed_word (letter_at order) r)
candidate_in_letters braid order o zero r i = ap (map (letter_at order)) (only (subst (λ ws. Contains ws r) (candidates_first is_in_kernel (relabelled order braid)) i))
  where
    only : Contains ([] ∷ []) r → r ≡ []
    only j = elim (contains_cases [] [] r j) [ inl same ↦ same | inr none ↦ absurd (contains_none r none) ]
candidate_in_letters braid order o (suc m) r i =
    let new : BraidValue = relabelled order braid in
    let (u, j, k) = from_flat_map (λ v. map (λ a. v ++ a ∷ []) (up_to new.letters)) r (basis is_in_kernel new m) (subst (λ ws. Contains ws r) (candidates_next is_in_kernel new m) i) in
    let (b, l, e) = from_map (λ a. u ++ a ∷ []) r (up_to new.letters) k in
    let letter : IsLetterOf braid.letters b = subst (λ n. IsLetterOf n b) (letters_are braid order) (from_up_to new.letters b l) in (
      map (letter_at order) u,
      letter_at order b,
      in_map (renamed_word (letter_at order)) u (basis is_in_kernel new m) j,
      letter_is_letter braid.letters order o b letter,
      ap (map (letter_at order)) e ∙ map-append (letter_at order) u (b ∷ []),
    )

candidate_in_ranks : (braid : BraidValue) (order : List ℕ) → IsOrder braid.letters order → (m : ℕ) (w : List ℕ) → IsCandidateBy order braid m w → Contains (candidates is_in_kernel (relabelled order braid) m) (renamed_word (rank_of order) w)
candidate_in_ranks braid order o zero w e =
    subst (λ v. Contains (candidates is_in_kernel (relabelled order braid) 0) (map (rank_of order) v)) (sym e)
    (subst (λ ws. Contains ws []) (sym (candidates_first is_in_kernel (relabelled order braid))) (contains_first [] []))
candidate_in_ranks braid order o (suc m) w (u, b, i, l, e) =
    let new : BraidValue = relabelled order braid in
    subst (Contains (candidates is_in_kernel new (suc m))) (sym (ap (map (rank_of order)) e ∙ map-append (rank_of order) u (b ∷ [])))
    (in_candidates is_in_kernel new m (map (rank_of order) u) (rank_of order b) (ranks_in_basis braid order o m u i).0 (subst (λ n. IsLetterOf n (rank_of order b)) (sym (letters_are braid order)) (rank_is_letter braid.letters order o b l)))

-- words by the order that are candidates are over the letters
candidate_over : (braid : BraidValue) (order : List ℕ) → IsOrder braid.letters order → (m : ℕ) (w : List ℕ) → IsCandidateBy order braid m w → IsWordOver braid.letters w
candidate_over braid order o zero w e = subst (IsWordOver braid.letters) (sym e) tt
candidate_over braid order o (suc m) w (u, b, i, l, e) = subst (IsWordOver braid.letters) (sym e) (word_over-append braid.letters u (b ∷ []) (ranks_in_basis braid order o m u i).1 (l, tt))

-- a relation by its word of ranks
abbrev pub relation_of : List ℕ → BraidValue → ℕ → List ℕ → PlainRelation
relation_of order braid m r = relation_in_letters order (relation_at is_in_kernel (relabelled order braid) m r)

-- the candidates on ranks that aren't least
abbrev others : List ℕ → BraidValue → ℕ → List (List ℕ)
others order braid m = filter (λ w. not (is_least is_in_kernel (relabelled order braid) w)) (candidates is_in_kernel (relabelled order braid) m)

relations_by_are : (order : List ℕ) (braid : BraidValue) (m : ℕ) → relations_by order braid m ≡ map (relation_of order braid m) (others order braid m)
relations_by_are order braid m =
    ap (map (relation_in_letters order)) (relations_are is_in_kernel (relabelled order braid) m) ∙ map-map (relation_in_letters order) (relation_at is_in_kernel (relabelled order braid) m) (others order braid m)

form_of_relation : (order : List ℕ) (braid : BraidValue) → IsOrder braid.letters order → (m : ℕ) (r : List ℕ) → IsWordOver braid.letters r → (relation_of order braid m r).form ≡ form_by order braid m (single (renamed_word (letter_at order) r))
form_of_relation order braid o m r over = ap (λ w. in_letters order (normal_form is_in_kernel (relabelled order braid) m (single w))) (sym (ranks_of_letters braid.letters order o r over))

same_relation : (v w : List ℕ) (f g : Combination) → v ≡ w → f ≡ g → ◌≡◌ {A = PlainRelation} (record { candidate = v; form = f }) (record { candidate = w; form = g })
same_relation v w f g a b = cc

pub relations_are_relabelled : RelationsAreRelabelled
relations_are_relabelled braid is order o m = (rising, λ r. (to r, back r))
  where
    new : BraidValue
    new = relabelled order braid

    over_of : (r : List ℕ) → Contains (candidates is_in_kernel new m) r → IsWordOver braid.letters r
    over_of r i = subst (λ n. IsWordOver n r) (letters_are braid order) (from_candidates is_in_kernel new m r i).1

    words : (rs : List (List ℕ)) → map (λ r. r.candidate) (map (relation_of order braid m) rs) ≡ map (renamed_word (letter_at order)) rs
    words [] = refl
    words (r ∷ rs) = ap (λ vs. map (letter_at order) r ∷ vs) (words rs)

    rising : IsRisingInOrder order (map (λ r. r.candidate) (relations_by order braid m))
    rising =
        subst (IsRisingInOrder order) (sym (ap (map (λ r. r.candidate)) (relations_by_are order braid m) ∙ words (others order braid m)))
        (rises_in_letters braid.letters order o (others order braid m)
        (all_of_entries (IsWordOver braid.letters) (others order braid m) (λ r i. over_of r (from_filter (λ w. not (is_least is_in_kernel new w)) r (candidates is_in_kernel new m) i).0))
        (rising-filter (λ w. not (is_least is_in_kernel new w)) (candidates is_in_kernel new m) (candidates_rise is_in_kernel new m)))

    to : (r : PlainRelation) → Contains (relations_by order braid m) r → IsRelationBy order braid m r
    to r i =
        let (w, j, e) = from_map (relation_of order braid m) r (others order braid m) (subst (λ rs. Contains rs r) (relations_by_are order braid m) i) in
        let (c, other) = from_filter (λ v. not (is_least is_in_kernel new v)) w (candidates is_in_kernel new m) j in
        let over : IsWordOver braid.letters w = over_of w c in
        subst (IsRelationBy order braid m) (sym e) (record {
          candidate = candidate_in_letters braid order o m w c;
          other = λ least.
              let yes : is_least is_in_kernel new w ≡ true =
              ap (is_least is_in_kernel new) (sym (ranks_of_letters braid.letters order o w over)) ∙ least_in_ranks braid is order o (map (letter_at order) w) (letters_over braid.letters order o w over) least in
              let bad : false ≡ true = sym (ap not yes) ∙ other in absurd (let c : false ≡ true = bad in cc);
          form = form_of_relation order braid o m w over;
        })

    unless : (b : Bool) → (b ≡ true → ⊥) → not b ≡ true
    unless true h = absurd (h refl)
    unless false h = refl

    back : (r : PlainRelation) → IsRelationBy order braid m r → Contains (relations_by order braid m) r
    back r h =
        let w : List ℕ = r.candidate in
        let ranks : List ℕ = map (rank_of order) w in
        let over : IsWordOver braid.letters w = candidate_over braid order o m w h.candidate in
        let word : map (letter_at order) ranks ≡ w = letters_of_ranks braid.letters order o w over in
        let kept : Contains (others order braid m) ranks =
        in_filter (λ v. not (is_least is_in_kernel new v)) ranks (candidates is_in_kernel new m) (candidate_in_ranks braid order o m w h.candidate)
        (unless (is_least is_in_kernel new ranks) (λ yes. h.other (subst (IsLeastWordBy is_in_kernel order braid) word (least_in_letters braid is order o ranks (ranks_over braid.letters order o w over) yes)))) in
        subst (λ rs. Contains rs r) (sym (relations_by_are order braid m))
        (subst (Contains (map (relation_of order braid m) (others order braid m))) (same_relation (map (letter_at order) ranks) w (form_by order braid m (single w)) r.form word (sym h.form))
        (in_map (relation_of order braid m) ranks (others order braid m) kept))
