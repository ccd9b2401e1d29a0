-- What a certificate certifies is right.
use Rattle.std.proofs.Common.{◌≡◌, ℕ, suc, ◌+◌, Bool, true, false, cond, List, [], ◌∷◌, map, length, refl, sym, ◌∙◌, ap₂, subst, arith, Option, None, Some, Ok, Err, codes}
use Rattle.std.specs.Prelude.{Result, option_and_then}
use Rattle.std.specs.List.{AllByRecursion, range_with_len}
use Rattle.std.proofs.lemmas.Option.{same_Some}
use Rattle.nichols_field.specs.Field.{FieldValue, IsField}
use Rattle.nichols_tensor.specs.Combination.{Combination, AllElements}
use Rattle.nichols_tensor.specs.InOrder.{in_order}
use Rattle.nichols_tensor.specs.Relation.{PlainRelation}
use Rattle.nichols_tensor.specs.WordOrder.{IsOrdered}
use Rattle.nichols_tensor.proofs.InOrder.{in_order_is_ordered, elements-in_order}
use Rattle.nichols_braid.specs.Braid.{BraidValue, IsBraid}
use Rattle.nichols_braid.specs.Kernel.{is_in_kernel}
use Rattle.nichols_braid.specs.Least.{basis, relations}
use Rattle.nichols_braid.specs.Order.{in_ranks}
use Rattle.nichols_expression.specs.Reader.{Read, expression_of, read_terms, value_or_fault}
use Rattle.nichols_expression.proofs.Values.{read_elements, ranks_elements}
use Rattle.nichols_input.specs.Shapes.{put_first}
use Rattle.nichols_check.specs.Table.{Table, AreInOrder}
use Rattle.nichols_check.specs.TableRefusal.{TableRefusal, table_refusal}
use Rattle.nichols_check.specs.Texts.{array_of, combination_of, combination_in, each_in, fit, pair_in, relation_from, relation_in, table_at, table_from, table_in, table_of, value_read, word_in}
use Rattle.nichols_check.specs.Certificate.{CertificateRefusal, CertifiedValue, DegreeValue, certified, certified_by, certified_from, certified_table, degree_zero, from_zero, put_degree, tables_in, unless_refused}
use Rattle.nichols_check.specs.Laws.{CertifiedDegreesAreRight, degrees_of}
use Rattle.nichols_check.proofs.DegreeZero.{degree_zero_is}
use Rattle.nichols_check.proofs.RightTables.{passing_tables_are_right}
use Rattle.nichols_check.proofs.Unrefused.{unrefused_tables_pass}
use Rattle.toml.specs.Data.{Data, Items, no_items, item, Members, as_array, as_str, as_table, get_member}

-- ---- the forms of relations that are read are in order

abbrev IsKept : FieldValue → Combination → Type 0
IsKept k f = IsOrdered f × AllElements k f

kept_value : (braid : BraidValue) → IsField braid.field → (order text : List ℕ) (f : Combination) → combination_of braid order text ≡ Some f → IsKept braid.field f
unfolding combination_of expression_of
kept_value braid is order text f e = at (read_terms braid.field braid.letters text) refl e
  where
    at : (r : Read) → read_terms braid.field braid.letters text ≡ r → value_read (value_or_fault braid.field order text r) ≡ Some f → IsKept braid.field f
    at (Ok terms) read h =
        subst (IsKept braid.field) (same_Some (in_order braid.field (in_ranks order terms)) f h)
        (in_order_is_ordered braid.field (in_ranks order terms), elements-in_order braid.field is (in_ranks order terms) (ranks_elements braid.field order terms (read_elements braid.field is braid.letters text terms read)))
    at (Err fault) read h = absurd cc

kept_in : (braid : BraidValue) → IsField braid.field → (order : List ℕ) (d : Data) (f : Combination) → combination_in braid order d ≡ Some f → IsKept braid.field f
kept_in braid is order d f e = at (as_str d) e
  where
    at : (o : Option (List ℕ)) → option_and_then (combination_of braid order) o ≡ Some f → IsKept braid.field f
    at None h = absurd cc
    at (Some text) h = kept_value braid is order text f h

kept_pair : (braid : BraidValue) → IsField braid.field → (order : List ℕ) (ds : Items) (r : PlainRelation) → pair_in braid order ds ≡ Some r → IsKept braid.field r.form
kept_pair braid is order no_items r e = absurd cc
kept_pair braid is order (item d no_items) r e = absurd cc
kept_pair braid is order (item d (item b no_items)) r e = at (word_in braid order d) (combination_in braid order b) refl e
  where
    at : (w : Option (List ℕ)) (o : Option Combination) → combination_in braid order b ≡ o → relation_from w o ≡ Some r → IsKept braid.field r.form
    at None o read h = absurd cc
    at (Some w) None read h = absurd cc
    at (Some w) (Some f) read h =
        subst (λ (s : PlainRelation). IsKept braid.field s.form) (same_Some (record { candidate = w; form = f }) r h) (kept_in braid is order b f read)
kept_pair braid is order (item d (item b (item g ds))) r e = absurd cc

kept_relation : (braid : BraidValue) → IsField braid.field → (order : List ℕ) (d : Data) (r : PlainRelation) → relation_in braid order d ≡ Some r → IsKept braid.field r.form
kept_relation braid is order d r e = at (as_array d) e
  where
    at : (o : Option Items) → option_and_then (pair_in braid order) o ≡ Some r → IsKept braid.field r.form
    at None h = absurd cc
    at (Some ds) h = kept_pair braid is order ds r h

all_put : {X : Type 0} (P : X → Type 0) (o : Option X) (rest : Option (List X)) → ((x : X) → o ≡ Some x → P x) → ((xs : List X) → rest ≡ Some xs → AllByRecursion P xs) → (ys : List X) → put_first o rest ≡ Some ys → AllByRecursion P ys
all_put P None rest one more ys is = absurd cc
all_put P (Some x) None one more ys is = absurd cc
all_put P (Some x) (Some xs) one more ys is = subst (AllByRecursion P) (same_Some (x ∷ xs) ys is) (one x refl, more xs refl)

all_each : {X : Type 0} (P : X → Type 0) (read : Data → Option X) → ((d : Data) (x : X) → read d ≡ Some x → P x) → (ds : Items) (xs : List X) → each_in read ds ≡ Some xs → AllByRecursion P xs
all_each P read one no_items xs is = subst (AllByRecursion P) (same_Some [] xs is) tt
all_each P read one (item d ds) xs is = all_put P (read d) (each_in read ds) (one d) (all_each P read one ds) xs is

-- relations at a key
kept_relations : (braid : BraidValue) → IsField braid.field → (order : List ℕ) (o : Option Data) (rs : List PlainRelation) → option_and_then (array_of (relation_in braid order)) o ≡ Some rs → AreInOrder braid.field rs
kept_relations braid is order None rs e = absurd cc
kept_relations braid is order (Some d) rs e = at (as_array d) e
  where
    at : (o : Option Items) → option_and_then (each_in (relation_in braid order)) o ≡ Some rs → AreInOrder braid.field rs
    at None h = absurd cc
    at (Some ds) h = all_each (λ (r : PlainRelation). IsKept braid.field r.form) (relation_in braid order) (kept_relation braid is order) ds rs h

kept_from : (k : FieldValue) (o : Option (List (List ℕ))) (p : Option (List PlainRelation)) (q : Option (List (List Combination))) (t : Table) → ((rs : List PlainRelation) → p ≡ Some rs → AreInOrder k rs) → table_from o p q ≡ Some t → AreInOrder k t.relations
kept_from k None p q t all e = absurd cc
kept_from k (Some ws) None q t all e = absurd cc
kept_from k (Some ws) (Some rs) None t all e = absurd cc
kept_from k (Some ws) (Some rs) (Some tests) t all e = at (fit ws tests) e
  where
    at : (b : Bool) → cond b (Some (record { basis = ws; relations = rs; tests = tests })) None ≡ Some t → AreInOrder k t.relations
    at false h = absurd cc
    at true h = subst (λ (s : Table). AreInOrder k s.relations) (same_Some (record { basis = ws; relations = rs; tests = tests }) t h) (all rs refl)

kept_table : (braid : BraidValue) → IsField braid.field → (order : List ℕ) (d : Data) (t : Table) → table_of braid order d ≡ Some t → AreInOrder braid.field t.relations
unfolding table_in
kept_table braid is order d t e = at (as_table d) e
  where
    counted : (ms : Members) (b : Bool) → cond b (table_at braid order ms) None ≡ Some t → AreInOrder braid.field t.relations
    counted ms false h = absurd cc
    counted ms true h =
        kept_from braid.field _ (option_and_then (array_of (relation_in braid order)) (get_member (codes "relations") ms)) _ t
        (kept_relations braid is order (get_member (codes "relations") ms)) h

    at : (o : Option Members) → option_and_then (table_in braid order) o ≡ Some t → AreInOrder braid.field t.relations
    at None h = absurd cc
    at (Some ms) h = counted ms _ h

-- ---- degrees

right_degree : BraidValue → ℕ → DegreeValue
right_degree braid m = record { basis = basis is_in_kernel braid m; relations = relations is_in_kernel braid m }

one_right : (braid : BraidValue) → IsBraid braid → (order : List ℕ) (m : ℕ) (o : Option Table) (d : DegreeValue) → ((t : Table) → o ≡ Some t → AreInOrder braid.field t.relations) →
    certified_table braid order m o ≡ Ok d → d ≡ right_degree braid (suc m)
unfolding right_degree
one_right braid is order m None d kept e = absurd cc
one_right braid is order m (Some t) d kept e = at (table_refusal braid order m t) refl e
  where
    same : (t : Table) (d : DegreeValue) (ws : List (List ℕ)) (rs : List PlainRelation) → unless_refused order (suc m) t None ≡ Ok d → t.basis ≡ ws → t.relations ≡ rs → d ≡ record { basis = ws; relations = rs }
    same t d ws rs h p q = let g : record { basis = t.basis; relations = t.relations } ≡ d = cc in sym g ∙ ap₂ (λ (ws : List (List ℕ)) (rs : List PlainRelation). record { basis = ws; relations = rs }) p q

    at : (r : Option TableRefusal) → table_refusal braid order m t ≡ r → unless_refused order (suc m) t r ≡ Ok d → d ≡ right_degree braid (suc m)
    at None none h =
        let (ws, rs) = passing_tables_are_right braid is m t (kept t refl) (unrefused_tables_pass braid is order m t none) in
        same t d (basis is_in_kernel braid (suc m)) (relations is_in_kernel braid (suc m)) h ws rs
    at (Some refusal) some h = absurd cc

all_right : (braid : BraidValue) → IsBraid braid → (order : List ℕ) (m : ℕ) (ds : Items) (degrees : List DegreeValue) → certified_from braid order m ds ≡ Ok degrees → degrees ≡ map (right_degree braid) (range_with_len (suc m) (length degrees))
unfolding certified_from
all_right braid is order m no_items degrees e = let same : [] ≡ degrees = cc in subst (λ (ds : List DegreeValue). ds ≡ map (right_degree braid) (range_with_len (suc m) (length ds))) same refl
all_right braid is order m (item d ds) degrees e = at (certified_table braid order m (table_of braid order d)) refl (certified_from braid order (suc m) ds) (all_right braid is order (suc m) ds) e
  where
    at : (one : Result DegreeValue CertificateRefusal) → certified_table braid order m (table_of braid order d) ≡ one → (rest : Result (List DegreeValue) CertificateRefusal) →
        ((ds : List DegreeValue) → rest ≡ Ok ds → ds ≡ map (right_degree braid) (range_with_len (suc (suc m)) (length ds))) → put_degree one rest ≡ Ok degrees → degrees ≡ map (right_degree braid) (range_with_len (suc m) (length degrees))
    at (Err refusal) is_one rest right h = absurd cc
    at (Ok one) is_one (Err refusal) right h = absurd cc
    at (Ok one) is_one (Ok more) right h =
        let same : one ∷ more ≡ degrees = cc in
        let first : one ≡ right_degree braid (suc m) = one_right braid is order m (table_of braid order d) one (kept_table braid is.field order d) is_one in
        let next : suc (suc m) ≡ suc m + 1 = omega arith in
        let rest : more ≡ map (right_degree braid) (range_with_len (suc m + 1) (length more)) = subst (λ (k : ℕ). more ≡ map (right_degree braid) (range_with_len k (length more))) next (right more refl) in
        subst (λ (ds : List DegreeValue). ds ≡ map (right_degree braid) (range_with_len (suc m) (length ds))) same (ap₂ (λ (x : DegreeValue) (xs : List DegreeValue). x ∷ xs) first rest)

pub certified_degrees_are_right : CertifiedDegreesAreRight
unfolding certified right_degree
certified_degrees_are_right d is tables c e = by_items (option_and_then tables_in tables) e
  where
    by_degrees : (r : Result (List DegreeValue) CertificateRefusal) → ((ds : List DegreeValue) → r ≡ Ok ds → ds ≡ map (right_degree d.braid) (range_with_len 1 (length ds))) →
        from_zero d r ≡ Ok c → c.degrees ≡ degrees_of is_in_kernel d.braid (length c.degrees)
    by_degrees (Err refusal) right h = absurd cc
    by_degrees (Ok ds) right h =
        let same : record { braid = d.braid; order = d.order; degrees = degree_zero ∷ ds } ≡ c = cc in
        subst (λ (c : CertifiedValue). c.degrees ≡ map (right_degree d.braid) (range_with_len 0 (length c.degrees))) same (ap₂ (λ (x : DegreeValue) (xs : List DegreeValue). x ∷ xs) (degree_zero_is d.braid is) (right ds refl))

    by_items : (o : Option Items) → certified_by d o ≡ Ok c → c.degrees ≡ degrees_of is_in_kernel d.braid (length c.degrees)
    by_items None h = absurd cc
    by_items (Some ds) h = by_degrees (certified_from d.braid d.order 0 ds) (all_right d.braid is d.order 0 ds) h
