-- Sums of parts: how they grow, and what they stand for.
use Rattle.std.proofs.Common.{◌≡◌, ◌≤◌, ◌<◌, ℕ, zero, suc, ◌+◌, List, [], ◌∷◌, ◌++◌, length, get_or, set, take, replicate, refl, sym, ◌∙◌, ap, ap₂, subst, arith, append_assoc}
use Rattle.std.specs.List.{AllByRecursion, Contains}
use Rattle.std.proofs.lemmas.List.{append-nil, length-set}
use Rattle.std.proofs.lemmas.List.Elements.{All-from_recursion}
use Rattle.nichols_field.specs.Field.{FieldValue, IsField, plus, times, element_of_sum}
use Rattle.nichols_field.proofs.FieldAlgebra.{zero_plus}
use Rattle.nichols_field.proofs.FieldLaws.{plus_comm}
use Rattle.nichols_tensor.specs.Combination.{Combination, HasSameValues, Term, scalar_multiple, value_at}
use Rattle.nichols_tensor.proofs.Linear.{same_append}
use Rattle.nichols_tensor.proofs.Values.{value_at-append, value_is_element}
use Rattle.nichols_braid.specs.Braid.{BraidValue}
use Rattle.nichols_braid.specs.Products.{products}
use Rattle.nichols_value.specs.Block.{block_basis}
use Rattle.nichols_reduce.specs.Sums.{HasGrownBy, combination_of}
use Rattle.nichols_reduce.proofs.GrowingSums.{combination_at, combination_length, grown_by_next, grown_by_term, zeros_are_zero}
use Rattle.nichols_product.specs.Parts.{AreParts, AreWithin, IsPart, element_of, total}
use Rattle.nichols_product.specs.declared.parts.Part.{Part}

-- ---- sums over words

-- a multiple of one sum more
pub grown_at : (k : FieldValue) → IsField k → (ws : List (List ℕ)) (form a b : List ℕ) (by i x c : ℕ) → length form ≡ length ws → length b ≡ length form → i < length form → c ≡ element_of_sum k (get_or form i 0) →
    element_of_sum k x ≡ plus k (element_of_sum k (get_or b i 0)) (times k by c) → HasGrownBy k ws a (scalar_multiple k by (take i (combination_of k ws form))) b → HasGrownBy k ws a (scalar_multiple k by (take (i + 1) (combination_of k ws form))) (set b i x)
grown_at k is ws form a b by i x c width same less c_is here h =
    let w : List ℕ = get_or ws i [] in
    let t : Term = record { word = w; coefficient = c } in
    let inside : i < length ws = omega (arith, width, less) in
    let at : t ≡ get_or (combination_of k ws form) i t = ap (λ n. record { word = w; coefficient = n }) c_is ∙ sym (combination_at k ws form i t [] width inside) in
    grown_by_next k is ws a b (set b i x) by (combination_of k ws form) i t (omega (arith, combination_length k ws form width, inside)) at h
    (grown_by_term k is ws b i x by c w [] inside (same ∙ width) (length-set b i x) here refl)

-- ---- the sum of parts

pub total-append : (braid : BraidValue) (ps qs : List Part) → total braid (ps ++ qs) ≡ total braid ps ++ total braid qs
unfolding total
total-append braid [] qs = refl
total-append braid (p ∷ ps) qs = ap (λ f. element_of braid p ++ f) (total-append braid ps qs) ∙ sym (append_assoc (element_of braid p) (total braid ps) (total braid qs))

-- the middle one of three goes to the end
last_moved : (k : FieldValue) → IsField k → (f g h : Combination) → HasSameValues k ((f ++ g) ++ h) ((f ++ h) ++ g)
last_moved k is f g h v =
    ap (λ e. value_at k e v) (append_assoc f g h)
    ∙ same_append k is f (g ++ h) f (h ++ g) (λ u. refl) (λ u. value_at-append k is g h u ∙ plus_comm k (value_at k g u) (value_at k h u) ∙ sym (value_at-append k is h g u)) v
    ∙ ap (λ e. value_at k e v) (sym (append_assoc f h g))

-- one part has grown
pub total-set : (braid : BraidValue) → IsField braid.field → (ps : List Part) (i : ℕ) (p q : Part) (f : Combination) → i < length ps → p ≡ get_or ps i p → HasSameValues braid.field (element_of braid q) (element_of braid p ++ f) → HasSameValues braid.field (total braid (set ps i q)) (total braid ps ++ f)
unfolding total
total-set braid is [] i p q f less at same = absurd (omega arith)
total-set braid is (o ∷ ps) zero p q f less at same = λ v.
    same_append braid.field is (element_of braid q) (total braid ps) (element_of braid o ++ f) (total braid ps)
    (subst (λ x. HasSameValues braid.field (element_of braid q) (element_of braid x ++ f)) at same) (λ u. refl) v
    ∙ last_moved braid.field is (element_of braid o) f (total braid ps) v
total-set braid is (o ∷ ps) (suc i) p q f less at same = λ v.
    same_append braid.field is (element_of braid o) (total braid (set ps i q)) (element_of braid o) (total braid ps ++ f) (λ u. refl) (total-set braid is ps i p q f (omega arith) at same) v
    ∙ ap (λ e. value_at braid.field e v) (sym (append_assoc (element_of braid o) (total braid ps) f))

pub all-set : (P : Part → Type 0) (ps : List Part) (i : ℕ) (q : Part) → AllByRecursion P ps → P q → AllByRecursion P (set ps i q)
all-set P [] i q h e = h
all-set P (o ∷ ps) zero q h e = (e, h.1)
all-set P (o ∷ ps) (suc i) q h e = (h.0, all-set P ps i q h.1 e)

pub all-push : (P : Part → Type 0) (ps : List Part) (q : Part) → AllByRecursion P ps → P q → AllByRecursion P (ps ++ q ∷ [])
all-push P [] q h e = (e, tt)
all-push P (o ∷ ps) q h e = (h.0, all-push P ps q h.1 e)

-- ---- a multiple of sums over the least words of a block is added

pub record HasGained (braid : BraidValue) (last degree : ℕ) (f : Combination) (old new : List Part) : Type 0 where
  pub parts : AreParts braid last new
  pub within : (n : ℕ) → degree ≤ n → AreWithin n old → AreWithin n new
  pub values : HasSameValues braid.field (total braid new) (total braid old ++ f)

-- to the part of the block
pub gained_there : (braid : BraidValue) → IsField braid.field → (last degree : ℕ) (g form sums : List ℕ) (by i : ℕ) (ps : List Part) (p q : Part) → AreParts braid last ps → i < length ps → p ≡ get_or ps i p → IsPart braid last p →
    p.degree ≡ degree → p.product ≡ g → q.degree ≡ degree → q.product ≡ g → length form ≡ length (block_basis braid degree g) →
    ((ws : List (List ℕ)) → length form ≡ length ws → HasGrownBy braid.field ws p.sums.items (scalar_multiple braid.field by (combination_of braid.field ws form)) q.sums.items) →
    HasGained braid last degree (scalar_multiple braid.field by (combination_of braid.field (block_basis braid degree g) form)) ps (set ps i q)
gained_there braid is last degree g form sums by i ps p q are less at part pd pg qd qg width grown =
    let ws : List (List ℕ) = block_basis braid degree g in
    let h : HasGrownBy braid.field ws p.sums.items (scalar_multiple braid.field by (combination_of braid.field ws form)) q.sums.items = grown ws width in
    let pw : block_basis braid p.degree p.product ≡ ws = ap₂ (block_basis braid) pd pg in
    let qw : block_basis braid q.degree q.product ≡ ws = ap₂ (block_basis braid) qd qg in
    record {
      parts = all-set (IsPart braid last) ps i q are (record {
        made = subst (λ d. d ≤ last) (pd ∙ sym qd) part.made;
        there = subst (λ x. Contains (products braid q.degree) x) (pg ∙ sym qg) (subst (λ d. Contains (products braid d) p.product) (pd ∙ sym qd) part.there);
        width = h.width ∙ ap length (sym qw);
      });
      within = λ n less_n old. all-set (λ x. x.degree ≤ n) ps i q old (subst (λ d. d ≤ n) (sym qd) less_n);
      values = total-set braid is ps i p q (scalar_multiple braid.field by (combination_of braid.field ws form)) less at
          (λ v. ap (λ us. value_at braid.field (combination_of braid.field us q.sums.items) v) qw ∙ h.values v
          ∙ ap (λ us. value_at braid.field (combination_of braid.field us p.sums.items ++ scalar_multiple braid.field by (combination_of braid.field ws form)) v) (sym pw));
    }

-- sums that grew from 0
grown_from_zero : (k : FieldValue) → IsField k → (ws : List (List ℕ)) (zeros new : List ℕ) (n : ℕ) (f : Combination) → zeros ≡ replicate n 0 → HasGrownBy k ws zeros f new → HasSameValues k (combination_of k ws new) f
grown_from_zero k is ws zeros new n f e h v =
    h.values v ∙ value_at-append k is (combination_of k ws zeros) f v
    ∙ ap (λ a. plus k a (value_at k f v)) (ap (λ ns. value_at k (combination_of k ws ns) v) e ∙ zeros_are_zero k is ws n v)
    ∙ zero_plus k (value_at k f v) (value_is_element k is f v)

pub one_part : (braid : BraidValue) (p : Part) → total braid (p ∷ []) ≡ element_of braid p
unfolding total
one_part braid p = append-nil (element_of braid p)

-- as a part of its own
pub gained_new : (braid : BraidValue) → IsField braid.field → (last degree : ℕ) (g form zeros : List ℕ) (by n : ℕ) (ps : List Part) (q : Part) → AreParts braid last ps → degree ≤ last → Contains (products braid degree) g →
    q.degree ≡ degree → q.product ≡ g → length form ≡ length (block_basis braid degree g) → zeros ≡ replicate n 0 →
    ((ws : List (List ℕ)) → length form ≡ length ws → HasGrownBy braid.field ws zeros (scalar_multiple braid.field by (combination_of braid.field ws form)) q.sums.items) →
    HasGained braid last degree (scalar_multiple braid.field by (combination_of braid.field (block_basis braid degree g) form)) ps (ps ++ q ∷ [])
gained_new braid is last degree g form zeros by n ps q are made there qd qg width nothing grown =
    let k : FieldValue = braid.field in
    let ws : List (List ℕ) = block_basis braid degree g in
    let f : Combination = scalar_multiple k by (combination_of k ws form) in
    let h : HasGrownBy k ws zeros f q.sums.items = grown ws width in
    let qw : block_basis braid q.degree q.product ≡ ws = ap₂ (block_basis braid) qd qg in
    record {
      parts = all-push (IsPart braid last) ps q are (record {
        made = subst (λ d. d ≤ last) (sym qd) made;
        there = subst (λ x. Contains (products braid q.degree) x) (sym qg) (subst (λ d. Contains (products braid d) g) (sym qd) there);
        width = h.width ∙ ap length (sym qw);
      });
      within = λ m less old. all-push (λ x. x.degree ≤ m) ps q old (subst (λ d. d ≤ m) (sym qd) less);
      values = λ v.
          ap (λ e. value_at k e v) (total-append braid ps (q ∷ []))
          ∙ same_append k is (total braid ps) (total braid (q ∷ [])) (total braid ps) f (λ u. refl)
          (λ u. ap (λ e. value_at k e u) (one_part braid q) ∙ ap (λ us. value_at k (combination_of k us q.sums.items) u) qw
          ∙ grown_from_zero k is ws zeros q.sums.items n f nothing h u) v;
    }

-- what holds of each part holds of that at a place
pub part_at : (P : Part → Type 0) (ps : List Part) (i : ℕ) (p : Part) → AllByRecursion P ps → i < length ps → p ≡ get_or ps i p → P p
part_at P ps i p h less at = subst P (sym at) (All-from_recursion P ps h i p less)
