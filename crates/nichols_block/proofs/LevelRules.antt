-- The rules of levels, degree by degree.
use Rattle.std.proofs.Common.{◌≡◌, ℕ, zero, suc, ◌+◌, ◌-◌, ◌<◌, ◌≤◌, Bool, true, false, IsTrue, nat_eq, List, [], ◌∷◌, ◌++◌, length, map, filter, get_or, set, refl, sym, ◌∙◌, ap, subst, arith, length-append, length-set}
use Rattle.std.proofs.lemmas.Bool.Decides.{Decides-eqb}
use Rattle.std.proofs.lemmas.List.{nil_from_length}
use Rattle.std.specs.Bool.{MatchBool}
use Rattle.std.specs.List.{Contains}
use Rattle.nichols_tensor.specs.Positions.{word_at}
use Rattle.nichols_tensor.specs.Words.{up_to, words}
use Rattle.nichols_tensor.proofs.AllWords.{from_words}
use Rattle.nichols_tensor.proofs.Entries.{contains_first, contains_none, from_filter}
use Rattle.nichols_tensor.proofs.Rising.{position_of}
use Rattle.nichols_braid.specs.declared.TheConstants.{MOST_DEGREES}
use Rattle.nichols_braid.specs.Braid.{BraidValue}
use Rattle.nichols_braid.specs.Kernel.{is_killed}
use Rattle.nichols_braid.specs.Least.{basis, is_least}
use Rattle.nichols_braid.specs.Product.{has_product, product_of}
use Rattle.nichols_braid.specs.Products.{products}
use Rattle.nichols_braid.proofs.NextProducts.{products_first}
use Rattle.nichols_braid.proofs.ProductListLaws.{products_are_of_words}
use Rattle.nichols_braid.proofs.InlineProducts.{product_of_none}
use Rattle.nichols_value.specs.declared.shared.Shared.{Shared}
use Rattle.nichols_value.specs.declared.value.BlockValue.{BlockValue}
use Rattle.nichols_value.specs.declared.value.BlockValue.TheVariants.{Rule, Over, Void, Starved}
use Rattle.nichols_value.specs.Block.{block_basis}
use Rattle.nichols_value.specs.Rule.{IsRuleOf, rule_of, lean_rule_of}
use Rattle.nichols_value.specs.Worth.{lean_value, worth}
use Rattle.nichols_value.proofs.Blocks.{in_block_basis}
use Rattle.nichols_block.specs.declared.levels.Degree.{Degree}
use Rattle.nichols_block.specs.Levels.{AreDegrees, AreKept, AreLevels, IsKept, LevelsValue, rules_of}

-- ---- the values of a degree

pub kept_count : (braid : BraidValue) (last m : ℕ) (gs : List (List ℕ)) (vs : List Shared) → AreKept braid last m gs vs → length vs ≡ length gs
kept_count braid last m [] [] h = refl
kept_count braid last m [] (v ∷ vs) h = absurd h
kept_count braid last m (g ∷ gs) [] h = absurd h
kept_count braid last m (g ∷ gs) (v ∷ vs) h = ap suc (kept_count braid last m gs vs h.1)

pub kept_at : (braid : BraidValue) (last m : ℕ) (gs : List (List ℕ)) (vs : List Shared) (k : ℕ) (v : Shared) → AreKept braid last m gs vs → k < length gs → v ≡ get_or vs k v → IsKept braid last m (word_at gs k) (worth v)
kept_at braid last m [] vs k v h less e = absurd (omega arith)
kept_at braid last m (g ∷ gs) [] k v h less e = absurd h
kept_at braid last m (g ∷ gs) (x ∷ vs) zero v h less e = subst (λ s. IsKept braid last m g (worth s)) (sym e) h.0
kept_at braid last m (g ∷ gs) (x ∷ vs) (suc k) v h less e = kept_at braid last m gs vs k v h.1 (omega arith) e

-- in the last degree a kept value is the whole rule
pub kept_whole : (braid : BraidValue) (last m : ℕ) (g : List ℕ) (value : BlockValue) → m ≡ last → IsKept braid last m g value → value ≡ Rule (rule_of braid m g)
kept_whole braid last m g (Rule r) e h = ap Rule (h.1 e)
kept_whole braid last m g (Over n) e h = absurd h
kept_whole braid last m g Void e h = absurd h
kept_whole braid last m g Starved e h = absurd h

pub rule_is_rule_of : (braid : BraidValue) (m : ℕ) (g : List ℕ) → IsRuleOf braid m g (rule_of braid m g)
unfolding rule_of lean_rule_of
rule_is_rule_of braid m g = refl

-- rules of the blocks of the last degree are kept
pub whole_kept : (braid : BraidValue) (m : ℕ) (gs : List (List ℕ)) (vs : List Shared) → map worth vs ≡ map Rule (map (rule_of braid m) gs) → AreKept braid m m gs vs
whole_kept braid m [] [] e = tt
whole_kept braid m [] (v ∷ vs) e = absurd (let no : map worth (v ∷ vs) ≡ [] = e in cc)
whole_kept braid m (g ∷ gs) [] e = absurd (let no : [] ≡ map Rule (map (rule_of braid m) (g ∷ gs)) = e in cc)
whole_kept braid m (g ∷ gs) (v ∷ vs) e =
    let here : worth v ≡ Rule (rule_of braid m g) = cc in
    let rest : map worth vs ≡ map Rule (map (rule_of braid m) gs) = cc in
    (subst (IsKept braid m m g) (sym here) (rule_is_rule_of braid m g, λ same. refl), whole_kept braid m gs vs rest)

pub rules_kept : (braid : BraidValue) (m : ℕ) (vs : List Shared) → map worth vs ≡ map Rule (rules_of braid m) → AreKept braid m m (products braid m) vs
unfolding rules_of
rules_kept braid m vs e = whole_kept braid m (products braid m) vs e

-- ---- a value that lets go what serves the degree above

lean_kept : (braid : BraidValue) (last m : ℕ) (g : List ℕ) (value : BlockValue) → m < last → IsKept braid last m g value → IsKept braid last m g (lean_value value)
lean_kept braid last m g (Rule r) less h = (h.0, λ same. absurd (omega arith))
lean_kept braid last m g (Over n) less h = h
lean_kept braid last m g Void less h = h
lean_kept braid last m g Starved less h = h

-- before the last degree a value is kept whether it lets go or not
let_go_kept : (braid : BraidValue) (last m : ℕ) (g : List ℕ) (old new : BlockValue) (went : Bool) → m < last → MatchBool went (new ≡ lean_value old) (new ≡ old) → IsKept braid last m g old → IsKept braid last m g new
let_go_kept braid last m g old new true less e h = subst (IsKept braid last m g) (sym e) (lean_kept braid last m g old less h)
let_go_kept braid last m g old new false less e h = subst (IsKept braid last m g) (sym e) h

pub let_go_at : (braid : BraidValue) (last m : ℕ) (gs : List (List ℕ)) (vs : List Shared) (k : ℕ) (old new : Shared) (went : Bool) → m < last → k < length vs →
    MatchBool went (worth new ≡ lean_value (worth (get_or vs k old))) (worth new ≡ worth (get_or vs k old)) → AreKept braid last m gs vs → AreKept braid last m gs (set vs k new)
let_go_at braid last m [] [] k old new went less inside e h = absurd (omega arith)
let_go_at braid last m [] (v ∷ vs) k old new went less inside e h = absurd h
let_go_at braid last m (g ∷ gs) [] k old new went less inside e h = absurd h
let_go_at braid last m (g ∷ gs) (v ∷ vs) zero old new went less inside e h = (let_go_kept braid last m g (worth v) (worth new) went less e h.0, h.1)
let_go_at braid last m (g ∷ gs) (v ∷ vs) (suc k) old new went less inside e h = (h.0, let_go_at braid last m gs vs k old new went less (omega arith) e h.1)

-- ---- all degrees

pub degree_at : (braid : BraidValue) (last n i j : ℕ) (ds : List Degree) (d : Degree) → AreDegrees braid last n ds → j ≡ n + i → i < length ds → d ≡ get_or ds i d →
    (d.products ≡ products braid j) × AreKept braid last j (products braid j) d.values.items
degree_at braid last n i j [] d h e less at = absurd (omega arith)
degree_at braid last n zero j (x ∷ ds) d h e less at =
    let here : j ≡ n = omega arith in
    subst (λ k. (d.products ≡ products braid k) × AreKept braid last k (products braid k) d.values.items) (sym here)
    (subst (λ (y : Degree). (y.products ≡ products braid n) × AreKept braid last n (products braid n) y.values.items) (sym at) (h.0, h.1))
degree_at braid last n (suc i) j (x ∷ ds) d h e less at = degree_at braid last (suc n) i j ds d h.2 (omega arith) (omega arith) at

-- a further degree takes nothing from the values that are kept
older_kept : (braid : BraidValue) (last m : ℕ) (g : List ℕ) (value : BlockValue) → m < suc last → IsKept braid last m g value → IsKept braid (suc last) m g value
older_kept braid last m g (Rule r) less h = (h.0, λ same. absurd (omega arith))
older_kept braid last m g (Over n) less h = h
older_kept braid last m g Void less h = h
older_kept braid last m g Starved less h = h

older_are_kept : (braid : BraidValue) (last m : ℕ) (gs : List (List ℕ)) (vs : List Shared) → m < suc last → AreKept braid last m gs vs → AreKept braid (suc last) m gs vs
older_are_kept braid last m [] [] less h = h
older_are_kept braid last m [] (v ∷ vs) less h = h
older_are_kept braid last m (g ∷ gs) [] less h = h
older_are_kept braid last m (g ∷ gs) (v ∷ vs) less h = (older_kept braid last m g (worth v) less h.0, older_are_kept braid last m gs vs less h.1)

older_degrees : (braid : BraidValue) (last n : ℕ) (ds : List Degree) → n + length ds ≤ suc last → AreDegrees braid last n ds → AreDegrees braid (suc last) n ds
older_degrees braid last n [] most h = tt
older_degrees braid last n (d ∷ ds) most h =
    (h.0, older_are_kept braid last n (products braid n) d.values.items (omega arith) h.1, older_degrees braid last (suc n) ds (omega arith) h.2)

degree_behind : (braid : BraidValue) (last n j : ℕ) (ds : List Degree) (d : Degree) → j ≡ n + length ds → AreDegrees braid last n ds → d.products ≡ products braid j → AreKept braid last j (products braid j) d.values.items → AreDegrees braid last n (ds ++ d ∷ [])
degree_behind braid last n j [] d e h ps kept =
    let here : j ≡ n = omega arith in
    subst (λ k. AreDegrees braid last k (d ∷ [])) here (ps, kept, tt)
degree_behind braid last n j (x ∷ ds) d e h ps kept = (h.0, h.1, degree_behind braid last (suc n) j ds d (omega arith) h.2 ps kept)

-- the next degree on top
pub degrees_pushed : (braid : BraidValue) (last : ℕ) (ds : List Degree) (d : Degree) → length ds ≡ suc last → AreDegrees braid last 0 ds → d.products ≡ products braid (suc last) → map worth d.values.items ≡ map Rule (rules_of braid (suc last)) →
    AreDegrees braid (suc last) 0 (ds ++ d ∷ [])
degrees_pushed braid last ds d count h ps rules =
    degree_behind braid (suc last) 0 (suc last) ds d (omega arith) (older_degrees braid last 0 ds (omega arith) h) ps (rules_kept braid (suc last) d.values.items rules)

-- another degree in the place of one
degree_changed : (braid : BraidValue) (last n i j : ℕ) (ds : List Degree) (d new : Degree) → AreDegrees braid last n ds → j ≡ n + i → i < length ds → d ≡ get_or ds i d → new.products ≡ d.products →
    (AreKept braid last j (products braid j) d.values.items → AreKept braid last j (products braid j) new.values.items) → AreDegrees braid last n (set ds i new)
degree_changed braid last n i j [] d new h e less at same kept = absurd (omega arith)
degree_changed braid last n zero j (x ∷ ds) d new h e less at same kept =
    let here : j ≡ n = omega arith in (
      same ∙ ap (λ (y : Degree). y.products) at ∙ h.0,
      subst (λ k. AreKept braid last k (products braid k) new.values.items) here
          (kept (subst (λ k. AreKept braid last k (products braid k) d.values.items) (sym here) (subst (λ (y : Degree). AreKept braid last n (products braid n) y.values.items) (sym at) h.1))),
      h.2,
    )
degree_changed braid last n (suc i) j (x ∷ ds) d new h e less at same kept =
    (h.0, h.1, degree_changed braid last (suc n) i j ds d new h.2 (omega arith) (omega arith) at same kept)

-- a degree before the last one, whose values let go what served the degree above
pub levels_let_go : (braid : BraidValue) (ds : List Degree) (i : ℕ) (d new : Degree) → AreLevels braid (length ds - 1) ds → suc i < length ds → d ≡ get_or ds i d → new.products ≡ d.products →
    (AreKept braid (length ds - 1) i (products braid i) d.values.items → AreKept braid (length ds - 1) i (products braid i) new.values.items) → AreLevels braid (length (set ds i new) - 1) (set ds i new)
levels_let_go braid ds i d new are less at same kept =
    let size : length (set ds i new) ≡ length ds = length-set ds i new in
    subst (λ n. AreLevels braid (n - 1) (set ds i new)) (sym size)
    (record { count = size ∙ are.count; most = are.most; each = degree_changed braid (length ds - 1) 0 i i ds d new are.each (omega arith) (omega arith) at same kept })

-- ---- as they are seen

rules_are : (braid : BraidValue) (m : ℕ) (gs : List (List ℕ)) → products braid m ≡ gs → rules_of braid m ≡ map (rule_of braid m) gs
unfolding rules_of
rules_are braid m gs e = ap (map (rule_of braid m)) e

pub level_degree : (levels : LevelsValue) (braid : BraidValue) (spare : ℕ) (ds : List Degree) (m : ℕ) (d : Degree) → record { braid = braid; last = length ds - 1; spare = spare } ≡ levels → AreLevels braid (length ds - 1) ds → m ≤ levels.last → d ≡ get_or ds m d →
    (d.products ≡ products levels.braid m) × AreKept levels.braid levels.last m (products levels.braid m) d.values.items
level_degree levels braid spare ds m d view are within at =
    let last : length ds - 1 ≡ levels.last = ap (λ (l : LevelsValue). l.last) view in
    let inside : m < length ds = omega (arith, are.count) in
    subst (λ (l : LevelsValue). (d.products ≡ products l.braid m) × AreKept l.braid l.last m (products l.braid m) d.values.items) view
    (degree_at braid (length ds - 1) 0 m m ds d are.each (omega arith) inside at)

pub levels_start : (braid : BraidValue) (ps : List (List ℕ)) (v : Shared) (vs : List Shared) (d : Degree) (ds : List Degree) → d.products ≡ ps → d.values.items ≡ vs → ps ≡ products braid 0 → vs ≡ v ∷ [] → worth v ≡ Rule (rule_of braid 0 (up_to braid.letters)) → ds ≡ d ∷ [] →
    AreLevels braid (length ds - 1) ds
levels_start braid ps v vs d ds p_is v_is first values rule e =
    let one : products braid 0 ≡ up_to braid.letters ∷ [] = products_first braid ∙ ap (λ g. g ∷ []) (product_of_none braid) in
    let value_list : d.values.items ≡ v ∷ [] = v_is ∙ values in
    let rules : map worth d.values.items ≡ map Rule (rules_of braid 0) =
    ap (map worth) value_list ∙ ap (λ r. r ∷ []) rule ∙ sym (ap (map Rule) (rules_are braid 0 (up_to braid.letters ∷ []) one)) in
    let whole : AreLevels braid 0 (d ∷ []) = record { count = refl; most = omega arith; each = (p_is ∙ first, rules_kept braid 0 d.values.items rules, tt) } in
    subst (λ xs. AreLevels braid (length xs - 1) xs) (sym e) whole

pub levels_pushed : (levels : LevelsValue) (braid : BraidValue) (spare : ℕ) (ds new : List Degree) (d : Degree) → record { braid = braid; last = length ds - 1; spare = spare } ≡ levels → AreLevels braid (length ds - 1) ds → levels.last < MOST_DEGREES →
    d.products ≡ products levels.braid (suc levels.last) → map worth d.values.items ≡ map Rule (rules_of levels.braid (suc levels.last)) → new ≡ ds ++ d ∷ [] → AreLevels braid (length new - 1) new
levels_pushed levels braid spare ds new d view are room ps rules e =
    let last : length ds - 1 ≡ levels.last = ap (λ (l : LevelsValue). l.last) view in
    let same : braid ≡ levels.braid = ap (λ (l : LevelsValue). l.braid) view in
    let longer : length new ≡ suc (length ds) = ap length e ∙ length-append ds (d ∷ []) ∙ (let one : length ds + 1 ≡ suc (length ds) = omega arith in one) in
    let count : length ds ≡ suc levels.last = are.count ∙ ap suc last in
    let top : length new - 1 ≡ suc levels.last = omega arith in
    let each : AreDegrees levels.braid (suc levels.last) 0 (ds ++ d ∷ []) =
    degrees_pushed levels.braid levels.last ds d count (subst (λ b. AreDegrees b levels.last 0 ds) same (subst (λ l. AreDegrees braid l 0 ds) last are.each)) ps rules in
    subst (λ l. AreLevels braid l new) (sym top)
    (subst (λ b. AreLevels b (suc levels.last) new) (sym same) (record { count = longer ∙ ap suc count; most = omega arith; each = subst (AreDegrees levels.braid (suc levels.last) 0) (sym e) each }))

-- ---- a degree with no least word

-- the product of a least word is one of its degree
pub product_is_listed : (braid : BraidValue) (m : ℕ) (w : List ℕ) → Contains (basis is_killed braid m) w → Contains (products braid m) (product_of braid w)
unfolding basis
product_is_listed braid m w i =
    let (size, over) = from_words braid.letters m w (from_filter (is_least is_killed braid) w (words braid.letters m) i).0 in
    (products_are_of_words braid m (product_of braid w)).1 (w, size, over, refl)

pub empty_blocks : (braid : BraidValue) (m : ℕ) → ((k : ℕ) → k < length (products braid m) → block_basis braid m (word_at (products braid m) k) ≡ []) → basis is_killed braid m ≡ []
empty_blocks braid m none = at (basis is_killed braid m) refl
  where
    at : (ws : List (List ℕ)) → basis is_killed braid m ≡ ws → ws ≡ []
    at [] e = refl
    at (w ∷ ws) e =
        let here : Contains (basis is_killed braid m) w = subst (λ us. Contains us w) (sym e) (contains_first w ws) in
        let (k, less, is) = position_of (products braid m) (product_of braid w) (product_is_listed braid m w here) in
        absurd (contains_none w (subst (λ us. Contains us w) (none k less) (in_block_basis braid m (word_at (products braid m) k) w here (sym is))))

pub empty_block : (braid : BraidValue) (m : ℕ) (g : List ℕ) → basis is_killed braid m ≡ [] → block_basis braid m g ≡ []
unfolding block_basis
empty_block braid m g e = ap (filter (has_product braid g)) e

pub empty_list : (us : List (List ℕ)) (b : Bool) → b ≡ nat_eq (length us) 0 → b ≡ true → us ≡ []
empty_list us b e is = nil_from_length us ((Decides-eqb (length us) 0).0 (sym e ∙ is))

pub filled_list : (us : List (List ℕ)) (b : Bool) → b ≡ nat_eq (length us) 0 → b ≡ false → us ≡ [] → IsTrue false
filled_list us b e isnt none = sym isnt ∙ e ∙ ap (λ vs. nat_eq (length vs) 0) none
