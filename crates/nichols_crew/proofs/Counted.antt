-- Numbers of blocks, and counts that rise by them.
use Rattle.std.proofs.Common.{◌≡◌, ◌≤◌, ◌+◌, ◌-◌, ◌^◌, ◌⊎◌, ℕ, zero, suc, length, length-append, refl, sym, ap, ◌∙◌, arith, inl, inr, subst}
use Rattle.std.proofs.lemmas.List.{length-map}
use Rattle.nichols_braid.specs.Braid.{BraidValue}
use Rattle.nichols_braid.specs.Products.{products}
use Rattle.nichols_layout.specs.Keys.{key_of, keys_of, keys_up_to}
use Rattle.nichols_layout.specs.Laid.{IsWaveLayout}
use Rattle.nichols_layout.proofs.LaidOut.{count_is}
use Rattle.nichols_shelf.specs.Places.{blocks}
use Rattle.nichols_shelf.specs.Plan.{PlanValue}
use Rattle.nichols_crew.specs.Counting.{HasCounted, block_count}

-- there is a key for each block
pub key_count : (braid : BraidValue) (m n : ℕ) → length (keys_up_to braid m n) ≡ block_count braid m n
key_count braid m zero = refl
key_count braid m (suc n) =
    length-append (keys_up_to braid m n) (keys_of (m + n) (products braid (m + n)))
    ∙ ap (λ k. k + length (keys_of (m + n) (products braid (m + n)))) (key_count braid m n)
    ∙ ap (λ k. block_count braid m n + k) (length-map (products braid (m + n)) (key_of (m + n)))

-- more degrees have no fewer blocks
pub count_rises : (braid : BraidValue) (m n k : ℕ) → block_count braid m n ≤ block_count braid m (n + k)
count_rises braid m n zero = let same : n + 0 ≡ n = omega arith in subst (λ j. block_count braid m n ≤ block_count braid m j) (sym same) (omega arith)
count_rises braid m n (suc k) =
    let more = count_rises braid m n k in
    let next : n + suc k ≡ suc (n + k) = omega arith in
    subst (λ j. block_count braid m n ≤ block_count braid m j) (sym next) (omega (arith, more))

-- the blocks of degrees that follow one another
pub count_joined : (braid : BraidValue) (m n k : ℕ) → block_count braid m (n + k) ≡ block_count braid m n + block_count braid (m + n) k
count_joined braid m n zero = let same : n + 0 ≡ n = omega arith in ap (block_count braid m) same ∙ omega arith
count_joined braid m n (suc k) =
    let next : n + suc k ≡ suc (n + k) = omega arith in
    let here : m + (n + k) ≡ m + n + k = omega arith in
    let before = count_joined braid m n k in
    let last : length (products braid (m + (n + k))) ≡ length (products braid (m + n + k)) = ap (λ j. length (products braid j)) here in
    ap (block_count braid m) next ∙ omega (arith, before, last)

-- what is counted in two parts
pub counted_on : (a b old between new : ℕ) → HasCounted a old between → HasCounted b between new → HasCounted (a + b) old new
counted_on a b old between new (inl first) (inl second) = inl (omega (arith, first, second))
counted_on a b old between new (inl first) (inr full) = inr full
counted_on a b old between new (inr full) (inl second) = inr (omega (arith, full, second))
counted_on a b old between new (inr full) (inr full2) = inr full2

-- fewer degrees were counted, too
pub counted_within : (braid : BraidValue) (m n k old new : ℕ) → k ≤ n → HasCounted (block_count braid m n) old new → HasCounted (block_count braid m k) old new
counted_within braid m n k old new few h =
    let rest : k + (n - k) ≡ n = omega (arith, few) in
    let less = subst (λ j. block_count braid m k ≤ block_count braid m j) rest (count_rises braid m k (n - k)) in
    elim h [ inl all ↦ inl (omega (arith, less, all)) | inr full ↦ inr full ]

-- a closed shelf has a block for each key of its wave
pub closed_counted : (braid : BraidValue) (last m n : ℕ) (p : PlanValue) (old new : ℕ) → p.keys ≡ keys_up_to braid m n → IsWaveLayout braid last p.keys p.layout → (new ≡ old + blocks p) ⊎ (new + 1 ≡ 2 ^ 64) → HasCounted (block_count braid m n) old new
closed_counted braid last m n p old new keys layout rose =
    let count : blocks p ≡ block_count braid m n = count_is p.keys p.layout.degrees layout.degrees ∙ ap length keys ∙ key_count braid m n in
    elim rose [ inl all ↦ inl (omega (arith, all, count)) | inr full ↦ inr (omega (arith, full)) ]
