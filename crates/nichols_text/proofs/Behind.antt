-- Texts that are put behind one another.
use Rattle.std.proofs.Common.{◌≡◌, ◌++◌, ◌∙◌, ap, List, ℕ, append_assoc}
use Rattle.std.specs.Prelude.{decimal}

-- y behind a and x
pub text_more : (a x y : List ℕ) {b c : List ℕ} → b ≡ a ++ x → c ≡ b ++ y → c ≡ a ++ (x ++ y)
text_more a x y {b} {c} p q = q ∙ ap (λ t. t ++ y) p ∙ append_assoc a x y

-- a number k behind a and x, where it is given as n
pub number_more : (a x : List ℕ) (k : ℕ) {n : ℕ} {b c : List ℕ} → b ≡ a ++ x → n ≡ k → c ≡ b ++ decimal n → c ≡ a ++ (x ++ decimal k)
number_more a x k {n} {b} {c} p e q = text_more a x (decimal k) p (q ∙ ap (λ m. b ++ decimal m) e)
