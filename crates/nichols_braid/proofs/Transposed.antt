-- What conjugation of transpositions is: a transposition is an involution of the points, and a conjugate, as a map of the
-- points, is the product of three.
use Rattle.std.proofs.Common.{◌≡◌, ◌≢◌, ℕ, ◌<◌, ◌≤◌, Bool, true, false, cond, nat_eq, nat_lt, refl, sym, ◌∙◌, ap, ap₂, arith, inl, inr}
use Rattle.std.proofs.lemmas.Bool.{cases_order}
use Rattle.std.proofs.lemmas.Bool.Decides.{nat_tests, Decides-eqb}
use Rattle.nichols_tensor.specs.Words.{IsLetterOf}
use Rattle.nichols_braid.specs.PointsLaws.{IsTransposition, HasImagesOf}
use Rattle.nichols_braid.specs.Transpositions.{Transposition, transposition_of, image_under, conjugate}

-- ---- the exchange of two points

-- what exchanges a and b, in either order
abbrev pub exchange : ℕ → ℕ → ℕ → ℕ
exchange a b x = cond (nat_eq x a) b (cond (nat_eq x b) a x)

-- where a point is taken, by which point it is
pub data Exchanges (a b x : ℕ) : ℕ → Type 0 where
  at_first : x ≡ a → Exchanges a b x b
  at_second : x ≢ a → x ≡ b → Exchanges a b x a
  elsewhere : x ≢ a → x ≢ b → Exchanges a b x x

pub exchanges : (a b x : ℕ) → Exchanges a b x (exchange a b x)
exchanges a b x = at (nat_eq x a) (nat_eq x b) refl refl
  where
    at : (p q : Bool) → nat_eq x a ≡ p → nat_eq x b ≡ q → Exchanges a b x (cond p b (cond q a x))
    at true q e f = at_first ((Decides-eqb x a).0 e)
    at false true e f = at_second (λ same. let d : nat_eq x a ≡ true = (Decides-eqb x a).1 same in cc) ((Decides-eqb x b).0 f)
    at false false e f = elsewhere (λ same. let d : nat_eq x a ≡ true = (Decides-eqb x a).1 same in cc) (λ same. let d : nat_eq x b ≡ true = (Decides-eqb x b).1 same in cc)

exchange_determined : (a b x y z : ℕ) → Exchanges a b x y → Exchanges a b x z → y ≡ z
exchange_determined a b x _ _ (at_first e) (at_first f) = refl
exchange_determined a b x _ _ (at_first e) (at_second n f) = absurd (n e)
exchange_determined a b x _ _ (at_first e) (elsewhere n m) = absurd (n e)
exchange_determined a b x _ _ (at_second n e) (at_first f) = absurd (n f)
exchange_determined a b x _ _ (at_second n e) (at_second m f) = refl
exchange_determined a b x _ _ (at_second n e) (elsewhere m l) = absurd (l e)
exchange_determined a b x _ _ (elsewhere n m) (at_first f) = absurd (n f)
exchange_determined a b x _ _ (elsewhere n m) (at_second l f) = absurd (m f)
exchange_determined a b x _ _ (elsewhere n m) (elsewhere l k) = refl

exchange_is : (a b x y : ℕ) → Exchanges a b x y → exchange a b x ≡ y
exchange_is a b x y h = exchange_determined a b x (exchange a b x) y (exchanges a b x) h

pub exchange_first : (a b x : ℕ) → x ≡ a → exchange a b x ≡ b
exchange_first a b x e = exchange_is a b x b (at_first e)

pub exchange_second : (a b x : ℕ) → x ≡ b → exchange a b x ≡ a
exchange_second a b x e = at (exchange a b x) (exchanges a b x)
  where
    at : (y : ℕ) → Exchanges a b x y → y ≡ a
    at _ (at_first f) = sym e ∙ f
    at _ (at_second n f) = refl
    at _ (elsewhere n m) = absurd (m e)

pub exchange_elsewhere : (a b x : ℕ) → x ≢ a → x ≢ b → exchange a b x ≡ x
exchange_elsewhere a b x n m = exchange_is a b x x (elsewhere n m)

exchange_comm : (a b x : ℕ) → exchange a b x ≡ exchange b a x
exchange_comm a b x = at (exchange a b x) (exchanges a b x)
  where
    at : (y : ℕ) → Exchanges a b x y → y ≡ exchange b a x
    at _ (at_first e) = sym (exchange_second b a x e)
    at _ (at_second n e) = sym (exchange_first b a x e)
    at _ (elsewhere n m) = sym (exchange_elsewhere b a x m n)

pub exchange_twice : (a b x : ℕ) → exchange a b (exchange a b x) ≡ x
exchange_twice a b x = at (exchange a b x) (exchanges a b x)
  where
    at : (y : ℕ) → Exchanges a b x y → exchange a b y ≡ x
    at _ (at_first e) = exchange_second a b b refl ∙ sym e
    at _ (at_second n e) = exchange_first a b a refl ∙ sym e
    at _ (elsewhere n m) = exchange_elsewhere a b x n m

-- a map that is one to one takes an exchange to that of the images
exchange_of_images : (f : ℕ → ℕ) → ((x y : ℕ) → f x ≡ f y → x ≡ y) → (a b x : ℕ) → exchange (f a) (f b) (f x) ≡ f (exchange a b x)
exchange_of_images f one a b x = at (exchange a b x) (exchanges a b x)
  where
    at : (y : ℕ) → Exchanges a b x y → exchange (f a) (f b) (f x) ≡ f y
    at _ (at_first e) = exchange_first (f a) (f b) (f x) (ap f e)
    at _ (at_second n e) = exchange_second (f a) (f b) (f x) (ap f e)
    at _ (elsewhere n m) = exchange_elsewhere (f a) (f b) (f x) (λ e. n (one x a e)) (λ e. m (one x b e))

-- ---- the transposition of two points

pub image_twice : (t : Transposition) (x : ℕ) → image_under t (image_under t x) ≡ x
image_twice t x = exchange_twice t.first t.second x

pub image_one_to_one : (t : Transposition) (x y : ℕ) → image_under t x ≡ image_under t y → x ≡ y
image_one_to_one t x y e = sym (image_twice t x) ∙ ap (image_under t) e ∙ image_twice t y

pub image_is_point : (k : ℕ) (t : Transposition) (x : ℕ) → IsTransposition k t → IsLetterOf k x → IsLetterOf k (image_under t x)
image_is_point k t x h l = at (image_under t x) (exchanges t.first t.second x)
  where
    at : (y : ℕ) → Exchanges t.first t.second x y → IsLetterOf k y
    at _ (at_first e) = let p : 1 ≤ t.first = h.least in let r : t.first < t.second = h.rising in (omega arith, h.most)
    at _ (at_second n e) = let r : t.first < t.second = h.rising in let m : t.second ≤ k = h.most in (h.least, omega arith)
    at _ (elsewhere n m) = l

-- the two orders of the points
pub data IsOfPoints (a b : ℕ) : Transposition → Type 0 where
  as_given : a < b → IsOfPoints a b (record { first = a; second = b })
  turned : b ≤ a → IsOfPoints a b (record { first = b; second = a })

pub is_of_points : (a b : ℕ) → IsOfPoints a b (transposition_of a b)
is_of_points a b = at (nat_lt a b) refl
  where
    at : (p : Bool) → nat_lt a b ≡ p → IsOfPoints a b (cond p (record { first = a; second = b }) (record { first = b; second = a }))
    at true e = as_given (let less : a < b = grind (arith, nat_tests, e) in less)
    at false e = turned (let more : b ≤ a = grind (arith, nat_tests, e) in more)

pub of_rising_points : (t : Transposition) → t.first < t.second → transposition_of t.first t.second ≡ t
of_rising_points t less = at (transposition_of t.first t.second) (is_of_points t.first t.second)
  where
    at : (u : Transposition) → IsOfPoints t.first t.second u → u ≡ t
    at _ (as_given h) = refl
    at _ (turned h) = absurd (omega arith)

of_points_comm : (a b : ℕ) → transposition_of a b ≡ transposition_of b a
of_points_comm a b = at (transposition_of a b) (transposition_of b a) (is_of_points a b) (is_of_points b a)
  where
    pair : ℕ → ℕ → Transposition
    pair x y = record { first = x; second = y }

    at : (t u : Transposition) → IsOfPoints a b t → IsOfPoints b a u → t ≡ u
    at _ _ (as_given h) (as_given l) = absurd (omega arith)
    at _ _ (as_given h) (turned l) = refl
    at _ _ (turned h) (as_given l) = refl
    at _ _ (turned h) (turned l) = let e : a ≡ b = omega arith in ap₂ pair (sym e) e

pub image_under_points : (a b x : ℕ) → image_under (transposition_of a b) x ≡ exchange a b x
image_under_points a b x = at (transposition_of a b) (is_of_points a b)
  where
    at : (t : Transposition) → IsOfPoints a b t → image_under t x ≡ exchange a b x
    at _ (as_given h) = refl
    at _ (turned h) = exchange_comm b a x

-- ---- conjugates

-- as a map of the points
pub image_under_conjugate : (s t : Transposition) (x : ℕ) → image_under (conjugate s t) (image_under s x) ≡ image_under s (image_under t x)
image_under_conjugate s t x =
    image_under_points (image_under s t.first) (image_under s t.second) (image_under s x)
    ∙ exchange_of_images (image_under s) (image_one_to_one s) t.first t.second x

pub conjugate_is_product : (s t : Transposition) (x : ℕ) → image_under (conjugate s t) x ≡ image_under s (image_under t (image_under s x))
conjugate_is_product s t x = ap (image_under (conjugate s t)) (sym (image_twice s x)) ∙ image_under_conjugate s t (image_under s x)

conjugate_of_points : (s : Transposition) (a b : ℕ) → conjugate s (transposition_of a b) ≡ transposition_of (image_under s a) (image_under s b)
conjugate_of_points s a b = at (transposition_of a b) (is_of_points a b)
  where
    at : (t : Transposition) → IsOfPoints a b t → conjugate s t ≡ transposition_of (image_under s a) (image_under s b)
    at _ (as_given h) = refl
    at _ (turned h) = of_points_comm (image_under s b) (image_under s a)

pub conjugate_twice : (s t : Transposition) → t.first < t.second → conjugate s (conjugate s t) ≡ t
conjugate_twice s t less =
    conjugate_of_points s (image_under s t.first) (image_under s t.second)
    ∙ ap₂ transposition_of (image_twice s t.first) (image_twice s t.second)
    ∙ of_rising_points t less

pub conjugate_one_to_one : (s t u : Transposition) → t.first < t.second → u.first < u.second → conjugate s t ≡ conjugate s u → t ≡ u
conjugate_one_to_one s t u less less_too e = sym (conjugate_twice s t less) ∙ ap (conjugate s) e ∙ conjugate_twice s u less_too

pub conjugates_distribute : (s t u : Transposition) → conjugate s (conjugate t u) ≡ conjugate (conjugate s t) (conjugate s u)
conjugates_distribute s t u =
    conjugate_of_points s (image_under t u.first) (image_under t u.second)
    ∙ sym (ap₂ transposition_of (image_under_conjugate s t u.first) (image_under_conjugate s t u.second))
    ∙ sym (conjugate_of_points (conjugate s t) (image_under s u.first) (image_under s u.second))

pub conjugate_is_transposition : (k : ℕ) (s t : Transposition) → IsTransposition k s → IsTransposition k t → IsTransposition k (conjugate s t)
conjugate_is_transposition k s t h l =
    at (conjugate s t) (is_of_points a b) (image_is_point k s t.first h (l.least, omega (arith, l.rising, l.most))) (image_is_point k s t.second h (omega (arith, l.least, l.rising), l.most)) other
  where
    a : ℕ
    a = image_under s t.first

    b : ℕ
    b = image_under s t.second

    other : a ≢ b
    other e = let same : t.first ≡ t.second = image_one_to_one s t.first t.second e in let less : t.first < t.second = l.rising in absurd (omega arith)

    at : (u : Transposition) → IsOfPoints a b u → IsLetterOf k a → IsLetterOf k b → a ≢ b → IsTransposition k u
    at _ (as_given less) p q n = record { least = p.0; rising = less; most = q.1 }
    at _ (turned more) p q n = record { least = q.0; rising = elim (cases_order b a) [ inl e ↦ absurd (n (sym e)) | inr (inl less) ↦ less | inr (inr less) ↦ absurd (omega arith) ]; most = p.1 }

pub conjugate_has_images : (s t : Transposition) → HasImagesOf s t (conjugate s t)
conjugate_has_images s t = at (conjugate s t) (is_of_points (image_under s t.first) (image_under s t.second))
  where
    at : (u : Transposition) → IsOfPoints (image_under s t.first) (image_under s t.second) u → HasImagesOf s t u
    at _ (as_given h) = inl (refl, refl)
    at _ (turned h) = inr (refl, refl)
