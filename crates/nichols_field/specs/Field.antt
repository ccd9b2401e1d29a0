-- The field of p elements, and those of p squared elements.
--
-- Given by p alone, the elements are the numbers 0 to p - 1, and sums and products are taken modulo p. With an extension they are
-- the numbers u + p v with u and v from 0 to p - 1, read as pairs (`Pairs`).
-- The crates above cite these words and the laws of this crate, and never the remainder.
use Rattle.std.specs.Prelude.{◌≡◌, ℕ, ◌+◌, ◌-◌, ◌*◌, ◌/◌, ◌%◌, ◌^◌, ◌<◌, ℤ, pos, negsuc, Bool, false, true, IsTrue, List, [], ◌∷◌, Option, None, Some}
use Rattle.nichols_field.specs.Moduli.{is_modulus}
use Rattle.nichols_field.specs.Numbers.{pair_in}
use Rattle.nichols_field.specs.Pairs.{Extension, Pair, pair, pair_of, number_of, pair_sum, pair_product, pair_negative, numbers_below, least_root}

-- a field as contracts see it
pub record FieldValue : Type 0 where
  pub modulus : ℕ
  pub extension : Option Extension

-- the extension's numbers are below p, and no r has r² = a r + b
pub record IsExtension (p : ℕ) (t : Extension) : Type 0 where
  pub a : t.a < p
  pub b : t.b < p
  pub no_root : least_root p t ≡ None

-- what holds of an extension, if there is one
abbrev pub ExtendsIfAny : ℕ → Option Extension → Type 0
ExtendsIfAny p None = Unit {0}
ExtendsIfAny p (Some t) = IsExtension p t

-- what holds of each field
unfoldable pub IsField : FieldValue → Type 0
IsField field = IsTrue (is_modulus field.modulus) × ExtendsIfAny field.modulus field.extension

-- the field of p elements
unfoldable pub prime_field : ℤ → FieldValue
prime_field (pos n) = record { modulus = n; extension = None }
prime_field (negsuc n) = record { modulus = 0; extension = None }

-- the p of a field
unfoldable pub modulus_of : FieldValue → ℕ
modulus_of field = field.modulus

-- how many elements there are
abbrev pub size_in : ℕ → Option Extension → ℕ
size_in p None = p
size_in p (Some t) = p * p

-- how many elements a field has
unfoldable pub size_of : FieldValue → ℕ
size_of field = size_in field.modulus field.extension

-- the number is an element of the field
unfoldable pub IsElement : FieldValue → ℕ → Type 0
IsElement field e = e < size_in field.modulus field.extension

abbrev pub sum_in : ℕ → Option Extension → ℕ → ℕ → ℕ
sum_in p None m n = (m + n) % p
sum_in p (Some t) m n = number_of p (pair_sum p (pair_of p m) (pair_of p n))

abbrev pub product_in : ℕ → Option Extension → ℕ → ℕ → ℕ
product_in p None m n = (m * n) % p
product_in p (Some t) m n = number_of p (pair_product p t (pair_of p m) (pair_of p n))

abbrev pub negative_in : ℕ → Option Extension → ℕ → ℕ
negative_in p None m = (p - m) % p
negative_in p (Some t) m = number_of p (pair_negative p (pair_of p m))

-- an unreduced sum is a number; with an extension its two halves of 32 bits are the unreduced parts of a pair
abbrev pub settled_in : ℕ → Option Extension → ℕ → ℕ
settled_in p None n = n % p
settled_in p (Some t) n = number_of p (pair (n % 2 ^ 32 % p) (n / 2 ^ 32 % p))

-- the sum of two elements
unfoldable pub plus : FieldValue → ℕ → ℕ → ℕ
plus field m n = sum_in field.modulus field.extension m n

-- the product of two elements
unfoldable pub times : FieldValue → ℕ → ℕ → ℕ
times field m n = product_in field.modulus field.extension m n

-- the element that an unreduced sum, which is any number, stands for
unfoldable pub element_of_sum : FieldValue → ℕ → ℕ
element_of_sum field n = settled_in field.modulus field.extension n

-- the element whose sum with the given one is 0
unfoldable pub negative : FieldValue → ℕ → ℕ
negative field m = negative_in field.modulus field.extension m

-- the element that an integer stands for
unfoldable pub residue : FieldValue → ℤ → ℕ
residue field (pos n) = n % field.modulus
residue field (negsuc n) = field.modulus - 1 - n % field.modulus

-- the sum of what each entry of a list gives
abbrev pub sum_by : {X : Type 0} → FieldValue → (X → ℕ) → List X → ℕ
sum_by field gives [] = 0
sum_by field gives (x ∷ xs) = plus field (gives x) (sum_by field gives xs)

-- all elements, each once
unfoldable pub elements : FieldValue → List ℕ
elements field = numbers_below (size_in field.modulus field.extension)

-- whether an integer is one of the moduli
abbrev pub is_modulus_integer : ℤ → Bool
is_modulus_integer (pos n) = is_modulus n
is_modulus_integer (negsuc n) = false

-- the numbers of an extension
abbrev pub numbers_of : Option Extension → Extension
numbers_of None = record { a = 0; b = 0 }
numbers_of (Some t) = t

-- the extension of the field of p elements by t with t² = a t + b, for any integers a and b
abbrev pub extension_by : FieldValue → ℤ → ℤ → Extension
extension_by prime a b = record { a = residue prime a; b = residue prime b }

-- that field, where its polynomial has no root
unfoldable pub quadratic_field : FieldValue → ℤ → ℤ → FieldValue
quadratic_field prime a b = record { modulus = prime.modulus; extension = Some (extension_by prime a b) }

-- the least root of its polynomial
unfoldable pub root_of : FieldValue → ℤ → ℤ → Option ℕ
root_of prime a b = least_root prime.modulus (extension_by prime a b)

-- whether there is an extension
abbrev pub is_extension : Option Extension → Bool
is_extension None = false
is_extension (Some t) = true

unfoldable pub is_extended : FieldValue → Bool
is_extended field = is_extension field.extension

-- the numbers a and b of a field's extension
unfoldable pub numbers_in : FieldValue → Option (ℕ × ℕ)
numbers_in field = pair_in field.extension

-- the numbers u and v of an element; v is 0 without an extension
abbrev pub parts_in : ℕ → Option Extension → ℕ → Pair
parts_in p None e = pair e 0
parts_in p (Some t) e = pair_of p e

unfoldable pub parts_of : FieldValue → ℕ → Pair
parts_of field e = parts_in field.modulus field.extension e

-- two numbers are those of some element
pub record AreParts (field : FieldValue) (e : Pair) : Type 0 where
  pub low : e.low < modulus_of field
  pub high : e.high < modulus_of field
  pub alone : is_extended field ≡ false → e.high ≡ 0

-- the element of the numbers u and v
unfoldable pub element_of : FieldValue → Pair → ℕ
element_of field e = number_of field.modulus e

-- the element u + v t of the residues of two integers
unfoldable pub joined : FieldValue → ℤ → ℤ → ℕ
joined field u v = element_of field (pair (residue field u) (residue field v))
