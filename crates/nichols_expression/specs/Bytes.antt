-- The bytes of expressions, and signs.
use Rattle.std.specs.Prelude.{ℕ}
use Rattle.nichols_field.specs.Field.{FieldValue, negative}
use Rattle.nichols_tensor.specs.Combination.{Term}
use Rattle.nichols_expression.specs.declared.signs.Sign.{Sign}
use Rattle.nichols_expression.specs.declared.signs.Sign.TheVariants.{Positive, Reversed}

-- ` `
abbrev pub space : ℕ
space = 32

-- `(`
abbrev pub opening : ℕ
opening = 40

-- `)`
abbrev pub closing : ℕ
closing = 41

-- `,`
abbrev pub comma : ℕ
comma = 44

-- `*`
abbrev pub star : ℕ
star = 42

-- `+`
abbrev pub plus_byte : ℕ
plus_byte = 43

-- `-`
abbrev pub minus_byte : ℕ
minus_byte = 45

-- `.`
abbrev pub dot : ℕ
dot = 46

-- `0`
abbrev pub zero_digit : ℕ
zero_digit = 48

-- `e`
abbrev pub empty_byte : ℕ
empty_byte = 101

-- a term after a sign
abbrev pub signed_term : FieldValue → Sign → Term → Term
signed_term field Positive t = t
signed_term field Reversed t = record { word = t.word; coefficient = negative field t.coefficient }
