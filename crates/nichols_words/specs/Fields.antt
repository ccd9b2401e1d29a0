-- The fields of a word, from its list of letters.
use Rattle.std.specs.Prelude.{◌≡◌, ℕ, ◌-◌, List, ◌++◌, length, take, replicate}
use Rattle.nichols_tensor.specs.declared.TheConstants.{LETTER_LIMIT, WORD_LIMIT}
use Rattle.nichols_tensor.specs.Inline.{IsInline, fields_kept}
use Rattle.nichols_tensor.specs.Words.{IsWordOver}
use Rattle.nichols_words.specs.declared.word.Word.TheInside.{Inside}

-- the fields that a list of letters has
abbrev pub fields_of : List ℕ → Inside
fields_of xs = record { len = length xs; letters = xs ++ replicate (WORD_LIMIT - length xs) 0 }

pub fields_back : (w : Inside) → IsInline WORD_LIMIT (IsWordOver LETTER_LIMIT) w.len w.letters → fields_of (take w.len w.letters) ≡ w
fields_back w h = fields_kept (λ n (xs : List ℕ). record { len = n; letters = xs }) WORD_LIMIT (IsWordOver LETTER_LIMIT) w.len w.letters h
