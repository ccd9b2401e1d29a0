-- Worked rows: certificates of the algebra of one letter with the scalar 2 over seven elements, and of damaged ones.
use Rattle.std.proofs.Common.{◌≡◌, ℕ, List, [], ◌∷◌, ◌++◌, Ok, Err, codes, refl}
use Rattle.std.specs.Prelude.{pos, Result, option_and_then}
use Rattle.nichols_field.specs.Field.{prime_field}
use Rattle.nichols_input.specs.Document.{DocumentValue}
use Rattle.nichols_check.specs.Certificate.{CertificateRefusal, CertifiedValue, DegreeValue, shape, candidates, form, inverse, certified}
use Rattle.nichols_check.proofs.OnLiterals.{check_on_literals}
use Rattle.toml.specs.Data.{get_member}
use Rattle.toml.specs.Parse.{parse_document}

-- one letter, which acts on itself with the scalar 2, over the field of 7 elements
abbrev one_letter : DocumentValue
one_letter = record {
  braid = record { field = prime_field (pos 7); letters = 1; rack = 1 ∷ []; cocycle = 2 ∷ [] };
  order = 1 ∷ [];
  expressions = [];
}

-- what these tables certify
abbrev answer : List ℕ → Result CertifiedValue CertificateRefusal
answer text = certified one_letter (option_and_then (get_member (codes "degree")) (parse_document text))

abbrev first_degree : List ℕ
first_degree = codes "[[degree]]\nbasis = [\"1\"]\nrelations = []\ninverse = [[\"1*e\"]]\n"

abbrev second_degree : List ℕ
second_degree = codes "[[degree]]\nbasis = [\"1.1\"]\nrelations = []\ninverse = [[\"5*1\"]]\n"

abbrev third_degree : List ℕ
third_degree = codes "[[degree]]\nbasis = []\nrelations = [[\"1.1.1\", \"0\"]]\ninverse = []\n"

abbrev one_word : List ℕ → DegreeValue
one_word w = record { basis = w ∷ []; relations = [] }

abbrev two_degrees : List DegreeValue
two_degrees = one_word [] ∷ one_word (1 ∷ []) ∷ one_word (1 ∷ 1 ∷ []) ∷ []

holds_through : List DegreeValue → Result CertifiedValue CertificateRefusal
holds_through ds = Ok (record { braid = one_letter.braid; order = one_letter.order; degrees = ds })

-- ---- certificates that hold

whole : answer (first_degree ++ second_degree ++ third_degree) ≡ holds_through (two_degrees ++ record { basis = []; relations = record { candidate = 1 ∷ 1 ∷ 1 ∷ []; form = [] } ∷ [] } ∷ [])
unfolding check_on_literals holds_through
whole = refl

cut_off : answer (first_degree ++ second_degree) ≡ holds_through two_degrees
unfolding check_on_literals holds_through
cut_off = refl

no_tables : answer (codes "degree = []\n") ≡ holds_through (one_word [] ∷ [])
unfolding check_on_literals holds_through
no_tables = refl

-- an expression may be written in other ways
other_expressions : answer (first_degree ++ second_degree ++ codes "[[degree]]\nbasis = []\nrelations = [[\"1.1.1\", \"1.1 - 1.1\"]]\ninverse = []\n")
    ≡ holds_through (two_degrees ++ record { basis = []; relations = record { candidate = 1 ∷ 1 ∷ 1 ∷ []; form = [] } ∷ [] } ∷ [])
unfolding check_on_literals holds_through
other_expressions = refl

-- behind an empty degree come empty degrees
beyond : answer (first_degree ++ second_degree ++ third_degree ++ codes "[[degree]]\nbasis = []\nrelations = []\ninverse = []\n")
    ≡ holds_through (two_degrees ++ record { basis = []; relations = record { candidate = 1 ∷ 1 ∷ 1 ∷ []; form = [] } ∷ [] } ∷ record { basis = []; relations = [] } ∷ [])
unfolding check_on_literals holds_through
beyond = refl

-- ---- certificates that are refused

other_array : answer (first_degree ++ codes "[[degree]]\nbasis = [\"1.1\"]\nrelations = []\ninverse = [[\"4*1\"]]\n" ++ third_degree) ≡ Err (inverse 2 (1 ∷ 1 ∷ []))
unfolding check_on_literals
other_array = refl

dependent_word : answer (first_degree ++ second_degree ++ codes "[[degree]]\nbasis = [\"1.1.1\"]\nrelations = []\ninverse = [[\"1*1.1\"]]\n") ≡ Err (inverse 3 (1 ∷ 1 ∷ 1 ∷ []))
unfolding check_on_literals
dependent_word = refl

no_basis : answer (codes "[[degree]]\nbasis = []\nrelations = []\ninverse = [[\"1*e\"]]\n" ++ second_degree) ≡ Err (shape 1)
unfolding check_on_literals
no_basis = refl

no_words : answer (codes "[[degree]]\nbasis = []\nrelations = []\ninverse = []\n" ++ second_degree) ≡ Err (candidates 1)
unfolding check_on_literals
no_words = refl

wrong_form : answer (first_degree ++ codes "[[degree]]\nbasis = []\nrelations = [[\"1.1\", \"0\"]]\ninverse = []\n") ≡ Err (form 2 (1 ∷ 1 ∷ []))
unfolding check_on_literals
wrong_form = refl

surplus_array : answer (first_degree ++ codes "[[degree]]\nbasis = [\"1.1\"]\nrelations = []\ninverse = [[\"5*1\"], [\"0\"]]\n") ≡ Err (inverse 2 (1 ∷ 1 ∷ []))
unfolding check_on_literals
surplus_array = refl

no_array : answer (first_degree ++ codes "[[degree]]\nbasis = [\"1.1\"]\nrelations = []\ninverse = []\n") ≡ Err (inverse 2 (1 ∷ 1 ∷ []))
unfolding check_on_literals
no_array = refl

two_expressions : answer (codes "[[degree]]\nbasis = [\"1\"]\nrelations = []\ninverse = [[\"1*e\", \"0\"]]\n") ≡ Err (inverse 1 (1 ∷ []))
unfolding check_on_literals
two_expressions = refl

empty_word : answer (codes "[[degree]]\nbasis = [\"e\"]\nrelations = []\ninverse = [[\"1*e\"]]\n") ≡ Err (candidates 1)
unfolding check_on_literals
empty_word = refl

spaced_word : answer (codes "[[degree]]\nbasis = [\" 1\"]\nrelations = []\ninverse = [[\"1*e\"]]\n") ≡ Err (shape 1)
unfolding check_on_literals
spaced_word = refl

multiple_of_word : answer (codes "[[degree]]\nbasis = [\"1*1\"]\nrelations = []\ninverse = [[\"1*e\"]]\n") ≡ Err (shape 1)
unfolding check_on_literals
multiple_of_word = refl

fourth_key : answer (codes "[[degree]]\nbasis = [\"1\"]\nrelations = []\ninverse = [[\"1*e\"]]\nname = 1\n") ≡ Err (shape 1)
unfolding check_on_literals
fourth_key = refl

single_relation : answer (codes "[[degree]]\nbasis = []\nrelations = [[\"1\"]]\ninverse = []\n") ≡ Err (shape 1)
unfolding check_on_literals
single_relation = refl

number : answer (codes "degree = [1]\n") ≡ Err (shape 1)
unfolding check_on_literals
number = refl

single_table : answer (codes "[degree]\nbasis = []\nrelations = []\ninverse = []\n") ≡ Err (shape 0)
unfolding check_on_literals
single_table = refl

no_key : answer (codes "degrees = []\n") ≡ Err (shape 0)
unfolding check_on_literals
no_key = refl
