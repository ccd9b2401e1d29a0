-- A certificate: a document with a table for each degree from 1 up. It is certified, or refused for the first of what is wrong with it.
use Rattle.std.specs.Prelude.{ℕ, suc, List, [], ◌∷◌, Option, None, Some, option_and_then, Result, Ok, Err, nat_le, if◌then◌else◌}
use Rattle.nichols_tensor.specs.Relation.{PlainRelation}
use Rattle.nichols_braid.specs.Braid.{BraidValue}
use Rattle.nichols_braid.specs.Order.{letter_at, renamed_word}
use Rattle.nichols_input.specs.Document.{DocumentValue}
use Rattle.nichols_input.specs.Refusal.{Refusal}
use Rattle.nichols_check.specs.Table.{Table}
use Rattle.nichols_check.specs.TableRefusal.{TableRefusal, candidates_refusal, form_refusal, inverse_refusal, table_refusal}
use Rattle.nichols_check.specs.Texts.{table_of}
use Rattle.nichols_check.specs.declared.TheConstants.{TABLE_LIMIT}
use Rattle.toml.specs.Data.{Data, Items, no_items, item, as_array}

-- what is wrong with a certificate, with the degree of its table; words are in the document's letters
pub data CertificateRefusal : Type 0 where
  -- what is wrong with the rest of the document
  input : Refusal → CertificateRefusal
  -- the table hasn't its shape; in degree 0, there is no list of tables or too long a one
  shape : ℕ → CertificateRefusal
  -- the basis and the first words of the relations aren't the candidates
  candidates : ℕ → CertificateRefusal
  -- the expression of the relation of this word, the least, is wrong
  form : ℕ → List ℕ → CertificateRefusal
  -- the array of this basis word, the least, is wrong
  inverse : ℕ → List ℕ → CertificateRefusal

-- the least words of a degree, and its relations
abbrev pub DegreeValue : Type 0
DegreeValue = record { basis : List (List ℕ); relations : List PlainRelation }

-- what a certificate certifies: a braid on ranks with an order of its letters, and its degrees from 0 on
abbrev pub CertifiedValue : Type 0
CertifiedValue = record { braid : BraidValue; order : List ℕ; degrees : List DegreeValue }

-- degree 0 has the empty word
abbrev pub degree_zero : DegreeValue
degree_zero = record { basis = [] ∷ []; relations = [] }

-- ---- one table

-- the refusal of a table, of degree m
abbrev pub told : List ℕ → ℕ → TableRefusal → CertificateRefusal
told order m candidates_refusal = candidates m
told order m (form_refusal w) = form m (renamed_word (letter_at order) w)
told order m (inverse_refusal w) = inverse m (renamed_word (letter_at order) w)

abbrev pub unless_refused : List ℕ → ℕ → Table → Option TableRefusal → Result DegreeValue CertificateRefusal
unless_refused order m t None = Ok (record { basis = t.basis; relations = t.relations })
unless_refused order m t (Some refusal) = Err (told order m refusal)

-- what a table of degree m + 1 certifies: it has a shape, and then nothing refuses it
abbrev pub certified_table : BraidValue → List ℕ → ℕ → Option Table → Result DegreeValue CertificateRefusal
certified_table braid order m None = Err (shape (suc m))
certified_table braid order m (Some t) = unless_refused order (suc m) t (table_refusal braid order m t)

-- ---- all tables

-- one degree more in front, or the first refusal
abbrev pub put_degree : Result DegreeValue CertificateRefusal → Result (List DegreeValue) CertificateRefusal → Result (List DegreeValue) CertificateRefusal
put_degree (Err refusal) rest = Err refusal
put_degree (Ok d) (Err refusal) = Err refusal
put_degree (Ok d) (Ok ds) = Ok (d ∷ ds)

-- what tables certify, of degree m + 1 and on, or the refusal of the first that is refused
unfoldable pub certified_from : BraidValue → List ℕ → ℕ → Items → Result (List DegreeValue) CertificateRefusal
certified_from braid order m no_items = Ok []
certified_from braid order m (item d ds) = put_degree (certified_table braid order m (table_of braid order d)) (certified_from braid order (suc m) ds)

-- how many items there are
abbrev pub count_of : Items → ℕ
count_of no_items = 0
count_of (item d ds) = suc (count_of ds)

-- an array of at most TABLE_LIMIT items
abbrev pub tables_in : Data → Option Items
tables_in d = option_and_then (λ ds. if nat_le (count_of ds) TABLE_LIMIT then Some ds else None) (as_array d)

-- with degree 0 in front
abbrev pub from_zero : DocumentValue → Result (List DegreeValue) CertificateRefusal → Result CertifiedValue CertificateRefusal
from_zero d (Ok ds) = Ok (record { braid = d.braid; order = d.order; degrees = degree_zero ∷ ds })
from_zero d (Err refusal) = Err refusal

abbrev pub certified_by : DocumentValue → Option Items → Result CertifiedValue CertificateRefusal
certified_by d None = Err (shape 0)
certified_by d (Some ds) = from_zero d (certified_from d.braid d.order 0 ds)

-- what a document certifies with this value at its key of tables, or why it is refused
unfoldable pub certified : DocumentValue → Option Data → Result CertifiedValue CertificateRefusal
certified d tables = certified_by d (option_and_then tables_in tables)
