use Rattle.std.proofs.Common.{◌≡◌, ◌<◌, ◌∷◌, ◌∙◌, [], ℕ, ap₂, length, subst, sym, List}
use Rattle.std.proofs.lemmas.Result.{IfOk-weaker}
use Rattle.nichols_echelon.specs.Cells.{Cell}
use Rattle.nichols_echelon.specs.Combination.{AllRowsBelow, AllRowsElements, AreRows}
use Rattle.nichols_echelon.specs.Parts.{joined_rows}
use Rattle.nichols_echelon.specs.Rows.{RowsValue}
use Rattle.nichols_echelon.specs.Split.{IsSplit}
use Rattle.nichols_echelon.proofs.JoinedRows.{whole_rows}
use Rattle.nichols_echelon.proofs.split_whole.Goals as goal

whole : (rows : RowsValue) (lists : List RowsValue) (n : ℕ) (parts : List (List Cell)) → lists ≡ rows ∷ [] → n ≡ length rows.rows → parts ≡ joined_rows lists (0 ∷ []) n → rows.rows ≡ parts
whole rows lists n parts one count e = sym (e ∙ ap₂ (λ (ls : List RowsValue) (m : ℕ). joined_rows ls (0 ∷ []) m) one count ∙ whole_rows rows)

pub split_narrow-requires-clause-shape : goal.split_narrow-requires-clause-shape
split_narrow-requires-clause-shape c = subst AreRows (whole c.args.rows.now c.from_ref.result.now c.len.result c.of-parts.result c.from_ref.ensures.value c.len.ensures c.of-parts.ensures) c.requires.shape

pub split_narrow-requires-clause-elements : goal.split_narrow-requires-clause-elements
split_narrow-requires-clause-elements c = subst (AllRowsElements c.args.field) (whole c.args.rows.now c.from_ref.result.now c.len.result c.of-parts.result c.from_ref.ensures.value c.len.ensures c.of-parts.ensures) c.requires.elements

pub split_narrow-requires-clause-below : goal.split_narrow-requires-clause-below
split_narrow-requires-clause-below c = subst (AllRowsBelow c.args.width) (whole c.args.rows.now c.from_ref.result.now c.len.result c.of-parts.result c.from_ref.ensures.value c.len.ensures c.of-parts.ensures) c.requires.below

pub split_narrow-requires-clause-count : goal.split_narrow-requires-clause-count
split_narrow-requires-clause-count c =
    subst (λ (rows : List (List Cell)). length rows < 4294967296) (whole c.args.rows.now c.from_ref.result.now c.len.result c.of-parts.result c.from_ref.ensures.value c.len.ensures c.of-parts.ensures) c.requires.count

pub returns : goal.returns
returns c =
    IfOk-weaker c.split_narrow.result (λ places. IsSplit c.args.field c.of-parts.result places.items) (λ places. IsSplit c.args.field c.args.rows.now.rows places.items)
    (λ places split. subst (λ (rows : List (List Cell)). IsSplit c.args.field rows places.items) (sym (whole c.args.rows.now c.from_ref.result.now c.len.result c.of-parts.result c.from_ref.ensures.value c.len.ensures c.of-parts.ensures)) split)
    c.split_narrow.ensures
