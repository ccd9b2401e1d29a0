-- The normal form of an expression, by the symmetrizer.
use Rattle.std.proofs.Common.{◌≡◌, ℕ, suc, ◌<◌, Bool, true, false, cond, List, [], ◌∷◌, length, map, refl, sym, ◌∙◌, ap, ap₂, arith, nat_lt, Some, None}
use Rattle.std.specs.List.{AllByRecursion}
use Rattle.std.proofs.Math.Bool.{and-true}
use Rattle.std.proofs.lemmas.Bool.{and_right}
use Rattle.std.specs.Prelude.{◌&&◌, not, nat_eq, Option}
use Rattle.nichols_tensor.specs.Combination.{Combination}
use Rattle.nichols_tensor.specs.Parts.{longest}
use Rattle.nichols_tensor.specs.Words.{IsOver}
use Rattle.nichols_braid.specs.Braid.{BraidValue, IsBraid}
use Rattle.nichols_braid.specs.Kernel.{is_in_kernel, is_killed}
use Rattle.nichols_braid.specs.End.{is_empty_degree}
use Rattle.nichols_braid.specs.WholeForm.{normal_form_by_parts}
use Rattle.nichols_lift.proofs.Readings.{one_reading}
use Rattle.nichols_graded.specs.Graded.{GradedValue, IsGraded}
use Rattle.nichols_graded.specs.declared.ends.Stop.{Stop}
use Rattle.nichols_reduce.specs.Normal.{is_beyond, normal_of}
use Rattle.nichols_reduce.specs.declared.answer.Normal.{Normal}
use Rattle.nichols_reduce.specs.declared.answer.Normal.TheVariants.{Form, Beyond}
use Rattle.nichols_reduce.proofs.ReduceLaws.{forms_have_one_reading}
use Rattle.nichols_text.specs.Expressions.{form_line, beyond_line}
use Rattle.nichols_top.specs.Ended.{HasEnd}
use Rattle.nichols_top.specs.NormalLine.{normal_line, normal_piece}
use Rattle.nichols_top.specs.Reduce.{form_due, is_beyond_stop}
use Rattle.nichols_top.specs.Report.{Piece, numbered_pieces, piece}
use Rattle.nichols_top.specs.declared.normals.Told.TheVariants.{Forms}
use Rattle.nichols_top.proofs.EndLines.{closed_is_empty, stopped_is_filled}

-- a degree is empty for the derivations where it is for the symmetrizer
pub empty_alike : (braid : BraidValue) → IsBraid braid → (m : ℕ) → is_empty_degree is_killed braid m ≡ is_empty_degree is_in_kernel braid m
empty_alike braid is m = ap (λ ws. nat_eq (length ws) 0) (sym ((one_reading braid is).alike.bases m))

beyond_is : (g : GradedValue) (stop : Option Stop) (f : Combination) → IsGraded g → HasEnd g stop → is_beyond g.braid g.last f ≡ is_beyond_stop stop g.last f
unfolding is_beyond
beyond_is g None f is reached =
    ap (λ b. nat_lt g.last (longest f) && not b) (empty_alike g.braid is.braid g.last ∙ closed_is_empty g is reached) ∙ and_right (nat_lt g.last (longest f)) false refl
beyond_is g (Some stop) f is reached =
    ap (λ b. nat_lt g.last (longest f) && not b) (empty_alike g.braid is.braid g.last ∙ (stopped_is_filled g stop is reached).filled) ∙ and-true (nat_lt g.last (longest f))

-- the line of what the reduction answers
pub normal_line_is : (g : GradedValue) (order : List ℕ) (stop : Option Stop) (k : ℕ) (f : Combination) (n : Normal) → IsGraded g → HasEnd g stop → IsOver g.braid.letters f → n ≡ normal_of g.braid g.last f →
    normal_line Forms g.braid.field order k n ≡ cond (is_beyond_stop stop g.last f) (beyond_line k g.last) (form_line g.braid.field order k (normal_form_by_parts is_in_kernel g.braid f))
unfolding normal_of
normal_line_is g order stop k f n is reached over e =
    ap (normal_line Forms g.braid.field order k) e ∙ ap (λ b. normal_line Forms g.braid.field order k (cond b (Beyond g.last) (Form (normal_form_by_parts is_killed g.braid f)))) (beyond_is g stop f is reached)
    ∙ at (is_beyond_stop stop g.last f)
  where
    at : (b : Bool) → normal_line Forms g.braid.field order k (cond b (Beyond g.last) (Form (normal_form_by_parts is_killed g.braid f))) ≡ cond b (beyond_line k g.last) (form_line g.braid.field order k (normal_form_by_parts is_in_kernel g.braid f))
    at true = refl
    at false = ap (form_line g.braid.field order k) (forms_have_one_reading g.braid is.braid f over)

-- the pieces of what the reduction answers
pub normal_pieces_are : (g : GradedValue) (order : List ℕ) (stop : Option Stop) (k : ℕ) (fs : List Combination) → IsGraded g → HasEnd g stop → AllByRecursion (IsOver g.braid.letters) fs →
    numbered_pieces (normal_piece Forms g.braid.field order) k (map (normal_of g.braid g.last) fs) ≡ numbered_pieces (form_due g.braid order stop g.last) k fs
unfolding form_due
normal_pieces_are g order stop k [] is reached over = refl
normal_pieces_are g order stop k (f ∷ fs) is reached over =
    ap₂ (λ (t : List ℕ) (ps : List Piece). piece t None ∷ ps) (normal_line_is g order stop k f (normal_of g.braid g.last f) is reached over.0 refl) (normal_pieces_are g order stop (suc k) fs is reached over.1)

-- there is a piece where there is an item
pub some_pieces : {X : Type 0} (f : ℕ → X → Piece) (k : ℕ) (xs : List X) → 0 < length xs → 0 < length (numbered_pieces f k xs)
some_pieces f k [] some = absurd (omega arith)
some_pieces f k (x ∷ xs) some = omega arith
