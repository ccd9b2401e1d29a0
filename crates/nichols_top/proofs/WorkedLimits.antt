-- The limits as numbers, and the numbers of a command line that gives none. The others stand in such files of `nichols_braid`,
-- `nichols_memo` and `nichols_text`, and those of documents in `Limits` of `nichols_input`.
use Rattle.std.proofs.Common.{◌≡◌, [], ◌∷◌, refl}
use Rattle.nichols_field.specs.Moduli.{moduli}
use Rattle.nichols_lift.specs.declared.TheConstants.{PLACE_LIMIT}
use Rattle.nichols_command.specs.declared.limits.TheConstants.{DIGITS_MOST, DEGREE_DEFAULT, ROWS_DEFAULT, WORKERS_DEFAULT, WORKERS_MOST, WINDOW_DEFAULT, WINDOW_MOST}
use Rattle.nichols_top.specs.declared.table.TheConstants.{TABLE_LIMIT}
use Rattle.nichols_top.specs.declared.cover.TheConstants.{CANDIDATE_LIMIT}

six_moduli : moduli ≡ 2 ∷ 3 ∷ 5 ∷ 7 ∷ 101 ∷ 65521 ∷ []
six_moduli = refl

-- ---- the command line

degree_default : DEGREE_DEFAULT ≡ 12
degree_default = refl

rows_default : ROWS_DEFAULT ≡ 1024
rows_default = refl

workers_most : WORKERS_MOST ≡ 16
workers_most = refl

workers_default : WORKERS_DEFAULT ≡ 4
workers_default = refl

window_most : WINDOW_MOST ≡ 8
window_most = refl

window_default : WINDOW_DEFAULT ≡ 2
window_default = refl

digits_most : DIGITS_MOST ≡ 9
digits_most = refl

-- ---- words under `symmetrize`

place_limit : PLACE_LIMIT ≡ 7
place_limit = refl

-- ---- tables and covers

table_limit : TABLE_LIMIT ≡ 200
table_limit = refl

candidate_limit : CANDIDATE_LIMIT ≡ 1024
candidate_limit = refl
