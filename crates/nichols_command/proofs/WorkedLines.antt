-- Command lines that are written out.
use Rattle.std.proofs.Common.{◌≡◌, ℕ, true, false, List, [], ◌∷◌, refl, codes, Option, Some, None}
use Rattle.std.specs.Prelude.{IsSome}
use Rattle.clap.proofs.OnLiterals.{clap_on_literals}
use Rattle.nichols_command.specs.Numbers.{digits_value}
use Rattle.nichols_command.specs.Texts.{Texts, texts_of}
use Rattle.nichols_command.specs.Command.{command_of}
use Rattle.nichols_command.specs.declared.command.Options.{Options}
use Rattle.nichols_command.specs.declared.command.Command.TheVariants.{OnDocument, Points}
use Rattle.nichols_command.specs.declared.command.Task.TheVariants.{Algebra, Reduce, Symmetrize, Product, Table, Cover}

abbrev defaults : Options
defaults = record { degree_limit = 12; rows_limit = 1024; workers = 4; window = 2; brief = false }

no_option : command_of (codes "algebra" ∷ []) ≡ Some (OnDocument (Algebra defaults))
unfolding clap_on_literals texts_of command_of
no_option = refl

joined_value : command_of (codes "algebra" ∷ codes "--degree=04" ∷ []) ≡ Some (OnDocument (Algebra (record defaults { degree_limit = 4 })))
unfolding clap_on_literals texts_of command_of digits_value
joined_value = refl

any_order : command_of (codes "algebra" ∷ codes "--brief" ∷ codes "--window=8" ∷ codes "--rows" ∷ codes "9" ∷ []) ≡ Some (OnDocument (Algebra (record defaults { window = 8; rows_limit = 9; brief = true })))
unfolding clap_on_literals texts_of command_of digits_value
any_order = refl

unused_option : command_of (codes "symmetrize" ∷ codes "--workers" ∷ codes "16" ∷ []) ≡ Some (OnDocument Symmetrize)
unfolding clap_on_literals texts_of command_of digits_value
unused_option = refl

no_word : command_of [] ≡ None
unfolding clap_on_literals texts_of command_of
no_word = refl

help : command_of (codes "--help" ∷ []) ≡ None
unfolding clap_on_literals texts_of command_of
help = refl

unknown_option : command_of (codes "algebra" ∷ codes "--colour" ∷ []) ≡ None
unfolding clap_on_literals texts_of command_of
unknown_option = refl

option_twice : command_of (codes "algebra" ∷ codes "--degree" ∷ codes "4" ∷ codes "--degree=4" ∷ []) ≡ None
unfolding clap_on_literals texts_of command_of
option_twice = refl

a_task : command_of (codes "reduce" ∷ []) ≡ Some (OnDocument (Reduce defaults))
unfolding clap_on_literals texts_of command_of
a_task = refl

a_product : command_of (codes "product" ∷ codes "--degree=4" ∷ []) ≡ Some (OnDocument (Product (record defaults { degree_limit = 4 })))
unfolding clap_on_literals texts_of command_of digits_value
a_product = refl

a_table : command_of (codes "table" ∷ codes "--degree=4" ∷ []) ≡ Some (OnDocument (Table (record defaults { degree_limit = 4 })))
unfolding clap_on_literals texts_of command_of digits_value
a_table = refl

a_cover : command_of (codes "cover" ∷ codes "--degree=4" ∷ []) ≡ Some (OnDocument (Cover (record defaults { degree_limit = 4 })))
unfolding clap_on_literals texts_of command_of digits_value
a_cover = refl

some_points : command_of (codes "points" ∷ codes "4" ∷ []) ≡ Some (Points 4 defaults)
unfolding clap_on_literals texts_of command_of digits_value
some_points = refl

too_many_points : command_of (codes "points" ∷ codes "8" ∷ []) ≡ None
unfolding clap_on_literals texts_of command_of digits_value
too_many_points = refl

points_alone : command_of (codes "points" ∷ []) ≡ None
unfolding clap_on_literals texts_of command_of
points_alone = refl

unwanted_word : command_of (codes "algebra" ∷ codes "3" ∷ []) ≡ None
unfolding clap_on_literals texts_of command_of
unwanted_word = refl

sign : command_of (codes "algebra" ∷ codes "--degree" ∷ codes "+4" ∷ []) ≡ None
unfolding clap_on_literals texts_of command_of
sign = refl

blank : command_of (codes "algebra" ∷ codes "--degree" ∷ codes " 4" ∷ []) ≡ None
unfolding clap_on_literals texts_of command_of
blank = refl

other_base : command_of (codes "algebra" ∷ codes "--degree" ∷ codes "0x4" ∷ []) ≡ None
unfolding clap_on_literals texts_of command_of
other_base = refl

ten_digits : command_of (codes "algebra" ∷ codes "--degree" ∷ codes "0000000004" ∷ []) ≡ None
unfolding clap_on_literals texts_of command_of
ten_digits = refl

empty_value : command_of (codes "algebra" ∷ codes "--degree=" ∷ []) ≡ None
unfolding clap_on_literals texts_of command_of
empty_value = refl

degree_too_great : command_of (codes "algebra" ∷ codes "--degree" ∷ codes "61" ∷ []) ≡ None
unfolding clap_on_literals texts_of command_of digits_value
degree_too_great = refl

no_rows : command_of (codes "algebra" ∷ codes "--rows" ∷ codes "0" ∷ []) ≡ None
unfolding clap_on_literals texts_of command_of digits_value
no_rows = refl

-- ---- two lines that differ in workers and window alone

abbrev pub one_worker : List (List ℕ)
one_worker = codes "algebra" ∷ codes "--workers=1" ∷ codes "--degree" ∷ codes "4" ∷ []

abbrev pub wide_window : List (List ℕ)
wide_window = codes "algebra" ∷ codes "--degree=4" ∷ codes "--window" ∷ codes "8" ∷ []

abbrev pub texts_with : Option (List ℕ) → Option (List ℕ) → Texts
texts_with workers window =
    record { command = Some (codes "algebra"); points = None; degree = Some (codes "4"); rows = None; workers = workers; window = window; brief = Some (codes "false") }

pub one_worker_texts : texts_of one_worker ≡ Some (texts_with (Some (codes "1")) None)
unfolding clap_on_literals texts_of
one_worker_texts = refl

pub wide_window_texts : texts_of wide_window ≡ Some (texts_with None (Some (codes "8")))
unfolding clap_on_literals texts_of
wide_window_texts = refl

pub one_worker_is_command : IsSome (command_of one_worker)
unfolding clap_on_literals texts_of command_of digits_value
one_worker_is_command = refl

pub wide_window_is_command : IsSome (command_of wide_window)
unfolding clap_on_literals texts_of command_of digits_value
wide_window_is_command = refl
