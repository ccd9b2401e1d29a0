-- What a pass owes after others were joined into it, one after another.
use Rattle.std.proofs.Common.{◌≡◌, ℕ, suc, ◌<◌, List, [], ◌∷◌, length, subst, sym, ◌∙◌, arith}
use Rattle.std.proofs.lemmas.Bool.{or_from}
use Rattle.nichols_shelf.specs.Plan.{PlanValue}
use Rattle.nichols_shelf.specs.Lists.{is_in}
use Rattle.nichols_shelf.specs.Places.{blocks}
use Rattle.nichols_shelf.specs.Passes.{view_of}
use Rattle.nichols_shelf.specs.Settled.{OwesNothing}
use Rattle.nichols_shelf.specs.Views.{joined_view}
use Rattle.nichols_shelf.specs.Joining.{AreNumbered, OweNothing, joined_views}
use Rattle.nichols_shelf.specs.declared.view.View.{View}
use Rattle.nichols_shelf.specs.declared.pass.Pass.{Pass}
use Rattle.nichols_shelf.specs.declared.shelf.Shelf.{Shelf}
use Rattle.nichols_shelf.proofs.Listed.{is_in-append}

-- where none of them owed anything, nothing is owed
pub owes_nothing : (s : Shelf) (k : ℕ) (v : View) (ps : List Pass) → v.plan ≡ s.plan → AreNumbered s k ps → OwesNothing v → OweNothing ps → OwesNothing (joined_views v ps)
owes_nothing s k v [] same all own none = own
owes_nothing s k v (p ∷ ps) same all own none = owes_nothing s (suc k) (joined_view v (view_of p)) ps same all.4
    (λ b inside. is_in-append b v.owed (view_of p).owed ∙ or_from (is_in b v.owed) (is_in b (view_of p).owed) (own b inside)
    (none.0 b (subst (λ (g : PlanValue). b < blocks g) (same ∙ sym all.0.1) inside)))
    none.1

-- the same at the end of the list of those that are left
pub owes_nothing_at_end : (s : Shelf) (k : ℕ) (v w : View) (ps left : List Pass) → length left ≡ 0 → joined_views w left ≡ joined_views v ps
    → v.plan ≡ s.plan → AreNumbered s k ps → OwesNothing v → OweNothing ps → OwesNothing w
owes_nothing_at_end s k v w ps [] e view same all own none = subst OwesNothing (sym view) (owes_nothing s k v ps same all own none)
owes_nothing_at_end s k v w ps (p ∷ left) e view same all own none = absurd (omega arith)
