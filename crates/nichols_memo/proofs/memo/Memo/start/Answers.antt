use Rattle.std.proofs.Common.{◌∙◌, sym, subst, ℕ, List, replicate, None}
use Rattle.atomic_table.specs.Table.{opening}
use Rattle.nichols_memo.specs.Rule.{Holds}
use Rattle.nichols_memo.specs.Views.{first_view}
use Rattle.nichols_memo.proofs.Kept.{opens}
use Rattle.nichols_memo.proofs.memo.Memo.start.Goals as goal

pub vacant-requires : goal.vacant-requires
vacant-requires c =
    subst (λ (ws : List ℕ). Holds c.args.braid.now (opening ws (replicate c.args.slots None) (first_view c.args.braid.now))) (sym (c.as_slice.ensures.value ∙ c.in_ok-words.ensures.items_if_clones_equal (λ y e. e)))
    (opens c.args.braid.now c.args.slots)
