-- The laws of the memo.
use Rattle.std.proofs.Common.{◌≡◌, ◌<◌, get_or, sym, ◌∙◌, subst, inl, inr, ⊎_elim, arith, Some}
use mathlib.Core.Option.{some, none, some-injective, some-ne-none}
use Rattle.nichols_memo.specs.Forms.{IsRight}
use Rattle.nichols_memo.specs.Laws.{LiveSeatsHoldOneBraid, EntriesAtHomeAreNormalForms, ATurnIsHeldWhereOneSeatHasTheSlot, ANewMemoIsEmpty, ATryKeepsTheRule, ABackKeepsTheRule, ASplitKeepsTheRule, AJoinKeepsTheRule}
use Rattle.nichols_memo.specs.Rule.{IsFree, IsHeldBy}
use Rattle.nichols_memo.proofs.Kept.{inside_of, wins, loses, ends, longer, leaves, opens}

pub live_seats_hold_one_braid : LiveSeatsHoldOneBraid
live_seats_hold_one_braid braid s h id v there live = (h.each_seat id v there).braid_is live

pub entries_at_home_are_normal_forms : EntriesAtHomeAreNormalForms
entries_at_home_are_normal_forms braid s h k e home = ⊎_elim
    (λ (f : IsFree braid s k). subst (IsRight braid) (some-injective f.entry (Some e) (some-injective (some f.entry) (some (Some e)) (sym f.home ∙ home))) f.right)
    (λ (t : IsHeldBy s (h.owner k) k). absurd (some-ne-none (Some e) (some-injective (some (Some e)) none (sym home ∙ t.away))))
    (h.each_slot k (let d = h.deep in let i = inside_of s.homes k (some (Some e)) home in omega arith))

pub a_turn_is_held_where_one_seat_has_the_slot : ATurnIsHeldWhereOneSeatHasTheSlot
a_turn_is_held_where_one_seat_has_the_slot braid s h k inside = ⊎_elim
    (λ (f : IsFree braid s k). inl (f.word, λ j v there out. absurd (let z : 0 ≡ 1 = sym f.word ∙ (h.each_seat j v there).held k out in omega arith)))
    (λ (t : IsHeldBy s (h.owner k) k). inr (t.word, record { id = h.owner k; view = t.view; there = t.there; live = t.live; out = t.out; only = λ j v there out. sym ((h.each_seat j v there).alone k out) }))
    (h.each_slot k (let d = h.wide in omega arith))

pub a_new_memo_is_empty : ANewMemoIsEmpty
a_new_memo_is_empty braid slots = opens braid slots

pub a_try_keeps_the_rule : ATryKeepsTheRule
a_try_keeps_the_rule braid s id v h none_out k inside =
    let in_k : k < h.rule.slots = let d = h.rule.wide in omega arith in
    ⊎_elim
    (λ (f : IsFree braid s k). inl (f.word, (f.entry, f.home, f.right, wins braid s h.rule id v h.there h.live none_out k in_k f)))
    (λ (t : IsHeldBy s (h.rule.owner k) k). inr ((λ e. absurd (let z : 0 ≡ 1 = sym e ∙ t.word in omega arith)), loses braid s h.rule id v h.there k (get_or s.words k 0)))
    (h.rule.each_slot k in_k)

pub a_back_keeps_the_rule : ABackKeepsTheRule
a_back_keeps_the_rule braid s id v h k out x right = ends braid s h.rule id v h.there k out x right (get_or s.words k 0)

pub a_split_keeps_the_rule : ASplitKeepsTheRule
a_split_keeps_the_rule braid s id v h = longer braid s h.rule id v h.there h.live

pub a_join_keeps_the_rule : AJoinKeepsTheRule
a_join_keeps_the_rule braid s id v h other u apart there idle = leaves braid s h.rule other u there idle
