-- The laws of the shelf.
use Rattle.std.proofs.Common.{◌≡◌, ◌≢◌, ℕ, ◌-◌, ◌^◌, ◌<◌, Bool, true, false, eqb, ◌&&◌, List, [], ◌∷◌, Option, get_or, set, refl, sym, ap, ◌∙◌, subst, eq-eqb, ne_eqb, lt-ltb, Some, None}
use Rattle.std.specs.Prelude.{is_some, nat_lt, bit_or}
use Rattle.std.proofs.lemmas.Bool.{ltb-true, and_parts, and_right}
use Rattle.std.proofs.lemmas.Option.{same_Some, none-some}
use Rattle.std.proofs.Math.Bool.{and-false}
use mathlib.Core.Option as table
use mathlib.Core.Option.{some, none, some-injective, some-ne-none}
use lib.ListN.{get_elem?}
use Rattle.atomic_table.specs.Table.{homes_after}
use Rattle.nichols_core.specs.Machine.{ask, publish, is_published}
use Rattle.nichols_core.specs.SixLaws.{NonePicked}
use Rattle.nichols_core.specs.Runs.{one_if}
use Rattle.nichols_core.proofs.Conditions.{after_ask, after_pick, after_lay, after_publish, after_release}
use Rattle.nichols_core.proofs.Stages.{published}
use Rattle.nichols_value.specs.Worth.{worth}
use Rattle.nichols_value.specs.declared.shared.Shared.{Shared}
use Rattle.nichols_value.specs.declared.value.BlockValue.{BlockValue}
use Rattle.nichols_shelf.specs.Plan.{PlanValue, IsRightFor}
use Rattle.nichols_shelf.specs.Lists.{is_in, noted_value}
use Rattle.nichols_shelf.specs.Places.{blocks, edges, edge, desk_place, wait_place, edge_place}
use Rattle.nichols_shelf.specs.Views.{lay_view, release_view, ask_view, publish_view, pick_view}
use Rattle.nichols_shelf.specs.Words.{done_bit}
use Rattle.nichols_shelf.specs.Seats.{is_made_by}
use Rattle.nichols_shelf.specs.Out.{sent_home}
use Rattle.nichols_shelf.specs.Stands.{Tableau, Stands, Holds}
use Rattle.nichols_shelf.specs.Laws.{StandsFor, stepped_to, IsShown, at_home, as_picked, as_laid, ATakeIsItsEvent, AReleaseIsItsEvent, AnAskIsItsEvent, APublicationIsItsEvent, APickIsItsEvent, ADrawLeavesTheState, ALayingIsItsEvent, ASplitLeavesTheState, AJoinPassesDebts, ValuesAreRight, ABlockHasOneValue, APublishedBlockWasMadeOnce, NothingElseWasMade}
use Rattle.nichols_shelf.proofs.Taken.{take_stands}
use Rattle.nichols_shelf.proofs.Released.{release_stands, was}
use Rattle.nichols_shelf.proofs.Asking.{ask_stands, held, none_picked}
use Rattle.nichols_shelf.proofs.Gives.{give_all}
use Rattle.nichols_shelf.proofs.Published as publication
use Rattle.nichols_shelf.proofs.Picked as picking
use Rattle.nichols_shelf.proofs.Drawn as drawing
use Rattle.nichols_shelf.proofs.Laid as laying
use Rattle.nichols_shelf.proofs.Split.{split_stands}
use Rattle.nichols_shelf.proofs.Joined.{join_stands}
use Rattle.nichols_shelf.proofs.SeatsKept.{concerns_made}
use Rattle.nichols_shelf.proofs.StageTests.{done_is}

pub a_take_is_its_event : ATakeIsItsEvent
a_take_is_its_event g s m book id v h b inside = (book, take_stands g s m h.laws book h.stands id v h.there h.live b inside)

pub a_release_is_its_event : AReleaseIsItsEvent
a_release_is_its_event g s m book id v h b inside lists =
    let found = get_or s.words (desk_place b) 0 in
    subst (StandsFor g (stepped_to s (desk_place b) 0 id (release_view b found v))) (sym (after_release g.layout h.rules m v.worker b (was g s m h.laws book h.stands id v h.there h.live b inside lists)))
    (book, release_stands g s m h.laws book h.stands id v h.there h.live b inside lists)

pub a_split_leaves_the_state : ASplitLeavesTheState
a_split_leaves_the_state g s m book id v h zeroth = (_, split_stands g s m book h.stands id v h.there h.live zeroth)

pub a_join_passes_debts : AJoinPassesDebts
a_join_passes_debts g s m book id v h zeroth other u apart there alive next no_held no_resumed = (_, join_stands g s m book h.stands id v h.there h.live zeroth other u apart there alive next no_held no_resumed)

pub an_ask_is_its_event : AnAskIsItsEvent
an_ask_is_its_event g s m book id v h b a may =
    let k = may.number in
    let at = may.into in
    let i = wait_place g (edge g k).lower in
    let found = get_or s.words i 0 in
    let lists : is_in (edge g k).upper v.held ≡ true = ap (λ c. is_in c v.held) at.upper ∙ may.holds in
    let unpicked : (j : ℕ) → j < edges g → (edge g j).upper ≡ (edge g k).upper → noted_value j v.picked ≡ None = λ j in_j up. may.unpicked j in_j (up ∙ at.upper) in
    let is = held g h.rules s m h.laws book h.stands id v h.there h.live k at.inside lists unpicked in
    let none = none_picked g h.rules s m h.laws book h.stands id v h.there h.live k at.inside lists unpicked in
    let same = after_ask g.layout h.rules m v.worker b a k (ap m.stage (sym at.upper) ∙ is) at (subst (NonePicked g.layout.edges m) at.upper none) ∙ ap (λ c. ask c (edge g k).lower m) (sym at.upper) in (
      book,
      subst (λ n. Stands g (stepped_to s i (bit_or found (2 ^ ((edge g k).letter - 1))) id (ask_view g k found v)) n book) (sym same)
          (ask_stands g h.rules s m h.laws book h.stands id v h.there h.live k at.inside lists unpicked),
    )

-- where slots are once all of them went home
homes_sent : (homes : List (table.Option (Option Shared))) (out : List (ℕ × Option Shared)) → homes_after homes out (give_all out) ≡ sent_home homes out
homes_sent homes [] = refl
homes_sent homes (x ∷ xs) = homes_sent (set homes x.0 (some x.1)) xs

pub a_publication_is_its_event : APublicationIsItsEvent
a_publication_is_its_event g s m book id v h b inside may out are =
    let found = get_or s.words (wait_place g b) 0 in
    let words = set s.words (wait_place g b) (bit_or found (2 ^ 63)) in
    let views = set s.views id (publish_view g b found v) in
    let is = publication.held g s m h.laws book h.stands id v h.there h.live b inside may.holds may.picked may.laid out are in
    let full = publication.full g s m h.laws book h.stands id v h.there h.live b inside may.holds may.picked may.laid out are in
    let spread = publication.spread g s m h.laws book h.stands id v h.there h.live b inside may.holds may.picked may.laid out are in
    subst (StandsFor g (record { words = words; homes = sent_home s.homes out; views = views })) (sym (after_publish g.layout h.rules m v.worker b is full spread))
    (subst (λ homes. StandsFor g (record { words = words; homes = homes; views = views }) (publish v.worker b m)) (homes_sent s.homes out)
    (_, publication.publish_stands g s m h.laws book h.stands id v h.there h.live b inside may.holds may.picked may.laid out are))

pub a_pick_is_its_event : APickIsItsEvent
a_pick_is_its_event g s m book id v h b a may =
    let k = may.number in
    let at = may.into in
    let found = get_or s.words (edge_place g k) 0 in
    let lists : is_in (edge g k).upper v.held ≡ true = ap (λ c. is_in c v.held) at.upper ∙ may.holds in
    let home = picking.at_home g h.rules s m h.laws book h.stands id v h.there h.live k at.inside lists may.knows may.unpicked in
    let is = picking.held g h.rules s m h.laws book h.stands id v h.there h.live k at.inside lists may.knows may.unpicked in
    let low = picking.low_published g h.rules s m h.laws book h.stands id v h.there h.live k at.inside lists may.knows may.unpicked in
    let laid = picking.is_laid g h.rules s m h.laws book h.stands id v h.there h.live k at.inside lists may.knows may.unpicked in
    let yet = picking.unpicked g h.rules s m h.laws book h.stands id v h.there h.live k at.inside lists may.knows may.unpicked in
    let same = after_pick g.layout h.rules m v.worker b a k (ap m.stage (sym at.upper) ∙ is) at low laid yet in (
      home.shared,
      home.there,
      subst (StandsFor g (record { words = set s.words (edge_place g k) 3; homes = set s.homes k none; views = set s.views id (pick_view g k (worth home.shared) found v) })) (sym same)
          (book, picking.pick_stands g h.rules s m h.laws book h.stands id v h.there h.live k at.inside lists may.knows may.unpicked),
    )

pub a_draw_leaves_the_state : ADrawLeavesTheState
a_draw_leaves_the_state g s m book id v h undrawn b a value may =
    let k = may.number in
    let at = may.out_of in
    let lists : is_in (edge g k).lower v.held ≡ true = ap (λ c. is_in c v.held) at.lower ∙ may.holds in
    let picks : (j : ℕ) → j < edges g → (edge g j).upper ≡ (edge g k).lower → is_some (noted_value j v.picked) ≡ true = λ j in_j up. may.picked j in_j (up ∙ at.lower) in (
      drawing.at_home g h.rules s m h.laws book h.stands id v h.there h.live k at.inside lists picks may.unlaid undrawn,
      (_, drawing.draw_stands g h.rules s m h.laws book h.stands id v h.there h.live k at.inside lists picks may.unlaid undrawn),
    )

pub a_laying_is_its_event : ALayingIsItsEvent
a_laying_is_its_event g s m book id v h k shared may =
    let found = get_or s.words (edge_place g k) 0 in
    let is = laying.held g h.rules s m h.laws book h.stands id v h.there h.live k may.inside may.holds may.drawn shared may.right may.equal in
    let full = laying.full g h.rules s m h.laws book h.stands id v h.there h.live k may.inside may.holds may.drawn shared may.right may.equal in
    let yet = laying.unlaid g h.rules s m h.laws book h.stands id v h.there h.live k may.inside may.holds may.drawn shared may.right may.equal in
    let same = after_lay g.layout h.rules m v.worker (edge g k).lower (edge g k).letter k is full (record { inside = may.inside; lower = refl; letter = refl }) yet in
    subst (StandsFor g (record { words = set s.words (edge_place g k) 2; homes = set s.homes k (some (Some shared)); views = set s.views id (lay_view g k (worth shared) found v) })) (sym same)
    (_, laying.lay_stands g h.rules s m h.laws book h.stands id v h.there h.live k may.inside may.holds may.drawn shared may.right may.equal)

-- a slot at home with a value is that of a laid edge, and has the value of its lower block
module _ (g : PlanValue) (s : Tableau) (h : Holds g s) where
  home_is : (k : ℕ) (shared : Shared) → k < edges g → get_elem? s.homes k ≡ some (some (Some shared)) → (h.machine.laid k ≡ true) × (worth shared ≡ h.book.value (edge g k).lower)
  home_is k shared in_k e = cases (h.machine.laid k) (h.machine.picked k) (h.book.drawn k) refl refl refl
    where
      cases : (laid picked drawn : Bool) → h.machine.laid k ≡ laid → h.machine.picked k ≡ picked → h.book.drawn k ≡ drawn → (h.machine.laid k ≡ true) × (worth shared ≡ h.book.value (edge g k).lower)
      cases true true drawn l p d = absurd (h.stands.slots.spent k in_k p shared e)
      cases true false drawn l p d =
          let r = h.stands.slots.home k in_k l p in
          let same = same_Some r.shared shared (some-injective (Some r.shared) (Some shared) (some-injective (some (Some r.shared)) (some (Some shared)) (sym r.there ∙ e))) in
          (l, ap worth (sym same) ∙ r.worth_is)
      cases false picked true l p d = absurd (some-ne-none (Some shared) (some-injective (some (Some shared)) none (sym e ∙ (h.stands.slots.away k in_k d).out)))
      cases false picked false l p d = absurd (none-some shared (some-injective None (Some shared) (some-injective (some None) (some (Some shared)) (sym (h.stands.slots.empty k in_k l d) ∙ e))))

  shown_is : (b : ℕ) (x : BlockValue) → IsShown g s b x → x ≡ h.book.value b
  shown_is b _ (at_home k shared in_k low e) = (home_is k shared in_k e).1 ∙ ap h.book.value low
  shown_is b x (as_picked id v k _ there live low e) = ((h.stands.slots.notes id v there live).picked k x e).2 ∙ ap h.book.value low
  shown_is b x (as_laid id v k _ there live low e) = ((h.stands.slots.notes id v there live).laid k x e).2 ∙ ap h.book.value low

  right_is : (k : ℕ) (x : BlockValue) → k < edges g → h.machine.laid k ≡ true → x ≡ h.book.value (edge g k).lower → IsRightFor g (edge g k).lower x
  right_is k x in_k laid is = subst (IsRightFor g (edge g k).lower) (sym is) (h.stands.slots.right k in_k laid)

pub values_are_right : ValuesAreRight
values_are_right g s h = (
  (λ k shared in_k e. let r = home_is g s h k shared in_k e in right_is g s h k (worth shared) in_k r.0 r.1),
  (λ id v k x there live e. let r = (h.stands.slots.notes id v there live).picked k x e in right_is g s h k x r.0 (h.laws.picked k r.0 r.1).0 r.2),
  (λ id v k x there live e. let r = (h.stands.slots.notes id v there live).laid k x e in right_is g s h k x r.0 r.1 r.2),
)

pub a_block_has_one_value : ABlockHasOneValue
a_block_has_one_value g s h b x y p q = shown_is g s h b x p ∙ sym (shown_is g s h b y q)

pub a_published_block_was_made_once : APublishedBlockWasMadeOnce
a_published_block_was_made_once g s h b inside bit =
    let m = h.machine in
    let maker = h.book.maker in
    let w = maker b in
    let is = done_is (m.stage b) (sym (h.stands.words.done b inside) ∙ bit) in
    let made : is_made_by g m maker w b ≡ true = λ i. lt-ltb b (blocks g) inside i && (is_published (is i) && eq-eqb w w refl i) in
    let lives = h.stands.seats.concerned w b (concerns_made g m maker w b made) in
    let k = h.stands.seats.knows (h.book.seat w) lives.view lives.there lives.live in (
      h.book.seat w,
      (
        lives.view,
        (
          lives.there,
          lives.live,
          k.made b ∙ (ap (λ u. one_if (is_made_by g m maker u b)) lives.worker ∙ ap one_if made),
          λ j u apart there live.
              let o = h.stands.seats.knows j u there live in
              let ne : w ≢ u.worker = λ e. apart (sym o.place ∙ ap h.book.seat (sym e)) in
              o.made b ∙ (ap (λ t. one_if (nat_lt b (blocks g) && (is_published (m.stage b) && t))) (ne_eqb w u.worker ne) ∙ ap one_if (and_right (nat_lt b (blocks g)) (is_published (m.stage b) && false) (and-false (is_published (m.stage b))))),
        ),
      ),
    )

pub nothing_else_was_made : NothingElseWasMade
nothing_else_was_made g s h b id v there live some_times =
    let m = h.machine in
    let k = h.stands.seats.knows id v there live in
    let made = is_true (is_made_by g m h.book.maker v.worker b) (λ e. some_times (k.made b ∙ ap one_if e)) in
    let p = and_parts (nat_lt b (blocks g)) (is_published (m.stage b) && eqb (h.book.maker b) v.worker) made in
    let inside = ltb-true b (blocks g) p.0 in
    let is = published (m.stage b) (and_parts (is_published (m.stage b)) (eqb (h.book.maker b) v.worker) p.1).0 in
    (inside, h.stands.words.done b inside ∙ ap done_bit is)
  where
    is_true : (t : Bool) → (t ≡ false → ⊥) → t ≡ true
    is_true true n = refl
    is_true false n = absurd (n refl)
