-- A release keeps the rule, and changes the state as its event does.
use Rattle.std.proofs.Common.{◌≡◌, ℕ, ◌-◌, ◌<◌, Bool, true, false, cond, eqb, ◌||◌, get_or, set, refl, sym, ap, ◌∙◌, inl, eq-eqb, ne_eqb, arith}
use mathlib.Core.Option.{some, none}
use lib.ListN.{get_elem?}
use Rattle.atomic_table.specs.Table.{keeps, step, Allows}
use Rattle.nichols_core.specs.declared.stage.Stage.TheVariants.{Ready, Parked, Resumed, Published}
use Rattle.nichols_core.specs.Machine.{Machine, put_owed, release, is_held_by, is_resumed_by, is_published}
use Rattle.nichols_core.specs.SixLaws.{SixLaws}
use Rattle.nichols_core.specs.Runs.{one_if}
use Rattle.nichols_core.proofs.Stages.{put_is, resumed_by}
use Rattle.nichols_core.proofs.LawsKept.{core, whole, release_keeps}
use Rattle.nichols_shelf.specs.Plan.{PlanValue}
use Rattle.nichols_shelf.specs.Lists.{is_in}
use Rattle.nichols_shelf.specs.Places.{blocks, edge, desk_place}
use Rattle.nichols_shelf.specs.Views.{release_view}
use Rattle.nichols_shelf.specs.Words.{done_bit}
use Rattle.nichols_shelf.specs.Seats.{is_made_by, Knows}
use Rattle.nichols_shelf.specs.Stands.{Tableau, Book, Stands, Holds}
use Rattle.nichols_shelf.specs.Steps.{Mine, release_step}
use Rattle.nichols_shelf.specs.declared.view.View.{View}
use Rattle.nichols_shelf.proofs.Listed.{is_in-without}
use Rattle.nichols_shelf.proofs.StageTests.{put_same, owed_of_other, owed_of_mine, not_resumed_by}
use Rattle.nichols_shelf.proofs.Desks.{IsLike, desk_step, edges_stay}
use Rattle.nichols_shelf.proofs.SeatsKept.{Elsewhere, seats_step, made_stays, published_stays}
use Rattle.nichols_shelf.proofs.SlotsKept.{SameEdges, slots_kept}

module _ (g : PlanValue) (s : Tableau) (m : Machine) (laws : SixLaws g.layout.edges m) (book : Book) (st : Stands g s m book)
    (id : ℕ) (v : View) (at : get_elem? s.views id ≡ some v) (live : v.live ≡ true) (b : ℕ) (inside : b < blocks g) (lists : is_in b v.resumed ≡ true) where
  abbrev found : ℕ
  found = get_or s.words (desk_place b) 0

  abbrev v' : View
  v' = release_view b found v

  abbrev n : Machine
  n = release v.worker b m

  pub was : m.stage b ≡ Resumed v.worker
  was = resumed_by v.worker (m.stage b) (sym ((st.seats.knows id v at live).resumed b) ∙ lists)

  like : IsLike (m.stage b) Ready
  like = record {
    done = sym (ap done_bit was);
    unparked = λ l e. absurd (cc);
    parked = λ l e. absurd (let q : Resumed v.worker ≡ Parked l = sym was ∙ e in cc);
    published = λ e. absurd (let q : Resumed v.worker ≡ Published = sym was ∙ e in cc);
  }

  same_published : (c : ℕ) → is_published (n.stage c) ≡ is_published (m.stage c)
  same_published = put_same m.stage b Ready is_published (sym (ap is_published was))

  same_held : (u c : ℕ) → is_held_by u (n.stage c) ≡ is_held_by u (m.stage c)
  same_held u = put_same m.stage b Ready (is_held_by u) (sym (ap (is_held_by u) was))

  same_made : (u c : ℕ) → is_made_by g n book.maker u c ≡ is_made_by g m book.maker u c
  same_made = made_stays g m n book.maker same_published

  still_published : (c : ℕ) → m.stage c ≡ Published → n.stage c ≡ Published
  still_published = published_stays g m n book.maker same_published

  elsewhere : Elsewhere g v.worker m n book.maker book.maker
  elsewhere = record {
    held = λ u c ne. same_held u c;
    resumed = λ u c ne. put_same m.stage b Ready (is_resumed_by u) (sym (not_resumed_by v.worker u (m.stage b) was ne)) c;
    owed = λ u c ne. owed_of_other m.owes v.worker b true u c ne;
    published = still_published;
    made = λ u c ne. same_made u c;
  }

  one_more : (t x : Bool) → (t || x) ≡ cond t true x
  one_more true x = refl
  one_more false x = refl

  mine : Knows g n book.seat book.maker id v'
  mine = let k = st.seats.knows id v at live in record {
    plan = k.plan;
    place = k.place;
    held = λ c. k.held c ∙ sym (same_held v.worker c);
    resumed = λ c. is_in-without c b v.resumed ∙ put_is m.stage b Ready c (λ t. cond (eqb c b) false (is_in c v.resumed) ≡ is_resumed_by v.worker t)
        (λ e. ap (λ t. cond t false (is_in c v.resumed)) (eq-eqb c b e))
        (λ ne. ap (λ t. cond t false (is_in c v.resumed)) (ne_eqb c b ne) ∙ k.resumed c);
    owed = λ c. one_more (eqb c b) (is_in c v.owed) ∙ (ap (λ t. cond (eqb c b) true t) (k.owed c) ∙ sym (owed_of_mine m.owes v.worker b true c));
    known = λ c h. still_published c (k.known c h);
    made = λ c. k.made c ∙ ap one_if (sym (same_made v.worker c));
  }

  same_edges : SameEdges g m n book.maker book.maker book.drawn
  same_edges = record {
    laid = λ k. refl;
    picked = λ k. refl;
    tended = λ w c h. inl ((λ i. sym (same_held w c) i || sym (same_made w c) i) ∙ h);
    drawn_held = λ w k in_k d. same_held w (edge g k).lower;
  }

  pub release_stands : Stands g record { words = set s.words (desk_place b) 0; homes = s.homes; views = set s.views id v' } n book
  release_stands = record {
    words = desk_step g s.words m st.words b inside 0 Ready (put_owed m.owes v.worker b true) refl like;
    seats = seats_step g s.views m n book.seat book.count book.first book.maker book.maker st.seats id v v' at live live refl refl refl elsewhere mine;
    slots = slots_kept g s.words (set s.words (desk_place b) 0) s.homes s.homes s.views m n laws book.maker book.maker book.value book.drawn st.slots same_edges id v v' at live refl refl refl refl
        (λ k _. edges_stay g s.words m st.words b inside 0 Ready (put_owed m.owes v.worker b true) k) refl (λ k _ _. refl) (λ k _ x e. e);
  }

pub release_allowed : (g : PlanValue) (slots id : ℕ) (me : Mine) (b : ℕ) → b < blocks g → me.0.live ≡ true → is_in b me.0.resumed ≡ true
    → Allows (Holds g) slots id me (desk_place b) (λ _. 0) (release_step (step slots (desk_place b) 0 0 none) me)
release_allowed g slots id me b inside live lists s h deep at word =
    let x = get_or s.words (desk_place b) 0 in
    let same : desk_place b - 1 ≡ b = omega arith in (
      release_view b x me.0,
      keeps,
      tt,
      record {
        machine = release me.0.worker b h.machine;
        book = h.book;
        rules = h.rules;
        laws = whole g.layout.edges (release me.0.worker b h.machine) (release_keeps g.layout.edges h.machine me.0.worker b (core g.layout.edges h.machine h.laws) (was g s h.machine h.laws h.book h.stands id me.0 at live b inside lists));
        stands = release_stands g s h.machine h.laws h.book h.stands id me.0 at live b inside lists;
      },
      ap (λ d. (release_view d x me.0, me.1)) (sym same),
    )
