-- A step on the word of an edge leaves the words of blocks, and what views say of blocks.
use Rattle.std.proofs.Common.{◌≡◌, ◌≢◌, ℕ, ◌-◌, ◌<◌, Bool, true, List, get_or, set, refl, sym, ap, ◌∙◌, arith, length-set, get_or-set_other, get_or-set_same}
use Rattle.std.specs.Int.{bit_at}
use mathlib.Core.Option.{some}
use lib.ListN.{get_elem?}
use Rattle.nichols_core.specs.Machine.{Machine, is_held_by, is_resumed_by}
use Rattle.nichols_core.specs.Runs.{one_if}
use Rattle.nichols_shelf.specs.Plan.{PlanValue}
use Rattle.nichols_shelf.specs.Places.{blocks, edges, edge, desk_place, wait_place, edge_place}
use Rattle.nichols_shelf.specs.Words.{WordsStand}
use Rattle.nichols_shelf.specs.Seats.{is_made_by, SeatsStand}
use Rattle.nichols_shelf.specs.Lists.{is_in, times_in}
use Rattle.nichols_shelf.specs.declared.view.View.{View}
use Rattle.nichols_shelf.proofs.SeatsKept.{seats_step}

module _ (g : PlanValue) (words : List ℕ) (m : Machine) (st : WordsStand g words m) (k : ℕ) (in_k : k < edges g) (x : ℕ) (laid picked : ℕ → Bool) where
  abbrev ws : List ℕ
  ws = set words (edge_place g k) x

  desk_same : (c : ℕ) → c < blocks g → get_or ws (desk_place c) 0 ≡ get_or words (desk_place c) 0
  desk_same c h = get_or-set_other words (edge_place g k) (desk_place c) x 0 (λ q. omega arith)

  wait_same : (c : ℕ) → c < blocks g → get_or ws (wait_place g c) 0 ≡ get_or words (wait_place g c) 0
  wait_same c h = get_or-set_other words (edge_place g k) (wait_place g c) x 0 (λ q. omega arith)

  pub code_here : (j : ℕ) → j ≡ k → get_or ws (edge_place g j) 0 ≡ x
  code_here j e = ap (λ i. get_or ws (edge_place g i) 0) e ∙ get_or-set_same words (edge_place g k) x 0 (let w = st.wide in omega arith)

  pub code_else : (j : ℕ) → j ≢ k → get_or ws (edge_place g j) 0 ≡ get_or words (edge_place g j) 0
  code_else j ne = get_or-set_other words (edge_place g k) (edge_place g j) x 0 (λ z. ne (omega arith))

  pub words_same : ((j : ℕ) → j < edges g → (edge g j).lower < blocks g) → WordsStand g ws (record m { laid = laid; picked = picked })
  words_same low_in = record {
    wide = length-set words (edge_place g k) x ∙ st.wide;
    desk = λ c h. desk_same c h ∙ st.desk c h;
    done = λ c h. ap (λ y. bit_at y 63) (wait_same c h) ∙ st.done c h;
    parked = λ c l p. let r = st.parked c l p in record { number = r.number; inside = r.inside; lower = r.lower; upper = r.upper; bit = ap (λ y. bit_at y ((edge g r.number).letter - 1)) (wait_same (edge g r.number).lower (low_in r.number r.inside)) ∙ r.bit };
    waits = λ j in_j yet b. st.waits j in_j yet (ap (λ y. bit_at y ((edge g j).letter - 1)) (sym (wait_same (edge g j).lower (low_in j in_j))) ∙ b);
    lettered = λ c j in_c last b. st.lettered c j in_c last (ap (λ y. bit_at y j) (sym (wait_same c in_c)) ∙ b);
  }

-- a view of the same blocks
module _ (g : PlanValue) (views : List View) (m : Machine) (laid picked : ℕ → Bool) (seat : ℕ → ℕ) (count first : ℕ) (maker : ℕ → ℕ) (st : SeatsStand g views m seat count first maker)
    (id : ℕ) (v v' : View) (at : get_elem? views id ≡ some v) (live : v.live ≡ true) where
  pub seats_same : v'.live ≡ true → v'.worker ≡ v.worker → v'.passes ≡ v.passes → v'.joined ≡ v.joined → v'.plan ≡ v.plan → v'.held ≡ v.held → v'.resumed ≡ v.resumed → v'.owed ≡ v.owed → v'.known ≡ v.known → v'.made ≡ v.made
      → SeatsStand g (set views id v') (record m { laid = laid; picked = picked }) seat count first maker
  seats_same alive worker passes joined plan held resumed owed known made =
      let k = st.knows id v at live in
      seats_step g views m (record m { laid = laid; picked = picked }) seat count first maker maker st id v v' at live alive worker passes joined
      record { held = λ u c ne. refl; resumed = λ u c ne. refl; owed = λ u c ne. refl; published = λ c e. e; made = λ u c ne. refl }
      record {
        plan = plan ∙ k.plan;
        place = ap seat worker ∙ k.place;
        held = λ b. (λ i. is_in b (held i)) ∙ (k.held b ∙ (λ i. is_held_by (sym worker i) (m.stage b)));
        resumed = λ b. (λ i. is_in b (resumed i)) ∙ (k.resumed b ∙ (λ i. is_resumed_by (sym worker i) (m.stage b)));
        owed = λ b. (λ i. is_in b (owed i)) ∙ (k.owed b ∙ (λ i. m.owes (sym worker i) b));
        known = λ b h. k.known b ((λ i. is_in b (sym known i)) ∙ h);
        made = λ b. (λ i. times_in b (made i)) ∙ (k.made b ∙ (λ i. one_if (is_made_by g m maker (sym worker i) b)));
      }
