-- What is written into the marks is what the event does to the state of the machine.
use Rattle.std.proofs.Common.{◌≡◌, ℕ, suc, ◌+◌, ◌*◌, ◌%◌, ◌<◌, ◌≤◌, Bool, true, false, true≢false, cond, eqb, ltb, not, ◌&&◌, List, length, set, refl, sym, ap, ◌∙◌, lt-ltb, arith, length-set, get_or-set_same, get_or-set_other}
use Rattle.std.specs.Prelude.{Option, Some}
use Rattle.std.proofs.lemmas.Nat.{mod-mul-add}
use Rattle.std.proofs.lemmas.Bool.{le-ltb, and_from, cond-true, cond-false}
use Rattle.std.proofs.Math.Nat.{mul-le-mul_right}
use mathlib.Core.Logic.{dite}
use native.Mathlib.Decide.{ℕ_discrete, dec_le}
use Rattle.nichols_core.specs.declared.edge.Edge.{Edge}
use Rattle.nichols_core.specs.declared.event.Event.{Event}
use Rattle.nichols_core.specs.declared.event.Event.TheVariants.{Take, Ask, Pick, Lay, Publish, Release}
use Rattle.nichols_core.specs.declared.stage.Stage.{Stage}
use Rattle.nichols_core.specs.declared.stage.Stage.TheVariants.{Ready, Parked, Published}
use Rattle.nichols_core.specs.Layout.{edge_at, edge_into, edge_out}
use Rattle.nichols_core.specs.Machine.{Machine, put, put_owed, by_edge, some_edge, is_held_by, is_published, can, effect, stage_after_take, stage_after_publication, ask, pick, lay}
use Rattle.nichols_core.specs.States.{MarksValue, mark_at, stage_at, place_of, machine_in, HavePlace, SameLengths, Applies}
use Rattle.nichols_core.proofs.Stages.{put_here, put_else, put_both, put_other}

stage_put : (xs : List Stage) (b : ℕ) (v : Stage) → b < length xs → (c : ℕ) → stage_at (set xs b v) c ≡ put (stage_at xs) b v c
stage_put xs b v inside c =
    dite (ℕ_discrete c b)
    (λ e. ap (stage_at (set xs b v)) e ∙ (get_or-set_same xs b v Published inside ∙ sym (put_here (stage_at xs) b v c e)))
    (λ n. get_or-set_other xs b c v Published n ∙ sym (put_else (stage_at xs) b v c n))

pub mark_put : (xs : List Bool) (k : ℕ) (v : Bool) → k < length xs → (j : ℕ) → mark_at (set xs k v) j ≡ put (mark_at xs) k v j
mark_put xs k v inside j =
    dite (ℕ_discrete j k)
    (λ e. ap (mark_at (set xs k v)) e ∙ (get_or-set_same xs k v false inside ∙ sym (put_here (mark_at xs) k v j e)))
    (λ n. get_or-set_other xs k j v false n ∙ sym (put_else (mark_at xs) k v j n))

-- where two marks stand in rows of n, they are one only if worker and block are
same_block : (n w b u c : ℕ) → b < n → c < n → u * n + c ≡ w * n + b → c ≡ b
same_block n w b u c hb hc e = sym (mod-mul-add u n c hc) ∙ (ap (λ x. x % n) e ∙ mod-mul-add w n b hb)

same_worker : (n w b u c : ℕ) → b < n → c < n → u * n + c ≡ w * n + b → u ≡ w
same_worker n w b u c hb hc e =
    dite (ℕ_discrete u w) (λ same. same)
    (λ other. dite (dec_le (u + 1) w)
    (λ less. let more : (u + 1) * n ≤ w * n = mul-le-mul_right n less in absurd (omega arith))
    (λ not_less. let back : w + 1 ≤ u = omega arith in let more : (w + 1) * n ≤ u * n = mul-le-mul_right n back in absurd (omega arith)))

owed_put : (xs : List Bool) (n w b : ℕ) (v : Bool) → b < n → w * n + b < length xs → (u c : ℕ)
    → (ltb c n && mark_at (set xs (w * n + b) v) (u * n + c)) ≡ put_owed (λ y d. ltb d n && mark_at xs (y * n + d)) w b v u c
owed_put xs n w b v hb inside u c =
    let f : ℕ → ℕ → Bool = λ y d. ltb d n && mark_at xs (y * n + d) in
    let k : ℕ = w * n + b in
    let j : ℕ = u * n + c in
    dite (dec_le (suc c) n)
    (λ hc. dite (ℕ_discrete j k)
    (λ e.
    ap (λ t. t && mark_at (set xs k v) j) (lt-ltb c n hc)
    ∙ (ap (mark_at (set xs k v)) e ∙ (get_or-set_same xs k v false inside ∙ sym (put_both f w b v u c (same_worker n w b u c hb hc e) (same_block n w b u c hb hc e)))))
    (λ ne.
    ap (λ t. ltb c n && t) (get_or-set_other xs k j v false ne)
    ∙ sym (put_other f w b v u c (λ p q. ne (ap (λ y. y * n + c) p ∙ ap (λ d. w * n + d) q)))))
    (λ outside.
    let beyond : ltb c n ≡ false = le-ltb c n (omega arith) in
    ap (λ t. t && mark_at (set xs k v) j) beyond
    ∙ sym (put_other f w b v u c (λ p q. outside (omega arith)) ∙ ap (λ t. t && mark_at xs j) beyond))

-- an event whose condition holds, from what was written
pub applied : (es : List Edge) (event : Event) (m n : MarksValue) → can es event (machine_in m) ≡ true → machine_in n ≡ effect es event (machine_in m) → SameLengths m n
    → Applies es event m n true
applied es event m n possible does lengths = record {
  answer_is = sym possible;
  state_is = does ∙ sym (cond-true (can es event (machine_in m)) (effect es event (machine_in m)) (machine_in m) possible);
  lengths = lengths;
  stays = λ e. absurd (true≢false e);
}

-- the machine that the marks are, where some were written
module _ (m : MarksValue) where
  owed_row : (w b : ℕ) (v : Bool) → HavePlace m w b → (n : ℕ) → n ≡ length m.stages → (u c : ℕ)
      → (ltb c n && mark_at (set m.owed (place_of (length m.stages) w b) v) (place_of n u c)) ≡ put_owed (machine_in m).owes w b v u c
  owed_row w b v place n len u c =
      ap (λ z. ltb c z && mark_at (set m.owed (place_of (length m.stages) w b) v) (place_of z u c)) len
      ∙ owed_put m.owed (length m.stages) w b v place.stage place.owed u c

  both_written : (w b k : ℕ) (s : Stage) (v : Bool) → HavePlace m w b → k ≡ place_of (length m.stages) w b
      → machine_in (record m { stages = set m.stages b s; owed = set m.owed k v }) ≡ record (machine_in m) { stage = put (stage_at m.stages) b s; owes = put_owed (machine_in m).owes w b v }
  both_written w b k s v place at =
      ap (λ z. machine_in (record m { stages = set m.stages b s; owed = set m.owed z v })) at
      ∙ (λ i. record {
        stage = λ c. stage_put m.stages b s place.stage c i;
        owes = λ u c. owed_row w b v place (length (set m.stages b s)) (length-set m.stages b s) u c i;
        laid = mark_at m.laid;
        picked = mark_at m.picked;
      })

  -- the stages change, and the rows of what is owed stay as long
  stages_written : (stages : List Stage) (f : ℕ → Stage) → length stages ≡ length m.stages → ((c : ℕ) → stage_at stages c ≡ f c)
      → machine_in (record m { stages = stages }) ≡ record (machine_in m) { stage = f }
  stages_written stages f len is = λ i. record {
    stage = λ c. is c i;
    owes = λ u c. ltb c (len i) && mark_at m.owed (place_of (len i) u c);
    laid = mark_at m.laid;
    picked = mark_at m.picked;
  }

  picked_written : (k : ℕ) → k < length m.picked → machine_in (record m { picked = set m.picked k true }) ≡ pick k (machine_in m)
  picked_written k inside = λ i. record {
    stage = stage_at m.stages;
    owes = (machine_in m).owes;
    laid = mark_at m.laid;
    picked = λ j. mark_put m.picked k true inside j i;
  }

  laid_written : (k : ℕ) → k < length m.laid → machine_in (record m { laid = set m.laid k true }) ≡ lay k (machine_in m)
  laid_written k inside = λ i. record {
    stage = stage_at m.stages;
    owes = (machine_in m).owes;
    laid = λ j. mark_put m.laid k true inside j i;
    picked = mark_at m.picked;
  }

-- what an edge that was found does to the state
by_found : (at : Option ℕ) (k : ℕ) (f : ℕ → Machine → Machine) (m n : Machine) → at ≡ Some k → n ≡ f k m → n ≡ by_edge at f m
by_found at k f m n is does = does ∙ sym (ap (λ o. by_edge o f m) is)

-- each event, from what was written
module _ (es : List Edge) (m : MarksValue) where
  pub take_applies : (w b k : ℕ) (s : Stage) → HavePlace m w b → k ≡ place_of (length m.stages) w b → s ≡ stage_after_take w (stage_at m.stages b)
      → Applies es (Take w b) m (record m { stages = set m.stages b s; owed = set m.owed k false }) true
  take_applies w b k s place at is =
      applied es (Take w b) m (record m { stages = set m.stages b s; owed = set m.owed k false }) refl
      (both_written m w b k s false place at ∙ ap (λ t. record (machine_in m) { stage = put (stage_at m.stages) b t; owes = put_owed (machine_in m).owes w b false }) is)
      (record { stages = length-set m.stages b s; owed = length-set m.owed k false; laid = refl; picked = refl })

  pub release_applies : (w b k : ℕ) → HavePlace m w b → k ≡ place_of (length m.stages) w b → can es (Release w b) (machine_in m) ≡ true
      → Applies es (Release w b) m (record m { stages = set m.stages b Ready; owed = set m.owed k true }) true
  release_applies w b k place at possible =
      applied es (Release w b) m (record m { stages = set m.stages b Ready; owed = set m.owed k true }) possible
      (both_written m w b k Ready true place at) (record { stages = length-set m.stages b Ready; owed = length-set m.owed k true; laid = refl; picked = refl })

  pub ask_applies : (w b a k low : ℕ) → b < length m.stages → can es (Ask w b a) (machine_in m) ≡ true
      → edge_into es b a ≡ Some k → low ≡ (edge_at es k).lower → is_published (stage_at m.stages low) ≡ false
      → Applies es (Ask w b a) m (record m { stages = set m.stages b (Parked low) }) true
  ask_applies w b a k low inside possible found is yet =
      let parked : Machine = record (machine_in m) { stage = put (stage_at m.stages) b (Parked low) } in
      let asked : parked ≡ ask b (edge_at es k).lower (machine_in m) = sym (cond-false (is_published (stage_at m.stages low)) (machine_in m) parked yet) ∙ ap (λ l. ask b l (machine_in m)) is in
      applied es (Ask w b a) m (record m { stages = set m.stages b (Parked low) }) possible
      (by_found (edge_into es b a) k (λ j. ask b (edge_at es j).lower) (machine_in m) (machine_in (record m { stages = set m.stages b (Parked low) })) found
      (stages_written m (set m.stages b (Parked low)) (put (stage_at m.stages) b (Parked low)) (length-set m.stages b (Parked low)) (stage_put m.stages b (Parked low) inside) ∙ asked))
      (record { stages = length-set m.stages b (Parked low); owed = refl; laid = refl; picked = refl })

  pub pick_applies : (w b a k : ℕ) → k < length m.picked → can es (Pick w b a) (machine_in m) ≡ true → edge_into es b a ≡ Some k
      → Applies es (Pick w b a) m (record m { picked = set m.picked k true }) true
  pick_applies w b a k inside possible found =
      applied es (Pick w b a) m (record m { picked = set m.picked k true }) possible
      (by_found (edge_into es b a) k pick (machine_in m) (machine_in (record m { picked = set m.picked k true })) found (picked_written m k inside))
      (record { stages = refl; owed = refl; laid = refl; picked = length-set m.picked k true })

  pub lay_applies : (w b a k : ℕ) → k < length m.laid → can es (Lay w b a) (machine_in m) ≡ true → edge_out es b a ≡ Some k
      → Applies es (Lay w b a) m (record m { laid = set m.laid k true }) true
  lay_applies w b a k inside possible found =
      applied es (Lay w b a) m (record m { laid = set m.laid k true }) possible
      (by_found (edge_out es b a) k lay (machine_in m) (machine_in (record m { laid = set m.laid k true })) found (laid_written m k inside))
      (record { stages = refl; owed = refl; laid = length-set m.laid k true; picked = refl })

  pub publish_applies : (w b : ℕ) (stages : List Stage) → b < length m.stages → can es (Publish w b) (machine_in m) ≡ true
      → length stages ≡ length m.stages → ((c : ℕ) → stage_at stages c ≡ stage_after_publication w b (stage_at m.stages c))
      → Applies es (Publish w b) m (record m { stages = set stages b Published }) true
  publish_applies w b stages inside possible len is =
      applied es (Publish w b) m (record m { stages = set stages b Published }) possible
      (stages_written m (set stages b Published) (put (λ c. stage_after_publication w b (stage_at m.stages c)) b Published) (length-set stages b Published ∙ len)
      (λ c. stage_put stages b Published (omega arith) c ∙ ap (λ t. cond (eqb c b) Published t) (is c)))
      (record { stages = length-set stages b Published ∙ len; owed = refl; laid = refl; picked = refl })

-- the condition of a pick, from its parts
pub pick_possible : (es : List Edge) (m : Machine) (w b a k : ℕ) → edge_into es b a ≡ Some k → is_held_by w (m.stage b) ≡ true
    → is_published (m.stage (edge_at es k).lower) ≡ true → m.laid k ≡ true → m.picked k ≡ false → can es (Pick w b a) m ≡ true
pick_possible es m w b a k found held is laid picked =
    let test : ℕ → Bool = λ j. is_published (m.stage (edge_at es j).lower) && m.laid j && not (m.picked j) in
    and_from (is_held_by w (m.stage b)) (some_edge (edge_into es b a) test) held
    (ap (λ at. some_edge at test) found
    ∙ and_from (is_published (m.stage (edge_at es k).lower) && m.laid k) (not (m.picked k)) (and_from (is_published (m.stage (edge_at es k).lower)) (m.laid k) is laid) (ap not picked))
