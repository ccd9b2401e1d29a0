-- The steps on a pair of blocks: when they are allowed, and what a pass marks after them.
use Rattle.std.proofs.Common.{◌≡◌, ◌⊎◌, ℕ, ◌+◌, ◌-◌, ◌*◌, ◌<◌, Bool, true, false, cond, eqb, ◌&&◌, ◌||◌, true≢false, length-set, List, get_or, set, sym, ap, ◌∙◌, subst, eq-eqb, ne_eqb, arith, length}
use Rattle.std.specs.Int.{bit_at}
use Rattle.std.proofs.Math.Bool.{or-false}
use Rattle.std.proofs.lemmas.Bool.{eqb-true, and_from, and_parts, or_cases}
use mathlib.Core.Logic.{dite}
use native.Mathlib.Decide.{ℕ_discrete}
use Rattle.nichols_tensor.proofs.Tests.{same_answer}
use Rattle.nichols_core.proofs.MarksWritten.{mark_put}
use Rattle.nichols_value.specs.declared.value.BlockValue.TheVariants.{Starved}
use Rattle.nichols_shelf.specs.Plan.{PlanValue}
use Rattle.nichols_shelf.specs.Lists.{is_in, noted_value}
use Rattle.nichols_shelf.specs.Places.{blocks, edges, edge}
use Rattle.nichols_shelf.specs.Views.{says_published, askers, ask_view}
use Rattle.nichols_shelf.specs.Passes.{IsOf, plan_of, view_of}
use Rattle.nichols_shelf.specs.Calls.{asked_of, Releases, MayAsk, AsksFor, MayLay, PublishesWith}
use Rattle.nichols_shelf.specs.Played.{Mirrors}
use Rattle.nichols_shelf.specs.declared.asked.Asked.{Asked}
use Rattle.nichols_shelf.specs.declared.view.View.{View}
use Rattle.nichols_shelf.proofs.Askers.{asks, asked_for}
use Rattle.nichols_shelf.proofs.Mirrored.{read_mark, starved_is_right, not_noted, same_asked, mirror_release, mirror_ask, mirror_publish}
use Rattle.nichols_steps.specs.Pairs.{ArePairs}
use Rattle.nichols_steps.specs.declared.hand.Hand.{Hand}
use Rattle.nichols_steps.specs.declared.pairs.Pairs.{Pairs}

-- the marks of a pass over the pairs of a shelf, and the pair k with its upper block b
module _ (p : Pairs) (hand : Hand) (of : IsOf p.shelf hand.pass) (k : ℕ) (h : k < p.count) (b : ℕ) (up : b ≡ p.count + k) where
  abbrev hs : List Bool
  hs = hand.held.items

  abbrev rs : List Bool
  rs = hand.resumed.items

  abbrev ks : List Bool
  ks = hand.known.items

  abbrev ps : List Bool
  ps = hand.picked.items

  abbrev ls : List Bool
  ls = hand.laid.items

  abbrev v : View
  v = view_of hand.pass

  m : Mirrors hs rs ks ps ls v
  m = hand.mirrors

  same : v.plan ≡ plan_of p.shelf
  same = of.1

  pairs : ArePairs p.count v.plan.layout
  pairs = subst (λ (g : PlanValue). ArePairs p.count g.layout) (sym same) p.pairs

  lower_of : (j : ℕ) → j < p.count → (edge v.plan j).lower ≡ j
  lower_of j h = (pairs.each j h).lower

  upper_of : (j : ℕ) → j < p.count → (edge v.plan j).upper ≡ p.count + j
  upper_of j h = (pairs.each j h).upper

  inside : (j : ℕ) → j < edges v.plan → j < p.count
  inside j h = subst (λ l. j < l) pairs.edges h

  k_in : k < edges v.plan
  k_in = subst (λ l. k < l) (sym pairs.edges) h

  lower_is : (edge v.plan k).lower ≡ k
  lower_is = lower_of k h

  upper_is : (edge v.plan k).upper ≡ b
  upper_is = upper_of k h ∙ sym up

  letter_is : (edge v.plan k).letter ≡ 1
  letter_is = (pairs.each k h).letter

  -- the edge of the pair is the one into its upper block, and the one out of its lower block
  only_into : (j : ℕ) → j < edges v.plan → (edge v.plan j).upper ≡ b → j ≡ k
  only_into j h at = let is = upper_of j (inside j h) in omega arith

  only_out : (j : ℕ) → j < edges v.plan → (edge v.plan j).lower ≡ k → j ≡ k
  only_out j h low = sym (lower_of j (inside j h)) ∙ low

  upper_in : b < blocks v.plan
  upper_in = let all : blocks v.plan ≡ p.count * 2 = pairs.blocks in omega arith

  lower_in : k < blocks v.plan
  lower_in = let all : blocks v.plan ≡ p.count * 2 = pairs.blocks in omega arith

  -- a mark that was read is the one that stands there
  upper_mark : (marks : List Bool) (x : Bool) → length marks ≡ blocks v.plan → x ≡ get_or marks b x → x ≡ get_or marks b false
  upper_mark marks x room read = read_mark marks b x (let in_b = upper_in in omega arith) read

  lower_mark : (marks : List Bool) (x : Bool) → length marks ≡ blocks v.plan → x ≡ get_or marks k x → x ≡ get_or marks k false
  lower_mark marks x room read = read_mark marks k x (let in_k = lower_in in omega arith) read

  edge_mark : (marks : List Bool) (x : Bool) → length marks ≡ edges v.plan → x ≡ get_or marks k x → x ≡ get_or marks k false
  edge_mark marks x room read = read_mark marks k x (let in_k = k_in in omega arith) read

  pub may_ask : (held picked : Bool) → held ≡ get_or hs b held → held ≡ true → picked ≡ get_or ps k picked → picked ≡ false → MayAsk (plan_of p.shelf) b 1 v
  may_ask held picked read holds read_edge yet = subst (λ (g : PlanValue). MayAsk g b 1 v) same may
    where
      may : MayAsk v.plan b 1 v
      may = record {
        holds = sym (m.holds b) ∙ (sym (upper_mark hs held m.held_room read) ∙ holds);
        unpicked = λ j in_j at. not_noted (noted_value j v.picked) (sym (m.picks j) ∙ (ap (λ i. get_or ps i false) (only_into j in_j at) ∙ (sym (edge_mark ps picked m.picked_room read_edge) ∙ yet)));
        number = k;
        into = record { inside = k_in; upper = upper_is; letter = letter_is };
      }

  pub may_lay : (held laid : Bool) → held ≡ get_or hs k held → held ≡ true → laid ≡ get_or ls k laid → laid ≡ false → MayLay (plan_of p.shelf) k 1 Starved v
  may_lay held laid read holds read_edge yet = subst (λ (g : PlanValue). MayLay g k 1 Starved v) same may
    where
      may : MayLay v.plan k 1 Starved v
      may = record {
        holds = sym (m.holds k) ∙ (sym (lower_mark hs held m.held_room read) ∙ holds);
        picked = λ j in_j at. absurd (let is = upper_of j (inside j in_j) in omega arith);
        number = k;
        out_of = record { inside = k_in; lower = lower_is; letter = letter_is };
        unlaid = not_noted (noted_value k v.laid) (sym (m.lays k) ∙ (sym (edge_mark ls laid m.laid_room read_edge) ∙ yet));
        right = starved_is_right v.plan k;
        equal = λ j x in_j low e. m.starved j x e;
      }

  pub after_ask : (held knew published knows : Bool) (answer : Asked) (new : View) → held ≡ get_or hs b held → held ≡ true → knew ≡ get_or ks k knew
      → AsksFor (plan_of p.shelf) b 1 v new answer → answer ≡ asked_of published → knows ≡ (published || knew) → Mirrors (set hs b published) rs (set ks k knows) ps ls new
  after_ask held knew published knows answer new read holds read_known asks_for told is =
      subst (λ (w : View). Mirrors (set hs b published) rs (set ks k knows) ps ls w) (sym step.view)
      (subst (λ i. Mirrors (set hs b published) rs (set ks k knows) ps ls (ask_view v.plan i step.found v)) (sym (only_into step.number step.into.inside step.into.upper))
      (subst (λ i. Mirrors (set hs i published) rs (set ks k knows) ps ls (ask_view v.plan k step.found v)) upper_is
      (subst (λ i. Mirrors (set hs (edge v.plan k).upper published) rs (set ks i knows) ps ls (ask_view v.plan k step.found v)) lower_is
      (mirror_ask hs rs ks ps ls v m k step.found published knows (subst (λ i. i < blocks v.plan) (sym upper_is) upper_in) (subst (λ i. i < blocks v.plan) (sym lower_is) lower_in)
      (ap (λ i. get_or hs i false) upper_is ∙ (sym (upper_mark hs held m.held_room read) ∙ holds)) (same_asked published (says_published step.found) (sym told ∙ step.answer_is))
      (λ e. subst (λ i. (published ≡ true) ⊎ (get_or ks i false ≡ true)) (sym lower_is) (known e))))))
    where
      step : AsksFor v.plan b 1 v new answer
      step = subst (λ (g : PlanValue). AsksFor g b 1 v new answer) (sym same) asks_for

      known : knows ≡ true → (published ≡ true) ⊎ (get_or ks k false ≡ true)
      known e = subst (λ t. (published ≡ true) ⊎ (t ≡ true)) (lower_mark ks knew m.known_room read_known) (or_cases published knew (sym is ∙ e))

  pub after_release : (new : View) → Releases b v new → Mirrors hs (set rs b false) ks ps ls new
  after_release new step =
      subst (λ (w : View). Mirrors hs (set rs b false) ks ps ls w) (sym step.view)
      (mirror_release hs rs ks ps ls v m b step.found upper_in)

  -- who is parked on the lower block, and that nothing is on the upper one
  asker_of_lower : (word c : ℕ) → is_in c (askers v.plan.layout.edges k word) ≡ (eqb c b && eqb (bit_at word 0) 1)
  asker_of_lower word c = same_answer (is_in c (askers v.plan.layout.edges k word)) (eqb c b && eqb (bit_at word 0) 1) there back
    where
      there : is_in c (askers v.plan.layout.edges k word) ≡ true → (eqb c b && eqb (bit_at word 0) 1) ≡ true
      there e =
          let a = asks v.plan.layout.edges k word c e in
          let j : a.number ≡ k = only_out a.number a.inside a.lower in
          and_from (eqb c b) (eqb (bit_at word 0) 1)
          (eq-eqb c b (sym a.upper ∙ (ap (λ i. (edge v.plan i).upper) j ∙ upper_is)))
          (eq-eqb (bit_at word 0) 1 (ap (λ i. bit_at word (i - 1)) (sym letter_is) ∙ (ap (λ i. bit_at word ((edge v.plan i).letter - 1)) (sym j) ∙ a.bit)))

      back : (eqb c b && eqb (bit_at word 0) 1) ≡ true → is_in c (askers v.plan.layout.edges k word) ≡ true
      back e =
          let q = and_parts (eqb c b) (eqb (bit_at word 0) 1) e in
          ap (λ i. is_in i (askers v.plan.layout.edges k word)) (eqb-true c b q.0 ∙ sym upper_is)
          ∙ asked_for v.plan.layout.edges k word k k_in lower_is
          (ap (λ i. bit_at word (i - 1)) letter_is ∙ eqb-true (bit_at word 0) 1 q.1)

  asker_of_upper : (word c : ℕ) → is_in c (askers v.plan.layout.edges b word) ≡ false
  asker_of_upper word c = same_answer (is_in c (askers v.plan.layout.edges b word)) false
      (λ e. let a = asks v.plan.layout.edges b word c e in let is = lower_of a.number (inside a.number a.inside) in let low = a.lower in let j = inside a.number a.inside in absurd (omega arith))
      (λ e. absurd (true≢false (sym e)))

  pub after_lower : (was asked x : Bool) (answer : ℕ) (new : View) → was ≡ get_or rs b was → PublishesWith (plan_of p.shelf) k v new answer → asked ≡ eqb (bit_at answer 0) 1 → x ≡ (was || asked)
      → Mirrors (set hs k false) (set rs b x) ks ps ls new
  after_lower was asked x answer new read publishes bit is =
      subst (λ (w : View). Mirrors (set hs k false) (set rs b x) ks ps ls w) (sym step.view)
      (mirror_publish hs rs ks ps ls v m k step.found (set rs b x) lower_in (length-set rs b x ∙ m.resumed_room)
      (λ c. mark_put rs b x (let r = m.resumed_room in let u = upper_in in omega arith) c
      ∙ (by c ∙ ap (λ t. get_or rs c false || t) (sym (asker_of_lower step.found c)))))
    where
      step : PublishesWith v.plan k v new answer
      step = subst (λ (g : PlanValue). PublishesWith g k v new answer) (sym same) publishes

      parked : Bool
      parked = eqb (bit_at step.found 0) 1

      x_is : x ≡ (get_or rs b false || parked)
      x_is = is ∙ ((λ i. upper_mark rs was m.resumed_room read i || bit i) ∙ ap (λ i. get_or rs b false || eqb i 1) (step.bits 0 (omega arith)))

      by : (c : ℕ) → cond (eqb c b) x (get_or rs c false) ≡ (get_or rs c false || (eqb c b && parked))
      by c = dite (ℕ_discrete c b)
          (λ e. ap (λ t. cond t x (get_or rs c false)) (eq-eqb c b e) ∙ (x_is ∙ (ap (λ i. get_or rs i false || parked) (sym e) ∙ ap (λ t. get_or rs c false || (t && parked)) (sym (eq-eqb c b e)))))
          (λ ne. ap (λ t. cond t x (get_or rs c false)) (ne_eqb c b ne) ∙ (sym (or-false (get_or rs c false)) ∙ ap (λ t. get_or rs c false || (t && parked)) (sym (ne_eqb c b ne))))

  pub after_upper : (answer : ℕ) (new : View) → PublishesWith (plan_of p.shelf) b v new answer → Mirrors (set hs b false) rs ks ps ls new
  after_upper answer new publishes =
      let step : PublishesWith v.plan b v new answer = subst (λ (g : PlanValue). PublishesWith g b v new answer) (sym same) publishes in
      subst (λ (w : View). Mirrors (set hs b false) rs ks ps ls w) (sym step.view)
      (mirror_publish hs rs ks ps ls v m b step.found rs (upper_in) m.resumed_room
      (λ c. sym (or-false (get_or rs c false)) ∙ ap (λ t. get_or rs c false || t) (sym (asker_of_upper step.found c))))
