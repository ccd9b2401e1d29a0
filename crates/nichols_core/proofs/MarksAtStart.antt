-- The marks of the start: every block is ready and owed by worker 0, and no edge is laid or picked.
use Rattle.std.proofs.Common.{◌≡◌, ℕ, zero, suc, ◌+◌, ◌*◌, Bool, true, false, cond, eqb, ltb, ◌&&◌, length, replicate, refl, sym, ap, ◌∙◌, ne_eqb, lt-ltb, arith, get_or}
use Rattle.std.proofs.lemmas.Bool.{le-ltb}
use Rattle.std.proofs.lemmas.List.{get_or-replicate, get_or_past, length-replicate}
use Rattle.std.proofs.Math.Bool.{and-false}
use mathlib.Core.Logic.{dite}
use native.Mathlib.Decide.{dec_le}
use Rattle.nichols_core.specs.declared.stage.Stage.TheVariants.{Ready, Published}
use Rattle.nichols_core.specs.Layout.{LayoutValue}
use Rattle.nichols_core.specs.Runs.{start}
use Rattle.nichols_core.specs.States.{MarksValue, mark_at, stage_at, place_of, machine_in, AreOver}

-- what was made for n blocks and e edges
pub record AtStart (m : MarksValue) (n e : ℕ) : Type 0 where
  pub stages : m.stages ≡ replicate n Ready
  pub owed : (k : ℕ) → mark_at m.owed k ≡ ltb k n
  pub laid : m.laid ≡ replicate e false
  pub picked : m.picked ≡ replicate e false

stage_start : (n b : ℕ) → stage_at (replicate n Ready) b ≡ cond (ltb b n) Ready Published
stage_start n b =
    dite (dec_le (suc b) n)
    (λ h. get_or-replicate n b Ready Published h ∙ sym (ap (λ t. cond t Ready Published) (lt-ltb b n h)))
    (λ h.
    let len : length (replicate n Ready) ≡ n = length-replicate n Ready in
    get_or_past (replicate n Ready) b Published (omega arith) ∙ sym (ap (λ t. cond t Ready Published) (le-ltb b n (omega arith))))

-- a list of one element reads as that element, past its end too
pub everywhere : {A : Type 0} (n i : ℕ) (a : A) → get_or (replicate n a) i a ≡ a
everywhere n i a =
    dite (dec_le (suc i) n)
    (λ h. get_or-replicate n i a a h)
    (λ h. let len : length (replicate n a) ≡ n = length-replicate n a in get_or_past (replicate n a) i a (omega arith))

owes_start : (n w b : ℕ) → (ltb b n && ltb (w * n + b) n) ≡ (eqb w 0 && ltb b n)
owes_start n zero b = two (ltb b n) (ltb (0 * n + b) n) (ap (λ k. ltb k n) (omega arith))
  where
    two : (t u : Bool) → u ≡ t → (t && u) ≡ t
    two true u e = e
    two false u e = refl
owes_start n (suc w) b = ap (λ t. ltb b n && t) (le-ltb (suc w * n + b) n (omega arith)) ∙ (and-false (ltb b n) ∙ sym (ap (λ t. t && ltb b n) (ne_eqb (suc w) 0 (λ e. omega arith))))

module _ (m : MarksValue) (n e : ℕ) (at : AtStart m n e) where
  stage_count : length m.stages ≡ n
  stage_count = ap length at.stages ∙ length-replicate n Ready

  pub machine_at_start : machine_in m ≡ start n
  machine_at_start = λ i. record {
    stage = λ b. (ap (λ xs. stage_at xs b) at.stages ∙ stage_start n b) i;
    owes = λ w b. (ap (λ z. ltb b z && mark_at m.owed (place_of z w b)) stage_count ∙ (ap (λ t. ltb b n && t) (at.owed (place_of n w b)) ∙ owes_start n w b)) i;
    laid = λ k. (ap (λ xs. mark_at xs k) at.laid ∙ everywhere e k false) i;
    picked = λ k. (ap (λ xs. mark_at xs k) at.picked ∙ everywhere e k false) i;
  }

  pub over_at_start : (l : LayoutValue) (workers : ℕ) → n ≡ length l.degrees → e ≡ length l.edges → length m.owed ≡ workers * n → AreOver l workers m
  over_at_start l workers blocks edges len = record {
    edges = record {
      stages = stage_count ∙ blocks;
      laid = ap length at.laid ∙ (length-replicate e false ∙ edges);
      picked = ap length at.picked ∙ (length-replicate e false ∙ edges);
    };
    owed = len ∙ sym (ap (λ z. workers * z) stage_count);
  }
