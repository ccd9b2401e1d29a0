-- The table as it begins.
use Rattle.std.proofs.Common.{◌≡◌, ℕ, zero, suc, ◌-◌, ◌<◌, Bool, true, false, true≢false, cond, eqb, ltb, ◌&&◌, ◌||◌, List, [], ◌∷◌, length, get_or, replicate, map, refl, sym, ap, ◌∙◌, subst, ⊎_elim, lt-ltb, arith, Option}
use Rattle.std.specs.Int.{bit_at}
use Rattle.std.specs.Prelude.{None}
use Rattle.std.proofs.lemmas.Nat.Bits.{bit_at-zero}
use Rattle.std.proofs.lemmas.Bool.{eqb-true, or_cases, and_parts}
use Rattle.std.proofs.lemmas.Option.{none-some}
use mathlib.Core.Option.{some, some-injective, some-ne-none}
use lib.ListN.{get_elem?, length-replicate}
use Rattle.atomic_table.specs.Table.{opening}
use Rattle.nichols_core.specs.Layout.{IsLayout}
use Rattle.nichols_core.specs.declared.stage.Stage.TheVariants.{Ready, Published}
use Rattle.nichols_core.specs.Machine.{is_held_by, is_resumed_by, is_published}
use Rattle.nichols_core.specs.Runs.{start, one_if}
use Rattle.nichols_core.proofs.RunsKept.{start_meets_laws, start_parked}
use Rattle.nichols_core.proofs.MarksAtStart.{everywhere}
use Rattle.nichols_value.specs.declared.shared.Shared.{Shared}
use Rattle.nichols_value.specs.declared.value.BlockValue.TheVariants.{Starved}
use Rattle.nichols_shelf.specs.Plan.{PlanValue}
use Rattle.nichols_shelf.specs.Places.{blocks, edges, edge, desk_place, wait_place, edge_place, all_words}
use Rattle.nichols_shelf.specs.Views.{first_view}
use Rattle.nichols_shelf.specs.Words.{desk_word, done_bit}
use Rattle.nichols_shelf.specs.Seats.{is_made_by, concerns, Knows, IsNumbered}
use Rattle.nichols_shelf.specs.Slots.{Notes}
use Rattle.nichols_shelf.specs.Stands.{Book, Stands, Holds}
use Rattle.nichols_shelf.specs.Laws.{ANewTableStandsForTheStart}
use Rattle.nichols_shelf.specs.declared.view.View.{View}
use Rattle.nichols_shelf.proofs.Listed.{is_in-below}
use Rattle.nichols_shelf.proofs.Bits.{nought_is_one}

vacant_at : (n k : ℕ) → k < n → get_elem? (map some (replicate {A = Option Shared} n None)) k ≡ some (some None)
vacant_at zero k h = absurd (omega arith)
vacant_at (suc n) zero h = refl
vacant_at (suc n) (suc k) h = vacant_at n k (omega arith)

vacant_depth : (n : ℕ) → length (map some (replicate {A = Option Shared} n None)) ≡ n
vacant_depth zero = refl
vacant_depth (suc n) = ap suc (vacant_depth n)

-- no stage of the start is held, parked, resumed or published by anyone
not_held : (t : Bool) (w : ℕ) → is_held_by w (cond t Ready Published) ≡ false
not_held true w = refl
not_held false w = refl

not_resumed : (t : Bool) (w : ℕ) → is_resumed_by w (cond t Ready Published) ≡ false
not_resumed true w = refl
not_resumed false w = refl

not_made : (t r : Bool) → (t && (is_published (cond t Ready Published) && r)) ≡ false
not_made true r = refl
not_made false r = refl

-- one seat, no block made, no edge drawn
abbrev pub first_book : Book
first_book = record { seat = λ _. 0; count = 1; first = 1; maker = λ _. 0; value = λ _. Starved; drawn = λ _. false }

pub start_stands : (g : PlanValue) (count : ℕ) (words : List ℕ) → count ≡ edges g → words ≡ replicate (all_words g) 0 → Stands g (opening words (replicate count None) (first_view g)) (start (blocks g)) first_book
start_stands g count words deep is = record {
  words = record {
    wide = ap length is ∙ length-replicate (all_words g) 0;
    desk = λ b inside. zero_at (desk_place b) ∙ sym (ap (λ t. desk_word (cond t Ready Published)) (lt-ltb b (blocks g) inside));
    done = λ b inside. ap (λ w. bit_at w 63) (zero_at (wait_place g b)) ∙ (bit_at-zero 63 ∙ sym (ap (λ t. done_bit (cond t Ready Published)) (lt-ltb b (blocks g) inside)));
    parked = λ b low p. absurd (start_parked (ltb b (blocks g)) low p);
    waits = λ k in_k _ bit. absurd (no_bit (wait_place g (edge g k).lower) ((edge g k).letter - 1) bit);
    lettered = λ low i in_low last bit. absurd (no_bit (wait_place g low) i bit);
  };
  seats = record {
    knows = λ j v e _. subst (λ (x : ℕ × View). Knows g (start (blocks g)) (λ _. 0) (λ _. 0) x.0 x.1) (λ i. (sym (only j v e).0 i, (only j v e).1 i)) record {
      plan = refl;
      place = refl;
      held = λ b. sym (not_held (ltb b (blocks g)) 0);
      resumed = λ b. sym (not_resumed (ltb b (blocks g)) 0);
      owed = λ b. is_in-below b (blocks g);
      known = λ b e. absurd (true≢false (sym e));
      made = λ b. sym (ap one_if (not_made (ltb b (blocks g)) true));
    };
    numbers = λ j v e _. subst (IsNumbered 1 1) (only j v e).1 record { zeroth = λ _. (refl, refl); others = λ nz. absurd (nz refl) };
    positive = omega arith;
    counted = omega arith;
    concerned = λ w b h. record { view = first_view g; there = refl; live = refl; worker = sym (who w b h) };
  };
  slots = record {
    deep = ap (λ n. length (map some (replicate {A = Option Shared} n None))) deep ∙ vacant_depth (edges g);
    code = λ k in_k. zero_at (edge_place g k);
    home = λ k in_k h p. absurd (true≢false (sym h));
    empty = λ k in_k h d. ap (λ n. get_elem? (map some (replicate {A = Option Shared} n None)) k) deep ∙ vacant_at (edges g) k in_k;
    spent = λ k in_k p x e. absurd (true≢false (sym p));
    right = λ k in_k h. absurd (true≢false (sym h));
    away = λ k in_k d. absurd (true≢false (sym d));
    notes = λ j v e _. subst (Notes g (start (blocks g)) (λ _. 0) (λ _. Starved) (λ _. false)) (only j v e).1 record {
      picked = λ k x h. absurd (none-some x h);
      picks = λ k in_k h p. absurd (true≢false (sym p));
      laid = λ k x h. absurd (none-some x h);
      lays = λ k in_k h p. absurd (true≢false (sym p));
      draws = λ k in_k. refl;
    };
  };
}
  where
    zero_at : (i : ℕ) → get_or words i 0 ≡ 0
    zero_at i = ap (λ ws. get_or ws i 0) is ∙ everywhere (all_words g) i 0

    no_bit : (i j : ℕ) → bit_at (get_or words i 0) j ≡ 1 → ⊥
    no_bit i j bit = nought_is_one (bit_at (get_or words i 0) j) (ap (λ w. bit_at w j) (zero_at i) ∙ bit_at-zero j) bit

    only : (j : ℕ) (v : View) → get_elem? (first_view g ∷ []) j ≡ some v → (j ≡ 0) × (first_view g ≡ v)
    only zero v e = (refl, some-injective (first_view g) v e)
    only (suc j) v e = absurd (some-ne-none v (sym e))

    who : (w b : ℕ) → concerns g (start (blocks g)) (λ _. 0) w b ≡ true → w ≡ 0
    who w b h = ⊎_elim (λ q. absurd (true≢false (sym q ∙ not_held (ltb b (blocks g)) w)))
        (λ r. ⊎_elim (λ q. absurd (true≢false (sym q ∙ not_resumed (ltb b (blocks g)) w)))
        (λ t. ⊎_elim (λ q. eqb-true w 0 (and_parts (eqb w 0) (ltb b (blocks g)) q).0)
        (λ q. absurd (true≢false (sym q ∙ not_made (ltb b (blocks g)) (eqb 0 w))))
        (or_cases (eqb w 0 && ltb b (blocks g)) (is_made_by g (start (blocks g)) (λ _. 0) w b) t))
        (or_cases (is_resumed_by w (cond (ltb b (blocks g)) Ready Published)) ((eqb w 0 && ltb b (blocks g)) || is_made_by g (start (blocks g)) (λ _. 0) w b) r))
        (or_cases (is_held_by w (cond (ltb b (blocks g)) Ready Published)) (is_resumed_by w (cond (ltb b (blocks g)) Ready Published) || ((eqb w 0 && ltb b (blocks g)) || is_made_by g (start (blocks g)) (λ _. 0) w b)) h)

pub opens : (g : PlanValue) (count : ℕ) (words : List ℕ) → IsLayout g.layout → count ≡ edges g → words ≡ replicate (all_words g) 0 → Holds g (opening words (replicate count None) (first_view g))
opens g count words rules deep is = record {
  machine = start (blocks g);
  book = first_book;
  rules = rules;
  laws = start_meets_laws g.layout rules;
  stands = start_stands g count words deep is;
}

pub a_new_table_stands_for_the_start : ANewTableStandsForTheStart
a_new_table_stands_for_the_start g rules = (first_book, start_stands g (edges g) (replicate (all_words g) 0) refl refl)
