use Rattle.std.proofs.Common.{◌≡◌, ◌<◌, ◌+◌, ◌++◌, ◌∷◌, [], List, ℕ, Option, None, sym, ◌∙◌, ap, subst, length, arith}
use Rattle.std.proofs.lemmas.List.{length-replicate, length_push}
use Rattle.nichols_echelon.specs.Combination.{AllRowsBelow}
use Rattle.nichols_echelon.specs.Rows.{RowsValue}
use Rattle.nichols_echelon.specs.NextRow.{Holds, Follows}
use Rattle.nichols_echelon.specs.declared.rows.Place.{Place}
use Rattle.nichols_echelon.proofs.Settling.{HasGrown, holds_first, no_pivots, rows_wider, settled_more, settled_grown}
use Rattle.nichols_echelon.proofs.split.split_narrow.Goals as goal

pub loop-position-init : goal.loop-position-init
loop-position-init c =
    let first : Holds c.args.field c.args.rows.now c.in_ok-echelon.echelon × Follows c.args.field c.args.rows.now c.in_ok-echelon.echelon.pivots.items [] =
    holds_first c.args.field c.args.rows.now c.in_ok-echelon.echelon (ap (λ (v : RowsValue). v.rows) c.in_ok-echelon.ensures.rows.0) (ap (λ (v : RowsValue). v.rows) c.in_ok-echelon.ensures.rows.1)
    c.in_ok-echelon.ensures.tables.0 (no_pivots c.in_ok-echelon.echelon.pivots.items c.width.result c.in_ok-echelon.ensures.tables.1) in
    let table : length c.in_ok-echelon.echelon.pivots.items ≡ c.width.result =
    ap (λ (ps : List (Option ℕ)). length ps) c.in_ok-echelon.ensures.tables.1 ∙ length-replicate c.width.result (let n : Option ℕ = None in n) in
    record {
      echelon = first.0;
      follows = subst (Follows c.args.field c.args.rows.now c.in_ok-echelon.echelon.pivots.items) (sym c.new-places.ensures.items) first.1;
      seen = ap (λ (v : RowsValue). length v.rows) c.in_ok-echelon.ensures.rows.0;
      count = ap (λ (ps : List Place). length ps) c.new-places.ensures.items;
      begun = (ap (λ (v : RowsValue). v.begun) c.in_ok-echelon.ensures.rows.0, ap (λ (v : RowsValue). v.begun) c.in_ok-echelon.ensures.rows.1);
      zero = (c.in_ok-sums.ensures.zero, c.in_ok-back.ensures.zero);
      width = (sym c.width.ensures ∙ sym table, omega (arith, c.len.ensures, c.in_ok-back.ensures.width));
      below = rows_wider c.args.width (length c.in_ok-echelon.echelon.pivots.items) c.args.rows.now (omega (arith, table, c.width.ensures, c.in_ok-sums.ensures.width)) c.requires.below;
    }

pub loop-position-preserved : goal.loop-position-preserved
loop-position-preserved c =
    let inside : length c.loop-position.echelon.left.rows < length c.args.rows.now = omega (arith, c.loop-position.invariant.seen) in
    let next : Holds c.args.field c.args.rows.now c.next_place.new.echelon × Follows c.args.field c.args.rows.now c.next_place.new.echelon.pivots.items (c.loop-position.places.items ++ c.in_ok-place.place ∷ []) =
    settled_more c.args.field c.modulus-modulus.ensures.field c.args.rows.now c.loop-position.echelon c.next_place.new.echelon c.loop-position.invariant.echelon inside c.loop-position.places.items
    (c.loop-position.invariant.count ∙ sym c.loop-position.invariant.seen) c.loop-position.invariant.follows c.requires.elements c.loop-position.invariant.below c.in_ok-place.place c.in_ok-place.ensures.settled in
    let more : HasGrown c.loop-position.echelon c.next_place.new.echelon = settled_grown c.args.field c.args.rows.now c.loop-position.echelon c.next_place.new.echelon c.in_ok-place.place c.in_ok-place.ensures.settled in
    record {
      echelon = next.0;
      follows = subst (Follows c.args.field c.args.rows.now c.next_place.new.echelon.pivots.items) (sym c.in_ok-push.ensures.items) next.1;
      seen = more.count ∙ ap (λ n. n + 1) c.loop-position.invariant.seen;
      count = ap (λ (ps : List Place). length ps) c.in_ok-push.ensures.items ∙ length_push c.loop-position.places.items c.in_ok-place.place ∙ ap (λ n. n + 1) c.loop-position.invariant.count;
      begun = more.begun;
      zero = c.in_ok-place.ensures.zero;
      width = (c.in_ok-place.ensures.width.0 ∙ c.loop-position.invariant.width.0 ∙ sym more.width, omega (arith, c.in_ok-place.ensures.width.1, c.loop-position.invariant.width.1));
      below = subst (λ n. AllRowsBelow n c.args.rows.now) (sym more.width) c.loop-position.invariant.below;
    }
