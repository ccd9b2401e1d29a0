use Rattle.std.proofs.Common.{◌+◌, suc, ◌∙◌, ap, arith}
use Rattle.std.specs.Prelude.{is_some}
use Rattle.std.proofs.lemmas.Result.{err_from_is_err_and}
use Rattle.nichols_top.specs.Algebra.{scope_of}
use Rattle.nichols_top.proofs.Taking.{fault_passed}
use Rattle.nichols_top.proofs.CountedBlocks.{counted_degrees, counted_none}
use Rattle.nichols_top.proofs.Finishing.{IsAlgebra, algebra_kept, ended_at, header_put, header_breaks, next_breaks, degrees_put, degrees_break, end_put, end_breaks, end_told, taken_at, fewer}
use Rattle.nichols_top.proofs.algebra.put_pieces.Goals as goal

pub returns-in_err-put_header-clause-pieces : goal.returns-in_err-put_header-clause-pieces
returns-in_err-put_header-clause-pieces g c =
    let p = err_from_is_err_and c.from_residual.result c.from_residual.ensures.1 in
    rw (p.1, p.2) (header_breaks c.args.braid c.args.order.now (scope_of c.args.options) c.in_err-put_header.ensures.piece)

pub returns-in_err-graded-clause-pieces : goal.returns-in_err-graded-clause-pieces
returns-in_err-graded-clause-pieces g c =
    let p = err_from_is_err_and c.from_residual-in_err-graded.result c.from_residual-in_err-graded.ensures.1 in
    rw (p.1, p.2) (next_breaks c.args.braid c.args.order.now (scope_of c.args.options) 0 (header_put c.args.braid c.args.order.now (scope_of c.args.options) c.in_ok-put_header.ensures.piece))

pub returns-in_err-put_degrees-clause-pieces : goal.returns-in_err-put_degrees-clause-pieces
returns-in_err-put_degrees-clause-pieces g c =
    let p = err_from_is_err_and c.from_residual-in_err-put_degrees.result c.from_residual-in_err-put_degrees.ensures.1 in
    let is : IsAlgebra c.args.braid (scope_of c.args.options) c.in_ok-graded.graded =
    record { braid_is = ap (λ x. x.braid) c.in_ok-graded.ensures; limit_is = ap (λ x. x.limit) c.in_ok-graded.ensures; rows_is = ap (λ x. x.rows) c.in_ok-graded.ensures } in
    rw (p.1, p.2)
    (degrees_break c.args.braid c.args.order.now (scope_of c.args.options) 0 c.in_ok-graded.graded is (omega arith) c.in_err-put_degrees.ensures.finished
    (header_put c.args.braid c.args.order.now (scope_of c.args.options) c.in_ok-put_header.ensures.piece) c.in_err-put_degrees.ensures.pieces)

pub degrees-init : goal.degrees-init
degrees-init g c =
    let is : IsAlgebra c.args.braid (scope_of c.args.options) c.in_ok-graded.graded =
    record { braid_is = ap (λ x. x.braid) c.in_ok-graded.ensures; limit_is = ap (λ x. x.limit) c.in_ok-graded.ensures; rows_is = ap (λ x. x.rows) c.in_ok-graded.ensures } in
    record {
      same_sink = c.in_ok-put_degrees.ensures.same_sink ∙ c.in_ok-put_header.ensures.same_sink;
      algebra = is;
      going = ap (λ x. x.ended) c.in_ok-graded.ensures;
      counted = counted_none c.args.braid c.in_ok-graded.graded.last (g.G.Gate.count c.args.gate.now) (ap (λ x. x.last) c.in_ok-graded.ensures);
      taken = degrees_put c.args.braid c.args.order.now (scope_of c.args.options) 0 c.in_ok-graded.graded is (omega arith) c.in_ok-put_degrees.ensures.finished
          (header_put c.args.braid c.args.order.now (scope_of c.args.options) c.in_ok-put_header.ensures.piece) c.in_ok-put_degrees.ensures.pieces;
    }

pub returns-in_err-advance-clause-pieces : goal.returns-in_err-advance-clause-pieces
returns-in_err-advance-clause-pieces g c =
    let p = err_from_is_err_and c.from_residual-in_err-advance.result c.from_residual-in_err-advance.ensures.1 in
    rw (p.1, p.2) (next_breaks c.args.braid c.args.order.now (scope_of c.args.options) (suc c.degrees.graded.last) c.degrees.invariant.taken)

pub put_degrees-requires-in-degrees : goal.put_degrees-requires-in-degrees
put_degrees-requires-in-degrees g c = let e = c.last-next.ensures.value ∙ c.levels.ensures.last in let more = c.in_ok-advance.ensures.finished in omega (arith, e, more)

pub returns-in_err-put_degrees-2-clause-pieces : goal.returns-in_err-put_degrees-2-clause-pieces
returns-in_err-put_degrees-2-clause-pieces g c =
    let p = err_from_is_err_and c.from_residual-in_err-put_degrees-2.result c.from_residual-in_err-put_degrees-2.ensures.1 in
    let e = c.last-next.ensures.value ∙ c.levels.ensures.last in
    let more = c.in_ok-advance.ensures.finished in
    let is : IsAlgebra c.args.braid (scope_of c.args.options) c.advance.new.self = algebra_kept c.degrees.invariant.algebra c.in_ok-advance.ensures.braid c.in_ok-advance.ensures.limit c.in_ok-advance.ensures.rows in
    rw (p.1, p.2)
    (degrees_break c.args.braid c.args.order.now (scope_of c.args.options) (c.last-next.result + 1) c.advance.new.self is (omega (arith, e, more)) c.in_err-put_degrees-2.ensures.finished
    (taken_at c.args.braid c.args.order.now (scope_of c.args.options) (c.last-next.result + 1) (omega (arith, e)) c.degrees.invariant.taken) c.in_err-put_degrees-2.ensures.pieces)

pub degrees-preserved : goal.degrees-preserved
degrees-preserved g c =
    let e = c.last-next.ensures.value ∙ c.levels.ensures.last in
    let more = c.in_ok-advance.ensures.finished in
    let is : IsAlgebra c.args.braid (scope_of c.args.options) c.advance.new.self = algebra_kept c.degrees.invariant.algebra c.in_ok-advance.ensures.braid c.in_ok-advance.ensures.limit c.in_ok-advance.ensures.rows in
    record {
      same_sink = c.in_ok-put_degrees-2.ensures.same_sink ∙ c.degrees.invariant.same_sink;
      algebra = is;
      going = c.in_ok-advance.ensures.ended ∙ ap is_some c.in_default.is;
      counted = counted_degrees c.args.braid (scope_of c.args.options) c.degrees.graded c.advance.new.self c.in_ok-advance.advance.finished (g.G.Gate.count c.args.gate.now) (g.G.Gate.count c.degrees.gate) (g.G.Gate.count c.advance.new.gate) c.degrees.invariant.algebra more c.degrees.invariant.counted c.in_ok-advance.ensures.counted;
      taken = degrees_put c.args.braid c.args.order.now (scope_of c.args.options) (c.last-next.result + 1) c.advance.new.self is (omega (arith, e, more)) c.in_ok-put_degrees-2.ensures.finished
          (taken_at c.args.braid c.args.order.now (scope_of c.args.options) (c.last-next.result + 1) (omega (arith, e)) c.degrees.invariant.taken) c.in_ok-put_degrees-2.ensures.pieces;
    }

pub degrees-smaller : goal.degrees-smaller
degrees-smaller g c =
    let more = c.in_ok-advance.ensures.finished in
    let window = c.in_ok-advance.ensures.further c.in_default.is in
    let some = c.levels.ensures.graded.some_window in
    let is : IsAlgebra c.args.braid (scope_of c.args.options) c.advance.new.self = algebra_kept c.degrees.invariant.algebra c.in_ok-advance.ensures.braid c.in_ok-advance.ensures.limit c.in_ok-advance.ensures.rows in
    fewer c.args.braid (scope_of c.args.options) c.advance.new.self c.degrees.graded.last is c.in_ok-put_degrees-2.ensures.finished (omega (arith, more, window, some))

pub returns-in_err-put_degrees-clause-stopped : goal.returns-in_err-put_degrees-clause-stopped
returns-in_err-put_degrees-clause-stopped g c = λ e.
    let p = err_from_is_err_and c.from_residual-in_err-put_degrees.result c.from_residual-in_err-put_degrees.ensures.1 in
    let h = c.in_err-put_degrees.ensures.stopped (fault_passed p.1 p.2 e) in
    (h.0, h.1 ∙ c.in_ok-put_header.ensures.piece.sink.kept, h.2)

pub returns-in_err-put_degrees-2-clause-stopped : goal.returns-in_err-put_degrees-2-clause-stopped
returns-in_err-put_degrees-2-clause-stopped g c = λ e.
    let p = err_from_is_err_and c.from_residual-in_err-put_degrees-2.result c.from_residual-in_err-put_degrees-2.ensures.1 in
    let h = c.in_err-put_degrees-2.ensures.stopped (fault_passed p.1 p.2 e) in
    (h.0, h.1 ∙ c.degrees.invariant.taken.takes.sink.kept, h.2)

pub returns-in_err-stop-clause-pieces : goal.returns-in_err-stop-clause-pieces
returns-in_err-stop-clause-pieces g c =
    let p = err_from_is_err_and c.from_residual-in_err-stop.result c.from_residual-in_err-stop.ensures.1 in
    let e = c.last-next.ensures.value ∙ c.levels.ensures.last in
    let more = c.in_ok-advance.ensures.finished in
    let is : IsAlgebra c.args.braid (scope_of c.args.options) c.advance.new.self = algebra_kept c.degrees.invariant.algebra c.in_ok-advance.ensures.braid c.in_ok-advance.ensures.limit c.in_ok-advance.ensures.rows in
    rw (p.1, p.2)
    (next_breaks c.args.braid c.args.order.now (scope_of c.args.options) (suc c.advance.new.self.last)
    (degrees_put c.args.braid c.args.order.now (scope_of c.args.options) (c.last-next.result + 1) c.advance.new.self is (omega (arith, e, more)) c.in_ok-put_degrees-2.ensures.finished
    (taken_at c.args.braid c.args.order.now (scope_of c.args.options) (c.last-next.result + 1) (omega (arith, e)) c.degrees.invariant.taken) c.in_ok-put_degrees-2.ensures.pieces))

pub returns-in_err-put_end-clause-pieces : goal.returns-in_err-put_end-clause-pieces
returns-in_err-put_end-clause-pieces g c =
    let p = err_from_is_err_and c.from_residual-in_err-put_end.result c.from_residual-in_err-put_end.ensures.1 in
    let e = c.last-next.ensures.value ∙ c.levels.ensures.last in
    let more = c.in_ok-advance.ensures.finished in
    let is : IsAlgebra c.args.braid (scope_of c.args.options) c.advance.new.self = algebra_kept c.degrees.invariant.algebra c.in_ok-advance.ensures.braid c.in_ok-advance.ensures.limit c.in_ok-advance.ensures.rows in
    rw (p.1, p.2)
    (end_breaks c.args.braid c.args.order.now (scope_of c.args.options) c.advance.new.self c.in_ok-stop.stop (ended_at c.args.braid (scope_of c.args.options) c.advance.new.self c.in_ok-stop.stop is (end_told c.advance.new.self c.in_ok-advance.advance c.in-Some.end c.in_ok-stop.stop c.in_ok-advance.ensures.end c.in-Some.is c.in_ok-stop.ensures))
    (degrees_put c.args.braid c.args.order.now (scope_of c.args.options) (c.last-next.result + 1) c.advance.new.self is (omega (arith, e, more)) c.in_ok-put_degrees-2.ensures.finished
    (taken_at c.args.braid c.args.order.now (scope_of c.args.options) (c.last-next.result + 1) (omega (arith, e)) c.degrees.invariant.taken) c.in_ok-put_degrees-2.ensures.pieces)
    c.in_err-put_end.ensures.piece)

pub returns-in_err-put_end-clause-stopped : goal.returns-in_err-put_end-clause-stopped
returns-in_err-put_end-clause-stopped g c = λ e.
    let p = err_from_is_err_and c.from_residual-in_err-put_end.result c.from_residual-in_err-put_end.ensures.1 in
    let h = c.in_err-put_end.ensures.stopped (fault_passed p.1 p.2 e) in
    (h.0, h.1 ∙ c.in_ok-put_degrees-2.ensures.pieces.sink.kept ∙ c.degrees.invariant.taken.takes.sink.kept, h.2)

pub returns-in-Some-clause-pieces : goal.returns-in-Some-clause-pieces
returns-in-Some-clause-pieces g c =
    let e = c.last-next.ensures.value ∙ c.levels.ensures.last in
    let more = c.in_ok-advance.ensures.finished in
    let is : IsAlgebra c.args.braid (scope_of c.args.options) c.advance.new.self = algebra_kept c.degrees.invariant.algebra c.in_ok-advance.ensures.braid c.in_ok-advance.ensures.limit c.in_ok-advance.ensures.rows in
    end_put c.args.braid c.args.order.now (scope_of c.args.options) c.advance.new.self c.in_ok-stop.stop (ended_at c.args.braid (scope_of c.args.options) c.advance.new.self c.in_ok-stop.stop is (end_told c.advance.new.self c.in_ok-advance.advance c.in-Some.end c.in_ok-stop.stop c.in_ok-advance.ensures.end c.in-Some.is c.in_ok-stop.ensures))
    (degrees_put c.args.braid c.args.order.now (scope_of c.args.options) (c.last-next.result + 1) c.advance.new.self is (omega (arith, e, more)) c.in_ok-put_degrees-2.ensures.finished
    (taken_at c.args.braid c.args.order.now (scope_of c.args.options) (c.last-next.result + 1) (omega (arith, e)) c.degrees.invariant.taken) c.in_ok-put_degrees-2.ensures.pieces)
    c.in_ok-put_end.ensures.piece

pub returns-in-Some-clause-ended : goal.returns-in-Some-clause-ended
returns-in-Some-clause-ended g c =
    let is : IsAlgebra c.args.braid (scope_of c.args.options) c.advance.new.self = algebra_kept c.degrees.invariant.algebra c.in_ok-advance.ensures.braid c.in_ok-advance.ensures.limit c.in_ok-advance.ensures.rows in
    ended_at c.args.braid (scope_of c.args.options) c.advance.new.self c.in_ok-stop.stop is (end_told c.advance.new.self c.in_ok-advance.advance c.in-Some.end c.in_ok-stop.stop c.in_ok-advance.ensures.end c.in-Some.is c.in_ok-stop.ensures)

pub returns-in-Some-clause-counted : goal.returns-in-Some-clause-counted
returns-in-Some-clause-counted g c =
    let more = c.in_ok-advance.ensures.finished in
    counted_degrees c.args.braid (scope_of c.args.options) c.degrees.graded c.advance.new.self c.in_ok-advance.advance.finished (g.G.Gate.count c.args.gate.now) (g.G.Gate.count c.degrees.gate) (g.G.Gate.count c.advance.new.gate) c.degrees.invariant.algebra more c.degrees.invariant.counted c.in_ok-advance.ensures.counted
