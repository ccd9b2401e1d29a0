use Rattle.std.proofs.Common.{◌++◌, codes, List, ℕ}
use Rattle.std.specs.Prelude.{decimal}
use Rattle.nichols_text.specs.Pieces.{end_line}
use Rattle.nichols_text.proofs.Behind.{text_more, number_more}
use Rattle.nichols_text.proofs.end.push_degree_limit.Goals as goal

pub returns : goal.returns
unfolding end_line
returns c =
    let out : List ℕ = c.args.out.now.items in
    let stopped : List ℕ = codes "stopped degree limit last " in
    text_more out (stopped ++ decimal c.args.last) (codes "\n")
    (number_more out stopped c.args.last c.in_ok-extend_from_slice.ensures.items c.from.ensures c.in_ok-push_number.ensures) c.in_ok-extend_from_slice-2.ensures.items
