use Rattle.std.proofs.Common.{◌++◌, ◌-◌, codes, List, ℕ}
use Rattle.std.specs.Prelude.{decimal}
use Rattle.nichols_text.specs.Pieces.{end_line}
use Rattle.nichols_text.proofs.Behind.{text_more, number_more}
use Rattle.nichols_text.proofs.end.push_rows.Goals as goal

pub returns : goal.returns
unfolding end_line
returns c =
    let out : List ℕ = c.args.out.now.items in
    let stopped : List ℕ = codes "stopped rows degree " in
    let degree : List ℕ = stopped ++ decimal c.args.degree in
    let with_product : List ℕ = degree ++ codes " product " in
    let product : List ℕ = with_product ++ decimal c.args.product in
    let with_count : List ℕ = product ++ codes " count " in
    let count : List ℕ = with_count ++ decimal c.args.count in
    let with_last : List ℕ = count ++ codes " last " in
    let last : List ℕ = with_last ++ decimal (c.args.degree - 1) in
    let p1 = number_more out stopped c.args.degree c.in_ok-extend_from_slice.ensures.items c.from.ensures c.in_ok-push_number.ensures in
    let p2 = text_more out degree (codes " product ") p1 c.in_ok-extend_from_slice-2.ensures.items in
    let p3 = number_more out with_product c.args.product p2 c.from-2.ensures c.in_ok-push_number-2.ensures in
    let p4 = text_more out product (codes " count ") p3 c.in_ok-extend_from_slice-3.ensures.items in
    let p5 = text_more out with_count (decimal c.args.count) p4 c.in_ok-push_number-3.ensures in
    let p6 = text_more out count (codes " last ") p5 c.in_ok-extend_from_slice-4.ensures.items in
    let p7 = number_more out with_last (c.args.degree - 1) p6 c.from-3.ensures c.in_ok-push_number-4.ensures in
    text_more out last (codes "\n") p7 c.in_ok-extend_from_slice-5.ensures.items
