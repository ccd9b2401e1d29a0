use Rattle.std.proofs.Common.{◌≤◌, sym, length, arith}
use Rattle.std.proofs.lemmas.List.{length-take-le, take_all}
use Rattle.nichols_text.specs.declared.key_line.TheConstants.{KEY_LIMIT}
use Rattle.nichols_text.proofs.key_line.front.Goals as goal

pub slice_bounds-result-end : goal.slice_bounds-result-end
slice_bounds-result-end c =
    let long : KEY_LIMIT ≤ length c.args.key.now = grind (arith, c.if-key-gt-KEY_LIMIT.true) in
    sym (length-take-le KEY_LIMIT c.args.key.now long)

pub returns-else-key-gt-KEY_LIMIT : goal.returns-else-key-gt-KEY_LIMIT
returns-else-key-gt-KEY_LIMIT c = sym (take_all KEY_LIMIT c.args.key.now c.if-key-gt-KEY_LIMIT.false)
