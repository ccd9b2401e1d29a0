use Rattle.nichols_top.proofs.Taking.{breaks_piece}
use Rattle.nichols_top.proofs.writer.Writer.put.Goals as goal

pub returns-then-not-put_all-clause-piece : goal.returns-then-not-put_all-clause-piece
returns-then-not-put_all-clause-piece g c = breaks_piece c.args.text.now c.args.degree (record { bytes = c.if-not-put_all.ensures.prefix; rose = c.if-not-put_all.ensures.cause })
