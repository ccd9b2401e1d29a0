use Rattle.std.proofs.Common.{◌≡◌, List, ℕ, Some, Err, rules}
use Rattle.std.specs.Prelude.{IfSome}
use Rattle.nichols_input.specs.Document.{document_with}
use Rattle.nichols_input.specs.Refusal.{refusal_of}
use Rattle.nichols_input.proofs.Found.{refused_with}
use Rattle.nichols_input.proofs.document.read_certified.Goals as goal

pub returns-in_err-table-clause-document : goal.returns-in_err-table-clause-document
returns-in_err-table-clause-document c =
    let bytes : List ℕ = c.args.bytes.now in
    let refused : IfSome (refusal_of c.in_err-table.field-0.0) (λ refusal. document_with (Some c.args.extra.now) bytes ≡ Err refusal) =
    refused_with (Some c.args.extra.now) bytes (refusal_of c.in_err-table.field-0.0) c.in_err-table.ensures.table in
    search (rules, refused)
