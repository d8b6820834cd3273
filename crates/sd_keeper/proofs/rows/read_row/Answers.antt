use Rattle.std.proofs.Common.{ℕ, List, subst, sym, ◌∙◌, arith}
use Rattle.std.specs.Prelude.{IfOk}
use Rattle.sd_keeper.specs.Blobs.{IsBlobOf}
use Rattle.sd_keeper.proofs.RowCodes.{kind_and_rest}
use Rattle.sd_keeper.proofs.rows.read_row.Goals as goal

pub returns-in-len1-up-clause-found : goal.returns-in-len1-up-clause-found
returns-in-len1-up-clause-found c =
    subst (λ (b : List ℕ). IfOk c.row_by.result (λ row. IsBlobOf c.args.version b row)) (kind_and_rest c.args.blob.now (omega arith)) c.row_by.ensures.found

pub returns-in-len1-up-clause-only : goal.returns-in-len1-up-clause-only
returns-in-len1-up-clause-only c = λ row fits of spelled. c.row_by.ensures.only row fits of (kind_and_rest c.args.blob.now (omega arith) ∙ spelled)
