use Rattle.std.proofs.Common.{arith}
use Rattle.std.proofs.lemmas.Bool.{ne_eqb}
use Rattle.sd_keeper.proofs.RowCodes.{plain_if, plain_only}
use Rattle.sd_keeper.proofs.rows.row_by.Goals as goal

pub returns-else-kind-eq-HASH-clause-found : goal.returns-else-kind-eq-HASH-clause-found
returns-else-kind-eq-HASH-clause-found c =
    plain_if c.args.version c.plain_row.result c.args.kind c.args.bytes.now (record { each = λ i. let fits = c.type_inv.bytes i in omega arith }) c.plain_row.ensures

pub returns-else-kind-eq-HASH-clause-only : goal.returns-else-kind-eq-HASH-clause-only
returns-else-kind-eq-HASH-clause-only c =
    plain_only c.args.version c.plain_row.result c.args.kind c.args.bytes.now c.plain_row.ensures (ne_eqb _ _ c.if-kind-eq-HASH.false)
