use Rattle.std.proofs.Common.{sym, refl, ◌∙◌, arith}
use Rattle.std.proofs.lemmas.Result.{err_from_is_err_and}
use Rattle.sd_rules.specs.declared.events.Row.TheVariants as rows
use Rattle.sd_keeper.proofs.RowCodes.{hash_found, hash_not_read, hash_only, no_hash, row_made, row_read}
use Rattle.sd_keeper.proofs.rows.hash_row.Goals as goal

pub returns-in_err-hashed-clause-only : goal.returns-in_err-hashed-clause-only
returns-in_err-hashed-clause-only c =
    let p = err_from_is_err_and c.from_residual.result c.from_residual.ensures.1 in
    λ row fits e. rw (p.1, p.2) (hash_not_read c.in_err-hashed.field-0.0 c.args.bytes.now c.in_err-hashed.ensures row fits e)

pub returns-in-Ok-clause-found : goal.returns-in-Ok-clause-found
returns-in-Ok-clause-found c =
    let hashed = c.in_ok-hashed.hashed in
    row_made c.hash_row_of.result (rows.Hash hashed.number hashed.moment hashed.user c.in-Ok.hash) c.args.bytes.now c.hash_row_of.ensures.ok
    (hash_found c.args.bytes.now hashed.number hashed.moment hashed.user hashed.text c.in-Ok.hash (record { each = λ i. let fits = c.type_inv.bytes i in omega arith }) c.in_ok-hashed.ensures (sym c.bytes.ensures ∙ c.in-Ok.ensures.ok)) refl

pub returns-in-Ok-clause-only : goal.returns-in-Ok-clause-only
returns-in-Ok-clause-only c =
    let hashed = c.in_ok-hashed.hashed in
    λ row fits e. row_read c.hash_row_of.result (rows.Hash hashed.number hashed.moment hashed.user c.in-Ok.hash) row c.hash_row_of.ensures.ok c.hash_row_of.ensures.err
    (hash_only c.args.bytes.now hashed.number hashed.moment hashed.user hashed.text c.in-Ok.hash c.in_ok-hashed.ensures (λ h sound is. c.in-Ok.ensures.whole h sound (c.bytes.ensures ∙ is)) row fits e)

pub returns-in-Err-clause-only : goal.returns-in-Err-clause-only
returns-in-Err-clause-only c =
    let hashed = c.in_ok-hashed.hashed in
    no_hash c.args.bytes.now hashed.number hashed.moment hashed.user hashed.text c.in_ok-hashed.ensures (λ h sound e. c.in-Err.ensures.bad h sound (c.bytes.ensures ∙ e))
