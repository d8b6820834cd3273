use Rattle.std.proofs.Common.{ap, sym, ◌∙◌}
use Rattle.std.proofs.lemmas.Result.{err_from_is_err_and}
use Rattle.sd_keeper.specs.declared.rows.Version.{Version}
use Rattle.sd_keeper.specs.Blobs.{is_of_version, version_of}
use Rattle.sd_keeper.proofs.Stores.{rows_more, back_more, fault_back, blob_is, means_at}
use Rattle.sd_keeper.proofs.loading.rows_in.Goals as goal

pub returns-in_err-row-clause-back : goal.returns-in_err-row-clause-back
returns-in_err-row-clause-back c =
    let p = err_from_is_err_and c.from_residual.result c.from_residual.ensures.1 in
    let blobs = c.args.blobs.now in
    let place = c.loop-place.place in
    let version = c.version_of-version.ensures in
    let is = blob_is blobs place c.bytes.result.now c.index-blobs-place.result c.loop-place-test.true c.bytes.ensures c.index-blobs-place.is in
    λ kept storable e.
    rw (p.1, p.2)
    (fault_back c.in_err-row.field-0.0 blobs place c.loop-place-test.true
    (λ row sound of spelled. c.in_err-row.ensures.back row sound (ap (λ (v : Version). is_of_version v row) version ∙ of) (is ∙ spelled)) kept storable e)

pub loop-place-preserved : goal.loop-place-preserved
loop-place-preserved c =
    let blobs = c.args.blobs.now in
    let place = c.loop-place.place in
    let version = c.version_of-version.ensures in
    let is = blob_is blobs place c.bytes.result.now c.index-blobs-place.result c.loop-place-test.true c.bytes.ensures c.index-blobs-place.is in
    let means = means_at c.version_of-version.result (version_of blobs) _ _ _ version is c.in_ok-row.ensures.says in
    record {
      rows = rw c.in_ok-push.ensures.ok (rows_more (version_of blobs) blobs c.loop-place.rows place c.in_ok-row.row c.loop-place-test.true c.loop-place.invariant.rows means);
      back = λ kept storable e.
          rw c.in_ok-push.ensures.ok
          (back_more blobs place c.loop-place.rows c.in_ok-row.row c.loop-place-test.true c.loop-place.invariant.back
          (λ row sound of spelled. c.in_ok-row.ensures.back row sound (ap (λ (v : Version). is_of_version v row) version ∙ of) (is ∙ spelled)) kept storable e);
    }
