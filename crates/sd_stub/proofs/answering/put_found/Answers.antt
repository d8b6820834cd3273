use Rattle.sd_ldap.specs.Values.{search_value}
use Rattle.std.proofs.Common.{◌++◌, take, get_or}
use Rattle.std.proofs.lemmas.List.{drop_more}
use Rattle.sd_match.specs.Answering.{found}
use Rattle.sd_places.specs.Covers.{picked}
use Rattle.sd_stub.specs.Replying.{entries_bytes}
use Rattle.sd_stub.proofs.Replies.{one_more}
use Rattle.sd_stub.proofs.answering.put_found.Goals as goal

pub loop-place-preserved : goal.loop-place-preserved
loop-place-preserved c =
    one_more c.args.id (search_value c.args.request.now) c.args.slots.now c.args.places.now c.loop-place.place-index (get_or c.args.places.now c.loop-place.place-index 0) c.loop-place.left c.in_ok-after.after
    c.loop-place.out.items c.put_at.new.out.items
    (c.args.out.now.items ++ entries_bytes c.args.id (search_value c.args.request.now) (take c.args.limit (found (picked c.args.slots.now c.args.places.now) (search_value c.args.request.now))))
    (drop_more c.args.places.now c.loop-place.place-index 0 c.loop-place-test.true) c.if-left-eq0.false c.in_ok-after.ensures.0 c.in_ok-after.ensures.1 c.loop-place.invariant
