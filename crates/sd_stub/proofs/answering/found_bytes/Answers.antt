use Rattle.sd_ldap.specs.Values.{search_value}
use Rattle.sd_match.specs.Answering.{found}
use Rattle.sd_places.specs.Covers.{picked}
use Rattle.sd_stub.proofs.Replies.{found_whole, found_enough}
use Rattle.sd_stub.proofs.answering.found_bytes.Goals as goal

pub returns : goal.returns
returns c =
    found_enough c.args.id (search_value c.args.request.now) c.args.slots.now c.args.places.now c.put_done.new.out.items c.requires.enough
    (found_whole c.args.id (search_value c.args.request.now) (found (picked c.args.slots.now c.args.places.now) (search_value c.args.request.now)) c.count_found-count.result c.limited-limit.result.0 c.limited-limit.result.1
    c.new-out.result.items c.put_found.new.out.items c.put_done.new.out.items c.new-out.ensures.items c.in_ok-put_found.ensures c.in_ok-put_done.ensures
    c.count_found-count.ensures c.limited-limit.ensures.sent c.limited-limit.ensures.code)
