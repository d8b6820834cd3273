use Rattle.std.proofs.Common.{◌≡◌, ◌+◌, ◌++◌, List, ℕ, length, take, drop, refl, ap, ◌∙◌, arith}
use Rattle.std.proofs.Math.Seq.{take-add}
use Rattle.std.specs.Vec.{with_items}
use Rattle.std.proofs.lemmas.List.{with_items_is}
use Rattle.sd_client.proofs.Arrivals.{comes_nothing, comes_some}
use Rattle.sd_client.proofs.buffer.Buffer.receive.Goals as goal

pub returns-in_err-make_room-clause-came : goal.returns-in_err-make_room-clause-came
returns-in_err-make_room-clause-came g c = comes_nothing _ _ _ _ _ _ refl refl (c.make_room.ensures.kept ∙ c.self.view_is)

pub returns-in-Some-clause-came : goal.returns-in-Some-clause-came
returns-in-Some-clause-came g c =
    let filled = c.self.inside.filled in
    let bytes = c.receive_behind.new.bytes in
    let piece : List ℕ = take c.in-Some.count (drop filled bytes) in
    let front : take filled bytes ≡ c.args.self.now = cc (c.receive_behind.ensures.front, c.deref_mut.ensures.value, c.make_room.ensures.kept, c.self.view_is) in
    let grown : take (filled + c.in-Some.count) bytes ≡ c.args.self.now ++ piece = take-add filled c.in-Some.count bytes ∙ ap (λ (list : List ℕ). list ++ piece) front in
    let size : length bytes ≡ c.make_room.new.bytes.len = cc (c.receive_behind.auto.bytes, c.deref_mut.ensures.value, c.make_room.new.bytes.ok.0) in
    let held : (with_items c.make_room.new.bytes bytes).items ≡ bytes = with_items_is c.make_room.new.bytes bytes size in
    comes_some
    (g.L.Link.received c.args.link.now)
    (g.L.Link.received c.receive_behind.new.link)
    (g.L.Link.coming c.args.link.now)
    (g.L.Link.coming c.receive_behind.new.link)
    c.args.self.now
    (take (filled + c.in-Some.count) (with_items c.make_room.new.bytes bytes).items)
    piece
    c.in-Some.ensures.received
    c.in-Some.ensures.coming
    (ap (take (filled + c.in-Some.count)) held ∙ grown)

pub returns-in-None-clause-came : goal.returns-in-None-clause-came
returns-in-None-clause-came g c =
    let filled = c.self.inside.filled in
    let bytes = c.receive_behind.new.bytes in
    let front : take filled bytes ≡ c.args.self.now = cc (c.receive_behind.ensures.front, c.deref_mut.ensures.value, c.make_room.ensures.kept, c.self.view_is) in
    let size : length bytes ≡ c.make_room.new.bytes.len = cc (c.receive_behind.auto.bytes, c.deref_mut.ensures.value, c.make_room.new.bytes.ok.0) in
    let held : (with_items c.make_room.new.bytes bytes).items ≡ bytes = with_items_is c.make_room.new.bytes bytes size in
    comes_nothing _ _ _ _ _ _ c.in-None.ensures.received c.in-None.ensures.coming (ap (take filled) held ∙ front)
