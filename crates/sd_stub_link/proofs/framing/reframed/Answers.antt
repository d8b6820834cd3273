use Rattle.std.proofs.Common.{◌≡◌, ◌^◌, ◌<◌, length, arith, ap, ◌∙◌}
use Rattle.sd_ber.specs.Reading.{Reading}
use Rattle.sd_stub_link.proofs.Frames.{left_first, left_one, left_none}
use Rattle.sd_stub_link.proofs.framing.reframed.Goals as goal

pub loop-contents-init : goal.loop-contents-init
loop-contents-init c =
    let all_left : c.new-reader.result.rest ≡ c.args.bytes.now = ap (λ (r : Reading). r.rest) c.new-reader.ensures in
    (λ all e. left_first c.args.outer all c.new-out.result.items c.new-reader.result.rest c.new-out.ensures.items (all_left ∙ e), omega (arith, ap length all_left))

pub put_framed-requires : goal.put_framed-requires
put_framed-requires c = omega (arith, c.in-Some.ensures.shorter, c.loop-contents.invariant.1, c.requires)

pub loop-contents-smaller : goal.loop-contents-smaller
loop-contents-smaller c = omega (arith, c.in-Some.ensures.shorter)

pub loop-contents-preserved : goal.loop-contents-preserved
loop-contents-preserved c =
    let small : length c.loop-contents.reader.rest < 2 ^ 32 = omega (arith, c.loop-contents.invariant.1, c.requires) in (
      λ all e. left_one c.args.outer all c.loop-contents.out.items c.loop-contents.reader.rest c.in-Some.contents.now c.next_contents.new.reader.rest c.put_framed.new.out.items small (record { first = c.in-Some.ensures.first; end = c.in-Some.ensures.end }) c.in_ok-put_framed.ensures (c.loop-contents.invariant.0 all e),
      omega (arith, c.in-Some.ensures.shorter, c.loop-contents.invariant.1),
    )

pub returns : goal.returns
returns c messages e =
    let small : length c.loop-contents.reader.rest < 2 ^ 32 = omega (arith, c.loop-contents.invariant.1, c.requires) in
    left_none c.args.outer messages c.loop-contents.out.items c.loop-contents.reader.rest c.next_contents.new.reader.rest small (record { first = c.in_default.ensures.first; end = c.in_default.ensures.end }) (c.loop-contents.invariant.0 messages e)
