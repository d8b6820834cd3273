use Rattle.std.proofs.Common.{◌≡◌, ℕ, ◌+◌, ◌-◌, length, ap, arith}
use Rattle.sd_stub.specs.declared.stepping.Stop.TheVariants as stops
use Rattle.sd_stub.proofs.LinkEnds.{ends_unbound, ends_bad, ends_write_fault, ends_memory}
use Rattle.sd_stub.proofs.Rounds.{rose_earlier, round, goes_on, at_end, over, failed, unstored}
use Rattle.sd_stub.proofs.serving.serve.Goals as goal

pub returns-in-Unbound-clause-served : goal.returns-in-Unbound-clause-served
returns-in-Unbound-clause-served g c =
    let r = round c.args.directory.now _ _ _ _ _ c.loop-unread.place c.answer_all-used.result.0 c.loop-unread.unread.items c.deref.result.now c.drop_front.new.bytes.items c.answer_all-used.result.1 stops.Unbound _ c.deref.ensures.value c.drop_front.ensures c.in-Unbound.is c.loop-unread.invariant.stands c.loop-unread.invariant.within c.answer_all-used.ensures.passes c.answer_all-used.ensures.within in
    ends_unbound _ _ _ _ _ _ _ _ _ _ r.stands r.few

pub returns-in-Bad-clause-served : goal.returns-in-Bad-clause-served
returns-in-Bad-clause-served g c =
    let r = round c.args.directory.now _ _ _ _ _ c.loop-unread.place c.answer_all-used.result.0 c.loop-unread.unread.items c.deref.result.now c.drop_front.new.bytes.items c.answer_all-used.result.1 (stops.Bad c.in-Bad.at) _ c.deref.ensures.value c.drop_front.ensures c.in-Bad.is c.loop-unread.invariant.stands c.loop-unread.invariant.within c.answer_all-used.ensures.passes c.answer_all-used.ensures.within in
    ends_bad _ _ _ _ _ _ _ _ _ _ _ _ r.stands r.few c.bad_at.ensures

pub returns-in-WriteFault-clause-served : goal.returns-in-WriteFault-clause-served
returns-in-WriteFault-clause-served g c =
    let r = round c.args.directory.now _ _ _ _ _ c.loop-unread.place c.answer_all-used.result.0 c.loop-unread.unread.items c.deref.result.now c.drop_front.new.bytes.items c.answer_all-used.result.1 stops.WriteFault _ c.deref.ensures.value c.drop_front.ensures c.in-WriteFault.is c.loop-unread.invariant.stands c.loop-unread.invariant.within c.answer_all-used.ensures.passes c.answer_all-used.ensures.within in
    ends_write_fault _ _ _ _ _ _ _ _ _ _ (λ rose. rose_earlier _ _ _ c.loop-unread.invariant.writes rose) r.stands r.few

pub returns-in-Memory-clause-served : goal.returns-in-Memory-clause-served
returns-in-Memory-clause-served g c =
    let r = round c.args.directory.now _ _ _ _ _ c.loop-unread.place c.answer_all-used.result.0 c.loop-unread.unread.items c.deref.result.now c.drop_front.new.bytes.items c.answer_all-used.result.1 stops.Memory _ c.deref.ensures.value c.drop_front.ensures c.in-Memory.is c.loop-unread.invariant.stands c.loop-unread.invariant.within c.answer_all-used.ensures.passes c.answer_all-used.ensures.within in
    ends_memory _ _ _ _ _ _ _ _ _ _ r.stands r.few

pub loop-unread-preserved : goal.loop-unread-preserved
loop-unread-preserved g c =
    let size : c.len.result ≡ length c.drop_front.new.bytes.items = cc (c.len.ensures, c.drop_front.new.bytes.ok.0) in
    let r = round c.args.directory.now _ _ _ _ _ c.loop-unread.place c.answer_all-used.result.0 c.loop-unread.unread.items c.deref.result.now c.drop_front.new.bytes.items c.answer_all-used.result.1 stops.Waits _ c.deref.ensures.value c.drop_front.ensures c.in-Waits.is c.loop-unread.invariant.stands c.loop-unread.invariant.within c.answer_all-used.ensures.passes c.answer_all-used.ensures.within in
    let on = goes_on _ _ _ _ _ _ _ _ _ _ _ _ r c.in-Bytes.ensures.taken (ap (λ (n : ℕ). 1073741824 - (c.loop-unread.place + c.answer_all-used.result.0) - n) size) in
    record {
      stands = on.stands;
      within = on.few;
      reads = omega (arith, c.loop-unread.invariant.reads, c.take_more.ensures.later);
      writes = omega (arith, c.loop-unread.invariant.writes, c.answer_all-used.ensures.later);
    }

pub returns-in-End-clause-served : goal.returns-in-End-clause-served
returns-in-End-clause-served g c =
    let r = round c.args.directory.now _ _ _ _ _ c.loop-unread.place c.answer_all-used.result.0 c.loop-unread.unread.items c.deref.result.now c.drop_front.new.bytes.items c.answer_all-used.result.1 stops.Waits _ c.deref.ensures.value c.drop_front.ensures c.in-Waits.is c.loop-unread.invariant.stands c.loop-unread.invariant.within c.answer_all-used.ensures.passes c.answer_all-used.ensures.within in
    at_end _ _ _ _ _ _ _ _ _ _ _ _ _ _ _ _ r c.in-End.ensures.taken c.deref-in-End.ensures.value c.ended.ensures

pub returns-in-Over-clause-served : goal.returns-in-Over-clause-served
returns-in-Over-clause-served g c =
    let size : c.len.result ≡ length c.drop_front.new.bytes.items = cc (c.len.ensures, c.drop_front.new.bytes.ok.0) in
    let r = round c.args.directory.now _ _ _ _ _ c.loop-unread.place c.answer_all-used.result.0 c.loop-unread.unread.items c.deref.result.now c.drop_front.new.bytes.items c.answer_all-used.result.1 stops.Waits _ c.deref.ensures.value c.drop_front.ensures c.in-Waits.is c.loop-unread.invariant.stands c.loop-unread.invariant.within c.answer_all-used.ensures.passes c.answer_all-used.ensures.within in
    over _ _ _ _ _ _ _ _ _ _ _ _ _ _ r c.in-Over.ensures.taken (ap (λ (n : ℕ). 1073741824 - (c.loop-unread.place + c.answer_all-used.result.0) - n) size)

pub returns-in-Failed-clause-served : goal.returns-in-Failed-clause-served
returns-in-Failed-clause-served g c =
    let r = round c.args.directory.now _ _ _ _ _ c.loop-unread.place c.answer_all-used.result.0 c.loop-unread.unread.items c.deref.result.now c.drop_front.new.bytes.items c.answer_all-used.result.1 stops.Waits _ c.deref.ensures.value c.drop_front.ensures c.in-Waits.is c.loop-unread.invariant.stands c.loop-unread.invariant.within c.answer_all-used.ensures.passes c.answer_all-used.ensures.within in
    failed _ _ _ _ _ _ _ _ _ _ _ _ _ _ (λ rose. rose_earlier _ _ _ c.loop-unread.invariant.reads rose) r c.in-Failed.ensures.taken

pub returns-in-Memory-take_more-clause-served : goal.returns-in-Memory-take_more-clause-served
returns-in-Memory-take_more-clause-served g c =
    let size : c.len.result ≡ length c.drop_front.new.bytes.items = cc (c.len.ensures, c.drop_front.new.bytes.ok.0) in
    let r = round c.args.directory.now _ _ _ _ _ c.loop-unread.place c.answer_all-used.result.0 c.loop-unread.unread.items c.deref.result.now c.drop_front.new.bytes.items c.answer_all-used.result.1 stops.Waits _ c.deref.ensures.value c.drop_front.ensures c.in-Waits.is c.loop-unread.invariant.stands c.loop-unread.invariant.within c.answer_all-used.ensures.passes c.answer_all-used.ensures.within in
    unstored _ _ _ _ _ _ _ _ _ _ _ _ _ _ r c.in-Memory-take_more.ensures.taken (ap (λ (n : ℕ). 1073741824 - (c.loop-unread.place + c.answer_all-used.result.0) - n) size)
