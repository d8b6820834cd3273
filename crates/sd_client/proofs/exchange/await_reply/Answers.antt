use Rattle.std.proofs.Common.{◌≡◌, ℕ, ◌<◌, ◌≤◌, List, [], length, Ok, ap, ◌∙◌, inl, inr, arith}
use Rattle.std.proofs.lemmas.Bool.{cases_lt}
use Rattle.sd_base.specs.Causes.{Rose}
use Rattle.sd_client.specs.Coming.{gained}
use Rattle.sd_client.specs.Deciding.{undecided, reply_at, decided}
use Rattle.sd_client.proofs.Arrivals.{comes_both}
use Rattle.sd_client.proofs.Decisions.{ended_by_read, failed_by_read, undecided_by_read, decided_within, decided_flood, rose_earlier}
use Rattle.sd_client.proofs.exchange.await_reply.Goals as goal

-- what grew past the limit stood at it
full_by : (old new : ℕ) → old ≤ 67108864 → (old < 67108864 → new ≤ 67108864) → 67108864 < new → old ≡ 67108864
full_by old new few limited many =
    elim (cases_lt old 67108864) [
      | inl less ↦ let short = limited less in absurd (omega arith)
      | inr full ↦ omega arith
    ]

pub returns-in-Ended-clause-reply : goal.returns-in-Ended-clause-reply
returns-in-Ended-clause-reply g c =
    ended_by_read c.args.request c.args.id c.args.at.now c.loop-found.at c.read_on.new.at c.in-Ended.code c.loop-found.found c.read_on.new.found c.loop-found.buffer c.bytes.result.now c.in_ok-read_on.field-0
    c.bytes.ensures c.in-Ended.is c.loop-found.invariant.limited c.loop-found.invariant.same c.in_ok-read_on.ensures.read

pub returns-in-Failed-clause-reply : goal.returns-in-Failed-clause-reply
returns-in-Failed-clause-reply g c =
    failed_by_read c.args.request c.args.id c.args.at.now c.loop-found.at c.read_on.new.at c.in-Failed.why c.loop-found.found c.read_on.new.found c.loop-found.buffer c.bytes.result.now c.in_ok-read_on.field-0
    (Rose (g.L.Link.faults c.args.link.now) (g.L.Link.faults c.loop-found.link) × g.L.Link.ends c.loop-found.link)
    c.bytes.ensures c.in-Failed.is c.loop-found.invariant.limited c.loop-found.invariant.same c.in_ok-read_on.ensures.read

pub returns-in_err-receive-clause-came : goal.returns-in_err-receive-clause-came
returns-in_err-receive-clause-came g c = comes_both _ _ _ _ _ _ _ _ _ c.loop-found.invariant.came c.receive.ensures.came

pub returns-in-Nothing-clause-reply : goal.returns-in-Nothing-clause-reply
returns-in-Nothing-clause-reply g c =
    let none : reply_at c.args.request c.args.id [] c.args.at.now c.loop-found.buffer ≡ undecided =
    undecided_by_read c.args.request c.args.id c.args.at.now c.loop-found.at c.read_on.new.at c.loop-found.found c.read_on.new.found c.loop-found.buffer c.bytes.result.now c.in_ok-read_on.field-0
    c.bytes.ensures c.in-Waits.is c.loop-found.invariant.same c.in_ok-read_on.ensures.read (c.in_ok-read_on.ensures.waits (ap Ok c.in-Waits.is)) in
    let gone = c.in_ok-receive.ensures.nothing (ap Ok c.in-Nothing.is) in (
      (rose_earlier (g.L.Link.faults c.args.link.now) (g.L.Link.faults c.loop-found.link) (g.L.Link.faults c.receive.new.link) c.loop-found.invariant.later gone.1, gone.2),
      ap (λ (bytes : List ℕ). decided c.args.request c.args.id c.args.at.now bytes) gone.0 ∙ decided_within c.args.request c.args.id c.args.at.now c.loop-found.buffer c.loop-found.invariant.limited ∙ none,
    )

pub returns-then-len-gt-LIMIT-clause-reply : goal.returns-then-len-gt-LIMIT-clause-reply
returns-then-len-gt-LIMIT-clause-reply g c =
    let none : reply_at c.args.request c.args.id [] c.args.at.now c.loop-found.buffer ≡ undecided =
    undecided_by_read c.args.request c.args.id c.args.at.now c.loop-found.at c.read_on.new.at c.loop-found.found c.read_on.new.found c.loop-found.buffer c.bytes.result.now c.in_ok-read_on.field-0
    c.bytes.ensures c.in-Waits.is c.loop-found.invariant.same c.in_ok-read_on.ensures.read (c.in_ok-read_on.ensures.waits (ap Ok c.in-Waits.is)) in
    let many : 67108864 < length c.receive.new.self = omega (arith, c.len.ensures, c.if-len-gt-LIMIT.true) in
    let full : length c.loop-found.buffer ≡ 67108864 = full_by (length c.loop-found.buffer) (length c.receive.new.self) c.loop-found.invariant.limited c.in_ok-receive.ensures.limited many in
    decided_flood c.args.request c.args.id c.args.at.now c.loop-found.buffer c.receive.new.self (gained c.loop-found.buffer c.receive.new.self) full c.receive.ensures.came.grown many none

pub returns-in-Nothing-clause-came : goal.returns-in-Nothing-clause-came
returns-in-Nothing-clause-came g c = comes_both _ _ _ _ _ _ _ _ _ c.loop-found.invariant.came c.receive.ensures.came

pub returns-then-len-gt-LIMIT-clause-came : goal.returns-then-len-gt-LIMIT-clause-came
returns-then-len-gt-LIMIT-clause-came g c = comes_both _ _ _ _ _ _ _ _ _ c.loop-found.invariant.came c.receive.ensures.came
