use Rattle.std.proofs.Common.{◌≡◌, ◌+◌, ◌<◌, ◌≤◌, List, ◌++◌, length, drop, subst, sym, ap, ◌∙◌, arith}
use Rattle.std.proofs.lemmas.List.{length-drop}
use Rattle.sd_ldap.specs.declared.entry.DirEntry.{DirEntry}
use Rattle.sd_ldap.specs.MessageReading.{decode_of}
use Rattle.sd_client.specs.declared.step.Step.{Step}
use Rattle.sd_client.specs.declared.step.Step.TheVariants.{Passed, Found, Ended, Failed}
use Rattle.sd_client.specs.Heard.{step_of}
use Rattle.sd_client.specs.Waiting.{IsWithin}
use Rattle.sd_client.specs.Deciding.{reply_at}
use Rattle.sd_client.proofs.Steps.{step_within}
use Rattle.sd_client.proofs.Replies.{passes_at, finds_at, ends_at, fails_at}
use Rattle.sd_client.proofs.reading.read_on.Goals as goal

pub loop-used-preserved-in-Passed : goal.loop-used-preserved-in-Passed
loop-used-preserved-in-Passed c =
    let rest = drop c.loop-used.at c.args.bytes.now in
    let e : Passed c.in-Passed.used ≡ step_of c.args.request c.args.id (decode_of rest) = cc (c.in-Passed.is, c.in_ok-next_step.ensures.exact, c.split_at.ensures.back) in
    let there : (0 < c.in-Passed.used) × (c.in-Passed.used ≤ length rest) = subst (λ (s : Step). IsWithin s (length rest)) (sym e) (step_within c.args.request c.args.id rest) in
    record {
      within = omega (arith, there.1, c.loop-used.invariant.within, length-drop c.loop-used.at c.args.bytes.now);
      same = λ more. c.loop-used.invariant.same more ∙ passes_at c.args.request c.args.id c.loop-used.found c.loop-used.at c.in-Passed.used c.args.bytes.now more c.loop-used.invariant.within e;
    }

pub loop-used-preserved : goal.loop-used-preserved
loop-used-preserved c =
    let rest = drop c.loop-used.at c.args.bytes.now in
    let e : Found c.in-Found.entry c.in-Found.used ≡ step_of c.args.request c.args.id (decode_of rest) = cc (c.in-Found.is, c.in_ok-next_step.ensures.exact, c.split_at.ensures.back) in
    let there : (0 < c.in-Found.used) × (c.in-Found.used ≤ length rest) = subst (λ (s : Step). IsWithin s (length rest)) (sym e) (step_within c.args.request c.args.id rest) in
    record {
      within = omega (arith, there.1, c.loop-used.invariant.within, length-drop c.loop-used.at c.args.bytes.now);
      same = λ more.
          c.loop-used.invariant.same more
          ∙ finds_at c.args.request c.args.id c.loop-used.found c.in-Found.entry c.loop-used.at c.in-Found.used c.args.bytes.now more c.loop-used.invariant.within e
          ∙ ap (λ (entries : List DirEntry). reply_at c.args.request c.args.id entries (c.loop-used.at + c.in-Found.used) (c.args.bytes.now ++ more)) (sym c.in_ok-push-in-Found.ensures.ok);
    }

pub returns-in-Ended-clause-read : goal.returns-in-Ended-clause-read
returns-in-Ended-clause-read c = λ more.
    let rest = drop c.loop-used.at c.args.bytes.now in
    let e : Ended c.in-Ended.code c.in-Ended.used ≡ step_of c.args.request c.args.id (decode_of rest) = cc (c.in-Ended.is, c.in_ok-next_step.ensures.exact, c.split_at.ensures.back) in
    c.loop-used.invariant.same more ∙ ends_at c.args.request c.args.id c.loop-used.found c.in-Ended.code c.loop-used.at c.in-Ended.used c.args.bytes.now more c.loop-used.invariant.within e

pub returns-in-Failed-clause-read : goal.returns-in-Failed-clause-read
returns-in-Failed-clause-read c = λ more.
    let rest = drop c.loop-used.at c.args.bytes.now in
    let e : Failed c.in-Failed.why ≡ step_of c.args.request c.args.id (decode_of rest) = cc (c.in-Failed.is, c.in_ok-next_step.ensures.exact, c.split_at.ensures.back) in (
      c.loop-used.invariant.same more ∙ fails_at c.args.request c.args.id c.loop-used.found c.in-Failed.why c.loop-used.at c.args.bytes.now more c.loop-used.invariant.within e,
      subst (λ (s : Step). IsWithin s (length rest)) (sym e) (step_within c.args.request c.args.id rest),
    )
