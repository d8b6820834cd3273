use Rattle.std.proofs.Common.{◌≡◌, ℕ, Some, reverse, arith, sym, ◌∙◌, ap}
use Rattle.std.specs.Option.{option_copied, option_map}
use Rattle.sd_rules.specs.Past.{newest}
use Rattle.sd_rules.specs.Steps.{event_at, record_in}
use Rattle.sd_cache.specs.Kept.{kept_of}
use Rattle.sd_past.proofs.StandingLaws.{record_kept}
use Rattle.sd_past.proofs.found.record_by.Goals as goal

pub returns-then-kept-number : goal.returns-then-kept-number
returns-then-kept-number c =
    let past = reverse c.args.entries.now in
    let kept : option_map kept_of (newest past c.in-Some.key.now) ≡ Some c.in-Some-newest.kept.now =
    sym (c.newest.ensures past c.requires.indexes) ∙ ap option_copied c.in-Some-newest.is in
    let same : c.in-Some-newest.kept.now.number ≡ c.args.number = omega (arith, c.if-kept-number.true) in
    c.record_in_answer.ensures
    ∙ sym (record_kept past c.in-Some.key.now c.in-Some-newest.kept.now c.requires.falls kept)
    ∙ ap (λ (n : ℕ). record_in (event_at past n)) same
