use Rattle.std.proofs.Common.{rules, ◌≡◌, ◌<◌, length, get_or, arith, refl, ◌∙◌}
use Rattle.sd_rules.specs.declared.events.Event.TheVariants.{Stop}
use Rattle.sd_rules.specs.declared.replies.Entry.{Entry}
use Rattle.sd_rules.specs.declared.replies.Reply.TheVariants.{Done}
use Rattle.std.proofs.lemmas.List.{get_or_default}
use Rattle.sd_sieve.proofs.KeptLaws.{sifted_more, texts_more}
use Rattle.sd_findings.proofs.MarkLaws.{needed_long}
use Rattle.sd_sieve.proofs.sieve.sift.Goals as goal

pub bounds-marks-place : goal.bounds-marks-place
bounds-marks-place c =
    let many : length c.args.marks.now ≡ length c.args.entries.items = needed_long c.args.entries.items c.args.marks.now c.requires.marks in
    let lt : c.loop-place.place < length c.args.entries.items = search rules in
    omega arith

pub loop-place-preserved : goal.loop-place-preserved
loop-place-preserved c =
    let lt : c.loop-place.place < length c.args.entries.items = search rules in
    let none : Entry = record { number = 0; moment = 0; event = Stop; reply = Done } in
    let e : Entry = get_or c.args.entries.items c.loop-place.place none in (
      sifted_more c.args.entries.items c.loop-place.entries.items c.sift_at-count.new.entries.items c.loop-place.kept.items c.sift_at-count.new.kept.items
          c.args.marks.now c.loop-place.count c.sift_at-count.result c.loop-place.place e _ _ c.requires.marks lt c.loop-place.invariant.0
          (get_or_default c.args.entries.items c.loop-place.place none e lt) refl c.sift_at-count.ensures.sifted,
      (
        texts_more c.args.entries.items c.args.marks.now c.loop-place.place c.index.result.now _ _ c.loop-place.text_bytes c.bytes_back.result
            c.saturating_add-text_bytes.result c.requires.marks lt (c.index.ensures ∙ c.loop-place.invariant.0.rest c.loop-place.place c.index.result.now (omega arith)) refl
            c.bytes_back.ensures c.saturating_add-text_bytes.ensures c.loop-place.invariant.1.0,
        c.sift_at-count.ensures.room ∙ c.loop-place.invariant.1.1,
      ),
    )
