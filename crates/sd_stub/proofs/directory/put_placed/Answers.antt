use Rattle.std.proofs.Common.{◌≡◌, ◌∙◌, sym, ap, subst, List, Option}
use Rattle.sd_ldap.specs.declared.entry.DirEntry.{DirEntry}
use Rattle.sd_places.specs.Covers.{present}
use Rattle.sd_places.specs.Index.{IsIndex}
use Rattle.sd_places.specs.Keeping.{put}
use Rattle.sd_places.proofs.Indexing.{index_grown}
use Rattle.sd_places.proofs.Slots.{grown_present, on_any}
use Rattle.sd_stub.proofs.directory.put_placed.Goals as goal

pub returns-in_err-place-clause-index : goal.returns-in_err-place-clause-index
returns-in_err-place-clause-index c = index_grown c.args.index.now c.args.slots.now c.keep_place.new.slots c.keep_place.ensures.grown c.requires.index

pub returns-in_err-place-clause-err : goal.returns-in_err-place-clause-err
returns-in_err-place-clause-err c = on_any c.from_residual.result (present c.keep_place.new.slots ≡ present c.args.slots.now) (grown_present c.args.slots.now c.keep_place.new.slots c.keep_place.ensures.grown)

pub returns-in_err-put_entry-clause-index : goal.returns-in_err-put_entry-clause-index
returns-in_err-put_entry-clause-index c =
    c.put_entry.ensures.still c.keep_place.new.slots c.in_ok-place.ensures.place.within (index_grown c.args.index.now c.args.slots.now c.keep_place.new.slots c.keep_place.ensures.grown c.requires.index)

pub returns-in_err-put_entry-clause-err : goal.returns-in_err-put_entry-clause-err
returns-in_err-put_entry-clause-err c =
    on_any c.from_residual-in_err-put_entry.result (present c.keep_place.new.slots ≡ present c.args.slots.now) (grown_present c.args.slots.now c.keep_place.new.slots c.keep_place.ensures.grown)

pub returns-clause-index : goal.returns-clause-index
returns-clause-index c =
    subst (λ (ss : List (Option DirEntry)). IsIndex c.put_entry.new.self ss) (sym c.fill.ensures.slots)
    (c.in_ok-put_entry.ensures.ok c.keep_place.new.slots c.in_ok-place.ensures.place.within (index_grown c.args.index.now c.args.slots.now c.keep_place.new.slots c.keep_place.ensures.grown c.requires.index))

pub returns-clause-ok : goal.returns-clause-ok
returns-clause-ok c = c.fill.ensures.put ∙ ap (λ (es : List DirEntry). put es c.args.placed) (grown_present c.args.slots.now c.keep_place.new.slots c.keep_place.ensures.grown)
