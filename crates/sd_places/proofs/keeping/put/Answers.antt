use Rattle.std.proofs.Common.{◌∙◌, ap, List}
use Rattle.sd_ldap.specs.declared.entry.DirEntry.{DirEntry}
use Rattle.sd_places.specs.Covers.{present}
use Rattle.sd_places.specs.Keeping.{put}
use Rattle.sd_places.proofs.Slots.{grown_present}
use Rattle.sd_places.proofs.keeping.put.Goals as goal

pub returns-clause-put : goal.returns-clause-put
returns-clause-put c =
    c.fill.ensures.put
    ∙ ap (λ (es : List DirEntry). put es c.in_ok-placed.placed) (grown_present c.args.slots.now c.keep_place.new.slots c.in_ok-place.ensures.grown)
    ∙ ap (λ (e : DirEntry). put (present c.args.slots.now) e) c.in_ok-placed.ensures
