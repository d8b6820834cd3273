-- Where an entry is put.
use Rattle.std.proofs.Common.{◌≡◌, List, [], ◌∷◌, ◌++◌, sym}
use Rattle.std.proofs.lemmas.List.Sums.{fold-append}
use Rattle.sd_ldap.specs.declared.entry.DirEntry.{DirEntry}
use Rattle.sd_places.specs.Keeping.{put, kept}

pub kept_more : (es : List DirEntry) (e : DirEntry) → put (kept es) e ≡ kept (es ++ e ∷ [])
kept_more es e = sym (fold-append put [] es (e ∷ []))
