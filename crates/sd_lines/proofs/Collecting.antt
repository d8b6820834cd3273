-- What each word of a list says, word by word.
use Rattle.std.proofs.Common.{◌≡◌, List, [], ◌∷◌, ◌++◌, Option, Some, None, refl, ap, sym}
use Rattle.std.proofs.lemmas.List.{append_assoc}
use Rattle.sd_lines.specs.Words.{with_first}

-- what the words so far say, in front of what those left say
abbrev pub collected : {A : Type 0} → List A → Option (List A) → Option (List A)
collected found None = None
collected found (Some more) = Some (found ++ more)

pub collected_first : {A : Type 0} (more : Option (List A)) → collected [] more ≡ more
collected_first None = refl
collected_first (Some more) = refl

pub collected_none : {A : Type 0} (found : List A) (more : Option (List A)) → collected found (with_first None more) ≡ None
collected_none found more = refl

pub collected_next : {A : Type 0} (found : List A) (a : A) (more : Option (List A)) → collected found (with_first (Some a) more) ≡ collected (found ++ a ∷ []) more
collected_next found a None = refl
collected_next found a (Some more) = ap Some (sym (append_assoc found (a ∷ []) more))

pub ruleset collecting = (collected_first, collected_none, collected_next)
