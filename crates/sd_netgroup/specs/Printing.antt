-- What the tools print of a netgroup.
use Rattle.std.specs.Prelude.{ℕ, ◌++◌, Bool, if◌then◌else◌, List, Option, Some, None, codes}
use Rattle.std.specs.List.{flat_map}
use Rattle.sd_wire.specs.Escapes.{field}
use Rattle.sd_triples.specs.declared.triples.Triple.{Triple}
use Rattle.sd_triples.specs.Matching.{is_in}
use Rattle.sd_netgroup.specs.declared.words.Member.{Member}

-- a field, escaped, and what stands behind it
abbrev pub ended : List ℕ → List ℕ → List ℕ
ended text ending = field text ++ ending

-- `(HOST,USER,DOMAIN)` and the end of a line
abbrev pub line_of : Triple → List ℕ
line_of t = codes "(" ++ (ended t.host (codes ",") ++ (ended t.user (codes ",") ++ ended t.domain (codes ")\n")))

abbrev pub lines_of : List Triple → List ℕ
lines_of triples = flat_map line_of triples

abbrev pub answer_of : Bool → List ℕ
answer_of answer = if answer then codes "yes\n" else codes "no\n"

abbrev pub has_member : List Triple → Member → Bool
has_member triples m = is_in triples m.host m.user m.domain

-- the triples, a line each; or whether a member is in the netgroup
abbrev pub printed : List Triple → Option Member → List ℕ
printed triples None = lines_of triples
printed triples (Some m) = answer_of (has_member triples m)
