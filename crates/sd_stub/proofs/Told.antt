-- What the bytes taken say, is what all the input says.
use Rattle.std.proofs.Common.{◌≡◌, ℕ, List, [], ◌++◌, sym, ap, ◌∙◌, append-nil, subst}
use Rattle.std.specs.Prelude.{Some, None, IfSome}
use Rattle.std.specs.declared.option.Option.{Option}
use Rattle.std.specs.Io.KnownBytes.{Consumes}
use Rattle.sd_ldap.specs.declared.entry.DirEntry.{DirEntry}
use Rattle.sd_stub.specs.declared.ending.LinkEnd.{LinkEnd}
use Rattle.sd_stub.specs.declared.ending.LinkEnd.TheVariants as ends
use Rattle.sd_stub.specs.Serving.{IsAnswered, EndsBy, Served, IsToldEnd}

-- where nothing is left, the bytes taken are all
all_taken : (taken rest : List ℕ) → rest ≡ [] → taken ++ rest ≡ taken
all_taken taken rest none = ap (λ (list : List ℕ). taken ++ list) none ∙ append-nil taken

by_rest : (entries : List DirEntry) (ending : LinkEnd) (taken rest : List ℕ) (held held' : Option (List ℕ)) (reads writes : Type 0)
    → EndsBy entries ending taken (Some rest) held held' reads writes → IsToldEnd entries ending (taken ++ rest) held held'
by_rest entries ends.Closed taken rest held held' reads writes h = subst (λ (list : List ℕ). IsAnswered entries ends.Closed list held held') (sym (all_taken taken rest h.0)) h.1
by_rest entries ends.Cut taken rest held held' reads writes h = subst (λ (list : List ℕ). IsAnswered entries ends.Cut list held held') (sym (all_taken taken rest h.0)) h.1
by_rest entries ends.Unbound taken rest held held' reads writes h = h rest
by_rest entries (ends.Bad at) taken rest held held' reads writes h = h rest
by_rest entries (ends.Long count) taken rest held held' reads writes h = h rest
by_rest entries ends.ReadFault taken rest held held' reads writes h = h.2 rest
by_rest entries ends.WriteFault taken rest held held' reads writes h = h.1 rest
by_rest entries ends.Memory taken rest held held' reads writes h = h rest

by_left : (entries : List DirEntry) (ending : LinkEnd) (taken : List ℕ) (left left' held held' : Option (List ℕ)) (reads writes : Type 0)
    → Consumes left left' taken → EndsBy entries ending taken left' held held' reads writes → IfSome left (λ input. IsToldEnd entries ending input held held')
by_left entries ending taken None left' held held' reads writes c h = tt
by_left entries ending taken (Some input) None held held' reads writes c h = absurd c
by_left entries ending taken (Some input) (Some rest) held held' reads writes c h =
    subst (λ (list : List ℕ). IsToldEnd entries ending list held held') (sym c) (by_rest entries ending taken rest held held' reads writes h)

pub told_by : (entries : List DirEntry) (ending : LinkEnd) (left left' held held' : Option (List ℕ)) (reads writes : Type 0) → Served entries ending left left' held held' reads writes
    → IfSome left (λ input. IsToldEnd entries ending input held held')
told_by entries ending left left' held held' reads writes s = by_left entries ending s.taken left left' held held' reads writes s.consumed s.ended
