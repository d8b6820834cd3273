-- What serving a link came to.
use Rattle.std.specs.Prelude.{◌≡◌, ℕ, ◌≤◌, List, ◌++◌, length}
use Rattle.std.specs.declared.option.Option.{Option}
use Rattle.std.specs.Io.KnownBytes.{Appends, Consumes, IsAtEnd}
use Rattle.sd_base.specs.Causes.{Rose}
use Rattle.sd_base.specs.Written.{AppendsFront}
use Rattle.sd_ldap.specs.declared.entry.DirEntry.{DirEntry}
use Rattle.sd_stub.specs.declared.ending.LinkEnd.{LinkEnd}
use Rattle.sd_stub.specs.declared.ending.LinkEnd.TheVariants as ends
use Rattle.sd_stub.specs.Saying.{said, answers}

-- the end that an input says, and all its answers written
pub record IsAnswered (entries : List DirEntry) (ending : LinkEnd) (input : List ℕ) (held held' : Option (List ℕ)) : Type 0 where
  pub ends : ending ≡ (said input).ending
  pub written : Appends held held' (answers entries (said input).messages)

-- By the bytes taken: the link closed or was cut where they are all, and was unbound, wrong or too long whatever
-- follows them. At a fault of the source all messages that they say are answered; at a fault of the sink, or for
-- want of memory, a front of the answers was written.
abbrev pub EndsBy : List DirEntry → LinkEnd → List ℕ → Option (List ℕ) → Option (List ℕ) → Option (List ℕ) → Type 0 → Type 0 → Type 0
EndsBy entries ends.Closed taken left held held' reads writes = IsAtEnd left × IsAnswered entries ends.Closed taken held held'
EndsBy entries ends.Cut taken left held held' reads writes = IsAtEnd left × IsAnswered entries ends.Cut taken held held'
EndsBy entries ends.Unbound taken left held held' reads writes = (more : List ℕ) → IsAnswered entries ends.Unbound (taken ++ more) held held'
EndsBy entries (ends.Bad at) taken left held held' reads writes = (more : List ℕ) → IsAnswered entries (ends.Bad at) (taken ++ more) held held'
EndsBy entries (ends.Long count) taken left held held' reads writes = (more : List ℕ) → IsAnswered entries (ends.Long count) (taken ++ more) held held'
EndsBy entries ends.ReadFault taken left held held' reads writes = reads × Appends held held' (answers entries (said taken).messages) × ((more : List ℕ) → AppendsFront held held' (answers entries (said (taken ++ more)).messages))
EndsBy entries ends.WriteFault taken left held held' reads writes = writes × ((more : List ℕ) → AppendsFront held held' (answers entries (said (taken ++ more)).messages))
EndsBy entries ends.Memory taken left held held' reads writes = (more : List ℕ) → AppendsFront held held' (answers entries (said (taken ++ more)).messages)

-- There are bytes, no more than one behind the limit, by which the link ended; a source that tells its bytes gave
-- them.
pub record Served (entries : List DirEntry) (ending : LinkEnd) (left left' held held' : Option (List ℕ)) (reads writes : Type 0) : Type 0 where
  pub taken : List ℕ
  pub consumed : Consumes left left' taken
  pub short : length taken ≤ 1073741825
  pub ended : EndsBy entries ending taken left' held held' reads writes

-- the same, by what a source tells of its bytes and its faults, and a sink of what it holds and its faults
abbrev pub ServedOver : {S W : Type 0} → (S → Option (List ℕ)) → (S → ℕ) → (W → Option (List ℕ)) → (W → ℕ) → List DirEntry → LinkEnd → S → S → W → W → Type 0
ServedOver left reads held writes entries ending source source' sink sink' =
    Served entries ending (left source) (left source') (held sink) (held sink') (Rose (reads source) (reads source')) (Rose (writes sink) (writes sink'))

-- By all the input: its end and all its answers, or a front of these at a fault or for want of memory.
abbrev pub IsToldEnd : List DirEntry → LinkEnd → List ℕ → Option (List ℕ) → Option (List ℕ) → Type 0
IsToldEnd entries ends.ReadFault input held held' = AppendsFront held held' (answers entries (said input).messages)
IsToldEnd entries ends.WriteFault input held held' = AppendsFront held held' (answers entries (said input).messages)
IsToldEnd entries ends.Memory input held held' = AppendsFront held held' (answers entries (said input).messages)
IsToldEnd entries ends.Closed input held held' = IsAnswered entries ends.Closed input held held'
IsToldEnd entries ends.Cut input held held' = IsAnswered entries ends.Cut input held held'
IsToldEnd entries ends.Unbound input held held' = IsAnswered entries ends.Unbound input held held'
IsToldEnd entries (ends.Bad at) input held held' = IsAnswered entries (ends.Bad at) input held held'
IsToldEnd entries (ends.Long count) input held held' = IsAnswered entries (ends.Long count) input held held'
