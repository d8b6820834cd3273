-- Reading line by line reads the unfolded lines.
use Rattle.std.proofs.Common.{◌≡◌, ℕ, Bool, true, false, cond, List, [], ◌∷◌, refl}
use Rattle.std.specs.Prelude.{Result, Ok, Err}
use Rattle.sd_ldap.specs.declared.entry.DirEntry.{DirEntry}
use Rattle.sd_ldif.specs.declared.LdifFault.{LdifFault}
use Rattle.sd_ldif.specs.Lines.{Line, line, next_number, numbered_from, begins_with_space, continued, unfolded_from}
use Rattle.sd_ldif.specs.Records.{◌>>=◌}
use Rattle.sd_ldif.specs.Reading.{State, step, parted, Reading, reading, after_start, run}

-- reading of unfolded lines
abbrev pub read_on : State → List Line → Result (List DirEntry) LdifFault
read_on s [] = Ok (parted s).entries
read_on s (l ∷ ls) = step s l >>= λ next. read_on next ls

started : (r : Result State LdifFault) (g : State → Result (List DirEntry) LdifFault) (h : State → Reading) (k : Reading → Result (List DirEntry) LdifFault) → ((s : State) → k (h s) ≡ g s) → ((r >>= λ s. Ok (h s)) >>= k) ≡ (r >>= g)
started (Ok s) g h k e = e s
started (Err fault) g h k e = refl

one_more : (b : Bool) (r : Reading) (text : List ℕ) (texts : List (List ℕ))
    → ((next : Reading) → run next texts ≡ read_on next.state (unfolded_from next.line (numbered_from (next_number next.number) texts)))
    → (cond b (Ok (reading r.state (continued r.line text) (next_number r.number))) (after_start r text) >>= λ next. run next texts)
    ≡ read_on r.state (cond b (unfolded_from (continued r.line text) (numbered_from (next_number (next_number r.number)) texts))
    (r.line ∷ unfolded_from (line (next_number r.number) text) (numbered_from (next_number (next_number r.number)) texts)))
one_more true r text texts f = f (reading r.state (continued r.line text) (next_number r.number))
one_more false r text texts f =
    started (step r.state r.line) (λ s. read_on s (unfolded_from (line (next_number r.number) text) (numbered_from (next_number (next_number r.number)) texts)))
    (λ s. reading s (line (next_number r.number) text) (next_number r.number)) (λ next. run next texts)
    (λ s. f (reading s (line (next_number r.number) text) (next_number r.number)))

pub run_is : (texts : List (List ℕ)) (r : Reading) → run r texts ≡ read_on r.state (unfolded_from r.line (numbered_from (next_number r.number) texts))
run_is [] r = refl
run_is (text ∷ texts) r = one_more (begins_with_space text) r text texts (run_is texts)
