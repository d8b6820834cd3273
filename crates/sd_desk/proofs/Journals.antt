-- A daemon is told by its history and by what never changes.
use Rattle.std.proofs.Common.{◌≡◌, ℕ, ◌+◌, List, [], ◌∷◌, ◌++◌, refl, sym, ap, ◌∙◌}
use Rattle.std.specs.Prelude.{reverse}
use Rattle.std.proofs.lemmas.List.{reverse-reverse}
use Rattle.std.proofs.lemmas.Grind.{reverse_onto}
use Rattle.sd_turn.specs.declared.view.History.{History}
use Rattle.sd_turn.specs.Histories.{with_entry}
use Rattle.sd_rules.specs.declared.replies.Entry.{Entry}
use Rattle.sd_rules.specs.Steps.{Daemon, recorded}
use Rattle.sd_desk.specs.declared.shared.Basis.{Basis}
use Rattle.sd_desk.specs.Journals.{basis_of, history_of, daemon_of}

pub daemon_is : (d : Daemon) → daemon_of (basis_of d) (history_of d) ≡ d
daemon_is d = let with_past : List Entry → Daemon = λ es. record d { past = es } in ap with_past (reverse-reverse d.past)

pub daemon_under : (b : Basis) (d : Daemon) → basis_of d ≡ b → daemon_of b (history_of d) ≡ d
daemon_under b d same = ap (λ (c : Basis). daemon_of c (history_of d)) (sym same) ∙ daemon_is d

-- one entry more, of the number that was next
pub history_more : (d : Daemon) (e : Entry) → e.number ≡ d.next → history_of (recorded d e) ≡ with_entry (history_of d) e
history_more d e same =
    let with_list : List Entry → History Entry = λ es. record { entries = es; next = e.number + 1 } in
    let with_next : ℕ → History Entry = λ n. record { entries = reverse d.past ++ e ∷ []; next = n + 1 } in
    ap with_list (reverse_onto d.past e []) ∙ ap with_next same
