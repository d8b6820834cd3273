-- Histories.
use Rattle.std.specs.Prelude.{◌+◌, List, [], ◌∷◌, ◌++◌}
use Rattle.sd_turn.specs.declared.view.History.{History}

-- the history with entries behind it, of which there is one
abbrev pub with_entries : {E : Type 0} → History E → List E → History E
with_entries h es = record { entries = h.entries ++ es; next = h.next + 1 }

-- the history with one entry more
abbrev pub with_entry : {E : Type 0} → History E → E → History E
with_entry h e = with_entries h (e ∷ [])
