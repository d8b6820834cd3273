-- The table stays what the journal says, entry by entry.
use Rattle.std.proofs.Common.{◌≡◌, ℕ, ◌+◌, not, true, List, [], ◌∷◌, ◌++◌, filter, reverse, length, Option, None, refl, sym, ◌∙◌, ap, subst, ◌<◌, get_or, take}
use Rattle.std.proofs.lemmas.List.{reverse-append, take_more}
use Rattle.sd_rules.specs.declared.replies.Entry.{Entry}
use Rattle.sd_rules.specs.Requests.{reserved_places}
use Rattle.sd_cache.specs.Cache.{HoldsNewest}
use Rattle.sd_index.specs.declared.outages.Outage.{Outage}
use Rattle.sd_index.specs.declared.places.Place.{Place}
use Rattle.sd_voids.specs.Entries.{numbers_fall}
use Rattle.sd_index.specs.Outages.{outage_after, HoldsOutage}
use Rattle.sd_index.specs.Places.{place_of, listed, reserved}
use Rattle.sd_index.specs.Places as placed
use Rattle.sd_index.specs.Signals.{signals_after}
use Rattle.sd_voids.specs.Voids.{HoldsVoids, no_bounds}
use Rattle.sd_index.specs.Table.{Table, Indexes}
use Rattle.sd_index.proofs.OutageLaws.{holds_outage_after, holds_no_outage}
use Rattle.sd_voids.proofs.VoidLaws.{holds_no_voids}
use Rattle.sd_index.proofs.PlaceLaws.{reserved_after}
use Rattle.sd_index.proofs.CountLaws.{count_reserved}

pub indexes_after : (past : List Entry) (e : Entry) (t u : Table) → Indexes past t → numbers_fall e.number past ≡ true
    → HoldsNewest (e ∷ past) u.answers → HoldsVoids (e ∷ past) u.bounds → u.outage ≡ outage_after t.outage e
    → u.places ≡ filter (λ p. not (placed.gives_back e.event e.reply p)) t.places ++ listed (place_of e) → u.signals ≡ signals_after t.signals e → Indexes (e ∷ past) u
indexes_after past e t u is falling newest bounds outage places told = record {
  numbers = falling;
  answers = newest;
  bounds = bounds;
  outage = subst (λ (o : Option Outage). HoldsOutage (e ∷ past) o) (sym outage) (holds_outage_after past e t.outage is.outage);
  places =
      places
      ∙ ap (λ (ps : List Place). filter (λ p. not (placed.gives_back e.event e.reply p)) ps ++ listed (place_of e)) is.places
      ∙ sym (reserved_after e past falling);
  signals = told ∙ ap (λ (es : List Entry). signals_after es e) is.signals;
}

-- a journal of no entries
pub indexes_none : Indexes [] (record { answers = []; bounds = no_bounds; outage = None; places = []; signals = [] })
indexes_none = record {
  numbers = refl;
  answers = record { each = λ k. refl };
  bounds = holds_no_voids;
  outage = holds_no_outage;
  places = refl;
  signals = refl;
}

-- as many places are kept as the journal counts
pub reserved_is : (past : List Entry) (t : Table) → Indexes past t → length t.places ≡ reserved_places past
reserved_is past t is = ap (λ (ps : List Place). length ps) is.places ∙ count_reserved past is.numbers

-- one entry of a list more
pub indexes_more : (entries : List Entry) (i : ℕ) (e : Entry) (t : Table) → i < length entries → e ≡ get_or entries i e
    → Indexes (e ∷ reverse (take i entries)) t → Indexes (reverse (take (i + 1) entries)) t
indexes_more entries i e t lt is h =
    let more : take (i + 1) entries ≡ take i entries ++ e ∷ [] =
    take_more entries i e lt ∙ ap (λ (x : Entry). take i entries ++ x ∷ []) (sym is) in
    let newest : reverse (take (i + 1) entries) ≡ e ∷ reverse (take i entries) =
    ap (λ (es : List Entry). reverse es) more ∙ reverse-append (take i entries) (e ∷ []) in
    subst (λ (es : List Entry). Indexes es t) (sym newest) h
