-- A netgroup asked for over a link to a directory in memory.
use Rattle.std.proofs.Common.{◌≡◌, ℕ, true, false, List, [], ◌⊎◌, length, Some, None, refl, sym, ap, subst, ◌∙◌, inl, inr}
use Rattle.std.specs.Prelude.{if◌then◌else◌}
use Rattle.std.proofs.lemmas.Bool.{and_from}
use Rattle.sd_base.specs.declared.Why.{Why}
use Rattle.sd_base.specs.declared.Why.TheVariants as whys
use Rattle.sd_ldap.specs.declared.entry.DirEntry.{DirEntry}
use Rattle.sd_dial.specs.Entries.{Behind}
use Rattle.sd_dial.specs.Rooms.{are_short}
use Rattle.sd_dial.specs.declared.searched.Searched.TheVariants as searches
use Rattle.sd_client.specs.Talk.{Talk}
use Rattle.sd_asking.specs.Settled.{IsSettled}
use Rattle.sd_stub.specs.declared.Mode.TheVariants as modes
use Rattle.sd_stub_link.specs.Distinct.{have_own_dns}
use Rattle.sd_stub_link.specs.Standing.{Standing, made, rest_of, coming_of, behind_of}
use Rattle.sd_provider.proofs.Binds.{fresh, fresh_settled}
use Rattle.sd_provider.proofs.Lookups.{last_failed}
use Rattle.sd_provider.proofs.Searches.{telling}
use Rattle.sd_netgroup.specs.declared.asking.Netted.{Netted}
use Rattle.sd_netgroup.specs.declared.asking.Netted.TheVariants as nets
use Rattle.sd_netgroup.specs.Asking.{exchanges_of, Asked}
use Rattle.sd_netgroup.specs.Told.{IsToldFailure, MeetLimit, IsToldNetting}
use Rattle.sd_netgroup.specs.Endings.{directory_of, IsLimited, Answers}

-- what asking for a netgroup says of a client
pub record IsAsked (base name : List ℕ) (result : Netted) (old new : Talk Standing) : Type 0 where
  pub asked : Asked telling base name old result new
  pub told : (b : Behind) → behind_of old.link ≡ Some b → IsSettled old (coming_of old.link) → IsToldNetting b (length old.received) old.next base name result (new.link.starved ≡ true) (rest_of new.link ≡ []) (coming_of new.link)

-- a link that found no memory failed
abbrev pub IsStarved : Talk Standing → Type 0
IsStarved new = (new.failed ≡ Some whys.Link) × (new.link.starved ≡ true)

known : (entries : List DirEntry) → have_own_dns entries ≡ true → are_short entries ≡ true → behind_of (made entries modes.Up [] 0) ≡ Some (directory_of entries)
known entries own short = ap (λ b. if b then Some (directory_of entries) else None) (and_from (have_own_dns entries) (are_short entries) own short)

link_failed : (base name : List ℕ) (old new : Talk Standing) → old.failed ≡ None → Asked telling base name old (nets.Failed whys.Link) new → new.failed ≡ Some whys.Link
link_failed base name old new well a = last_failed (searches.Failed whys.Link) (exchanges_of base a.queries) old new a.in_order a.ends well

-- a failure is a limit, or for want of memory
by_failure : (why : Why) (base name : List ℕ) (entries : List DirEntry) (new : Talk Standing) → (why ≡ whys.Link → new.failed ≡ Some whys.Link)
    → IsToldFailure why (MeetLimit (directory_of entries) 0 1 base name) (new.link.starved ≡ true) (rest_of new.link ≡ []) (coming_of new.link) → IsStarved new ⊎ IsLimited entries base name
by_failure whys.Link base name entries new failed (inl starved) = inl (failed refl, starved)
by_failure whys.Link base name entries new failed (inr ends) = inr (whys.Link, ends.1 (ap (λ (rest : List ℕ). Some rest) ends.0))
by_failure (whys.Bytes at) base name entries new failed h = inr (whys.Bytes at, h)
by_failure (whys.Code code) base name entries new failed h = absurd h
by_failure (whys.Message tag) base name entries new failed h = inr (whys.Message tag, h)
by_failure (whys.Flood count) base name entries new failed h = inr (whys.Flood count, h)

by_told : (result : Netted) (base name : List ℕ) (entries : List DirEntry) (old new : Talk Standing) → old.failed ≡ None → Asked telling base name old result new
    → IsToldNetting (directory_of entries) 0 1 base name result (new.link.starved ≡ true) (rest_of new.link ≡ []) (coming_of new.link) → IsStarved new ⊎ Answers entries base name result
by_told (nets.Found triples) base name entries old new well a h = inr (record { within = h.0; named = h.1; are = h.2 })
by_told nets.Absent base name entries old new well a h = inr (record { within = h.0; none = h.1 })
by_told (nets.Code code) base name entries old new well a h = absurd h
by_told (nets.Failed why) base name entries old new well a h =
    by_failure why base name entries new (λ e. link_failed base name old new well (subst (λ (w : Why). Asked telling base name old (nets.Failed w) new) e a)) h
by_told nets.Memory base name entries old new well a h = inr tt

pub answers : (result : Netted) (base name : List ℕ) (entries : List DirEntry) (new : Talk Standing) → have_own_dns entries ≡ true → are_short entries ≡ true → IsAsked base name result (fresh entries modes.Up) new → IsStarved new ⊎ Answers entries base name result
answers result base name entries new own short is =
    by_told result base name entries (fresh entries modes.Up) new refl is.asked (is.told (directory_of entries) (known entries own short) (fresh_settled entries modes.Up))

-- the link that a client gives back found memory
pub not_starved : (client : Talk Standing) (link : Standing) → ((client.failed ≡ None → ⊥) → link ≡ client.link) → link.starved ≡ false → IsStarved client → ⊥
not_starved client link back well s =
    let same : link ≡ client.link = back (λ e. let f : Some whys.Link ≡ None = sym s.0 ∙ e in absurd cc) in
    let e : true ≡ false = sym s.1 ∙ (sym (ap (λ (l : Standing). l.starved) same) ∙ well) in
    absurd cc
