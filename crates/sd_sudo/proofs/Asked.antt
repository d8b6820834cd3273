-- The search for sudo rules over a link to a directory in memory.
use Rattle.std.proofs.Common.{◌≡◌, ℕ, true, false, List, [], ◌∷◌, ◌⊎◌, map, Some, None, refl, sym, ap, subst, ◌∙◌, inl, inr}
use Rattle.std.specs.Prelude.{if◌then◌else◌}
use Rattle.std.proofs.lemmas.Bool.{and_from}
use Rattle.sd_base.specs.declared.Why.{Why}
use Rattle.sd_base.specs.declared.Why.TheVariants as whys
use Rattle.sd_ldap.specs.declared.entry.DirEntry.{DirEntry}
use Rattle.sd_ldap.specs.Values.{SearchValue}
use Rattle.sd_match.specs.Answering.{found, sent}
use Rattle.sd_dial.specs.declared.searched.Searched.{Searched}
use Rattle.sd_dial.specs.declared.searched.Searched.TheVariants as searches
use Rattle.sd_client.specs.Talk.{Talk}
use Rattle.sd_stub.specs.declared.Mode.TheVariants as modes
use Rattle.sd_stub_link.specs.Distinct.{have_own_dns}
use Rattle.sd_stub_link.specs.Standing.{Standing, rest_of, coming_of}
use Rattle.sd_nested.specs.Searches.{IsAnswer}
use Rattle.sd_fetch.specs.Exchanging.{Exchange, Went, Gave}
use Rattle.sd_fetch.specs.Told.{IsLimit}
use Rattle.sd_fetch.proofs.Answers.{IsPlain, answered}
use Rattle.sd_fetch.proofs.Walk.{Stands, past_first, walk_failed}
use Rattle.sd_provider.proofs.Binds.{fresh, fresh_settled}
use Rattle.sd_provider.proofs.Searches.{telling}
use Rattle.sd_dial.specs.Entries.{shortest}
use Rattle.sd_dial.specs.Rooms.{are_short}
use Rattle.sd_provider.specs.Servers.{behind_in}
use Rattle.sd_sudo.specs.Asking.{RolesBy}
use Rattle.sd_sudo.specs.Listing.{roles_of, roles_in}
use Rattle.sd_sudo.specs.Lookups.{IsMet, role_limit}
use Rattle.sd_sudo.specs.Searches.{role_search}
use Rattle.sd_sudo.proofs.Sent.{roles_found}

-- a link that found no memory failed
abbrev pub IsStarved : Talk Standing → Type 0
IsStarved new = (new.failed ≡ Some whys.Link) × (new.link.starved ≡ true)

plain : (base : List ℕ) → IsPlain (role_search base)
plain base = record { unlimited = refl; supported = refl }

abbrev asked : List ℕ → Searched → Exchange
asked base searched = record { search = role_search base; searched = searched }

module _ (entries : List DirEntry) (base : List ℕ) (new : Talk Standing) (own : have_own_dns entries ≡ true) (short : are_short entries ≡ true) where
  stands : Stands telling (fresh entries modes.Up) (behind_in shortest entries)
  stands = record { is = ap (λ b. if b then Some (behind_in shortest entries) else None) (and_from (have_own_dns entries) (are_short entries) own short); quiet = fresh_settled entries modes.Up }

  answer : (searched : Searched) → Went telling (fresh entries modes.Up) (asked base searched) new → IsAnswer entries (role_search base) searched
  answer searched w = answered (behind_in shortest entries) 0 1 (role_search base) searched (plain base) (w.by_directory (behind_in shortest entries) stands.is stands.quiet)

  within : (searched : Searched) → Went telling (fresh entries modes.Up) (asked base searched) new → Gave searched → role_limit entries base ≡ None
  within searched w g = past_first telling (fresh entries modes.Up) (asked base searched) new (behind_in shortest entries) [] w stands g

  by_limit : (why : Why) → (why ≡ whys.Link → new.failed ≡ Some whys.Link) → IsLimit why (role_limit entries base) (new.link.starved ≡ true) (rest_of new.link ≡ []) (coming_of new.link) → IsStarved new ⊎ IsMet (role_limit entries base)
  by_limit whys.Link f (inl starved) = inl (f refl, starved)
  by_limit whys.Link f (inr ends) = inr (whys.Link, ends.1 (ap (λ (rest : List ℕ). Some rest) ends.0))
  by_limit (whys.Bytes at) f h = inr (whys.Bytes at, h)
  by_limit (whys.Code code) f h = absurd h
  by_limit (whys.Message tag) f h = inr (whys.Message tag, h)
  by_limit (whys.Flood count) f h = inr (whys.Flood count, h)

  failed : (why : Why) → Went telling (fresh entries modes.Up) (asked base (searches.Failed why)) new → IsStarved new ⊎ IsMet (role_limit entries base)
  failed why w =
      by_limit why (λ e. w.fails refl ∙ ap (λ (x : Why). Some x) e)
      (walk_failed telling (fresh entries modes.Up) (asked base (searches.Failed why) ∷ []) new (behind_in shortest entries) [] why (new, w, refl) stands
      (record { before = []; search = role_search base; are = refl; gave = tt }))

  none_in : found entries (role_search base) ≡ [] → roles_in entries base ≡ []
  none_in e = sym (roles_found base entries) ∙ ap (λ (es : List DirEntry). roles_of (map (sent (role_search base)) es)) e

  so : (searched : Searched) → Went telling (fresh entries modes.Up) (asked base searched) new → IsStarved new ⊎ RolesBy entries base searched
  so (searches.Entries given) w =
      inr (within (searches.Entries given) w tt, ap roles_of (answer (searches.Entries given) w) ∙ roles_found base entries)
  so (searches.Code code) w =
      let a = answer (searches.Code code) w in
      inr (within (searches.Code code) w a.0, none_in a.1)
  so (searches.Failed why) w = failed why w
  so searches.Memory w = inr tt

pub roles_by : (entries : List DirEntry) (base : List ℕ) (searched : Searched) (search : SearchValue) (old new : Talk Standing) → have_own_dns entries ≡ true → are_short entries ≡ true → old ≡ fresh entries modes.Up → search ≡ role_search base
    → Went telling old (record { search = search; searched = searched }) new → IsStarved new ⊎ RolesBy entries base searched
roles_by entries base searched search old new own short first is w =
    so entries base new own short searched
    (subst (λ (talk : Talk Standing). Went telling talk (asked base searched) new) first (subst (λ (s : SearchValue). Went telling old (record { search = s; searched = searched }) new) is w))

-- the link that a client gives back found memory
pub not_starved : (client : Talk Standing) (link : Standing) → ((client.failed ≡ None → ⊥) → link ≡ client.link) → link.starved ≡ false → IsStarved client → ⊥
not_starved client link back well s =
    let same : link ≡ client.link = back (λ e. let f : Some whys.Link ≡ None = sym s.0 ∙ e in absurd cc) in
    let e : true ≡ false = sym s.1 ∙ (sym (ap (λ (l : Standing). l.starved) same) ∙ well) in
    absurd cc
