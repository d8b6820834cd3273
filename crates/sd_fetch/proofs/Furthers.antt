-- Searches for nested groups.
use Rattle.std.proofs.Common.{◌≡◌, ℕ, List, [], ◌∷◌, ◌++◌, map, Option, Some, None, refl, sym, ap, subst, ◌∙◌}
use Rattle.sd_dn.specs.declared.Pair.{Pair}
use Rattle.sd_dn.specs.Texts.{spelled}
use Rattle.sd_conf.specs.declared.config.Config.{Config}
use Rattle.sd_ldap.specs.declared.entry.DirEntry.{DirEntry}
use Rattle.sd_ldap.specs.Values.{SearchValue}
use Rattle.sd_client.specs.Talk.{Talk}
use Rattle.sd_nested.specs.Searches.{Question, entry_at, holders_of, read_search, holder_search}
use Rattle.sd_nested.specs.Rounds.{member_reads, holder_asks}
use Rattle.sd_nested.specs.Paths.{members_of}
use Rattle.sd_fetch.specs.declared.finding.Early.{Early}
use Rattle.sd_fetch.specs.declared.finding.Early.TheVariants as earlies
use Rattle.sd_fetch.specs.Exchanging.{Telling, Exchange, Goes}
use Rattle.sd_fetch.specs.Rounding.{Rounded, search_for, SearchedOf, searches_in}
use Rattle.sd_fetch.specs.Told.{reads_of, reads_under}
use Rattle.sd_fetch.specs.Told as told_specs
use Rattle.sd_fetch.specs.Lookup.{members_in, members_under}
use Rattle.sd_fetch.specs.Further.{Further}

by_reads : (base : List ℕ) (dns : List (List ℕ)) → map (search_for base) (map entry_at dns) ≡ map read_search dns
by_reads base [] = refl
by_reads base (dn ∷ dns) = ap (λ (ss : List SearchValue). read_search dn ∷ ss) (by_reads base dns)

by_holders : (base : List ℕ) (dns : List (List ℕ)) → map (search_for base) (map holders_of dns) ≡ map (holder_search base) dns
by_holders base [] = refl
by_holders base (dn ∷ dns) = ap (λ (ss : List SearchValue). holder_search base dn ∷ ss) (by_holders base dns)

further_from : {L : Type 0} (t : Telling L) (base : List ℕ) (old new : Talk L) (early : Option Early) (asked : List DirEntry → List Question) (due : List DirEntry → List SearchValue)
    → ((told : List DirEntry) → map (search_for base) (asked told) ≡ due told) → Rounded t base old new early asked → Further t old new early due
further_from t base old new early asked due same r = record {
  exchanges = r.exchanges;
  in_order = r.in_order;
  ends = r.ends;
  searched = λ b is quiet. subst (λ (ss : List SearchValue). SearchedOf early (searches_in r.exchanges) ss) (same b.entries) (r.searched b is quiet);
}

pub reads_further : {L : Type 0} (t : Telling L) (config : Config) (base : List (List Pair)) (group : DirEntry) (old new : Talk L) (early : Option Early)
    → Some base ≡ spelled config.base → Rounded t config.base old new early (λ told. map entry_at (member_reads told base config.level group)) → Further t old new early (λ told. reads_of config told group)
reads_further t config base group old new early is r =
    further_from t config.base old new early (λ told. map entry_at (member_reads told base config.level group)) (λ told. reads_of config told group)
    (λ told. by_reads config.base (member_reads told base config.level group) ∙ ap (λ (o : Option (List (List Pair))). map read_search (reads_under o told config.level group)) is) r

pub holders_further : {L : Type 0} (t : Telling L) (config : Config) (user : DirEntry) (old new : Talk L) (early : Option Early)
    → Rounded t config.base old new early (λ told. map holders_of (holder_asks told config.base config.level user.dn)) → Further t old new early (λ told. told_specs.holders_of config told user)
holders_further t config user old new early r =
    further_from t config.base old new early (λ told. map holders_of (holder_asks told config.base config.level user.dn)) (λ told. told_specs.holders_of config told user)
    (λ told. by_holders config.base (holder_asks told config.base config.level user.dn)) r

-- no search
pub none_further : {L : Type 0} (t : Telling L) (talk : Talk L) (due : List DirEntry → List SearchValue) → ((told : List DirEntry) → due told ≡ []) → Further t talk talk None due
none_further t talk due none = record { exchanges = []; in_order = refl; ends = tt; searched = λ b is quiet. sym (none b.entries) }

pub no_base_further : {L : Type 0} (t : Telling L) (config : Config) (group : DirEntry) (talk : Talk L) → None ≡ spelled config.base → Further t talk talk None (λ told. reads_of config told group)
no_base_further t config group talk is = none_further t talk (λ told. reads_of config told group) (λ told. ap (λ (o : Option (List (List Pair))). map read_search (reads_under o told config.level group)) (sym is))

-- want of memory before any search
pub starved_further : {L : Type 0} (t : Telling L) (talk : Talk L) (due : List DirEntry → List SearchValue) → Further t talk talk (Some earlies.Memory) due
starved_further t talk due = record { exchanges = []; in_order = refl; ends = tt; searched = λ b is quiet. tt }

pub members_by_base : (config : Config) (told : List DirEntry) (base : List (List Pair)) (group : DirEntry) (names : List (List ℕ)) → Some base ≡ spelled config.base → names ≡ members_of told base config.level group → names ≡ members_in config told group
members_by_base config told base group names is e = e ∙ ap (λ (o : Option (List (List Pair))). members_under o told config.level group) is
