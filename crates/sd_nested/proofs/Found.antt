-- The names and groups of the rounds are those of the paths.
use Rattle.std.proofs.Common.{◌≡◌, ℕ, suc, true, List, [], ◌∷◌, ◌++◌, map, Option, ap, ◌∙◌, subst}
use Rattle.std.specs.List.{flat_map}
use Rattle.sd_dn.specs.declared.Pair.{Pair}
use Rattle.sd_dn.specs.Comparing.{ends_with}
use Rattle.sd_dn.specs.Reading.{is_dn}
use Rattle.sd_ldap.specs.declared.entry.DirEntry.{DirEntry}
use Rattle.sd_rules.specs.declared.records.GroupRef.{GroupRef}
use Rattle.sd_nested.specs.Named.{user_names, group_ref, group_refs, group_values}
use Rattle.sd_nested.specs.Order.{AreInOrder, in_order, names_of, AreRefsInOrder, refs_in_order}
use Rattle.sd_nested.specs.Paths.{placed_in, at_or_under, reached, holding, members_of, groups_of_user}
use Rattle.sd_nested.specs.Rounds.{Rounds, rounds, beginning, member_way, member_start, member_reads, first_values, new_among, dns_of, holder_way, holder_questions}
use Rattle.sd_nested.specs.declared.searcher.Stop.{Stop}
use Rattle.sd_nested.specs.declared.rounds.Direction.TheVariants as directions
use Rattle.sd_nested.specs.Searches.{Exchange, entry_at}
use Rattle.sd_nested.specs.Asking.{ExchangedOver}
use Rattle.sd_nested.specs.Directions.{user_ref, question_by, kept_by, way_by}
use Rattle.sd_nested.proofs.Reached.{names_found, names_reached}
use Rattle.sd_nested.proofs.Held.{refs_found, refs_held}
use Rattle.sd_nested.proofs.Ascending.{same_order, same_refs_order, kept_names}
use Rattle.sd_nested.proofs.Ordered.{is_inserted, are_inserted}

pub members_found : (told : List DirEntry) (base : List (List Pair)) (level : ℕ) (group : DirEntry) (kept : List GroupRef) (names : List (List ℕ))
    → kept ≡ flat_map user_ref (rounds (member_way told base) (member_start base group) (suc level)).found → AreInOrder (names_of kept) names → names ≡ members_of told base level group
members_found told base level group kept names k n =
    is_inserted (names_of kept) names n
    ∙ (ap (λ (rs : List GroupRef). in_order (names_of rs)) k
    ∙ (ap in_order (kept_names (rounds (member_way told base) (member_start base group) (suc level)).found)
    ∙ same_order (user_names (rounds (member_way told base) (member_start base group) (suc level)).found) (user_names (reached (placed_in base told) (suc level) group))
    (names_found told base (suc level) group) (names_reached told base level group)))

pub groups_found : (told : List DirEntry) (base : List ℕ) (level : ℕ) (dn : List ℕ) (kept groups : List GroupRef) → is_dn dn ≡ true
    → kept ≡ flat_map group_ref (rounds (holder_way told base) (beginning [] (dn ∷ [])) (suc level)).found → AreRefsInOrder kept groups → groups ≡ groups_of_user (at_or_under base told) level dn
groups_found told base level dn kept groups d k g =
    are_inserted kept groups g
    ∙ (ap refs_in_order k
    ∙ same_refs_order (group_refs (rounds (holder_way told base) (beginning [] (dn ∷ [])) (suc level)).found) (group_refs (holding (at_or_under base told) (suc level) dn))
    (λ r h. refs_found told base (suc level) dn r d h) (λ r h. refs_held told base level dn r d h))

-- ---- what the code begins with

pub starts_so : (own base : List (List Pair)) (group : DirEntry) (first : List (List ℕ)) (no_dns seen : List (List (List Pair)))
    → own ≡ base → no_dns ≡ [] → first ≡ new_among (λ dn. ends_with dn own) no_dns (group_values group) → seen ≡ no_dns ++ dns_of first
    → beginning seen first ≡ member_start base group
starts_so own base group first no_dns seen o d f s =
    let due : first ≡ first_values base group =
    f
    ∙ (ap (λ (x : List (List Pair)). new_among (λ dn. ends_with dn x) no_dns (group_values group)) o
    ∙ ap (λ (x : List (List (List Pair))). new_among (λ dn. ends_with dn base) x (group_values group)) d) in
    let met : seen ≡ dns_of (first_values base group) = s ∙ (ap (λ (x : List (List (List Pair))). x ++ dns_of first) d ∙ ap dns_of due) in
    ap (λ (x : List (List (List Pair))). beginning x first) met ∙ ap (λ (x : List (List ℕ)). beginning (dns_of (first_values base group)) x) due

pub reads_so : {S : Type 0} (went : S → Exchange → S → Type 0) (a b : S) (stop : Option Stop) (tells : List DirEntry → Type 0) (place : List ℕ) (level : ℕ) (own base : List (List Pair)) (start : Rounds) (group : DirEntry)
    → own ≡ base → start ≡ member_start base group
    → ExchangedOver went a b stop tells (λ told. map (question_by (directions.Members own)) (rounds (way_by told place (directions.Members own)) start (suc level)).asked)
    → ExchangedOver went a b stop tells (λ told. map entry_at (member_reads told base level group))
reads_so went a b stop tells place level own base start group o s h =
    subst (λ (x : Rounds). ExchangedOver went a b stop tells (λ told. map (question_by (directions.Members base)) (rounds (way_by told place (directions.Members base)) x (suc level)).asked)) s
    (subst (λ (x : List (List Pair)). ExchangedOver went a b stop tells (λ told. map (question_by (directions.Members x)) (rounds (way_by told place (directions.Members x)) start (suc level)).asked)) o h)

pub kept_so : (told : List DirEntry) (place : List ℕ) (level : ℕ) (own base : List (List Pair)) (start : Rounds) (group : DirEntry) (kept : List GroupRef) → own ≡ base → start ≡ member_start base group
    → kept ≡ flat_map (kept_by (directions.Members own)) (rounds (way_by told place (directions.Members own)) start (suc level)).found
    → kept ≡ flat_map user_ref (rounds (member_way told base) (member_start base group) (suc level)).found
kept_so told place level own base start group kept o s h =
    subst (λ (x : Rounds). kept ≡ flat_map (kept_by (directions.Members base)) (rounds (way_by told place (directions.Members base)) x (suc level)).found) s
    (subst (λ (x : List (List Pair)). kept ≡ flat_map (kept_by (directions.Members x)) (rounds (way_by told place (directions.Members x)) start (suc level)).found) o h)

pub user_start : (seen : List (List (List Pair))) (none first : List (List ℕ)) (copy dn : List ℕ) → seen ≡ [] → none ≡ [] → first ≡ none ++ copy ∷ [] → copy ≡ dn → beginning seen first ≡ beginning [] (dn ∷ [])
user_start seen none first copy dn s n f c =
    ap (λ (x : List (List (List Pair))). beginning x first) s
    ∙ ap (λ (x : List (List ℕ)). beginning [] x) (f ∙ (ap (λ (x : List (List ℕ)). x ++ copy ∷ []) n ∙ ap (λ (x : List ℕ). x ∷ []) c))

pub holders_so : {S : Type 0} (went : S → Exchange → S → Type 0) (a b : S) (stop : Option Stop) (tells : List DirEntry → Type 0) (place : List ℕ) (level : ℕ) (start : Rounds) (dn : List ℕ)
    → start ≡ beginning [] (dn ∷ [])
    → ExchangedOver went a b stop tells (λ told. map (question_by directions.Holders) (rounds (way_by told place directions.Holders) start (suc level)).asked)
    → ExchangedOver went a b stop tells (λ told. holder_questions told place level dn)
holders_so went a b stop tells place level start dn s h =
    subst (λ (x : Rounds). ExchangedOver went a b stop tells (λ told. map (question_by directions.Holders) (rounds (way_by told place directions.Holders) x (suc level)).asked)) s h
