-- The searcher of nested groups over a client keeps its laws.
use Rattle.std.proofs.Common.{◌≡◌, ℕ, Bool, true, false, not, ◌==◌, List, [], ◌∷◌, Option, Some, None, refl, sym, ap, subst, ◌∙◌}
use Rattle.sd_ldap.specs.declared.entry.DirEntry.{DirEntry}
use Rattle.sd_ldap.specs.Values.{SearchValue}
use Rattle.sd_dial.specs.Entries.{Behind}
use Rattle.sd_dial.specs.declared.searched.Searched.{Searched}
use Rattle.sd_dial.specs.declared.searched.Searched.TheVariants as searches
use Rattle.sd_client.specs.Talk.{Talk}
use Rattle.sd_asking.specs.Searching.{HasReply}
use Rattle.sd_nested.specs.Searches.{Question, entry_at, holders_of, read_search, holder_search, IsAnswer}
use Rattle.sd_fetch.specs.Exchanging.{Telling, Exchange, Went, IsQuiet, is_stop}
use Rattle.sd_fetch.specs.Rounding.{Tells}
use Rattle.sd_fetch.proofs.Answers.{IsPlain, answered}

has_reply : (s : Searched) → is_stop s ≡ false → HasReply s
has_reply (searches.Entries given) h = tt
has_reply (searches.Code code) h = tt
has_reply (searches.Failed why) h = absurd cc
has_reply searches.Memory h = absurd cc

pub tells_on : {L : Type 0} (t : Telling L) (old : Talk L) (x : Exchange) (new : Talk L) (was_stopped is_stopped : Bool) (told : List DirEntry)
    → Went t old x new → was_stopped ≡ false → is_stopped ≡ is_stop x.searched → Tells t old was_stopped told → Tells t new is_stopped told
tells_on t old x new was_stopped is_stopped told w going stops k = record {
  behind = k.behind;
  is_told = w.behind ∙ k.is_told;
  entries = k.entries;
  quiet = λ e. (w.goes_on k.behind k.is_told (k.quiet going) (has_reply x.searched (sym stops ∙ e))).settled;
}

pub stopped_tells : {L : Type 0} (t : Telling L) (old : Talk L) (was_stopped : Bool) (told : List DirEntry) → Tells t old was_stopped told → Tells t old true told
stopped_tells t old was_stopped told k = record { behind = k.behind; is_told = k.is_told; entries = k.entries; quiet = λ e. absurd cc }

told_answer : {L : Type 0} (t : Telling L) (old : Talk L) (x : Exchange) (new : Talk L) (was_stopped : Bool) (told : List DirEntry)
    → Went t old x new → was_stopped ≡ false → IsPlain x.search → Tells t old was_stopped told → IsAnswer told x.search x.searched
told_answer t old x new was_stopped told w going plain k =
    subst (λ (all : List DirEntry). IsAnswer all x.search x.searched) k.entries
    (answered k.behind _ _ x.search x.searched plain (w.by_directory k.behind k.is_told (k.quiet going)))

plain_read : (dn : List ℕ) → IsPlain (read_search dn)
plain_read dn = record { unlimited = refl; supported = refl }

plain_holders : (base dn : List ℕ) → IsPlain (holder_search base dn)
plain_holders base dn = record { unlimited = refl; supported = refl }

pub read_told : {L : Type 0} (t : Telling L) (old new : Talk L) (dn : List ℕ) (s : SearchValue) (searched : Searched) (was_stopped : Bool) (told : List DirEntry)
    → s ≡ read_search dn → Went t old (record { search = s; searched = searched }) new → was_stopped ≡ false → Tells t old was_stopped told → IsAnswer told (read_search dn) searched
read_told t old new dn s searched was_stopped told e w going k =
    subst (λ (x : SearchValue). IsAnswer told x searched) e
    (told_answer t old (record { search = s; searched = searched }) new was_stopped told w going (subst (λ (x : SearchValue). IsPlain x) (sym e) (plain_read dn)) k)

pub holders_told : {L : Type 0} (t : Telling L) (old new : Talk L) (base dn : List ℕ) (s : SearchValue) (searched : Searched) (was_stopped : Bool) (told : List DirEntry)
    → s ≡ holder_search base dn → Went t old (record { search = s; searched = searched }) new → was_stopped ≡ false → Tells t old was_stopped told → IsAnswer told (holder_search base dn) searched
holders_told t old new base dn s searched was_stopped told e w going k =
    subst (λ (x : SearchValue). IsAnswer told x searched) e
    (told_answer t old (record { search = s; searched = searched }) new was_stopped told w going (subst (λ (x : SearchValue). IsPlain x) (sym e) (plain_holders base dn)) k)

-- a settled client over a link that tells the directory behind it tells its entries
pub tells_first : {L : Type 0} (t : Telling L) (talk : Talk L) (is_stopped : Bool) (b : Behind) → t.behind talk.link ≡ Some b → IsQuiet t talk → Tells t talk is_stopped b.entries
tells_first t talk is_stopped b is quiet = record { behind = b; is_told = is; entries = refl; quiet = λ e. quiet }
