-- Searches one after the other over a link that tells the directory behind it: the first limit that they meet.
use Rattle.std.proofs.Common.{◌≡◌, ◌≢◌, ℕ, ◌+◌, Bool, true, false, List, [], ◌∷◌, ◌++◌, length, map, Option, Some, None, refl, sym, ap, subst, ◌∙◌, inl, inr, ◌⊎◌, append_assoc}
use Rattle.std.proofs.lemmas.List.{map-append, append-nil}
use Rattle.sd_base.specs.declared.Why.{Why}
use Rattle.sd_base.specs.declared.Why.TheVariants as whys
use Rattle.sd_base.specs.Causes.{Rose}
use Rattle.sd_ldap.specs.Values.{SearchValue}
use Rattle.sd_ldap.specs.declared.entry.DirEntry.{DirEntry}
use Rattle.sd_dial.specs.Entries.{Behind}
use Rattle.sd_dial.specs.declared.searched.Searched.{Searched}
use Rattle.sd_dial.specs.declared.searched.Searched.TheVariants as searches
use Rattle.sd_client.specs.declared.step.Request.TheVariants as requests
use Rattle.sd_client.specs.Deciding.{Decision, decided}
use Rattle.sd_client.specs.Talk.{Talk, IsSearched, IsUnsearched}
use Rattle.sd_asking.specs.Settled.{IsSettled}
use Rattle.sd_asking.specs.Searching.{ToldReply, told_search, search_reply_size, IsToldSearch, IsToldFailure, HasReply}
use Rattle.sd_asking.specs.Searching as told
use Rattle.sd_fetch.specs.Exchanging.{Telling, Exchange, Went, Goes, Gave, AllGave, IsLast, IsQuiet}
use Rattle.sd_fetch.specs.Rounding.{searches_in}
use Rattle.sd_fetch.specs.Told.{failure_of, or_later, first_failure, IsLimit}
use Rattle.sd_fetch.proofs.Answers.{IsPlain, answered}
use Rattle.sd_nested.specs.Searches.{IsAnswer}

-- the directory that a link tells, with entries that fit messages, behind a client that is settled
pub record Stands {L : Type 0} (t : Telling L) (talk : Talk L) (b : Behind) : Type 0 where
  pub is : t.behind talk.link ≡ Some b
  pub quiet : IsQuiet t talk

abbrev told_of : {L : Type 0} → Behind → Talk L → Exchange → ToldReply
told_of b talk x = told_search b (length talk.received) talk.next x.search

replies : (s : Searched) → Gave s → HasReply s
replies (searches.Entries given) g = tt
replies (searches.Code code) g = tt
replies (searches.Failed why) g = absurd g
replies searches.Memory g = absurd g

no_failure : (s : Searched) (reply : ToldReply) → Gave s → IsToldSearch s reply → failure_of reply ≡ None
no_failure (searches.Entries given) reply g h = ap failure_of h
no_failure (searches.Code code) reply g h = ap failure_of h
no_failure (searches.Failed why) reply g h = absurd g
no_failure searches.Memory reply g h = absurd g

pub told_gave : {L : Type 0} (t : Telling L) (old : Talk L) (x : Exchange) (new : Talk L) (b : Behind) → Went t old x new → Stands t old b → Gave x.searched → failure_of (told_of b old x) ≡ None
told_gave t old x new b w s g = no_failure x.searched (told_of b old x) g (w.by_directory b s.is s.quiet)

pub stands_on : {L : Type 0} (t : Telling L) (old : Talk L) (x : Exchange) (new : Talk L) (b : Behind) → Went t old x new → Stands t old b → Gave x.searched → Stands t new b
stands_on t old x new b w s g = record { is = w.behind ∙ s.is; quiet = (w.goes_on b s.is s.quiet (replies x.searched g)).settled }

-- a search that came to entries meets no limit
pub past_first : {L : Type 0} (t : Telling L) (old : Talk L) (x : Exchange) (new : Talk L) (b : Behind) (rest : List SearchValue) → Went t old x new → Stands t old b → Gave x.searched
    → first_failure b (length old.received) old.next (x.search ∷ rest) ≡ first_failure b (length new.received) new.next rest
past_first t old x new b rest w s g =
    let on = w.goes_on b s.is s.quiet (replies x.searched g) in
    ap (λ (f : Option Why). or_later f (first_failure b (length old.received + search_reply_size b old.next x.search) (old.next + 1) rest)) (told_gave t old x new b w s g)
    ∙ (ap (λ (n : ℕ). first_failure b n (old.next + 1) rest) (sym on.grown) ∙ ap (λ (n : ℕ). first_failure b (length new.received) n rest) (sym on.used))

pub record WalkedOn {L : Type 0} (t : Telling L) (old new : Talk L) (b : Behind) (searched rest : List SearchValue) : Type 0 where
  pub stands : Stands t new b
  pub same : first_failure b (length old.received) old.next (searched ++ rest) ≡ first_failure b (length new.received) new.next rest

pub walked : {L : Type 0} (t : Telling L) (old : Talk L) (xs : List Exchange) (new : Talk L) (b : Behind) (rest : List SearchValue) → Goes t old xs new → AllGave xs → Stands t old b → WalkedOn t old new b (searches_in xs) rest
walked {L} t old [] new b rest g gave s =
    record {
      stands = subst (λ (c : Talk L). Stands t c b) g s;
      same = ap (λ (c : Talk L). first_failure b (length c.received) c.next rest) g;
    }
walked t old (x ∷ xs) new b rest g gave s =
    let later = walked t g.0 xs new b rest g.2 gave.1 (stands_on t old x g.0 b g.1 s gave.0) in
    record { stands = later.stands; same = past_first t old x g.0 b (searches_in xs ++ rest) g.1 s gave.0 ∙ later.same }

-- ---- the last search

record Split {L : Type 0} (t : Telling L) (old : Talk L) (before : List Exchange) (x : Exchange) (new : Talk L) : Type 0 where
  between : Talk L
  front : Goes t old before between
  last : Went t between x new

split : {L : Type 0} (t : Telling L) (old : Talk L) (before : List Exchange) (x : Exchange) (new : Talk L) → Goes t old (before ++ x ∷ []) new → Split t old before x new
split {L} t old [] x new g = record { between = old; front = refl; last = subst (λ (c : Talk L). Went t old x c) g.2 g.1 }
split t old (y ∷ ys) x new g =
    let later = split t g.0 ys x new g.2 in
    record { between = later.between; front = (g.0, g.1, later.front); last = later.last }

-- a failure of the link: a send failed, or a receive, and then a limit where no byte is to come
unsent_link : (s : Searched) (rose refuses : Type 0) → s ≡ searches.Failed whys.Link → IsUnsearched s (rose × refuses) → refuses
unsent_link (searches.Failed why) rose refuses e h = h.1.1
unsent_link (searches.Entries given) rose refuses e h = absurd cc
unsent_link (searches.Code code) rose refuses e h = absurd cc
unsent_link searches.Memory rose refuses e h = absurd cc

sent_link : (s : Searched) (decision : Decision) (at : ℕ) (rose ends : Type 0) → s ≡ searches.Failed whys.Link → IsSearched s decision at (rose × ends) → ends
sent_link (searches.Failed whys.Link) decision at rose ends e h = h.0.1
sent_link (searches.Failed (whys.Bytes place)) decision at rose ends e h = absurd cc
sent_link (searches.Failed (whys.Message tag)) decision at rose ends e h = absurd cc
sent_link (searches.Failed (whys.Flood count)) decision at rose ends e h = absurd cc
sent_link (searches.Failed (whys.Code code)) decision at rose ends e h = absurd h
sent_link (searches.Entries given) decision at rose ends e h = absurd cc
sent_link (searches.Code code) decision at rose ends e h = absurd cc
sent_link searches.Memory decision at rose ends e h = absurd cc

unsent_code : (s : Searched) (code : ℕ) (rose : Type 0) → s ≡ searches.Failed (whys.Code code) → IsUnsearched s rose → ⊥
unsent_code (searches.Failed why) code rose e h = let f : whys.Code code ≡ whys.Link = (let same : why ≡ whys.Code code = cc in sym same ∙ h.0) in absurd cc
unsent_code (searches.Entries given) code rose e h = absurd cc
unsent_code (searches.Code result) code rose e h = absurd cc
unsent_code searches.Memory code rose e h = absurd cc

sent_code : (s : Searched) (code : ℕ) (decision : Decision) (at : ℕ) (rose : Type 0) → s ≡ searches.Failed (whys.Code code) → IsSearched s decision at rose → ⊥
sent_code (searches.Failed (whys.Code result)) code decision at rose e h = h
sent_code (searches.Failed whys.Link) code decision at rose e h = absurd cc
sent_code (searches.Failed (whys.Bytes place)) code decision at rose e h = absurd cc
sent_code (searches.Failed (whys.Message tag)) code decision at rose e h = absurd cc
sent_code (searches.Failed (whys.Flood count)) code decision at rose e h = absurd cc
sent_code (searches.Entries given) code decision at rose e h = absurd cc
sent_code (searches.Code result) code decision at rose e h = absurd cc
sent_code searches.Memory code decision at rose e h = absurd cc

told_failure : (s : Searched) (why : Why) (reply : ToldReply) → s ≡ searches.Failed why → IsToldSearch s reply → IsToldFailure why reply
told_failure s why reply e h = subst (λ (x : Searched). IsToldSearch x reply) e h

-- the first failure is that of a search, where it fails
pub is_first : (b : Behind) (count id : ℕ) (s : SearchValue) (rest : List SearchValue) (why : Why) → told_search b count id s ≡ told.failed why → first_failure b count id (s ∷ rest) ≡ Some why
is_first b count id s rest why e = ap (λ (r : ToldReply). or_later (failure_of r) (first_failure b (count + search_reply_size b id s) (id + 1) rest)) e

limit_by : {L : Type 0} (t : Telling L) (old : Talk L) (x : Exchange) (new : Talk L) (b : Behind) (rest : List SearchValue) (why : Why) → Went t old x new → Stands t old b → x.searched ≡ searches.Failed why
    → IsLimit why (first_failure b (length old.received) old.next (x.search ∷ rest)) (t.refuses new.link) (t.ends new.link) (t.coming new.link)
limit_by t old x new b rest whys.Link w s e = elim w.used [
  | inl same ↦ inl (unsent_link x.searched _ _ e (w.no_reply s.quiet.well same))
  | inr more ↦ inr (sent_link x.searched _ new.at _ _ e (w.reply more), λ none. is_first b (length old.received) old.next x.search rest whys.Link (w.ended b s.is s.quiet more none e))
]
limit_by t old x new b rest (whys.Bytes at) w s e = is_first b (length old.received) old.next x.search rest (whys.Bytes at) (told_failure x.searched (whys.Bytes at) (told_of b old x) e (w.by_directory b s.is s.quiet))
limit_by t old x new b rest (whys.Message tag) w s e = is_first b (length old.received) old.next x.search rest (whys.Message tag) (told_failure x.searched (whys.Message tag) (told_of b old x) e (w.by_directory b s.is s.quiet))
limit_by t old x new b rest (whys.Flood count) w s e = is_first b (length old.received) old.next x.search rest (whys.Flood count) (told_failure x.searched (whys.Flood count) (told_of b old x) e (w.by_directory b s.is s.quiet))
limit_by t old x new b rest (whys.Code code) w s e = elim w.used [
  | inl same ↦ absurd (unsent_code x.searched code _ e (w.no_reply s.quiet.well same))
  | inr more ↦ absurd (sent_code x.searched code _ new.at _ e (w.reply more))
]

abbrev IsLimitOf : {L : Type 0} → Telling L → Talk L → Talk L → Behind → Why → List SearchValue → Type 0
IsLimitOf t old new b why searched = IsLimit why (first_failure b (length old.received) old.next searched) (t.refuses new.link) (t.ends new.link) (t.coming new.link)

searches_last : (xs before : List Exchange) (s : SearchValue) (searched : Searched) (rest : List SearchValue) → xs ≡ before ++ record { search = s; searched = searched } ∷ []
    → searches_in before ++ s ∷ rest ≡ searches_in xs ++ rest
searches_last xs before s searched rest e =
    sym (append_assoc (searches_in before) (s ∷ []) rest)
    ∙ (ap (λ (ss : List SearchValue). ss ++ rest) (sym (map-append (λ (x : Exchange). x.search) before (record { search = s; searched = searched } ∷ [])))
    ∙ ap (λ (zs : List Exchange). searches_in zs ++ rest) (sym e))

-- the last search failed
pub walk_failed : {L : Type 0} (t : Telling L) (old : Talk L) (xs : List Exchange) (new : Talk L) (b : Behind) (rest : List SearchValue) (why : Why) → Goes t old xs new → Stands t old b → IsLast (searches.Failed why) xs
    → IsLimitOf t old new b why (searches_in xs ++ rest)
walk_failed {L} t old xs new b rest why g s last =
    let x : Exchange = record { search = last.search; searched = searches.Failed why } in
    let p = split t old last.before x new (subst (λ (zs : List Exchange). Goes t old zs new) last.are g) in
    let on = walked t old last.before p.between b (last.search ∷ rest) p.front last.gave s in
    subst (λ (f : Option Why). IsLimit why f (t.refuses new.link) (t.ends new.link) (t.coming new.link))
    (sym on.same ∙ ap (λ (ss : List SearchValue). first_failure b (length old.received) old.next ss) (searches_last xs last.before last.search (searches.Failed why) rest last.are))
    (limit_by t p.between x new b rest why p.last on.stands refl)

-- a code other than 32 never comes from a directory
answer_code : (all : List DirEntry) (s : SearchValue) (searched : Searched) (code : ℕ) → searched ≡ searches.Code code → IsAnswer all s searched → code ≡ 32
answer_code all s searched code e h = (subst (λ (x : Searched). IsAnswer all s x) e h).0

abbrev pub ArePlain : List SearchValue → Type 0
ArePlain [] = Unit {0}
ArePlain (s ∷ ss) = IsPlain s × ArePlain ss

plain_last : (ss : List SearchValue) (s : SearchValue) → ArePlain (ss ++ s ∷ []) → IsPlain s
plain_last [] s h = h.0
plain_last (x ∷ xs) s h = plain_last xs s h.1

pub walk_code : {L : Type 0} (t : Telling L) (old : Talk L) (xs : List Exchange) (new : Talk L) (b : Behind) (code : ℕ) → Goes t old xs new → Stands t old b → ArePlain (searches_in xs) → IsLast (searches.Code code) xs → code ≡ 32
walk_code {L} t old xs new b code g s plain last =
    let x : Exchange = record { search = last.search; searched = searches.Code code } in
    let p = split t old last.before x new (subst (λ (zs : List Exchange). Goes t old zs new) last.are g) in
    let on = walked t old last.before p.between b [] p.front last.gave s in
    let simple : IsPlain last.search = plain_last (searches_in last.before) last.search
    (subst ArePlain (ap searches_in last.are ∙ map-append (λ (y : Exchange). y.search) last.before (x ∷ [])) plain) in
    (answered b (length p.between.received) p.between.next last.search (searches.Code code) simple (p.last.by_directory b on.stands.is on.stands.quiet)).0
