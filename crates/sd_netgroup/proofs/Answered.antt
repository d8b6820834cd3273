-- What was asked over a link that tells the directory behind it, and its entries.
use Rattle.std.proofs.Common.{◌≡◌, ℕ, zero, suc, Bool, ◌||◌, List, [], ◌∷◌, ◌++◌, length, map, take, drop, slice_get, Option, Some, None, refl, sym, ap, ◌∙◌, subst, append-nil}
use Rattle.std.proofs.lemmas.Grind.{flat_map-append}
use Rattle.std.specs.List.{flat_map}
use Rattle.sd_ldap.specs.declared.entry.DirEntry.{DirEntry}
use Rattle.sd_ldap.specs.Values.{SearchValue}
use Rattle.sd_match.specs.Answering.{found, sent}
use Rattle.sd_dial.specs.Entries.{Behind}
use Rattle.sd_dial.specs.declared.searched.Searched.{Searched}
use Rattle.sd_dial.specs.declared.searched.Searched.TheVariants as searches
use Rattle.sd_client.specs.Talk.{Talk}
use Rattle.sd_nested.specs.Searches.{IsAnswer}
use Rattle.sd_fetch.specs.Exchanging.{Telling, Exchange, Went, Goes, Gave, AllGave}
use Rattle.sd_fetch.specs.Looked.{given_of}
use Rattle.sd_fetch.specs.Rounding as rounding
use Rattle.sd_fetch.proofs.Answers.{IsPlain, answered}
use Rattle.sd_fetch.proofs.Walk.{Stands, ArePlain, stands_on}
use Rattle.sd_netgroup.specs.Named.{named_in, members_of, texts_of}
use Rattle.sd_netgroup.specs.Searches.{net_search}
use Rattle.sd_netgroup.specs.Rounds.{with_names, Course, beginning, further, called_in, is_some, step_in, go_on_in, course_in, searches_in}
use Rattle.sd_netgroup.specs.Asking.{Query, exchange_of, exchanges_of, called_by, course_by, AreDue}
use Rattle.sd_netgroup.proofs.Names.{Grows, names_grow, grows_more}
use Rattle.sd_netgroup.proofs.Goings.{some_more}
use Rattle.sd_netgroup.proofs.Sent.{Says, says}

-- ---- what one search says

pub plain : (base name : List ℕ) → IsPlain (net_search base name)
plain base name = record { unlimited = refl; supported = refl }

pub all_plain : (base : List ℕ) (qs : List Query) → ArePlain (rounding.searches_in (exchanges_of base qs))
all_plain base [] = tt
all_plain base (q ∷ qs) = (plain base q.name, all_plain base qs)

given_sent : (all : List DirEntry) (s : SearchValue) (searched : Searched) → Gave searched → IsAnswer all s searched → given_of searched ≡ map (sent s) (found all s)
given_sent all s (searches.Entries given) g h = h
given_sent all s (searches.Code code) g h = ap (map (sent s)) (sym h.1)
given_sent all s (searches.Failed why) g h = absurd g
given_sent all s searches.Memory g h = absurd g

-- an answer says what the netgroups of the name say
abbrev pub SaysOf : List DirEntry → List ℕ → Query → Type 0
SaysOf entries base q = Says entries base q.name (called_by q)

says_of : {L : Type 0} (t : Telling L) (base : List ℕ) (old : Talk L) (q : Query) (new : Talk L) (b : Behind) → Went t old (exchange_of base q) new → Stands t old b → Gave q.searched → SaysOf b.entries base q
says_of t base old q new b w s g =
    subst (λ (es : List DirEntry). Says b.entries base q.name (called_in q.name es))
    (sym (given_sent b.entries (net_search base q.name) q.searched g (answered b (length old.received) old.next (net_search base q.name) q.searched (plain base q.name) (w.by_directory b s.is s.quiet))))
    (says b.entries base q.name)

abbrev pub AllSay : List DirEntry → List ℕ → List Query → Type 0
AllSay entries base [] = Unit {0}
AllSay entries base (q ∷ qs) = SaysOf entries base q × AllSay entries base qs

-- all but the last, whatever it came to
abbrev pub FirstSay : List DirEntry → List ℕ → List Query → Type 0
FirstSay entries base [] = Unit {0}
FirstSay entries base (q ∷ []) = Unit {0}
FirstSay entries base (q ∷ p ∷ ps) = SaysOf entries base q × FirstSay entries base (p ∷ ps)

pub all_say : {L : Type 0} (t : Telling L) (base : List ℕ) (old : Talk L) (qs : List Query) (new : Talk L) (b : Behind) → Goes t old (exchanges_of base qs) new → AllGave (exchanges_of base qs) → Stands t old b → AllSay b.entries base qs
all_say t base old [] new b g gave s = tt
all_say t base old (q ∷ qs) new b g gave s =
    (says_of t base old q g.0 b g.1 s gave.0, all_say t base g.0 qs new b g.2 gave.1 (stands_on t old (exchange_of base q) g.0 b g.1 s gave.0))

pub first_of_all : (entries : List DirEntry) (base : List ℕ) (qs : List Query) → AllSay entries base qs → FirstSay entries base qs
first_of_all entries base [] h = tt
first_of_all entries base (q ∷ []) h = tt
first_of_all entries base (q ∷ p ∷ ps) h = (h.0, first_of_all entries base (p ∷ ps) h.1)

too_few : (base : List ℕ) (q p : Query) (ps : List Query) (x : Exchange) → exchanges_of base (q ∷ p ∷ ps) ≡ [] ++ x ∷ [] → ⊥
too_few base q p ps x e = absurd (let f : exchange_of base p ∷ exchanges_of base ps ≡ [] = cc in cc)

pub first_say : {L : Type 0} (t : Telling L) (base : List ℕ) (old : Talk L) (qs : List Query) (new : Talk L) (b : Behind) (before : List Exchange) (x : Exchange)
    → Goes t old (exchanges_of base qs) new → exchanges_of base qs ≡ before ++ x ∷ [] → AllGave before → Stands t old b → FirstSay b.entries base qs
first_say t base old [] new b before x g e gave s = tt
first_say t base old (q ∷ []) new b before x g e gave s = tt
first_say t base old (q ∷ p ∷ ps) new b [] x g e gave s = absurd (too_few base q p ps x e)
first_say {L} t base old (q ∷ p ∷ ps) new b (y ∷ ys) x g e gave s =
    let same : exchange_of base q ≡ y = cc in
    let rest : exchanges_of base (p ∷ ps) ≡ ys ++ x ∷ [] = cc in
    let mine : Gave q.searched = subst (λ (z : Exchange). Gave z.searched) (sym same) gave.0 in
    (says_of t base old q g.0 b g.1 s mine, first_say t base g.0 (p ∷ ps) new b ys x g.2 rest gave.1 (stands_on t old (exchange_of base q) g.0 b g.1 s mine))

-- ---- the course by answers, and that in the entries

pub record Alike (c d : Course) : Type 0 where
  pub names : c.names ≡ d.names
  pub texts : flat_map texts_of c.found ≡ flat_map texts_of d.found
  pub some : is_some c.found ≡ is_some d.found

further_alike : (entries : List DirEntry) (base : List ℕ) (c d : Course) (q : Query) → Alike c d → SaysOf entries base q → Alike (further c (called_by q)) (further d (named_in entries base q.name))
further_alike entries base c d q a s = record {
  names = ap (λ (xs : List (List ℕ)). with_names xs (flat_map members_of (called_by q))) a.names ∙ ap (with_names d.names) s.members;
  texts = flat_map-append texts_of c.found (called_by q)
      ∙ (ap (λ (xs : List (List ℕ)). xs ++ flat_map texts_of (called_by q)) a.texts
      ∙ (ap (λ (xs : List (List ℕ)). flat_map texts_of d.found ++ xs) s.texts
      ∙ sym (flat_map-append texts_of d.found (named_in entries base q.name))));
  some = some_more c.found (called_by q)
      ∙ (ap (λ (b : Bool). b || is_some (called_by q)) a.some
      ∙ (ap (λ (b : Bool). is_some d.found || b) s.some
      ∙ sym (some_more d.found (named_in entries base q.name))));
}

next_alike : (entries : List DirEntry) (base : List ℕ) (c d : Course) (place : ℕ) (q : Query) → Alike c d → slice_get c.names place ≡ Some q.name → SaysOf entries base q → Alike (further c (called_by q)) (step_in entries base d (slice_get d.names place))
next_alike entries base c d place q a due s =
    subst (λ (o : Option (List ℕ)). Alike (further c (called_by q)) (step_in entries base d o)) (sym due ∙ ap (λ (xs : List (List ℕ)). slice_get xs place) a.names)
    (further_alike entries base c d q a s)

pub course_alike : (entries : List DirEntry) (base : List ℕ) (c d : Course) (place : ℕ) (qs : List Query) → Alike c d → AreDue c place qs → AllSay entries base qs → Alike (course_by c qs) (go_on_in entries base d place (length qs))
course_alike entries base c d place [] a due s = a
course_alike entries base c d place (q ∷ qs) a due s =
    course_alike entries base (further c (called_by q)) (step_in entries base d (slice_get d.names place)) (suc place) qs (next_alike entries base c d place q a due.0 s.0) due.1 s.1

-- ---- the names asked for

step_grows : (entries : List DirEntry) (base : List ℕ) (d : Course) (o : Option (List ℕ)) → Grows d.names (step_in entries base d o).names
step_grows entries base d None = record { more = []; are = sym (append-nil d.names) }
step_grows entries base d (Some name) = names_grow d.names (flat_map members_of (named_in entries base name))

rounds_grow : (entries : List DirEntry) (base : List ℕ) (d : Course) (place n : ℕ) → Grows d.names (go_on_in entries base d place n).names
rounds_grow entries base d place zero = record { more = []; are = sym (append-nil d.names) }
rounds_grow entries base d place (suc n) =
    grows_more d.names (step_in entries base d (slice_get d.names place)).names (go_on_in entries base (step_in entries base d (slice_get d.names place)) (suc place) n).names
    (step_grows entries base d (slice_get d.names place)) (rounds_grow entries base (step_in entries base d (slice_get d.names place)) (suc place) n)

dropped_at : (names more : List (List ℕ)) (place : ℕ) (name : List ℕ) → slice_get names place ≡ Some name → drop place (names ++ more) ≡ name ∷ drop (suc place) (names ++ more)
dropped_at [] more place name h = absurd (let e : None ≡ Some name = h in cc)
dropped_at (n ∷ ns) more zero name h = ap (λ (m : List ℕ). m ∷ (ns ++ more)) (let e : Some n ≡ Some name = h in cc)
dropped_at (n ∷ ns) more (suc place) name h = dropped_at ns more place name h

got_later : (names grown : List (List ℕ)) (place : ℕ) (name : List ℕ) → Grows names grown → slice_get names place ≡ Some name → drop place grown ≡ name ∷ drop (suc place) grown
got_later names grown place name g h = subst (λ (xs : List (List ℕ)). drop place xs ≡ name ∷ drop (suc place) xs) (sym g.are) (dropped_at names g.more place name h)

abbrev pub names_of : List Query → List (List ℕ)
names_of qs = map (λ (q : Query). q.name) qs

pub names_asked : (entries : List DirEntry) (base : List ℕ) (c d : Course) (place : ℕ) (qs : List Query) → Alike c d → AreDue c place qs → FirstSay entries base qs → names_of qs ≡ take (length qs) (drop place (go_on_in entries base d place (length qs)).names)
names_asked entries base c d place [] a due s = refl
names_asked entries base c d place (q ∷ []) a due s =
    sym (ap (take 1) (got_later d.names (go_on_in entries base d place 1).names place q.name (rounds_grow entries base d place 1) (ap (λ (xs : List (List ℕ)). slice_get xs place) (sym a.names) ∙ due.0)))
names_asked entries base c d place (q ∷ p ∷ ps) a due s =
    let n : ℕ = length (p ∷ ps) in
    let rest : names_of (p ∷ ps) ≡ take (length (p ∷ ps)) (drop (suc place) (go_on_in entries base (step_in entries base d (slice_get d.names place)) (suc place) (length (p ∷ ps))).names) =
    names_asked entries base (further c (called_by q)) (step_in entries base d (slice_get d.names place)) (suc place) (p ∷ ps) (next_alike entries base c d place q a due.0 s.0) due.1 s.1 in
    ap (λ (xs : List (List ℕ)). q.name ∷ xs) rest
    ∙ sym (ap (take (suc (length (p ∷ ps)))) (got_later d.names (go_on_in entries base d place (suc (length (p ∷ ps)))).names place q.name (rounds_grow entries base d place (suc (length (p ∷ ps)))) (ap (λ (xs : List (List ℕ)). slice_get xs place) (sym a.names) ∙ due.0)))

searches_are : (base : List ℕ) (qs : List Query) → rounding.searches_in (exchanges_of base qs) ≡ map (net_search base) (names_of qs)
searches_are base [] = refl
searches_are base (q ∷ qs) = ap (λ (ss : List SearchValue). net_search base q.name ∷ ss) (searches_are base qs)

drop_none : (names : List (List ℕ)) → drop 0 names ≡ names
drop_none [] = refl
drop_none (n ∷ ns) = refl

-- the searches made are the first of those in the entries
pub searches_made : (entries : List DirEntry) (base name : List ℕ) (qs : List Query) → AreDue (beginning name) 0 qs → FirstSay entries base qs → rounding.searches_in (exchanges_of base qs) ≡ searches_in entries base name (length qs)
searches_made entries base name qs due s =
    searches_are base qs
    ∙ ap (map (net_search base)) (names_asked entries base (beginning name) (beginning name) 0 qs (record { names = refl; texts = refl; some = refl }) due s
    ∙ ap (take (length qs)) (drop_none (course_in entries base name (length qs)).names))
