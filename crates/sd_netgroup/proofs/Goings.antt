-- Rounds put together.
use Rattle.std.proofs.Common.{◌≡◌, ℕ, zero, suc, ◌+◌, ◌≤◌, Bool, true, false, ◌||◌, List, [], ◌∷◌, ◌++◌, length, slice_get, Some, None, Result, Ok, Err, refl, sym, ap, ◌∙◌, subst, inl, inr, arith}
use Rattle.std.proofs.lemmas.List.{map-append}
use Rattle.std.proofs.lemmas.Grind.{flat_map-append}
use Rattle.std.specs.List.{flat_map}
use Rattle.sd_ldap.specs.declared.entry.DirEntry.{DirEntry}
use Rattle.sd_dial.specs.declared.searched.Searched.{Searched}
use Rattle.sd_dial.specs.declared.searched.Searched.TheVariants as searches
use Rattle.sd_client.specs.Talk.{Talk}
use Rattle.sd_nested.specs.declared.searcher.Stop.{Stop}
use Rattle.sd_nested.specs.declared.searcher.Stop.TheVariants as stops
use Rattle.sd_nested.specs.Directions.{HandsOn}
use Rattle.sd_fetch.specs.Exchanging.{Telling, Exchange, Went, Goes, Gave, AllGave, IsLast}
use Rattle.sd_fetch.specs.Looked.{given_of}
use Rattle.sd_fetch.proofs.Exchanges.{no_zero}
use Rattle.sd_netgroup.specs.declared.finds.Finds.{Finds}
use Rattle.sd_netgroup.specs.Named.{members_of, texts_of, spelled_by}
use Rattle.sd_netgroup.specs.Order.{with_triples}
use Rattle.sd_netgroup.specs.Rounds.{with_names, Course, beginning, further, called_in, is_some}
use Rattle.sd_netgroup.specs.Searches.{net_search}
use Rattle.sd_netgroup.specs.Asking.{Query, exchange_of, exchanges_of, called_by, course_by, AreDue, EndsBy}
use Rattle.sd_netgroup.specs.Stepping.{Heard, Tried, Shows, Takes, EndsAs, AskedFor, Steps, Going, Gathered}
use Rattle.sd_netgroup.proofs.Folding.{spelled_more}

-- ---- one search more

goes_more : {L : Type 0} (t : Telling L) (a b c : Talk L) (xs : List Exchange) (x : Exchange) → Goes t a xs b → Went t b x c → Goes t a (xs ++ x ∷ []) c
goes_more {L} t a b c [] x g w = (c, subst (λ (s : Talk L). Went t s x c) (sym g) w, refl)
goes_more t a b c (y ∷ ys) x g w = (g.0, g.1, goes_more t g.0 b c ys x g.2 w)

gave_more : (xs : List Exchange) (x : Exchange) → AllGave xs → Gave x.searched → AllGave (xs ++ x ∷ [])
gave_more [] x g h = (h, tt)
gave_more (y ∷ ys) x g h = (g.0, gave_more ys x g.1 h)

course_more : (c : Course) (qs : List Query) (q : Query) → course_by c (qs ++ q ∷ []) ≡ further (course_by c qs) (called_by q)
course_more c [] q = refl
course_more c (p ∷ ps) q = course_more (further c (called_by p)) ps q

due_more : (c : Course) (place : ℕ) (qs : List Query) (q : Query) → AreDue c place qs → slice_get (course_by c qs).names (place + length qs) ≡ Some q.name → AreDue c place (qs ++ q ∷ [])
due_more c place [] q d h = (subst (λ (n : ℕ). slice_get c.names n ≡ Some q.name) (let e : place + 0 ≡ place = omega arith in e) h, tt)
due_more c place (p ∷ ps) q d h =
    (d.0, due_more (further c (called_by p)) (suc place) ps q d.1 (subst (λ (n : ℕ). slice_get (course_by (further c (called_by p)) ps).names n ≡ Some q.name) (let e : place + suc (length ps) ≡ suc place + length ps = omega arith in e) h))

exchanges_more : (base : List ℕ) (qs : List Query) (q : Query) → exchanges_of base (qs ++ q ∷ []) ≡ exchanges_of base qs ++ exchange_of base q ∷ []
exchanges_more base qs q = map-append (exchange_of base) qs (q ∷ [])

length_more : (qs : List Query) (q : Query) → length (qs ++ q ∷ []) ≡ suc (length qs)
length_more [] q = refl
length_more (p ∷ ps) q = ap suc (length_more ps q)

-- ---- what was found

pub some_more : (a b : List DirEntry) → is_some (a ++ b) ≡ (is_some a || is_some b)
some_more [] b = refl
some_more (e ∷ es) b = refl

shows_more : (old new : Finds) (c : Course) (found : List DirEntry) → Shows old c → Takes old found new → Shows new (further c found)
shows_more old new c found s t = record {
  names = t.names ∙ ap (λ (xs : List (List ℕ)). with_names xs (flat_map members_of found)) s.names;
  triples = t.triples
      ∙ (ap (λ ts. with_triples ts (spelled_by (flat_map texts_of found))) s.triples
      ∙ (sym (spelled_more [] (flat_map texts_of c.found) (flat_map texts_of found))
      ∙ ap (λ (xs : List (List ℕ)). with_triples [] (spelled_by xs)) (sym (flat_map-append texts_of c.found found))));
  some = t.some ∙ (ap (λ (b : Bool). b || is_some found) s.some ∙ sym (some_more c.found found));
}

-- ---- steps

module _ {L : Type 0} (t : Telling L) (base name : List ℕ) (place : ℕ) (finds : Finds) (old now : Talk L) (g : Going t base name place finds old now) where
  -- the next name is due
  next_due : (new : Talk L) (a : AskedFor t base finds.names.keys place now new) → AreDue (beginning name) 0 (g.queries ++ a.query ∷ [])
  next_due new a =
      due_more (beginning name) 0 g.queries a.query g.due
      (subst (λ (n : ℕ). slice_get (course_by (beginning name) g.queries).names n ≡ Some a.query.name) (sym g.count ∙ (let e : length g.queries ≡ 0 + length g.queries = omega arith in e))
      (subst (λ (xs : List (List ℕ)). slice_get xs place ≡ Some a.query.name) g.shows.names a.due))

  next_goes : (new : Talk L) (a : AskedFor t base finds.names.keys place now new) → Goes t old (exchanges_of base (g.queries ++ a.query ∷ [])) new
  next_goes new a = subst (λ (xs : List Exchange). Goes t old xs new) (sym (exchanges_more base g.queries a.query)) (goes_more t old now new (exchanges_of base g.queries) (exchange_of base a.query) g.in_order a.went)

  pub gone_on : (finds' : Finds) (new : Talk L) → Steps t base place finds now (Ok true) finds' new → Going t base name (place + 1) finds' old new
  gone_on finds' new s =
      let a = s.0 in
      record {
        queries = g.queries ++ a.query ∷ [];
        in_order = next_goes new a;
        gave = subst AllGave (sym (exchanges_more base g.queries a.query)) (gave_more (exchanges_of base g.queries) (exchange_of base a.query) g.gave s.1);
        due = next_due new a;
        count = length_more g.queries a.query ∙ (let e : suc (length g.queries) ≡ place + 1 = omega (arith, g.count) in e);
        shows = subst (λ (c : Course). Shows finds' c) (sym (course_more (beginning name) g.queries a.query)) (shows_more finds finds' (course_by (beginning name) g.queries) (called_by a.query) g.shows s.2);
      }

  none_more : (names : List (List ℕ)) (n : ℕ) → slice_get names n ≡ None → length names ≤ n
  none_more [] n h = omega arith
  none_more (m ∷ ms) zero h = absurd (let e : Some m ≡ None = h in cc)
  none_more (m ∷ ms) (suc n) h = let e : length ms ≤ n = none_more ms n h in omega (arith, e)

  pub all_gathered : (finds' : Finds) (new : Talk L) → Steps t base place finds now (Ok false) finds' new → Gathered t base name old (Ok finds') new
  all_gathered finds' new s =
      let c : Course = course_by (beginning name) g.queries in
      let none : slice_get (course_by (beginning name) g.queries).names place ≡ None = subst (λ (xs : List (List ℕ)). slice_get xs place ≡ None) g.shows.names s.0 in
      record {
        queries = g.queries;
        in_order = subst (λ (talk : Talk L). Goes t old (exchanges_of base g.queries) talk) (sym s.2) g.in_order;
        due = g.due;
        ends = g.gave;
        shows = (
          subst (λ (f : Finds). Shows f (course_by (beginning name) g.queries)) (sym s.1) g.shows,
          subst (λ (n : ℕ). length (course_by (beginning name) g.queries).names ≤ n) (sym g.count) (none_more (course_by (beginning name) g.queries).names place none),
        );
      }

  last_of : (q : Query) (searched : Searched) → q.searched ≡ searched → IsLast searched (exchanges_of base (g.queries ++ q ∷ []))
  last_of q searched e = record {
    before = exchanges_of base g.queries;
    search = net_search base q.name;
    are = exchanges_more base g.queries q ∙ ap (λ (s : Searched). exchanges_of base g.queries ++ record { search = net_search base q.name; searched = s } ∷ []) e;
    gave = g.gave;
  }

  ends_last : (stop : Stop) (q : Query) → EndsAs stop q.searched → EndsBy (Some stop) (exchanges_of base (g.queries ++ q ∷ []))
  ends_last (stops.Code code) q e = (e.0, e.1, last_of q (searches.Code code) e.2)
  ends_last (stops.Failed why) q e = last_of q (searches.Failed why) e
  ends_last stops.Memory q e = tt

  -- memory was wanting before the next search
  pub starved : Gathered t base name old (Err stops.Memory) now
  starved = record { queries = g.queries; in_order = g.in_order; due = g.due; ends = tt; shows = tt }

  pub stopped : (stop : Stop) (finds' : Finds) (new : Talk L) → Steps t base place finds now (Err stop) finds' new → Gathered t base name old (Err stop) new
  stopped stop finds' new (inl s) = record {
    queries = g.queries ++ s.0.query ∷ [];
    in_order = next_goes new s.0;
    due = next_due new s.0;
    ends = ends_last stop s.0.query s.1;
    shows = tt;
  }
  stopped stop finds' new (inr s) =
      subst (λ (talk : Talk L). Gathered t base name old (Err stop) talk) (sym s.1)
      (subst (λ (x : Stop). Gathered t base name old (Err x) now) (sym s.0) starved)

pub at_first : {L : Type 0} (t : Telling L) (base name : List ℕ) (finds : Finds) (talk : Talk L) → finds.names.keys ≡ name ∷ [] → finds.triples.keys ≡ [] → finds.is_some ≡ false → Going t base name 0 finds talk talk
at_first t base name finds talk n e s = record { queries = []; in_order = refl; gave = tt; due = tt; count = refl; shows = record { names = n; triples = e; some = s } }

-- nothing was asked
pub unasked : {L : Type 0} (t : Telling L) (base name : List ℕ) (talk : Talk L) → Gathered t base name talk (Err stops.Memory) talk
unasked t base name talk = record { queries = []; in_order = refl; due = tt; ends = tt; shows = tt }

-- ---- one step

ends_hands : {L : Type 0} (t : Telling L) (old : Talk L) (x : Exchange) (new : Talk L) (stop : Stop) → Went t old x new → HandsOn (Err stop) x.searched → EndsAs stop x.searched
ends_hands {L} t old x new (stops.Code code) w h = (λ z. no_zero t old x new w (h.0 ∙ ap searches.Code z), h.1, h.0)
ends_hands t old x new (stops.Failed why) w h = h
ends_hands t old x new stops.Memory w h = tt

gave_hands : (given : List DirEntry) (s : Searched) → HandsOn (Ok given) s → Gave s × (given ≡ given_of s)
gave_hands given (searches.Entries entries) h = (tt, h)
gave_hands given (searches.Code code) h = (h.0, h.1)
gave_hands given (searches.Failed why) h = absurd h
gave_hands given searches.Memory h = absurd h

abbrev asked_for : {L : Type 0} (t : Telling L) (base name : List ℕ) (names : List (List ℕ)) (place : ℕ) (old new : Talk L) (result : Result (List DirEntry) Stop) → Some name ≡ slice_get names place → Heard t base name old result new → AskedFor t base names place old new
asked_for t base name names place old new result due h = record { query = record { name = name; searched = h.searched }; due = sym due; went = h.went }

pub step_on : {L : Type 0} (t : Telling L) (base name : List ℕ) (place : ℕ) (finds finds' : Finds) (old new : Talk L) (given : List DirEntry) → Some name ≡ slice_get finds.names.keys place → Tried t base name old (Ok given) new → Takes finds (called_in name given) finds'
    → Steps t base place finds old (Ok true) finds' new
step_on t base name place finds finds' old new given due (inl h) takes =
    let g = gave_hands given h.searched h.hands in
    (asked_for t base name finds.names.keys place old new (Ok given) due h, g.0, subst (λ (es : List DirEntry). Takes finds (called_in name es) finds') g.1 takes)
step_on t base name place finds finds' old new given due (inr n) takes = absurd (let e : Ok given ≡ Err stops.Memory = n.0 in cc)

pub step_stopped : {L : Type 0} (t : Telling L) (base name : List ℕ) (place : ℕ) (finds finds' : Finds) (old new : Talk L) (stop : Stop) → Some name ≡ slice_get finds.names.keys place → Tried t base name old (Err stop) new → Steps t base place finds old (Err stop) finds' new
step_stopped t base name place finds finds' old new stop due (inl h) = inl (asked_for t base name finds.names.keys place old new (Err stop) due h, ends_hands t old (record { search = net_search base name; searched = h.searched }) new stop h.went h.hands)
step_stopped t base name place finds finds' old new stop due (inr n) = inr (let e : stop ≡ stops.Memory = (let f : Err stop ≡ Err stops.Memory = n.0 in cc) in e, n.1)

-- memory was wanting when the entries were taken
pub step_starved : {L : Type 0} (t : Telling L) (base name : List ℕ) (place : ℕ) (finds finds' : Finds) (old new : Talk L) (given : List DirEntry) → Some name ≡ slice_get finds.names.keys place → Tried t base name old (Ok given) new → Steps t base place finds old (Err stops.Memory) finds' new
step_starved t base name place finds finds' old new given due (inl h) = inl (asked_for t base name finds.names.keys place old new (Ok given) due h, tt)
step_starved t base name place finds finds' old new given due (inr n) = absurd (let e : Ok given ≡ Err stops.Memory = n.0 in cc)
