-- What the searches of a lookup ask on their link, and the fault behind a link that fell.
use Rattle.std.proofs.Common.{◌≡◌, ◌∙◌, ◌⊎◌, ℕ, ◌+◌, ◌≤◌, List, [], ◌∷◌, ◌++◌, length, Option, Some, None, refl, sym, ap, subst, inl, inr, append_assoc, append-nil, arith}
use Rattle.std.specs.Prelude.{IfSome, IsSome}
use Rattle.std.specs.Io.KnownBytes.{append_known}
use Rattle.sd_base.specs.Causes.{Rose}
use Rattle.sd_base.specs.declared.Why.{Why}
use Rattle.sd_base.specs.declared.Why.TheVariants as whys
use Rattle.sd_rules.specs.declared.keys.Key.{Key}
use Rattle.sd_rules.specs.declared.tasks.Bound.{Bound}
use Rattle.sd_rules.specs.declared.tasks.Bound.TheVariants as bounds
use Rattle.sd_rules.specs.declared.tasks.Fetched.{Fetched}
use Rattle.sd_rules.specs.declared.tasks.Fetched.TheVariants as fetches
use Rattle.sd_conf.specs.declared.config.Config.{Config}
use Rattle.sd_ldap.specs.Values.{MessageValue}
use Rattle.sd_dial.specs.Asked.{with_message}
use Rattle.sd_dial.specs.Entries.{Behind}
use Rattle.sd_dial.specs.declared.searched.Searched.{Searched}
use Rattle.sd_dial.specs.declared.searched.Searched.TheVariants as searches
use Rattle.sd_client.specs.declared.step.Request.TheVariants as requests
use Rattle.sd_client.specs.Deciding.{Decision, decided}
use Rattle.sd_client.specs.Talk.{Talk, IsSearched, IsUnsearched, IsBound, IsUnbound, bind_message, unbind_message, failure_by_search, failure_by_bind}
use Rattle.sd_asking.specs.Settled.{IsSettled}
use Rattle.sd_asking.specs.Binding.{told_bind, IsToldBind}
use Rattle.sd_fetch.specs.Exchanging.{Telling, Exchange, Went, Goes, Gave, AllGave, IsLast, EndsBy, FailedBy, request_of}
use Rattle.sd_fetch.specs.Looked.{Looked, BeginsBy, Answers}
use Rattle.sd_fetch.specs.Told.{IsToldLookup, searches_of, first_failure}
use Rattle.sd_fetch.specs.Lookup.{looked_up}
use Rattle.sd_dial.specs.Operations.{Operation}
use Rattle.sd_engine.specs.Binds as bind_parts
use Rattle.sd_engine.specs.Binds.{IsUnsentBind, BindAsked, BindOperations, BindsOver}
use Rattle.sd_engine.specs.Lookups as lookup_parts
use Rattle.sd_engine.specs.Lookups.{AreAsked, LookupAsked, LookupOperations, LooksOver, IsToldFetch, MayUnbind, failure_of, or_failure, with_messages}
use Rattle.sd_engine.specs.Received.{DecidesSearch, DecidesBind}
use Rattle.sd_engine.proofs.Faults.{rose_earlier, rose_later}
use Rattle.sd_engine.proofs.Receiving.{Grew, grew_nothing, grew_more, went_grew, searched_on, searched_by, bound_by, unsearched_by}

with_none : (known : Option (List MessageValue)) → known ≡ with_messages known []
with_none None = refl
with_none (Some messages) = ap Some (sym (append-nil messages))

with_first : (known : Option (List MessageValue)) (m : MessageValue) (rest : List MessageValue) → with_messages (with_message known m) rest ≡ with_messages known (m ∷ rest)
with_first None m rest = refl
with_first (Some messages) m rest = ap Some (append_assoc messages (m ∷ []) rest)

-- a client that was just made
abbrev pub fresh : {L : Type 0} → L → Talk L
fresh line = record { link = line; received = []; at = 0; next = 1; failed = None }

pub with_both : (known : Option (List MessageValue)) (first rest : List MessageValue) → with_messages (with_messages known first) rest ≡ with_messages known (first ++ rest)
with_both None first rest = refl
with_both (Some messages) first rest = ap Some (append_assoc messages first rest)

-- ---- what is asked up to the first failure, behind which nothing is sent

gave_well : (s : Searched) → Gave s → failure_by_search s ≡ None
gave_well (searches.Entries given) h = refl
gave_well (searches.Code code) h = refl
gave_well (searches.Failed why) h = absurd h
gave_well searches.Memory h = absurd h

abbrev pub where_well : Option Why → List Exchange → List Exchange
where_well None xs = xs
where_well (Some why) xs = []

abbrev pub up_to_failure : List Exchange → List Exchange
up_to_failure [] = []
up_to_failure (x ∷ xs) = x ∷ where_well (failure_by_search x.searched) (up_to_failure xs)

well_whole : (failure : Option Why) (xs : List Exchange) → failure ≡ None → where_well failure xs ≡ xs
well_whole failure xs e = ap (λ (o : Option Why). where_well o xs) e

none_left : (failure : Option Why) → where_well failure [] ≡ []
none_left None = refl
none_left (Some why) = refl

all_whole : (xs : List Exchange) → AllGave xs → up_to_failure xs ≡ xs
all_whole [] h = refl
all_whole (x ∷ xs) h = ap (λ (ys : List Exchange). x ∷ ys) (well_whole (failure_by_search x.searched) (up_to_failure xs) (gave_well x.searched h.0) ∙ all_whole xs h.1)

last_whole : (before : List Exchange) (y : Exchange) → AllGave before → up_to_failure (before ++ y ∷ []) ≡ before ++ y ∷ []
last_whole [] y h = ap (λ (ys : List Exchange). y ∷ ys) (none_left (failure_by_search y.searched))
last_whole (x ∷ before) y h =
    ap (λ (ys : List Exchange). x ∷ ys) (well_whole (failure_by_search x.searched) (up_to_failure (before ++ y ∷ [])) (gave_well x.searched h.0) ∙ last_whole before y h.1)

is_last_whole : (s : Searched) (xs : List Exchange) → IsLast s xs → up_to_failure xs ≡ xs
is_last_whole s xs l = ap up_to_failure l.are ∙ last_whole l.before (record { search = l.search; searched = s }) l.gave ∙ sym l.are

-- that is all, but where memory was wanting
whole : (f : Fetched) (xs : List Exchange) → EndsBy f xs → (f ≡ fetches.Memory) ⊎ (up_to_failure xs ≡ xs)
whole (fetches.Found found) xs h = inr (all_whole xs h)
whole fetches.Absent xs h = inr (all_whole xs h)
whole (fetches.Many count) xs h = inr (all_whole xs h)
whole (fetches.Refused code) xs h = inr (is_last_whole (searches.Code code) xs h.1)
whole (fetches.Failed why) xs h = inr (elim h [ inl last ↦ is_last_whole (searches.Failed why) xs last | inr code ↦ is_last_whole (searches.Code code.0) xs code.3 ])
whole fetches.Memory xs h = inl refl

begins_alike : (config : Config) (key : Key) (f : Fetched) (xs : List Exchange) → BeginsBy config key xs f → BeginsBy config key (up_to_failure xs) f
begins_alike config key f [] h = h
begins_alike config key f (x ∷ xs) h = h

ends_alike : (f : Fetched) (xs : List Exchange) → EndsBy f xs → EndsBy f (up_to_failure xs)
ends_alike f xs h = elim (whole f xs h) [
  | inl starved ↦ subst (λ (g : Fetched). EndsBy g (up_to_failure xs)) (sym starved) tt
  | inr same ↦ subst (EndsBy f) (sym same) h
]

answers_alike : (config : Config) (key : Key) (f : Fetched) (xs : List Exchange) → EndsBy f xs → Answers config key xs f → Answers config key (up_to_failure xs) f
answers_alike config key f xs h answers = elim (whole f xs h) [
  | inl starved ↦ subst (λ (g : Fetched). Answers config key (up_to_failure xs) g) (sym starved) tt
  | inr same ↦ subst (λ (ys : List Exchange). Answers config key ys f) (sym same) answers
]

-- a client that has failed stays as it is
stuck : {L : Type 0} (t : Telling L) (old : Talk L) (exchanges : List Exchange) (new : Talk L) (why : Why) → old.failed ≡ Some why → Goes t old exchanges new → new ≡ old
stuck {L} t old [] new why failed goes = sym goes
stuck {L} t old (x ∷ xs) new why failed goes =
    let same : goes.0 ≡ old = (subst (λ (o : Option Why). IfSome o (λ why. (x.searched ≡ searches.Failed why) × (goes.0 ≡ old))) failed goes.1.again).1 in
    stuck t goes.0 xs new why (ap (λ (talk : Talk L). talk.failed) same ∙ failed) goes.2 ∙ same

-- what exchanges ask along a link, and what comes over it
pub record Along {L : Type 0} (t : Telling L) (old : Talk L) (exchanges : List Exchange) (new : Talk L) : Type 0 where
  pub messages : List MessageValue
  pub sent : AreAsked new.received old.next old.at (up_to_failure exchanges) messages new.next
  pub told : t.asked new.link ≡ with_messages (t.asked old.link) messages
  pub grew : Grew old.received new.received (t.received old.link) (t.received new.link)
  pub fails : new.failed ≡ failure_of (up_to_failure exchanges)

-- how a client has failed by the first search, or by those behind it
fails_on : (x : Exchange) (xs : List Exchange) (failed : Option Why) → failure_by_search x.searched ≡ None → failed ≡ failure_of (up_to_failure xs) → failed ≡ failure_of (up_to_failure (x ∷ xs))
fails_on x xs failed fine rest = subst (λ (o : Option Why). failed ≡ or_failure o (failure_of (where_well o (up_to_failure xs)))) (sym fine) rest

fails_here : (x : Exchange) (xs : List Exchange) (failed : Option Why) (why : Why) → failure_by_search x.searched ≡ Some why → failed ≡ Some why → failed ≡ failure_of (up_to_failure (x ∷ xs))
fails_here x xs failed why fails is = subst (λ (o : Option Why). failed ≡ or_failure o (failure_of (where_well o (up_to_failure xs)))) (sym fails) is

-- a search that did not fail, and those behind it
on_unsent : {L : Type 0} (t : Telling L) (old between new : Talk L) (x : Exchange) (xs : List Exchange) → Went t old x between → old.failed ≡ None → failure_by_search x.searched ≡ None → between.next ≡ old.next → Along t between xs new → Along t old (x ∷ xs) new
on_unsent t old between new x xs w well fine same rest = record {
  messages = rest.messages;
  sent =
      subst (λ (o : Option Why). AreAsked new.received old.next old.at (x ∷ where_well o (up_to_failure xs)) rest.messages new.next) (sym fine)
      (between.at, inr (unsearched_by x.searched _ (w.no_reply well same), subst (λ (id : ℕ). AreAsked new.received id between.at (up_to_failure xs) rest.messages new.next) same rest.sent));
  told = rest.told ∙ ap (λ (known : Option (List MessageValue)). with_messages known rest.messages) (w.unsent same).asked;
  grew = grew_more old.received between.received new.received (t.received old.link) (t.received between.link) (t.received new.link) (went_grew t old x between w) rest.grew;
  fails = fails_on x xs new.failed fine rest.fails;
}

decides_on : {L : Type 0} (t : Telling L) (old between new : Talk L) (x : Exchange) → Went t old x between → failure_by_search x.searched ≡ None → between.next ≡ old.next + 1 → Grew between.received new.received (t.received between.link) (t.received new.link)
    → DecidesSearch new.received old.next old.at x.searched between.at
decides_on t old between new x w fine more grew =
    subst (λ (bytes : List ℕ). DecidesSearch bytes old.next old.at x.searched between.at) (sym grew.grown)
    (searched_on x.searched old.next old.at between.at between.received grew.bytes _ fine (w.reply more))

on_sent : {L : Type 0} (t : Telling L) (old between new : Talk L) (x : Exchange) (xs : List Exchange) → Went t old x between → failure_by_search x.searched ≡ None → between.next ≡ old.next + 1 → Along t between xs new → Along t old (x ∷ xs) new
on_sent t old between new x xs w fine more rest = record {
  messages = request_of old x ∷ rest.messages;
  sent =
      subst (λ (o : Option Why). AreAsked new.received old.next old.at (x ∷ where_well o (up_to_failure xs)) (request_of old x ∷ rest.messages) new.next) (sym fine)
      (between.at, inl (rest.messages, refl, decides_on t old between new x w fine more rest.grew, subst (λ (id : ℕ). AreAsked new.received id between.at (up_to_failure xs) rest.messages new.next) more rest.sent));
  told =
      rest.told ∙ ap (λ (known : Option (List MessageValue)). with_messages known rest.messages) (w.asked more).asked
      ∙ with_first (t.asked old.link) (request_of old x) rest.messages;
  grew = grew_more old.received between.received new.received (t.received old.link) (t.received between.link) (t.received new.link) (went_grew t old x between w) rest.grew;
  fails = fails_on x xs new.failed fine rest.fails;
}

-- a search that failed is the last
fails_unsent : {L : Type 0} (t : Telling L) (old new : Talk L) (x : Exchange) (xs : List Exchange) (why : Why) → Went t old x new → old.failed ≡ None → failure_by_search x.searched ≡ Some why → new.next ≡ old.next → Along t old (x ∷ xs) new
fails_unsent t old new x xs why w well fails same = record {
  messages = [];
  sent =
      subst (λ (o : Option Why). AreAsked new.received old.next old.at (x ∷ where_well o (up_to_failure xs)) [] new.next) (sym fails)
      (new.at, inr (unsearched_by x.searched _ (w.no_reply well same), (refl, same)));
  told = (w.unsent same).asked ∙ with_none (t.asked old.link);
  grew = went_grew t old x new w;
  fails = fails_here x xs new.failed why fails (w.fails well ∙ fails);
}

fails_sent : {L : Type 0} (t : Telling L) (old new : Talk L) (x : Exchange) (xs : List Exchange) (why : Why) → Went t old x new → old.failed ≡ None → failure_by_search x.searched ≡ Some why → new.next ≡ old.next + 1 → Along t old (x ∷ xs) new
fails_sent t old new x xs why w well fails more = record {
  messages = request_of old x ∷ [];
  sent =
      subst (λ (o : Option Why). AreAsked new.received old.next old.at (x ∷ where_well o (up_to_failure xs)) (request_of old x ∷ []) new.next) (sym fails)
      (new.at, inl ([], refl, searched_by x.searched (decided requests.Search old.next old.at new.received) new.at _ (w.reply more), (refl, more)));
  told = (w.asked more).asked;
  grew = went_grew t old x new w;
  fails = fails_here x xs new.failed why fails (w.fails well ∙ fails);
}

fails_last : {L : Type 0} (t : Telling L) (old new : Talk L) (x : Exchange) (xs : List Exchange) (why : Why) → Went t old x new → old.failed ≡ None → failure_by_search x.searched ≡ Some why → Along t old (x ∷ xs) new
fails_last t old new x xs why w well fails = elim w.used [
  | inl same ↦ fails_unsent t old new x xs why w well fails same
  | inr more ↦ fails_sent t old new x xs why w well fails more
]

goes_on : {L : Type 0} (t : Telling L) (old between new : Talk L) (x : Exchange) (xs : List Exchange) → Went t old x between → old.failed ≡ None → failure_by_search x.searched ≡ None → Along t between xs new → Along t old (x ∷ xs) new
goes_on t old between new x xs w well fine rest = elim w.used [
  | inl same ↦ on_unsent t old between new x xs w well fine same rest
  | inr more ↦ on_sent t old between new x xs w fine more rest
]

by_failure : {L : Type 0} (t : Telling L) (old between new : Talk L) (x : Exchange) (xs : List Exchange) (failure : Option Why) → Went t old x between → Goes t between xs new → old.failed ≡ None → failure_by_search x.searched ≡ failure
    → (between.failed ≡ None → Along t between xs new) → Along t old (x ∷ xs) new
by_failure {L} t old between new x xs None w goes well is rest = goes_on t old between new x xs w well is (rest (w.fails well ∙ is))
by_failure {L} t old between new x xs (Some why) w goes well is rest =
    subst (λ (talk : Talk L). Along t old (x ∷ xs) talk) (sym (stuck t between xs new why (w.fails well ∙ is) goes)) (fails_last t old between x xs why w well is)

pub along : {L : Type 0} (t : Telling L) (old : Talk L) (exchanges : List Exchange) (new : Talk L) → old.failed ≡ None → Goes t old exchanges new → Along t old exchanges new
along {L} t old [] new well goes = record {
  messages = [];
  sent = (refl, sym (ap (λ (talk : Talk L). talk.next) goes));
  told = sym (ap (λ (talk : Talk L). t.asked talk.link) goes) ∙ with_none (t.asked old.link);
  grew = grew_nothing old.received new.received (t.received old.link) (t.received new.link) (sym (ap (λ (talk : Talk L). talk.received) goes)) (sym (ap (λ (talk : Talk L). t.received talk.link) goes));
  fails = sym (ap (λ (talk : Talk L). talk.failed) goes) ∙ well;
}
along {L} t old (x ∷ xs) new well goes = by_failure t old goes.0 new x xs (failure_by_search x.searched) goes.1 goes.2 well refl (λ fine. along t goes.0 xs new fine goes.2)

-- ---- faults

pub goes_later : {L : Type 0} (t : Telling L) (old : Talk L) (exchanges : List Exchange) (new : Talk L) → Goes t old exchanges new → t.faults old.link ≤ t.faults new.link
goes_later t old [] new goes = subst (λ talk. t.faults old.link ≤ t.faults talk.link) goes (omega arith)
goes_later t old (x ∷ xs) new goes =
    let first = goes.1.later in
    let rest = goes_later t goes.0 xs new goes.2 in
    omega (arith, first, rest)

fallen_unsent : (s : Searched) (rose more : Type 0) → s ≡ searches.Failed whys.Link → IsUnsearched s (rose × more) → rose
fallen_unsent s rose more e h = (subst (λ (x : Searched). IsUnsearched x (rose × more)) e h).1.0

fallen_sent : (s : Searched) (decision : Decision) (at : ℕ) (rose more : Type 0) → s ≡ searches.Failed whys.Link → IsSearched s decision at (rose × more) → rose
fallen_sent s decision at rose more e h = (subst (λ (x : Searched). IsSearched x decision at (rose × more)) e h).0.0

fallen_by : {L : Type 0} (t : Telling L) (old : Talk L) (x : Exchange) (new : Talk L) → old.failed ≡ None → x.searched ≡ searches.Failed whys.Link → Went t old x new → Rose (t.faults old.link) (t.faults new.link)
fallen_by t old x new well e w = elim w.used [
  | inl same ↦ fallen_unsent x.searched _ _ e (w.no_reply well same)
  | inr more ↦ fallen_sent x.searched _ new.at _ _ e (w.reply more)
]

-- a link that fell with the last search has a fault more
fallen_last : {L : Type 0} (t : Telling L) (old : Talk L) (before : List Exchange) (x : Exchange) (new : Talk L) → old.failed ≡ None → AllGave before → x.searched ≡ searches.Failed whys.Link
    → Goes t old (before ++ x ∷ []) new → Rose (t.faults old.link) (t.faults new.link)
fallen_last t old [] x new well gave e goes =
    rose_later _ _ _ (goes_later t goes.0 [] new goes.2) (fallen_by t old x goes.0 well e goes.1)
fallen_last t old (y ∷ before) x new well gave e goes =
    rose_earlier _ _ _ goes.1.later
    (fallen_last t goes.0 before x new (goes.1.fails well ∙ gave_well y.searched gave.0) gave.1 e goes.2)

-- a lookup whose link fell counts a fault
pub fallen : {L : Type 0} (t : Telling L) (old : Talk L) (exchanges : List Exchange) (new : Talk L) → old.failed ≡ None → FailedBy whys.Link exchanges → Goes t old exchanges new → Rose (t.faults old.link) (t.faults new.link)
fallen t old exchanges new well by goes = elim by [
  | inl last ↦ fallen_last t old last.before (record { search = last.search; searched = searches.Failed whys.Link }) new well last.gave refl (subst (λ (xs : List Exchange). Goes t old xs new) last.are goes)
  | inr code ↦ absurd (no_code code.0 code.1)
]
  where
    no_code : (code : ℕ) → whys.Link ≡ whys.Code code → ⊥
    no_code code h = cc

-- ---- a lookup over a link that is then given back

with_unbind : (known between known' : Option (List MessageValue)) (first : List MessageValue) (m : MessageValue) → between ≡ with_messages known first → known' ≡ with_message between m → known' ≡ with_messages known (first ++ m ∷ [])
with_unbind known between known' first m e f = f ∙ ap (λ (o : Option (List MessageValue)). with_message o m) e ∙ with_both known first (m ∷ [])

without_unbind : (known between known' : Option (List MessageValue)) (first : List MessageValue) → between ≡ with_messages known first → known' ≡ between → known' ≡ with_messages known (first ++ [])
without_unbind known between known' first e f = f ∙ e ∙ ap (with_messages known) (sym (append-nil first))

-- what an unbind at the end leaves
abbrev pub Unbinds : Option Why → Type 0 → ℕ → Option (List MessageValue) → Option (List MessageValue) → Type 0
Unbinds (Some why) rose next between known' = known' ≡ between
Unbinds None rose next between known' = (known' ≡ with_message between (unbind_message next)) ⊎ (rose × (known' ≡ between))

-- what was asked, with what then unbinds
record Unbound (failed : Option Why) (rose : Type 0) (next : ℕ) (known known' : Option (List MessageValue)) (first : List MessageValue) : Type 0 where
  pub unbinds : List MessageValue
  pub may : MayUnbind failed rose next unbinds
  pub told : known' ≡ with_messages known (first ++ unbinds)

unbound_by : (failed : Option Why) (here rose : Type 0) (next : ℕ) (known between known' : Option (List MessageValue)) (first : List MessageValue) → (here → rose) → between ≡ with_messages known first → Unbinds failed here next between known' → Unbound failed rose next known known' first
unbound_by (Some why) here rose next known between known' first to told same = record { unbinds = []; may = refl; told = without_unbind known between known' first told same }
unbound_by None here rose next known between known' first to told unbinds = elim unbinds [
  | inl sent ↦ record { unbinds = unbind_message next ∷ []; may = inl refl; told = with_unbind known between known' first (unbind_message next) told sent }
  | inr unsent ↦ record { unbinds = []; may = inr (to unsent.0, refl); told = without_unbind known between known' first told unsent.1 }
]

looked_on : {L : Type 0} (t : Telling L) (config : Config) (key : Key) (before : L) (fetched : Fetched) (talk : Talk L) (line : L) (rose : Type 0) → (looked : Looked t config key (fresh before) fetched talk) → (a : Along t (fresh before) looked.exchanges talk)
    → Unbound talk.failed rose talk.next (t.asked before) (t.asked line) a.messages → t.received line ≡ t.received talk.link
    → LooksOver config key fetched rose (t.asked before) (t.asked line) (t.received before) (t.received line)
looked_on t config key before fetched talk line rose looked a u same = record {
  messages = a.messages ++ u.unbinds;
  received = talk.received;
  asked = record {
    exchanges = up_to_failure looked.exchanges;
    searches = a.messages;
    next = talk.next;
    unbinds = u.unbinds;
    sent = a.sent;
    begins = begins_alike config key fetched looked.exchanges looked.begins;
    ends = ends_alike fetched looked.exchanges looked.ends;
    answers = answers_alike config key fetched looked.exchanges looked.ends looked.answers;
    unbind = subst (λ (o : Option Why). MayUnbind o rose talk.next u.unbinds) a.fails u.may;
    are = refl;
  };
  told = u.told;
  comes = same ∙ a.grew.told ∙ ap (append_known (t.received before)) (sym a.grew.grown);
}

pub looks_over : {L : Type 0} (t : Telling L) (config : Config) (key : Key) (old : Talk L) (before : L) (fetched : Fetched) (talk : Talk L) (line : L) → old ≡ fresh before → Looked t config key old fetched talk
    → Unbinds talk.failed (Rose (t.faults talk.link) (t.faults line)) talk.next (t.asked talk.link) (t.asked line) → t.received line ≡ t.received talk.link
    → LooksOver config key fetched (Rose (t.faults before) (t.faults line)) (t.asked before) (t.asked line) (t.received before) (t.received line)
looks_over {L} t config key old before fetched talk line made looked unbinds same =
    let l : Looked t config key (fresh before) fetched talk = subst (λ (o : Talk L). Looked t config key o fetched talk) made looked in
    let a : Along t (fresh before) l.exchanges talk = along t (fresh before) l.exchanges talk refl l.in_order in
    looked_on t config key before fetched talk line (Rose (t.faults before) (t.faults line)) l a
    (unbound_by talk.failed (Rose (t.faults talk.link) (t.faults line)) (Rose (t.faults before) (t.faults line)) talk.next (t.asked before) (t.asked talk.link) (t.asked line) a.messages
    (rose_earlier (t.faults before) (t.faults talk.link) (t.faults line) (goes_later t (fresh before) l.exchanges talk l.in_order)) a.told unbinds) same

-- the unbind of a client that ends: one that has failed sends none
pub unbinds_by : {L : Type 0} (asked : L → Option (List MessageValue)) (talk : Talk L) (line : L) (P Q R : Type 0) → ((talk.failed ≡ None → ⊥) → line ≡ talk.link)
    → (talk.failed ≡ None → (P × (asked line ≡ with_message (asked talk.link) (unbind_message talk.next))) ⊎ (Q × R × (asked line ≡ asked talk.link)))
    → Unbinds talk.failed Q talk.next (asked talk.link) (asked line)
unbinds_by asked talk line P Q R same unbinds = by_failed talk.failed refl
  where
    is_some_why : {failed : Option Why} {why : Why} → failed ≡ Some why → failed ≡ None → ⊥
    is_some_why e f = cc

    by_failed : (failed : Option Why) → talk.failed ≡ failed → Unbinds failed Q talk.next (asked talk.link) (asked line)
    by_failed (Some why) f = ap asked (same (is_some_why f))
    by_failed None f = elim (unbinds f) [ inl sent ↦ inl sent.1 | inr unsent ↦ inr (unsent.0, unsent.2) ]

pub looked_fallen : {L : Type 0} (t : Telling L) (config : Config) (key : Key) (old : Talk L) (before : L) (fetched : Fetched) (talk : Talk L) (line : ℕ) → old ≡ fresh before → Looked t config key old fetched talk → t.faults talk.link ≤ line
    → fetched ≡ fetches.Failed whys.Link → Rose (t.faults before) line
looked_fallen t config key old before fetched talk line made looked later is =
    rose_later _ _ _ later
    (fallen t (fresh before) looked.exchanges talk refl (subst (λ (f : Fetched). EndsBy f looked.exchanges) is looked.ends) (subst (λ o. Goes t o looked.exchanges talk) made looked.in_order))

pub looked_later : {L : Type 0} (t : Telling L) (config : Config) (key : Key) (old : Talk L) (before : L) (fetched : Fetched) (talk : Talk L) (line : ℕ) → old ≡ fresh before → Looked t config key old fetched talk → t.faults talk.link ≤ line → t.faults before ≤ line
looked_later t config key old before fetched talk line made looked later =
    let goes = goes_later t (fresh before) looked.exchanges talk (subst (λ o. Goes t o looked.exchanges talk) made looked.in_order) in
    omega (arith, goes, later)

-- ---- a directory that is told

quiet_of : (coming : Option (List ℕ)) → IsSome coming → IfSome coming (λ (bytes : List ℕ). bytes ≡ []) → coming ≡ Some []
quiet_of None some none = cc
quiet_of (Some bytes) some none = ap Some none

-- a client over a line on which nothing is to come is settled
pub fresh_settled : {L : Type 0} (coming : L → Option (List ℕ)) (old : Talk L) (before : L) → old ≡ fresh before → IsSome (coming before) → IfSome (coming before) (λ (bytes : List ℕ). bytes ≡ []) → IsSettled old (coming old.link)
fresh_settled coming old before made some none =
    subst (λ o. IsSettled o (coming o.link)) (sym made) (record { well = refl; read = refl; short = omega arith; quiet = quiet_of (coming before) some none })

pub told_fetch : (f : Fetched) (failure : Option Why) (lookup : Fetched) (refuses ends : Type 0) (coming : Option (List ℕ)) → IsToldLookup f failure lookup refuses ends coming → IsToldFetch f failure lookup
told_fetch (fetches.Found found) failure lookup refuses ends coming h = h
told_fetch fetches.Absent failure lookup refuses ends coming h = h
told_fetch (fetches.Many count) failure lookup refuses ends coming h = h
told_fetch (fetches.Refused code) failure lookup refuses ends coming h = h
told_fetch (fetches.Failed whys.Link) failure lookup refuses ends coming h = tt
told_fetch (fetches.Failed (whys.Bytes at)) failure lookup refuses ends coming h = h
told_fetch (fetches.Failed (whys.Code code)) failure lookup refuses ends coming h = h
told_fetch (fetches.Failed (whys.Message tag)) failure lookup refuses ends coming h = h
told_fetch (fetches.Failed (whys.Flood count)) failure lookup refuses ends coming h = h
told_fetch fetches.Memory failure lookup refuses ends coming h = tt

-- what a lookup over a client that was just made comes to
pub told_by_fresh : {L : Type 0} (behind : L → Option Behind) (comes : L → Option (List ℕ)) (config : Config) (key : Key) (old : Talk L) (before : L) (f : Fetched) (refuses ends : Type 0) (coming : Option (List ℕ)) (b : Behind) → old ≡ fresh before
    → behind before ≡ Some b → IsSettled old (comes old.link)
    → ((c : Behind) → behind old.link ≡ Some c → IsSettled old (comes old.link) →
    IsToldLookup f (first_failure c (length old.received) old.next (searches_of config c.entries key)) (looked_up config c.entries key) refuses ends coming)
    → IsToldFetch f (first_failure b 0 1 (searches_of config b.entries key)) (looked_up config b.entries key)
told_by_fresh {L} behind comes config key old before f refuses ends coming b made is settled told =
    let by_old = told b (ap (λ (o : Talk L). behind o.link) made ∙ is) settled in
    told_fetch f _ _ refuses ends coming
    (subst (λ (o : Talk L). IsToldLookup f (first_failure b (length o.received) o.next (searches_of config b.entries key)) (looked_up config b.entries key) refuses ends coming) made by_old)

-- ---- a bind

pub told_bound : {L : Type 0} (behind : L → Option Behind) (old : Talk L) (before : L) (dn password : List ℕ) (bound : Bound) (b : Behind) (P : Type 0) → old ≡ fresh before → behind before ≡ Some b → P
    → ((c : Behind) → behind old.link ≡ Some c → P → IsToldBind bound (told_bind c (length old.received) old.next dn password)) → IsToldBind bound (told_bind b 0 1 dn password)
told_bound {L} behind old before dn password bound b P made is settled told =
    subst (λ (o : Talk L). IsToldBind bound (told_bind b (length o.received) o.next dn password)) made (told b (ap (λ (o : Talk L). behind o.link) made ∙ is) settled)

unsent_bind : (b : Bound) (rose : Type 0) → IsUnbound b rose → IsUnsentBind b
unsent_bind (bounds.Code code) rose h = h
unsent_bind (bounds.Failed why) rose h = h.0
unsent_bind bounds.Memory rose h = tt

-- the bind is sent, and the bytes decide it, or it is not sent
abbrev BindSent : List ℕ → List ℕ → Bound → List ℕ → List MessageValue → ℕ → Type 0
BindSent dn password bound received binds next = ((binds ≡ bind_message 1 dn password ∷ []) × (next ≡ 2) × DecidesBind received bound) ⊎ ((binds ≡ []) × (next ≡ 1) × IsUnsentBind bound)

bound_over : (dn password : List ℕ) (bound : Bound) (rose : Type 0) (known known' : Option (List MessageValue)) (before after : Option (List ℕ)) (received : List ℕ) (failed : Option Why) (next : ℕ) (binds : List MessageValue)
    → BindSent dn password bound received binds next → failed ≡ failure_by_bind bound → after ≡ append_known before received → Unbound failed rose next known known' binds → BindsOver dn password bound rose known known' before after
bound_over dn password bound rose known known' before after received failed next binds are fails comes u = record {
  messages = binds ++ u.unbinds;
  received = received;
  asked = record { binds = binds; next = next; unbinds = u.unbinds; sent = are; unbind = subst (λ (o : Option Why). MayUnbind o rose next u.unbinds) fails u.may; are = refl };
  told = u.told;
  comes = comes;
}

-- what a bind says of a client's requests
pub record BindFacts {L : Type 0} (asked : L → Option (List MessageValue)) (received : L → Option (List ℕ)) (dn password : List ℕ) (bound : Bound) (refused ended : Type 0) (old new : Talk L) : Type 0 where
  pub used : (new.next ≡ old.next) ⊎ (new.next ≡ old.next + 1)
  pub unsent : new.next ≡ old.next → asked new.link ≡ asked old.link
  pub no_reply : old.failed ≡ None → new.next ≡ old.next → IsUnbound bound refused
  pub sent : new.next ≡ old.next + 1 → asked new.link ≡ with_message (asked old.link) (bind_message old.next dn password)
  pub reply : new.next ≡ old.next + 1 → IsBound bound (decided requests.Bind old.next old.at new.received) new.at ended
  pub fails : old.failed ≡ None → new.failed ≡ failure_by_bind bound
  pub grew : Grew old.received new.received (received old.link) (received new.link)

pub bind_asks : {L : Type 0} (asked : L → Option (List MessageValue)) (received : L → Option (List ℕ)) (dn password : List ℕ) (bound : Bound) (refused ended here rose : Type 0) (old new : Talk L) (before line : L) → old ≡ fresh before → (here → rose)
    → BindFacts asked received dn password bound refused ended old new → Unbinds new.failed here new.next (asked new.link) (asked line) → received line ≡ received new.link → BindsOver dn password bound rose (asked before) (asked line) (received before) (received line)
bind_asks {L} asked received dn password bound refused ended here rose old new before line made to facts unbinds same =
    let f : BindFacts asked received dn password bound refused ended (fresh before) new = subst (λ (o : Talk L). BindFacts asked received dn password bound refused ended o new) made facts in
    let comes : received line ≡ append_known (received before) new.received = same ∙ f.grew.told ∙ ap (append_known (received before)) (sym f.grew.grown) in
    elim f.used [
      | inl still ↦
          bound_over dn password bound rose (asked before) (asked line) (received before) (received line) new.received new.failed new.next []
          (inr (refl, still, unsent_bind bound refused (f.no_reply refl still))) (f.fails refl) comes
          (unbound_by new.failed here rose new.next (asked before) (asked new.link) (asked line) [] to (f.unsent still ∙ with_none (asked before)) unbinds)
      | inr more ↦
          bound_over dn password bound rose (asked before) (asked line) (received before) (received line) new.received new.failed new.next (bind_message 1 dn password ∷ [])
          (inl (refl, more, (new.at, bound_by bound (decided requests.Bind 1 0 new.received) new.at ended (f.reply more)))) (f.fails refl) comes
          (unbound_by new.failed here rose new.next (asked before) (asked new.link) (asked line) (bind_message 1 dn password ∷ []) to (f.sent more) unbinds)
    ]

-- a count that rose behind a bind rose in all
pub bind_rose : {L : Type 0} (faults : L → ℕ) (old : Talk L) (before : L) (new line : ℕ) → old ≡ fresh before → faults old.link ≤ new → Rose new line → Rose (faults before) line
bind_rose {L} faults old before new line made later rose = rose_earlier (faults before) new line (subst (λ (o : Talk L). faults o.link ≤ new) made later) rose

-- ---- a line that is given back

-- the same where one count of faults rose with another
unbind_on : (failed : Option Why) (here rose : Type 0) (next : ℕ) (unbinds : List MessageValue) → (here → rose) → MayUnbind failed here next unbinds → MayUnbind failed rose next unbinds
unbind_on (Some why) here rose next unbinds to h = h
unbind_on None here rose next unbinds to h = elim h [ inl sent ↦ inl sent | inr unsent ↦ inr (to unsent.0, unsent.1) ]

pub lookup_on : (config : Config) (key : Key) (fetched : Fetched) (here rose : Type 0) (messages : List MessageValue) (received : List ℕ) → (here → rose) → LookupAsked config key fetched here messages received → LookupAsked config key fetched rose messages received
lookup_on config key fetched here rose messages received to a = record {
  exchanges = a.exchanges;
  searches = a.searches;
  next = a.next;
  unbinds = a.unbinds;
  sent = a.sent;
  begins = a.begins;
  ends = a.ends;
  answers = a.answers;
  unbind = unbind_on (failure_of a.exchanges) here rose a.next a.unbinds to a.unbind;
  are = a.are;
}

pub bind_on : (dn password : List ℕ) (bound : Bound) (here rose : Type 0) (messages : List MessageValue) (received : List ℕ) → (here → rose) → BindAsked dn password bound here messages received → BindAsked dn password bound rose messages received
bind_on dn password bound here rose messages received to a = record {
  binds = a.binds;
  next = a.next;
  unbinds = a.unbinds;
  sent = a.sent;
  unbind = unbind_on (failure_by_bind bound) here rose a.next a.unbinds to a.unbind;
  are = a.are;
}

-- the same of the operations
pub lookup_operations_on : (config : Config) (key : Key) (server : ℕ) (fetched : Fetched) (here rose : Type 0) (operations : List Operation) (lines : List (List ℕ)) → (here → rose) → LookupOperations config key server fetched here operations lines
    → LookupOperations config key server fetched rose operations lines
lookup_operations_on config key server fetched here rose operations lines to (lookup_parts.undialled failed) = lookup_parts.undialled failed
lookup_operations_on config key server fetched here rose operations lines to (lookup_parts.looked messages received a) = lookup_parts.looked messages received (lookup_on config key fetched here rose messages received to a)

pub bind_operations_on : (dn password : List ℕ) (server : ℕ) (bound : Bound) (here rose : Type 0) (operations : List Operation) (lines : List (List ℕ)) → (here → rose) → BindOperations dn password server bound here operations lines
    → BindOperations dn password server bound rose operations lines
bind_operations_on dn password server bound here rose operations lines to (bind_parts.undialled failed) = bind_parts.undialled failed
bind_operations_on dn password server bound here rose operations lines to (bind_parts.bound_on messages received a) = bind_parts.bound_on messages received (bind_on dn password bound here rose messages received to a)

-- what came in a bind
pub bind_grew : (next next' : ℕ) (before after : List ℕ) (known known' : Option (List ℕ)) → (next' ≡ next) ⊎ (next' ≡ next + 1) → (next' ≡ next → Grew before after known known') → (next' ≡ next + 1 → Grew before after known known') → Grew before after known known'
bind_grew next next' before after known known' used unsent sent = elim used [ inl same ↦ unsent same | inr more ↦ sent more ]

pub bind_fallen : {L : Type 0} (faults : L → ℕ) (old : Talk L) (before : L) (new line : ℕ) (P Q : Type 0) → old ≡ fresh before → new ≤ line → (old.failed ≡ None → P → Rose (faults old.link) new × Q) → P → Rose (faults before) line
bind_fallen {L} faults old before new line P Q made later cause is =
    rose_later _ _ _ later (subst (λ (o : Talk L). Rose (faults o.link) new) made (cause (ap (λ (o : Talk L). o.failed) made) is).0)

pub bind_later : {L : Type 0} (faults : L → ℕ) (old : Talk L) (before : L) (new line : ℕ) → old ≡ fresh before → faults old.link ≤ new → new ≤ line → faults before ≤ line
bind_later {L} faults old before new line made later end_later =
    let first : faults before ≤ new = subst (λ (o : Talk L). faults o.link ≤ new) made later in
    omega (arith, first, end_later)
