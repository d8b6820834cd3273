-- What is kept beside the requests and the tickets fits them after each call, and what is seen of the tickets.
use Rattle.std.proofs.Common.{◌≡◌, ℕ, ◌+◌, ◌-◌, ◌<◌, Bool, true, false, cond, ◌==◌, ◌||◌, nat_lt, List, [], ◌∷◌, map, Option, None, Some, is_some, is_none, refl, sym, ◌∙◌, ap, subst, true≢false, arith}
use Rattle.std.proofs.lemmas.Bool.Decides.{nat_tests}
use Rattle.std.specs.List.{list_any}
use Rattle.std.specs.Option.{option_map, option_and_then, option_map_or}
use Rattle.std.specs.Ordering.{nat_cmp}
use Rattle.std.specs.Map.{remove_entry}
use Rattle.std.specs.BTreeMap.{insert_entry}
use Rattle.sd_rules.specs.declared.keys.Key.{Key}
use Rattle.sd_rules.specs.declared.replies.Outcome.{Outcome}
use Rattle.sd_rules.specs.Keys.{same_key}
use Rattle.sd_table.specs.declared.waited.Waited.{Waited}
use Rattle.sd_table.specs.Table.{Ticket, Table, at_number, open_for, is_named, waits_for, outcome_for, has_none_to_take, with_outcome}
use Rattle.sd_table.specs.Kept.{waiting_count, ticket_count, outcome_in, one_more, one_less, with_given, after_leave, ticket_of, seen_ticket, seen_tickets, IsCount, OneForKey, IsKept}
use Rattle.sd_table.proofs.Numbered.{map-insert_entry, map-remove_entry, at_number-map, at_number-insert_entry, waiting_count-insert_entry, waiting_count-remove_entry, remove_entry-absent, same_number, turned}
use Rattle.sd_table.proofs.KeysApart.{open_for-insert_entry, open_for-remove_entry, OneForKey-insert_entry, OneForKey-remove_entry}

equal : (a b : ℕ) → (a == b) ≡ true → a ≡ b
equal a b h = grind (arith, nat_tests)

-- ---- the counts

count_along : (c d : ℕ) (w v : Option Waited) → c ≡ d → w ≡ v → IsCount c w → IsCount d v
count_along c d w v e f h = subst (λ n. IsCount n v) e (subst (λ o. IsCount c o) f h)

given_counts : (c : ℕ) (outcome : Outcome) (w : Option Waited) (b : Bool) → IsCount c w → IsCount c (cond b (with_given outcome w) w)
given_counts c outcome None true h = h
given_counts c outcome (Some w) true h = h
given_counts c outcome w false h = h

more_counts : (c : ℕ) (w : Option Waited) (b : Bool) → IsCount c w → IsCount (cond b 1 0 + c) (cond b (Some (one_more w)) w)
more_counts c None true h = (omega arith, omega arith)
more_counts c (Some w) true h = (omega arith, omega arith)
more_counts c None false h = omega arith
more_counts c (Some w) false h = (omega arith, omega arith)

less_counts : (c : ℕ) (w : Waited) (b : Bool) → nat_lt 1 w.tickets ≡ b → w.tickets ≡ 1 + c → IsCount c (cond b (Some (record w { tickets = w.tickets - 1 })) None)
less_counts c w true e h = (omega arith, grind (arith, nat_tests))
less_counts c w false e h = grind (arith, nat_tests)

fewer_counts : (c d : ℕ) (w : Option Waited) (b : Bool) → cond b 1 0 + c ≡ d → IsCount d w → IsCount c (cond b (one_less w) w)
fewer_counts c d None true e h = omega arith
fewer_counts c d (Some w) true e h = less_counts c w (nat_lt 1 w.tickets) refl (omega arith)
fewer_counts c d None false e h = omega arith
fewer_counts c d (Some w) false e h = (omega arith, omega arith)

none_counted : (c : ℕ) (w : Option Waited) → IsCount c w → c ≡ 0 → w ≡ None
none_counted c None h e = refl
none_counted c (Some w) h e = absurd (omega arith)

some_counted : (c : ℕ) (w : Option Waited) → IsCount c w → 0 < c → is_some w ≡ true
some_counted c None h e = absurd (omega arith)
some_counted c (Some w) h e = refl

pub ticket_count-IsCount : (c : ℕ) (w : Option Waited) → IsCount c w → ticket_count w ≡ c
ticket_count-IsCount c None h = sym h
ticket_count-IsCount c (Some w) h = h.0

-- ---- the outcomes

more_outcome : (w : Option Waited) (b : Bool) → outcome_in (cond b (Some (one_more w)) w) ≡ outcome_in w
more_outcome None true = refl
more_outcome (Some w) true = refl
more_outcome w false = refl

less_outcome : (w : Waited) (b : Bool) → w.outcome ≡ None → outcome_in (cond b (Some (record w { tickets = w.tickets - 1 })) None) ≡ None
less_outcome w true h = h
less_outcome w false h = refl

fewer_outcome : (w : Option Waited) (b : Bool) → outcome_in w ≡ None → outcome_in (cond b (one_less w) w) ≡ None
fewer_outcome None true h = refl
fewer_outcome (Some w) true h = less_outcome w (nat_lt 1 w.tickets) h
fewer_outcome w false h = h

-- ---- what is kept, after each call

pub kept_new : IsKept [] (λ key. None) [] (λ number. None)
kept_new = record { index = λ key. refl; one = tt; counted = λ number. refl; unanswered = λ number key h. refl; answered = λ number h none. h }

lead_step : (n m : ℕ) (key k : Key) (x : Option Key) (w : Option Outcome) (b : Bool) → (m == n) ≡ b → cond b (Some key) x ≡ Some k → (m ≡ n → w ≡ None) → (x ≡ Some k → w ≡ None) → w ≡ None
lead_step n m key k x w true e h here there = here (equal m n e)
lead_step n m key k x w false e h here there = there h

close_step : (n m : ℕ) (k : Key) (outcome : Outcome) (x : Option Key) (w : Option Waited) (b : Bool) → cond b None x ≡ Some k → (x ≡ Some k → outcome_in w ≡ None) → outcome_in (cond b (with_given outcome w) w) ≡ None
close_step n m k outcome x w true h there = cc
close_step n m k outcome x w false h there = there h

still_there : (key : Key) (x : Option Key) (b : Bool) → is_some x ≡ true → is_some (cond b (Some key) x) ≡ true
still_there key x true h = refl
still_there key x false h = h

close_there : (outcome : Outcome) (w : Option Waited) (x : Option Key) (b : Bool) → is_some (cond b (with_given outcome w) w) ≡ true → outcome_in (cond b (with_given outcome w) w) ≡ None
    → (is_some w ≡ true → outcome_in w ≡ None → is_some x ≡ true) → is_some (cond b None x) ≡ true
close_there outcome None x true h none rest = h
close_there outcome (Some w) x true h none rest = cc
close_there outcome w x false h none rest = rest h none

join_there : (w : Option Waited) (b there : Bool) → (b ≡ true → there ≡ true) → is_some (cond b (Some (one_more w)) w) ≡ true → outcome_in (cond b (Some (one_more w)) w) ≡ None
    → (is_some w ≡ true → outcome_in w ≡ None → there ≡ true) → there ≡ true
join_there w true there here h none rest = here refl
join_there w false there here h none rest = rest h none

less_there : (w : Waited) (b there : Bool) → is_some (cond b (Some (record w { tickets = w.tickets - 1 })) None) ≡ true → outcome_in (cond b (Some (record w { tickets = w.tickets - 1 })) None) ≡ None
    → (w.outcome ≡ None → there ≡ true) → there ≡ true
less_there w true there h none rest = rest none
less_there w false there h none rest = cc

drop_there : (w : Option Waited) (b there : Bool) → is_some (cond b (one_less w) w) ≡ true → outcome_in (cond b (one_less w) w) ≡ None
    → (is_some w ≡ true → outcome_in w ≡ None → there ≡ true) → there ≡ true
drop_there None true there h none rest = rest h none
drop_there (Some w) true there h none rest = less_there w (nat_lt 1 w.tickets) there h none (rest refl)
drop_there w false there h none rest = rest h none

module _ {keys : List (ℕ × Key)} {numbers : Key → Option ℕ} {tickets : List (ℕ × ℕ)} {waited : ℕ → Option Waited} (kept : IsKept keys numbers tickets waited) where
  pub kept_alike : (keys' : List (ℕ × Key)) (numbers' : Key → Option ℕ) (tickets' : List (ℕ × ℕ)) (waited' : ℕ → Option Waited)
      → keys' ≡ keys → ((k : Key) → numbers' k ≡ numbers k) → tickets' ≡ tickets → ((n : ℕ) → waited' n ≡ waited n) → IsKept keys' numbers' tickets' waited'
  kept_alike keys' numbers' tickets' waited' keys_are numbers_are tickets_are waited_are = record {
    index = λ k. numbers_are k ∙ kept.index k ∙ ap (λ es. open_for es k) (sym keys_are);
    one = subst OneForKey (sym keys_are) kept.one;
    counted = λ n. count_along _ _ _ _ (ap (λ ts. waiting_count ts n) (sym tickets_are)) (sym (waited_are n)) (kept.counted n);
    unanswered = λ n k h. ap outcome_in (waited_are n) ∙ kept.unanswered n k (ap (λ es. at_number es n) (sym keys_are) ∙ h);
    answered = λ n h none. ap (λ es. is_some (at_number es n)) keys_are ∙ kept.answered n (ap is_some (sym (waited_are n)) ∙ h) (ap outcome_in (sym (waited_are n)) ∙ none);
  }

  pub kept_lead : (n : ℕ) (key : Key) (keys' : List (ℕ × Key)) (numbers' : Key → Option ℕ) → at_number keys n ≡ None → open_for keys key ≡ None → waited n ≡ None
      → keys' ≡ insert_entry nat_cmp keys n key → ((k : Key) → numbers' k ≡ cond (same_key key k) (Some n) (numbers k)) → IsKept keys' numbers' tickets waited
  kept_lead n key keys' numbers' none free unused keys_are numbers_are = record {
    index = λ k. numbers_are k ∙ ap (cond (same_key key k) (Some n)) (kept.index k) ∙ sym (open_for-insert_entry keys n key k none free) ∙ ap (λ es. open_for es k) (sym keys_are);
    one = subst OneForKey (sym keys_are) (OneForKey-insert_entry keys n key none free kept.one);
    counted = kept.counted;
    unanswered = λ m k h. lead_step n m key k (at_number keys m) (outcome_in (waited m)) (m == n) refl
        (sym (at_number-insert_entry keys n key m none) ∙ ap (λ es. at_number es m) (sym keys_are) ∙ h)
        (λ same. ap (λ i. outcome_in (waited i)) same ∙ ap outcome_in unused) (kept.unanswered m k);
    answered = λ m h none_yet. ap (λ es. is_some (at_number es m)) keys_are ∙ ap is_some (at_number-insert_entry keys n key m none) ∙ still_there key (at_number keys m) (m == n) (kept.answered m h none_yet);
  }

  pub kept_close : (n : ℕ) (key : Key) (outcome : Outcome) (keys' : List (ℕ × Key)) (numbers' : Key → Option ℕ) (waited' : ℕ → Option Waited) → at_number keys n ≡ Some key
      → keys' ≡ remove_entry (λ m. m == n) keys → ((m : ℕ) → at_number keys' m ≡ cond (m == n) None (at_number keys m)) → ((k : Key) → numbers' k ≡ cond (same_key key k) None (numbers k))
      → ((m : ℕ) → waited' m ≡ cond (m == n) (with_given outcome (waited m)) (waited m)) → IsKept keys' numbers' tickets waited'
  kept_close n key outcome keys' numbers' waited' there keys_are at_are numbers_are waited_are = record {
    index = λ k. numbers_are k ∙ ap (cond (same_key key k) None) (kept.index k) ∙ sym (open_for-remove_entry keys n key k kept.one there) ∙ ap (λ es. open_for es k) (sym keys_are);
    one = subst OneForKey (sym keys_are) (OneForKey-remove_entry (λ m. m == n) keys kept.one);
    counted = λ m. count_along _ _ _ _ refl (sym (waited_are m)) (given_counts (waiting_count tickets m) outcome (waited m) (m == n) (kept.counted m));
    unanswered = λ m k h. ap outcome_in (waited_are m) ∙ close_step n m k outcome (at_number keys m) (waited m) (m == n) (sym (at_are m) ∙ h) (kept.unanswered m k);
    answered = λ m h none. ap is_some (at_are m) ∙ close_there outcome (waited m) (at_number keys m) (m == n) (ap is_some (sym (waited_are m)) ∙ h) (ap outcome_in (sym (waited_are m)) ∙ none) (kept.answered m);
  }

  pub kept_join : (n t : ℕ) (tickets' : List (ℕ × ℕ)) (waited' : ℕ → Option Waited) → is_some (at_number keys n) ≡ true → at_number tickets t ≡ None → tickets' ≡ insert_entry nat_cmp tickets t n
      → ((m : ℕ) → waited' m ≡ cond (m == n) (Some (one_more (waited m))) (waited m)) → IsKept keys numbers tickets' waited'
  kept_join n t tickets' waited' there none tickets_are waited_are = record {
    index = kept.index;
    one = kept.one;
    counted = λ m. count_along _ _ _ _ (ap (λ b. cond b 1 0 + waiting_count tickets m) (turned m n) ∙ sym (waiting_count-insert_entry tickets t n m none) ∙ ap (λ ts. waiting_count ts m) (sym tickets_are))
        (sym (waited_are m)) (more_counts (waiting_count tickets m) (waited m) (m == n) (kept.counted m));
    unanswered = λ m k h. ap outcome_in (waited_are m) ∙ more_outcome (waited m) (m == n) ∙ kept.unanswered m k h;
    answered = λ m h none_yet. join_there (waited m) (m == n) (is_some (at_number keys m)) (λ same. ap (λ i. is_some (at_number keys i)) (equal m n same) ∙ there) (ap is_some (sym (waited_are m)) ∙ h)
        (ap outcome_in (sym (waited_are m)) ∙ none_yet) (kept.answered m);
  }

  pub kept_drop : (n t : ℕ) (tickets' : List (ℕ × ℕ)) (waited' : ℕ → Option Waited) → at_number tickets t ≡ Some n → tickets' ≡ remove_entry (λ m. m == t) tickets
      → ((m : ℕ) → waited' m ≡ cond (m == n) (one_less (waited m)) (waited m)) → IsKept keys numbers tickets' waited'
  kept_drop n t tickets' waited' there tickets_are waited_are = record {
    index = kept.index;
    one = kept.one;
    counted = λ m. count_along _ _ _ _ refl (sym (waited_are m))
        (fewer_counts (waiting_count tickets' m) (waiting_count tickets m) (waited m) (m == n)
        (ap (λ b. cond b 1 0 + waiting_count tickets' m) (turned m n) ∙ ap (λ ts. cond (n == m) 1 0 + waiting_count ts m) tickets_are ∙ waiting_count-remove_entry tickets t n m there) (kept.counted m));
    unanswered = λ m k h. ap outcome_in (waited_are m) ∙ fewer_outcome (waited m) (m == n) (kept.unanswered m k h);
    answered = λ m h none. drop_there (waited m) (m == n) (is_some (at_number keys m)) (ap is_some (sym (waited_are m)) ∙ h) (ap outcome_in (sym (waited_are m)) ∙ none) (kept.answered m);
  }

-- ---- what is seen of the tickets

module _ {Y : Type 0} (f g : ℕ × ℕ → Y) where
  -- two functions that agree at the tickets of each request that has some
  map_members : (tickets : List (ℕ × ℕ)) → ((t : ℕ × ℕ) → 0 < waiting_count tickets t.1 → f t ≡ g t) → map f tickets ≡ map g tickets
  map_members [] same = refl
  map_members (t ∷ tickets) same =
      let here : 0 < cond (t.1 == t.1) 1 0 + waiting_count tickets t.1 = subst (λ b. 0 < cond b 1 0 + waiting_count tickets t.1) (sym (same_number t.1)) (omega arith) in
      λ i. same t here i ∷ map_members tickets (λ u more. same u (omega arith)) i

  map_always : ((t : ℕ × ℕ) → f t ≡ g t) → (tickets : List (ℕ × ℕ)) → map f tickets ≡ map g tickets
  map_always same [] = refl
  map_always same (t ∷ tickets) = λ i. same t i ∷ map_always same tickets i

seen_by : (waited waited' : ℕ → Option Waited) (t : ℕ × ℕ) → outcome_in (waited' t.1) ≡ outcome_in (waited t.1) → seen_ticket waited' t ≡ seen_ticket waited t
seen_by waited waited' t e = λ i. (t.0, record { request = t.1; outcome = e i })

pub seen_alike : (tickets tickets' : List (ℕ × ℕ)) (waited waited' : ℕ → Option Waited) → tickets' ≡ tickets → ((n : ℕ) → outcome_in (waited' n) ≡ outcome_in (waited n)) → seen_tickets tickets' waited' ≡ seen_tickets tickets waited
seen_alike tickets tickets' waited waited' tickets_are same =
    ap (map (seen_ticket waited')) tickets_are ∙ map_always (seen_ticket waited') (seen_ticket waited) (λ t. seen_by waited waited' t (same t.1)) tickets

pub seen_join : (tickets tickets' : List (ℕ × ℕ)) (waited waited' : ℕ → Option Waited) (n t : ℕ) → tickets' ≡ insert_entry nat_cmp tickets t n
    → ((m : ℕ) → waited' m ≡ cond (m == n) (Some (one_more (waited m))) (waited m)) → outcome_in (waited n) ≡ None
    → seen_tickets tickets' waited' ≡ insert_entry nat_cmp (seen_tickets tickets waited) t (record { request = n; outcome = None })
seen_join tickets tickets' waited waited' n t tickets_are waited_are none =
    seen_alike (insert_entry nat_cmp tickets t n) tickets' waited waited' tickets_are (λ m. ap outcome_in (waited_are m) ∙ more_outcome (waited m) (m == n))
    ∙ map-insert_entry (ticket_of waited) tickets t n
    ∙ (λ i. insert_entry nat_cmp (seen_tickets tickets waited) t (record { request = n; outcome = none i }))

map_twice : {A B C : Type 0} (g : B → C) (f : A → B) (xs : List A) → map g (map f xs) ≡ map (λ x. g (f x)) xs
map_twice g f [] = refl
map_twice g f (x ∷ xs) = ap (λ ys. g (f x) ∷ ys) (map_twice g f xs)

given_ticket : (r : ℕ) (outcome : Outcome) (w : Option Waited) (b : Bool) → is_some w ≡ true
    → (let a : Ticket = record { request = r; outcome = outcome_in (cond b (with_given outcome w) w) } in a) ≡ cond b (record { request = r; outcome = Some outcome }) (record { request = r; outcome = outcome_in w })
given_ticket r outcome None true some = cc
given_ticket r outcome (Some w) true some = refl
given_ticket r outcome w false some = refl

pub seen_close : (tickets : List (ℕ × ℕ)) (waited waited' : ℕ → Option Waited) (n : ℕ) (outcome : Outcome) → ((m : ℕ) → IsCount (waiting_count tickets m) (waited m))
    → ((m : ℕ) → waited' m ≡ cond (m == n) (with_given outcome (waited m)) (waited m))
    → seen_tickets tickets waited' ≡ map (λ (t : ℕ × Ticket). (t.0, with_outcome n outcome t.1)) (seen_tickets tickets waited)
seen_close tickets waited waited' n outcome counted waited_are =
    map_members (seen_ticket waited') (λ t. (t.0, with_outcome n outcome (ticket_of waited t.1))) tickets
    (λ t more. ap (λ (x : Ticket). (t.0, x)) (ap (λ w. let a : Ticket = record { request = t.1; outcome = outcome_in w } in a) (waited_are t.1)
    ∙ given_ticket t.1 outcome (waited t.1) (t.1 == n) (some_counted (waiting_count tickets t.1) (waited t.1) (counted t.1) more)))
    ∙ sym (map_twice (λ (t : ℕ × Ticket). (t.0, with_outcome n outcome t.1)) (seen_ticket waited) tickets)

less_same : (w : Waited) (b : Bool) → nat_lt 1 w.tickets ≡ b → 1 < w.tickets → outcome_in (cond b (Some (record w { tickets = w.tickets - 1 })) None) ≡ w.outcome
less_same w true e h = refl
less_same w false e h = absurd (grind (arith, nat_tests))

fewer_same : (c d : ℕ) (w : Option Waited) (b : Bool) → cond b 1 0 + c ≡ d → 0 < c → IsCount d w → outcome_in (cond b (one_less w) w) ≡ outcome_in w
fewer_same c d None true e more h = absurd (omega arith)
fewer_same c d (Some w) true e more h = less_same w (nat_lt 1 w.tickets) refl (omega arith)
fewer_same c d w false e more h = refl

seen_drop : (tickets tickets' : List (ℕ × ℕ)) (waited waited' : ℕ → Option Waited) (n t : ℕ) → ((m : ℕ) → IsCount (waiting_count tickets m) (waited m)) → at_number tickets t ≡ Some n
    → tickets' ≡ remove_entry (λ m. m == t) tickets → ((m : ℕ) → waited' m ≡ cond (m == n) (one_less (waited m)) (waited m))
    → seen_tickets tickets' waited' ≡ remove_entry (λ m. m == t) (seen_tickets tickets waited)
seen_drop tickets tickets' waited waited' n t counted there tickets_are waited_are =
    map_members (seen_ticket waited') (seen_ticket waited) tickets'
    (λ u more. seen_by waited waited' u (ap outcome_in (waited_are u.1) ∙ fewer_same (waiting_count tickets' u.1) (waiting_count tickets u.1) (waited u.1) (u.1 == n)
    (ap (λ b. cond b 1 0 + waiting_count tickets' u.1) (turned u.1 n) ∙ ap (λ ts. cond (n == u.1) 1 0 + waiting_count ts u.1) tickets_are ∙ waiting_count-remove_entry tickets t n u.1 there) more (counted u.1)))
    ∙ ap (map (seen_ticket waited)) tickets_are
    ∙ map-remove_entry (ticket_of waited) (λ m. m == t) tickets

-- ---- a ticket waits no more, whether it waited or not

pub seen_leave : (tickets tickets' : List (ℕ × ℕ)) (waited waited' : ℕ → Option Waited) (t : ℕ) (o : Option ℕ) → ((m : ℕ) → IsCount (waiting_count tickets m) (waited m)) → at_number tickets t ≡ o
    → tickets' ≡ remove_entry (λ m. m == t) tickets → ((m : ℕ) → waited' m ≡ after_leave o m (waited m))
    → seen_tickets tickets' waited' ≡ remove_entry (λ m. m == t) (seen_tickets tickets waited)
seen_leave tickets tickets' waited waited' t None counted there tickets_are waited_are =
    seen_alike (remove_entry (λ m. m == t) tickets) tickets' waited waited' tickets_are (λ m. ap outcome_in (waited_are m)) ∙ map-remove_entry (ticket_of waited) (λ m. m == t) tickets
seen_leave tickets tickets' waited waited' t (Some n) counted there tickets_are waited_are =
    seen_drop tickets tickets' waited waited' n t counted there tickets_are waited_are

pub kept_leave : {keys : List (ℕ × Key)} {numbers : Key → Option ℕ} {tickets : List (ℕ × ℕ)} {waited : ℕ → Option Waited} → IsKept keys numbers tickets waited
    → (t : ℕ) (o : Option ℕ) (tickets' : List (ℕ × ℕ)) (waited' : ℕ → Option Waited) → at_number tickets t ≡ o
    → tickets' ≡ remove_entry (λ m. m == t) tickets → ((m : ℕ) → waited' m ≡ after_leave o m (waited m)) → IsKept keys numbers tickets' waited'
kept_leave {keys} {numbers} {tickets} {waited} kept t None tickets' waited' there tickets_are waited_are =
    kept_alike kept keys numbers tickets' waited' refl (λ k. refl) (tickets_are ∙ remove_entry-absent tickets t there) waited_are
kept_leave kept t (Some n) tickets' waited' there tickets_are waited_are = kept_drop kept n t tickets' waited' there tickets_are waited_are

-- ---- a number that is new

or_left : (a b : Bool) → (a || b) ≡ false → a ≡ false
or_left true b h = h
or_left false b h = refl

or_right : (a b : Bool) → (a || b) ≡ false → b ≡ false
or_right true b h = cc
or_right false b h = h

none_of : {X : Type 0} (x : Option X) → is_some x ≡ false → x ≡ None
none_of None h = refl
none_of (Some x) h = cc

none_before : {X Y : Type 0} (f : X → Y) (x : Option X) → option_map f x ≡ None → x ≡ None
none_before f None h = refl
none_before f (Some x) h = cc

unused_step : (b x : Bool) (c : ℕ) → (b || x) ≡ false → (x ≡ false → c ≡ 0) → cond b 1 0 + c ≡ 0
unused_step true x c h rest = cc
unused_step false x c h rest = omega (arith, rest h)

unused_counts : (tickets : List (ℕ × ℕ)) (waited : ℕ → Option Waited) (n : ℕ) → list_any (λ (t : ℕ × Ticket). t.1.request == n) (seen_tickets tickets waited) ≡ false → waiting_count tickets n ≡ 0
unused_counts [] waited n h = refl
unused_counts (t ∷ tickets) waited n h = unused_step (t.1 == n) (list_any (λ (t : ℕ × Ticket). t.1.request == n) (seen_tickets tickets waited)) (waiting_count tickets n) h (unused_counts tickets waited n)

module _ (requests : List (ℕ × Key)) (tickets : List (ℕ × ℕ)) (waited : ℕ → Option Waited) (n : ℕ) (new : is_named (record { requests = requests; tickets = seen_tickets tickets waited }) n ≡ false) where
  pub new_request : at_number requests n ≡ None
  new_request = none_of _ (or_left _ _ new)

  pub new_ticket_number : at_number tickets n ≡ None
  new_ticket_number = none_before (ticket_of waited) _ (sym (at_number-map (ticket_of waited) tickets n) ∙ none_of _ (or_left _ _ (or_right (is_some (at_number requests n)) _ new)))

  pub new_waited : ((m : ℕ) → IsCount (waiting_count tickets m) (waited m)) → waited n ≡ None
  new_waited counted = none_counted _ _ (counted n) (unused_counts tickets waited n (or_right (is_some (at_number (seen_tickets tickets waited) n)) _ (or_right (is_some (at_number requests n)) _ new)))

-- ---- the table as it is seen

abbrev pub table_of : List (ℕ × Key) → List (ℕ × Ticket) → Table
table_of requests tickets = record { requests = requests; tickets = tickets }

request_of : (waited : ℕ → Option Waited) (x : Option ℕ) → option_map (λ (t : Ticket). t.request) (option_map (ticket_of waited) x) ≡ x
request_of waited None = refl
request_of waited (Some n) = refl

kept_outcome : (waited : ℕ → Option Waited) (x : Option ℕ) → option_and_then (λ (t : Ticket). t.outcome) (option_map (ticket_of waited) x) ≡ option_and_then (λ n. outcome_in (waited n)) x
kept_outcome waited None = refl
kept_outcome waited (Some n) = refl

module _ (requests : List (ℕ × Key)) (tickets : List (ℕ × ℕ)) (waited : ℕ → Option Waited) (t : ℕ) where
  pub waits_for-seen : waits_for (table_of requests (seen_tickets tickets waited)) t ≡ at_number tickets t
  waits_for-seen = ap (option_map (λ (t : Ticket). t.request)) (at_number-map (ticket_of waited) tickets t) ∙ request_of waited (at_number tickets t)

  pub outcome_for-seen : outcome_for (table_of requests (seen_tickets tickets waited)) t ≡ option_and_then (λ n. outcome_in (waited n)) (at_number tickets t)
  outcome_for-seen = ap (option_and_then (λ (t : Ticket). t.outcome)) (at_number-map (ticket_of waited) tickets t) ∙ kept_outcome waited (at_number tickets t)

-- a request that is open has a key
pub some_key : (o : Option Key) → is_some o ≡ true → (key : Key) × (o ≡ Some key)
some_key None h = absurd (true≢false (sym h))
some_key (Some key) h = (key, refl)

pub unanswered_open : {keys : List (ℕ × Key)} {numbers : Key → Option ℕ} {tickets : List (ℕ × ℕ)} {waited : ℕ → Option Waited} → IsKept keys numbers tickets waited
    → (n : ℕ) → is_some (at_number keys n) ≡ true → outcome_in (waited n) ≡ None
unanswered_open {keys} kept n h = let key = some_key (at_number keys n) h in kept.unanswered n key.0 key.1

-- what stands at each ticket, by the list that is kept
pub at_number-seen : (tickets : List (ℕ × ℕ)) (waited : ℕ → Option Waited) (t : ℕ) → at_number (seen_tickets tickets waited) t ≡ option_map (ticket_of waited) (at_number tickets t)
at_number-seen tickets waited t = at_number-map (ticket_of waited) tickets t

left_step : (waited : ℕ → Option Waited) (x : Option ℕ) (b : Bool) → option_map (ticket_of waited) (cond b None x) ≡ cond b None (option_map (ticket_of waited) x)
left_step waited x true = refl
left_step waited x false = refl

-- once a ticket waits no more, the others wait as before
pub at_number-left : (tickets tickets' : List (ℕ × ℕ)) (waited : ℕ → Option Waited) (after : List (ℕ × Ticket)) (t u : ℕ) → after ≡ remove_entry (λ m. m == t) (seen_tickets tickets waited)
    → tickets' ≡ remove_entry (λ m. m == t) tickets → at_number tickets' u ≡ cond (u == t) None (at_number tickets u)
    → at_number after u ≡ cond (u == t) None (at_number (seen_tickets tickets waited) u)
at_number-left tickets tickets' waited after t u is tickets_are at_are =
    ap (λ es. at_number es u) (is ∙ sym (map-remove_entry (ticket_of waited) (λ m. m == t) tickets) ∙ ap (map (seen_ticket waited)) (sym tickets_are))
    ∙ at_number-seen tickets' waited u
    ∙ ap (option_map (ticket_of waited)) at_are
    ∙ left_step waited (at_number tickets u) (u == t)
    ∙ ap (cond (u == t) None) (sym (at_number-seen tickets waited u))

-- ---- there is no outcome to take exactly where the ticket does not wait or its request is open

none_exactly : (o : Option Outcome) (x : Option Key) → (o ≡ None → is_some x ≡ true) → ((k : Key) → x ≡ Some k → o ≡ None) → is_none o ≡ is_some x
none_exactly None x f g = sym (f refl)
none_exactly (Some o) None f g = refl
none_exactly (Some o) (Some k) f g = let no = g k refl in cc

counted_there : (tickets : List (ℕ × ℕ)) (t n : ℕ) → at_number tickets t ≡ Some n → 0 < waiting_count tickets n
counted_there tickets t n there =
    let e : 1 + waiting_count (remove_entry (λ m. m == t) tickets) n ≡ waiting_count tickets n =
    subst (λ b. cond b 1 0 + waiting_count (remove_entry (λ m. m == t) tickets) n ≡ waiting_count tickets n) (same_number n) (waiting_count-remove_entry tickets t n n there) in
    omega arith

none_step : {keys : List (ℕ × Key)} {numbers : Key → Option ℕ} {tickets : List (ℕ × ℕ)} {waited : ℕ → Option Waited} → IsKept keys numbers tickets waited
    → (t : ℕ) (o : Option ℕ) → at_number tickets t ≡ o → is_none (option_and_then (λ n. outcome_in (waited n)) o) ≡ option_map_or (λ n. is_some (at_number keys n)) o true
none_step kept t None there = refl
none_step {keys} {numbers} {tickets} {waited} kept t (Some n) there =
    let some = some_counted (waiting_count tickets n) (waited n) (kept.counted n) (counted_there tickets t n there) in
    none_exactly (outcome_in (waited n)) (at_number keys n) (kept.answered n some) (kept.unanswered n)

pub none_to_take : {keys : List (ℕ × Key)} {numbers : Key → Option ℕ} {tickets : List (ℕ × ℕ)} {waited : ℕ → Option Waited} → IsKept keys numbers tickets waited
    → (t : ℕ) → is_none (outcome_for (table_of keys (seen_tickets tickets waited)) t) ≡ has_none_to_take (table_of keys (seen_tickets tickets waited)) t
none_to_take {keys} {numbers} {tickets} {waited} kept t =
    ap is_none (outcome_for-seen keys tickets waited t) ∙ none_step kept t (at_number tickets t) refl
    ∙ ap (λ o. option_map_or (λ n. is_some (at_number keys n)) o true) (sym (waits_for-seen keys tickets waited t))
