-- Why an entry is looked at, one reason at a time.
use Rattle.std.proofs.Common.{◌≡◌, Bool, true, List}
use Rattle.std.specs.Prelude.{is_some, ◌||◌}
use Rattle.sd_rules.specs.declared.replies.Entry.{Entry}
use Rattle.sd_rules.specs.Requests.{is_open, waits_for}
use Rattle.sd_rules.specs.Needed.{is_number, is_newest_answer, is_void_needed, serves_open, is_fall_needed, is_last_online, last_outage, serves_waiting, is_login_needed, user_logged_in, is_wrong_needed, user_guessed, is_last_stop, is_last, is_looked_at}
use Rattle.sd_forgetting.proofs.Tests.{or_left, or_right, either}

any_of : {P : Type 0} (a b c d e f g h i j k l m : Bool) → (a || (b || (c || (d || (e || (f || (g || (h || (i || (j || (k || (l || (m))))))))))))) ≡ true
    → (a ≡ true → P) → (b ≡ true → P) → (c ≡ true → P) → (d ≡ true → P) → (e ≡ true → P) → (f ≡ true → P) → (g ≡ true → P) → (h ≡ true → P) → (i ≡ true → P) → (j ≡ true → P) → (k ≡ true → P) → (l ≡ true → P) → (m ≡ true → P) → P
any_of a b c d e f g h i j k l m h0 f0 f1 f2 f3 f4 f5 f6 f7 f8 f9 f10 f11 f12 = either a (b || (c || (d || (e || (f || (g || (h || (i || (j || (k || (l || (m)))))))))))) h0 f0 (λ h1. either b (c || (d || (e || (f || (g || (h || (i || (j || (k || (l || (m))))))))))) h1 f1 (λ h2. either c (d || (e || (f || (g || (h || (i || (j || (k || (l || (m)))))))))) h2 f2 (λ h3. either d (e || (f || (g || (h || (i || (j || (k || (l || (m))))))))) h3 f3 (λ h4. either e (f || (g || (h || (i || (j || (k || (l || (m)))))))) h4 f4 (λ h5. either f (g || (h || (i || (j || (k || (l || (m))))))) h5 f5 (λ h6. either g (h || (i || (j || (k || (l || (m)))))) h6 f6 (λ h7. either h (i || (j || (k || (l || (m))))) h7 f7 (λ h8. either i (j || (k || (l || (m)))) h8 f8 (λ h9. either j (k || (l || (m))) h9 f9 (λ h10. either k (l || (m)) h10 f10 (λ h11. either l m h11 f11 f12)))))))))))

module _ (all past : List Entry) (e : Entry) where
  abbrev tail_last : Bool
  tail_last = is_last all e

  abbrev tail_stop : Bool
  tail_stop = is_last_stop all e || tail_last

  abbrev tail_wrong : Bool
  tail_wrong = is_wrong_needed all e (user_guessed e.event) || tail_stop

  abbrev tail_login : Bool
  tail_login = is_login_needed all e.number (user_logged_in past e.event e.reply) || tail_wrong

  abbrev tail_served : Bool
  tail_served = serves_waiting all e.number all || tail_login

  abbrev tail_waiting : Bool
  tail_waiting = is_some (waits_for all e.number) || tail_served

  abbrev tail_outage : Bool
  tail_outage = is_number e.number (last_outage all) || tail_waiting

  abbrev tail_online : Bool
  tail_online = is_last_online all e || tail_outage

  abbrev tail_fall : Bool
  tail_fall = is_fall_needed all e e.event || tail_online

  abbrev tail_serving : Bool
  tail_serving = serves_open all e e.event || tail_fall

  abbrev tail_open : Bool
  tail_open = is_open all e.number || tail_serving

  abbrev tail_void : Bool
  tail_void = is_void_needed all past e e.event || tail_open

  abbrev tail_answer : Bool
  tail_answer = is_newest_answer all past e || tail_void

  pub by_answer : (is_newest_answer all past e) ≡ true → is_looked_at all past e ≡ true
  by_answer h = or_left (is_newest_answer all past e) tail_void h

  pub by_void : (is_void_needed all past e e.event) ≡ true → is_looked_at all past e ≡ true
  by_void h = or_right (is_newest_answer all past e) tail_void (or_left (is_void_needed all past e e.event) tail_open h)

  pub by_open : (is_open all e.number) ≡ true → is_looked_at all past e ≡ true
  by_open h = or_right (is_newest_answer all past e) tail_void (or_right (is_void_needed all past e e.event) tail_open (or_left (is_open all e.number) tail_serving h))

  pub by_serving : (serves_open all e e.event) ≡ true → is_looked_at all past e ≡ true
  by_serving h = or_right (is_newest_answer all past e) tail_void (or_right (is_void_needed all past e e.event) tail_open (or_right (is_open all e.number) tail_serving (or_left (serves_open all e e.event) tail_fall h)))

  pub by_fall : (is_fall_needed all e e.event) ≡ true → is_looked_at all past e ≡ true
  by_fall h = or_right (is_newest_answer all past e) tail_void (or_right (is_void_needed all past e e.event) tail_open (or_right (is_open all e.number) tail_serving (or_right (serves_open all e e.event) tail_fall (or_left (is_fall_needed all e e.event) tail_online h))))

  pub by_online : (is_last_online all e) ≡ true → is_looked_at all past e ≡ true
  by_online h = or_right (is_newest_answer all past e) tail_void (or_right (is_void_needed all past e e.event) tail_open (or_right (is_open all e.number) tail_serving (or_right (serves_open all e e.event) tail_fall (or_right (is_fall_needed all e e.event) tail_online (or_left (is_last_online all e) tail_outage h)))))

  pub by_outage : (is_number e.number (last_outage all)) ≡ true → is_looked_at all past e ≡ true
  by_outage h = or_right (is_newest_answer all past e) tail_void (or_right (is_void_needed all past e e.event) tail_open (or_right (is_open all e.number) tail_serving (or_right (serves_open all e e.event) tail_fall (or_right (is_fall_needed all e e.event) tail_online (or_right (is_last_online all e) tail_outage (or_left (is_number e.number (last_outage all)) tail_waiting h))))))

  pub by_waiting : (is_some (waits_for all e.number)) ≡ true → is_looked_at all past e ≡ true
  by_waiting h = or_right (is_newest_answer all past e) tail_void (or_right (is_void_needed all past e e.event) tail_open (or_right (is_open all e.number) tail_serving (or_right (serves_open all e e.event) tail_fall (or_right (is_fall_needed all e e.event) tail_online (or_right (is_last_online all e) tail_outage (or_right (is_number e.number (last_outage all)) tail_waiting (or_left (is_some (waits_for all e.number)) tail_served h)))))))

  pub by_served : (serves_waiting all e.number all) ≡ true → is_looked_at all past e ≡ true
  by_served h = or_right (is_newest_answer all past e) tail_void (or_right (is_void_needed all past e e.event) tail_open (or_right (is_open all e.number) tail_serving (or_right (serves_open all e e.event) tail_fall (or_right (is_fall_needed all e e.event) tail_online (or_right (is_last_online all e) tail_outage (or_right (is_number e.number (last_outage all)) tail_waiting (or_right (is_some (waits_for all e.number)) tail_served (or_left (serves_waiting all e.number all) tail_login h))))))))

  pub by_login : (is_login_needed all e.number (user_logged_in past e.event e.reply)) ≡ true → is_looked_at all past e ≡ true
  by_login h = or_right (is_newest_answer all past e) tail_void (or_right (is_void_needed all past e e.event) tail_open (or_right (is_open all e.number) tail_serving (or_right (serves_open all e e.event) tail_fall (or_right (is_fall_needed all e e.event) tail_online (or_right (is_last_online all e) tail_outage (or_right (is_number e.number (last_outage all)) tail_waiting (or_right (is_some (waits_for all e.number)) tail_served (or_right (serves_waiting all e.number all) tail_login (or_left (is_login_needed all e.number (user_logged_in past e.event e.reply)) tail_wrong h)))))))))

  pub by_wrong : (is_wrong_needed all e (user_guessed e.event)) ≡ true → is_looked_at all past e ≡ true
  by_wrong h = or_right (is_newest_answer all past e) tail_void (or_right (is_void_needed all past e e.event) tail_open (or_right (is_open all e.number) tail_serving (or_right (serves_open all e e.event) tail_fall (or_right (is_fall_needed all e e.event) tail_online (or_right (is_last_online all e) tail_outage (or_right (is_number e.number (last_outage all)) tail_waiting (or_right (is_some (waits_for all e.number)) tail_served (or_right (serves_waiting all e.number all) tail_login (or_right (is_login_needed all e.number (user_logged_in past e.event e.reply)) tail_wrong (or_left (is_wrong_needed all e (user_guessed e.event)) tail_stop h))))))))))

  pub by_stop : (is_last_stop all e) ≡ true → is_looked_at all past e ≡ true
  by_stop h = or_right (is_newest_answer all past e) tail_void (or_right (is_void_needed all past e e.event) tail_open (or_right (is_open all e.number) tail_serving (or_right (serves_open all e e.event) tail_fall (or_right (is_fall_needed all e e.event) tail_online (or_right (is_last_online all e) tail_outage (or_right (is_number e.number (last_outage all)) tail_waiting (or_right (is_some (waits_for all e.number)) tail_served (or_right (serves_waiting all e.number all) tail_login (or_right (is_login_needed all e.number (user_logged_in past e.event e.reply)) tail_wrong (or_right (is_wrong_needed all e (user_guessed e.event)) tail_stop (or_left (is_last_stop all e) tail_last h)))))))))))

  pub by_last : (is_last all e) ≡ true → is_looked_at all past e ≡ true
  by_last h = or_right (is_newest_answer all past e) tail_void (or_right (is_void_needed all past e e.event) tail_open (or_right (is_open all e.number) tail_serving (or_right (serves_open all e e.event) tail_fall (or_right (is_fall_needed all e e.event) tail_online (or_right (is_last_online all e) tail_outage (or_right (is_number e.number (last_outage all)) tail_waiting (or_right (is_some (waits_for all e.number)) tail_served (or_right (serves_waiting all e.number all) tail_login (or_right (is_login_needed all e.number (user_logged_in past e.event e.reply)) tail_wrong (or_right (is_wrong_needed all e (user_guessed e.event)) tail_stop (or_right (is_last_stop all e) tail_last (h))))))))))))

  pub looked_why : {P : Type 0} → is_looked_at all past e ≡ true
      → ((is_newest_answer all past e) ≡ true → P) → ((is_void_needed all past e e.event) ≡ true → P) → ((is_open all e.number) ≡ true → P) → ((serves_open all e e.event) ≡ true → P) → ((is_fall_needed all e e.event) ≡ true → P) → ((is_last_online all e) ≡ true → P) → ((is_number e.number (last_outage all)) ≡ true → P) → ((is_some (waits_for all e.number)) ≡ true → P) → ((serves_waiting all e.number all) ≡ true → P) → ((is_login_needed all e.number (user_logged_in past e.event e.reply)) ≡ true → P) → ((is_wrong_needed all e (user_guessed e.event)) ≡ true → P) → ((is_last_stop all e) ≡ true → P) → ((is_last all e) ≡ true → P) → P
  looked_why h f0 f1 f2 f3 f4 f5 f6 f7 f8 f9 f10 f11 f12 =
      any_of (is_newest_answer all past e) (is_void_needed all past e e.event) (is_open all e.number) (serves_open all e e.event) (is_fall_needed all e e.event) (is_last_online all e) (is_number e.number (last_outage all)) (is_some (waits_for all e.number)) (serves_waiting all e.number all) (is_login_needed all e.number (user_logged_in past e.event e.reply)) (is_wrong_needed all e (user_guessed e.event)) (is_last_stop all e) (is_last all e) h f0 f1 f2 f3 f4 f5 f6 f7 f8 f9 f10 f11 f12
