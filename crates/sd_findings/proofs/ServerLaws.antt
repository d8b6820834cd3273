-- What is kept of falls says what the journal says of servers.
use Rattle.std.proofs.Common.{◌≡◌, ℕ, Bool, true, false, cond, ◌&&◌, ◌==◌, List, [], ◌∷◌, Option, None, Some, refl, sym, ◌∙◌, ap}
use Rattle.sd_rules.specs.declared.events.Event.{Event}
use Rattle.sd_rules.specs.declared.events.Event.TheVariants.{Fall, Kept}
use Rattle.sd_rules.specs.declared.events.Row.TheVariants as rows
use Rattle.sd_rules.specs.declared.replies.Entry.{Entry}
use Rattle.sd_rules.specs.declared.replies.Reply.{Reply}
use Rattle.sd_rules.specs.Needed.{is_number, last_fall}
use Rattle.sd_rules.specs.Servers.{is_noted, is_fall_of, is_online}
use Rattle.sd_findings.specs.Falls.{server_fallen, fall_of, put_fall, HoldFalls}

noted_fall : (n s : ℕ) (c : Bool) (server : ℕ) (before : Option ℕ)
    → put_fall (cond c (Some server) None) n s before ≡ cond ((server == s) && c) (Some n) before
noted_fall n s true server before = ap (λ (b : Bool). cond b (Some n) before) (sym (and_all (server == s)))
  where
    and_all : (b : Bool) → (b && true) ≡ b
    and_all true = refl
    and_all false = refl
noted_fall n s false server before = ap (λ (b : Bool). cond b (Some n) before) (sym (and_none (server == s)))
  where
    and_none : (b : Bool) → (b && false) ≡ false
    and_none true = refl
    and_none false = refl

fall_after : (event : Event) (reply : Reply) (n s : ℕ) (before : Option ℕ) → put_fall (server_fallen event reply) n s before ≡ cond (is_fall_of event reply s) (Some n) before
fall_after (Fall request server why) reply n s before = noted_fall n s (is_noted reply) server before
fall_after (Kept (rows.Fall m t server)) reply n s before = refl
fall_after _ reply n s before = refl

-- no word that the directory can be reached
not_online : (b : Bool) (o : Option ℕ) → b ≡ false → o ≡ cond b None o
not_online true o h = cc
not_online false o h = refl

is_so : (b : Bool) (o : Option ℕ) → b ≡ true → ◌≡◌ {A = Option ℕ} None (cond b None o)
is_so true o h = refl
is_so false o h = cc

pub falls_after : (past : List Entry) (e : Entry) (old new : List (ℕ × ℕ)) (server : Option ℕ) → server ≡ server_fallen e.event e.reply → is_online e.event ≡ false
    → ((s : ℕ) → fall_of new s ≡ put_fall server e.number s (fall_of old s)) → HoldFalls past old → HoldFalls (e ∷ past) new
falls_after past e old new server is online puts holds = record {
  each = λ s.
      puts s
      ∙ ap (λ (o : Option ℕ). put_fall o e.number s (fall_of old s)) is
      ∙ fall_after e.event e.reply e.number s (fall_of old s)
      ∙ ap (λ (o : Option ℕ). cond (is_fall_of e.event e.reply s) (Some e.number) o) (holds.each s)
      ∙ not_online (is_online e.event) (cond (is_fall_of e.event e.reply s) (Some e.number) (last_fall past s)) online;
}

pub falls_cleared : (past : List Entry) (e : Entry) (new : List (ℕ × ℕ)) → new ≡ [] → is_online e.event ≡ true → HoldFalls (e ∷ past) new
falls_cleared past e new none online = record {
  each = λ s.
      ap (λ (falls : List (ℕ × ℕ)). fall_of falls s) none
      ∙ is_so (is_online e.event) (cond (is_fall_of e.event e.reply s) (Some e.number) (last_fall past s)) online;
}

pub no_falls : HoldFalls [] []
no_falls = record { each = λ s. refl }

pub fall_is : (past : List Entry) (falls : List (ℕ × ℕ)) (n s : ℕ) → HoldFalls past falls → is_number n (fall_of falls s) ≡ is_number n (last_fall past s)
fall_is past falls n s holds = ap (λ (o : Option ℕ). is_number n o) (holds.each s)
