-- What is kept of a journal: of the journal itself, and through what is kept of another.
use Rattle.std.proofs.Common.{◌≡◌, ℕ, ◌≤◌, List, length, arith, refl, sym, ap, ◌∙◌}
use Rattle.sd_rules.specs.declared.replies.Entry.{Entry}
use Rattle.sd_rules.specs.Requests.{is_open}
use Rattle.sd_rules.specs.Needed.{answer_of_outcome}
use Rattle.sd_rules.specs.TextBytes.{text_bytes}
use Rattle.sd_forgetting.specs.Kept.{SameOpen, SameAnswers, SameTickets, SameLogins, SameEnds, IsKeptOf}
use Rattle.sd_forgetting.proofs.Forgets.{open_both}

as_long : (n : ℕ) → n ≤ n
as_long n = omega arith

pub kept_itself : (w : List Entry) → IsKeptOf w w
kept_itself w = record {
  opens = record { reserved = refl; requests = λ n. refl; attempts = λ n. refl; leads = λ n h. refl; falls = λ n i h. refl; picks = λ n i h. refl; voids = λ n own answered h. refl };
  answers = record { is_newest = λ k. refl; voided = λ k a h. refl; entries = λ k a h. refl };
  tickets = record { waiting = λ t. refl; joins = λ t r h. refl; outcomes = λ t r h c. refl; named = λ t r n h c g. refl };
  logins = record { hashes = λ u. refl; hashed = λ u l h. refl; logins = λ u. refl; online = λ u l h. refl; wrongs = λ u. refl; last_wrongs = λ u h. refl };
  ends = record { lately = λ t i. refl; word = refl; stopped = refl; number = λ next. refl; moment = λ floor t. refl };
  shorter = as_long (length w);
  texts = as_long (text_bytes w);
}

module _ (w p q : List Entry) (k : IsKeptOf w p) (l : IsKeptOf p q) where
  still_open : (n : ℕ) → is_open p n ≡ is_open w n
  still_open n = sym (open_both w p k.opens n)

  opens_through : SameOpen w q
  opens_through = record {
    reserved = k.opens.reserved ∙ l.opens.reserved;
    requests = λ n. k.opens.requests n ∙ l.opens.requests n;
    attempts = λ n. k.opens.attempts n ∙ l.opens.attempts n;
    leads = λ n h. k.opens.leads n h ∙ l.opens.leads n (still_open n ∙ h);
    falls = λ n i h. k.opens.falls n i h ∙ l.opens.falls n i (still_open n ∙ h);
    picks = λ n i h. k.opens.picks n i h ∙ l.opens.picks n i (still_open n ∙ h);
    voids = λ n own answered h. k.opens.voids n own answered h ∙ l.opens.voids n own answered (sym (k.opens.requests n) ∙ h);
  }

  answers_through : SameAnswers w q
  answers_through = record {
    is_newest = λ key. k.answers.is_newest key ∙ l.answers.is_newest key;
    voided = λ key a h. k.answers.voided key a h ∙ l.answers.voided key a (sym (k.answers.is_newest key) ∙ h);
    entries = λ key a h. k.answers.entries key a h ∙ l.answers.entries key a (sym (k.answers.is_newest key) ∙ h);
  }

  tickets_through : SameTickets w q
  tickets_through = record {
    waiting = λ t. k.tickets.waiting t ∙ l.tickets.waiting t;
    joins = λ t r h. k.tickets.joins t r h ∙ l.tickets.joins t r (sym (k.tickets.waiting t) ∙ h);
    outcomes = λ t r h c. k.tickets.outcomes t r h c ∙ l.tickets.outcomes t r (sym (k.tickets.waiting t) ∙ h) (sym (k.opens.requests r) ∙ c);
    named = λ t r n h c g. k.tickets.named t r n h c g
        ∙ l.tickets.named t r n (sym (k.tickets.waiting t) ∙ h) (sym (k.opens.requests r) ∙ c) (sym (ap answer_of_outcome (k.tickets.outcomes t r h c)) ∙ g);
  }

  logins_through : SameLogins w q
  logins_through = record {
    hashes = λ u. k.logins.hashes u ∙ l.logins.hashes u;
    hashed = λ u x h. k.logins.hashed u x h ∙ l.logins.hashed u x (sym (k.logins.hashes u) ∙ h);
    logins = λ u. k.logins.logins u ∙ l.logins.logins u;
    online = λ u x h. k.logins.online u x h ∙ l.logins.online u x (sym (k.logins.logins u) ∙ h);
    wrongs = λ u. k.logins.wrongs u ∙ l.logins.wrongs u;
    last_wrongs = λ u h. k.logins.last_wrongs u h ∙ l.logins.last_wrongs u (λ z. h (k.logins.wrongs u ∙ z));
  }

  ends_through : SameEnds w q
  ends_through = record {
    lately = λ t i. k.ends.lately t i ∙ l.ends.lately t i;
    word = k.ends.word ∙ l.ends.word;
    stopped = k.ends.stopped ∙ l.ends.stopped;
    number = λ next. k.ends.number next ∙ l.ends.number next;
    moment = λ floor t. k.ends.moment floor t ∙ l.ends.moment floor t;
  }

  no_longer : (a b c : ℕ) → b ≤ a → c ≤ b → c ≤ a
  no_longer a b c h g = omega arith

  pub kept_through : IsKeptOf w q
  kept_through = record {
    opens = opens_through;
    answers = answers_through;
    tickets = tickets_through;
    logins = logins_through;
    ends = ends_through;
    shorter = no_longer (length w) (length p) (length q) k.shorter l.shorter;
    texts = no_longer (text_bytes w) (text_bytes p) (text_bytes q) k.texts l.texts;
  }
