-- The reply by what is kept is the reply by the journal.
use Rattle.std.proofs.Common.{◌≡◌, ℕ, ◌-◌, nat_lt, not, reverse, Bool, true, cond, ◌&&◌, ◌||◌, List, Option, None, Some, refl, sym, ◌∙◌, ap}
use Rattle.std.specs.Option.{option_map}
use Rattle.sd_rules.specs.declared.keys.Key.{Key}
use Rattle.sd_rules.specs.declared.settings.Settings.{Settings}
use Rattle.sd_rules.specs.declared.replies.Entry.{Entry}
use Rattle.sd_rules.specs.declared.replies.Reply.{Reply}
use Rattle.sd_rules.specs.declared.replies.Reply.TheVariants as replies
use Rattle.sd_rules.specs.Past.{Standing, newest, is_void_after, outage_at}
use Rattle.sd_rules.specs.Requests.{open_for}
use Rattle.sd_rules.specs.Answers as answers
use Rattle.sd_cache.specs.declared.kept.Newest.{Newest}
use Rattle.sd_cache.specs.Kept.{kept_of}
use Rattle.sd_index.specs.declared.places.Place.{Place}
use Rattle.sd_voids.specs.Bounds.{Bounds}
use Rattle.sd_index.specs.Asked as asked
use Rattle.sd_voids.specs.Entries.{numbers_fall}
use Rattle.sd_index.specs.Outages.{standing_at}
use Rattle.sd_index.specs.Places.{running_in}
use Rattle.sd_voids.specs.Voids.{bound_of}
use Rattle.sd_index.specs.Table.{Table, Indexes, reply_in}
use Rattle.sd_voids.proofs.FallLaws.{falls_from_some}
use Rattle.sd_voids.proofs.VoidLaws.{voided_by_number}
use Rattle.sd_index.proofs.RunningLaws.{running_is_open}

fresh_is : (s : Settings) (past : List Entry) (bound t : ℕ) (a : Standing) → nat_lt a.number bound ≡ is_void_after past a
    → asked.is_fresh s bound t (kept_of a) ≡ answers.is_fresh s past t a
fresh_is s past bound t a void = ap (λ (v : Bool). not (a.marked || v) && nat_lt (t - a.moment) (answers.timeout_of s a)) void

in_outage_is : (o : ℕ) (x : Option Standing) → asked.reply_in_outage o (option_map kept_of x) ≡ answers.reply_in_outage o x
in_outage_is o None = refl
in_outage_is o (Some a) = refl

unless_fresh_is : (number : ℕ) (x : Option Standing) (outage running : Option ℕ)
    → asked.reply_unless_fresh number (option_map kept_of x) outage running ≡ answers.reply_unless_fresh number x outage running
unless_fresh_is number x None running = refl
unless_fresh_is number x (Some o) running = in_outage_is o x

module _ (s : Settings) (past : List Entry) (b : Bounds) (number t : ℕ) (outage running : Option ℕ) where
  by_newest_is : (x : Option Standing) → ((a : Standing) → x ≡ Some a → nat_lt a.number (bound_of b a.own a.answered) ≡ is_void_after past a)
      → asked.reply_by_newest s number t (option_map kept_of x) (asked.bound_for b (option_map kept_of x)) outage running
      ≡ answers.reply_by_newest s past number t x outage running
  by_newest_is None void = unless_fresh_is number None outage running
  by_newest_is (Some a) void =
      let bound : ℕ = bound_of b a.own a.answered in
      let old : Reply = asked.reply_unless_fresh number (Some (kept_of a)) outage running in
      ap (λ (f : Bool). cond f (asked.reply_if_fresh s number t (kept_of a) outage running) old) (fresh_is s past bound t a (void a refl))
      ∙ ap (λ (r : Reply). cond (answers.is_fresh s past t a) (answers.reply_if_fresh s number t a outage running) r) (unless_fresh_is number (Some a) outage running)

pub reply_is : (s : Settings) (past : List Entry) (number t : ℕ) (k : Key) (i : Table) → Indexes past i
    → reply_in i s number t k ≡ answers.reply_to_ask s past number t k
reply_is s past number t k i is =
    let some : (n : ℕ) × (numbers_fall n past ≡ true) = falls_from_some past is.numbers in
    let running : running_in (reverse i.places) k ≡ open_for past k =
    ap (λ (ps : List Place). running_in (reverse ps) k) is.places ∙ running_is_open past k is.numbers in
    let stands : Option ℕ = standing_at i.outage s.offline_timeout t in
    ap (λ (r : Reply). cond (answers.is_filtered s k) replies.Filtered r)
    (ap (λ (a : Option Newest). asked.reply_by_newest s number t a (asked.bound_for i.bounds a) stands (running_in (reverse i.places) k)) (is.answers.each k)
    ∙ ap (λ (o : Option ℕ). asked.reply_by_newest s number t (option_map kept_of (newest past k)) (asked.bound_for i.bounds (option_map kept_of (newest past k))) o (running_in (reverse i.places) k)) (is.outage.each s.offline_timeout t)
    ∙ ap (λ (r : Option ℕ). asked.reply_by_newest s number t (option_map kept_of (newest past k)) (asked.bound_for i.bounds (option_map kept_of (newest past k))) (outage_at s.offline_timeout past t) r) running
    ∙ by_newest_is s past i.bounds number t (outage_at s.offline_timeout past t) (open_for past k) (newest past k)
    (λ a newest_is. ap (λ (n : ℕ). nat_lt a.number n) (is.bounds.each a.own a.answered) ∙ sym (voided_by_number past some.0 k a some.1 newest_is)))
