-- The first entry of a past that meets a test is the same in a part that keeps it.
use Rattle.std.proofs.Common.{◌≡◌, ℕ, Bool, true, List, [], ◌∷◌, refl, sym, ap, ◌∙◌, inl, inr}
use Rattle.std.specs.Prelude.{Option, Some, None, if◌then◌else◌}
use Rattle.sd_rules.specs.declared.replies.Entry.{Entry}
use Rattle.sd_rules.specs.Past.{or_else}
use Rattle.sd_forgetting.specs.Parts.{part, entry_at, IsAt, numbers_fall}
use Rattle.sd_forgetting.proofs.Tests.{none_is_not, if_true}
use Rattle.sd_forgetting.proofs.Places.{keeps_if, entry_kept, one_of_number}

-- where the first stands
pub record FirstAt {X : Type 0} (hit : List Entry → Entry → Option X) (xs : List Entry) (x : X) : Type 0 where
  pub entry : Entry
  pub past : List Entry
  pub at : IsAt xs entry past
  pub hits : hit past entry ≡ Some x

first_by : {X : Type 0} (hit : List Entry → Entry → Option X) (e : Entry) (past : List Entry) (x : X) (o y : Option X) → hit past e ≡ o → or_else o y ≡ Some x →
    (y ≡ Some x → FirstAt hit past x) → FirstAt hit (e ∷ past) x
first_by hit e past x None y is h rest = (let f = rest h in record { entry = f.entry; past = f.past; at = inr f.at; hits = f.hits })
first_by hit e past x (Some z) y is h rest = record { entry = e; past = past; at = inl (refl, refl); hits = is ∙ h }

pub first_at : {X : Type 0} (s : List Entry → Option X) (hit : List Entry → Entry → Option X) → s [] ≡ None →
    ((e : Entry) (past : List Entry) → s (e ∷ past) ≡ or_else (hit past e) (s past)) → (xs : List Entry) (x : X) → s xs ≡ Some x → FirstAt hit xs x
first_at s hit nothing cut [] x h = absurd (none_is_not x (sym nothing ∙ h))
first_at s hit nothing cut (e ∷ past) x h =
    first_by hit e past x (hit past e) (s past) refl (sym (cut e past) ∙ h) (first_at s hit nothing cut past x)

module _
    {X : Type 0} (keep : List Entry → Entry → Bool) (s : List Entry → Option X) (hit : List Entry → Entry → Option X)
    (cut : (e : Entry) (past : List Entry) → s (e ∷ past) ≡ or_else (hit past e) (s past)) (all : List Entry)
    (later : (e : Entry) (past : List Entry) → IsAt all e past → hit past e ≡ None → hit (part keep past) e ≡ None)
    (here : (e : Entry) (past : List Entry) (x : X) → IsAt all e past → hit past e ≡ Some x → s all ≡ Some x → (keep past e ≡ true) × (hit (part keep past) e ≡ Some x)) where
  else_first : (e : Entry) (past : List Entry) (x : X) → hit past e ≡ Some x → s (e ∷ past) ≡ Some x
  else_first e past x h = cut e past ∙ ap (λ (y : Option X). or_else y (s past)) h

  else_rest : (e : Entry) (past : List Entry) → hit past e ≡ None → s (e ∷ past) ≡ s past
  else_rest e past h = cut e past ∙ ap (λ (y : Option X). or_else y (s past)) h

  one : (e : Entry) (past : List Entry) → IsAt all e past → s all ≡ s (e ∷ past) → (s all ≡ s past → s past ≡ s (part keep past)) → (h : Option X) → hit past e ≡ h →
      s (e ∷ past) ≡ s (if keep past e then e ∷ part keep past else part keep past)
  one e past at same rest (Some x) h =
      let first = else_first e past x h in
      let k = here e past x at h (same ∙ first) in
      first ∙ (sym (else_first e (part keep past) x k.1)
      ∙ ap s (sym (if_true (keep past e) (e ∷ part keep past) (part keep past) k.0)))
  one e past at same rest None h =
      let skip = else_rest e past h in
      let below = skip ∙ rest (same ∙ skip) in
      keeps_if s (keep past e) e (part keep past) (s (e ∷ past))
      (λ _. below ∙ sym (else_rest e (part keep past) (later e past at h)))
      (λ _. below)

  pub first_kept : (xs : List Entry) → ((e : Entry) (past : List Entry) → IsAt xs e past → IsAt all e past) → s all ≡ s xs → s xs ≡ s (part keep xs)
  first_kept [] within same = refl
  first_kept (e ∷ past) within same =
      one e past (within e past (inl (refl, refl))) same
      (first_kept past (λ x q h. within x q (inr h))) (hit past e) refl

  -- the entry of the first is the same in the part
  pub first_entry_same : s [] ≡ None → (number_of : X → ℕ) → ((e : Entry) (past : List Entry) (x : X) → hit past e ≡ Some x → number_of x ≡ e.number) → (b : ℕ) → numbers_fall b all ≡ true →
      (x : X) → s all ≡ Some x → entry_at all (number_of x) ≡ entry_at (part keep all) (number_of x)
  first_entry_same nothing number_of named b falls x h =
      let f = first_at s hit nothing cut all x h in
      let k = here f.entry f.past x f.at f.hits h in
      entry_kept keep (number_of x) all
      (λ e past at same.
      let one = one_of_number b all e past f.entry f.past falls at f.at (same ∙ named f.entry f.past x f.hits) in
      ap (λ (z : Entry). keep past z) one.0 ∙ (ap (λ (l : List Entry). keep l f.entry) one.1 ∙ k.0))
