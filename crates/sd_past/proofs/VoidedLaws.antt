-- Whether the answer of an entry is voided is a comparison of numbers.
use Rattle.std.proofs.Common.{◌≡◌, ℕ, ◌<◌, nat_lt, true, false, List, [], ◌∷◌, ◌++◌, reverse, length, get_or, take, Some, sym, ◌∙◌, ap, arith}
use Rattle.sd_rules.specs.declared.keys.Key.{Key}
use Rattle.sd_rules.specs.declared.records.Answered.{Answered}
use Rattle.sd_rules.specs.declared.replies.Entry.{Entry}
use Rattle.sd_rules.specs.Past.{Standing, answer_in, voids, is_void_after}
use Rattle.sd_voids.specs.Bounds.{Bounds}
use Rattle.sd_voids.specs.Entries.{falls, numbers_fall}
use Rattle.sd_voids.specs.Voids.{last_void, bound_of, no_bounds, HoldsVoids}
use Rattle.sd_voids.proofs.FallLaws.{above, tail_falls, falls_from_some}
use Rattle.sd_voids.proofs.VoidLaws.{last_void_before, holds_voids_other, holds_no_voids, answer_number, answer_voids_none, voided_here, voided_there}
use Rattle.sd_findings.specs.Users.{StandsIn}
use Rattle.sd_findings.proofs.SinceLaws.{stands_at}

-- a journal of no entries
pub holds_none : HoldsVoids [] no_bounds
holds_none = holds_no_voids

-- an entry that voids nothing
pub holds_other : (past : List Entry) (e : Entry) (b : Bounds) → ((own : Key) (answered : Answered) → voids e.event own answered ≡ false)
    → HoldsVoids past b → HoldsVoids (e ∷ past) b
holds_other past e b none holds = holds_voids_other past e b none holds

module _ (a : Standing) where
  by_number : (newer : List Entry) (e : Entry) (past : List Entry) (n : ℕ) → numbers_fall n (newer ++ e ∷ past) ≡ true → a.number ≡ e.number
      → voids e.event a.own a.answered ≡ false
      → is_void_after (newer ++ e ∷ past) a ≡ nat_lt a.number (last_void (newer ++ e ∷ past) a.own a.answered)
  by_number [] e past n falls same none =
      voided_here e a (voids e.event a.own a.answered) (is_void_after past a) (last_void past a.own a.answered) same none
      (last_void_before past e.number a.own a.answered (tail_falls n e past falls))
  by_number (x ∷ xs) e past n falls same none =
      let rest : numbers_fall x.number (xs ++ e ∷ past) ≡ true = tail_falls n x (xs ++ e ∷ past) falls in
      let near : e.number < x.number = above xs e past x.number rest in
      let lt : a.number < x.number = omega arith in
      voided_there x a (voids x.event a.own a.answered) (is_void_after (xs ++ e ∷ past) a) (last_void (xs ++ e ∷ past) a.own a.answered) lt
      (by_number xs e past x.number rest same none)

  by_stand : (all : List Entry) (e : Entry) → falls all ≡ true → StandsIn all e → a.number ≡ e.number → voids e.event a.own a.answered ≡ false
      → is_void_after all a ≡ nat_lt a.number (last_void all a.own a.answered)
  by_stand all e h stands same none =
      let whole : List Entry = stands.newer ++ e ∷ stands.past in
      let some : (n : ℕ) × (numbers_fall n whole ≡ true) = falls_from_some whole (ap falls (sym stands.split) ∙ h) in
      ap (λ (l : List Entry). is_void_after l a) stands.split
      ∙ by_number stands.newer e stands.past some.0 some.1 same none
      ∙ ap (λ (l : List Entry). nat_lt a.number (last_void l a.own a.answered)) (sym stands.split)

-- of the answer that the entry at a place holds
pub void_after_is : (es : List Entry) (i : ℕ) (e : Entry) (b : Bounds) (a : Standing) → falls (reverse es) ≡ true → HoldsVoids (reverse es) b → i < length es
    → e ≡ get_or es i e → answer_in (reverse (take i es)) e ≡ Some a
    → nat_lt a.number (bound_of b a.own a.answered) ≡ is_void_after (reverse es) a
void_after_is es i e b a falling holds lt at is =
    let before : List Entry = reverse (take i es) in
    ap (λ (n : ℕ). nat_lt a.number n) (holds.each a.own a.answered)
    ∙ sym (by_stand a (reverse es) e falling (stands_at es i e lt at) (answer_number before e e.event a is) (answer_voids_none before e e.event a a.own a.answered is))
