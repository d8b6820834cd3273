-- What a link told at its making and at its end is what the outside told before and tells after.
use Rattle.std.proofs.Common.{◌≡◌, ◌⊎◌, inl, inr, true, is_some, ℕ, List, [], Option, Some, None, refl, ap, subst, sym, ◌∙◌, arith}
use Rattle.std.proofs.lemmas.List.{append-nil}
use Rattle.sd_tools.specs.Endings.{OfWords, OfOptions}
use Rattle.sd_tools.specs.Queries.{first_line}
use Rattle.sd_tools.specs.Replies.{Told, IsFrontSent, with_pieces}
use Rattle.sd_tools.specs.declared.endings.TheConstants.{USAGE}
use Rattle.sd_tools.specs.declared.queries.Query.{Query}
use Rattle.sd_tools.specs.declared.queries.Query.TheVariants as queries
use Rattle.sd_wire.specs.declared.requests.Request.{Request}
use Rattle.sd_wire.specs.declared.requests.Request.TheVariants as requests

pub moved : (P : Told → Told → Type 0) (x x' y y' : Told) → x ≡ x' → y ≡ y' → P x y → P x' y'
moved P x x' y y' e f p = subst (λ (z : Told). P x' z) f (subst (λ (z : Told). P z y) e p)

no_pieces : (known : Option (List (List ℕ))) → known ≡ with_pieces known []
no_pieces None = refl
no_pieces (Some pieces) = ap Some (sym (append-nil pieces))

-- nothing was sent
pub unsent : (asked : List Request) (before now : Told) → now ≡ before → IsFrontSent asked before now
unsent asked before now e = (0, omega arith, ap (λ (t : Told). t.sent) e ∙ no_pieces before.sent)

-- a fact of every request is one of the request of words
pub of_words : (query : Option Query) (input : Option (List ℕ)) (P : Request → Type 0) → ((r : Request) → P r) → OfWords query input P
of_words None input P f = tt
of_words (Some (queries.Asked request)) input P f = f request
of_words (Some (queries.Login user)) None P f = tt
of_words (Some (queries.Login user)) (Some line) P f = f (requests.Login user (first_line line))

pub of_options : (found : Option (List Request)) (P : List Request → Type 0) → ((rs : List Request) → P rs) → OfOptions found P
of_options None P f = tt
of_options (Some rs) P f = f rs

-- words that have a form do not end by their usage
pub without_usage : {A : Type 0} (found : Option A) (status : ℕ) (P : Type 0) → is_some found ≡ true → (status ≡ USAGE → found ≡ None) → (status ≡ USAGE) ⊎ P → P
without_usage None status P h f s = cc
without_usage (Some x) status P h f (inl e) = let none = f e in cc
without_usage (Some x) status P h f (inr p) = p
