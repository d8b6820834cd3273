-- A text that is cut in pieces.
use Rattle.std.proofs.Common.{◌≡◌, ◌≢◌, ℕ, true, false, nat_eq, List, ◌++◌, length, take, drop, codes, Result, Ok, Err, refl, sym, ap, ◌∙◌, append_assoc}
use Rattle.std.specs.Prelude.{IfErr}
use Rattle.std.specs.Cmp.Lexicographic.{pointwise, same_text, other_text}
use Rattle.std.proofs.lemmas.List.{take-append-drop}
use Rattle.std.proofs.Math.Seq.{take-append_seam, drop-append_seam}

-- the front that was tested, and what is behind it
pub front_and_rest : (text front : List ℕ) → pointwise nat_eq (take (length front) text) front ≡ true → text ≡ front ++ drop (length front) text
front_and_rest text front e =
    sym (take-append-drop (length front) text) ∙ ap (λ (l : List ℕ). l ++ drop (length front) text) (same_text (take (length front) text) front (sym e))

pub no_front : (text front rest : List ℕ) → pointwise nat_eq (take (length front) text) front ≡ false → text ≢ front ++ rest
no_front text front rest e is =
    other_text (take (length front) text) front (sym e) (ap (take (length front)) is ∙ take-append_seam front rest)

-- of two ways to cut a text at one place both rests are equal
pub same_rest : (a b c d : List ℕ) → length a ≡ length c → a ++ b ≡ c ++ d → b ≡ d
same_rest a b c d e is =
    sym (drop-append_seam a b) ∙ ap (drop (length a)) is ∙ ap (λ (n : ℕ). drop n (c ++ d)) e ∙ drop-append_seam c d

pub same_front : (a b c d : List ℕ) → length a ≡ length c → a ++ b ≡ c ++ d → a ≡ c
same_front a b c d e is =
    sym (take-append_seam a b) ∙ ap (take (length a)) is ∙ ap (λ (n : ℕ). take n (c ++ d)) e ∙ take-append_seam c d

pub if_err : {T E : Type 0} (r : Result T E) (P : Type 0) → P → IfErr r (λ _. P)
if_err (Ok x) P p = tt
if_err (Err e) P p = p

-- what is left behind the salt
pub behind_salt : (text front salt rest s g : List ℕ) → text ≡ codes "$sd1$" ++ front → front ≡ salt ++ rest → length salt ≡ length s → text ≡ codes "$sd1$" ++ s ++ codes "$" ++ g → rest ≡ codes "$" ++ g
behind_salt text front salt rest s g whole cut len is =
    let fronts : front ≡ s ++ codes "$" ++ g = same_rest (codes "$sd1$") front (codes "$sd1$") (s ++ codes "$" ++ g) refl (sym whole ∙ is) in
    same_rest salt rest s (codes "$" ++ g) len (sym cut ∙ fronts ∙ append_assoc s (codes "$") g)
