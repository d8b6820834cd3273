-- What comes in one call and the next comes in both.
use Rattle.std.proofs.Common.{◌≡◌, ℕ, List, [], ◌∷◌, ◌++◌, length, take, drop, Some, None, refl, sym, ap, ◌∙◌, append_assoc, append-nil, arith}
use Rattle.std.proofs.Math.Seq.{drop-append_seam, drop-append-add}
use Rattle.std.proofs.lemmas.List.{length-append}
use Rattle.std.specs.declared.option.Option.{Option}
use Rattle.std.specs.Io.KnownBytes.{append_known, prepend_known}
use Rattle.sd_client.specs.Coming.{Comes, gained}

append_known_nil : (known : Option (List ℕ)) → append_known known [] ≡ known
append_known_nil None = refl
append_known_nil (Some bytes) = ap Some (append-nil bytes)

prepend_known_nil : (known : Option (List ℕ)) → prepend_known [] known ≡ known
prepend_known_nil None = refl
prepend_known_nil (Some bytes) = refl

append_known_two : (known : Option (List ℕ)) (a b : List ℕ) → append_known (append_known known a) b ≡ append_known known (a ++ b)
append_known_two None a b = refl
append_known_two (Some bytes) a b = ap Some (append_assoc bytes a b)

prepend_known_two : (known : Option (List ℕ)) (a b : List ℕ) → prepend_known a (prepend_known b known) ≡ prepend_known (a ++ b) known
prepend_known_two None a b = refl
prepend_known_two (Some bytes) a b = ap Some (sym (append_assoc a b bytes))

-- a list that grew by some bytes gained these
pub gained_is : (old new more : List ℕ) → new ≡ old ++ more → gained old new ≡ more
gained_is old new more e = rw e (drop-append_seam old more)

-- nothing came
pub comes_nothing : (received received' coming coming' : Option (List ℕ)) (old new : List ℕ) → received' ≡ received → coming ≡ coming' → new ≡ old → Comes received received' coming coming' old new
comes_nothing received received' coming coming' old new e1 e2 e3 =
    let none : gained old new ≡ [] = gained_is old new [] (e3 ∙ sym (append-nil old)) in
    record {
      grown = rw none (e3 ∙ sym (append-nil old));
      received = rw none (e1 ∙ sym (append_known_nil received));
      coming = rw none (e2 ∙ sym (prepend_known_nil coming'));
    }

-- these bytes came
pub comes_some : (received received' coming coming' : Option (List ℕ)) (old new more : List ℕ) → received' ≡ append_known received more → coming ≡ prepend_known more coming' → new ≡ old ++ more → Comes received received' coming coming' old new
comes_some received received' coming coming' old new more e1 e2 e3 =
    let some : gained old new ≡ more = gained_is old new more e3 in
    record {
      grown = rw some e3;
      received = rw some e1;
      coming = rw some e2;
    }

-- first these, then those
pub comes_both : (r1 r2 r3 c1 c2 c3 : Option (List ℕ)) (a b c : List ℕ) → Comes r1 r2 c1 c2 a b → Comes r2 r3 c2 c3 b c → Comes r1 r3 c1 c3 a c
comes_both r1 r2 r3 c1 c2 c3 a b c first second =
    comes_some r1 r3 c1 c3 a c (gained a b ++ gained b c)
    (second.received ∙ ap (λ (known : Option (List ℕ)). append_known known (gained b c)) first.received ∙ append_known_two r1 (gained a b) (gained b c))
    (first.coming ∙ ap (λ (known : Option (List ℕ)). prepend_known (gained a b) known) second.coming ∙ prepend_known_two c3 (gained a b) (gained b c))
    (second.grown ∙ ap (λ (bytes : List ℕ). bytes ++ gained b c) first.grown ∙ append_assoc a (gained a b) (gained b c))

-- the same from a link that told the same of the bytes received, and this of the bytes to come
pub comes_from : (r q r' c d c' : Option (List ℕ)) (old new : List ℕ) → q ≡ r → d ≡ c → Comes q r' d c' old new → Comes r r' c c' old new
comes_from r q r' c d c' old new e1 e2 h = record {
  grown = h.grown;
  received = h.received ∙ ap (λ (known : Option (List ℕ)). append_known known (gained old new)) e1;
  coming = sym e2 ∙ h.coming;
}
