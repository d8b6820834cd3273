-- Triples among those in order.
use Rattle.std.proofs.Common.{◌≡◌, ℕ, List, [], ◌∷◌, refl, sym, ap, ◌∙◌, subst, inl, inr, ◌⊎◌}
use Rattle.std.specs.declared.cmp.Ordering.{Ordering}
use Rattle.std.specs.declared.cmp.Ordering.TheVariants.{Less, Equal, Greater}
use Rattle.std.specs.Ordering.{match_ordering, ordering_then, nat_cmp}
use Rattle.std.specs.Cmp.Lexicographic.{slice_cmp}
use Rattle.std.specs.BTreeSet.{insert_key}
use Rattle.std.proofs.lemmas.Map.Lookups.{exact_bytes}
use Rattle.sd_triples.specs.declared.triples.Triple.{Triple}
use Rattle.sd_triples.specs.Order.{triple_cmp}
use Rattle.sd_netgroup.specs.Order.{with_triples}
use Rattle.sd_netgroup.specs.Paths.{In}

-- ---- what is equal by order is equal

then_both : (a b : Ordering) → ordering_then a b ≡ Equal → (a ≡ Equal) × (b ≡ Equal)
then_both Less b h = absurd cc
then_both Equal b h = (refl, h)
then_both Greater b h = absurd cc

made : List ℕ → List ℕ → List ℕ → Triple
made host user domain = record { host = host; user = user; domain = domain }

triple_same : (a b : Triple) → triple_cmp a b ≡ Equal → a ≡ b
unfolding made
triple_same a b h =
    let p = then_both (slice_cmp nat_cmp a.host b.host) (ordering_then (slice_cmp nat_cmp a.user b.user) (slice_cmp nat_cmp a.domain b.domain)) h in
    let q = then_both (slice_cmp nat_cmp a.user b.user) (slice_cmp nat_cmp a.domain b.domain) p.1 in
    ap (λ (x : List ℕ). made x a.user a.domain) (exact_bytes a.host b.host p.0)
    ∙ (ap (λ (x : List ℕ). made b.host x a.domain) (exact_bytes a.user b.user q.0)
    ∙ ap (λ (x : List ℕ). made b.host b.user x) (exact_bytes a.domain b.domain q.1))

-- ---- one triple more

stays_by : (o : Ordering) (x k y : Triple) (ys : List Triple) → In x (y ∷ ys) → (In x ys → In x (insert_key triple_cmp ys k)) → In x (match_ordering o (k ∷ y ∷ ys) (y ∷ ys) (y ∷ insert_key triple_cmp ys k))
stays_by Less x k y ys h f = inr h
stays_by Equal x k y ys h f = h
stays_by Greater x k y ys (inl e) f = inl e
stays_by Greater x k y ys (inr h) f = inr (f h)

stays : (x k : Triple) (ys : List Triple) → In x ys → In x (insert_key triple_cmp ys k)
stays x k [] h = absurd h
stays x k (y ∷ ys) h = stays_by (triple_cmp k y) x k y ys h (stays x k ys)

there_by : (o : Ordering) (k y : Triple) (ys : List Triple) → triple_cmp k y ≡ o → In k (insert_key triple_cmp ys k) → In k (match_ordering o (k ∷ y ∷ ys) (y ∷ ys) (y ∷ insert_key triple_cmp ys k))
there_by Less k y ys e h = inl refl
there_by Equal k y ys e h = inl (sym (triple_same k y e))
there_by Greater k y ys e h = inr h

there : (k : Triple) (ys : List Triple) → In k (insert_key triple_cmp ys k)
there k [] = inl refl
there k (y ∷ ys) = there_by (triple_cmp k y) k y ys refl (there k ys)

from_by : (o : Ordering) (x k y : Triple) (ys : List Triple) → In x (match_ordering o (k ∷ y ∷ ys) (y ∷ ys) (y ∷ insert_key triple_cmp ys k)) → (In x (insert_key triple_cmp ys k) → (k ≡ x) ⊎ In x ys) → (k ≡ x) ⊎ In x (y ∷ ys)
from_by Less x k y ys (inl e) f = inl e
from_by Less x k y ys (inr h) f = inr h
from_by Equal x k y ys h f = inr h
from_by Greater x k y ys (inl e) f = inr (inl e)
from_by Greater x k y ys (inr h) f = deeper (f h)
  where
    deeper : (k ≡ x) ⊎ In x ys → (k ≡ x) ⊎ In x (y ∷ ys)
    deeper (inl e) = inl e
    deeper (inr h) = inr (inr h)

from_put : (x k : Triple) (ys : List Triple) → In x (insert_key triple_cmp ys k) → (k ≡ x) ⊎ In x ys
from_put x k [] (inl e) = inl e
from_put x k [] (inr h) = absurd h
from_put x k (y ∷ ys) h = from_by (triple_cmp k y) x k y ys h (from_put x k ys)

-- ---- more triples

keeps : (x : Triple) (ordered more : List Triple) → In x ordered → In x (with_triples ordered more)
keeps x ordered [] h = h
keeps x ordered (t ∷ ts) h = keeps x (insert_key triple_cmp ordered t) ts (stays x t ordered h)

pub put_ordered : (x : Triple) (ordered more : List Triple) → In x more → In x (with_triples ordered more)
put_ordered x ordered [] h = absurd h
put_ordered x ordered (t ∷ ts) (inl e) = keeps x (insert_key triple_cmp ordered t) ts (subst (λ (s : Triple). In s (insert_key triple_cmp ordered t)) e (there t ordered))
put_ordered x ordered (t ∷ ts) (inr h) = put_ordered x (insert_key triple_cmp ordered t) ts h

pub from_ordered : (x : Triple) (ordered more : List Triple) → In x (with_triples ordered more) → In x ordered ⊎ In x more
from_ordered x ordered [] h = inl h
from_ordered x ordered (t ∷ ts) h = first (from_ordered x (insert_key triple_cmp ordered t) ts h)
  where
    either : (t ≡ x) ⊎ In x ordered → In x ordered ⊎ In x (t ∷ ts)
    either (inl e) = inr (inl e)
    either (inr k) = inl k

    first : In x (insert_key triple_cmp ordered t) ⊎ In x ts → In x ordered ⊎ In x (t ∷ ts)
    first (inl k) = either (from_put x t ordered k)
    first (inr k) = inr (inr k)
