-- The values of one name are one attribute: putting one value more at the end.
use Rattle.std.proofs.Common.{◌≡◌, ℕ, Bool, true, false, not, cond, List, [], ◌∷◌, ◌++◌, map, filter, refl, sym, ap, ◌∙◌}
use Rattle.sd_dn.specs.Comparing.{same_text}
use Rattle.sd_ldap.specs.declared.entry.Attribute.{Attribute}
use Rattle.sd_ldif.specs.Records.{Pair, attribute, values_of, others, attributes_of}
use Rattle.sd_ldif.specs.Reading.{with_value}
use Rattle.sd_ldif.proofs.Letters.{same_left, same_right, same_turned}

pub if_true : {X : Type 0} (b : Bool) (x y : X) → b ≡ true → cond b x y ≡ x
if_true true x y h = refl
if_true false x y h = let f : false ≡ true = h in cc

pub if_false : {X : Type 0} (b : Bool) (x y : X) → b ≡ false → cond b x y ≡ y
if_false true x y h = let f : true ≡ false = h in cc
if_false false x y h = refl

-- ---- values

value_added : (b : Bool) (v : List ℕ) (p : Pair) → b ≡ true → v ≡ p.value → map (λ (q : Pair). q.value) (cond b (p ∷ []) []) ≡ v ∷ []
value_added true v p h e = ap (λ (w : List ℕ). w ∷ []) (sym e)
value_added false v p h e = let f : false ≡ true = h in cc

value_left : (b : Bool) (p : Pair) → b ≡ false → map (λ (q : Pair). q.value) (cond b (p ∷ []) []) ≡ []
value_left true p h = let f : true ≡ false = h in cc
value_left false p h = refl

front_value : (b : Bool) (p : Pair) (qs rs : List Pair) (ws : List (List ℕ)) → map (λ (q : Pair). q.value) qs ≡ map (λ (q : Pair). q.value) rs ++ ws → map (λ (q : Pair). q.value) (cond b (p ∷ qs) qs) ≡ map (λ (q : Pair). q.value) (cond b (p ∷ rs) rs) ++ ws
front_value true p qs rs ws e = ap (λ (w : List (List ℕ)). p.value ∷ w) e
front_value false p qs rs ws e = e

values_same : (n : List ℕ) (ps : List Pair) (p : Pair) → same_text p.name n ≡ true → values_of n (ps ++ p ∷ []) ≡ values_of n ps ++ p.value ∷ []
values_same n [] p h = value_added (same_text p.name n) p.value p h refl
values_same n (q ∷ qs) p h =
    front_value (same_text q.name n) q (filter (λ (r : Pair). same_text r.name n) (qs ++ p ∷ [])) (filter (λ (r : Pair). same_text r.name n) qs) (p.value ∷ []) (values_same n qs p h)

nothing_behind : (b : Bool) (p : Pair) (qs rs : List Pair) → map (λ (q : Pair). q.value) qs ≡ map (λ (q : Pair). q.value) rs → map (λ (q : Pair). q.value) (cond b (p ∷ qs) qs) ≡ map (λ (q : Pair). q.value) (cond b (p ∷ rs) rs)
nothing_behind true p qs rs e = ap (λ (w : List (List ℕ)). p.value ∷ w) e
nothing_behind false p qs rs e = e

values_other : (n : List ℕ) (ps : List Pair) (p : Pair) → same_text p.name n ≡ false → values_of n (ps ++ p ∷ []) ≡ values_of n ps
values_other n [] p h = value_left (same_text p.name n) p h
values_other n (q ∷ qs) p h =
    nothing_behind (same_text q.name n) q (filter (λ (r : Pair). same_text r.name n) (qs ++ p ∷ [])) (filter (λ (r : Pair). same_text r.name n) qs) (values_other n qs p h)

-- ---- attributes of other names

abbrev grown : Attribute → Pair → Attribute
grown a p = attribute a.name (a.values ++ p.value ∷ [])

without_first : (a : Attribute) (rest : List Attribute) (n : List ℕ) → same_text a.name n ≡ true → others n (a ∷ rest) ≡ others n rest
without_first a rest n h = if_false (not (same_text a.name n)) (a ∷ others n rest) (others n rest) (ap not h)

with_first : (a : Attribute) (rest : List Attribute) (n : List ℕ) → same_text a.name n ≡ false → others n (a ∷ rest) ≡ a ∷ others n rest
with_first a rest n h = if_true (not (same_text a.name n)) (a ∷ others n rest) (others n rest) (ap not h)

-- of attributes of which one is grown, and is one of those that are left out
left_out : (b c : Bool) (a g : Attribute) (rest more : List Attribute) (n : List ℕ) → b ≡ c → same_text g.name n ≡ same_text a.name n → same_text a.name n ≡ c → others n more ≡ others n rest
    → others n (cond b (g ∷ rest) (a ∷ more)) ≡ others n (a ∷ rest)
left_out true true a g rest more n bc ga ac e = without_first g rest n (ga ∙ ac) ∙ sym (without_first a rest n ac)
left_out true false a g rest more n bc ga ac e = let f : true ≡ false = bc in cc
left_out false true a g rest more n bc ga ac e = let f : false ≡ true = bc in cc
left_out false false a g rest more n bc ga ac e = with_first a more n ac ∙ (ap (λ (w : List Attribute). a ∷ w) e ∙ sym (with_first a rest n ac))

-- the name's own attributes are left out, grown or not
others_same : (n : List ℕ) (rest : List Attribute) (p : Pair) → same_text p.name n ≡ true → others n (with_value p rest) ≡ others n rest
others_same n [] p h = without_first (attribute p.name (p.value ∷ [])) [] n h
others_same n (a ∷ rest) p h =
    left_out (same_text a.name p.name) (same_text a.name n) a (grown a p) rest (with_value p rest) n (same_right p.name n a.name h) refl refl (others_same n rest p h)

-- which attribute grows is another matter
passed_by : (b c : Bool) (a : Attribute) (p : Pair) (rest more : List Attribute) (n : List ℕ) → same_text a.name p.name ≡ b → same_text a.name n ≡ c → (b ≡ true → c ≡ false) → others n more ≡ with_value p (others n rest)
    → others n (cond b (grown a p ∷ rest) (a ∷ more)) ≡ with_value p (others n (a ∷ rest))
passed_by true true a p rest more n ab ac f e = let g : true ≡ false = f refl in cc
passed_by true false a p rest more n ab ac f e =
    with_first (grown a p) rest n ac ∙ (sym (if_true (same_text a.name p.name) (grown a p ∷ others n rest) (a ∷ with_value p (others n rest)) ab) ∙ ap (with_value p) (sym (with_first a rest n ac)))
passed_by false true a p rest more n ab ac f e =
    without_first a more n ac ∙ (e ∙ ap (with_value p) (sym (without_first a rest n ac)))
passed_by false false a p rest more n ab ac f e =
    with_first a more n ac ∙ (ap (λ (w : List Attribute). a ∷ w) e ∙ (sym (if_false (same_text a.name p.name) (grown a p ∷ others n rest) (a ∷ with_value p (others n rest)) ab) ∙ ap (with_value p) (sym (with_first a rest n ac))))

not_both : (n : List ℕ) (a : Attribute) (p : Pair) → same_text p.name n ≡ false → same_text a.name p.name ≡ true → same_text a.name n ≡ false
not_both n a p h e = same_left a.name p.name n e ∙ h

others_other : (n : List ℕ) (rest : List Attribute) (p : Pair) → same_text p.name n ≡ false → others n (with_value p rest) ≡ with_value p (others n rest)
others_other n [] p h = with_first (attribute p.name (p.value ∷ [])) [] n h
others_other n (a ∷ rest) p h =
    passed_by (same_text a.name p.name) (same_text a.name n) a p rest (with_value p rest) n refl refl (not_both n a p h) (others_other n rest p h)

-- ---- one value more

-- behind a first value, with the values of its name
added : (b : Bool) (q p : Pair) (ps : List Pair) → same_text q.name p.name ≡ b → same_text p.name q.name ≡ b → attributes_of (ps ++ p ∷ []) ≡ with_value p (attributes_of ps)
    → attribute q.name (q.value ∷ values_of q.name (ps ++ p ∷ [])) ∷ others q.name (attributes_of (ps ++ p ∷ []))
    ≡ with_value p (attribute q.name (q.value ∷ values_of q.name ps) ∷ others q.name (attributes_of ps))
added true q p ps qp pq e =
    ap (λ (vs : List (List ℕ)). attribute q.name (q.value ∷ vs) ∷ others q.name (attributes_of (ps ++ p ∷ []))) (values_same q.name ps p pq)
    ∙ (ap (λ (rest : List Attribute). attribute q.name (q.value ∷ values_of q.name ps ++ p.value ∷ []) ∷ rest) (ap (others q.name) e ∙ others_same q.name (attributes_of ps) p pq)
    ∙ sym (if_true (same_text q.name p.name) (attribute q.name ((q.value ∷ values_of q.name ps) ++ p.value ∷ []) ∷ others q.name (attributes_of ps)) (attribute q.name (q.value ∷ values_of q.name ps) ∷ with_value p (others q.name (attributes_of ps))) qp))
added false q p ps qp pq e =
    ap (λ (vs : List (List ℕ)). attribute q.name (q.value ∷ vs) ∷ others q.name (attributes_of (ps ++ p ∷ []))) (values_other q.name ps p pq)
    ∙ (ap (λ (rest : List Attribute). attribute q.name (q.value ∷ values_of q.name ps) ∷ rest) (ap (others q.name) e ∙ others_other q.name (attributes_of ps) p pq)
    ∙ sym (if_false (same_text q.name p.name) (attribute q.name ((q.value ∷ values_of q.name ps) ++ p.value ∷ []) ∷ others q.name (attributes_of ps)) (attribute q.name (q.value ∷ values_of q.name ps) ∷ with_value p (others q.name (attributes_of ps))) qp))

pub one_value_more : (ps : List Pair) (p : Pair) → attributes_of (ps ++ p ∷ []) ≡ with_value p (attributes_of ps)
one_value_more [] p = refl
one_value_more (q ∷ qs) p = added (same_text q.name p.name) q p qs refl (same_turned p.name q.name) (one_value_more qs p)
