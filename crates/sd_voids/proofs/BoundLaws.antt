-- What an invalidation covers is bound by its number.
use Rattle.std.proofs.Common.{◌≡◌, ℕ, ◌≤◌, max, Bool, true, false, cond, ◌||◌, List, refl, sym, ◌∙◌, ap, arith}
use Rattle.std.specs.Cmp.Lexicographic.{bytes_decides}
use Rattle.sd_rules.specs.declared.keys.Key.{Key}
use Rattle.sd_rules.specs.declared.keys.Key.TheVariants.{User, Uid, Group, Gid, GroupsOf, Host, Rules}
use Rattle.sd_rules.specs.declared.keys.What.{What}
use Rattle.sd_rules.specs.declared.keys.What.TheVariants as whats
use Rattle.sd_rules.specs.declared.records.Answered.{Answered}
use Rattle.sd_rules.specs.declared.records.Answered.TheVariants.{Found, Absent}
use Rattle.sd_rules.specs.declared.records.Record.TheVariants as records
use Rattle.sd_rules.specs.Keys.{same_name, same_key, is_user_named, is_group_named, covers}
use Rattle.sd_voids.specs.Bounds.{Bounds}
use Rattle.sd_voids.specs.Voids.{bound_at, by_kind, by_key, by_found, bound_of, Binds, Sets}

either_way : (p q : Bool) → (p ≡ true → q ≡ true) → (q ≡ true → p ≡ true) → p ≡ q
either_way true true f g = refl
either_way true false f g = sym (f refl)
either_way false true f g = g refl
either_way false false f g = refl

same_name_sym : (a b : List ℕ) → same_name a b ≡ same_name b a
same_name_sym a b =
    either_way (same_name a b) (same_name b a)
    (λ h. (bytes_decides b a).1 (sym ((bytes_decides a b).0 h))) (λ h. (bytes_decides a b).1 (sym ((bytes_decides b a).0 h)))

or_false : (p : Bool) → p ≡ (p || false)
or_false true = refl
or_false false = refl

or_or : (p q r : Bool) → ((p || q) || r) ≡ (p || (q || r))
or_or true q r = refl
or_or false q r = refl

first_max : (a r n : ℕ) → max a r ≤ n → max n r ≡ n
first_max a r n h = omega arith

second_max : (a u r n : ℕ) → max a (max u r) ≤ n → max a (max n r) ≡ n
second_max a u r n h = omega arith

third_max : (a u k f n : ℕ) → max a (max u (max k f)) ≤ n → max a (max u (max n f)) ≡ n
third_max a u k f n h = omega arith

fourth_max : (a u k f n : ℕ) → max a (max u (max k f)) ≤ n → max a (max u (max k n)) ≡ n
fourth_max a u k f n h = omega arith

both_max : (a u k f n : ℕ) → max a (max u (max k f)) ≤ n → max a (max u (max n n)) ≡ n
both_max a u k f n h = omega arith

named_max : (p q : Bool) (a u k f n : ℕ) → max a (max u (max k f)) ≤ n
    → max a (max u (max (cond p n k) (cond q n f))) ≡ cond (p || q) n (max a (max u (max k f)))
named_max true true a u k f n h = both_max a u k f n h
named_max true false a u k f n h = third_max a u k f n h
named_max false true a u k f n h = fourth_max a u k f n h
named_max false false a u k f n h = refl

module _ (m : List ℕ) (n : ℕ) (b : Bounds) where
  -- an invalidation of a user's name
  key_of_user : (names : List (List ℕ × ℕ)) → Binds m n b.user_names names → (own : Key)
      → by_key (record b { user_names = names }) own ≡ cond (same_key own (User m) || same_key own (GroupsOf m)) n (by_key b own)
  key_of_user names binds (User a) =
      binds a ∙ ap (λ (p : Bool). cond p n (bound_at b.user_names a)) (same_name_sym m a ∙ or_false (same_name a m))
  key_of_user names binds (GroupsOf a) = binds a ∙ ap (λ (p : Bool). cond p n (bound_at b.user_names a)) (same_name_sym m a)
  key_of_user names binds (Uid uid) = refl
  key_of_user names binds (Group a) = refl
  key_of_user names binds (Gid gid) = refl
  key_of_user names binds Host = refl
  key_of_user names binds Rules = refl

  found_user : (names : List (List ℕ × ℕ)) → Binds m n b.user_names names → (answered : Answered)
      → by_found (record b { user_names = names }) answered ≡ cond (is_user_named answered m) n (by_found b answered)
  found_user names binds Absent = refl
  found_user names binds (Found (records.User user)) =
      binds user.name ∙ ap (λ (p : Bool). cond p n (bound_at b.user_names user.name)) (same_name_sym m user.name)
  found_user names binds (Found (records.Group group)) = refl
  found_user names binds (Found (records.Groups groups)) = refl
  found_user names binds (Found (records.Host host)) = refl
  found_user names binds (Found (records.Rules book)) = refl

  -- and of a group's
  key_of_group : (names : List (List ℕ × ℕ)) → Binds m n b.group_names names → (own : Key)
      → by_key (record b { group_names = names }) own ≡ cond (same_key own (Group m)) n (by_key b own)
  key_of_group names binds (Group a) = binds a ∙ ap (λ (p : Bool). cond p n (bound_at b.group_names a)) (same_name_sym m a)
  key_of_group names binds (User a) = refl
  key_of_group names binds (GroupsOf a) = refl
  key_of_group names binds (Uid uid) = refl
  key_of_group names binds (Gid gid) = refl
  key_of_group names binds Host = refl
  key_of_group names binds Rules = refl

  found_group : (names : List (List ℕ × ℕ)) → Binds m n b.group_names names → (answered : Answered)
      → by_found (record b { group_names = names }) answered ≡ cond (is_group_named answered m) n (by_found b answered)
  found_group names binds Absent = refl
  found_group names binds (Found (records.Group group)) =
      binds group.name ∙ ap (λ (p : Bool). cond p n (bound_at b.group_names group.name)) (same_name_sym m group.name)
  found_group names binds (Found (records.User user)) = refl
  found_group names binds (Found (records.Groups groups)) = refl
  found_group names binds (Found (records.Host host)) = refl
  found_group names binds (Found (records.Rules book)) = refl

module _ (n : ℕ) (b : Bounds) where
  of_users : (own : Key) (answered : Answered) → bound_of b own answered ≤ n
      → bound_of (record b { users = n }) own answered ≡ cond (covers whats.Users own answered) n (bound_of b own answered)
  of_users (User a) answered h = second_max b.all b.users (max (bound_at b.user_names a) (by_found b answered)) n h
  of_users (Uid uid) answered h = second_max b.all b.users (max 0 (by_found b answered)) n h
  of_users (GroupsOf a) answered h = second_max b.all b.users (max (bound_at b.user_names a) (by_found b answered)) n h
  of_users (Group a) answered h = refl
  of_users (Gid gid) answered h = refl
  of_users Host answered h = refl
  of_users Rules answered h = refl

  of_groups : (own : Key) (answered : Answered) → bound_of b own answered ≤ n
      → bound_of (record b { groups = n }) own answered ≡ cond (covers whats.Groups own answered) n (bound_of b own answered)
  of_groups (Group a) answered h = second_max b.all b.groups (max (bound_at b.group_names a) (by_found b answered)) n h
  of_groups (Gid gid) answered h = second_max b.all b.groups (max 0 (by_found b answered)) n h
  of_groups (User a) answered h = refl
  of_groups (Uid uid) answered h = refl
  of_groups (GroupsOf a) answered h = refl
  of_groups Host answered h = refl
  of_groups Rules answered h = refl

  pub bound_after : (what : What) (c : Bounds) (own : Key) (answered : Answered) → Sets what n b c → bound_of b own answered ≤ n
      → bound_of c own answered ≡ cond (covers what own answered) n (bound_of b own answered)
  bound_after whats.All c own answered is h =
      ap (λ (x : Bounds). bound_of x own answered) is
      ∙ first_max b.all (max (by_kind b own) (max (by_key b own) (by_found b answered))) n h
  bound_after whats.Users c own answered is h = ap (λ (x : Bounds). bound_of x own answered) is ∙ of_users own answered h
  bound_after whats.Groups c own answered is h = ap (λ (x : Bounds). bound_of x own answered) is ∙ of_groups own answered h
  bound_after (whats.User m) c own answered is h =
      let found : ℕ = by_found b answered in
      let named : Bool = is_user_named answered m in
      let keyed : Bool = same_key own (User m) || same_key own (GroupsOf m) in
      ap (λ (x : Bounds). bound_of x own answered) is.0
      ∙ ap (λ (x : ℕ). max b.all (max (by_kind b own) (max x (by_found (record b { user_names = c.user_names }) answered)))) (key_of_user m n b c.user_names is.1 own)
      ∙ ap (λ (x : ℕ). max b.all (max (by_kind b own) (max (cond keyed n (by_key b own)) x))) (found_user m n b c.user_names is.1 answered)
      ∙ named_max keyed named b.all (by_kind b own) (by_key b own) found n h
      ∙ ap (λ (p : Bool). cond p n (bound_of b own answered)) (or_or (same_key own (User m)) (same_key own (GroupsOf m)) named)
  bound_after (whats.Group m) c own answered is h =
      let found : ℕ = by_found b answered in
      let named : Bool = is_group_named answered m in
      ap (λ (x : Bounds). bound_of x own answered) is.0
      ∙ ap (λ (x : ℕ). max b.all (max (by_kind b own) (max x (by_found (record b { group_names = c.group_names }) answered)))) (key_of_group m n b c.group_names is.1 own)
      ∙ ap (λ (x : ℕ). max b.all (max (by_kind b own) (max (cond (same_key own (Group m)) n (by_key b own)) x))) (found_group m n b c.group_names is.1 answered)
      ∙ named_max (same_key own (Group m)) named b.all (by_kind b own) (by_key b own) found n h
