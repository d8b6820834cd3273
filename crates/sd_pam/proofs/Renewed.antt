-- A request that is led by a part stands behind those of the parts before it.
use Rattle.std.proofs.Common.{◌≡◌, ℕ, Bool, true, ◌&&◌, List, [], ◌∷◌, ◌++◌, Option, Some, None, refl}
use Rattle.sd_rules.specs.declared.keys.Key.{Key}
use Rattle.sd_rules.specs.declared.keys.Key.TheVariants as keys
use Rattle.sd_rules.specs.declared.scripts.Led.{Led}
use Rattle.sd_pam.specs.Closings.{led_for, is_none}

pub user_led : (user : List ℕ) (a b c d : Option ℕ) (request : ℕ) → (is_none a && (is_none b && (is_none c && is_none d))) ≡ true →
    led_for (keys.User user) (Some request) (led_for (keys.GroupsOf user) b (led_for keys.Host c (led_for keys.Rules d [])))
    ≡ led_for (keys.User user) a (led_for (keys.GroupsOf user) b (led_for keys.Host c (led_for keys.Rules d [])))
    ++ record { request = request; key = keys.User user } ∷ []
user_led user (Some a) b c d request h = cc
user_led user None (Some b) c d request h = cc
user_led user None None (Some c) d request h = cc
user_led user None None None (Some d) request h = cc
user_led user None None None None request h = refl

pub groups_led : (user : List ℕ) (a b c d : Option ℕ) (request : ℕ) → (is_none b && (is_none c && is_none d)) ≡ true →
    led_for (keys.User user) a (led_for (keys.GroupsOf user) (Some request) (led_for keys.Host c (led_for keys.Rules d [])))
    ≡ led_for (keys.User user) a (led_for (keys.GroupsOf user) b (led_for keys.Host c (led_for keys.Rules d [])))
    ++ record { request = request; key = keys.GroupsOf user } ∷ []
groups_led user (Some a) (Some b) c d request h = cc
groups_led user (Some a) None (Some c) d request h = cc
groups_led user (Some a) None None (Some d) request h = cc
groups_led user (Some a) None None None request h = refl
groups_led user None (Some b) c d request h = cc
groups_led user None None (Some c) d request h = cc
groups_led user None None None (Some d) request h = cc
groups_led user None None None None request h = refl

pub host_led : (user : List ℕ) (a b c d : Option ℕ) (request : ℕ) → (is_none c && is_none d) ≡ true →
    led_for (keys.User user) a (led_for (keys.GroupsOf user) b (led_for keys.Host (Some request) (led_for keys.Rules d [])))
    ≡ led_for (keys.User user) a (led_for (keys.GroupsOf user) b (led_for keys.Host c (led_for keys.Rules d [])))
    ++ record { request = request; key = keys.Host } ∷ []
host_led user (Some a) (Some b) (Some c) d request h = cc
host_led user (Some a) (Some b) None (Some d) request h = cc
host_led user (Some a) (Some b) None None request h = refl
host_led user (Some a) None (Some c) d request h = cc
host_led user (Some a) None None (Some d) request h = cc
host_led user (Some a) None None None request h = refl
host_led user None (Some b) (Some c) d request h = cc
host_led user None (Some b) None (Some d) request h = cc
host_led user None (Some b) None None request h = refl
host_led user None None (Some c) d request h = cc
host_led user None None None (Some d) request h = cc
host_led user None None None None request h = refl

pub rules_led : (user : List ℕ) (a b c d : Option ℕ) (request : ℕ) → is_none d ≡ true →
    led_for (keys.User user) a (led_for (keys.GroupsOf user) b (led_for keys.Host c (led_for keys.Rules (Some request) [])))
    ≡ led_for (keys.User user) a (led_for (keys.GroupsOf user) b (led_for keys.Host c (led_for keys.Rules d [])))
    ++ record { request = request; key = keys.Rules } ∷ []
rules_led user (Some a) (Some b) (Some c) None request h = refl
rules_led user (Some a) (Some b) None None request h = refl
rules_led user (Some a) None (Some c) None request h = refl
rules_led user (Some a) None None None request h = refl
rules_led user None (Some b) (Some c) None request h = refl
rules_led user None (Some b) None None request h = refl
rules_led user None None (Some c) None request h = refl
rules_led user None None None None request h = refl
rules_led user a b c (Some d) request h = cc
