-- A turn with a request in hand, by what it needs.
use Rattle.std.proofs.Common.{◌≡◌, ◌∙◌, false, List, ℕ, Option, refl, sym, subst}
use Rattle.sd_rules.specs.declared.tasks.Need.{Need}
use Rattle.sd_rules.specs.declared.tasks.Need.TheVariants as needs
use Rattle.sd_rules.specs.Scripts.{is_saying}
use Rattle.sd_conf.specs.declared.config.Config.{Config}
use Rattle.sd_engine.specs.Courses.{Client, need_of, client_told}
use Rattle.sd_engine.specs.declared.engine.Turn.{Turn}
use Rattle.sd_engine.specs.Engines.{Engine}
use Rattle.sd_engine.specs.Turns.{Dialling, GoesBy, ServesBy, IsOfKind}

by_need : (pwfield : List ℕ) (config : Config) (turn : Turn) (need : Need) (old : Engine) (client asked : Client) (new : Engine) (held held' : Option (List ℕ)) (writes : Type 0) (d e : Dialling) → asked ≡ client_told client
    → (is_saying need ≡ false → asked ≡ client) → GoesBy pwfield config turn need old asked new held held' writes d e → ServesBy pwfield config turn need old client new held held' writes d e
by_need pwfield config turn (needs.Say said) old client asked new held held' writes d e told same goes =
    subst (λ (c : Client). GoesBy pwfield config turn (needs.Say said) old c new held held' writes d e) told goes
by_need pwfield config turn (needs.Step event) old client asked new held held' writes d e told same goes =
    subst (λ (c : Client). GoesBy pwfield config turn (needs.Step event) old c new held held' writes d e) (same refl) goes
by_need pwfield config turn (needs.Await ticket) old client asked new held held' writes d e told same goes =
    subst (λ (c : Client). GoesBy pwfield config turn (needs.Await ticket) old c new held held' writes d e) (same refl) goes
by_need pwfield config turn (needs.Fetch server key) old client asked new held held' writes d e told same goes =
    subst (λ (c : Client). GoesBy pwfield config turn (needs.Fetch server key) old c new held held' writes d e) (same refl) goes
by_need pwfield config turn (needs.Bind server dn password) old client asked new held held' writes d e told same goes =
    subst (λ (c : Client). GoesBy pwfield config turn (needs.Bind server dn password) old c new held held' writes d e) (same refl) goes
by_need pwfield config turn needs.End old client asked new held held' writes d e told same goes =
    subst (λ (c : Client). GoesBy pwfield config turn needs.End old c new held held' writes d e) (same refl) goes

pub serves_by : (pwfield : List ℕ) (config : Config) (turn : Turn) (need : Need) (old : Engine) (client asked : Client) (new : Engine) (held held' : Option (List ℕ)) (writes : Type 0) (d e : Dialling) → need ≡ need_of client → asked ≡ client_told client
    → (is_saying need ≡ false → asked ≡ client) → GoesBy pwfield config turn need old asked new held held' writes d e → ServesBy pwfield config turn (need_of client) old client new held held' writes d e
serves_by pwfield config turn need old client asked new held held' writes d e is told same goes =
    subst (λ (n : Need). ServesBy pwfield config turn n old client new held held' writes d e) is
    (by_need pwfield config turn need old client asked new held held' writes d e told same goes)
