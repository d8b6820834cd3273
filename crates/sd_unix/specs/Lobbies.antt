-- The clients that wait: in a lobby for bytes or room, in the order of their last whole frames; in a line with a whole frame.
use Rattle.std.specs.Prelude.{◌≡◌, ◌++◌, ℕ, Bool, true, false, List, [], ◌∷◌, Option, Some, None, drop, insert, length, position, nat_le, nat_lt, remove, slice_get, if◌then◌else◌}
use Rattle.sd_unix.specs.declared.lobby.Guest.{Guest}
use Rattle.sd_unix.specs.declared.lobby.Stage.{Stage}
use Rattle.sd_unix.specs.declared.lobby.Stage.TheVariants as stages

-- how long a client may be at a stage: a minute between two frames, ten seconds in a frame or a reply
abbrev pub bound_of : Stage → ℕ
bound_of stages.Between = 60000
bound_of stages.Frame = 10000
bound_of stages.Reply = 10000

abbrev pub is_replying : Stage → Bool
is_replying stages.Reply = true
is_replying _ = false

-- the first of a list that has so many items, which leaves for a new one
abbrev pub sent_away : {T : Type 0} → ℕ → List T → Option T
sent_away most items = if nat_le most (length items) then slice_get items 0 else None

-- the list without it
abbrev pub with_room : {T : Type 0} → ℕ → List T → List T
with_room most items = if nat_le most (length items) then drop 1 items else items

-- the item at a place, where one is named, was taken out of a list
abbrev pub Takes : {T : Type 0} → Option ℕ → List T → Option T → List T → Type 0
Takes None old taken left = (taken ≡ None) × (left ≡ old)
Takes (Some place) old taken left = (taken ≡ slice_get old place) × (left ≡ remove old place)

-- the first item was taken out of a list, where it has one
abbrev pub TakesHead : {T : Type 0} → List T → Option T → List T → Type 0
TakesHead [] taken left = (taken ≡ None) × (left ≡ [])
TakesHead (item ∷ items) taken left = (taken ≡ Some item) × (left ≡ items)

-- an item was put at a place, or behind all
abbrev pub Puts : {T : Type 0} → Option ℕ → T → List T → List T → Type 0
Puts None item old new = new ≡ old ++ item ∷ []
Puts (Some place) item old new = new ≡ insert old place item

-- a guest was put in front of the first whose last frame came whole later
abbrev pub PutsInOrder : {C : Type 0} → Guest C → List (Guest C) → List (Guest C) → Type 0
PutsInOrder guest old new = Puts (position (λ other. nat_lt guest.order other.order) old) guest old new
