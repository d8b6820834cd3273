-- The blobs of a store, and the rows that they are.
use Rattle.std.specs.Prelude.{◌≡◌, ◌≢◌, ℕ, ◌<◌, ◌==◌, nat_eq, Bool, true, false, not, ◌&&◌, ◌||◌, List, [], ◌∷◌, map, length, take, slice_index_or, Result, Ok, Err, if◌then◌else◌}
use Rattle.std.specs.List.{starts_with, AllByRecursion}
use Rattle.sd_rules.specs.declared.events.Row.{Row}
use Rattle.sd_rules.specs.declared.events.Row.TheVariants as rows
use Rattle.sd_keeper.specs.declared.field.FieldFault.{FieldFault}
use Rattle.sd_keeper.specs.declared.field.FieldFault.TheVariants as faults
use Rattle.sd_keeper.specs.declared.rows.Version.{Version}
use Rattle.sd_keeper.specs.declared.rows.Version.TheVariants as versions
use Rattle.sd_keeper.specs.declared.loading.LoadFault.{LoadFault}
use Rattle.sd_keeper.specs.declared.loading.LoadFault.TheVariants as load_faults
use Rattle.sd_keeper.specs.Spelling.{row_bytes}
use Rattle.sd_keeper.specs.Fitting.{IsRow}

-- a head of version 1
abbrev pub is_old_head : List ℕ → Bool
is_old_head blob = starts_with nat_eq blob (0 ∷ 0 ∷ 0 ∷ 0 ∷ 1 ∷ []) && (length blob == 21)

-- a store has version 1 where its first blob is such a head
abbrev pub version_of : List (List ℕ) → Version
version_of [] = versions.Second
version_of (blob ∷ blobs) = if is_old_head blob then versions.First else versions.Second

-- version 1 has no rows of online logins
abbrev pub is_online : Row → Bool
is_online (rows.Online n m name) = true
is_online _ = false

abbrev pub is_first : Version → Bool
is_first versions.First = true
is_first versions.Second = false

abbrev pub is_of_version : Version → Row → Bool
is_of_version version row = not (is_online row && is_first version)

-- a row that holds a hash
abbrev pub is_hash_row : Row → Bool
is_hash_row (rows.Hash n m name hash) = true
is_hash_row _ = false

-- bytes begin as those of such a row do
abbrev pub begins_as_hash : List ℕ → Bool
begins_as_hash [] = false
begins_as_hash (kind ∷ rest) = kind == 2

-- a blob is the bytes of this row, in a store of this version
pub record IsBlobOf (version : Version) (blob : List ℕ) (row : Row) : Type 0 where
  pub spelled : blob ≡ row_bytes row
  pub of_version : is_of_version version row ≡ true

-- a blob is the bytes of no row
abbrev pub HasNoForm : Version → List ℕ → Type 0
HasNoForm version blob = (row : Row) → IsRow row → is_of_version version row ≡ true → blob ≢ row_bytes row

-- a row as version 2 has it: a head of a known version is one of version 2; of another the version
abbrev pub current_of : Row → Result Row ℕ
current_of (rows.Head version next moment) =
    if (version == 1) || (version == 2) then Ok (rows.Head 2 next moment) else Err version
current_of row = Ok row

-- what was read is this row, unless memory ran out
abbrev pub Reads : Result Row FieldFault → Row → Type 0
Reads (Ok read) row = read ≡ row
Reads (Err faults.Bad) row = ⊥
Reads (Err faults.Memory) row = Unit {0}

-- a blob gives this row, or has a head's unknown version
abbrev pub Means : Version → List ℕ → Result Row ℕ → Type 0
Means version blob meant = (stored : Row) × IsBlobOf version blob stored × (current_of stored ≡ meant)

-- what is said of the blob at a place
abbrev pub Says : Version → ℕ → List ℕ → Result Row LoadFault → Type 0
Says version place blob (Ok row) = Means version blob (Ok row)
Says version place blob (Err (load_faults.BadRow bad)) = (bad ≡ place) × HasNoForm version blob
Says version place blob (Err (load_faults.BadVersion other)) = Means version blob (Err other)
Says version place blob (Err load_faults.Failed) = ⊥
Says version place blob (Err load_faults.Memory) = Unit {0}

-- a row that a store of version 2 holds: it has a spelling, and a head has version 2
pub record IsStorable (row : Row) : Type 0 where
  pub fits : IsRow row
  pub current : current_of row ≡ Ok row

-- a blob of such a row gives it back, unless memory ran out
abbrev pub GivesBack : Result Row LoadFault → Row → Type 0
GivesBack (Ok read) row = read ≡ row
GivesBack (Err load_faults.Memory) row = Unit {0}
GivesBack (Err fault) row = ⊥

-- blobs give these rows, one for each
abbrev pub AreRowsOf : Version → List (List ℕ) → List Row → Type 0
AreRowsOf version [] [] = Unit {0}
AreRowsOf version [] (row ∷ rows) = ⊥
AreRowsOf version (blob ∷ blobs) [] = ⊥
AreRowsOf version (blob ∷ blobs) (row ∷ rows) = Means version blob (Ok row) × AreRowsOf version blobs rows

-- the blobs before a place give rows
pub record AreGoodBefore (blobs : List (List ℕ)) (place : ℕ) : Type 0 where
  pub within : place < length blobs
  pub read : List Row
  pub are_rows : AreRowsOf (version_of blobs) (take place blobs) read

abbrev pub blob_at : List (List ℕ) → ℕ → List ℕ
blob_at blobs place = slice_index_or blobs place []

-- what is said of all blobs: their rows, or the first blob that gives none; of want of memory and of a keeper nothing is said here
abbrev pub Loads : List (List ℕ) → Result (List Row) LoadFault → Type 0
Loads blobs (Ok rows) = AreRowsOf (version_of blobs) blobs rows
Loads blobs (Err (load_faults.BadRow place)) = AreGoodBefore blobs place × HasNoForm (version_of blobs) (blob_at blobs place)
Loads blobs (Err (load_faults.BadVersion other)) =
    (place : ℕ) × AreGoodBefore blobs place × Means (version_of blobs) (blob_at blobs place) (Err other)
Loads blobs (Err load_faults.Failed) = Unit {0}
Loads blobs (Err load_faults.Memory) = Unit {0}

-- the blobs of rows
abbrev pub blobs_of : List Row → List (List ℕ)
blobs_of rows = map row_bytes rows

-- blobs of storable rows give these rows back, unless memory ran out or the keeper failed
abbrev pub LoadsBack : Result (List Row) LoadFault → List Row → Type 0
LoadsBack (Ok read) rows = read ≡ rows
LoadsBack (Err load_faults.Failed) rows = Unit {0}
LoadsBack (Err load_faults.Memory) rows = Unit {0}
LoadsBack (Err fault) rows = ⊥

-- whether it is the keeper that failed
abbrev pub is_failed : {T : Type 0} → Result T LoadFault → Bool
is_failed (Err load_faults.Failed) = true
is_failed _ = false
