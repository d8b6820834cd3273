-- An index of slots: for each bucket the places of the entries that have a number of the bucket.
use Rattle.std.specs.Prelude.{◌≡◌, ℕ, ◌+◌, ◌-◌, ◌%◌, ◌<◌, ◌==◌, Bool, true, if◌then◌else◌, List, [], ◌∷◌, length, map, get_or, slice_set, Option}
use Rattle.std.specs.List.{list_any}
use Rattle.sd_ldap.specs.declared.entry.DirEntry.{DirEntry}
use Rattle.sd_places.specs.Covers.{covers, with_place, passes_at}
use Rattle.sd_places.specs.Numbers.{entry_numbers}

-- the bucket of a number, of so many and one in front of them, which is that of 0 alone
unfoldable pub bucket_of : ℕ → ℕ → ℕ
bucket_of count number = if number == 0 then 0 else number % count + 1

-- one of the numbers is of the bucket
abbrev pub has_bucket : ℕ → ℕ → List ℕ → Bool
has_bucket count bucket numbers = list_any (λ (n : ℕ). bucket_of count n == bucket) numbers

-- which slots hold an entry that has a number of the bucket
abbrev pub marks_of : ℕ → ℕ → List (Option DirEntry) → List Bool
marks_of count bucket slots = map (λ (slot : Option DirEntry). passes_at (λ (e : DirEntry). has_bucket count bucket (entry_numbers e)) slot) slots

abbrev pub places_of : List (List ℕ) → ℕ → List ℕ
places_of buckets bucket = get_or buckets bucket []

abbrev pub count_of : List (List ℕ) → ℕ
count_of buckets = length buckets - 1

-- a place may stand where its entry has no number of the bucket any more
abbrev pub IsIndex : List (List ℕ) → List (Option DirEntry) → Type 0
IsIndex buckets slots = (bucket : ℕ) → bucket < length buckets → covers (marks_of (count_of buckets) bucket slots) 0 (places_of buckets bucket) ≡ true

-- a place under a number
abbrev pub with_number : List (List ℕ) → ℕ → ℕ → List (List ℕ)
with_number buckets place number =
    slice_set buckets (bucket_of (count_of buckets) number) (with_place (places_of buckets (bucket_of (count_of buckets) number)) place)

-- a place under each of some numbers
abbrev pub with_numbers : List (List ℕ) → ℕ → List ℕ → List (List ℕ)
with_numbers buckets place [] = buckets
with_numbers buckets place (n ∷ ns) = with_numbers (with_number buckets place n) place ns

-- the places under a number
abbrev pub found_under : List (List ℕ) → ℕ → List ℕ
found_under buckets number = places_of buckets (bucket_of (count_of buckets) number)
