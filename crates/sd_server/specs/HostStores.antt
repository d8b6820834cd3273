-- The store of the daemon: what a host tells of it, which blobs are no store, and what it holds once the daemon ended.
use Rattle.std.specs.Prelude.{◌≡◌, ◌⊎◌, ◌++◌, ℕ, ◌≤◌, Bool, true, false, is_some, List, Option, Some, None, Ok, Err, IfSome, Result, codes}
use Rattle.sd_base.specs.Causes.{Rose}
use Rattle.sd_conf.specs.Config.{conf_of}
use Rattle.sd_conf.specs.declared.config.Config.{Config}
use Rattle.sd_keeper.specs.Blobs.{Loads, blobs_of}
use Rattle.sd_keeper.specs.Keeping.{has_failed}
use Rattle.sd_keeper.specs.declared.keeper.KeeperFault.{KeeperFault}
use Rattle.sd_keeper.specs.declared.loading.LoadFault.TheVariants as load_faults
use Rattle.sd_rules.specs.KeptRows.{bad_row, opened, rows_of}
use Rattle.sd_rules.specs.Reaching.{Reaches}
use Rattle.sd_rules.specs.Steps.{Daemon}
use Rattle.sd_rules.specs.declared.events.Row.{Row}
use Rattle.sd_rules.specs.declared.settings.Settings.{Settings}
use Rattle.sd_server.specs.Counting.{Counts}
use Rattle.sd_server.specs.declared.refusals.Stop.{Stop}
use Rattle.sd_server.specs.declared.refusals.Stop.TheVariants as stops
use Rattle.sd_server.specs.Stores.{failed_by, told_by}
use Rattle.sd_server.specs.declared.serving.ServeEnd.{ServeEnd}
use Rattle.sd_server.specs.declared.serving.ServeEnd.TheVariants as ends
use Rattle.sd_wire.specs.Forms.{numbered}

-- What a host tells of its store: the blobs in it, where they are told, how many calls on it have failed, its making among them, and
-- whether the last did.
pub record Stored : Type 0 where
  pub blobs : Option (List (List ℕ))
  pub faults : ℕ
  pub failed : Bool

-- what is told after the making of a keeper: the same blobs, and whether it failed
pub record TellsMaking {K : Type 0} (before now : Stored) (result : Result K KeeperFault) : Type 0 where
  pub blobs : now.blobs ≡ before.blobs
  pub failed : now.failed ≡ has_failed result
  pub later : before.faults ≤ now.faults
  pub cause : has_failed result ≡ true → Rose before.faults now.faults

-- a host took a keeper back: what that told is told
pub record TakesKeeper (before now : Stored) (blobs : Option (List (List ℕ))) (faults : ℕ) (failed : Bool) : Type 0 where
  pub blobs_are : now.blobs ≡ blobs
  pub failed_is : now.failed ≡ failed
  pub counted : Counts before.faults now.faults faults

-- likewise where there is a keeper; else all is as before
abbrev pub TakesBack : {K : Type 0} → (K → Option (List (List ℕ))) → (K → ℕ) → (K → Bool) → Stored → Stored → Option K → Type 0
TakesBack told faults failed before now None = now ≡ before
TakesBack told faults failed before now (Some k) = TakesKeeper before now (told k) (faults k) (failed k)

-- a keeper that was just made, over these blobs: no call on it has failed
pub record IsUnused (told blobs : Option (List (List ℕ))) (faults : ℕ) (failed : Bool) : Type 0 where
  pub tells : told ≡ blobs
  pub unfailed : failed ≡ false
  pub uncounted : faults ≡ 0

-- rows that a daemon may begin with
pub record AreGood (blobs : List (List ℕ)) (rows : List Row) : Type 0 where
  pub loaded : Loads blobs (Ok rows)
  pub lawful : bad_row rows ≡ None

-- blobs are a store
abbrev pub IsStore : List (List ℕ) → Type 0
IsStore blobs = (rows : List Row) × AreGood blobs rows

-- Blobs are no store, by this number: the place of the first that is the bytes of no row, the unknown version of a head, or the place of
-- the first row that is against the rules.
abbrev pub IsNoStore : ℕ → List (List ℕ) → Type 0
IsNoStore n blobs = Loads blobs (Err (load_faults.BadRow n)) ⊎ (Loads blobs (Err (load_faults.BadVersion n))
    ⊎ ((rows : List Row) × Loads blobs (Ok rows) × (bad_row rows ≡ Some n)))

-- what is written then
abbrev pub bad_store : ℕ → List ℕ
bad_store n = numbered (codes "bad store ") n ++ codes "\n"

-- why rows give no core: they are against the rules, or memory was wanting
abbrev pub SaysOfRows : List Row → Stop → Type 0
SaysOfRows rows (stops.BadStore n) = bad_row rows ≡ Some n
SaysOfRows rows stops.Memory = Unit {0}
SaysOfRows rows stop = ⊥

-- why a store gives none: it failed, its blobs are no store, or memory was wanting
abbrev pub SaysOfStore : Option (List (List ℕ)) → Stop → Type 0
SaysOfStore blobs stops.StoreFault = Unit {0}
SaysOfStore blobs (stops.BadStore n) = IfSome blobs (IsNoStore n)
SaysOfStore blobs stops.Memory = Unit {0}
SaysOfStore blobs stop = ⊥

-- whether the store failed
abbrev pub is_store_fault : {T : Type 0} → Result T Stop → Bool
is_store_fault (Err stops.StoreFault) = true
is_store_fault _ = false

-- what is told of a store once it was opened, where one is given: the same blobs, and whether it failed
pub record TellsOpening (given : Bool) (before now : Stored) (fails : Bool) : Type 0 where
  pub blobs : now.blobs ≡ before.blobs
  pub unasked : given ≡ false → now ≡ before
  pub failed : fails ≡ true → now.failed ≡ true
  pub failed_only : before.failed ≡ false → now.failed ≡ true → fails ≡ true
  pub later : before.faults ≤ now.faults
  pub cause : fails ≡ true → Rose before.faults now.faults

-- a keeper is there where a store is given, tells what the store holds, and its last call has not failed
pub record IsReady {K : Type 0} (told : K → Option (List (List ℕ))) (failed : K → Bool) (given : Bool) (blobs : Option (List (List ℕ))) (keeper : Option K) : Type 0 where
  pub there : is_some keeper ≡ given
  pub tells : given ≡ true → told_by told keeper ≡ blobs
  pub unfailed : failed_by failed keeper ≡ false

-- the store failed
pub record Fails (before now : Stored) : Type 0 where
  pub failed : now.failed ≡ true
  pub cause : Rose before.faults now.faults

-- serving ended because no more clients are to come, and the store, where one is given, got the last rows
abbrev pub is_done : Result ServeEnd KeeperFault → Bool
is_done (Ok ends.Stopped) = true
is_done (Ok ends.NoneToCome) = true
is_done _ = false

-- the statuses of a daemon whose last call on its store failed: that it did, a failure of the sink or of the doors, want of memory
abbrev pub IsFailingStatus : ℕ → Type 0
IsFailingStatus status = (status ≡ 11) ⊎ ((status ≡ 4) ⊎ ((status ≡ 9) ⊎ (status ≡ 7)))

-- the statuses of a daemon that served: done, a failure of the sink, of the doors or of the store, want of memory
abbrev pub IsServedStatus : ℕ → Type 0
IsServedStatus status = (status ≡ 0) ⊎ IsFailingStatus status

-- the configuration, where it is told, is this one
abbrev pub IsConfig : Option (List ℕ) → Config → Type 0
IsConfig text config = IfSome text (λ t. conf_of t ≡ Ok config)

-- a daemon begins by these settings with the rows of blobs
pub record BeginsBy (settings : Settings) (blobs : List (List ℕ)) (daemon : Daemon) : Type 0 where
  pub rows : List Row
  pub good : AreGood blobs rows
  pub begun : daemon ≡ opened settings rows

-- likewise by those of a configuration
pub record Begins (text : Option (List ℕ)) (blobs : List (List ℕ)) (daemon : Daemon) : Type 0 where
  pub config : Config
  pub read : IsConfig text config
  pub by_settings : BeginsBy config.settings blobs daemon

-- blobs are the rows of a journal that this daemon reaches
pub record AreReached (daemon : Daemon) (blobs : Option (List (List ℕ))) : Type 0 where
  pub journal : Daemon
  pub reaches : Reaches daemon journal
  pub rows : blobs ≡ Some (blobs_of (rows_of journal))

-- the store, where it is told, holds the rows of a journal that the daemon reached, which began with what the store held
abbrev pub HoldsJournal : Option (List ℕ) → Option (List (List ℕ)) → Option (List (List ℕ)) → Type 0
HoldsJournal text before now = IfSome before (λ blobs. (daemon : Daemon) × Begins text blobs daemon × AreReached daemon now)
