-- What a host tells of its store once it took its keeper back.
use Rattle.std.proofs.Common.{◌≡◌, refl, ◌⊎◌, ◌<◌, ◌≤◌, inl, inr, ℕ, Bool, true, false, List, Option, Some, None, ap, sym, subst, ◌∙◌, arith, Result, Ok, Err}
use Rattle.std.specs.Prelude.{◌≢◌, is_some, IfOk, IfSome}
use Rattle.sd_base.specs.Causes.{Rose}
use Rattle.sd_server.specs.Counting.{Tells}
use Rattle.sd_server.specs.HostStores.{is_done, AreReached, Begins, BeginsBy, Fails, HoldsJournal, IsConfig, IsNoStore, IsReady, IsStore, SaysOfStore, Stored, TakesBack, TellsOpening}
use Rattle.sd_server.specs.Refusals.{IsBehindConfig, IsNoneOfConfig, IsOfConfig}
use Rattle.sd_server.specs.declared.refusals.Stop.{Stop}
use Rattle.sd_server.specs.declared.refusals.Stop.TheVariants as stops
use Rattle.sd_conf.specs.declared.config.Config.{Config}
use Rattle.sd_rules.specs.declared.settings.Settings.{Settings}
use Rattle.sd_keeper.specs.Blobs.{blobs_of}
use Rattle.sd_keeper.specs.Keeping.{replaced}
use Rattle.sd_keeper.specs.declared.keeper.KeeperFault.{KeeperFault}
use Rattle.sd_rules.specs.KeptRows.{rows_of}
use Rattle.sd_rules.specs.Steps.{Daemon}
use Rattle.sd_server.specs.Stores.{failed_by, faults_by, told_by, HoldsOldOrReached, HoldsReached}
use Rattle.sd_server.specs.Ends.{EndsBy}
use Rattle.sd_server.specs.declared.serving.ServeEnd.{ServeEnd}
use Rattle.sd_server.specs.declared.serving.ServeEnd.TheVariants as ends

pub told_back : {K : Type 0} (told : K → Option (List (List ℕ))) (faults : K → ℕ) (failed : K → Bool) (before now : Stored) (keeper : Option K)
    → is_some keeper ≡ true → TakesBack told faults failed before now keeper → now.blobs ≡ told_by told keeper
told_back told faults failed before now None there back = cc
told_back told faults failed before now (Some k) there back = back.blobs_are

pub failed_back : {K : Type 0} (told : K → Option (List (List ℕ))) (faults : K → ℕ) (failed : K → Bool) (before now : Stored) (keeper : Option K)
    → is_some keeper ≡ true → TakesBack told faults failed before now keeper → now.failed ≡ failed_by failed keeper
failed_back told faults failed before now None there back = cc
failed_back told faults failed before now (Some k) there back = back.failed_is

counted : (first faults : ℕ) → Rose first faults → 0 < faults
counted first faults rose = omega arith

rose_later : (a b c : ℕ) → a ≤ b → Rose b c → Rose a c
rose_later a b c later rose = omega arith

none_rose : (first : ℕ) → Rose first 0 → ⊥
none_rose first rose = omega arith

pub rose_back : {K : Type 0} (told : K → Option (List (List ℕ))) (faults : K → ℕ) (failed : K → Bool) (before now : Stored) (keeper : Option K) (first : ℕ)
    → Rose first (faults_by faults keeper) → TakesBack told faults failed before now keeper → Rose before.faults now.faults
rose_back told faults failed before now None first rose back = absurd (none_rose first rose)
rose_back told faults failed before now (Some k) first rose back = back.counted.rises (counted first (faults k) rose)

pub fails_back : {K : Type 0} (told : K → Option (List (List ℕ))) (faults : K → ℕ) (failed : K → Bool) (before now : Stored) (keeper : Option K) (first : ℕ)
    → Rose first (faults_by faults keeper) → failed_by failed keeper ≡ true → TakesBack told faults failed before now keeper → Fails before now
fails_back told faults failed before now None first rose is back = absurd (none_rose first rose)
fails_back told faults failed before now (Some k) first rose is back = record { failed = back.failed_is ∙ is; cause = back.counted.rises (counted first (faults k) rose) }

pub none_back : {K : Type 0} (told : K → Option (List (List ℕ))) (faults : K → ℕ) (failed : K → Bool) (before now : Stored) (keeper : Option K)
    → is_some keeper ≡ false → TakesBack told faults failed before now keeper → now ≡ before
none_back told faults failed before now None there back = back
none_back told faults failed before now (Some k) there back = cc

-- how serving ended, where it is done
pub done_stored : {P : Type 0} (told : Result ServeEnd KeeperFault) → IfOk told (λ end. end ≢ ends.DoorFailed → P) → is_done told ≡ true → P
done_stored (Ok ends.Stopped) holds done = holds (λ e. cc)
done_stored (Ok ends.NoneToCome) holds done = holds (λ e. cc)
done_stored (Ok ends.DoorFailed) holds done = cc
done_stored (Err x) holds done = cc

pub done_told : (failed : Type 0) (told : Result ServeEnd KeeperFault) (gave ended gave' ended' : Bool) → IfOk told (λ end. EndsBy end gave ended failed) → Tells gave' ended' gave ended
    → is_done told ≡ true → (gave' ≡ true) ⊎ (ended' ≡ true)
done_told failed (Ok ends.Stopped) gave ended gave' ended' why tells done = inl (tells.gave_one why)
done_told failed (Ok ends.NoneToCome) gave ended gave' ended' why tells done = inr (tells.has_ended why)
done_told failed (Ok ends.DoorFailed) gave ended gave' ended' why tells done = cc
done_told failed (Err x) gave ended gave' ended' why tells done = cc

-- what a daemon begins with is a store
pub store_begun : (text : Option (List ℕ)) (blobs : Option (List (List ℕ))) (daemon : Daemon) → IfSome blobs (λ b. Begins text b daemon) → IfSome blobs IsStore
store_begun text None daemon begins = tt
store_begun text (Some b) daemon begins = (begins.by_settings.rows, begins.by_settings.good)

-- a last flush leaves the rows of a journal that the daemon reached
pub journal_held : (text : Option (List ℕ)) (before told now : Option (List (List ℕ))) (daemon : Daemon)
    → IfSome before (λ blobs. Begins text blobs daemon) → told ≡ before → HoldsReached daemon told now → HoldsJournal text before now
journal_held text None told now daemon begins same holds = tt
journal_held text (Some blobs) told now daemon begins same holds = (
  daemon,
  begins,
  record {
    journal = holds.journal;
    reaches = holds.reaches;
    rows = holds.rows ∙ ap (λ (t : Option (List (List ℕ))). replaced t (blobs_of (rows_of holds.journal))) same;
  },
)

-- the store holds what it held, or the rows of a journal that the daemon reached
pub old_or_journal : (text : Option (List ℕ)) (before told now : Option (List (List ℕ))) (daemon : Daemon)
    → IfSome before (λ blobs. Begins text blobs daemon) → told ≡ before → HoldsOldOrReached daemon told now → (now ≡ before) ⊎ HoldsJournal text before now
old_or_journal text before told now daemon begins same (inl old) = inl (old ∙ same)
old_or_journal text before told now daemon begins same (inr holds) = inr (journal_held text before told now daemon begins same holds)

-- a failure is told of what is told before and after
pub fails_between : (a b c d : Stored) → b ≡ a → d ≡ c → Fails b c → Fails a d
fails_between a b c d first last fails = subst (λ (s : Stored). Fails s d) first (subst (λ (s : Stored). Fails b s) (sym last) fails)

-- a failure that came later
pub fails_later : (a b c : Stored) → a.faults ≤ b.faults → Fails b c → Fails a c
fails_later a b c later fails = record { failed = fails.failed; cause = rose_later a.faults b.faults c.faults later fails.cause }

-- where no store is given the last call on it is the one before
pub given_fails : {P : Type 0} (given before now : Bool) → before ≡ false → now ≡ true → (given ≡ true → P) → (given ≡ false → now ≡ before) → P
given_fails true before now old fails there none = there refl
given_fails false before now old fails there none = let same : now ≡ before = none refl in cc

-- the store where nothing of it was asked, or is asked any more
pub opening_self : (given : Bool) (before now : Stored) → now ≡ before → TellsOpening given before now false
opening_self given before now same = subst (λ (s : Stored). TellsOpening given before s false) (sym same) (record {
  blobs = refl;
  unasked = λ none. refl;
  failed = λ e. cc;
  failed_only = λ old fails. cc;
  later = omega arith;
  cause = λ e. cc;
})

pub opening_from : (given : Bool) (a b now : Stored) (fails : Bool) → b ≡ a → TellsOpening given b now fails → TellsOpening given a now fails
opening_from given a b now fails same opening = subst (λ (s : Stored). TellsOpening given s now fails) same opening

pub opening_to : (given : Bool) (before a b : Stored) (fails : Bool) → b ≡ a → TellsOpening given before a fails → TellsOpening given before b fails
opening_to given before a b fails same opening = subst (λ (s : Stored). TellsOpening given before s fails) (sym same) opening

-- a keeper that did not fail was handed back
pub opening_back : {K : Type 0} (told : K → Option (List (List ℕ))) (faults : K → ℕ) (failed : K → Bool) (given : Bool) (before between now : Stored) (keeper : Option K)
    → TellsOpening given before between false → IsReady told failed given before.blobs keeper → TakesBack told faults failed between now keeper → TellsOpening given before now false
opening_back told faults failed given before between now None opening ready back = opening_to given before between now false back opening
opening_back told faults failed given before between now (Some k) opening ready back = record {
  blobs = back.blobs_are ∙ ready.tells (sym ready.there);
  unasked = λ none. let never : true ≡ false = ready.there ∙ none in cc;
  failed = λ e. cc;
  failed_only = λ old fails. let unfailed : failed k ≡ false = ready.unfailed in let is : now.failed ≡ failed k = back.failed_is in cc;
  later = omega (arith, opening.later, back.counted.later);
  cause = λ e. cc;
}

-- what is told of blobs that are no store, of those that are, and of what is tried behind the configuration
pub bad_by : (blobs : Option (List (List ℕ))) (stop : Stop) (n : ℕ) → SaysOfStore blobs stop → stop ≡ stops.BadStore n → IfSome blobs (IsNoStore n)
bad_by blobs stop n says is = subst (λ (s : Stop). SaysOfStore blobs s) is says

pub none_of_config : (blobs : Option (List (List ℕ))) (stop : Stop) → SaysOfStore blobs stop → IsNoneOfConfig stop
none_of_config blobs stops.StoreFault says = tt
none_of_config blobs (stops.BadStore n) says = tt
none_of_config blobs stops.Memory says = tt
none_of_config blobs stops.ReadFault says = absurd says
none_of_config blobs stops.TooLong says = absurd says
none_of_config blobs (stops.Refused fault) says = absurd says
none_of_config blobs stops.DoorFault says = absurd says

pub store_begun_by : (settings : Settings) (blobs : Option (List (List ℕ))) (daemon : Daemon) → IfSome blobs (λ b. BeginsBy settings b daemon) → IfSome blobs IsStore
store_begun_by settings None daemon begins = tt
store_begun_by settings (Some b) daemon begins = (begins.rows, begins.good)

pub begins_of : (text : Option (List ℕ)) (config : Config) (blobs : Option (List (List ℕ))) (daemon : Daemon) → IsConfig text config
    → IfSome blobs (λ b. BeginsBy config.settings b daemon) → IfSome blobs (λ b. Begins text b daemon)
begins_of text config None daemon read begins = tt
begins_of text config (Some b) daemon read begins = record { config = config; read = read; by_settings = begins }

-- why a configuration is not taken, and what is tried behind it, are two things
pub config_apart : (stop : Stop) → IsOfConfig stop → IsBehindConfig stop → ⊥
config_apart stops.ReadFault of behind = behind
config_apart stops.TooLong of behind = behind
config_apart (stops.Refused fault) of behind = behind
config_apart stops.Memory of behind = behind
config_apart stops.StoreFault of behind = of
config_apart (stops.BadStore n) of behind = of
config_apart stops.DoorFault of behind = of
