-- A filter by its levels.
use Rattle.std.proofs.Common.{◌≡◌, ◌≢◌, ℕ, suc, ◌-◌, Result, Ok, Err, ap, ◌∙◌, arith}
use Rattle.sd_ber.specs.Reading.{Reading, Opened}
use Rattle.sd_ldap.specs.declared.fault.ReadFault.{ReadFault}
use Rattle.sd_ldap.specs.declared.fault.ReadFault.TheVariants.{Memory, Bad}
use Rattle.sd_ldap.specs.declared.filter.Filter.{Filter}
use Rattle.sd_ldap.specs.Filters.{FilterValue, filter_value}
use Rattle.sd_ldap.specs.Monad.{◌>>=◌, Fails, Makes, Gives}
use Rattle.sd_ldap.specs.Parts.{part_at}
use Rattle.sd_ldap.specs.FilterReading.{filter_of, filter_in}

pub no_levels : (levels : ℕ) (r : Reading) → levels ≡ 0 → filter_in levels r ≡ Err r.at
unfolding filter_in
no_levels levels r e = ap (λ (n : ℕ). filter_in n r) e

pub some_levels : (levels : ℕ) (r : Reading) → levels ≢ 0 → filter_in levels r ≡ (part_at r >>= λ part. filter_of (λ inner. filter_in (levels - 1) inner) r.at part.tag part.contents >>= λ filter. Ok (filter, part.after))
unfolding filter_in
some_levels levels r some =
    let k : levels ≡ suc (levels - 1) = omega arith in
    ap (λ (n : ℕ). filter_in n r) k

pub part_fails : (e : ReadFault) (levels : ℕ) (r : Reading) → levels ≢ 0 → Fails e (part_at r) → Fails e (filter_in levels r)
part_fails Memory levels r some h = tt
part_fails (Bad at) levels r some h = some_levels levels r some ∙ ap (λ (found : Result Opened ℕ). found >>= λ part. filter_of (λ inner. filter_in (levels - 1) inner) r.at part.tag part.contents >>= λ filter. Ok (filter, part.after)) h

pub part_gives : (result : Result Filter ReadFault) (levels : ℕ) (r : Reading) (part : Opened) → levels ≢ 0 → part_at r ≡ Ok part → Makes filter_value result (filter_of (λ inner. filter_in (levels - 1) inner) r.at part.tag part.contents) → Gives filter_value result part.after (filter_in levels r)
part_gives (Ok filter) levels r part some h is =
    some_levels levels r some
    ∙ ap (λ (found : Result Opened ℕ). found >>= λ part. filter_of (λ inner. filter_in (levels - 1) inner) r.at part.tag part.contents >>= λ filter. Ok (filter, part.after)) h
    ∙ ap (λ (found : Result FilterValue ℕ). found >>= λ filter. Ok (filter, part.after)) is
part_gives (Err Memory) levels r part some h is = tt
part_gives (Err (Bad at)) levels r part some h is =
    some_levels levels r some
    ∙ ap (λ (found : Result Opened ℕ). found >>= λ part. filter_of (λ inner. filter_in (levels - 1) inner) r.at part.tag part.contents >>= λ filter. Ok (filter, part.after)) h
    ∙ ap (λ (found : Result FilterValue ℕ). found >>= λ filter. Ok (filter, part.after)) is
