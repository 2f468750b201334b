-- What words ask for beside the lists.
use Rattle.std.proofs.Common.{◌≡◌, ℕ, ◌≤◌, List, Bool, true, false, refl, sym, Option, Some, codes, le-leb}
use Rattle.std.specs.Prelude.{nat_le, option_and_then}
use Rattle.std.specs.Coded.{le_prop}
use Rattle.update_client.specs.declared.options.FetchOptions.{FetchOptions}
use Rattle.client_words.specs.Asking.{options_by, options_of, options_given, limit_given, has_flag}

-- the bounds of limits have one proof
same_options : (options : FetchOptions) (small : options.max_update ≤ 2147483647) (few : options.max_database ≤ 2147483647)
    → Some (record { max_update = options.max_update; max_database = options.max_database; raw_only = options.raw_only; update_limit = small; database_limit = few }) ≡ Some options
same_options options small few = rw (le_prop small options.update_limit) (rw (le_prop few options.database_limit) refl)

options_are_by : (options : FetchOptions) (a b : Bool) (small : nat_le options.max_update 2147483647 ≡ a) (few : nat_le options.max_database 2147483647 ≡ b)
    → options_by options.max_update options.max_database options.raw_only a b small few ≡ Some options
options_are_by options true true small few = same_options options _ _
options_are_by options true false small few = absurd (let is = le-leb options.max_database 2147483647 options.database_limit in cc)
options_are_by options false b small few = absurd (let is = le-leb options.max_update 2147483647 options.update_limit in cc)

options_are : (options : FetchOptions) → options_of options.max_update options.max_database options.raw_only ≡ Some options
options_are options = options_are_by options _ _ refl refl

by_parts : (update database : Option ℕ) (raw : Bool) (options : FetchOptions) → update ≡ Some options.max_update → database ≡ Some options.max_database → raw ≡ options.raw_only
    → Some options ≡ option_and_then (λ update. option_and_then (λ database. options_of update database raw) database) update
by_parts update database raw options e h k = rw e (rw h (rw k (sym (options_are options))))

pub options_made : (named : List (List ℕ × List ℕ)) (options : FetchOptions)
    → limit_given (codes "max-update") 0 named ≡ Some options.max_update
    → limit_given (codes "max-database") 1048576 named ≡ Some options.max_database
    → has_flag (codes "raw-only") named ≡ options.raw_only
    → Some options ≡ options_given named
options_made named options e h k = by_parts _ _ _ options e h k
