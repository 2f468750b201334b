use Rattle.client_laws.proofs.Lookups.{called_are_listed, safe_is_unlisted, listed_are_called}
use Rattle.client_laws.proofs.verdicts.right_rulings_are_lookups.Goals as goal

pub returns-clause-safe : goal.returns-clause-safe
returns-clause-safe c history token_at lists url said well right safe name listed =
    safe_is_unlisted history token_at lists url said right (λ held hashes hash. c.hits_find_listed_urls.ensures.hit history token_at lists url held hashes hash well) safe name listed

pub returns-clause-some : goal.returns-clause-some
returns-clause-some c history token_at lists url said are right name called = called_are_listed history token_at lists url said right are name called

pub returns-clause-all : goal.returns-clause-all
returns-clause-all c history token_at lists url said well are right none name = (
  listed_are_called history token_at lists url said right (λ held hashes hash. c.hits_find_listed_urls.ensures.hit history token_at lists url held hashes hash well) none name,
  called_are_listed history token_at lists url said right are name,
)
