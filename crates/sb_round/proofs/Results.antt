-- The results of a message, put beside the names of its updates.
use Rattle.std.proofs.Common.{◌≡◌, ℕ, ◌+◌, ◌<◌, List, [], ◌∷◌, ◌++◌, length, get_or, drop, refl, sym, ap, ◌∙◌, suc, append_assoc, add-one, drop-cons}
use Rattle.update_client.specs.Held.{Held}
use Rattle.update_client.specs.Step.{after_update, results_of}
use Rattle.update_client.specs.declared.fault.ListResult.{ListResult}
use Rattle.update_messages.specs.Messages.{UpdatedList}
use Rattle.sb_round.specs.declared.rounds.Taken.{Taken}
use Rattle.sb_round.specs.Round.{named_results}

-- there is one result for each update
pub result_count : (lists : List Held) (updates : List UpdatedList) → length (results_of lists updates) ≡ length updates
result_count lists [] = refl
result_count lists (update ∷ updates) = ap (λ n. suc n) (result_count (after_update lists update) updates)

-- one name more was put beside its result
pub named_more : (updates : List UpdatedList) (i : ℕ) (update : UpdatedList) (result : ListResult) (taken new whole : List Taken) (before after : List ListResult) → i < length updates
    → update ≡ get_or updates i update → before ≡ result ∷ after → new ≡ taken ++ (record { name = update.name; result = result }) ∷ []
    → taken ++ named_results (drop i updates) before ≡ whole → new ++ named_results (drop (i + 1) updates) after ≡ whole
named_more updates i update result taken new whole before after within is first made so_far =
    let here : drop i updates ≡ update ∷ drop (i + 1) updates = rw (add-one, drop-cons updates i update) (ap (λ (u : UpdatedList). u ∷ drop (suc i) updates) (sym is)) in
    ap (λ (ts : List Taken). ts ++ named_results (drop (i + 1) updates) after) made
    ∙ append_assoc taken _ _
    ∙ sym (ap (λ (us : List UpdatedList). taken ++ named_results us before) here ∙ ap (λ (rs : List ListResult). taken ++ named_results (update ∷ drop (i + 1) updates) rs) first)
    ∙ so_far
