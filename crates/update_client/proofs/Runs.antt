-- Updates that are taken one by one.
use Rattle.std.proofs.Common.{◌≡◌, ℕ, ◌+◌, ◌<◌, List, [], ◌∷◌, ◌++◌, length, drop, get_or, sym, ap, ◌∙◌, append_assoc}
use Rattle.update_messages.specs.Messages.{UpdatedList}
use Rattle.update_client.specs.Held.{Held}
use Rattle.update_client.specs.Step.{after_update, after_updates, result_among, results_of}
use Rattle.update_client.specs.declared.fault.ListResult.{ListResult}
use Rattle.update_client.proofs.Joining.{rest_of}

pub lists_more : (updates : List UpdatedList) (i : ℕ) (update : UpdatedList) (now next all : List Held) → i < length updates → update ≡ get_or updates i update
    → next ≡ after_update now update → after_updates now (drop i updates) ≡ all → after_updates next (drop (i + 1) updates) ≡ all
lists_more updates i update now next all below is step so_far =
    ap (λ lists. after_updates lists (drop (i + 1) updates)) step
    ∙ sym (ap (λ rest. after_updates now rest) (rest_of updates i update below is))
    ∙ so_far

pub results_more : (updates : List UpdatedList) (i : ℕ) (update : UpdatedList) (now next : List Held) (results after all : List ListResult) (outcome : ListResult)
    → i < length updates → update ≡ get_or updates i update → next ≡ after_update now update → outcome ≡ result_among now update → after ≡ results ++ outcome ∷ []
    → results ++ results_of now (drop i updates) ≡ all → after ++ results_of next (drop (i + 1) updates) ≡ all
results_more updates i update now next results after all outcome below is step told pushed so_far =
    ap (λ front. front ++ results_of next (drop (i + 1) updates)) pushed
    ∙ append_assoc results (outcome ∷ []) (results_of next (drop (i + 1) updates))
    ∙ ap (λ (o : ListResult). results ++ o ∷ results_of next (drop (i + 1) updates)) told
    ∙ ap (λ lists. results ++ result_among now update ∷ results_of lists (drop (i + 1) updates)) step
    ∙ sym (ap (λ rest. results ++ results_of now rest) (rest_of updates i update below is))
    ∙ so_far
