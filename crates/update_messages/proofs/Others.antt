-- Items of no name change nothing of a request.
use Rattle.std.proofs.Common.{◌≡◌, true, false, List, [], ◌∷◌, Option, Some, None, Result, Ok, Err, refl, sym, ap, ◌∙◌, subst}
use Rattle.serde_json.specs.Data.{Data, Items, no_items, item}
use Rattle.sb_json.specs.Values.{◌>>=◌}
use Rattle.sb_json.specs.declared.faults.FieldFault.{FieldFault}
use Rattle.sb_model.specs.declared.names.ListName.{ListName}
use Rattle.sb_members.specs.Lists.{EachReads, ReadsList}
use Rattle.sb_members.specs.Somes.{somes, is_something, is_nothing, without_nothing}
use Rattle.update_messages.specs.Messages.{AskedList, Request}
use Rattle.update_messages.specs.Others.{IsWithoutOthers}
use Rattle.update_messages.specs.RequestRows.{asked_name_row}
use Rattle.update_messages.specs.Reading.{ReadsAsked, ReadsClient, ReadsRequest}
use Rattle.update_messages.proofs.NamedItems.{no_name, has_name}

-- those that are something
abbrev kept : {A : Type 0} → List (Option A) → List (Option A)
kept [] = []
kept (None ∷ os) = kept os
kept (Some a ∷ os) = Some a ∷ kept os

same_somes : {A : Type 0} (os : List (Option A)) → somes os ≡ somes (kept os)
same_somes [] = refl
same_somes (None ∷ os) = same_somes os
same_somes {A = A} (Some a ∷ os) = ap (λ (more : List A). a ∷ more) (same_somes os)

something_stays : (r : Result (Option ListName) FieldFault) → is_something r ≡ true → is_nothing r ≡ false
something_stays (Ok None) h = absurd (cc h)
something_stays (Ok (Some n)) h = refl
something_stays (Err f) h = refl

each_kept : (ds : Items) (all : List (Option AskedList)) → EachReads ReadsAsked ds all → EachReads ReadsAsked (without_nothing asked_name_row ds) (kept all)
each_kept no_items [] h = tt
each_kept no_items (o ∷ os) h = absurd h
each_kept (item d ds) [] h = absurd h
each_kept (item d ds) (None ∷ os) h = rw (no_name d h.0) (each_kept ds os h.1)
each_kept (item d ds) (Some a ∷ os) h = rw (something_stays _ (has_name d a h.0)) (h.0, each_kept ds os h.1)

row_kept : (r : Result Items FieldFault) (all : List (Option AskedList)) → ReadsList ReadsAsked r all
    → ReadsList ReadsAsked (r >>= λ items. Ok (without_nothing asked_name_row items)) (kept all)
row_kept (Ok ds) all h = each_kept ds all h
row_kept (Err f) all h = absurd h

pub request_without : (value other : Data) (message : Request) → IsWithoutOthers value other → ReadsRequest value message → ReadsRequest other message
request_without value other message same h = record {
  object = same.object;
  client = subst (λ (r : Result Data FieldFault). ReadsClient r message.client) (sym same.client) h.client;
  few = h.few;
  items = record {
    all = kept h.items.all;
    all_read = subst (λ (r : Result Items FieldFault). ReadsList ReadsAsked r (kept h.items.all)) (sym same.items) (row_kept _ h.items.all h.items.all_read);
    kept = h.items.kept ∙ same_somes h.items.all;
  };
}
