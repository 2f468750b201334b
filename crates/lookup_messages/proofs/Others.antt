-- Types of no name change nothing of a request.
use Rattle.std.proofs.Common.{◌≡◌, List, [], ◌∷◌, Option, Some, None, Result, Ok, Err, refl, sym, ap, ◌∙◌, subst}
use Rattle.serde_json.specs.Data.{Data, Items, no_items, item}
use Rattle.sb_json.specs.Values.{◌>>=◌}
use Rattle.sb_json.specs.declared.faults.FieldFault.{FieldFault}
use Rattle.sb_members.specs.Lists.{EachReads, ReadsList}
use Rattle.sb_members.specs.Somes.{somes, ReadsSome, without_nothing}
use Rattle.update_messages.specs.Reading.{ReadsClient}
use Rattle.hash_messages.specs.RequestRows as find
use Rattle.hash_messages.specs.Reading.{ReadsAs}
use Rattle.hash_messages.specs.Others.{IsWithoutNothing}
use Rattle.lookup_messages.specs.Messages.{AskedUrls}
use Rattle.lookup_messages.specs.RequestRows.{url_row}
use Rattle.lookup_messages.specs.Reading.{ReadsLookup}
use Rattle.lookup_messages.specs.Others.{IsLookupWithoutOthers}

-- those that are something
abbrev kept : {A : Type 0} → List (Option A) → List (Option A)
kept [] = []
kept (None ∷ os) = kept os
kept (Some a ∷ os) = Some a ∷ kept os

same_somes : {A : Type 0} (os : List (Option A)) → somes os ≡ somes (kept os)
same_somes [] = refl
same_somes (None ∷ os) = same_somes os
same_somes {A = A} (Some a ∷ os) = ap (λ (more : List A). a ∷ more) (same_somes os)

each_kept : {A : Type 0} (row : Data → Result (Option A) FieldFault) (ds : Items) (all : List (Option A)) → EachReads (ReadsAs row) ds all → EachReads (ReadsAs row) (without_nothing row ds) (kept all)
each_kept row no_items [] h = tt
each_kept row no_items (o ∷ os) h = absurd h
each_kept row (item d ds) [] h = absurd h
each_kept row (item d ds) (None ∷ os) h = rw (h.0) (each_kept row ds os h.1)
each_kept row (item d ds) (Some a ∷ os) h = rw (h.0) (h.0, each_kept row ds os h.1)

row_kept : {A : Type 0} (row : Data → Result (Option A) FieldFault) (r : Result Items FieldFault) (all : List (Option A)) → ReadsList (ReadsAs row) r all
    → ReadsList (ReadsAs row) (r >>= λ items. Ok (without_nothing row items)) (kept all)
row_kept row (Ok ds) all h = each_kept row ds all h
row_kept row (Err f) all h = absurd h

some_without : {A : Type 0} (row : Data → Result (Option A) FieldFault) (r others : Result Items FieldFault) (xs : List A) → IsWithoutNothing row r others → ReadsSome (ReadsAs row) r xs → ReadsSome (ReadsAs row) others xs
some_without row r others xs e h = record {
  all = kept h.all;
  all_read = subst (λ (q : Result Items FieldFault). ReadsList (ReadsAs row) q (kept h.all)) (sym e) (row_kept row r h.all h.all_read);
  kept = h.kept ∙ same_somes h.all;
}

pub request_without : (value other : Data) (message : AskedUrls) → IsLookupWithoutOthers value other → ReadsLookup value message → ReadsLookup other message
request_without value other message same h = record {
  outside = record {
    object = same.object;
    client = subst (λ (r : Result Data FieldFault). ReadsClient r message.client) (sym same.client) h.outside.client;
    threats = some_without find.asked_threat_row _ _ message.threats same.threats h.outside.threats;
    platforms = some_without find.asked_platform_row _ _ message.platforms same.platforms h.outside.platforms;
    entries = some_without find.asked_entry_row _ _ message.entries same.entries h.outside.entries;
  };
  few = h.few;
  urls = subst (λ (r : Result Items FieldFault). ReadsList (ReadsAs url_row) r message.urls) (sym same.urls) h.urls;
}
