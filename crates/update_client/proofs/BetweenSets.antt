-- What an update between two sets says, and what it does to who holds the one.
use Rattle.std.proofs.Common.{◌≡◌, ℕ, ◌^◌, ◌<◌, ◌≤◌, inl, inr, Bool, true, false, List, [], ◌∷◌, ◌++◌, length, get_or, refl, sym, ap, subst, ◌∙◌, arith, None, Option, Result, Ok}
use Rattle.std.specs.Prelude.{◌↔◌, ◌&&◌, Contains, All, IsOkAnd, not, if◌then◌else◌}
use Rattle.std.specs.Option.{option_map}
use Rattle.std.specs.Str.{bytes_eq}
use Rattle.std.specs.List.{AllByRecursion}
use Rattle.std.proofs.lemmas.Bool.{le-ltb}
use Rattle.std.proofs.lemmas.List.Elements.{recursion_from_All}
use Rattle.std.proofs.lemmas.Slice.Eq.{bytes_eq-Decides}
use Rattle.sb_model.specs.History.{IsPrefixSize}
use Rattle.sb_model.specs.Prefixes.{IsRising, set_of, concatenation}
use Rattle.sb_model.specs.Candidate.{Update, candidate, without_places}
use Rattle.sb_model.specs.Difference.{has_member, removed_places, added_members}
use Rattle.rice_coding.specs.declared.fault.RiceFault.{RiceFault}
use Rattle.prefix_set.specs.Apply.{applied, first_past}
use Rattle.prefix_set.specs.Limits.{IsPrefixSet}
use Rattle.prefix_set.specs.declared.set.TheConstants.{MAX_PREFIXES, MAX_BYTES}
use Rattle.update_messages.specs.Messages.{AskedList, UpdatedList}
use Rattle.update_messages.specs.Rising.{SentNumbersRise}
use Rattle.update_messages.specs.Answer.{addition_sets, whole_update, difference_update}
use Rattle.update_client.specs.declared.fault.UpdateFault.{UpdateFault}
use Rattle.update_client.specs.declared.fault.UpdateFault.TheVariants.{IndexRange, StaleBase}
use Rattle.update_client.specs.Held.{Held, digest_of}
use Rattle.update_client.specs.Step.{◌>>=◌, ◌or◌, most_rice_values, prefixes_of, places_of, joined, meaning_of, fault_if, stale_fault, set_fault, change_fault, first_fault, proposed, held_after, list_step}
use Rattle.update_client.specs.Feeding.{meant_by}
use Rattle.update_client.specs.Between.{IsSentSet, UpdatesLead}
use Rattle.update_client.proofs.Membership.{In, contains_in, in_contained, in_left, in_right, in_either, from_filter, of_each, each_in}
use Rattle.update_client.proofs.HistoryPrefixes.{IsPrefix}
use Rattle.update_client.proofs.AnswerSets.{DecodesEncoded, ReadsAs, few_kept, additions_read, removals_read}

-- what the crates below say of sets, differences and records
pub record SetLaws : Type 0 where
  pub leads : (old newer : List (List ℕ)) → IsRising old → IsRising newer → applied old (removed_places old newer) (added_members old newer) ≡ newer
  pub in_range : (old newer : List (List ℕ)) → first_past (length old) (removed_places old newer) ≡ None
  pub rising : (xs : List (List ℕ)) → IsRising (set_of xs)
  pub members : (xs : List (List ℕ)) (x : List ℕ) → Contains (set_of xs) x ↔ Contains xs x
  pub only : (xs ys : List (List ℕ)) → IsRising xs → IsRising ys → ((x : List ℕ) → Contains xs x ↔ Contains ys x) → xs ≡ ys
  pub same : (xs ys : List (List ℕ)) → ((x : List ℕ) → Contains xs x ↔ Contains ys x) → set_of xs ≡ set_of ys
  pub decodes : DecodesEncoded
  pub rise : SentNumbersRise

-- a set whose additions are read as they were sent
pub record IsSent (set : List (List ℕ)) : Type 0 where
  pub rising : IsRising set
  pub prefixes : AllByRecursion IsPrefix set
  pub few : length set ≤ most_rice_values

-- An update says what leads from a set to another: its additions and its removals, which are places of the set.
pub record Leads (update : UpdatedList) (set newer : List (List ℕ)) : Type 0 where
  pub additions : List (List ℕ)
  pub removals : List ℕ
  pub says : meaning_of update ≡ Ok (meant_by update (record { removals = removals; additions = additions }))
  pub there : candidate (meant_by update (record { removals = removals; additions = additions })) set ≡ newer
  pub in_range : first_past (length set) removals ≡ None

-- what an update says, whose sets say these
says : (update : UpdatedList) (additions : List (List ℕ)) (removals : List ℕ) → joined prefixes_of update.additions ≡ Ok additions
    → joined places_of (if update.full then [] else update.removals) ≡ Ok removals
    → meaning_of update ≡ Ok (meant_by update (record { removals = removals; additions = additions }))
says update additions removals added removed =
    ap (λ (r : Result (List (List ℕ)) RiceFault). r >>= λ adds. joined places_of (if update.full then [] else update.removals)
    >>= λ places. Ok (meant_by update (record { removals = places; additions = adds }))) added
    ∙ ap (λ (r : Result (List ℕ) RiceFault). r >>= λ places. Ok (meant_by update (record { removals = places; additions = additions }))) removed

pub leads_on : (update : UpdatedList) (set newer : List (List ℕ)) → Leads update set newer → IsOkAnd (meaning_of update) (λ meant. candidate meant set ≡ newer)
leads_on update set newer leads = subst (λ (r : Result Update RiceFault). IsOkAnd r (λ meant. candidate meant set ≡ newer)) (sym leads.says) leads.there

module _ (laws : SetLaws) where
  -- the members that a server puts in are those that are read
  alike : (xs ys : List (List ℕ)) → ((x : List ℕ) → In x xs → In x ys) → ((x : List ℕ) → In x ys → In x xs) → (x : List ℕ) → Contains xs x ↔ Contains ys x
  alike xs ys to back x = (λ c. contains_in x ys (to x (in_contained x xs c)), λ c. contains_in x xs (back x (in_contained x ys c)))

  full_set : (found newer : List (List ℕ)) → IsSent newer → ((x : List ℕ) → In x newer → In x found) → ((x : List ℕ) → In x found → In x newer) → set_of found ≡ newer
  full_set found newer sent has only =
      laws.only (set_of found) newer (laws.rising found) sent.rising (λ x.
      let within = laws.members found x in
      let like = alike found newer only has x in
      (λ c. like.0 (within.0 c), λ c. within.1 (like.1 c)))

  changed_set : (found old newer : List (List ℕ)) → IsSent old → IsSent newer → ((x : List ℕ) → In x (added_members old newer) → In x found)
      → ((x : List ℕ) → In x found → In x (added_members old newer)) → set_of (without_places old (removed_places old newer) ++ found) ≡ newer
  changed_set found old newer sent sent' has only =
      laws.same (kept ++ found) (kept ++ added_members old newer) (alike (kept ++ found) (kept ++ added_members old newer)
      (λ x h. elim (in_either x kept found h) [ inl k ↦ in_left x kept (added_members old newer) k | inr k ↦ in_right x kept (added_members old newer) (only x k) ])
      (λ x h. elim (in_either x kept (added_members old newer) h) [ inl k ↦ in_left x kept found k | inr k ↦ in_right x kept found (has x k) ]))
      ∙ laws.leads old newer sent.rising sent'.rising
    where
      kept : List (List ℕ)
      kept = without_places old (removed_places old newer)

  few_added : (old newer : List (List ℕ)) → length (added_members old newer) ≤ length newer
  few_added old newer = few_kept (λ member. not (has_member old member)) newer

  added_prefixes : (old newer : List (List ℕ)) → AllByRecursion IsPrefix newer → AllByRecursion IsPrefix (added_members old newer)
  added_prefixes old newer all =
      each_in IsPrefix (added_members old newer) (λ x h. of_each IsPrefix x newer all (from_filter (λ (member : List ℕ). not (has_member old member)) x newer h).0)

  pub whole_leads : (asked : AskedList) (newer : List (List ℕ)) (token : List ℕ) → IsSent newer → (set : List (List ℕ)) → Leads (whole_update asked newer token) set newer
  whole_leads asked newer token sent set =
      let read : ReadsAs (joined prefixes_of (addition_sets asked.rice newer)) newer = additions_read laws.decodes laws.rise asked.rice newer sent.few sent.prefixes in
      record {
        additions = read.found;
        removals = [];
        says = says (whole_update asked newer token) read.found [] read.is refl;
        there = full_set read.found newer sent read.has read.only;
        in_range = refl;
      }

  pub difference_leads : (asked : AskedList) (size : ℕ) (old newer : List (List ℕ)) (token : List ℕ) → IsSent old → IsSent newer → Leads (difference_update asked size old newer token) old newer
  difference_leads asked size old newer token sent sent' =
      let read : ReadsAs (joined prefixes_of (addition_sets asked.rice (added_members old newer))) (added_members old newer) =
      additions_read laws.decodes laws.rise asked.rice (added_members old newer) (omega (arith, few_added old newer, sent'.few)) (added_prefixes old newer sent'.prefixes) in
      record {
        additions = read.found;
        removals = removed_places old newer;
        says = says (difference_update asked size old newer token) read.found (removed_places old newer) read.is
            (removals_read laws.decodes asked.rice size (removed_places old newer) (laws.rise.places old newer).rising
            (recursion_from_All (λ place. place < 2 ^ 32) (removed_places old newer) (λ k d below.
            let at : get_or (removed_places old newer) k d < length old = (laws.rise.places old newer).within k d below in
            omega (arith, at, sent.few)))
            (omega (arith, (laws.rise.places old newer).few, sent.few)));
        there = changed_set read.found old newer sent sent' read.has read.only;
        in_range = laws.in_range old newer;
      }

-- ---- sets that may be sent

sent_prefixes : (set : List (List ℕ)) → AllByRecursion (λ member. IsPrefixSize (length member)) set → AllByRecursion (λ member. All (λ byte. byte < 256) member) set → AllByRecursion IsPrefix set
sent_prefixes [] sizes bytes = tt
sent_prefixes (m ∷ ms) sizes bytes = (
  record { low = sizes.0.low; high = sizes.0.high; bytes = recursion_from_All (λ byte. byte < 256) m bytes.0 },
  sent_prefixes ms sizes.1 bytes.1,
)

sent_of : (set : List (List ℕ)) → IsSentSet set → IsSent set
sent_of set sent = record {
  rising = sent.set.rising;
  prefixes = sent_prefixes set (recursion_from_All (λ (member : List ℕ). IsPrefixSize (length member)) set sent.set.prefixes)
      (recursion_from_All (λ (member : List ℕ). All (λ byte. byte < 256) member) set sent.bytes);
  few = sent.set.count;
}

-- ---- no fault

no_set_fault : (checksum : List ℕ) (set : List (List ℕ)) → IsPrefixSet set → digest_of set ≡ checksum → set_fault checksum set ≡ None
no_set_fault checksum set keeps same =
    rw (le-ltb MAX_PREFIXES (length set) keeps.count) (rw (le-ltb MAX_BYTES (length (concatenation set)) keeps.bytes) (rw ((bytes_eq-Decides (digest_of set) checksum).1 same) refl))

module _ (held : Held) (update : UpdatedList) (newer : List (List ℕ)) (leads : Leads update held.set newer) (keeps : IsPrefixSet newer)
    (digest : digest_of newer ≡ update.checksum) (fresh : stale_fault held update ≡ None) where
  abbrev meant : Update
  meant = meant_by update (record { removals = leads.removals; additions = leads.additions })

  no_change_fault : change_fault held (meaning_of update) ≡ None
  no_change_fault =
      ap (change_fault held) leads.says
      ∙ ap (λ (o : Option ℕ). option_map (λ index. IndexRange index (length held.set)) o or set_fault update.checksum (candidate meant held.set)) leads.in_range
      ∙ ap (set_fault update.checksum) leads.there
      ∙ no_set_fault update.checksum newer keeps digest

  pub no_fault : first_fault held update ≡ None
  no_fault = ap (λ (f : Option UpdateFault). f or change_fault held (meaning_of update)) fresh ∙ no_change_fault

  pub step : list_step held update ≡ record { name = held.name; token = update.new_state; set = newer; resync = false }
  step =
      ap (held_after held update) no_fault
      ∙ ap (λ (r : Result Update RiceFault). held_with (proposed r held.set)) leads.says
      ∙ ap held_with leads.there
    where
      held_with : List (List ℕ) → Held
      held_with set = record { name = held.name; token = update.new_state; set = set; resync = false }

own_base : (held : Held) (asked : AskedList) (size : ℕ) (old newer : List (List ℕ)) (token : List ℕ) → held.token ≡ asked.state → stale_fault held (difference_update asked size old newer token) ≡ None
own_base held asked size old newer token own =
    ap (λ (t : Bool). fault_if (not (bytes_eq asked.state []) && not t) (StaleBase held.token asked.state)) ((bytes_eq-Decides asked.state held.token).1 (sym own))
    ∙ go (not (bytes_eq asked.state []))
  where
    go : (named : Bool) → fault_if (named && not true) (StaleBase held.token asked.state) ≡ None
    go true = refl
    go false = refl

pub updates_lead : SetLaws → UpdatesLead
updates_lead laws = record {
  whole = λ asked newer token held sent name.
      let leads : Leads (whole_update asked newer token) held.set newer = whole_leads laws asked newer token (sent_of newer sent) held.set in (
        no_fault held (whole_update asked newer token) newer leads sent.set refl refl,
        step held (whole_update asked newer token) newer leads sent.set refl refl,
      );
  difference = λ asked size old newer token held sent sent' name state own.
      let leads : Leads (difference_update asked size old newer token) held.set newer =
      subst (λ (set : List (List ℕ)). Leads (difference_update asked size old newer token) set newer) (sym own) (difference_leads laws asked size old newer token (sent_of old sent) (sent_of newer sent')) in
      let fresh = own_base held asked size old newer token state in (
        no_fault held (difference_update asked size old newer token) newer leads sent'.set refl fresh,
        step held (difference_update asked size old newer token) newer leads sent'.set refl fresh,
      );
}
