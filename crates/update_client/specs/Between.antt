-- Updates between two sets, and where they lead.
use Rattle.std.specs.Prelude.{◌≡◌, ◌<◌, ℕ, false, List, None, All}
use Rattle.prefix_set.specs.Limits.{IsPrefixSet}
use Rattle.update_messages.specs.Messages.{AskedList}
use Rattle.update_messages.specs.Answer.{whole_update, difference_update}
use Rattle.update_client.specs.Held.{Held}
use Rattle.update_client.specs.Step.{first_fault, list_step}

-- A set that may be sent: its members rise, have 4 to 32 bytes each, and are within the limits of a set, and they are strings of bytes.
pub record IsSentSet (members : List (List ℕ)) : Type 0 where
  pub set : IsPrefixSet members
  pub bytes : All (λ member. All (λ byte. byte < 256) member) members

-- An update between two sets leads from the one to the other, without a fault: whoever holds the old set, under the state that was asked from,
-- holds the newer one afterwards, under its token; and whoever holds anything gets the whole of a set.
pub record UpdatesLead : Type 0 where
  pub whole : (asked : AskedList) (newer : List (List ℕ)) (token : List ℕ) (held : Held) → IsSentSet newer → held.name ≡ asked.name
      → (first_fault held (whole_update asked newer token) ≡ None)
      × (list_step held (whole_update asked newer token) ≡ record { name = held.name; token = token; set = newer; resync = false })
  pub difference : (asked : AskedList) (size : ℕ) (old newer : List (List ℕ)) (token : List ℕ) (held : Held) → IsSentSet old → IsSentSet newer
      → held.name ≡ asked.name → held.token ≡ asked.state → held.set ≡ old
      → (first_fault held (difference_update asked size old newer token) ≡ None)
      × (list_step held (difference_update asked size old newer token) ≡ record { name = held.name; token = token; set = newer; resync = false })
