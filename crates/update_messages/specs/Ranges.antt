-- What every message of the types keeps: bytes below 256, texts that their UTF-8 spells, and the limits of each part.
use Rattle.std.specs.Prelude.{All}
use Rattle.base64.specs.GeneralPurpose.{IsBytes}
use Rattle.sb_members.specs.Ranges.{IsText, IsDuration}
use Rattle.update_messages.specs.declared.client.ClientInfo.{ClientInfo}
use Rattle.update_messages.specs.declared.sets.Additions.{Additions}
use Rattle.update_messages.specs.declared.sets.Additions.TheVariants as added
use Rattle.update_messages.specs.declared.sets.Removals.{Removals}
use Rattle.update_messages.specs.declared.sets.Removals.TheVariants as removed
use Rattle.update_messages.specs.declared.response.FetchResponse.{FetchResponse}
use Rattle.update_messages.specs.Messages.{AskedList, IsAskedList, Request, IsRequest, UpdatedList, IsUpdatedList}

-- ---- the request

pub record IsClientInRange (client : ClientInfo) : Type 0 where
  pub id : IsText client.id
  pub version : IsText client.version

pub record IsAskedInRange (asked : AskedList) : Type 0 where
  pub limits : IsAskedList asked
  pub state : IsBytes asked.state

pub record IsRequestInRange (message : Request) : Type 0 where
  pub limits : IsRequest message
  pub client : IsClientInRange message.client
  pub items : All IsAskedInRange message.items

-- ---- the response

-- whether the bytes of a set are bytes; its limits stand with the update's
abbrev pub IsAdditionOfBytes : Additions → Type 0
IsAdditionOfBytes (added.Raw size bytes) = IsBytes bytes
IsAdditionOfBytes (added.Rice rice) = IsBytes rice.coded

abbrev pub IsRemovalOfBytes : Removals → Type 0
IsRemovalOfBytes (removed.Raw indices) = Unit {0}
IsRemovalOfBytes (removed.Rice rice) = IsBytes rice.coded

pub record IsUpdateInRange (update : UpdatedList) : Type 0 where
  pub limits : IsUpdatedList update
  pub base : IsBytes update.base
  pub additions : All IsAdditionOfBytes update.additions
  pub removals : All IsRemovalOfBytes update.removals
  pub new_state : IsBytes update.new_state
  pub checksum : IsBytes update.checksum

pub record IsResponseInRange (message : FetchResponse) : Type 0 where
  pub items : All IsUpdateInRange message.items
  pub wait : IsDuration message.wait
