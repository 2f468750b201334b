-- What every message of the types keeps: the limits of each part, and texts and durations that are spelled.
use Rattle.std.specs.Prelude.{All}
use Rattle.sb_members.specs.Ranges.{IsText, IsDuration}
use Rattle.update_messages.specs.Ranges.{IsClientInRange}
use Rattle.lookup_messages.specs.Messages.{AskedUrls, IsAskedUrls}
use Rattle.lookup_messages.specs.declared.response.LookupMatch.{LookupMatch}
use Rattle.lookup_messages.specs.declared.response.LookupResponse.{LookupResponse}

pub record IsLookupInRange (message : AskedUrls) : Type 0 where
  pub limits : IsAskedUrls message
  pub client : IsClientInRange message.client
  pub urls : All IsText message.urls

pub record IsLookupMatchInRange (found : LookupMatch) : Type 0 where
  pub url : IsText found.url
  pub cache : IsDuration found.cache

pub record IsLookupResponseInRange (message : LookupResponse) : Type 0 where
  pub matches : All IsLookupMatchInRange message.matches
