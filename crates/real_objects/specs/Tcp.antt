-- The link over TCP, as contracts see it. It tells nothing of content.
use Rattle.std.specs.Prelude.{ℕ, Bool}

pub record TcpSession : Type 0 where
  -- whether there is an address
  pub is_usable : Bool
  -- whether a session is open
  pub is_open : Bool
  pub faults : ℕ
