-- A text on its way to a sink: some of it taken, and some waiting in a buffer.
use Rattle.std.specs.Prelude.{◌≡◌, ◌≢◌, ℕ, List, [], ◌++◌, Option}
use Rattle.sb_outside.specs.Outside.{appended}

-- The sink took a front of the text, and what waits is the rest.
pub record IsOnItsWay (before after : Option (List ℕ)) (waiting text : List ℕ) : Type 0 where
  pub taken : List ℕ
  pub has : after ≡ appended before taken
  pub rest : taken ++ waiting ≡ text

-- The sink took a front of the text that is not the whole, and no more comes.
pub record HasFront (before after : Option (List ℕ)) (text : List ℕ) : Type 0 where
  pub taken : List ℕ
  pub lost : List ℕ
  pub has : after ≡ appended before taken
  pub rest : taken ++ lost ≡ text
  pub missing : lost ≢ []
