-- Runs of a handler over the messages of a connection.
use Rattle.std.specs.Prelude.{◌≡◌, ◌⊎◌, ℕ, List, ◌++◌, Option}
use Rattle.dns_io.specs.Told.{Grows, GrowsByPrefix}
use Rattle.dns_book.specs.declared.ask.Ask.{Ask}
use Rattle.dns_book.specs.declared.ask.Settled.{Settled}
use Rattle.dns_server_core.specs.FrameRuns.{Run}

-- all of them were settled, and a sink took exactly the bytes of their replies
pub record Answers {H : Type 0} (serves : H → Ask → Settled → H → Type 0) (before : H) (asks : List Ask) (after : H)
    (taken now : Option (List ℕ)) : Type 0 where
  pub bytes : List ℕ
  pub run : Run serves before asks bytes after
  pub sent : Grows taken now bytes

-- all of them were settled, and a sink took a front of the bytes of their replies
pub record AnswersPartly {H : Type 0} (serves : H → Ask → Settled → H → Type 0) (before : H) (asks : List Ask) (after : H)
    (taken now : Option (List ℕ)) : Type 0 where
  pub bytes : List ℕ
  pub run : Run serves before asks bytes after
  pub unsent : List ℕ
  pub sent : GrowsByPrefix taken now bytes unsent

-- the first of them were settled, and behind these came at most one call that found no memory; a sink took a front of the bytes
-- of their replies
pub record BreaksOff {H : Type 0} (serves : H → Ask → Settled → H → Type 0) (skips : H → H → Type 0) (before : H) (asks : List Ask)
    (after : H) (taken now : Option (List ℕ)) : Type 0 where
  pub first : List Ask
  pub others : List Ask
  pub parts : asks ≡ first ++ others
  pub last : H
  pub answered : AnswersPartly serves before first last taken now
  pub end : (after ≡ last) ⊎ skips last after
