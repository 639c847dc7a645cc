-- Replies that go into a buffer, plain or behind their length (RFC 1035 4.2.2).
use Rattle.std.specs.Prelude.{◌≡◌, ℕ, ◌≤◌, List, [], ◌++◌, length, drop, Option, Some, None, IfSome, Bool, is_some, if◌then◌else◌}
use Rattle.dns_wire.specs.Written.{sent_as}
use Rattle.dns_book.specs.declared.ask.Settled.{Settled}
use Rattle.dns_book.specs.declared.ask.SettledInto.{SettledInto}

-- what a reply adds to a buffer, where one is owed
abbrev pub sent_for : Bool → Option (List ℕ) → List ℕ
sent_for framed None = []
sent_for framed (Some bytes) = sent_as framed bytes

-- what is told beside a reply
abbrev pub told_of : Settled → SettledInto
told_of settled = record { is_owed = is_some settled.reply; length = settled.length; receipt = settled.receipt }

-- what was settled whose reply, where one is owed, is this frame
abbrev pub settled_of : SettledInto → List ℕ → Settled
settled_of into frame = record { reply = if into.is_owed then Some (drop 2 frame) else None; length = into.length; receipt = into.receipt }

-- a message was settled, and its reply, where one is owed, was added to what a buffer had
pub record SettlesInto (settles : Settled → Type 0) (framed : Bool) (before after : List ℕ) (into : SettledInto) : Type 0 where
  pub settled : Settled
  pub is : settles settled
  pub sent : after ≡ before ++ sent_for framed settled.reply
  pub short : IfSome settled.reply (λ bytes. length bytes ≤ 65535)
  pub told : into ≡ told_of settled
