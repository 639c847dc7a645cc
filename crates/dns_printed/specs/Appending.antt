-- Text that is put at the end of what a buffer has.
use Rattle.std.specs.Prelude.{◌≡◌, ℕ, List, ◌++◌, Result, Ok, Err}
use Rattle.dns_io.specs.declared.fault.OutOfMemory.{OutOfMemory}

-- the text but for the rest was put there
pub record IsPutUpTo (before after text rest : List ℕ) : Type 0 where
  pub front : List ℕ
  pub parts : text ≡ front ++ rest
  pub is : after ≡ before ++ front

-- a front of the text was put there
abbrev pub IsCutShort : List ℕ → List ℕ → List ℕ → Type 0
IsCutShort before after text = (rest : List ℕ) × IsPutUpTo before after text rest

-- putting a text at the end of a buffer: all of it stands there, or, where memory ran out, a front of it
abbrev pub Puts : List ℕ → List ℕ → List ℕ → Result (Unit {0}) OutOfMemory → Type 0
Puts before after text (Ok done) = after ≡ before ++ text
Puts before after text (Err fault) = IsCutShort before after text
