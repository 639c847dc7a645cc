-- How the calls that read a body go on, and how they end.
use Rattle.std.proofs.Common.{◌≡◌, ℕ, ◌+◌, ◌≤◌, List, [], length, Option, Some, refl, subst, inl, inr, arith}
use Rattle.std.specs.Prelude.{Result, Ok, Err}
use Rattle.dns_io.specs.declared.io_fault.IoFault.{IoFault}
use Rattle.dns_io.specs.declared.io_fault.IoFault.TheVariants as io
use Rattle.dns_transport.specs.Faults.{of_io}
use Rattle.dns_transport.specs.Pieces.{BodyTold}
use Rattle.dns_transport.specs.declared.error.NetError.{NetError}
use Rattle.dns_transport.specs.declared.error.NetError.TheVariants.{OutOfMemory}
use Rattle.dns_net.specs.Bodies.{AsksNext, ReadsUpTo, begun, IsReadOnce}

-- what a body tells
module _ {B : Type 0} (told : B → BodyTold) where
  pub asked : (b c : B) (answer value : Option (List ℕ)) → answer ≡ value → AsksNext told b (Ok answer) c → AsksNext told b (Ok value) c
  asked b c answer value is call = subst (λ v. AsksNext told b (Ok v) c) is call

  -- a call failed
  pub broke : (said : Option ℕ) (a b c : B) (kept : List ℕ) (fault : IoFault) (result : Result (List ℕ) NetError) → result ≡ Err (of_io fault) → ReadsUpTo (AsksNext told) a kept b → length kept ≤ 65535
      → AsksNext told b (Err fault) c → IsReadOnce (AsksNext told) said a result c
  broke said a b c kept io.Failed result is read short ended = rw is record { kept = kept; between = b; given = read; short = short; ended = ended }
  broke said a b c kept io.OutOfMemory result is read short ended = rw is record { kept = kept; between = b; given = read; short = short; ended = inl ended }

  -- memory ran out where room is made for a piece
  pub no-room : (said : Option ℕ) (a b c : B) (kept piece : List ℕ) (result : Result (List ℕ) NetError) → result ≡ Err OutOfMemory → ReadsUpTo (AsksNext told) a kept b → length kept ≤ 65535
      → AsksNext told b (Ok (Some piece)) c → length kept + length piece ≤ 65535 → IsReadOnce (AsksNext told) said a result c
  no-room said a b c kept piece result is read short ended fits =
      rw is record { kept = kept; between = b; given = read; short = short; ended = inr (inl (piece, ended, fits)) }

  -- memory ran out before the first call
  pub no-call : (said : Option ℕ) (a : B) (result : Result (List ℕ) NetError) → result ≡ Err OutOfMemory → IsReadOnce (AsksNext told) said a result a
  no-call said a result is = rw is record { kept = []; between = a; given = begun; short = omega arith; ended = inr (inr (refl, refl)) }
