-- What a link tells of its calls, and what a client makes of its answers.
use Rattle.std.specs.Prelude.{◌≡◌, ℕ, ◌+◌, List, [], ◌∷◌, Option, Result, Err, OnOk, OnErr}
use Rattle.http.specs.declared.request.Request.{Request}
use Rattle.http.specs.declared.response.Response.{Response}
use Rattle.dns_io.specs.Told.{Keeps, Grows}
use Rattle.dns_transport.specs.Faults.{HasLinkCause, CountsReturned}
use Rattle.dns_transport.specs.declared.error.LinkFault.{LinkFault}
use Rattle.dns_transport.specs.declared.error.LinkFault.TheVariants.{OutOfMemory}
use Rattle.dns_net.specs.declared.link.LinkCall.{LinkCall}
use Rattle.dns_net.specs.declared.link.LinkCall.TheVariants.{Exchanged, Returned}

-- an exchange is told with its request and limit, but where memory ran out
abbrev pub TellsAsked : {B : Type 0} → Option (List (LinkCall B)) → Option (List (LinkCall B))
    → Request (List ℕ) → Option ℕ → Result (Response B) LinkFault → Type 0
TellsAsked before now request limit (Err OutOfMemory) = Keeps before now
TellsAsked before now request limit result = Grows before now (Exchanged request limit ∷ [])

-- a link: the calls so far with what was handed in, where they are told, how many bodies are given out and have not come back, and how
-- many calls failed
pub record LinkTold (B : Type 0) : Type 0 where
  pub calls : Option (List (LinkCall B))
  pub given_out : ℕ
  pub faults : ℕ

-- what is known of a link: what it tells, and what one exchange of this request, with this limit, may answer, and how it may leave the
-- link
pub record LinkOf (L B : Type 0) : Type 1 where
  pub told : L → LinkTold B
  pub exchanges : L → Request (List ℕ) → Option ℕ → Result (Response B) LinkFault → L → Type 0

-- one exchange of this request, with this limit
pub record Exchanges {B : Type 0} (before after : LinkTold B)
    (request : Request (List ℕ)) (limit : Option ℕ) (result : Result (Response B) LinkFault) : Type 0 where
  pub asked : TellsAsked before.calls after.calls request limit result
  pub out : OnOk result (after.given_out ≡ before.given_out + 1)
  pub none_out : OnErr result (after.given_out ≡ before.given_out)
  pub cause : HasLinkCause before.faults after.faults result

-- a body with this count came back
pub record TakesBack {B : Type 0} (before after : LinkTold B) (body : B) (faults : ℕ) : Type 0 where
  pub told : Grows before.calls after.calls (Returned body ∷ [])
  pub back : after.given_out + 1 ≡ before.given_out
  pub cause : CountsReturned faults before.faults after.faults
