-- What the body and the link in memory do at each call.
use Rattle.std.specs.Prelude.{◌≡◌, ◌⊎◌, ℕ, ◌+◌, ◌-◌, nat_lt, nat_eq, if◌then◌else◌, List, [], ◌∷◌, ◌++◌, Option, Some, Result, Ok, Err, MatchBool, IsOkAnd}
use Rattle.std.specs.List.{list_any}
use Rattle.http.specs.Response.{body_of}
use Rattle.http.specs.declared.request.Request.{Request}
use Rattle.http.specs.declared.response.Response.{Response}
use Rattle.dns_io.specs.Told.{one_more}
use Rattle.dns_edges.specs.Memory.{next_fails}
use Rattle.dns_io.specs.declared.io_fault.IoFault.{IoFault}
use Rattle.dns_io.specs.declared.io_fault.IoFault.TheVariants.{Failed}
use Rattle.dns_transport.specs.declared.error.LinkFault.{LinkFault}
use Rattle.dns_transport.specs.declared.error.LinkFault.TheVariants.{Failed as LinkFailed, Late, OutOfMemory as NoMemory}
use Rattle.dns_net.specs.declared.link.LinkCall.{LinkCall}
use Rattle.dns_net.specs.declared.link.LinkCall.TheVariants.{Exchanged, Returned}
use Rattle.dns_transport.specs.Pieces.{BodyTold, NextOf, joined}
use Rattle.dns_net.specs.Links.{LinkTold}

-- a body in memory: the pieces left, the numbers of the calls that fail, how many calls there were, and how many of them
-- failed
pub record BodyState : Type 0 where
  pub left : List (List ℕ)
  pub failing : List ℕ
  pub calls : ℕ
  pub faults : ℕ

-- what it tells
abbrev pub body_told : BodyState → BodyTold
body_told b = record { left = Some b.left; left_bytes = Some (joined b.left); faults = b.faults }

-- the body after a call that failed
abbrev pub failed_next : BodyState → BodyState
failed_next b = record b { calls = one_more b.calls; faults = one_more b.faults }

-- the body after a call that left these pieces
abbrev pub next_of : BodyState → List (List ℕ) → BodyState
next_of b rest = record b { left = rest; calls = one_more b.calls }

-- what a call answers, and leaves
abbrev pub PieceNext : BodyState → Result (Option (List ℕ)) IoFault → BodyState → Type 0
PieceNext before result after =
    MatchBool (next_fails before.failing before.calls)
    ((result ≡ Err Failed) × (after ≡ failed_next before))
    (IsOkAnd result (λ piece. NextOf piece before.left after.left × (after ≡ next_of before after.left)))

-- a link in memory: the responses to come, the numbers of the exchanges that fail and of those that are late, what it
-- tells of its calls, how many bodies are given out, how many exchanges there were, and how many faults
pub record LinkState : Type 0 where
  pub responses : List (Response BodyState)
  pub failing : List ℕ
  pub late : List ℕ
  pub calls : List (LinkCall BodyState)
  pub given_out : ℕ
  pub exchanges : ℕ
  pub faults : ℕ

-- what it tells
abbrev pub link_told : LinkState → LinkTold BodyState
link_told l = record { calls = Some l.calls; given_out = l.given_out; faults = l.faults }

-- none of these responses' bodies has a fault
abbrev pub AreFresh : List (Response BodyState) → Type 0
AreFresh [] = Unit {0}
AreFresh (response ∷ responses) = ((body_of response).faults ≡ 0) × AreFresh responses

-- the next response is given, of those that are left
abbrev pub GivesResponse : List (Response BodyState) → Result (Response BodyState) LinkFault → List (Response BodyState) → Type 0
GivesResponse [] result after = ⊥
GivesResponse (response ∷ rest) result after = (result ≡ Ok response) × (after ≡ rest)

-- what the exchange of this number answers, where these fail and these are late, and which responses are left
abbrev pub Answers : List ℕ → List ℕ → ℕ → List (Response BodyState)
    → Result (Response BodyState) LinkFault → List (Response BodyState) → Type 0
Answers failing late number before result after =
    MatchBool (list_any (λ one. nat_eq one number) failing)
    ((result ≡ Err LinkFailed) × (after ≡ before))
    (MatchBool (list_any (λ one. nat_eq one number) late)
    ((result ≡ Err Late) × (after ≡ before))
    (GivesResponse before result after))

-- the link after an exchange is told and counted, with these responses left
abbrev pub asked : LinkState → Request (List ℕ) → Option ℕ → List (Response BodyState) → LinkState
asked l request limit rest = record l {
  responses = rest;
  calls = l.calls ++ Exchanged request limit ∷ [];
  exchanges = one_more l.exchanges;
}

-- and after its answer: a body is given out, or there is one more fault
abbrev pub answered : LinkState → Result (Response BodyState) LinkFault → LinkState
answered l (Ok response) = record l { given_out = l.given_out + 1 }
answered l (Err fault) = record l { faults = one_more l.faults }

-- what an exchange answers, and leaves: where memory ran out, as where no response is left, nothing has changed
abbrev pub ExchangeNext : LinkState → Request (List ℕ) → Option ℕ → Result (Response BodyState) LinkFault → LinkState → Type 0
ExchangeNext before request limit result after =
    ((result ≡ Err NoMemory) × (after ≡ before))
    ⊎ (Answers before.failing before.late (one_more before.exchanges) before.responses result after.responses
    × (after ≡ answered (asked before request limit after.responses) result))

-- the link after a body came back
abbrev pub returned : LinkState → BodyState → LinkState
returned l body =
    record l {
      calls = l.calls ++ Returned body ∷ [];
      given_out = l.given_out - 1;
      faults = if nat_lt 0 body.faults then one_more l.faults else l.faults;
    }
