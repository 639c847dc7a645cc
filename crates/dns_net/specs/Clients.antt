-- Clients over a link: what they ask by, and what sending a message does.
use Rattle.std.specs.Prelude.{◌≡◌, ℕ, List, Bool, Option, Result, Err, MatchBool, MatchResult}
use Rattle.http.specs.declared.request.Request.{Request}
use Rattle.http_header.specs.HeaderMap.{Entries}
use Rattle.http_header.specs.FieldValue.{FieldValue}
use Rattle.dns_wire.specs.declared.message.Message.{Message}
use Rattle.dns_net.specs.declared.version.Version.{Version}
use Rattle.dns_transport.specs.Pieces.{BodyTold}
use Rattle.dns_transport.specs.declared.error.NetError.{NetError}
use Rattle.dns_transport.specs.declared.error.NetError.TheVariants.{ShutDown}
use Rattle.dns_net.specs.Answers.{Carries, TellsUnsent, WentOver}
use Rattle.dns_net.specs.Building.{request_headers, with_all}
use Rattle.dns_net.specs.Links.{LinkOf}

-- what a client asks by: the version, the server's name and path, the header fields that are set beside the usual ones,
-- what each request is refused with, if it is, and the limit of each, where there is one
pub record Asking : Type 0 where
  pub version : Version
  pub name : List ℕ
  pub path : List ℕ
  pub pairs : List (List ℕ × FieldValue)
  pub refused : Option NetError
  pub limit : Option ℕ

-- the header fields of a request with a message of this length
abbrev pub fields_of : Asking → ℕ → Entries FieldValue
fields_of a count = with_all a.pairs (request_headers count)

-- the request that carries a message, or why there is none
abbrev pub Asks : Asking → Message → Result (Request (List ℕ)) NetError → Type 0
Asks a message made =
    MatchResult made (Carries a.version a.name a.path (fields_of a) a.refused message) (TellsUnsent a.name a.path a.refused message)

-- sending a message over a link: its request is exchanged, where one can be made
abbrev pub SendsOver : {L B : Type 0} → (B → BodyTold) → LinkOf L B → Asking → L → Message → Result Message NetError → L → Type 0
SendsOver told link asking before message result after =
    (made : Result (Request (List ℕ)) NetError) × Asks asking message made
    × MatchResult made
    (λ request. WentOver told link before request asking.limit result after)
    (λ fault. (result ≡ Err fault) × (after ≡ before))

-- sending a message by a client, which was shut down or not: one that was sends nothing
abbrev pub Sends : {L B : Type 0} → (B → BodyTold) → LinkOf L B → Bool → Asking → L → Message → Result Message NetError → L → Type 0
Sends told link is_shut asking before message result after =
    MatchBool is_shut ((result ≡ Err ShutDown) × (after ≡ before)) (SendsOver told link asking before message result after)
