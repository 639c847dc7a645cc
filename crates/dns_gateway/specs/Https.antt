-- One message in a request over HTTP, settled and answered (RFC 8484 4.1, 4.2).
use Rattle.std.specs.Prelude.{◌≡◌, ◌⊎◌, ℕ, List, length, Option, Some, None, Result, Ok, Err, IfErr, MatchResult}
use Rattle.http.specs.Request.{head_of, body_of}
use Rattle.http.specs.Response.{head_of as response_head_of}
use Rattle.http.specs.declared.request.Request.{Request}
use Rattle.http_uri.specs.Uri.{uri_query}
use Rattle.http.specs.declared.response.Response.{Response}
use Rattle.dns_io.specs.Told.{Told}
use Rattle.dns_book.specs.declared.ask.Ask.{Ask}
use Rattle.dns_book.specs.declared.ask.Settled.{Settled}
use Rattle.dns_net.specs.Bodies.{AsksNext, Fetches, FetchesBytes, IsFetched, IsReadOnce}
use Rattle.dns_net.specs.Building.{IsResponse}
use Rattle.dns_net.specs.Checks.{IfInBody, IfInQuery, taken}
use Rattle.dns_net.specs.Queries.{TellsMessage, text_in}
use Rattle.dns_net.specs.declared.version.Version.{Version}
use Rattle.dns_transport.specs.Pieces.{BodyTold}
use Rattle.dns_transport.specs.declared.error.NetError.{NetError}
use Rattle.dns_transport.specs.declared.error.NetError.TheVariants.{OutOfMemory}

-- the message of a request is taken, from its query or from its body; or it is refused by its head, and then stays as it was
pub record TakesMessage {R : Type 0} (told : R → BodyTold) (version : Version) (name : Option (List ℕ)) (path : List ℕ)
    (before : Request R) (received : Result (List ℕ) NetError) (after : Request R) : Type 0 where
  pub head : head_of after ≡ head_of before
  pub refused : IfErr (taken version name path (head_of before)) (λ fault. (received ≡ Err fault) × (after ≡ before))
  pub queried : IfInQuery (taken version name path (head_of before))
      (TellsMessage (text_in (uri_query (head_of before).uri)) received × (after ≡ before))
  pub pieces : IfInBody (taken version name path (head_of before))
      (λ said. Told (Fetches said received) (told (body_of before)).left (told (body_of after)).left)
  pub read : IfInBody (taken version name path (head_of before))
      (λ said. IsReadOnce (AsksNext told) said (body_of before) received (body_of after))
  pub whole : IfInBody (taken version name path (head_of before)) (λ said. IsFetched said received)
  pub bytes : IfInBody (taken version name path (head_of before))
      (λ said. Told (FetchesBytes said received) (told (body_of before)).left_bytes (told (body_of after)).left_bytes)

-- what is given for a reply: itself, behind the head of a response of its length; or nothing, where none is owed
abbrev pub GivesReply : Version → Option (List ℕ) → Result (Option (Response (Unit {0}) × List ℕ)) NetError → Type 0
GivesReply version None answer = answer ≡ Ok None
GivesReply version (Some bytes) answer =
    ((response : Response (Unit {0})) × IsResponse version (length bytes) (response_head_of response)
    × (answer ≡ Ok (Some (response, bytes))))
    ⊎ (answer ≡ Err OutOfMemory)

-- a message is settled by one step of the handler, which stays done whatever comes of its reply; or the handler finds no memory
abbrev pub AnswersRequest : {H : Type 0} → (H → Ask → Settled → H → Type 0) → (H → H → Type 0)
    → Version → H → Ask → Result (Option (Response (Unit {0}) × List ℕ)) NetError → H → Type 0
AnswersRequest serves skips version before ask answer now =
    ((settled : Settled) × serves before ask settled now × GivesReply version settled.reply answer)
    ⊎ (skips before now × (answer ≡ Err OutOfMemory))

-- the message of a request is taken and answered; where none is taken, the handler stays as it is
abbrev pub SettlesRequest : {H R : Type 0} → (H → Ask → Settled → H → Type 0) → (H → H → Type 0) → (R → BodyTold)
    → Version → Option (List ℕ) → List ℕ → (List ℕ → Ask) → H → Request R
    → Result (Option (Response (Unit {0}) × List ℕ)) NetError → H → Request R → Type 0
SettlesRequest serves skips told version name path ask before request answer now after =
    (received : Result (List ℕ) NetError) × TakesMessage told version name path request received after
    × MatchResult received
    (λ bytes. AnswersRequest serves skips version before (ask bytes) answer now)
    (λ fault. (now ≡ before) × (answer ≡ Err fault))
