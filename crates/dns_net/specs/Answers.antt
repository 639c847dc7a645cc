-- What a client makes of a message and of the response to it (RFC 8484 4.1, 4.2).
use Rattle.std.specs.Prelude.{◌≡◌, ◌⊎◌, ℕ, ◌≤◌, ◌&&◌, nat_le, nat_lt, Bool, true, MatchBool, List, [], ◌∷◌, length, codes, Option, Some, None, Result, Err, IsErrOf, MatchResult}
use Rattle.http.specs.Request.{head_of as request_head, body_of as request_body}
use Rattle.http.specs.Response.{head_of, body_of}
use Rattle.http.specs.declared.request.Request.{Request}
use Rattle.http.specs.declared.response.Response.{Response}
use Rattle.http.specs.declared.response.Parts.{Parts}
use Rattle.http_header.specs.HeaderMap.{Entries, get}
use Rattle.http_header.specs.FieldValue.{FieldValue}
use Rattle.dns_io.specs.Told.{Told, Rose, Grows}
use Rattle.dns_name.specs.declared.fault.ProtoError.{ProtoError}
use Rattle.dns_wire.specs.declared.message.Message.{Message}
use Rattle.dns_wire.specs.MessageBytes.{message_bytes, TellsTooLong}
use Rattle.dns_net.specs.declared.version.Version.{Version}
use Rattle.dns_transport.specs.declared.error.LinkFault.{LinkFault}
use Rattle.dns_transport.specs.declared.error.NetError.{NetError}
use Rattle.dns_transport.specs.declared.error.NetError.TheVariants as net
use Rattle.dns_transport.specs.declared.error.ResponseKind.TheVariants as bad
use Rattle.dns_net.specs.declared.link.LinkCall.TheVariants.{Returned}
use Rattle.dns_net.specs.Bodies.{AsksNext, Fetches, FetchesBytes, IsFetched, IsReadOnce}
use Rattle.dns_net.specs.Building.{IsRequest, CanBuild, TellsBuild}
use Rattle.dns_net.specs.Checks.{said_length, is_dns_message}
use Rattle.dns_transport.specs.Faults.{HasCause, of_proto, of_link}
use Rattle.dns_transport.specs.Messages.{with_id_0, ReadsMessage}
use Rattle.dns_transport.specs.Pieces.{BodyTold}
use Rattle.dns_net.specs.Links.{LinkOf, TellsAsked}

-- a request that carries this message, by this version, to this server and path, with these header fields beside the
-- usual ones
pub record Carries (version : Version) (name path : List ℕ) (fields : ℕ → Entries FieldValue) (refused : Option NetError)
    (message : Message) (request : Request (List ℕ)) : Type 0 where
  pub head : IsRequest version name path (fields (length (message_bytes (with_id_0 message)))) (request_head request)
  pub body : request_body request ≡ message_bytes (with_id_0 message)
  pub short : length (request_body request) ≤ 65535
  pub let_in : CanBuild name path refused

-- why a message is not sent: it cannot be written, or else no request can be made
abbrev pub TellsUnsent : List ℕ → List ℕ → Option NetError → Message → NetError → Type 0
TellsUnsent name path refused message fault =
    ((error : ProtoError) × (fault ≡ of_proto error) × TellsTooLong message error)
    ⊎ (TellsBuild name path refused fault × (length (message_bytes (with_id_0 message)) ≤ 65535))

-- the status says that all went well (RFC 9110 15.3)
abbrev pub is_success : ℕ → Bool
is_success status = nat_le 200 status && nat_lt status 300

-- the first Content-Type of a response is that of messages, where one is given
abbrev pub is_answer_type : Option FieldValue → Bool
is_answer_type None = true
is_answer_type (Some value) = is_dns_message (Some value)

-- what a response says, once its body is fetched
abbrev pub ReadsResponse : Parts → List ℕ → Result Message NetError → Type 0
ReadsResponse head bytes result =
    MatchBool (is_success head.status)
    (MatchBool (is_answer_type (get head.headers (codes "content-type")))
    (ReadsMessage bytes result)
    (result ≡ Err (net.Response bad.ContentType)))
    (result ≡ Err (net.Response (bad.Status head.status)))

-- what a response says: how long its body is said to be, then the body, by its pieces and by its bytes, then the rest. Where its
-- length is no number, nothing of the body is read.
abbrev pub Answers : {B : Type 0} → (B → BodyTold) → Parts → B → B → Result Message NetError → Type 0
Answers told head before after result =
    MatchResult (said_length (net.Response bad.LengthText) (get head.headers (codes "content-length")))
    (λ said. (fetched : Result (List ℕ) NetError)
    × Told (Fetches said fetched) (told before).left (told after).left
    × Told (FetchesBytes said fetched) (told before).left_bytes (told after).left_bytes
    × IsReadOnce (AsksNext told) said before fetched after × IsFetched said fetched
    × MatchResult fetched (λ bytes. ReadsResponse head bytes result) (λ fault. result ≡ Err fault))
    (λ fault. (result ≡ Err fault) × (after ≡ before))

-- how an exchange over a link went: its answer, and where that is a response, what it says, and that its body came back,
-- whose faults grew exactly where the answer is `Io`
pub record WentOver {L B : Type 0} (told : B → BodyTold) (link : LinkOf L B)
    (before : L) (request : Request (List ℕ)) (limit : Option ℕ) (result : Result Message NetError) (after : L) : Type 0 where
  pub between : L
  pub answer : Result (Response B) LinkFault
  pub exchanged : link.exchanges before request limit answer between
  pub asked : TellsAsked (link.told before).calls (link.told between).calls request limit answer
  pub ended : MatchResult answer
      (λ response. (body : B) × Answers told (head_of response) (body_of response) body result
      × HasCause (told (body_of response)).faults (told body).faults result
      × Grows (link.told between).calls (link.told after).calls (Returned body ∷ []))
      (λ fault. (result ≡ Err (of_link fault)) × (after ≡ between))

-- a count of faults did not fall; `Io` and `Timeout` were answered only where it rose, or where the request was refused with them, and
-- anything else only where it stood still
pub record HasSendCause {T : Type 0} (before now : ℕ) (refused : Option NetError) (result : Result T NetError) : Type 0 where
  pub later : before ≤ now
  pub failed : IsErrOf result net.Io → Rose before now ⊎ (refused ≡ Some net.Io)
  pub late : IsErrOf result net.Timeout → Rose before now ⊎ (refused ≡ Some net.Timeout)
  pub calm : ¬ (IsErrOf result net.Io) → ¬ (IsErrOf result net.Timeout) → now ≡ before
