-- Which requests are let in (RFC 8484 4.1, 6), where their message stands, and how long their body is said to be.
use Rattle.std.specs.Prelude.{ℕ, ◌^◌, ◌==◌, nat_lt, Bool, true, false, ◌&&◌, ◌||◌, if◌then◌else◌, List, [], ◌∷◌, codes, bytes_eq, length, Option, Some, None, Result, Ok, Err}
use Rattle.std.specs.List.{list_any, list_all, slice_split, before_first}
use Rattle.std.specs.Char.{digit_value}
use Rattle.std.specs.Str.{str_eq_ignore_ascii_case, trim}
use Rattle.std.specs.Str.Parse.{without_leading_plus, digits_value}
use Rattle.http.specs.declared.request.Parts.{Parts}
use Rattle.http.specs.declared.version.Version.{Version as HttpVersion}
use Rattle.http_uri.specs.Grammar.{authority_host}
use Rattle.http_uri.specs.Uri.{uri_path, uri_scheme, uri_authority}
use Rattle.http_uri.specs.declared.uri.Uri.{Uri as Target}
use Rattle.http_header.specs.HeaderMap.{get}
use Rattle.http_header.specs.FieldValue.{FieldValue, is_visible_text}
use Rattle.http.specs.declared.version.Http.TheVariants.{H2, H3}
use Rattle.http.specs.declared.version.TheConstants.Version.{HTTP_2, HTTP_3}
use Rattle.dns_net.specs.declared.place.Place.{Place}
use Rattle.dns_net.specs.declared.place.Place.TheVariants.{Body, Query}
use Rattle.dns_net.specs.declared.version.Version.{Version}
use Rattle.dns_net.specs.declared.version.Version.TheVariants.{Http2, Http3}
use Rattle.dns_transport.specs.declared.error.NetError.{NetError}
use Rattle.dns_transport.specs.declared.error.NetError.TheVariants.{BadRequest}
use Rattle.dns_transport.specs.declared.error.BadRequestKind.TheVariants as bad

-- the media type of messages, and the types of which it is one
abbrev pub dns_message : List ℕ
dns_message = codes "application/dns-message"

abbrev pub any_application : List ℕ
any_application = codes "application/*"

-- https, its letters in either case
abbrev pub is_https_scheme : Option (List ℕ) → Bool
is_https_scheme None = false
is_https_scheme (Some scheme) = str_eq_ignore_ascii_case scheme (codes "https")

abbrev pub is_https : Target → Bool
is_https target = is_https_scheme (uri_scheme target)

-- the host of an authority is this one, where one is asked for
abbrev pub is_host : Option (List ℕ) → Option (List ℕ) → Bool
is_host None authority = true
is_host (Some name) None = false
is_host (Some name) (Some authority) = bytes_eq (authority_host authority) name

abbrev pub is_at : Option (List ℕ) → Target → Bool
is_at asked target = is_host asked (uri_authority target)

-- the method of a request whose message stands in its target
abbrev pub is_get : List ℕ → Bool
is_get method = bytes_eq method (codes "GET")

-- a value of Content-Type that says that a message stands in the body
abbrev pub is_dns_message : Option FieldValue → Bool
is_dns_message None = false
is_dns_message (Some value) = bytes_eq value.bytes dns_message

-- the media range of one part of an Accept, without its parameters (RFC 9110 12.5.1)
abbrev pub range_of : List ℕ → List ℕ
range_of part = trim (before_first (λ b. b == 59) part)

-- messages are of this media range
abbrev pub is_range : List ℕ → Bool
is_range range = bytes_eq range dns_message || bytes_eq range any_application

-- one of the parts, between commas, is a media range of messages
abbrev pub has_range : List ℕ → Bool
has_range value = list_any (λ part. is_range (range_of part)) (slice_split (λ b. b == 44) value)

-- a value of Accept that leaves room for messages: it is visible ASCII, and one part leaves room for them
abbrev pub accepts : Option FieldValue → Bool
accepts None = false
accepts (Some value) = is_visible_text value.bytes && has_range value.bytes

-- some decimal digits, and nothing else
abbrev pub is_digits : List ℕ → Bool
is_digits text = nat_lt 0 (length text) && list_all (λ b. nat_lt (digit_value b) 10) text

-- the number of bytes that a text says: decimal digits, with at most one plus in front, of a number below 2^64
abbrev pub bytes_said : List ℕ → Option ℕ
bytes_said text =
    let digits = without_leading_plus text in
    if is_digits digits && nat_lt (digits_value 10 digits) (2 ^ 64) then Some (digits_value 10 digits) else None

-- how long a body is said to be by the first Content-Length, where one is given; else why it isn't (RFC 9110 8.6)
abbrev pub said_length : NetError → Option FieldValue → Result (Option ℕ) NetError
said_length fault None = Ok None
said_length fault (Some value) = elim (bytes_said value.bytes) [ None ↦ Err fault | Some count ↦ Ok (Some count) ]

-- HTTP's own name of a version
abbrev pub http_version : Version → HttpVersion
http_version Http2 = HTTP_2
http_version Http3 = HTTP_3

-- the request is of the version that is asked for
abbrev pub is_version : Version → HttpVersion → Bool
is_version Http2 version = elim version.0 [ H2 ↦ true | _ ↦ false ]
is_version Http3 version = elim version.0 [ H3 ↦ true | _ ↦ false ]

-- the fault of the first check that does not hold
abbrev pub first_failing : List (Bool × NetError) → Result (Unit {0}) NetError
first_failing [] = Ok tt
first_failing ((holds, fault) ∷ checks) = if holds then first_failing checks else Err fault

-- the checks of a request, in order
abbrev pub checks_of : Version → Option (List ℕ) → List ℕ → Parts → List (Bool × NetError)
checks_of version name path head =
    (bytes_eq (uri_path head.uri) path, BadRequest bad.Path)
    ∷ (is_https head.uri, BadRequest bad.Scheme)
    ∷ (is_at name head.uri, BadRequest bad.Authority)
    ∷ (is_get head.method || is_dns_message (get head.headers (codes "content-type")), BadRequest bad.ContentType)
    ∷ (accepts (get head.headers (codes "accept")), BadRequest bad.Accept)
    ∷ (is_version version head.version, BadRequest bad.Version)
    ∷ []

-- whether a request is let in, for this version, at this name, where one is given, and this path
abbrev pub verdict : Version → Option (List ℕ) → List ℕ → Parts → Result (Unit {0}) NetError
verdict version name path head = first_failing (checks_of version name path head)

-- how long the body is said to be in which the message of a request stands: its length is a number, and its method is POST
abbrev pub body_asked : Parts → Result Place NetError
body_asked head =
    elim (said_length (BadRequest bad.LengthText) (get head.headers (codes "content-length"))) [
      | Err fault ↦ Err fault
      | Ok length ↦ if bytes_eq head.method (codes "POST") then Ok (Body length) else Err (BadRequest bad.Method)
    ]

-- where the message of a request stands that is let in: by GET in the query of its target, and else in its body (RFC 8484 4.1)
abbrev pub taken : Version → Option (List ℕ) → List ℕ → Parts → Result Place NetError
taken version name path head =
    elim (verdict version name path head) [
      | Err fault ↦ Err fault
      | Ok _ ↦ if is_get head.method then Ok Query else body_asked head
    ]

-- what is said of a request whose message stands in its query, and of one whose message stands in its body
abbrev pub IfInQuery : Result Place NetError → Type 0 → Type 0
IfInQuery (Ok Query) P = P
IfInQuery _ P = Unit {0}

abbrev pub IfInBody : Result Place NetError → (Option ℕ → Type 0) → Type 0
IfInBody (Ok (Body length)) P = P length
IfInBody _ P = Unit {0}
