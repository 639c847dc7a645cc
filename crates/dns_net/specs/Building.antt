-- The requests that are made, and the heads of responses (RFC 8484 4.1, 4.2).
use Rattle.std.specs.Prelude.{◌≡◌, ◌⊎◌, ℕ, List, [], ◌∷◌, codes, decimal, Option, Some, None}
use Rattle.http.specs.declared.request.Parts.{Parts}
use Rattle.http.specs.declared.response.Parts.{Parts as ResponseParts}
use Rattle.http_uri.specs.Uri.{HasParts}
use Rattle.http_uri.specs.Grammar.{IsAuthority, IsPathInput, without_fragment}
use Rattle.http_header.specs.HeaderMap.{Entries, insert}
use Rattle.http_header.specs.FieldValue.{FieldValue, plain_value}
use Rattle.dns_net.specs.declared.version.Version.{Version}
use Rattle.dns_transport.specs.declared.error.NetError.{NetError}
use Rattle.dns_transport.specs.declared.error.NetError.TheVariants.{Build, OutOfMemory}
use Rattle.dns_transport.specs.declared.error.BuildKind.TheVariants as build
use Rattle.dns_net.specs.Checks.{dns_message, http_version}

-- header fields, where each pair in turn has taken the place of its name's values
abbrev pub with_all : List (List ℕ × FieldValue) → Entries FieldValue → Entries FieldValue
with_all [] headers = headers
with_all ((name, value) ∷ pairs) headers = with_all pairs (insert headers name value)

-- the header fields of a request with a message of this length
abbrev pub request_headers : ℕ → Entries FieldValue
request_headers count =
    (codes "content-type", plain_value dns_message ∷ [])
    ∷ (codes "accept", plain_value dns_message ∷ [])
    ∷ (codes "content-length", plain_value (decimal count) ∷ [])
    ∷ []

-- the header fields of a response with a message of this length
abbrev pub response_headers : ℕ → Entries FieldValue
response_headers count =
    (codes "content-type", plain_value dns_message ∷ []) ∷ (codes "content-length", plain_value (decimal count) ∷ []) ∷ []

-- a request: POST to https, this server and path, with these header fields
pub record IsRequest (version : Version) (name path : List ℕ) (headers : Entries FieldValue) (head : Parts) : Type 0 where
  pub method : head.method ≡ codes "POST"
  pub target : HasParts head.uri (Some (codes "https")) (Some name) (without_fragment path)
  pub of_version : head.version ≡ http_version version
  pub fields : head.headers ≡ headers

-- a request can be made: the path and the server's name are of their forms, and nothing is refused
pub record CanBuild (name path : List ℕ) (refused : Option NetError) : Type 0 where
  pub is_path : IsPathInput path
  pub is_authority : IsAuthority name
  pub let_in : refused ≡ None

-- why no request is made: the path is of no such form, or else the server's name, or else this is refused
abbrev pub TellsBuild : List ℕ → List ℕ → Option NetError → NetError → Type 0
TellsBuild name path refused fault =
    ((fault ≡ Build build.Path) × ¬ (IsPathInput path))
    ⊎ ((fault ≡ Build build.Authority) × IsPathInput path × ¬ (IsAuthority name))
    ⊎ ((refused ≡ Some fault) × IsPathInput path × IsAuthority name)
    ⊎ (fault ≡ OutOfMemory)

-- the head of a response: 200, with the header fields of its message
pub record IsResponse (version : Version) (count : ℕ) (head : ResponseParts) : Type 0 where
  pub is_ok : head.status ≡ 200
  pub of_version : head.version ≡ http_version version
  pub fields : head.headers ≡ response_headers count
