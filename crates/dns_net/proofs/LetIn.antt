-- A request that is built is let in.
use Rattle.std.proofs.Common.{◌≡◌, ℕ, List, [], ◌∷◌, Option, Some, None, Bool, true, ◌||◌, refl, ap, ◌∙◌, codes, bytes_eq}
use Rattle.std.proofs.lemmas.Slice.Eq.{bytes_eq-Decides}
use Rattle.std.specs.Str.{trim_start, trim_end, chars}
use lib.Utf8.{encode}
use Rattle.std.specs.Prelude.{Ok, option_map}
use Rattle.http.specs.declared.request.Parts.{Parts as Head}
use Rattle.http_header.specs.HeaderMap.{get}
use Rattle.http_uri.specs.Grammar.{authority_host}
use Rattle.http_uri.specs.Uri.{uri_path, uri_authority}
use Rattle.dns_transport.specs.declared.error.NetError.{NetError}
use Rattle.dns_net.specs.declared.version.Version.{Version}
use Rattle.dns_net.specs.declared.version.Version.TheVariants.{Http2, Http3}
use Rattle.dns_net.specs.Building.{IsRequest, request_headers}
use Rattle.dns_net.specs.Checks.{is_https_scheme, is_get, is_host, is_dns_message, accepts, is_version, http_version, first_failing, verdict}

same : (text : List ℕ) → bytes_eq text text ≡ true
same text = (bytes_eq-Decides text text).1 refl

of-version : (version : Version) → is_version version (http_version version) ≡ true
of-version Http2 = refl
of-version Http3 = refl

-- a message stands in the body of a POST
posted : (method : List ℕ) (is_message : Bool) → method ≡ codes "POST" → is_message ≡ true → (is_get method || is_message) ≡ true
posted method is_message is said = rw (is, said) refl

-- the usual Accept
accepts-usual : (count : ℕ) → accepts (get (request_headers count) (codes "accept")) ≡ true
unfolding trim_start trim_end chars encode
accepts-usual count = refl

own-host : (authority : Option (List ℕ)) → is_host (option_map authority_host authority) authority ≡ true
own-host None = refl
own-host (Some authority) = same (authority_host authority)

passes : (a b c d e f : Bool) (r s t u v w : NetError) → a ≡ true → b ≡ true → c ≡ true → d ≡ true → e ≡ true → f ≡ true → first_failing ((a, r) ∷ (b, s) ∷ (c, t) ∷ (d, u) ∷ (e, v) ∷ (f, w) ∷ []) ≡ Ok tt
passes a b c d e f r s t u v w g h i j k l = rw (g, h, i, j, k, l) refl

pub let-in : (version : Version) (name path : List ℕ) (count : ℕ) (head : Head) → IsRequest version name path (request_headers count) head → verdict version (option_map authority_host (uri_authority head.uri)) (uri_path head.uri) head ≡ Ok tt
let-in version name path count head is =
    passes _ _ _ _ _ _ _ _ _ _ _ _
    (same (uri_path head.uri))
    (ap is_https_scheme is.target.0)
    (own-host (uri_authority head.uri))
    (posted head.method (is_dns_message (get head.headers (codes "content-type"))) is.method (ap (λ headers. is_dns_message (get headers (codes "content-type"))) is.fields))
    (ap (λ headers. accepts (get headers (codes "accept"))) is.fields ∙ accepts-usual count)
    (ap (is_version version) is.of_version ∙ of-version version)
