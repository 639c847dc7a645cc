-- The message of a request has at most 65,535 bytes.
use Rattle.std.proofs.Common.{◌≡◌, ℕ, ◌≤◌, Bool, true, false, List, length, Option, Some, None, Result, Ok, Err, IfOk, IfErr, refl, arith}
use Rattle.std.specs.Prelude.{nat_lt}
use Rattle.std.proofs.lemmas.Bool.Decides.{nat_tests}
use Rattle.dns_net.specs.Bodies.{IsFetched, whole_body}
use Rattle.dns_net.specs.Checks.{IfInBody, IfInQuery}
use Rattle.dns_net.specs.Queries.{TellsMessage}
use Rattle.dns_net.specs.declared.place.Place.{Place}
use Rattle.dns_net.specs.declared.place.Place.TheVariants.{Body, Query}
use Rattle.dns_transport.specs.declared.error.NetError.{NetError}
use Rattle.dns_transport.specs.declared.error.NetError.TheVariants.{RequestTooLarge}

whole_is_short : (said : Option ℕ) (bytes : List ℕ) → whole_body said bytes ≡ Ok bytes → length bytes ≤ 65535
whole_is_short said bytes e = by_test (nat_lt 65535 (length bytes)) refl e
  where
    by_test : (b : Bool) → nat_lt 65535 (length bytes) ≡ b → whole_body said bytes ≡ Ok bytes → length bytes ≤ 65535
    by_test true is whole =
        let never : ◌≡◌ {A = Result (List ℕ) NetError} (Err RequestTooLarge) (Ok bytes) = rw is at whole in
        absurd (grind arith)
    by_test false is whole = grind (arith, nat_tests)

-- one that a query says
said_is_short : (text : Option (List ℕ)) (bytes : List ℕ) → TellsMessage text (Ok bytes) → length bytes ≤ 65535
said_is_short None bytes told = absurd (grind (arith, told))
said_is_short (Some text) bytes told = told.1

pub short : (Q R : Type 0) (t : Result Place NetError) (text : Option (List ℕ)) (received : Result (List ℕ) NetError) → IfErr t (λ fault. (received ≡ Err fault) × Q)
    → IfInQuery t (TellsMessage text received × R) → IfInBody t (λ said. IsFetched said received) → IfOk received (λ bytes. length bytes ≤ 65535)
short Q R t text (Err fault) refused said whole = tt
short Q R (Ok Query) text (Ok bytes) refused said whole = said_is_short text bytes said.0
short Q R (Ok (Body length)) text (Ok bytes) refused said whole = whole_is_short length bytes whole
short Q R (Err fault) text (Ok bytes) refused said whole = let never = refused.0 in absurd (grind arith)
