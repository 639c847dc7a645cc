-- What passed behind more calls.
use Rattle.std.proofs.Common.{◌≡◌, ◌∙◌, ℕ, List, [], ◌∷◌, ◌++◌, length, take, Bool, true, false, nat_eq, if◌then◌else◌, Option, Some, None, Result, Ok, Err, refl, ap, append-nil}
use Rattle.std.specs.declared.net.socket_addr.SocketAddr.{SocketAddr}
use Rattle.std.proofs.Math.Seq.{take-length}
use Rattle.std.proofs.lemmas.Bool.{eqb-true}
use Rattle.dns_io.specs.declared.io_fault.IoFault.TheVariants.{Failed}
use Rattle.dns_edges.specs.Edges.{moment_from}
use Rattle.dns_network.specs.Calls.{Noted, clock, sent}
use Rattle.dns_network.specs.Turns.{received_or_stopped}
use Rattle.dns_network.specs.declared.call.Reading.{Reading}
use Rattle.dns_network.specs.declared.refused.Refused.{Refused}
use Rattle.dns_ports.specs.Passed.{Passed, came_by, dated_by, handed_by, none_passed, passed, passed_by, passed_from, peer_of}
use Rattle.dns_ports.specs.Rests.{is_not_yet, one_rest, rest_behind, rests_to_receive}
use Rattle.dns_ports.specs.Sockets.{sent_whole}

pub passed_more : (s : Passed) (xs ys : List Noted) → passed_from s (xs ++ ys) ≡ passed_from (passed_from s xs) ys
passed_more s [] ys = refl
passed_more s (x ∷ xs) ys = passed_more (passed_by s x.0 x.1) xs ys

-- behind calls that end in these
pub passed_behind : (xs ys zs : List Noted) → zs ≡ xs ++ ys → passed zs ≡ passed_from (passed xs) ys
passed_behind xs ys zs e = ap passed e ∙ passed_more none_passed xs ys

-- a rest moves nothing
one_rest_stays : (s : Passed) (rest : Option ℕ) → passed_from s (one_rest rest) ≡ s
one_rest_stays s None = refl
one_rest_stays s (Some millis) = refl

if_rested : (s : Passed) (b : Bool) (rest : Option ℕ) → passed_from s (if b then [] else one_rest rest) ≡ s
if_rested s true rest = refl
if_rested s false rest = one_rest_stays s rest

pub rests_stay : (s : Passed) (refused : Refused) (before : ℕ) → passed_from s (rests_to_receive refused before) ≡ s
rests_stay s refused before = if_rested s (is_not_yet refused) (rest_behind before)

-- a receive that was refused moves nothing, and neither does the rest behind it
pub refused_stays : (xs ys zs : List Noted) (room : List ℕ) (given : Result (ℕ × SocketAddr) Refused) (refused : Refused) (before : ℕ)
    → ys ≡ xs ++ received_or_stopped room (Some given) → given ≡ Err refused → zs ≡ ys ++ rests_to_receive refused before → passed zs ≡ passed xs
refused_stays xs ys zs room given refused before e is_refused f =
    passed_behind ys (rests_to_receive refused before) zs f ∙ rests_stay (passed ys) refused before
    ∙ passed_behind xs (received_or_stopped room (Some given)) ys e
    ∙ ap (λ (r : Result (ℕ × SocketAddr) Refused). passed_from (passed xs) (received_or_stopped room (Some r))) is_refused

-- where the token is seen stopped, nothing came
pub stop_stays : (xs ys : List Noted) (room : List ℕ) → ys ≡ xs ++ received_or_stopped room None → passed ys ≡ passed xs
stop_stays xs ys room e = passed_behind xs (received_or_stopped room None) ys e

-- what came behind a look
pub came : (xs ys : List Noted) (room : List ℕ) (given : Result (ℕ × SocketAddr) Refused) (one : ℕ × SocketAddr)
    → ys ≡ xs ++ received_or_stopped room (Some given) → given ≡ Ok one → passed ys ≡ came_by (passed xs) room (Ok (Some one))
came xs ys room given one e is_one =
    passed_behind xs (received_or_stopped room (Some given)) ys e
    ∙ ap (λ (r : Result (ℕ × SocketAddr) Refused). passed_from (passed xs) (received_or_stopped room (Some r))) is_one

-- a datagram that went out as a whole, and no other, is a reply that was taken
whole_or_lost : (s : Passed) (bytes : List ℕ) (to : SocketAddr) (count : ℕ) (b : Bool) → nat_eq count (length bytes) ≡ b
    → record s { taken = s.taken ++ (if b then (take count bytes, peer_of to) ∷ [] else []) } ≡ handed_by s (bytes, peer_of to) (if b then Ok tt else Err Failed)
whole_or_lost s bytes to count true e = rw (eqb-true count (length bytes) e, take-length bytes) refl
whole_or_lost s bytes to count false e = rw (append-nil s.taken) refl

pub handed : (xs ys : List Noted) (bytes : List ℕ) (to : SocketAddr) (count : ℕ) → ys ≡ xs ++ sent to bytes (Ok count) ∷ []
    → passed ys ≡ handed_by (passed xs) (bytes, peer_of to) (sent_whole count (length bytes))
handed xs ys bytes to count e =
    passed_behind xs (sent to bytes (Ok count) ∷ []) ys e ∙ whole_or_lost (passed xs) bytes to count (nat_eq count (length bytes)) refl

-- one that was refused is not
pub unhanded : (xs ys : List Noted) (bytes : List ℕ) (to : SocketAddr) (refused : Refused) → ys ≡ xs ++ sent to bytes (Err refused) ∷ [] → passed ys ≡ passed xs
unhanded xs ys bytes to refused e = passed_behind xs (sent to bytes (Err refused) ∷ []) ys e

-- what passed behind a reading of the clock, or behind one that was refused
pub read : (xs ys : List Noted) (reading : Reading) → ys ≡ xs ++ clock (Ok reading) ∷ [] → passed ys ≡ dated_by (passed xs) (moment_from 0 reading.wall)
read xs ys reading e = passed_behind xs (clock (Ok reading) ∷ []) ys e

pub unread : (xs ys : List Noted) (refused : Refused) → ys ≡ xs ++ clock (Err refused) ∷ [] → passed ys ≡ dated_by (passed xs) (passed xs).moment
unread xs ys refused e = passed_behind xs (clock (Err refused) ∷ []) ys e
