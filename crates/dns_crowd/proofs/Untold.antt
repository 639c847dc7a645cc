-- A crowd that tells what it counts alone.
use Rattle.std.proofs.Common.{◌≡◌, ◌≤◌, ◌∙◌, ℕ, List, [], ◌∷◌, length, take, Option, Some, None, Result, Ok, Err, ap, arith}
use Rattle.std.specs.Prelude.{IfOk, IfErr, IfSome, OnErr}
use Rattle.std.proofs.lemmas.List.{length-take}
use Rattle.dns_io.specs.declared.io_fault.IoFault.{IoFault}
use Rattle.dns_io.specs.declared.io_fault.IoFault.TheVariants.{Failed, OutOfMemory}
use Rattle.dns_edges.specs.Edges.{CountsBy, HasCause}
use Rattle.dns_server_core.specs.Valid.{Rises}
use Rattle.dns_readiness.specs.declared.came.Came.{Came}
use Rattle.dns_readiness.specs.declared.came.Came.TheVariants.{Accepted, Bytes, Ended, Tick}
use Rattle.dns_readiness.specs.Came.{IsGreater, IsNext, greatest_with, last_with}
use Rattle.dns_readiness.specs.Decisions.{SocketState}
use Rattle.dns_crowd.specs.Crowds.{Closes, Gives, MayCome, Sends, event_of, untold_crowd}
use Rattle.dns_crowd.proofs.CameEvents.{greatest_is, moment_is}

above : (greatest : Option ℕ) (n : ℕ) → IsGreater greatest n → Rises greatest (n ∷ [])
above None n h = (tt, tt)
above (Some g) n h = (h, tt)

-- what may come next by its numbers alone is an event that may come
pub next_comes : (last : ℕ) (greatest : Option ℕ) (room : List ℕ) (came : Came) → IsNext last greatest (length room) came → MayCome last greatest (event_of room came)
next_comes last greatest room (Accepted at conn peer limit) n = record { fit = (n.moment, n.limit); later = n.later; rises = above greatest conn n.number }
next_comes last greatest room (Bytes at conn count) n =
    let few : length (take count room) ≤ 65535 = omega (arith, n.few, length-take count room) in
    record { fit = (n.moment, few); later = n.later; rises = tt }
next_comes last greatest room (Ended at conn) n = record { fit = n.moment; later = n.later; rises = tt }
next_comes last greatest room (Tick at) n = record { fit = n.moment; later = n.later; rises = tt }

pub gives_by : (before after : SocketState) (room : List ℕ) (result : Result (Option Came) IoFault)
    → IfOk result (λ came. IfSome came (IsNext before.last before.greatest (length room)))
    → IfOk result (λ came. after.last ≡ last_with before.last came)
    → IfOk result (λ came. after.greatest ≡ greatest_with before.greatest came)
    → OnErr result ((after.last ≡ before.last) × (after.greatest ≡ before.greatest))
    → HasCause before.faults after.faults result → Gives (untold_crowd before) (untold_crowd after) room result
gives_by before after room (Ok None) n l g s c =
    record { size = tt; comes = tt; given = tt; last = l; greatest = g; kept = tt; same = tt; untaken = tt; unclosed = tt; cause = c }
gives_by before after room (Ok (Some came)) n l g s c = record {
  size = n.inside;
  comes = next_comes before.last before.greatest room came n;
  given = tt;
  last = l ∙ moment_is room came;
  greatest = g ∙ greatest_is room before.greatest came;
  kept = tt;
  same = tt;
  untaken = tt;
  unclosed = tt;
  cause = c;
}
gives_by before after room (Err fault) n l g s c =
    record { size = tt; comes = tt; given = tt; last = tt; greatest = tt; kept = tt; same = s; untaken = tt; unclosed = tt; cause = c }

-- nothing failed, but memory may have been wanting
calm : (before after : ℕ) (result : Result (Unit {0}) IoFault) → after ≡ before → IfErr result (λ fault. fault ≡ OutOfMemory) → CountsBy before after result
calm before after (Ok x) e h = e
calm before after (Err Failed) e h = absurd cc
calm before after (Err OutOfMemory) e h = e

stays : (before after : SocketState) (result : Result (Unit {0}) IoFault) → after ≡ record before { links = after.links }
    → IfErr result (λ fault. fault ≡ OutOfMemory) → HasCause before.faults after.faults result
stays before after result e h =
    let f : after.faults ≡ before.faults = ap (λ (s : SocketState). s.faults) e in
    record { later = omega (arith, f); counts = calm before.faults after.faults result f h }

pub sends_by : (before after : SocketState) (number : ℕ) (bytes : List ℕ) (result : Result (Unit {0}) IoFault)
    → after ≡ record before { links = after.links }
    → IfErr result (λ fault. fault ≡ OutOfMemory) → Sends (untold_crowd before) (untold_crowd after) number bytes result
sends_by before after number bytes (Ok x) e h = record {
  grows = tt;
  kept = tt;
  unread = tt;
  unclosed = tt;
  same = (ap (λ (s : SocketState). s.last) e, ap (λ (s : SocketState). s.greatest) e);
  cause = stays before after (Ok x) e h;
}
sends_by before after number bytes (Err fault) e h = record {
  grows = tt;
  kept = tt;
  unread = tt;
  unclosed = tt;
  same = (ap (λ (s : SocketState). s.last) e, ap (λ (s : SocketState). s.greatest) e);
  cause = stays before after (Err fault) e h;
}

pub closes_by : (before after : SocketState) (number : ℕ) → after ≡ record before { links = after.links } → Closes (untold_crowd before) (untold_crowd after) number (Ok tt)
closes_by before after number e = record {
  grows = tt;
  kept = tt;
  unread = tt;
  untaken = tt;
  same = (ap (λ (s : SocketState). s.last) e, ap (λ (s : SocketState). s.greatest) e);
  cause = stays before after (Ok tt) e tt;
}
