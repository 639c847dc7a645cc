-- Written replies.
use Rattle.std.proofs.Common.{◌≡◌, ◌≤◌, ◌∙◌, ℕ, List, length, set, refl, sym, ap, subst, inr, Option, Err, arith}
use Rattle.dns_edges.specs.Edges.{CountsBy}
use Rattle.dns_io.specs.declared.io_fault.IoFault.{IoFault}
use Rattle.dns_io.specs.declared.io_fault.IoFault.TheVariants.{Failed, OutOfMemory}
use Rattle.dns_io.specs.declared.peer.Protocol.{Protocol}
use Rattle.dns_wire.specs.declared.reply.Reply.{Reply}
use Rattle.dns_wire.specs.Written.{Written, reply_bytes}
use Rattle.dns_transport.specs.Faults.{of_io}
use Rattle.dns_transport.specs.declared.error.NetError.{NetError}
use Rattle.dns_requests.specs.declared.response_handle.ResponseInfo.{ResponseInfo}
use Rattle.dns_requests.specs.Responses.{IsBegun, BreaksOff, CountsSending}

-- a written reply has a header
long : (r : Reply) (n : ℕ) → 12 ≤ length (reply_bytes r n)
long r n = omega arith

pub Written-long : (r : Reply) (limit : ℕ) (bytes : List ℕ) → Written r limit bytes → 12 ≤ length bytes
Written-long r limit bytes w = rw w.is (long r w.kept)

-- its id is in its first two bytes
clear_first : (r : Reply) (n : ℕ) → set (set (reply_bytes r n) 0 0) 1 0 ≡ reply_bytes (record r { id = 0 }) n
clear_first r n = refl

same_length : (r : Reply) (n : ℕ) → length (reply_bytes (record r { id = 0 }) n) ≡ length (reply_bytes r n)
same_length r n = refl

fits_so : (r : Reply) (n limit : ℕ) → length (reply_bytes r n) ≤ limit → length (set (set (reply_bytes r n) 0 0) 1 0) ≤ limit
fits_so r n limit h = h

pub Written-cleared : (r : Reply) (limit : ℕ) (bytes : List ℕ) → Written r limit bytes → Written (record r { id = 0 }) limit (set (set bytes 0 0) 1 0)
Written-cleared r limit bytes w = record {
  kept = w.kept;
  within = w.within;
  is = ap (λ (l : List ℕ). set (set l 0 0) 1 0) w.is ∙ clear_first r w.kept;
  fits = subst (λ (l : List ℕ). length (set (set l 0 0) 1 0) ≤ limit) (sym w.is) (fits_so r w.kept limit (subst (λ (l : List ℕ). length l ≤ limit) w.is w.fits));
  longest = λ n l s. w.longest n l (rw (same_length r n) at s);
}

-- how sending ends by a fault of the sink
pub ends_by : (fault : IoFault) (error : NetError) → error ≡ of_io fault → (protocol : Protocol) (reply : Reply) (limit : ℕ) (before now : Option (List ℕ)) → IsBegun protocol reply limit before now
    → BreaksOff protocol reply limit before now error
ends_by Failed error e protocol reply limit before now h = rw e h
ends_by OutOfMemory error e protocol reply limit before now h = rw e (inr h)

-- its cause
pub counts_by : (fault : IoFault) (error : NetError) → error ≡ of_io fault → (before now : ℕ) → CountsBy {T = Unit {0}} before now (Err fault) → CountsSending {T = ResponseInfo} before now (Err error)
counts_by Failed error e before now h = rw e h
counts_by OutOfMemory error e before now h = rw e h
