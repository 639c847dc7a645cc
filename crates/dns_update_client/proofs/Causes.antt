-- What the counts of the input and of the output did.
use Rattle.std.proofs.Common.{◌≡◌, ℕ, List, Result, Ok, Err, IfErr, refl, sym, arith}
use Rattle.dns_io.specs.declared.io_fault.IoFault.{IoFault}
use Rattle.dns_io.specs.declared.io_fault.IoFault.TheVariants as io
use Rattle.dns_edges.specs.Edges.{HasCause}
use Rattle.dns_name.specs.declared.fault.ProtoError.{ProtoError}
use Rattle.dns_name.specs.declared.fault.ProtoError.TheVariants as proto
use Rattle.dns_wire.specs.declared.message.Message.{Message}
use Rattle.dns_update_client.specs.declared.submit_fault.SubmitFault.{SubmitFault}
use Rattle.dns_update_client.specs.declared.submit_fault.SubmitFault.TheVariants as fault
use Rattle.dns_update_client.specs.Exchange.{StopsSending, StopsReceiving, StopsReading}
use Rattle.dns_update_client.specs.Exchange as exchange
use Rattle.dns_update_client.specs.Faults.{of_proto, of_input, of_output, HasReadCause, HasWriteCause}

module _ {T : Type 0} where
  -- a read or a write that failed, or wanted memory
  pub read-failed : {A : Type 0} (n m : ℕ) (f : IoFault) → HasCause {T = A} n m (Err f) → HasReadCause {T = T} n m (Err (of_input f))
  read-failed n m io.Failed h = record { later = h.later; counts = h.counts }
  read-failed n m io.OutOfMemory h = record { later = h.later; counts = h.counts }

  pub write-failed : {A : Type 0} (n m : ℕ) (f : IoFault) → HasCause {T = A} n m (Err f) → HasWriteCause {T = T} n m (Err (of_output f))
  write-failed n m io.Failed h = record { later = h.later; counts = h.counts }
  write-failed n m io.OutOfMemory h = record { later = h.later; counts = h.counts }

  -- the count stood still, and then a call was made
  pub read-then : (n m k : ℕ) (r : Result T SubmitFault) → m ≡ n → HasReadCause m k r → HasReadCause n k r
  read-then n m k r same cause = rw (sym same) cause

  pub write-then : (n m k : ℕ) (r : Result T SubmitFault) → m ≡ n → HasWriteCause m k r → HasWriteCause n k r
  write-then n m k r same cause = rw (sym same) cause

  -- a fault of another call has the cause of that call
  pub read-err : {A : Type 0} (n m : ℕ) (f : SubmitFault) → HasReadCause {T = A} n m (Err f) → HasReadCause {T = T} n m (Err f)
  read-err n m f h = record { later = h.later; counts = h.counts }

  pub write-err : {A : Type 0} (n m : ℕ) (f : SubmitFault) → HasWriteCause {T = A} n m (Err f) → HasWriteCause {T = T} n m (Err f)
  write-err n m f h = record { later = h.later; counts = h.counts }

  -- memory ran out, or the input ended, and its count stood still
  pub read-memory : (n m : ℕ) → m ≡ n → HasReadCause {T = T} n m (Err fault.OutOfMemory)
  read-memory n m same = record { later = omega (arith, same); counts = same }

  pub read-ended : (n m number : ℕ) → m ≡ n → HasReadCause {T = T} n m (Err (fault.Ended number))
  read-ended n m number same = record { later = omega (arith, same); counts = same }

  pub write-memory : (n m : ℕ) → m ≡ n → HasWriteCause {T = T} n m (Err fault.OutOfMemory)
  write-memory n m same = record { later = omega (arith, same); counts = same }

  pub read-done : (n m : ℕ) (value : T) → m ≡ n → HasReadCause {T = T} n m (Ok value)
  read-done n m value same = record { later = omega (arith, same); counts = same }

  pub write-done : (n m : ℕ) (value : T) → m ≡ n → HasWriteCause {T = T} n m (Ok value)
  write-done n m value same = record { later = omega (arith, same); counts = same }

  -- a message that was not written leaves the output as it was
  pub unwritten : (n : ℕ) (e : ProtoError) → HasWriteCause {T = T} n n (Err (of_proto e))
  unwritten n proto.OutOfMemory = write-memory n n refl
  unwritten n (proto.OutsideGrammar at) = record { later = omega arith; counts = refl }
  unwritten n (proto.DataTooLong size) = record { later = omega arith; counts = refl }
  unwritten n (proto.MessageTooLong size) = record { later = omega arith; counts = refl }
  unwritten n proto.LabelEmpty = record { later = omega arith; counts = refl }
  unwritten n proto.LabelLong = record { later = omega arith; counts = refl }
  unwritten n proto.BadEscape = record { later = omega arith; counts = refl }
  unwritten n proto.NameLong = record { later = omega arith; counts = refl }

  -- the input stood still where a message was not sent
  pub sending-reads : (message : Message) (sent : List ℕ) (f : SubmitFault) (n : ℕ) → StopsSending message sent f → HasReadCause {T = T} n n (Err f)
  sending-reads message sent _ n (exchange.StopsSending.unwritable {error} tells other none) = record { later = omega arith; counts = refl }
  sending-reads message sent _ n (exchange.StopsSending.unsent left is) = record { later = omega arith; counts = refl }
  sending-reads message sent _ n (exchange.StopsSending.no_memory left is) = record { later = omega arith; counts = refl }

  -- the output stood still since the message was sent
  pub receiving-writes : (number : ℕ) (got : List ℕ) (f : SubmitFault) (n m : ℕ) → m ≡ n → StopsReceiving number got f → HasWriteCause {T = T} n m (Err f)
  receiving-writes number got _ n m same (exchange.StopsReceiving.unreceived part) = record { later = omega (arith, same); counts = same }
  receiving-writes number got _ n m same (exchange.StopsReceiving.ended short) = record { later = omega (arith, same); counts = same }
  receiving-writes number got _ n m same (exchange.StopsReceiving.no_memory part) = record { later = omega (arith, same); counts = same }

  reading-reads : (id : ℕ) (bytes : List ℕ) (f : SubmitFault) (n m : ℕ) → m ≡ n → StopsReading id bytes f → HasReadCause {T = T} n m (Err f)
  reading-reads id bytes _ n m same (exchange.StopsReading.unreadable tells other) = record { later = omega (arith, same); counts = same }
  reading-reads id bytes _ n m same (exchange.StopsReading.mismatched reply stands other) = record { later = omega (arith, same); counts = same }
  reading-reads id bytes _ n m same (exchange.StopsReading.no_reply reply stands is other) = record { later = omega (arith, same); counts = same }
  reading-reads id bytes _ n m same exchange.StopsReading.no_memory = record { later = omega (arith, same); counts = same }

  reading-writes : (id : ℕ) (bytes : List ℕ) (f : SubmitFault) (n m : ℕ) → m ≡ n → StopsReading id bytes f → HasWriteCause {T = T} n m (Err f)
  reading-writes id bytes _ n m same (exchange.StopsReading.unreadable tells other) = record { later = omega (arith, same); counts = same }
  reading-writes id bytes _ n m same (exchange.StopsReading.mismatched reply stands other) = record { later = omega (arith, same); counts = same }
  reading-writes id bytes _ n m same (exchange.StopsReading.no_reply reply stands is other) = record { later = omega (arith, same); counts = same }
  reading-writes id bytes _ n m same exchange.StopsReading.no_memory = record { later = omega (arith, same); counts = same }

  -- what the bytes of a reply say uses neither
  pub read-of-reply : (id : ℕ) (bytes : List ℕ) (r : Result T SubmitFault) (n m : ℕ) → m ≡ n → IfErr r (StopsReading id bytes) → HasReadCause n m r
  read-of-reply id bytes (Ok value) n m same stops = read-done n m value same
  read-of-reply id bytes (Err f) n m same stops = reading-reads id bytes f n m same stops

  pub write-of-reply : (id : ℕ) (bytes : List ℕ) (r : Result T SubmitFault) (n m : ℕ) → m ≡ n → IfErr r (StopsReading id bytes) → HasWriteCause n m r
  write-of-reply id bytes (Ok value) n m same stops = write-done n m value same
  write-of-reply id bytes (Err f) n m same stops = reading-writes id bytes f n m same stops
