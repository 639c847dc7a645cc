-- How a half goes on from write to write.
use Rattle.std.proofs.Common.{◌≡◌, ℕ, List, [], ◌++◌, Option, Some, Result, Ok, Err, false, refl, sym, ap, ◌∙◌, arith}
use Rattle.std.proofs.lemmas.List.{append_assoc, append-nil}
use Rattle.std.proofs.lemmas.Bool.Decides.{nat_tests}
use Rattle.std.specs.Prelude.{◌==◌}
use Rattle.dns_io.specs.declared.io_fault.IoFault.{IoFault}
use Rattle.dns_io.specs.declared.io_fault.IoFault.TheVariants as io
use Rattle.dns_io.specs.Told.{Grows, GrowsByPrefix}
use Rattle.dns_io.proofs.ToldContents.{Grows-more, Grows-GrowsByPrefix}
use Rattle.dns_transport.specs.Faults.{of_io}
use Rattle.dns_transport.specs.declared.error.NetError.{NetError}
use Rattle.dns_quic.specs.Streams.{IsIoFault, TakesBytes}

pub is_io : (fault : IoFault) → IsIoFault (of_io fault)
is_io io.Failed = tt
is_io io.OutOfMemory = tt

-- the first of two writes failed
pub takes-first : (a b : Option (List ℕ)) (front more : List ℕ) (fault : NetError) → TakesBytes a b front (Err fault) → TakesBytes a b (front ++ more) (Err fault)
takes-first a b front more fault (is, (rest, part)) = (
  is,
  (
    rest ++ more,
    record {
      front = part.front;
      parts = ap (λ (l : List ℕ). l ++ more) part.parts ∙ append_assoc part.front rest more;
      grown = part.grown;
    },
  ),
)

-- the first of two writes took its bytes
pub takes-more : (a b c : Option (List ℕ)) (front more : List ℕ) (result : Result (Unit {0}) NetError) → Grows a b front → TakesBytes b c more result → TakesBytes a c (front ++ more) result
takes-more a b c front more (Ok done) grown next = Grows-more a b c front more grown next
takes-more a b c front more (Err fault) grown (is, (rest, part)) = (is, (rest, Grows-GrowsByPrefix a b c front more rest grown part))

-- nothing was taken
pub took-nothing : (a bytes now : List ℕ) → now ≡ a → (rest : List ℕ) × GrowsByPrefix (Some a) (Some now) bytes rest
took-nothing a bytes now same = (bytes, record { front = []; parts = refl; grown = same ∙ sym (append-nil a) })

pub not-zero : (n : ℕ) → ¬ (n ≡ 0) → (n == 0) ≡ false
not-zero n other = grind (arith, nat_tests)
