-- A crew that was taken on for ports that are as many as the passes of a book.
use Rattle.std.proofs.Common.{◌≡◌, ◌+◌, ◌∙◌, ◌++◌, ℕ, List, [], length, arith}
use Rattle.dns_ticket_lock.specs.Passes.{PassSeen}
use Rattle.dns_server.specs.declared.worker.Worker.{Worker}
use Rattle.dns_server.specs.Servers.{their_passes, their_ports}
use Rattle.dns_crowd_server.proofs.AllPasses.{all_out, none_free, port_count}

-- so many of each, and none is left
pub record IsTaken {P Q : Type 0} (first second : ℕ) (passes rest : List PassSeen) (xs : List (Worker P)) (ys : List (Worker Q)) : Type 0 where
  pub first_count : length xs ≡ first
  pub second_count : length ys ≡ second
  pub none : rest ≡ []
  pub all : passes ≡ their_passes xs ++ their_passes ys

pub taken : {P Q : Type 0} (seats first second : ℕ) (passes left rest : List PassSeen) (xs : List (Worker P)) (ys : List (Worker Q)) (us : List P) (cs : List Q)
    → seats ≡ first + second → length passes ≡ seats → length us ≡ first → length cs ≡ second → their_ports xs ≡ us → their_ports ys ≡ cs
    → passes ≡ their_passes xs ++ left → left ≡ their_passes ys ++ rest → IsTaken first second passes rest xs ys
taken seats first second passes left rest xs ys us cs all many one two is_us is_cs first_part second_part =
    let firsts : length xs ≡ first = port_count xs us is_us ∙ one in
    let seconds : length ys ≡ second = port_count ys cs is_cs ∙ two in
    let none : rest ≡ [] = none_free passes left rest xs ys first_part second_part (omega (arith, all, many, firsts, seconds)) in
    record { first_count = firsts; second_count = seconds; none = none; all = all_out passes left rest xs ys first_part second_part none }
