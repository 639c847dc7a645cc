-- What is to come to a crowd in memory, and what it gives.
use Rattle.std.proofs.Common.{◌≡◌, ◌≤◌, ◌∙◌, ℕ, List, ◌∷◌, length, map, Option, Some, Ok, refl, sym, ap, subst, arith}
use Rattle.dns_server_core.specs.declared.event.Event.{Event}
use Rattle.dns_readiness.specs.declared.came.Came.{Came}
use Rattle.dns_readiness.specs.Came.{count_of, greatest_behind, moment_of}
use Rattle.dns_crowd.specs.declared.coming.Coming.{Coming}
use Rattle.dns_crowd.specs.Crowds.{AllMayCome, Gives, MayCome, event_by, event_of}
use Rattle.dns_crowd.specs.Memory.{CrowdState, IsToCome, crowd_told}
use Rattle.dns_crowd.proofs.CameEvents.{first_comes, greatest_is, moment_is}

pub gives_first : (s : CrowdState) (one : Coming) (rest : List Coming) (room : List ℕ) (came : Came) (last : ℕ) (greatest : Option ℕ) → s.left ≡ one ∷ rest → IsToCome s
    → event_of room came ≡ event_by one → count_of came ≤ length room → last ≡ moment_of came → greatest ≡ greatest_behind s.greatest came
    → Gives (crowd_told s) (crowd_told (record s { left = rest; last = last; greatest = greatest })) room (Ok (Some came))
gives_first s one rest room came last greatest left is same size l g =
    let all : AllMayCome s.last s.greatest (event_by one ∷ map event_by rest) = subst (λ (cs : List Coming). AllMayCome s.last s.greatest (map event_by cs)) left is in
    record {
      size = size;
      comes = subst (MayCome s.last s.greatest) (sym same) (first_comes s.last s.greatest (event_by one) (map event_by rest) all);
      given = ap (map event_by) left ∙ ap (λ (e : Event). e ∷ map event_by rest) (sym same);
      last = l ∙ moment_is room came;
      greatest = g ∙ greatest_is room s.greatest came;
      kept = tt;
      same = tt;
      untaken = refl;
      unclosed = refl;
      cause = record { later = omega arith; counts = refl };
    }
