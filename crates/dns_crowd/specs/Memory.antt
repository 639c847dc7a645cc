-- A crowd in memory.
use Rattle.std.specs.Prelude.{ℕ, List, [], map, Option, Some, None}
use Rattle.std.specs.List.{flat_map}
use Rattle.dns_crowd.specs.declared.coming.Coming.{Coming}
use Rattle.dns_crowd.specs.Crowds.{AllMayCome, CrowdTold, bytes_for, event_by}

-- what is left, the writings that it took, each with the number of its connection, the connections that were closed, the last moment and
-- the greatest number that it gave, the numbers of the calls for what comes next and of the sendings that fail, how many of both there
-- were, and how many failed
pub record CrowdState : Type 0 where
  pub left : List Coming
  pub taken : List (ℕ × List ℕ)
  pub closed : List ℕ
  pub last : ℕ
  pub greatest : Option ℕ
  pub failing_nexts : List ℕ
  pub failing_sends : List ℕ
  pub nexts : ℕ
  pub sends : ℕ
  pub faults : ℕ

-- the bytes of one writing
abbrev pub bytes_of : ℕ × List ℕ → List (ℕ × ℕ)
bytes_of written = bytes_for written.0 written.1

-- what it tells
abbrev pub crowd_told : CrowdState → CrowdTold
crowd_told s = record {
  left = Some (map event_by s.left);
  taken = Some (flat_map bytes_of s.taken);
  closed = Some s.closed;
  last = s.last;
  greatest = s.greatest;
  faults = s.faults;
}

-- all that is left may come, one behind the other
abbrev pub IsToCome : CrowdState → Type 0
IsToCome s = AllMayCome s.last s.greatest (map event_by s.left)

-- a crowd to which this comes
abbrev pub crowd_of : List Coming → List ℕ → List ℕ → CrowdState
crowd_of left nexts sends = record {
  left = left;
  taken = [];
  closed = [];
  last = 0;
  greatest = None;
  failing_nexts = nexts;
  failing_sends = sends;
  nexts = 0;
  sends = 0;
  faults = 0;
}
