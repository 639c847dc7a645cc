-- What replies add up to, and names that differ.
use Rattle.std.specs.Prelude.{ℕ, ◌+◌, List, [], ◌∷◌, Bool, true, not, ◌&&◌}
use Rattle.std.specs.List.{list_any}
use Rattle.std.specs.Str.{bytes_eq}
use Rattle.dns_counts.specs.declared.asked.Asked.{Asked}
use Rattle.dns_counts.specs.declared.asked.Replied.{Replied}
use Rattle.dns_counts.specs.Counters.{Counter, recorded}

-- the sums of two lists of numbers, place by place; what is behind the shorter one stays
abbrev pub together : List ℕ → List ℕ → List ℕ
together [] more = more
together (n ∷ ns) [] = n ∷ ns
together (n ∷ ns) (m ∷ ms) = (n + m) ∷ together ns ms

-- by how much replies together raise the count of each label of a counter
abbrev pub total_growth : Counter → List (Asked × Replied) → List ℕ
total_growth counter [] = []
total_growth counter (one ∷ others) = together (counter.growth one.0 one.1) (total_growth counter others)

-- the counts after replies, one after the other
abbrev pub recorded_all : List (Asked × Replied) → List (List ℕ) → List (List ℕ)
recorded_all [] before = before
recorded_all (one ∷ others) before = recorded_all others (recorded one.0 one.1 before)

-- no text stands twice
abbrev pub all_differ : List (List ℕ) → Bool
all_differ [] = true
all_differ (text ∷ others) = not (list_any (λ other. bytes_eq text other) others) && all_differ others
