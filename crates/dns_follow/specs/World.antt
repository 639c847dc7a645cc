-- What the program was given, and what stands when it ended.
use Rattle.std.specs.Prelude.{◌≡◌, ℕ, List}
use Rattle.dns_edges.specs.Edges.{Around}

-- the words of the command line, and the journal, the input, the clock and the output, before and after
pub record World (K S C O : Type 0) : Type 0 where
  pub words : List (List ℕ)
  pub journal : Around K
  pub input : Around S
  pub clock : Around C
  pub output : Around O

-- an object was not used
abbrev pub IsUnused : {T : Type 0} → Around T → Type 0
IsUnused object = object.after ≡ object.before

-- what an object told before and after
abbrev pub told_around : {S T : Type 0} → (S → T) → Around S → Around T
told_around told object = record { before = told object.before; after = told object.after }

-- so they are, each with what stands of it at the end
abbrev pub world_of : {K S C O : Type 0} → List (List ℕ) → K → K → S → S → C → C → O → O → World K S C O
world_of words journal journal_now input input_now clock clock_now output output_now = record {
  words = words;
  journal = record { before = journal; after = journal_now };
  input = record { before = input; after = input_now };
  clock = record { before = clock; after = clock_now };
  output = record { before = output; after = output_now };
}
