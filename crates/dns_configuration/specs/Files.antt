-- The texts of files, and what the files in memory do at each read.
use Rattle.std.specs.Prelude.{◌≡◌, ℕ, List, [], ◌∷◌, if◌then◌else◌, Option, Some, None, Result, Err, MatchBool, MatchResult}
use Rattle.std.specs.Str.{bytes_eq}
use Rattle.dns_io.specs.Told.{one_more}
use Rattle.dns_edges.specs.Memory.{next_fails}
use Rattle.dns_keeper.specs.declared.keeper.KeepFault.{KeepFault}
use Rattle.dns_keeper.specs.declared.keeper.KeepFault.TheVariants.{Failed, OutOfMemory}

-- a path, and the text of the file there
abbrev pub File : Type 0
File = List ℕ × List ℕ

-- the text at a path, where there is one: that of the first file with this path
abbrev pub text_at : List File → List ℕ → Option (List ℕ)
text_at [] path = None
text_at (file ∷ files) path = if bytes_eq file.0 path then Some file.1 else text_at files path

-- what is found at a path, where the files are told: the text there, none exactly where there is none
abbrev pub IsTextAt : Option (List File) → List ℕ → Option (List ℕ) → Type 0
IsTextAt None path found = Unit {0}
IsTextAt (Some files) path found = found ≡ text_at files path

-- files in memory: their paths and texts, the numbers of the reads that fail, how many reads there were, and how many of
-- them failed
pub record FilesState : Type 0 where
  pub files : List File
  pub failing_reads : List ℕ
  pub reads : ℕ
  pub faults : ℕ

-- the files after a read that failed
abbrev pub failed_read : FilesState → FilesState
failed_read s = record s { reads = one_more s.reads; faults = one_more s.faults }

-- the files after another read
abbrev pub read_once : FilesState → FilesState
read_once s = record s { reads = one_more s.reads }

-- what a read at a path answers and leaves: it fails exactly where its number is listed
abbrev pub ReadsNext : FilesState → List ℕ → Result (Option (List ℕ)) KeepFault → FilesState → Type 0
ReadsNext before path result after =
    MatchBool (next_fails before.failing_reads before.reads)
    ((result ≡ Err Failed) × (after ≡ failed_read before))
    (MatchResult result
    (λ found. (found ≡ text_at before.files path) × (after ≡ read_once before))
    (λ fault. (fault ≡ OutOfMemory) × (after ≡ read_once before)))
