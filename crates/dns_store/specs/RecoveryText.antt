-- What is told of a journal that was not read back.
use Rattle.std.specs.Prelude.{ℕ, ℤ, ◌++◌, List, codes}
use Rattle.std.specs.Fmt.{signed_decimal}
use Rattle.dns_update.specs.declared.replay_kind.ReplayKind.{ReplayKind}
use Rattle.dns_update.specs.declared.replay_kind.ReplayKind.TheVariants as replay

-- why the rows of a journal are refused, or its batches
abbrev pub replay_kind_text : ReplayKind → List ℕ
replay_kind_text replay.NoRecord = codes "row is no record"
replay_kind_text replay.OutOfPlace = codes "row out of place"
replay_kind_text replay.NotOneSoa = codes "not one SOA"
replay_kind_text replay.BatchOutOfPlace = codes "batch out of place"

-- the line of a journal that is refused at this row, for this reason
abbrev pub recovery_line : ℤ → ReplayKind → List ℕ
recovery_line row kind = codes "journal row " ++ (signed_decimal row ++ (codes ": " ++ (replay_kind_text kind ++ codes "\n")))
