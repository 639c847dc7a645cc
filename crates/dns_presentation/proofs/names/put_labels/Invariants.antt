use Rattle.std.proofs.Common.{◌≡◌, length}
use Rattle.dns_presentation.proofs.NameRooms.{Opened}
use Rattle.dns_presentation.proofs.names.put_labels.Given as goal

abbrev pub invariant-loop-place : goal.invariant-loop-place
invariant-loop-place l = (length l.room ≡ 255) × Opened l.text l.room l.start l.place
