-- Batches that calls keep.
use Rattle.std.proofs.Common.{◌≡◌, Option, Some, None, refl, ◌∙◌}
use Rattle.dns_io.specs.Told.{Told}
use Rattle.dns_keeper.specs.Keeping.{KeeperTold, KeepsBatches}

told_same : {A : Type 0} (o : Option A) (P : Type 0) → P → Told (λ (b n : A). P) o o
told_same None P p = tt
told_same (Some x) P p = p

told_then : {A : Type 0} (x y z : Option A) (P Q R : Type 0) → (P → Q → R) → Told (λ (b n : A). P) x y → Told (λ (b n : A). Q) y z → Told (λ (b n : A). R) x z
told_then x y None P Q R both one two = tt
told_then x None (Some c) P Q R both one two = absurd two
told_then None (Some b) (Some c) P Q R both one two = absurd one
told_then (Some a) (Some b) (Some c) P Q R both one two = both one two

pub keeps_batches_same : (told : KeeperTold) → KeepsBatches told told
keeps_batches_same told = told_same told.rows (told.batches ≡ told.batches) refl

pub keeps_batches_then : (a b c : KeeperTold) → KeepsBatches a b → KeepsBatches b c → KeepsBatches a c
keeps_batches_then a b c one two = told_then a.rows b.rows c.rows (b.batches ≡ a.batches) (c.batches ≡ b.batches) (c.batches ≡ a.batches) (λ p q. q ∙ p) one two
