use Rattle.std.proofs.Common.{◌≡◌, ℕ, ◌<◌, List, [], ◌∷◌, length, map, None, refl, arith}
use Rattle.dns_command.specs.CommandLine.{options_of}
use Rattle.dns_command.proofs.command_line.options_of.Goals as goal

-- fewer than two words are no command
no_command : {A : Type 0} (text : A → List ℕ) (words : List A) → length words < 2 → None ≡ options_of (map text words)
unfolding options_of
no_command text [] few = refl
no_command text (word ∷ []) few = refl
no_command text (word ∷ other ∷ words) few = absurd (omega arith)

pub returns-in_default-clause-is : goal.returns-in_default-clause-is
returns-in_default-clause-is c = no_command _ c.args.words.now c.in_default.len_below
