-- What came of sending the messages.
use Rattle.std.proofs.Common.{ℕ, List, [], ◌∷◌}
use Rattle.std.specs.List.{AllByRecursion}
use Rattle.dns_io.specs.Told.{IsHandedOn}
use Rattle.dns_edges.specs.Edges.{Around, SourceTold, SinkTold}
use Rattle.dns_wire.specs.declared.message.Message.{Message}
use Rattle.dns_wire.specs.ReadBack.{IsMessage, IsPlain}
use Rattle.dns_wire.proofs.Messaging.{message_alone}
use Rattle.dns_update_client.specs.Exchange.{Answers, Exchanges}
use Rattle.dns_update_client.specs.Steps.{Stands, Submits}
use Rattle.dns_update_client.specs.World.{IsCalm, IsSinkCalm}

-- messages that were sent stand in what was written of them
all_stand : (messages : List Message) (replies : List (List ℕ)) (codes : List ℕ) → AllByRecursion IsMessage messages → AllByRecursion IsPlain messages → Exchanges messages replies codes → AllByRecursion Stands messages
all_stand [] replies codes kept plain x = tt
all_stand (m ∷ ms) [] codes kept plain x = absurd x
all_stand (m ∷ ms) (b ∷ bs) [] kept plain x = absurd x
all_stand (m ∷ ms) (b ∷ bs) (c ∷ cs) kept plain x = (message_alone m kept.0 plain.0 x.0.short, all_stand ms bs cs kept.1 plain.1 x.2)

pub submitted : (messages : List Message) (input : Around SourceTold) (output : Around SinkTold) (codes : List ℕ)
    → AllByRecursion IsMessage messages → AllByRecursion IsPlain messages
    → Answers messages codes input.before.left input.after.left output.before.taken output.after.taken
    → (IsHandedOn output.before.taken output.before.flushed → IsHandedOn output.after.taken output.after.flushed)
    → IsCalm input → IsSinkCalm output → Submits messages input output codes
submitted messages input output codes kept plain answers handed calm_input calm_output = record {
  answered = answers;
  stand = all_stand messages answers.replies codes kept plain answers.answered;
  handed = handed;
  calm_input = calm_input;
  calm_output = calm_output;
}
