-- A message that is no update changes nothing but the counts.
use Rattle.std.proofs.Common.{◌≡◌, ◌≢◌, ℕ, List, [], length, Bool, true, false, not, if◌then◌else◌, Option, Some, None, refl, sym, ap, ◌∙◌, arith}
use Rattle.std.specs.Prelude.{◌==◌, ◌||◌}
use Rattle.std.proofs.lemmas.Bool.{ne_eqb}
use Rattle.dns_wire.specs.declared.message.Message.{Message}
use Rattle.dns_wire.specs.declared.question.Question.{Question}
use Rattle.dns_wire.specs.declared.record.Record.{Record}
use Rattle.dns_keeper.specs.Keeping.{KeeperOf}
use Rattle.dns_zone_map.specs.Zone.{Contents}
use Rattle.dns_book.specs.declared.ask.Ask.{Ask}
use Rattle.dns_book.specs.declared.ask.Receipt.{Receipt}
use Rattle.dns_book.specs.declared.ask.Settled.{Settled}
use Rattle.dns_book.specs.Access.{Access}
use Rattle.dns_book.specs.Cases.{is_newer, is_foreign, only_question, question_case, message_case, Decides, silent, shut_out, malformed, read}
use Rattle.dns_book.specs.Owed.{case_batch, batch_by}
use Rattle.dns_book.specs.Book.{SeenOf, grounds_of, Ends, idle, journalled, failed, Settles}
use Rattle.dns_book.specs.Counted.{counts_after}
use Rattle.dns_laws.specs.Isolation.{IsNoUpdate, IsUnchanged}

-- both ways of a choice bring nothing
none_by : {C : Type 0} (batch : C → List Record) (test : Bool) (a b : C) → batch a ≡ [] → batch b ≡ [] → batch (if test then a else b) ≡ []
none_by batch true a b first second = first
none_by batch false a b first second = second

none_asked : (zone : Contents) (allow_update : Bool) (m : Message) (question : Option Question) → m.header.opcode ≢ 5 → case_batch zone allow_update (question_case zone m question) ≡ []
none_asked zone allow_update m None other = refl
none_asked zone allow_update m (Some q) other = rw (ne_eqb m.header.opcode 5 other) (none_by (case_batch zone allow_update) (is_foreign zone q) _ _ refl refl)

none_read : (zone : Contents) (allow_update : Bool) (m : Message) → m.header.opcode ≢ 5 → case_batch zone allow_update (message_case zone m) ≡ []
unfolding message_case
none_read zone allow_update m other =
    none_by (case_batch zone allow_update) (is_newer m.edns) _ _ refl
    (none_by (case_batch zone allow_update) (not ((m.header.opcode == 0) || (m.header.opcode == 5))) _ _ refl (none_asked zone allow_update m (only_question m.questions) other))

-- it brings no records
no_records : (zone : Contents) (access : Access) (ask : Ask) (allow_update : Bool) (decision : Option _) → IsNoUpdate ask.bytes → Decides zone access ask decision → batch_by zone allow_update decision ≡ []
no_records zone access ask allow_update _ other (silent none) = refl
no_records zone access ask allow_update _ other (shut_out h e out q asked) = refl
no_records zone access ask allow_update _ other (malformed h e let_in none) = refl
no_records zone access ask allow_update _ other (read h e let_in m at) = none_read zone allow_update m (other m.header at.header)

ends_idle : {K : Type 0} (keeper : KeeperOf K) (before : SeenOf K) (ask : Ask) (batch : List Record) (fails : Bool) (receipt : Option Receipt) (ended : SeenOf K)
    → Ends keeper before ask batch fails receipt ended → batch ≡ [] → (ended ≡ before) × (receipt ≡ None)
ends_idle keeper before ask batch _ _ _ (idle none) e = (refl, refl)
ends_idle keeper before ask batch _ _ _ (journalled some held grew run later) e = absurd (omega (arith, some, ap length e))
ends_idle keeper before ask batch _ _ _ (failed some held kept batches later rose) e = absurd (omega (arith, some, ap length e))

pub Settles-unchanged : {K : Type 0} (keeper : KeeperOf K) (access : Access) (before after : SeenOf K) (ask : Ask) (settled : Settled) → Settles keeper access before ask settled after
    → IsNoUpdate ask.bytes → IsUnchanged before after × (settled.receipt ≡ None)
Settles-unchanged {K} keeper access before after ask settled is other =
    let none : batch_by before.zone before.allow_update is.reply.decision ≡ [] = no_records before.zone access ask before.allow_update is.reply.decision other is.reply.decided in
    let same = ends_idle keeper before ask (batch_by before.zone before.allow_update is.reply.decision) is.failed settled.receipt is.ended is.ends none in
    let counts : List (List ℕ) = counts_after (grounds_of before is.failed) is.reply.decision settled.reply is.ended.counts in (
      is.counted
          ∙ ap (λ (b : SeenOf K). record b { counts = counts }) same.0
          ∙ ap (λ (c : List (List ℕ)). record before { counts = c }) (sym (ap (λ (b : SeenOf K). b.counts) is.counted)),
      same.1,
    )
