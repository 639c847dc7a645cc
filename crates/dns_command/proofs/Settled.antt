-- What a server's run over messages leaves of a book.
use Rattle.std.proofs.Common.{◌≡◌, ℕ, List, [], ◌∷◌, ◌⊎◌, inl, inr, Option, refl, sym, ap, subst, ◌∙◌, take}
use Rattle.dns_io.specs.Told.{NeverBegins, Keeps}
use Rattle.dns_io.proofs.ToldContents.{Keeps-same}
use Rattle.dns_wire.specs.declared.record.Record.{Record}
use Rattle.dns_keeper.specs.Keeping.{KeeperOf}
use Rattle.dns_book.specs.declared.ask.Ask.{Ask}
use Rattle.dns_book.specs.declared.ask.Receipt.{Receipt}
use Rattle.dns_book.specs.declared.ask.Settled.{Settled}
use Rattle.dns_book.specs.Access.{Access}
use Rattle.dns_book.specs.Book.{SeenOf, Ends, idle, journalled, failed, Settles, IsLeft}
use Rattle.dns_server_core.specs.declared.event.Event.{Event}
use Rattle.dns_server_core.specs.declared.event.Out.{Out}
use Rattle.dns_server_core.specs.declared.fault.RunFault.{RunFault}
use Rattle.dns_server_core.specs.declared.fault.RunFault.TheVariants as fault
use Rattle.dns_server_core.specs.Valid.{Valid}
use Rattle.dns_server_core.specs.Connections.{Kept, new_kept, done, after}
use Rattle.dns_server_core.specs.Runs.{Completed, Run, Answers}
use Rattle.dns_server_core.specs.Serving.{ServerOf, Leaves}
use Rattle.dns_server_core.specs.Books.{failures, RoseBy}
use Rattle.dns_command.specs.declared.status.Status.TheVariants as status
use Rattle.dns_command.specs.Ends.{CountsFailures}
use Rattle.dns_command.specs.Parts.{SettlesEach, SettlesPart, of_memory}
use Rattle.dns_command.proofs.Told.{NeverBegins-told, NeverBegins-same, NeverBegins-more}

module _ {K : Type 0} (keeper : KeeperOf K) where
  Ends-told : (before : SeenOf K) (ask : Ask) (batch : List Record) (flag : _) (receipt : Option Receipt) (after : SeenOf K) → Ends keeper before ask batch flag receipt after → NeverBegins (keeper.told before.keeper).rows (keeper.told after.keeper).rows
  Ends-told before ask batch flag receipt after (idle none) = NeverBegins-same (keeper.told before.keeper).rows
  Ends-told before ask batch flag receipt after (journalled some held grown run later) = NeverBegins-told _ (keeper.told before.keeper).rows (keeper.told held).rows grown
  Ends-told before ask batch flag receipt after (failed some held kept batches later rose) = NeverBegins-told _ (keeper.told before.keeper).rows (keeper.told held).rows kept

  Settles-told : (access : Access) (before : SeenOf K) (ask : Ask) (settled : Settled) (after : SeenOf K) → Settles keeper access before ask settled after → NeverBegins (keeper.told before.keeper).rows (keeper.told after.keeper).rows
  Settles-told access before ask settled after s = rw (s.counted) (Ends-told before ask _ s.failed settled.receipt s.ended s.ends)

  -- rows that are told after a run were told before it
  pub Run-told : (access : Access) (first last : SeenOf K) (asks : List Completed) (outs : List Out) → Run (Settles keeper access) first asks outs last → NeverBegins (keeper.told first.keeper).rows (keeper.told last.keeper).rows
  Run-told access first last [] outs ran = subst (λ (s : SeenOf K). NeverBegins (keeper.told first.keeper).rows (keeper.told s.keeper).rows) (sym ran.0) (NeverBegins-same (keeper.told first.keeper).rows)
  Run-told access first last (c ∷ cs) outs ran =
      NeverBegins-more (keeper.told first.keeper).rows (keeper.told ran.1.keeper).rows (keeper.told last.keeper).rows (Settles-told access first c.ask ran.0 ran.1 ran.3) (Run-told access ran.1 last cs ran.2 ran.5)

  -- what the server's law says of a run: no more updates failed than the count of faults rose, and where none did it is as it was
  abbrev Rises : Type 0
  Rises = (a : Access) (first later : SeenOf K) (asks : List Completed) (outs : List Out) → (ran : Run (Settles keeper a) first asks outs later)
      → RoseBy (failures keeper a first asks outs later ran) (keeper.told first.keeper).faults (keeper.told later.keeper).faults

  abbrev Stays : Type 0
  Stays = (a : Access) (first later : SeenOf K) (asks : List Completed) (outs : List Out) → (ran : Run (Settles keeper a) first asks outs later)
      → failures keeper a first asks outs later ran ≡ 0 → (keeper.told later.keeper).faults ≡ (keeper.told first.keeper).faults

  -- where memory ran out, the rows are as they were, and no fault was counted
  skipped : (last now : SeenOf K) → (now ≡ last) ⊎ IsLeft keeper last now → Keeps (keeper.told last.keeper).rows (keeper.told now.keeper).rows × ((keeper.told now.keeper).faults ≡ (keeper.told last.keeper).faults)
  skipped last now (inl e) = subst (λ (s : SeenOf K). Keeps (keeper.told last.keeper).rows (keeper.told s.keeper).rows × ((keeper.told s.keeper).faults ≡ (keeper.told last.keeper).faults)) (sym e) (Keeps-same (keeper.told last.keeper).rows, refl)
  skipped last now (inr s) = (s.kept, s.uncounted)

  -- a whole list was served
  pub settled_each : (access : Access) (first : SeenOf K) (events : List Event) (new : List Out) (server : ServerOf (SeenOf K)) → Valid new_kept events
      → Answers (Settles keeper access) first (done new_kept events) server.handler [] new → server.kept ≡ after new_kept events
      → Rises → Stays → SettlesEach keeper access first events new server
  settled_each access first events new server v answered kept rises stays =
      let ran : Run (Settles keeper access) first (done new_kept events) new server.handler = subst (λ (o : List Out). Run (Settles keeper access) first (done new_kept events) o server.handler) (sym answered.added) answered.run in
      record {
        valid = v;
        ran = ran;
        few = record { few = rises access first server.handler (done new_kept events) new ran; still = stays access first server.handler (done new_kept events) new ran };
        kept = kept;
      }

  -- a server that was new did not serve the whole list: memory ran out behind some of the messages
  pub cut_short : (access : Access) (before after : ServerOf (SeenOf K)) (events : List Event) (old new : List Out) (why : RunFault) (held : K) → before.kept ≡ new_kept → Valid new_kept events
      → Leaves (Settles keeper access) (IsLeft keeper) before events after old new why → held ≡ after.handler.keeper
      → Rises → Stays → SettlesPart keeper access before.handler events status.OutOfMemory held
  cut_short access before after events old new fault.Stopped held n v l is rises stays = absurd (let e = ap (λ (x : Kept). x.stopped) n in let was = l.0 in cc)
  cut_short access before after events old new (fault.OutOfMemory count) held n v l is rises stays =
      let ran : Run (Settles keeper access) before.handler (take count (done new_kept events)) l.answered.outs l.last =
      subst (λ (x : Kept). Run (Settles keeper access) before.handler (take count (done x events)) l.answered.outs l.last) n l.answered.run in
      let counts : CountsFailures (failures keeper access before.handler (take count (done new_kept events)) l.answered.outs l.last ran) (keeper.told before.handler.keeper).faults (keeper.told l.last.keeper).faults = record {
        few = rises access before.handler l.last (take count (done new_kept events)) l.answered.outs ran;
        still = stays access before.handler l.last (take count (done new_kept events)) l.answered.outs ran;
      } in
      let end = skipped l.last after.handler l.end in
      let same : (keeper.told held).faults ≡ (keeper.told l.last.keeper).faults = ap (λ (x : K). (keeper.told x).faults) is ∙ end.1 in
      of_memory count l.answered.outs l.last v ran
      (subst (λ (n : ℕ). CountsFailures (failures keeper access before.handler (take count (done new_kept events)) l.answered.outs l.last ran) (keeper.told before.handler.keeper).faults n) (sym same) counts)
      (subst (λ (x : K). Keeps (keeper.told l.last.keeper).rows (keeper.told x).rows) (sym is) end.0) same
