-- What became of a connection.
use Rattle.std.proofs.Common.{refl, sym, ◌∙◌, Some, None}
use Rattle.dns_server.proofs.listener_worker.attend.Goals as goal

pub returns-then-not-is_safe : goal.returns-then-not-is_safe
returns-then-not-is_safe g c = record {
  back = c.args.connection;
  answer = None;
  treated = record { unsafe = sym c.is_safe.ensures ∙ c.if-not-is_safe.true; same = refl; still = refl };
  unread = c.done.ensures.told.kept;
  unaccepted = c.done.ensures.told.unaccepted;
  handed = c.done.ensures.told.grows;
  calm = c.done.ensures.told.calm;
  met = λ found. refl;
}

pub returns : goal.returns
returns g c = record {
  back = c.serve-found.new.connection;
  answer = Some c.serve-found.ensures.answer;
  treated = c.serve-found.ensures.served;
  unread = c.done-2.ensures.told.kept;
  unaccepted = c.done-2.ensures.told.unaccepted;
  handed = c.done-2.ensures.told.grows;
  calm = c.done-2.ensures.told.calm;
  met = c.serve-found.ensures.met;
}
