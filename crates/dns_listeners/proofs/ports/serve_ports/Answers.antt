use Rattle.std.proofs.Common.{Err, inl, inr, refl, ap}
use Rattle.dns_listeners.proofs.Served.{served_well, faulty_port, registers_served, crew_unused, crew_served}
use Rattle.dns_listeners.proofs.ports.serve_ports.Goals as goal

pub returns-in_err-open_ports-clause-crew : goal.returns-in_err-open_ports-clause-crew
returns-in_err-open_ports-clause-crew g c = crew_unused _ _ _ _ c.open_ports.ensures.manned c.open_ports.ensures.registers.same

pub returns-in_err-open_ports-clause-read : goal.returns-in_err-open_ports-clause-read
returns-in_err-open_ports-clause-read g c = inl refl

pub returns-in-Ok-clause-ok : goal.returns-in-Ok-clause-ok
returns-in-Ok-clause-ok g c =
    let opened = c.in_ok-open_ports.ensures in
    let ended = c.in-Ok.ensures in
    served_well _ _ _ _ _ _ _ c.requires.empty.0 c.requires.empty.1 c.requires.seats opened.manned opened.registers.same opened.sockets opened.listeners
    ended.others ended.sockets ended.listeners ended.answer.sockets ended.answer.listeners opened.ok ended.until

pub returns-in-Ok-clause-crew : goal.returns-in-Ok-clause-crew
returns-in-Ok-clause-crew g c =
    let opened = c.in_ok-open_ports.ensures in
    let ended = c.in-Ok.ensures in
    crew_served _ _ _ _ _ opened.manned opened.registers.same ended.others ended.sockets ended.listeners

pub returns-in-Ok-clause-read : goal.returns-in-Ok-clause-read
returns-in-Ok-clause-read g c = let read = c.in-Ok.ensures.reading in let opens = c.in_ok-open_ports.ensures.ok in inr (opens.opened, opens.calls, read.reading, read.ended)

pub returns-in-Ok-clause-registers : goal.returns-in-Ok-clause-registers
returns-in-Ok-clause-registers g c =
    let ended = c.in-Ok.ensures in
    registers_served _ _ _ _ _ _ _ c.in_ok-open_ports.ensures.registers ended.others ended.sockets ended.listeners

pub returns-in-Err-Io : goal.returns-in-Err-Io
returns-in-Err-Io g c =
    let opened = c.in_ok-open_ports.ensures in
    let ended = c.in-Err-Io.ensures in
    record {
      ok = tt;
      crew = crew_served _ _ _ _ _ opened.manned opened.registers.same ended.others ended.sockets ended.listeners;
      read = inr (opened.ok.opened, opened.ok.calls, ended.reading.reading, ended.reading.ended);
      err = inr (opened.ok.unfailed, opened.ok.calls, faulty_port _ _ _ c.open_ports.new.server c.serve_until.new.self opened.manned (ended.answer.failed (ap Err c.in-Err-Io.field-0-is)));
      registers = registers_served _ _ _ _ _ _ _ opened.registers ended.others ended.sockets ended.listeners;
      later = ended.reading.later;
    }

pub returns-in-Err : goal.returns-in-Err
returns-in-Err g c =
    let opened = c.in_ok-open_ports.ensures in
    let ended = c.in-Err.ensures in
    record {
      ok = tt;
      crew = crew_served _ _ _ _ _ opened.manned opened.registers.same ended.others ended.sockets ended.listeners;
      read = inr (opened.ok.opened, opened.ok.calls, ended.reading.reading, ended.reading.ended);
      err = (opened.ok.faults, opened.ok.unfailed);
      registers = registers_served _ _ _ _ _ _ _ opened.registers ended.others ended.sockets ended.listeners;
      later = ended.reading.later;
    }
