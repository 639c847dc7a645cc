use Rattle.dns_serve.proofs.run.serve_opened.Goals as goal

pub returns-clause-ends : goal.returns-clause-ends
returns-clause-ends g c = rw (← c.access_of-access.ensures) c.serve_book.ensures.ends
