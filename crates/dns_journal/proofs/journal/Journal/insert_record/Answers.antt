use Rattle.dns_journal.proofs.journal.Journal.insert_record.Goals as goal

pub returns : goal.returns
returns g c = record { inserted = rw c.from_ref.ensures.value at c.insert_slice.ensures.inserted }
