use Rattle.ledger_shift.proofs.port.take_asked.Goals as goal

pub returns-in-Show-clause-serves : goal.returns-in-Show-clause-serves
returns-in-Show-clause-serves g c = rw c.in-Show.is (c.take_show.ensures.serves c.args.noted.now)

pub returns-in-List-clause-serves : goal.returns-in-List-clause-serves
returns-in-List-clause-serves g c = rw c.in-List.is (c.take_list.ensures.serves c.args.noted.now)
