use Rattle.lock_script.proofs.streams.answers.Goals as goal

pub returns-in-Table-clause-fault : goal.returns-in-Table-clause-fault
returns-in-Table-clause-fault c = rw c.in-Table.is c.desk_answers.ensures.fault

pub returns-in-Word-clause-fault : goal.returns-in-Word-clause-fault
returns-in-Word-clause-fault c = rw c.in-Word.is c.desk_answers-in-Word.ensures.fault

pub returns-in-Steps-clause-fault : goal.returns-in-Steps-clause-fault
returns-in-Steps-clause-fault c = rw c.in-Steps.is c.world_answers.ensures.fault
