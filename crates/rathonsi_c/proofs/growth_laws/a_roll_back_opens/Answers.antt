use Rattle.rathonsi_c.proofs.RollBackLaws.{size-ok, mend-ok, open-ok, check-ok}
use Rattle.rathonsi_c.proofs.growth_laws.a_roll_back_opens.Goals as goal

pub returns-clause-told : goal.returns-clause-told
returns-clause-told c = λ table n steps a b d e room behind end left y deeds others status apart u lives all cut grew h.
    size-ok table apart n steps a b d e room behind end left y deeds others u lives all cut grew status h

pub returns-clause-mended : goal.returns-clause-mended
returns-clause-mended c = λ table n steps a b d e room behind end left y deeds others plan status apart u lives all cut grew empty h.
    mend-ok table apart n steps a b d e room behind end left y deeds others u lives all cut grew plan status empty h

pub returns-clause-checked : goal.returns-clause-checked
returns-clause-checked c = λ size y old new status given number same h. check-ok size y old new status given number same h

pub returns-clause-opened : goal.returns-clause-opened
returns-clause-opened c = λ table n steps size k a b d e room behind end left y deeds others filled direction status apart u lives all cut grew given x same ranges h.
    open-ok table apart n steps a b d e room behind end left y deeds others u lives all cut grew k x size filled direction given same ranges status h
