use Rattle.a429_commands.proofs.engines.why.put_against.Goals as goal

pub returns-in-Allowed : goal.returns-in-Allowed
returns-in-Allowed g c = rw c.in-Allowed.is c.put_allowed.ensures

pub returns-in-Semis : goal.returns-in-Semis
returns-in-Semis g c = rw c.in-Semis.is c.put_semis.ensures

pub returns-in-Check : goal.returns-in-Check
returns-in-Check g c = rw c.in-Check.is c.put_check.ensures

pub returns-in-NotFirst : goal.returns-in-NotFirst
returns-in-NotFirst g c = rw c.in-NotFirst.is c.put_not_first.ensures

pub returns-in-AfterAck : goal.returns-in-AfterAck
returns-in-AfterAck g c = rw c.in-AfterAck.is c.put_after.ensures

pub returns-in-AfterStart : goal.returns-in-AfterStart
returns-in-AfterStart g c = rw c.in-AfterStart.is c.put_after-in-AfterStart.ensures

pub returns-in-OtherStart : goal.returns-in-OtherStart
returns-in-OtherStart g c = rw c.in-OtherStart.is c.put_words.ensures

pub returns-in-OtherCount : goal.returns-in-OtherCount
returns-in-OtherCount g c = rw c.in-OtherCount.is c.put_counts.ensures

pub returns-in-OtherEnd : goal.returns-in-OtherEnd
returns-in-OtherEnd g c = rw c.in-OtherEnd.is c.put_words-in-OtherEnd.ensures

pub returns-in-OtherWord : goal.returns-in-OtherWord
returns-in-OtherWord g c = rw c.in-OtherWord.is c.put_words-in-OtherWord.ensures

pub returns-in-Rival : goal.returns-in-Rival
returns-in-Rival g c = rw c.in-Rival.is c.put_rival.ensures
