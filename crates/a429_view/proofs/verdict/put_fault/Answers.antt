use Rattle.a429_view.proofs.verdict.put_fault.Goals as goal

pub returns-in-Version : goal.returns-in-Version
returns-in-Version g c = rw c.in-Version.is c.put.ensures

pub returns-in-Line : goal.returns-in-Line
returns-in-Line g c = rw c.in-Line.is c.put_reason.ensures

pub returns-in-NotAllowed : goal.returns-in-NotAllowed
returns-in-NotAllowed g c = rw c.in-NotAllowed.is c.put_reason-in-NotAllowed.ensures

pub returns-in-StateDiffers : goal.returns-in-StateDiffers
returns-in-StateDiffers g c = rw c.in-StateDiffers.is c.put_reason-in-StateDiffers.ensures

pub returns-in-WordDiffers : goal.returns-in-WordDiffers
returns-in-WordDiffers g c = rw c.in-WordDiffers.is c.put_word_differs.ensures

pub returns-in-Unfinished : goal.returns-in-Unfinished
returns-in-Unfinished g c = rw c.in-Unfinished.is c.put_reason-in-Unfinished.ensures
