use Rattle.std.proofs.Common.{◌<◌, ℕ, sym, subst, arith}
use Rattle.std.proofs.lemmas.List.{length-replicate}
use Rattle.std.proofs.lemmas.Result.{on_ok_weaker, on_err_weaker}
use Rattle.std.proofs.KnownBytes.{Appends-trans}
use Rattle.a429_word.proofs.PageFacts.{AppendsPrefix-longer}
use Rattle.a429_commands.specs.Upgrade.{version_two_line}
use Rattle.a429_cert.proofs.Options.{on_err}
use Rattle.a429_commands.proofs.UpgradeFacts.{of_any, front_after}
use Rattle.a429_commands.proofs.engines.upgrade.put_version_two.Goals as goal

pub returns-in_err-put-clause-err : goal.returns-in_err-put-clause-err
returns-in_err-put-clause-err g c =
    on_err c.from_residual.result (of_any _ _ (λ rest. AppendsPrefix-longer _ _ version_two_line rest c.in_err-put.ensures.err))

pub returns-clause-ok : goal.returns-clause-ok
returns-clause-ok g c =
    on_ok_weaker c.copy.result
    (λ (rest, are, put). (rest, are, Appends-trans _ _ _ version_two_line rest c.in_ok-put.ensures.ok put)) c.copy.ensures.ok

pub returns-clause-err : goal.returns-clause-err
returns-clause-err g c =
    on_err_weaker c.copy.result
    (λ (rest, are, front). (rest, are, front_after _ _ _ version_two_line rest c.in_ok-put.ensures.ok front)) c.copy.ensures.err

pub copy-requires-clause-room : goal.copy-requires-clause-room
copy-requires-clause-room g c = subst (λ (n : ℕ). 0 < n) (sym (length-replicate {A = ℕ} 262144 0)) (omega arith)
