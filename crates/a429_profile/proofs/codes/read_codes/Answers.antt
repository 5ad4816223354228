-- the fault of a section is the first one, after sections without any
use Rattle.std.proofs.Common.{rules, ◌∙◌, ◌++◌}
use Rattle.std.proofs.lemmas.Result.{err_from_is_err_and}
use Rattle.toml.specs.View.{table_view}
use Rattle.a429_profile.specs.Key.{transfer_keys, type_keys, code_keys, partial_keys}
use Rattle.a429_profile.proofs.ProfileFaults.{after_none, at_some}
use Rattle.a429_profile.proofs.codes.read_codes.Goals as goal

pub returns-in_err-transfer : goal.returns-in_err-transfer
returns-in_err-transfer c =
    let doc = table_view c.args.doc.now in
    let p = err_from_is_err_and c.from_residual.result c.from_residual.ensures.1 in
    let first = at_some doc transfer_keys type_keys _ c.in_err-transfer.ensures in
    rw (p.1, p.2)
    (λ _. at_some doc (transfer_keys ++ type_keys ++ code_keys) partial_keys _ (at_some doc (transfer_keys ++ type_keys) code_keys _ first))

pub returns-in_err-types : goal.returns-in_err-types
returns-in_err-types c =
    let doc = table_view c.args.doc.now in
    let p = err_from_is_err_and c.from_residual-in_err-types.result c.from_residual-in_err-types.ensures.1 in
    let none = after_none doc transfer_keys type_keys c.in_ok-transfer.ensures.0 in
    rw (p.1, p.2) (λ known. at_some doc (transfer_keys ++ type_keys ++ code_keys) partial_keys _
    (at_some doc (transfer_keys ++ type_keys) code_keys _ (none ∙ c.in_err-types.ensures known)))

pub returns-in_err-codes : goal.returns-in_err-codes
returns-in_err-codes c =
    let doc = table_view c.args.doc.now in
    let p = err_from_is_err_and c.from_residual-in_err-codes.result c.from_residual-in_err-codes.ensures.1 in
    let none =
    after_none doc (transfer_keys ++ type_keys) code_keys
    (after_none doc transfer_keys type_keys c.in_ok-transfer.ensures.0 ∙ c.in_ok-types.ensures.0) in
    rw (p.1, p.2) (λ known. at_some doc (transfer_keys ++ type_keys ++ code_keys) partial_keys _ (none ∙ c.in_err-codes.ensures known))

pub returns-in_err-partial_codes : goal.returns-in_err-partial_codes
returns-in_err-partial_codes c =
    let doc = table_view c.args.doc.now in
    let p = err_from_is_err_and c.from_residual-in_err-partial_codes.result c.from_residual-in_err-partial_codes.ensures.1 in
    let none =
    after_none doc (transfer_keys ++ type_keys) code_keys
    (after_none doc transfer_keys type_keys c.in_ok-transfer.ensures.0 ∙ c.in_ok-types.ensures.0) ∙ c.in_ok-codes.ensures.0 in
    rw (p.1, p.2) (λ _. after_none doc (transfer_keys ++ type_keys ++ code_keys) partial_keys none ∙ c.in_err-partial_codes.ensures)

pub returns : goal.returns
returns c = search rules
