use Rattle.std.proofs.Common.{sym, inl}
use Rattle.std.proofs.lemmas.Result.{err_from_is_err_and}
use Rattle.mot_lines.specs.Fields.{words_after}
use Rattle.mot_lines.proofs.Asked.{describe_name, describe_content, describe_mime, describe_body}
use Rattle.mot_lines.proofs.Asked.{describe_all}
use Rattle.mot_lines.proofs.Words.{description_of-others}
use Rattle.mot_lines.proofs.line.description.parse_description.Goals as goal

pub returns-in_default : goal.returns-in_default
returns-in_default c = inl
    (sym (description_of-others (words_after c.args.words) c.in_default.ensures))

pub returns-in_err-name : goal.returns-in_err-name
returns-in_err-name c =
    let p = err_from_is_err_and c.from_residual.result c.from_residual.ensures.1 in
    rw (p.1, p.2) (describe_name (words_after c.args.words) c.in-Some.name.now c.in-Some.kind.now
    c.in-Some.subtype.now c.in-Some.mime.now c.in-Some.hex.now c.in-Some.ensures
    c.in_err-name.field-0.0 c.in_err-name.ensures)

pub returns-in_err-content : goal.returns-in_err-content
returns-in_err-content c =
    let p = err_from_is_err_and c.from_residual-in_err-content.result
    c.from_residual-in_err-content.ensures.1 in
    rw (p.1, p.2) (describe_content (words_after c.args.words) c.in-Some.name.now c.in-Some.kind.now
    c.in-Some.subtype.now c.in-Some.mime.now c.in-Some.hex.now c.in-Some.ensures
    c.in_ok-name.name c.in_ok-name.ensures c.in_err-content.field-0.0 c.in_err-content.ensures)

pub returns-in_err-mime : goal.returns-in_err-mime
returns-in_err-mime c =
    let p = err_from_is_err_and c.from_residual-in_err-mime.result
    c.from_residual-in_err-mime.ensures.1 in
    rw (p.1, p.2) (describe_mime (words_after c.args.words) c.in-Some.name.now c.in-Some.kind.now
    c.in-Some.subtype.now c.in-Some.mime.now c.in-Some.hex.now c.in-Some.ensures
    c.in_ok-name.name c.in_ok-name.ensures c.in_ok-content.content c.in_ok-content.ensures
    c.in_err-mime.field-0.0 c.in_err-mime.ensures)

pub returns-in_err-body : goal.returns-in_err-body
returns-in_err-body c =
    let p = err_from_is_err_and c.from_residual-in_err-body.result
    c.from_residual-in_err-body.ensures.1 in
    rw (p.1, p.2) (describe_body (words_after c.args.words) c.in-Some.name.now c.in-Some.kind.now
    c.in-Some.subtype.now c.in-Some.mime.now c.in-Some.hex.now c.in-Some.ensures
    c.in_ok-name.name c.in_ok-name.ensures c.in_ok-content.content c.in_ok-content.ensures
    c.in_ok-mime.mime c.in_ok-mime.ensures c.in_err-body.field-0.0 c.in_err-body.ensures)

pub returns : goal.returns
returns c = describe_all (words_after c.args.words) c.in-Some.name.now c.in-Some.kind.now
    c.in-Some.subtype.now c.in-Some.mime.now c.in-Some.hex.now c.in-Some.ensures
    c.in_ok-name.name c.in_ok-name.ensures c.in_ok-content.content c.in_ok-content.ensures
    c.in_ok-mime.mime c.in_ok-mime.ensures c.in_ok-body.body c.in_ok-body.ensures
