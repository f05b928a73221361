use Rattle.std.proofs.Common.{sym, ◌∙◌, inl}
use Rattle.std.proofs.lemmas.Result.{err_from_is_err_and}
use Rattle.mot_lines.proofs.Asked.{mime_none, mime_some, mime_refused}
use Rattle.mot_lines.proofs.line.fields.parse_mime.Goals as goal

pub returns-then-is_word : goal.returns-then-is_word
returns-then-is_word c =
    inl (sym (mime_none c.args.word.now (sym c.is_word.ensures ∙ c.if-is_word.true)))

pub returns-in_err-mime : goal.returns-in_err-mime
returns-in_err-mime c =
    let p = err_from_is_err_and c.from_residual-in_err-mime.result
    c.from_residual-in_err-mime.ensures.1 in
    rw (p.1, p.2, ← c.in_ok-bytes.ensures.items) (inl (mime_refused c.in_ok-bytes.bytes.items
    (rw c.in_ok-bytes.ensures.items (sym c.is_word.ensures ∙ c.if-is_word.false)) c.new.result
    c.new.ensures.valid c.in_err-mime.field-0.0 c.in_err-mime.was c.in_err-mime.ensures.refused))

pub returns : goal.returns
returns c = rw (← c.in_ok-bytes.ensures.items) (inl (mime_some c.in_ok-bytes.bytes.items
    (rw c.in_ok-bytes.ensures.items (sym c.is_word.ensures ∙ c.if-is_word.false)) c.new.result
    c.new.ensures.valid c.in_ok-mime.mime c.in_ok-mime.was c.in_ok-mime.ensures.value))
