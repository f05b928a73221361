use Rattle.std.proofs.Common.{inl, sym}
use Rattle.std.proofs.lemmas.Result.{err_from_is_err_and}
use Rattle.mot_lines.specs.Fields.{words_of}
use Rattle.mot_suffixes.proofs.types.type_of_line.Goals as goal
use Rattle.mot_suffixes.proofs.Said.{said-all, said-content, said-mime, said-suffix, words-wrong}

pub returns-in_default-clause-why : goal.returns-in_default-clause-why
returns-in_default-clause-why c =
    inl (words-wrong (words_of c.args.line.now) c.in_default.ensures.none)

pub returns-in_err-suffix-clause-why : goal.returns-in_err-suffix-clause-why
returns-in_err-suffix-clause-why c =
    let p = err_from_is_err_and c.from_residual.result c.from_residual.ensures.1 in
    rw (p.1, p.2) (said-suffix (words_of c.args.line.now) c.in-Some.suffix.now
    c.in-Some.content_type.now c.in-Some.subtype.now c.in-Some.mime.now c.in-Some.ensures.words
    c.in_err-suffix.field-0.0 c.in_err-suffix.ensures.why)

pub returns-in_err-content-clause-why : goal.returns-in_err-content-clause-why
returns-in_err-content-clause-why c =
    let p = err_from_is_err_and c.from_residual-in_err-content.result
    c.from_residual-in_err-content.ensures.1 in
    rw (p.1, p.2) (inl (said-content (words_of c.args.line.now) c.in-Some.suffix.now
    c.in-Some.content_type.now c.in-Some.subtype.now c.in-Some.mime.now c.in-Some.ensures.words
    c.in_ok-suffix.suffix.items c.in_ok-suffix.ensures.taken
    c.in_err-content.field-0.0 (sym c.in_err-content.ensures)))

pub returns-in_err-mime-clause-why : goal.returns-in_err-mime-clause-why
returns-in_err-mime-clause-why c =
    let p = err_from_is_err_and c.from_residual-in_err-mime.result
    c.from_residual-in_err-mime.ensures.1 in
    rw (p.1, p.2) (said-mime (words_of c.args.line.now) c.in-Some.suffix.now
    c.in-Some.content_type.now c.in-Some.subtype.now c.in-Some.mime.now c.in-Some.ensures.words
    c.in_ok-suffix.suffix.items c.in_ok-suffix.ensures.taken c.in_ok-content.content
    (sym c.in_ok-content.ensures) c.in_err-mime.field-0.0 c.in_err-mime.ensures.why)

pub returns-clause-said : goal.returns-clause-said
returns-clause-said c = said-all (words_of c.args.line.now) c.in-Some.suffix.now
    c.in-Some.content_type.now c.in-Some.subtype.now c.in-Some.mime.now c.in-Some.ensures.words
    c.in_ok-suffix.suffix.items c.in_ok-suffix.ensures.taken c.in_ok-content.content
    (sym c.in_ok-content.ensures) c.in_ok-mime.mime c.in_ok-mime.ensures.taken
