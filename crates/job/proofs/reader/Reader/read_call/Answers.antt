use Rattle.std.proofs.Common.{◌∷◌, ap, ◌∙◌, rules}
use Rattle.text.specs.Texts.{words_of}
use Rattle.job.proofs.Refusing.{no_call, no_keyword, refused_by, refused_in, some_mapped}
use Rattle.job.proofs.reader.Reader.read_call.Goals as goal

pub returns-in_err-keyword-clause-none : goal.returns-in_err-keyword-clause-none
returns-in_err-keyword-clause-none c = refused_by _ c.from_residual.result c.from_residual.ensures.1 (λ _ _ _. no_keyword _ c.args.line.now _ c.in-Some.name.now _ c.in-Some.ensures c.in_err-keyword.ensures.1)

pub returns-clause-says : goal.returns-clause-says
returns-clause-says c =
    let words = c.in-Some.ensures ∙ ap (λ w. w ∷ words_of c.in-Some.rest.now) c.in_ok-keyword.ensures in
    rw words (some_mapped _ c.read_keyword.result c.map.result (search rules) c.read_keyword.ensures.says)

pub returns-clause-none : goal.returns-clause-none
returns-clause-none c = refused_in _ _ c.read_keyword.result c.map.result (search rules) (λ e none fault. no_call _ c.args.line.now _ c.in-Some.name.now _ c.in-Some.ensures c.in_ok-keyword.keyword c.in_ok-keyword.ensures (none fault)) c.read_keyword.ensures.none
