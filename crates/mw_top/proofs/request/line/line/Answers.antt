use Rattle.std.proofs.Common.{◌∙◌, ap₂}
use Rattle.clap.specs.Words.{with_rule}
use Rattle.mw_top.specs.Line.{line}
use Rattle.mw_top.proofs.request.line.line.Goals as goal

pub returns : goal.returns
unfolding line
returns c =
    let command =
    c.in_ok-line.ensures.shape c.command.ensures.local ∙ ap₂ with_rule c.bare.ensures c.command.ensures.rule in
    let operands =
    c.in_ok-line-2.ensures.shape c.operands.ensures.local ∙ ap₂ with_rule command c.operands.ensures.rule in
    let nodes = c.in_ok-line-3.ensures.shape c.option.ensures.local ∙ ap₂ with_rule operands c.option.ensures.rule in
    let paths = c.in_ok-line-4.ensures.shape c.option-2.ensures.local ∙ ap₂ with_rule nodes c.option-2.ensures.rule in
    let steps = c.in_ok-line-5.ensures.shape c.option-3.ensures.local ∙ ap₂ with_rule paths c.option-3.ensures.rule in
    let cycles = c.in_ok-line-6.ensures.shape c.option-4.ensures.local ∙ ap₂ with_rule steps c.option-4.ensures.rule in
    c.in_ok-arg.ensures.shape c.flag.ensures.local ∙ ap₂ with_rule cycles c.flag.ensures.rule
