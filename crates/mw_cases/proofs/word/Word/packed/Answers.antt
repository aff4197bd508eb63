use Rattle.std.proofs.Common.{arith}
use Rattle.mw_cases.proofs.Packed.{packed_chooses}
use Rattle.mw_cases.proofs.word.Word.packed.Goals as goal

pub returns : goal.returns
returns c =
    packed_chooses c.args.self c.requires _ c.source_code.result c.function_code.result c.destination_code.result
    c.sequencer_code.result c.source_code.ensures.below c.function_code.ensures.below c.destination_code.ensures.below
    c.sequencer_code.ensures.below (omega arith) c.source_code.ensures.exact c.function_code.ensures.exact
    c.destination_code.ensures.exact c.sequencer_code.ensures.exact
