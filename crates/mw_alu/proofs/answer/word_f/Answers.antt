use Rattle.std.proofs.lemmas.Nat.{or_lt, xor_lt}
use Rattle.mw_alu.proofs.answer.word_f.Goals as goal

pub complemented-requires-in-Exnor : goal.complemented-requires-in-Exnor
complemented-requires-in-Exnor c = xor_lt _ _ _ c.requires.r_in c.requires.s_in

pub returns-in-Or-clause-below : goal.returns-in-Or-clause-below
returns-in-Or-clause-below c = or_lt _ _ _ c.requires.r_in c.requires.s_in

pub returns-in-Exor-clause-below : goal.returns-in-Exor-clause-below
returns-in-Exor-clause-below c = xor_lt _ _ _ c.requires.r_in c.requires.s_in
