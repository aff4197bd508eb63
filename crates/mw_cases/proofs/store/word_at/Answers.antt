use Rattle.std.proofs.Common.{◌≡◌, ◌≤◌, ◌+◌, ◌/◌, ◌-◌, ◌∙◌, ap, arith, inl, inr, length}
use Rattle.std.proofs.lemmas.Bool.{cases_lt}
use Rattle.mw_cases.specs.Board.{first_address}
use Rattle.mw_cases.specs.Operations.{instruction_of, operation_count}
use Rattle.mw_cases.proofs.Standing.{operating_is}
use Rattle.mw_cases.proofs.Values.{instruction_length}
use Rattle.mw_cases.proofs.store.word_at.Goals as goal

pub returns-then-address-lt-FIRST : goal.returns-then-address-lt-FIRST
returns-then-address-lt-FIRST c = c.fetch_word.ensures c.args.instructions.now.number

pub returns : goal.returns
returns c =
    let number = c.args.instructions.now.number in
    record {
      below = c.operation_word.ensures.below;
      addressing = λ is. absurd (omega arith);
      loading = λ is. absurd (omega arith);
      mapping = λ is. absurd (omega arith);
      operating = λ i j i_below j_below is.
          let at : (c.args.address - 16) / 4 ≡ i = omega arith in
          let place : c.from.result ≡ j = omega arith in
          operating_is number i j c.from.result c.operation_word.result c.operations-operations.result.now
          (c.operations-operations.ensures.exact ∙ ap (instruction_of number) at) place j_below
          c.operation_word.ensures.chooses;
      unused = λ from none.
          let i = (c.args.address - 16) / 4 in
          let j = c.from.result in
          let is : c.args.address ≡ first_address i + j = omega arith in
          let past : operation_count number i ≤ j =
          elim (cases_lt j (operation_count number i)) [
            | inl there ↦ absurd (none i j (omega arith) there is)
            | inr past ↦ past
          ] in
          let few : length (c.operations-operations.result.now) ≤ j =
          rw (c.operations-operations.ensures.exact, instruction_length number i) past in
          c.operation_word.ensures.unused few;
    }
