-- Twelve faults of a PDP-8: mistakes that microprogrammers make, each planted in the microprogram by what stands in the
-- place of a line, or of two.
use Rattle.std.specs.Prelude.{ℕ, List, [], ◌∷◌, ◌++◌, map, length, codes, bytes_eq, Bool, if◌then◌else◌, ◌==◌}
use Rattle.std.specs.List.{concat, filter, list_all}
use Rattle.mw_base.specs.Lines.{lines_of}

-- a line of a text, and what stands in its place
pub record Change : Type 0 where
  pub line : List ℕ
  pub instead : List ℕ

-- ---- the faults

-- 1: TAD leaves L
abbrev pub tad_leaves_l : List Change
tad_leaves_l =
    record {
      line = codes "TAD_D: MEMORY, DA, a=AC, ADD, RAMF, b=AC, L_CARRY, GO, br=END";
      instead = codes "TAD_D: MEMORY, DA, a=AC, ADD, RAMF, b=AC, GO, br=END";
    }
    ∷ []

-- 2: DCA leaves AC
abbrev pub dca_leaves_ac : List Change
dca_leaves_ac =
    record {
      line = codes "DCA_D: DA, a=AC, AND, RAMA, b=AC, TO_MEMORY, GO, br=END";
      instead = codes "DCA_D: DA, a=AC, OR, RAMA, b=AC, TO_MEMORY, GO, br=END";
    }
    ∷ []

-- 3: ISZ never skips
abbrev pub isz_never_skips : List Change
isz_never_skips =
    record {
      line = codes "ISZ_D: MEMORY, DZ, ADD, PLUS_1, TO_MEMORY, SKIP_ZERO, GO, br=END";
      instead = codes "ISZ_D: MEMORY, DZ, ADD, PLUS_1, TO_MEMORY, GO, br=END";
    }
    ∷ []

-- 4: JMP leaves PC at the next word
abbrev pub jmp_goes_on : List Change
jmp_goes_on =
    record { line = codes "JMP_D: MAR, DZ, OR, RAMF, b=PC, HOME"; instead = codes "JMP_D: GO, br=END" } ∷ []

-- 5: JMS sets PC to the effective address
abbrev pub jms_enters_at_its_word : List Change
jms_enters_at_its_word =
    record {
      line = codes "MAR, DZ, ADD, PLUS_1, RAMF, b=PC, TO_MAR, HOME";
      instead = codes "MAR, DZ, ADD, RAMF, b=PC, TO_MAR, HOME";
    }
    ∷ []

-- 6: the test of SZA never holds
abbrev pub sza_never_holds : List Change
sza_never_holds =
    record {
      line = codes "FROM_Z, BOTH, PLUS_IR5, RAMF, b=OTHER                   ; SZA: where AC is 0";
      instead = codes "FROM_Z, BOTH, RAMF, b=OTHER                             ; SZA: where AC is 0";
    }
    ∷ []

-- 7: HLT leaves HALT
abbrev pub hlt_leaves_halt : List Change
hlt_leaves_halt =
    record {
      line = codes "ONES, PLUS_IR7, RAMF, b=TEMP, HALT_BIT                  ; HLT";
      instead = codes "ONES, PLUS_IR7, RAMF, b=TEMP                            ; HLT";
    }
    ∷ []

-- 8: an IOT puts out AC before the nine bits
abbrev pub iot_puts_ac_first : List Change
iot_puts_ac_first =
    record { line = codes "NINE, DZ, OR, PUT"; instead = codes "ZA, a=AC, OR, PUT" }
    ∷ record { line = codes "ZA, a=AC, OR, PUT"; instead = codes "NINE, DZ, OR, PUT" }
    ∷ []

-- 9: OSR takes no word
abbrev pub osr_takes_nothing : List Change
osr_takes_nothing =
    record {
      line = codes "OSR: INPUT, DA, a=AC, OR, RAMF, b=AC, GO, br=END        ; AC := AC or the switches";
      instead = codes "OSR: DA, a=AC, OR, RAMF, b=AC, GO, br=END               ; AC := AC or the switches";
    }
    ∷ []

-- 10: the interrupt leaves ION
abbrev pub interrupt_leaves_ion : List Change
interrupt_leaves_ion =
    record {
      line = codes "INT: DZ, AND, TO_MAR, ION_OFF                           ; mar := 0000";
      instead = codes "INT: DZ, AND, TO_MAR                                    ; mar := 0000";
    }
    ∷ []

-- 11: the interrupt stores PC plus 1
abbrev pub interrupt_stores_the_next : List Change
interrupt_stores_the_next =
    record { line = codes "ZA, a=PC, ADD, TO_MEMORY"; instead = codes "ZA, a=PC, ADD, PLUS_1, TO_MEMORY" } ∷ []

-- 12: the last word of DCA jumps to itself
abbrev pub dca_stays : List Change
dca_stays =
    record {
      line = codes "DCA_D: DA, a=AC, AND, RAMA, b=AC, TO_MEMORY, GO, br=END";
      instead = codes "DCA_D: DA, a=AC, AND, RAMA, b=AC, TO_MEMORY, GO, br=DCA_D";
    }
    ∷ []

-- the changes of a fault by its number; other numbers have none
abbrev pub changes_of : ℕ → List Change
changes_of number =
    if number == 1 then tad_leaves_l
    else (if number == 2 then dca_leaves_ac
    else (if number == 3 then isz_never_skips
    else (if number == 4 then jmp_goes_on
    else (if number == 5 then jms_enters_at_its_word
    else (if number == 6 then sza_never_holds
    else (if number == 7 then hlt_leaves_halt
    else (if number == 8 then iot_puts_ac_first
    else (if number == 9 then osr_takes_nothing
    else (if number == 10 then interrupt_leaves_ion
    else (if number == 11 then interrupt_stores_the_next
    else (if number == 12 then dca_stays
    else [])))))))))))

-- ---- a text with changes

-- a line with the line feed that ends it in a text
abbrev pub ended : List ℕ → List ℕ
ended line = line ++ 10 ∷ []

-- what stands in the place of a line of a text: what the first change of this line says, else the line itself
abbrev pub line_instead : List Change → List ℕ → List ℕ
line_instead [] line = line
line_instead (change ∷ rest) line =
    if bytes_eq line (ended change.line) then ended change.instead else line_instead rest line

-- a text with changes: each of its lines stays, or another stands in its place
unfoldable pub with_changes : List Change → List ℕ → List ℕ
with_changes changes text = concat (map (line_instead changes) (lines_of text))

-- how often a line stands in a text
abbrev pub times_in : List ℕ → List ℕ → ℕ
times_in text line = length (filter (bytes_eq (ended line)) (lines_of text))

-- each line that is changed stands in the text once
unfoldable pub each_stands_once : List Change → List ℕ → Bool
each_stands_once changes text = list_all (λ (change : Change). times_in text change.line == 1) changes
