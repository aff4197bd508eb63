-- The microprogram with each fault, and that the lines of the fault stand in the one without; both computed.
use Rattle.std.proofs.Common.{◌≡◌, refl}
use Rattle.std.specs.Prelude.{true}
use Rattle.mw_base.specs.Lines.{lines_of}
use Rattle.mw_cases.specs.declared.pdp8_micro.TheConstants.{MICRO}
use Rattle.mw_cases.specs.declared.pdp8_micro.TheConstants.{FAULT_1, FAULT_2, FAULT_3, FAULT_4, FAULT_5, FAULT_6}
use Rattle.mw_cases.specs.declared.pdp8_micro.TheConstants.{FAULT_7, FAULT_8, FAULT_9, FAULT_10, FAULT_11, FAULT_12}
use Rattle.mw_cases.specs.Faults.{with_changes, changes_of, each_stands_once}

pub planted_1 : FAULT_1.now ≡ with_changes (changes_of 1) MICRO.now
unfolding with_changes lines_of
planted_1 = refl

pub planted_2 : FAULT_2.now ≡ with_changes (changes_of 2) MICRO.now
unfolding with_changes lines_of
planted_2 = refl

pub planted_3 : FAULT_3.now ≡ with_changes (changes_of 3) MICRO.now
unfolding with_changes lines_of
planted_3 = refl

pub planted_4 : FAULT_4.now ≡ with_changes (changes_of 4) MICRO.now
unfolding with_changes lines_of
planted_4 = refl

pub planted_5 : FAULT_5.now ≡ with_changes (changes_of 5) MICRO.now
unfolding with_changes lines_of
planted_5 = refl

pub planted_6 : FAULT_6.now ≡ with_changes (changes_of 6) MICRO.now
unfolding with_changes lines_of
planted_6 = refl

pub planted_7 : FAULT_7.now ≡ with_changes (changes_of 7) MICRO.now
unfolding with_changes lines_of
planted_7 = refl

pub planted_8 : FAULT_8.now ≡ with_changes (changes_of 8) MICRO.now
unfolding with_changes lines_of
planted_8 = refl

pub planted_9 : FAULT_9.now ≡ with_changes (changes_of 9) MICRO.now
unfolding with_changes lines_of
planted_9 = refl

pub planted_10 : FAULT_10.now ≡ with_changes (changes_of 10) MICRO.now
unfolding with_changes lines_of
planted_10 = refl

pub planted_11 : FAULT_11.now ≡ with_changes (changes_of 11) MICRO.now
unfolding with_changes lines_of
planted_11 = refl

pub planted_12 : FAULT_12.now ≡ with_changes (changes_of 12) MICRO.now
unfolding with_changes lines_of
planted_12 = refl

pub standing_1 : each_stands_once (changes_of 1) MICRO.now ≡ true
unfolding each_stands_once lines_of
standing_1 = refl

pub standing_2 : each_stands_once (changes_of 2) MICRO.now ≡ true
unfolding each_stands_once lines_of
standing_2 = refl

pub standing_3 : each_stands_once (changes_of 3) MICRO.now ≡ true
unfolding each_stands_once lines_of
standing_3 = refl

pub standing_4 : each_stands_once (changes_of 4) MICRO.now ≡ true
unfolding each_stands_once lines_of
standing_4 = refl

pub standing_5 : each_stands_once (changes_of 5) MICRO.now ≡ true
unfolding each_stands_once lines_of
standing_5 = refl

pub standing_6 : each_stands_once (changes_of 6) MICRO.now ≡ true
unfolding each_stands_once lines_of
standing_6 = refl

pub standing_7 : each_stands_once (changes_of 7) MICRO.now ≡ true
unfolding each_stands_once lines_of
standing_7 = refl

pub standing_8 : each_stands_once (changes_of 8) MICRO.now ≡ true
unfolding each_stands_once lines_of
standing_8 = refl

pub standing_9 : each_stands_once (changes_of 9) MICRO.now ≡ true
unfolding each_stands_once lines_of
standing_9 = refl

pub standing_10 : each_stands_once (changes_of 10) MICRO.now ≡ true
unfolding each_stands_once lines_of
standing_10 = refl

pub standing_11 : each_stands_once (changes_of 11) MICRO.now ≡ true
unfolding each_stands_once lines_of
standing_11 = refl

pub standing_12 : each_stands_once (changes_of 12) MICRO.now ≡ true
unfolding each_stands_once lines_of
standing_12 = refl
