use Rattle.std.proofs.Common.{◌∙◌, ap, sym, ℕ}
use Rattle.mw_cases.specs.declared.pdp8_micro.TheConstants.{MICRO}
use Rattle.mw_cases.specs.Faults.{with_changes, changes_of, each_stands_once}
use Rattle.mw_cases.proofs.Planted.{planted_1, planted_2, planted_3, planted_4, planted_5, planted_6}
use Rattle.mw_cases.proofs.Planted.{planted_7, planted_8, planted_9, planted_10, planted_11, planted_12}
use Rattle.mw_cases.proofs.Planted.{standing_1, standing_2, standing_3, standing_4, standing_5, standing_6}
use Rattle.mw_cases.proofs.Planted.{standing_7, standing_8, standing_9, standing_10, standing_11, standing_12}
use Rattle.mw_cases.proofs.pdp8_job.faulty_micro.Goals as goal

pub returns-in-1-clause-micro : goal.returns-in-1-clause-micro
returns-in-1-clause-micro c =
    planted_1 ∙ sym (ap (λ (n : ℕ). with_changes (changes_of n) MICRO.now) c.in-1.is)

pub returns-in-1-clause-standing : goal.returns-in-1-clause-standing
returns-in-1-clause-standing c =
    ap (λ (n : ℕ). each_stands_once (changes_of n) MICRO.now) c.in-1.is ∙ standing_1

pub returns-in-2-clause-micro : goal.returns-in-2-clause-micro
returns-in-2-clause-micro c =
    planted_2 ∙ sym (ap (λ (n : ℕ). with_changes (changes_of n) MICRO.now) c.in-2.is)

pub returns-in-2-clause-standing : goal.returns-in-2-clause-standing
returns-in-2-clause-standing c =
    ap (λ (n : ℕ). each_stands_once (changes_of n) MICRO.now) c.in-2.is ∙ standing_2

pub returns-in-3-clause-micro : goal.returns-in-3-clause-micro
returns-in-3-clause-micro c =
    planted_3 ∙ sym (ap (λ (n : ℕ). with_changes (changes_of n) MICRO.now) c.in-3.is)

pub returns-in-3-clause-standing : goal.returns-in-3-clause-standing
returns-in-3-clause-standing c =
    ap (λ (n : ℕ). each_stands_once (changes_of n) MICRO.now) c.in-3.is ∙ standing_3

pub returns-in-4-clause-micro : goal.returns-in-4-clause-micro
returns-in-4-clause-micro c =
    planted_4 ∙ sym (ap (λ (n : ℕ). with_changes (changes_of n) MICRO.now) c.in-4.is)

pub returns-in-4-clause-standing : goal.returns-in-4-clause-standing
returns-in-4-clause-standing c =
    ap (λ (n : ℕ). each_stands_once (changes_of n) MICRO.now) c.in-4.is ∙ standing_4

pub returns-in-5-clause-micro : goal.returns-in-5-clause-micro
returns-in-5-clause-micro c =
    planted_5 ∙ sym (ap (λ (n : ℕ). with_changes (changes_of n) MICRO.now) c.in-5.is)

pub returns-in-5-clause-standing : goal.returns-in-5-clause-standing
returns-in-5-clause-standing c =
    ap (λ (n : ℕ). each_stands_once (changes_of n) MICRO.now) c.in-5.is ∙ standing_5

pub returns-in-6-clause-micro : goal.returns-in-6-clause-micro
returns-in-6-clause-micro c =
    planted_6 ∙ sym (ap (λ (n : ℕ). with_changes (changes_of n) MICRO.now) c.in-6.is)

pub returns-in-6-clause-standing : goal.returns-in-6-clause-standing
returns-in-6-clause-standing c =
    ap (λ (n : ℕ). each_stands_once (changes_of n) MICRO.now) c.in-6.is ∙ standing_6

pub returns-in-7-clause-micro : goal.returns-in-7-clause-micro
returns-in-7-clause-micro c =
    planted_7 ∙ sym (ap (λ (n : ℕ). with_changes (changes_of n) MICRO.now) c.in-7.is)

pub returns-in-7-clause-standing : goal.returns-in-7-clause-standing
returns-in-7-clause-standing c =
    ap (λ (n : ℕ). each_stands_once (changes_of n) MICRO.now) c.in-7.is ∙ standing_7

pub returns-in-8-clause-micro : goal.returns-in-8-clause-micro
returns-in-8-clause-micro c =
    planted_8 ∙ sym (ap (λ (n : ℕ). with_changes (changes_of n) MICRO.now) c.in-8.is)

pub returns-in-8-clause-standing : goal.returns-in-8-clause-standing
returns-in-8-clause-standing c =
    ap (λ (n : ℕ). each_stands_once (changes_of n) MICRO.now) c.in-8.is ∙ standing_8

pub returns-in-9-clause-micro : goal.returns-in-9-clause-micro
returns-in-9-clause-micro c =
    planted_9 ∙ sym (ap (λ (n : ℕ). with_changes (changes_of n) MICRO.now) c.in-9.is)

pub returns-in-9-clause-standing : goal.returns-in-9-clause-standing
returns-in-9-clause-standing c =
    ap (λ (n : ℕ). each_stands_once (changes_of n) MICRO.now) c.in-9.is ∙ standing_9

pub returns-in-10-clause-micro : goal.returns-in-10-clause-micro
returns-in-10-clause-micro c =
    planted_10 ∙ sym (ap (λ (n : ℕ). with_changes (changes_of n) MICRO.now) c.in-10.is)

pub returns-in-10-clause-standing : goal.returns-in-10-clause-standing
returns-in-10-clause-standing c =
    ap (λ (n : ℕ). each_stands_once (changes_of n) MICRO.now) c.in-10.is ∙ standing_10

pub returns-in-11-clause-micro : goal.returns-in-11-clause-micro
returns-in-11-clause-micro c =
    planted_11 ∙ sym (ap (λ (n : ℕ). with_changes (changes_of n) MICRO.now) c.in-11.is)

pub returns-in-11-clause-standing : goal.returns-in-11-clause-standing
returns-in-11-clause-standing c =
    ap (λ (n : ℕ). each_stands_once (changes_of n) MICRO.now) c.in-11.is ∙ standing_11

pub returns-in-12-clause-micro : goal.returns-in-12-clause-micro
returns-in-12-clause-micro c =
    planted_12 ∙ sym (ap (λ (n : ℕ). with_changes (changes_of n) MICRO.now) c.in-12.is)

pub returns-in-12-clause-standing : goal.returns-in-12-clause-standing
returns-in-12-clause-standing c =
    ap (λ (n : ℕ). each_stands_once (changes_of n) MICRO.now) c.in-12.is ∙ standing_12
