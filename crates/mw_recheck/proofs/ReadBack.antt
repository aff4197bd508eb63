-- The text of a log is read back.
use Rattle.std.proofs.Common.{◌≡◌, ℕ, ◌+◌, ◌≤◌, List, [], ◌∷◌, ◌++◌, codes, take, length, true, false}
use Rattle.std.proofs.Common.{Ok, lit≤, append_assoc, append-nil, length-append, refl, sym, ap, ◌∙◌, subst, arith}
use Rattle.std.specs.Prelude.{nat_lt}
use Rattle.std.specs.List.{All, flat_map, list_all}
use Rattle.std.proofs.lemmas.Bool.{and_parts}
use Rattle.std.proofs.lemmas.Bool.Decides.{nat_tests}
use Rattle.std.proofs.lemmas.List.{take_all}
use Rattle.std.proofs.lemmas.List.Elements.{All-tail}
use Rattle.mw_recheck.specs.declared.line.LogLine.{LogLine}
use Rattle.mw_recheck.specs.declared.line.LogLine.TheVariants as says
use Rattle.mw_recheck.specs.LogPrinted.{line_text, boundary_text, log_text, is_narrow, are_narrow}
use Rattle.mw_recheck.specs.LogText.{Reading, at_first, all_lines, read_on, finished, log_of}
use Rattle.mw_recheck.specs.Rules.{KeepRules, keeps, keep_behind}
use Rattle.mw_replay.proofs.Lines.{Goes, end_goes, is_plain, line_goes}
use Rattle.mw_recheck.proofs.LinesBack.{boundary_gives, bytes_of, line_gives, reading}
use Rattle.mw_recheck.proofs.PrintedTokens.{line_plain, line_short}

-- ---- the bytes of a line

-- a line with its feed
abbrev ended : List ℕ → List ℕ
ended bytes = bytes ++ 10 ∷ []

printed : (line : LogLine) → line_text line ≡ ended (bytes_of line)
unfolding line_text
printed (says.Node word bit high low) = refl
printed (says.Fact f g h r) = refl

plain : (line : LogLine) → list_all is_plain (bytes_of line) ≡ true
plain (says.Node word bit high low) = line_plain (codes "n") (word ∷ bit ∷ high ∷ low ∷ []) refl
plain (says.Fact f g h r) = line_plain (codes "i") (f ∷ g ∷ h ∷ r ∷ []) refl

short : (line : LogLine) → is_narrow line ≡ true → length (bytes_of line) ≤ 4096
short (says.Node word bit high low) few =
    line_short (codes "n") (word ∷ bit ∷ high ∷ low ∷ []) (lit≤ tt) (lit≤ tt) few
short (says.Fact f g h r) few = line_short (codes "i") (f ∷ g ∷ h ∷ r ∷ []) (lit≤ tt) (lit≤ tt) few

-- ---- boundaries

lines_go : (P : Reading → Type 0) (n : ℕ) (text rest : List ℕ) (before : List (List LogLine))
    (done lines : List LogLine) → keep_behind done lines ≡ true → are_narrow lines ≡ true
    → Goes P (read_on n text) text rest (reading before (done ++ lines))
    → Goes P (read_on n text) text (flat_map line_text lines ++ rest) (reading before done)
unfolding keep_behind
lines_go P n text rest before done [] kept few next =
    subst (λ (lines : List LogLine). Goes P (read_on n text) text rest (reading before lines)) (append-nil done) next
lines_go P n text rest before done (line ∷ lines) kept few next =
    let step = read_on n text in
    let rules = and_parts (keeps done line) (keep_behind (done ++ line ∷ []) lines) kept in
    let narrow = and_parts (is_narrow line) (are_narrow lines) few in
    let others = flat_map line_text lines in
    let whole : ended (bytes_of line) ++ (others ++ rest) ≡ (line_text line ++ others) ++ rest =
    ap (λ (first : List ℕ). first ++ (others ++ rest)) (sym (printed line))
    ∙ sym (append_assoc (line_text line) others rest) in
    let later = lines_go P n text rest before (done ++ line ∷ []) lines rules.1 narrow.1
    (subst (λ (lines : List LogLine). Goes P step text rest (reading before lines))
    (sym (append_assoc done (line ∷ []) lines)) next) in
    subst (λ (bytes : List ℕ). Goes P step text bytes (reading before done)) whole
    (line_goes P step text (bytes_of line) (others ++ rest) (reading before done)
    (reading before (done ++ line ∷ [])) (plain line) (short line narrow.0)
    (λ number start at.
    line_gives n text (10 ∷ others ++ rest) before done line number start rules.0 narrow.0 at) later)

-- what was read in the end
abbrev HasRead : List (List LogLine) → Reading → Type 0
HasRead log read = all_lines read ≡ log

boundaries_go : (n : ℕ) (text : List ℕ) (whole : List (List LogLine)) (before : Reading) (log : List (List LogLine))
    → length (all_lines before) + length log ≤ n → All KeepRules log → list_all are_narrow log ≡ true
    → all_lines before ++ log ≡ whole
    → Goes (HasRead whole) (read_on n text) text (flat_map boundary_text log) before
unfolding boundary_text
boundaries_go n text whole before [] few rules narrow so =
    end_goes (HasRead whole) (read_on n text) text before (sym (append-nil (all_lines before)) ∙ so)
boundaries_go n text whole before (lines ∷ log) few rules narrow so =
    let step = read_on n text in
    let all = all_lines before in
    let parts = and_parts (are_narrow lines) (list_all are_narrow log) narrow in
    let others = flat_map boundary_text log in
    let own = flat_map line_text lines in
    let joined : ended (codes "boundary") ++ (own ++ others) ≡ (codes "boundary\n" ++ own) ++ others =
    sym (append_assoc (codes "boundary\n") own others) in
    let fewer : length (all ++ lines ∷ []) + length log ≤ n = omega (arith, few, length-append all (lines ∷ [])) in
    let later = boundaries_go n text whole (reading all lines) log fewer (All-tail KeepRules lines log rules) parts.1
    (append_assoc all (lines ∷ []) log ∙ so) in
    subst (λ (bytes : List ℕ). Goes (HasRead whole) step text bytes before) joined
    (line_goes (HasRead whole) step text (codes "boundary") (own ++ others) before (reading all []) refl (lit≤ tt)
    (λ number start at.
    boundary_gives n text (10 ∷ own ++ others) before number start (omega (arith, few)) at)
    (lines_go (HasRead whole) n text others all [] lines (rules 0 lines (omega arith)) parts.0 later))

-- ---- the log

pub log_back : (log : List (List LogLine)) → All KeepRules log → list_all are_narrow log ≡ true
    → log_of (length log) (log_text log) ≡ Ok log
unfolding log_of finished log_text
log_back log rules narrow =
    let n = length log in
    let read = boundaries_go n (log_text log) log at_first log (omega arith) rules narrow refl 1 0 refl in
    let enough : nat_lt n n ≡ false = grind (arith, nat_tests) in
    rw (read.are, read.give, read.so, enough) refl

-- the text of all its boundaries, once all are printed
pub text_back : (log : List (List LogLine)) (n : ℕ) (text : List ℕ) → All KeepRules log → length log ≤ n
    → text ≡ flat_map boundary_text (take n log) → list_all are_narrow (take n log) ≡ true
    → log_of (length log) text ≡ Ok log
unfolding log_text
text_back log n text rules past is narrow =
    let all : take n log ≡ log = take_all n log past in
    ap (log_of (length log)) (is ∙ ap (flat_map boundary_text) all)
    ∙ log_back log rules (sym (ap (list_all are_narrow) all) ∙ narrow)
