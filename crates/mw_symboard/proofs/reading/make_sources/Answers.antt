use Rattle.std.proofs.Common.{◌≡◌, ℕ, subst, ◌∙◌, List}
use Rattle.mw_symmem.specs.Memory.{IsOfWidth}
use Rattle.mw_symboard.proofs.Growing.{grew_then, wide_later}
use Rattle.mw_symboard.proofs.Read.{no_late_bits, operands_are}
use Rattle.mw_symboard.proofs.Standing.{early_bits_stay}
use Rattle.mw_term.specs.WordList.{list_of}
use Rattle.mw_term.specs.declared.word.Word.{Word}
use Rattle.mw_term.specs.Table.{Table}
use Rattle.mw_symboard.proofs.Listing.{none_made, sources_are}
use Rattle.mw_symboard.proofs.reading.make_sources.Goals as goal

pub returns-clause-are : goal.returns-clause-are
returns-clause-are c =
    let b = c.args.board.now in
    let t0 = c.args.terms.now in
    let t1 = c.early.new.terms in
    let t3 = c.addends.new.terms in
    let t4 = c.f.new.terms in
    let w0 = c.args.words.now in
    let w1 = c.early.new.words in
    let v = c.args.variables in
    let carry = c.in_ok-carry.ensures in
    let o = c.in_ok-r.ensures in
    let a = c.in_ok-first.ensures in
    let f = c.in_ok-f.ensures in
    let w : c.bits-width.result ≡ b.width = cc in
    rw (← c.place.view_is)
    (operands_are b c.args.microword.now t1 c.operands.new.terms t3 t4 w1 c.operands.new.words c.addends.new.words
    c.f.new.words c.place.inside.parts c.place.inside.sp c.args.d c.in_ok-r.r c.in_ok-r.s _ o.grew a.grew f.grew
    (wide_later t0 t1 w0 w1 1 v.line carry.grew c.requires.line)
    (wide_later t0 t1 w0 w1 14 v.noise carry.grew c.requires.noise)
    carry.is carry.wide o.r o.s o.r_wide o.s_wide a.first a.second
    (subst (λ (n : ℕ). IsOfWidth t3 n c.in_ok-first.first) w a.first_wide)
    (subst (λ (n : ℕ). IsOfWidth t3 n c.in_ok-first.second) w a.second_wide)
    f.is (subst (λ (n : ℕ). IsOfWidth t4 n c.in_ok-f.f) w f.wide) c.of-function.ensures)

pub returns-clause-right : goal.returns-clause-right
returns-clause-right c =
    let b = c.args.board.now in
    let t1 = c.early.new.terms in
    let t4 = c.f.new.terms in
    let p = c.place.inside.parts in
    let sp = c.place.inside.sp in
    let both = grew_then t1 c.operands.new.terms c.addends.new.terms c.early.new.words c.operands.new.words
    c.addends.new.words c.in_ok-r.ensures.grew c.in_ok-first.ensures.grew in
    let all = grew_then t1 c.addends.new.terms t4 c.early.new.words c.addends.new.words c.f.new.words both
    c.in_ok-f.ensures.grew in
    rw (← c.place.view_is) (record {
      early = early_bits_stay b t1 t4 p sp c.args.variables.line c.early.new.self.early all.1.extends all.1.keeps
          c.in_ok-carry.ensures.right;
      late = no_late_bits b t4 p sp _ c.early.new.self.late (c.in_ok-carry.ensures.late ∙ c.requires.late);
    })

pub returns-clause-grew : goal.returns-clause-grew
returns-clause-grew c =
    let t0 = c.args.terms.now in
    let w0 = c.args.words.now in
    let one = grew_then t0 c.early.new.terms c.operands.new.terms w0 c.early.new.words c.operands.new.words
    c.in_ok-carry.ensures.grew c.in_ok-r.ensures.grew in
    let two = grew_then t0 c.operands.new.terms c.addends.new.terms w0 c.operands.new.words c.addends.new.words one
    c.in_ok-first.ensures.grew in
    grew_then t0 c.addends.new.terms c.f.new.terms w0 c.addends.new.words c.f.new.words two c.in_ok-f.ensures.grew

pub returns-clause-listed : goal.returns-clause-listed
returns-clause-listed c = λ reads.
    (let list = λ (t : Table) (words : List Word). list_of t.ops words reads in
    rw (← c.place.view_is)
    (sources_are c.args.board.now c.args.microword.now c.place.inside.parts c.place.inside.sp c.args.variables.line
    c.args.variables.noise c.args.d c.of-function.result
    (list c.args.terms.now c.args.words.now) (list c.early.new.terms c.early.new.words)
    (list c.operands.new.terms c.operands.new.words) (list c.addends.new.terms c.addends.new.words)
    (list c.f.new.terms c.f.new.words) c.in_ok-carry.carry c.in_ok-r.r c.in_ok-r.s c.in_ok-first.first
    c.in_ok-first.second c.in_ok-f.f c.args.bits.now c.early.new.self c.of-function.ensures
    (none_made c.args.bits.now c.requires.early c.requires.late) (c.in_ok-carry.ensures.listed reads)
    (c.in_ok-r.ensures.listed reads) (c.in_ok-first.ensures.listed reads) (c.in_ok-f.ensures.listed reads)))
