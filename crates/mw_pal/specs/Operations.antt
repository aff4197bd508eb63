-- The words that are instructions by themselves, or parts of one.
use Rattle.std.specs.Prelude.{ℕ, List, [], ◌∷◌, codes, Bool, true, false, Option}
use Rattle.std.specs.List.{find}
use Rattle.std.specs.Str.{bytes_eq}
use Rattle.mw_pal.specs.declared.operation.Kind.{Kind}
use Rattle.mw_pal.specs.declared.operation.Kind.TheVariants.{Clear, First, Rotate, Second, AnyTest, AllTest, Third}
use Rattle.mw_pal.specs.declared.operation.Kind.TheVariants.{Alone}
use Rattle.mw_pal.specs.declared.operation.Operation.{Operation}
use Rattle.mw_pal.specs.declared.operation.Operation.TheVariants.{Cla, Nop, Cll, Cma, Cml, Iac, Rar, Ral, Rtr, Rtl, Bsw}
use Rattle.mw_pal.specs.declared.operation.Operation.TheVariants.{Osr, Hlt, Sma, Sza, Snl, Spa, Sna, Szl, Skp, Mqa, Mql}
use Rattle.mw_pal.specs.declared.operation.Operation.TheVariants.{Ion, Iof, Ksf, Kcc, Krs, Krb, Tsf, Tcf, Tpc, Tls}

-- how a word is spelled
abbrev pub spelling : Operation → List ℕ
spelling Cla = codes "cla"
spelling Nop = codes "nop"
spelling Cll = codes "cll"
spelling Cma = codes "cma"
spelling Cml = codes "cml"
spelling Iac = codes "iac"
spelling Rar = codes "rar"
spelling Ral = codes "ral"
spelling Rtr = codes "rtr"
spelling Rtl = codes "rtl"
spelling Bsw = codes "bsw"
spelling Osr = codes "osr"
spelling Hlt = codes "hlt"
spelling Sma = codes "sma"
spelling Sza = codes "sza"
spelling Snl = codes "snl"
spelling Spa = codes "spa"
spelling Sna = codes "sna"
spelling Szl = codes "szl"
spelling Skp = codes "skp"
spelling Mqa = codes "mqa"
spelling Mql = codes "mql"
spelling Ion = codes "ion"
spelling Iof = codes "iof"
spelling Ksf = codes "ksf"
spelling Kcc = codes "kcc"
spelling Krs = codes "krs"
spelling Krb = codes "krb"
spelling Tsf = codes "tsf"
spelling Tcf = codes "tcf"
spelling Tpc = codes "tpc"
spelling Tls = codes "tls"

-- the code of a statement of it alone, in octal
abbrev pub code_of : Operation → ℕ
code_of Cla = 0o7200
code_of Nop = 0o7000
code_of Cll = 0o7100
code_of Cma = 0o7040
code_of Cml = 0o7020
code_of Iac = 0o7001
code_of Rar = 0o7010
code_of Ral = 0o7004
code_of Rtr = 0o7012
code_of Rtl = 0o7006
code_of Bsw = 0o7002
code_of Osr = 0o7404
code_of Hlt = 0o7402
code_of Sma = 0o7500
code_of Sza = 0o7440
code_of Snl = 0o7420
code_of Spa = 0o7510
code_of Sna = 0o7450
code_of Szl = 0o7430
code_of Skp = 0o7410
code_of Mqa = 0o7501
code_of Mql = 0o7421
code_of Ion = 0o6001
code_of Iof = 0o6002
code_of Ksf = 0o6031
code_of Kcc = 0o6032
code_of Krs = 0o6034
code_of Krb = 0o6036
code_of Tsf = 0o6041
code_of Tcf = 0o6042
code_of Tpc = 0o6044
code_of Tls = 0o6046

-- which words stand with it
abbrev pub kind_of : Operation → Kind
kind_of Cla = Clear
kind_of Nop = First
kind_of Cll = First
kind_of Cma = First
kind_of Cml = First
kind_of Iac = First
kind_of Rar = Rotate
kind_of Ral = Rotate
kind_of Rtr = Rotate
kind_of Rtl = Rotate
kind_of Bsw = Rotate
kind_of Osr = Second
kind_of Hlt = Second
kind_of Sma = AnyTest
kind_of Sza = AnyTest
kind_of Snl = AnyTest
kind_of Spa = AllTest
kind_of Sna = AllTest
kind_of Szl = AllTest
kind_of Skp = AllTest
kind_of Mqa = Third
kind_of Mql = Third
kind_of Ion = Alone
kind_of Iof = Alone
kind_of Ksf = Alone
kind_of Kcc = Alone
kind_of Krs = Alone
kind_of Krb = Alone
kind_of Tsf = Alone
kind_of Tcf = Alone
kind_of Tpc = Alone
kind_of Tls = Alone

-- whether it is cla
abbrev pub is_clear : Operation → Bool
is_clear Cla = true
is_clear operation = false

-- what it adds to the code of a statement in which other words stand: cla its bit alone
abbrev pub added : Operation → ℕ
added Cla = 0o200
added operation = code_of operation

-- all of them
abbrev pub operations : List Operation
operations =
    Cla ∷ Nop ∷ Cll ∷ Cma ∷ Cml ∷ Iac ∷ Rar ∷ Ral ∷ Rtr ∷ Rtl ∷ Bsw ∷ Osr ∷ Hlt ∷ Sma ∷ Sza ∷ Snl ∷ Spa ∷ Sna ∷ Szl
    ∷ Skp ∷ Mqa ∷ Mql ∷ Ion ∷ Iof ∷ Ksf ∷ Kcc ∷ Krs ∷ Krb ∷ Tsf ∷ Tcf ∷ Tpc ∷ Tls ∷ []

-- the word that is spelled so
unfoldable pub operation_named : List ℕ → Option Operation
operation_named bytes = find (λ operation. bytes_eq (spelling operation) bytes) operations
