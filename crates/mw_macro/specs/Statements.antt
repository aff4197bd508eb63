-- The statements of described machines as trees, without where they lie in memory.
use Rattle.std.specs.Prelude.{ℕ, List, [], ◌∷◌, map}
use Rattle.mw_expr.specs.Tree.{Tree, view}
use Rattle.mw_macro.specs.declared.statement.Statement.{Statement, fold-Statement}
use Rattle.mw_macro.specs.declared.statement.Statement.TheOpen.{Statement-F}

-- a statement
mutual
  pub data Act : Type 0 where
    -- a register or a temporary gets a value
    assign : (target : ℕ) (value : Tree) → Act
    -- the memory gets a word at an address
    write : (address value : Tree) → Act
    -- a word is put out
    put : (value : Tree) → Act
    -- a register or a temporary gets the next input
    take_in : (target : ℕ) → Act
    -- the first acts where the condition is 1, else the second
    choose : (condition : Tree) (first second : Acts) → Act

  -- statements, in their order
  pub data Acts : Type 0 where
    nothing : Acts
    next : Act → Acts → Acts

-- statements, from a list
abbrev pub acts_of : List Act → Acts
acts_of [] = nothing
acts_of (act ∷ rest) = next act (acts_of rest)

-- one level of a statement, the statements in its lists already seen as acts
abbrev pub act_level : Statement-F Act → Act
act_level (Statement-F.Assign target value) = assign target (view value)
act_level (Statement-F.Write address value) = write (view address) (view value)
act_level (Statement-F.Put value) = put (view value)
act_level (Statement-F.Take target) = take_in target
act_level (Statement-F.If condition first second) = choose (view condition) (acts_of first.items) (acts_of second.items)

-- the act that a statement is
abbrev pub act_of : Statement → Act
act_of = fold-Statement Act act_level

-- the acts that statements are
abbrev pub acts : List Statement → Acts
acts statements = acts_of (map act_of statements)
