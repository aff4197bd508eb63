-- How much there is in a machine of what its limits count.
use Rattle.std.specs.Prelude.{ℕ, ◌+◌}
use Rattle.mw_expr.specs.Tree.{Tree, element, constant, complement, pair, choice, part, join, widened, memory, Trees}
use Rattle.mw_expr.specs.Tree.{none, more}
use Rattle.mw_macro.specs.declared.counts.Counted.{Counted}
use Rattle.mw_macro.specs.declared.counts.Counted.TheVariants.{Statements, Reads, Events}
use Rattle.mw_macro.specs.Machine.{Description}
use Rattle.mw_macro.specs.Statements.{Act, assign, write, put, take_in, choose, Acts, nothing, next}

-- how often a tree reads the memory
abbrev mutual
  pub reads : Tree → ℕ
  reads (element n) = 0
  reads (constant number w) = 0
  reads (complement e) = reads e
  reads (pair sign a b) = reads a + reads b
  reads (choice c a b) = reads c + (reads a + reads b)
  reads (part e high low) = reads e
  reads (join parts) = reads_in parts
  reads (widened e w) = reads e
  reads (memory address) = reads address + 1

  -- how often some trees read the memory
  pub reads_in : Trees → ℕ
  reads_in none = 0
  reads_in (more tree rest) = reads tree + reads_in rest

-- how often the expressions of an act itself read the memory; the `mem` of a write is no read
abbrev pub own_reads : Act → ℕ
own_reads (assign target e) = reads e
own_reads (write address e) = reads address + reads e
own_reads (put e) = reads e
own_reads (take_in target) = 0
own_reads (choose condition first second) = reads condition

-- a word put out or an input taken is an event
abbrev pub own_events : Act → ℕ
own_events (assign target e) = 0
own_events (write address e) = 0
own_events (put e) = 1
own_events (take_in target) = 1
own_events (choose condition first second) = 0

-- what an act counts for without those in its lists
abbrev pub own : Counted → Act → ℕ
own Statements act = 1
own Reads act = own_reads act
own Events act = own_events act

-- what an act counts for, with those in both its lists
abbrev mutual
  pub count : Counted → Act → ℕ
  count what (assign target e) = own what (assign target e)
  count what (write address e) = own what (write address e)
  count what (put e) = own what (put e)
  count what (take_in target) = own what (take_in target)
  count what (choose condition first second) =
      own what (choose condition first second) + (total what first + total what second)

  -- what some acts count for together
  pub total : Counted → Acts → ℕ
  total what nothing = 0
  total what (next act rest) = count what act + total what rest

-- how many `put` and `take` statements a machine has
abbrev pub most_events : Description → ℕ
most_events m = total Events m.acts
