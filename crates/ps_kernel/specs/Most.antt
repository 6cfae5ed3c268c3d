-- How deep and how large a kernel may be, by the names of the limits of a run (this project's own).
use Rattle.std.specs.Prelude.{ℕ}
use Rattle.ps_base.specs.Limits.{standard_limits}

-- the levels of expressions that stand in each other, and of a literal
abbrev pub most_depth : ℕ
most_depth = standard_limits.depth

-- the expressions of a kernel
abbrev pub most_nodes : ℕ
most_nodes = standard_limits.nodes

-- the labels of a case, over all its branches
abbrev pub most_labels : ℕ
most_labels = 1023
