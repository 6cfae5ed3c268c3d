-- Where nodes stand (this project's own): the expression of a top-level form stands at the first level, a part one below its node, and the
-- body of a lambda one below the node in which the lambda stands.
use Rattle.std.specs.Prelude.{ℕ, ◌-◌, true, false}
use Rattle.ps_expansion.specs.declared.level.Level.{Level}

-- a part of a node, which is not in tail position
abbrev pub down : Level → Level
down l = record { left = l.left - 1; tail = false }

-- a part of a node to which it passes tail position on
abbrev pub passed : Level → Level
passed l = record { left = l.left - 1; tail = l.tail }

-- the body of a lambda
abbrev pub inner : Level → Level
inner l = record { left = l.left - 1; tail = true }

-- what stands so many nodes lower, to each of which its node passes tail position on
abbrev pub lowered : Level → ℕ → Level
lowered l n = record { left = l.left - n; tail = l.tail }

-- the operand of a node so many levels lower
abbrev pub operand_at : Level → ℕ → Level
operand_at l n = record { left = l.left - n; tail = false }
