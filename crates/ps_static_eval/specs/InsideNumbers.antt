-- The numbers of fixed blocks that a primitive takes. No public clause cites this file.
use Rattle.std.specs.Prelude.{ℕ, zero, suc}

-- the blocks that so many cells are made in: one, or none where there are no cells
abbrev pub blocks_for : ℕ → ℕ
blocks_for zero = 0
blocks_for (suc n) = 1
