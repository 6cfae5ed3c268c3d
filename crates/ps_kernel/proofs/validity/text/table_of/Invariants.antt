use Rattle.std.proofs.Common.{◌≡◌, [], drop}
use Rattle.std.specs.List.{fold}
use Rattle.ps_kernel.specs.InsideWalks.{put}
use Rattle.ps_kernel.proofs.validity.text.table_of.Given as goal

-- the table with the rest put in is the table of all
abbrev pub invariant-loop-number : goal.invariant-loop-number
invariant-loop-number l = fold put l.table (drop l.number-index l.numbers) ≡ fold put [] l.numbers
