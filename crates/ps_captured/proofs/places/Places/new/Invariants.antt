use Rattle.std.proofs.Common.{◌≡◌, drop}
use Rattle.std.specs.List.{fold}
use Rattle.ps_captured.specs.InsideReading.{sights}
use Rattle.ps_captured.specs.InsideKeeping.{no_place, placed, with_sight}
use Rattle.ps_captured.proofs.places.Places.new.Given as goal

-- what the rest adds ends as what all adds
abbrev pub invariant-loop-one : goal.invariant-loop-one
invariant-loop-one l = fold with_sight (placed l.places) (sights (drop l.one-index l.seen)) ≡ fold with_sight no_place (sights l.seen)
